use Rattle.std.proofs.Common.{true}
use Rattle.run_cursor.proofs.GivenLemmas.{given_front}
use Rattle.run_cursor.proofs.FullLemmas.{full_start}
use Rattle.run_cursor.proofs.CursorLemmas.{front_ahead}
use Rattle.run_cursor.proofs.cursor.Cursor.start_front.Goals as goal

pub returns-clause-list : goal.returns-clause-list
returns-clause-list c = rw c.begin.ensures (λ sizes end entries file. front_ahead sizes c.args.front.now end entries file)

pub returns-clause-given : goal.returns-clause-given
returns-clause-given c = rw c.begin.ensures (λ sizes file. given_front sizes c.args.front.now file)

pub returns-clause-full : goal.returns-clause-full
returns-clause-full c = rw c.begin.ensures (full_start true c.args.front.now)
