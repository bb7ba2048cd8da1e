use Rattle.std.proofs.Common.{false}
use Rattle.run_cursor.proofs.GivenLemmas.{given_start}
use Rattle.run_cursor.proofs.FullLemmas.{full_start}
use Rattle.run_cursor.proofs.CursorLemmas.{started_ahead}
use Rattle.run_cursor.proofs.cursor.Cursor.start.Goals as goal

pub returns-clause-list : goal.returns-clause-list
returns-clause-list c = rw c.begin.ensures (λ sizes entries file. started_ahead sizes c.args.run.now entries file)

pub returns-clause-given : goal.returns-clause-given
returns-clause-given c = rw c.begin.ensures (λ sizes file. given_start sizes c.args.run.now file c.requires)

pub returns-clause-full : goal.returns-clause-full
returns-clause-full c = rw c.begin.ensures (full_start false c.args.run.now)
