use Rattle.std.proofs.Common.{refl, arith}
use Rattle.text_io.proofs.LinesLemmas.{none_waits, waiting_taken}
use Rattle.text_io.proofs.lines.Lines.take_waiting.Goals as goal

pub returns-in-Some : goal.returns-in-Some
returns-in-Some c =
    let i = c.self.inside in
    waiting_taken i.piece i.start i.stop i.from i.end c.min-most.result i.longest c.in-Some.at c.self.view_is c.in-Some.ensures c.min-most.ensures (omega arith) (omega arith) c.self.told

pub returns-in-None : goal.returns-in-None
returns-in-None c =
    let i = c.self.inside in
    (none_waits i.piece i.start i.stop i.from i.end c.min-most.result i.longest c.self.view_is c.in-None.ensures c.min-most.ensures (omega arith), refl)
