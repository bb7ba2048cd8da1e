use Rattle.std.proofs.Common.{ap, refl}
use Rattle.run_cursor.specs.Cursor.{CursorState}
use Rattle.output_reading.proofs.MetLemmas.{met_start}
use Rattle.output_reading.proofs.output.Output.start.Goals as goal

pub returns-clause-met : goal.returns-clause-met
returns-clause-met c = λ sizes earlier role space file takes.
    met_start sizes c.args.run.now earlier role space (record { cursor = c.start.result; page = c.args.run.now.first }) file
    (c.start.ensures.given sizes file)
    (ap (λ (s : CursorState). s.pages) c.start.ensures.start) refl takes
