use Rattle.std.proofs.Common.{◌+◌, ◌%◌, ◌∙◌, arith}
use Rattle.std.proofs.lemmas.List.{take-replicate}
use Rattle.script_text.specs.Generated.{text_at}
use Rattle.script_text.proofs.generator.fill_text.Goals as goal

pub returns : goal.returns
unfolding text_at
returns c = c.set.ensures ∙ take-replicate c.args.size 199 (97 + c.args.place % 26) (omega arith)
