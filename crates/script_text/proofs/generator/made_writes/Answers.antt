use Rattle.script_text.proofs.GeneratedLaws.{made_weights}
use Rattle.script_text.proofs.generator.made_writes.Goals as goal

pub returns : goal.returns
returns c = made_weights
