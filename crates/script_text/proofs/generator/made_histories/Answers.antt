use Rattle.script_text.proofs.GeneratedLaws.{history_keys}
use Rattle.script_text.proofs.generator.made_histories.Goals as goal

pub returns : goal.returns
returns c = history_keys
