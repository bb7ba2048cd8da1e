use Rattle.std.proofs.Common.{◌*◌, refl}
use Rattle.std.proofs.Math.Nat.{mod-add-mod}
use Rattle.script_text.specs.Generated.{next_state, drawn}
use Rattle.script_text.proofs.generator.Generator.draw.Goals as goal

pub returns-clause-state : goal.returns-clause-state
unfolding next_state
returns-clause-state c = mod-add-mod (c.args.self.now.state * 6364136223846793005) 18446744073709551616 1442695040888963407

pub returns-clause-number : goal.returns-clause-number
unfolding drawn
returns-clause-number c = refl
