use Rattle.tree_reading.proofs.DamageLemmas.{no_damage}
use Rattle.tree_reading.proofs.laws.a_damage_is_no_tree.Goals as goal

pub returns : goal.returns
returns c = no_damage
