use Rattle.std.proofs.Common.{◌≡◌, false, take}
use Rattle.std.specs.List.{list_any}
use Rattle.tree_machine.specs.Outcomes.{is_damaged}
use Rattle.store_run.proofs.ending.any_damage.Given as goal

abbrev pub invariant-loop-place : goal.invariant-loop-place
invariant-loop-place l = list_any (λ e. is_damaged e.reply) (take l.place l.annals.entries) ≡ false
