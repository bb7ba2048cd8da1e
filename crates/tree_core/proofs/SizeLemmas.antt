-- No step of the pacing changes the geometry.
use Rattle.std.specs.Prelude.{◌≡◌, ℕ, ◌+◌, Bool, nat_le, nat_lt, not, ◌&&◌}
use Rattle.std.proofs.lemmas.Grind.{common_steps}
use Rattle.std.proofs.lemmas.Bool.Decides.{nat_tests}
use Rattle.std.proofs.Common.{arith}
use Rattle.std.proofs.Common.{◌∙◌, ⊎_elim, cond, refl, ap}
use Rattle.blsm_model.specs.Geometry.{c1_mark}
use Rattle.blsm_model.specs.Histories.{writes_of}
use Rattle.blsm_model.specs.Legal.{total_weight, is_del}
use Rattle.blsm_model.specs.declared.history.Reply.{Reply}
use Rattle.blsm_model.specs.declared.history.Reply.TheVariants as reply
use Rattle.blsm_model.specs.declared.op.Op.{Op}
use Rattle.pacing.specs.Pace.{Pace, Quantum, with_rotation, with_pass, with_pass_swapped, with_deep_swapped, deep_done, pass_done}
use Rattle.pacing.specs.Steps.{Admit, Turn, Move, deep_settled, pass_settled, begun_for, ready_for, after, turned_by, turn_of, is_worker_seat}
use Rattle.paced_tree.specs.Made.{IsMadeBy, IsReplied, IsPaidBy, IsTurnedBy}
use Rattle.tree_machine.specs.declared.step.Kind.{Kind}
use Rattle.tree_machine.specs.Machine as machine
use Rattle.tree_machine.specs.Steps as steps
use Rattle.tree_machine.specs.Steps.{Answer, Replied}

by_test : (b : Bool) (then otherwise old : Pace) → then.gears.sizes ≡ old.gears.sizes → otherwise.gears.sizes ≡ old.gears.sizes → (cond b then otherwise).gears.sizes ≡ old.gears.sizes
by_test b then otherwise old h1 h2 = grind (arith, common_steps, nat_tests)

deep_sizes : (p : Pace) → (deep_settled p).gears.sizes ≡ p.gears.sizes
deep_sizes p = by_test (p.gears.deep && deep_done p) (with_deep_swapped p) p p refl refl

pass_sizes : (p : Pace) → (pass_settled p).gears.sizes ≡ p.gears.sizes
pass_sizes p = by_test (p.gears.pass && pass_done p) (Rattle.pacing.specs.Pace.with_swap_and_rotation p) p p (by_test (nat_le (c1_mark p.gears.sizes) p.made1) (with_rotation (with_pass_swapped p)) (with_pass_swapped p) p refl refl) refl

begun_sizes : (p : Pace) (w : ℕ) → (begun_for p w).gears.sizes ≡ p.gears.sizes
begun_sizes p w = by_test (not p.gears.pass && nat_lt p.gears.sizes.low (p.spring + w)) (with_pass p) p p refl refl

ready_sizes : (p : Pace) (w : ℕ) → (ready_for p w).gears.sizes ≡ p.gears.sizes
ready_sizes p w = begun_sizes (pass_settled (deep_settled p)) w ∙ pass_sizes (deep_settled p) ∙ deep_sizes p

turned_sizes : (move : Move) (p : Pace) (seat : ℕ) (quantum : Quantum) → (turned_by move p seat quantum).gears.sizes ≡ p.gears.sizes
turned_sizes move p seat quantum = grind (arith, common_steps, nat_tests)

same : (old new : Pace) → new ≡ old → new.gears.sizes ≡ old.gears.sizes
same old new is = ap (λ (p : Pace). p.gears.sizes) is

replied_sizes : (r : Reply) (seat : ℕ) (op : Op) (old new : Pace) → IsReplied r seat op old new → new.gears.sizes ≡ old.gears.sizes
replied_sizes reply.Done seat op old new is = same (after old (Admit seat is.written)) new is.led ∙ ready_sizes old is.written.weight
replied_sizes reply.FaultLost seat op old new is = ⊎_elim (λ (is : new ≡ old). same old new is) (λ (is : new ≡ deep_settled old). same (deep_settled old) new is ∙ deep_sizes old) is
replied_sizes reply.FaultUnsure seat op old new is = same (ready_for old (total_weight (writes_of op))) new is ∙ ready_sizes old (total_weight (writes_of op))
replied_sizes _ seat op old new is = same old new is

payment_sizes : (answer : Answer) (seat : ℕ) (old new : Pace) → IsPaidBy answer seat old new → new.gears.sizes ≡ old.gears.sizes
payment_sizes answer seat old new h1 = grind (arith, common_steps, nat_tests)

turn_sizes : (answer : Answer) (seat : ℕ) (old new : Pace) → IsTurnedBy answer seat old new → new.gears.sizes ≡ old.gears.sizes
turn_sizes (steps.Turn machine.Worked) seat old new is = same (after old (Turn seat is.0)) new is.2 ∙ turned_sizes (turn_of (is_worker_seat seat) old) old seat is.0
turn_sizes _ seat old new is = same old new is

admitted_sizes : (answer : Answer) (seat : ℕ) (op : Op) (old new : Pace) → Rattle.paced_tree.specs.Made.IsAdmittedBy answer seat op old new → new.gears.sizes ≡ old.gears.sizes
admitted_sizes (Replied r) seat op old new is = replied_sizes r seat op old new is
admitted_sizes _ seat op old new is = same old new is

pub made_sizes : (seat : ℕ) (k : Kind) (answer : Answer) (old new : Pace) → IsMadeBy seat k answer old new → new.gears.sizes ≡ old.gears.sizes
made_sizes seat k answer old new h1 = grind (arith, common_steps, nat_tests, admitted_sizes, payment_sizes, turn_sizes, same)
