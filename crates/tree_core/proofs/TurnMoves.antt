-- What a turn's move leaves, by the moves of the core.
use Rattle.std.proofs.Common.{◌≡◌, ◌≢◌, ◌∙◌, inl, ℕ, Bool, List, Ok, Err, refl, ap, sym, subst}
use Rattle.std.proofs.lemmas.Grind.{common_steps}
use Rattle.std.proofs.lemmas.Bool.Decides.{nat_tests}
use Rattle.std.proofs.Common.{arith}
use Rattle.std.specs.Prelude.{IfOk, OnOk, OnErr, IsErr, is_ok}
use Rattle.std.specs.declared.result.Result.{Result}
use Rattle.blsm_model.specs.Geometry.{file_length}
use Rattle.disk_trait.specs.Disk.{DiskState, TellsFaults, TellsFaultsBy}
use Rattle.disk_trait.specs.Moments.{IsTimed, LeavesOnly}
use Rattle.disk_trait.proofs.MomentLemmas.{leaves_only_start, leaves_only_weaken}
use Rattle.page_file.specs.declared.file.Broken.{Broken}
use Rattle.page_file.specs.declared.file.Broken.TheVariants.{Fault, Damaged}
use Rattle.pacing.specs.Steps.{Move}
use Rattle.tree_file.specs.Tree.{Tree, HoldsTree}
use Rattle.tree_file.specs.Places.{StandsOn, HoldsEither}
use Rattle.tree_runs.specs.Runs.{AreRunning}
use Rattle.tree_runs.specs.Holding.{AreOf, StandOver, LeavesSwapped}
use Rattle.core_moves.specs.declared.held.Held.{Held}
use Rattle.core_moves.specs.Needs.{IsOn}
use Rattle.core_moves.specs.Moves.{KeepsAllButMerges, with_pass_begun}
use Rattle.core_lists.specs.Steps.{TurnsTree}
use Rattle.tree_core.specs.Quanta.{MakesTree, LeavesMoved, as_moved}

-- ---- a swap or a rotation

pub on_both : {T E : Type 0} (r : Result T E) (P Q : Type 0) → P → (P → Q) → OnOk r Q
on_both r P Q h1 h2 = grind (arith, common_steps, nat_tests)

pub on_pair : {T E : Type 0} (r : Result T E) (P Q : Type 0) → P → OnOk r Q → OnOk r (P × Q)
on_pair r P Q h1 h2 = grind (arith, common_steps, nat_tests)

swap_leaves : {T E : Type 0} (r : Result T E) (mv : Move) (old new : Held) (tree next : Tree) (before after : DiskState) → MakesTree mv old tree next
    → LeavesSwapped old.runs new.runs tree next (is_ok r) before after → OnOk r (TurnsTree mv 0 old new tree next)
    → LeavesMoved mv (as_moved r) old new tree next before after
swap_leaves (Ok done) mv old new tree next before after makes leaves trees = record { makes = makes; each = leaves.each; either = leaves.either; moved = λ well. (0, refl, leaves.stands refl, trees) }
swap_leaves (Err failed) mv old new tree next before after makes leaves trees = record { makes = makes; each = leaves.each; either = leaves.either; moved = λ well. absurd (well refl) }

pub swap_left : {T E : Type 0} (r : Result T E) (made : Result ℕ Broken) (mv : Move) (old new : Held) (tree next : Tree) (before after : DiskState) → made ≡ as_moved r → MakesTree mv old tree next
    → LeavesSwapped old.runs new.runs tree next (is_ok r) before after → OnOk r (TurnsTree mv 0 old new tree next)
    → LeavesMoved mv made old new tree next before after
swap_left r made mv old new tree next before after is makes leaves trees =
    subst (λ (x : Result ℕ Broken). LeavesMoved mv x old new tree next before after) (sym is) (swap_leaves r mv old new tree next before after makes leaves trees)

moved_by : {T E : Type 0} (r : Result T E) (P : Type 0) (Q : ℕ → Type 0) → (P → Q 0) → OnOk r P → IfOk (as_moved r) Q
moved_by r P Q h1 h2 = grind (arith, common_steps, nat_tests)

pub swap_moved : {T E : Type 0} (r : Result T E) (made : Result ℕ Broken) (P : Type 0) (Q : ℕ → Type 0) → made ≡ as_moved r → (P → Q 0) → OnOk r P → IfOk made Q
swap_moved r made P Q is so p = subst (λ (x : Result ℕ Broken). IfOk x Q) (sym is) (moved_by r P Q so p)

-- it names no page
not_named : {T E : Type 0} (r : Result T E) (n : ℕ) → as_moved r ≡ Err (Damaged n) → ⊥
not_named r n h1 = grind (arith, common_steps, nat_tests)

pub swap_not_named : {T E : Type 0} (r : Result T E) (made : Result ℕ Broken) (n : ℕ) → made ≡ as_moved r → made ≡ Err (Damaged n) → ⊥
swap_not_named r made n is named = not_named r n (sym is ∙ named)

kept_by : {T E : Type 0} (r : Result T E) (old new : Held) → OnErr r (new ≡ old) → KeepsAllButMerges (IsErr (as_moved r)) old new
kept_by r old new h1 = grind (arith, common_steps, nat_tests)

pub swap_kept : {T E : Type 0} (r : Result T E) (made : Result ℕ Broken) (old new : Held) → made ≡ as_moved r → OnErr r (new ≡ old) → KeepsAllButMerges (IsErr made) old new
swap_kept r made old new is same = subst (λ (x : Result ℕ Broken). KeepsAllButMerges (IsErr x) old new) (sym is) (kept_by r old new same)

told_by : {T E : Type 0} (r : Result T E) (before after : DiskState) → TellsFaults r before after → TellsFaultsBy (Err Fault) (as_moved r) before after
told_by r before after h1 = grind (arith, common_steps, nat_tests)

pub swap_told : {T E : Type 0} (r : Result T E) (made : Result ℕ Broken) (before after : DiskState) → made ≡ as_moved r → TellsFaults r before after → TellsFaultsBy (Err Fault) made before after
swap_told r made before after is tells = subst (λ (x : Result ℕ Broken). TellsFaultsBy (Err Fault) x before after) (sym is) (told_by r before after tells)

-- ---- a quantum

-- the tree stands
pub quantum_left : (mv : Move) (result : Result ℕ Broken) (old new : Held) (tree : Tree) (before after : DiskState) → MakesTree mv old tree tree → StandsOn old.runs.sizes tree after × LeavesOnly before after (HoldsTree old.runs.sizes tree)
    → (result ≢ Err Fault → (n : ℕ) × (result ≡ Ok n) × StandOver new.runs tree after × TurnsTree mv n old new tree tree)
    → LeavesMoved mv result old new tree tree before after
quantum_left mv result old new tree before after makes stands moved = record {
  makes = makes;
  each = leaves_only_weaken (λ c here. inl here) stands.1;
  either = record { reads = inl stands.0.reads; each = λ c here. inl (stands.0.each c here) };
  moved = moved;
}

-- ---- a begin, and a rest

-- no call of the disk
pub rest_left : (mv : Move) (result : Result ℕ Broken) (old new : Held) (tree : Tree) (d : DiskState) → IsTimed d → MakesTree mv old tree tree
    → StandsOn old.runs.sizes tree d → result ≡ Ok 0 → StandOver new.runs tree d
    → TurnsTree mv 0 old new tree tree → LeavesMoved mv result old new tree tree d d
rest_left mv result old new tree d timed makes stands is over trees = record {
  makes = makes;
  each = leaves_only_start d (HoldsEither old.runs.sizes tree tree) timed (λ c here. inl (stands.each c here));
  either = record { reads = inl stands.reads; each = λ c here. inl (stands.each c here) };
  moved = λ well. (0, is, over, trees);
}

pub begun_over : (old new : Held) (tree : Tree) (d : DiskState) → new ≡ with_pass_begun old
    → ((t : Tree) (file : List ℕ) → AreOf old.runs t file → AreOf new.runs t file)
    → StandOver old.runs tree d → StandOver new.runs tree d
begun_over old new tree d is lists over = record {
  stands = subst (λ (h : Held). StandsOn h.runs.sizes tree d) (sym is) over.stands;
  are_of = lists tree d.bytes over.are_of;
}

pub begun_on : (old new : Held) (d : DiskState) → new ≡ with_pass_begun old → ((honest : Bool) (file : List ℕ) → AreRunning honest file old.runs → AreRunning honest file new.runs) → IsOn old d → IsOn new d
begun_on old new d is running on = record { running = running d.is_honest d.bytes on.running; long = λ tells. on.long tells ∙ sym (ap (λ (h : Held). file_length h.runs.sizes) is) }
