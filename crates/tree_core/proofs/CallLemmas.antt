-- Calls since a start, one after another.
use Rattle.std.proofs.Common.{List, [], ◌∷◌, ◌++◌, refl, subst}
use Rattle.std.specs.Prelude.{ℕ}
use Rattle.disk_trait.specs.Disk.{DiskState}
use Rattle.tree_machine.specs.declared.step.Kind.{Kind}
use Rattle.tree_machine.specs.declared.step.Step.{Step}
use Rattle.tree_core.specs.Calls.{AreCalls, CameSince, IsCall}
use Rattle.tree_core.specs.Core.{CoreState}
use Rattle.tree_core.specs.Steps.{StandsSince}

one_more : {D : Type 0} (state : D → DiskState) (calls : List (Step × CoreState D)) (seat : ℕ) (k : Kind) (start old new : CoreState D) → AreCalls state calls start old → IsCall state seat k old new
    → AreCalls state (calls ++ (record { seat = seat; kind = k }, new) ∷ []) start new
one_more state [] seat k start old new are call = (subst (λ (core : CoreState _). IsCall state seat k core new) are call, refl)
one_more state (one ∷ calls) seat k start old new are call = (are.0, one_more state calls seat k one.1 old new are.1 call)

-- calls behind calls
pub calls_then : {D : Type 0} (state : D → DiskState) (calls more : List (Step × CoreState D)) (start mid end : CoreState D) → AreCalls state calls start mid → AreCalls state more mid end → AreCalls state (calls ++ more) start end
calls_then state [] more start mid end are rest = subst (λ (core : CoreState _). AreCalls state more core end) are rest
calls_then state (one ∷ calls) more start mid end are rest = (are.0, calls_then state calls more one.1 mid end are.1 rest)

-- with one call more
pub came_more : {D : Type 0} (state : D → DiskState) (seat : ℕ) (k : Kind) (start old new : CoreState D) → CameSince state start old → IsCall state seat k old new
    → (StandsSince state start old → StandsSince state start new) → CameSince state start new
came_more state seat k start old new came call lasts = record {
  calls = came.calls ++ (record { seat = seat; kind = k }, new) ∷ [];
  are = one_more state came.calls seat k start old new came.are call;
  since = lasts came.since;
}
