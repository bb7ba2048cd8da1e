-- Calls of the core, one after another.
use Rattle.std.proofs.Common.{◌≡◌, false, List, [], ◌∷◌, ◌++◌, ℕ, ◌<◌, refl, arith}
use Rattle.std.proofs.lemmas.Bool.{leb-true}
use Rattle.std.specs.List.{AllByRecursion}
use Rattle.std.specs.Prelude.{nat_le, nat_lt}
use Rattle.blsm_model.specs.Format.{callers}
use Rattle.disk_trait.specs.Disk.{DiskState}
use Rattle.tree_machine.specs.Machine.{seats}
use Rattle.tree_machine.specs.Plays.{is_help}
use Rattle.tree_machine.specs.declared.step.Kind.{Kind}
use Rattle.tree_machine.specs.declared.step.Kind.TheVariants as kind
use Rattle.tree_machine.specs.declared.step.Step.{Step}
use Rattle.tree_machine.proofs.FoldLemmas.{both_hold}
use Rattle.tree_core.specs.Calls.{IsCall}
use Rattle.tree_core.specs.Core.{CoreState}
use Rattle.tree_core.proofs.CallLemmas.{calls_then}
use Rattle.tree_session.specs.Session.{IsMade}

-- a caller's call is no worker's turn
pub caller_is_no_help : {D : Type 0} (state : D → DiskState) (seat : ℕ) (k : Kind) (old new : CoreState D) → IsCall state seat k old new → seat < callers → is_help k ≡ false
caller_is_no_help state seat (kind.Admit op) old new call below = refl
caller_is_no_help state seat kind.Pay old new call below = refl
caller_is_no_help state seat (kind.Look op) old new call below = refl
caller_is_no_help state seat (kind.Hold low high) old new call below = refl
caller_is_no_help state seat (kind.Next n) old new call below = refl
caller_is_no_help state seat kind.Release old new call below = refl
caller_is_no_help state seat kind.WorkTurn old new call below = refl
caller_is_no_help state seat (kind.WorkEnd n) old new call below = refl
caller_is_no_help state seat kind.WorkerTurn old new call below =
    let above = leb-true callers seat (both_hold (nat_le callers seat) (nat_lt seat seats) call.1.goes.may).0 in
    absurd (omega (arith, above, below))
caller_is_no_help state seat kind.Leave old new call below = refl

-- none of these, and none of those
abbrev NoneHelp : {D : Type 0} → List (Step × CoreState D) → Type 0
NoneHelp calls = AllByRecursion (λ one. is_help one.0.kind ≡ false) calls

none_of_both : {D : Type 0} (calls more : List (Step × CoreState D)) → NoneHelp calls → NoneHelp more → NoneHelp (calls ++ more)
none_of_both [] more none others = others
none_of_both (one ∷ calls) more none others = (none.0, none_of_both calls more none.1 others)

pub made_none : {D : Type 0} (state : D → DiskState) (old : CoreState D) → IsMade state old old
made_none state old = ([], refl, tt)

pub made_by : {D : Type 0} (state : D → DiskState) (seat : ℕ) (k : Kind) (old new : CoreState D) → IsCall state seat k old new → is_help k ≡ false → IsMade state old new
made_by state seat k old new call caller = ((record { seat = seat; kind = k }, new) ∷ [], (call, refl), (caller, tt))

pub made_then : {D : Type 0} (state : D → DiskState) (old mid new : CoreState D) → IsMade state old mid → IsMade state mid new → IsMade state old new
made_then state old mid new one two = (one.0 ++ two.0, calls_then state one.0 two.0 old mid new one.1 two.1, none_of_both one.0 two.0 one.2 two.2)
