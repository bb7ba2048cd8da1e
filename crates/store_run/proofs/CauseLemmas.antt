-- The calls of the core that led to what is printed, and what they say on every disk.
use Rattle.std.specs.Prelude.{◌≡◌, ℕ, ◌+◌, ◌<◌, List, ◌∷◌, ◌++◌, Some}
use Rattle.std.proofs.Common.{refl, subst, sym, arith}
use Rattle.refusal.specs.Count.{HasRisenBy}
use Rattle.blsm_model.specs.Format.{callers}
use Rattle.blsm_model.specs.declared.history.Entry.{Entry}
use Rattle.blsm_model.specs.declared.history.Why.TheVariants.{BadPage}
use Rattle.blsm_model.specs.declared.room.Room.{Room}
use Rattle.disk_trait.specs.Disk.{DiskState}
use Rattle.core_moves.specs.Held.{charge_in}
use Rattle.tree_machine.specs.Steps.{one_if}
use Rattle.tree_machine.specs.declared.step.Step.{Step}
use Rattle.tree_core.specs.Calls.{AreCalls}
use Rattle.tree_core.specs.Core.{CoreState}
use Rattle.tree_session.specs.Faults.{is_by_fault}
use Rattle.core_chain.specs.Damage.{StopsAtPage}
use Rattle.core_chain.specs.Holds.{TellHolds}
use Rattle.core_chain.specs.Replies.{IsNoted}
use Rattle.core_chain.specs.Tells.{ChainTells, lookups_failed}
use Rattle.core_chain.proofs.ScanLemmas.{part_read_once}
use Rattle.tree_shared.specs.Runs.{SawFront}
use Rattle.store_run.specs.Run.{HasCauses, Run, WasOpened, run_at}

-- what the laws of chains say of them
pub record AreCaused {D : Type 0} (state : D → DiskState) (calls : List (Step × CoreState D)) (old new : CoreState D) : Type 0 where
  pub are : AreCalls state calls old new
  pub tells : ChainTells state calls old new
  pub replies : (front behind : List Entry) (e : Entry) → new.held.book.book.entries ≡ front ++ e ∷ behind → IsNoted state calls old new front e
  pub holds : TellHolds new.held.book.book.entries
  pub saw : (seat : ℕ) → seat < callers → SawFront state seat old new
  pub stops : (page : ℕ) → new.held.book.stopped ≡ Some (BadPage page) → StopsAtPage state calls old new page

unfoldable pub causes_of : {D : Type 0} (state : D → DiskState) (room : Room) (first : D) (calls : List (Step × CoreState D)) (old new : CoreState D) → WasOpened state room first old → AreCaused state calls old new
    → HasCauses state room (run_at (charge_in old.held) new.held) first new.disk
causes_of state room first calls old new began caused = record {
  calls = calls;
  opened = old;
  end = new;
  are = caused.are;
  last_is = refl;
  began = began;
  printed = refl;
  summed = omega (arith, began.takes.few, caused.tells.effect.calls);
  called = caused.tells.called;
  once = λ seat front part behind is well. part_read_once state seat calls front part behind old new caused.are is well;
  counted = subst (λ (n : ℕ). HasRisenBy (lookups_failed new.held.book.book.entries + one_if (is_by_fault new.held.book.stopped)) n (state new.disk).faults) began.calm caused.tells.counted;
  no_others = caused.tells.no_others;
  replies = caused.replies;
  holds = caused.holds;
  saw = caused.saw;
  stops = caused.stops;
}

-- so of what is printed, and of the disk that came back
pub causes_at : {D : Type 0} (state : D → DiskState) (room : Room) (first : D) (calls : List (Step × CoreState D)) (old new : CoreState D) → WasOpened state room first old → AreCaused state calls old new
    → (disk : D) → disk ≡ new.disk → (run : Run) → run ≡ run_at (charge_in old.held) new.held → HasCauses state room run first disk
causes_at {D} state room first calls old new began caused disk same run is =
    subst (λ (r : Run). HasCauses state room r first disk) (sym is)
    (subst (λ (d : D). HasCauses state room (run_at (charge_in old.held) new.held) first d) (sym same) (causes_of state room first calls old new began caused))
