-- One hold of the lock: what may be called by what the caller knows, and that it is a turn whose value came from the start.
use Rattle.std.proofs.Common.{◌≡◌, ◌∙◌, ℕ, ◌+◌, ◌<◌, Bool, true, None, Some, ap, sym, subst}
use Rattle.blsm_model.specs.Facts.{Follows, Part}
use Rattle.blsm_model.specs.Format.{most_turns}
use Rattle.disk_trait.specs.Disk.{DiskState}
use Rattle.gear_sched.specs.Gears.{first_debt, second_debt}
use Rattle.turn_lock.specs.Callers.{Held as Caller, Lock, HasTaken, GaveBack, MayGive}
use Rattle.turn_lock.specs.Plays.{Finds}
use Rattle.turn_lock.specs.Turns.{TookTurn}
use Rattle.turn_lock.proofs.TurnLemmas.{part_found, took_turn}
use Rattle.seat_book.specs.State.{may_end_in, may_note_in, may_turn_in}
use Rattle.tree_machine.specs.declared.step.Kind.{Kind}
use Rattle.tree_core.specs.Calls.{CameSince, IsCall, MadeBy}
use Rattle.tree_core.specs.Core.{CoreState}
use Rattle.tree_core.proofs.CallLemmas.{came_more}
use Rattle.tree_shared.specs.Seats.{Comes, IsEven, IsFinished, IsFree, IsWorking, facts_of}
use Rattle.tree_shared.proofs.SeatLemmas.{even_by, may_note_by}
use Rattle.tree_shared.proofs.WorkLemmas.{may_end_by, may_turn_by}
use Rattle.core_chain.proofs.LinkLemmas.{goes_of}

module _ {D : Type 0} (state : D → DiskState) (c : Caller (CoreState D)) (b : CoreState D) (finds : Finds facts_of (CameSince state) c.me.0 b) {seat : ℕ} (same : seat ≡ c.number) {lock : Lock (CoreState D)} where
  pub note_ok : (rows : ℕ) → Comes lock (IsFree 1 rows) c → may_note_in seat rows b.held.book ≡ true
  note_ok rows comes = subst (λ (n : ℕ). may_note_in n rows b.held.book ≡ true) (sym same)
      (may_note_by c.number rows b.held _ comes.number (part_found facts_of (CameSince state) (IsFree 1 rows) c b comes.knows finds) comes.knows.part.0 comes.knows.part.1)

  pub even_ok : {P : Bool → Part → Type 0} (comes : Comes lock P c) → IsEven c.me.0.halted ((facts_of comes.knows.value).part c.number) → b.held.book.stopped ≡ None → first_debt b.held.gears seat + second_debt b.held.gears seat ≡ 0
  even_ok {P} comes even = subst (λ (n : ℕ). b.held.book.stopped ≡ None → first_debt b.held.gears n + second_debt b.held.gears n ≡ 0) (sym same)
      (even_by c.number b.held c.me.0.halted _ (part_found facts_of (CameSince state) P c b comes.knows finds) finds.halted even)

  pub turn_ok : (done : ℕ) → done < most_turns → Comes lock (IsWorking done 0 0) c → may_turn_in seat b.held.book ≡ true
  turn_ok done few comes = subst (λ (n : ℕ). may_turn_in n b.held.book ≡ true) (sym same)
      (may_turn_by c.number done b.held _ comes.number (part_found facts_of (CameSince state) (IsWorking done 0 0) c b comes.knows finds) comes.knows.part.1 few)

  pub end_ok : (n : ℕ) → Comes lock (IsFinished n 1 0) c → may_end_in seat n b.held.book ≡ true
  end_ok n comes = subst (λ (i : ℕ). may_end_in i n b.held.book ≡ true) (sym same)
      (may_end_by c.number n 0 c.me.0.halted b.held _ comes.number (part_found facts_of (CameSince state) (IsFinished n 1 0) c b comes.knows finds) comes.knows.part)

-- A caller took the one value in its turn, and a call for its seat led to the other.
pub record Calls {D : Type 0} (state : D → DiskState) (c t : Caller (CoreState D)) (b w : CoreState D) : Type 0 where
  pub taken : HasTaken facts_of (CameSince state) c b t
  pub kind : Kind
  pub call : IsCall state c.number kind b w

pub calls : {D : Type 0} (state : D → DiskState) (k : Kind) (c t : Caller (CoreState D)) (b w : CoreState D) {seat : ℕ} → HasTaken facts_of (CameSince state) c b t → seat ≡ c.number → IsCall state seat k b w → Calls state c t b w
calls state k c t b w taken same call = record { taken = taken; kind = k; call = subst (λ (n : ℕ). IsCall state n k b w) same call }

module _ {D : Type 0} {state : D → DiskState} {c t : Caller (CoreState D)} {b w : CoreState D} (its : Calls state c t b w) where
  follows : Follows c.number (facts_of b) (facts_of w)
  follows = (goes_of state c.number its.kind b w its.call).1.follows

  pub table_given : t.table ≡ c.table
  table_given = ap (λ (h : Caller (CoreState D)). h.table) its.taken.1

  -- it has its turn still, and gives back what follows
  pub turn_given : MayGive facts_of (MadeBy state) t w
  turn_given =
      let is = its.taken.1 in
      let number : c.number ≡ t.number = sym (ap (λ (h : Caller (CoreState D)). h.number) is) in (
        b,
        (its.taken.0, ap (λ (h : Caller (CoreState D)). h.me.0.stage) is, ap (λ (h : Caller (CoreState D)). h.me.1) is, ap (λ (h : Caller (CoreState D)). h.ticket) is),
        subst (λ (n : ℕ). Follows n (facts_of b) (facts_of w)) number follows,
        (its.kind, subst (λ (n : ℕ). IsCall state n its.kind b w) number its.call),
      )

  -- the value that is given back came from the start
  came_on : (a : CoreState D) → c.me.0.start ≡ Some a → CameSince state a w
  came_on a begun = came_more state c.number its.kind a b w (its.taken.2.lasts a begun) its.call ((goes_of state c.number its.kind b w its.call).1.lasts a)

  pub came_given : (a : CoreState D) → t.me.0.start ≡ Some a → CameSince state a w
  came_given a begun = came_on a (sym (ap (λ (h : Caller (CoreState D)). h.me.0.start) its.taken.1) ∙ begun)

  pub took : {d : Caller (CoreState D)} → GaveBack facts_of (CameSince state) t w d → TookTurn facts_of (CameSince state) c b w d
  took {d} gave = took_turn facts_of (CameSince state) c t d b w its.taken gave follows came_on
