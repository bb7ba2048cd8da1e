-- What is known after a turn: what its seat noted, and what there is of its part.
use Rattle.std.proofs.Common.{◌≡◌, ◌∙◌, ⊎_elim, inl, inr, ◌+◌, ◌≤◌, Bool, true, ◌||◌, [], ◌∷◌, ◌++◌, length, refl, ap, sym, arith}
use Rattle.std.specs.Prelude.{is_some}
use Rattle.std.proofs.lemmas.List.{append-nil}
use Rattle.blsm_model.specs.Book.{rows_given}
use Rattle.blsm_model.specs.Facts.{Eases, Part}
use Rattle.blsm_model.specs.Scripts.{rows_of}
use Rattle.blsm_model.specs.declared.history.Reply.{Reply}
use Rattle.blsm_model.specs.declared.op.Op.{Op}
use Rattle.disk_trait.specs.Disk.{DiskState}
use Rattle.gear_sched.specs.Gears.{GearState, first_debt, second_debt}
use Rattle.turn_lock.specs.Callers.{Held as Caller, Lock}
use Rattle.turn_lock.specs.Turns.{TookTurn}
use Rattle.turn_lock.proofs.TurnLemmas.{did_turn, knows_after}
use Rattle.seat_book.specs.State.{BookState, noted_in}
use Rattle.tree_core.specs.Calls.{CameSince}
use Rattle.tree_core.specs.Core.{CoreState}
use Rattle.tree_shared.specs.Seats.{Answered, Comes, DidOn, KnowsOf, IsEven, IsFree, facts_of}
use Rattle.tree_shared.proofs.SeatLemmas.{idle_still, its_own, or_left, or_right, room_left}

module _ {D : Type 0} (c : Caller (CoreState D)) (b w : CoreState D) where
  -- of the seat's part, once it took the one value and gave the other back
  abbrev pub After : (Bool → Part → Type 0) → Type 0
  After P = P ((c.me.0.halted || (facts_of b).stopped) || (facts_of w).stopped) ((facts_of w).part c.number)

  -- debts that stand leave a seat even
  pub even_still : (p : Part) → IsEven c.me.0.halted p → Eases p ((facts_of b).part c.number) → w.held.gears ≡ b.held.gears → After IsEven
  even_still p even eases same = ⊎_elim
      (λ (was : c.me.0.halted ≡ true). inl (or_left (c.me.0.halted || (facts_of b).stopped) (facts_of w).stopped (or_left c.me.0.halted (facts_of b).stopped was)))
      (λ (none : p.debt1 + p.debt2 ≡ 0).
      let one = ap (λ (g : GearState). first_debt g c.number) same in
      let two = ap (λ (g : GearState). second_debt g c.number) same in
      inr (omega (arith, none, one, two, eases.debt1, eases.debt2)))
      even

  -- so does a stop
  pub even_halted : is_some w.held.book.stopped ≡ true → After IsEven
  even_halted is = inl (or_right (c.me.0.halted || (facts_of b).stopped) (facts_of w).stopped is)

module _ {D : Type 0} {state : D → DiskState} {c d : Caller (CoreState D)} {b w : CoreState D} (turn : TookTurn facts_of (CameSince state) c b w d) where
  pub did_none : {P : Bool → Part → Type 0} → KnowsOf P c → w.held.book.book.entries ≡ b.held.book.book.entries → DidOn state c [] d
  did_none {P} knows same = did_turn facts_of (CameSince state) P c d b w [] turn knows (same ∙ sym (append-nil b.held.book.book.entries)) refl

  pub did_one : {P : Bool → Part → Type 0} {op : Op} {reply : Reply} → KnowsOf P c → w.held.book.book.entries ≡ b.held.book.book.entries ++ record { seat = c.number; op = op; reply = reply } ∷ []
      → DidOn state c (record { seat = c.number; op = op; reply = reply } ∷ []) d
  did_one {P} {op} {reply} knows is = did_turn facts_of (CameSince state) P c d b w (record { seat = c.number; op = op; reply = reply } ∷ []) turn knows is
      (its_own (record { seat = c.number; op = op; reply = reply }) c.number refl)

  pub after : (P Q : Bool → Part → Type 0) → ((p : Part) → P c.me.0.halted p → Eases p ((facts_of b).part c.number) → After c b w Q) → KnowsOf P c → KnowsOf Q d
  after P Q by knows = knows_after facts_of (CameSince state) P Q c d b w turn knows by

  -- A call that only notes a command, and gives no more rows than it asked for, answers it.
  pub answers : {lock : Lock (CoreState D)} {P : Bool → Part → Type 0} {op : Op} {reply : Reply} → Comes lock P c → w.held.book ≡ noted_in c.number op reply b.held.book → w.held.gears ≡ b.held.gears
      → length (rows_given reply) ≤ rows_of op → Answered state op reply c d
  answers {lock} {P} {op} {reply} comes book gears few = record {
    did = did_one comes.knows (ap (λ (x : BookState). x.book.entries) book);
    free = λ entries rows. after (IsFree (entries + 1) (rows + rows_of op)) (IsFree entries rows) (λ p free eases. (
      room_left c.number entries rows (rows_of op) op reply b.held w.held p eases free.0 few (ap (λ (x : BookState). x.book.room) book),
      idle_still c.number b.held w.held p comes.number eases free.1 (ap (λ (x : BookState). x.seats.work) book),
      even_still c b w p free.2 eases gears,
    ));
  }
