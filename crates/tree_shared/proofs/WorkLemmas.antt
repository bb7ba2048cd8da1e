-- The turns of a caller's work, and of a worker.
use Rattle.std.proofs.Common.{◌≡◌, ◌∙◌, ⊎_elim, inl, inr, ℕ, ◌+◌, ◌<◌, ◌≤◌, Bool, true, false, [], ◌∷◌, ◌++◌, None, Some, length, refl, ap, sym, subst, arith}
use Rattle.std.proofs.lemmas.Grind.{common_steps}
use Rattle.std.proofs.lemmas.Bool.Decides.{nat_tests}
use Rattle.std.specs.Prelude.{Option, is_some}
use Rattle.std.proofs.lemmas.Bool.{cases_eq}
use Rattle.blsm_model.specs.Book.{Book, rows_given, noted}
use Rattle.blsm_model.specs.Facts.{Eases, Part}
use Rattle.blsm_model.specs.Format.{callers, most_turns}
use Rattle.blsm_model.specs.declared.history.Reply.{Reply}
use Rattle.blsm_model.specs.declared.history.Why.{Why}
use Rattle.blsm_model.specs.declared.op.Op.TheVariants.{Work}
use Rattle.disk_trait.specs.Disk.{DiskState}
use Rattle.turn_lock.specs.Callers.{Held as Caller}
use Rattle.turn_lock.specs.Turns.{TookTurn}
use Rattle.seat_book.specs.State.{BookState, ended_in, may_end_in, may_turn_in, work_in}
use Rattle.tree_machine.specs.Machine.{Turned, WorkSoFar, is_worked, no_work}
use Rattle.core_moves.specs.declared.held.Held.{Held}
use Rattle.tree_core.specs.Calls.{CameSince, EndsWork, TurnsOnce}
use Rattle.tree_core.specs.Core.{CoreState, facts_of_held}
use Rattle.tree_session.proofs.BookLemmas.{ended_empty, work_says}
use Rattle.tree_shared.specs.Seats.{KnowsOf, IsEven, IsFinished, IsFree, IsWorking, facts_of}
use Rattle.tree_shared.proofs.SeatLemmas.{caller_turns, is_a_caller, room_left, room_same}
use Rattle.tree_shared.proofs.NoteLemmas.{After, after, even_halted, even_still}

-- ---- what may be done

pub may_turn_by : (seat done : ℕ) (held : Held) (p : Part) → seat < callers → Eases p ((facts_of_held held).part seat) → p.turns ≡ done → done < most_turns → may_turn_in seat held.book ≡ true
may_turn_by seat done held p below eases turns few = grind (arith, common_steps, nat_tests)

pub may_end_by : (seat n rows : ℕ) (halted : Bool) (held : Held) (p : Part) → seat < callers → Eases p ((facts_of_held held).part seat) → IsFinished n 1 rows halted p → may_end_in seat n held.book ≡ true
may_end_by seat n rows halted held p below eases finished = grind (arith, common_steps, nat_tests)

-- ---- turns

module _ {D : Type 0} {state : D → DiskState} {c d : Caller (CoreState D)} {answer : Turned} {b w : CoreState D} (below : c.number < callers) (turn : TookTurn facts_of (CameSince state) c b w d)
    (turns : TurnsOnce state c.number answer b w) where
  -- it owes nothing, or stopped the store
  even_now : (stopped : Option Why) → w.held.book.stopped ≡ stopped → After c b w IsEven
  even_now None is = inr (turns.even is)
  even_now (Some why) is = even_halted c b w (ap is_some is)

  more_turns : (done : ℕ) (p : Part) → p.turns ≡ done → Eases p ((facts_of b).part c.number) → ((facts_of w).part c.number).turns ≡ done + 1
  more_turns done p had eases = grind (arith, common_steps, nat_tests, is_a_caller, caller_turns)

  pub turn_works : (done entries rows : ℕ) → KnowsOf (IsWorking done entries rows) c → KnowsOf (IsWorking (done + 1) entries rows) d
  turn_works done entries rows = after turn (IsWorking done entries rows) (IsWorking (done + 1) entries rows)
      (λ p working eases. (room_same c.number entries rows b.held w.held p eases working.0 (ap (λ (x : Book). x.room) turns.counts.annals), more_turns done p working.1 eases, even_now w.held.book.stopped refl))

  -- one that didn't work is the last
  pub turn_ends : is_worked answer ≡ false → (done n entries rows : ℕ) → done < n → KnowsOf (IsWorking done entries rows) c → KnowsOf (IsFinished n entries rows) d
  turn_ends idle done n entries rows few = after turn (IsWorking done entries rows) (IsFinished n entries rows)
      (λ p working eases.
      let more = more_turns done p working.1 eases in
      let last : ((facts_of w).part c.number).worked ≡ false = ap (λ (x : WorkSoFar). is_worked x.last) turns.counts.work ∙ idle in (
        room_same c.number entries rows b.held w.held p eases working.0 (ap (λ (x : Book). x.room) turns.counts.annals),
        ⊎_elim (λ (all : done + 1 ≡ n). inl (more ∙ all)) (λ (short : done + 1 ≡ n → ⊥). inr (omega (arith, more), omega (arith, more, few, short), last)) (cases_eq (done + 1) n),
        even_now w.held.book.stopped refl,
      ))

-- ---- the end of a work

module _ {D : Type 0} {state : D → DiskState} {c d : Caller (CoreState D)} {n : ℕ} {reply : Reply} {b w : CoreState D} (below : c.number < callers) (turn : TookTurn facts_of (CameSince state) c b w d)
    (ends : EndsWork state c.number n reply b w) where
  its_book : w.held.book ≡ ended_in c.number n b.held.book
  its_book = ap (λ (h : Held). h.book) ends.held

  pub end_notes : w.held.book.book.entries ≡ b.held.book.book.entries ++ record { seat = c.number; op = Work n; reply = reply } ∷ []
  end_notes = ap (λ (x : BookState). x.book.entries) its_book ∙ ap (λ (r : Reply). b.held.book.book.entries ++ record { seat = c.number; op = Work n; reply = r } ∷ []) (sym ends.reply_is)

  pub end_frees : (entries rows : ℕ) → KnowsOf (IsFinished n (entries + 1) (rows + 0)) c → KnowsOf (IsFree entries rows) d
  end_frees entries rows = after turn (IsFinished n (entries + 1) (rows + 0)) (IsFree entries rows)
      (λ p finished eases.
      let no_rows = subst (λ (r : Reply). length (rows_given r) ≤ 0) (sym ends.reply_is) (work_says (work_in c.number b.held.book) b.held.book.stopped).2 in
      let room = ap (λ (x : BookState). x.book.room) its_book ∙ ap (λ (r : Reply). (noted b.held.book.book (record { seat = c.number; op = Work n; reply = r })).room) (sym ends.reply_is) in
      let empty : work_in c.number w.held.book ≡ no_work = ap (λ (x : BookState). work_in c.number x) its_book ∙ ended_empty b.held.book.seats.work c.number in (
        room_left c.number entries rows 0 (Work n) reply b.held w.held p eases finished.0 no_rows room,
        caller_turns c.number w.held.book (is_a_caller c.number below) ∙ ap (λ (x : WorkSoFar). x.turns) empty,
        even_still c b w p finished.2 eases (ap (λ (h : Held). h.gears) ends.held),
      ))
