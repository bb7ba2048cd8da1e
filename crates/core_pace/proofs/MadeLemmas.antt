-- What a step that was refused, or that failed, makes of the numbers and tells.
use Rattle.std.proofs.Common.{◌≡◌, ⊎_elim, inl, inr, ℕ, length, refl, ap, sym, subst}
use Rattle.std.proofs.lemmas.Grind.{common_steps}
use Rattle.std.proofs.lemmas.Bool.Decides.{nat_tests}
use Rattle.std.proofs.Common.{arith}
use Rattle.std.proofs.lemmas.Bool.{false≢true}
use Rattle.blsm_model.specs.Format.{callers}
use Rattle.blsm_model.specs.Book.{Book, HasRoom}
use Rattle.blsm_model.specs.declared.op.Op.{Op}
use Rattle.blsm_model.specs.declared.history.Reply.TheVariants.{FaultLost, FaultUnsure}
use Rattle.blsm_model.specs.declared.history.Why.{Why}
use Rattle.pacing.specs.Pace.{Pace, with_forgiven}
use Rattle.pacing.specs.Steps.{deep_settled, ready_for}
use Rattle.seat_book.specs.State.{BookState, noted_in, stopped_in, turned_in, helped_in}
use Rattle.core_moves.specs.declared.held.Held.{Held}
use Rattle.core_moves.specs.Moves.{SettlesDeep, begun_in, with_book, SettlesPass}
use Rattle.core_pace.specs.Pacing.{IsRunBook, IsPacedHeld}
use Rattle.core_pace.proofs.EventLemmas.{deep_keeps, ready_keeps, settled_between, moves_are_told, forgiving_is_paced, entry_is_told, stop_is_told}
use Rattle.core_pace.proofs.TurnLemmas.{turn_is_told, help_is_told, book_is_paced}
use Rattle.std.specs.Prelude.{true, false, ◌⊎◌, ◌<◌}
use Rattle.blsm_model.specs.Histories.{is_done, writes_of}
use Rattle.blsm_model.specs.Legal.{is_write, total_weight}
use Rattle.blsm_model.specs.declared.history.Reply.{Reply}
use Rattle.paced_tree.specs.Made.{IsAdmittedBy}
use Rattle.tree_machine.specs.Steps.{Replied}
use Rattle.tree_machine.specs.Machine.{Turned}
use Rattle.core_pace.proofs.Terms.{KeepsBook}

-- an entry that is no write that was done: a refusal, or a lookup
pub entry_is_paced : (seat : ℕ) (op : Op) (reply : Reply) (held : Held) (pace : Pace) → (is_done reply ≡ true → is_write op ≡ false) → HasRoom held.book.book.room (record { seat = seat; op = op; reply = reply }) → IsPacedHeld held pace
    → IsPacedHeld (with_book (noted_in seat op reply held.book) held) pace
entry_is_paced seat op reply held pace is room k = book_is_paced held (noted_in seat op reply held.book) pace k refl (entry_is_told held.book pace seat op reply is room k.told)

-- ---- an admission

-- the stop and the entry of a lost write
lost_at : (seat : ℕ) (op : Op) (why : Why) (b c : BookState) (pace : Pace) → KeepsBook b c → HasRoom b.book.room (record { seat = seat; op = op; reply = FaultLost }) → IsRunBook c pace
    → IsRunBook (noted_in seat op FaultLost (stopped_in why c)) pace
lost_at seat op why b c pace keeps room told = grind (arith, common_steps, nat_tests, entry_is_told, stop_is_told)

-- A write is lost where the swap of the deep merge failed, or that of the pass after it.
pub lost_is_told : (seat : ℕ) (op : Op) (why : Why) (old left : Held) (pace : Pace) → IsPacedHeld old pace → (left ≡ old) ⊎ SettlesDeep old left → HasRoom old.book.book.room (record { seat = seat; op = op; reply = FaultLost })
    → (next : Pace) × IsAdmittedBy (Replied FaultLost) seat op pace next × IsRunBook (noted_in seat op FaultLost (stopped_in why left.book)) next
lost_is_told seat op why old left pace k cases room = ⊎_elim
    (λ (still : left ≡ old). (
      pace,
      inl refl,
      subst (λ (h : Held). IsRunBook (noted_in seat op FaultLost (stopped_in why h.book)) pace) (sym still)
          (lost_at seat op why old.book old.book pace (record { book = refl; seats = refl; stopped = refl }) room k.told),
    ))
    (λ (settles : SettlesDeep old left). (deep_settled pace, inr refl, lost_at seat op why old.book left.book (deep_settled pace) (deep_keeps old left settles) room (settled_between old left pace k settles).told))
    cases

-- It is unsure where its append failed.
pub unsure_is_told : (seat : ℕ) (op : Op) (why : Why) (old settled ready : Held) (pace : Pace) (w : ℕ)
    → total_weight (writes_of op) ≡ w → IsPacedHeld old pace → SettlesDeep old settled → SettlesPass settled ready → HasRoom old.book.book.room (record { seat = seat; op = op; reply = FaultUnsure })
    → IsAdmittedBy (Replied FaultUnsure) seat op pace (ready_for pace w) × IsRunBook (noted_in seat op FaultUnsure (stopped_in why (begun_in w ready).book)) (ready_for pace w)
unsure_is_told seat op why old settled ready pace w weighs k deep pass room = (
  ap (λ (n : ℕ). ready_for pace n) (sym weighs),
  entry_is_told (stopped_in why (begun_in w ready).book) (ready_for pace w) seat op FaultUnsure (λ done. absurd (false≢true done))
      (subst (λ (b : Book). HasRoom b.room (record { seat = seat; op = op; reply = FaultUnsure })) (sym (ready_keeps old settled ready w deep pass).book) room)
      (stop_is_told (begun_in w ready).book (ready_for pace w) why (moves_are_told old settled ready pace w k deep pass).1.told),
)

-- ---- quanta and turns

-- a payment whose quantum failed has forgiven
pub failed_payment_is_told : (seat : ℕ) (why : Why) (old failed : Held) (pace : Pace) → seat < callers → IsPacedHeld old pace → failed.book ≡ old.book → IsRunBook (stopped_in why failed.book) (with_forgiven pace seat)
failed_payment_is_told seat why old failed pace caller k same = stop_is_told failed.book (with_forgiven pace seat) why
    (subst (λ (b : BookState). IsRunBook b (with_forgiven pace seat)) (sym same) (forgiving_is_paced seat old pace caller k).0.told)

-- a turn whose move failed counts, without a quantum
pub failed_work_is_told : (seat : ℕ) (why : Why) (ended : Turned) (old failed : Held) (pace : Pace) → seat < callers → length old.book.seats.work ≡ callers → IsPacedHeld old pace → failed.book ≡ old.book
    → IsRunBook (turned_in seat ended 0 (stopped_in why failed.book)) pace
failed_work_is_told seat why ended old failed pace caller works k same = turn_is_told (stopped_in why failed.book) pace seat ended caller (subst (λ (b : BookState). length b.seats.work ≡ callers) (sym same) works)
    (stop_is_told failed.book pace why (subst (λ (b : BookState). IsRunBook b pace) (sym same) k.told))

pub failed_help_is_told : (seat : ℕ) (why : Why) (old failed : Held) (pace : Pace) → IsPacedHeld old pace → failed.book ≡ old.book → IsRunBook (helped_in seat (stopped_in why failed.book)) pace
failed_help_is_told seat why old failed pace k same = help_is_told (stopped_in why failed.book) pace seat (stop_is_told failed.book pace why (subst (λ (b : BookState). IsRunBook b pace) (sym same) k.told))
