-- The turns of a write.
use Rattle.std.proofs.Common.{◌≡◌, ◌∙◌, inr, ℕ, ◌+◌, ◌<◌, ◌≤◌, length, refl, ap, arith}
use Rattle.std.proofs.lemmas.Grind.{common_steps}
use Rattle.std.proofs.lemmas.Bool.Decides.{nat_tests}
use Rattle.std.specs.Prelude.{is_some}
use Rattle.blsm_model.specs.Book.{Book, rows_given}
use Rattle.blsm_model.specs.Facts.{Eases, Part}
use Rattle.blsm_model.specs.Format.{callers}
use Rattle.blsm_model.specs.Scripts.{rows_of}
use Rattle.blsm_model.specs.declared.op.Op.{Op}
use Rattle.disk_trait.specs.Disk.{DiskState}
use Rattle.turn_lock.specs.Callers.{Held as Caller}
use Rattle.turn_lock.specs.Turns.{TookTurn}
use Rattle.core_moves.specs.declared.held.Held.{Held}
use Rattle.tree_core.specs.Answers.{reply_to_write}
use Rattle.tree_core.specs.Calls.{Admits, CameSince, Pays}
use Rattle.tree_core.specs.Causes.{AdmitsBecause, PaysBecause}
use Rattle.tree_core.specs.Core.{CoreState}
use Rattle.tree_core.specs.Ruling.{Ruling}
use Rattle.tree_core.specs.Ruling as ruling
use Rattle.tree_core.specs.declared.answers.Payment.{Payment}
use Rattle.tree_core.specs.declared.answers.Payment.TheVariants as payment
use Rattle.tree_core.specs.Notes.{Settles, with_payment}
use Rattle.tree_shared.specs.Seats.{KnowsOf, HasRoomFor, IsEven, IsFree, IsOwing, facts_of}
use Rattle.tree_shared.proofs.SeatLemmas.{idle_still, room_left, room_same}
use Rattle.tree_shared.proofs.NoteLemmas.{After, after, even_halted, even_still}

-- an admission gives no rows
gives_few : (answer : Ruling) (n : ℕ) → length (rows_given (reply_to_write answer)) ≤ n
gives_few answer n = grind (arith, common_steps, nat_tests)

module _ {D : Type 0} {state : D → DiskState} {c d : Caller (CoreState D)} {op : Op} {answer : Ruling} {b w : CoreState D}
    (below : c.number < callers) (turn : TookTurn facts_of (CameSince state) c b w d)
    (admits : Admits state c.number op answer b w) where
  leaves : (entries rows : ℕ) (p : Part) → HasRoomFor (entries + 1) (rows + rows_of op) p → p.turns ≡ 0 → Eases p ((facts_of b).part c.number)
      → HasRoomFor entries rows ((facts_of w).part c.number) × (((facts_of w).part c.number).turns ≡ 0)
  leaves entries rows p room idle eases = (
    room_left c.number entries rows (rows_of op) op (reply_to_write answer) b.held w.held p eases room (gives_few answer (rows_of op)) (ap (λ (x : Book). x.room) admits.notes.annals),
    idle_still c.number b.held w.held p below eases idle admits.notes.work,
  )

  pub admit_owes : (entries rows : ℕ) → KnowsOf (IsFree (entries + 1) (rows + rows_of op)) c → KnowsOf (IsOwing entries rows) d
  admit_owes entries rows = after turn (IsFree (entries + 1) (rows + rows_of op)) (IsOwing entries rows) (λ p free eases. leaves entries rows p free.0 free.1 eases)

  -- one that was refused leaves no debt, or a store that is stopped
  refused : (a : Ruling) → (a ≡ ruling.Admitted → ⊥) → AdmitsBecause a c.number op b.held w.held (state b.disk) (state w.disk) → (p : Part) → Eases p
      ((facts_of b).part c.number) → IsEven c.me.0.halted p
      → After c b w IsEven
  refused ruling.Admitted not because p eases even = absurd (not refl)
  refused (ruling.Kept found) not because p eases even = even_still c b w p even eases (ap (λ (h : Held). h.gears) because.4)
  refused (ruling.Full charge) not because p eases even = even_still c b w p even eases (ap (λ (h : Held). h.gears) because.3)
  refused ruling.ReadFault not because p eases even = even_still c b w p even eases (ap (λ (h : Held). h.gears) because.3)
  refused (ruling.Damaged page) not because p eases even = even_still c b w p even eases (ap (λ (h : Held). h.gears) because.4)
  refused (ruling.Fault begun) not because p eases even = even_halted c b w (ap is_some because.0.stopped)
  refused (ruling.Stopped why) not because p eases even = even_halted c b w (ap is_some (ap (λ (h : Held). h.book.stopped) because.1 ∙ because.0))

  pub admit_frees : (answer ≡ ruling.Admitted → ⊥) → (entries rows : ℕ) → KnowsOf (IsFree (entries + 1) (rows + rows_of op)) c → KnowsOf
      (IsFree entries rows) d
  admit_frees not entries rows = after turn (IsFree (entries + 1) (rows + rows_of op)) (IsFree entries rows)
      (λ p free eases. let left = leaves entries rows p free.0 free.1 eases in (left.0, left.1, refused answer not admits.cause p eases free.2))

-- ---- payments

pub paid_entries : (answer : Payment) (seat : ℕ) (book : Book) → (with_payment answer seat book).entries ≡ book.entries
paid_entries answer seat book = grind (arith, common_steps, nat_tests)

paid_room : (answer : Payment) (seat : ℕ) (book : Book) → (with_payment answer seat book).room ≡ book.room
paid_room answer seat book = grind (arith, common_steps, nat_tests)

module _ {D : Type 0} {state : D → DiskState} {c d : Caller (CoreState D)} {answer : Payment} {b w : CoreState D} (below : c.number < callers) (turn : TookTurn facts_of (CameSince state) c b w d)
    (pays : Pays state c.number answer b w) where
  stays : (entries rows : ℕ) (p : Part) → HasRoomFor entries rows p → p.turns ≡ 0 → Eases p ((facts_of b).part c.number)
      → HasRoomFor entries rows ((facts_of w).part c.number) × (((facts_of w).part c.number).turns ≡ 0)
  stays entries rows p room idle eases = (
    room_same c.number entries rows b.held w.held p eases room (ap (λ (x : Book). x.room) pays.counts.annals ∙ paid_room answer c.number b.held.book.book),
    idle_still c.number b.held w.held p below eases idle pays.counts.work,
  )

  pub pay_owes : (entries rows : ℕ) → KnowsOf (IsOwing entries rows) c → KnowsOf (IsOwing entries rows) d
  pay_owes entries rows = after turn (IsOwing entries rows) (IsOwing entries rows) (λ p owing eases. stays entries rows p owing.0 owing.1 eases)

  -- one that paid nothing leaves no debt, or a store that is stopped
  settled : (a : Payment) → (a ≡ payment.Paid → ⊥) → PaysBecause a c.number b.held w.held (state b.disk) (state w.disk) → Settles a c.number w.held → After c b w IsEven
  settled payment.Paid not because settles = absurd (not refl)
  settled payment.Settled not because settles = inr settles
  settled (payment.Stopped why) not because settles = even_halted c b w (ap is_some (ap (λ (h : Held). h.book.stopped) because.1 ∙ because.0))
  settled _ not because settles = even_halted c b w (ap is_some because.stopped)

  pub pay_frees : (answer ≡ payment.Paid → ⊥) → (entries rows : ℕ) → KnowsOf (IsOwing entries rows) c → KnowsOf (IsFree entries rows) d
  pay_frees not entries rows = after turn (IsOwing entries rows) (IsFree entries rows)
      (λ p owing eases. let left = stays entries rows p owing.0 owing.1 eases in (left.0, left.1, settled answer not pays.cause pays.settles))
