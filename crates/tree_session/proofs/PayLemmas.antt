-- Payments, one after another.
use Rattle.std.specs.Prelude.{◌/◌}
use Rattle.std.proofs.lemmas.Grind.{common_steps}
use Rattle.std.proofs.lemmas.Bool.Decides.{nat_tests}
use Rattle.std.proofs.Common.{arith}
use Rattle.std.proofs.Common.{◌≡◌, ◌∙◌, ℕ, ◌+◌, ◌*◌, ◌<◌, None, refl, ap, sym, subst}
use Rattle.blsm_model.specs.Book.{Book, counted_up}
use Rattle.blsm_model.specs.Format.{callers}
use Rattle.disk_trait.specs.Disk.{DiskState}
use Rattle.seat_book.specs.Places.{HasWrite}
use Rattle.tree_machine.specs.Steps.{last_write}
use Rattle.tree_machine.specs.declared.step.Kind.TheVariants as kind
use Rattle.tree_core.specs.Calls.{Pays}
use Rattle.tree_core.specs.Core.{CoreState, IsCore}
use Rattle.tree_core.specs.Notes.{OwesNothing}
use Rattle.tree_core.specs.Steps.{StandsSince}
use Rattle.tree_core.specs.declared.answers.Payment.{Payment}
use Rattle.tree_core.specs.declared.answers.Payment.TheVariants as payment
use Rattle.tree_session.specs.Faults.{Proceeds}
use Rattle.tree_session.specs.Session.{EasesOthers, IsMade, PaysOff}
use Rattle.tree_session.proofs.BookLemmas.{count_none, count_more, pays_less, left_in}
use Rattle.tree_session.proofs.FaultLemmas.{core_then, eases_by, eases_none, eases_then, pay_tells, proceeds_by, proceeds_more, proceeds_none, reaches_by}
use Rattle.tree_session.proofs.MadeLemmas.{made_by, made_none, made_then}

-- So many payments were made for the seat's last write that was done.
pub record Paying {D : Type 0} (state : D → DiskState) (seat : ℕ) (old new : CoreState D) : Type 0 where
  pub quanta : ℕ
  pub annals : new.held.book.book ≡ counted_up old.held.book.book (last_write seat old.held.book.book.entries) quanta
  pub work : new.held.book.seats.work ≡ old.held.book.seats.work
  pub others : EasesOthers seat old.held new.held
  pub keeps : IsCore new.held (state new.disk)
  pub begins : StandsSince state new new
  pub proceeds : Proceeds state 0 (quanta * (old.held.runs.sizes.quantum / 4 + 3)) old new
  pub made : IsMade state old new

pub paying_none : {D : Type 0} (state : D → DiskState) (seat : ℕ) (old : CoreState D) → IsCore old.held (state old.disk) → StandsSince state old old → Paying state seat old old
paying_none state seat old keeps begins = record {
  quanta = 0;
  annals = sym (count_none old.held.book.book (last_write seat old.held.book.book.entries));
  work = refl;
  others = eases_none seat old.held;
  keeps = keeps;
  begins = begins;
  proceeds = proceeds_none state (0 * (old.held.runs.sizes.quantum / 4 + 3)) old;
  made = made_none state old;
}

-- the calls of payments made, and of one more
proceeds_paying : {D : Type 0} (state : D → DiskState) (seat : ℕ) (answer : Payment) (old mid new : CoreState D) → seat < callers → (so_far : Paying state seat old mid) → Pays state seat answer mid new
    → Proceeds state 0 ((so_far.quanta + 1) * (old.held.runs.sizes.quantum / 4 + 3)) old new
proceeds_paying state seat answer old mid new below so_far call =
    proceeds_more state 0 so_far.quanta 3 old mid new so_far.proceeds
    (proceeds_by state 0 (mid.held.runs.sizes.quantum / 4 + 3) mid new below so_far.begins call.goes (reaches_by call.effect) (pay_tells state seat answer mid new call))

pub paying_more : {D : Type 0} (state : D → DiskState) (seat : ℕ) (old mid new : CoreState D) → seat < callers → Paying state seat old mid → Pays state seat payment.Paid mid new → Paying state seat old new
paying_more state seat old mid new below so_far call = record {
  quanta = so_far.quanta + 1;
  annals = call.counts.annals ∙ ap (λ (b : Book). counted_up b (last_write seat b.entries) 1) so_far.annals ∙ count_more old.held.book.book (last_write seat old.held.book.book.entries) so_far.quanta;
  work = call.counts.work ∙ so_far.work;
  others = eases_then seat old.held mid.held new.held so_far.others (eases_by seat mid.held new.held call.goes.follows);
  keeps = core_then call.goes so_far.keeps;
  begins = call.goes.begins;
  proceeds = proceeds_paying state seat payment.Paid old mid new below so_far call;
  made = made_then state old mid new so_far.made (made_by state seat kind.Pay mid new (payment.Paid, call) refl);
}

pub paying_less : {D : Type 0} (state : D → DiskState) (seat : ℕ) (old mid new : CoreState D) → HasWrite seat old.held.book.book → Paying state seat old mid → Pays state seat payment.Paid mid new
    → left_in seat new.held.runs.sizes new.held.book.book < left_in seat mid.held.runs.sizes mid.held.book.book
paying_less state seat old mid new has so_far call =
    pays_less seat mid.held new.held (state new.disk) (subst (λ (b : Book). HasWrite seat b) (sym so_far.annals) has) (core_then call.goes so_far.keeps) call.counts.annals (call.goes.lasts mid so_far.begins).sizes

-- a payment that wasn't made leaves no debt, or a store that is stopped
ends : {D : Type 0} (state : D → DiskState) (seat : ℕ) (answer : Payment) (old new : CoreState D) → (answer ≡ payment.Paid → ⊥) → Pays state seat answer old new
    → (new.held.book.book ≡ old.held.book.book) × (new.held.book.stopped ≡ None → OwesNothing seat new.held)
ends state seat answer old new h1 h2 = grind (arith, common_steps, nat_tests)

pub paid_off : {D : Type 0} (state : D → DiskState) (seat : ℕ) (answer : Payment) (old mid new : CoreState D) → (answer ≡ payment.Paid → ⊥) → seat < callers → Paying state seat old mid → Pays state seat answer mid new → PaysOff state seat old new
paid_off state seat answer old mid new not below so_far call =
    let last = ends state seat answer mid new not call in
    record {
      quanta = so_far.quanta;
      annals = last.0 ∙ so_far.annals;
      work = call.counts.work ∙ so_far.work;
      even = last.1;
      others = eases_then seat old.held mid.held new.held so_far.others (eases_by seat mid.held new.held call.goes.follows);
      keeps = core_then call.goes so_far.keeps;
      proceeds = proceeds_paying state seat answer old mid new below so_far call;
      made = made_then state old mid new so_far.made (made_by state seat kind.Pay mid new (answer, call) refl);
    }
