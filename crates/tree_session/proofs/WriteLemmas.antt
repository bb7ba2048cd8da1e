-- A write, refused or admitted and paid for.
use Rattle.std.specs.Prelude.{◌/◌, slice_index_or}
use Rattle.std.proofs.lemmas.Grind.{common_steps}
use Rattle.std.proofs.lemmas.Bool.Decides.{nat_tests}
use Rattle.std.proofs.Common.{◌≡◌, ◌∙◌, ℕ, ◌+◌, ◌*◌, ◌<◌, ◌≤◌, true, List, Some, None, length, refl, ap, sym, subst, arith}
use Rattle.blsm_model.specs.Book.{Book, noted, counted_up, rows_given}
use Rattle.blsm_model.specs.Format.{callers}
use Rattle.blsm_model.specs.Legal.{is_write}
use Rattle.blsm_model.specs.Sizes.{Sizes}
use Rattle.blsm_model.specs.declared.history.Entry.{Entry}
use Rattle.blsm_model.specs.declared.history.Reply.TheVariants.{Done}
use Rattle.blsm_model.specs.declared.op.Op.{Op}
use Rattle.disk_trait.specs.Disk.{DiskState}
use Rattle.seat_book.specs.State.{BookState, work_in}
use Rattle.tree_machine.specs.Machine.{WorkSoFar, no_work}
use Rattle.tree_machine.specs.declared.step.Kind.TheVariants as kind
use Rattle.core_moves.specs.declared.held.Held.{Held}
use Rattle.tree_core.specs.Answers.{reply_to_write}
use Rattle.tree_core.specs.Calls.{Admits}
use Rattle.tree_core.specs.Causes.{calls_to_admit, pages_first, swaps_due_in}
use Rattle.tree_core.specs.Core.{CoreState, IsCore}
use Rattle.tree_core.specs.Notes.{OwesNothing}
use Rattle.tree_core.specs.Steps.{StandsSince}
use Rattle.tree_core.specs.Ruling.{Ruling, ruled_by}
use Rattle.tree_core.specs.declared.answers.Admission.{Admission}
use Rattle.tree_core.specs.declared.answers.Admission.TheVariants as admission
use Rattle.blsm_model.specs.declared.row.Value.{Value}
use Rattle.std.specs.Prelude.{Option}
use Rattle.tree_core.specs.Ruling as ruling
use Rattle.tree_session.specs.Faults.{Proceeds, faults_of}
use Rattle.tree_session.specs.Lines.{Rests}
use Rattle.tree_session.specs.Session.{PaysOff, Performs, most_calls}
use Rattle.tree_session.proofs.BookLemmas.{all_even, count_none, last_is, of_write, paid_few}
use Rattle.tree_session.proofs.MadeLemmas.{made_by, made_then}
use Rattle.tree_session.proofs.FaultLemmas.{admit_calm, admit_names, admit_tells, eases_by, eases_then, none_told, proceeds_by, proceeds_then, proceeds_wider, reaches_by}
use Rattle.blsm_model.specs.Scripts.{rows_of}

-- what isn't answered as admitted isn't
pub not_ruled : (answer : Admission) (found : Option Value) → (answer ≡ admission.Admitted → ⊥) → ruled_by answer found ≡ ruling.Admitted → ⊥
not_ruled admission.Admitted found not same = not refl
not_ruled admission.Kept found not same = absurd (cc same)
not_ruled (admission.Full charge) found not same = absurd (cc same)
not_ruled admission.ReadFault found not same = absurd (cc same)
not_ruled (admission.Damaged page) found not same = absurd (cc same)
not_ruled (admission.Fault begun) found not same = absurd (cc same)
not_ruled (admission.Stopped why) found not same = absurd (cc same)

-- a write that isn't admitted leaves no debt
refused_even : {D : Type 0} (state : D → DiskState) (seat : ℕ) (op : Op) (answer : Ruling) (old new : CoreState D) → (answer ≡ ruling.Admitted → ⊥) →
    Admits state seat op answer old new
    → (old.held.book.stopped ≡ None → (any : ℕ) → OwesNothing any old.held) → new.held.book.stopped ≡ None → (any : ℕ) → OwesNothing any new.held
refused_even state seat op ruling.Admitted old new not call even runs any = absurd (not refl)
refused_even state seat op (ruling.Kept found) old new not call even runs any = subst (λ (h : Held). OwesNothing any h) (sym call.cause.4)
    (even call.cause.0 any)
refused_even state seat op (ruling.Full charge) old new not call even runs any = subst (λ (h : Held). OwesNothing any h) (sym call.cause.3)
    (even call.cause.0 any)
refused_even state seat op ruling.ReadFault old new not call even runs any = subst (λ (h : Held). OwesNothing any h) (sym call.cause.3)
    (even call.cause.0 any)
refused_even state seat op (ruling.Damaged page) old new not call even runs any = subst (λ (h : Held). OwesNothing any h) (sym call.cause.4)
    (even call.cause.0 any)
refused_even state seat op (ruling.Fault begun) old new not call even runs any = absurd (cc (call.cause.0.stopped, runs))
refused_even state seat op (ruling.Stopped why) old new not call even runs any =
    let still : new.held.book.stopped ≡ Some why = ap (λ (h : Held). h.book.stopped) call.cause.1 ∙ call.cause.0 in
    absurd (cc (still, runs))

-- nor does it give rows
refused_rows : (answer : Ruling) (op : Op) → length (rows_given (reply_to_write answer)) ≤ rows_of op
refused_rows answer op = grind (arith, common_steps, nat_tests)

idle_still : (old new : BookState) → new.seats.work ≡ old.seats.work → ((any : ℕ) → work_in any old ≡ no_work) → (any : ℕ) → work_in any new ≡ no_work
idle_still old new same idle any = ap (λ (l : List WorkSoFar). slice_index_or l any no_work) same ∙ idle any

-- what an admission does to the disk, and tells
admit_proceeds : {D : Type 0} (state : D → DiskState) (seat : ℕ) (op : Op) (answer : Ruling) (old new : CoreState D) → seat < callers → StandsSince
    state old old → Admits state seat op answer old new
    → Proceeds state (faults_of (reply_to_write answer)) (pages_first op + calls_to_admit old.held) old new
admit_proceeds state seat op answer old new below begins call =
    proceeds_by state (faults_of (reply_to_write answer)) (pages_first op + calls_to_admit old.held) old new below begins call.goes
    (reaches_by call.effect) (admit_tells state seat op answer old new call)

pub write_refused : {D : Type 0} (state : D → DiskState) (seat : ℕ) (op : Op) (answer : Ruling) (old new : CoreState D) → is_write op ≡ true → seat <
    callers → StandsSince state old old → (answer ≡ ruling.Admitted → ⊥) → Rests old.held
    → Admits state seat op answer old new → Performs state seat op old new
write_refused state seat op answer old new write below begins not rests call =
    let entry : Entry = record { seat = seat; op = op; reply = reply_to_write answer } in
    record {
      reply = reply_to_write answer;
      quanta = 0;
      annals = call.notes.annals ∙ sym (count_none (noted old.held.book.book entry) (length old.held.book.book.entries));
      few = omega arith;
      rows = refused_rows answer op;
      calm = admit_calm answer seat op old.held new.held (state old.disk) (state new.disk) call.cause;
      names = admit_names answer seat op old.held new.held (state old.disk) (state new.disk) call.cause;
      rests = record { idle = idle_still old.held.book new.held.book call.notes.work rests.idle; even = refused_even state seat op answer old new not call rests.even };
      begins = call.goes.begins;
      proceeds = proceeds_wider state (faults_of (reply_to_write answer)) (pages_first op + calls_to_admit old.held)
          (most_calls old.held.runs.sizes op 0 (swaps_due_in old.held)) old new
          (omega (arith, (of_write old.held.runs.sizes op 0 (swaps_due_in old.held) write).0)) (admit_proceeds state seat op answer old new below begins call);
      made = made_by state seat (kind.Admit op) old new (answer, call) refl;
    }

pub write_taken : {D : Type 0} (state : D → DiskState) (seat : ℕ) (op : Op) (old mid new : CoreState D) → is_write op ≡ true → seat < callers → IsCore old.held (state old.disk) → StandsSince state old old → Rests old.held
    → Admits state seat op ruling.Admitted old mid → PaysOff state seat mid new → StandsSince state new new → Performs state seat op old new
write_taken state seat op old mid new write below keeps first rests call pays begins =
    let entry : Entry = record { seat = seat; op = op; reply = Done } in
    let last = last_is seat op old.held.book mid.held.book write call.notes.annals in
    let annals : new.held.book.book ≡ counted_up (noted old.held.book.book entry) (length old.held.book.book.entries) pays.quanta =
    pays.annals ∙ ap (λ (place : ℕ). counted_up mid.held.book.book place pays.quanta) last.0 ∙ ap (λ (b : Book). counted_up b (length old.held.book.book.entries) pays.quanta) call.notes.annals in
    let admits = admit_proceeds state seat op ruling.Admitted old mid below first call in
    let paid = subst (λ (s : Sizes). Proceeds state 0 ((pays.quanta + 1) * (s.quantum / 4 + 3)) mid new) admits.sizes pays.proceeds in
    let proceeds : Proceeds state 0 (most_calls old.held.runs.sizes op pays.quanta (swaps_due_in old.held)) old new =
    proceeds_then state old mid new admits paid refl (omega (arith, (of_write old.held.runs.sizes op pays.quanta (swaps_due_in old.held) write).0)) in
    record {
      reply = Done;
      quanta = pays.quanta;
      annals = annals;
      few = paid_few seat pays.quanta op old.held new.held (state old.disk) (state new.disk) write keeps pays.keeps proceeds.sizes annals;
      rows = omega arith;
      calm = λ calm. none_told op Done refl;
      names = tt;
      rests = record {
        idle = idle_still old.held.book new.held.book (pays.work ∙ call.notes.work) rests.idle;
        even = λ runs. all_even seat old.held new.held (rests.even call.cause.0.ran) (eases_then seat old.held mid.held new.held (eases_by seat old.held mid.held call.goes.follows) pays.others) (pays.even runs);
      };
      begins = begins;
      proceeds = proceeds;
      made = made_then state old mid new (made_by state seat (kind.Admit op) old mid (ruling.Admitted, call) refl) pays.made;
    }
