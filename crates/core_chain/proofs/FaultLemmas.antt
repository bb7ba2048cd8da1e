-- What the calls tell of faults and of the stop, one after another.
use Rattle.std.proofs.Common.{◌≡◌, ◌≢◌, ◌⊎◌, ◌∙◌, ℕ, ◌+◌, ◌<◌, ◌≤◌, false, List, [], ◌∷◌, ◌++◌, Some, None, refl, ap, sym, arith}
use Rattle.std.proofs.lemmas.Grind.{common_steps}
use Rattle.std.proofs.lemmas.Bool.Decides.{nat_tests}
use Rattle.std.specs.Prelude.{Option, zero, suc, drop, slice_index_or, sum_by}
use Rattle.std.specs.List.{AllByRecursion}
use Rattle.std.proofs.lemmas.List.Sums.{sum_by-cons}
use Rattle.refusal.specs.Count.{HasRisen, HasRisenBy}
use Rattle.blsm_model.specs.declared.history.Entry.{Entry}
use Rattle.blsm_model.specs.declared.history.Reply.{Reply}
use Rattle.blsm_model.specs.declared.history.Why.{Why}
use Rattle.blsm_model.specs.declared.history.Why.TheVariants.{Faulted}
use Rattle.blsm_model.specs.declared.op.Op.{Op}
use Rattle.tree_machine.proofs.TellLemmas.{no_look}
use Rattle.disk_trait.specs.Disk.{DiskState}
use Rattle.tree_machine.specs.Machine.{WorkSoFar, no_work}
use Rattle.tree_machine.specs.Outcomes.{is_failed_lookup}
use Rattle.tree_machine.specs.Steps.{one_if}
use Rattle.gear_sched.specs.declared.Plan.{Plan}
use Rattle.core_moves.specs.declared.held.Held.{Held}
use Rattle.seat_book.specs.State.{BookState}
use Rattle.tree_core.specs.Causes.{FoundDamaged, HasFailed, RanOn}
use Rattle.tree_session.specs.Faults.{NamesCount, NamesStop, TellsFaults, TellsNone, faults_of, faults_of_turn, faults_told, is_by_fault}
use Rattle.tree_session.proofs.AloneLemmas.{sums_same}
use Rattle.core_chain.specs.Tells.{lookups_failed}

-- ---- entries

lookup_tells : (op : Op) (reply : Reply) → one_if (is_failed_lookup op reply) ≤ faults_of reply
lookup_tells op reply = grind (arith, common_steps, nat_tests)

pub lookups_tell : (es : List Entry) → lookups_failed es ≤ faults_told es
lookups_tell [] = omega arith
lookups_tell (e ∷ es) = grind (arith, common_steps, nat_tests, lookups_tell es)

calm_one : (op : Op) (reply : Reply) → faults_of reply ≤ one_if (is_failed_lookup op reply) → TellsNone op reply
calm_one op reply few = λ is. omega (arith, few, ap one_if (no_look op reply is))

-- where lookups alone failed
pub all_calm : (es : List Entry) → faults_told es ≤ lookups_failed es → AllByRecursion (λ (e : Entry). TellsNone e.op e.reply) es
all_calm [] few = tt
all_calm (e ∷ es) few = grind (arith, common_steps, nat_tests, lookup_tells, lookups_tell es, calm_one, all_calm es)

-- ---- works

-- what is told of the works that are open, once they end
abbrev pub pending : BookState → ℕ
pending b = sum_by (λ w. faults_of_turn w.last) b.seats.work

-- none is open
pub works_idle : (f : WorkSoFar → ℕ) → f no_work ≡ 0 → (l : List WorkSoFar) → ((i : ℕ) → slice_index_or l i no_work ≡ no_work) → sum_by f l ≡ 0
works_idle f none l idle = sums_same f no_work none [] l (λ i. ap f (idle i))

-- the first one, and the others
split : (f : WorkSoFar → ℕ) → f no_work ≡ 0 → (l : List WorkSoFar) → sum_by f l ≡ f (slice_index_or l 0 no_work) + sum_by f (drop 1 l)
split f none [] = omega (arith, none)
split f none (x ∷ l) = sum_by-cons f x l

later : (l : List WorkSoFar) (i : ℕ) → slice_index_or (drop 1 l) i no_work ≡ slice_index_or l (suc i) no_work
later [] i = refl
later (x ∷ l) i = refl

-- where one of them changes
pub one_changed : (f : WorkSoFar → ℕ) → f no_work ≡ 0 → (l m : List WorkSoFar) (seat : ℕ) → ((i : ℕ) → i ≢ seat → slice_index_or m i no_work ≡ slice_index_or l i no_work)
    → sum_by f m + f (slice_index_or l seat no_work) ≡ sum_by f l + f (slice_index_or m seat no_work)
one_changed f none l m zero others =
    let rest = sums_same f no_work none (drop 1 l) (drop 1 m) (λ i. ap f (later m i ∙ others (suc i) (λ same. omega (arith, same)) ∙ sym (later l i))) in
    omega (arith, split f none l, split f none m, rest)
one_changed f none l m (suc seat) others =
    let rest = one_changed f none (drop 1 l) (drop 1 m) seat (λ i apart. later m i ∙ others (suc i) (λ same. apart (omega (arith, same))) ∙ sym (later l i)) in
    omega (arith, split f none l, split f none m, rest, ap f (later l seat), ap f (later m seat), ap f (others 0 (λ same. omega (arith, same))))

-- ---- what one call tells

-- No fault stops the store. So many lookups failed, and so much was told, of which the open works owed some.
pub record Stays (lookups told pend left : ℕ) (old new : Option Why) (before after : DiskState) : Type 0 where
  pub stop : (new ≡ old) ⊎ ((is_by_fault old ≡ false) × (is_by_fault new ≡ false))
  pub risen : HasRisenBy lookups before.faults after.faults
  pub quiet : lookups ≡ 0 → after.faults ≡ before.faults
  pub ran : 0 < lookups → is_by_fault old ≡ false
  pub told_is : told + left ≤ lookups + pend
  pub halted : (why : Why) → old ≡ Some why → new ≡ Some why

-- One does.
pub record Stops (told pend left : ℕ) (old new : Option Why) (before after : DiskState) : Type 0 where
  pub ran : old ≡ None
  pub stop : new ≡ Some (Faulted after.faults)
  pub risen : HasRisen before.faults after.faults
  pub told_is : told + left ≤ pend + 1

pub stays_ran : (told pend left : ℕ) (old new : Held) (before after : DiskState) → RanOn old new before after → told + left ≤ pend → Stays 0 told pend left old.book.stopped new.book.stopped before after
stays_ran told pend left old new before after ran few = grind (arith, common_steps, nat_tests)

pub stays_damaged : {plan : Plan} (page told pend left : ℕ) (old new : Held) (before after : DiskState) → FoundDamaged plan page old new before after → told + left ≤ pend → Stays 0 told pend left old.book.stopped new.book.stopped before after
stays_damaged page told pend left old new before after found few = grind (arith, common_steps, nat_tests)

pub stays_same : (told pend left : ℕ) (old new : Option Why) (before after : DiskState) → new ≡ old → after.faults ≡ before.faults → told + left ≤ pend → Stays 0 told pend left old new before after
stays_same told pend left old new before after same faults few = grind (arith, common_steps, nat_tests)

pub stops_failed : (told pend left : ℕ) (old new : Held) (before after : DiskState) → HasFailed old new before after → told + left ≤ pend + 1 → Stops told pend left old.book.stopped new.book.stopped before after
stops_failed told pend left old new before after failed few = record { ran = failed.ran; stop = failed.stopped; risen = failed.faults; told_is = few }

abbrev pub How : (lookups told pend left : ℕ) → Option Why → Option Why → DiskState → DiskState → Type 0
How lookups told pend left old new before after = Stays lookups told pend left old new before after ⊎ ((lookups ≡ 0) × Stops told pend left old new before after)

pub halted_by : (lookups told pend left : ℕ) (old new : Option Why) (before after : DiskState) → How lookups told pend left old new before after → (why : Why) → old ≡ Some why → new ≡ Some why
halted_by lookups told pend left old new before after how why is = grind (arith, common_steps, nat_tests)

abbrev pub AllNamed : List Entry → Option Why → Type 0
AllNamed es stopped = AllByRecursion (λ (e : Entry). NamesStop e.reply stopped) es

-- what it makes of what was told
pub record LinkTells (old new : BookState) (before after : DiskState) : Type 0 where
  pub lookups : ℕ
  pub told : ℕ
  pub lookups_are : lookups_failed new.book.entries ≡ lookups_failed old.book.entries + lookups
  pub told_is : faults_told new.book.entries ≡ faults_told old.book.entries + told
  pub how : How lookups told (pending old) (pending new) old.stopped new.stopped before after
  pub names : AllNamed old.book.entries new.stopped → AllNamed new.book.entries new.stopped

pub no_entry_tells : (old new : BookState) (before after : DiskState) → new.book.entries ≡ old.book.entries → How 0 0 (pending old) (pending new) old.stopped new.stopped before after → LinkTells old new before after
no_entry_tells old new before after same how = grind (arith, common_steps, nat_tests)

pub entry_tells : (lookups told : ℕ) (e : Entry) (old new : BookState) (before after : DiskState) → new.book.entries ≡ old.book.entries ++ e ∷ [] → one_if (is_failed_lookup e.op e.reply) ≡ lookups → faults_of e.reply ≡ told
    → NamesStop e.reply new.stopped → How lookups told (pending old) (pending new) old.stopped new.stopped before after → LinkTells old new before after
entry_tells lookups told e old new before after is lookup fault names how = grind (arith, common_steps, nat_tests)

-- ---- one after another

-- so much was told since the disk was as before
pub record Told (before : DiskState) (b : BookState) (now : DiskState) : Type 0 where
  pub grows : before.faults ≤ now.faults
  pub counted : HasRisenBy (lookups_failed b.book.entries + one_if (is_by_fault b.stopped)) before.faults now.faults
  pub quiet : lookups_failed b.book.entries ≡ 0 → is_by_fault b.stopped ≡ false → now.faults ≡ before.faults
  pub stop : NamesCount b.stopped before now
  pub others : faults_told b.book.entries + pending b ≤ lookups_failed b.book.entries + one_if (is_by_fault b.stopped)
  pub names : AllNamed b.book.entries b.stopped

still_named : (es : List Entry) (old new : Option Why) → ((why : Why) → old ≡ Some why → new ≡ Some why) → AllNamed es old → AllNamed es new
still_named [] old new halted all = tt
still_named (e ∷ es) old new halted all = grind (arith, common_steps, nat_tests, still_named es old new halted all.1)

module _ (start between after : DiskState) (old new : BookState) (grows : between.faults ≤ after.faults) (link : LinkTells old new between after) (so_far : Told start old between) where
  pub told_more : Told start new after
  told_more = grind (arith, common_steps, nat_tests, still_named, halted_by)

-- what the whole chain tells, where it began with a store that ran
pub tells_all : (old new : Held) (before after : DiskState) → old.book.stopped ≡ None → Told before new.book after → TellsFaults (faults_told new.book.book.entries) old new before after
tells_all old new before after runs told = grind (arith, common_steps, nat_tests, lookups_tell)
