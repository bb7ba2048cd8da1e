-- How many quanta the entries and the open works have.
use Rattle.std.proofs.Common.{◌≡◌, ◌∙◌, ⊎_elim, ℕ, ◌+◌, ◌<◌, ◌≤◌, true, false, List, [], ◌∷◌, ◌++◌, refl, ap, sym, subst, arith}
use Rattle.std.proofs.lemmas.Grind.{common_steps}
use Rattle.std.proofs.lemmas.Bool.Decides.{nat_tests}
use Rattle.std.specs.Prelude.{zero, suc, length, slice_index, slice_index_or, slice_set, sum, sum_by, take}
use Rattle.std.proofs.lemmas.Bool.{cases_eq, cases_lt}
use Rattle.std.proofs.lemmas.List.{get_or-set_same, get_or-set_other}
use Rattle.blsm_model.specs.Book.{Book, entry_at, no_entry}
use Rattle.blsm_model.specs.Format.{callers}
use Rattle.blsm_model.specs.Geometry.{work_bound}
use Rattle.blsm_model.specs.Histories.{is_done, writes_of}
use Rattle.blsm_model.specs.Legal.{is_write, total_weight}
use Rattle.blsm_model.specs.Sizes.{Sizes}
use Rattle.blsm_model.specs.declared.history.Entry.{Entry}
use Rattle.blsm_model.specs.declared.history.Reply.{Reply}
use Rattle.blsm_model.specs.declared.op.Op.{Op}
use Rattle.blsm_model.specs.declared.op.Op.TheVariants as op
use Rattle.disk_trait.specs.Disk.{DiskState}
use Rattle.paced_tree.specs.Numbers.{IsWritten}
use Rattle.seat_book.specs.Places.{HasWrite}
use Rattle.seat_book.specs.State.{BookState, noted_in, work_in}
use Rattle.seat_book.proofs.PlaceLemmas.{write_stands}
use Rattle.tree_machine.specs.Machine.{Turned, WorkSoFar, no_work}
use Rattle.tree_machine.specs.Steps.{last_write, work_reply}
use Rattle.tree_machine.specs.declared.step.Kind.{Kind}
use Rattle.tree_machine.specs.declared.step.Kind.TheVariants as kind
use Rattle.tree_machine.specs.declared.step.Step.{Step}
use Rattle.core_moves.specs.declared.held.Held.{Held}
use Rattle.core_pace.specs.Turns.{move_in}
use Rattle.core_pace.proofs.CallLemmas.{plan_agrees}
use Rattle.core_pace.proofs.PayLemmas.{payers_wrote}
use Rattle.tree_core.specs.Answers.{reply_to_drop, reply_to_hold, reply_to_next, reply_to_write}
use Rattle.tree_core.specs.Calls.{AreCalls, EndsWork, IsCall, Pays, TurnsOnce}
use Rattle.tree_core.specs.Core.{CoreState, IsCore}
use Rattle.tree_core.specs.declared.answers.Payment.{Payment}
use Rattle.tree_core.specs.declared.answers.Payment.TheVariants as payment
use Rattle.tree_session.specs.Session.{TookFew, most_quanta}
use Rattle.tree_session.proofs.AloneLemmas.{sums_same}
use Rattle.tree_session.proofs.BookLemmas.{core_bound, core_places, end_counted, ended_empty, most_of_write, written_by}
use Rattle.tree_session.proofs.RunLemmas.{took_more}
use Rattle.tree_session.proofs.WorkLemmas.{one_at_most}
use Rattle.core_chain.specs.Quanta.{ChainTakesFew}
use Rattle.core_chain.specs.Start.{IsUnasked}
use Rattle.core_chain.proofs.LinkLemmas.{Kept, caller_of, chain_keeps, link_kept}

-- ---- the entries' quanta

-- one of them is counted otherwise, within its bound
took_set : (sizes : Sizes) (es : List Entry) (ns : List ℕ) (place n : ℕ) → TookFew sizes es ns → n ≤ most_quanta sizes (slice_index_or es place no_entry).op → TookFew sizes es (slice_set ns place n)
took_set sizes [] [] place n few one = tt
took_set sizes [] (m ∷ ns) place n few one = absurd few
took_set sizes (e ∷ es) [] place n few one = absurd few
took_set sizes (e ∷ es) (m ∷ ns) zero n few one = (one, few.1)
took_set sizes (e ∷ es) (m ∷ ns) (suc place) n few one = (few.0, took_set sizes es ns place n few.1 one)

-- what was taken so far
pub record Took (sizes : Sizes) (b : BookState) : Type 0 where
  pub few : TookFew sizes b.book.entries b.book.quanta
  pub works : (seat : ℕ) → (work_in seat b).quanta ≤ (work_in seat b).turns
  pub none : (seat : ℕ) → callers ≤ seat → (work_in seat b).quanta ≡ 0

-- the works are the same
works_stay : (sizes : Sizes) (old new : BookState) → new.seats.work ≡ old.seats.work → TookFew sizes new.book.entries new.book.quanta → Took sizes old → Took sizes new
works_stay sizes old new same few so_far = grind (arith, common_steps, nat_tests)

-- nor is an entry noted
book_stays : (sizes : Sizes) (old new : BookState) → new.book ≡ old.book → new.seats.work ≡ old.seats.work → Took sizes old → Took sizes new
book_stays sizes old new same works so_far = works_stay sizes old new works (subst (λ (b : Book). TookFew sizes b.entries b.quanta) (sym same) so_far.few) so_far

-- one entry is noted, which took none
notes_one : (sizes : Sizes) (e : Entry) (old new : BookState) → new.book.entries ≡ old.book.entries ++ e ∷ [] → new.book.quanta ≡ old.book.quanta ++ 0 ∷ [] → new.seats.work ≡ old.seats.work → Took sizes old → Took sizes new
notes_one sizes e old new entries quanta works so_far = grind (arith, common_steps, nat_tests, works_stay, took_more)

notes_in : (sizes : Sizes) (seat : ℕ) (op : Op) (reply : Reply) (old new : BookState) → new ≡ noted_in seat op reply old → Took sizes old → Took sizes new
notes_in sizes seat op reply old new is so_far =
    notes_one sizes (record { seat = seat; op = op; reply = reply }) old new (ap (λ (b : BookState). b.book.entries) is) (ap (λ (b : BookState). b.book.quanta) is) (ap (λ (b : BookState). b.seats.work) is) so_far

module _ {D : Type 0} (state : D → DiskState) where
  -- a payment counts for a write, within its bound
  paid_link : (seat : ℕ) (old new : CoreState D) → Pays state seat payment.Paid old new → seat < callers → IsCore old.held (state old.disk) → IsCore new.held (state new.disk) → new.held.runs.sizes ≡ old.held.runs.sizes → Took old.held.runs.sizes old.held.book
      → TookFew old.held.runs.sizes new.held.book.book.entries new.held.book.book.quanta
  paid_link seat old new call caller keeps keeps_then sizes so_far =
      subst (λ (b : Book). TookFew old.held.runs.sizes b.entries b.quanta) (sym call.counts.annals)
      (took_set old.held.runs.sizes old.held.book.book.entries old.held.book.book.quanta place count so_far.few
      (subst (λ (n : ℕ). count ≤ n) (sym (most_of_write old.held.runs.sizes (entry_at old.held.book.book place).op written.1)) bound))
    where
      place : ℕ
      place = last_write seat old.held.book.book.entries

      count : ℕ
      count = slice_index old.held.book.book.quanta (last_write seat old.held.book.book.entries) + 1

      has : HasWrite seat old.held.book.book
      has =
          let numbers = (keeps.holds.live call.cause.0.ran).paced.numbers in
          payers_wrote old.held keeps.pace seat keeps.holds.told.told caller (λ none. call.cause.1 (plan_agrees seat old.held keeps.pace numbers ∙ none))

      written : (is_done (entry_at old.held.book.book (last_write seat old.held.book.book.entries)).reply ≡ true) × (is_write (entry_at old.held.book.book (last_write seat old.held.book.book.entries)).op ≡ true)
      written = written_by seat (entry_at old.held.book.book (last_write seat old.held.book.book.entries)) has

      there : last_write seat old.held.book.book.entries < length old.held.book.book.quanta
      there = let stands = write_stands seat old.held.book.book.entries (last_write seat old.held.book.book.entries) has in omega (arith, stands, core_places old.held (state old.disk) keeps)

      bound : slice_index old.held.book.book.quanta (last_write seat old.held.book.book.entries) + 1 ≤ work_bound old.held.runs.sizes (total_weight (writes_of (entry_at old.held.book.book (last_write seat old.held.book.book.entries)).op))
      bound =
          let now = get_or-set_same old.held.book.book.quanta (last_write seat old.held.book.book.entries) (slice_index old.held.book.book.quanta (last_write seat old.held.book.book.entries) + 1) 0 there in
          let written_still : IsWritten new.held.book.book (last_write seat old.held.book.book.entries) = subst (λ (b : Book). IsWritten b (last_write seat old.held.book.book.entries)) (sym call.counts.annals) written in
          let most = core_bound new.held (state new.disk) (last_write seat old.held.book.book.entries) keeps_then written_still in
          let quanta = ap (λ (b : Book). slice_index b.quanta (last_write seat old.held.book.book.entries)) call.counts.annals in
          let same = ap (λ (s : Sizes). work_bound s (total_weight (writes_of (entry_at old.held.book.book (last_write seat old.held.book.book.entries)).op))) sizes in
          let entry = ap (λ (b : Book). work_bound new.held.runs.sizes (total_weight (writes_of (entry_at b (last_write seat old.held.book.book.entries)).op))) call.counts.annals in
          omega (arith, now, most, quanta, same, entry)

  pay_link : (seat : ℕ) (answer : Payment) (old new : CoreState D) → Pays state seat answer old new → seat < callers → IsCore old.held (state old.disk) → IsCore new.held (state new.disk) → new.held.runs.sizes ≡ old.held.runs.sizes → Took old.held.runs.sizes old.held.book
      → Took old.held.runs.sizes new.held.book
  pay_link seat payment.Paid old new call caller keeps keeps_then sizes so_far = works_stay old.held.runs.sizes old.held.book new.held.book call.counts.work (paid_link seat old new call caller keeps keeps_then sizes so_far) so_far
  pay_link seat _ old new call caller keeps keeps_then sizes so_far = book_stays old.held.runs.sizes old.held.book new.held.book call.counts.annals call.counts.work so_far

  turn_link : (sizes : Sizes) (seat : ℕ) (answer : Turned) (old new : CoreState D) → seat < callers → TurnsOnce state seat answer old new → Took sizes old.held.book → Took sizes new.held.book
  turn_link sizes seat answer old new caller call so_far = record {
    few = subst (λ (b : Book). TookFew sizes b.entries b.quanta) (sym call.counts.annals) so_far.few;
    works = λ any. ⊎_elim
        (λ (same : any ≡ seat). subst (λ (n : ℕ). (work_in n new.held.book).quanta ≤ (work_in n new.held.book).turns) (sym same)
        (let one = one_at_most answer (move_in false old.held) in
        let quanta = ap (λ (w : WorkSoFar). w.quanta) call.counts.work in
        let turns = ap (λ (w : WorkSoFar). w.turns) call.counts.work in
        omega (arith, one, quanta, turns, so_far.works seat)))
        (λ (apart : any ≡ seat → ⊥). subst (λ (w : WorkSoFar). w.quanta ≤ w.turns) (sym (call.counts.others any apart)) (so_far.works any))
        (cases_eq any seat);
    none = λ any above. ap (λ (w : WorkSoFar). w.quanta) (call.counts.others any (λ same. omega (arith, same, above, caller))) ∙ so_far.none any above;
  }

  end_link : (sizes : Sizes) (seat n : ℕ) (reply : Reply) (old new : CoreState D) → seat < callers → length old.held.book.book.quanta ≡ length old.held.book.book.entries → EndsWork state seat n reply old new → Took sizes old.held.book
      → Took sizes new.held.book
  end_link sizes seat n reply old new caller places call so_far = record {
    few = subst (λ (h : Held). TookFew sizes h.book.book.entries h.book.book.quanta) (sym call.held)
        (subst (λ (ns : List ℕ). TookFew sizes (old.held.book.book.entries ++ record { seat = seat; op = op.Work n; reply = work_reply (work_in seat old.held.book) old.held.book.stopped } ∷ []) ns) (sym (end_counted old.held.book.book.quanta (length old.held.book.book.entries) (work_in seat old.held.book).quanta places))
        (took_more sizes old.held.book.book.entries old.held.book.book.quanta (record { seat = seat; op = op.Work n; reply = work_reply (work_in seat old.held.book) old.held.book.stopped }) (work_in seat old.held.book).quanta so_far.few (omega (arith, so_far.works seat, turns))));
    works = λ any. subst (λ (w : WorkSoFar). w.quanta ≤ w.turns) (sym (ap (λ (h : Held). work_in any h.book) call.held)) (work_of any);
    none = λ any above. ap (λ (h : Held). (work_in any h.book).quanta) call.held ∙ ap (λ (w : WorkSoFar). w.quanta) (get_or-set_other old.held.book.seats.work seat any no_work no_work (λ same. omega (arith, same, above, caller))) ∙ so_far.none any above;
  }
    where
      -- at most n turns were made
      turns : (work_in seat old.held.book).turns ≤ n
      turns = grind (arith, common_steps, nat_tests)

      work_of : (any : ℕ) → (slice_index_or (slice_set old.held.book.seats.work seat no_work) any no_work).quanta ≤ (slice_index_or (slice_set old.held.book.seats.work seat no_work) any no_work).turns
      work_of any = ⊎_elim
          (λ (same : any ≡ seat). subst (λ (k : ℕ). (slice_index_or (slice_set old.held.book.seats.work seat no_work) k no_work).quanta ≤ (slice_index_or (slice_set old.held.book.seats.work seat no_work) k no_work).turns) (sym same)
          (subst (λ (w : WorkSoFar). w.quanta ≤ w.turns) (sym (ended_empty old.held.book.seats.work seat)) (omega arith)))
          (λ (apart : any ≡ seat → ⊥). subst (λ (w : WorkSoFar). w.quanta ≤ w.turns) (sym (get_or-set_other old.held.book.seats.work seat any no_work no_work apart)) (so_far.works any))
          (cases_eq any seat)

  -- ---- one link

  link_took : (start : CoreState D) (seat : ℕ) (k : Kind) (old new : CoreState D) → IsCall state seat k old new → Kept state start old → Kept state start new → Took old.held.runs.sizes old.held.book → Took old.held.runs.sizes new.held.book
  link_took start seat (kind.Admit op) old new call kept kept_then so_far =
      notes_one old.held.runs.sizes (record { seat = seat; op = op; reply = reply_to_write call.0 }) old.held.book new.held.book (ap (λ (b : Book). b.entries) call.1.notes.annals) (ap (λ (b : Book). b.quanta) call.1.notes.annals) call.1.notes.work so_far
  link_took start seat kind.Pay old new call kept kept_then so_far =
      pay_link seat call.0 old new call.1 (caller_of state seat kind.Pay old new call refl) kept.keeps kept_then.keeps (kept_then.sizes ∙ sym kept.sizes) so_far
  link_took start seat (kind.Look op) old new call kept kept_then so_far = notes_in old.held.runs.sizes seat op call.0 old.held.book new.held.book (ap (λ (h : Held). h.book) call.1.held) so_far
  link_took start seat (kind.Hold low high) old new call kept kept_then so_far = notes_in old.held.runs.sizes seat (op.Hold low high) (reply_to_hold call.0) old.held.book new.held.book call.1.book so_far
  link_took start seat (kind.Next n) old new call kept kept_then so_far = notes_in old.held.runs.sizes seat (op.Next n) (reply_to_next call.0) old.held.book new.held.book call.1.book so_far
  link_took start seat kind.Release old new call kept kept_then so_far = notes_in old.held.runs.sizes seat op.Release (reply_to_drop call.0) old.held.book new.held.book call.1.book so_far
  link_took start seat kind.WorkTurn old new call kept kept_then so_far = turn_link old.held.runs.sizes seat call.0 old new (caller_of state seat kind.WorkTurn old new call refl) call.1 so_far
  link_took start seat (kind.WorkEnd n) old new call kept kept_then so_far =
      end_link old.held.runs.sizes seat n call.0 old new (caller_of state seat (kind.WorkEnd n) old new call refl) (core_places old.held (state old.disk) kept.keeps) call.1 so_far
  link_took start seat kind.WorkerTurn old new call kept kept_then so_far = book_stays old.held.runs.sizes old.held.book new.held.book call.1.notes.annals call.1.notes.work so_far
  link_took start seat kind.Leave old new call kept kept_then so_far =
      book_stays old.held.runs.sizes old.held.book new.held.book (ap (λ (h : Held). h.book.book) call.held) (ap (λ (h : Held). h.book.seats.work) call.held) so_far

  -- ---- the chain

  record SoFar (start now : CoreState D) : Type 0 where
    kept : Kept state start now
    took : Took start.held.runs.sizes now.held.book

  so_far : (start : CoreState D) → IsUnasked state start → SoFar start start
  so_far start unasked = record {
    kept = record { keeps = unasked.keeps; sizes = refl };
    took = record {
      few = none_took start.held.runs.sizes start.held.book.book.entries start.held.book.book.quanta unasked.none (core_places start.held (state start.disk) unasked.keeps);
      works = λ seat. subst (λ (w : WorkSoFar). w.quanta ≤ w.turns) (sym (unasked.idle seat)) (omega arith);
      none = λ seat above. ap (λ (w : WorkSoFar). w.quanta) (unasked.idle seat);
    };
  }
    where
      none_took : (sizes : Sizes) (es : List Entry) (ns : List ℕ) → es ≡ [] → length ns ≡ length es → TookFew sizes es ns
      none_took sizes es ns h1 h2 = grind (arith, common_steps, nat_tests)

  pub chain_takes_few : (calls : List (Step × CoreState D)) (start end : CoreState D) → IsUnasked state start → AreCalls state calls start end → ChainTakesFew state calls start end
  chain_takes_few calls start end unasked are = record {
    few = took.few;
    works = took.works;
    by_callers = booked;
    closed = λ idle. booked ∙ none_open idle;
  }
    where
      all : SoFar start end
      all = chain_keeps state (λ now. SoFar start now)
          (λ seat k old new call before.
          let kept_then = link_kept state start seat k old new call before.kept in
          record {
            kept = kept_then;
            took = subst (λ (s : Sizes). Took s new.held.book) before.kept.sizes (link_took start seat k old new call before.kept kept_then (subst (λ (s : Sizes). Took s old.held.book) (sym before.kept.sizes) before.took));
          }) calls start end are (so_far start unasked)

      took : Took start.held.runs.sizes end.held.book
      took = all.took

      booked : sum (take callers end.held.book.seats.quanta) ≡ sum end.held.book.book.quanta + sum_by (λ (w : WorkSoFar). w.quanta) end.held.book.seats.work
      booked = all.kept.keeps.holds.told.told.booked.by_callers

      idle_one : ((seat : ℕ) → seat < callers → (work_in seat end.held.book).turns ≡ 0) → (seat : ℕ) → (work_in seat end.held.book).quanta ≡ 0
      idle_one idle seat = ⊎_elim
          (λ (below : seat < callers). let few = took.works seat in let none = idle seat below in omega (arith, few, none))
          (λ (above : callers ≤ seat). took.none seat above)
          (cases_lt seat callers)

      none_open : ((seat : ℕ) → seat < callers → (work_in seat end.held.book).turns ≡ 0) → sum end.held.book.book.quanta + sum_by (λ (w : WorkSoFar). w.quanta) end.held.book.seats.work ≡ sum end.held.book.book.quanta
      none_open idle = let none = sums_same (λ (w : WorkSoFar). w.quanta) no_work refl [] end.held.book.seats.work (idle_one idle) in omega (arith, none)
