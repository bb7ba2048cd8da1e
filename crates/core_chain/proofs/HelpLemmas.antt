-- The workers' quanta and turns, which their own turns alone count.
use Rattle.std.proofs.Common.{◌≡◌, ◌≢◌, ◌∙◌, ⊎_elim, ℕ, ◌+◌, ◌<◌, ◌≤◌, Bool, false, cond, List, [], ◌∷◌, refl, ap, sym, arith, ne_eqb, eq-eqb}
use Rattle.std.proofs.lemmas.Grind.{common_steps}
use Rattle.std.proofs.lemmas.Bool.Decides.{nat_tests}
use Rattle.std.specs.Prelude.{◌==◌, ◌&&◌, sum, sum_by}
use Rattle.std.proofs.lemmas.Bool.{cases_eq, leb-true, ltb-true}
use Rattle.std.proofs.lemmas.List.Sums.{sum_by-take-drop}
use Rattle.blsm_model.specs.Book.{Book}
use Rattle.blsm_model.specs.Format.{callers}
use Rattle.disk_trait.specs.Disk.{DiskState}
use Rattle.seat_book.specs.Seats.{turns_in}
use Rattle.tree_machine.proofs.FoldLemmas.{both_hold}
use Rattle.tree_machine.specs.Machine.{WorkSoFar, seats, turn_more}
use Rattle.tree_machine.specs.Steps.{one_if}
use Rattle.tree_machine.specs.declared.step.Kind.{Kind}
use Rattle.tree_machine.specs.declared.step.Kind.TheVariants as kind
use Rattle.tree_machine.specs.declared.step.Step.{Step}
use Rattle.tree_core.specs.Calls.{AreCalls, IsCall}
use Rattle.tree_core.specs.Core.{CoreState, IsCore}
use Rattle.tree_session.proofs.AloneLemmas.{alone_by, by_workers}
use Rattle.tree_machine.specs.Plays.{is_help}
use Rattle.core_chain.specs.Quanta.{ChainHelps, helped_after, helps_in}
use Rattle.core_chain.specs.Start.{IsUnasked, steps_of}
use Rattle.core_chain.proofs.LinkLemmas.{caller_of, goes_of, link_keeps}

module _ {D : Type 0} (state : D → DiskState) where
  -- ---- quanta

  -- a caller's call counts none for a worker
  link_alone : (seat : ℕ) (k : Kind) (old new : CoreState D) → IsCall state seat k old new → is_help k ≡ false → by_workers new.held ≡ by_workers old.held
  link_alone seat k old new call other = alone_by seat old.held new.held (caller_of state seat k old new call other) (goes_of state seat k old new call).1.follows

  -- what the callers took is told by the entries and the open works, which a worker's turn leaves
  link_helps : (seat : ℕ) (old new : CoreState D) → IsCall state seat kind.WorkerTurn old new → IsCore old.held (state old.disk) → by_workers new.held ≤ by_workers old.held + 1
  link_helps seat old new call keeps =
      let keeps_then = link_keeps state seat kind.WorkerTurn old new call keeps in
      let before = keeps.holds.told.told.booked.by_callers in
      let after = keeps_then.holds.told.told.booked.by_callers in
      let split_before = sum_by-take-drop (λ (n : ℕ). n) old.held.book.seats.quanta callers in
      let split_after = sum_by-take-drop (λ (n : ℕ). n) new.held.book.seats.quanta callers in
      let annals = ap (λ (b : Book). sum b.quanta) call.1.notes.annals in
      let works = ap (λ (l : List WorkSoFar). sum_by (λ (w : WorkSoFar). w.quanta) l) call.1.notes.work in
      ⊎_elim
      (λ (same : sum new.held.book.seats.quanta ≡ sum old.held.book.seats.quanta). omega (arith, same, before, after, split_before, split_after, annals, works))
      (λ (more : sum new.held.book.seats.quanta ≡ sum old.held.book.seats.quanta + 1). omega (arith, more, before, after, split_before, split_after, annals, works))
      call.1.goes.follows.quanta

  link_rises : (seat : ℕ) (k : Kind) (old new : CoreState D) → IsCall state seat k old new → IsCore old.held (state old.disk) → by_workers new.held ≤ by_workers old.held + one_if (is_help k)
  link_rises seat kind.WorkerTurn old new call keeps = link_helps seat old new call keeps
  link_rises seat k old new call keeps = let same = link_alone seat k old new call refl in omega (arith, same)

  chain_rises : (calls : List (Step × CoreState D)) (old new : CoreState D) → AreCalls state calls old new → IsCore old.held (state old.disk) → by_workers new.held ≤ by_workers old.held + helps_in (steps_of calls)
  chain_rises [] old new are keeps = let same = ap (λ (core : CoreState D). by_workers core.held) are in omega (arith, same)
  chain_rises (one ∷ calls) old new are keeps =
      let first = link_rises one.0.seat one.0.kind old one.1 are.0 keeps in
      let rest = chain_rises calls one.1 new are.1 (link_keeps state one.0.seat one.0.kind old one.1 are.0 keeps) in
      omega (arith, first, rest)

  chain_alone : (calls : List (Step × CoreState D)) (old new : CoreState D) → AreCalls state calls old new → helps_in (steps_of calls) ≡ 0 → by_workers new.held ≡ by_workers old.held
  chain_alone [] old new are none = ap (λ (core : CoreState D). by_workers core.held) are
  chain_alone (one ∷ calls) old new are none =
      chain_alone calls one.1 new are.1 (omega (arith, none)) ∙ link_alone one.0.seat one.0.kind old one.1 are.0 (by (is_help one.0.kind) (omega (arith, none)))
    where
      by : (b : Bool) → one_if b ≡ 0 → b ≡ false
      by b h1 = grind (arith, common_steps, nat_tests)

  -- ---- turns

  -- a call of another seat leaves a worker's
  others_turn : (seat any : ℕ) (k : Kind) (old new : CoreState D) → IsCall state seat k old new → any ≢ seat → turns_in any new.held.book ≡ turns_in any old.held.book
  others_turn seat any k old new call apart = ((goes_of state seat k old new call).1.follows.others any apart).turns

  by_other : (seat any : ℕ) (k : Kind) (old new : CoreState D) → IsCall state seat k old new → callers ≤ any → is_help k ≡ false → turns_in any new.held.book ≡ turns_in any old.held.book
  by_other seat any k old new call above other = others_turn seat any k old new call (λ same. let below = caller_of state seat k old new call other in omega (arith, same, above, below))

  link_counts : (seat any : ℕ) (k : Kind) (old new : CoreState D) → IsCall state seat k old new → callers ≤ any → turns_in any new.held.book ≡ cond (is_help k && (seat == any)) (turn_more (turns_in any old.held.book)) (turns_in any old.held.book)
  link_counts seat any kind.WorkerTurn old new call above = ⊎_elim
      (λ (same : any ≡ seat).
      ap (λ (n : ℕ). turns_in n new.held.book) same ∙ call.1.helps ∙ ap (λ (n : ℕ). turn_more (turns_in n old.held.book)) (sym same)
      ∙ ap (λ (b : Bool). cond b (turn_more (turns_in any old.held.book)) (turns_in any old.held.book)) (sym (eq-eqb seat any (sym same))))
      (λ (apart : any ≡ seat → ⊥).
      others_turn seat any kind.WorkerTurn old new call apart ∙ ap (λ (b : Bool). cond b (turn_more (turns_in any old.held.book)) (turns_in any old.held.book)) (sym (ne_eqb seat any (λ same. apart (sym same)))))
      (cases_eq any seat)
  link_counts seat any k old new call above = by_other seat any k old new call above refl

  chain_counts : (any : ℕ) (calls : List (Step × CoreState D)) (old new : CoreState D) → AreCalls state calls old new → callers ≤ any → turns_in any new.held.book ≡ helped_after any (steps_of calls) (turns_in any old.held.book)
  chain_counts any [] old new are above = ap (λ (core : CoreState D). turns_in any core.held.book) are
  chain_counts any (one ∷ calls) old new are above =
      chain_counts any calls one.1 new are.1 above ∙ ap (λ (n : ℕ). helped_after any (steps_of calls) n) (link_counts one.0.seat any one.0.kind old one.1 are.0 above)

  -- a seat that took a turn has one for ever
  helped_some : (any : ℕ) (steps : List Step) (n : ℕ) → 0 < n → 0 < helped_after any steps n
  helped_some any [] n some = some
  helped_some any (step ∷ steps) n some = helped_some any steps _ (by (is_help step.kind && (step.seat == any)))
    where
      by : (b : Bool) → 0 < cond b (turn_more n) n
      by b = grind (arith, common_steps, nat_tests)

  helper : (seat : ℕ) (old new : CoreState D) → IsCall state seat kind.WorkerTurn old new → (callers ≤ seat) × (seat < seats)
  helper seat old new call = grind (arith, common_steps, nat_tests, both_hold, leb-true, ltb-true)

  chain_rests : (calls : List (Step × CoreState D)) (old new : CoreState D) → AreCalls state calls old new → ((seat : ℕ) → callers ≤ seat → seat < seats → turns_in seat new.held.book ≡ 0) → helps_in (steps_of calls) ≡ 0
  chain_rests [] old new are none = refl
  chain_rests (one ∷ calls) old new are none =
      let rest = chain_rests calls one.1 new are.1 none in
      omega (arith, rest, first one.0.kind are.0)
    where
      first : (k : Kind) → IsCall state one.0.seat k old one.1 → one_if (is_help k) ≡ 0
      first kind.WorkerTurn call =
          let seat = helper one.0.seat old one.1 call in
          let after : turns_in one.0.seat one.1.held.book ≡ turn_more (turns_in one.0.seat old.held.book) = call.1.helps in
          let some : 0 < turns_in one.0.seat one.1.held.book = omega (arith, after) in
          let last = helped_some one.0.seat (steps_of calls) (turns_in one.0.seat one.1.held.book) some in
          let is_last = chain_counts one.0.seat calls one.1 new are.1 seat.0 in
          absurd (omega (arith, last, is_last, none one.0.seat seat.0 seat.1))
      first k call = refl

  pub chain_helps : (calls : List (Step × CoreState D)) (start end : CoreState D) → IsUnasked state start → AreCalls state calls start end → ChainHelps state calls start end
  chain_helps calls start end unasked are = record {
    rises = chain_rises calls start end are unasked.keeps;
    alone = chain_alone calls start end are;
    rests = chain_rests calls start end are;
    counted = λ seat above below. chain_counts seat calls start end are above;
  }
