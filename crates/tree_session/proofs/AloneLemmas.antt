-- The workers' turns and quanta, which no caller's call counts up.
use Rattle.std.specs.Prelude.{suc, drop, slice_index_or, sum, sum_by}
use Rattle.std.proofs.Common.{◌≡◌, ◌∙◌, ℕ, ◌+◌, ◌<◌, List, [], ◌∷◌, refl, sym, arith}
use Rattle.std.proofs.lemmas.List.{get_or-drop}
use Rattle.std.proofs.lemmas.List.Sums.{sum_by-cons}
use Rattle.blsm_model.specs.Facts.{Follows}
use Rattle.blsm_model.specs.Format.{callers}
use Rattle.core_moves.specs.declared.held.Held.{Held}
use Rattle.seat_book.specs.State.{BookState}
use Rattle.tree_core.specs.Core.{facts_of_held}
use Rattle.tree_session.specs.Faults.{LeavesWorkers}

abbrev pub by_workers : Held → ℕ
by_workers held = sum (drop callers held.book.seats.quanta)

-- lists that have the same at each place, or nothing
pub sums_same : {A : Type 0} (f : A → ℕ) (none : A) → f none ≡ 0 → (l m : List A) → ((i : ℕ) → f (slice_index_or m i none) ≡ f (slice_index_or l i none)) → sum_by f m ≡ sum_by f l
sums_same f none zero [] [] same = refl
sums_same f none zero [] (y ∷ m) same = omega (arith, zero, same 0, sums_same f none zero [] m (λ i. same (suc i)), sum_by-cons f y m)
sums_same f none zero (x ∷ l) [] same = omega (arith, zero, same 0, sums_same f none zero l [] (λ i. same (suc i)), sum_by-cons f x l)
sums_same f none zero (x ∷ l) (y ∷ m) same = omega (arith, same 0, sums_same f none zero l m (λ i. same (suc i)), sum_by-cons f x l, sum_by-cons f y m)

-- a call of a caller leaves each worker's turns and quanta
pub workers_by : (seat : ℕ) (old new : Held) → seat < callers → Follows seat (facts_of_held old) (facts_of_held new) → LeavesWorkers old.book new.book
workers_by seat old new below follows = record {
  turns = λ worker above. (follows.others worker (λ same. omega (arith, same, below, above))).turns;
  quanta = λ worker above. (follows.others worker (λ same. omega (arith, same, below, above))).quanta;
}

pub workers_none : (book : BookState) → LeavesWorkers book book
workers_none book = record { turns = λ worker above. refl; quanta = λ worker above. refl }

pub workers_then : {old mid new : BookState} → LeavesWorkers old mid → LeavesWorkers mid new → LeavesWorkers old new
workers_then first second = record {
  turns = λ worker above. second.turns worker above ∙ first.turns worker above;
  quanta = λ worker above. second.quanta worker above ∙ first.quanta worker above;
}

-- and so their quanta together
pub quanta_alone : (old new : Held) → LeavesWorkers old.book new.book → by_workers new ≡ by_workers old
quanta_alone old new leaves = sums_same (λ n. n) 0 refl (drop callers old.book.seats.quanta) (drop callers new.book.seats.quanta)
    (λ i. get_or-drop callers new.book.seats.quanta i 0 ∙ leaves.quanta (callers + i) (omega arith) ∙ sym (get_or-drop callers old.book.seats.quanta i 0))

pub alone_by : (seat : ℕ) (old new : Held) → seat < callers → Follows seat (facts_of_held old) (facts_of_held new) → by_workers new ≡ by_workers old
alone_by seat old new below follows = quanta_alone old new (workers_by seat old new below follows)
