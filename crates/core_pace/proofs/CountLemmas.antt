-- The counts of a paced core are small.
use Rattle.std.proofs.Common.{◌≡◌, ◌∙◌, ℕ, ◌+◌, ◌*◌, ◌^◌, ◌≤◌, ap, arith}
use Rattle.std.proofs.lemmas.List.Sums.{sum_by-take-le}
use Rattle.std.proofs.Math.Nat.{mul-le-mul_left}
use Rattle.blsm_model.specs.Format.{callers, most_entries}
use Rattle.blsm_model.specs.Geometry.{capacity}
use Rattle.blsm_model.specs.Sizes.{Sizes, IsGeometry}
use Rattle.blsm_model.proofs.OpLemmas.{few_counted}
use Rattle.gear_sched.specs.Gears.{GearState}
use Rattle.pacing.proofs.Counts.{merged, passed}
use Rattle.pacing.proofs.Numbers.{small}
use Rattle.pacing.proofs.Promises.{all_fits}
use Rattle.pacing.proofs.Spent.{quanta_are_few}
use Rattle.pacing.specs.Pace.{Pace, passes_begun, rotations}
use Rattle.seat_book.specs.State.{BookState}
use Rattle.core_pace.specs.Pacing.{IsRunBook, HasPace, most_opened}
use Rattle.core_moves.specs.declared.held.Held.{Held}
use Rattle.core_moves.specs.Held.{IsOne}
use Rattle.core_moves.specs.Needs.{AreSmall}
use Rattle.pacing.proofs.Terms.{Fits}

-- the capacity is a small number
pub capacity_small : (sizes : Sizes) → IsGeometry sizes → capacity sizes ≤ 2 ^ 33
capacity_small sizes fits = let few = small sizes.ratio (omega (arith, fits.ratio)) (omega (arith, fits.ratio)) sizes.half (omega (arith, fits.half)) in omega (arith, few)

few_more : (n : ℕ) → n ≤ most_entries → 2 * n + 3 ≤ 131077
few_more n le = omega (arith, le)

few_writes : (book : BookState) (pace : Pace) → IsRunBook book pace → pace.writes ≤ most_entries
few_writes book pace told = omega (arith, told.booked.by_number, told.entries, few_counted book.book.entries)

-- and so are all quanta together
pub work_is_small : (book : BookState) (pace : Pace) → IsRunBook book pace → pace.work ≤ 2 ^ 51
work_is_small book pace told =
    let quanta = quanta_are_few pace told.paced told.spent told.few in
    let product = mul-le-mul_left (capacity pace.gears.sizes) (few_more pace.writes (few_writes book pace told)) in
    let narrow = capacity_small pace.gears.sizes told.paced.within.sizes in
    omega (arith, quanta, product, narrow)

-- also between the moves of an admission
pub counts_are_small : (held : Held) (pace : Pace) → HasPace held pace → IsOne held → IsRunBook held.book pace → held.runs.catalogue.version ≤ most_opened + (pace.passes + pace.deeps + rotations pace) → AreSmall held
counts_are_small held pace p one told low = record {
  version = omega (arith, low, turns, deeps, passes, writes, told.few.begins);
  passes = omega (arith, p.passes, passes, writes, told.few.begins);
  deeps = omega (arith, p.deeps, turns, deeps, passes, writes, told.few.begins);
  quanta = omega (arith, told.booked.worked, worked);
  entries = omega (arith, told.booked.worked, told.booked.by_callers, sum_by-take-le (λ (n : ℕ). n) held.book.seats.quanta callers, worked);
  pass_taken = λ is. omega (arith, p.pass_left is, fits.inputs1, ap (λ (g : GearState). g.pass_taken) p.gears, quantum, told.paced.within.sizes.quantum);
  deep_taken = λ is. omega (arith, p.deep_left is, fits.inputs2, ap (λ (g : GearState). g.deep_taken) p.gears, quantum, told.paced.within.sizes.quantum);
}
  where
    fits : Fits pace
    fits = all_fits pace told.paced.within

    quantum : pace.gears.sizes.quantum ≡ held.runs.sizes.quantum
    quantum = ap (λ (s : Sizes). s.quantum) (ap (λ (g : GearState). g.sizes) p.gears ∙ one.gears)

    writes : pace.writes ≤ most_entries
    writes = few_writes held.book pace told

    passes : pace.passes ≤ passes_begun pace
    passes = passed pace

    deeps : pace.deeps ≤ rotations pace
    deeps = merged pace

    turns : rotations pace ≤ pace.passes + 1
    turns = told.few.turns

    worked : pace.work ≤ 2 ^ 51
    worked = work_is_small held.book pace told
