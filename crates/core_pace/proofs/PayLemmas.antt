-- A seat that pays has a merge to pay and a write that it pays for, and its payment is one of the pacing.
use Rattle.std.proofs.Common.{◌≡◌, ◌∙◌, ℕ, ◌+◌, ◌<◌, ◌≤◌, Bool, true, false, cond, not, ◌||◌, length, refl, ap, sym, subst, arith}
use Rattle.std.proofs.lemmas.Grind.{common_steps}
use Rattle.std.proofs.lemmas.Bool.Decides.{nat_tests}
use Rattle.std.specs.Prelude.{◌==◌, sum, slice_index}
use Rattle.blsm_model.specs.Format.{callers, most_entries}
use Rattle.blsm_model.specs.Book.{entry_at}
use Rattle.blsm_model.specs.Geometry.{work_bound}
use Rattle.blsm_model.specs.Histories.{writes_of}
use Rattle.blsm_model.specs.Legal.{total_weight}
use Rattle.blsm_model.specs.Sizes.{Sizes, IsGeometry}
use Rattle.gear_sched.specs.Gears.{GearState, Owes, first_debt, second_debt, plan_for}
use Rattle.gear_sched.specs.declared.Plan.{Plan}
use Rattle.gear_sched.specs.declared.Plan.TheVariants.{Snow, Deep, Nothing}
use Rattle.pacing.specs.Ends.{AreEnds}
use Rattle.pacing.specs.Pace.{Pace, Quantum, rotations, counted, with_forgiven, with_snow, with_deep, pass_over, deep_over}
use Rattle.tree_log.specs.Log.{end_of_a, end_of_b}
use Rattle.pacing.specs.Kept.{IsPaced, quanta_owed}
use Rattle.pacing.specs.Counts.{IsCounted}
use Rattle.pacing.specs.Steps.{Pay, MayPay, FitsPlan, plan_of, paid_by}
use Rattle.pacing.proofs.Runs.{step_keeps}
use Rattle.pacing.proofs.Counts.{step_counts, counted_few}
use Rattle.pacing.proofs.Spent.{step_spends}
use Rattle.pacing.proofs.Numbers.{one_at_least}
use Rattle.pacing.proofs.Promises.{forgiving_keeps}
use Rattle.pacing.proofs.Payments.{snow_owed, deep_owed}
use Rattle.paced_tree.specs.Booking.{IsBookOf}
use Rattle.paced_tree.specs.Numbers.{is_last}
use Rattle.paced_tree.specs.Made.{IsPaidBy}
use Rattle.paced_tree.proofs.BookLaws.{pay_books}
use Rattle.seat_book.specs.State.{BookState, quantum_counted_in, paid_in}
use Rattle.tree_machine.specs.Steps.{Paid, last_write}
use Rattle.seat_book.specs.Places.{HasWrite}
use Rattle.catalog_swap.specs.declared.catalog.Catalog.{Catalog}
use Rattle.core_moves.specs.declared.held.Held.{Held}
use Rattle.core_moves.specs.Held.{IsOne}
use Rattle.core_moves.specs.Moves.{with_debts_forgiven, with_book}
use Rattle.core_pace.specs.Pacing.{HasPace, IsPacedHeld, most_opened, IsRunBook}
use Rattle.core_pace.specs.Events.{TakesByPlan, plan_in}
use Rattle.core_pace.proofs.TestLemmas.{each_test_agrees}
use Rattle.core_pace.proofs.QuantumLemmas.{snow_has_pace, deep_has_pace, count_has_pace}
use Rattle.core_pace.proofs.OneLemmas.{each_move_keeps_one}
use Rattle.core_pace.proofs.BookLemmas.{rebooked, one_rebooked}
use Rattle.core_pace.proofs.EventLemmas.{forgiving_is_paced, ends_stay, lanes_stay}
use Rattle.core_pace.proofs.FollowLemmas.{quantum_drops}
use Rattle.core_pace.proofs.Terms.{snow_quantum, deep_quantum, PlansRun, MayPayIn, Pays, IsBetween}

-- a merge that isn't over runs, and something is left
runs_on : (runs : Bool) (left : ℕ) → (not runs || (left == 0)) ≡ false → (runs ≡ true) × (0 < left)
runs_on runs left h1 = grind (arith, common_steps, nat_tests)

-- the seat owes to a pass that isn't over
snow_runs : (pace : Pace) (seat : ℕ) → IsPaced pace → seat < callers → plan_of (with_forgiven pace seat) seat ≡ Snow → pass_over pace ≡ false
snow_runs pace seat paced caller is = grind (arith, common_steps, nat_tests)

-- or to such a deep merge
deep_runs : (pace : Pace) (seat : ℕ) → IsPaced pace → seat < callers → plan_of (with_forgiven pace seat) seat ≡ Deep → deep_over pace ≡ false
deep_runs pace seat paced caller is = grind (arith, common_steps, nat_tests)

pub each_plan_runs : (held : Held) (pace : Pace) (seat : ℕ) → HasPace held pace → IsPaced pace → seat < callers → PlansRun held pace seat
each_plan_runs held pace seat p paced caller = grind (arith, common_steps, nat_tests, runs_on, each_test_agrees, snow_runs, deep_runs)

-- ---- whose write it is

-- Some quanta are owed by a seat that pays.
some_owed : (pace : Pace) (seat : ℕ) → IsPaced pace → seat < callers → (plan_of (with_forgiven pace seat) seat ≡ Nothing → ⊥) → 0 < quanta_owed (with_forgiven pace seat) seat
some_owed pace seat paced caller owes = grind (arith, common_steps, nat_tests, one_at_least, snow_owed, snow_runs, deep_owed, deep_runs)

-- a seat without a write is bound to none
bound_to_none : (sizes : Sizes) → IsGeometry sizes → work_bound sizes 0 ≡ 0
bound_to_none sizes fits = grind (arith, common_steps, nat_tests)

-- a seat that pays has a write that it pays for
pub payers_wrote : (held : Held) (pace : Pace) (seat : ℕ) → IsRunBook held.book pace → seat < callers → (plan_of (with_forgiven pace seat) seat ≡ Nothing → ⊥) → HasWrite seat held.book.book
payers_wrote held pace seat told caller owes = by (is_last held.book.book seat) refl
  where
    by : (b : Bool) → is_last held.book.book seat ≡ b → HasWrite seat held.book.book
    by true is = is
    by false is =
        let kept = forgiving_keeps pace seat told.paced caller in
        let weight : slice_index pace.weights seat ≡ 0 = (told.booked.last seat).0 ∙ ap (λ (b : Bool). cond b (total_weight (writes_of (entry_at held.book.book (last_write seat held.book.book.entries)).op)) 0) is in
        let bound = kept.bound seat in
        let none = ap (λ (w : ℕ). work_bound pace.gears.sizes w) weight ∙ bound_to_none pace.gears.sizes told.paced.within.sizes in
        let some = some_owed pace seat told.paced caller owes in
        absurd (omega (arith, bound, none, some))

-- ---- a payment

-- a plan to pay a merge isn't the one to pay none
abbrev IsSome : Plan → Type 0
IsSome Nothing = ⊥
IsSome _ = Unit {0}

snow_some : Snow ≡ Nothing → ⊥
snow_some is = subst (λ (plan : Plan). IsSome plan) is tt

deep_some : Deep ≡ Nothing → ⊥
deep_some is = subst (λ (plan : Plan). IsSome plan) is tt

-- what the quantum leaves, where the plan is known
record Took (taken : Held) (before : Pace) (seat : ℕ) (plan : Plan) (quantum : Quantum) : Type 0 where
  pub fits : FitsPlan plan before quantum
  pub numbers : HasPace taken (paid_by plan before seat quantum)
  pub one : IsOne taken
  pub ends : AreEnds (paid_by plan before seat quantum) (end_of_a taken.log) (end_of_b taken.log)
  pub version : taken.runs.catalogue.version ≤ most_opened + ((paid_by plan before seat quantum).passes + (paid_by plan before seat quantum).deeps + rotations (paid_by plan before seat quantum))
  pub some : plan ≡ Nothing → ⊥

module _ (seat n : ℕ) (old taken new : Held) (pace : Pace) (k : IsPacedHeld old pace) (may : MayPayIn seat old) (pays : Pays seat n old taken new) where
  abbrev forgave : Pace
  forgave = with_forgiven pace seat

  abbrev lighter : Held
  lighter = with_debts_forgiven seat old

  between : IsBetween lighter forgave
  between = (forgiving_is_paced seat old pace may.caller k).0

  kept : IsPaced forgave
  kept = (forgiving_is_paced seat old pace may.caller k).1

  plan_is : plan_of forgave seat ≡ plan_in seat old
  plan_is = ap (λ (g : GearState). plan_for (first_debt g seat) (second_debt g seat)) between.numbers.gears

  took_by : (plan : Plan) → plan_of forgave seat ≡ plan → TakesByPlan plan seat n lighter taken → (quantum : Quantum) × Took taken forgave seat plan quantum
  took_by Nothing is takes = absurd takes
  took_by Snow is takes =
      let some = (each_plan_runs old pace seat k.numbers k.told.paced may.caller).pass is in
      let snow = snow_has_pace seat n lighter taken forgave between.numbers between.one kept.within some.1 takes in (
        snow_quantum n lighter taken,
        record {
          fits = snow.0;
          numbers = count_has_pace seat taken (with_snow forgave seat (snow_quantum n lighter taken)) snow.1;
          one = (each_move_keeps_one lighter taken between.one).snow seat n takes;
          ends = lanes_stay lighter taken forgave (counted (with_snow forgave seat (snow_quantum n lighter taken)) seat) (quantum_drops seat n lighter taken between.one takes).lanes refl refl refl refl between.ends;
          version = omega (arith, between.version, ap (λ (c : Catalog). c.version) takes.others.catalogue);
          some = snow_some;
        },
      )
  took_by Deep is takes =
      let deep = deep_has_pace seat n lighter taken forgave between.numbers between.one kept.within takes in (
        deep_quantum n taken,
        record {
          fits = deep.0;
          numbers = count_has_pace seat taken (with_deep forgave seat (deep_quantum n taken)) deep.1;
          one = (each_move_keeps_one lighter taken between.one).deep seat n takes;
          ends = ends_stay lighter taken forgave (counted (with_deep forgave seat (deep_quantum n taken)) seat) takes.log refl refl refl refl between.ends;
          version = omega (arith, between.version, ap (λ (c : Catalog). c.version) takes.others.catalogue);
          some = deep_some;
        },
      )

  took : (quantum : Quantum) × Took taken forgave seat (plan_in seat old) quantum
  took = took_by (plan_in seat old) plan_is pays.takes

  abbrev next : Pace
  next = paid_by (plan_of forgave seat) forgave seat took.0

  may_pay : MayPay pace seat took.0
  may_pay = record {
    caller = may.caller;
    owes = subst (λ (g : GearState). Owes g seat) (sym k.numbers.gears) may.owes;
    fits = subst (λ (plan : Plan). FitsPlan plan forgave took.0) (sym plan_is) took.1.fits;
  }

  book_by : (plan : Plan) → TakesByPlan plan seat n lighter taken → taken.book ≡ quantum_counted_in seat old.book
  book_by Nothing takes = absurd takes
  book_by Snow takes = takes.book
  book_by Deep takes = takes.book

  book_is : taken.book ≡ quantum_counted_in seat old.book
  book_is = book_by (plan_in seat old) pays.takes

  booked : IsBookOf (paid_in seat taken.book).book (paid_in seat taken.book).seats next
  booked =
      subst (λ (b : BookState). IsBookOf (paid_in seat b).book (paid_in seat b).seats next) (sym book_is)
      (pay_books old.book.book old.book.seats pace seat took.0 k.told.paced may_pay (λ is. took.1.some (sym plan_is ∙ is)) k.told.booked)

  counts : IsCounted next
  counts = step_counts pace (Pay seat took.0) k.told.paced k.counted may_pay

  paid_held : IsPacedHeld (with_book (paid_in seat taken.book) taken) next
  paid_held = record {
    numbers = rebooked taken (paid_in seat taken.book) next refl (subst (λ (plan : Plan). HasPace taken (paid_by plan forgave seat took.0)) (sym plan_is) took.1.numbers);
    told = record {
      booked = booked;
      paced = step_keeps pace (Pay seat took.0) k.told.paced may_pay;
      few = counted_few next counts;
      spent = step_spends pace (Pay seat took.0) k.told.paced k.told.spent may_pay;
      entries = subst (λ (b : BookState). length b.book.entries + sum b.book.room.entries ≤ most_entries) (sym book_is) k.told.entries;
    };
    counted = counts;
    one = one_rebooked taken (paid_in seat taken.book) took.1.one;
    version = subst (λ (plan : Plan). taken.runs.catalogue.version ≤ most_opened + ((paid_by plan forgave seat took.0).passes + (paid_by plan forgave seat took.0).deeps + rotations (paid_by plan forgave seat took.0))) (sym plan_is) took.1.version;
    ends = subst (λ (plan : Plan). AreEnds (paid_by plan forgave seat took.0) (end_of_a taken.log) (end_of_b taken.log)) (sym plan_is) took.1.ends;
  }

  paid : IsPacedHeld new next
  paid = subst (λ (h : Held). IsPacedHeld h next) (sym pays.counted) paid_held

  is_paid : IsPaidBy Paid seat pace next
  is_paid = (took.0, may_pay, refl)

pub payment_is_paced : (seat n : ℕ) (old taken new : Held) (pace : Pace) → IsPacedHeld old pace → MayPayIn seat old → Pays seat n old taken new → (next : Pace) × IsPaidBy Paid seat pace next × IsPacedHeld new next
payment_is_paced seat n old taken new pace k may pays =
    let quantum = (took seat n old taken new pace k may pays).0 in
    (paid_by (plan_of (with_forgiven pace seat) seat) (with_forgiven pace seat) seat quantum, is_paid seat n old taken new pace k may pays, paid seat n old taken new pace k may pays)
