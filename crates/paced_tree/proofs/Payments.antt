-- A payment of the lists is one of the numbers.
use Rattle.std.proofs.Common.{◌≡◌, ◌∙◌, refl, sym, ap, subst, ℕ, ◌+◌, ◌<◌, ◌≤◌, Bool, true, false, List, length, Option, Some, None, sum, arith}
use Rattle.std.proofs.lemmas.Grind.{common_steps}
use Rattle.std.specs.Prelude.{slice_index}
use Rattle.std.proofs.lemmas.Bool.Decides.{nat_tests}
use Rattle.std.proofs.lemmas.List.{length-set}
use Rattle.blsm_model.specs.Format.{callers}
use Rattle.blsm_model.specs.Book.{Book, counted_up}
use Rattle.blsm_model.specs.declared.history.Why.{Why}
use Rattle.gear_sched.specs.Gears.{first_debt, second_debt}
use Rattle.gear_sched.specs.declared.Plan.{Plan}
use Rattle.gear_sched.specs.declared.Plan.TheVariants.{Snow, Deep, Nothing}
use Rattle.pacing.specs.Pace.{Pace, Quantum, with_snow, with_forgiven, counted}
use Rattle.pacing.specs.Kept.{IsPaced}
use Rattle.pacing.specs.Steps.{Pay, MayPay, FitsPlan, plan_of, paid_by, after}
use Rattle.pacing.proofs.Forgiven.{falls_at}
use Rattle.pacing.proofs.Payments.{snow_owed, deep_owed}
use Rattle.pacing.proofs.Promises.{forgiving_keeps}
use Rattle.record_delta.specs.Entries.{entries_weight, up_to}
use Rattle.tree_machine.specs.declared.step.Kind.TheVariants as kind
use Rattle.tree_machine.specs.Merges.{Merge, cursor_after, quantum_of}
use Rattle.tree_machine.specs.Layers.{IsSound}
use Rattle.tree_machine.specs.Machine.{Machine, Seats}
use Rattle.tree_machine.specs.Moves.{count_quantum, pass_quantum_of, deep_quantum_of}
use Rattle.tree_machine.specs.Steps.{
  Outcome,
  Well,
  FailedAfter,
  FailedLooking,
  Broken,
  NoRoom,
  Paid,
  forgive,
  last_write,
  count_for_write,
  pay,
  pay_running,
  pay_planned,
}
use Rattle.tree_machine.proofs.QuantumLemmas.{took_newer}
use Rattle.paced_tree.specs.Booking.{IsBookOf}
use Rattle.paced_tree.specs.Numbers.{taken_of, HasTaken, pace_of}
use Rattle.paced_tree.proofs.Terms.{with_numbers_of, IsToldOf, Makes, snow_of, deep_of}
use Rattle.paced_tree.proofs.BookLaws.{pay_books}
use Rattle.paced_tree.proofs.Quanta.{has_taken_on, snow_is, deep_is}
use Rattle.paced_tree.proofs.Paces.{makes}
use Rattle.paced_tree.proofs.Moves.{forgive_pace}

-- what the pass has taken of table A after its quantum
pub table_taken : (m : Machine) (pass : Merge) → m.merges.pass ≡ Some pass → IsSound m
    → entries_weight (up_to (cursor_after pass.cursor (quantum_of m.gears.sizes.quantum pass m.lists.a m.lists.c1).groups) m.lists.a) ≡ taken_of m.merges.pass m.lists.a + (snow_of (Some pass) m).of_table
table_taken m pass is sound =
    omega (arith, took_newer m.gears.sizes.quantum pass m.lists.a m.lists.c1 sound.layered.sorted_a sound.layered.sorted_c1, ap (λ p. taken_of p m.lists.a) is)

snow_numbers : (m : Machine) (pass : Merge) (seat : ℕ) → m.merges.pass ≡ Some pass → IsSound m
    → with_numbers_of (count_for_write seat (pass_quantum_of (Some pass) seat m)) (counted (with_snow (pace_of m) seat (snow_of (Some pass) m)) seat) ≡ counted (with_snow (pace_of m) seat (snow_of (Some pass) m)) seat
snow_numbers m pass seat is sound = ap (λ (n : ℕ). record (counted (with_snow (pace_of m) seat (snow_of (Some pass) m)) seat) { taken = n }) (table_taken m pass is sound)

-- ---- which merge is owed to runs

pub pass_of : (m : Machine) → IsSound m → m.gears.pass ≡ true → (pass : Merge) × (m.merges.pass ≡ Some pass)
pass_of m sound runs = grind (arith, common_steps, nat_tests)

pub deep_run_of : (m : Machine) → IsSound m → m.gears.deep ≡ true → (deep : Merge) × (m.merges.deep ≡ Some deep)
deep_run_of m sound runs = grind (arith, common_steps, nat_tests)

owed_runs : (b : Bool) (debts : List ℕ) (seat : ℕ) → (b ≡ false → sum debts ≡ 0) → 0 < slice_index debts seat → b ≡ true
owed_runs b debts seat h1 h2 = grind (arith, common_steps, nat_tests)

-- a seat with something to pay once what may be forgiven is owed it before
owed_before : (p : Pace) (seat : ℕ) → (plan_of (with_forgiven p seat) seat ≡ Nothing → ⊥) → 0 < first_debt p.gears seat + second_debt p.gears seat
owed_before p seat owes = grind (arith, common_steps, nat_tests, falls_at, snow_owed, deep_owed)

pub sound_forgiven : (m : Machine) (seat : ℕ) → IsSound m → IsSound (forgive seat m)
sound_forgiven m seat sound = record { layered = sound.layered; light = sound.light; charged = sound.charged; pass = sound.pass; deep = sound.deep }

-- ---- a payment

module _ (m : Machine) (seat : ℕ) (sound : IsSound m) (paced : IsPaced (pace_of m)) (t : IsToldOf m) (caller : seat < callers) where
  abbrev n : Machine
  n = forgive seat m

  same : pace_of n ≡ with_forgiven (pace_of m) seat
  same = forgive_pace m seat sound

  kept : IsPaced (pace_of n)
  kept = subst IsPaced (sym same) (forgiving_keeps (pace_of m) seat paced caller)

  some : 1 ≤ m.gears.sizes.quantum
  some = let fits = paced.within.sizes.quantum in omega arith

  -- a quantum of this plan, after which the machine has its numbers
  paid_makes : (plan : Plan) (quantum : Quantum) (then : Machine) → plan_of (pace_of n) seat ≡ plan → (plan ≡ Nothing → ⊥) → FitsPlan plan (pace_of n) quantum
      → with_numbers_of then (paid_by plan (pace_of n) seat quantum) ≡ paid_by plan (pace_of n) seat quantum
      → then.book ≡ counted_up m.book (last_write seat m.book.entries) 1 → then.seats ≡ count_quantum seat m.seats → HasTaken then.merges.pass then.gears.pass_taken → Makes seat kind.Pay Paid m then
  paid_makes plan quantum then is some fits numbers book seats started =
      makes seat kind.Pay Paid m then (paid_by plan (pace_of n) seat quantum) (quantum, may, sym after_is)
      (record { numbers = numbers; booked = booked; weights = (lengths plan).0; quanta = (lengths plan).1 }) started
    where
      none : plan_of (with_forgiven (pace_of m) seat) seat ≡ Nothing → ⊥
      none nothing = some (sym is ∙ ap (λ (p : Pace). plan_of p seat) same ∙ nothing)

      may : MayPay (pace_of m) seat quantum
      may = record {
        caller = caller;
        owes = owed_before (pace_of m) seat none;
        fits = subst (λ (p : Pace). FitsPlan (plan_of p seat) p quantum) same (subst (λ (x : Plan). FitsPlan x (pace_of n) quantum) (sym is) fits);
      }

      after_is : after (pace_of m) (Pay seat quantum) ≡ paid_by plan (pace_of n) seat quantum
      after_is = ap (λ (p : Pace). paid_by (plan_of p seat) p seat quantum) (sym same) ∙ ap (λ (x : Plan). paid_by x (pace_of n) seat quantum) is

      booked : IsBookOf then.book then.seats (paid_by plan (pace_of n) seat quantum)
      booked =
          subst (λ (b : Book). IsBookOf b then.seats (paid_by plan (pace_of n) seat quantum)) (sym book)
          (subst (λ (s : Seats). IsBookOf (counted_up m.book (last_write seat m.book.entries) 1) s (paid_by plan (pace_of n) seat quantum)) (sym seats)
          (subst (λ (p : Pace). IsBookOf (counted_up m.book (last_write seat m.book.entries) 1) (count_quantum seat m.seats) p) after_is
          (pay_books m.book m.seats (pace_of m) seat quantum paced may none t.booked)))

      lengths : (x : Plan) → (length (paid_by x (pace_of n) seat quantum).weights ≡ callers) × (length (paid_by x (pace_of n) seat quantum).quanta ≡ callers)
      lengths Snow = (kept.weights, length-set (pace_of n).quanta seat _ ∙ kept.quanta)
      lengths Deep = (kept.weights, length-set (pace_of n).quanta seat _ ∙ kept.quanta)
      lengths Nothing = (kept.weights, kept.quanta)

  snow_makes : plan_of (pace_of n) seat ≡ Snow → Makes seat kind.Pay Paid m (count_for_write seat (pass_quantum_of n.merges.pass seat n))
  snow_makes is =
      let sound_n = sound_forgiven m seat sound in
      let pass = pass_of n sound_n (owed_runs n.gears.pass n.gears.first_debts seat kept.no_pass (snow_owed (first_debt n.gears seat) (second_debt n.gears seat) is)) in
      let has : HasTaken (Some pass.0) m.gears.pass_taken = subst (λ p. HasTaken p m.gears.pass_taken) pass.1 t.started in
      let taken = subst (λ p. Rattle.tree_machine.specs.Layers.IsPassCounted m.lists.a m.lists.c1 m.gears.pass m.gears.pass_c1 m.gears.pass_memory m.gears.pass_admitted m.gears.pass_taken p) pass.1 sound.pass in
      subst (λ p. Makes seat kind.Pay Paid m (count_for_write seat (pass_quantum_of p seat n))) (sym pass.1)
      (paid_makes Snow (snow_of (Some pass.0) n) (count_for_write seat (pass_quantum_of (Some pass.0) seat n)) is (λ none. absurd (no_snow none)) (snow_is n pass.0 pass.1 sound_n some) (snow_numbers n pass.0 seat pass.1 sound_n) refl refl
      (has_taken_on m.gears.sizes.quantum pass.0 m.lists.a m.lists.c1 m.gears.pass_taken sound.layered.sorted_a sound.layered.sorted_c1 some taken.2 has))
    where
      no_snow : Snow ≡ Nothing → ⊥
      no_snow none = grind (arith, common_steps, nat_tests)

  deep_makes : plan_of (pace_of n) seat ≡ Deep → Makes seat kind.Pay Paid m (count_for_write seat (deep_quantum_of n.merges.deep seat n))
  deep_makes is =
      let sound_n = sound_forgiven m seat sound in
      let deep = deep_run_of n sound_n (owed_runs n.gears.deep n.gears.second_debts seat kept.no_deep (deep_owed (first_debt n.gears seat) (second_debt n.gears seat) is)) in
      subst (λ p. Makes seat kind.Pay Paid m (count_for_write seat (deep_quantum_of p seat n))) (sym deep.1)
      (paid_makes Deep (deep_of (Some deep.0) n) (count_for_write seat (deep_quantum_of (Some deep.0) seat n)) is (λ none. absurd (no_deep none)) (deep_is n deep.0 deep.1 sound_n some) refl refl refl t.started)
    where
      no_deep : Deep ≡ Nothing → ⊥
      no_deep none = grind (arith, common_steps, nat_tests)

  pub payment_makes : (outcome : Outcome) → Makes seat kind.Pay (pay m seat outcome).answer m (pay m seat outcome).state
  payment_makes outcome = by m.stopped outcome
    where
      told : IsToldOf n
      told = record { booked = t.booked; started = t.started }

      planned : (plan : Plan) → plan_of (pace_of n) seat ≡ plan → (e : Outcome) → (let ended = pay_planned plan n seat e in Makes seat kind.Pay ended.answer m ended.state)
      planned Nothing is e = record { made = same; told = told }
      planned Snow is (FailedAfter commits faults) = record { made = same; told = record { booked = t.booked; started = t.started } }
      planned Snow is (Broken page) = record { made = same; told = record { booked = t.booked; started = t.started } }
      planned Snow is (FailedLooking faults) = snow_makes is
      planned Snow is Well = snow_makes is
      planned Snow is NoRoom = snow_makes is
      planned Deep is (FailedAfter commits faults) = record { made = same; told = record { booked = t.booked; started = t.started } }
      planned Deep is (Broken page) = record { made = same; told = record { booked = t.booked; started = t.started } }
      planned Deep is (FailedLooking faults) = deep_makes is
      planned Deep is Well = deep_makes is
      planned Deep is NoRoom = deep_makes is

      by : (o : Option Why) (e : Outcome) → (let ended = pay_running o m seat e in Makes seat kind.Pay ended.answer m ended.state)
      by (Some why) e = record { made = refl; told = t }
      by None e = planned (plan_of (pace_of n) seat) refl e
