-- A machine has one pace.
use Rattle.std.proofs.Common.{◌≡◌, ◌∙◌, refl, sym, ap, subst, ℕ, List, length}
use Rattle.std.specs.Prelude.{slice_index}
use Rattle.std.proofs.lemmas.List.FromFn.{fill_by_all}
use Rattle.blsm_model.specs.Format.{callers}
use Rattle.pacing.specs.Pace.{Pace}
use Rattle.pacing.specs.Kept.{IsPaced}
use Rattle.tree_machine.specs.declared.step.Kind.{Kind}
use Rattle.tree_machine.specs.Machine.{Machine}
use Rattle.tree_machine.specs.Steps.{Answer}
use Rattle.paced_tree.specs.Booking.{IsBookOf}
use Rattle.paced_tree.specs.Made.{IsMadeBy}
use Rattle.paced_tree.specs.Numbers.{by_caller, last_weight, last_quanta, HasTaken, pace_of}
use Rattle.paced_tree.proofs.Terms.{with_numbers_of, IsPace, Makes}

list_is : (f : ℕ → ℕ) (xs : List ℕ) → length xs ≡ callers → ((seat : ℕ) → slice_index xs seat ≡ f seat) → xs ≡ by_caller f
list_is f xs long each = fill_by_all f xs callers 0 long (λ k below. each k)

pub the_pace : (m : Machine) (p : Pace) → IsPace m p → p ≡ pace_of m
the_pace m p is =
    let weights : p.weights ≡ by_caller (last_weight m.book) = list_is (last_weight m.book) p.weights is.weights (λ seat. (is.booked.last seat).0) in
    let quanta : p.quanta ≡ by_caller (last_quanta m.book) = list_is (last_quanta m.book) p.quanta is.quanta (λ seat. (is.booked.last seat).1) in
    sym is.numbers
    ∙ ap (λ (xs : List ℕ). record (with_numbers_of m p) { weights = xs }) weights
    ∙ ap (λ (xs : List ℕ). record (with_numbers_of m p) { weights = by_caller (last_weight m.book); quanta = xs }) quanta
    ∙ ap (λ (n : ℕ). record (with_numbers_of m p) { weights = by_caller (last_weight m.book); quanta = by_caller (last_quanta m.book); admitted = n }) is.booked.by_weight
    ∙ ap (λ (n : ℕ). record (pace_of m) { work = n; writes = p.writes }) is.booked.worked
    ∙ ap (λ (n : ℕ). record (pace_of m) { writes = n }) is.booked.by_number

-- and it is that
pub its_pace : (m : Machine) → IsPaced (pace_of m) → IsBookOf m.book m.seats (pace_of m) → IsPace m (pace_of m)
its_pace m paced booked = record { numbers = refl; booked = booked; weights = paced.weights; quanta = paced.quanta }

-- what a step makes of the numbers, and tells
pub makes : (seat : ℕ) (kind : Kind) (answer : Answer) (m n : Machine) (next : Pace) → IsMadeBy seat kind answer (pace_of m) next → IsPace n next → HasTaken n.merges.pass n.gears.pass_taken → Makes seat kind answer m n
makes seat kind answer m n next made is started = record {
  made = subst (λ (p : Pace). IsMadeBy seat kind answer (pace_of m) p) (the_pace n next is) made;
  told = record { booked = subst (λ (p : Pace). IsBookOf n.book n.seats p) (the_pace n next is) is.booked; started = started };
}
