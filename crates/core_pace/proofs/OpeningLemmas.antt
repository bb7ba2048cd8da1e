-- A core that was just opened has the pace of an opening.
use Rattle.std.proofs.Common.{ℕ, ◌≤◌, arith}
use Rattle.std.proofs.lemmas.Grind.{common_steps}
use Rattle.std.proofs.lemmas.Bool.Decides.{nat_tests}
use Rattle.std.specs.Prelude.{sum}
use Rattle.blsm_model.specs.Format.{most_entries}
use Rattle.blsm_model.specs.Book.{Book}
use Rattle.pacing.specs.Pace.{Pace, opened}
use Rattle.pacing.specs.Laws.{IsOpening}
use Rattle.pacing.proofs.Counts.{opened_counted}
use Rattle.pacing.proofs.Ends.{opened_ends}
use Rattle.tree_log.specs.Log.{end_of_a, end_of_b}
use Rattle.paced_tree.specs.Booking.{IsBookOf}
use Rattle.tree_machine.specs.Machine.{fresh_seats}
use Rattle.core_moves.specs.declared.held.Held.{Held}
use Rattle.core_pace.specs.Pacing.{HasPace, IsRunBook, IsPacedHeld, most_opened}
use Rattle.core_pace.specs.Opening.{IsOpened}
use Rattle.core_moves.specs.Held.{IsOne}

module _ (annals : Book) (faults : ℕ) (held : Held) (o : IsOpened annals faults held) (fits : IsOpening held.runs.sizes held.runs.catalogue.c1.weight held.runs.catalogue.c2.weight) where
  abbrev pace : Pace
  pace = opened held.runs.sizes held.runs.catalogue.c1.weight held.runs.catalogue.c2.weight

  numbers : HasPace held pace
  numbers = grind (arith, common_steps, nat_tests)

  booked : IsBookOf annals fresh_seats pace
  booked = grind (arith, common_steps, nat_tests)

  told : sum annals.room.entries ≤ most_entries → IsRunBook held.book pace
  told few = grind (arith, common_steps, nat_tests)

pub opening_is_paced : (annals : Book) (faults : ℕ) (held : Held) → IsOpened annals faults held → IsOpening held.runs.sizes held.runs.catalogue.c1.weight held.runs.catalogue.c2.weight → IsOne held
    → sum annals.room.entries ≤ most_entries → held.runs.catalogue.version ≤ most_opened → IsPacedHeld held (opened held.runs.sizes held.runs.catalogue.c1.weight held.runs.catalogue.c2.weight)
opening_is_paced annals faults held o fits one few version = record {
  numbers = numbers annals faults held o fits;
  told = told annals faults held o fits few;
  counted = opened_counted held.runs.sizes held.runs.catalogue.c1.weight held.runs.catalogue.c2.weight;
  one = one;
  ends = opened_ends held.runs.sizes held.runs.catalogue.c1.weight held.runs.catalogue.c2.weight (end_of_a held.log) (end_of_b held.log) o.end_a o.end_b;
  version = omega (arith, version);
}
