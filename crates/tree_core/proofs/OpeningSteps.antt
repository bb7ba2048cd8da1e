-- The core of a store that was opened and settled.
use Rattle.std.specs.Prelude.{◌≡◌, ◌+◌, List, None, Option, is_some, replicate}
use Rattle.std.proofs.lemmas.Grind.{common_steps}
use Rattle.std.proofs.lemmas.Bool.Decides.{nat_tests}
use Rattle.std.proofs.Common.{arith}
use Rattle.std.proofs.Common.{◌∙◌, refl, ap, sym}
use Rattle.std.proofs.lemmas.Bool.{false≢true}
use Rattle.blsm_model.specs.Book.{Book}
use Rattle.blsm_model.specs.Format.{callers}
use Rattle.disk_trait.specs.Disk.{DiskState}
use Rattle.disk_trait.specs.Moments.{IsTimed}
use Rattle.gear_sched.specs.Gears.{GearState, at_rest}
use Rattle.page_file.specs.Component.{entries_of}
use Rattle.pacing.specs.Pace.{Pace, opened as pace_opened}
use Rattle.scan_view.specs.Hold.{HoldState}
use Rattle.seat_book.specs.State.{BookState, opened_in}
use Rattle.gated_log.specs.Lane.{no_lane}
use Rattle.tree_file.specs.Tree.{Tree, map_of_tree}
use Rattle.tree_log.specs.Log.{LogState}
use Rattle.tree_machine.specs.Machine.{opened}
use Rattle.tree_runs.specs.Runs.{RunsState}
use Rattle.tree_runs.specs.Holding.{StandOver}
use Rattle.core_moves.specs.declared.held.Held.{Held}
use Rattle.core_moves.specs.declared.held.Settled.{Settled}
use Rattle.core_moves.specs.Held.{IsOne}
use Rattle.core_pace.specs.Opening.{IsOpened}
use Rattle.core_pace.proofs.FollowLemmas.{follows_as, follows_none}
use Rattle.core_pace.proofs.OneLemmas.{One, whole}
use Rattle.core_pace.proofs.OpeningLemmas.{opening_is_paced}
use Rattle.core_lists.specs.Standing.{catalogue_of}
use Rattle.core_lists.proofs.OpeningLemmas.{opening_stands}
use Rattle.tree_core.specs.Core.{CoreState, IsCore}
use Rattle.tree_core.specs.Holds.{StandsWhole}
use Rattle.tree_core.specs.Parts.{AreSettled}
use Rattle.tree_core.specs.Steps.{StandsSince}
use Rattle.tree_core.proofs.KeepLemmas.{none_held}
use Rattle.tree_core.proofs.ToldLemmas.{told_of_paced}
use Rattle.tree_core.proofs.LastLemmas.{since_now}
use Rattle.pacing.proofs.Terms.{no_fronts}

module _ {D : Type 0} (state : D → DiskState) (disk : D) (runs : RunsState) (log : LogState) (annals : Book) (holds : List (Option HoldState)) (gears : GearState) (book : BookState) (counts : Settled) (none : holds ≡ replicate callers None) (settled : AreSettled runs log annals (state disk)) (at : gears ≡ at_rest runs.sizes)
    (fresh : book ≡ opened_in annals (runs.catalogue.c1.weight + runs.catalogue.c2.weight) (state disk).faults) where
  abbrev d : DiskState
  d = state disk

  abbrev held : Held
  held = record { runs = runs; log = log; gears = gears; spring = 0; book = book; settled = counts }

  abbrev core : CoreState D
  core = record { disk = disk; held = held; holds = holds }

  abbrev pace : Pace
  pace = pace_opened runs.sizes runs.catalogue.c1.weight runs.catalogue.c2.weight

  is_opened : IsOpened annals d.faults held
  is_opened = grind (arith, common_steps, nat_tests)

  parts : One runs.sizes runs.catalogue.lanes log gears
  parts = grind (arith, common_steps, nat_tests)

  one : IsOne held
  one = whole held parts (follows_as settled.pass refl refl (follows_none runs.catalogue.c1.weight log settled.whole_a.0 settled.whole_a.1))

  paced : Rattle.core_pace.specs.Pacing.IsPacedHeld held pace
  paced = opening_is_paced annals d.faults held is_opened settled.components one settled.room settled.version

  pub opened_core : IsCore held d
  opened_core = record {
    pace = pace;
    holds = record { told = told_of_paced held pace paced; live = λ runs. record { paced = paced; on = record { running = settled.running; long = settled.long } } };
  }

  pub opened_begins : IsTimed d → StandsSince state core core
  opened_begins timed = since_now state core pace timed (told_of_paced held pace paced)

  not_stopped : book.stopped ≡ None
  not_stopped = ap (λ (b : BookState). b.stopped) fresh

  pub opened_stands : (tree : Tree) → StandOver runs tree d → tree.lane_a ≡ no_lane → tree.lane_b ≡ no_lane
      → StandsWhole state (map_of_tree tree) core (opened runs.sizes (entries_of tree.c1) (entries_of tree.c2) (catalogue_of runs.catalogue) d.faults annals.room)
  opened_stands tree over a b =
      let m = opened runs.sizes (entries_of tree.c1) (entries_of tree.c2) (catalogue_of runs.catalogue) d.faults annals.room in
      let stands = opening_stands annals d.faults held pace tree d.bytes is_opened one paced.numbers over.are_of a b settled.components in
      let agrees = Rattle.core_lists.proofs.TestLemmas.tests_agree_with_lists held tree m d.bytes pace stands.at
      stands.paced.stands.sound paced.numbers in
      record {
        paced = stands.paced;
        sizes = refl;
        gears = stands.at.holds.gears;
        book = stands.at.holds.book;
        charge_is = agrees.charge_is;
        runs = λ none. record { fronts = no_fronts; tree = tree; over = over; holds = stands.at.holds; within = stands.within; lanes = stands.lanes };
        rows = λ runs. none_held held holds d m.holds none refl;
        stopped = λ some. absurd (false≢true (sym (ap is_some not_stopped) ∙ some));
      }
