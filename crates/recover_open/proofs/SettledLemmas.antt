-- What was begun with may be settled, and what that leads to.
use Rattle.std.proofs.lemmas.Bool.Decides.{nat_tests}
use Rattle.std.proofs.lemmas.Grind.{common_steps}
use Rattle.std.specs.Prelude.{◌≡◌, ℕ, ◌+◌, ◌≤◌, IsTrue, List, length, Result, Ok, Err, IfOk, IfErr}
use Rattle.std.proofs.Common.{◌∙◌, refl, ap, sym, subst, arith}
use Rattle.blsm_model.specs.declared.key.Key.{Key}
use Rattle.blsm_model.specs.declared.row.Value.{Value}
use Rattle.blsm_model.specs.Geometry.{file_length}
use Rattle.blsm_model.specs.Sizes.{Sizes}
use Rattle.catalog_swap.specs.Slots.{AreSameSlots}
use Rattle.catalog_swap.specs.declared.catalog.Catalog.{Catalog}
use Rattle.disk_trait.specs.Disk.{DiskState, Only}
use Rattle.disk_trait.specs.Effects.{Affects}
use Rattle.disk_trait.proofs.EffectLemmas.{affects_wider}
use Rattle.tree_file.specs.Tree.{Tree, HoldsTree, map_of_tree}
use Rattle.tree_log.specs.Log.{LogState, weight_of_tables}
use Rattle.tree_log.proofs.RestLemmas.{rest_weighs}
use Rattle.tree_reading.specs.declared.found.Found.{Found}
use Rattle.tree_reading.specs.declared.found.Unreadable.{Unreadable}
use Rattle.tree_reading.specs.declared.found.Unreadable.TheVariants.{Fault}
use Rattle.tree_reading.specs.Reading.{HoldsFound}
use Rattle.tree_runs.specs.Runs.{RunsState, AreRunning}
use Rattle.tree_settling.specs.Settling.{
  HasBegun,
  IsSettled,
  KeepsMap,
  LeavesMaps,
  MaySettle,
  SettlesOn,
  ShowsMap,
  anywhere,
  components_of,
  quantum_calls,
  settling_calls,
  settling_weight,
}
use Rattle.recover_open.specs.declared.beginning.Begun.{Begun}
use Rattle.recover_open.specs.Opening.{BeginsIn, IsReady, StandsEmpty, TellsSettled, tables_of, weight_found, weight_of_tree}
use Rattle.recover_open.proofs.TreeLemmas.{spares_fault, why_fault}

pub may_settle : (runs : RunsState) (log : LogState) (d : DiskState) → HasBegun runs log → AreRunning d.is_honest d.bytes runs
    → (IsTrue d.tells_bytes → length d.bytes ≡ file_length runs.sizes) → MaySettle runs log d
may_settle runs log d begun running long = record { running = running; long = long; begun = begun }

-- the slots of a file are its own
same_slots : (file : List ℕ) → AreSameSlots file file
same_slots file = record { slot = λ version. refl }

-- A disk of which a crash leaves what a read gives stands on what was found.
shows_begun : (runs : RunsState) (log : LogState) (tree : Tree) (d : DiskState) → Only d.bytes d.images → BeginsIn runs log tree d.bytes → ShowsMap runs log (map_of_tree tree) d
shows_begun runs log tree d only begins =
    let here = begins.are_of.holds in
    record {
      tree = tree;
      over = record {
        stands = record {
          reads = here;
          each = λ c left. subst (HoldsTree runs.sizes tree) (sym (only c left)) here;
          settled = record { newest = here.newest; each = λ c left. subst (AreSameSlots d.bytes) (sym (only c left)) (same_slots d.bytes) };
        };
        are_of = begins.are_of;
      };
      log_of = begins.log_of;
      fits = begins.fits;
      map_is = refl;
    }

-- what was begun with weighs what the tree in the file does
begun_weighs : (runs : RunsState) (log : LogState) (image : Tree) (file : List ℕ) → BeginsIn runs log image file → components_of runs.catalogue + weight_of_tables log ≡ weight_of_tree image
begun_weighs runs log image file h1 = grind (arith, common_steps, nat_tests, rest_weighs)

stands_empty : (runs runs' : RunsState) (log log' : LogState) (image : Tree) (old new : DiskState) → IsTrue old.is_honest → BeginsIn runs log image old.bytes
    → ShowsMap runs log (map_of_tree image) old → SettlesOn runs runs' log log' old new → IsSettled runs' log' → StandsEmpty runs' image new
stands_empty runs runs' log log' image old new honest begins showed on settled =
    let shows = on.shows (map_of_tree image) honest showed in
    record {
      tree = shows.tree;
      over = shows.over;
      lane_a = (settled.lanes shows.tree shows.log_of).0;
      lane_b = (settled.lanes shows.tree shows.log_of).1;
      map_is = shows.map_is;
      light = omega (arith, on.light, begun_weighs runs log image old.bytes begins);
    }

-- ---- from what was found on

-- What was found was begun with, and then settled.
pub record IsSettledFrom (found : Found) (result : Result Begun Unreadable) (runs : RunsState) (log : LogState) (old new : DiskState) : Type 0 where
  pub sizes : runs.sizes ≡ found.geometry
  pub catalogue : runs.catalogue ≡ found.catalogue
  pub tables : weight_of_tables log ≡ tables_of found
  pub begins : IsTrue old.is_honest → (holds : HoldsFound found old.bytes) → BeginsIn runs log holds.tree old.bytes
  pub leaves : LeavesMaps (settling_calls runs.sizes (settling_weight runs log)) runs log old new
  pub on : IfOk result (λ ready. SettlesOn runs ready.runs log ready.log old new)
  pub settled : IfOk result (λ ready. IsSettled ready.runs ready.log × (ready.runs.catalogue.version ≤ runs.catalogue.version + 5))
  pub why : (pairs : List (Key × Value)) → IsTrue old.is_honest → ShowsMap runs log pairs old → IfErr result (λ why. why ≡ Fault)

module _ {found : Found} {result : Result Begun Unreadable} {runs : RunsState} {log : LogState} {old new : DiskState}
    (is : IsSettledFrom found result runs log old new) where
  stands_by : (image : Tree) (r : Result Begun Unreadable) → IsTrue old.is_honest → BeginsIn runs log image old.bytes → ShowsMap runs log
      (map_of_tree image) old
      → IfOk r (λ ready. SettlesOn runs ready.runs log ready.log old new) → IfOk r
      (λ ready. IsSettled ready.runs ready.log × (ready.runs.catalogue.version ≤ runs.catalogue.version + 5))
      → IfOk r (λ begun. StandsEmpty begun.runs image new)
  stands_by image (Ok ready) honest begins shows on settled = stands_empty runs ready.runs log ready.log image old new honest begins shows on
      settled.0
  stands_by image (Err why) honest begins shows on settled = tt

  pub settled_tells : IsTrue old.is_honest → Only old.bytes old.images → (holds : HoldsFound found old.bytes) → TellsSettled found.geometry holds.tree result old new
  settled_tells honest only holds =
      let pairs = map_of_tree holds.tree in
      let begins = is.begins honest holds in
      let shown = shows_begun runs log holds.tree old only begins in
      let faults = is.why pairs honest shown in
      record {
        keeps = subst (λ (s : Sizes). KeepsMap s pairs old new) is.sizes (is.leaves.keeps pairs honest shown);
        stands = stands_by holds.tree result honest begins shown is.on is.settled;
        why = why_fault result old.bytes faults;
        spares = spares_fault old new result faults;
      }

  ready_by : (r : Result Begun Unreadable) → IfOk r (λ ready. SettlesOn runs ready.runs log ready.log old new)
      → IfOk r (λ ready. IsSettled ready.runs ready.log × (ready.runs.catalogue.version ≤ runs.catalogue.version + 5))
      → IfOk r (λ begun. IsReady found.geometry found.catalogue.version begun.runs begun.log new)
  ready_by (Ok ready) on settled = record {
    may = on.may;
    settled = settled.0;
    sizes_are = on.sizes ∙ is.sizes;
    commits = omega (arith, settled.1, ap (λ (c : Catalog). c.version) is.catalogue);
  }
  ready_by (Err why) on settled = tt

  pub settled_ready : IfOk result (λ begun. IsReady found.geometry found.catalogue.version begun.runs begun.log new)
  settled_ready = ready_by result is.on is.settled

  pub settled_effect : Affects anywhere (file_length found.geometry) (settling_calls found.geometry (weight_found found)) old new
  settled_effect =
      affects_wider (λ i here. here) (omega (arith, ap file_length is.sizes))
      (omega (arith, ap quantum_calls is.sizes, ap components_of is.catalogue, is.tables)) is.leaves.effect
