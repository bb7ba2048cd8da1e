-- What was read of a store may be settled.
use Rattle.std.specs.Prelude.{◌≡◌, ℕ, ◌≤◌, Bool, List, [], Option, None, ◌+◌, length}
use Rattle.std.proofs.Common.{◌∙◌, refl, ap, sym, subst, arith}
use Rattle.std.proofs.Math.Seq.{take-length}
use Rattle.blsm_model.specs.Sizes.{Sizes}
use Rattle.blsm_model.specs.Geometry.{capacity, high_mark}
use Rattle.blsm_model.specs.Lanes.{a_of, b_of}
use Rattle.catalog_swap.specs.declared.catalog.Catalog.{Catalog}
use Rattle.gated_log.specs.Lane.{MayEnd}
use Rattle.gated_log.proofs.LaneLaws.{may_end}
use Rattle.gated_log.specs.Lanes.{end_of}
use Rattle.record_delta.specs.Entries.{Entries, entries_weight, replayed}
use Rattle.tree_file.specs.Tree.{Tree, FitsSizes, HoldsTree}
use Rattle.tree_log.specs.Log.{LogState, IsLogOf, IsRestOf}
use Rattle.tree_log.proofs.RestLemmas.{rest_whole}
use Rattle.tree_reading.specs.declared.found.Found.{Found}
use Rattle.tree_reading.specs.Damage.{catalogue_weight, room_for_a, room_for_b}
use Rattle.tree_reading.specs.Reading.{HoldsFound, IsFound}
use Rattle.tree_runs.specs.declared.resumable.Resumable.{Resumable}
use Rattle.tree_runs.specs.Ahead.{IsAhead, IsAheadOver}
use Rattle.tree_runs.specs.Runs.{GuideState, RunsState, first_tags, guide_at, opened_from}
use Rattle.tree_runs.specs.Holding.{AreGuided, AreOf, AreTagged}
use Rattle.page_space.specs.Space.{SpaceState}
use Rattle.tree_settling.specs.Settling.{HasBegun, IsDeepLight}
use Rattle.recover_open.specs.Opening.{BeginsIn, weight_found}

abbrev runs_of : Found → List GuideState → RunsState
runs_of found guides = opened_from found.geometry found.catalogue found.space guides found.ahead

abbrev log_in : Found → LogState
log_in found = record { a = found.a; b = found.b; lanes = found.lanes }

-- a deep merge that an opening goes on with, and what is left for it, weigh no more than C1' and C2
abbrev pub BeginsLight : Type 0
BeginsLight = (sizes : Sizes) (catalogue : Catalog) (space : SpaceState) (guides : List GuideState) (ahead : Option Resumable)
    → IsAhead first_tags.deep catalogue.progress (catalogue.c1x.weight + catalogue.c2.weight) ahead
    → IsDeepLight (opened_from sizes catalogue space guides ahead)

-- the log of a tree with these lanes
log_is : (found : Found) (tree : Tree) → tree.catalogue ≡ found.catalogue → found.lanes.roles ≡ found.catalogue.lanes
    → IsRestOf (replayed tree.lane_a.entries) found.a
    → found.b.entries ≡ replayed tree.lane_b.entries → end_of found.lanes (a_of found.catalogue.lanes) ≡ tree.lane_a.end
    → end_of found.lanes (b_of found.catalogue.lanes) ≡ tree.lane_b.end → MayEnd tree.lane_a → MayEnd tree.lane_b → IsLogOf tree (log_in found)
log_is found tree catalogue roles a b end_a end_b may_a may_b = record {
  roles = roles ∙ sym (ap (λ (c : Catalog). c.lanes) catalogue);
  end_a = ap (λ (r : List ℕ). end_of found.lanes (a_of r)) roles ∙ end_a;
  end_b = ap (λ (r : List ℕ). end_of found.lanes (b_of r)) roles ∙ end_b;
  may_a = may_a;
  may_b = may_b;
  a = a;
  b = b;
}

begun : BeginsLight → (found : Found) (guides : List GuideState) (honest : Bool) (file : List ℕ) → IsFound found honest file → HasBegun (runs_of found guides) (log_in found)
begun light found guides honest file is =
    let a = is.replayed.a_is in
    let b = is.replayed.b_is in
    let tree : Tree = record { catalogue = found.catalogue; c1 = []; c1x = []; c2 = []; output = []; lane_a = is.replayed.lane_a; lane_b = is.replayed.lane_b } in
    let high = high_mark found.geometry in
    let cap = capacity found.geometry in
    let components = catalogue_weight found.catalogue in
    let held_a : entries_weight found.a.entries ≤ room_for_a found.geometry components =
    subst (λ (es : Entries). entries_weight es ≤ room_for_a found.geometry components) (ap replayed (take-length is.replayed.lane_a.entries)
    ∙ sym a.table_is)
    (a.within (length is.replayed.lane_a.entries)) in
    let held_b : entries_weight found.b.entries ≤ room_for_b found.geometry components is.replayed.lane_a.entries =
    subst (λ (es : Entries). entries_weight es ≤ room_for_b found.geometry components is.replayed.lane_a.entries)
    (ap replayed (take-length is.replayed.lane_b.entries) ∙ sym b.table_is) (b.within (length is.replayed.lane_b.entries)) in
    record {
      pass = refl;
      roles = is.head.valid.lanes;
      sizes = is.sizes;
      lanes = tree;
      lanes_are = refl;
      log_of = log_is found tree refl is.roles
          (rest_whole (replayed tree.lane_a.entries) found.a is.whole_a a.table_is) b.table_is a.place_is b.place_is a.may_end b.may_end;
      whole_a = is.whole_a;
      mark = is.head.fits.mark;
      high = omega (arith, held_a, held_b, ap entries_weight a.table_is, is.whole_a.1);
      full = omega (arith, is.head.fits.full, held_a, held_b, ap entries_weight a.table_is, is.whole_a.1);
      deep = light found.geometry found.catalogue found.space guides found.ahead is.ahead;
      reserved_a = omega (arith, is.reserved_a);
      reserved_b = omega (arith, is.reserved_b);
    }

-- all that was found is within the capacity
pub found_full : BeginsLight → (found : Found) (honest : Bool) (file : List ℕ) → IsFound found honest file → weight_found found ≤ capacity
    found.geometry
found_full light found honest file is = omega (arith, (begun light found [] honest file is).full)

pub has_begun : BeginsLight → (found : Found) (guides : List GuideState) (honest : Bool) (file : List ℕ) (runs : RunsState) (log : LogState) → IsFound found honest file → runs ≡ runs_of found guides → log ≡ log_in found → HasBegun runs log
has_begun light found guides honest file runs log is runs_are log_are =
    subst (λ (r : RunsState). HasBegun r log) (sym runs_are) (subst (λ (l : LogState). HasBegun (runs_of found guides) l) (sym log_are) (begun light found guides honest file is))

-- what an opening says of each tree in a file
abbrev pub OpensOver : Found → List GuideState → RunsState → Type 0
OpensOver found guides runs = (tree : Tree) (file : List ℕ) → HoldsTree found.geometry tree file → tree.catalogue ≡ found.catalogue
    → AreTagged found.space first_tags.c1 tree.c1 → AreTagged found.space first_tags.c1x tree.c1x → AreTagged found.space first_tags.c2 tree.c2
    → AreGuided guides first_tags tree
    → IsAheadOver found.geometry file found.space first_tags.deep (guide_at guides first_tags.deep) tree.c1x tree.c2 found.ahead → AreOf runs tree
    file

pub begins_in : (found : Found) (guides : List GuideState) (file : List ℕ) (runs : RunsState) (log : LogState) → (found.a.floor ≡ None) × (found.a.dropped ≡ 0) → found.lanes.roles ≡ found.catalogue.lanes → (holds : HoldsFound found file) → runs ≡ runs_of found guides → log ≡ log_in found
    → OpensOver found guides runs → AreGuided guides first_tags holds.tree
    → IsAheadOver found.geometry file found.space first_tags.deep (guide_at guides first_tags.deep) holds.tree.c1x holds.tree.c2 found.ahead
    → BeginsIn runs log holds.tree file
begins_in found guides file runs log whole roles holds runs_are log_are opens guided over =
    let t = holds.tree in
    record {
      are_of = opens t file holds.holds holds.catalogue (λ n has. (holds.c1_tag n).1 has) (λ n has. (holds.c1x_tag n).1 has)
          (λ n has. (holds.c2_tag n).1 has) guided over;
      log_of = subst (IsLogOf t) (sym log_are)
          (log_is found t holds.catalogue roles
          (rest_whole (replayed t.lane_a.entries) found.a whole holds.table_a) holds.table_b holds.end_a holds.end_b
          (may_end found.geometry (a_of t.catalogue.lanes) t.lane_a file holds.holds.lane_a)
          (may_end found.geometry (b_of t.catalogue.lanes) t.lane_b file holds.holds.lane_b));
      fits = subst (λ (s : Sizes). FitsSizes s t) (sym (ap (λ (r : RunsState). r.sizes) runs_are)) holds.fits;
    }
