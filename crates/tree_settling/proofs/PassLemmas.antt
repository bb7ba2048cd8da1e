-- A pass that takes table A and C1 and is swapped in.
use Rattle.std.proofs.Common.{◌≡◌, ◌∙◌, ℕ, ◌+◌, ◌*◌, ◌≤◌, ◌<◌, Bool, List, [], ◌∷◌, Option, None, Some, refl, ap, sym, subst, arith}
use Rattle.std.proofs.lemmas.Grind.{common_steps}
use Rattle.std.proofs.lemmas.Bool.Decides.{nat_tests}
use Rattle.std.specs.Prelude.{IsTrue, is_some, if◌then◌else◌}
use Rattle.std.proofs.lemmas.Bool.{false≢true, leb-false}
use Rattle.disk_trait.specs.Disk.{DiskState}
use Rattle.disk_trait.specs.Effects.{Affects}
use Rattle.disk_trait.proofs.EffectLemmas.{affects_counted, affects_wider}
use Rattle.disk_trait.specs.Moments.{IsTimed, LeavesOnly}
use Rattle.blsm_model.specs.Sizes.{Sizes}
use Rattle.blsm_model.specs.Geometry.{c1_mark, capacity, file_length, high_mark}
use Rattle.blsm_model.specs.Lanes.{AreRoles, a_of, b_of, spare_of}
use Rattle.blsm_model.specs.declared.component.Component.{Component}
use Rattle.blsm_model.specs.declared.key.Key.{Key}
use Rattle.blsm_model.specs.declared.row.Value.{Value}
use Rattle.gated_log.specs.Lane.{no_lane}
use Rattle.catalog_swap.specs.declared.catalog.Catalog.{Catalog}
use Rattle.deep_merge.specs.Merge.{DeepState, started as deep_started}
use Rattle.mem_table.specs.Tables.{Contents, IsWhole}
use Rattle.page_file.specs.Component.{RunPage, entries_of}
use Rattle.record_delta.specs.Entries.{Entries, above, entries_weight, folded_over, replayed}
use Rattle.merge_ends.proofs.GroupLemmas.{above_none}
use Rattle.snow_merge.specs.Pass.{SnowState}
use Rattle.snow_merge.proofs.PassLemmas.{above_light, pushed_all}
use Rattle.tree_file.specs.Tree.{Tree, HoldsTree, FitsSizes}
use Rattle.tree_file.specs.Places.{HoldsEither, StandsOn, TurnsRoles}
use Rattle.tree_log.specs.Log.{LogState, IsLogOf, listed_in_a, turned_log, weight_of_tables}
use Rattle.tree_runs.specs.Runs.{GuideState, RunsState, AreRunning, Fits, guide_at, left_for_deep, left_for_pass, made_by_deep, made_by_pass, pass_begun}
use Rattle.tree_runs.specs.Holding.{AreOf, CountsMore, HasAllAhead, IsDeepOver, IsPassOver, IsPassSwapped, LeavesSwapped, StandOver, SwapsPass}
use Rattle.tree_runs.specs.Holding.{cursor_of_pass, is_full, progress_of, with_pass_run}
use Rattle.tree_settling.specs.Counting.{CountsQuanta, HasPassed, TakeQuanta}
use Rattle.tree_settling.specs.Settling.{
  CallsFew,
  IsTableOf,
  merge_calls,
  settling_weight,
  taking_calls,
  LeavesMaps,
  MaySettle,
  MergesGoOn,
  ShowsMap,
  anywhere,
  components_of,
}
use Rattle.tree_settling.proofs.LightLemmas.{light_unnamed}
use Rattle.tree_settling.proofs.NextLemmas.{Follows, pass_follows}
use Rattle.tree_settling.proofs.StepLemmas.{honest_still, kept_swapped, stays_long, table_of}
use Rattle.tree_settling.proofs.TakenLemmas.{goes_then}

-- ---- a pass that begins

-- it runs over the trees that the components are of
pub begun_over : (memory : ℕ) (runs begun : RunsState) (tree : Tree) (d : DiskState) → begun ≡ pass_begun memory runs
    → ((tree : Tree) (file : List ℕ) → AreOf runs tree file → AreOf begun tree file) → StandOver runs tree d → StandOver begun tree d
begun_over memory runs begun tree d is lists over = record {
  stands = subst (λ (s : Sizes). StandsOn s tree d) (sym (ap (λ (r : RunsState). r.sizes) is)) over.stands;
  are_of = lists tree d.bytes over.are_of;
}

-- and has room
pub begun_fits : (memory : ℕ) (runs begun : RunsState) (log : LogState) (a : Contents) (d : DiskState) → begun ≡ pass_begun memory runs → a ≡ log.a → MaySettle runs log d → Fits begun a.entries
begun_fits memory runs begun log a d is table may =
    subst (λ (r : RunsState). Fits r a.entries) (sym is)
    (subst (λ (t : Contents). Fits (pass_begun memory runs) t.entries) (sym table)
    (record {
      live = omega (arith, may.begun.full);
      made = omega (arith, may.begun.full, may.begun.deep.run, above_light None log.a.entries);
      pass = omega (arith, may.begun.mark, may.begun.high, above_light None log.a.entries);
    }))

-- its run will weigh no more than what it takes
pub begun_light : (memory : ℕ) (runs begun : RunsState) (a : Entries) → begun ≡ pass_begun memory runs
    → (made_by_pass begun.pass).weight + left_for_pass begun.pass a ≤ entries_weight a + runs.catalogue.c1.weight
begun_light memory runs begun a is =
    subst (λ (r : RunsState). (made_by_pass r.pass).weight + left_for_pass r.pass a ≤ entries_weight a + runs.catalogue.c1.weight) (sym is) (omega (arith, above_light None a))

-- all of which is left for it
begun_all : (memory : ℕ) (runs begun : RunsState) (a : Entries) → begun ≡ pass_begun memory runs
    → entries_weight a + runs.catalogue.c1.weight ≤ left_for_pass begun.pass a
begun_all memory runs begun a is =
    subst (λ (r : RunsState). entries_weight a + runs.catalogue.c1.weight ≤ left_for_pass r.pass a) (sym is)
    (omega (arith, ap entries_weight (above_none a)))

-- and weighs nothing yet
begun_empty : (memory : ℕ) (runs begun : RunsState) → begun ≡ pass_begun memory runs → (made_by_pass begun.pass).weight ≡ 0
begun_empty memory runs begun is = ap (λ (r : RunsState). (made_by_pass r.pass).weight) is

-- ---- a pass that is done

-- What it wrote weighs what its run does.
pass_weighs : (sizes : Sizes) (runs : RunsState) (guide : GuideState) (pass : Option SnowState) (a : Entries) (c1 : List RunPage) (file : List ℕ) → IsTrue (is_some pass) → left_for_pass pass a ≡ 0
    → IsPassOver sizes file runs.space guide pass a c1 → entries_weight (folded_over a (entries_of c1)) ≡ (made_by_pass pass).weight
pass_weighs sizes runs guide None a c1 file some none over = absurd (false≢true some)
pass_weighs sizes runs guide (Some snow) a c1 file some none over =
    let pushed = pushed_all sizes file runs.space snow guide.filter guide.fences a (entries_of c1) none over in
    ap entries_weight (sym pushed.entries_are) ∙ pushed.held.weight_is

-- ---- the next catalogue, by the numbers

next_weighs : (sizes : Sizes) (made : Component) (now : Catalog) → components_of (with_pass_run sizes made None now) ≤ made.weight + now.c1x.weight + now.c2.weight
next_weighs sizes made now = grind (arith, common_steps, nat_tests)

next_below : (sizes : Sizes) (made : Component) (now : Catalog) → 0 < c1_mark sizes → (with_pass_run sizes made None now).c1.weight < c1_mark sizes
next_below sizes made now some = grind (arith, common_steps, nat_tests)

-- the lanes' roles turn
roles_turned : (roles : List ℕ) → AreRoles roles → AreRoles (b_of roles ∷ spare_of roles ∷ a_of roles ∷ [])
roles_turned roles are = grind (arith, common_steps, nat_tests)

-- the deep merge that begins has all of C1' and C2 before it
next_deep : (sizes : Sizes) (tag : ℕ) (made : Component) (now : Catalog) (deep : Option DeepState) → deep ≡ None
    → (made_by_deep (if is_full sizes made then Some (deep_started tag made now.c2) else deep)).weight + left_for_deep (if is_full sizes made then Some (deep_started tag made now.c2) else deep)
    ≤ (with_pass_run sizes made None now).c1x.weight + (with_pass_run sizes made None now).c2.weight
next_deep sizes tag made now deep rests = grind (arith, common_steps, nat_tests)

-- C1 is the run, or nothing
next_first : (sizes : Sizes) (made : Component) (now : Catalog) → (with_pass_run sizes made None now).c1.weight ≤ made.weight
next_first sizes made now = grind (arith, common_steps, nat_tests)

-- a deep merge begins only where the run is as heavy as C1's mark
next_marks : (sizes : Sizes) (tag : ℕ) (made : Component) (now : Catalog) (deep : Option DeepState) → deep ≡ None
    → IsTrue (is_some (if is_full sizes made then Some (deep_started tag made now.c2) else deep)) → c1_mark sizes ≤ made.weight
next_marks sizes tag made now deep rests runs = grind (arith, common_steps, nat_tests)

-- ---- the swap

-- what is known of it once it has answered
pub record IsPassSwap (done : Bool) (memory : ℕ) (a : Contents) (runs begun mid new : RunsState) (log : LogState) (before d after : DiskState) : Type 0 where
  pub timed : IsTimed d
  pub table : a ≡ log.a
  pub whole : IsWhole log.a
  pub rests : runs.deep ≡ None
  pub begins : begun ≡ pass_begun memory runs
  pub begun_lists : (tree : Tree) (file : List ℕ) → AreOf runs tree file → AreOf begun tree file
  pub goes : MergesGoOn a.entries begun mid before d
  pub deep : mid.deep ≡ begun.deep
  pub some : IsTrue (is_some mid.pass)
  pub none : left_for_pass mid.pass a.entries ≡ 0
  pub lists : (tree : Tree) → IsTrue d.is_honest → StandOver mid tree d → HasAllAhead mid.pass a.entries tree
      → (next : Tree) × IsPassSwapped (is_full mid.sizes (made_by_pass mid.pass)) tree next × LeavesSwapped mid new tree next done d after
  pub few : CallsFew (taking_calls runs.sizes (left_for_pass begun.pass a.entries)) before d
  pub effect : Affects anywhere (file_length mid.sizes) 9 d after

module _ {done : Bool} {memory : ℕ} {a : Contents} {runs begun mid new : RunsState} {log : LogState} {before d after : DiskState} (swap : IsPassSwap done memory a runs begun mid new log before d after) where
  pub same_sizes : mid.sizes ≡ runs.sizes
  same_sizes = swap.goes.sizes ∙ ap (λ (r : RunsState). r.sizes) swap.begins

  same_catalogue : mid.catalogue ≡ runs.catalogue
  same_catalogue = swap.goes.catalogue ∙ ap (λ (r : RunsState). r.catalogue) swap.begins

  rests_still : mid.deep ≡ None
  rests_still = swap.deep ∙ ap (λ (r : RunsState). r.deep) swap.begins ∙ swap.rests

  -- the disk stands on the tree when the pass begins, and before the swap
  over_begun : (pairs : List (Key × Value)) (shows : ShowsMap runs log pairs before) → StandOver begun shows.tree before
  over_begun pairs shows = begun_over memory runs begun shows.tree before swap.begins swap.begun_lists shows.over

  is_table : (pairs : List (Key × Value)) (shows : ShowsMap runs log pairs before) → IsTableOf a.entries shows.tree
  is_table pairs shows = table_of shows.tree log a swap.table swap.whole shows.log_of

  over_mid : (pairs : List (Key × Value)) → IsTrue before.is_honest → (shows : ShowsMap runs log pairs before) → StandOver mid shows.tree d
  over_mid pairs honest shows = swap.goes.stands shows.tree honest (is_table pairs shows) (over_begun pairs shows)

  -- and leaves it for one that follows it
  next_of : (pairs : List (Key × Value)) → IsTrue before.is_honest → (shows : ShowsMap runs log pairs before)
      → (next : Tree) × IsPassSwapped (is_full mid.sizes (made_by_pass mid.pass)) shows.tree next
      × LeavesSwapped mid new shows.tree next done d after × Follows runs.sizes shows.tree next
  next_of pairs honest shows =
      let over = over_mid pairs honest shows in
      let is = is_table pairs shows in
      let x = swap.lists shows.tree (honest_still swap.goes.effect honest) over (ap (above (cursor_of_pass mid.pass)) is) in
      let weighs : entries_weight (folded_over (replayed shows.tree.lane_a.entries) (entries_of shows.tree.c1)) ≡ (made_by_pass mid.pass).weight =
      pass_weighs mid.sizes mid (guide_at mid.guides mid.tags.pass) mid.pass (replayed shows.tree.lane_a.entries) shows.tree.c1 d.bytes swap.some
      (ap (left_for_pass mid.pass) is ∙ swap.none) over.are_of.pass in
      let empty : shows.tree.c1x ≡ [] = subst (λ (o : Option DeepState). IsDeepOver mid.sizes d.bytes mid.space (guide_at mid.guides mid.tags.deep) o shows.tree.c1x shows.tree.c2) rests_still over.are_of.deep in (
        x.0,
        x.1,
        x.2,
        pass_follows (is_full mid.sizes (made_by_pass mid.pass)) runs.sizes shows.tree x.0 d.bytes (subst (λ (s : Sizes). HoldsTree s shows.tree d.bytes) same_sizes over.are_of.holds) shows.fits empty
            (λ light. omega (arith, weighs, leb-false (c1_mark mid.sizes) (made_by_pass mid.pass).weight light, ap c1_mark same_sizes))
            x.1,
      )

  pub pass_leaves : LeavesMaps (1 * merge_calls runs.sizes (settling_weight runs log)) runs log before after
  pass_leaves = record {
    keeps = λ pairs honest shows.
        let x = next_of pairs honest shows in
        let left = x.2 in
        kept_swapped runs.sizes shows.tree x.0 pairs before d after shows.fits shows.map_is x.3
        (subst (λ (s : Sizes). LeavesOnly before d (HoldsTree s shows.tree)) (ap (λ (r : RunsState). r.sizes) swap.begins)
        (swap.goes.leaves shows.tree honest (is_table pairs shows)
        (over_begun pairs shows)))
        (subst (λ (s : Sizes). LeavesOnly d after (HoldsEither s shows.tree x.0)) same_sizes left.each)
        (subst (λ (s : Sizes). HoldsEither s shows.tree x.0 after.bytes) same_sizes left.either.reads);
    effect =
        affects_wider {most = 1 * merge_calls runs.sizes (settling_weight runs log)} (λ i here. here)
        (omega (arith, ap (λ (r : RunsState). file_length r.sizes) swap.begins)) (omega arith)
        (affects_counted (omega (
          arith,
          swap.few,
          swap.effect.calls,
          begun_light memory runs begun a.entries swap.begins,
          ap
              (λ (t : Contents). entries_weight t.entries) swap.table,
        )) (goes_then swap.timed swap.goes swap.effect));
  }

  -- the log turns with the tree
  pub pass_shows : (log' : LogState) → IsTrue done → SwapsPass mid new
      → ((tree next : Tree) → TurnsRoles tree.catalogue next.catalogue → next.lane_a ≡ tree.lane_b → next.lane_b ≡ no_lane → IsLogOf tree log
      → IsLogOf next log')
      → (pairs : List (Key × Value)) → IsTrue before.is_honest → ShowsMap runs log pairs before → ShowsMap new log' pairs after
  pass_shows log' well swaps turns pairs honest shows =
      let x = next_of pairs honest shows in
      let over = x.2.stands well in
      let catalogue : mid.catalogue ≡ shows.tree.catalogue = same_catalogue ∙ sym shows.over.are_of.catalogue in
      record {
        tree = x.0;
        over = over;
        log_of =
            turns shows.tree x.0
            (ap (λ (k : Catalog). k.lanes) (over.are_of.catalogue ∙ swaps.catalogue) ∙ ap (λ (k : Catalog). b_of k.lanes ∷ spare_of k.lanes ∷ a_of k.lanes ∷ []) catalogue)
            x.1.lane_a x.1.lane_b shows.log_of;
        fits = subst (λ (s : Sizes). FitsSizes s x.0) (sym (swaps.sizes ∙ same_sizes)) x.3.fits;
        map_is = x.3.map_is ∙ shows.map_is;
      }

  -- no deep merge runs, so its commit names nothing
  pub next_catalogue : SwapsPass mid new → new.catalogue ≡ with_pass_run mid.sizes (made_by_pass mid.pass) None runs.catalogue
  next_catalogue swaps =
      swaps.catalogue
      ∙ ap (λ (d : Option DeepState). with_pass_run mid.sizes (made_by_pass mid.pass) (progress_of mid.catalogue d) mid.catalogue) rests_still
      ∙ ap (with_pass_run mid.sizes (made_by_pass mid.pass) None) same_catalogue

  -- what the pass had before it
  made_light : (made_by_pass mid.pass).weight ≤ left_for_pass begun.pass a.entries
  made_light = omega (arith, swap.goes.pass, swap.none, begun_empty memory runs begun swap.begins)

  left_within : left_for_pass begun.pass a.entries ≤ runs.catalogue.c1.weight + listed_in_a log
  left_within = omega (arith, begun_light memory runs begun a.entries swap.begins, ap (λ (t : Contents). entries_weight t.entries) swap.table)

  -- its run weighs no more than table A and C1, which give place to it
  pub pass_light : (log' : LogState) → SwapsPass mid new → log' ≡ turned_log log → components_of new.catalogue + weight_of_tables log' ≤ components_of runs.catalogue + weight_of_tables log
  pass_light log' swaps turned =
      omega (
        arith,
        ap components_of (next_catalogue swaps),
        next_weighs mid.sizes (made_by_pass mid.pass) runs.catalogue,
        ap weight_of_tables turned,
        made_light,
        left_within,
      )

  pub pass_may : (log' : LogState) → MaySettle runs log before → SwapsPass mid new
      → ((tree next : Tree) → TurnsRoles tree.catalogue next.catalogue → next.lane_a ≡ tree.lane_b → next.lane_b ≡ no_lane → IsLogOf tree log
      → IsLogOf next log')
      → log' ≡ turned_log log → AreRunning after.is_honest after.bytes new → MaySettle new log' after
  pass_may log' may swaps turns turned running =
      let sizes : new.sizes ≡ runs.sizes = swaps.sizes ∙ same_sizes in
      let catalogue : new.catalogue ≡ with_pass_run mid.sizes (made_by_pass mid.pass) None runs.catalogue = next_catalogue swaps in
      let next : Tree = record may.begun.lanes { catalogue = new.catalogue; lane_a = may.begun.lanes.lane_b; lane_b = no_lane } in
      record {
        running = running;
        long = stays_long runs.sizes new.sizes sizes may.long (pass_leaves).effect;
        begun = record {
          pass = swaps.pass;
          roles = subst (λ (k : Catalog). AreRoles k.lanes) (sym catalogue) (roles_turned runs.catalogue.lanes may.begun.roles);
          sizes = ap (λ (l : LogState). l.lanes.sizes) turned ∙ may.begun.sizes ∙ sym sizes;
          lanes = next;
          lanes_are = refl;
          log_of =
              turns may.begun.lanes next
              (ap (λ (k : Catalog). k.lanes) catalogue ∙ ap (λ (k : Catalog). b_of k.lanes ∷ spare_of k.lanes ∷ a_of k.lanes ∷ []) (sym may.begun.lanes_are))
              refl refl may.begun.log_of;
          whole_a = subst (λ (l : LogState). IsWhole l.a) (sym turned) (refl, refl);
          mark =
              omega (
                arith,
                ap (λ (k : Catalog). k.c1.weight) catalogue,
                next_below mid.sizes (made_by_pass mid.pass) runs.catalogue (omega (arith, may.begun.mark, ap c1_mark same_sizes)),
                ap c1_mark same_sizes,
                ap c1_mark sizes,
              );
          high = omega (arith, ap high_mark sizes, ap weight_of_tables turned, may.begun.high);
          full = omega (arith, pass_light log' swaps turned, ap capacity sizes, may.begun.full);
          deep =
              light_unnamed new (ap (λ (k : Catalog). k.progress) catalogue)
              (omega (
                arith,
                ap (λ (o : Option DeepState). (made_by_deep o).weight + left_for_deep o) swaps.deep,
                next_deep mid.sizes mid.tags.deep (made_by_pass mid.pass) mid.catalogue mid.deep rests_still,
                ap (λ (k : Catalog). k.c1x.weight + k.c2.weight) swaps.catalogue,
              ));
          reserved_a = omega (arith, ap high_mark sizes, ap (λ (l : LogState). l.a.reserved) turned, may.begun.reserved_b);
          reserved_b = omega (arith, ap high_mark sizes, ap (λ (l : LogState). l.b.reserved) turned, may.begun.reserved_a);
        };
      }

  left_all : runs.catalogue.c1.weight + listed_in_a log ≤ left_for_pass begun.pass a.entries
  left_all =
      omega (arith, begun_all memory runs begun a.entries swap.begins, ap (λ (t : Contents). entries_weight t.entries) swap.table, swap.whole.1)

  pub pass_counts : SwapsPass mid new → (quanta : ℕ) → TakeQuanta begun.sizes 1 quanta (left_for_pass begun.pass a.entries)
      → CountsMore quanta begun mid
      → CountsQuanta 1 (runs.catalogue.c1.weight + listed_in_a log) (runs.catalogue.c1.weight + listed_in_a log) runs new
      quanta
  pass_counts swaps quanta takes counted = record {
    counted = λ small.
        let begins = ap (λ (r : RunsState). r.quanta) swap.begins in
        omega (arith, begins, swaps.quanta, counted (omega (arith, begins, small)));
    taken = left_for_pass begun.pass a.entries;
    takes = subst (λ (s : Sizes). TakeQuanta s 1 quanta (left_for_pass begun.pass a.entries)) (ap (λ (r : RunsState). r.sizes) swap.begins) takes;
    all = left_all;
    within = left_within;
    grows =
        omega (
          arith,
          ap components_of (next_catalogue swaps),
          next_weighs mid.sizes (made_by_pass mid.pass) runs.catalogue,
          made_light,
        );
  }

  pub pass_passed : SwapsPass mid new → HasPassed (runs.catalogue.c1.weight + listed_in_a log) runs.sizes new
  pass_passed swaps = record {
    c1 =
        omega (
          arith,
          ap (λ (k : Catalog). k.c1.weight) (next_catalogue swaps),
          next_first mid.sizes (made_by_pass mid.pass) runs.catalogue,
          made_light,
          left_within,
        );
    deep = λ runs_now.
        omega (
          arith,
          next_marks mid.sizes mid.tags.deep (made_by_pass mid.pass) mid.catalogue mid.deep rests_still
              (subst (λ (o : Option DeepState). IsTrue (is_some o)) swaps.deep runs_now),
          ap c1_mark same_sizes,
          made_light,
          left_within,
        );
  }
