-- A deep merge that is gone on with to its end and swapped in.
use Rattle.std.proofs.Common.{◌≡◌, ◌∙◌, ◌+◌, ◌*◌, ◌≤◌, Bool, List, Option, refl, ap, sym, subst, arith}
use Rattle.std.specs.Prelude.{IsTrue}
use Rattle.disk_trait.specs.Disk.{DiskState}
use Rattle.disk_trait.specs.Effects.{Affects}
use Rattle.disk_trait.proofs.EffectLemmas.{affects_counted}
use Rattle.disk_trait.specs.Moments.{IsTimed, LeavesOnly}
use Rattle.blsm_model.specs.Sizes.{Sizes}
use Rattle.blsm_model.specs.Geometry.{c1_mark, capacity, file_length, high_mark}
use Rattle.blsm_model.specs.Lanes.{AreRoles}
use Rattle.blsm_model.specs.declared.key.Key.{Key}
use Rattle.blsm_model.specs.declared.row.Value.{Value}
use Rattle.catalog_swap.specs.declared.catalog.Catalog.{Catalog}
use Rattle.deep_merge.specs.Merge.{DeepState}
use Rattle.mem_table.specs.Tables.{Contents, IsWhole}
use Rattle.tree_file.specs.Tree.{Tree, HoldsTree, FitsSizes}
use Rattle.tree_file.specs.Places.{HoldsEither}
use Rattle.tree_log.specs.Log.{LogState, weight_of_tables}
use Rattle.tree_runs.specs.Runs.{RunsState, AreRunning, left_for_deep, made_by_deep}
use Rattle.tree_runs.specs.Holding.{IsDeepSwapped, LeavesSwapped, StandOver, SwapsDeep, with_deep_run}
use Rattle.tree_settling.specs.Settling.{
  CallsFew,
  merge_calls,
  settling_weight,
  taking_calls,
  MergesGoOn,
  IsDeepLight,
  LeavesMaps,
  MaySettle,
  ShowsMap,
  anywhere,
  components_of,
}
use Rattle.tree_settling.proofs.LightLemmas.{light_unnamed}
use Rattle.tree_settling.proofs.NextLemmas.{Follows, deep_follows}
use Rattle.tree_settling.proofs.StepLemmas.{honest_still, kept_swapped, stays_long, table_of}
use Rattle.tree_log.proofs.RestLemmas.{log_keeps}
use Rattle.tree_settling.proofs.TakenLemmas.{goes_then}

-- what is known of it once the swap has answered
pub record IsDeepSwap (done : Bool) (a : Contents) (runs mid new : RunsState) (log : LogState) (before d after : DiskState) : Type 0 where
  pub timed : IsTimed d
  pub table : a ≡ log.a
  pub whole : IsWhole log.a
  pub goes : MergesGoOn a.entries runs mid before d
  pub pass : mid.pass ≡ runs.pass
  pub lists : (tree : Tree) → IsTrue d.is_honest → StandOver mid tree d → (next : Tree) × IsDeepSwapped tree next
      × LeavesSwapped mid new tree next done d after
  pub few : CallsFew (taking_calls runs.sizes (left_for_deep runs.deep)) before d
  pub effect : Affects anywhere (file_length mid.sizes) 9 d after

module _ {done : Bool} {a : Contents} {runs mid new : RunsState} {log : LogState} {before d after : DiskState} (swap : IsDeepSwap done a runs mid new log before d after) where
  -- the disk still stands on the tree before the swap
  over_mid : (pairs : List (Key × Value)) → IsTrue before.is_honest → (shows : ShowsMap runs log pairs before) → StandOver mid shows.tree d
  over_mid pairs honest shows =
      swap.goes.stands shows.tree honest (table_of shows.tree log a swap.table swap.whole shows.log_of) shows.over

  -- and leaves it for one that follows it
  next_of : (pairs : List (Key × Value)) → IsTrue before.is_honest → (shows : ShowsMap runs log pairs before)
      → (next : Tree) × IsDeepSwapped shows.tree next × LeavesSwapped mid new shows.tree next done d after × Follows runs.sizes shows.tree next
  next_of pairs honest shows =
      let over = over_mid pairs honest shows in
      let x = swap.lists shows.tree (honest_still swap.goes.effect honest) over in (
        x.0,
        x.1,
        x.2,
        deep_follows runs.sizes shows.tree x.0 d.bytes (subst (λ (s : Sizes). HoldsTree s shows.tree d.bytes) swap.goes.sizes over.are_of.holds) shows.fits x.1,
      )

  pub deep_leaves : IsDeepLight runs → LeavesMaps (1 * merge_calls runs.sizes (settling_weight runs log)) runs log before after
  deep_leaves light = record {
    keeps = λ pairs honest shows.
        let x = next_of pairs honest shows in
        kept_swapped runs.sizes shows.tree x.0 pairs before d after shows.fits shows.map_is x.3
        (swap.goes.leaves shows.tree honest (table_of shows.tree log a swap.table swap.whole shows.log_of) shows.over)
        (subst (λ (s : Sizes). LeavesOnly d after (HoldsEither s shows.tree x.0)) swap.goes.sizes x.2.each)
        (subst (λ (s : Sizes). HoldsEither s shows.tree x.0 after.bytes) swap.goes.sizes x.2.either.reads);
    effect = affects_counted (omega (arith, swap.few, swap.effect.calls, light.run)) (goes_then swap.timed swap.goes swap.effect);
  }

  pub deep_shows : IsTrue done → SwapsDeep mid new → (pairs : List (Key × Value)) → IsTrue before.is_honest → ShowsMap runs log pairs before → ShowsMap new log pairs after
  deep_shows well swaps pairs honest shows =
      let x = next_of pairs honest shows in
      let over = x.2.stands well in record {
        tree = x.0;
        over = over;
        log_of =
            log_keeps shows.tree x.0 log
            (ap (λ (c : Catalog). c.lanes) (over.are_of.catalogue ∙ swaps.catalogue) ∙ ap (λ (c : Catalog). c.lanes) (swap.goes.catalogue ∙ sym shows.over.are_of.catalogue))
            x.1.lane_a x.1.lane_b shows.log_of;
        fits = subst (λ (s : Sizes). FitsSizes s x.0) (sym (swaps.sizes ∙ swap.goes.sizes)) x.3.fits;
        map_is = x.3.map_is ∙ shows.map_is;
      }

  pub next_catalogue : SwapsDeep mid new → new.catalogue ≡ with_deep_run (made_by_deep mid.deep) runs.catalogue
  next_catalogue swaps = swaps.catalogue ∙ ap (with_deep_run (made_by_deep mid.deep)) swap.goes.catalogue

  -- its run weighs no more than C1' and C2, whose place it takes
  pub deep_light : IsDeepLight runs → left_for_deep mid.deep ≡ 0 → SwapsDeep mid new → components_of new.catalogue + weight_of_tables log ≤ components_of runs.catalogue + weight_of_tables log
  deep_light light none swaps = omega (arith, ap components_of (next_catalogue swaps), swap.goes.deep, none, light.run)

  pub deep_may : MaySettle runs log before → left_for_deep mid.deep ≡ 0 → SwapsDeep mid new → AreRunning after.is_honest after.bytes new → MaySettle new log after
  deep_may may none swaps running =
      let sizes : new.sizes ≡ runs.sizes = swaps.sizes ∙ swap.goes.sizes in
      let catalogue : new.catalogue ≡ with_deep_run (made_by_deep mid.deep) runs.catalogue = next_catalogue swaps in
      record {
        running = running;
        long = stays_long runs.sizes new.sizes sizes may.long (deep_leaves may.begun.deep).effect;
        begun = record {
          pass = swaps.pass ∙ swap.pass ∙ may.begun.pass;
          roles = subst (λ (c : Catalog). AreRoles c.lanes) (sym catalogue) may.begun.roles;
          sizes = may.begun.sizes ∙ sym sizes;
          lanes = record may.begun.lanes { catalogue = new.catalogue };
          lanes_are = refl;
          log_of = log_keeps may.begun.lanes (record may.begun.lanes { catalogue = new.catalogue }) log (ap (λ (c : Catalog). c.lanes) catalogue ∙ ap (λ (c : Catalog). c.lanes) (sym may.begun.lanes_are)) refl refl may.begun.log_of;
          whole_a = may.begun.whole_a;
          mark = omega (arith, ap (λ (c : Catalog). c.c1.weight) catalogue, ap c1_mark sizes, may.begun.mark);
          high = omega (arith, ap high_mark sizes, may.begun.high);
          full = omega (arith, deep_light may.begun.deep none swaps, ap capacity sizes, may.begun.full);
          deep = light_unnamed new (ap (λ (c : Catalog). c.progress) catalogue)
              (omega (arith, ap (λ (o : Option DeepState). (made_by_deep o).weight + left_for_deep o) swaps.deep));
          reserved_a = omega (arith, ap high_mark sizes, may.begun.reserved_a);
          reserved_b = omega (arith, ap high_mark sizes, may.begun.reserved_b);
        };
      }
