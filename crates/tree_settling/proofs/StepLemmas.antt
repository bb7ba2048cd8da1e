-- Steps of settling, one after the other.
use Rattle.std.proofs.Common.{◌≡◌, ◌∙◌, ℕ, ◌+◌, ◌*◌, ◌≤◌, List, ◌⊎◌, Ok, Err, None, refl, ap, sym, subst, arith, inl, inr, ⊎_elim}
use Rattle.std.proofs.lemmas.Grind.{common_steps}
use Rattle.std.proofs.lemmas.Bool.Decides.{nat_tests}
use Rattle.std.specs.Prelude.{IsErrAnd, IsTrue, length}
use Rattle.std.proofs.lemmas.Result.{on_ok_weaker}
use Rattle.std.proofs.Math.Nat.{mul-le-mul_left}
use Rattle.std.specs.declared.result.Result.{Result}
use Rattle.disk_trait.specs.Disk.{DiskState, TellsFaultsBy}
use Rattle.disk_trait.specs.Effects.{Affects}
use Rattle.disk_trait.proofs.EffectLemmas.{affects_start, affects_more, affects_wider}
use Rattle.disk_trait.specs.Moments.{IsTimed, LeavesOnly}
use Rattle.disk_trait.proofs.MomentLemmas.{leaves_only_start, leaves_only_run, leaves_only_weaken}
use Rattle.disk_trait.specs.Region.{Region}
use Rattle.blsm_model.specs.Sizes.{Sizes}
use Rattle.blsm_model.specs.Geometry.{file_length}
use Rattle.blsm_model.specs.declared.key.Key.{Key}
use Rattle.blsm_model.specs.declared.row.Value.{Value}
use Rattle.catalog_swap.specs.declared.catalog.Catalog.{Catalog}
use Rattle.mem_table.specs.Tables.{Contents, IsWhole}
use Rattle.record_delta.specs.Entries.{replayed}
use Rattle.page_file.specs.declared.file.Broken.{Broken}
use Rattle.page_file.specs.declared.file.Broken.TheVariants.{Fault}
use Rattle.refusal.specs.Count.{HasRisen}
use Rattle.tree_file.specs.Tree.{Tree, HoldsTree, FitsSizes, ReadsAsMap, map_of_tree}
use Rattle.tree_file.specs.Places.{StandsOn, HoldsEither}
use Rattle.tree_log.specs.Log.{IsLogOf, LogState}
use Rattle.tree_log.proofs.RestLemmas.{whole_list}
use Rattle.tree_runs.specs.Runs.{RunsState}
use Rattle.tree_runs.specs.Holding.{StandOver}
use Rattle.tree_settling.specs.Settling.{
  IsTableOf,
  KeepsMap,
  LeavesMaps,
  MaySettle,
  Settles,
  SettlesOn,
  ShowsMap,
  TakesAll,
  anywhere,
  merge_calls,
  quantum_calls,
  settling_weight,
}
use Rattle.tree_settling.proofs.NextLemmas.{Follows, reads_next}
use Rattle.tree_settling.proofs.ToldLemmas.{ends_from, fault_then, is_err, on_failed, told_then, well_told}

pub affects_anywhere : {region : Region} {end most : ℕ} {old new : DiskState} → Affects region end most old new → Affects anywhere end most old new
affects_anywhere {region} {end} {most} {old} {new} effect = affects_wider (λ i here. tt) (omega arith) (omega arith) effect

pub honest_still : {region : Region} {end most : ℕ} {old new : DiskState} → Affects region end most old new → IsTrue old.is_honest → IsTrue new.is_honest
honest_still effect honest = subst IsTrue (sym effect.goes_on.is_honest) honest

-- a file of the right length keeps it
pub stays_long : {region : Region} {most : ℕ} {old new : DiskState} (before after : Sizes) → after ≡ before → (IsTrue old.tells_bytes → length old.bytes ≡ file_length before)
    → Affects region (file_length before) most old new → IsTrue new.tells_bytes → length new.bytes ≡ file_length after
stays_long {region} {most} {old} {new} before after same long effect tells = grind (arith, common_steps, nat_tests)

times_sum : (n m x : ℕ) → (n + m) * x ≡ n * x + m * x
times_sum n m x = omega arith

-- ---- maps

-- what holds the tree that is shown reads as its map
pub reads_shown : (sizes : Sizes) (tree : Tree) (pairs : List (Key × Value)) (file : List ℕ) → FitsSizes sizes tree → map_of_tree tree ≡ pairs → HoldsTree sizes tree file → ReadsAsMap sizes pairs file
reads_shown sizes tree pairs file fits is holds = record { tree = tree; holds = holds; fits = fits; map_is = is }

-- the tree stood at each moment
pub kept_standing : (sizes : Sizes) (tree : Tree) (pairs : List (Key × Value)) (old new : DiskState) → FitsSizes sizes tree → map_of_tree tree ≡ pairs → LeavesOnly old new (HoldsTree sizes tree)
    → HoldsTree sizes tree new.bytes → KeepsMap sizes pairs old new
kept_standing sizes tree pairs old new fits is each reads = record {
  each = leaves_only_weaken (λ c. reads_shown sizes tree pairs c fits is) each;
  reads = reads_shown sizes tree pairs new.bytes fits is reads;
}

-- it stood, and gave place to one that follows it
pub kept_swapped : (sizes : Sizes) (tree next : Tree) (pairs : List (Key × Value)) (old mid new : DiskState) → FitsSizes sizes tree → map_of_tree tree ≡ pairs → Follows sizes tree next
    → LeavesOnly old mid (HoldsTree sizes tree) → LeavesOnly mid new (HoldsEither sizes tree next) → HoldsEither sizes tree next new.bytes → KeepsMap sizes pairs old new
kept_swapped sizes tree next pairs old mid new fits is follows first second reads = record {
  each = leaves_only_run (leaves_only_weaken (λ c. reads_shown sizes tree pairs c fits is) first) (leaves_only_weaken either second);
  reads = either new.bytes reads;
}
  where
    either : (c : List ℕ) → HoldsEither sizes tree next c → ReadsAsMap sizes pairs c
    either c holds = ⊎_elim (reads_shown sizes tree pairs c fits is) (reads_next sizes tree next pairs c follows is) holds

-- ---- one after the other

pub leaves_run : (n m : ℕ) {old mid : RunsState} {log log' : LogState} {before d after : DiskState} → IsTimed d → LeavesMaps
    (n * merge_calls old.sizes (settling_weight old log)) old log before d → SettlesOn old mid log log' before d
    → LeavesMaps (m * merge_calls mid.sizes (settling_weight mid log')) mid log' d after → LeavesMaps
    ((n + m) * merge_calls old.sizes (settling_weight old log)) old log before after
leaves_run n m {old} {mid} {log} {log'} {d = d} {after = after} timed first step rest = record {
  keeps = λ pairs honest shows.
      let one = first.keeps pairs honest shows in
      let two = subst (λ (s : Sizes). KeepsMap s pairs d after) step.sizes (rest.keeps pairs (honest_still first.effect honest) (step.shows pairs honest shows)) in
      record { each = leaves_only_run one.each two.each; reads = two.reads };
  effect = affects_more timed step.calm first.effect rest.effect (λ i here. here) (omega (arith, ap file_length step.sizes))
      (omega (arith, times_sum n m (merge_calls old.sizes (settling_weight old log)), lighter));
}
  where
    lighter : m * merge_calls mid.sizes (settling_weight mid log') ≤ m * merge_calls old.sizes (settling_weight old log)
    lighter = mul-le-mul_left m (omega (arith, ap quantum_calls step.sizes, step.light))

-- what was committed last names nothing
named_then : {one two three : Catalog} → (two ≡ one) ⊎ (two.progress ≡ None) → (three ≡ two) ⊎ (three.progress ≡ None) → (three ≡ one) ⊎ (three.progress ≡ None)
named_then step (inr none) = inr none
named_then (inl same) (inl still) = inl (still ∙ same)
named_then (inr none) (inl still) = inr (ap (λ (k : Catalog). k.progress) still ∙ none)

pub settles_run : {region : Region} {end most : ℕ} {old mid new : RunsState} {log log' log'' : LogState} {before d after : DiskState} → Affects region end most before d → SettlesOn old mid log log' before d
    → SettlesOn mid new log' log'' d after → SettlesOn old new log log'' before after
settles_run effect step rest = record {
  shows = λ pairs honest shows. rest.shows pairs (honest_still effect honest) (step.shows pairs honest shows);
  may = rest.may;
  light = omega (arith, step.light, rest.light);
  sizes = rest.sizes ∙ step.sizes;
  calm = rest.calm ∙ step.calm;
  named = named_then step.named rest.named;
}

pub told_run : {result : Result ℕ Broken} {old mid new : DiskState} → mid.faults ≡ old.faults → TellsFaultsBy (Err Fault) result mid new
    → TellsFaultsBy (Err Fault) result old new
told_run {new = new} calm told = record {
  stands = λ other. told.stands other ∙ calm;
  failed = λ fault. subst (λ (n : ℕ). HasRisen n new.faults) calm (told.failed fault);
}

-- ---- what a step tells

-- it is done
pub step_done : {most : ℕ} (n : ℕ) {runs runs' : RunsState} {log log' : LogState} {old new : DiskState} → LeavesMaps
    (most * merge_calls runs.sizes (settling_weight runs log)) runs log old new → SettlesOn runs runs' log log' old new
    → runs'.catalogue.version ≤ runs.catalogue.version + most → Settles most runs runs' log log' (Ok n) old new
step_done n {old = old} {new} leaves on version = record {
  leaves = leaves;
  on = on;
  ends = λ pairs honest shows other. refl;
  version = version;
  faults = well_told n old new on.calm;
}

-- nothing was due
pub step_none : {most : ℕ} {runs : RunsState} {log : LogState} {d : DiskState} → IsTimed d → MaySettle runs log d
    → Settles most runs runs log log (Ok 0) d d
step_none {runs = runs} {d = d} timed may =
    step_done 0
    (record {
      keeps = λ pairs honest shows.
          let stands = shows.over.stands in
          kept_standing runs.sizes shows.tree pairs d d shows.fits shows.map_is (leaves_only_start d (HoldsTree runs.sizes shows.tree) timed (λ c left. stands.each c left)) stands.reads;
      effect = affects_start d timed;
    })
    (record { shows = λ pairs honest shows. shows; may = may; light = omega arith; sizes = refl; calm = refl; named = inl refl }) (omega arith)

-- a fault of the disk ended it, behind calls that went well
pub step_faulted : {most : ℕ} {runs runs' : RunsState} {log log' : LogState} {result : Result ℕ Broken} {old new : DiskState} (mid : DiskState)
    → mid.faults ≡ old.faults
    → IsErrAnd result (λ (x : Broken). x ≡ Fault) → HasRisen mid.faults new.faults → LeavesMaps
    (most * merge_calls runs.sizes (settling_weight runs log)) runs log old new → Settles most runs runs' log log' result old new
step_faulted mid calm failed rises leaves = record {
  leaves = leaves;
  on = on_failed _ (is_err failed);
  ends = λ pairs honest shows other. absurd (other (is_err failed));
  version = on_failed _ (is_err failed);
  faults = fault_then mid calm failed rises;
}

-- a whole table has all of its list
pub table_of : (tree : Tree) (log : LogState) (a : Contents) → a ≡ log.a → IsWhole log.a → IsLogOf tree log → IsTableOf a.entries tree
table_of tree log a same whole is =
    sym (ap (λ (t : Contents). t.entries) same ∙ whole_list (replayed tree.lane_a.entries) log.a whole is.a)

-- its merge failed, which began over the trees of these components
pub step_untaken : {a : Contents} {weight : ℕ} {runs begun mid runs' : RunsState} {log log' : LogState} {e : Broken}
    {result inner : Result ℕ Broken} {old new : DiskState} → inner ≡ Err e
    → IsErrAnd result (λ (x : Broken). x ≡ e) → a ≡ log.a → IsWhole log.a → begun.sizes ≡ runs.sizes
    → ((tree : Tree) → StandOver runs tree old → StandOver begun tree old)
    → TakesAll a.entries weight begun mid inner old new → weight ≤ settling_weight runs log → Settles 1 runs runs' log log' result old new
step_untaken {a} {weight} {runs} {begun} {log = log} {old = old} {new} was failed table whole same begins takes light = record {
  leaves = record {
    keeps = λ pairs honest shows.
        let now = takes.keeps shows.tree honest (table_of shows.tree log a table whole shows.log_of) (over pairs shows) in
        kept_standing runs.sizes shows.tree pairs old new shows.fits shows.map_is (subst (λ (s : Sizes). LeavesOnly old new (HoldsTree s shows.tree)) same now.1)
        (subst (λ (s : Sizes). StandsOn s shows.tree new) same now.0).reads;
    effect = affects_wider (λ i here. here) (omega (arith, ap file_length same)) (omega (arith, ap quantum_calls same, light)) takes.effect;
  };
  on = on_failed _ (is_err failed);
  ends = λ pairs honest shows.
      ends_from was failed (takes.ends shows.tree honest (table_of shows.tree log a table whole shows.log_of) (over pairs shows));
  version = on_failed _ (is_err failed);
  faults = told_then refl was failed takes.faults;
}
  where
    over : (pairs : List (Key × Value)) (shows : ShowsMap runs log pairs old) → StandOver begun shows.tree old
    over pairs shows = begins shows.tree shows.over

-- what is handed on of one that failed
pub step_failed : {n : ℕ} (more : ℕ) {runs runs' : RunsState} {log log' : LogState} {e : Broken} {result inner : Result ℕ Broken}
    {old new : DiskState} → inner ≡ Err e
    → IsErrAnd result (λ (x : Broken). x ≡ e) → Settles n runs runs' log log' inner old new → Settles (n + more) runs runs' log log' result old new
step_failed {n} more {runs} {log = log} was failed step = record {
  leaves = record {
    keeps = step.leaves.keeps;
    effect = affects_wider (λ i here. here) (omega arith)
        (omega (arith, times_sum n more (merge_calls runs.sizes (settling_weight runs log)))) step.leaves.effect;
  };
  on = on_failed _ (is_err failed);
  ends = λ pairs honest shows. ends_from was failed (step.ends pairs honest shows);
  version = on_failed _ (is_err failed);
  faults = told_then refl was failed step.faults;
}

-- and of one behind another that was done
pub step_then : {n m : ℕ} {old mid new : RunsState} {log log' log'' : LogState} {result : Result ℕ Broken} {took : ℕ} {before d after : DiskState}
    → IsTimed d → Settles n old mid log log' (Ok took) before d
    → Settles m mid new log' log'' result d after → Settles (n + m) old new log log'' result before after
step_then {n} {m} {old} {result = result} timed one two = record {
  leaves = leaves_run n m timed one.leaves one.on two.leaves;
  on = on_ok_weaker result (settles_run one.leaves.effect one.on) two.on;
  ends = λ pairs honest shows. two.ends pairs (honest_still one.leaves.effect honest) (one.on.shows pairs honest shows);
  version = on_ok_weaker result (λ more. omega (arith, more, one.version)) two.version;
  faults = told_run one.on.calm two.faults;
}

-- whatever it counts
pub step_counts : {most : ℕ} {runs runs' : RunsState} {log log' : LogState} {old new : DiskState} {n : ℕ} (other : ℕ)
    → Settles most runs runs' log log' (Ok n) old new
    → Settles most runs runs' log log' (Ok other) old new
step_counts other step = step_done other step.leaves step.on step.version
