-- A reading, and settling what was read.
use Rattle.std.proofs.lemmas.Bool.Decides.{nat_tests}
use Rattle.std.proofs.lemmas.Grind.{common_steps}
use Rattle.std.specs.Prelude.{◌≡◌, ℕ, ◌+◌, ◌≤◌, IsTrue, List, length, max, Result, Ok, Err, IfOk, IfErr}
use Rattle.std.proofs.Common.{refl, sym, subst, inl, inr, arith, ap}
use Rattle.blsm_model.specs.Geometry.{capacity, file_length}
use Rattle.blsm_model.specs.Sizes.{IsGeometry, Sizes}
use Rattle.catalog_swap.specs.declared.catalog.Catalog.{Catalog}
use Rattle.blsm_model.specs.declared.key.Key.{Key}
use Rattle.blsm_model.specs.declared.row.Value.{Value}
use Rattle.disk_trait.specs.Disk.{DiskState, TellsFaultsBy}
use Rattle.record_delta.specs.Entries.{entries_weight}
use Rattle.disk_trait.specs.Effects.{Affects}
use Rattle.disk_trait.proofs.EffectLemmas.{affects_more, affects_wider}
use Rattle.disk_trait.specs.Moments.{IsTimed, LeavesOnly, LeavesOnlyOnceSynced, SyncsLater}
use Rattle.disk_trait.proofs.MomentLemmas.{leaves_only_run, leaves_only_weaken, once_synced_more, once_synced_weaken}
use Rattle.tree_file.specs.Tree.{Tree, FitsSizes, HoldsTree, ReadsAsMap, map_of_tree}
use Rattle.tree_reading.specs.declared.found.Found.{Found}
use Rattle.tree_reading.specs.declared.found.Unreadable.{Unreadable}
use Rattle.tree_reading.specs.declared.found.Unreadable.TheVariants.{Fault}
use Rattle.tree_reading.specs.Damage.{most_version}
use Rattle.tree_reading.specs.Reading.{HoldsFound, IsHead, IsWhy, calls_of_reading, reading_calls}
use Rattle.recover_open.specs.declared.beginning.Begun.{Begun}
use Rattle.tree_settling.specs.Settling.{CallsFew, KeepsMap, anywhere, settling_calls}
use Rattle.recover_open.specs.Opening.{
  IsReady,
  KeepsMapOf,
  HasLengthOf,
  HasOpenedOn,
  SparesImages,
  StandsEmpty,
  StaysInside,
  TakesFew,
  most_opening_calls,
  tables_of,
  weight_found,
}

-- ---- what was found

-- A file holds one tree: of one size, with one map.
abbrev pub OneSizes : Type 0
OneSizes = (a b : Sizes) (one other : Tree) (file : List ℕ) → HoldsTree a one file → HoldsTree b other file → a ≡ b

abbrev pub OneMap : Type 0
OneMap = (a b : Sizes) (one other : List (Key × Value)) (file : List ℕ) → ReadsAsMap a one file → ReadsAsMap b other file → one ≡ other

pub found_reads : (found : Found) (file : List ℕ) → (holds : HoldsFound found file) → ReadsAsMap found.geometry (map_of_tree holds.tree) file
found_reads found file holds = record { tree = holds.tree; holds = holds.holds; fits = holds.fits; map_is = refl }

-- ---- once it is read

pub ready_as : (result : Result Begun Unreadable) (d : DiskState) (sizes : Sizes) (version : ℕ) → version ≤ most_version → IfOk result (λ begun. IsReady sizes version begun.runs begun.log d)
    → IfOk result (λ begun. (v : ℕ) × (v ≤ most_version) × IsReady begun.runs.sizes v begun.runs begun.log d)
ready_as result d sizes version h1 h2 = grind (arith, common_steps, nat_tests)

pub long_as : (result : Result Begun Unreadable) (sizes : Sizes) (version : ℕ) (old new : DiskState) → HasLengthOf sizes old → IfOk result (λ begun. IsReady sizes version begun.runs begun.log new)
    → IfOk result (λ begun. HasLengthOf begun.runs.sizes old)
long_as result sizes version old new h1 h2 = grind (arith, common_steps, nat_tests)

pub stands_as : (result : Result Begun Unreadable) (found : Found) (version : ℕ) (file : List ℕ) (d : DiskState) → (holds : HoldsFound found file) → found.catalogue.version ≤ most_version
    → IfOk result (λ begun. IsReady found.geometry version begun.runs begun.log d) → IfOk result (λ begun. StandsEmpty begun.runs holds.tree d)
    → IfOk result (λ begun. HasOpenedOn begun.runs file d)
stands_as (Ok begun) found version file d holds few ready stands = record {
  image = holds.tree;
  holds = subst (λ (s : Sizes). HoldsTree s holds.tree file) (sym ready.sizes_are) holds.holds;
  fits = subst (λ (s : Sizes). FitsSizes s holds.tree) (sym ready.sizes_are) holds.fits;
  taken = omega (arith, few, ap (λ (c : Catalog). c.version) holds.catalogue);
  stands = stands;
}
stands_as (Err why) found version file d holds few ready stands = tt

pub why_fault : (result : Result Begun Unreadable) (file : List ℕ) → IfErr result (λ why. why ≡ Fault) → IfErr result (λ why. IsWhy why file)
why_fault result file h1 = grind (arith, common_steps, nat_tests)

-- ---- what stays

pub keeps_read : {old mid : DiskState} (sizes : Sizes) (pairs : List (Key × Value)) → ReadsAsMap sizes pairs old.bytes → mid.bytes ≡ old.bytes → LeavesOnly old mid old.images
    → LeavesOnlyOnceSynced old mid (λ c. c ≡ old.bytes) → KeepsMapOf sizes pairs old mid
keeps_read {old} {mid} sizes pairs reads same kept synced = record {
  each = leaves_only_weaken (λ c before. inl before) kept;
  once_synced = once_synced_weaken (λ c is. subst (ReadsAsMap sizes pairs) (sym is) reads) synced;
  reads = subst (ReadsAsMap sizes pairs) (sym same) reads;
}

pub keeps_settled : {old mid new : DiskState} (sizes : Sizes) (pairs : List (Key × Value)) → IsTimed mid → IsTimed new → KeepsMapOf sizes pairs old mid → SyncsLater mid new → KeepsMap sizes pairs mid new
    → KeepsMapOf sizes pairs old new
keeps_settled {old} {mid} {new} sizes pairs timed timed' first syncs second = record {
  each = leaves_only_run first.each (leaves_only_weaken (λ c reads. inr reads) second.each);
  once_synced = once_synced_more timed timed' first.once_synced second.each syncs;
  reads = second.reads;
}

-- a run that wrote nothing wrote nothing, whatever it answers
pub spares_all : {old new : DiskState} (result : Result Begun Unreadable) → LeavesOnly old new old.images → IfErr result (λ why. SparesImages why old new)
spares_all result h1 = grind (arith, common_steps, nat_tests)

pub spares_on : {old mid : DiskState} (new : DiskState) (result : Result Begun Unreadable) → IsTimed mid → LeavesOnly old mid old.images → IfErr result (λ why. SparesImages why mid new)
    → IfErr result (λ why. SparesImages why old new)
spares_on new result h1 h2 h3 = grind (arith, common_steps, nat_tests)

-- what answers nothing but a fault spares the images otherwise
pub spares_fault : (old new : DiskState) (result : Result Begun Unreadable) → IfErr result (λ why. why ≡ Fault) → IfErr result (λ why. SparesImages why old new)
spares_fault old new result h1 = grind (arith, common_steps, nat_tests)

-- what was found reads as the map that the file reads as
pub keeps_same : {mid new : DiskState} (found : Found) (sizes : Sizes) (pairs : List (Key × Value)) → OneSizes → OneMap → (holds : HoldsFound found mid.bytes) → ReadsAsMap sizes pairs mid.bytes
    → KeepsMap found.geometry (map_of_tree holds.tree) mid new → KeepsMap sizes pairs mid new
keeps_same {mid} {new} found sizes pairs one_size one_map holds reads keeps =
    let same : found.geometry ≡ sizes = one_size found.geometry sizes holds.tree reads.tree mid.bytes holds.holds reads.holds in
    let map : map_of_tree holds.tree ≡ pairs = one_map found.geometry sizes (map_of_tree holds.tree) pairs mid.bytes (found_reads found mid.bytes holds) reads in
    subst (λ (s : Sizes). KeepsMap s pairs mid new) same (subst (λ (l : List (Key × Value)). KeepsMap found.geometry l mid new) map keeps)

pub stays_on : {old mid new : DiskState} (sizes : Sizes) (calls : ℕ) → IsTimed mid → mid.faults ≡ old.faults → (IsTrue old.tells_bytes → length old.bytes ≡ file_length sizes)
    → IsGeometry sizes → CallsFew (most_opening_calls sizes) old new → StaysInside old mid → Affects anywhere (file_length sizes) calls mid new → StaysInside old new
stays_on {old} {mid} {new} sizes calls timed calm long geometry few first second = record {
  end = max first.end (file_length sizes);
  calls = first.calls + calls;
  few = inr (sizes, geometry, long, few);
  inside = λ tells. omega (arith, first.inside tells, long tells);
  effect = affects_more {most = first.calls} timed calm (affects_wider (λ i here. here) (omega arith) (omega arith) first.effect) second (λ i here. here) (omega arith) (omega arith);
}

-- a sync and a reading, and then all that is left of an opening
pub opening_few : (old : ℕ) {mid new : ℕ} (sizes : Sizes) (weight : ℕ) → mid ≤ old + (1 + reading_calls sizes) → new ≤ mid + settling_calls sizes
    weight → weight ≤ capacity sizes
    → new ≤ old + most_opening_calls sizes
opening_few old sizes weight read settled full = omega (arith, read, settled, full)

-- by what was found
pub opening_takes : (found : Found) (old mid new : DiskState) → CallsFew (1 + calls_of_reading found.catalogue found.records_a found.records_b) old
    mid
    → CallsFew (settling_calls found.geometry (weight_found found)) mid new → CallsFew (most_opening_calls found.geometry) old new → weight_found
    found ≤ capacity found.geometry
    → IsHead found.geometry found.catalogue → (IsTrue old.is_honest → HoldsFound found old.bytes) → TakesFew found.geometry old new
opening_takes found old mid new read settled by_sizes full head holds = record {
  catalogue = found.catalogue;
  head = head;
  records_a = found.records_a;
  records_b = found.records_b;
  tables = tables_of found;
  few = omega (arith, read, settled);
  by_sizes = by_sizes;
  full = full;
  reads = λ honest.
      let has = holds honest in (
        has.tree,
        has.holds,
        has.catalogue,
        sym has.records_a,
        sym has.records_b,
        omega
            (arith, ap entries_weight has.table_a, ap entries_weight has.table_b),
      );
}

pub takes_as : (result : Result Begun Unreadable) (sizes : Sizes) (version : ℕ) (old new : DiskState) → TakesFew sizes old new → IfOk result
    (λ begun. IsReady sizes version begun.runs begun.log new)
    → IfOk result (λ begun. TakesFew begun.runs.sizes old new)
takes_as (Ok begun) sizes version old new takes ready = subst (λ (s : Sizes). TakesFew s old new) (sym ready.sizes_are) takes
takes_as (Err why) sizes version old new takes ready = tt

pub faults_on : {old mid new : DiskState} (result : Result Begun Unreadable) → mid.faults ≡ old.faults → TellsFaultsBy (Err Fault) result mid new → TellsFaultsBy (Err Fault) result old new
faults_on result h1 h2 = grind (arith, common_steps, nat_tests)
