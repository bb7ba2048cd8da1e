-- What was found of a store is a tree that fits.
use Rattle.std.proofs.lemmas.Bool.Decides.{nat_tests}
use Rattle.std.proofs.lemmas.Grind.{common_steps}
use Rattle.std.proofs.Common.{◌≡◌, ℕ, ◌+◌, ◌-◌, ◌≤◌, List, Bool, IsTrue, take, refl, subst, arith, Result, Ok, Err, IfOk}
use Rattle.std.specs.Prelude.{min}
use Rattle.disk_trait.specs.Disk.{DiskState}
use Rattle.disk_trait.proofs.ReadLemmas.{only_reads_wider}
use Rattle.blsm_model.specs.Sizes.{Sizes}
use Rattle.blsm_model.specs.Geometry.{capacity, high_mark}
use Rattle.record_delta.specs.Entries.{Entries, entries_weight, replayed}
use Rattle.catalog_swap.specs.declared.catalog.Catalog.{Catalog}
use Rattle.tree_file.specs.Tree.{Tree}
use Rattle.tree_runs.specs.Noting.{AreRooms}
use Rattle.tree_runs.specs.Runs.{AreGuides, GuideState, IsReserved, first_tags, guide_at}
use Rattle.tree_runs.proofs.GuideLemmas.{reserved_less}
use Rattle.tree_reading.specs.declared.found.Found.{Found}
use Rattle.tree_reading.specs.declared.lane.LaneEnd.{LaneEnd}
use Rattle.tree_reading.specs.Damage.{FitsMarks, HasCatalogue, catalogue_weight}
use Rattle.tree_reading.specs.Reading.{
  AreReplayed,
  GuidesTree,
  HasLooked,
  HoldsFound,
  IsFound,
  IsReadAs,
  at_superblock,
  calls_of_pages,
  calls_of_reading,
  within,
}
use Rattle.tree_reading.proofs.LanesLemmas.{within_room}
use Rattle.tree_reading.proofs.NamedLemmas.{ahead_in, progress_of}

-- what holds at all is so of each value of Ok
pub on_any_ok : {A E : Type 0} {P : Type 0} (r : Result A E) → P → IfOk r (λ a. P)
on_any_ok r h1 = grind (arith, common_steps, nat_tests)

-- what follows for each value of Ok
pub on_each_ok : {A E : Type 0} {P Q : A → Type 0} (r : Result A E) → ((a : A) → P a → Q a) → IfOk r P → IfOk r Q
on_each_ok (Ok a) more has = more a has
on_each_ok (Err e) more has = tt

pub looked_more : {most more : Sizes → ℕ} {old new : DiskState} → ((s : Sizes) → most s ≤ more s) → HasLooked most old new → HasLooked more old new
looked_more less (at_superblock reads) = at_superblock reads
looked_more less (within sizes fits long reads) = within sizes fits long (only_reads_wider (omega arith) (less sizes) reads)

min_below : (n a b : ℕ) → n ≤ min a b → (n ≤ a) × (n ≤ b)
min_below n a b below = grind (arith, below)

-- on an honest disk it is a tree that fits
pub fits_found : (found : Found) (honest : Bool) (file : List ℕ) → IsTrue honest → IsFound found honest file → HasCatalogue found.geometry found.catalogue file
    → IsReadAs found.geometry found.catalogue found.space found.guides found.ahead file → GuidesTree found.geometry found.catalogue found.guides file
    → HoldsFound found file
fits_found found honest file sure is has read guided =
    let tagged = read.tagged in
    let r = is.replayed in
    let high = high_mark found.geometry in
    let left = capacity found.geometry - catalogue_weight found.catalogue in
    let parts = tagged.components in
    let light : entries_weight (replayed r.lane_a.entries) ≤ min high left =
    subst (λ (l : Entries). entries_weight l ≤ min high left) r.a_is.table_is (within_room found.geometry (min high left) r.lane_a found.a.entries _ r.a_is) in
    let below_a : (n : ℕ)
    → (entries_weight (replayed (take n r.lane_a.entries)) ≤ high) × (entries_weight (replayed (take n r.lane_a.entries)) ≤ left) =
    λ n. min_below _ high left (r.a_is.within n) in
    let below_b : (n : ℕ)
    → (entries_weight (replayed r.lane_a.entries) + entries_weight (replayed (take n r.lane_b.entries)) ≤ high)
    × (entries_weight (replayed r.lane_a.entries) + entries_weight (replayed (take n r.lane_b.entries)) ≤ left) =
    λ n. min_below _ high left (together (min high left) _ _ light (r.b_is.within n)) in
    let tree : Tree = record {
      catalogue = found.catalogue;
      c1 = tagged.c1;
      c1x = tagged.c1x;
      c2 = tagged.c2;
      output = read.output;
      lane_a
          = r.lane_a;
      lane_b = r.lane_b;
    }
    in
    record {
      tree = tree;
      holds = record {
        store = has.store;
        newest = has.newest;
        c1 = parts.c1_reads;
        c1x = parts.c1x_reads;
        c2 = parts.c2_reads;
        apart = parts.apart;
        bases = parts.bases;
        progress = progress_of found.geometry tree found.catalogue.progress file read.named;
        lane_a = r.has_a sure;
        lane_b = r.has_b sure;
      };
      fits = record {
        mark = omega (arith, has.fits.mark, parts.c1_reads.weight_is);
        full = omega (arith, has.fits.full, parts.c1_reads.weight_is, parts.c1x_reads.weight_is, parts.c2_reads.weight_is);
        replays = record {
          high_a = λ n. (below_a n).0;
          full_a = λ n. omega (arith, (below_a n).1, has.fits.full, parts.c1_reads.weight_is, parts.c1x_reads.weight_is, parts.c2_reads.weight_is);
          high_b = λ n. (below_b n).0;
          full_b = λ n. omega (arith, (below_b n).1, has.fits.full, parts.c1_reads.weight_is, parts.c1x_reads.weight_is, parts.c2_reads.weight_is);
        };
      };
      catalogue = refl;
      c1_tag = tagged.c1_tag;
      c1x_tag = tagged.c1x_tag;
      c2_tag = tagged.c2_tag;
      table_a = r.a_is.table_is;
      table_b = r.b_is.table_is;
      end_a = r.a_is.place_is;
      end_b = r.b_is.place_is;
      records_a = r.a_is.records_is;
      records_b = r.b_is.records_is;
      guided = λ are. guided are tree parts.c1_reads parts.c1x_reads parts.c2_reads;
      over = read.over;
    }
  where
    together : (room a b : ℕ) → a ≤ room → b ≤ room - a → a + b ≤ room
    together room a b one two = omega (arith, one, two)

-- the ends, as the lanes have them
pub replayed_at : (sizes : Sizes) (catalogue : Catalog) (a b : Entries) (end_a end_b : LaneEnd) (at_a at_b : ℕ) (honest : Bool) (file : List ℕ) → AreReplayed sizes catalogue a b end_a end_b honest file
    → at_a ≡ end_a.place → at_b ≡ end_b.place
    → AreReplayed sizes catalogue a b (record { place = at_a; records = end_a.records }) (record { place = at_b; records = end_b.records }) honest file
replayed_at sizes catalogue a b end_a end_b at_a at_b honest file h1 h2 h3 = grind (arith, common_steps, nat_tests)

-- the lanes, as an earlier state of the disk has them, which reads the same where it is honest
pub replayed_in : (sizes : Sizes) (catalogue : Catalog) (a b : Entries) (end_a end_b : LaneEnd) (honest was : Bool) (bytes file : List ℕ) → AreReplayed sizes catalogue a b end_a end_b honest bytes
    → (IsTrue was → IsTrue honest) → (IsTrue was → bytes ≡ file) → AreReplayed sizes catalogue a b end_a end_b was file
replayed_in sizes catalogue a b end_a end_b honest was bytes file h1 h2 h3 = grind (arith, common_steps, nat_tests)

-- and all that was found
pub found_in : (found : Found) (honest was : Bool) (bytes file : List ℕ) → (IsTrue was → IsTrue honest) → (IsTrue was → bytes ≡ file)
    → IsFound found honest bytes → IsFound found was file
found_in found honest was bytes file on same is = record {
  head = is.head;
  tags = is.tags;
  sizes = is.sizes;
  roles = is.roles;
  replayed = replayed_in found.geometry found.catalogue found.a.entries found.b.entries _ _ honest was bytes file is.replayed on same;
  reserved_a = is.reserved_a;
  reserved_b = is.reserved_b;
  whole_a = is.whole_a;
  whole_b = is.whole_b;
  ahead = is.ahead;
  stands = λ are. ahead_in found.geometry honest was bytes file found.space first_tags.deep (guide_at found.guides first_tags.deep) found.ahead on
      same
      (is.stands are);
}

-- filters and fences that were reserved have room for what the catalogue has
pub rooms_reserved : {E : Type 0} (sizes : Sizes) (catalogue : Catalog) → FitsMarks sizes catalogue → (r : Result (List GuideState) E)
    → IfOk r (AreGuides sizes first_tags)
    → IfOk r (λ guides. IsReserved catalogue.c1x.weight (guide_at guides first_tags.c1x)) → IfOk r (AreRooms catalogue)
rooms_reserved sizes catalogue fits (Ok guides) are c1x = record {
  c1 = λ below. reserved_less (omega (arith, fits.mark)) are.c1;
  c1x = λ below. c1x;
  c2 = λ below. reserved_less (omega (arith, fits.full)) are.c2;
  deep = λ below. reserved_less (omega (arith, fits.full)) are.deep;
}
rooms_reserved sizes catalogue fits (Err e) are c1x = tt

-- the calls of the lanes behind those of the pages
pub calls_on : (catalogue : Catalog) (a b old mid new : ℕ) → mid ≤ old + calls_of_pages catalogue → new ≤ mid + ((a + 1) + (b + 1))
    → new + 4 ≤ old + calls_of_reading catalogue a b
calls_on catalogue a b old mid new few more = omega (arith, few, more)
