-- A tree stays in its file where bytes change beside it.
use Rattle.std.specs.Prelude.{◌≢◌, ◌⊎◌, ℕ, ◌+◌, ◌<◌, ◌≤◌, List, ◌++◌, Option, Some, None}
use Rattle.std.proofs.lemmas.Grind.{common_steps}
use Rattle.std.proofs.lemmas.Bool.Decides.{nat_tests}
use Rattle.std.specs.List.{Contains}
use Rattle.std.proofs.Common.{inl, inr, ⊎_elim, sym, subst, arith}
use Rattle.std.proofs.lemmas.List.Elements.{Contains-append_left, Contains-append_right, Contains-append_cases}
use Rattle.disk_trait.specs.Region.{Region, span, IsWithin, AreApart, IsSameOutside}
use Rattle.disk_trait.proofs.RegionLemmas.{part_apart}
use Rattle.blsm_model.specs.Format.{page_length}
use Rattle.blsm_model.specs.Sizes.{Sizes}
use Rattle.blsm_model.specs.Geometry.{page_count, file_length}
use Rattle.blsm_model.specs.Lanes.{a_of, b_of, region_start, region_length, AreRoles}
use Rattle.page_file.specs.File.{page_start, page_region, pages_region, AreSamePages}
use Rattle.page_file.specs.Component.{numbers_of}
use Rattle.page_file.proofs.PageLemmas.{others_apart, before_apart}
use Rattle.page_file.proofs.ComponentLemmas.{component_kept, run_kept}
use Rattle.gated_log.specs.Lane.{Lane, lane_region, HasEntries}
use Rattle.gated_log.proofs.LaneLaws.{entries_apart, lanes_apart}
use Rattle.gated_log.proofs.LaneLemmas.{region_inside}
use Rattle.catalog_swap.specs.declared.catalog.Progress.{Progress}
use Rattle.catalog_swap.specs.Slots.{slot_of, slot_length, IsNewest}
use Rattle.catalog_swap.proofs.FileLemmas.{newest_same, slots_apart}
use Rattle.store_file.specs.Layout.{IsStoreOf, superblock_length}
use Rattle.store_file.proofs.LayoutLaws.{store_apart}
use Rattle.tree_file.specs.Tree.{Tree, HasProgress, HoldsTree, kept_pages, live_pages}
use Rattle.tree_file.specs.Places.{ReadsNext}
use Rattle.tree_file.proofs.Terms.{IsBesideBody, IsBeside, body_region}

-- ---- what a file has of a tree, whatever its slots say

pub record HasBody (sizes : Sizes) (tree : Tree) (file : List ℕ) : Type 0 where
  pub store : IsStoreOf sizes file
  pub reads : ReadsNext sizes tree file
  pub lane_a : HasEntries sizes (a_of tree.catalogue.lanes) tree.lane_a file
  pub lane_b : HasEntries sizes (b_of tree.catalogue.lanes) tree.lane_b file

pub body_of : {sizes : Sizes} {tree : Tree} {file : List ℕ} → HoldsTree sizes tree file → HasBody sizes tree file
body_of holds = record {
  store = holds.store;
  reads = record { c1 = holds.c1; c1x = holds.c1x; c2 = holds.c2; apart = holds.apart; bases = holds.bases; progress = holds.progress };
  lane_a = holds.lane_a;
  lane_b = holds.lane_b;
}

-- with its catalogue the newest it is the tree
pub body_holds : {sizes : Sizes} {tree : Tree} {file : List ℕ} → HasBody sizes tree file → IsNewest sizes tree.catalogue file → HoldsTree sizes tree file
body_holds body newest = record {
  store = body.store;
  newest = newest;
  c1 = body.reads.c1;
  c1x = body.reads.c1x;
  c2 = body.reads.c2;
  apart = body.reads.apart;
  bases = body.reads.bases;
  progress = body.reads.progress;
  lane_a = body.lane_a;
  lane_b = body.lane_b;
}

-- ---- where bytes change beside it

pages_beside : {region : Region} {old new : List ℕ} (sizes : Sizes) (numbers all : List ℕ) → ((n : ℕ) → Contains numbers n → Contains all n) → AreApart region (pages_region sizes all)
    → IsSameOutside region old new → AreSamePages sizes numbers old new
pages_beside sizes numbers all among apart same n has = part_apart (page_start sizes n) page_length (λ i here page. apart i here (n, among n has, page)) same

-- what its catalogue names of a deep merge, too
progress_beside : (sizes : Sizes) (progress : Option Progress) (tree : Tree) (old new : List ℕ) → AreSamePages sizes (numbers_of tree.output) old new
    → HasProgress sizes progress tree old → HasProgress sizes progress tree new
progress_beside sizes None tree old new same has = has
progress_beside sizes (Some progress) tree old new same has =
    let is = has.output in
    record {
      output = record {
        reads = run_kept sizes progress.output tree.output (Some progress.next) old new same is.reads;
        entries_are = is.entries_are;
        z_is = is.z_is;
        more = is.more;
      };
      apart = has.apart;
    }

-- The components of the next tree read still where bytes change apart from its pages.
pub reads_next_beside : {region : Region} {old new : List ℕ} (sizes : Sizes) (next : Tree) → AreApart region (pages_region sizes (kept_pages next)) → IsSameOutside region old new
    → ReadsNext sizes next old → ReadsNext sizes next new
reads_next_beside {region} {old} {new} sizes next apart same reads =
    let one = numbers_of next.c1 in
    let two = numbers_of next.c1x in
    let three = numbers_of next.c2 in
    let four = numbers_of next.output in
    record {
      c1 = component_kept sizes next.catalogue.c1 next.c1 old new
          (pages_beside sizes one (kept_pages next) (λ n has. Contains-append_left (live_pages next) four n (Contains-append_left (one ++ two) three n (Contains-append_left one two n has))) apart same) reads.c1;
      c1x = component_kept sizes next.catalogue.c1x next.c1x old new
          (pages_beside sizes two (kept_pages next) (λ n has. Contains-append_left (live_pages next) four n (Contains-append_left (one ++ two) three n (Contains-append_right one two n has))) apart same) reads.c1x;
      c2 = component_kept sizes next.catalogue.c2 next.c2 old new
          (pages_beside sizes three (kept_pages next) (λ n has. Contains-append_left (live_pages next) four n (Contains-append_right (one ++ two) three n has)) apart same) reads.c2;
      apart = reads.apart;
      bases = reads.bases;
      progress = progress_beside sizes next.catalogue.progress next old new
          (pages_beside sizes four (kept_pages next) (Contains-append_right (live_pages next) four) apart same) reads.progress;
    }

store_beside : {region : Region} {old new : List ℕ} (sizes : Sizes) → AreApart region (span 0 superblock_length) → ((i : ℕ) → region i → i < file_length sizes) → IsSameOutside region old new
    → IsStoreOf sizes old → IsStoreOf sizes new
store_beside {region} sizes apart inside same store = store_apart sizes behind same store
  where
    behind : (i : ℕ) → region i → (superblock_length ≤ i) × (i < file_length sizes)
    behind i here = grind (arith, common_steps, nat_tests)

-- what a file has of a tree it has still
pub body_beside : {region : Region} {old new : List ℕ} (sizes : Sizes) (tree : Tree) → HasBody sizes tree old → IsBesideBody sizes tree region → IsSameOutside region old new
    → HasBody sizes tree new
body_beside sizes tree body beside same = record {
  store = store_beside sizes (λ i here there. beside.apart i here (inl there)) beside.inside same body.store;
  reads = reads_next_beside sizes tree (λ i here there. beside.apart i here (inr (inr (inr there)))) same body.reads;
  lane_a = entries_apart sizes (a_of tree.catalogue.lanes) tree.lane_a (λ i here there. beside.apart i here (inr (inl there))) same body.lane_a;
  lane_b = entries_apart sizes (b_of tree.catalogue.lanes) tree.lane_b (λ i here there. beside.apart i here (inr (inr (inl there)))) same body.lane_b;
}

-- A tree stays where bytes change beside its body and its catalogue is the newest still, as where they change beside the slots, too.
pub holds_beside_body : {region : Region} {old new : List ℕ} (sizes : Sizes) (tree : Tree) → HoldsTree sizes tree old → IsBesideBody sizes tree region → IsSameOutside region old new
    → IsNewest sizes tree.catalogue new → HoldsTree sizes tree new
holds_beside_body sizes tree holds beside same newest = body_holds (body_beside sizes tree (body_of holds) beside same) newest

pub holds_beside : {region : Region} {old new : List ℕ} (sizes : Sizes) (tree : Tree) → HoldsTree sizes tree old → IsBeside sizes tree region → IsSameOutside region old new
    → HoldsTree sizes tree new
holds_beside sizes tree holds beside same = holds_beside_body sizes tree holds beside.body same (newest_same (slots_apart beside.slots same) holds.newest)

-- ---- which regions are beside a tree

-- a part of a region beside it, and two regions beside it
pub beside_within : {small large : Region} {sizes : Sizes} {tree : Tree} → IsWithin small large → IsBesideBody sizes tree large → IsBesideBody sizes tree small
beside_within within beside = record { apart = λ i here. beside.apart i (within i here); inside = λ i here. beside.inside i (within i here) }

pub beside_both : {one other : Region} {sizes : Sizes} {tree : Tree} → IsBesideBody sizes tree one → IsBesideBody sizes tree other → IsBesideBody sizes tree (λ i. one i ⊎ other i)
beside_both one other = record { apart = λ i. ⊎_elim (one.apart i) (other.apart i); inside = λ i. ⊎_elim (one.inside i) (other.inside i) }

apart_body : {region : Region} (sizes : Sizes) (tree : Tree) → AreApart region (span 0 superblock_length) → AreApart region (lane_region sizes (a_of tree.catalogue.lanes))
    → AreApart region (lane_region sizes (b_of tree.catalogue.lanes)) → AreApart region (pages_region sizes (kept_pages tree)) → AreApart region (body_region sizes tree)
apart_body sizes tree front a b pages i here = ⊎_elim (front i here) (⊎_elim (a i here) (⊎_elim (b i here) (pages i here)))

-- a lane is behind the slots, and before the pages
lane_front : (sizes : Sizes) (lane at n : ℕ) → at + n ≤ 4096 → AreApart (span at n) (lane_region sizes lane)
lane_front sizes lane at n ends i here there = omega (arith, ends, here.1, there.0)

pub lane_slots : (sizes : Sizes) (lane version : ℕ) → AreApart (lane_region sizes lane) (span (slot_of version) slot_length)
lane_slots sizes lane version i here there = lane_front sizes lane (slot_of version) slot_length (omega arith) i there here

pub pages_after : (sizes : Sizes) (at n : ℕ) (numbers : List ℕ) → at + n ≤ page_start sizes 0 → AreApart (span at n) (pages_region sizes numbers)
pages_after sizes at n numbers ends i here there = before_apart sizes there.0 at n ends i there.2 here

pub lane_pages : (sizes : Sizes) (lane : ℕ) (numbers : List ℕ) → lane < 3 → AreApart (lane_region sizes lane) (pages_region sizes numbers)
lane_pages sizes lane numbers below = pages_after sizes (region_start sizes lane) (region_length sizes) numbers (omega (arith, region_inside sizes lane below))

lane_inside : (sizes : Sizes) (lane : ℕ) → lane < 3 → (i : ℕ) → lane_region sizes lane i → i < file_length sizes
lane_inside sizes lane below i here = omega (arith, region_inside sizes lane below, here.1)

-- what stands in the head of the file, behind the superblock: a slot
pub head_beside : (sizes : Sizes) (tree : Tree) (at n : ℕ) → superblock_length ≤ at → at + n ≤ 4096 → IsBesideBody sizes tree (span at n)
head_beside sizes tree at n begins ends = record {
  apart = apart_body sizes tree (λ i here there. omega (arith, begins, here.0, there.1)) (lane_front sizes (a_of tree.catalogue.lanes) at n ends)
      (lane_front sizes (b_of tree.catalogue.lanes) at n ends) (pages_after sizes at n (kept_pages tree) (omega (arith, ends)));
  inside = λ i here. omega (arith, ends, here.1);
}

-- a lane that is neither A nor B: the spare one
pub lane_beside : (sizes : Sizes) (tree : Tree) (lane : ℕ) → lane < 3 → lane ≢ a_of tree.catalogue.lanes → lane ≢ b_of tree.catalogue.lanes → IsBeside sizes tree (lane_region sizes lane)
lane_beside sizes tree lane below not_a not_b = record {
  body = record {
    apart = apart_body sizes tree (λ i here there. omega (arith, here.0, there.1)) (lanes_apart sizes lane (a_of tree.catalogue.lanes) not_a)
        (lanes_apart sizes lane (b_of tree.catalogue.lanes) not_b) (lane_pages sizes lane (kept_pages tree) below);
    inside = lane_inside sizes lane below;
  };
  slots = lane_slots sizes lane;
}

-- pages that aren't the tree's: those of a run that is being written, and free ones
pub pages_are_beside : (sizes : Sizes) (tree : Tree) (numbers : List ℕ) → AreRoles tree.catalogue.lanes → ((n : ℕ) → Contains numbers n → Contains (live_pages tree) n → ⊥)
    → ((n : ℕ) → Contains numbers n → Contains (numbers_of tree.output) n → ⊥) → ((n : ℕ) → Contains numbers n → n < page_count sizes) → IsBeside sizes tree (pages_region sizes numbers)
pages_are_beside sizes tree numbers roles others others_too below = record {
  body = record {
    apart = apart_body sizes tree (front 0 superblock_length (omega arith)) (lane (a_of tree.catalogue.lanes) roles.a_below) (lane (b_of tree.catalogue.lanes) roles.b_below) pages;
    inside = λ i here. page_inside here.0 (below here.0 here.1) i here.2;
  };
  slots = λ version. front (slot_of version) slot_length (omega arith);
}
  where
    front : (at n : ℕ) → at + n ≤ 4096 → AreApart (pages_region sizes numbers) (span at n)
    front at n ends i here there = pages_after sizes at n numbers (omega (arith, ends)) i there here

    lane : (k : ℕ) → k < 3 → AreApart (pages_region sizes numbers) (lane_region sizes k)
    lane k below_3 i here there = lane_pages sizes k numbers below_3 i there here

    none_kept : (n : ℕ) → Contains numbers n → Contains (kept_pages tree) n → ⊥
    none_kept n has kept = ⊎_elim (others n has) (others_too n has) (Contains-append_cases (live_pages tree) (numbers_of tree.output) n kept)

    pages : AreApart (pages_region sizes numbers) (pages_region sizes (kept_pages tree))
    pages i here there = others_apart sizes here.0 there.0 (λ same. none_kept here.0 here.1 (subst (Contains (kept_pages tree)) (sym same) there.1)) i here.2 there.2

    page_inside : (n : ℕ) → n < page_count sizes → (i : ℕ) → page_region sizes n i → i < file_length sizes
    page_inside n lt i here = omega (arith, lt, here.1)

-- ---- a lane with other entries

-- which of the tree's two lanes: the one of the table that the pass takes from, or that of the next pass's
pub data Role : Type 0 where
  as_a : Role
  as_b : Role

abbrev pub lane_of : Role → Tree → ℕ
lane_of as_a tree = a_of tree.catalogue.lanes
lane_of as_b tree = b_of tree.catalogue.lanes

abbrev pub lane_in : Role → Tree → Lane
lane_in as_a tree = tree.lane_a
lane_in as_b tree = tree.lane_b

abbrev pub with_lane : Role → Lane → Tree → Tree
with_lane as_a lane tree = record tree { lane_a = lane }
with_lane as_b lane tree = record tree { lane_b = lane }

pub roles_of : {sizes : Sizes} {tree : Tree} {file : List ℕ} → HoldsTree sizes tree file → AreRoles tree.catalogue.lanes
roles_of holds = holds.newest.stands.fits.lanes

pub role_below : (role : Role) (tree : Tree) → AreRoles tree.catalogue.lanes → lane_of role tree < 3
role_below role tree h1 = grind (arith, common_steps, nat_tests)

pub has_entries : (role : Role) {sizes : Sizes} {tree : Tree} {file : List ℕ} → HoldsTree sizes tree file
    → HasEntries sizes (lane_of role tree) (lane_in role tree) file
has_entries as_a holds = holds.lane_a
has_entries as_b holds = holds.lane_b

-- the lanes don't count in what is named of a deep merge
progress_over : (sizes : Sizes) (progress : Option Progress) (tree : Tree) (es fs : Lane) (file : List ℕ) → HasProgress sizes progress tree file
    → HasProgress sizes progress (record tree { lane_a = es; lane_b = fs }) file
progress_over sizes None tree es fs file has = has
progress_over sizes (Some progress) tree es fs file has = record { output = has.output; apart = has.apart }

-- bytes of one lane changed, and both lanes have these entries
lanes_changed : {old new : List ℕ} (sizes : Sizes) (tree : Tree) (lane : ℕ) (es fs : Lane) → lane < 3 → HoldsTree sizes tree old
    → IsSameOutside (lane_region sizes lane) old new
    → HasEntries sizes (a_of tree.catalogue.lanes) es new → HasEntries sizes (b_of tree.catalogue.lanes) fs new → HoldsTree sizes (record tree { lane_a = es; lane_b = fs }) new
lanes_changed sizes tree lane es fs below holds same a b =
    let body = body_of holds in
    body_holds
    (record {
      store = store_beside sizes (λ i here there. omega (arith, here.0, there.1)) (lane_inside sizes lane below) same body.store;
      reads = components (reads_next_beside sizes tree (lane_pages sizes lane (kept_pages tree) below) same body.reads);
      lane_a = a;
      lane_b = b;
    })
    (newest_same (slots_apart (lane_slots sizes lane) same) holds.newest)
  where
    components : {file : List ℕ} → ReadsNext sizes tree file → ReadsNext sizes (record tree { lane_a = es; lane_b = fs }) file
    components {file} reads = record {
      c1 = reads.c1;
      c1x = reads.c1x;
      c2 = reads.c2;
      apart = reads.apart;
      bases = reads.bases;
      progress = progress_over sizes tree.catalogue.progress tree es fs file reads.progress;
    }

-- Where bytes of one lane alone change, and it has other entries then, the tree has these.
pub entries_changed : (role : Role) {old new : List ℕ} (sizes : Sizes) (tree : Tree) (lane : Lane) → HoldsTree sizes tree old
    → IsSameOutside (lane_region sizes (lane_of role tree)) old new
    → HasEntries sizes (lane_of role tree) lane new → HoldsTree sizes (with_lane role lane tree) new
entries_changed as_a sizes tree lane holds same has =
    let roles = roles_of holds in
    lanes_changed sizes tree (a_of tree.catalogue.lanes) lane tree.lane_b roles.a_below holds same has
    (entries_apart sizes (b_of tree.catalogue.lanes) tree.lane_b (lanes_apart sizes (a_of tree.catalogue.lanes) (b_of tree.catalogue.lanes) roles.a_not_b) same holds.lane_b)
entries_changed as_b sizes tree lane holds same has =
    let roles = roles_of holds in
    lanes_changed sizes tree (b_of tree.catalogue.lanes) tree.lane_a lane roles.b_below holds same
    (entries_apart sizes (a_of tree.catalogue.lanes) tree.lane_a (lanes_apart sizes (b_of tree.catalogue.lanes) (a_of tree.catalogue.lanes) (λ is. roles.a_not_b (sym is))) same holds.lane_a) has

-- with those that it had it is the tree that it was
pub same_entries : (role : Role) {sizes : Sizes} {tree : Tree} {file : List ℕ} → HoldsTree sizes (with_lane role (lane_in role tree) tree) file
    → HoldsTree sizes tree file
same_entries as_a holds = holds
same_entries as_b holds = holds

-- pages that aren't the tree's, in a file that holds it
pub other_pages : (sizes : Sizes) (tree : Tree) (numbers : List ℕ) (old new : List ℕ) → HoldsTree sizes tree old → ((n : ℕ) → Contains numbers n → Contains (live_pages tree) n → ⊥)
    → ((n : ℕ) → Contains numbers n → Contains (numbers_of tree.output) n → ⊥) → ((n : ℕ) → Contains numbers n → n < page_count sizes) → IsSameOutside (pages_region sizes numbers) old new → HoldsTree sizes tree new
other_pages sizes tree numbers old new holds others others_too below = holds_beside sizes tree holds (pages_are_beside sizes tree numbers (roles_of holds) others others_too below)
