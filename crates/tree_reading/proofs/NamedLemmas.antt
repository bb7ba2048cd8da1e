-- The finished pages that are named of a deep merge, behind components that were read.
use Rattle.std.proofs.lemmas.Bool.Decides.{nat_tests}
use Rattle.std.proofs.lemmas.Grind.{common_steps, div_ceil_times}
use Rattle.std.proofs.Common.{
  ◌≡◌,
  ◌≢◌,
  ◌↔◌,
  ◌⊎◌,
  ◌∙◌,
  ℕ,
  ◌+◌,
  ◌*◌,
  ◌^◌,
  ◌<◌,
  ◌≤◌,
  List,
  [],
  ◌++◌,
  Bool,
  IsTrue,
  Option,
  Some,
  None,
  Err,
  refl,
  ap,
  sym,
  subst,
  arith,
}
use Rattle.std.specs.List.{Contains}
use Rattle.blsm_model.specs.declared.component.Component.{Component}
use Rattle.blsm_model.specs.Format.{least_full}
use Rattle.blsm_model.specs.Geometry.{c1_mark, capacity, page_count}
use Rattle.blsm_model.specs.Sizes.{IsGeometry, Sizes}
use Rattle.blsm_model.proofs.GeometryLemmas.{by_half, by_ratio}
use Rattle.catalog_swap.specs.declared.catalog.Catalog.{Catalog}
use Rattle.catalog_swap.specs.declared.catalog.Progress.{Progress}
use Rattle.catalog_swap.specs.Text.{IsComponent}
use Rattle.page_file.specs.declared.file.Broken.{Broken}
use Rattle.page_file.specs.declared.file.Broken.TheVariants.{Fault, Damaged}
use Rattle.page_file.specs.Component.{RunPage, AreChained, entries_of, numbers_of}
use Rattle.page_space.specs.PageSet.{Members, IsIn, size}
use Rattle.page_space.specs.Space.{HasRole, IsFree, KeepsOtherRoles, SpaceState, pin_size}
use Rattle.tree_file.specs.Tree.{Tree, HasProgress}
use Rattle.tree_runs.specs.declared.resumable.Resumable.{Resumable}
use Rattle.tree_runs.specs.Ahead.{IsAheadOn, ResumesOver}
use Rattle.tree_runs.specs.Holding.{AreElsewhere}
use Rattle.tree_runs.specs.Laws.{TakesFree}
use Rattle.tree_runs.specs.Noting.{HasSameRoom, KeepsRooms}
use Rattle.tree_runs.specs.Runs.{AreGuides, AreRead, GuideState, HasOneTag, IsFilled, first_tags, guide_at, pages_named}
use Rattle.tree_runs.proofs.GuideLemmas.{all_guided_still, guides_still}
use Rattle.output_reading.specs.Walk.{HasClaimed, TakesUp, TellsOutput}
use Rattle.output_reading.specs.Walk as output
use Rattle.tree_reading.specs.Damage.{FitsMarks, HasOutput, in_component, in_output}
use Rattle.tree_reading.specs.Reading.{AreTagged, AreWalked, GuidesTree, IsReadAs, TellsComponents, TellsTree, unnamed}
use Rattle.tree_reading.proofs.NoteLemmas.{same_room}

-- ---- the map

pins_still : (old new : SpaceState) (seat : ℕ) → new.pins ≡ old.pins → pin_size new seat ≡ pin_size old seat
pins_still old new seat h1 = grind (arith, common_steps, nat_tests)

-- a tag takes free pages, so no page has two
one_tag_more : (role : ℕ) (old new : SpaceState) → KeepsOtherRoles role old new
    → ((page : ℕ) → HasRole new role page → HasRole old role page ⊎ IsFree old page) → HasOneTag old → HasOneTag new
one_tag_more role old new h1 h2 h3 = grind (arith, common_steps, nat_tests)

-- where the components were read, and the named pages were free
pub read_more : (sizes : Sizes) (catalogue : Catalog) (old new : SpaceState) → AreRead sizes (unnamed catalogue) old
    → TakesFree first_tags.deep (pages_named catalogue.progress) old new → AreRead sizes catalogue new
read_more sizes catalogue old new read takes = record {
  geometry = read.geometry;
  pages = takes.pages ∙ read.pages;
  shape = takes.shape;
  one_tag = one_tag_more first_tags.deep old new takes.others takes.fresh read.one_tag;
  c1 = record { filled = read.c1.filled; size = ap size (takes.others 0 (λ e. omega (arith, e))) ∙ read.c1.size };
  c1x = record { filled = read.c1x.filled; size = ap size (takes.others 1 (λ e. omega (arith, e))) ∙ read.c1x.size };
  c2 = record { filled = read.c2.filled; size = ap size (takes.others 2 (λ e. omega (arith, e))) ∙ read.c2.size };
  pass = ap size (takes.others 3 (λ e. omega (arith, e))) ∙ read.pass;
  deep = omega (arith, takes.size, read.deep);
  no_pins = λ seat below. pins_still old new seat takes.pins ∙ read.no_pins seat below;
}

pub read_same : (sizes : Sizes) (catalogue : Catalog) (space : SpaceState) → catalogue.progress ≡ None → AreRead sizes (unnamed catalogue) space
    → AreRead sizes catalogue space
read_same sizes catalogue space none read = record {
  geometry = read.geometry;
  pages = read.pages;
  shape = read.shape;
  one_tag = read.one_tag;
  c1 = read.c1;
  c1x = read.c1x;
  c2 = read.c2;
  pass = read.pass;
  deep = read.deep ∙ ap pages_named (sym none);
  no_pins = read.no_pins;
}

pub claimed_free : {role count : ℕ} {old new : SpaceState} → HasClaimed role count 0 old new → TakesFree role count old new
claimed_free claimed = record {
  pages = claimed.pages;
  shape = claimed.shape;
  pins = claimed.pins;
  others = claimed.others;
  fresh = claimed.fresh;
  size = omega (arith, claimed.size);
}

pub named_free : (role : ℕ) (catalogue : Catalog) (progress : Progress) (old new : SpaceState) → catalogue.progress ≡ Some progress
    → HasClaimed role (progress.output.pages + 1) 0 old new → TakesFree role (pages_named catalogue.progress) old new
named_free role catalogue progress old new is claimed =
    subst (λ (p : Option Progress). TakesFree role (pages_named p) old new) (sym is) (claimed_free claimed)

-- the pages of a component are in use, and haven't the tag of the deep merge's run
pub elsewhere : (space : SpaceState) (tag : ℕ) (pages : List RunPage) (numbers : List ℕ) → HasOneTag space → tag ≢ first_tags.deep
    → ((k : ℕ) → HasRole space tag k ↔ Contains (numbers_of pages) k) → TakesUp numbers space
    → ((k : ℕ) → Contains (numbers_of pages) k → Contains numbers k) → AreElsewhere space first_tags.deep pages
elsewhere space tag pages numbers one_tag differs tags takes among = λ n has. (
  λ deep. differs (one_tag n tag first_tags.deep ((tags n).1 has) deep),
  λ free. takes.each n (among n has) free,
)

-- ---- what was read

tagged_still : (sizes : Sizes) (catalogue : Catalog) (old new : SpaceState) (file : List ℕ) → KeepsOtherRoles first_tags.deep old new
    → AreTagged sizes catalogue old file → AreTagged sizes catalogue new file
tagged_still sizes catalogue old new file others t = record {
  c1 = t.c1;
  c1x = t.c1x;
  c2 = t.c2;
  components = t.components;
  c1_tag = λ k. has_still 0 k t.c1 (λ e. omega (arith, e)) (t.c1_tag k);
  c1x_tag = λ k. has_still 1 k t.c1x (λ e. omega (arith, e)) (t.c1x_tag k);
  c2_tag = λ k. has_still 2 k t.c2 (λ e. omega (arith, e)) (t.c2_tag k);
}
  where
    has_still : (tag k : ℕ) (pages : List RunPage) → tag ≢ first_tags.deep → HasRole old tag k ↔ Contains (numbers_of pages) k
        → HasRole new tag k ↔ Contains (numbers_of pages) k
    has_still tag k pages differs has = subst (λ (set : Members). IsIn set k ↔ Contains (numbers_of pages) k) (sym (others tag differs)) has

pub read_plain : (sizes : Sizes) (catalogue : Catalog) (space : SpaceState) (guides : List GuideState) (file : List ℕ) → catalogue.progress ≡ None
    → AreWalked sizes catalogue space file → IsReadAs sizes catalogue space guides None file
read_plain sizes catalogue space guides file none walked =
    let t = walked.tagged in
    record {
      tagged = t;
      output = [];
      named = subst (λ (p : Option Progress). HasOutput sizes p t.c1 t.c1x t.c2 [] file) (sym none) refl;
      over = λ are. tt;
    }

pub read_named : (sizes : Sizes) (catalogue : Catalog) (progress : Progress) (old new : SpaceState) (guides : List GuideState) (ahead : Resumable)
    (file : List ℕ) → catalogue.progress ≡ Some progress → KeepsOtherRoles first_tags.deep old new → (walked : AreWalked sizes catalogue old file)
    → output.IsWalked sizes progress (entries_of walked.tagged.c1x) (entries_of walked.tagged.c2)
    (numbers_of walked.tagged.c1 ++ numbers_of walked.tagged.c1x ++ numbers_of walked.tagged.c2) first_tags.deep old new file
    → (AreGuides sizes first_tags guides → ResumesOver sizes file new first_tags.deep (guide_at guides first_tags.deep)
    (numbers_of walked.tagged.c1x) (numbers_of walked.tagged.c2) (entries_of walked.tagged.c1x) (entries_of walked.tagged.c2) ahead)
    → IsReadAs sizes catalogue new guides (Some ahead) file
unfolding tagged_still
read_named sizes catalogue progress old new guides ahead file is others walked named over =
    let t = walked.tagged in
    record {
      tagged = tagged_still sizes catalogue old new file others t;
      output = named.pages;
      named = subst (λ (p : Option Progress). HasOutput sizes p t.c1 t.c1x t.c2 named.pages file) (sym is) (named.output, named.takes.apart);
      over = over;
    }

-- or why not
pub departed_told : (sizes : Sizes) (catalogue : Catalog) (progress : Progress) (role : ℕ) (old new : SpaceState) (guides : List GuideState)
    (file : List ℕ)
    (broken : Broken) → catalogue.progress ≡ Some progress → (walked : AreWalked sizes catalogue old file)
    → TellsOutput sizes progress (entries_of walked.tagged.c1x) (entries_of walked.tagged.c2)
    (numbers_of walked.tagged.c1 ++ numbers_of walked.tagged.c1x ++ numbers_of walked.tagged.c2) role old new file (Err broken)
    → TellsTree sizes catalogue new guides file (Err broken)
departed_told sizes catalogue progress role old new guides file (Damaged n) is walked departed =
    let t = walked.tagged in
    in_output t.c1 t.c1x t.c2 t.components progress is departed
departed_told sizes catalogue progress role old new guides file Fault is walked departed = tt

-- and so of a component
pub component_told : (sizes : Sizes) (catalogue : Catalog) (space last : SpaceState) (guides : List GuideState) (file : List ℕ) (broken : Broken)
    → TellsComponents sizes catalogue space file (Err broken) → TellsTree sizes catalogue last guides file (Err broken)
component_told sizes catalogue space last guides file (Damaged n) damaged = in_component damaged
component_told sizes catalogue space last guides file Fault damaged = tt

pub not_named : (p : Option Progress) → ((progress : Progress) → p ≡ Some progress → ⊥) → p ≡ None
not_named None not = refl
not_named (Some progress) not = absurd (not progress refl)

-- ---- filters and fences

-- the finished pages stand, as another state of the disk has them, which reads the same where it is honest
pub ahead_in : (sizes : Sizes) (honest was : Bool) (bytes file : List ℕ) (space : SpaceState) (role : ℕ) (guide : GuideState)
    (ahead : Option Resumable)
    → (IsTrue was → IsTrue honest) → (IsTrue was → bytes ≡ file) → IsAheadOn sizes honest bytes space role guide ahead
    → IsAheadOn sizes was file space role guide ahead
ahead_in sizes honest was bytes file space role guide None on same is = tt
ahead_in sizes honest was bytes file space role guide (Some ahead) on same is =
    let s = is.1.stand in (
      is.0,
      record {
        stand = record {
          some = s.some;
          first_is = s.first_is;
          chained = λ sure. subst (λ (b : List ℕ). AreChained sizes is.0 (Some ahead.done.next) b) (same sure) (s.chained (on sure));
          rise = s.rise;
          apart = s.apart;
          tagged = s.tagged;
          pages_is = s.pages_is;
          entries_is = s.entries_is;
          weight_is = s.weight_is;
        };
        guide = is.1.guide;
        one_a_page = is.1.one_a_page;
        ends = is.1.ends;
      },
    )

pub room_back : {old new : List GuideState} → HasSameRoom old new → HasSameRoom new old
room_back same = record { many = sym same.many; bits = λ tag. sym (same.bits tag); fences = λ tag. sym (same.fences tag) }

-- those of the components stay while those of the deep merge's run are filled
pub guided_more : {old new : List GuideState} (sizes : Sizes) (catalogue : Catalog) (file : List ℕ) → KeepsRooms first_tags.deep old new
    → GuidesTree sizes catalogue old file → GuidesTree sizes catalogue new file
guided_more {old} {new} sizes catalogue file rooms guided = λ are tree c1 c1x c2.
    all_guided_still old new first_tags tree rooms.others (λ e. omega (arith, e)) (λ e. omega (arith, e)) (λ e. omega (arith, e))
    (guided (guides_still (room_back (same_room rooms)) are) tree c1 c1x c2)

-- ---- how many pages

-- C1' and C2 have a third of a store's pages at most, so that the three together have fewer than three times as many as a store
pub few_named : (sizes : Sizes) (catalogue : Catalog) (output : Component) → FitsMarks sizes catalogue → IsFilled catalogue.c1x
    → IsFilled catalogue.c2 → output.pages ≤ page_count sizes
    → catalogue.c1x.pages + catalogue.c2.pages + output.pages + 1 ≤ 3 * page_count sizes
few_named sizes catalogue output fits c1x c2 few =
    let ceil = div_ceil_times (capacity sizes) least_full (omega arith) in
    omega (arith, ceil.0, fits.full, c1x.full, c2.full, few)

pub few_pages_of : (pages : ℕ) (run : Component) → IsComponent pages run → run.pages ≤ pages
few_pages_of pages run h1 = grind (arith, common_steps, nat_tests)

-- and both weigh little
pub both_small : (sizes : Sizes) (catalogue : Catalog) → IsGeometry sizes → FitsMarks sizes catalogue → catalogue.c1x.weight + catalogue.c2.weight <
    2 ^ 64
both_small sizes catalogue geometry fits =
    let mark : c1_mark sizes ≤ 1073741824 = omega (
      arith,
      by_half sizes.ratio sizes.half (omega (arith, geometry.ratio))
          (omega (arith, geometry.half)),
    ) in
    omega (arith, fits.full, by_ratio sizes.ratio (c1_mark sizes) (omega (arith, geometry.ratio)) mark)

-- ---- the tree

-- a tree with these pages, whatever its lanes are
pub progress_of : (sizes : Sizes) (tree : Tree) (p : Option Progress) (file : List ℕ) → HasOutput sizes p tree.c1 tree.c1x tree.c2 tree.output file
    → HasProgress sizes p tree file
progress_of sizes tree None file none = none
progress_of sizes tree (Some progress) file named = record { output = named.0; apart = named.1 }

pub output_of : (sizes : Sizes) (tree : Tree) (p : Option Progress) (file : List ℕ) → HasProgress sizes p tree file
    → HasOutput sizes p tree.c1 tree.c1x tree.c2 tree.output file
output_of sizes tree None file none = none
output_of sizes tree (Some progress) file named = (named.output, named.apart)
