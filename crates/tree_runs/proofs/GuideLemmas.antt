-- Filters and fences by tag, when those of one tag are written.
use Rattle.std.specs.Prelude.{◌≡◌, ◌≢◌, ℕ, ◌<◌, ◌≤◌, List, get_or, length, slice_set, refl}
use Rattle.std.proofs.lemmas.Grind.{common_steps}
use Rattle.std.proofs.lemmas.Bool.Decides.{nat_tests}
use Rattle.std.proofs.Common.{◌∙◌, inl, inr, ap, sym, subst, arith}
use Rattle.std.proofs.lemmas.Bool.{cases_eq}
use Rattle.std.proofs.lemmas.List.{get_or-set_same, get_or-set_other, length-set}
use Rattle.blsm_model.specs.Sizes.{Sizes}
use Rattle.bloom_bits.specs.Filter.{rounded}
use Rattle.page_space.specs.Space.{role_count}
use Rattle.page_file.specs.Component.{RunPage}
use Rattle.merge_ends.specs.Output.{most_pages}
use Rattle.tree_file.specs.Tree.{Tree}
use Rattle.tree_runs.specs.Runs.{GuideState, AreGuides, IsReserved, Tags, empty_guide, emptied, guide_at, no_guide}
use Rattle.tree_runs.specs.Holding.{AreGuided, IsGuidedBy, KeepsOtherGuides}
use Rattle.tree_runs.specs.Noting.{HasSameRoom}

-- ---- room

pub pages_within : (weight most : ℕ) → weight ≤ most → most_pages weight ≤ most_pages most
pages_within weight most below = omega (arith, below)

-- a lighter run has room where this one has
pub reserved_less : {light weight : ℕ} {guide : GuideState} → light ≤ weight → IsReserved weight guide → IsReserved light guide
reserved_less {light} {weight} below is = record {
  bits = omega (arith, below, is.bits);
  pages = omega (arith, pages_within light weight below, is.pages);
}

pub reserved_still : {old new : List GuideState} {weight : ℕ} (tag : ℕ) → HasSameRoom old new → IsReserved weight (guide_at old tag)
    → IsReserved weight (guide_at new tag)
reserved_still {old} {new} {weight} tag same is = record {
  bits = subst (λ (n : ℕ). rounded weight ≤ n) (sym (same.bits tag)) is.bits;
  pages = subst (λ (n : ℕ). most_pages weight ≤ n) (sym (same.fences tag)) is.pages;
}

pub guides_still : {sizes : Sizes} {tags : Tags} {old new : List GuideState} → HasSameRoom old new → AreGuides sizes tags old
    → AreGuides sizes tags new
guides_still {sizes} {tags} same are = record {
  five = same.many ∙ are.five;
  c1 = reserved_still tags.c1 same are.c1;
  c1x = reserved_still tags.c1x same are.c1x;
  pass = reserved_still tags.pass same are.pass;
  c2 = reserved_still tags.c2 same are.c2;
  deep = reserved_still tags.deep same are.deep;
}

-- one tag's pair was put in place of one with as much room
pub same_room_set : (guides : List GuideState) (tag : ℕ) (guide : GuideState) → tag < length guides
    → guide.filter.reserved ≡ (guide_at guides tag).filter.reserved
    → guide.fences.reserved ≡ (guide_at guides tag).fences.reserved → HasSameRoom guides (slice_set guides tag guide)
same_room_set guides tag guide below bits pages = record {
  many = length-set guides tag guide;
  bits = λ other. elim (cases_eq other tag) [
    | inl same ↦ rw (same, get_or-set_same guides tag guide no_guide below) bits
    | inr differs ↦ ap (λ (g : GuideState). g.filter.reserved) (get_or-set_other guides tag other guide no_guide differs)
  ];
  fences = λ other. elim (cases_eq other tag) [
    | inl same ↦ rw (same, get_or-set_same guides tag guide no_guide below) pages
    | inr differs ↦ ap (λ (g : GuideState). g.fences.reserved) (get_or-set_other guides tag other guide no_guide differs)
  ];
}

-- a run begins with the pair
pub guides_emptied : {sizes : Sizes} {tags : Tags} {guides after : List GuideState} (tag bits : ℕ) → after ≡ emptied tag bits guides
    → tag < role_count → AreGuides sizes tags guides → AreGuides sizes tags after
guides_emptied {sizes} {tags} {guides} tag bits is below are =
    subst (λ (gs : List GuideState). AreGuides sizes tags gs) (sym is)
    (guides_still (same_room_set guides tag (empty_guide bits (guide_at guides tag)) (omega (arith, below, are.five)) refl refl) are)

-- ---- one tag's filter and fences are written, in as much room

pub record WritesGuide (sizes : Sizes) (tags : Tags) (tag : ℕ) (old new : List GuideState) (guide : GuideState) : Type 0 where
  pub here : guide_at new tag ≡ guide
  pub others : KeepsOtherGuides tag old new
  pub reserved : AreGuides sizes tags new

-- where a number names the tag, and these are the filters and fences by number, of which one was read
pub guide_named : {tag number : ℕ} {guides items : List GuideState} {was read : GuideState} → length guides ≡ role_count → items ≡ guides → number ≡ tag → number < role_count → was ≡ read → read ≡ get_or items number read
    → was ≡ guide_at guides tag
guide_named h1 h2 h3 h4 h5 h6 = grind (arith, common_steps, nat_tests)

pub writes_guide : {sizes : Sizes} {tags : Tags} {tag number : ℕ} {guides items : List GuideState} (was guide : GuideState)
    → AreGuides sizes tags guides → items ≡ guides → number ≡ tag → number < role_count → was ≡ guide_at guides tag
    → guide.filter.reserved ≡ was.filter.reserved → guide.fences.reserved ≡ was.fences.reserved → WritesGuide sizes tags tag guides (slice_set items number guide) guide
writes_guide {sizes} {tags} {tag} {number} {guides} {items} was guide are had named below is bits pages =
    subst (λ (l : List GuideState). WritesGuide sizes tags tag guides (slice_set l number guide) guide) (sym had)
    (subst (λ (n : ℕ). WritesGuide sizes tags tag guides (slice_set guides n guide) guide) (sym named) (record {
      here = get_or-set_same guides tag guide no_guide there;
      others = λ other differs. get_or-set_other guides tag other guide no_guide differs;
      reserved = guides_still
          (same_room_set guides tag guide there (bits ∙ ap (λ (g : GuideState). g.filter.reserved) is)
          (pages ∙ ap (λ (g : GuideState). g.fences.reserved) is)) are;
    }))
  where
    there : tag < length guides
    there = omega (arith, below, named, are.five)

-- ---- what the components' are of

pub guided_still : {tag : ℕ} (old new : List GuideState) (other : ℕ) (pages : List RunPage) → KeepsOtherGuides tag old new → other ≢ tag → IsGuidedBy (guide_at old other) pages → IsGuidedBy (guide_at new other) pages
guided_still old new other pages others differs guided = subst (λ (g : GuideState). IsGuidedBy g pages) (sym (others other differs)) guided

-- another tag's than the components' changes nothing of theirs
pub all_guided_still : {tag : ℕ} (old new : List GuideState) (tags : Tags) (tree : Tree) → KeepsOtherGuides tag old new → tags.c1 ≢ tag → tags.c1x ≢ tag → tags.c2 ≢ tag
    → AreGuided old tags tree → AreGuided new tags tree
all_guided_still old new tags tree others c1 c1x c2 guided = record {
  c1 = guided_still old new tags.c1 tree.c1 others c1 guided.c1;
  c1x = guided_still old new tags.c1x tree.c1x others c1x guided.c1x;
  c2 = guided_still old new tags.c2 tree.c2 others c2 guided.c2;
}
