-- What the components and the runs keep while one tag takes pages and only its pages are written.
use Rattle.std.specs.Prelude.{◌≡◌, ◌⊎◌, ℕ, ◌<◌, Bool, IsTrue, List, [], ◌∷◌, ◌++◌, length}
use Rattle.std.proofs.lemmas.Grind.{common_steps}
use Rattle.std.proofs.lemmas.Bool.Decides.{nat_tests}
use Rattle.std.specs.List.{Contains}
use Rattle.std.proofs.Common.{sym, subst, inl, inr, ⊎_elim, refl, arith}
use Rattle.std.proofs.lemmas.List.Elements.{Contains-append_left, Contains-append_cases}
use Rattle.disk_trait.specs.Region.{Region, AreApart, IsSameOutside, IsWithin}
use Rattle.blsm_model.specs.Components.{empty_component}
use Rattle.blsm_model.specs.Sizes.{Sizes}
use Rattle.blsm_model.specs.Geometry.{page_count}
use Rattle.bloom_bits.specs.BitSet.{BitState}
use Rattle.bloom_bits.specs.Fences.{FencesState}
use Rattle.record_delta.specs.Entries.{Entries}
use Rattle.page_space.specs.Space.{SpaceState, IsSpace, IsFree, HasRole, KeepsOtherRoles, pages_with, role_count}
use Rattle.page_space.specs.PageSet.{Members, IsIn}
use Rattle.page_file.specs.File.{page_region, pages_region}
use Rattle.page_file.specs.Component.{numbers_of}
use Rattle.run_writer.specs.Writer.{WriterState, Holds, HasPushed, role_region}
use Rattle.run_writer.specs.Run.{Run}
use Rattle.merge_ends.specs.Output.{TakesPages}
use Rattle.tree_file.specs.Tree.{Tree, HoldsTree, kept_pages, live_pages}
use Rattle.tree_file.proofs.HoldsLemmas.{pages_are_beside, roles_of}
use Rattle.tree_runs.proofs.KeptMerges.{KeepsRun, KeepsPages}
use Rattle.tree_runs.specs.Runs.{Tags, HasOneTag, IsFilled}
use Rattle.tree_runs.specs.Holding.{AreTagged}
use Rattle.tree_file.proofs.Terms.{IsBeside, body_region}

-- ---- tags

other_tag : {old new : SpaceState} {role : ℕ} → TakesPages role old new → (other : ℕ) → (other ≡ role → ⊥) → (page : ℕ) → HasRole new other page → HasRole old other page
other_tag takes other differs page has = subst (λ (set : Members). IsIn set page) (takes.others other differs) has

pub tag_kept : {old new : SpaceState} {role : ℕ} → TakesPages role old new → (other : ℕ) → (other ≡ role → ⊥) → (page : ℕ) → HasRole old other page → HasRole new other page
tag_kept takes other differs page has = subst (λ (set : Members). IsIn set page) (sym (takes.others other differs)) has

-- The pages that a tag takes had none, so no page has two tags.
pub one_tag_taken : (role : ℕ) (old new : SpaceState) → KeepsOtherRoles role old new → ((page : ℕ) → HasRole new role page → HasRole old role page ⊎ IsFree old page) → HasOneTag old → HasOneTag new
one_tag_taken role old new h1 h2 h3 = grind (arith, common_steps, nat_tests)

pub one_tag_after : {old new : SpaceState} {role : ℕ} → TakesPages role old new → HasOneTag old → HasOneTag new
one_tag_after {old} {new} {role} takes before = one_tag_taken role old new takes.others takes.only_free before

-- ---- what isn't the tag's

other_pages_apart : (sizes : Sizes) {space after : SpaceState} {role tag : ℕ} → (tag ≡ role → ⊥) → HasOneTag after → TakesPages role space after → AreApart (role_region sizes after role) (role_region sizes space tag)
other_pages_apart sizes {space} {after} {role} {tag} differs one_tag takes i here there = grind (arith, common_steps, nat_tests)

-- a run of another tag stays, and so do the pages of another one
pub keeps_other : (sizes : Sizes) {honest : Bool} {old new : List ℕ} {space after : SpaceState} {role : ℕ} (tag : ℕ) → (tag ≡ role → ⊥) → HasOneTag after → TakesPages role space after
    → (IsTrue honest → IsSameOutside (role_region sizes after role) old new) → KeepsRun sizes honest (role_region sizes after role) old new space after tag
keeps_other sizes tag differs one_tag takes same = record { no_more = other_tag takes tag differs; tagged = tag_kept takes tag differs; same = same; apart = other_pages_apart sizes differs one_tag takes }

pub pages_other : (sizes : Sizes) {space after : SpaceState} {role : ℕ} (tag : ℕ) → (tag ≡ role → ⊥) → HasOneTag after → TakesPages role space after → KeepsPages sizes space after (role_region sizes after role) tag
pages_other sizes tag differs one_tag takes = record { tagged = tag_kept takes tag differs; apart = other_pages_apart sizes differs one_tag takes }

-- ---- the tree

in_range : (set : Members) (page : ℕ) → IsIn set page → page < length set
in_range set page is_in = grind (arith, common_steps, nat_tests)

first : (n : ℕ) (ns : List ℕ) → Contains (n ∷ ns) n
first n ns = Contains-append_left (n ∷ []) ns n (0, omega arith, refl)

only : (n m : ℕ) → Contains (n ∷ []) m → m ≡ n
only n m h1 = grind (arith, common_steps, nat_tests)

none_in : (n : ℕ) → Contains {X = ℕ} [] n → ⊥
none_in n has = omega (arith, has.1)

-- a tag's pages are the store's
pub role_below : (space : SpaceState) (role n : ℕ) → IsSpace space → role < role_count → HasRole space role n → n < space.pages
role_below space role n shape below has = omega (arith, in_range (pages_with space role) n has, shape.of_role role below)

-- And what is written of them is beside the tree, where none of its components' pages has the tag, and none of its finished ones is written.
pub role_is_beside : {region : Region} (sizes : Sizes) (tree : Tree) (space : SpaceState) (role : ℕ) (file : List ℕ) → HoldsTree sizes tree file → IsSpace space → space.pages ≡ page_count sizes
    → role < role_count → ((n : ℕ) → HasRole space role n → Contains (live_pages tree) n → ⊥) → IsWithin region (role_region sizes space role)
    → AreApart region (pages_region sizes (numbers_of tree.output)) → IsBeside sizes tree region
role_is_beside {region} sizes tree space role file holds shape pages below others within finished = record {
  body = record {
    apart = λ i here there. ⊎_elim (λ front. kept i here (inl front))
        (λ behind. ⊎_elim (λ a. kept i here (inr (inl a))) (λ more. ⊎_elim (λ b. kept i here (inr (inr (inl b)))) (λ page. no_page i here page) more) behind) there;
    inside = λ i here. let at = within i here in (beside at.0 at.1).body.inside i (alone at.0 i at.2);
  };
  slots = λ version i here there. let at = within i here in (beside at.0 at.1).slots version i (alone at.0 i at.2) there;
}
  where
    -- the tree without its finished pages
    bare : Tree
    bare = record tree { output = [] }

    alone : (n i : ℕ) → page_region sizes n i → pages_region sizes (n ∷ []) i
    alone n i inside = (n, first n [], inside)

    beside : (n : ℕ) → HasRole space role n → IsBeside sizes bare (pages_region sizes (n ∷ []))
    beside n has =
        pages_are_beside sizes bare (n ∷ []) (roles_of holds)
        (λ m is live. others n has (subst (Contains (live_pages tree)) (only n m is) live))
        (λ m is none. none_in m none)
        (λ m is. omega (arith, role_below space role n shape below has, only n m is, pages))

    kept : AreApart region (body_region sizes bare)
    kept i here there = let at = within i here in (beside at.0 at.1).body.apart i (alone at.0 i at.2) there

    no_page : AreApart region (pages_region sizes (kept_pages tree))
    no_page i here (n, among, page) =
        ⊎_elim (λ live. kept i here (inr (inr (inr (n, Contains-append_left (live_pages tree) [] n live, page))))) (λ output. finished i here (n, output, page))
        (Contains-append_cases (live_pages tree) (numbers_of tree.output) n among)

-- each page of the tree has one of three tags
pub live_tagged : (tree : Tree) (n : ℕ) → Contains (live_pages tree) n → (Contains (numbers_of tree.c1) n ⊎ Contains (numbers_of tree.c1x) n) ⊎ Contains (numbers_of tree.c2) n
live_tagged tree n live =
    ⊎_elim
    (λ (front : Contains (numbers_of tree.c1 ++ numbers_of tree.c1x) n). inl (Contains-append_cases (numbers_of tree.c1) (numbers_of tree.c1x) n front))
    (λ last. inr last)
    (Contains-append_cases (numbers_of tree.c1 ++ numbers_of tree.c1x) (numbers_of tree.c2) n live)

-- so none has the tag of a run
pub not_live : (tags : Tags) (tree : Tree) (space : SpaceState) (role : ℕ) → HasOneTag space → (tags.c1 ≡ role → ⊥) → (tags.c1x ≡ role → ⊥) → (tags.c2 ≡ role → ⊥)
    → AreTagged space tags.c1 tree.c1 → AreTagged space tags.c1x tree.c1x → AreTagged space tags.c2 tree.c2
    → (n : ℕ) → HasRole space role n → Contains (live_pages tree) n → ⊥
not_live tags tree space role one_tag c1 c1x c2 in_c1 in_c1x in_c2 n has live =
    ⊎_elim
    (λ front. ⊎_elim (λ one. c1 (one_tag n tags.c1 role (in_c1 n one) has)) (λ two. c1x (one_tag n tags.c1x role (in_c1x n two) has)) front)
    (λ three. c2 (one_tag n tags.c2 role (in_c2 n three) has))
    (live_tagged tree n live)

-- ---- a component that a run is

-- a run without pages is the empty component
empty_run : (writer : WriterState) (run : Run) → Holds writer run → writer.component.pages ≡ 0 → writer.component ≡ empty_component
empty_run writer run held none = grind (arith, common_steps, nat_tests)

-- what is true of a run's numbers, on any disk
pub run_filled : (sizes : Sizes) (honest : Bool) (file : List ℕ) (space : SpaceState) (writer : WriterState) (filter : BitState) (fences : FencesState) (entries : Entries)
    → HasPushed sizes honest file space writer filter fences entries → IsFilled writer.component
run_filled sizes honest file space writer filter fences entries has = record { none = empty_run writer has.run has.held; full = omega (arith, has.counted.floor) }
