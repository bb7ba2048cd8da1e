-- The free-page map: one that nobody used, and one whose pages of one tag are released.
use Rattle.std.proofs.Common.{◌≡◌, ◌≢◌, ℕ, ◌<◌, List, [], sym, subst, ◌∙◌, arith, inl, inr, ⊎_elim}
use Rattle.std.proofs.lemmas.Grind.{common_steps}
use Rattle.std.proofs.lemmas.Bool.Decides.{nat_tests}
use Rattle.std.specs.Prelude.{replicate, slice_index_or}
use Rattle.std.specs.List.{IsDistinct}
use Rattle.page_space.specs.PageSet.{Members, IsIn, none_of}
use Rattle.page_space.specs.Space.{HasRole, IsFree, IsPinnedBy, KeepsOtherRoles, SpaceState, pages_with, role_count, seat_count, unused}
use Rattle.output_reading.specs.Walk.{TakesUp}
use Rattle.tree_reading.specs.Walk.{ChangesOnly}

pub none_has : (pages k : ℕ) → IsIn (none_of pages) k → ⊥
none_has pages k has = grind (arith, common_steps, nat_tests)

some_none : (n pages i k : ℕ) → IsIn (slice_index_or (replicate n (none_of pages)) i []) k → ⊥
some_none n pages i k has = grind (arith, common_steps, nat_tests)

pub no_role_yet : (pages tag k : ℕ) (space : SpaceState) → space ≡ unused pages → HasRole space tag k → ⊥
no_role_yet pages tag k space is has = some_none role_count pages tag k (subst (λ (s : SpaceState). HasRole s tag k) is has)

no_pin_yet : (pages seat k : ℕ) (space : SpaceState) → space ≡ unused pages → IsPinnedBy space seat k → ⊥
no_pin_yet pages seat k space is has = some_none seat_count pages seat k (subst (λ (s : SpaceState). IsPinnedBy s seat k) is has)

pub takes_none : (pages : ℕ) (space : SpaceState) → space ≡ unused pages → TakesUp [] space
unfolding IsDistinct
takes_none pages space is = record {
  apart = tt;
  each = λ k has. absurd (omega (arith, has.1));
  others = λ k below. inl (record { in_range = below; no_role = λ tag. no_role_yet pages tag k space is; no_pin = λ seat. no_pin_yet pages seat k space is });
}

-- a page is free still, where only pages of one tag have changed, and it hasn't this one
free_as : (role k : ℕ) (old new : SpaceState) → (HasRole new role k → ⊥) → ((tag : ℕ) → tag ≢ role → pages_with new tag ≡ pages_with old tag) → new.pins ≡ old.pins → new.pages ≡ old.pages
    → IsFree old k → IsFree new k
free_as role k old new h1 h2 h3 h4 h5 = grind (arith, common_steps, nat_tests)

-- The tag had no pages, and then some, and now none.
pub takes_again : (earlier : List ℕ) (role : ℕ) (old mid new : SpaceState) → ((k : ℕ) → HasRole old role k → ⊥) → ChangesOnly role old mid → pages_with new role ≡ none_of mid.pages → KeepsOtherRoles role mid new
    → new.pins ≡ mid.pins → new.pages ≡ mid.pages → TakesUp earlier old → TakesUp earlier new
takes_again earlier role old mid new none changed this others pins pages takes = record {
  apart = takes.apart;
  each = λ k has free. takes.each k has (free_as role k new old (none k) (λ tag differs. sym (same tag differs)) (sym (pins ∙ changed.pins)) (sym (pages ∙ changed.pages)) free);
  others = λ k below. ⊎_elim (λ free. inl (free_as role k old new (λ has. none_has mid.pages k (subst (λ (set : Members). IsIn set k) this has)) same (pins ∙ changed.pins) (pages ∙ changed.pages) free))
      (λ has. inr has) (takes.others k (subst (λ m. k < m) (pages ∙ changed.pages) below));
}
  where
    same : (tag : ℕ) → tag ≢ role → pages_with new tag ≡ pages_with old tag
    same tag differs = others tag differs ∙ changed.others tag differs
