-- What a free-page map keeps when a tag is released.
use Rattle.std.specs.Prelude.{◌≡◌, ◌≢◌, ◌⊎◌, ℕ, ◌+◌, ◌<◌, true, false, slice_index_or}
use Rattle.std.proofs.lemmas.Grind.{common_steps}
use Rattle.std.proofs.lemmas.Bool.Decides.{nat_tests}
use Rattle.std.proofs.Common.{sym, subst, ap, arith}
use Rattle.tree_runs.proofs.CountLemmas.{all_but_one}
use Rattle.page_space.specs.PageSet.{Members, IsIn, none_of, size}
use Rattle.page_space.specs.Space.{SpaceState, HasRole, IsFree, IsSpace, KeepsOtherRoles, pages_with, role_size}

-- what `release` ensures
pub record Released (role : ℕ) (old new : SpaceState) : Type 0 where
  pub this : pages_with new role ≡ none_of old.pages
  pub others : KeepsOtherRoles role old new
  pub pins : new.pins ≡ old.pins
  pub pages : new.pages ≡ old.pages
  pub shape : IsSpace new
  pub freed : (page : ℕ) → IsFree new page → IsFree old page ⊎ HasRole old role page
  pub size : role_size new role ≡ 0

pub none_has : (pages n : ℕ) (set : Members) → set ≡ none_of pages → slice_index_or set n false ≡ true → ⊥
none_has pages n set is has = grind (arith, common_steps, nat_tests)

-- A tag that a page has it had before; and each other tag it has still.
pub has_before : {role : ℕ} {old new : SpaceState} → Released role old new → (tag n : ℕ) → HasRole new tag n → HasRole old tag n
has_before {role} {old} {new} is tag n has = grind (arith, common_steps, nat_tests)

pub has_still : {role : ℕ} {old new : SpaceState} → Released role old new → (tag n : ℕ) → tag ≢ role → HasRole old tag n → HasRole new tag n
has_still {role} {old} {new} is tag n differs has = subst (λ (set : Members). IsIn set n) (sym (is.others tag differs)) has

-- as many pages have it
pub size_still : {role : ℕ} {old new : SpaceState} → Released role old new → (tag : ℕ) → tag ≢ role → role_size new tag ≡ role_size old tag
size_still is tag differs = ap size (is.others tag differs)

-- ---- how many pages have tags

abbrev pub all_sizes : SpaceState → ℕ
all_sizes space = role_size space 0 + role_size space 1 + role_size space 2 + role_size space 3 + role_size space 4

pub sizes_released : {role : ℕ} {old new : SpaceState} → Released role old new → role < 5 → all_sizes new + role_size old role ≡ all_sizes old
sizes_released {role} {old} {new} is below = omega (arith, all_but_one (role_size new) (role_size old) role (role_size old role) 0 below (omega (arith, is.size)) (size_still is))
