-- What stays true of a free-page map when one of its sets changes.
use Rattle.std.proofs.lemmas.Bool.Decides.{nat_tests}
use Rattle.std.proofs.lemmas.Grind.{common_steps}
use Rattle.std.proofs.Common.{◌≡◌, ℕ, ◌<◌, List, [], length, get_or, set, arith}
use Rattle.page_space.specs.PageSet.{Members, IsIn, with_page, union}
use Rattle.page_space.specs.Space.{SpaceState, unused, pages_with, pins_of, IsFree, IsSpace, role_count, seat_count}
use Rattle.bit_set.proofs.BitLemmas.{length-union}

-- a page that is in a set is below its number of pages, and only a set that there is has pages
in_range : (set : Members) (page : ℕ) → IsIn set page → page < length set
in_range set page h1 = grind (arith, common_steps, nat_tests)

there : (sets : List Members) (k page : ℕ) → IsIn (get_or sets k []) page → k < length sets
there sets k page h1 = grind (arith, common_steps, nat_tests)

-- a set keeps its pages when one is put into it
pub kept_with : (page k : ℕ) (set : Members) → IsIn set k → IsIn (with_page page set) k
kept_with page k set h1 = grind (arith, common_steps, nat_tests)

kept_claimed : (sets : List Members) (role page r k : ℕ) → IsIn (get_or sets r []) k → IsIn (get_or (set sets role (with_page page (get_or sets role []))) r []) k
kept_claimed sets role page r k h1 = grind (arith, common_steps, nat_tests)

-- what is free once a page is claimed was free before
pub free_before_claim : (space : SpaceState) (role page k : ℕ) → IsFree (record space { roles = set space.roles role (with_page page (pages_with space role)) }) k → IsFree space k
free_before_claim space role page k free =
    record {
      in_range = free.in_range;
      no_role = λ r has. free.no_role r (kept_claimed space.roles role page r k has);
      no_pin = free.no_pin;
    }

-- and what is free once it is pinned
pub free_before_pin : (space : SpaceState) (seat page k : ℕ)
    → IsFree (record space { pins = set space.pins seat (with_page page (pins_of space seat)) }) k → IsFree space k
free_before_pin space seat page k free =
    record {
      in_range = free.in_range;
      no_role = free.no_role;
      no_pin = λ s has. free.no_pin s (kept_claimed space.pins seat page s k has);
    }

pub shape_unused : (pages : ℕ) → IsSpace (unused pages)
shape_unused pages = grind (arith, common_steps, nat_tests)

pub shape_with_role : (space : SpaceState) (role : ℕ) (changed : Members) → IsSpace space → role < role_count → length changed ≡ space.pages → IsSpace (record space { roles = set space.roles role changed })
shape_with_role space role changed h1 h2 h3 = grind (arith, common_steps, nat_tests)

pub shape_with_pins : (space : SpaceState) (seat : ℕ) (changed : Members) → IsSpace space → seat < seat_count → length changed ≡ space.pages → IsSpace (record space { pins = set space.pins seat changed })
shape_with_pins space seat changed h1 h2 h3 = grind (arith, common_steps, nat_tests)

pub length_of_three : (a b c : Members) (n : ℕ) → length a ≡ n → length b ≡ n → length c ≡ n → length (union a (union b c)) ≡ n
length_of_three a b c n h1 h2 h3 = grind (arith, common_steps, nat_tests, length-union)
