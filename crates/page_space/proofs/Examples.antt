-- A map of four pages, computed.
use Rattle.std.proofs.Common.{◌≡◌, zero, suc, true, false, [], ◌∷◌, set, replicate, refl, arith}
use Rattle.page_space.specs.PageSet.{size, none_of}
use Rattle.page_space.specs.Space.{SpaceState, IsFree, IsLeastFree, NoneFreeBelow, role_size, pin_size}
use Rattle.page_space.proofs.FreeLemmas.{in_none}

how_many : size (true ∷ false ∷ true ∷ true ∷ []) ≡ 3
how_many = refl

-- page 0 has the tag of role 2, and page 1 is pinned by seat 15 alone
abbrev space : SpaceState
space = record {
  pages = 4;
  roles = none_of 4 ∷ none_of 4 ∷ (true ∷ false ∷ false ∷ false ∷ []) ∷ none_of 4 ∷ none_of 4 ∷ [];
  pins = set (replicate 16 (none_of 4)) 15 (false ∷ true ∷ false ∷ false ∷ []);
}

sizes : (role_size space 2 ≡ 1) × (pin_size space 15 ≡ 1) × (pin_size space 3 ≡ 0)
sizes = (refl, refl, refl)

-- so page 2 is the least free one
least : IsLeastFree space 2
least = record { free = free; least = below }
  where
    free : IsFree space 2
    free = record { in_range = omega arith; no_role = in_none space.roles 2 refl; no_pin = in_none space.pins 2 refl }

    below : NoneFreeBelow space 2
    below zero low free = free.no_role 2 refl
    below (suc zero) low free = free.no_pin 15 refl
    below (suc (suc k)) low free = absurd (omega arith)

-- a page that is pinned isn't free, though it has no tag
pinned_page : IsFree space 1 → ⊥
pinned_page free = free.no_pin 15 refl

-- nor is a page that there isn't
past_the_end : IsFree space 4 → ⊥
past_the_end free = absurd (omega (arith, free.in_range))

-- page 3 is free too, and not the least
not_least : IsLeastFree space 3 → ⊥
not_least third = third.least 2 (omega arith) least.free
