-- Sets of pages.
use Rattle.std.specs.Prelude.{ℕ, List, [], count_by, slice_index_or}
pub use Rattle.bit_set.specs.Bits.{Members, IsIn, none_of, union}
use Rattle.bit_set.specs.Bits.{with_place}

abbrev pub with_page : ℕ → Members → Members
with_page page set = with_place page set

-- the page is in one of several sets
abbrev pub IsInSome : List Members → ℕ → Type 0
IsInSome sets page = (k : ℕ) × IsIn (slice_index_or sets k []) page

-- how many pages are in the set
abbrev pub size : Members → ℕ
size set = count_by (λ is_in. is_in) set
