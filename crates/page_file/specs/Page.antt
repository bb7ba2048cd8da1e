-- A page: its head, its entries, and zeros. Lengths are in bytes; numbers have their highest byte first.
use Rattle.std.specs.Prelude.{◌≡◌, ℕ, ◌-◌, ◌≤◌, ◌<◌, List, ◌++◌, length, replicate, Option, Some, None, IfSome, IsSome}
use Rattle.record_delta.specs.Entries.{Entries}
use Rattle.std.specs.Int.{w16, w32, to_be_bytes}
use Rattle.blsm_model.specs.Components.{no_page}
use Rattle.blsm_model.specs.Format.{least_full}
use Rattle.page_file.specs.Entry.{entries_bytes, AreEntries, AreRising}

-- how many bytes stand before the entries
abbrev pub page_head_length : ℕ
page_head_length = 8

-- how many bytes the entries of a page may have
abbrev pub most_used : ℕ
most_used = 4088

abbrev pub page_number : Option ℕ → ℕ
page_number (Some n) = n
page_number None = no_page

-- how many bytes the entries have
abbrev pub used_by : Entries → ℕ
used_by entries = length (entries_bytes entries)

-- how many entries there are, in how many bytes, and which page comes next
unfoldable pub page_head : ℕ → ℕ → Option ℕ → List ℕ
page_head count used next = to_be_bytes w16 count ++ to_be_bytes w16 used ++ to_be_bytes w32 (page_number next)

-- what a head may say, in a store of so many pages
pub record IsHead (pages count used : ℕ) (next : Option ℕ) : Type 0 where
  pub some : 1 ≤ count
  pub fits : used ≤ most_used
  pub next_is : IfSome next (λ n. n < pages)
  pub full : IsSome next → least_full ≤ used

unfoldable pub page_bytes : Option ℕ → Entries → List ℕ
page_bytes next entries = page_head (length entries) (used_by entries) next ++ entries_bytes entries ++ replicate (most_used - used_by entries) 0

-- what a page may have, in a store of so many pages
pub record IsContent (pages : ℕ) (next : Option ℕ) (entries : Entries) : Type 0 where
  pub head : IsHead pages (length entries) (used_by entries) next
  pub each : AreEntries entries
  pub rise : AreRising entries

-- The bytes are the page that has these entries and this next page.
pub record IsPageOf (pages : ℕ) (next : Option ℕ) (entries : Entries) (bytes : List ℕ) : Type 0 where
  pub content : IsContent pages next entries
  pub spelled : bytes ≡ page_bytes next entries

-- the bytes are a valid page
abbrev pub IsPage : ℕ → List ℕ → Type 0
IsPage pages bytes = (next : Option ℕ) × (entries : Entries) × IsPageOf pages next entries bytes
