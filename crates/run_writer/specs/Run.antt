-- A run that is being written: pages that are closed, and one that takes entries.
use Rattle.std.specs.Prelude.{ℕ, List, [], ◌∷◌, ◌++◌, nat_eq}
use Rattle.record_delta.specs.Entries.{Entries}
use Rattle.std.specs.List.{Contains, IsDistinct}
use Rattle.page_space.specs.Space.{SpaceState, HasRole}
use Rattle.page_file.specs.Entry.{AreRising}
use Rattle.page_file.specs.Component.{RunPage, numbers_of, entries_of}

-- The closed pages, in order, and the number of the open page with its entries. A run without pages has no entries. The open page may have none where
-- others are closed: then the run was taken up behind them.
pub record Run : Type 0 where
  pub closed : List RunPage
  pub number : ℕ
  pub entries : Entries

-- a page, unless it has no entries
abbrev pub page_of : ℕ → Entries → List RunPage
page_of number [] = []
page_of number (e ∷ es) = record { number = number; entries = e ∷ es } ∷ []

-- all pages of the run that have entries, the open one last
abbrev pub pages_of : Run → List RunPage
pages_of run = run.closed ++ page_of run.number run.entries

-- the number of the open page, where there is one
abbrev pub open_number : List RunPage → ℕ → Entries → List ℕ
open_number closed number (e ∷ es) = number ∷ []
open_number (p ∷ ps) number [] = number ∷ []
open_number [] number [] = []

-- the numbers of all pages, the open one's last
abbrev pub all_numbers : Run → List ℕ
all_numbers run = numbers_of run.closed ++ open_number run.closed run.number run.entries

-- the keys rise over all pages, and no page is there twice
pub record IsRun (run : Run) : Type 0 where
  pub rise : AreRising (entries_of (pages_of run))
  pub apart : IsDistinct nat_eq (all_numbers run)

-- each page of the run has this role's tag
abbrev pub AreTagged : SpaceState → ℕ → Run → Type 0
AreTagged space role run = (n : ℕ) → Contains (all_numbers run) n → HasRole space role n
