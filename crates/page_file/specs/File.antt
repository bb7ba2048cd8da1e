-- The pages of a store's file.
use Rattle.std.specs.Prelude.{◌≡◌, ◌≢◌, ℕ, ◌+◌, ◌*◌, List, Result, Ok, Err, OnOk, IsErr, ⊤}
use Rattle.std.specs.List.{Contains}
use Rattle.refusal.specs.Count.{HasRisen}
use Rattle.disk_trait.specs.Disk.{DiskState, MarksSync, part}
use Rattle.disk_trait.specs.Effects.{Affects}
use Rattle.disk_trait.specs.Reads.{OnlyReads}
use Rattle.disk_trait.specs.Region.{Region, span}
use Rattle.blsm_model.specs.Format.{head_length, page_length}
use Rattle.blsm_model.specs.Sizes.{Sizes}
use Rattle.page_file.specs.declared.file.Broken.{Broken}
use Rattle.page_file.specs.declared.file.Broken.TheVariants.{Fault, Damaged}
use Rattle.page_file.specs.Page.{IsPage}

-- where a page begins: behind the head of the file, three lanes of four halves each, and the pages before it
abbrev pub page_start : Sizes → ℕ → ℕ
page_start sizes n = head_length + 12 * sizes.half + page_length * n

-- the bytes of a page
abbrev pub page_at : Sizes → ℕ → List ℕ → List ℕ
page_at sizes n file = part file (page_start sizes n) page_length

-- where a page is in the file, and where those of these numbers are
abbrev pub page_region : Sizes → ℕ → Region
page_region sizes n = span (page_start sizes n) page_length

abbrev pub pages_region : Sizes → List ℕ → Region
pages_region sizes numbers = λ i. (n : ℕ) × Contains numbers n × page_region sizes n i

-- the pages of these numbers read the same
abbrev pub AreSamePages : Sizes → List ℕ → List ℕ → List ℕ → Type 0
AreSamePages sizes numbers old new = (n : ℕ) → Contains numbers n → page_at sizes n new ≡ page_at sizes n old

-- What an answer says of the bytes of page n: they are a valid page, or they aren't and it is named. After a fault nobody knows.
abbrev pub TellsPage : ℕ → ℕ → List ℕ → Result (Unit {0}) Broken → Type 0
TellsPage pages n page (Ok read) = IsPage pages page
TellsPage pages n page (Err (Damaged named)) = (named ≡ n) × ¬ (IsPage pages page)
TellsPage pages n page (Err Fault) = ⊤

-- So many calls at most, which only read. There was a fault just where the count of faults rose.
pub record Reads {A : Type 0} (end most : ℕ) (result : Result A Broken) (old new : DiskState) : Type 0 where
  pub effect : OnlyReads end most old new
  pub stands : result ≢ Err Fault → new.faults ≡ old.faults
  pub failed : result ≡ Err Fault → HasRisen old.faults new.faults

-- One call at most, which writes in this region. It failed just where the count of faults rose.
pub record Writes {A E : Type 0} (region : Region) (end : ℕ) (result : Result A E) (old new : DiskState) : Type 0 where
  pub effect : Affects region end 1 old new
  pub no_sync : MarksSync ⊥ old new
  pub stands : OnOk result (new.faults ≡ old.faults)
  pub failed : IsErr result → HasRisen old.faults new.faults
