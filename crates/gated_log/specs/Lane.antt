-- A lane of the log on a disk: records, each behind an open gate, and then a gate that is closed. A record is one entry or several.
use Rattle.std.specs.Prelude.{◌≡◌, ◌≢◌, ◌⊎◌, ℕ, ◌+◌, ◌≤◌, Bool, IsTrue, List, [], ◌∷◌, ◌++◌, length}
use Rattle.std.specs.List.{All}
use Rattle.disk_trait.specs.Disk.{DiskState, part}
use Rattle.disk_trait.specs.Moments.{LeavesOnly}
use Rattle.disk_trait.specs.Region.{Region, span, IsOldOutside}
use Rattle.gated_write.specs.Gated.{open_byte}
use Rattle.blsm_model.specs.Lanes.{region_length, region_start}
use Rattle.blsm_model.specs.Sizes.{Sizes}
use Rattle.record_delta.specs.Entries.{Entries}
use Rattle.gated_log.specs.Records.{cost, record_text, IsLaneRecord}

abbrev pub lane_region : Sizes → ℕ → Region
lane_region sizes lane = span (region_start sizes lane) (region_length sizes)

-- What a lane has: its entries, and the place of its closed gate, in bytes from its region's start. How they are cut into records is a
-- fact of the file.
pub record Lane : Type 0 where
  pub entries : Entries
  pub end : ℕ

abbrev pub no_lane : Lane
no_lane = record { entries = []; end = 0 }

-- A record has an entry at least, so a lane without entries ends where it begins.
abbrev pub MayEnd : Lane → Type 0
MayEnd lane = lane.entries ≡ [] → lane.end ≡ 0

-- with one record more, of these entries
abbrev pub with_more : Lane → Entries → Lane
with_more lane more = record { entries = lane.entries ++ more; end = lane.end + cost more }

-- open gates, each with its record
abbrev pub blocks : List Entries → List ℕ
blocks [] = []
blocks (es ∷ records) = open_byte ∷ (record_text es ++ blocks records)

-- the entries of the records, in order
abbrev pub entries_in : List Entries → Entries
entries_in [] = []
entries_in (es ∷ records) = es ++ entries_in records

abbrev pub AreRecords : List Entries → Type 0
AreRecords records = All IsLaneRecord records

-- From its region's start on there are the blocks of these records, and then, inside the region, a gate that is closed.
pub record HasRecords (sizes : Sizes) (n : ℕ) (records : List Entries) (file : List ℕ) : Type 0 where
  pub each : AreRecords records
  pub gate : ℕ
  pub closed : gate ≢ open_byte
  pub inside : length (blocks records) + 1 ≤ region_length sizes
  pub begins : part file (region_start sizes n) (length (blocks records) + 1) ≡ blocks records ++ gate ∷ []

-- The lane of this region has its entries, in some records, and ends where it says.
pub record HasEntries (sizes : Sizes) (n : ℕ) (lane : Lane) (file : List ℕ) : Type 0 where
  pub records : List Entries
  pub has : HasRecords sizes n records file
  pub entries_are : entries_in records ≡ lane.entries
  pub end_is : length (blocks records) ≡ lane.end

-- each file has them
abbrev pub EachHasEntries : Sizes → ℕ → Lane → (List ℕ → Type 0) → Type 0
EachHasEntries sizes n lane images = (c : List ℕ) → images c → HasEntries sizes n lane c

-- the lane has its entries, with one record more or without it, and the rest of the file is as it was
pub record IsAppended (sizes : Sizes) (n : ℕ) (lane : Lane) (more : Entries) (before : List ℕ → Type 0) (file : List ℕ) : Type 0 where
  pub has : HasEntries sizes n lane file ⊎ HasEntries sizes n (with_more lane more) file
  pub outside : IsOldOutside (lane_region sizes n) before file

-- What an append of a record leaves of a lane that had its entries, in each image or as the disk read: each image of each moment since, and what the
-- disk reads as now, has them, with all of the new ones or with none; once it is done, with the new ones.
pub record LeavesAppended (sizes : Sizes) (n : ℕ) (lane : Lane) (more : Entries) (done : Bool) (old new : DiskState) : Type 0 where
  pub each : EachHasEntries sizes n lane old.images → LeavesOnly old new (IsAppended sizes n lane more old.images)
  pub reads : HasEntries sizes n lane old.bytes → IsAppended sizes n lane more (λ c. c ≡ old.bytes) new.bytes
  pub each_done : IsTrue done → EachHasEntries sizes n lane old.images → EachHasEntries sizes n (with_more lane more) new.images
  pub reads_done : IsTrue done → HasEntries sizes n lane old.bytes → HasEntries sizes n (with_more lane more) new.bytes

-- the same of whatever lane ends here
abbrev pub Appends : Sizes → ℕ → ℕ → Entries → Bool → DiskState → DiskState → Type 0
Appends sizes n end more done old new =
    (lane : Lane) → IsTrue old.is_honest → lane.end ≡ end → LeavesAppended sizes n lane more done old new

-- The lane begins with these records: their blocks stand from its region's start on, and the place behind them, where the next gate is, lies inside
-- the region.
pub record BeginsRecords (sizes : Sizes) (n : ℕ) (records : List Entries) (file : List ℕ) : Type 0 where
  pub each : AreRecords records
  pub inside : length (blocks records) + 1 ≤ region_length sizes
  pub begins : part file (region_start sizes n) (length (blocks records)) ≡ blocks records

-- The lane begins with these entries: they are the first ones of records that it begins with.
pub record HasFront (sizes : Sizes) (n : ℕ) (entries : Entries) (file : List ℕ) : Type 0 where
  pub records : List Entries
  pub left : Entries
  pub stands : BeginsRecords sizes n records file
  pub parts : entries_in records ≡ entries ++ left

-- behind the records of these entries there is an open gate that isn't followed by a record with its next gate inside the region
pub record IsDamagedBehind (sizes : Sizes) (n : ℕ) (entries : Entries) (file : List ℕ) : Type 0 where
  pub records : List Entries
  pub front : BeginsRecords sizes n records file
  pub entries_are : entries_in records ≡ entries
  pub opened : part file (region_start sizes n + length (blocks records)) 1 ≡ open_byte ∷ []
  pub no_record : (es : Entries) → BeginsRecords sizes n (records ++ es ∷ []) file → ⊥

-- the lane is damaged behind some entries
abbrev pub IsDamaged : Sizes → ℕ → List ℕ → Type 0
IsDamaged sizes n file = (entries : Entries) × IsDamagedBehind sizes n entries file
