-- What contracts see of a replay.
use Rattle.std.specs.Prelude.{◌≡◌, ℕ, ◌+◌, ◌<◌, ◌⊎◌, List, [], ◌∷◌, ◌++◌, length, Option, Some, None, Result, Ok, Err, ⊤}
use Rattle.std.specs.List.{between}
use Rattle.disk_trait.specs.Disk.{part}
use Rattle.gated_write.specs.Gated.{open_byte, IsClosed}
use Rattle.blsm_model.specs.declared.key.Key.{Key}
use Rattle.blsm_model.specs.Sizes.{Sizes}
use Rattle.record_delta.specs.declared.record.Rec.{Rec}
use Rattle.record_delta.specs.Entries.{Entries}
use Rattle.entry_codec.specs.Spelling.{spelling, IsEntry}
use Rattle.gated_log.specs.declared.replay.Block.{Block}
use Rattle.gated_log.specs.declared.replay.LaneBroken.{LaneBroken}
use Rattle.gated_log.specs.declared.replay.LaneBroken.TheVariants.{Fault, Damaged}
use Rattle.blsm_model.specs.Lanes.{region_length, region_start}
use Rattle.gated_log.specs.Records.{cost, head_len, record_text, spellings, AreSpelled, IsLaneRecord}
use Rattle.gated_log.specs.Lane.{blocks, entries_in, HasEntries, BeginsRecords, IsDamagedBehind}

-- The store's sizes, the number of the lane's region, where in it the next gate stands, and the bytes of the entries before that gate that are still
-- to be given.
pub record ReplayState : Type 0 where
  pub sizes : Sizes
  pub lane : ℕ
  pub end : ℕ
  pub behind : List ℕ

-- the lane begins with records of which the first entries were given so far; the others are kept, and the next gate is the one behind the records
pub record HasGiven (replay : ReplayState) (entries : Entries) (file : List ℕ) : Type 0 where
  pub records : List Entries
  pub left : Entries
  pub front : BeginsRecords replay.sizes replay.lane records file
  pub place : length (blocks records) ≡ replay.end
  pub parts : entries_in records ≡ entries ++ left
  pub each : AreSpelled left
  pub kept : spellings left ≡ replay.behind

-- At this place of the lane, in bytes from its region's start, there is an open gate with this record behind it, and the record's own next gate lies
-- inside the region.
pub record HasRecordAt (sizes : Sizes) (lane place : ℕ) (es : Entries) (file : List ℕ) : Type 0 where
  pub is : IsLaneRecord es
  pub inside : place + cost es < region_length sizes
  pub begins : part file (region_start sizes lane + place) (cost es) ≡ open_byte ∷ record_text es

-- where in the file the next gate stands
abbrev pub next_gate : ReplayState → ℕ
next_gate replay = region_start replay.sizes replay.lane + replay.end

-- the record in a block that was read: its entries stand from here to here
pub record IsBlock (replay : ReplayState) (block : List ℕ) (from to : ℕ) (es : Entries) : Type 0 where
  pub is : IsLaneRecord es
  pub inside : replay.end + cost es < region_length replay.sizes
  pub from_is : from ≡ 1 + head_len es
  pub to_is : to ≡ cost es
  pub entries : between from to block ≡ spellings es

-- what a look answers of the place of the next gate
abbrev pub TellsBlock : ReplayState → Type 0 → List ℕ → Result (Option Block) LaneBroken → Type 0
TellsBlock replay tells file (Ok (Some block)) =
    (es : Entries) × IsBlock replay block.bytes block.from block.to es × (tells → HasRecordAt replay.sizes replay.lane replay.end es file)
TellsBlock replay tells file (Ok None) = tells → IsClosed (next_gate replay) file
TellsBlock replay tells file (Err (Damaged lane)) =
    (lane ≡ replay.lane) × (tells
    → (part file (next_gate replay) 1 ≡ open_byte ∷ []) × ((es : Entries) → HasRecordAt replay.sizes replay.lane replay.end es file → ⊥))
TellsBlock replay tells file (Err Fault) = ⊤

-- what a step of a replay answers: an entry, or that there is none; or why it can't
abbrev pub Answer : Type 0
Answer = Result (Option (Key × Rec)) LaneBroken

-- the entry is the first of those that were kept
pub record IsKept (old : ReplayState) (e : Key × Rec) (new : ReplayState) : Type 0 where
  pub entry : IsEntry e.0 e.1
  pub parts : old.behind ≡ spelling e.0 e.1 ++ new.behind
  pub moved : new ≡ record old { behind = new.behind }

-- None was kept. The entry is the first of a record, whose others are kept, and whose own next gate lies inside the region.
pub record IsFirst (old : ReplayState) (e : Key × Rec) (others : Entries) (new : ReplayState) : Type 0 where
  pub none : old.behind ≡ []
  pub is : IsLaneRecord (e ∷ others)
  pub inside : old.end + cost (e ∷ others) < region_length old.sizes
  pub moved : new ≡ record old { end = old.end + cost (e ∷ others); behind = spellings others }

-- Whatever the disk tells: where an entry comes from, and that the replay stays where there is none; the lane that is damaged is the replay's.
abbrev pub IsStep : ReplayState → Answer → ReplayState → Type 0
IsStep old (Ok (Some e)) new = IsKept old e new ⊎ ((others : Entries) × IsFirst old e others new)
IsStep old (Ok None) new = (old.behind ≡ []) × (new ≡ old)
IsStep old (Err (Damaged lane)) new = (lane ≡ old.lane) × (old.behind ≡ []) × (new ≡ old)
IsStep old (Err Fault) new = new ≡ old

-- how many calls of the disk a step takes at most: none where an entry was kept
abbrev pub step_calls : List ℕ → ℕ
step_calls [] = 1
step_calls (byte ∷ behind) = 0

-- What an answer says of the place of the next gate: the entry was kept, or there is a record that it begins; or the gate is closed; or it is open,
-- and there is no record. After a fault nobody knows.
abbrev pub IsReadFrom : ReplayState → List ℕ → Answer → ReplayState → Type 0
IsReadFrom old file (Ok (Some e)) new =
    IsKept old e new ⊎ ((others : Entries) × IsFirst old e others new × HasRecordAt old.sizes old.lane old.end (e ∷ others) file)
IsReadFrom old file (Ok None) new = IsClosed (next_gate old) file
IsReadFrom old file (Err (Damaged lane)) new =
    (part file (next_gate old) 1 ≡ open_byte ∷ []) × ((es : Entries) → HasRecordAt old.sizes old.lane old.end es file → ⊥)
IsReadFrom old file (Err Fault) new = ⊤

-- What it says of a lane that begins with the entries given so far: it begins with one more; or it has these and ends there; or it is damaged behind
-- them.
abbrev pub TellsLane : ReplayState → Entries → List ℕ → Answer → ReplayState → Type 0
TellsLane old entries file (Ok (Some e)) new = HasGiven new (entries ++ e ∷ []) file
TellsLane old entries file (Ok None) new = HasEntries old.sizes old.lane (record { entries = entries; end = old.end }) file
TellsLane old entries file (Err (Damaged lane)) new = IsDamagedBehind old.sizes old.lane entries file
TellsLane old entries file (Err Fault) new = ⊤
