-- What contracts see of the buffer of a page that takes entries.
use Rattle.std.specs.Prelude.{◌≡◌, ℕ, ◌+◌, ◌-◌, ◌*◌, ◌≤◌, List, [], ◌++◌, length, replicate, Option}
use Rattle.record_delta.specs.Entries.{Entries}
use Rattle.blsm_model.specs.declared.key.Key.{Key}
use Rattle.record_delta.specs.declared.record.Rec.{Rec}
use Rattle.entry_codec.specs.Spelling.{spelling}
use Rattle.blsm_model.specs.Format.{least_weight}
use Rattle.page_file.specs.Entry.{entries_bytes, AreEntries}
use Rattle.page_file.specs.Page.{most_used, page_head}

-- How many entries there are, and their bytes, one behind the other.
pub record BufferState : Type 0 where
  pub count : ℕ
  pub text : List ℕ

abbrev pub empty_buffer : BufferState
empty_buffer = record { count = 0; text = [] }

-- one entry more
abbrev pub with_entry : Key → Rec → BufferState → BufferState
with_entry key rec buffer = record { count = buffer.count + 1; text = buffer.text ++ spelling key rec }

-- the page of these entries that names this next page: a head, the entries, and zeros
abbrev pub sealed : Option ℕ → BufferState → List ℕ
sealed next buffer = page_head buffer.count (length buffer.text) next ++ buffer.text ++ replicate (most_used - length buffer.text) 0

-- the bytes are so few that they fit a page, and each entry has its least number of them
pub record IsSmall (count used : ℕ) : Type 0 where
  pub fits : used ≤ most_used
  pub few : least_weight * count ≤ used

-- the buffer has these entries
pub record IsBufferOf (buffer : BufferState) (entries : Entries) : Type 0 where
  pub each : AreEntries entries
  pub count_is : buffer.count ≡ length entries
  pub spelled : buffer.text ≡ entries_bytes entries
