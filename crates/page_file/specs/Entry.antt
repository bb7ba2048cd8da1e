-- The entries of a page: keys with their records, as bytes, one behind the other.
use Rattle.std.specs.Prelude.{◌≡◌, ℕ, List, [], ◌∷◌, ◌++◌, length, map}
use Rattle.std.specs.List.{All}
use Rattle.std.specs.List.Sorted.{IsStrictlySortedBy}
use Rattle.blsm_model.specs.declared.key.Key.{Key}
use Rattle.blsm_model.specs.Keys.{key_cmp}
use Rattle.record_delta.specs.declared.record.Rec.{Rec}
use Rattle.record_delta.specs.Entries.{Entries}
use Rattle.entry_codec.specs.Spelling.{spelling, IsEntry}

abbrev pub IsPageEntry : Key × Rec → Type 0
IsPageEntry entry = IsEntry entry.0 entry.1

abbrev pub entry_bytes : Key × Rec → List ℕ
entry_bytes entry = spelling entry.0 entry.1

abbrev pub entries_bytes : Entries → List ℕ
entries_bytes [] = []
entries_bytes (e ∷ es) = entry_bytes e ++ entries_bytes es

abbrev pub AreEntries : Entries → Type 0
AreEntries entries = All IsPageEntry entries

abbrev pub keys_of : Entries → List Key
keys_of entries = map (λ e. e.0) entries

-- the keys strictly rise
abbrev pub AreRising : Entries → Type 0
AreRising entries = IsStrictlySortedBy key_cmp (keys_of entries)

-- an entry with this key at the front of the bytes, and these bytes behind it
pub record HasFirstEntry (bytes key rest : List ℕ) : Type 0 where
  pub entry : Key × Rec
  pub right : IsPageEntry entry
  pub key_is : entry.0 ≡ key
  pub parts : bytes ≡ entry_bytes entry ++ rest

-- These are so many entries in exactly these bytes. Their keys strictly rise from above this one on.
pub record AreEntriesIn (low : Key) (count : ℕ) (bytes : List ℕ) (entries : Entries) : Type 0 where
  pub each : AreEntries entries
  pub count_is : length entries ≡ count
  pub rise : IsStrictlySortedBy key_cmp (low ∷ keys_of entries)
  pub spelled : bytes ≡ entries_bytes entries

abbrev pub AreInBytes : Key → ℕ → List ℕ → Type 0
AreInBytes low count bytes = (entries : Entries) × AreEntriesIn low count bytes entries
