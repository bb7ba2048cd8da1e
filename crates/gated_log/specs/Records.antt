-- A record of a lane, which stands behind its open gate: one entry, or several that stand or fall together. They have a head, then:
-- a kind that no entry has, how many they are, and how many bytes they have.
use Rattle.std.specs.Prelude.{◌≡◌, ℕ, ◌+◌, ◌≤◌, List, [], ◌∷◌, ◌++◌, length}
use Rattle.std.specs.List.{AllByRecursion}
use Rattle.std.specs.Int.{to_be_bytes, w16}
use Rattle.blsm_model.specs.Format.{most_weight, most_writes}
use Rattle.record_delta.specs.Entries.{Entries, entries_weight}
use Rattle.entry_codec.specs.Spelling.{spelling, IsEntry}

abbrev pub pack_kind : ℕ
pack_kind = 5

-- the entries' spellings, behind one another
abbrev pub spellings : Entries → List ℕ
spellings [] = []
spellings (e ∷ es) = spelling e.0 e.1 ++ spellings es

-- what stands before several entries: how many they are, and how many bytes they have
abbrev pub pack_head : ℕ → ℕ → List ℕ
pack_head count weight = pack_kind ∷ count ∷ to_be_bytes w16 weight

abbrev pub pack_text : Entries → List ℕ
pack_text es = pack_head (length es) (entries_weight es) ++ spellings es

abbrev pub record_text : Entries → List ℕ
record_text [] = []
record_text (e ∷ []) = spelling e.0 e.1
record_text (e ∷ f ∷ es) = pack_text (e ∷ f ∷ es)

-- how many bytes of a record stand before its entries
abbrev pub head_len : Entries → ℕ
head_len [] = 0
head_len (e ∷ []) = 0
head_len (e ∷ f ∷ es) = 4

-- how many bytes a record has with its gate
abbrev pub cost : Entries → ℕ
cost es = 1 + head_len es + entries_weight es

abbrev pub AreSpelled : Entries → Type 0
AreSpelled es = AllByRecursion (λ e. IsEntry e.0 e.1) es

-- entries that may be a record: one, or two to 32 of which all weigh no more than one may
pub record IsLaneRecord (es : Entries) : Type 0 where
  pub each : AreSpelled es
  pub some : 1 ≤ length es
  pub few : length es ≤ most_writes
  pub light : entries_weight es ≤ most_weight

-- two or more
pub record IsPackRecord (es : Entries) : Type 0 where
  pub is : IsLaneRecord es
  pub some : 2 ≤ length es

pub record BeginsWithPack (bytes : List ℕ) (es : Entries) : Type 0 where
  pub is : IsPackRecord es
  pub rest : List ℕ
  pub parts : bytes ≡ pack_text es ++ rest

-- the bytes begin with a record
pub record BeginsWithRecord (bytes : List ℕ) (es : Entries) : Type 0 where
  pub is : IsLaneRecord es
  pub rest : List ℕ
  pub parts : bytes ≡ record_text es ++ rest

-- the bytes are so many entries, and nothing else
pub record AreFilled (count : ℕ) (bytes : List ℕ) (es : Entries) : Type 0 where
  pub each : AreSpelled es
  pub many : length es ≡ count
  pub parts : bytes ≡ spellings es

-- the bytes are entries, and nothing else
pub record AreKept (bytes : List ℕ) : Type 0 where
  pub entries : Entries
  pub each : AreSpelled entries
  pub parts : bytes ≡ spellings entries
