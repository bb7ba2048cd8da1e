-- The entry at the front of bytes, as a key is above it or not.
use Rattle.std.specs.Prelude.{◌≡◌, ◌≢◌, ℕ, List, ◌++◌}
use Rattle.std.specs.declared.cmp.Ordering.TheVariants.{Greater}
use Rattle.blsm_model.specs.declared.key.Key.{Key}
use Rattle.blsm_model.specs.Keys.{key_cmp}
use Rattle.record_delta.specs.declared.record.Rec.{Rec}
use Rattle.record_delta.specs.Records.{weight}
use Rattle.page_file.specs.Entry.{IsPageEntry, entry_bytes}

-- the bytes are an entry of this length that the key is above, and these bytes behind it
pub record BeginsBelow (key : Key) (bytes : List ℕ) (len : ℕ) (rest : List ℕ) : Type 0 where
  pub entry : Key × Rec
  pub right : IsPageEntry entry
  pub above : key_cmp key entry.0 ≡ Greater
  pub parts : bytes ≡ entry_bytes entry ++ rest
  pub len_is : len ≡ weight entry.0 entry.1

-- no entry that the key is above is at the front of the bytes
abbrev pub NoneBelow : Key → List ℕ → Type 0
NoneBelow key bytes = (entry : Key × Rec) (rest : List ℕ) → IsPageEntry entry → bytes ≡ entry_bytes entry ++ rest → key_cmp key entry.0 ≢ Greater
