-- The spelling of an entry: a key and its record as bytes.
use Rattle.std.specs.Prelude.{◌≡◌, ℕ, ◌≤◌, List, ◌∷◌, ◌++◌, length, drop, []}
use Rattle.std.specs.Int.{w16, w64, to_be_bytes}
use Rattle.blsm_model.specs.declared.key.Key.{Key}
use Rattle.blsm_model.specs.Format.{most_key}
use Rattle.record_delta.specs.declared.record.Rec.{Rec}
use Rattle.record_delta.specs.declared.record.Rec.TheVariants.{Base, Delta, Tomb}
use Rattle.record_delta.specs.Records.{count_of, text_of, IsRecord}

abbrev pub base_kind : ℕ
base_kind = 1

abbrev pub delta_kind : ℕ
delta_kind = 2

abbrev pub tomb_kind : ℕ
tomb_kind = 3

-- a delta with a tail
abbrev pub tail_kind : ℕ
tail_kind = 4

abbrev pub kind_of_delta : List ℕ → ℕ
kind_of_delta [] = delta_kind
kind_of_delta (byte ∷ tail) = tail_kind

abbrev pub kind_of : Rec → ℕ
kind_of (Base value) = base_kind
kind_of (Delta change) = kind_of_delta change.text
kind_of Tomb = tomb_kind

-- what stands before the key: the kind, the lengths of the key and of the text, the count
unfoldable pub head : ℕ → ℕ → ℕ → ℕ → List ℕ
head kind key_len text_len count = kind ∷ (to_be_bytes w16 key_len ++ to_be_bytes w16 text_len ++ to_be_bytes w64 count)

abbrev pub head_of : Key → Rec → List ℕ
head_of key rec = head (kind_of rec) (length key) (length (text_of rec)) (count_of rec)

unfoldable pub spelling : Key → Rec → List ℕ
spelling key rec = head_of key rec ++ key ++ text_of rec

-- what has a spelling: a key, and a record whose parts fit their fields
pub record IsEntry (key : Key) (rec : Rec) : Type 0 where
  pub key_least : 1 ≤ length key
  pub key_most : length key ≤ most_key
  pub in_range : IsRecord rec

-- bytes that begin with the spelling of an entry
pub record BeginsWith (bytes : List ℕ) (key : Key) (rec : Rec) : Type 0 where
  pub entry : IsEntry key rec
  pub rest : List ℕ
  pub parts : bytes ≡ spelling key rec ++ rest

-- bytes written over the front of others
abbrev pub over_front : List ℕ → List ℕ → List ℕ
over_front front original = front ++ drop (length front) original
