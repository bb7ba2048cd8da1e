-- An entry at the front of bytes, part by part.
use Rattle.std.specs.Prelude.{◌≡◌, ℕ, ◌<◌, ◌≤◌, ◌^◌, List, ◌++◌, length}
use Rattle.blsm_model.specs.declared.key.Key.{Key}
use Rattle.blsm_model.specs.Format.{most_key, most_text}
use Rattle.record_delta.specs.declared.record.Rec.{Rec}
use Rattle.record_delta.specs.Records.{count_of, text_limit, text_of}
use Rattle.entry_codec.specs.declared.decoding.Head.{Head}
use Rattle.entry_codec.specs.Spelling.{kind_of, IsEntry}

-- the numbers of a head fit their fields
pub record InRange (head : Head) : Type 0 where
  pub key_len : head.key_len < 2 ^ 16
  pub text_len : head.text_len < 2 ^ 16
  pub count : head.count < 2 ^ 64

-- a key and a text of these lengths at the front of the bytes
pub record AreAt (bytes : List ℕ) (key_len text_len : ℕ) (key text : List ℕ) : Type 0 where
  pub key_len_is : length key ≡ key_len
  pub text_len_is : length text ≡ text_len
  pub key_least : 1 ≤ length key
  pub key_most : length key ≤ most_key
  pub text_most : length text ≤ most_text
  pub rest : List ℕ
  pub parts : bytes ≡ key ++ text ++ rest

-- a record of this kind, with this count and this text
pub record IsOf (kind count : ℕ) (text : List ℕ) (rec : Rec) : Type 0 where
  pub kind_is : kind_of rec ≡ kind
  pub count_is : count_of rec ≡ count
  pub text_is : text_of rec ≡ text
  pub fits : length (text_of rec) ≤ text_limit rec

-- an entry with this head, whose key and text stand at the front of the bytes
pub record HasParts (head : Head) (bytes : List ℕ) (key : Key) (rec : Rec) : Type 0 where
  pub entry : IsEntry key rec
  pub kind_is : kind_of rec ≡ head.kind
  pub key_len_is : length key ≡ head.key_len
  pub text_len_is : length (text_of rec) ≡ head.text_len
  pub count_is : count_of rec ≡ head.count
  pub rest : List ℕ
  pub parts : bytes ≡ key ++ text_of rec ++ rest
