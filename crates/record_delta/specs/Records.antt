-- Records: what a table keeps of the writes of a key, and what a record weighs.
use Rattle.std.specs.Prelude.{ℕ, zero, suc, ◌+◌, ◌<◌, ◌≤◌, ◌^◌, List, [], ◌∷◌, length, Option, Some, None}
use Rattle.blsm_model.specs.declared.key.Key.{Key}
use Rattle.blsm_model.specs.declared.row.Value.{Value}
use Rattle.blsm_model.specs.declared.op.Write.{Write}
use Rattle.blsm_model.specs.declared.op.Write.TheVariants.{Put, Add, Tail, Del}
use Rattle.blsm_model.specs.Format.{most_key, most_tail, most_text, overhead}
use Rattle.record_delta.specs.declared.kinds.Both.{Both}
use Rattle.record_delta.specs.declared.record.Rec.{Rec}
use Rattle.record_delta.specs.declared.record.Rec.TheVariants.{Base, Delta, Tomb}

-- the record of a write
abbrev pub record_of : Write → Rec
record_of (Put key value) = Base value
record_of (Add key count) = Delta (record { count = count; text = [] })
record_of (Tail key tail) = Delta (record { count = 0; text = tail })
record_of (Del key) = Tomb

-- the writes of a change of this amount and tail: each part that changes something, and an add where none does
abbrev pub writes_of_change : Key → ℕ → List ℕ → List Write
writes_of_change key amount [] = Add key amount ∷ []
writes_of_change key zero (byte ∷ tail) = Tail key (byte ∷ tail) ∷ []
writes_of_change key (suc amount) (byte ∷ tail) = Add key (suc amount) ∷ Tail key (byte ∷ tail) ∷ []

-- the writes that a record of this key stands for, the oldest first
abbrev pub writes_of_record : Key → Rec → List Write
writes_of_record key (Base value) = Put key value ∷ []
writes_of_record key (Delta change) = writes_of_change key change.count change.text
writes_of_record key Tomb = Del key ∷ []

-- a tombstone's is 0
abbrev pub count_of : Rec → ℕ
count_of (Base value) = value.count
count_of (Delta change) = change.count
count_of Tomb = 0

-- a delta's text is its tail, and a tombstone has none
abbrev pub text_of : Rec → List ℕ
text_of (Base value) = value.text
text_of (Delta change) = change.text
text_of Tomb = []

-- how many bytes a record's text has at most
abbrev pub text_limit : Rec → ℕ
text_limit (Delta change) = most_tail
text_limit _ = most_text

-- what holds of each record of a program, since its parts have their types' ranges
pub record IsRecord (rec : Rec) : Type 0 where
  pub count_fits : count_of rec < 2 ^ 64
  pub text_fits : length (text_of rec) ≤ text_limit rec

-- the lengths of a key and of its record's text are within the format's
pub record IsWithin (key : Key) (rec : Rec) : Type 0 where
  pub key_most : length key ≤ most_key
  pub text_most : length (text_of rec) ≤ text_limit rec

-- the weight of a record with its key, in bytes
abbrev pub weight : Key → Rec → ℕ
weight key rec = overhead + length key + length (text_of rec)

-- a change as contracts see it: the amount that is added to the count, and the tail that is put behind the text
abbrev pub Change : Type 0
Change = Both ℕ (List ℕ)

-- what a change leaves where there was nothing
abbrev pub alone : Change → Value
alone change = record { count = change.count; text = change.text }

-- what a record says of its key where there is nothing older
abbrev pub settle : Rec → Option Value
settle (Base value) = Some value
settle (Delta change) = Some (alone change)
settle Tomb = None

-- the same, where there may be no record
abbrev pub settled : Option Rec → Option Value
settled None = None
settled (Some rec) = settle rec
