-- Folding: one record that stands for a newer and an older one.
use Rattle.std.specs.Prelude.{◌≡◌, List, [], ◌∷◌, ◌++◌, Option, Some, None, map, fold as fold_list, if◌then◌else◌}
use Rattle.blsm_model.specs.declared.key.Key.{Key}
use Rattle.blsm_model.specs.declared.row.Value.{Value}
use Rattle.blsm_model.specs.declared.op.Write.{Write}
use Rattle.blsm_model.specs.Keys.{same_key}
use Rattle.blsm_model.specs.Values.{key_of, writes_of_key, value_at}
use Rattle.record_delta.specs.declared.record.Rec.{Rec}
use Rattle.record_delta.specs.declared.record.Rec.TheVariants.{Base, Delta, Tomb}
use Rattle.record_delta.specs.Kinds.{added, tailed}
use Rattle.record_delta.specs.Records.{record_of, alone, settled, Change}

-- a newer change over an older one, and over a value
abbrev pub change_over : Change → Change → Change
change_over newer older = record { count = added newer.count older.count; text = tailed newer.text older.text }

abbrev pub changed : Change → Value → Value
changed change value = record { count = added change.count value.count; text = tailed change.text value.text }

-- the newer record over the older one
abbrev pub fold : Rec → Rec → Rec
fold (Base value) older = Base value
fold Tomb older = Tomb
fold (Delta change) (Base value) = Base (changed change value)
fold (Delta newer) (Delta older) = Delta (change_over newer older)
fold (Delta change) Tomb = Base (alone change)

-- the newer record over what is kept, if anything is
abbrev pub over : Rec → Option Rec → Rec
over newer None = newer
over newer (Some older) = fold newer older

-- the records, the oldest first, each folded over those before it
abbrev pub folded : List Rec → Option Rec
folded recs = fold_list (λ kept newer. Some (over newer kept)) None recs

-- the record that a list of writes, the oldest first, leaves at a key
abbrev pub record_at : List Write → Key → Option Rec
record_at writes key = folded (map record_of (writes_of_key writes key))

-- what is kept at a key stands for the writes: settled, it is the value that they leave
abbrev pub StandsFor : Option Rec → List Write → Key → Type 0
StandsFor kept writes key = settled kept ≡ value_at writes key

-- what is kept at a key after one more write, whose record this is
abbrev pub kept_after : Write → Rec → Key → Option Rec → Option Rec
kept_after write rec key kept = if same_key (key_of write) key then Some (over rec kept) else kept

-- whatever writes what was kept at a key stood for, with the record folded in it stands for those and this write
abbrev pub StandsForMore : Write → Rec → Type 0
StandsForMore write rec =
    (key : Key) (kept : Option Rec) (writes : List Write) → StandsFor kept writes key
    → StandsFor (kept_after write rec key kept) (writes ++ write ∷ []) key
