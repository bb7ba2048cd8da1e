-- Short words for the worked examples.
use Rattle.std.proofs.Common.{ℕ, ◌+◌, List, [], ◌∷◌, length, codes}
use Rattle.blsm_model.specs.declared.row.Row.{Row}
use Rattle.blsm_model.specs.declared.row.Value.{Value}
use Rattle.blsm_model.specs.declared.op.Op.{Op}
use Rattle.blsm_model.specs.declared.history.Reply.{Reply}
use Rattle.blsm_model.specs.declared.history.Reply.TheVariants.{Is, Rows}
use Rattle.blsm_model.specs.declared.history.Entry.{Entry}
use Rattle.blsm_model.specs.Legal.{Limits}
use Rattle.blsm_model.specs.Sizes.{default_sizes}
use Rattle.blsm_model.specs.Geometry.{limits_of}

abbrev pub a : List ℕ
a = codes "a"

abbrev pub b : List ℕ
b = codes "b"

abbrev pub c : List ℕ
c = codes "c"

abbrev pub by : ℕ → Op → Reply → Entry
by seat op reply = record { seat = seat; op = op; reply = reply }

abbrev pub of : ℕ → List ℕ → Value
of count text = record { count = count; text = text }

abbrev pub row : List ℕ → ℕ → Row
row key count = record { key = key; value = of count [] }

-- a fresh store of the default geometry
abbrev pub fresh : Limits
fresh = limits_of default_sizes 0

-- a number that tells two values, or two first rows, apart
abbrev pub told : Reply → ℕ
told (Is value) = value.count + length value.text
told (Rows (r ∷ rows)) = r.value.count + length r.value.text
told _ = 0
