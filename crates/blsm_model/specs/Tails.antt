-- What a tail makes of a text.
use Rattle.std.specs.Prelude.{ℕ, ◌-◌, ◌≤◌, ⊤, List, [], ◌∷◌, ◌++◌, length, drop}
use Rattle.blsm_model.specs.declared.op.Write.{Write}
use Rattle.blsm_model.specs.declared.op.Write.TheVariants.{Tail}
use Rattle.blsm_model.specs.Format.{most_tail}

-- so many bytes of the end, or all where there are no more
abbrev pub last_of : ℕ → List ℕ → List ℕ
last_of n text = drop (length text - n) text

-- The text with the tail behind it, and of the two the last bytes. No tail leaves the text as it is, however long.
abbrev pub with_tail : List ℕ → List ℕ → List ℕ
with_tail text [] = text
with_tail text (byte ∷ tail) = last_of most_tail (text ++ byte ∷ tail)

-- a tail that is written has one byte at least and 64 at most
abbrev pub TailFits : Write → Type 0
TailFits (Tail key tail) = (1 ≤ length tail) × (length tail ≤ most_tail)
TailFits _ = ⊤
