-- Changes of a value that are made without reading it, and their laws. Sizes are in bytes.
use Rattle.std.specs.Prelude.{◌≡◌, ℕ, ◌+◌, ◌%◌, ◌^◌, ◌≤◌, List, length}
use Rattle.blsm_model.specs.declared.row.Value.{Value}
use Rattle.blsm_model.specs.Format.{most_tail, most_text}
use Rattle.blsm_model.specs.Tails.{with_tail}

-- How a kind of changes folds. A newer change over an older one is one change that stands for both, in this order.
pub record IsFold {C : Type 0} (is_change : C → Type 0) (over : C → C → C) (onto : C → Value → Value) (size : C → ℕ) : Type 0 where
  pub stays : (newer older : C) → is_change newer → is_change older → is_change (over newer older)
  pub associative : (newest newer older : C) → is_change newest → is_change newer → is_change older → over (over newest newer) older ≡ over newest (over newer older)
  pub in_turn : (newer older : C) (base : Value) → is_change newer → is_change older → onto (over newer older) base ≡ onto newer (onto older base)
  pub no_more : (newer older : C) → is_change newer → is_change older → size (over newer older) ≤ size newer + size older
  pub no_less : (newer older : C) → is_change newer → is_change older → size newer ≤ size (over newer older)
  -- the text that it leaves is as long as the change at least, and as the base's text and the change at most, and fits where the base's does
  pub text_least : (change : C) (base : Value) → is_change change → size change ≤ length (onto change base).text
  pub text_most : (change : C) (base : Value) → is_change change → length (onto change base).text ≤ length base.text + size change
  pub text_within : (change : C) (base : Value) → is_change change → length base.text ≤ most_text → length (onto change base).text ≤ most_text

-- a change of the count alone, and one of the text alone
abbrev pub IsOfCount : {C : Type 0} → (C → Value → Value) → (C → ℕ → ℕ) → Type 0
IsOfCount {C} onto counted = (change : C) (base : Value) → onto change base ≡ record { count = counted change base.count; text = base.text }

abbrev pub IsOfText : {C : Type 0} → (C → Value → Value) → (C → List ℕ → List ℕ) → Type 0
IsOfText {C} onto written = (change : C) (base : Value) → onto change base ≡ record { count = base.count; text = written change base.text }

-- counts are added modulo 2 ^ 64
abbrev pub added : ℕ → ℕ → ℕ
added amount count = (count + amount) % 2 ^ 64

abbrev pub IsTail : List ℕ → Type 0
IsTail tail = length tail ≤ most_tail

abbrev pub tailed : List ℕ → List ℕ → List ℕ
tailed tail text = with_tail text tail
