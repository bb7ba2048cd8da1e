-- How far a merge of two sorted lists has come.
use Rattle.std.specs.Prelude.{◌≡◌, ◌⊎◌, ◌+◌, ◌++◌, ◌∷◌, [], ℕ, true, Option, Some}
use Rattle.std.specs.List.{AllByRecursion}
use Rattle.std.specs.declared.cmp.Ordering.TheVariants.{Less}
use Rattle.blsm_model.specs.declared.key.Key.{Key}
use Rattle.blsm_model.specs.Keys.{key_cmp}
use Rattle.record_delta.specs.declared.record.Rec.{Rec}
use Rattle.record_delta.specs.Records.{weight}
use Rattle.record_delta.specs.Entries.{Entries, entries_weight, first_of, folded_over, is_above, above, up_to}

-- the key is above each of these entries
abbrev pub IsPast : Entries → Key → Type 0
IsPast entries key = AllByRecursion (λ e. key_cmp e.0 key ≡ Less) entries

-- the key is below each of these entries
abbrev pub AreBeyond : Key → Entries → Type 0
AreBeyond key entries = AllByRecursion (λ e. key_cmp key e.0 ≡ Less) entries

-- One key was taken, with records of this weight: its record comes behind what was folded so far, and nothing else was passed by. What each
-- list has left above it is what was left, without the entry of this key.
pub record IsTaken (at : Option Key) (newer older : Entries) (key : Key) (rec : Rec) (taken : ℕ) : Type 0 where
  pub above_at : is_above at key ≡ true
  pub out : folded_over (up_to (Some key) newer) (up_to (Some key) older) ≡ folded_over (up_to at newer) (up_to at older) ++ (key, rec) ∷ []
  pub of_newer : ℕ
  pub of_older : ℕ
  pub taken_is : taken ≡ of_newer + of_older
  -- the newer list gave its record of the key, or nothing
  pub newer_is : (of_newer ≡ 0) ⊎ ((given : Rec) × (first_of (above at newer) ≡ Some (key, given)) × (of_newer ≡ weight key given))
  pub newer_left : of_newer + entries_weight (above (Some key) newer) ≡ entries_weight (above at newer)
  pub older_left : of_older + entries_weight (above (Some key) older) ≡ entries_weight (above at older)
