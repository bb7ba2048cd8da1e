-- Where a key is among sorted entries, or where it would go.
use Rattle.std.specs.Prelude.{◌≡◌, ℕ, ◌≤◌, true, false, length, Option}
use Rattle.std.specs.List.{AllWithin}
use Rattle.blsm_model.specs.declared.key.Key.{Key}
use Rattle.record_delta.specs.Entries.{Entries, is_above}

-- from this place on keys are above, and none before it is
pub record IsSplit (entries : Entries) (low : Option Key) (place : ℕ) : Type 0 where
  pub in_range : place ≤ length entries
  pub before : AllWithin (λ e. is_above low e.0 ≡ false) entries 0 place
  pub after : AllWithin (λ e. is_above low e.0 ≡ true) entries place (length entries)
