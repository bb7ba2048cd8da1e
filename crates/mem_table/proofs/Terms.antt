-- What only lemmas say: no clause names these.
use Rattle.std.specs.Prelude.{◌≡◌, ℕ, ◌<◌, ◌≤◌, length}
use Rattle.std.specs.List.{HoldsAt, AllWithin}
use Rattle.std.specs.declared.cmp.Ordering.TheVariants.{Less, Greater}
use Rattle.blsm_model.specs.declared.key.Key.{Key}
use Rattle.blsm_model.specs.Keys.{key_cmp}
use Rattle.record_delta.specs.Entries.{Entries}

-- the entry at this place has the key
pub record IsAt (entries : Entries) (key : Key) (place : ℕ) : Type 0 where
  pub in_range : place < length entries
  pub has_key : HoldsAt (λ e. e.0 ≡ key) entries place

-- lesser keys stand before this place, greater ones from it on
pub record IsGapFor (entries : Entries) (key : Key) (place : ℕ) : Type 0 where
  pub in_range : place ≤ length entries
  pub before : AllWithin (λ e. key_cmp e.0 key ≡ Less) entries 0 place
  pub after : AllWithin (λ e. key_cmp e.0 key ≡ Greater) entries place (length entries)
