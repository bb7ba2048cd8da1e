-- The pages ahead of a cursor.
use Rattle.std.proofs.Common.{◌≡◌, ℕ, List, [], ◌∷◌, Option, refl}
use Rattle.std.specs.List.{Contains}
use Rattle.blsm_model.specs.Sizes.{Sizes}
use Rattle.blsm_model.specs.declared.key.Key.{Key}
use Rattle.record_delta.specs.declared.record.Rec.{Rec}
use Rattle.page_file.specs.Component.{numbers_of}
use Rattle.record_delta.specs.Entries.{Entries}
use Rattle.page_file.specs.File.{AreSamePages}
use Rattle.page_file.proofs.ComponentLemmas.{chain_kept}
use Rattle.run_cursor.specs.Cursor.{CursorState, HasAheadTo, IsAdvancedTo}

-- on more pages
pub advanced_wider : (end : Option ℕ) (sizes : Sizes) (new : CursorState) (rest : List (Key × Rec)) (file : List ℕ) (pages more : List ℕ) → ((n : ℕ) → Contains pages n → Contains more n)
    → IsAdvancedTo end sizes new pages rest file → IsAdvancedTo end sizes new more rest file
advanced_wider end sizes new [] file pages more within advanced = (advanced.0, advanced.1, λ n has. within n (advanced.2 n has))
advanced_wider end sizes new (e ∷ es) file pages more within advanced = (advanced.0, advanced.1, λ n has. within n (advanced.2 n has))

pub ahead_kept : (end : Option ℕ) (sizes : Sizes) (cursor : CursorState) (rest : Entries) (old new : List ℕ)
    (before : HasAheadTo end sizes cursor rest old) → AreSamePages sizes (numbers_of before.coming) old new
    → (now : HasAheadTo end sizes cursor rest new) × (now.coming ≡ before.coming)
ahead_kept end sizes cursor rest old new before same = (
  record {
    front_is = before.front_is;
    here = before.here;
    coming = before.coming;
    each = before.each;
    behind_is = before.behind_is;
    first_is = before.first_is;
    chained = chain_kept sizes before.coming end old new same before.chained;
    rest_is = before.rest_is;
    rise = before.rise;
    pages_is = before.pages_is;
    entries_is = before.entries_is;
    weight_is = before.weight_is;
  },
  refl,
)
