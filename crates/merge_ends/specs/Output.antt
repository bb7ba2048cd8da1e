-- The run that a merge writes: which pages it takes, and how much room it wants. Weights are in bytes.
use Rattle.std.specs.Prelude.{◌≡◌, ◌⊎◌, ℕ, ◌+◌, ◌*◌, ◌/◌, ◌≤◌, Bool, true, false, List, [], ◌∷◌, Option, Some, None, nat_lt}
use Rattle.std.specs.List.{AllByRecursion}
use Rattle.blsm_model.specs.declared.key.Key.{Key}
use Rattle.blsm_model.specs.Format.{least_full}
use Rattle.blsm_model.specs.Sizes.{Sizes}
use Rattle.bloom_bits.specs.BitSet.{BitState}
use Rattle.bloom_bits.specs.Fences.{FencesState}
use Rattle.record_delta.specs.declared.record.Rec.{Rec}
use Rattle.record_delta.specs.Entries.{Entries, is_above, settled_entries}
use Rattle.page_space.specs.Space.{SpaceState, HasRole, IsFree, IsWithin, KeepsOtherRoles, seat_count}
use Rattle.run_writer.specs.Writer.{WriterState, HasPushed}
use Rattle.merge_ends.specs.declared.output.Left.{Left}
use Rattle.merge_ends.specs.declared.output.Left.TheVariants as left

-- The role's pages are those that had its tag and some that were free. Nothing else changes.
pub record TakesPages (role : ℕ) (old new : SpaceState) : Type 0 where
  pub others : KeepsOtherRoles role old new
  pub pins : new.pins ≡ old.pins
  pub pages : new.pages ≡ old.pages
  pub kept : (page : ℕ) → HasRole old role page → HasRole new role page
  pub only_free : (page : ℕ) → HasRole new role page → HasRole old role page ⊎ IsFree old page
  pub free : (page : ℕ) → IsFree new page → IsFree old page

-- how many pages a run of this weight has at most
abbrev pub most_pages : ℕ → ℕ
most_pages weight = weight / least_full + 1

-- As many pages are free as the run may yet take, where entries of so much weight are left to be pushed.
pub record HasRoom (space : SpaceState) (writer : WriterState) (left : ℕ) : Type 0 where
  pub live : ℕ
  pub share : ℕ
  pub within : IsWithin live share space
  pub room : live + most_pages (writer.component.weight + left) + seat_count * share ≤ space.pages + writer.component.pages

-- there may be as many fences as the run may yet have pages
abbrev pub HasFences : FencesState → WriterState → ℕ → Type 0
HasFences fences writer left = most_pages (writer.component.weight + left) ≤ fences.reserved

-- none of the keys is above this one
abbrev pub EndBy : Option Key → Entries → Type 0
EndBy at entries = AllByRecursion (λ e. is_above at e.0 ≡ false) entries

-- one key isn't above another
abbrev pub IsUpTo : Option Key → Option Key → Type 0
IsUpTo low at = (key : Key) → is_above at key ≡ true → is_above low key ≡ true

-- On any disk: a list was pushed, none of whose keys is above this one.
pub record HasRun (sizes : Sizes) (honest : Bool) (file : List ℕ) (space : SpaceState) (writer : WriterState) (filter : BitState) (fences : FencesState) (at : Option Key) : Type 0 where
  pub out : Entries
  pub pushed : HasPushed sizes honest file space writer filter fences out
  pub ends : EndBy at out

-- what a merge writes of entries: them, or, where it settles, what is left of them where nothing is older
abbrev pub kept : Bool → Entries → Entries
kept false entries = entries
kept true entries = settled_entries entries

-- the entry of a key, if it has a record
abbrev pub entry_of : Key → Option Rec → Entries
entry_of key None = []
entry_of key (Some rec) = (key, rec) ∷ []

-- what is left of a record that lies there: it, or the base in the room
abbrev pub left_at : Option Left → Rec → Option Rec → Option Rec
left_at None rec room = None
left_at (Some left.Record) rec room = Some rec
left_at (Some left.Base) rec room = room

-- whether a page was taken for the run
abbrev pub has_turned : WriterState → WriterState → Bool
has_turned old new = nat_lt old.component.pages new.component.pages
