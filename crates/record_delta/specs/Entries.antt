-- Lists of keys and records: what memory tables, sorted runs and merges hold. Weights are in bytes.
use Rattle.std.specs.Prelude.{ℕ, Bool, true, not, List, [], ◌∷◌, Option, Some, None, filter, fold, sum_by, IsTrue}
use Rattle.std.specs.Ordering.{is_lt}
use Rattle.std.specs.FinMap.{find, put, is_sorted}
use Rattle.blsm_model.specs.declared.key.Key.{Key}
use Rattle.blsm_model.specs.declared.row.Value.{Value}
use Rattle.blsm_model.specs.Keys.{key_cmp}
use Rattle.record_delta.specs.declared.record.Rec.{Rec}
use Rattle.record_delta.specs.declared.record.Rec.TheVariants.{Base}
use Rattle.record_delta.specs.Records.{weight, settle}
use Rattle.record_delta.specs.Folding.{over}

abbrev pub Entries : Type 0
Entries = List (Key × Rec)

-- the keys strictly rise
abbrev pub AreSorted : Entries → Type 0
AreSorted entries = IsTrue (is_sorted key_cmp entries)

-- the record of a key, if it has one
abbrev pub record_of_key : Key → Entries → Option Rec
record_of_key key entries = find key_cmp key entries

-- the weight of all keys and records
abbrev pub entries_weight : Entries → ℕ
entries_weight entries = sum_by (λ e. weight e.0 e.1) entries

-- with the record folded over the one of its key, or with it alone where the key is new
abbrev pub with_record : Key → Rec → Entries → Entries
with_record key rec entries = put key_cmp key (over rec (record_of_key key entries)) entries

-- The table that records make, one after the other, each folded over the one of its key: what a lane of the log replays to.
abbrev pub replayed : Entries → Entries
replayed lane = fold (λ table e. with_record e.0 e.1 table) [] lane

-- one list folded over an older one: each of its records over the older one's of the same key
abbrev pub folded_over : Entries → Entries → Entries
folded_over [] older = older
folded_over (e ∷ newer) older = with_record e.0 e.1 (folded_over newer older)

-- a newer record, if there is one, over an older one, if there is one
abbrev pub over_any : Option Rec → Option Rec → Option Rec
over_any None older = older
over_any (Some newer) older = Some (over newer older)

-- what is left of an entry where nothing is older: a base, or nothing
abbrev pub settled_base : Key → Option Value → Entries → Entries
settled_base key None entries = entries
settled_base key (Some value) entries = (key, Base value) ∷ entries

-- the entries settled, with bases only
abbrev pub settled_entries : Entries → Entries
settled_entries [] = []
settled_entries (e ∷ entries) = settled_base e.0 (settle e.1) (settled_entries entries)

-- above a key, or anywhere where there is none
abbrev pub is_above : Option Key → Key → Bool
is_above None key = true
is_above (Some low) key = is_lt (key_cmp low key)

-- the entries above a key, and those up to it
abbrev pub above : Option Key → Entries → Entries
above low entries = filter (λ e. is_above low e.0) entries

abbrev pub up_to : Option Key → Entries → Entries
up_to low entries = filter (λ e. not (is_above low e.0)) entries

-- the first of the entries
abbrev pub first_of : Entries → Option (Key × Rec)
first_of [] = None
first_of (e ∷ entries) = Some e
