-- What contracts see of a hold, which is a snapshot of a range, and the rows that it has still to give.
use Rattle.std.specs.Prelude.{◌≡◌, ◌++◌, ◌&&◌, ℕ, ◌≤◌, Bool, true, false, List, [], ◌∷◌, Option, Some, None, length, map, filter, if◌then◌else◌}
use Rattle.std.specs.List.{AllByRecursion}
use Rattle.std.specs.List.Sorted.{IsStrictlySortedBy}
use Rattle.std.specs.declared.cmp.Ordering.TheVariants.{Less}
use Rattle.blsm_model.specs.declared.component.Component.{Component}
use Rattle.blsm_model.specs.declared.key.Key.{Key}
use Rattle.blsm_model.specs.declared.row.Row.{Row}
use Rattle.blsm_model.specs.Components.{empty_component}
use Rattle.blsm_model.specs.Keys.{key_cmp, in_range}
use Rattle.blsm_model.specs.Sizes.{Sizes}
use Rattle.record_delta.specs.declared.record.Rec.{Rec}
use Rattle.record_delta.specs.Entries.{Entries, AreSorted, folded_over, is_above, above, over_any, record_of_key}
use Rattle.page_file.specs.Component.{numbers_of, HasList}
use Rattle.run_cursor.specs.Given.{HasListOf}
use Rattle.tree_machine.specs.Lists.{settled_pairs}

-- The range, which has low and hasn't high; the records that the memory table had of it; the place: rows up to this key were given; and of each
-- component of that moment, and of a front, the part that is still ahead, all of it at first. What stands before a part isn't above the place. The
-- front is the finished pages of a run that is written over the first component: it has all up to the released key, and of the component what is
-- above that key is read. Where nothing is released the front has no pages.
pub record HoldState : Type 0 where
  pub low : Key
  pub high : Key
  pub memory : Entries
  pub front : Component
  pub released : Option Key
  pub c1 : Component
  pub c1x : Component
  pub c2 : Component
  pub place : Option Key

-- the entries whose keys are in the range
abbrev pub within : Key → Key → Entries → Entries
within low high entries = filter (λ e. in_range low high e.0) entries

-- the hold of this moment, from which nothing was given
abbrev pub held_from : Key → Key → (b a : Entries) → (front : Component) → (released : Option Key) → (c1 c1x c2 : Component) → HoldState
held_from low high b a front released c1 c1x c2 = record {
  low = low;
  high = high;
  memory = within low high (folded_over b a);
  front = front;
  released = released;
  c1 = c1;
  c1x = c1x;
  c2 = c2;
  place = None;
}

-- a component without pages is the empty one
abbrev pub IsEmptyOrPaged : Component → Type 0
IsEmptyOrPaged run = run.pages ≡ 0 → run ≡ empty_component

-- This is what is left of a list behind entries that are all below the key.
pub record IsRestFrom (low : Key) (entries rest : Entries) : Type 0 where
  pub before : Entries
  pub parts : entries ≡ before ++ rest
  pub below : AllByRecursion (λ (e : Key × Rec). key_cmp e.0 low ≡ Less) before
  pub sorted : AreSorted entries

-- Of each key of the range the table has, over what is read of a front and of the first component, just what these lists of a memory table and of
-- that component have.
pub record IsReadAs (low high : Key) (table read a c1 : Entries) : Type 0 where
  pub sorted_a : AreSorted a
  pub sorted_c1 : AreSorted c1
  pub alike : (key : Key) → in_range low high key ≡ true
      → over_any (record_of_key key table) (record_of_key key read) ≡ over_any (record_of_key key a) (record_of_key key c1)

-- what each hold keeps
pub record IsHold (hold : HoldState) : Type 0 where
  pub sorted : AreSorted hold.memory
  pub front : IsEmptyOrPaged hold.front
  pub c1 : IsEmptyOrPaged hold.c1
  pub c1x : IsEmptyOrPaged hold.c1x
  pub c2 : IsEmptyOrPaged hold.c2

-- ---- the rows

-- the rows that entries settle to, from low on, without high
abbrev pub rows_of : Key → Key → Entries → List Row
rows_of low high entries = map (λ p. record { key = p.0; value = p.1 }) (filter (λ p. in_range low high p.0) (settled_pairs entries))

-- the greater of two keys, where none is below all
abbrev pub later : Option Key → Option Key → Option Key
later at None = at
later None (Some key) = Some key
later (Some at) (Some key) = if is_above (Some at) key then Some key else Some at

-- whether a key is above all of a list
abbrev pub is_above_all : Entries → Key → Bool
is_above_all [] key = true
is_above_all (e ∷ es) key = is_above (Some e.0) key && is_above_all es key

-- What is read of a front and of a component behind it: the front, and then of the component what is above the released key. (Whatever the front has,
-- the component's keys rise from its last one on.)
abbrev pub splice : (front : Entries) → (released : Option Key) → (c1 : Entries) → Entries
splice front released c1 = front ++ filter (λ e. is_above_all front e.0) (above released c1)

-- the memory table's entries folded over those of the components
abbrev pub view_of : (memory c1 c1x c2 : Entries) → Entries
view_of memory c1 c1x c2 = folded_over memory (folded_over c1 (folded_over c1x c2))

-- the rows that a hold has above a key
abbrev pub rows_above : Option Key → HoldState → (front c1 c1x c2 : Entries) → List Row
rows_above at hold front c1 c1x c2 = rows_of hold.low hold.high (above at (view_of hold.memory (splice front hold.released c1) c1x c2))

-- In this file the hold's front and components read as lists, and these are the rows that it has still to give.
pub record HasRows (sizes : Sizes) (hold : HoldState) (rows : List Row) (file : List ℕ) : Type 0 where
  pub of_front : Entries
  pub of_c1 : Entries
  pub of_c1x : Entries
  pub of_c2 : Entries
  pub front : HasListOf true sizes hold.front of_front file
  pub c1 : HasList sizes hold.c1 of_c1 file
  pub c1x : HasList sizes hold.c1x of_c1x file
  pub c2 : HasList sizes hold.c2 of_c2 file
  pub rows_are : rows ≡ rows_above hold.place hold of_front of_c1 of_c1x of_c2

-- the numbers of the pages that the rows are read from
abbrev pub pages_held : {sizes : Sizes} {hold : HoldState} {rows : List Row} {file : List ℕ} → HasRows sizes hold rows file → List ℕ
pages_held has = numbers_of has.front.1.pages ++ numbers_of has.c1.pages ++ numbers_of has.c1x.pages ++ numbers_of has.c2.pages

-- On any disk: at most so many rows, of keys in the range, which rise from above the old place on, up to the new one at most.
pub record AreGiven (n : ℕ) (low high : Key) (old new : Option Key) (rows : List Row) : Type 0 where
  pub few : length rows ≤ n
  pub inside : AllByRecursion (λ r. in_range low high r.key ≡ true) rows
  pub rise : IsStrictlySortedBy key_cmp (map (λ r. r.key) rows)
  pub above_old : AllByRecursion (λ r. is_above old r.key ≡ true) rows
  pub up_to_new : AllByRecursion (λ r. is_above new r.key ≡ false) rows
  -- what is above the new place was above the old one
  pub onward : (key : Key) → is_above new key ≡ true → is_above old key ≡ true
