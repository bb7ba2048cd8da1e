-- What the pages of a hold's components say of its rows, whatever the components read as.
use Rattle.std.specs.Prelude.{◌≡◌, ◌⊎◌, ◌++◌, ℕ, ◌<◌, ◌≤◌, Bool, true, false, List, [], Option, Some, None, length, take, drop}
use Rattle.std.specs.Ordering.{is_lt}
use Rattle.blsm_model.specs.declared.component.Component.{Component}
use Rattle.blsm_model.specs.declared.key.Key.{Key}
use Rattle.blsm_model.specs.declared.row.Row.{Row}
use Rattle.blsm_model.specs.Keys.{key_cmp}
use Rattle.blsm_model.specs.Sizes.{Sizes}
use Rattle.record_delta.specs.Entries.{Entries, AreSorted, above}
use Rattle.run_cursor.specs.Cursor.{CursorState, begun, IsDamageAt}
use Rattle.run_cursor.specs.Given.{HasGivenOf, HasListOf}
use Rattle.blsm_model.specs.Components.{empty_component}
use Rattle.scan_view.specs.Hold.{HoldState, later, rows_above, splice, view_of}

-- what a hold reads: a front, the key up to which that has all, and three components
pub record Sources : Type 0 where
  pub front : Component
  pub released : Option Key
  pub c1 : Component
  pub c1x : Component
  pub c2 : Component

abbrev pub sources_of : HoldState → Sources
sources_of hold = record { front = hold.front; released = hold.released; c1 = hold.c1; c1x = hold.c1x; c2 = hold.c2 }

-- a hold over these, of which rows up to this place were given
abbrev pub hold_over : (low high : Key) → (memory : Entries) → Sources → (place : Option Key) → HoldState
hold_over low high memory of place = record {
  low = low;
  high = high;
  memory = memory;
  front = of.front;
  released = of.released;
  c1 = of.c1;
  c1x = of.c1x;
  c2 = of.c2;
  place = place;
}

-- what the front and the three components have, or so much of it as was read
pub record Contents : Type 0 where
  pub front : Entries
  pub c1 : Entries
  pub c1x : Entries
  pub c2 : Entries

-- in this file the component, or the front, begins with these entries, on pages that are valid and go on
pub record Begins (is_front : Bool) (sizes : Sizes) (run : Component) (entries : Entries) (file : List ℕ) : Type 0 where
  pub cursor : CursorState
  pub given : HasGivenOf is_front sizes run cursor entries file

-- What was read of a component is the front of a list that it may have: whatever comes behind, keys rise, and there are no more entries than
-- the component's number says. Where as many were read, nothing comes behind.
pub record IsFront (run : Component) (read all : Entries) : Type 0 where
  pub behind : Entries
  pub parts : all ≡ read ++ behind
  pub sorted : AreSorted all
  pub few : length all ≤ run.entries

pub record BeginWith (sizes : Sizes) (of : Sources) (read : Contents) (file : List ℕ) : Type 0 where
  pub front : Begins true sizes of.front read.front file
  pub c1 : Begins false sizes of.c1 read.c1 file
  pub c1x : Begins false sizes of.c1x read.c1x file
  pub c2 : Begins false sizes of.c2 read.c2 file

pub record AreFronts (of : Sources) (read all : Contents) : Type 0 where
  pub front : IsFront of.front read.front all.front
  pub c1 : IsFront of.c1 read.c1 all.c1
  pub c1x : IsFront of.c1x read.c1x all.c1x
  pub c2 : IsFront of.c2 read.c2 all.c2

-- the memory table's entries folded over these
abbrev pub view_by : Entries → Option Key → Contents → Entries
view_by memory released lists = view_of memory (splice lists.front released lists.c1) lists.c1x lists.c2

-- the rows that a hold has above a key, where the front and the components have so much
abbrev pub rows_by : Option Key → HoldState → Contents → List Row
rows_by at hold all = rows_above at hold all.front all.c1 all.c1x all.c2

-- The rows are the first n of those that the hold has to give, and the others are above the new place: by what was read in this file of the
-- front and of the components, and whatever comes behind.
pub record AreTold (sizes : Sizes) (n : ℕ) (hold : HoldState) (new : Option Key) (rows : List Row) (file : List ℕ) : Type 0 where
  pub read : Contents
  pub begin : BeginWith sizes (sources_of hold) read file
  pub first : (all : Contents) → AreFronts (sources_of hold) read all → rows ≡ take n (rows_by hold.place hold all)
  pub others : (all : Contents) → AreFronts (sources_of hold) read all → rows_by new hold all ≡ drop n (rows_by hold.place hold all)

-- ---- what is ahead

-- In this file the component, or the front, begins with some entries, none of them above the key, and the part is what comes behind them, from the
-- page on that is to come next.
pub record IsBehind (is_front : Bool) (sizes : Sizes) (run : Component) (at : Option Key) (part : Component) (file : List ℕ) : Type 0 where
  pub cursor : CursorState
  pub given : Entries
  pub begins : HasGivenOf is_front sizes run cursor given file
  pub passed : above at given ≡ []
  pub part_is : begun is_front part ≡ record cursor { head = None }

-- In this file it reads as entries of which none is above the key, and nothing is behind them.
pub record IsThrough (is_front : Bool) (sizes : Sizes) (run : Component) (at : Option Key) (part : Component) (file : List ℕ) : Type 0 where
  pub all : Entries
  pub list : HasListOf is_front sizes run all file
  pub passed : above at all ≡ []
  pub part_is : part ≡ empty_component

-- in this file the part is what the component has from one of its pages on, and what stands before that was read, and isn't above the key
abbrev pub IsPartOf : Bool → Sizes → Component → Option Key → Component → List ℕ → Type 0
IsPartOf is_front sizes run at part file = IsBehind is_front sizes run at part file ⊎ IsThrough is_front sizes run at part file

-- And so each of a hold's four parts is of the one before. Of the first component what isn't above the released key is passed too.
pub record ArePartsOf (sizes : Sizes) (old new : HoldState) (file : List ℕ) : Type 0 where
  pub front : IsPartOf true sizes old.front new.place new.front file
  pub c1 : IsPartOf false sizes old.c1 (later new.place old.released) new.c1 file
  pub c1x : IsPartOf false sizes old.c1x new.place new.c1x file
  pub c2 : IsPartOf false sizes old.c2 new.place new.c2 file

-- ---- what is damaged

-- whether a key that comes after this one can be below the range's end
abbrev pub is_before : Key → Option Key → Bool
is_before high None = true
is_before high (Some key) = is_lt (key_cmp key high)

-- In this file the component, or the front, begins with some entries, none of them above the key, and the page of this number, which is to come
-- behind them, isn't a valid one or doesn't go on.
pub record IsDamageIn (is_front : Bool) (sizes : Sizes) (run : Component) (at : Option Key) (k : ℕ) (file : List ℕ) : Type 0 where
  pub cursor : CursorState
  pub given : Entries
  pub begins : HasGivenOf is_front sizes run cursor given file
  pub passed : above at given ≡ []
  pub damage : IsDamageAt sizes cursor k file

-- The first component is damaged at this page, and the front reads as entries of which none is above the key.
pub record IsDamageBehindFront (sizes : Sizes) (of : Sources) (at : Option Key) (k : ℕ) (file : List ℕ) : Type 0 where
  pub all : Entries
  pub front : HasListOf true sizes of.front all file
  pub passed : above at all ≡ []
  pub damage : IsDamageIn false sizes of.c1 (later at of.released) k file

-- the front, or one of the three components, is damaged at this page, which comes behind what it has up to the key
abbrev pub IsDamageOf : Sizes → Sources → Option Key → ℕ → List ℕ → Type 0
IsDamageOf sizes of at k file =
    IsDamageIn true sizes of.front at k file ⊎ IsDamageBehindFront sizes of at k file ⊎ IsDamageIn false sizes of.c1x at k file
    ⊎ IsDamageIn false sizes of.c2 at k file

-- The next row can't be told without this page, which is damaged: the hold has fewer than n rows to give up to a key before the range's end, by what was
-- read in this file and whatever comes behind; and of the front or of one component this page is to come behind what it has up to that key.
pub record IsNeeded (sizes : Sizes) (n : ℕ) (hold : HoldState) (k : ℕ) (file : List ℕ) : Type 0 where
  pub at : Option Key
  pub inside : is_before hold.high at ≡ true
  pub rows : List Row
  pub few : length rows < n
  pub read : Contents
  pub begin : BeginWith sizes (sources_of hold) read file
  pub first : (all : Contents) → AreFronts (sources_of hold) read all → rows_by hold.place hold all ≡ rows ++ rows_by at hold all
  pub damage : IsDamageOf sizes (sources_of hold) at k file
