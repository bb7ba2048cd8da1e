-- The holds of all callers: for each seat its hold, if it has one.
use Rattle.std.specs.Prelude.{◌≡◌, ℕ, ◌+◌, List, Option, Some, None, slice_index_or}
use Rattle.blsm_model.specs.declared.row.Row.{Row}
use Rattle.blsm_model.specs.Sizes.{Sizes}
use Rattle.scan_view.specs.Hold.{HoldState, AreGiven}
use Rattle.scan_view.specs.Told.{AreTold, IsNeeded, ArePartsOf}

abbrev pub hold_of : ℕ → List (Option HoldState) → Option HoldState
hold_of seat holds = slice_index_or holds seat None

-- how many pages a hold has ahead, and reads at most
abbrev pub pages_behind : Option HoldState → ℕ
pages_behind None = 0
pages_behind (Some hold) = hold.front.pages + hold.c1.pages + hold.c1x.pages + hold.c2.pages

-- on any disk: so many rows at most, of keys in the hold's range, which rise from above its old place on, up to its new one at most; and the place
-- and what is ahead alone have moved
abbrev pub AreGivenBy : ℕ → Option HoldState → Option HoldState → List Row → Type 0
AreGivenBy n (Some old) (Some new) rows = AreGiven n old.low old.high old.place new.place rows
    × (new ≡ record old { front = new.front; c1 = new.c1; c1x = new.c1x; c2 = new.c2; place = new.place })
AreGivenBy n old new rows = ⊥

-- in this file the pages that the hold had ahead say so, and what it has ahead now is what is behind those that it passed
abbrev pub AreToldBehind : Sizes → ℕ → Option HoldState → Option HoldState → List Row → List ℕ → Type 0
AreToldBehind sizes n (Some old) (Some new) rows file = AreTold sizes n old new.place rows file × ArePartsOf sizes old new file
AreToldBehind sizes n old new rows file = ⊥

-- its next row can't be told without this page, which is damaged
abbrev pub IsDamageBehind : Sizes → ℕ → Option HoldState → ℕ → List ℕ → Type 0
IsDamageBehind sizes n None k file = ⊥
IsDamageBehind sizes n (Some hold) k file = IsNeeded sizes n hold k file
