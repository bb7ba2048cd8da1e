-- What a history tells of the holds: which seats hold rows, of which range, and which rows were given of them; and that each reply goes by that.
use Rattle.std.specs.Prelude.{◌≡◌, ⊤, ℕ, ◌==◌, ◌≤◌, true, false, if◌then◌else◌, is_some, List, [], ◌∷◌, ◌++◌, Option, Some, None, length, map}
use Rattle.std.specs.List.{AllByRecursion}
use Rattle.std.specs.List.Sorted.{IsStrictlySortedBy}
use Rattle.blsm_model.specs.Keys.{in_range, key_cmp}
use Rattle.blsm_model.specs.declared.history.Entry.{Entry}
use Rattle.blsm_model.specs.declared.history.Reply.{Reply}
use Rattle.blsm_model.specs.declared.history.Reply.TheVariants as reply
use Rattle.blsm_model.specs.declared.key.Key.{Key}
use Rattle.blsm_model.specs.declared.op.Op.{Op}
use Rattle.blsm_model.specs.declared.op.Op.TheVariants.{Hold, Next, Release}
use Rattle.blsm_model.specs.declared.row.Row.{Row}
use Rattle.record_delta.specs.Entries.{is_above}
use Rattle.scan_view.specs.Hold.{HoldState}
use Rattle.scan_view.specs.Holds.{hold_of}
use Rattle.tree_core.specs.Core.{CoreState}

-- a hold as the history tells of it: its range, which has low and hasn't high, and the rows that were given of it
pub record ToldHold : Type 0 where
  pub low : Key
  pub high : Key
  pub given : List Row

abbrev pub with_rows : List Row → Option ToldHold → Option ToldHold
with_rows rows None = None
with_rows rows (Some hold) = Some (record hold { given = hold.given ++ rows })

-- what a seat that held so much, or nothing, holds once its command was answered so
abbrev pub held_by : Op → Reply → Option ToldHold → Option ToldHold
held_by (Hold low high) reply.Held had = Some (record { low = low; high = high; given = [] })
held_by (Next n) (reply.Rows rows) had = with_rows rows had
held_by Release reply.Done had = None
held_by op reply had = had

-- once this entry was noted, whoever's it is
abbrev pub held_then : ℕ → Option ToldHold → Entry → Option ToldHold
held_then seat had e = if e.seat == seat then held_by e.op e.reply had else had

-- and once each of these was
abbrev pub held_after : ℕ → Option ToldHold → List Entry → Option ToldHold
held_after seat had [] = had
held_after seat had (e ∷ es) = held_after seat (held_then seat had e) es

-- so many rows at most, of the range, and they rise on from those that were given before
pub record AreMoreRows (n : ℕ) (hold : ToldHold) (rows : List Row) : Type 0 where
  pub few : length rows ≤ n
  pub inside : AllByRecursion (λ r. in_range hold.low hold.high r.key ≡ true) rows
  pub rise : IsStrictlySortedBy key_cmp (map (λ r. r.key) (hold.given ++ rows))

abbrev pub AreMoreRowsOf : ℕ → Option ToldHold → List Row → Type 0
AreMoreRowsOf n None rows = ⊥
AreMoreRowsOf n (Some hold) rows = AreMoreRows n hold rows

-- A next gives rows of what its seat holds. It gives rows, or fails, just where its seat holds rows, and a drop of a hold is done just there.
abbrev pub TellsHold : Option ToldHold → Op → Reply → Type 0
TellsHold had (Next n) (reply.Rows rows) = AreMoreRowsOf n had rows
TellsHold had (Next n) reply.Fault = is_some had ≡ true
TellsHold had (Next n) (reply.Damaged page) = is_some had ≡ true
TellsHold had (Next n) reply.NoHold = is_some had ≡ false
TellsHold had Release reply.Done = is_some had ≡ true
TellsHold had Release reply.NoHold = is_some had ≡ false
TellsHold had op reply = ⊤

-- each of these entries does, where the seats held before what `had` says
abbrev pub TellHoldsFrom : (ℕ → Option ToldHold) → List Entry → Type 0
TellHoldsFrom had [] = ⊤
TellHoldsFrom had (e ∷ es) = TellsHold (had e.seat) e.op e.reply × TellHoldsFrom (λ seat. held_then seat (had seat) e) es

-- each entry of a history, before which nobody holds anything
abbrev pub TellHolds : List Entry → Type 0
TellHolds history = TellHoldsFrom (λ seat. None) history

-- nobody holds anything
abbrev pub HoldsNone : {D : Type 0} → CoreState D → Type 0
HoldsNone core = (seat : ℕ) → is_some (hold_of seat core.holds) ≡ false

-- a hold is the one that the history tells of: it has that range, and the rows that were given rise, up to its place at most
pub record IsHoldTold (hold : HoldState) (told : ToldHold) : Type 0 where
  pub low : hold.low ≡ told.low
  pub high : hold.high ≡ told.high
  pub rise : IsStrictlySortedBy key_cmp (map (λ r. r.key) told.given)
  pub up_to_place : AllByRecursion (λ r. is_above hold.place r.key ≡ false) told.given

abbrev pub IsTold : Option HoldState → Option ToldHold → Type 0
IsTold None None = ⊤
IsTold (Some hold) (Some told) = IsHoldTold hold told
IsTold hold told = ⊥

-- On every disk: each reply of the history goes by the holds that it tells of, and the seats hold just these.
pub record ChainTellsHolds {D : Type 0} (end : CoreState D) : Type 0 where
  pub replies : TellHolds end.held.book.book.entries
  pub held : (seat : ℕ) → IsTold (hold_of seat end.holds) (held_after seat None end.held.book.book.entries)
