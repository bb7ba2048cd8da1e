-- Views, and how one is cut in two and two are made one.
use Rattle.std.specs.Prelude.{◌≡◌, ℕ, zero, suc, ◌+◌, false, ◌||◌, List, [], ◌∷◌, ◌++◌, Option, Some, None, length, cond, ◌==◌, nat_le}
use mathlib.Core.List.{IsPrefix}
use Rattle.blsm_model.specs.Facts.{Facts, Same, entries_of}
use Rattle.turn_lock.specs.declared.view.Stage.{Stage}
use Rattle.turn_lock.specs.declared.view.Stage.TheVariants.{Idle, Waits, Holds, Gave}
use Rattle.turn_lock.specs.declared.view.View.{View}
use Rattle.blsm_model.specs.declared.history.Entry.{Entry}

-- f of each, added up
abbrev pub total : {A : Type 0} → (A → ℕ) → List A → ℕ
total f [] = 0
total f (x ∷ xs) = f x + total f xs

-- P holds of each
abbrev pub Each : {A : Type 0} → (A → Type 0) → List A → Type 0
Each P [] = Unit {0}
Each P (x ∷ xs) = P x × Each P xs

abbrev pub rest_of : {A : Type 0} → List A → List A
rest_of [] = []
rest_of (x ∷ xs) = xs

abbrev pub first_of : {A : Type 0} → List A → List A
first_of [] = []
first_of (x ∷ xs) = x ∷ []

abbrev pub greater : ℕ → ℕ → ℕ
greater m n = cond (nat_le m n) n m

abbrev pub longer : List Entry → List Entry → List Entry
longer h k = cond (nat_le (length h) (length k)) k h

module _ {V : Type 0} where
  -- a number, whose part is that of the value beside it: it is so in the value, and all its entries were seen
  abbrev pub Fits : (V → Facts) → List Entry → V → ℕ × V → Type 0
  Fits facts seen value p = Same p.0 (facts p.1) (facts value) × (entries_of p.0 seen ≡ entries_of p.0 (facts value).history)

  -- What was seen of it when the number gave a value back last, or at the start, is a front of the value's history, and has all entries of the number.
  pub record SawFront (facts : V → Facts) (value : V) (p : ℕ × V) : Type 0 where
    pub front : IsPrefix (facts p.1).history (facts value).history
    pub own : entries_of p.0 (facts value).history ≡ entries_of p.0 (facts p.1).history

  abbrev pub with_stage : View V → Stage V → View V
  with_stage v stage = record { start = v.start; seen = v.seen; over = v.over; halted = v.halted; own = v.own; spare = v.spare; stage = stage; front = v.front; bytes = v.bytes }

  abbrev pub ticket_of : Stage V → Option ℕ
  ticket_of Idle = None
  ticket_of (Waits j) = Some j
  ticket_of (Holds j b) = Some j
  ticket_of (Gave j b) = Some j

  -- 1 where it has a ticket
  abbrev pub waiting : Stage V → ℕ
  waiting Idle = 0
  waiting (Waits j) = 1
  waiting (Holds j b) = 1
  waiting (Gave j b) = 1

  -- 1 where the value is out with it
  abbrev pub holding : Stage V → ℕ
  holding Idle = 0
  holding (Waits j) = 0
  holding (Holds j b) = 1
  holding (Gave j b) = 0

  abbrev pub waits : View V → ℕ
  waits v = waiting v.stage

  abbrev pub holds : View V → ℕ
  holds v = holding v.stage

  -- how many numbers it has
  abbrev pub size : View V → ℕ
  size v = length v.own + length v.spare

  -- 1 where a number is i
  abbrev pub is_number : ℕ → ℕ × V → ℕ
  is_number i p = cond (p.0 == i) 1 0

  -- how often it has the number i
  abbrev pub has : ℕ → View V → ℕ
  has i v = total (is_number i) v.own + total (is_number i) v.spare

  abbrev pub counted_up : ℕ → ℕ → V → List (ℕ × V)
  counted_up from zero v = []
  counted_up from (suc n) v = (from, v) ∷ counted_up (from + 1) n v

  -- the first caller's
  abbrev pub opening_view : V → View V
  opening_view v = record { start = Some v; seen = []; over = false; halted = false; own = (0, v) ∷ []; spare = counted_up 1 23 v; stage = Idle; front = 0; bytes = 0 }

  -- the cut view loses its least number to give away, which the new one has
  abbrev pub cut : View V → View V
  cut v = record { start = v.start; seen = v.seen; over = v.over; halted = v.halted; own = v.own; spare = rest_of v.spare; stage = v.stage; front = v.front; bytes = v.bytes }

  abbrev pub given : View V → View V
  given v = record { start = v.start; seen = v.seen; over = v.over; halted = v.halted; own = first_of v.spare; spare = []; stage = Idle; front = v.front; bytes = v.bytes }

  -- the stayer keeps the other's numbers
  abbrev pub joined : View V → View V → View V
  joined v w = record { start = v.start; seen = longer v.seen w.seen; over = v.over || w.over; halted = v.halted || w.halted; own = v.own ++ (w.own ++ w.spare); spare = v.spare; stage = v.stage; front = greater v.front w.front; bytes = greater v.bytes w.bytes }

  abbrev pub spent : View V
  spent = record { start = None; seen = []; over = false; halted = false; own = []; spare = []; stage = Idle; front = 0; bytes = 0 }
