-- What each step tells its caller.
use Rattle.std.specs.Prelude.{◌≡◌, ◌≢◌, ◌⊎◌, ℕ, ◌%◌, ◌^◌, ◌≤◌, ◌||◌, true, List, [], ◌∷◌, Option, Some, length}
use mathlib.Core.List.{IsPrefix}
use Rattle.atomic_table.specs.Table.{Me, Step}
use Rattle.blsm_model.specs.Facts.{Facts}
use Rattle.turn_lock.specs.Views.{with_stage, Each, Fits}
use Rattle.turn_lock.specs.declared.view.Stage.TheVariants.{Idle, Waits, Holds, Gave}
use Rattle.turn_lock.specs.declared.view.View.{View}

abbrev pub Sat : Type 0 → Type 0
Sat V = Me (Option V) (View V)

module _ {V : Type 0} where
  -- it has the ticket that it found
  abbrev pub drew : Step (Option V) → Sat V → ℕ → Sat V → Type 0
  drew st m r n = (j : ℕ) × (j % 2 ^ 64 ≡ r) × (n ≡ (with_stage m.0 (Waits j), m.1))

  module _ (facts : V → Facts) where
    -- the view of a caller that took this value
    abbrev pub taking : View V → ℕ → V → View V
    taking v j b = record { start = v.start; seen = (facts b).history; over = v.over || ((facts b).closed || (facts b).stopped); halted = v.halted || (facts b).stopped; own = v.own; spare = v.spare; stage = Holds j b; front = v.front; bytes = v.bytes }

    -- the own number is known by the value that was given back
    abbrev pub renewed : V → List (ℕ × V) → List (ℕ × V)
    renewed b [] = []
    renewed b (p ∷ ps) = (p.0, b) ∷ ps

    -- the view of a caller that gave this value back, and published the length of its history
    abbrev pub giving : View V → ℕ → V → ℕ → View V
    giving v j b front = record { start = v.start; seen = (facts b).history; over = v.over || ((facts b).closed || (facts b).stopped); halted = v.halted || (facts b).stopped; own = renewed b v.own; spare = v.spare; stage = Gave j b; front = front; bytes = v.bytes }

    abbrev pub gave : Step (Option V) → Sat V → ℕ → Sat V → Type 0
    gave st m r n = (j : ℕ) (a b : V) → m.0.stage ≡ Holds j a → m.1 ≡ (0, Some b) ∷ [] → n ≡ (giving m.0 j b r, [])

    module _ (stands : V → V → Type 0) where
      -- what the caller learns of the value that it takes
      pub record Finds (v : View V) (b : V) : Type 0 where
        pub seen : IsPrefix v.seen (facts b).history
        pub own : Each (Fits facts v.seen b) v.own
        pub lasts : (a : V) → v.start ≡ Some a → stands a b
        pub over : v.over ≡ true → ((facts b).closed ≡ true) ⊎ ((facts b).stopped ≡ true)
        pub halted : v.halted ≡ true → (facts b).stopped ≡ true
        -- what it read or stored last of the published words is no more than the value's
        pub front : v.front ≤ length (facts b).history
        pub bytes : v.bytes ≤ (facts b).peak

      abbrev pub Took : Sat V → ℕ → Sat V → Type 0
      Took m j n = (b : V) × (n ≡ (taking m.0 j b, (0, Some b) ∷ m.1)) × Finds m.0 b

      abbrev pub looked : Step (Option V) → Sat V → ℕ → Sat V → Type 0
      looked st m r n = (j : ℕ) → m.0.stage ≡ Waits j → (j % 2 ^ 64 ≡ r → Took m j n) × (j % 2 ^ 64 ≢ r → n ≡ m)

module _ {V : Type 0} where
  abbrev pub with_front : View V → ℕ → View V
  with_front v n = record { start = v.start; seen = v.seen; over = v.over; halted = v.halted; own = v.own; spare = v.spare; stage = v.stage; front = n; bytes = v.bytes }

  abbrev pub with_bytes : View V → ℕ → View V
  with_bytes v n = record { start = v.start; seen = v.seen; over = v.over; halted = v.halted; own = v.own; spare = v.spare; stage = v.stage; front = v.front; bytes = n }

  -- the peak is published
  abbrev pub published : Step (Option V) → Sat V → ℕ → Sat V → Type 0
  published st m r n = n ≡ (with_bytes m.0 r, m.1)

  -- the turn is over
  abbrev pub ended : Step (Option V) → Sat V → ℕ → Sat V → Type 0
  ended st m r n = n ≡ (with_stage m.0 Idle, m.1)

  -- a published length, no less than the last
  abbrev pub read_front : Step (Option V) → Sat V → ℕ → Sat V → Type 0
  read_front st m r n = (m.0.front ≤ r) × (n ≡ (with_front m.0 r, m.1))

  -- a published peak, no less than the last, and no more than the start gives
  abbrev pub read_bytes : (V → ℕ) → Step (Option V) → Sat V → ℕ → Sat V → Type 0
  read_bytes most st m r n = (m.0.bytes ≤ r) × ((a : V) → m.0.start ≡ Some a → r ≤ most a) × (n ≡ (with_bytes m.0 r, m.1))
