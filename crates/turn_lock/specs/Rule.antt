-- The rule of the table: word 0 is the next ticket, word 1 the ticket that is served, word 2 a published length, word 3 a published peak; the slot has the value.
use Rattle.std.specs.Prelude.{◌≡◌, ◌⊎◌, ℕ, ◌+◌, ◌%◌, ◌^◌, ◌<◌, ◌≤◌, true, List, [], ◌∷◌, Option, Some, length}
use mathlib.Core.Option as found
use mathlib.Core.List.{IsPrefix}
use lib.ListN.{get_elem?}
use Rattle.atomic_table.specs.Table.{State}
use Rattle.blsm_model.specs.Facts.{Facts}
use Rattle.turn_lock.specs.Views.{total, ticket_of, waits, holds, size, has, Each, Fits}
use Rattle.turn_lock.specs.declared.view.Stage.{Stage}
use Rattle.turn_lock.specs.declared.view.Stage.TheVariants.{Idle, Waits, Holds, Gave}
use Rattle.turn_lock.specs.declared.view.View.{View}

module _ {V : Type 0} (facts : V → Facts) (stands : V → V → Type 0) (start : V) where
  -- a held ticket is from the served one up, and the turn comes with the served one
  abbrev pub Placed : ℕ → ℕ → V → Stage V → Type 0
  Placed served n value Idle = Unit {0}
  Placed served n value (Waits j) = (served ≤ j) × (j < served + n)
  Placed served n value (Holds j b) = (j ≡ served) × (b ≡ value)
  Placed served n value (Gave j b) = (j ≡ served) × (b ≡ value)

  -- what a view knows of the value
  pub record Knows (value : V) (front bytes : ℕ) (v : View V) : Type 0 where
    pub begun : 0 < size v → v.start ≡ Some start
    pub few : waits v ≤ length v.own
    pub seen : IsPrefix v.seen (facts value).history
    pub own : Each (Fits facts v.seen value) v.own
    pub spare : Each (Fits facts v.seen value) v.spare
    pub over : v.over ≡ true → ((facts value).closed ≡ true) ⊎ ((facts value).stopped ≡ true)
    pub front_read : v.front ≤ front
    pub bytes_read : v.bytes ≤ bytes
    pub halted : v.halted ≡ true → (facts value).stopped ≡ true

  -- so it knows it, whatever was published
  pub record IsKnown (value : V) (v : View V) : Type 0 where
    pub front : ℕ
    pub bytes : ℕ
    pub front_fits : front ≤ length (facts value).history
    pub bytes_fits : bytes ≤ (facts value).peak
    pub knows : Knows value front bytes v

  -- the slot is out exactly where a view has a base
  abbrev pub Home : V → ℕ → List (found.Option (Option V)) → Type 0
  Home value n homes = ((homes ≡ found.some (Some value) ∷ []) × (n ≡ 0)) ⊎ ((homes ≡ found.none ∷ []) × (n ≡ 1))

  pub record Kept (s : State (Option V) (View V)) : Type 0 where
    pub served : ℕ
    pub value : V
    pub front : ℕ
    pub bytes : ℕ
    pub front_fits : front ≤ length (facts value).history
    pub bytes_fits : bytes ≤ (facts value).peak
    pub words : s.words ≡ (served + total waits s.views) % 2 ^ 64 ∷ served % 2 ^ 64 ∷ front ∷ bytes ∷ []
    pub home : Home value (total holds s.views) s.homes
    pub placed : (id : ℕ) (v : View V) → get_elem? s.views id ≡ found.some v → Placed served (total waits s.views) value v.stage
    pub apart : (x y j : ℕ) (v u : View V) → get_elem? s.views x ≡ found.some v → get_elem? s.views y ≡ found.some u → ticket_of v.stage ≡ Some j → ticket_of u.stage ≡ Some j → x ≡ y
    pub all : total size s.views ≡ 24
    pub once : (i : ℕ) → i < 24 → total (has i) s.views ≡ 1
    pub knows : (id : ℕ) (v : View V) → get_elem? s.views id ≡ found.some v → Knows value front bytes v
    pub lasts : stands start value
