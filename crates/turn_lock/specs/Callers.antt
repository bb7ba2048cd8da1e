-- What a caller's seat may be, between calls.
use Rattle.std.specs.Prelude.{◌≡◌, ℕ, ◌+◌, ◌-◌, ◌%◌, ◌^◌, ◌<◌, ◌≤◌, List, [], ◌∷◌, Some, None, length}
use Rattle.atomic_table.specs.Seated.{TableId}
use Rattle.turn_lock.specs.Views.{counted_up, with_stage, opening_view, cut, given}
use Rattle.turn_lock.specs.Plays.{Sat, Finds, taking, giving, with_bytes}
use Rattle.blsm_model.specs.Facts.{Facts, Follows}
use Rattle.turn_lock.specs.declared.view.Stage.TheVariants.{Idle, Waits, Holds}
use Rattle.turn_lock.specs.declared.view.View.{View}

-- what a lock is: its table, and the value as it was when the lock was made
pub record Lock (V : Type 0) : Type 0 where
  pub table : TableId
  pub start : V

-- what a caller is: its table, its view with the slots that are out with it, its own number, the least one that it has to give away, and its ticket
pub record Held (V : Type 0) : Type 0 where
  pub table : TableId
  pub me : Sat V
  pub number : ℕ
  pub next : ℕ
  pub ticket : ℕ

module _ {V : Type 0} where
  abbrev pub with_me : Held V → Sat V → Held V
  with_me c m = record { table = c.table; me = m; number = c.number; next = c.next; ticket = c.ticket }

  -- its own number comes first, and those from `next` to 23 are to be given away
  abbrev pub Numbered : View V → ℕ → ℕ → Type 0
  Numbered v number next = ((b : V) × (more : List (ℕ × V)) × (v.own ≡ (number, b) ∷ more)) × ((a : V) × (v.start ≡ Some a) × (v.spare ≡ counted_up next (24 - next) a)) × (number < 24) × (next ≤ 24)

  -- it has no ticket, and no slot is out with it
  abbrev pub Idles : Sat V → Type 0
  Idles m = (m.0.stage ≡ Idle) × (m.1 ≡ [])

  -- a lock round this value, and its first caller
  pub record IsOpened (value : V) (lock : Lock V) (c : Held V) : Type 0 where
    pub table : c.table ≡ lock.table
    pub start : lock.start ≡ value
    pub me : c.me ≡ (opening_view value, [])
    pub number : c.number ≡ 0
    pub next : c.next ≡ 1

  -- the caller, without the number that it gave away, and the one that has it
  pub record GaveAway (c d : Held V) : Type 0 where
    pub table : d.table ≡ c.table
    pub me : d.me ≡ (cut c.me.0, [])
    pub number : d.number ≡ c.number
    pub next : d.next ≡ c.next + 1

  pub record IsSplitOff (c other : Held V) : Type 0 where
    pub table : other.table ≡ c.table
    pub me : other.me ≡ (given c.me.0, [])
    pub number : other.number ≡ c.next
    pub next : other.next ≡ 24

  -- the caller with a ticket
  abbrev pub Drew : Held V → Held V → Type 0
  Drew c d = (j : ℕ) × (d ≡ record { table = c.table; me = (with_stage c.me.0 (Waits j), []); number = c.number; next = c.next; ticket = j % 2 ^ 64 })

  -- it waits with this ticket
  abbrev pub HasTicket : Sat V → ℕ → Type 0
  HasTicket m ticket = (j : ℕ) × (m.0.stage ≡ Waits j) × (m.1 ≡ []) × (ticket ≡ j % 2 ^ 64)

  -- it has the turn, and the value that it took
  abbrev pub HasTurn : Sat V → V → ℕ → Type 0
  HasTurn m b ticket = (j : ℕ) × (m.0.stage ≡ Holds j b) × (m.1 ≡ (0, None) ∷ []) × (ticket ≡ j % 2 ^ 64)

  -- it has the turn, and may give this back: it follows from what it took, and is what one hold may make of that
  abbrev pub MayGive : (V → Facts) → (ℕ → V → V → Type 0) → Held V → V → Type 0
  MayGive facts one c value = (b : V) × HasTurn c.me b c.ticket × Follows c.number (facts b) (facts value) × one c.number b value

  -- the value that was taken is b, and the value next lies in the slot
  abbrev pub IsBack : V → V → Held V → Type 0
  IsBack b next c = (j : ℕ) × (c.me.0.stage ≡ Holds j b) × (c.me.1 ≡ (0, Some next) ∷ []) × (c.ticket ≡ j % 2 ^ 64)

  module _ (facts : V → Facts) (stands : V → V → Type 0) where
    -- the turn has come, and the slot is the caller's
    abbrev pub IsTurn : Held V → Held V → Type 0
    IsTurn c d = (j : ℕ) × (c.me.0.stage ≡ Waits j) × ((b : V) × (d ≡ with_me c (taking facts c.me.0 j b, (0, Some b) ∷ [])) × Finds facts stands c.me.0 b)

    -- the turn came, and the value is out with the caller, which has seen its history
    abbrev pub HasTaken : Held V → V → Held V → Type 0
    HasTaken c b d = (j : ℕ) × (d ≡ record { table = c.table; me = (taking facts c.me.0 j b, (0, None) ∷ []); number = c.number; next = c.next; ticket = j % 2 ^ 64 }) × Finds facts stands c.me.0 b

    -- the value is back in the slot, and its length was published
    abbrev pub HasGiven : Held V → V → ℕ → Held V → Type 0
    HasGiven c b front d = (j : ℕ) × (c.ticket ≡ j % 2 ^ 64) × (d ≡ with_me c (giving facts c.me.0 j b front, []))

    -- the value is back, its length and peak were published, and the turn is over
    abbrev pub GaveBack : Held V → V → Held V → Type 0
    GaveBack c b d = (j : ℕ) × (d ≡ with_me c (with_stage (with_bytes (giving facts c.me.0 j b (length (facts b).history)) (facts b).peak) Idle, []))
