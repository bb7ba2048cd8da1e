-- What a caller knows after its turns, over any value: by the value that it took, and the one that it gave back.
use Rattle.std.specs.Prelude.{◌≡◌, ◌⊎◌, ℕ, ◌+◌, ◌≤◌, Bool, true, ◌||◌, List, [], ◌∷◌, Some, length}
use Rattle.blsm_model.specs.declared.history.Entry.{Entry}
use Rattle.blsm_model.specs.Facts.{Facts, Part, Follows}
use Rattle.turn_lock.specs.Plays.{Finds, renewed}
use Rattle.turn_lock.specs.Callers.{Held}
use Rattle.turn_lock.specs.Tallies.{Noted}
use Rattle.turn_lock.specs.declared.view.Stage.TheVariants.{Idle}
use Rattle.turn_lock.specs.declared.view.View.{View}

module _ {V : Type 0} (facts : V → Facts) (stands : V → V → Type 0) where
  -- the view of a caller that took the one value and gave the other back
  abbrev pub after_turn : View V → V → V → View V
  after_turn v b w = record {
    start = v.start;
    seen = (facts w).history;
    over = (v.over || ((facts b).closed || (facts b).stopped)) || ((facts w).closed || (facts w).stopped);
    halted = (v.halted || (facts b).stopped) || (facts w).stopped;
    own = renewed facts w v.own;
    spare = v.spare;
    stage = Idle;
    front = length (facts w).history;
    bytes = (facts w).peak;
  }

  -- One turn: the caller took b, and gave w back, which follows from it.
  pub record TookTurn (c : Held V) (b w : V) (d : Held V) : Type 0 where
    pub table : d.table ≡ c.table
    pub number : d.number ≡ c.number
    pub next : d.next ≡ c.next
    pub me : d.me ≡ (after_turn c.me.0 b w, [])
    pub finds : Finds facts stands c.me.0 b
    pub follows : Follows c.number (facts b) (facts w)
    pub lasts : (a : V) → c.me.0.start ≡ Some a → stands a w

  -- The same caller after some turns, in which its own seat noted these entries. It has seen what it gave back last, of which it published the
  -- length and the peak, and which stands from the start.
  pub record Did (c : Held V) (entries : List Entry) (d : Held V) : Type 0 where
    pub noted : Noted facts c entries d
    pub over : c.me.0.over ≡ true → d.me.0.over ≡ true
    pub halted : c.me.0.halted ≡ true → d.me.0.halted ≡ true
    pub value : V
    pub own : d.me.0.own ≡ renewed facts value c.me.0.own
    pub seen : d.me.0.seen ≡ (facts value).history
    pub front : d.me.0.front ≡ length (facts value).history
    pub bytes : d.me.0.bytes ≡ (facts value).peak
    -- so the length rose by these entries at least, also from what it read
    pub longer : c.me.0.front + length entries ≤ d.me.0.front
    pub greater : c.me.0.bytes ≤ d.me.0.bytes
    pub lasts : (a : V) → c.me.0.start ≡ Some a → stands a value

  -- as before, or after some turns
  abbrev pub Went : Held V → List Entry → Held V → Type 0
  Went c entries d = ((d ≡ c) × (entries ≡ [])) ⊎ Did c entries d

module _ {V : Type 0} (facts : V → Facts) where
  -- what a caller knows of its own seat's part, and whether it saw the value stopped
  pub record Knows (P : Bool → Part → Type 0) (c : Held V) : Type 0 where
    pub value : V
    pub more : List (ℕ × V)
    pub own : c.me.0.own ≡ (c.number, value) ∷ more
    pub part : P c.me.0.halted ((facts value).part c.number)
