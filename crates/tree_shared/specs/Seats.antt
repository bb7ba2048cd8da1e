-- What a caller or a worker knows of its own seat of the core behind the lock.
use Rattle.std.specs.Prelude.{◌≡◌, ◌⊎◌, ℕ, ◌+◌, ◌<◌, ◌≤◌, Bool, true, false, List, [], ◌∷◌}
use Rattle.blsm_model.specs.Facts.{Facts, Part}
use Rattle.blsm_model.specs.Format.{callers}
use Rattle.blsm_model.specs.Scripts.{rows_of}
use Rattle.blsm_model.specs.declared.history.Entry.{Entry}
use Rattle.blsm_model.specs.declared.history.Reply.{Reply}
use Rattle.blsm_model.specs.declared.op.Op.{Op}
use Rattle.disk_trait.specs.Disk.{DiskState}
use Rattle.turn_lock.specs.Callers.{Held, Lock}
use Rattle.turn_lock.specs.Tallies.{IsOf}
use Rattle.turn_lock.specs.Turns.{Did, Knows, Went}
use Rattle.tree_core.specs.Calls.{CameSince}
use Rattle.tree_core.specs.Core.{CoreState, facts_of_held}

abbrev pub facts_of : {D : Type 0} → CoreState D → Facts
facts_of core = facts_of_held core.held

-- the caller after some turns, in which its seat noted these entries
abbrev pub DidOn : {D : Type 0} → (D → DiskState) → Held (CoreState D) → List Entry → Held (CoreState D) → Type 0
DidOn state c entries d = Did facts_of (CameSince state) c entries d

-- or as before
abbrev pub WentOn : {D : Type 0} → (D → DiskState) → Held (CoreState D) → List Entry → Held (CoreState D) → Type 0
WentOn state c entries d = Went facts_of (CameSince state) c entries d

abbrev pub KnowsOf : {D : Type 0} → (Bool → Part → Type 0) → Held (CoreState D) → Type 0
KnowsOf P c = Knows facts_of P c

-- Who comes to the lock as one of the callers, and what it knows of its seat.
pub record Comes {D : Type 0} (lock : Lock (CoreState D)) (P : Bool → Part → Type 0) (c : Held (CoreState D)) : Type 0 where
  pub of_lock : IsOf lock c
  pub number : c.number < callers
  pub knows : KnowsOf P c

-- it has room for so many entries, and for so many rows
abbrev pub HasRoomFor : ℕ → ℕ → Part → Type 0
HasRoomFor entries rows p = (entries ≤ p.room.0) × (rows ≤ p.room.1)

-- it owes nothing, or saw the store stopped
abbrev pub IsEven : Bool → Part → Type 0
IsEven halted p = (halted ≡ true) ⊎ (p.debt1 + p.debt2 ≡ 0)

-- Between two commands: no work is open, and nothing is owed.
abbrev pub IsFree : ℕ → ℕ → Bool → Part → Type 0
IsFree entries rows halted p = HasRoomFor entries rows p × (p.turns ≡ 0) × IsEven halted p

-- Between a write and its last payment.
abbrev pub IsOwing : ℕ → ℕ → Bool → Part → Type 0
IsOwing entries rows halted p = HasRoomFor entries rows p × (p.turns ≡ 0)

-- In a work, after so many turns.
abbrev pub IsWorking : ℕ → ℕ → ℕ → Bool → Part → Type 0
IsWorking done entries rows halted p = HasRoomFor entries rows p × (p.turns ≡ done) × IsEven halted p

-- In a work of n turns, all of which were made, or the last one didn't work.
abbrev pub IsFinished : ℕ → ℕ → ℕ → Bool → Part → Type 0
IsFinished n entries rows halted p = HasRoomFor entries rows p × ((p.turns ≡ n) ⊎ ((0 < p.turns) × (p.turns < n) × (p.worked ≡ false))) × IsEven halted p

-- A worker's turns so far, and how many quanta it took at most.
abbrev pub HasHelped : ℕ → ℕ → Bool → Part → Type 0
HasHelped turns taken halted p = (p.turns ≡ turns) × (p.quanta ≤ taken)

-- A caller that left: no work is open, and nothing is owed.
abbrev pub IsGone : Bool → Part → Type 0
IsGone halted p = (p.left ≡ true) × (p.turns ≡ 0) × IsEven halted p

-- The caller's command is in the history with this reply, and there is less room: for one entry, and for the rows that it asked for.
pub record Answered {D : Type 0} (state : D → DiskState) (op : Op) (reply : Reply) (c d : Held (CoreState D)) : Type 0 where
  pub did : DidOn state c (record { seat = c.number; op = op; reply = reply } ∷ []) d
  pub free : (entries rows : ℕ) → KnowsOf (IsFree (entries + 1) (rows + rows_of op)) c → KnowsOf (IsFree entries rows) d
