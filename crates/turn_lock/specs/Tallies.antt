-- A small value that stands for its entries, and what a caller does with it.
use Rattle.std.specs.Prelude.{◌≡◌, ◌⊎◌, ℕ, zero, suc, ◌-◌, ◌<◌, ◌≤◌, false, List, [], ◌∷◌, ◌++◌, Some, slice_index}
use mathlib.Core.List.{IsPrefix}
use Rattle.blsm_model.specs.declared.history.Entry.{Entry}
use Rattle.blsm_model.specs.declared.history.Reply.TheVariants.{Did}
use Rattle.blsm_model.specs.declared.op.Op.TheVariants.{Work}
use Rattle.blsm_model.specs.Book.{Book, noted}
use Rattle.blsm_model.specs.Facts.{Facts, entries_of}
use Rattle.turn_lock.specs.Plays.{renewed}
use Rattle.turn_lock.specs.Views.{counted_up}
use Rattle.turn_lock.specs.Callers.{Held, Lock, Idles}

abbrev pub tally_facts : Book → Facts
tally_facts b = record {
  history = b.entries;
  part = λ i. record { debt1 = 0; debt2 = 0; turns = 0; worked = false; quanta = 0; room = (slice_index b.room.entries i, slice_index b.room.rows i); left = false };
  quanta = 0;
  peak = 0;
  closed = false;
  stopped = false;
}

-- the entry that a seat notes n-th, from 0 on, and the first so many
abbrev pub work_by : ℕ → ℕ → Entry
work_by seat n = record { seat = seat; op = Work n; reply = Did n }

abbrev pub works_by : ℕ → ℕ → List Entry
works_by seat zero = []
works_by seat (suc n) = works_by seat n ++ work_by seat n ∷ []

-- one hold of the lock by a seat notes one entry
abbrev pub WorksOnce : ℕ → Book → Book → Type 0
WorksOnce seat old new = (n : ℕ) × (new ≡ noted old (work_by seat n))

module _ {V : Type 0} (facts : V → Facts) where
  -- its own seat has room for so many entries
  abbrev pub HasRoomFor : ℕ → Held V → Type 0
  HasRoomFor n c = (b : V) × (more : List (ℕ × V)) × (c.me.0.own ≡ (c.number, b) ∷ more) × (n ≤ ((facts b).part c.number).room.0)

  -- the entries of its own seat, by the value by which its part is known
  abbrev pub its_entries : List (ℕ × V) → List Entry
  its_entries [] = []
  its_entries (p ∷ ps) = entries_of p.0 (facts p.1).history

  -- the same caller, idle, which saw a later history, in which its own seat has these entries more
  pub record Noted (c : Held V) (entries : List Entry) (d : Held V) : Type 0 where
    pub table : d.table ≡ c.table
    pub number : d.number ≡ c.number
    pub next : d.next ≡ c.next
    pub idle : Idles d.me
    pub begun : d.me.0.start ≡ c.me.0.start
    pub own : (b : V) × (d.me.0.own ≡ renewed facts b c.me.0.own)
    pub spare : d.me.0.spare ≡ c.me.0.spare
    pub seen : IsPrefix c.me.0.seen d.me.0.seen
    pub mine : entries_of c.number d.me.0.seen ≡ entries_of c.number c.me.0.seen ++ entries
    pub known : its_entries d.me.0.own ≡ its_entries c.me.0.own ++ entries

module _ {V : Type 0} where
  abbrev pub IsOf : Lock V → Held V → Type 0
  IsOf lock c = (c.table ≡ lock.table) × (c.me.0.start ≡ Some lock.start) × Idles c.me

  -- an idle caller of this lock, whose seat has room for so many entries
  pub record IsReady (lock : Lock V) (facts : V → Facts) (n : ℕ) (c : Held V) : Type 0 where
    pub of_lock : IsOf lock c
    pub number : c.number < 16
    pub room : HasRoomFor facts n c

-- p is among them
abbrev pub In : {A : Type 0} → A → List A → Type 0
In p [] = ⊥
In p (q ∷ qs) = (p ≡ q) ⊎ In p qs

-- by the value by which its part is known, the number i has just these entries
abbrev pub Tells : {V : Type 0} → (V → Facts) → ℕ → List Entry → List (ℕ × V) → Type 0
Tells {V} facts i entries own = (b : V) × In (i, b) own × (entries_of i (facts b).history ≡ entries)

module _ {V : Type 0} where
  -- it may give away its numbers from `next` on, which nobody has had yet
  abbrev pub Spares : Lock V → Held V → Type 0
  Spares lock c = c.me.0.spare ≡ counted_up c.next (24 - c.next) lock.start
