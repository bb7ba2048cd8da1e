-- A run of a caller and of those that it splits off, over the small value.
use Rattle.std.specs.Prelude.{◌≡◌, ℕ, ◌+◌, ◌<◌, ◌≤◌, [], slice_index}
use Rattle.blsm_model.specs.Facts.{Facts}
use Rattle.turn_lock.specs.Views.{size}
use Rattle.turn_lock.specs.Callers.{Held, Lock}
use Rattle.turn_lock.specs.Tallies.{tally_facts, works_by, HasRoomFor, IsOf, Spares, Tells, its_entries}
use Rattle.turn_lock.specs.declared.tally.Tally.{Tally}

abbrev pub of_tally : Tally → Facts
of_tally t = tally_facts t.annals

-- before it: the caller, with as many numbers to give away as are to be split off, noted nothing yet
pub record Starts (lock : Lock Tally) (more count : ℕ) (c : Held Tally) : Type 0 where
  pub of_lock : IsOf lock c
  pub number : c.number < 16
  pub last : c.next + more ≤ 16
  pub room : HasRoomFor of_tally count c
  pub none : its_entries of_tally c.me.0.own ≡ []
  pub spare : Spares lock c
  pub fresh : lock.start.annals.entries ≡ []
  pub rooms : (i : ℕ) → i < 16 → count ≤ slice_index lock.start.annals.room.entries i

-- after it: the caller has its numbers again, and each noted its entries
pub record Ends (lock : Lock Tally) (more count : ℕ) (c d : Held Tally) : Type 0 where
  pub of_lock : IsOf lock d
  pub sized : size d.me.0 ≡ size c.me.0
  pub own : Tells of_tally c.number (works_by c.number count) d.me.0.own
  pub others : (i : ℕ) → c.next ≤ i → i < c.next + more → Tells of_tally i (works_by i count) d.me.0.own
