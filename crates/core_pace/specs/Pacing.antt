-- What the core of a tree keeps on every disk, by numbers alone. Weights are in bytes.
use Rattle.std.specs.Prelude.{◌≡◌, ⊤, ℕ, ◌+◌, ◌<◌, ◌≤◌, ◌^◌, Option, Some, None, IsTrue, is_some, length, sum}
use Rattle.blsm_model.specs.Format.{most_entries}
use Rattle.record_delta.specs.Entries.{Entries, entries_weight, above}
use Rattle.snow_merge.specs.Pass.{SnowState}
use Rattle.pacing.specs.Pace.{Pace, rotations}
use Rattle.pacing.specs.Ends.{AreEnds}
use Rattle.pacing.specs.Kept.{IsPaced}
use Rattle.pacing.specs.Counts.{AreFew, IsCounted}
use Rattle.pacing.specs.Spent.{IsSpent}
use Rattle.paced_tree.specs.Booking.{IsBookOf}
use Rattle.seat_book.specs.State.{BookState}
use Rattle.tree_log.specs.Log.{end_of_a, end_of_b, listed_in_a}
use Rattle.tree_runs.specs.Runs.{made_by_pass, made_by_deep, left_for_pass, left_for_deep}
use Rattle.core_moves.specs.declared.held.Held.{Held}
use Rattle.core_moves.specs.Held.{IsOne}

-- what is left of table A ahead of the pass
abbrev pub table_left : Option SnowState → Entries → ℕ
table_left None a = entries_weight a
table_left (Some snow) a = entries_weight (above snow.at a)

-- a pass whose cursor stands at a key has taken something
abbrev pub HasTaken : Option SnowState → ℕ → Type 0
HasTaken None taken = ⊤
HasTaken (Some snow) taken = IsTrue (is_some snow.at) → 0 < taken

-- The numbers of the tree are those of this pace.
pub record HasPace (held : Held) (pace : Pace) : Type 0 where
  pub gears : pace.gears ≡ held.gears
  pub a : pace.a ≡ listed_in_a held.log
  pub taken : pace.taken + table_left held.runs.pass held.log.a.entries ≡ pace.a
  pub b : pace.b ≡ entries_weight held.log.b.entries
  pub c1 : pace.c1 ≡ held.runs.catalogue.c1.weight
  pub c1x : pace.c1x ≡ held.runs.catalogue.c1x.weight
  pub c2 : pace.c2 ≡ held.runs.catalogue.c2.weight
  pub made1 : pace.made1 ≡ (made_by_pass held.runs.pass).weight
  pub made2 : pace.made2 ≡ (made_by_deep held.runs.deep).weight
  pub spring : pace.spring ≡ held.spring
  pub opening : pace.opening ≡ held.book.counts.charge
  pub peak : pace.peak ≡ held.book.counts.peak
  pub passes : pace.passes ≡ held.book.counts.passes
  pub deeps : pace.deeps ≡ held.book.counts.deeps
  -- the merges that run are the gears' own, and what they took and what is left add up
  pub in_pass : pace.gears.pass ≡ is_some held.runs.pass
  pub in_deep : pace.gears.deep ≡ is_some held.runs.deep
  pub pass_left : IsTrue (is_some held.runs.pass) → pace.gears.pass_taken + left_for_pass held.runs.pass held.log.a.entries ≡ pace.a + pace.c1
  pub deep_left : IsTrue (is_some held.runs.deep) → pace.gears.deep_taken + left_for_deep held.runs.deep ≡ pace.c1x + pace.c2
  pub started : HasTaken held.runs.pass pace.gears.pass_taken

-- What is told of the run so far: its book is of this pace, which is paced, and few merges were begun.
pub record IsRunBook (book : BookState) (pace : Pace) : Type 0 where
  pub booked : IsBookOf book.book book.seats pace
  pub paced : IsPaced pace
  pub few : AreFew pace
  pub spent : IsSpent pace
  pub entries : length book.book.entries + sum book.book.room.entries ≤ most_entries

-- the greatest version of a catalogue that is opened
abbrev pub most_opened : ℕ
most_opened = 2 ^ 62 + 5

-- What it has in memory, until the tree stops: its numbers are a pace's, which is told, its lanes are within bounds, and each commit raised the
-- version by one.
pub record IsPacedHeld (held : Held) (pace : Pace) : Type 0 where
  pub numbers : HasPace held pace
  pub told : IsRunBook held.book pace
  pub counted : IsCounted pace
  pub one : IsOne held
  pub ends : AreEnds pace (end_of_a held.log) (end_of_b held.log)
  pub version : held.runs.catalogue.version ≤ most_opened + (pace.passes + pace.deeps + rotations pace)
