-- Where a merge stands by its numbers, and what a call of it tells by them on any disk. The pass and the deep merge share it. Weights are in bytes.
use Rattle.std.specs.Prelude.{◌≡◌, ◌⊎◌, ℕ, ◌+◌, ◌*◌, ◌≤◌, Bool, true, IsTrue, List, [], ◌∷◌, Option, Result, Err, IfOk, OnOk}
use Rattle.std.specs.List.{AllByRecursion}
use Rattle.disk_trait.specs.Disk.{DiskState, TellsFaultsBy}
use Rattle.blsm_model.specs.declared.key.Key.{Key}
use Rattle.blsm_model.specs.Format.{least_weight, most_weight}
use Rattle.blsm_model.specs.Sizes.{Sizes}
use Rattle.bloom_bits.specs.BitSet.{BitState}
use Rattle.bloom_bits.specs.Fences.{FencesState}
use Rattle.bloom_bits.specs.Guides.{KeepReserves}
use Rattle.record_delta.specs.Entries.{is_above}
use Rattle.page_space.specs.Space.{SpaceState, role_size}
use Rattle.page_file.specs.declared.file.Broken.{Broken}
use Rattle.page_file.specs.declared.file.Broken.TheVariants.{Fault, Damaged}
use Rattle.run_cursor.specs.Cursor.{CursorState, IsDamageAt}
use Rattle.run_writer.specs.Writer.{WriterState}
use Rattle.merge_ends.specs.Input.{IsBehind}
use Rattle.merge_ends.specs.Output.{HasFences, HasRoom, HasRun}
use Rattle.merge_ends.specs.Quantum.{Grows, Counts}

-- The run that is written, the greatest key that was taken, how much is left of the newer input and of the older, and the cursors over the
-- components among these: of a pass the newer input is a memory table, which has none.
pub record Progress : Type 0 where
  pub writer : WriterState
  pub at : Option Key
  pub newer : ℕ
  pub older : ℕ
  pub cursors : List CursorState

abbrev pub left_to_take : Progress → ℕ
left_to_take merge = merge.newer + merge.older

-- how many of the components' pages aren't read yet
abbrev pub pages_ahead : List CursorState → ℕ
pages_ahead [] = 0
pages_ahead (cursor ∷ cursors) = cursor.pages + pages_ahead cursors

-- In this file one of the cursors comes to this page next, and it isn't valid or doesn't go on from there.
abbrev pub MeetsDamage : Sizes → List CursorState → ℕ → List ℕ → Type 0
MeetsDamage sizes [] n file = ⊥
MeetsDamage sizes (cursor ∷ cursors) n file = IsDamageAt sizes cursor n file ⊎ MeetsDamage sizes cursors n file

-- a merge between two calls: the map of pages, its run's filter and fences, and the disk
pub record Stage : Type 1 where
  pub merge : Progress
  pub space : SpaceState
  pub filter : BitState
  pub fences : FencesState
  pub disk : DiskState

abbrev pub stage : Progress → SpaceState → BitState → FencesState → DiskState → Stage
stage merge space filter fences disk = record { merge = merge; space = space; filter = filter; fences = fences; disk = disk }

-- A list was pushed, of keys that were taken, and the cursors have taken all up to the greatest of them.
pub record IsRunning (sizes : Sizes) (honest : Bool) (file : List ℕ) (space : SpaceState) (writer : WriterState) (at : Option Key) (cursors : List CursorState) (filter : BitState) (fences : FencesState) : Type 0 where
  pub run : HasRun sizes honest file space writer filter fences at
  pub behind : AllByRecursion (λ cursor. IsBehind at cursor) cursors

-- The merge runs, and the run and its fences have room for all that is left.
pub record MayGoOn (sizes : Sizes) (now : Stage) : Type 0 where
  pub running : IsRunning sizes now.disk.is_honest now.disk.bytes now.space now.merge.writer now.merge.at now.merge.cursors now.filter now.fences
  pub fences_fit : HasFences now.fences now.merge.writer (left_to_take now.merge)
  pub room : HasRoom now.space now.merge.writer (left_to_take now.merge)

-- What was taken, by the numbers: so much of each input. The run weighs no more than by that.
pub record Takes (old new : Progress) (taken : ℕ) : Type 0 where
  pub of_newer : ℕ
  pub of_older : ℕ
  pub taken_is : taken ≡ of_newer + of_older
  pub newer : of_newer + new.newer ≡ old.newer
  pub older : of_older + new.older ≡ old.older
  pub light : new.writer.component.weight ≤ old.writer.component.weight + taken
  -- what is above the new cursor was above the old one
  pub onward : (key : Key) → is_above new.at key ≡ true → is_above old.at key ≡ true

-- what a group, too, takes: two records at most, and nothing only where nothing is left
pub record TakesGroup (old new : Progress) (taken : ℕ) : Type 0 where
  pub takes : Takes old new taken
  pub light : taken ≤ 2 * most_weight
  pub some : (least_weight ≤ taken) ⊎ ((taken ≡ 0) × (left_to_take new ≡ 0))

-- and a quantum: so much or all that was left, and less than one group more
pub record TakesQuantum (least : ℕ) (old new : Progress) (taken : ℕ) : Type 0 where
  pub takes : Takes old new taken
  pub bound : taken + 1 ≤ least + 2 * most_weight
  pub enough : (least ≤ taken) ⊎ (left_to_take new ≡ 0)

-- What a call tells. Where it took something: how much, by the numbers, and that the merge may go on. Whatever it answers: it takes free pages for
-- its run and writes these alone, in so many calls of the disk at most, one for each page that it read or wrote and one more where it failed. A
-- page that it names is damaged, and a fault is one of the disk.
pub record MergesOn (sizes : Sizes) (most : ℕ) (Took : Progress → Progress → ℕ → Type 0) (old new : Stage) (result : Result ℕ Broken) : Type 0 where
  pub takes : IfOk result (Took old.merge new.merge)
  pub runs : OnOk result (MayGoOn sizes new)
  pub size : OnOk result (role_size new.space old.merge.writer.role + old.merge.writer.component.pages ≡ role_size old.space old.merge.writer.role + new.merge.writer.component.pages)
  pub counted : OnOk result (Counts 0 (pages_ahead old.merge.cursors) (pages_ahead new.merge.cursors) old.merge.writer.component.pages new.merge.writer.component.pages old.disk new.disk)
  pub counts : Counts 1 (pages_ahead old.merge.cursors) (pages_ahead new.merge.cursors) old.merge.writer.component.pages new.merge.writer.component.pages old.disk new.disk
  pub role : new.merge.writer.role ≡ old.merge.writer.role
  pub reserves : KeepReserves old.filter new.filter old.fences new.fences
  pub works : Grows sizes most old.space new.space old.merge.writer new.merge.writer old.disk new.disk
  pub damaged : (n : ℕ) → result ≡ Err (Damaged n) → IsTrue old.disk.tells_bytes → MeetsDamage sizes new.merge.cursors n new.disk.bytes
  pub faults : TellsFaultsBy (Err Fault) result old.disk new.disk
