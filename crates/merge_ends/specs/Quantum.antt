-- What a merge takes of two sorted lists at once: whole key groups, the least first, until they weigh enough. And what it does to the disk
-- and to the free-page map meanwhile. Weights are in bytes.
use Rattle.std.specs.Prelude.{◌≡◌, ◌⊎◌, ℕ, ◌+◌, ◌<◌, ◌≤◌, [], Option, Some}
use Rattle.disk_trait.specs.Disk.{DiskState, MarksSync}
use Rattle.disk_trait.specs.Effects.{Affects}
use Rattle.blsm_model.specs.declared.key.Key.{Key}
use Rattle.blsm_model.specs.Sizes.{Sizes}
use Rattle.blsm_model.specs.Geometry.{file_length}
use Rattle.record_delta.specs.declared.record.Rec.{Rec}
use Rattle.record_delta.specs.Entries.{Entries, entries_weight, above, first_of}
use Rattle.page_space.specs.Space.{SpaceState}
use Rattle.disk_trait.specs.Region.{Region, IsWithin}
use Rattle.run_writer.specs.Writer.{WriterState, open_region, role_region, loose_region}
use Rattle.merge_step.specs.Group.{group_of}
use Rattle.merge_ends.specs.Output.{TakesPages}

-- how much both lists have above a key
abbrev pub weight_above : Option Key → Entries → Entries → ℕ
weight_above at newer older = entries_weight (above at newer) + entries_weight (above at older)

-- the least group above one key is that of the other, and weighs so much; or nothing is above it
abbrev pub IsNext : Option Key → Option Key → Entries → Entries → ℕ → Type 0
IsNext from to newer older taken = (key : Key) × (rec : Rec) × (group_of (first_of (above from newer)) (first_of (above from older)) ≡ Some (key, rec, taken)) × (to ≡ Some key)

abbrev pub NoneAbove : Option Key → Entries → Entries → Type 0
NoneAbove at newer older = (above at newer ≡ []) × (above at older ≡ [])

-- the last group was taken when what was taken before it weighed less than this
pub record IsLast (least : ℕ) (from to : Option Key) (newer older : Entries) : Type 0 where
  pub before : Option Key
  pub group : ℕ
  pub few : weight_above from newer older < least + weight_above before newer older
  pub next : IsNext before to newer older group

-- From one key up to another so much was taken, and no group more than until it weighed this.
pub record HasTaken (least : ℕ) (from to : Option Key) (newer older : Entries) (taken : ℕ) : Type 0 where
  pub taken_is : taken + weight_above to newer older ≡ weight_above from newer older
  pub last : (to ≡ from) ⊎ IsLast least from to newer older

-- and it weighs this, or nothing is left
pub record IsQuantum (least : ℕ) (from to : Option Key) (newer older : Entries) (taken : ℕ) : Type 0 where
  pub has_taken : HasTaken least from to newer older taken
  pub enough : (least ≤ taken) ⊎ NoneAbove to newer older

-- where a run writes that grows from this writer on: on pages that have its tag afterwards, and of those that had it before on the open one alone
abbrev pub grown_region : Sizes → SpaceState → SpaceState → WriterState → Region
grown_region sizes space after writer = λ i. role_region sizes after writer.role i × loose_region sizes space writer i

-- It takes free pages for the run, and writes these and the page that was open, in so many calls at most. The page that is open then is one of them.
pub record Grows (sizes : Sizes) (most : ℕ) (space after : SpaceState) (writer next : WriterState) (old new : DiskState) : Type 0 where
  pub takes : TakesPages writer.role space after
  pub effect : Affects (grown_region sizes space after writer) (file_length sizes) most old new
  pub opens : IsWithin (open_region sizes next) (loose_region sizes space writer)
  pub no_sync : MarksSync ⊥ old new

-- so it takes free pages for a role, and writes pages of that role alone
pub record Works (sizes : Sizes) (role most : ℕ) (space after : SpaceState) (old new : DiskState) : Type 0 where
  pub takes : TakesPages role space after
  pub effect : Affects (role_region sizes after role) (file_length sizes) most old new
  pub no_sync : MarksSync ⊥ old new

-- one call for each page of the inputs that it went on to, one for each page that the run has more, and so many more
pub record Counts (more ahead ahead_after made made_after : ℕ) (old new : DiskState) : Type 0 where
  pub onward : ahead_after ≤ ahead
  pub grows : made ≤ made_after
  pub calls : new.clock + ahead_after + made ≤ old.clock + ahead + made_after + more
