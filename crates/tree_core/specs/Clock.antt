-- How a call moves the disk's clock, on every disk.
use Rattle.std.specs.Prelude.{◌≡◌, ⊤, ℕ, ◌+◌, ◌*◌, ◌<◌, ◌≤◌, ◌^◌, false, IsTrue}
use Rattle.disk_trait.specs.Disk.{DiskState}
use Rattle.pacing.specs.Steps.{Move}
use Rattle.tree_machine.specs.Outcomes.{calls_disk}
use Rattle.core_moves.specs.declared.held.Held.{Held}
use Rattle.core_lists.specs.Steps.{choice_of}
use Rattle.blsm_model.specs.declared.op.Op.{Op}
use Rattle.tree_core.specs.Causes.{pages_first, swaps_due_in}
use Rattle.tree_core.specs.declared.admission.Taking.{Taking}
use Rattle.tree_core.specs.declared.admission.Taking.TheVariants.{Taken, Failed}
use Rattle.tree_core.specs.declared.answers.Admission.{Admission}
use Rattle.tree_core.specs.declared.answers.Admission.TheVariants as admission
use Rattle.tree_core.specs.Ruling.{Ruling}
use Rattle.tree_core.specs.Ruling as ruling

-- A write that was done: so many pages at most that it looked at, so many swaps that were due, of nine calls at most each, and then its append, of
-- four calls, the last of them a sync.
pub record EndsAppended (pages due : ℕ) (before after : DiskState) : Type 0 where
  -- the clock when the append began
  pub begun : ℕ
  pub no_sooner : before.clock ≤ begun
  pub no_later : begun ≤ before.clock + pages + 9 * due
  -- each of its calls counts, as long as the clock can
  pub exact : begun + 4 < 2 ^ 64 → after.clock ≡ begun + 4
  -- where images are told its sync is marked, as one that ended well now
  pub synced : IsTrue before.tells_images → after.synced_at after.clock
  pub later : IsTrue before.tells_images → begun < after.clock

abbrev pub EndsTaken : Taking → Held → DiskState → DiskState → Type 0
EndsTaken Taken old before after = EndsAppended 0 (swaps_due_in old) before after
EndsTaken (Failed begun) old before after = ⊤

abbrev pub EndsMet : Admission → Held → DiskState → DiskState → Type 0
EndsMet admission.Admitted old before after = EndsAppended 0 (swaps_due_in old) before after
EndsMet _ old before after = ⊤

abbrev pub EndsAdmitted : Ruling → Op → Held → DiskState → DiskState → Type 0
EndsAdmitted ruling.Admitted op old before after = EndsAppended (pages_first op) (swaps_due_in old) before after
EndsAdmitted _ op old before after = ⊤

-- a begin, and a turn that does nothing, call no disk
abbrev pub LeavesDisk : {D : Type 0} → Move → D → D → Type 0
LeavesDisk mv old new = calls_disk (choice_of mv) ≡ false → new ≡ old
