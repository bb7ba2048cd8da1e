-- Laws of `specs/Ends`.
use Rattle.std.specs.Prelude.{◌≡◌, ℕ, ◌+◌, IsTrue}
use Rattle.std.proofs.Common.{arith, ap, sym, subst}
use Rattle.disk_trait.specs.Disk.{DiskState, GoesOn, MarksSync, Passes}
use Rattle.gated_write.specs.Ends.{EndsSynced}

-- a call, and then a sync that ended well
pub call_then_sync : {ended_well : Type 0} {old mid new : DiskState} → Passes old mid → Passes mid new → MarksSync ended_well mid new → ended_well → EndsSynced 2 old new
call_then_sync {ended_well} {old} {mid} {new} first second marks well = record {
  exact = λ few. let one = first.one (omega (arith, few)) in let two = second.one (omega (arith, few, one)) in omega (arith, one, two);
  synced = λ tells. marks.now (still tells) well;
  later = λ tells. let now = marks.later (still tells) well in omega (arith, first.goes_on.clock, now);
}
  where
    still : IsTrue old.tells_images → IsTrue mid.tells_images
    still tells = subst IsTrue (sym first.goes_on.tells_images) tells

-- calls more before those
pub then_ends : {most : ℕ} {old mid new : DiskState} (calls : ℕ) → GoesOn old mid → EndsSynced calls old mid → EndsSynced most mid new → EndsSynced (calls + most) old new
then_ends {most} {old} {mid} {new} calls goes first second = record {
  exact = λ few. let one = first.exact (omega (arith, few)) in let two = second.exact (omega (arith, few, one)) in omega (arith, one, two);
  synced = λ tells. second.synced (still tells);
  later = λ tells. let now = second.later (still tells) in omega (arith, goes.clock, now);
}
  where
    still : IsTrue old.tells_images → IsTrue mid.tells_images
    still tells = subst IsTrue (sym goes.tells_images) tells
