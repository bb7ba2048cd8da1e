-- Laws of `specs/Clock`.
use Rattle.std.specs.Prelude.{ℕ, ◌+◌, ◌*◌, ◌≤◌, IsTrue}
use Rattle.std.proofs.Common.{arith, sym, subst}
use Rattle.disk_trait.specs.Disk.{DiskState, GoesOn}
use Rattle.gated_write.specs.Ends.{EndsSynced}
use Rattle.tree_core.specs.Clock.{EndsAppended}

-- the append comes behind two swaps, of which some may not be due
pub ends_behind : {before mid last after : DiskState} (due : ℕ) → GoesOn before mid → GoesOn mid last → last.clock ≤ before.clock + 9 * due →
    EndsSynced 4 last after → EndsAppended 0 due before after
ends_behind {before} {mid} {last} {after} due first second few ends = record {
  begun = last.clock;
  no_sooner = omega (arith, first.clock, second.clock);
  no_later = omega (arith, few);
  exact = ends.exact;
  synced = λ tells. ends.synced (still tells);
  later = λ tells. ends.later (still tells);
}
  where
    still : IsTrue before.tells_images → IsTrue last.tells_images
    still tells = subst IsTrue (sym second.tells_images) (subst IsTrue (sym first.tells_images) tells)

-- so many calls were made before
pub ends_later : {before mid after : DiskState} (pages due : ℕ) → GoesOn before mid → mid.clock ≤ before.clock + pages → EndsAppended 0 due mid after
    → EndsAppended pages due before after
ends_later {before} {mid} {after} pages due goes few ends = record {
  begun = ends.begun;
  no_sooner = omega (arith, goes.clock, ends.no_sooner);
  no_later = omega (arith, few, ends.no_later);
  exact = ends.exact;
  synced = λ tells. ends.synced (subst IsTrue (sym goes.tells_images) tells);
  later = λ tells. ends.later (subst IsTrue (sym goes.tells_images) tells);
}
