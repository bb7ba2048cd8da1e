use Rattle.std.proofs.Common.{◌∙◌, IsTrue, List, ℕ, length, sym, subst, inl, inr}
use Rattle.disk_trait.specs.Moments.{LeavesOnly, IsOldOr}
use Rattle.disk_trait.proofs.MomentLemmas.{leaves_only_start, leaves_only_call, leaves_only_run, once_synced_start, once_synced_call, once_synced_more, leaves_only_weaken}
use Rattle.disk_trait.specs.Region.{span, IsSameOutside}
use Rattle.disk_trait.proofs.RegionLemmas.{same_file}
use Rattle.store_file.proofs.making.write_between_syncs.Goals as goal

pub returns-clause-leaves : goal.returns-clause-leaves
returns-clause-leaves g c = λ honest.
    let old = g.D.Disk.state c.args.disk.now in
    let mid = g.D.Disk.state c.sync.new.self in
    let new = g.D.Disk.state c.write_through.new.disk in
    let region = span 0 (length c.args.bytes.now) in
    let timed = g.met.D.Disk.timed in
    let still = subst IsTrue (sym c.sync.ensures.passes.goes_on.is_honest) honest in
    let same = c.sync.ensures.same.bytes honest in
    let here = λ (f : List ℕ) (left : mid.images f).
    subst (λ (l : List ℕ). IsSameOutside region old.bytes l) (sym (c.in_ok-sync.ensures.durable honest f left ∙ same)) (same_file region old.bytes) in
    let torn : LeavesOnly mid new (IsSameOutside region old.bytes) =
    leaves_only_weaken (λ f was. subst (λ (l : List ℕ). IsSameOutside region l f) (c.in_ok-sync.ensures.durable honest was.0 was.1 ∙ same) was.2) (c.write_through.ensures.effect.images still) in
    record {
      each =
          leaves_only_run
          (leaves_only_call (leaves_only_start old (IsOldOr old.images (IsSameOutside region old.bytes)) (timed c.args.disk.now) (λ f left. inl left)) c.sync.ensures.passes (λ f left. inr (here f left)))
          (leaves_only_weaken (λ f was. inr was) torn);
      once_synced =
          once_synced_more (timed c.sync.new.self) (timed c.write_through.new.disk)
          (once_synced_call _ (once_synced_start old (IsSameOutside region old.bytes) (timed c.args.disk.now)) c.sync.ensures.passes c.sync.ensures.marks (timed c.args.disk.now) (timed c.sync.new.self)
          (λ t f after at left. here f left))
          torn c.write_through.ensures.effect.syncs;
      reads = subst (λ (l : List ℕ). IsSameOutside region l new.bytes) same (c.write_through.ensures.effect.bytes still);
    }
