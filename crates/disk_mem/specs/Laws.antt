-- What the trait asks of each disk, whatever its record says.
use Rattle.std.specs.Prelude.{◌≡◌, ℕ, ◌+◌, Bool, true, false, IsTrue, List, if◌then◌else◌, bytes_eq, length, refl}
use Rattle.std.proofs.Common.{sym, subst, arith}
use Rattle.std.proofs.lemmas.Slice.Eq.{bytes_eq-Decides}
use Rattle.disk_trait.specs.Moments.{IsTimed}
use Rattle.disk_mem.specs.Events.{fresh, replay, IsImage, left_now, left_only_now, left_earlier, sync_bound, as_read}
use Rattle.disk_mem.specs.Recorded.{Recorded, is_untouched, told}

pub told_timed : (d : Recorded) → IsTimed (told d)
told_timed d = record {
  counts_now = λ t c le here. left_now (fresh d.first) d.events t c here;
  only_now = λ c left. left_only_now (fresh d.first) d.events (length d.events + d.past) c (omega arith) left;
  since_earlier = λ t u c le left. left_earlier (fresh d.first) d.events t u c le left;
  synced_by_now = λ t at. omega (arith, sync_bound d.events t at);
}

honest_reads : (untouched : Bool) (bytes others : List ℕ) → IsTrue (if untouched then bytes_eq bytes others else false) → bytes ≡ others
honest_reads true bytes others same = (bytes_eq-Decides bytes others).0 same
honest_reads false bytes others none = absurd (cc)

pub told_as_read : (d : Recorded) → IsTrue (told d).is_honest → IsImage (replay (fresh d.first) d.events) d.bytes
told_as_read d honest =
    let reads = honest_reads (is_untouched d.changes) d.bytes (replay (fresh d.first) d.events).bytes honest in
    subst (IsImage (replay (fresh d.first) d.events)) (sym reads) (as_read (fresh d.first) d.events refl)
