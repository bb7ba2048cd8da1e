-- A quantum of a merge: groups, one after the other.
use Rattle.std.proofs.lemmas.Bool.Decides.{nat_tests}
use Rattle.std.proofs.lemmas.Grind.{common_steps}
use Rattle.std.proofs.Common.{◌≡◌, ◌∙◌, ◌+◌, ◌*◌, ◌<◌, ◌≤◌, ◌⊎◌, ℕ, List, Option, Some, Result, Ok, Err, IsTrue, length, refl, sym, subst, inr, arith}
use Rattle.refusal.specs.Count.{HasRisen}
use Rattle.disk_trait.specs.Disk.{TellsFaultsBy}
use Rattle.disk_trait.proofs.EffectLemmas.{affects_length}
use Rattle.disk_trait.specs.Moments.{IsTimed}
use Rattle.blsm_model.specs.declared.key.Key.{Key}
use Rattle.blsm_model.specs.Format.{most_weight}
use Rattle.blsm_model.specs.Geometry.{page_count, file_length}
use Rattle.blsm_model.specs.Sizes.{Sizes}
use Rattle.bloom_bits.specs.Guides.{KeepReserves}
use Rattle.record_delta.specs.declared.record.Rec.{Rec}
use Rattle.record_delta.specs.Entries.{Entries, AreSorted, above, entries_weight}
use Rattle.page_space.specs.Space.{role_size}
use Rattle.page_file.specs.declared.file.Broken.{Broken}
use Rattle.page_file.specs.declared.file.Broken.TheVariants.{Fault, Damaged}
use Rattle.run_cursor.specs.Cursor.{CursorState}
use Rattle.merge_step.specs.Merged.{IsTaken}
use Rattle.merge_ends.proofs.GroupLemmas.{further}
use Rattle.merge_ends.specs.Quantum.{Grows, Counts, IsNext, NoneAbove, HasTaken}
use Rattle.merge_ends.specs.Progress.{Progress, Stage, MayGoOn, MeetsDamage, MergesOn, Takes, TakesGroup, TakesQuantum, left_to_take, pages_ahead}
use Rattle.merge_ends.proofs.QuantumLemmas.{has_step, no_weight}
use Rattle.merge_ends.proofs.WorkLemmas.{works_start, works_run, works_counted}

-- ---- results

pub ok_not_fault : (n : ℕ) → ◌≡◌ {A = Result ℕ Broken} (Ok n) (Err Fault) → ⊥
ok_not_fault n wrong = cc

pub err_not_ok : (broken : Broken) (n : ℕ) → ◌≡◌ {A = Result ℕ Broken} (Err broken) (Ok n) → ⊥
err_not_ok broken n wrong = cc

same_weight : (m n : ℕ) → ◌≡◌ {A = Result ℕ Broken} (Ok m) (Ok n) → n ≡ m
same_weight m n is = cc

pub fault_is : (a : Result (Unit {0}) Broken) (broken : Broken) → a ≡ Err broken → a ≡ Err Fault → broken ≡ Fault
fault_is a broken was is = cc

pub not_both : (a : Result (Unit {0}) Broken) (broken : Broken) → a ≡ Err broken → a ≡ Ok tt → ⊥
not_both a broken was is = cc

pub calm_of : (a : Result (Unit {0}) Broken) → a ≡ Ok tt → a ≡ Err Fault → ⊥
calm_of a is fault = not_both a Fault fault is

-- the page that is named was named below
pub damage_is : (n : ℕ) (a : Result (Unit {0}) Broken) (b : Result ℕ Broken) (broken other : Broken) → a ≡ Err broken → b ≡ Err other → other ≡ broken → b ≡ Err (Damaged n) → a ≡ Err (Damaged n)
damage_is n a b broken other was gave same is = cc

-- ---- what was taken

takes_none : (merge : Progress) → Takes merge merge 0
takes_none merge = record { of_newer = 0; of_older = 0; taken_is = refl; newer = omega arith; older = omega arith; light = omega arith; onward = λ key is. is }

takes_more : (old mid new : Progress) (m n : ℕ) → Takes old mid m → Takes mid new n → Takes old new (m + n)
takes_more old mid new m n first second = record {
  of_newer = first.of_newer + second.of_newer;
  of_older = first.of_older + second.of_older;
  taken_is = omega (arith, first.taken_is, second.taken_is);
  newer = omega (arith, first.newer, second.newer);
  older = omega (arith, first.older, second.older);
  light = omega (arith, first.light, second.light);
  onward = λ key is. first.onward key (second.onward key is);
}

-- nothing is left
pub takes_nothing : (old : Progress) (newer older : ℕ) (cursors : List CursorState) → newer ≡ old.newer → older ≡ old.older → newer + older ≡ 0
    → TakesGroup old (record old { newer = newer; older = older; cursors = cursors }) 0
takes_nothing old newer older cursors h1 h2 h3 = grind (arith, common_steps, nat_tests)

-- a group of these lists, which are left of the inputs or the heads of them
pub takes_group : {above_newer above_older : Entries} {key : Key} {rec : Rec} {taken : ℕ} (old new : Progress) → IsTaken old.at above_newer above_older key rec taken → new.at ≡ Some key
    → new.newer + entries_weight (above old.at above_newer) ≡ old.newer + entries_weight (above (Some key) above_newer)
    → new.older + entries_weight (above old.at above_older) ≡ old.older + entries_weight (above (Some key) above_older)
    → 14 ≤ taken → taken ≤ 1024 → new.writer.component.weight ≤ old.writer.component.weight + taken → TakesGroup old new taken
takes_group old new h1 h2 h3 h4 h5 h6 h7 = grind (arith, common_steps, nat_tests, further)

-- ---- what a call tells

module _ {sizes : Sizes} {most : ℕ} {Took : Progress → Progress → ℕ → Type 0} {old new : Stage} where
  -- where it took so much
  pub told_ok : {n : ℕ} → Took old.merge new.merge n → MayGoOn sizes new
      → role_size new.space old.merge.writer.role + old.merge.writer.component.pages ≡ role_size old.space old.merge.writer.role + new.merge.writer.component.pages
      → Counts 0 (pages_ahead old.merge.cursors) (pages_ahead new.merge.cursors) old.merge.writer.component.pages new.merge.writer.component.pages old.disk new.disk
      → new.merge.writer.role ≡ old.merge.writer.role → KeepReserves old.filter new.filter old.fences new.fences → Grows sizes most old.space new.space old.merge.writer new.merge.writer old.disk new.disk
      → new.disk.faults ≡ old.disk.faults → MergesOn sizes most Took old new (Ok n)
  told_ok h1 h2 h3 h4 h5 h6 h7 h8 = grind (arith, common_steps, nat_tests)

  -- where it failed
  pub told_err : {result : Result ℕ Broken} {broken : Broken} → result ≡ Err broken
      → Counts 1 (pages_ahead old.merge.cursors) (pages_ahead new.merge.cursors) old.merge.writer.component.pages new.merge.writer.component.pages old.disk new.disk
      → new.merge.writer.role ≡ old.merge.writer.role → KeepReserves old.filter new.filter old.fences new.fences → Grows sizes most old.space new.space old.merge.writer new.merge.writer old.disk new.disk
      → ((n : ℕ) → result ≡ Err (Damaged n) → IsTrue old.disk.tells_bytes → MeetsDamage sizes new.merge.cursors n new.disk.bytes) → TellsFaultsBy (Err Fault) result old.disk new.disk → MergesOn sizes most Took old new result
  told_err h1 h2 h3 h4 h5 h6 h7 = grind (arith, common_steps, nat_tests)

-- ---- on any disk

-- some groups were taken, the last of them when they weighed less than a quantum
pub record HasMerged (sizes : Sizes) (most : ℕ) (old new : Stage) (taken : ℕ) : Type 0 where
  pub pages : new.space.pages ≡ page_count sizes
  pub long : IsTrue new.disk.tells_bytes → length new.disk.bytes ≡ file_length sizes
  pub runs : MayGoOn sizes new
  pub takes : Takes old.merge new.merge taken
  pub bound : taken + 1 ≤ sizes.quantum + 2 * most_weight
  pub size : role_size new.space old.merge.writer.role + old.merge.writer.component.pages ≡ role_size old.space old.merge.writer.role + new.merge.writer.component.pages
  pub counts : Counts 0 (pages_ahead old.merge.cursors) (pages_ahead new.merge.cursors) old.merge.writer.component.pages new.merge.writer.component.pages old.disk new.disk
  pub role : new.merge.writer.role ≡ old.merge.writer.role
  pub reserves : KeepReserves old.filter new.filter old.fences new.fences
  pub works : Grows sizes most old.space new.space old.merge.writer new.merge.writer old.disk new.disk
  pub faults : new.disk.faults ≡ old.disk.faults

pub merged_start : (sizes : Sizes) (most : ℕ) (now : Stage) → IsTimed now.disk → now.space.pages ≡ page_count sizes → (IsTrue now.disk.tells_bytes → length now.disk.bytes ≡ file_length sizes) → MayGoOn sizes now
    → HasMerged sizes most now now 0
merged_start sizes most now h1 h2 h3 h4 = grind (arith, common_steps, nat_tests, takes_none, works_start)

module _ {sizes : Sizes} {most : ℕ} {old mid : Stage} {taken : ℕ} (has : HasMerged sizes most old mid taken) where
  -- so it is a quantum, where they weigh one or nothing is left
  pub merged_ok : (sizes.quantum ≤ taken) ⊎ (left_to_take mid.merge ≡ 0) → MergesOn sizes most (λ from to n. TakesQuantum sizes.quantum from to n) old mid (Ok taken)
  merged_ok enough = told_ok (record { takes = has.takes; bound = has.bound; enough = enough }) has.runs has.size has.counts has.role has.reserves has.works has.faults

  -- a call more, where they don't weigh a quantum yet
  module _ {each : ℕ} {new : Stage} (timed : IsTimed mid.disk) (calls : new.disk.clock ≤ old.disk.clock + most) where
    works_more_groups : {Took : Progress → Progress → ℕ → Type 0} {result : Result ℕ Broken} → MergesOn sizes each Took mid new result → Grows sizes most old.space new.space old.merge.writer new.merge.writer old.disk new.disk
    works_more_groups on =
        works_counted sizes (most + each) most old.space new.space old.merge.writer new.merge.writer old.disk new.disk calls
        (works_run sizes most each old.space mid.space new.space old.merge.writer mid.merge.writer new.merge.writer old.disk mid.disk new.disk timed has.faults has.role has.works on.works)

    reserves_run : {Took : Progress → Progress → ℕ → Type 0} {result : Result ℕ Broken} → MergesOn sizes each Took mid new result → KeepReserves old.filter new.filter old.fences new.fences
    reserves_run on = record { bits = on.reserves.bits ∙ has.reserves.bits; fences_are = on.reserves.fences_are ∙ has.reserves.fences_are; size_is = on.reserves.size_is ∙ has.reserves.size_is }

    pub merged_more : {weight : ℕ} → taken < sizes.quantum → MergesOn sizes each TakesGroup mid new (Ok weight) → HasMerged sizes most old new (taken + weight)
    merged_more {weight} few on =
        let size = subst (λ (r : ℕ). role_size new.space r + mid.merge.writer.component.pages ≡ role_size mid.space r + new.merge.writer.component.pages) has.role on.size in
        record {
          pages = on.works.takes.pages ∙ has.pages;
          long = λ tells. let told = subst IsTrue on.works.effect.goes_on.tells_bytes tells in affects_length on.works.effect told (has.long told);
          runs = on.runs;
          takes = takes_more old.merge mid.merge new.merge taken weight has.takes on.takes.takes;
          bound = omega (arith, few, on.takes.light);
          size = omega (arith, has.size, size);
          counts = record {
            onward = omega (arith, has.counts.onward, on.counted.onward);
            grows = omega (arith, has.counts.grows, on.counted.grows);
            calls = omega (arith, has.counts.calls, on.counted.calls);
          };
          role = on.role ∙ has.role;
          reserves = reserves_run on;
          works = works_more_groups on;
          faults = on.faults.stands (ok_not_fault weight) ∙ has.faults;
        }

    -- where it fails the numbers tell nothing of what was taken
    pub merged_failed : (at : Option Key) (newer older : ℕ) {Took : Progress → Progress → ℕ → Type 0} {broken : Broken} → MergesOn sizes each Took mid new (Err broken)
        → MergesOn sizes most (λ from to n. TakesQuantum sizes.quantum from to n) old (record new { merge = record new.merge { at = at; newer = newer; older = older } }) (Err broken)
    merged_failed at newer older on =
        told_err refl
        (record {
          onward = omega (arith, has.counts.onward, on.counts.onward);
          grows = omega (arith, has.counts.grows, on.counts.grows);
          calls = omega (arith, has.counts.calls, on.counts.calls);
        })
        (on.role ∙ has.role) (reserves_run on) (works_more_groups on) (λ n is tells. on.damaged n is (subst IsTrue (sym has.works.effect.goes_on.tells_bytes) tells))
        (record {
          stands = λ other. on.faults.stands other ∙ has.faults;
          failed = λ is. subst (λ (n : ℕ). HasRisen n new.disk.faults) has.faults (on.faults.failed is);
        })

-- one that finds nothing ends it
pub merged_none : {sizes : Sizes} {most each : ℕ} {old mid new : Stage} {taken weight : ℕ} → HasMerged sizes most old mid taken → IsTimed mid.disk → new.disk.clock ≤ old.disk.clock + most → taken < sizes.quantum → weight ≡ 0
    → MergesOn sizes each TakesGroup mid new (Ok weight) → MergesOn sizes most (λ from to n. TakesQuantum sizes.quantum from to n) old new (Ok taken)
merged_none {sizes} {most} {each} {old} {mid} {new} {taken} {weight} has timed calls few none on =
    merged_ok (subst (λ (n : ℕ). HasMerged sizes most old new n) (omega (arith, none)) (merged_more has timed calls few on)) (inr (no_weight weight on.takes.some none))

-- ---- over lists

-- A group more, where it was taken of sorted lists: what stood before it, and stands after it, is the merge's.
pub lists_more : {After : Type 0} → (least : ℕ) (from mid to : Option Key) (newer older : Entries) (taken weight : ℕ) → taken < least → AreSorted newer → AreSorted older → HasTaken least from mid newer older taken
    → (n : ℕ) × (◌≡◌ {A = Result ℕ Broken} (Ok weight) (Ok n)) × After × (IsNext mid to newer older n ⊎ (NoneAbove mid newer older × (to ≡ mid) × (n ≡ 0)))
    → After × HasTaken least from to newer older (taken + weight)
lists_more least from mid to newer older taken weight few sorted_newer sorted_older has went = (
  went.2,
  subst (λ (n : ℕ). HasTaken least from to newer older (taken + n)) (same_weight weight went.0 went.1) (has_step least from mid to newer older taken went.0 sorted_newer sorted_older few has went.3),
)
