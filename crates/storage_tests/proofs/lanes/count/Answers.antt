use Rattle.std.proofs.Common.{None, ◌≡◌, ◌++◌, ◌∷◌, [], List, ℕ, Some, Result, Ok, Err, IsTrue, length, refl, rules, ap, sym, subst, ◌∙◌, arith}
use Rattle.std.proofs.Common.{length-append}
use Rattle.std.proofs.lemmas.Result.{err_from_is_err_and}
use Rattle.blsm_model.specs.declared.key.Key.{Key}
use Rattle.blsm_model.specs.Geometry.{file_length}
use Rattle.record_delta.specs.declared.record.Rec.{Rec}
use Rattle.disk_trait.proofs.ReadLemmas.{only_reads_start, only_reads_more}
use Rattle.gated_log.specs.declared.replay.LaneBroken.{LaneBroken}
use Rattle.blsm_model.specs.Sizes.{Sizes}
use Rattle.gated_log.specs.declared.replay.LaneBroken.TheVariants.{Damaged}
use Rattle.blsm_model.specs.Lanes.{region_length}
use Rattle.gated_log.specs.Lane.{Lane, HasEntries, IsDamagedBehind}
use Rattle.gated_log.specs.Replay.{Answer, ReplayState, HasGiven, IsStep, TellsLane}
use Rattle.gated_log.proofs.ReplayLemmas.{calls_most, has_moved}
use Rattle.storage_tests.proofs.lanes.count.Goals as goal

same_error : (a b : LaneBroken) → ◌≡◌ {A = Result ℕ LaneBroken} (Err a) (Err b) → a ≡ b
same_error a b same = cc

damaged_there : (sizes sizes' : Sizes) (lane lane' : ℕ) (es : List (Key × Rec)) (file file' : List ℕ) → sizes ≡ sizes' → lane ≡ lane' → file ≡ file' → IsDamagedBehind sizes lane es file → IsDamagedBehind sizes' lane' es file'
damaged_there sizes sizes' lane lane' es file file' s l f told =
    subst (λ (b : List ℕ). IsDamagedBehind sizes' lane' es b) f (subst (λ (m : ℕ). IsDamagedBehind sizes' m es file) l (subst (λ (z : Sizes). IsDamagedBehind z lane es file) s told))

pub loop-entries-init : goal.loop-entries-init
loop-entries-init g c =
    let begun = c.new-replay.ensures in
    let none : c.new-replay.result.end ≡ 0 = ap (λ (r : ReplayState). r.end) begun.start in
    record {
      sizes = ap (λ (r : ReplayState). r.sizes) begun.start;
      lane = ap (λ (r : ReplayState). r.lane) begun.start;
      within = omega (arith, none, ap (λ (r : ReplayState). length r.behind) begun.start);
      inside = search rules;
      stands = refl;
      effect = only_reads_start (g.D.Disk.state c.args.disk.now) (g.met.D.Disk.timed c.args.disk.now);
      given = λ honest. ([], begun.nothing (g.D.Disk.state c.args.disk.now).bytes, refl);
    }

pub loop-entries-preserved : goal.loop-entries-preserved
loop-entries-preserved g c =
    let inv = c.loop-entries.invariant in
    let next = c.next.ensures in
    let e = c.in-Some.field-0 in
    let answered : c.next.result ≡ Ok (Some e) = c.in_ok-next.was ∙ ap Ok c.in-Some.is in
    let moved = has_moved c.loop-entries.replay c.next.new.self e
    (subst (λ (a : Answer). IsStep c.loop-entries.replay a c.next.new.self) answered next.step) in
    record {
      sizes = moved.sizes ∙ inv.sizes;
      lane = moved.lane ∙ inv.lane;
      within = omega (arith, inv.within, moved.given);
      inside = omega (arith, moved.inside inv.inside, ap region_length moved.sizes);
      stands = next.faults.stands (λ wrong. cc (sym answered ∙ wrong)) ∙ inv.stands;
      effect = only_reads_more (g.met.D.Disk.timed c.loop-entries.disk) inv.stands inv.effect next.effect (omega (arith, ap file_length inv.sizes))
          (omega (arith, moved.read));
      given = λ honest.
          let was = inv.given honest in
          let still = subst IsTrue (sym inv.effect.effect.goes_on.is_honest) honest in
          let here = subst (λ (b : List ℕ). HasGiven c.loop-entries.replay was.0 b) (sym (next.effect.same.same.bytes still)) was.1 in
          let told = subst (λ (a : Answer). TellsLane c.loop-entries.replay was.0 (g.D.Disk.state c.next.new.disk).bytes a c.next.new.self) answered
          (next.told was.0 (g.met.D.Disk.honest_tells c.loop-entries.disk still) here) in
          (was.0 ++ e ∷ [], told, omega (arith, was.2, length-append was.0 (e ∷ [])));
    }

pub loop-entries-smaller : goal.loop-entries-smaller
loop-entries-smaller g c =
    let inv = c.loop-entries.invariant in
    let e = c.in-Some.field-0 in
    let answered : c.next.result ≡ Ok (Some e) = c.in_ok-next.was ∙ ap Ok c.in-Some.is in
    let moved = has_moved c.loop-entries.replay c.next.new.self e
    (subst (λ (a : Answer). IsStep c.loop-entries.replay a c.next.new.self) answered c.next.ensures.step) in
    omega (arith, moved.given, inv.inside, moved.inside inv.inside, ap region_length moved.sizes)

pub returns-in_err-next-clause-damaged : goal.returns-in_err-next-clause-damaged
returns-in_err-next-clause-damaged g c = λ place is honest.
    let inv = c.loop-entries.invariant in
    let was = inv.given honest in
    let still = subst IsTrue (sym inv.effect.effect.goes_on.is_honest) honest in
    let same = c.next.ensures.effect.same.same.bytes still in
    let here = subst (λ (b : List ℕ). HasGiven c.loop-entries.replay was.0 b) (sym same) was.1 in
    let p = err_from_is_err_and c.from_residual.result c.from_residual.ensures.1 in
    let broken : c.in_err-next.field-0.0 ≡ Damaged place = sym p.2 ∙ same_error p.0 (Damaged place) (sym p.1 ∙ is) in
    let told = subst (λ (a : Answer). TellsLane c.loop-entries.replay was.0 (g.D.Disk.state c.next.new.disk).bytes a c.next.new.self)
    (c.in_err-next.was ∙ ap Err broken) (c.next.ensures.told was.0 (g.met.D.Disk.honest_tells c.loop-entries.disk still) here) in
    (was.0, damaged_there _ c.args.geometry.now _ c.args.lane was.0 _ _ inv.sizes inv.lane (same ∙ inv.effect.same.same.bytes honest) told)

pub returns-in_err-next-clause-effect : goal.returns-in_err-next-clause-effect
returns-in_err-next-clause-effect g c =
    let inv = c.loop-entries.invariant in
    let region = ap region_length inv.sizes in
    only_reads_more (g.met.D.Disk.timed c.loop-entries.disk) inv.stands inv.effect c.next.ensures.effect (omega (arith, ap file_length inv.sizes))
    (omega (arith, inv.inside, region, calls_most c.loop-entries.replay.behind))

pub returns-clause-effect : goal.returns-clause-effect
returns-clause-effect g c =
    let inv = c.loop-entries.invariant in
    let region = ap region_length inv.sizes in
    only_reads_more (g.met.D.Disk.timed c.loop-entries.disk) inv.stands inv.effect c.next.ensures.effect (omega (arith, ap file_length inv.sizes))
    (omega (arith, inv.inside, region, calls_most c.loop-entries.replay.behind))

pub returns-clause-whole : goal.returns-clause-whole
returns-clause-whole g c = λ honest.
    let inv = c.loop-entries.invariant in
    let was = inv.given honest in
    let still = subst IsTrue (sym inv.effect.effect.goes_on.is_honest) honest in
    let same = c.next.ensures.effect.same.same.bytes still in
    let none : c.next.result ≡ Ok None = search in
    let of : Lane = record { entries = was.0; end = c.loop-entries.replay.end } in
    let told = subst (λ (a : Answer). TellsLane c.loop-entries.replay was.0 (g.D.Disk.state c.next.new.disk).bytes a c.next.new.self) none
    (c.next.ensures.told was.0 (g.met.D.Disk.honest_tells c.loop-entries.disk still)
    (subst (λ (b : List ℕ). HasGiven c.loop-entries.replay was.0 b) (sym same) was.1)) in (
      of,
      subst (λ (sizes : Sizes). HasEntries sizes c.args.lane of (g.D.Disk.state c.args.disk.now).bytes) inv.sizes
          (subst (λ (n : ℕ). HasEntries c.loop-entries.replay.sizes n of (g.D.Disk.state c.args.disk.now).bytes) inv.lane
          (subst (λ (b : List ℕ). HasEntries c.loop-entries.replay.sizes c.loop-entries.replay.lane of b) (same
          ∙ inv.effect.same.same.bytes honest) told)),
      was.2,
    )
