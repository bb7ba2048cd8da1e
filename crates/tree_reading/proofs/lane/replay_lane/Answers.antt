use Rattle.std.proofs.Common.{None, List, ℕ, ◌≡◌, ◌≤◌, ◌<◌, ◌+◌, [], ◌∷◌, ◌++◌, length, length-append, IsTrue, Ok, Err, Some, refl, ap, sym, subst}
use Rattle.std.proofs.Common.{◌∙◌, arith, rules}
use Rattle.disk_trait.specs.Reads.{OnlyReads}
use Rattle.disk_trait.proofs.ReadLemmas.{only_reads_start, only_reads_more, only_reads_wider}
use Rattle.blsm_model.specs.Geometry.{file_length}
use Rattle.blsm_model.specs.Lanes.{region_length}
use Rattle.blsm_model.specs.Sizes.{Sizes}
use Rattle.blsm_model.specs.declared.key.Key.{Key}
use Rattle.record_delta.specs.declared.record.Rec.{Rec}
use Rattle.record_delta.specs.Entries.{Entries, entries_weight, replayed, with_record}
use Rattle.gated_log.specs.declared.replay.LaneBroken.TheVariants.{Damaged}
use Rattle.gated_log.specs.Lane.{Lane, HasEntries}
use Rattle.gated_log.specs.Replay.{Answer, HasGiven, ReplayState, IsStep, TellsLane, step_calls}
use Rattle.gated_log.proofs.ReplayLemmas.{HasMoved, calls_most, has_moved}
use Rattle.tree_reading.specs.Lane.{TellsReplay, heavy, lane_calls}
use Rattle.tree_reading.proofs.LaneLemmas.{replayed_push, within_push, within_start, given_push, front_push, calls_within}
use Rattle.tree_reading.proofs.CallsLemmas.{still_then}
use Rattle.tree_reading.proofs.FaultLemmas.{handed_on, same_error}
use Rattle.tree_reading.proofs.lane.replay_lane.Goals as goal
use Rattle.tree_reading.proofs.lane.replay_lane.Goals.{After-next, After-take}

calls : (g : _) (c : After-next g) → OnlyReads (file_length c.args.geo.now) (lane_calls c.args.geo.now) (g.D.Disk.state c.args.disk.now) (g.D.Disk.state c.next.new.disk)
calls g c =
    let inv = c.loop-key.invariant in
    calls_within c.args.geo.now c.loop-key.replay.sizes inv.calls _ _ _ (g.met.D.Disk.timed c.loop-key.disk) inv.stands inv.sizes
    (omega (arith, inv.few, inv.inside)) inv.effect
    (only_reads_wider (omega arith) (calls_most c.loop-key.replay.behind) c.next.ensures.effect)

-- one entry more
found : (g : _) (c : After-take g) → c.next.result ≡ Ok (Some (c.in-Some.key, c.in-Some.rec))
found g c = search

table : (g : _) (c : After-take g) → c.take.new.table.entries ≡ replayed (c.loop-key.invariant.entries ++ (c.in-Some.key, c.in-Some.rec) ∷ [])
table g c = c.take.ensures.folded ∙ ap (with_record c.in-Some.key c.in-Some.rec) c.loop-key.invariant.table_is ∙ sym (replayed_push c.loop-key.invariant.entries (c.in-Some.key, c.in-Some.rec))

moved : (g : _) (c : After-take g) → HasMoved c.loop-key.replay c.next.new.self
moved g c =
    has_moved c.loop-key.replay c.next.new.self (c.in-Some.key, c.in-Some.rec)
    (subst (λ (a : Answer). IsStep c.loop-key.replay a c.next.new.self) (found g c) c.next.ensures.step)

given : (g : _) (c : After-take g) → IsTrue (g.D.Disk.state c.args.disk.now).is_honest
    → HasGiven c.next.new.self (c.loop-key.invariant.entries ++ (c.in-Some.key, c.in-Some.rec) ∷ []) (g.D.Disk.state c.args.disk.now).bytes
given g c honest =
    let inv = c.loop-key.invariant in
    let same = still_then inv.effect c.next.ensures.effect honest in
    given_push c.loop-key.replay c.next.new.self inv.entries (c.in-Some.key, c.in-Some.rec) c.next.result (g.D.Disk.state c.args.disk.now).bytes
    (g.D.Disk.state c.next.new.disk).bytes (found g c) same.2
    (c.next.ensures.told inv.entries (g.met.D.Disk.honest_tells c.loop-key.disk same.0) (subst (λ b. HasGiven c.loop-key.replay inv.entries b) (sym same.2) (inv.given honest)))

-- ---- the goals

pub loop-key-init : goal.loop-key-init
loop-key-init g c =
    let first = g.D.Disk.state c.args.disk.now in
    let begun = c.new-replay.ensures in
    record {
      sizes = ap (λ (r : ReplayState). r.sizes) begun.start;
      lane = ap (λ (r : ReplayState). r.lane) begun.start;
      reserved = refl;
      whole = c.requires.whole;
      short = omega (arith, c.half-half.ensures.fits.half.1);
      inside = omega (arith, ap (λ (r : ReplayState). r.end) begun.start, c.half-half.ensures.fits.half.0);
      counted = omega (arith, ap (λ (r : ReplayState). length r.behind) begun.start);
      many = omega arith;
      calls = 0;
      fewer = omega arith;
      few = omega arith;
      stands = refl;
      light = omega (arith, ap entries_weight c.requires.empty);
      entries = [];
      table_is = c.requires.empty;
      records_is = refl;
      may_end = λ none. ap (λ (r : ReplayState). r.end) begun.start;
      within = within_start c.args.room;
      given = λ honest. begun.nothing first.bytes;
      effect = only_reads_start first (g.met.D.Disk.timed c.args.disk.now);
    }

pub returns-in_err-key-clause-effect : goal.returns-in_err-key-clause-effect
returns-in_err-key-clause-effect g c = calls g (goal.at.returns-in_err-key-clause-effect g c).After-next

pub returns-in_err-take-clause-effect : goal.returns-in_err-take-clause-effect
returns-in_err-take-clause-effect g c = calls g (goal.at.returns-in_err-take-clause-effect g c).After-next

pub returns-clause-effect : goal.returns-clause-effect
returns-clause-effect g c = calls g (goal.at.returns-clause-effect g c).After-next

pub returns-in_err-take-clause-tells : goal.returns-in_err-take-clause-tells
returns-in_err-take-clause-tells g c =
    let first = g.D.Disk.state c.args.disk.now in
    let inv = c.loop-key.invariant in
    let arm = (goal.at.returns-in_err-take-clause-tells g c).After-take in
    let broken : c.in_err-take.field-0.0 ≡ Damaged c.args.lane = same_error {A = Unit {0}} _ _ c.in_err-take.ensures.lane in
    subst (λ r. TellsReplay c.args.geo.now c.args.lane c.args.room c.take.new.table.entries first.is_honest first.bytes r) (sym (handed_on c.from_residual-in_err-take.ensures.1 ∙ ap Err broken)) (
      refl,
      λ honest.
          heavy _ (front_push c.args.geo.now c.args.lane c.next.new.self _ first.bytes ((moved g arm).sizes ∙ inv.sizes) ((moved g arm).lane
          ∙ inv.lane) (given g arm honest))
          (subst (λ (l : Entries). c.args.room < entries_weight l) (table g arm) c.in_err-take.ensures.heavy),
    )

pub loop-key-preserved : goal.loop-key-preserved
loop-key-preserved g c =
    let inv = c.loop-key.invariant in
    let next = c.next.ensures in
    let e : Key × Rec = (c.in-Some.key, c.in-Some.rec) in
    let arm = (goal.at.loop-key-preserved g c).After-take in
    let step = moved g arm in
    let inside : c.next.new.self.end < region_length c.args.geo.now =
    omega (arith, step.inside (omega (arith, inv.inside, ap region_length inv.sizes)), ap region_length inv.sizes) in
    record {
      sizes = step.sizes ∙ inv.sizes;
      lane = step.lane ∙ inv.lane;
      reserved = c.take.ensures.reserved ∙ inv.reserved;
      whole = c.take.ensures.whole;
      short = inv.short;
      inside = inside;
      counted = omega (arith, step.given, inv.counted);
      many = omega (arith, step.given, inv.counted, inside);
      calls = inv.calls + step_calls c.loop-key.replay.behind;
      fewer = omega (arith, inv.fewer, calls_most c.loop-key.replay.behind);
      few = omega (arith, inv.few, step.read);
      stands = next.faults.stands (λ wrong. cc (sym (found g arm) ∙ wrong)) ∙ inv.stands;
      light = c.in_ok-take.ensures.within;
      entries = inv.entries ++ e ∷ [];
      table_is = table g arm;
      records_is = omega (arith, length-append inv.entries (e ∷ []), inv.records_is);
      may_end = λ none. absurd (omega (arith, ap (λ (es : Entries). length es) none, length-append inv.entries (e ∷ [])));
      within = within_push c.args.room inv.entries e inv.within (subst (λ (l : Entries). entries_weight l ≤ c.args.room) (table g arm) c.in_ok-take.ensures.within);
      given = given g arm;
      effect = only_reads_more {total = inv.calls + step_calls c.loop-key.replay.behind}
          (g.met.D.Disk.timed c.loop-key.disk) inv.stands inv.effect next.effect (omega (arith, ap file_length inv.sizes)) (omega arith);
    }

pub loop-key-smaller : goal.loop-key-smaller
loop-key-smaller g c =
    let inv = c.loop-key.invariant in
    let step = moved g (goal.at.loop-key-smaller g c).After-take in
    let sizes = ap region_length inv.sizes in
    omega (arith, step.given, inv.inside, sizes, step.inside (omega (arith, inv.inside, sizes)))

pub returns-clause-calls : goal.returns-clause-calls
returns-clause-calls g c = let inv =
    c.loop-key.invariant in omega (arith, inv.fewer, inv.effect.effect.calls, c.next.ensures.effect.effect.calls, calls_most c.loop-key.replay.behind)

pub returns-clause-tells : goal.returns-clause-tells
returns-clause-tells g c =
    let inv = c.loop-key.invariant in
    let file = (g.D.Disk.state c.args.disk.now).bytes in
    let none : c.next.result ≡ Ok None = search in
    let of : Lane = record { entries = inv.entries; end = c.loop-key.replay.end } in (
      of,
      record {
        table_is = inv.table_is;
        place_is = search rules;
        may_end = inv.may_end;
        inside = search rules;
        records_is = sym inv.records_is;
        within = inv.within;
      },
      λ honest.
          let same = still_then inv.effect c.next.ensures.effect honest in
          let told = subst (λ (a : Answer). TellsLane c.loop-key.replay inv.entries (g.D.Disk.state c.next.new.disk).bytes a c.next.new.self) none
          (c.next.ensures.told inv.entries (g.met.D.Disk.honest_tells c.loop-key.disk same.0)
          (subst (λ b. HasGiven c.loop-key.replay inv.entries b) (sym same.2) (inv.given honest))) in
          subst (λ (sizes : Sizes). HasEntries sizes c.args.lane of file) inv.sizes
          (subst (λ (n : ℕ). HasEntries c.loop-key.replay.sizes n of file) inv.lane
          (subst (λ (b : List ℕ). HasEntries c.loop-key.replay.sizes c.loop-key.replay.lane of b) same.2 told)),
    )
