use Rattle.std.proofs.Common.{◌≡◌, ◌∙◌, ◌-◌, ℕ, List, IsTrue, ap, sym, subst, arith}
use mathlib.Core.Path.{subst₂}
use Rattle.disk_trait.proofs.ReadLemmas.{only_reads_run, only_reads_same}
use Rattle.blsm_model.specs.Lanes.{b_of}
use Rattle.gated_log.specs.Lane.{HasEntries}
use Rattle.record_delta.specs.Entries.{Entries, entries_weight, replayed}
use Rattle.tree_reading.specs.Damage.{catalogue_weight, in_a, in_b, room_for_b}
use Rattle.tree_reading.specs.Lane.{IsDamagedLane, IsReplayed, StaysWithin}
use Rattle.tree_reading.proofs.FaultLemmas.{calm, faults_as, faults_none, faults_then, named_by}
use Rattle.tree_reading.proofs.LanesLemmas.{lane_damage, within_room}
use Rattle.tree_reading.proofs.lanes.replay_both.Goals as goal
use Rattle.tree_reading.proofs.lanes.replay_both.Goals.{After-replay_lane-2}

-- the room for lane B
room_b : (g : _) (c : After-replay_lane-2 g) (lane_a : Entries) → c.replay_lane.new.table.entries ≡ replayed lane_a
    → c.room_for-room.result - c.weight.result ≡ room_for_b c.args.head.now.geometry (catalogue_weight c.args.head.now.catalogue) lane_a
room_b g c lane_a is = omega (arith, c.room_for-room.ensures.room, c.weight.ensures.weight, ap entries_weight is)

pub returns-in_err-end_a-clause-damaged : goal.returns-in_err-end_a-clause-damaged
returns-in_err-end_a-clause-damaged g c = λ honest n is.
    let first = g.D.Disk.state c.args.disk.now in
    let sizes = c.args.head.now.geometry in
    let damage = lane_damage sizes _ c.room_for-room.result c.replay_lane.new.table.entries first.is_honest first.bytes n (named_by c.from_residual.ensures.1 is) c.in_err-end_a.ensures.tells in
    in_a damage.0 (subst₂ (λ lane room. IsDamagedLane sizes lane room first.bytes) (sym damage.0) c.room_for-room.ensures.room (damage.1 honest))

pub returns-in_err-end_a-clause-faults : goal.returns-in_err-end_a-clause-faults
returns-in_err-end_a-clause-faults g c = faults_as c.from_residual.ensures.1 c.in_err-end_a.was c.replay_lane.ensures.faults

pub overflow_sub-room : goal.overflow_sub-room
overflow_sub-room g c =
    let told = c.in_ok-end_a.ensures.tells in
    omega (arith, c.weight.ensures.weight, within_room c.args.head.now.geometry c.room_for-room.result told.0 c.replay_lane.new.table.entries c.in_ok-end_a.end_a told.1)

pub returns-in_err-end_b-clause-damaged : goal.returns-in_err-end_b-clause-damaged
returns-in_err-end_b-clause-damaged g c = λ honest n is.
    let mid = g.D.Disk.state c.replay_lane.new.disk in
    let sizes = c.args.head.now.geometry in
    let told = c.in_ok-end_a.ensures.tells in
    let room = c.room_for-room.result - c.weight.result in
    let damage = lane_damage sizes _ room c.replay_lane-2.new.table.entries mid.is_honest mid.bytes n (named_by c.from_residual-in_err-end_b.ensures.1 is) c.in_err-end_b.ensures.tells in
    let honest' : IsTrue mid.is_honest = c.replay_lane.ensures.effect.effect.goes_on.is_honest ∙ honest in
    in_b damage.0 told.0 (told.2 honest) (subst (λ k. StaysWithin k told.0.entries) c.room_for-room.ensures.room told.1.within)
    (subst (λ (b : List ℕ). IsDamagedLane sizes n (room_for_b sizes (catalogue_weight c.args.head.now.catalogue) told.0.entries) b)
    (only_reads_same c.replay_lane.ensures.effect honest)
    (subst₂ (λ lane r. IsDamagedLane sizes lane r mid.bytes) (sym damage.0)
    (room_b g (goal.at.returns-in_err-end_b-clause-damaged g c).After-replay_lane-2 told.0.entries told.1.table_is) (damage.1 honest')))

pub returns-in_err-end_b-clause-faults : goal.returns-in_err-end_b-clause-faults
returns-in_err-end_b-clause-faults g c =
    faults_then c.from_residual-in_err-end_b.result (calm c.in_ok-end_a.end_a c.in_ok-end_a.ensures.faults) (faults_as c.from_residual-in_err-end_b.ensures.1 c.in_err-end_b.was c.replay_lane-2.ensures.faults)

pub returns-in_err-end_b-clause-effect : goal.returns-in_err-end_b-clause-effect
returns-in_err-end_b-clause-effect g c =
    only_reads_run (g.met.D.Disk.timed c.replay_lane.new.disk) (calm c.in_ok-end_a.end_a c.in_ok-end_a.ensures.faults) c.replay_lane.ensures.effect c.replay_lane-2.ensures.effect

pub returns-clause-replayed : goal.returns-clause-replayed
returns-clause-replayed g c =
    let sizes = c.args.head.now.geometry in
    let one = c.in_ok-end_a.ensures.tells in
    let two = c.in_ok-end_b.ensures.tells in
    let effect = c.replay_lane.ensures.effect in
    record {
      lane_a = one.0;
      lane_b = two.0;
      a_is = subst (λ k. IsReplayed sizes k one.0 c.replay_lane.new.table.entries c.in_ok-end_a.end_a) c.room_for-room.ensures.room one.1;
      b_is = subst (λ k. IsReplayed sizes k two.0 c.replay_lane-2.new.table.entries c.in_ok-end_b.end_b)
          (room_b g (goal.at.returns-clause-replayed g c).After-replay_lane-2 one.0.entries one.1.table_is) two.1;
      has_a = one.2;
      has_b = λ honest. subst (λ (b : List ℕ). HasEntries sizes (b_of c.args.head.now.catalogue.lanes) two.0 b) (only_reads_same effect honest) (two.2 (effect.effect.goes_on.is_honest ∙ honest));
    }

pub returns-clause-faults : goal.returns-clause-faults
returns-clause-faults g c = faults_none _ (calm c.in_ok-end_b.end_b c.in_ok-end_b.ensures.faults ∙ calm c.in_ok-end_a.end_a c.in_ok-end_a.ensures.faults)

pub returns-clause-effect : goal.returns-clause-effect
returns-clause-effect g c =
    only_reads_run (g.met.D.Disk.timed c.replay_lane.new.disk) (calm c.in_ok-end_a.end_a c.in_ok-end_a.ensures.faults) c.replay_lane.ensures.effect c.replay_lane-2.ensures.effect

pub returns-clause-calls : goal.returns-clause-calls
returns-clause-calls g c = omega (arith, c.in_ok-end_a.ensures.calls, c.in_ok-end_b.ensures.calls)
