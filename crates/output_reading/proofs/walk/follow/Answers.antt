use Rattle.std.specs.Prelude.{IfErr}
use Rattle.std.proofs.Common.{◌∙◌, ◌≡◌, ◌+◌, ◌<◌, length, ℕ, IsTrue, true, List, Option, Result, Some, None, Err, ap, refl, sym, subst, arith}
use Rattle.disk_trait.proofs.ReadLemmas.{only_reads_start}
use Rattle.record_delta.specs.Entries.{Entries}
use Rattle.blsm_model.specs.declared.key.Key.{Key}
use Rattle.page_file.specs.declared.file.Broken.{Broken}
use Rattle.merge_ends.specs.Output.{IsUpTo}
use Rattle.tree_file.specs.Output.{settled_up_to, weight_up_to}
use Rattle.blsm_model.specs.declared.component.Component.{Component}
use Rattle.record_delta.specs.Entries.{is_above}
use Rattle.tree_runs.specs.Runs.{guide_at}
use Rattle.output_reading.specs.declared.inputs.Inputs.{Inputs}
use Rattle.output_reading.specs.Noted.{HasNoted, MayNote}
use Rattle.output_reading.specs.Walk.{AreInputs, HasMet, TellsStop, left_of, pages_ahead, unbounded}
use Rattle.output_reading.proofs.CallsLemmas.{damage_is_calm, handed_on, ok_is_calm, reads_after, reads_calm, reads_handed, still}
use Rattle.output_reading.proofs.InputsLemmas.{above_group, none_taken, none_weighs, taken_of, up_none}
use Rattle.output_reading.proofs.NumberLemmas.{passed_none, passed_then}
use Rattle.output_reading.proofs.FoldLemmas.{front_up_to, group_settled, up_to_rises, weight_taken}
use Rattle.output_reading.proofs.FollowLemmas.{ended_none, ended_past, goes_further, some_taken, tells_fault, up_next, weighs_more}
use Rattle.output_reading.proofs.NotedLemmas.{fence_room, rooms_none, rooms_then}
use Rattle.output_reading.proofs.walk.follow.Goals as goal
use Rattle.output_reading.proofs.walk.follow.Goals.{In_ok-next}

pub loop-next-init : goal.loop-next-init
loop-next-init g c = record {
  behind = c.requires.behind;
  up = up_none c.args.inputs.now.at (Some c.args.key.now) c.requires.none;
  z_is = omega arith;
  passed = passed_none c.args.output.now.cursor;
  claims = λ all first claimed. claimed;
  same_pages = refl;
  left = c.requires.left;
  full = λ run full. full;
  effect = only_reads_start (g.D.Disk.state c.args.disk.now) (g.met.D.Disk.timed c.args.disk.now);
  stands = refl;
  once = omega arith;
  none = λ _. refl;
  rooms = rooms_none c.args.role c.args.guides.now;
  size = λ below. refl;
  noted = λ run may noted. subst (λ (k : Option Key). HasNoted c.args.geo.now (g.D.Disk.state c.args.disk.now).is_honest
      (g.D.Disk.state c.args.disk.now).bytes run c.args.role c.args.output.now c.args.space.now (guide_at c.args.guides.now c.args.role) k)
      (sym c.requires.none) noted;
  met = λ run earlier first newer_pages older_pages newer older honest inputs met. (
    inputs,
    subst (λ (l : Entries). HasMet c.args.geo.now run earlier c.args.role first c.args.output.now c.args.space.now l
        (g.D.Disk.state c.args.disk.now).bytes)
        (sym (none_taken c.args.inputs.now.at newer older c.requires.none)) met,
    sym (none_weighs c.args.inputs.now.at newer older c.requires.none),
  );
}

pub returns-in_err-next-clause-reads : goal.returns-in_err-next-clause-reads
returns-in_err-next-clause-reads g c =
    let inv = c.loop-next.invariant in
    reads_handed (handed_on c.from_residual.ensures.1) c.in_err-next.was
    (reads_after (g.met.D.Disk.timed c.loop-next.disk) inv.stands inv.effect c.next_group.ensures.reads
    (omega (arith, inv.once, inv.left, c.next_group.ensures.calls)))

pub returns-in_default-clause-reads : goal.returns-in_default-clause-reads
returns-in_default-clause-reads g c =
    let inv = c.loop-next.invariant in
    reads_calm (ok_is_calm refl) (ok_is_calm c.in_ok-next.was)
    (reads_after (g.met.D.Disk.timed c.loop-next.disk) inv.stands inv.effect c.next_group.ensures.reads
    (omega (arith, inv.once, inv.left, c.next_group.ensures.calls)))

pub returns-then-lt-clause-reads : goal.returns-then-lt-clause-reads
returns-then-lt-clause-reads g c =
    let inv = c.loop-next.invariant in
    reads_calm (ok_is_calm refl) (ok_is_calm c.in_ok-next.was)
    (reads_after (g.met.D.Disk.timed c.loop-next.disk) inv.stands inv.effect c.next_group.ensures.reads
    (omega (arith, inv.once, inv.left, c.next_group.ensures.calls)))

-- the inputs behind which the next group was found
here : (g : _) (c : In_ok-next g) (newer_pages older_pages : List ℕ) (newer older : Entries) → IsTrue (g.D.Disk.state c.args.disk.now).is_honest →
    AreInputs c.args.geo.now c.loop-next.inputs newer_pages older_pages newer older (g.D.Disk.state c.args.disk.now).bytes
    → AreInputs c.args.geo.now c.next_group.new.self newer_pages older_pages newer older (g.D.Disk.state c.args.disk.now).bytes
here g c newer_pages older_pages newer older honest is =
    let same = still c.loop-next.invariant.effect honest in
    subst (λ (b : List ℕ). AreInputs c.args.geo.now c.next_group.new.self newer_pages older_pages newer older b) same.1
    (c.in_ok-next.ensures.inputs newer_pages older_pages newer older same.0
    (subst (λ (b : List ℕ). AreInputs c.args.geo.now c.loop-next.inputs newer_pages older_pages newer older b) (sym same.1) is)
    (ok_is_calm refl)).0

up_here : (g : _) (c : In_ok-next g) → IsUpTo c.next_group.new.self.at (Some c.args.key.now)
up_here g c = subst (λ (k : Option Key). IsUpTo k (Some c.args.key.now)) (sym c.next_group.ensures.at) c.loop-next.invariant.up

pub returns-in_err-next-clause-stops : goal.returns-in_err-next-clause-stops
returns-in_err-next-clause-stops g c = λ run earlier first newer_pages older_pages newer older honest some small inputs met.
    let file = (g.D.Disk.state c.args.disk.now).bytes in
    let inv = c.loop-next.invariant in
    let same = still inv.effect honest in
    let now = inv.met run earlier first newer_pages older_pages newer older honest inputs met in
    let before = subst (λ (b : List ℕ). AreInputs c.args.geo.now c.loop-next.inputs newer_pages older_pages newer older b) (sym same.1) now.0 in
    subst (λ (r : Result ℕ Broken). IfErr r (λ broken. TellsStop c.args.geo.now run (settled_up_to (Some c.args.key.now) newer older) earlier file
    broken)) (sym (handed_on c.from_residual.ensures.1))
    (tells_fault c.args.geo.now run (settled_up_to (Some c.args.key.now) newer older) earlier file c.in_err-next.field-0.0 (λ n is.
    (c.next_group.ensures.inputs newer_pages older_pages newer older same.0 before (damage_is_calm (c.in_err-next.was ∙ ap Err is))).1 n
    (c.in_err-next.was ∙ ap Err is)))

pub returns-in_default-clause-met : goal.returns-in_default-clause-met
returns-in_default-clause-met g c = λ run earlier first newer_pages older_pages newer older honest inputs met.
    let file = (g.D.Disk.state c.args.disk.now).bytes in
    let now = c.loop-next.invariant.met run earlier first newer_pages older_pages newer older honest inputs met in
    let on = here g (goal.at.returns-in_default-clause-met g c).In_ok-next newer_pages older_pages newer older honest now.0 in
    let ended = ended_none c.args.key.now on c.in_ok-next.ensures.ready.0 (up_here g (goal.at.returns-in_default-clause-met g c).In_ok-next)
    (sym c.in_default.is ∙ c.in_ok-next.ensures.group) in
    let at = c.next_group.ensures.at in (
      on,
      subst (λ (l : Entries). HasMet c.args.geo.now run earlier c.args.role first c.loop-next.output c.loop-next.space l file)
          (ap (λ (k : Option Key). settled_up_to k newer older) (sym at) ∙ ended.fold_is) now.1,
      ended.fold_is,
      now.2 ∙ ap (λ (k : Option Key). weight_up_to k newer older) (sym at) ∙ ended.weighs,
    )

pub returns-then-lt-clause-met : goal.returns-then-lt-clause-met
returns-then-lt-clause-met g c = λ run earlier first newer_pages older_pages newer older honest inputs met.
    let file = (g.D.Disk.state c.args.disk.now).bytes in
    let now = c.loop-next.invariant.met run earlier first newer_pages older_pages newer older honest inputs met in
    let arm = (goal.at.returns-then-lt-clause-met g c).In_ok-next in
    let on = here g arm newer_pages older_pages newer older honest now.0 in
    let ended = ended_past c.args.key.now _ _ _ on c.in_ok-next.ensures.ready.0 (up_here g arm) (sym c.lt.ensures ∙ c.if-lt.true)
    (sym c.in-Some.is ∙ c.in_ok-next.ensures.group) in
    let at = c.next_group.ensures.at in (
      on,
      subst (λ (l : Entries). HasMet c.args.geo.now run earlier c.args.role first c.loop-next.output c.loop-next.space l file)
          (ap (λ (k : Option Key). settled_up_to k newer older) (sym at) ∙ ended.fold_is) now.1,
      ended.fold_is,
      now.2 ∙ ap (λ (k : Option Key). weight_up_to k newer older) (sym at) ∙ ended.weighs,
    )

pub returns-in_err-meet-clause-stops : goal.returns-in_err-meet-clause-stops
returns-in_err-meet-clause-stops g c = λ run earlier first newer_pages older_pages newer older honest some small inputs met.
    let file = (g.D.Disk.state c.args.disk.now).bytes in
    let key = c.args.key.now in
    let inv = c.loop-next.invariant in
    let now = inv.met run earlier first newer_pages older_pages newer older honest inputs met in
    let on = here g (goal.at.returns-in_err-meet-clause-stops g c).In_ok-next newer_pages older_pages newer older honest now.0 in
    let same = still inv.effect honest in
    let then = still c.next_group.ensures.reads.effect same.0 in
    let behind = sym c.lt.ensures ∙ c.if-lt.false in
    let t = taken_of _ _ _ on c.in_ok-next.ensures.ready.0 (sym c.in_ok-next.ensures.group ∙ c.in-Some.is) in
    let front = goes_further key t behind (front_up_to (Some c.in-Some.next) (Some key) newer older on.older_is.sorted
    (up_next key c.in-Some.next behind)) in
    let has = subst (λ (l : Entries). HasMet c.args.geo.now run earlier c.args.role first c.loop-next.output c.loop-next.space l file)
    (ap (λ (k : Option Key). settled_up_to k newer older) (sym c.next_group.ensures.at)) now.1 in
    let entries = settled_up_to (Some key) newer older in
    let stops = c.in_err-meet.ensures.stops run earlier first (settled_up_to c.next_group.new.self.at newer older) entries then.0 some small
    (up_to_rises (Some key) newer older on.older_is.sorted)
    (subst (λ (b : List ℕ). HasMet c.args.geo.now run earlier c.args.role first c.loop-next.output c.loop-next.space
    (settled_up_to c.next_group.new.self.at newer older) b) (sym (then.1 ∙ same.1)) has) front in
    subst (λ (r : Result ℕ Broken). IfErr r (λ broken. TellsStop c.args.geo.now run entries earlier file broken))
    (sym (handed_on c.from_residual-in_err-meet.ensures.1))
    (subst (λ (b : List ℕ). TellsStop c.args.geo.now run entries earlier b c.in_err-meet.field-0.0) (then.1 ∙ same.1) stops)

pub returns-in_err-meet-clause-reads : goal.returns-in_err-meet-clause-reads
returns-in_err-meet-clause-reads g c =
    let inv = c.loop-next.invariant in
    let first = reads_after {total = pages_ahead c.args.inputs.now + c.args.output.now.cursor.pages} (g.met.D.Disk.timed c.loop-next.disk) inv.stands
    inv.effect c.next_group.ensures.reads (omega (arith, inv.once, inv.left, c.next_group.ensures.calls)) in
    reads_handed (handed_on c.from_residual-in_err-meet.ensures.1) c.in_err-meet.was
    (reads_after (g.met.D.Disk.timed c.next_group.new.disk) (first.stands (ok_is_calm c.in_ok-next.was)) first.effect c.meet.ensures.reads
    (omega (arith, inv.once, c.in_ok-next.ensures.once, c.meet.ensures.calls, c.meet.ensures.left)))

-- ---- what is noted

noted_here : (g : _) (c : In_ok-next g) (run : Component) → MayNote run c.args.role c.args.output.now c.args.guides.now (left_of c.args.inputs.now)
    → HasNoted c.args.geo.now (g.D.Disk.state c.args.disk.now).is_honest (g.D.Disk.state c.args.disk.now).bytes run c.args.role c.args.output.now
    c.args.space.now
    (guide_at c.args.guides.now c.args.role) None
    → HasNoted c.args.geo.now (g.D.Disk.state c.args.disk.now).is_honest (g.D.Disk.state c.args.disk.now).bytes run c.args.role c.loop-next.output
    c.loop-next.space
    (guide_at c.loop-next.guides c.args.role) c.next_group.new.self.at
noted_here g c run may was =
    subst (λ (k : Option Key). HasNoted c.args.geo.now (g.D.Disk.state c.args.disk.now).is_honest (g.D.Disk.state c.args.disk.now).bytes run
    c.args.role c.loop-next.output
    c.loop-next.space (guide_at c.loop-next.guides c.args.role) k) (sym c.next_group.ensures.at) (c.loop-next.invariant.noted run may was)

pub returns-in_default-clause-noted : goal.returns-in_default-clause-noted
returns-in_default-clause-noted g c = λ run may was. noted_here g (goal.at.returns-in_default-clause-noted g c).In_ok-next run may was

pub returns-then-lt-clause-noted : goal.returns-then-lt-clause-noted
returns-then-lt-clause-noted g c = λ run may was. noted_here g (goal.at.returns-then-lt-clause-noted g c).In_ok-next run may was

pub returns-in_default-clause-none : goal.returns-in_default-clause-none
returns-in_default-clause-none g c = λ is. c.loop-next.invariant.none (sym c.next_group.ensures.at ∙ is)

pub returns-then-lt-clause-none : goal.returns-then-lt-clause-none
returns-then-lt-clause-none g c = λ is. c.loop-next.invariant.none (sym c.next_group.ensures.at ∙ is)

pub returns-in_err-meet-clause-rooms : goal.returns-in_err-meet-clause-rooms
returns-in_err-meet-clause-rooms g c = rooms_then c.loop-next.invariant.rooms c.meet.ensures.rooms

-- ---- one group further

pub loop-next-preserved : goal.loop-next-preserved
loop-next-preserved g c =
    let file = (g.D.Disk.state c.args.disk.now).bytes in
    let key = c.args.key.now in
    let next = c.in-Some.next in
    let inv = c.loop-next.invariant in
    let arm = (goal.at.loop-next-preserved g c).In_ok-next in
    let ready = c.in_ok-next.ensures.ready in
    let group = sym c.in_ok-next.ensures.group ∙ c.in-Some.is in
    let first = reads_after {total = pages_ahead c.args.inputs.now + c.args.output.now.cursor.pages} (g.met.D.Disk.timed c.loop-next.disk) inv.stands
    inv.effect
    c.next_group.ensures.reads (omega (arith, inv.once, inv.left, c.next_group.ensures.calls)) in
    let second = reads_after {total = pages_ahead c.args.inputs.now + c.args.output.now.cursor.pages} (g.met.D.Disk.timed c.next_group.new.disk)
    (first.stands (ok_is_calm c.in_ok-next.was)) first.effect c.meet.ensures.reads
    (omega (arith, inv.once, c.in_ok-next.ensures.once, c.meet.ensures.calls, c.meet.ensures.left)) in
    let left = c.take.ensures.left _ _ group in
    let at_is : c.take.new.self.at ≡ Some next = ap (λ (s : Inputs). s.at) c.take.ensures.taken in
    let behind = sym c.lt.ensures ∙ c.if-lt.false in
    let weighs = weighs_more _ _ _ _ c.in_ok-next.ensures.light c.in-Some.is in
    record {
      behind = c.take.ensures.behind;
      up = subst (λ (k : Option Key). IsUpTo k (Some key)) (sym at_is) (up_next key next behind);
      z_is = omega (arith, inv.z_is, left, ready.1);
      passed = passed_then inv.passed c.in_ok-meet.ensures.passed (omega (arith, weighs));
      claims = λ all before claimed. c.in_ok-meet.ensures.claims all before (inv.claims all before claimed);
      same_pages = c.meet.ensures.same_pages ∙ inv.same_pages;
      left = c.meet.ensures.left;
      full = λ run full. c.in_ok-meet.ensures.full run (inv.full run full);
      effect = second.effect;
      stands = second.stands (ok_is_calm c.in_ok-meet.was);
      once = omega (arith, inv.once, c.in_ok-next.ensures.once, c.in_ok-meet.ensures.once, ap (λ (s : Inputs). pages_ahead s) c.take.ensures.taken);
      none = λ nothing. absurd (some_taken next (sym nothing ∙ at_is));
      rooms = rooms_then inv.rooms c.meet.ensures.rooms;
      size = λ below. c.in_ok-meet.ensures.size (omega (arith, below, inv.rooms.many)) ∙ inv.size below;
      noted = λ run may was.
          let now = inv.noted run may was in
          let higher = subst (λ (k : Option Key). is_above k next ≡ true) c.next_group.ensures.at
          (above_group c.next_group.new.self next _ _ ready.0 group) in
          let room = fence_room run c.args.role (left_of c.args.inputs.now) c.loop-next.z (left_of c.loop-next.inputs) c.args.output.now
          c.loop-next.output c.args.guides.now
          c.loop-next.guides may inv.rooms (inv.full (unbounded run) may.full) inv.passed inv.z_is inv.left now in
          let below : c.args.role < length c.loop-next.guides = omega (arith, may.below, inv.rooms.many) in
          let more = c.in_ok-meet.ensures.noted run c.loop-next.inputs.at (g.D.Disk.state c.args.disk.now).is_honest file below (λ told.
          let same = still inv.effect told in
          let then = still c.next_group.ensures.reads.effect same.0 in
          (then.0, then.1 ∙ same.1)) higher now room in
          subst (λ (k : Option Key). HasNoted c.args.geo.now (g.D.Disk.state c.args.disk.now).is_honest file run c.args.role c.meet.new.self
          c.meet.new.space
          (guide_at c.meet.new.guides c.args.role) k) (sym at_is) more;
      met = λ run earlier first newer_pages older_pages newer older honest inputs met.
          let now = inv.met run earlier first newer_pages older_pages newer older honest inputs met in
          let on = here g arm newer_pages older_pages newer older honest now.0 in
          let same = still inv.effect honest in
          let then = still c.next_group.ensures.reads.effect same.0 in
          let taken = c.take.ensures.inputs c.args.geo.now newer_pages older_pages newer older file _ _ on group in
          let at = c.next_group.new.self.at in
          let up_to = settled_up_to at newer older in
          let has = subst (λ (l : Entries). HasMet c.args.geo.now run earlier c.args.role first c.loop-next.output c.loop-next.space l file)
          (ap (λ (k : Option Key). settled_up_to k newer older) (sym c.next_group.ensures.at)) now.1 in
          let more = c.in_ok-meet.ensures.met run earlier first up_to then.0
          (subst (λ (b : List ℕ). HasMet c.args.geo.now run earlier c.args.role first c.loop-next.output c.loop-next.space up_to b)
          (sym (then.1 ∙ same.1)) has) in
          let all = sym (group_settled taken.1) ∙ ap (λ (k : Option Key). settled_up_to k newer older) (sym at_is) in (
            taken.0,
            subst (λ (b : List ℕ). HasMet c.args.geo.now run earlier c.args.role first c.meet.new.self c.meet.new.space
                (settled_up_to c.take.new.self.at newer older) b)
                (then.1 ∙ same.1)
                (subst (λ (l : Entries). HasMet c.args.geo.now run earlier c.args.role first c.meet.new.self c.meet.new.space l
                (g.D.Disk.state c.next_group.new.disk).bytes)
                all more),
            omega (
              arith,
              now.2,
              ap (λ (k : Option Key). weight_up_to k newer older) c.next_group.ensures.at,
              ap (λ (k : Option Key). weight_up_to k newer older) at_is,
              weight_taken taken.1,
            ),
          );
    }
