use Rattle.std.proofs.Common.{◌∙◌, ◌+◌, ◌<◌, ◌≤◌, ℕ, Err, IsTrue, refl, sym, subst, inl, inr, arith}
use Rattle.merge_ends.specs.Merge.{MergeState, group_calls, progress, quantum_calls}
use Rattle.merge_ends.specs.Quantum.{HasTaken}
use Rattle.merge_ends.specs.Progress.{MergesOn, TakesQuantum, stage}
use Rattle.merge_ends.proofs.MergeLemmas.{none_above}
use Rattle.merge_ends.proofs.NewerLemmas.{same_group, spent_all, spent_more}
use Rattle.merge_ends.proofs.QuantumLemmas.{some_weight, no_weight}
use Rattle.merge_ends.proofs.ProgressLemmas.{merged_start, merged_ok, merged_more, merged_failed, merged_none, lists_more, ok_not_fault, err_not_ok}
use Rattle.merge_ends.proofs.merge.Merge.quantum.Goals as goal

pub loop-taken-init : goal.loop-taken-init
loop-taken-init g c = record {
  quantum = c.quantum-quantum.ensures.value;
  same_kind = refl;
  same_table = refl;
  covers = λ total covers. (covers, λ key is. is);
  calls = omega arith;
  numbers =
      merged_start c.args.geo.now (quantum_calls (g.N.Newer.run c.args.newer.now) c.args.geo.now.quantum) (stage (progress c.args.self.now (g.N.Newer.run c.args.newer.now) (g.N.Newer.table c.args.newer.now)) c.args.space.now c.args.filter.now c.args.fences.now (g.D.Disk.state c.args.disk.now)) (g.met.D.Disk.timed c.args.disk.now)
      c.requires.pages c.requires.length c.requires.runs;
  lists = λ overs unders over under honest merging. (merging, record { taken_is = omega arith; last = inl refl });
}

-- ---- after a step

pub returns-in-Err-clause-numbers : goal.returns-in-Err-clause-numbers
returns-in-Err-clause-numbers g c =
    let inv = c.loop-taken.invariant in
    let on = c.in-Err.ensures.numbers in
    let input = g.N.Newer.run c.args.newer.now in
    let least = c.args.geo.now.quantum in
    let more : (g.D.Disk.state c.step.new.disk).clock ≤ (g.D.Disk.state c.loop-taken.disk).clock + group_calls input = omega (arith, on.works.effect.calls, same_group input (g.N.Newer.run c.loop-taken.newer) inv.same_kind) in
    let few = spent_all input c.loop-taken.taken least (g.D.Disk.state c.args.disk.now).clock (g.D.Disk.state c.loop-taken.disk).clock (g.D.Disk.state c.step.new.disk).clock (omega (arith, inv.quantum)) inv.calls more in
    subst (λ (s : MergeState). MergesOn c.args.geo.now (quantum_calls input least) (TakesQuantum least) (stage (progress c.args.self.now input (g.N.Newer.table c.args.newer.now)) c.args.space.now c.args.filter.now c.args.fences.now (g.D.Disk.state c.args.disk.now)) (stage (progress (record s { at = c.cursor-at.result; closed = c.closed-closed.result; left = c.left-left.result; rest = record { here = s.rest.here; behind = c.self.inside.behind } }) (g.N.Newer.run c.step.new.newer) (g.N.Newer.table c.step.new.newer)) c.step.new.space c.step.new.filter c.step.new.fences (g.D.Disk.state c.step.new.disk)) (Err c.in-Err.broken))
    (sym c.self-in-loop-taken.view_is) (merged_failed inv.numbers (g.met.D.Disk.timed c.loop-taken.disk) few _ _ _ on)

pub returns-in-Err-clause-lists : goal.returns-in-Err-clause-lists
returns-in-Err-clause-lists g c = λ overs unders over under honest merging other.
    let inv = c.loop-taken.invariant in
    let went = c.in-Err.ensures.lists overs unders over under (subst IsTrue (sym inv.numbers.works.effect.goes_on.is_honest) honest) (inv.lists overs unders over under honest merging).0 other in
    absurd (err_not_ok c.in-Err.broken went.0 went.1)

pub returns-then-weight-eq0-clause-numbers : goal.returns-then-weight-eq0-clause-numbers
returns-then-weight-eq0-clause-numbers g c =
    let inv = c.loop-taken.invariant in
    let on = c.in-Ok.ensures.numbers in
    let input = g.N.Newer.run c.args.newer.now in
    let more : (g.D.Disk.state c.step.new.disk).clock ≤ (g.D.Disk.state c.loop-taken.disk).clock + group_calls input = omega (arith, on.works.effect.calls, same_group input (g.N.Newer.run c.loop-taken.newer) inv.same_kind) in
    let few = spent_all input c.loop-taken.taken c.args.geo.now.quantum (g.D.Disk.state c.args.disk.now).clock (g.D.Disk.state c.loop-taken.disk).clock (g.D.Disk.state c.step.new.disk).clock (omega (arith, inv.quantum)) inv.calls more in
    merged_none inv.numbers (g.met.D.Disk.timed c.loop-taken.disk) few (omega (arith, inv.quantum)) c.if-weight-eq0.true on

pub returns-then-weight-eq0-clause-lists : goal.returns-then-weight-eq0-clause-lists
returns-then-weight-eq0-clause-lists g c = λ overs unders over under honest merging other.
    let inv = c.loop-taken.invariant in
    let least = c.args.geo.now.quantum in
    let was = inv.lists overs unders over under honest merging in
    let went_on = c.in-Ok.ensures.lists overs unders over under (subst IsTrue (sym inv.numbers.works.effect.goes_on.is_honest) honest) was.0 (ok_not_fault c.in-Ok.weight) in
    let went = lists_more least c.args.self.now.at c.loop-taken.self.at c.step.new.self.at over under c.loop-taken.taken c.in-Ok.weight (omega (arith, inv.quantum)) went_on.3 was.0.older_is.sorted was.1
    (went_on.0, went_on.1, went_on.2, went_on.4) in (
      c.loop-taken.taken,
      refl,
      went.0,
      record {
        has_taken = subst (λ (n : ℕ). HasTaken least c.args.self.now.at c.step.new.self.at over under n) (omega (arith, c.if-weight-eq0.true)) went.1;
        enough = inr (none_above c.step.new.self over under (no_weight c.in-Ok.weight c.in-Ok.ensures.numbers.takes.some c.if-weight-eq0.true) went.0);
      },
    )

pub loop-taken-preserved : goal.loop-taken-preserved
loop-taken-preserved g c =
    let inv = c.loop-taken.invariant in
    let on = c.in-Ok.ensures.numbers in
    let input = g.N.Newer.run c.args.newer.now in
    let few : c.loop-taken.taken < c.args.geo.now.quantum = omega (arith, inv.quantum) in
    let more : (g.D.Disk.state c.step.new.disk).clock ≤ (g.D.Disk.state c.loop-taken.disk).clock + group_calls input = omega (arith, on.works.effect.calls, same_group input (g.N.Newer.run c.loop-taken.newer) inv.same_kind) in
    record {
      quantum = inv.quantum;
      same_kind = c.step.ensures.same_kind ∙ inv.same_kind;
      same_table = c.step.ensures.same_table ∙ inv.same_table;
      covers = λ total covers.
          let was = inv.covers total covers in
          let now = c.in-Ok.ensures.covers total was.0 in
          (now.0, λ key is. was.1 key (now.1 key is));
      calls = spent_more input c.loop-taken.taken c.in-Ok.weight (g.D.Disk.state c.args.disk.now).clock (g.D.Disk.state c.loop-taken.disk).clock (g.D.Disk.state c.step.new.disk).clock (some_weight c.in-Ok.weight on.takes.some c.if-weight-eq0.false) inv.calls more;
      numbers = merged_more inv.numbers (g.met.D.Disk.timed c.loop-taken.disk) (spent_all input c.loop-taken.taken c.args.geo.now.quantum (g.D.Disk.state c.args.disk.now).clock (g.D.Disk.state c.loop-taken.disk).clock (g.D.Disk.state c.step.new.disk).clock few inv.calls more) few on;
      lists = λ overs unders over under honest merging.
          let was = inv.lists overs unders over under honest merging in
          let went_on = c.in-Ok.ensures.lists overs unders over under (subst IsTrue (sym inv.numbers.works.effect.goes_on.is_honest) honest) was.0 (ok_not_fault c.in-Ok.weight) in
          lists_more c.args.geo.now.quantum c.args.self.now.at c.loop-taken.self.at c.step.new.self.at over under c.loop-taken.taken c.in-Ok.weight few went_on.3 was.0.older_is.sorted was.1
          (went_on.0, went_on.1, went_on.2, went_on.4);
    }

-- ---- enough is taken

pub returns-clause-numbers : goal.returns-clause-numbers
returns-clause-numbers g c = merged_ok c.loop-taken.invariant.numbers (inl (omega (arith, c.loop-taken.invariant.quantum)))

pub returns-clause-lists : goal.returns-clause-lists
returns-clause-lists g c = λ overs unders over under honest merging other.
    let was = c.loop-taken.invariant.lists overs unders over under honest merging in
    (c.loop-taken.taken, refl, was.0, record { has_taken = was.1; enough = inl (omega (arith, c.loop-taken.invariant.quantum)) })

pub returns-then-weight-eq0-clause-covers : goal.returns-then-weight-eq0-clause-covers
returns-then-weight-eq0-clause-covers g c = λ total covers.
    let was = c.loop-taken.invariant.covers total covers in
    let now = c.in-Ok.ensures.covers total was.0 in
    (now.0, λ key is. was.1 key (now.1 key is))
