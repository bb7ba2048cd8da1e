use Rattle.std.specs.Prelude.{is_ok, [], ◌∷◌, IsTrue}
use Rattle.std.proofs.Common.{◌≡◌, ◌∙◌, inl, inr, ℕ, ◌+◌, ◌*◌, true, false, ap, sym, subst, arith}
use Rattle.refusal.specs.Count.{HasRisen}
use Rattle.blsm_model.specs.Histories.{writes_of}
use Rattle.blsm_model.specs.Legal.{total_weight}
use Rattle.gear_sched.specs.Gears.{first_debt, second_debt}
use Rattle.disk_trait.proofs.EffectLemmas.{affects_wider}
use Rattle.record_delta.specs.Entries.{Entries, entries_weight}
use Rattle.record_delta.specs.Several.{entries_of}
use Rattle.pacing.specs.Steps.{deep_settled}
use Rattle.tree_file.specs.Tree.{Tree}
use Rattle.tree_log.specs.Log.{IsLogOf, appended}
use Rattle.tree_runs.specs.Holding.{StandOver}
use Rattle.core_moves.specs.declared.held.Held.{Held}
use Rattle.core_moves.specs.Held.{IsPassDone, IsOne, goes_ahead}
use Rattle.core_moves.specs.Moves.{SettlesDeep, WritesIn, begun_in}
use Rattle.core_pace.specs.Events.{MayWrite}
use Rattle.core_pace.proofs.NeedLemmas.{way_is_free}
use Rattle.core_pace.proofs.EventLemmas.{settled_between, moves_are_told}
use Rattle.core_pace.proofs.CallLemmas.{paced_is_between, between_is_ready, settled_is_not_done, admission_fits}
use Rattle.tree_core.specs.Causes.{calls_to_admit, is_pass_due, one_where, swaps_due_in}
use Rattle.tree_core.proofs.BegunLemmas.{deep_counts}
use Rattle.tree_core.proofs.ClockLemmas.{ends_behind}
use Rattle.tree_core.proofs.KeepLemmas.{begin_keeps_pins, deep_keeps_pins, pass_keeps_pins, same_pins, then_pins}
use Rattle.tree_core.proofs.TakingLemmas.{ok_of, err_of, calm_of, risen_of, are_some, begun_on, fits_as, affects_then, spelled, weighs, writes_written}
use Rattle.tree_core.proofs.TakingLists.{Begins, MayTake, settled_by, begun_by, Appends, deep_whole, lost_deep, pass_whole, lost_pass, done_leaves, doubt_leaves, writes_over}
use Rattle.tree_core.proofs.admission.take.Goals as goal

-- ---- the deep merge's swap

pub settle_deep-requires : goal.settle_deep-requires
settle_deep-requires g c =
    let live = c.requires.runs.live in
    record { ready = between_is_ready c.args.held.now c.requires.runs.pace (g.D.Disk.state c.args.disk.now) (paced_is_between c.args.held.now c.requires.runs.pace live.paced) live.on }

pub returns-then-is_err-clause-takes : goal.returns-then-is_err-clause-takes
returns-then-is_err-clause-takes g c = inl (err_of c.settle_deep.result (sym c.is_err.ensures.value ∙ c.if-is_err.true) c.settle_deep.ensures.kept, c.settle_deep.ensures.due (sym c.is_err.ensures.value ∙ c.if-is_err.true))

pub returns-then-is_err-clause-lists : goal.returns-then-is_err-clause-lists
returns-then-is_err-clause-lists g c = λ opening m honest stands runs may fits met.
    let old = c.args.held.now in
    let left = c.settle_deep.new.held in
    let before = g.D.Disk.state c.args.disk.now in
    let after = g.D.Disk.state c.settle_deep.new.disk in
    let failed = sym c.is_err.ensures.value ∙ c.if-is_err.true in
    let begins : Begins opening old m before = record { honest = honest; stands = stands; runs = runs; numbers = c.requires.runs.pace; paced = c.requires.runs.live.paced } in
    let whole = deep_whole opening old m before begins left (is_ok c.settle_deep.result) after (inl (c.settle_deep.ensures.due failed)) c.settle_deep.ensures.lists in
    (lost_deep opening old m before begins left (err_of c.settle_deep.result failed c.settle_deep.ensures.kept) (c.settle_deep.ensures.due failed) (is_ok c.settle_deep.result) after c.settle_deep.ensures.lists, whole.0, whole.1)

pub returns-then-is_err-clause-effect : goal.returns-then-is_err-clause-effect
returns-then-is_err-clause-effect g c = affects_wider (λ i here. here) (omega arith) (omega arith) c.settle_deep.ensures.effect

pub returns-then-is_err-clause-faults : goal.returns-then-is_err-clause-faults
returns-then-is_err-clause-faults g c =
    risen_of c.settle_deep.result (g.D.Disk.state c.args.disk.now) (g.D.Disk.state c.settle_deep.new.disk) (sym c.is_err.ensures.value ∙ c.if-is_err.true) c.settle_deep.ensures.faults

-- ---- the pass's swap

pub settle_pass-requires-clause-way : goal.settle_pass-requires-clause-way
settle_pass-requires-clause-way g c =
    let deep = ok_of c.settle_deep.result (sym c.is_err.ensures.value ∙ c.if-is_err.false) c.settle_deep.ensures.settles in
    let between = settled_between c.args.held.now c.settle_deep.new.held c.requires.runs.pace c.requires.runs.live.paced deep in
    way_is_free c.settle_deep.new.held (deep_settled c.requires.runs.pace) between.numbers between.one between.told.paced (settled_is_not_done c.args.held.now c.settle_deep.new.held deep)

pub settle_pass-requires-clause-ready : goal.settle_pass-requires-clause-ready
settle_pass-requires-clause-ready g c =
    let ok = sym c.is_err.ensures.value ∙ c.if-is_err.false in
    let deep = ok_of c.settle_deep.result ok c.settle_deep.ensures.settles in
    between_is_ready c.settle_deep.new.held (deep_settled c.requires.runs.pace) (g.D.Disk.state c.settle_deep.new.disk)
    (settled_between c.args.held.now c.settle_deep.new.held c.requires.runs.pace c.requires.runs.live.paced deep) (ok_of c.settle_deep.result ok c.settle_deep.ensures.on)

pub returns-then-is_err-2-clause-takes : goal.returns-then-is_err-2-clause-takes
returns-then-is_err-2-clause-takes g c =
    let failed = sym c.is_err-2.ensures.value ∙ c.if-is_err-2.true in
    let same = err_of c.settle_pass.result failed c.settle_pass.ensures.kept in
    inr (
      subst (λ (h : Held). SettlesDeep c.args.held.now h) (sym same) (ok_of c.settle_deep.result (sym c.is_err.ensures.value ∙ c.if-is_err.false) c.settle_deep.ensures.settles),
      subst (λ (h : Held). IsPassDone h) (sym same) (c.settle_pass.ensures.due failed),
    )

pub returns-then-is_err-2-clause-lists : goal.returns-then-is_err-2-clause-lists
returns-then-is_err-2-clause-lists g c = λ opening m honest stands runs may fits met.
    let ok = sym c.is_err.ensures.value ∙ c.if-is_err.false in
    let failed = sym c.is_err-2.ensures.value ∙ c.if-is_err-2.true in
    let old = c.args.held.now in
    let settled = c.settle_deep.new.held in
    let left = c.settle_pass.new.held in
    let before = g.D.Disk.state c.args.disk.now in
    let mid = g.D.Disk.state c.settle_deep.new.disk in
    let after = g.D.Disk.state c.settle_pass.new.disk in
    let begins : Begins opening old m before = record { honest = honest; stands = stands; runs = runs; numbers = c.requires.runs.pace; paced = c.requires.runs.live.paced } in
    let has = settled_by c.settle_deep.result old settled before mid ok c.settle_deep.ensures.settles c.settle_deep.ensures.lists c.settle_deep.ensures.effect.goes_on.is_honest in
    let whole = pass_whole opening old m before begins settled mid has left (is_ok c.settle_pass.result) after (inl (c.settle_pass.ensures.due failed)) c.settle_pass.ensures.lists in
    (lost_pass opening old m before begins settled mid has left (err_of c.settle_pass.result failed c.settle_pass.ensures.kept) (c.settle_pass.ensures.due failed) (is_ok c.settle_pass.result) after c.settle_pass.ensures.lists, whole.0, whole.1)

pub returns-then-is_err-2-clause-effect : goal.returns-then-is_err-2-clause-effect
returns-then-is_err-2-clause-effect g c =
    let ok = sym c.is_err.ensures.value ∙ c.if-is_err.false in
    let settles = ok_of c.settle_deep.result ok c.settle_deep.ensures.settles in
    let pass_stays : one_where (is_pass_due c.settle_deep.new.held) ≡ one_where (is_pass_due c.args.held.now) = ap one_where (deep_counts c.args.held.now c.settle_deep.new.held settles).1 in
    affects_then c.args.held.now c.settle_deep.new.held (calls_to_admit c.args.held.now)
    (deep_keeps_pins c.args.held.now c.settle_deep.new.held settles) (g.met.D.Disk.timed c.settle_deep.new.disk)
    (calm_of c.settle_deep.result (g.D.Disk.state c.args.disk.now) (g.D.Disk.state c.settle_deep.new.disk) ok c.settle_deep.ensures.faults)
    c.settle_deep.ensures.effect c.settle_pass.ensures.effect (omega (arith, pass_stays))

pub returns-then-is_err-2-clause-faults : goal.returns-then-is_err-2-clause-faults
returns-then-is_err-2-clause-faults g c =
    let before = g.D.Disk.state c.args.disk.now in
    let mid = g.D.Disk.state c.settle_deep.new.disk in
    let after = g.D.Disk.state c.settle_pass.new.disk in
    subst (λ (n : ℕ). HasRisen n after.faults) (calm_of c.settle_deep.result before mid (sym c.is_err.ensures.value ∙ c.if-is_err.false) c.settle_deep.ensures.faults)
    (risen_of c.settle_pass.result mid after (sym c.is_err-2.ensures.value ∙ c.if-is_err-2.true) c.settle_pass.ensures.faults)

-- ---- the begin, and what the write requires

pub begin_for-requires : goal.begin_for-requires
begin_for-requires g c = record { runs = (ok_of c.settle_pass.result (sym c.is_err-2.ensures.value ∙ c.if-is_err-2.false) c.settle_pass.ensures.on).running.in_order }

pub write-requires-clause-settled : goal.write-requires-clause-settled
write-requires-clause-settled g c =
    let more = entries_of (writes_of c.args.op.now) in
    let is_w = weighs c.args.op.now in
    let is_begun : c.begin_for.new.self ≡ begun_in (entries_weight more) c.settle_pass.new.held =
    c.begin_for.ensures.begun ∙ ap (λ (n : ℕ). begun_in n c.settle_pass.new.held) (c.weight.ensures.weight ∙ is_w) in
    subst (λ (h : Held). first_debt h.gears c.args.seat + second_debt h.gears c.args.seat ≡ 0) (sym is_begun)
    (admission_fits c.args.seat c.args.op.now more c.args.held.now c.settle_deep.new.held c.settle_pass.new.held c.requires.runs.pace
    (writes_written c.args.op.now c.requires.is_write c.requires.fits) c.requires.runs.live.paced
    (subst (λ (n : ℕ). MayWrite c.args.seat n c.args.op.now c.args.held.now) is_w c.requires.may)
    (ok_of c.settle_deep.result (sym c.is_err.ensures.value ∙ c.if-is_err.false) c.settle_deep.ensures.settles) (ok_of c.settle_pass.result (sym c.is_err-2.ensures.value ∙ c.if-is_err-2.false) c.settle_pass.ensures.settles)).settled

pub write-requires-clause-fits : goal.write-requires-clause-fits
write-requires-clause-fits g c =
    let more = entries_of (writes_of c.args.op.now) in
    let is_w = weighs c.args.op.now in
    let is_begun : c.begin_for.new.self ≡ begun_in (entries_weight more) c.settle_pass.new.held =
    c.begin_for.ensures.begun ∙ ap (λ (n : ℕ). begun_in n c.settle_pass.new.held) (c.weight.ensures.weight ∙ is_w) in
    fits_as more ((c.args.key.now, c.args.rec.now) ∷ []) (begun_in (entries_weight more) c.settle_pass.new.held) c.begin_for.new.self
    (sym (spelled c.args.op.now c.args.key.now c.args.rec.now c.requires.spelled)) is_begun
    (admission_fits c.args.seat c.args.op.now more c.args.held.now c.settle_deep.new.held c.settle_pass.new.held c.requires.runs.pace
    (writes_written c.args.op.now c.requires.is_write c.requires.fits) c.requires.runs.live.paced
    (subst (λ (n : ℕ). MayWrite c.args.seat n c.args.op.now c.args.held.now) is_w c.requires.may)
    (ok_of c.settle_deep.result (sym c.is_err.ensures.value ∙ c.if-is_err.false) c.settle_deep.ensures.settles) (ok_of c.settle_pass.result (sym c.is_err-2.ensures.value ∙ c.if-is_err-2.false) c.settle_pass.ensures.settles)).fits

pub write-requires-clause-one : goal.write-requires-clause-one
write-requires-clause-one g c =
    subst (λ (h : Held). IsOne h) (sym c.begin_for.ensures.begun)
    (moves_are_told c.args.held.now c.settle_deep.new.held c.settle_pass.new.held c.requires.runs.pace c.weight.result c.requires.runs.live.paced
    (ok_of c.settle_deep.result (sym c.is_err.ensures.value ∙ c.if-is_err.false) c.settle_deep.ensures.settles) (ok_of c.settle_pass.result (sym c.is_err-2.ensures.value ∙ c.if-is_err-2.false) c.settle_pass.ensures.settles)).1.one

pub write-requires-clause-on : goal.write-requires-clause-on
write-requires-clause-on g c =
    let last = g.D.Disk.state c.settle_pass.new.disk in
    let on = ok_of c.settle_pass.result (sym c.is_err-2.ensures.value ∙ c.if-is_err-2.false) c.settle_pass.ensures.on in
    begun_on c.weight.result c.settle_pass.new.held c.begin_for.new.self last c.begin_for.ensures.begun on (c.begin_for.ensures.running last.is_honest last.bytes on.running)

-- ---- the write was taken

pub returns-in-Ok-clause-takes : goal.returns-in-Ok-clause-takes
returns-in-Ok-clause-takes g c =
    let is_w = weighs c.args.op.now in
    let is_spelled = spelled c.args.op.now c.args.key.now c.args.rec.now c.requires.spelled in (
      c.begin_for.new.self,
      record {
        settled = c.settle_deep.new.held;
        ready = c.settle_pass.new.held;
        deep = ok_of c.settle_deep.result (sym c.is_err.ensures.value ∙ c.if-is_err.false) c.settle_deep.ensures.settles;
        pass = ok_of c.settle_pass.result (sym c.is_err-2.ensures.value ∙ c.if-is_err-2.false) c.settle_pass.ensures.settles;
        begun = c.begin_for.ensures.begun ∙ ap (λ (n : ℕ). begun_in n c.settle_pass.new.held) (c.weight.ensures.weight ∙ is_w);
      },
      subst (λ (more : Entries). WritesIn c.args.seat more c.begin_for.new.self c.write.new.self) (sym is_spelled) c.in-Ok.ensures.writes,
      c.in-Ok.ensures.on,
    )

pub returns-in-Ok-clause-lists : goal.returns-in-Ok-clause-lists
returns-in-Ok-clause-lists g c = λ opening m honest stands runs may fits met.
    let ok = sym c.is_err.ensures.value ∙ c.if-is_err.false in
    let ok_then = sym c.is_err-2.ensures.value ∙ c.if-is_err-2.false in
    let old = c.args.held.now in
    let settled = c.settle_deep.new.held in
    let ready = c.settle_pass.new.held in
    let begun = c.begin_for.new.self in
    let before = g.D.Disk.state c.args.disk.now in
    let mid = g.D.Disk.state c.settle_deep.new.disk in
    let last = g.D.Disk.state c.settle_pass.new.disk in
    let after = g.D.Disk.state c.write.new.disk in
    let is_spelled = spelled c.args.op.now c.args.key.now c.args.rec.now c.requires.spelled in
    let begins : Begins opening old m before = record { honest = honest; stands = stands; runs = runs; numbers = c.requires.runs.pace; paced = c.requires.runs.live.paced } in
    let has = settled_by c.settle_deep.result old settled before mid ok c.settle_deep.ensures.settles c.settle_deep.ensures.lists c.settle_deep.ensures.effect.goes_on.is_honest in
    let takes : MayTake c.args.seat c.args.op.now old m = record
    { may = may; fits = fits; some = are_some c.args.op.now c.requires.is_write; met = met; room = c.requires.may.room } in
    let then = begun_by c.settle_pass.result (total_weight (writes_of c.args.op.now)) c.weight.result settled ready begun mid last ok_then c.settle_pass.ensures.settles c.settle_pass.ensures.turns c.settle_pass.ensures.lists
    c.settle_pass.ensures.effect.goes_on.is_honest c.begin_for.ensures.begun c.weight.ensures.weight c.begin_for.ensures.lists in
    let appends = subst (λ (more : Entries). Appends more begun true last after) (sym is_spelled)
    (λ tree here of_log over. (c.in-Ok.ensures.becomes tree here of_log over).0) in (
      writes_over opening old m before begins settled mid has c.args.seat c.args.op.now takes ready begun last then c.write.new.self after
          (subst (λ (more : Entries). WritesIn c.args.seat more begun c.write.new.self) (sym is_spelled) c.in-Ok.ensures.writes)
          (subst (λ (more : Entries). (tree : Tree) → IsLogOf tree begun.log
          → IsLogOf (appended (goes_ahead more begun) more tree) c.write.new.self.log)
          (sym is_spelled) c.in-Ok.ensures.is_of)
          (subst (λ (more : Entries). (tree : Tree) → IsTrue last.is_honest → IsLogOf tree begun.log → StandOver begun.runs tree last
          → StandOver c.write.new.self.runs (appended (goes_ahead more begun) more tree) after) (sym is_spelled)
          (λ tree here of_log over. (c.in-Ok.ensures.becomes tree here of_log over).1)),
      done_leaves opening old m before begins settled mid has c.args.seat c.args.op.now takes ready begun last then after appends,
    )

pub returns-in-Ok-clause-ends : goal.returns-in-Ok-clause-ends
returns-in-Ok-clause-ends g c =
    let settles = ok_of c.settle_deep.result (sym c.is_err.ensures.value ∙ c.if-is_err.false) c.settle_deep.ensures.settles in
    let pass_stays : one_where (is_pass_due c.settle_deep.new.held) ≡ one_where (is_pass_due c.args.held.now) = ap one_where (deep_counts c.args.held.now c.settle_deep.new.held settles).1 in
    ends_behind (swaps_due_in c.args.held.now) c.settle_deep.ensures.effect.goes_on c.settle_pass.ensures.effect.goes_on
    (omega (arith, c.settle_deep.ensures.effect.calls, c.settle_pass.ensures.effect.calls, pass_stays)) c.in-Ok.ensures.ends

pub returns-in-Ok-clause-effect : goal.returns-in-Ok-clause-effect
returns-in-Ok-clause-effect g c =
    let ok = sym c.is_err.ensures.value ∙ c.if-is_err.false in
    let ok_then = sym c.is_err-2.ensures.value ∙ c.if-is_err-2.false in
    let before = g.D.Disk.state c.args.disk.now in
    let mid = g.D.Disk.state c.settle_deep.new.disk in
    let last = g.D.Disk.state c.settle_pass.new.disk in
    let settles = ok_of c.settle_deep.result ok c.settle_deep.ensures.settles in
    let pass_stays : one_where (is_pass_due c.settle_deep.new.held) ≡ one_where (is_pass_due c.args.held.now) = ap one_where (deep_counts c.args.held.now c.settle_deep.new.held settles).1 in
    let same = deep_keeps_pins c.args.held.now c.settle_deep.new.held settles in
    let same_then = pass_keeps_pins c.settle_deep.new.held c.settle_pass.new.held (ok_of c.settle_pass.result ok_then c.settle_pass.ensures.settles) in
    let calm = calm_of c.settle_deep.result before mid ok c.settle_deep.ensures.faults in
    affects_then c.args.held.now c.begin_for.new.self (calls_to_admit c.args.held.now)
    (then_pins c.args.held.now c.settle_pass.new.held c.begin_for.new.self (then_pins c.args.held.now c.settle_deep.new.held c.settle_pass.new.held same same_then)
    (then_pins c.settle_pass.new.held (begun_in c.weight.result c.settle_pass.new.held) c.begin_for.new.self (begin_keeps_pins c.weight.result c.settle_pass.new.held)
    (same_pins (begun_in c.weight.result c.settle_pass.new.held) c.begin_for.new.self c.begin_for.ensures.begun))) (g.met.D.Disk.timed c.settle_pass.new.disk)
    (calm_of c.settle_pass.result mid last ok_then c.settle_pass.ensures.faults ∙ calm)
    (affects_then c.args.held.now c.settle_deep.new.held (9 * swaps_due_in c.args.held.now) same (g.met.D.Disk.timed c.settle_deep.new.disk) calm c.settle_deep.ensures.effect c.settle_pass.ensures.effect (omega (arith, pass_stays)))
    c.write.ensures.effect (omega arith)

pub returns-in-Ok-clause-faults : goal.returns-in-Ok-clause-faults
returns-in-Ok-clause-faults g c =
    let ok = sym c.is_err.ensures.value ∙ c.if-is_err.false in
    let ok_then = sym c.is_err-2.ensures.value ∙ c.if-is_err-2.false in
    c.in-Ok.ensures.faults ∙ calm_of c.settle_pass.result (g.D.Disk.state c.settle_deep.new.disk) (g.D.Disk.state c.settle_pass.new.disk) ok_then c.settle_pass.ensures.faults
    ∙ calm_of c.settle_deep.result (g.D.Disk.state c.args.disk.now) (g.D.Disk.state c.settle_deep.new.disk) ok c.settle_deep.ensures.faults

-- ---- its append failed

pub returns-in-Err-clause-takes : goal.returns-in-Err-clause-takes
returns-in-Err-clause-takes g c =
    let more = entries_of (writes_of c.args.op.now) in
    let is_w = weighs c.args.op.now in
    record {
      settled = c.settle_deep.new.held;
      ready = c.settle_pass.new.held;
      deep = ok_of c.settle_deep.result (sym c.is_err.ensures.value ∙ c.if-is_err.false) c.settle_deep.ensures.settles;
      pass = ok_of c.settle_pass.result (sym c.is_err-2.ensures.value ∙ c.if-is_err-2.false) c.settle_pass.ensures.settles;
      begun = c.in-Err.ensures.kept ∙ c.begin_for.ensures.begun ∙ ap (λ (n : ℕ). begun_in n c.settle_pass.new.held) (c.weight.ensures.weight ∙ is_w);
    }

pub returns-in-Err-clause-lists : goal.returns-in-Err-clause-lists
returns-in-Err-clause-lists g c = λ opening m honest stands runs may fits met.
    let ok = sym c.is_err.ensures.value ∙ c.if-is_err.false in
    let ok_then = sym c.is_err-2.ensures.value ∙ c.if-is_err-2.false in
    let old = c.args.held.now in
    let settled = c.settle_deep.new.held in
    let ready = c.settle_pass.new.held in
    let begun = c.begin_for.new.self in
    let before = g.D.Disk.state c.args.disk.now in
    let mid = g.D.Disk.state c.settle_deep.new.disk in
    let last = g.D.Disk.state c.settle_pass.new.disk in
    let after = g.D.Disk.state c.write.new.disk in
    let is_spelled = spelled c.args.op.now c.args.key.now c.args.rec.now c.requires.spelled in
    let begins : Begins opening old m before = record { honest = honest; stands = stands; runs = runs; numbers = c.requires.runs.pace; paced = c.requires.runs.live.paced } in
    let has = settled_by c.settle_deep.result old settled before mid ok c.settle_deep.ensures.settles c.settle_deep.ensures.lists c.settle_deep.ensures.effect.goes_on.is_honest in
    let takes : MayTake c.args.seat c.args.op.now old m = record
    { may = may; fits = fits; some = are_some c.args.op.now c.requires.is_write; met = met; room = c.requires.may.room } in
    let then = begun_by c.settle_pass.result (total_weight (writes_of c.args.op.now)) c.weight.result settled ready begun mid last ok_then c.settle_pass.ensures.settles c.settle_pass.ensures.turns c.settle_pass.ensures.lists
    c.settle_pass.ensures.effect.goes_on.is_honest c.begin_for.ensures.begun c.weight.ensures.weight c.begin_for.ensures.lists in
    doubt_leaves opening old m before begins settled mid has c.args.seat c.args.op.now takes ready begun last then c.write.new.self
    c.in-Err.ensures.kept false after
    (subst (λ (more : Entries). Appends more begun false last after) (sym is_spelled)
    (λ tree here of_log over. (c.in-Err.ensures.becomes tree here of_log over).0))

pub returns-in-Err-clause-effect : goal.returns-in-Err-clause-effect
returns-in-Err-clause-effect g c =
    let ok = sym c.is_err.ensures.value ∙ c.if-is_err.false in
    let ok_then = sym c.is_err-2.ensures.value ∙ c.if-is_err-2.false in
    let before = g.D.Disk.state c.args.disk.now in
    let mid = g.D.Disk.state c.settle_deep.new.disk in
    let last = g.D.Disk.state c.settle_pass.new.disk in
    let settles = ok_of c.settle_deep.result ok c.settle_deep.ensures.settles in
    let pass_stays : one_where (is_pass_due c.settle_deep.new.held) ≡ one_where (is_pass_due c.args.held.now) = ap one_where (deep_counts c.args.held.now c.settle_deep.new.held settles).1 in
    let same = deep_keeps_pins c.args.held.now c.settle_deep.new.held settles in
    let same_then = pass_keeps_pins c.settle_deep.new.held c.settle_pass.new.held (ok_of c.settle_pass.result ok_then c.settle_pass.ensures.settles) in
    let calm = calm_of c.settle_deep.result before mid ok c.settle_deep.ensures.faults in
    affects_then c.args.held.now c.begin_for.new.self (calls_to_admit c.args.held.now)
    (then_pins c.args.held.now c.settle_pass.new.held c.begin_for.new.self (then_pins c.args.held.now c.settle_deep.new.held c.settle_pass.new.held same same_then)
    (then_pins c.settle_pass.new.held (begun_in c.weight.result c.settle_pass.new.held) c.begin_for.new.self (begin_keeps_pins c.weight.result c.settle_pass.new.held)
    (same_pins (begun_in c.weight.result c.settle_pass.new.held) c.begin_for.new.self c.begin_for.ensures.begun))) (g.met.D.Disk.timed c.settle_pass.new.disk)
    (calm_of c.settle_pass.result mid last ok_then c.settle_pass.ensures.faults ∙ calm)
    (affects_then c.args.held.now c.settle_deep.new.held (9 * swaps_due_in c.args.held.now) same (g.met.D.Disk.timed c.settle_deep.new.disk) calm c.settle_deep.ensures.effect c.settle_pass.ensures.effect (omega (arith, pass_stays)))
    c.write.ensures.effect (omega arith)
