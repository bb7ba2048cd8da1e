use Rattle.std.specs.Prelude.{Ok, Err}
use Rattle.std.proofs.Common.{refl, subst, sym, arith}
use Rattle.core_moves.specs.Moves.{with_book}
use Rattle.tree_core.specs.Calls.{Pays}
use Rattle.tree_core.specs.Core.{CoreState}
use Rattle.tree_core.specs.declared.answers.Payment.TheVariants as payment
use Rattle.tree_core.proofs.LastLemmas.{kept_on}
use Rattle.tree_core.proofs.PaymentCalls.{Paying, pay_damaged, pay_failed, pay_halted, pay_settled, pay_taken}
use Rattle.tree_core.proofs.PaymentLemmas.{payer_wrote, plans_by, quanta_fit, quantum_may, quantum_ready}
use Rattle.tree_core.proofs.store.Core.pay.Goals as goal

-- ---- what the quantum requires

pub take-requires-clause-runs : goal.take-requires-clause-runs
take-requires-clause-runs g c =
    let old = c.self.inside in
    let p = plans_by c.args.seat c.plan-plan.result old.held c.plan-plan.new.self c.requires c.in_default.ensures c.plan-plan.ensures.forgiven c.plan-plan.ensures.plan c.in_default-plan.not-Nothing in
    quantum_may c.args.seat c.plan-plan.result old.held c.plan-plan.new.self c.self.invariant.0.pace (g.D.Disk.state old.disk) p c.self.invariant.0.holds

pub take-requires-clause-ready : goal.take-requires-clause-ready
take-requires-clause-ready g c =
    let old = c.self.inside in
    let p = plans_by c.args.seat c.plan-plan.result old.held c.plan-plan.new.self c.requires c.in_default.ensures c.plan-plan.ensures.forgiven c.plan-plan.ensures.plan c.in_default-plan.not-Nothing in
    quantum_ready c.args.seat c.plan-plan.result old.held c.plan-plan.new.self c.self.invariant.0.pace (g.D.Disk.state old.disk) p c.self.invariant.0.holds

-- ---- what its count requires

pub count_for_write-requires-clause-written : goal.count_for_write-requires-clause-written
count_for_write-requires-clause-written g c =
    let old = c.self.inside in
    let p = plans_by c.args.seat c.plan-plan.result old.held c.plan-plan.new.self c.requires c.in_default.ensures c.plan-plan.ensures.forgiven c.plan-plan.ensures.plan c.in_default-plan.not-Nothing in
    payer_wrote c.args.seat c.in-Ok.field-0 c.plan-plan.result old.held c.plan-plan.new.self c.take.new.held c.self.invariant.0.pace (g.D.Disk.state old.disk) (record { plans = p; takes = c.in-Ok.ensures.takes }) c.self.invariant.0.holds

pub count_for_write-requires-clause-fits : goal.count_for_write-requires-clause-fits
count_for_write-requires-clause-fits g c =
    let old = c.self.inside in
    let p = plans_by c.args.seat c.plan-plan.result old.held c.plan-plan.new.self c.requires c.in_default.ensures c.plan-plan.ensures.forgiven c.plan-plan.ensures.plan c.in_default-plan.not-Nothing in
    quanta_fit c.args.seat c.in-Ok.field-0 c.plan-plan.result old.held c.plan-plan.new.self c.take.new.held c.self.invariant.0.pace (g.D.Disk.state old.disk) (record { plans = p; takes = c.in-Ok.ensures.takes }) c.self.invariant.0.holds

-- ---- the call

pub returns-in-Some : goal.returns-in-Some
returns-in-Some g c =
    let old : CoreState g.row.D.Denot = record { disk = c.self.inside.disk; held = c.self.inside.held; holds = c.self.inside.holds } in
    subst (λ (s : CoreState g.row.D.Denot). Pays g.D.Disk.state c.args.seat (payment.Stopped c.in-Some.why) s s) c.self.view_is
    (pay_halted g.D.Disk.state c.args.seat c.in-Some.why old c.self.invariant.0 (g.met.D.Disk.timed old.disk) c.requires (sym c.in-Some.ensures))

pub returns-in-Nothing : goal.returns-in-Nothing
returns-in-Nothing g c =
    let old : CoreState g.row.D.Denot = record { disk = c.self.inside.disk; held = c.self.inside.held; holds = c.self.inside.holds } in
    subst (λ (s : CoreState g.row.D.Denot). Pays g.D.Disk.state c.args.seat payment.Settled s (record old { held = c.plan-plan.new.self })) c.self.view_is
    (pay_settled g.D.Disk.state c.args.seat c.plan-plan.result old c.plan-plan.new.self c.self.invariant.0 (g.met.D.Disk.timed old.disk) c.requires (sym c.in_default.ensures) c.plan-plan.ensures.forgiven c.plan-plan.ensures.plan c.in-Nothing.is)

pub returns-in-Ok : goal.returns-in-Ok
returns-in-Ok g c =
    let old : CoreState g.row.D.Denot = record { disk = c.self.inside.disk; held = c.self.inside.held; holds = c.self.inside.holds } in
    let x = c.in-Ok.ensures in
    let t : Paying g.D.Disk.state c.args.seat c.plan-plan.result (Ok c.in-Ok.field-0) old c.plan-plan.new.self c.take.new.held c.take.new.disk = record {
      core = c.self.invariant.0;
      timed = g.met.D.Disk.timed c.take.new.disk;
      plans = plans_by c.args.seat c.plan-plan.result old.held c.plan-plan.new.self c.requires c.in_default.ensures c.plan-plan.ensures.forgiven c.plan-plan.ensures.plan c.in_default-plan.not-Nothing;
      takes = x.takes;
      kept = x.kept;
      told = x.faults;
      effect = x.effect;
      ahead = x.damaged;
      lists = λ tree honest over. x.lists tree honest over;
    } in
    subst (λ (s : CoreState g.row.D.Denot). Pays g.D.Disk.state c.args.seat payment.Paid s (record { disk = c.take.new.disk; held = with_book c.count_for_write.new.self c.take.new.held; holds = old.holds })) c.self.view_is
    (pay_taken g.D.Disk.state c.args.seat c.in-Ok.field-0 c.plan-plan.result old c.plan-plan.new.self c.take.new.held c.take.new.disk c.count_for_write.new.self t x.on c.count_for_write.ensures)

pub returns-in-Err-Fault : goal.returns-in-Err-Fault
returns-in-Err-Fault g c =
    let old : CoreState g.row.D.Denot = record { disk = c.self.inside.disk; held = c.self.inside.held; holds = c.self.inside.holds } in
    let x = c.in-Err-Fault.ensures in
    let t : Paying g.D.Disk.state c.args.seat c.plan-plan.result (Err c.in-Err-Fault.field-0) old c.plan-plan.new.self c.take.new.held c.take.new.disk = record {
      core = c.self.invariant.0;
      timed = g.met.D.Disk.timed c.take.new.disk;
      plans = plans_by c.args.seat c.plan-plan.result old.held c.plan-plan.new.self c.requires c.in_default.ensures c.plan-plan.ensures.forgiven c.plan-plan.ensures.plan c.in_default-plan.not-Nothing;
      takes = x.takes;
      kept = x.kept;
      told = x.faults;
      effect = x.effect;
      ahead = x.damaged;
      lists = λ tree honest over. x.lists tree honest over;
    } in
    subst (λ (s : CoreState g.row.D.Denot). Pays g.D.Disk.state c.args.seat payment.Fault s (record { disk = c.take.new.disk; held = with_book c.stop.new.self c.take.new.held; holds = old.holds })) c.self.view_is
    (pay_failed g.D.Disk.state c.args.seat c.faults.result c.plan-plan.result c.in-Err-Fault.field-0 old c.plan-plan.new.self c.take.new.held c.take.new.disk c.stop.new.self t (cc c.in-Err-Fault.field-0-is) c.faults.ensures
    (omega (arith, c.faults.ensures, c.faults.type_inv)) c.stop.ensures)

pub returns-in-Err-Damaged : goal.returns-in-Err-Damaged
returns-in-Err-Damaged g c =
    let old : CoreState g.row.D.Denot = record { disk = c.self.inside.disk; held = c.self.inside.held; holds = c.self.inside.holds } in
    let x = c.in-Err-Damaged.ensures in
    let t : Paying g.D.Disk.state c.args.seat c.plan-plan.result (Err c.in-Err-Damaged.field-0) old c.plan-plan.new.self c.take.new.held c.take.new.disk = record {
      core = c.self.invariant.0;
      timed = g.met.D.Disk.timed c.take.new.disk;
      plans = plans_by c.args.seat c.plan-plan.result old.held c.plan-plan.new.self c.requires c.in_default.ensures c.plan-plan.ensures.forgiven c.plan-plan.ensures.plan c.in_default-plan.not-Nothing;
      takes = x.takes;
      kept = x.kept;
      told = x.faults;
      effect = x.effect;
      ahead = x.damaged;
      lists = λ tree honest over. x.lists tree honest over;
    } in
    subst (λ (s : CoreState g.row.D.Denot). Pays g.D.Disk.state c.args.seat (payment.Damaged c.in-Err-Damaged.page) s (record { disk = c.take.new.disk; held = with_book c.stop-in-Err-Damaged.new.self c.take.new.held; holds = old.holds })) c.self.view_is
    (pay_damaged g.D.Disk.state c.args.seat c.in-Err-Damaged.page c.plan-plan.result c.in-Err-Damaged.field-0 old c.plan-plan.new.self c.take.new.held c.take.new.disk c.stop-in-Err-Damaged.new.self t (cc c.in-Err-Damaged.field-0-is) c.stop-in-Err-Damaged.ensures)

-- ---- what the type keeps

pub invariant_of-self : goal.invariant_of-self
invariant_of-self g c = kept_on g.D.Disk.state c.self.view_is (g.met.D.Disk.timed c.self.inside.disk) c.self.invariant refl (returns-in-Nothing g c).goes

pub invariant_of-self-in-Ok : goal.invariant_of-self-in-Ok
invariant_of-self-in-Ok g c = kept_on g.D.Disk.state c.self.view_is (g.met.D.Disk.timed c.self.inside.disk) c.self.invariant refl (returns-in-Ok g c).goes

pub invariant_of-self-in-Err-Fault : goal.invariant_of-self-in-Err-Fault
invariant_of-self-in-Err-Fault g c = kept_on g.D.Disk.state c.self.view_is (g.met.D.Disk.timed c.self.inside.disk) c.self.invariant refl (returns-in-Err-Fault g c).goes

pub invariant_of-self-in-Err-Damaged : goal.invariant_of-self-in-Err-Damaged
invariant_of-self-in-Err-Damaged g c = kept_on g.D.Disk.state c.self.view_is (g.met.D.Disk.timed c.self.inside.disk) c.self.invariant refl (returns-in-Err-Damaged g c).goes
