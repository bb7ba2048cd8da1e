use Rattle.std.specs.Prelude.{IfOk}
use Rattle.std.proofs.Common.{sym, subst}
use Rattle.gear_sched.specs.declared.Plan.{Plan}
use Rattle.core_pace.specs.Events.{TakesByPlan}
use Rattle.tree_core.specs.Causes.{IsDamageAhead}
use Rattle.tree_core.specs.Quanta.{LeavesTaken}
use Rattle.tree_core.proofs.payment.take.Goals as goal

pub returns-in-Snow-clause-lists : goal.returns-in-Snow-clause-lists
returns-in-Snow-clause-lists g c = λ tree honest over ahead.
    let stands = c.pass_quantum.ensures.told.stands tree honest over in
    subst (λ (p : Plan). LeavesTaken p c.pass_quantum.result c.args.held.now c.pass_quantum.new.self tree (g.D.Disk.state c.args.disk.now) (g.D.Disk.state c.pass_quantum.new.disk)) (sym c.in-Snow.is)
    (record { stands = stands.0; each = stands.1; taken = c.pass_quantum.ensures.told.lists tree honest over ahead })

pub returns-in-Deep-clause-lists : goal.returns-in-Deep-clause-lists
returns-in-Deep-clause-lists g c = λ tree honest over ahead.
    let stands = c.deep_quantum.ensures.told.stands tree honest over in
    subst (λ (p : Plan). LeavesTaken p c.deep_quantum.result c.args.held.now c.deep_quantum.new.self tree (g.D.Disk.state c.args.disk.now) (g.D.Disk.state c.deep_quantum.new.disk)) (sym c.in-Deep.is)
    (record { stands = stands.0; each = stands.1; taken = c.deep_quantum.ensures.told.lists tree honest over tt })

pub returns-in-Snow-clause-takes : goal.returns-in-Snow-clause-takes
returns-in-Snow-clause-takes g c =
    subst (λ (p : Plan). IfOk c.pass_quantum.result (λ n. TakesByPlan p c.args.seat n c.args.held.now c.pass_quantum.new.self)) (sym c.in-Snow.is) c.pass_quantum.ensures.takes

pub returns-in-Snow-clause-damaged : goal.returns-in-Snow-clause-damaged
returns-in-Snow-clause-damaged g c = λ n is tells.
    subst (λ (p : Plan). IsDamageAhead p c.pass_quantum.new.self.runs n (g.D.Disk.state c.pass_quantum.new.disk).bytes) (sym c.in-Snow.is) (c.pass_quantum.ensures.told.damaged n is tells)

pub returns-in-Deep-clause-takes : goal.returns-in-Deep-clause-takes
returns-in-Deep-clause-takes g c =
    subst (λ (p : Plan). IfOk c.deep_quantum.result (λ n. TakesByPlan p c.args.seat n c.args.held.now c.deep_quantum.new.self)) (sym c.in-Deep.is) c.deep_quantum.ensures.takes

pub returns-in-Deep-clause-damaged : goal.returns-in-Deep-clause-damaged
returns-in-Deep-clause-damaged g c = λ n is tells.
    subst (λ (p : Plan). IsDamageAhead p c.deep_quantum.new.self.runs n (g.D.Disk.state c.deep_quantum.new.disk).bytes) (sym c.in-Deep.is) (c.deep_quantum.ensures.told.damaged n is tells)
