use Rattle.std.proofs.Common.{◌∙◌, ap, sym}
use Rattle.tree_machine.specs.declared.step.Kind.{Kind}
use Rattle.tree_machine.specs.declared.step.Kind.TheVariants as kind
use Rattle.tree_core.specs.Steps.{admits_fit}
use Rattle.tree_core.proofs.PlayLemmas.{goes_still, played_by, tails_fit}
use Rattle.tree_core.proofs.store.Core.step.Goals as goal

pub returns-in-Hold-clause-goes_on : goal.returns-in-Hold-clause-goes_on
returns-in-Hold-clause-goes_on g c = goes_still g.D.Disk.state c.hold.ensures.untouched

pub returns-in-Hold-clause-played : goal.returns-in-Hold-clause-played
returns-in-Hold-clause-played g c = λ opening m honest whole.
    played_by g.D.Disk.state opening c.args.step.now (kind.Hold c.in-Hold.low c.in-Hold.high) _ c.args.self.now c.hold.new.self m c.in-Hold.is c.requires.may (goes_still g.D.Disk.state c.hold.ensures.untouched) whole (λ may. c.hold.ensures.goes.steps opening m honest whole)

pub returns-in-Hold-clause-lasts : goal.returns-in-Hold-clause-lasts
returns-in-Hold-clause-lasts g c = λ start since. c.hold.ensures.goes.lasts start since

pub returns-in-Next-clause-goes_on : goal.returns-in-Next-clause-goes_on
returns-in-Next-clause-goes_on g c = c.next_rows.ensures.reads.reads.effect.goes_on

pub returns-in-Next-clause-played : goal.returns-in-Next-clause-played
returns-in-Next-clause-played g c = λ opening m honest whole.
    played_by g.D.Disk.state opening c.args.step.now (kind.Next c.in-Next.n) _ c.args.self.now c.next_rows.new.self m c.in-Next.is c.requires.may c.next_rows.ensures.reads.reads.effect.goes_on whole (λ may. c.next_rows.ensures.reads.goes.steps opening m honest whole)

pub returns-in-Next-clause-lasts : goal.returns-in-Next-clause-lasts
returns-in-Next-clause-lasts g c = λ start since. c.next_rows.ensures.reads.goes.lasts start since

pub returns-in-Release-clause-goes_on : goal.returns-in-Release-clause-goes_on
returns-in-Release-clause-goes_on g c = goes_still g.D.Disk.state c.drop_hold.ensures.untouched

pub returns-in-Release-clause-played : goal.returns-in-Release-clause-played
returns-in-Release-clause-played g c = λ opening m honest whole.
    played_by g.D.Disk.state opening c.args.step.now kind.Release _ c.args.self.now c.drop_hold.new.self m c.in-Release.is c.requires.may (goes_still g.D.Disk.state c.drop_hold.ensures.untouched) whole (λ may. c.drop_hold.ensures.goes.steps opening m honest whole)

pub returns-in-Release-clause-lasts : goal.returns-in-Release-clause-lasts
returns-in-Release-clause-lasts g c = λ start since. c.drop_hold.ensures.goes.lasts start since

pub returns-in-Look-clause-played : goal.returns-in-Look-clause-played
returns-in-Look-clause-played g c = λ opening m honest whole.
    played_by g.D.Disk.state opening c.args.step.now (kind.Look c.in-Look.op) _ c.args.self.now c.look.new.self m c.in-Look.is c.requires.may c.look.ensures.1.reads.effect.goes_on whole (λ may. c.look.ensures.1.goes.steps opening m honest whole)

pub returns-in-Look-clause-goes_on : goal.returns-in-Look-clause-goes_on
returns-in-Look-clause-goes_on g c = c.look.ensures.1.reads.effect.goes_on

pub returns-in-Look-clause-lasts : goal.returns-in-Look-clause-lasts
returns-in-Look-clause-lasts g c = λ start since. c.look.ensures.1.goes.lasts start since

pub returns-in-WorkEnd-clause-goes_on : goal.returns-in-WorkEnd-clause-goes_on
returns-in-WorkEnd-clause-goes_on g c = goes_still g.D.Disk.state c.work_end.ensures.untouched

pub returns-in-WorkEnd-clause-played : goal.returns-in-WorkEnd-clause-played
returns-in-WorkEnd-clause-played g c = λ opening m honest whole.
    played_by g.D.Disk.state opening c.args.step.now (kind.WorkEnd c.in-WorkEnd.n) _ c.args.self.now c.work_end.new.self m c.in-WorkEnd.is c.requires.may (goes_still g.D.Disk.state c.work_end.ensures.untouched) whole
    (λ may. c.work_end.ensures.goes.steps opening m honest whole)

pub returns-in-WorkEnd-clause-lasts : goal.returns-in-WorkEnd-clause-lasts
returns-in-WorkEnd-clause-lasts g c = λ start since. c.work_end.ensures.goes.lasts start since

pub returns-in-Leave-clause-goes_on : goal.returns-in-Leave-clause-goes_on
returns-in-Leave-clause-goes_on g c = goes_still g.D.Disk.state c.leave.ensures.untouched

pub returns-in-Leave-clause-played : goal.returns-in-Leave-clause-played
returns-in-Leave-clause-played g c = λ opening m honest whole.
    played_by g.D.Disk.state opening c.args.step.now kind.Leave _ c.args.self.now c.leave.new.self m c.in-Leave.is c.requires.may (goes_still g.D.Disk.state c.leave.ensures.untouched) whole
    (λ may. c.leave.ensures.goes.steps opening m honest whole)

pub returns-in-Leave-clause-lasts : goal.returns-in-Leave-clause-lasts
returns-in-Leave-clause-lasts g c = λ start since. c.leave.ensures.goes.lasts start since

pub returns-in-WorkTurn-clause-goes_on : goal.returns-in-WorkTurn-clause-goes_on
returns-in-WorkTurn-clause-goes_on g c = c.work_turn.ensures.effect.goes_on

pub returns-in-WorkTurn-clause-played : goal.returns-in-WorkTurn-clause-played
returns-in-WorkTurn-clause-played g c = λ opening m honest whole.
    played_by g.D.Disk.state opening c.args.step.now kind.WorkTurn _ c.args.self.now c.work_turn.new.self m c.in-WorkTurn.is c.requires.may c.work_turn.ensures.effect.goes_on whole (λ may. c.work_turn.ensures.goes.steps opening m honest whole)

pub returns-in-WorkTurn-clause-lasts : goal.returns-in-WorkTurn-clause-lasts
returns-in-WorkTurn-clause-lasts g c = λ start since. c.work_turn.ensures.goes.lasts start since

pub returns-in-WorkerTurn-clause-goes_on : goal.returns-in-WorkerTurn-clause-goes_on
returns-in-WorkerTurn-clause-goes_on g c = c.worker_turn.ensures.effect.goes_on

pub returns-in-WorkerTurn-clause-played : goal.returns-in-WorkerTurn-clause-played
returns-in-WorkerTurn-clause-played g c = λ opening m honest whole.
    played_by g.D.Disk.state opening c.args.step.now kind.WorkerTurn _ c.args.self.now c.worker_turn.new.self m c.in-WorkerTurn.is c.requires.may c.worker_turn.ensures.effect.goes_on whole (λ may. c.worker_turn.ensures.goes.steps opening m honest whole)

pub returns-in-WorkerTurn-clause-lasts : goal.returns-in-WorkerTurn-clause-lasts
returns-in-WorkerTurn-clause-lasts g c = λ start since. c.worker_turn.ensures.goes.lasts start since

pub returns-in-Pay-clause-goes_on : goal.returns-in-Pay-clause-goes_on
returns-in-Pay-clause-goes_on g c = c.pay.ensures.effect.goes_on

pub returns-in-Pay-clause-played : goal.returns-in-Pay-clause-played
returns-in-Pay-clause-played g c = λ opening m honest whole.
    played_by g.D.Disk.state opening c.args.step.now kind.Pay _ c.args.self.now c.pay.new.self m c.in-Pay.is c.requires.may c.pay.ensures.effect.goes_on whole (λ may. c.pay.ensures.goes.steps opening m honest whole)

pub returns-in-Pay-clause-lasts : goal.returns-in-Pay-clause-lasts
returns-in-Pay-clause-lasts g c = λ start since. c.pay.ensures.goes.lasts start since

pub returns-in-Admit-clause-goes_on : goal.returns-in-Admit-clause-goes_on
returns-in-Admit-clause-goes_on g c = c.admit.ensures.1.effect.goes_on

pub returns-in-Admit-clause-played : goal.returns-in-Admit-clause-played
returns-in-Admit-clause-played g c = λ opening m honest whole.
    played_by g.D.Disk.state opening c.args.step.now (kind.Admit c.in-Admit.op) _ c.args.self.now c.admit.new.self m c.in-Admit.is c.requires.may
    c.admit.ensures.1.effect.goes_on whole (λ may. c.admit.ensures.1.goes.steps opening m honest whole)

pub returns-in-Admit-clause-lasts : goal.returns-in-Admit-clause-lasts
returns-in-Admit-clause-lasts g c = λ start since. c.admit.ensures.1.goes.lasts start since

pub admit-requires-clause-tails : goal.admit-requires-clause-tails
admit-requires-clause-tails g c = tails_fit c.in-Admit.op (ap (λ (k : Kind). admits_fit k) (sym c.in-Admit.is) ∙ c.requires.fits)
