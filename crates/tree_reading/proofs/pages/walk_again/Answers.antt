use Rattle.std.proofs.Common.{Ok, Err, subst}
use Rattle.blsm_model.specs.declared.component.Component.{Component}
use Rattle.tree_reading.specs.Walk.{TellsStop}
use Rattle.tree_reading.proofs.AgainLemmas.{again_ends, again_tells}
use Rattle.tree_reading.proofs.pages.walk_again.Goals as goal

pub returns-in-Ok-clause-tells : goal.returns-in-Ok-clause-tells
returns-in-Ok-clause-tells g c = λ earlier honest takes stopped.
    let first = g.D.Disk.state c.args.disk.now in
    absurd
    (again_ends c.args.geo.now c.args.run.now c.args.bases_only earlier c.args.role c.args.named c.args.space.now c.walk_within.new.space first.bytes c.unbounded_of-unbounded.ensures.few
    (subst (λ (run : Component). TellsStop c.args.geo.now run c.args.bases_only earlier c.args.role c.args.space.now c.walk_within.new.space first.bytes (Ok tt)) c.unbounded_of-unbounded.ensures.component
    (c.in-Ok.ensures.tells earlier honest takes)))

pub returns-in-Err-clause-tells : goal.returns-in-Err-clause-tells
returns-in-Err-clause-tells g c = λ earlier honest takes stopped.
    let first = g.D.Disk.state c.args.disk.now in
    again_tells c.args.geo.now c.args.run.now c.args.bases_only earlier c.args.role c.args.named c.args.space.now c.walk_within.new.space first.bytes c.in-Err.broken c.in-Err.ensures.few
    c.unbounded_of-unbounded.ensures.few stopped
    (subst (λ (run : Component). TellsStop c.args.geo.now run c.args.bases_only earlier c.args.role c.args.space.now c.walk_within.new.space first.bytes (Err c.in-Err.broken)) c.unbounded_of-unbounded.ensures.component
    (c.in-Err.ensures.tells earlier honest takes))
