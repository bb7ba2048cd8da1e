use Rattle.std.proofs.Common.{Option, subst}
use Rattle.tree_runs.specs.declared.resumable.Resumable.{Resumable}
use Rattle.tree_runs.specs.Ahead.{IsAheadOn, IsAheadOver}
use Rattle.tree_runs.specs.Runs.{guide_at}
use Rattle.tree_runs.proofs.runs.go_on.Goals as goal

pub returns-in-Some-clause-merge : goal.returns-in-Some-clause-merge
returns-in-Some-clause-merge c = λ sizes file space c1x c2 newer newer_elsewhere older older_elsewhere over.
    let guide = guide_at c.args.guides.now.items c.args.role in
    c.take_up.ensures.merge sizes file space guide c1x c2
    (subst (λ (ahead : Option Resumable). IsAheadOver sizes file space c.args.role guide c1x c2 ahead) c.in-Some.is over)

pub returns-in-None-clause-running : goal.returns-in-None-clause-running
returns-in-None-clause-running c = λ sizes honest file space none. c.begin_due.ensures.running sizes honest file space

pub returns-in-Some-clause-running : goal.returns-in-Some-clause-running
returns-in-Some-clause-running c = λ sizes honest file space on.
    let guide = guide_at c.args.guides.now.items c.args.role in
    c.take_up.ensures.running sizes honest file space guide
    (subst (λ (ahead : Option Resumable). IsAheadOn sizes honest file space c.args.role guide ahead) c.in-Some.is on)
