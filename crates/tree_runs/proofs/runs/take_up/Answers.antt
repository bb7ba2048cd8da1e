use Rattle.std.proofs.Common.{Some, true, subst, sym}
use Rattle.merge_ends.specs.Input.{IsInput, IsReady}
use Rattle.merge_ends.specs.Merge.{IsFront}
use Rattle.page_file.specs.Component.{entries_of, numbers_of}
use Rattle.tree_runs.specs.declared.resumable.Cursors.{Cursors}
use Rattle.tree_runs.proofs.runs.take_up.Goals as goal

pub returns-clause-merge : goal.returns-clause-merge
returns-clause-merge c = λ sizes file space guide c1x c2 over.
    let at = Some c.args.ahead.done.key in
    let out = sym c.into_inner-c1x.ensures in
    c.resume.ensures.merge sizes file space guide.filter guide.fences (numbers_of c1x) (numbers_of c2) (entries_of c1x) (entries_of c2) over.pages
    (subst (λ (k : Cursors). IsInput sizes file space c.args.role at k.c1x (numbers_of c1x) (entries_of c1x)) out over.newer_is)
    (subst (λ (k : Cursors). IsInput sizes file space c.args.role at k.c2 (numbers_of c2) (entries_of c2)) out over.older_is)
    over.finished
    (subst (λ (k : Cursors). IsFront true at (Some k.c1x) (entries_of c1x) (entries_of c2) (entries_of over.pages) c.args.ahead.done.left) out over.front)

pub returns-clause-running : goal.returns-clause-running
returns-clause-running c = λ sizes honest file space guide on.
    let at = Some c.args.ahead.done.key in
    let out = sym c.into_inner-c1x.ensures in
    c.resume.ensures.running sizes honest file space guide.filter guide.fences on.0 on.1
    (subst (λ (k : Cursors). IsReady at k.c1x) out c.requires.2.newer_ready)
    (subst (λ (k : Cursors). IsReady at k.c2) out c.requires.2.older_ready)
