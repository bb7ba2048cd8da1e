use Rattle.std.proofs.Common.{true, [], ◌∷◌, Some, inl, sym, subst}
use Rattle.merge_ends.specs.Merge.{MergeState}
use Rattle.merge_ends.specs.Output.{HasRun}
use Rattle.merge_ends.specs.Progress.{IsRunning}
use Rattle.deep_merge.proofs.deep.Deep.resume.Goals as goal

pub returns-clause-running : goal.returns-clause-running
returns-clause-running c = λ sizes honest file space filter fences pages has newer older.
    let is = c.resume.ensures.resumed in
    let run = c.resume.ensures.run sizes honest file space filter fences pages has in
    subst (λ (m : MergeState). IsRunning sizes honest file space m.writer m.at (c.args.c1x ∷ m.older ∷ []) filter fences) (sym is)
    (record { run = subst (λ (m : MergeState). HasRun sizes honest file space m.writer filter fences m.at) is run; behind = (inl newer, (inl older, tt)) })

pub returns-clause-merge : goal.returns-clause-merge
returns-clause-merge c = λ sizes file space filter fences news olds newer older pages newer_is older_is has front.
    c.resume.ensures.merging true sizes file space (Some c.args.c1x) [] filter fences news olds newer older pages newer_is older_is has front
