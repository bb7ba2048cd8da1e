use Rattle.std.proofs.Common.{◌∙◌, ℕ, subst}
use Rattle.blsm_model.specs.Stored.{as_reply}
use Rattle.tree_machine.specs.declared.step.Kind.TheVariants as kind
use Rattle.tree_core.specs.Calls.{EndsWork}
use Rattle.tree_shared.proofs.HoldLemmas.{calls, came_given, end_ok, table_given, took, turn_given}
use Rattle.tree_shared.proofs.NoteLemmas.{did_one}
use Rattle.tree_shared.proofs.WorkLemmas.{end_frees, end_notes}
use Rattle.tree_shared.proofs.holds.end_work.Goals as goal

pub work_end-answer-requires : goal.work_end-answer-requires
work_end-answer-requires g c = end_ok g.D.Disk.state c.args.caller.now c.take-core.result c.take-core.ensures.2 c.number-seat.ensures c.args.n c.requires.comes

pub give-requires : goal.give-requires
give-requires g c =
    let its = calls g.D.Disk.state (kind.WorkEnd c.args.n) c.args.caller.now c.take-core.new.caller c.take-core.result c.work_end-answer.new.self c.take-core.ensures c.number-seat.ensures (as_reply c.work_end-answer.result, c.work_end-answer.ensures) in
    record { lock = table_given its ∙ c.requires.comes.of_lock.0; turn = turn_given its; lasts = came_given its }

pub returns : goal.returns
returns g c =
    let its = calls g.D.Disk.state (kind.WorkEnd c.args.n) c.args.caller.now c.take-core.new.caller c.take-core.result c.work_end-answer.new.self c.take-core.ensures c.number-seat.ensures (as_reply c.work_end-answer.result, c.work_end-answer.ensures) in
    let turn = took its c.give.ensures in
    let ends = subst (λ (n : ℕ). EndsWork g.D.Disk.state n c.args.n (as_reply c.work_end-answer.result) c.take-core.result c.work_end-answer.new.self) c.number-seat.ensures c.work_end-answer.ensures in
    record { did = did_one turn c.requires.comes.knows (end_notes c.requires.comes.number turn ends); free = end_frees c.requires.comes.number turn ends }
