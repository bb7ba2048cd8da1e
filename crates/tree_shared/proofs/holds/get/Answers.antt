use Rattle.std.proofs.Common.{◌∙◌, ℕ, ◌≤◌, ap, subst, arith}
use Rattle.std.proofs.lemmas.Grind.{common_steps}
use Rattle.std.proofs.lemmas.Bool.Decides.{nat_tests}
use Rattle.std.specs.Prelude.{length}
use Rattle.blsm_model.specs.Book.{rows_given}
use Rattle.blsm_model.specs.declared.op.Op.TheVariants as op
use Rattle.tree_machine.specs.declared.step.Kind.TheVariants as kind
use Rattle.core_moves.specs.declared.held.Held.{Held}
use Rattle.tree_core.specs.Answers.{reply_to_get}
use Rattle.tree_core.specs.Calls.{Gets}
use Rattle.tree_core.specs.declared.answers.Lookup.{Lookup}
use Rattle.tree_core.proofs.LookupSteps.{get_looks}
use Rattle.tree_shared.proofs.HoldLemmas.{calls, came_given, note_ok, table_given, took, turn_given}
use Rattle.tree_shared.proofs.NoteLemmas.{answers}
use Rattle.tree_shared.proofs.holds.get.Goals as goal

gives_none : (answer : Lookup) → length (rows_given (reply_to_get answer)) ≤ 0
gives_none answer = grind (arith, common_steps, nat_tests)

pub get-answer-requires : goal.get-answer-requires
get-answer-requires g c = note_ok g.D.Disk.state c.args.caller.now c.take-core.result c.take-core.ensures.2 c.number-seat.ensures 0 c.requires.comes

pub give-requires : goal.give-requires
give-requires g c =
    let its = calls g.D.Disk.state (kind.Look (op.Get c.args.key.now)) c.args.caller.now c.take-core.new.caller c.take-core.result c.get-answer.new.self c.take-core.ensures c.number-seat.ensures (reply_to_get c.get-answer.result, get_looks g.D.Disk.state c.number-seat.result c.args.key.now c.get-answer.result c.take-core.result c.get-answer.new.self c.get-answer.ensures) in
    record { lock = table_given its ∙ c.requires.comes.of_lock.0; turn = turn_given its; lasts = came_given its }

pub returns : goal.returns
returns g c =
    let its = calls g.D.Disk.state (kind.Look (op.Get c.args.key.now)) c.args.caller.now c.take-core.new.caller c.take-core.result c.get-answer.new.self c.take-core.ensures c.number-seat.ensures (reply_to_get c.get-answer.result, get_looks g.D.Disk.state c.number-seat.result c.args.key.now c.get-answer.result c.take-core.result c.get-answer.new.self c.get-answer.ensures) in
    let gets = subst (λ (n : ℕ). Gets g.D.Disk.state n c.args.key.now c.get-answer.result c.take-core.result c.get-answer.new.self) c.number-seat.ensures c.get-answer.ensures in
    answers (took its c.give.ensures) c.requires.comes (ap (λ (h : Held). h.book) gets.held) (ap (λ (h : Held). h.gears) gets.held) (gives_none c.get-answer.result)
