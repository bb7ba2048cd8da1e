use Rattle.std.proofs.Common.{◌∙◌, ℕ, ◌≤◌, ap, subst, arith}
use Rattle.std.proofs.lemmas.Grind.{common_steps}
use Rattle.std.proofs.lemmas.Bool.Decides.{nat_tests}
use Rattle.std.specs.Prelude.{length}
use Rattle.blsm_model.specs.Book.{rows_given}
use Rattle.tree_machine.specs.declared.step.Kind.TheVariants as kind
use Rattle.core_moves.specs.declared.held.Held.{Held}
use Rattle.tree_core.specs.Answers.{reply_to_drop}
use Rattle.tree_core.specs.Calls.{LetsGo}
use Rattle.tree_core.specs.declared.answers.Release.{Release}
use Rattle.tree_shared.proofs.HoldLemmas.{calls, came_given, note_ok, table_given, took, turn_given}
use Rattle.tree_shared.proofs.NoteLemmas.{answers}
use Rattle.tree_shared.proofs.holds.let_go.Goals as goal

gives_none : (answer : Release) → length (rows_given (reply_to_drop answer)) ≤ 0
gives_none answer = grind (arith, common_steps, nat_tests)

pub drop_hold-answer-requires : goal.drop_hold-answer-requires
drop_hold-answer-requires g c = note_ok g.D.Disk.state c.args.caller.now c.take-core.result c.take-core.ensures.2 c.number-seat.ensures 0 c.requires.comes

pub give-requires : goal.give-requires
give-requires g c =
    let its = calls g.D.Disk.state kind.Release c.args.caller.now c.take-core.new.caller c.take-core.result c.drop_hold-answer.new.self c.take-core.ensures c.number-seat.ensures (c.drop_hold-answer.result, c.drop_hold-answer.ensures) in
    record { lock = table_given its ∙ c.requires.comes.of_lock.0; turn = turn_given its; lasts = came_given its }

pub returns : goal.returns
returns g c =
    let its = calls g.D.Disk.state kind.Release c.args.caller.now c.take-core.new.caller c.take-core.result c.drop_hold-answer.new.self c.take-core.ensures c.number-seat.ensures (c.drop_hold-answer.result, c.drop_hold-answer.ensures) in
    let did = subst (λ (n : ℕ). LetsGo g.D.Disk.state n c.drop_hold-answer.result c.take-core.result c.drop_hold-answer.new.self) c.number-seat.ensures c.drop_hold-answer.ensures in
    answers (took its c.give.ensures) c.requires.comes did.book (ap (λ (h : Held). h.gears) did.others.rest) (gives_none c.drop_hold-answer.result)
