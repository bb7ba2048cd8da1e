use Rattle.std.proofs.Common.{◌∙◌, ◌≡◌, ℕ, false, ap, subst, arith}
use Rattle.std.proofs.lemmas.Grind.{common_steps}
use Rattle.std.proofs.lemmas.Bool.Decides.{nat_tests}
use Rattle.blsm_model.specs.Book.{Book}
use Rattle.seat_book.specs.Turns.{turned_of}
use Rattle.seat_book.specs.declared.turned.Turned.{Turned}
use Rattle.seat_book.specs.declared.turned.Turned.TheVariants.{Worked}
use Rattle.tree_machine.specs.Machine.{is_worked}
use Rattle.tree_machine.specs.declared.step.Kind.TheVariants as kind
use Rattle.tree_core.specs.Calls.{TurnsOnce}
use Rattle.tree_shared.proofs.HoldLemmas.{calls, came_given, even_ok, table_given, took, turn_given, turn_ok}
use Rattle.tree_shared.proofs.NoteLemmas.{did_none}
use Rattle.tree_shared.proofs.WorkLemmas.{turn_ends, turn_works}
use Rattle.tree_shared.proofs.holds.turn.Goals as goal

not_worked : (answer : Turned) → (answer ≡ Worked → ⊥) → is_worked (turned_of answer) ≡ false
not_worked answer not = grind (arith, common_steps, nat_tests)

pub work_turn-answer-requires-clause-open : goal.work_turn-answer-requires-clause-open
work_turn-answer-requires-clause-open g c = turn_ok g.D.Disk.state c.args.caller.now c.take-core.result c.take-core.ensures.2 c.number-seat.ensures c.args.done c.requires.done c.requires.comes

pub work_turn-answer-requires-clause-even : goal.work_turn-answer-requires-clause-even
work_turn-answer-requires-clause-even g c = even_ok g.D.Disk.state c.args.caller.now c.take-core.result c.take-core.ensures.2 c.number-seat.ensures c.requires.comes c.requires.comes.knows.part.2

pub give-requires : goal.give-requires
give-requires g c =
    let its = calls g.D.Disk.state kind.WorkTurn c.args.caller.now c.take-core.new.caller c.take-core.result c.work_turn-answer.new.self c.take-core.ensures c.number-seat.ensures (turned_of c.work_turn-answer.result, c.work_turn-answer.ensures) in
    record { lock = table_given its ∙ c.requires.comes.of_lock.0; turn = turn_given its; lasts = came_given its }

pub returns : goal.returns
returns g c =
    let its = calls g.D.Disk.state kind.WorkTurn c.args.caller.now c.take-core.new.caller c.take-core.result c.work_turn-answer.new.self c.take-core.ensures c.number-seat.ensures (turned_of c.work_turn-answer.result, c.work_turn-answer.ensures) in
    let turn = took its c.give.ensures in
    let turns = subst (λ (n : ℕ). TurnsOnce g.D.Disk.state n (turned_of c.work_turn-answer.result) c.take-core.result c.work_turn-answer.new.self) c.number-seat.ensures c.work_turn-answer.ensures in
    record {
      did = did_none turn c.requires.comes.knows (ap (λ (x : Book). x.entries) turns.counts.annals);
      working = turn_works c.requires.comes.number turn turns c.args.done;
      early = λ not n entries rows. turn_ends c.requires.comes.number turn turns (not_worked c.work_turn-answer.result not) c.args.done n entries rows;
    }
