use Rattle.std.proofs.Common.{◌∙◌, ℕ, ap, subst}
use Rattle.blsm_model.specs.Book.{Book}
use Rattle.seat_book.specs.Turns.{turned_of}
use Rattle.tree_machine.specs.declared.step.Kind.TheVariants as kind
use Rattle.tree_core.specs.Calls.{Helps}
use Rattle.tree_shared.proofs.HoldLemmas.{calls, came_given, table_given, took, turn_given}
use Rattle.tree_shared.proofs.NoteLemmas.{did_none}
use Rattle.tree_shared.proofs.EndLemmas.{help_counts, help_over}
use Rattle.tree_shared.proofs.holds.help.Goals as goal

pub give-requires : goal.give-requires
give-requires g c =
    let its = calls g.D.Disk.state kind.WorkerTurn c.args.caller.now c.take-core.new.caller c.take-core.result c.worker_turn-answer.new.self c.take-core.ensures c.number-seat.ensures (turned_of c.worker_turn-answer.result, c.worker_turn-answer.ensures) in
    record { lock = table_given its ∙ c.requires.lock.0; turn = turn_given its; lasts = came_given its }

pub returns : goal.returns
returns g c =
    let its = calls g.D.Disk.state kind.WorkerTurn c.args.caller.now c.take-core.new.caller c.take-core.result c.worker_turn-answer.new.self c.take-core.ensures c.number-seat.ensures (turned_of c.worker_turn-answer.result, c.worker_turn-answer.ensures) in
    let turn = took its c.give.ensures in
    let helps = subst (λ (n : ℕ). Helps g.D.Disk.state n (turned_of c.worker_turn-answer.result) c.take-core.result c.worker_turn-answer.new.self) c.number-seat.ensures c.worker_turn-answer.ensures in
    record {
      did = did_none turn c.requires.knows.2 (ap (λ (x : Book). x.entries) helps.notes.annals);
      helped = help_counts c.worker_turn-answer.result turn helps;
      over = help_over c.worker_turn-answer.result turn helps;
    }
