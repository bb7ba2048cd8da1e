use Rattle.std.proofs.Common.{◌∙◌, ℕ, ap, subst}
use Rattle.blsm_model.specs.Book.{Book}
use Rattle.tree_machine.specs.declared.step.Kind.TheVariants as kind
use Rattle.tree_core.specs.Calls.{Admits}
use Rattle.tree_core.specs.Ruling.{ruled_by}
use Rattle.tree_session.proofs.WriteLemmas.{not_ruled}
use Rattle.tree_shared.proofs.HoldLemmas.{calls, came_given, even_ok, note_ok, table_given, took, turn_given}
use Rattle.tree_shared.proofs.NoteLemmas.{did_one}
use Rattle.tree_shared.proofs.WriteLemmas.{admit_frees, admit_owes}
use Rattle.tree_shared.proofs.holds.admit.Goals as goal

pub admit-answer-requires-clause-note : goal.admit-answer-requires-clause-note
admit-answer-requires-clause-note g c = note_ok g.D.Disk.state c.args.caller.now c.take-core.result c.take-core.ensures.2 c.number-seat.ensures 0 c.requires.comes

pub admit-answer-requires-clause-even : goal.admit-answer-requires-clause-even
admit-answer-requires-clause-even g c = even_ok g.D.Disk.state c.args.caller.now c.take-core.result c.take-core.ensures.2 c.number-seat.ensures c.requires.comes c.requires.comes.knows.part.2

pub give-requires : goal.give-requires
give-requires g c =
    let its = calls g.D.Disk.state (kind.Admit c.args.op.now) c.args.caller.now c.take-core.new.caller c.take-core.result c.admit-answer.new.self
    c.take-core.ensures c.number-seat.ensures (ruled_by c.admit-answer.result c.admit-answer.ensures.0, c.admit-answer.ensures.1) in
    record { lock = table_given its ∙ c.requires.comes.of_lock.0; turn = turn_given its; lasts = came_given its }

pub returns : goal.returns
returns g c =
    let its = calls g.D.Disk.state (kind.Admit c.args.op.now) c.args.caller.now c.take-core.new.caller c.take-core.result c.admit-answer.new.self
    c.take-core.ensures c.number-seat.ensures (ruled_by c.admit-answer.result c.admit-answer.ensures.0, c.admit-answer.ensures.1) in
    let turn = took its c.give.ensures in
    let admits = subst (λ (n : ℕ). Admits g.D.Disk.state n c.args.op.now (ruled_by c.admit-answer.result c.admit-answer.ensures.0) c.take-core.result
    c.admit-answer.new.self) c.number-seat.ensures c.admit-answer.ensures.1 in
    record {
      did = (c.admit-answer.ensures.0, did_one turn c.requires.comes.knows (ap (λ (x : Book). x.entries) admits.notes.annals));
      owing = admit_owes c.requires.comes.number turn admits;
      free = λ not. admit_frees c.requires.comes.number turn admits (not_ruled c.admit-answer.result c.admit-answer.ensures.0 not);
    }
