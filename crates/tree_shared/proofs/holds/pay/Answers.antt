use Rattle.std.proofs.Common.{◌∙◌, ℕ, ap, subst}
use Rattle.blsm_model.specs.Book.{Book}
use Rattle.tree_machine.specs.declared.step.Kind.TheVariants as kind
use Rattle.tree_core.specs.Calls.{Pays}
use Rattle.tree_shared.proofs.HoldLemmas.{calls, came_given, table_given, took, turn_given}
use Rattle.tree_shared.proofs.NoteLemmas.{did_none}
use Rattle.tree_shared.proofs.WriteLemmas.{paid_entries, pay_frees, pay_owes}
use Rattle.tree_shared.proofs.holds.pay.Goals as goal

pub give-requires : goal.give-requires
give-requires g c =
    let its = calls g.D.Disk.state kind.Pay c.args.caller.now c.take-core.new.caller c.take-core.result c.pay-answer.new.self c.take-core.ensures c.number-seat.ensures (c.pay-answer.result, c.pay-answer.ensures) in
    record { lock = table_given its ∙ c.requires.comes.of_lock.0; turn = turn_given its; lasts = came_given its }

pub returns : goal.returns
returns g c =
    let its = calls g.D.Disk.state kind.Pay c.args.caller.now c.take-core.new.caller c.take-core.result c.pay-answer.new.self c.take-core.ensures c.number-seat.ensures (c.pay-answer.result, c.pay-answer.ensures) in
    let turn = took its c.give.ensures in
    let pays = subst (λ (n : ℕ). Pays g.D.Disk.state n c.pay-answer.result c.take-core.result c.pay-answer.new.self) c.number-seat.ensures c.pay-answer.ensures in
    record {
      did = did_none turn c.requires.comes.knows (ap (λ (x : Book). x.entries) pays.counts.annals ∙ paid_entries c.pay-answer.result c.args.caller.now.number c.take-core.result.held.book.book);
      owing = pay_owes c.requires.comes.number turn pays;
      free = pay_frees c.requires.comes.number turn pays;
    }
