use Rattle.std.proofs.Common.{◌∙◌, ℕ, ap, subst}
use Rattle.tree_machine.specs.declared.step.Kind.TheVariants as kind
use Rattle.core_moves.specs.declared.held.Held.{Held}
use Rattle.tree_core.specs.Calls.{Leaves}
use Rattle.tree_shared.proofs.HoldLemmas.{calls, came_given, table_given, took, turn_given}
use Rattle.tree_shared.proofs.NoteLemmas.{did_none}
use Rattle.tree_shared.proofs.EndLemmas.{leave_goes, left_as}
use Rattle.tree_shared.proofs.holds.leave.Goals as goal

pub give-requires : goal.give-requires
give-requires g c =
    let its = calls g.D.Disk.state kind.Leave c.args.caller.now c.take-core.new.caller c.take-core.result c.leave.new.self c.take-core.ensures c.number-seat.ensures c.leave.ensures in
    record { lock = table_given its ∙ c.requires.comes.of_lock.0; turn = turn_given its; lasts = came_given its }

pub returns : goal.returns
returns g c =
    let its = calls g.D.Disk.state kind.Leave c.args.caller.now c.take-core.new.caller c.take-core.result c.leave.new.self c.take-core.ensures c.number-seat.ensures c.leave.ensures in
    let turn = took its c.give.ensures in
    let leaves = subst (λ (n : ℕ). Leaves g.D.Disk.state n c.take-core.result c.leave.new.self) c.number-seat.ensures c.leave.ensures in
    let gone = leave_goes c.requires.comes.number turn leaves c.requires.comes.knows in
    record { did = did_none turn c.requires.comes.knows (ap (λ (h : Held). h.book.book.entries) leaves.held); gone = (gone, left_as turn leaves c.requires.comes.knows gone) }
