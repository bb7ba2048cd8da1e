use Rattle.std.specs.Prelude.{ℕ, ◌<◌, IsTrue}
use Rattle.std.proofs.Common.{arith}
use Rattle.blsm_model.specs.Format.{callers}
use Rattle.blsm_model.specs.declared.history.Reply.TheVariants.{Done}
use Rattle.blsm_model.specs.declared.op.Op.TheVariants.{Work}
use Rattle.seat_book.specs.State.{BookState, may_note_in}
use Rattle.seat_book.proofs.WordLemmas.{note_has_room}
use Rattle.tree_machine.specs.Machine as machine
use Rattle.tree_session.proofs.WorkLemmas.{turning_none, turning_more, turned_early, turned_all}
use Rattle.tree_session.proofs.works.turn.Goals as goal

-- whoever may note is a caller
caller_is : (b : BookState) (seat n : ℕ) → IsTrue (may_note_in seat 0 b) → seat < callers
caller_is b seat n may = (note_has_room b seat 0 (Work n) Done may (omega arith)).seat

pub loop-turn-init : goal.loop-turn-init
loop-turn-init g c = turning_none g.D.Disk.state c.args.seat c.args.core.now c.requires.rests c.kept.ensures.begins

pub returns-in_default : goal.returns-in_default
returns-in_default g c =
    turned_early g.D.Disk.state c.args.seat c.args.n c.loop-turn._turn c.work_turn.result c.args.core.now c.loop-turn.core c.work_turn.new.self (caller_is c.args.core.now.held.book c.args.seat c.args.n c.requires.note) (omega arith)
    c.in_default.not-Worked c.loop-turn.invariant c.work_turn.ensures

pub loop-turn-preserved : goal.loop-turn-preserved
loop-turn-preserved g c =
    turning_more g.D.Disk.state c.args.seat c.loop-turn._turn machine.Worked c.args.core.now c.loop-turn.core c.work_turn.new.self (caller_is c.args.core.now.held.book c.args.seat c.args.n c.requires.note) c.loop-turn.invariant
    c.in-Worked.ensures

pub returns : goal.returns
returns g c = turned_all g.D.Disk.state c.args.seat c.args.n c.loop-turn._turn c.args.core.now c.loop-turn.core (omega arith) c.loop-turn.invariant
