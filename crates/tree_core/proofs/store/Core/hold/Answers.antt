use Rattle.std.specs.Prelude.{◌≡◌, true}
use Rattle.std.proofs.Common.{subst}
use Rattle.blsm_model.specs.Stored.{as_reply}
use Rattle.seat_book.specs.State.{may_note_in}
use Rattle.core_moves.specs.Moves.{with_book}
use Rattle.tree_core.specs.Answers.{reply_to_hold}
use Rattle.tree_core.specs.Calls.{HoldsRange}
use Rattle.tree_core.specs.Core.{CoreState}
use Rattle.tree_core.proofs.HoldCalls.{hold_does}
use Rattle.tree_core.proofs.HoldSteps.{hold_fits}
use Rattle.tree_core.proofs.HoldStepsByCall.{noted_hold}
use Rattle.tree_core.proofs.LastLemmas.{core_kept}
use Rattle.tree_core.proofs.store.Core.hold.Goals as goal

pub take_hold-holding-requires-clause-fits : goal.take_hold-holding-requires-clause-fits
take_hold-holding-requires-clause-fits g c = λ runs.
    let core = c.self.invariant.0 in
    hold_fits c.self.inside.held core.pace (core.holds.live runs).paced

pub returns : goal.returns
returns g c =
    let old = c.self.inside in
    let taken = c.take_hold-holding in
    let e = taken.ensures in
    let noted = noted_hold c.note.new.self c.copy.result c.args.low.now c.copy-2.result c.args.high.now (as_reply c.held_reply.result) (reply_to_hold taken.result) e.moves c.note.ensures c.copy.ensures c.copy-2.ensures c.held_reply.ensures in
    let new : CoreState g.row.D.Denot = record { disk = old.disk; held = with_book c.note.new.self taken.new.held; holds = taken.new.holds } in
    subst (λ (s : CoreState g.row.D.Denot). may_note_in c.args.seat 0 s.held.book ≡ true → HoldsRange g.D.Disk.state c.args.seat c.args.low.now c.args.high.now taken.result s new) c.self.view_is
    (λ can. hold_does g.D.Disk.state c.args.seat c.args.low.now c.args.high.now taken.result (record { disk = old.disk; held = old.held; holds = old.holds }) c.note.new.self c.self.invariant.0 (g.met.D.Disk.timed old.disk) can
    e.moves e.cause e.rows noted) c.requires

pub invariant_of-self : goal.invariant_of-self
invariant_of-self g c = (core_kept g.D.Disk.state c.self.view_is c.self.invariant.0 (returns g c).goes, c.take_hold-holding.ensures.few c.self.invariant.1)
