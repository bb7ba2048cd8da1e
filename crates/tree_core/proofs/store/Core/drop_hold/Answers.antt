use Rattle.std.specs.Prelude.{◌≡◌, true}
use Rattle.std.proofs.Common.{subst}
use Rattle.blsm_model.specs.Stored.{as_reply}
use Rattle.blsm_model.specs.declared.op.Op.TheVariants as op
use Rattle.seat_book.specs.State.{may_note_in}
use Rattle.core_moves.specs.Moves.{with_book}
use Rattle.tree_core.specs.Answers.{reply_to_drop}
use Rattle.tree_core.specs.Calls.{LetsGo}
use Rattle.tree_core.specs.Core.{CoreState}
use Rattle.tree_core.proofs.HoldCalls.{drop_does}
use Rattle.tree_core.proofs.HoldStepsByCall.{noted_before}
use Rattle.tree_core.proofs.LastLemmas.{core_kept}
use Rattle.tree_core.proofs.store.Core.drop_hold.Goals as goal

pub returns : goal.returns
returns g c =
    let old = c.self.inside in
    let dropped = c.let_go-release in
    let e = dropped.ensures in
    let noted = noted_before c.note.new.self op.Release (as_reply c.release_reply.result) (reply_to_drop dropped.result) e.moves c.note.ensures c.release_reply.ensures in
    let new : CoreState g.row.D.Denot = record { disk = old.disk; held = with_book c.note.new.self dropped.new.held; holds = dropped.new.holds } in
    subst (λ (s : CoreState g.row.D.Denot). may_note_in c.args.seat 0 s.held.book ≡ true → LetsGo g.D.Disk.state c.args.seat dropped.result s new) c.self.view_is
    (λ can. drop_does g.D.Disk.state c.args.seat dropped.result (record { disk = old.disk; held = old.held; holds = old.holds }) c.note.new.self c.self.invariant.0 (g.met.D.Disk.timed old.disk) can e.moves e.cause noted) c.requires

pub invariant_of-self : goal.invariant_of-self
invariant_of-self g c = (core_kept g.D.Disk.state c.self.view_is c.self.invariant.0 (returns g c).goes, c.let_go-release.ensures.few c.self.invariant.1)
