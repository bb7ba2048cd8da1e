use Rattle.std.specs.Prelude.{◌≡◌, true}
use Rattle.std.proofs.Common.{refl, subst}
use Rattle.blsm_model.specs.Stored.{as_reply}
use Rattle.core_moves.specs.Moves.{with_book}
use Rattle.seat_book.specs.State.{may_end_in}
use Rattle.tree_core.specs.Calls.{EndsWork}
use Rattle.tree_core.specs.Core.{CoreState}
use Rattle.tree_core.proofs.BookSteps.{end_does}
use Rattle.tree_core.proofs.LastLemmas.{kept_on}
use Rattle.tree_core.proofs.store.Core.work_end.Goals as goal

pub returns : goal.returns
returns g c =
    let new : CoreState g.row.D.Denot = record { disk = c.self.inside.disk; held = with_book c.end_work.new.self c.self.inside.held; holds = c.self.inside.holds } in
    subst (λ (s : CoreState g.row.D.Denot). may_end_in c.args.seat c.args.n s.held.book ≡ true → EndsWork g.D.Disk.state c.args.seat c.args.n (as_reply c.end_work.result) s new) c.self.view_is
    (λ can. end_does g.D.Disk.state c.args.seat c.args.n (as_reply c.end_work.result) _ c.end_work.new.self c.self.invariant.0 (g.met.D.Disk.timed c.self.inside.disk) c.entries-entries.ensures.places.work can c.end_work.ensures.reply c.end_work.ensures.book) c.requires

pub invariant_of-self : goal.invariant_of-self
invariant_of-self g c = kept_on g.D.Disk.state c.self.view_is (g.met.D.Disk.timed c.self.inside.disk) c.self.invariant refl (returns g c).goes
