use Rattle.std.specs.Prelude.{◌≡◌, true}
use Rattle.std.proofs.Common.{refl, subst, ap, ◌∙◌}
use Rattle.blsm_model.specs.declared.history.Reply.{Reply}
use Rattle.blsm_model.specs.declared.key.Key.{Key}
use Rattle.blsm_model.specs.declared.op.Op.TheVariants.{Get}
use Rattle.blsm_model.specs.Stored.{as_reply}
use Rattle.core_moves.specs.Moves.{with_book}
use Rattle.seat_book.specs.State.{may_note_in, noted_in}
use Rattle.tree_core.specs.Calls.{Gets}
use Rattle.tree_core.specs.Core.{CoreState}
use Rattle.tree_core.proofs.LastLemmas.{kept_on}
use Rattle.tree_core.proofs.LookupSteps.{get_does}
use Rattle.tree_core.proofs.store.Core.get.Goals as goal

pub returns : goal.returns
returns g c =
    let old = c.self.inside in
    let found = c.look_up-found.result in
    let e = c.look_up-found.ensures in
    let noted = c.note.ensures ∙ ap (λ (k : Key). noted_in c.args.seat (Get k) (as_reply c.reply_of.result) old.held.book) c.copy.ensures ∙ ap (λ (r : Reply). noted_in c.args.seat (Get c.args.key.now) r old.held.book) c.reply_of.ensures in
    let new : CoreState g.row.D.Denot = record { disk = c.look_up-found.new.disk; held = with_book c.note.new.self old.held; holds = old.holds } in
    subst (λ (s : CoreState g.row.D.Denot). may_note_in c.args.seat 0 s.held.book ≡ true → Gets g.D.Disk.state c.args.seat c.args.key.now found s new) c.self.view_is
    (λ can. get_does g.D.Disk.state c.args.seat c.args.key.now found (record { disk = old.disk; held = old.held; holds = old.holds }) c.look_up-found.new.disk c.note.new.self c.self.invariant.0 (g.met.D.Disk.timed c.look_up-found.new.disk) can
    e.cause e.counted (λ tree honest holds catalogue guided dropped runs no_fault. e.value tree honest holds catalogue guided dropped runs no_fault)
    (λ n counts. e.reads n counts) (λ hides. e.hidden hides) (λ none. e.untouched none) noted) c.requires

pub invariant_of-self : goal.invariant_of-self
invariant_of-self g c = kept_on g.D.Disk.state c.self.view_is (g.met.D.Disk.timed c.self.inside.disk) c.self.invariant refl (returns g c).goes
