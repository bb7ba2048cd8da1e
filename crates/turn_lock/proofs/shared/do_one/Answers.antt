use Rattle.std.proofs.Common.{ap, sym, refl, inr, ◌∙◌, ℕ}
use Rattle.blsm_model.specs.Book.{Book, noted}
use Rattle.turn_lock.specs.Tallies.{work_by}
use Rattle.turn_lock.specs.Callers.{Held}
use Rattle.turn_lock.specs.declared.tally.Tally.{Tally}
use Rattle.turn_lock.proofs.Seen.{prefix_notes}
use Rattle.turn_lock.proofs.Runs.{room_after_one}
use Rattle.turn_lock.proofs.shared.do_one.Goals as goal

pub give-requires-clause-lasts : goal.give-requires-clause-lasts
give-requires-clause-lasts g c a ea =
    let taken = c.take-value.ensures in
    let was = sym (ap (λ (h : Held Tally). h.me.0.start) taken.1) ∙ ea in
    prefix_notes c.number.result a.annals.entries _ _ (inr (work_by c.number.result c.args.n, refl, ap (λ (b : Book). b.entries) c.work.ensures)) (taken.2.lasts a was)

pub returns-clause-room : goal.returns-clause-room
returns-clause-room g c n room =
    let gave = c.give.ensures in
    room_after_one _ c.args.caller.now c.take-value.new.caller c.give.new.caller c.take-value.result c.work.new.self n c.args.n c.take-value.ensures (ap (λ (h : Held Tally). h.number) gave.1) (ap (λ (h : Held Tally). h.me.0.own) gave.1) (c.work.ensures ∙ ap (λ (x : ℕ). noted c.take-value.result.annals (work_by x c.args.n)) c.number.ensures) room
