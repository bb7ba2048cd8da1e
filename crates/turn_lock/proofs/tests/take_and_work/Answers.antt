use Rattle.std.proofs.Common.{ap, sym, refl, inr, ◌∙◌}
use Rattle.blsm_model.specs.Book.{Book}
use Rattle.turn_lock.specs.Tallies.{work_by}
use Rattle.turn_lock.specs.Callers.{Held}
use Rattle.turn_lock.specs.declared.tally.Tally.{Tally}
use Rattle.turn_lock.proofs.Seen.{prefix_notes}
use Rattle.turn_lock.proofs.tests.take_and_work.Goals as goal

pub returns-clause-lasts : goal.returns-clause-lasts
returns-clause-lasts g c a ea =
    let taken = c.take-value.ensures in
    let was = sym (ap (λ (h : Held Tally). h.me.0.start) taken.1) ∙ ea in
    prefix_notes c.number.result a.annals.entries _ _ (inr (work_by c.number.result 0, refl, ap (λ (b : Book). b.entries) c.work.ensures)) (taken.2.lasts a was)
