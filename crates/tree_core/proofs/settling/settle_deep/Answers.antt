use Rattle.std.specs.Prelude.{true}
use Rattle.std.proofs.Common.{◌≡◌, ◌∙◌, inr, ap, arith, refl, sym}
use Rattle.std.proofs.lemmas.Bool.{false≢true}
use Rattle.disk_trait.proofs.EffectLemmas.{affects_wider}
use Rattle.tree_core.specs.Causes.{is_deep_due, one_where}
use Rattle.tree_core.proofs.BegunLemmas.{deep_is}
use Rattle.tree_core.proofs.SettlingLemmas.{rests_over}
use Rattle.tree_core.proofs.settling.settle_deep.Goals as goal

pub returns-then-is_deep_done-clause-lists : goal.returns-then-is_deep_done-clause-lists
returns-then-is_deep_done-clause-lists g c = λ tree honest over.
    let made = c.swap_deep.ensures.lists tree honest over in
    (made.0, record { done = λ yes. made.1; rests = λ never. absurd (never (c.is_deep_done.ensures.0 c.if-is_deep_done.true)) }, made.2)

pub returns-else-is_deep_done-clause-settles : goal.returns-else-is_deep_done-clause-settles
returns-else-is_deep_done-clause-settles g c = inr (λ yes. false≢true (sym c.if-is_deep_done.false ∙ c.is_deep_done.ensures.1 yes), refl)

pub returns-else-is_deep_done-clause-lists : goal.returns-else-is_deep_done-clause-lists
returns-else-is_deep_done-clause-lists g c = λ tree honest over. (
  tree,
  record { done = λ yes. absurd (false≢true (sym c.if-is_deep_done.false ∙ c.is_deep_done.ensures.1 yes)); rests = λ never. refl },
  rests_over c.args.held.now.runs tree true (g.D.Disk.state c.args.disk.now) (g.met.D.Disk.timed c.args.disk.now) over,
)

pub swap_deep-requires-clause-done : goal.swap_deep-requires-clause-done
swap_deep-requires-clause-done g c = c.is_deep_done.ensures.0 c.if-is_deep_done.true

pub returns-then-is_deep_done-clause-due : goal.returns-then-is_deep_done-clause-due
returns-then-is_deep_done-clause-due g c = λ failed. c.is_deep_done.ensures.0 c.if-is_deep_done.true

pub returns-then-is_deep_done-clause-effect : goal.returns-then-is_deep_done-clause-effect
returns-then-is_deep_done-clause-effect g c =
    let due : one_where (is_deep_due c.args.held.now) ≡ 1 = ap one_where (deep_is c.args.held.now (c.is_deep_done.ensures.0 c.if-is_deep_done.true)) in
    affects_wider (λ i here. here) (omega arith) (omega (arith, due)) c.swap_deep.ensures.effect
