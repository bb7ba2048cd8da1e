use Rattle.std.specs.Prelude.{◌≡◌, IsTrue, is_some, true}
use Rattle.std.proofs.Common.{◌∙◌, inl, inr, ap, arith, refl, sym, subst}
use Rattle.std.proofs.lemmas.Bool.{false≢true}
use Rattle.std.proofs.lemmas.Result.{on_ok_weaker}
use Rattle.disk_trait.proofs.EffectLemmas.{affects_wider}
use Rattle.mem_table.specs.Tables.{Contents}
use Rattle.tree_runs.specs.Runs.{left_for_pass}
use Rattle.tree_core.specs.Causes.{is_pass_due, one_where}
use Rattle.tree_core.proofs.BegunLemmas.{pass_is}
use Rattle.tree_core.proofs.SettlingLemmas.{rests_over}
use Rattle.tree_core.proofs.settling.settle_pass.Goals as goal

pub swap_pass-requires-clause-done : goal.swap_pass-requires-clause-done
swap_pass-requires-clause-done g c =
    subst (λ (t : Contents). IsTrue (is_some c.args.held.now.runs.pass) × (left_for_pass c.args.held.now.runs.pass t.entries ≡ 0)) c.a.ensures (c.is_pass_done.ensures.0 c.if-is_pass_done.true)

pub returns-then-is_pass_done-clause-settles : goal.returns-then-is_pass_done-clause-settles
returns-then-is_pass_done-clause-settles g c = on_ok_weaker c.swap_pass.result (λ swaps. inl (
  subst (λ (t : Contents). IsTrue (is_some c.args.held.now.runs.pass) × (left_for_pass c.args.held.now.runs.pass t.entries ≡ 0)) c.a.ensures (c.is_pass_done.ensures.0 c.if-is_pass_done.true),
  swaps,
)) c.swap_pass.ensures.swaps

pub returns-then-is_pass_done-clause-turns : goal.returns-then-is_pass_done-clause-turns
returns-then-is_pass_done-clause-turns g c = on_ok_weaker c.swap_pass.result (λ turns done. turns) c.swap_pass.ensures.turns

pub returns-then-is_pass_done-clause-due : goal.returns-then-is_pass_done-clause-due
returns-then-is_pass_done-clause-due g c = λ failed.
    subst (λ (t : Contents). IsTrue (is_some c.args.held.now.runs.pass) × (left_for_pass c.args.held.now.runs.pass t.entries ≡ 0)) c.a.ensures (c.is_pass_done.ensures.0 c.if-is_pass_done.true)

pub returns-then-is_pass_done-clause-lists : goal.returns-then-is_pass_done-clause-lists
returns-then-is_pass_done-clause-lists g c = λ tree honest over ahead.
    let made = c.swap_pass.ensures.lists tree honest over ahead in (
      made.0,
      record {
        done = λ yes. made.1;
        rests = λ never. absurd (never (subst (λ (t : Contents). IsTrue (is_some c.args.held.now.runs.pass) × (left_for_pass c.args.held.now.runs.pass t.entries ≡ 0)) c.a.ensures (c.is_pass_done.ensures.0 c.if-is_pass_done.true)));
      },
      made.2,
    )

pub returns-else-is_pass_done-clause-settles : goal.returns-else-is_pass_done-clause-settles
returns-else-is_pass_done-clause-settles g c = inr (
  (λ yes. false≢true (sym c.if-is_pass_done.false
      ∙ c.is_pass_done.ensures.1 (subst (λ (t : Contents). IsTrue (is_some c.args.held.now.runs.pass) × (left_for_pass c.args.held.now.runs.pass t.entries ≡ 0)) (sym c.a.ensures) yes))),
  refl,
)

pub returns-else-is_pass_done-clause-turns : goal.returns-else-is_pass_done-clause-turns
returns-else-is_pass_done-clause-turns g c = λ yes. absurd (false≢true (sym c.if-is_pass_done.false
    ∙ c.is_pass_done.ensures.1 (subst (λ (t : Contents). IsTrue (is_some c.args.held.now.runs.pass) × (left_for_pass c.args.held.now.runs.pass t.entries ≡ 0)) (sym c.a.ensures) yes)))

pub returns-else-is_pass_done-clause-lists : goal.returns-else-is_pass_done-clause-lists
returns-else-is_pass_done-clause-lists g c = λ tree honest over ahead. (
  tree,
  record {
    done = λ yes. absurd (false≢true (sym c.if-is_pass_done.false
        ∙ c.is_pass_done.ensures.1 (subst (λ (t : Contents). IsTrue (is_some c.args.held.now.runs.pass) × (left_for_pass c.args.held.now.runs.pass t.entries ≡ 0)) (sym c.a.ensures) yes)));
    rests = λ never. refl;
  },
  rests_over c.args.held.now.runs tree true (g.D.Disk.state c.args.disk.now) (g.met.D.Disk.timed c.args.disk.now) over,
)

pub returns-then-is_pass_done-clause-effect : goal.returns-then-is_pass_done-clause-effect
returns-then-is_pass_done-clause-effect g c =
    let is = subst (λ (t : Contents). IsTrue (is_some c.args.held.now.runs.pass) × (left_for_pass c.args.held.now.runs.pass t.entries ≡ 0)) c.a.ensures (c.is_pass_done.ensures.0 c.if-is_pass_done.true) in
    let due : one_where (is_pass_due c.args.held.now) ≡ 1 = ap one_where (pass_is c.args.held.now is) in
    affects_wider (λ i here. here) (omega arith) (omega (arith, due)) c.swap_pass.ensures.effect
