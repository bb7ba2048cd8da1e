use Rattle.std.specs.Prelude.{◌≡◌, ℕ, ◌+◌, Bool, true, false, is_ok}
use Rattle.std.proofs.Common.{◌∙◌, cond, refl, ap, sym, subst, arith}
use Rattle.std.proofs.lemmas.Result.{err_from_is_err_and}
use Rattle.record_delta.specs.Entries.{entries_weight}
use Rattle.gear_sched.specs.Gears.{rotated, pass_ended}
use Rattle.mem_table.specs.Tables.{Contents}
use Rattle.catalog_swap.specs.declared.catalog.Catalog.{Catalog}
use Rattle.tree_runs.specs.Runs.{made_by_pass}
use Rattle.tree_runs.specs.Holding.{HasAllAhead, LeavesSwapped, progress_of, with_pass_run}
use Rattle.core_moves.specs.Held.{is_run_full}
use Rattle.core_moves.proofs.AffectLemmas.{stays_long, sum_fits}
use Rattle.core_moves.proofs.held.Held.swap_pass.Goals as goal

pub returns-in_err-rotated-clause-lists : goal.returns-in_err-rotated-clause-lists
returns-in_err-rotated-clause-lists g c = λ tree honest over ahead.
    let held = c.args.self.now in
    let old = g.D.Disk.state c.args.disk.now in
    let new = g.D.Disk.state c.swap_pass.new.disk in
    let p = err_from_is_err_and c.from_residual.result c.from_residual.ensures.1 in
    let left = c.in_err-rotated.ensures.lists tree honest over (subst (λ (t : Contents). HasAllAhead held.runs.pass t.entries tree)
    (sym c.a.ensures) ahead) in
    (left.0, left.1, subst (λ (b : Bool). LeavesSwapped held.runs c.swap_pass.new.self tree left.0 b old new) (sym (ap is_ok p.1)) left.2)

pub returns-in_err-rotated-clause-effect : goal.returns-in_err-rotated-clause-effect
returns-in_err-rotated-clause-effect g c = c.swap_pass.ensures.effect

pub end_pass-requires : goal.end_pass-requires
end_pass-requires g c = λ rotated.
    let held = c.args.self.now in
    let made = made_by_pass held.runs.pass in
    let fits = c.requires.ready.fits in
    let full : is_run_full held ≡ true = sym c.in_ok-rotated.ensures.rotated ∙ rotated in
    let next = c.catalogue-now.ensures ∙ c.in_ok-rotated.ensures.swaps.catalogue in
    sum_fits held.runs.sizes made.weight held.runs.catalogue.c2.weight c.catalogue-now.result.now.c1x.weight c.catalogue-now.result.now.c2.weight
    c.requires.ready.on.running.in_order.geometry (omega (arith, fits.made)) (omega (arith, fits.live))
    (ap (λ (n : Catalog). n.c1x.weight) next ∙ ap (λ (b : Bool). (cond b made held.runs.catalogue.c1x).weight) full)
    (ap (λ (n : Catalog). n.c2.weight) next)

pub returns-clause-lists : goal.returns-clause-lists
returns-clause-lists g c = λ tree honest over ahead.
    c.in_ok-rotated.ensures.lists tree honest over
    (subst (λ (t : Contents). HasAllAhead c.args.self.now.runs.pass t.entries tree) (sym c.a.ensures) ahead)

pub returns-clause-swaps : goal.returns-clause-swaps
returns-clause-swaps g c = record {
  runs = c.in_ok-rotated.ensures.swaps;
  log = c.turn.ensures.log;
  turns = c.turn.ensures.turns;
  gears = c.end_pass.ensures ∙ ap (λ (b : Bool). cond b (rotated (pass_ended c.args.self.now.gears) (c.catalogue-now.result.now.c1x.weight + c.catalogue-now.result.now.c2.weight)) (pass_ended c.args.self.now.gears)) c.in_ok-rotated.ensures.rotated ∙ gears_are (is_run_full c.args.self.now) refl;
  spring = c.weight-self.ensures.weight ∙ ap (λ (t : Contents). entries_weight t.entries) c.b.ensures;
  book = c.count_pass.ensures;
}
  where
    next : c.catalogue-now.result.now ≡ with_pass_run c.args.self.now.runs.sizes (made_by_pass c.args.self.now.runs.pass)
        (progress_of c.args.self.now.runs.catalogue c.args.self.now.runs.deep) c.args.self.now.runs.catalogue
    next = c.catalogue-now.ensures ∙ c.in_ok-rotated.ensures.swaps.catalogue

    gears_are : (b : Bool) → is_run_full c.args.self.now ≡ b
        → cond b (rotated (pass_ended c.args.self.now.gears) (c.catalogue-now.result.now.c1x.weight + c.catalogue-now.result.now.c2.weight)) (pass_ended c.args.self.now.gears)
        ≡ cond b (rotated (pass_ended c.args.self.now.gears) ((made_by_pass c.args.self.now.runs.pass).weight + c.args.self.now.runs.catalogue.c2.weight)) (pass_ended c.args.self.now.gears)
    gears_are false is = refl
    gears_are true is =
        let c1x : c.catalogue-now.result.now.c1x.weight ≡ (made_by_pass c.args.self.now.runs.pass).weight =
        ap (λ (n : Catalog). n.c1x.weight) next ∙ ap (λ (b : Bool). (cond b (made_by_pass c.args.self.now.runs.pass) c.args.self.now.runs.catalogue.c1x).weight) is in
        let c2 : c.catalogue-now.result.now.c2.weight ≡ c.args.self.now.runs.catalogue.c2.weight = ap (λ (n : Catalog). n.c2.weight) next in
        ap (λ (n : ℕ). rotated (pass_ended c.args.self.now.gears) n) (ap (λ (n : ℕ). n + c.catalogue-now.result.now.c2.weight) c1x ∙ ap (λ (n : ℕ). (made_by_pass c.args.self.now.runs.pass).weight + n) c2)

pub returns-clause-on : goal.returns-clause-on
returns-clause-on g c = record {
  running = c.in_ok-rotated.ensures.running;
  long = stays_long c.args.self.now.runs.sizes c.swap_pass.new.self.sizes c.in_ok-rotated.ensures.swaps.sizes c.requires.ready.on.long c.swap_pass.ensures.effect;
}

pub returns-clause-effect : goal.returns-clause-effect
returns-clause-effect g c = c.swap_pass.ensures.effect
