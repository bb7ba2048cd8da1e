use Rattle.std.specs.Prelude.{◌+◌, is_some}
use Rattle.std.proofs.Common.{◌∙◌, ◌*◌, ◌≤◌, ℕ, refl, ap, sym, arith}
use Rattle.std.proofs.lemmas.Grind.{common_steps}
use Rattle.std.proofs.lemmas.Bool.Decides.{nat_tests}
use Rattle.blsm_model.specs.Format.{most_weight}
use Rattle.tree_runs.specs.Holding.{DeepTakes, cursor_of_pass}
use Rattle.core_moves.proofs.AffectLemmas.{stays_long}
use Rattle.core_moves.proofs.held.Held.deep_quantum.Goals as goal

-- less than a group more than a quantum
few : (least : ℕ) (old new : _) (n : ℕ) → DeepTakes least old new n → n + 1 ≤ least + 2 * most_weight
few least old new n takes = grind (arith, common_steps, nat_tests)

-- where it took one

pub took2-requires-clause-fits : goal.took2-requires-clause-fits
took2-requires-clause-fits g c =
    let held = c.args.self.now in
    omega (arith, few held.runs.sizes.quantum held.runs.deep c.deep_quantum.new.self.deep c.in-Ok.taken c.in-Ok.ensures.takes, c.requires.ready.small.deep_taken c.requires.runs)

pub returns-in-Ok-clause-told : goal.returns-in-Ok-clause-told
returns-in-Ok-clause-told g c = c.in-Ok.ensures.told

pub returns-in-Ok-clause-takes : goal.returns-in-Ok-clause-takes
returns-in-Ok-clause-takes g c = record {
  takes = c.in-Ok.ensures.takes;
  others = c.deep_quantum.ensures.others;
  log = refl;
  gears = c.took2.ensures;
  spring = refl;
  book = c.count_quantum.ensures;
}

pub returns-in-Ok-clause-on : goal.returns-in-Ok-clause-on
returns-in-Ok-clause-on g c = record {
  running = c.in-Ok.ensures.told.running;
  long = stays_long c.args.self.now.runs.sizes c.deep_quantum.new.self.sizes c.deep_quantum.ensures.others.sizes c.requires.ready.on.long c.deep_quantum.ensures.told.effect;
}

-- and where it failed

pub returns-in-Err-clause-told : goal.returns-in-Err-clause-told
returns-in-Err-clause-told g c = c.in-Err.ensures.told

pub returns-in-Err-clause-kept : goal.returns-in-Err-clause-kept
returns-in-Err-clause-kept g c = record {
  sizes = λ failed. c.deep_quantum.ensures.others.sizes;
  catalogue = λ failed. c.deep_quantum.ensures.others.catalogue;
  deep = λ failed. c.deep_quantum.ensures.runs ∙ sym c.requires.runs;
  pass = λ failed. ap is_some c.deep_quantum.ensures.others.pass;
  log = λ failed. refl;
  gears = λ failed. refl;
  spring = λ failed. refl;
  book = λ failed. refl;
  pins = λ failed. c.deep_quantum.ensures.others.takes.pins;
  cursor = λ failed. ap cursor_of_pass c.deep_quantum.ensures.others.pass;
}
