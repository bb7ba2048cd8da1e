-- Merges that go on by quanta.
use Rattle.std.proofs.Common.{◌≡◌, ◌≢◌, ◌⊎◌, ⊎_elim, ◌∙◌, ℕ, ◌+◌, ◌*◌, ◌/◌, ◌≤◌, ◌<◌, inl, inr, List, Ok, Err, Option, refl, ap, subst, arith}
use Rattle.std.proofs.lemmas.Grind.{common_steps}
use Rattle.std.proofs.lemmas.Bool.Decides.{nat_tests}
use Rattle.std.specs.Prelude.{IsErrAnd, IsTrue}
use Rattle.std.specs.declared.result.Result.{Result}
use Rattle.disk_trait.specs.Disk.{DiskState}
use Rattle.disk_trait.specs.Effects.{Affects}
use Rattle.disk_trait.proofs.EffectLemmas.{affects_counted, affects_start, affects_more}
use Rattle.disk_trait.specs.Moments.{IsTimed, LeavesOnly}
use Rattle.disk_trait.proofs.MomentLemmas.{leaves_only_start, leaves_only_run}
use Rattle.disk_trait.specs.Region.{Region}
use Rattle.blsm_model.specs.Format.{most_weight}
use Rattle.blsm_model.specs.Sizes.{QuantumFits, Sizes}
use Rattle.blsm_model.specs.Geometry.{file_length}
use Rattle.record_delta.specs.Entries.{Entries}
use Rattle.snow_merge.specs.Pass.{SnowState}
use Rattle.deep_merge.specs.Merge.{DeepState}
use Rattle.tree_file.specs.Tree.{Tree, HoldsTree}
use Rattle.tree_file.specs.Places.{StandsOn}
use Rattle.tree_runs.specs.Runs.{RunsState, AreRunning, left_for_pass, left_for_deep, made_by_pass, made_by_deep}
use Rattle.page_file.specs.declared.file.Broken.{Broken}
use Rattle.tree_runs.specs.Holding.{StandOver, PassTakes, DeepTakes, TellsQuantum}
use Rattle.tree_settling.specs.Settling.{CallsFew, IsTableOf, MergesGoOn, TakesAll, anywhere, due_to_deep, due_to_pass, quantum_calls, taking_calls}
use Rattle.tree_settling.proofs.StepLemmas.{honest_still}
use Rattle.tree_settling.proofs.ToldLemmas.{ends_then, is_err, ok_is_no_err, on_failed, told_then, well_told}

-- ---- what a quantum takes, by the numbers

pub deep_took : (old new : Option DeepState) (least n : ℕ) → DeepTakes least old new n
    → ((made_by_deep new).weight + left_for_deep new ≤ (made_by_deep old).weight + left_for_deep old) × (n + left_for_deep new ≡ left_for_deep old) × ((least ≤ n) ⊎ (left_for_deep new ≡ 0))
deep_took old new least n h1 = grind (arith, common_steps, nat_tests)

pub pass_took : (old new : Option SnowState) (a : Entries) (least n : ℕ) → PassTakes least old new a n
    → ((made_by_pass new).weight + left_for_pass new a ≤ (made_by_pass old).weight + left_for_pass old a) × (n + left_for_pass new a ≡ left_for_pass old a) × ((least ≤ n) ⊎ (left_for_pass new a ≡ 0))
pass_took old new a least n h1 = grind (arith, common_steps, nat_tests)

-- no more than one takes
pub deep_bound : (old new : Option DeepState) (least n : ℕ) → DeepTakes least old new n → n + 1 ≤ least + 2 * most_weight
deep_bound old new least n h1 = grind (arith, common_steps, nat_tests)

pub pass_bound : (old new : Option SnowState) (a : Entries) (least n : ℕ) → PassTakes least old new a n → n + 1 ≤ least + 2 * most_weight
pass_bound old new a least n h1 = grind (arith, common_steps, nat_tests)

-- so less is left than there was
pub less_left : (left old least n : ℕ) → 1 ≤ least → old ≢ 0 → n + left ≡ old → (least ≤ n) ⊎ (left ≡ 0) → left < old
less_left left old least n some there took enough = ⊎_elim (λ much. omega (arith, much, took)) (λ none. omega (arith, none, there)) enough

-- the other merge rests
pub rested : {A : Type 0} {old new : A} (due : A → ℕ) → new ≡ old → due new ≤ due old
rested due same = omega (arith, ap due same)

-- ---- how many calls it took

-- Three bytes were taken for each call so far; or nothing is left, and the calls of the last quantum come on top.
abbrev pub CallsSoFar : Sizes → ℕ → ℕ → DiskState → DiskState → Type 0
CallsSoFar sizes first left before now = (3 * now.clock + left ≤ 3 * before.clock + first) ⊎ ((left ≡ 0) × (3 * now.clock ≤ 3 * before.clock + first + 3 * quantum_calls sizes))

pub calls_none : (sizes : Sizes) (left : ℕ) (d : DiskState) → CallsSoFar sizes left left d d
calls_none sizes left d = inl (omega arith)

pub calls_more : (sizes : Sizes) (first left left' n most least : ℕ) (before mid after : DiskState) → CallsSoFar sizes first left before mid → left ≢ 0 → after.clock ≤ mid.clock + most
    → 3 * most ≤ least → most ≤ quantum_calls sizes → n + left' ≡ left → (least ≤ n) ⊎ (left' ≡ 0) → CallsSoFar sizes first left' before after
calls_more sizes first left left' n most least before mid after so_far there calls paid few took enough =
    ⊎_elim (λ taken. ⊎_elim (λ much. inl (omega (arith, taken, calls, paid, took, much))) (λ none. inr (none, omega (arith, taken, calls, few, took))) enough) (λ none. absurd (there none.0)) so_far

-- one call for three bytes, and those of one quantum
few_by : (first cap before now quantum : ℕ) → 3 * now ≤ 3 * before + first + 3 * quantum → first ≤ cap → now ≤ before + (cap / 3 + quantum)
few_by first cap before now quantum calls within = omega (arith, calls, within)

-- where the quantum after them failed
pub calls_failed : (sizes : Sizes) (weight first left most : ℕ) (before mid after : DiskState) → CallsSoFar sizes first left before mid → left ≢ 0 →
    after.clock ≤ mid.clock + most → most ≤ quantum_calls sizes
    → first ≤ weight → CallsFew (taking_calls sizes weight) before after
calls_failed sizes weight first left most before mid after so_far there calls few within =
    ⊎_elim (λ taken. few_by first weight before.clock after.clock (quantum_calls sizes) (omega (arith, taken, calls, few)) within)
    (λ none. absurd (there none.0)) so_far

-- and where all was taken
pub calls_done : (sizes : Sizes) (weight first left : ℕ) (before after : DiskState) → CallsSoFar sizes first left before after → first ≤ weight →
    CallsFew (taking_calls sizes weight) before after
calls_done sizes weight first left before after so_far within =
    ⊎_elim (λ taken. few_by first weight before.clock after.clock (quantum_calls sizes) (omega (arith, taken)) within)
    (λ none. few_by first weight before.clock after.clock (quantum_calls sizes) (omega (arith, none.1)) within) so_far

-- a quantum's calls are a third of what it takes at most
pub quantum_few : (sizes mid : Sizes) (most : ℕ) → mid ≡ sizes → QuantumFits sizes → most ≤ mid.quantum / 4 + 3 → (3 * most ≤ mid.quantum) × (most ≤ quantum_calls sizes)
quantum_few sizes mid most same fits few = grind (arith, common_steps, nat_tests)

-- ---- merges that go on

pub begun : {a : Entries} {runs : RunsState} {d : DiskState} → IsTimed d → AreRunning d.is_honest d.bytes runs → MergesGoOn a runs runs d d
begun {runs = runs} {d = d} timed running = record {
  running = running;
  sizes = refl;
  catalogue = refl;
  pass = omega arith;
  deep = omega arith;
  stands = λ tree honest is over. over;
  leaves = λ tree honest is over. leaves_only_start d (HoldsTree runs.sizes tree) timed (λ c left. over.stands.each c left);
  calls = 0;
  effect = affects_start d timed;
  calm = refl;
}

-- with calls behind them
pub goes_then : {region : Region} {most : ℕ} {a : Entries} {old mid : RunsState} {before d after : DiskState} → IsTimed d → (goes : MergesGoOn a old mid before d)
    → Affects region (file_length mid.sizes) most d after → Affects anywhere (file_length old.sizes) (goes.calls + most) before after
goes_then timed goes run = affects_more timed goes.calm goes.effect run (λ i here. tt) (omega (arith, ap file_length goes.sizes)) (omega arith)

-- what a call that leaves a tree standing has left of it from the start on
pub left_standing : {a : Entries} {old mid : RunsState} {before d : DiskState} (after : DiskState) → MergesGoOn a old mid before d
    → ((tree : Tree) → IsTrue d.is_honest → StandOver mid tree d → StandsOn mid.sizes tree after × LeavesOnly d after (HoldsTree mid.sizes tree))
    → (tree : Tree) → IsTrue before.is_honest → IsTableOf a tree → StandOver old tree before
    → StandsOn old.sizes tree after × LeavesOnly before after (HoldsTree old.sizes tree)
left_standing {d = d} after so_far stands tree honest is over =
    let now = stands tree (honest_still so_far.effect honest) (so_far.stands tree honest is over) in (
      subst (λ (s : Sizes). StandsOn s tree after) so_far.sizes now.0,
      leaves_only_run (so_far.leaves tree honest is over) (subst (λ (s : Sizes). LeavesOnly d after (HoldsTree s tree)) so_far.sizes now.1),
    )

-- one quantum more
pub more : {most n : ℕ} {lent : Tree → Type 0} {took : Tree → ℕ → Type 0} {is_damage : ℕ → List ℕ → Type 0} {a : Entries} {old mid new : RunsState}
    {before d after : DiskState} → IsTimed d → MergesGoOn a old mid before d
    → ((tree : Tree) → IsTableOf a tree → lent tree) → TellsQuantum lent most took is_damage mid new (Ok n) d after → new.sizes ≡ mid.sizes
    → new.catalogue ≡ mid.catalogue → due_to_pass new a ≤ due_to_pass mid a → due_to_deep new ≤ due_to_deep mid
    → MergesGoOn a old new before after
more {most} {n} {after = after} timed so_far lends told sizes catalogue pass deep = record {
  running = told.running;
  sizes = sizes ∙ so_far.sizes;
  catalogue = catalogue ∙ so_far.catalogue;
  pass = omega (arith, pass, so_far.pass);
  deep = omega (arith, deep, so_far.deep);
  stands = λ tree honest is over.
      (told.lists tree (honest_still so_far.effect honest) (so_far.stands tree honest is over) (lends tree is) (ok_is_no_err n)).2;
  leaves = λ tree honest is over. (left_standing after so_far told.stands tree honest is over).1;
  calls = so_far.calls + most;
  effect = goes_then timed so_far told.effect;
  calm = told.faults.stands (ok_is_no_err n) ∙ so_far.calm;
}

-- all was taken
pub took_all : {a : Entries} {old mid : RunsState} {before d : DiskState} (quanta weight first left : ℕ) → MergesGoOn a old mid before d → CallsSoFar
    old.sizes first left before d → first ≤ weight
    → TakesAll a weight old mid (Ok quanta) before d
took_all {old = old} {before = before} {d} quanta weight first left so_far calls within = record {
  keeps = λ tree honest is over.
      (subst (λ (s : Sizes). StandsOn s tree d) so_far.sizes (so_far.stands tree honest is over).stands, so_far.leaves tree honest is over);
  ends = λ tree honest is over other. refl;
  goes_on = so_far;
  effect = affects_counted (calls_done old.sizes weight first left before d calls within) so_far.effect;
  faults = well_told quanta before d so_far.calm;
}

-- a quantum failed
pub took_less : {most : ℕ} {lent : Tree → Type 0} {took : Tree → ℕ → Type 0} {is_damage : ℕ → List ℕ → Type 0} {a : Entries}
    {old mid new : RunsState} {before d after : DiskState} {e : Broken} {inner : Result ℕ Broken}
    {result : Result ℕ Broken} (weight first left : ℕ) → IsTimed d → MergesGoOn a old mid before d → CallsSoFar old.sizes first left before d →
    left ≢ 0 → first ≤ weight → QuantumFits old.sizes
    → ((tree : Tree) → IsTableOf a tree → lent tree) → TellsQuantum lent most took is_damage mid new inner d after → most ≤ mid.sizes.quantum / 4 + 3
    → inner ≡ Err e → IsErrAnd result
    (λ (x : Broken). x ≡ e) → TakesAll a weight old new result before after
took_less {most} {old = old} {mid} {before = before} {d} {after} weight first left timed so_far calls some within fits lends told few was failed
    = record {
      keeps = left_standing after so_far told.stands;
      ends = λ tree honest is over. ends_then was failed
          (λ other. let got = told.lists tree (honest_still so_far.effect honest) (so_far.stands tree honest is over)
          (lends tree is) other in (got.0, got.1));
      goes_on = on_failed _ (is_err failed);
      effect =
          affects_counted (calls_failed old.sizes weight first left most before d after calls some told.effect.calls
          (quantum_few old.sizes mid.sizes most so_far.sizes fits few).1 within)
          (goes_then timed so_far told.effect);
      faults = told_then so_far.calm was failed told.faults;
    }
