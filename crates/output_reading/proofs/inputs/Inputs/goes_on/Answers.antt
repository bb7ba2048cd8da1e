use Rattle.std.specs.Prelude.{◌↔◌, IfOk}
use Rattle.std.proofs.Common.{◌∙◌, ◌≡◌, ◌+◌, ℕ, Bool, List, Option, Result, Err, IsTrue, ap, refl, sym, subst, arith}
use Rattle.std.proofs.lemmas.Bool.{false≢true}
use Rattle.blsm_model.specs.declared.key.Key.{Key}
use Rattle.record_delta.specs.Entries.{Entries}
use Rattle.page_file.specs.declared.file.Broken.{Broken}
use Rattle.disk_trait.proofs.ReadLemmas.{only_reads_start}
use Rattle.merge_ends.specs.Output.{IsUpTo}
use Rattle.tree_file.specs.Output.{settled_fold, settled_up_to}
use Rattle.output_reading.specs.declared.inputs.Inputs.{Inputs}
use Rattle.output_reading.specs.Walk.{AreInputs, pages_ahead}
use Rattle.output_reading.proofs.CallsLemmas.{handed_on, ok_is_calm, ok_not_err, reads_after, reads_calm, reads_handed, same_error, still}
use Rattle.output_reading.proofs.InputsLemmas.{has_value, more_above, no_some, none_above, none_more, taken_of}
use Rattle.output_reading.proofs.inputs.Inputs.goes_on.Goals as goal
use Rattle.output_reading.proofs.inputs.Inputs.goes_on.Goals.{In_ok-key}

pub loop-key-init : goal.loop-key-init
loop-key-init g c = record {
  behind = c.requires.behind;
  effect = only_reads_start (g.D.Disk.state c.args.disk.now) (g.met.D.Disk.timed c.args.disk.now);
  stands = refl;
  once = omega arith;
  light = omega arith;
  onward = λ key past. past;
  passed = λ newer_pages older_pages newer older honest is. (is, refl);
}

pub returns-in_err-key-clause-tells : goal.returns-in_err-key-clause-tells
returns-in_err-key-clause-tells g c = λ newer_pages older_pages newer older honest is other.
    let inv = c.loop-key.invariant in
    let result = handed_on c.from_residual.ensures.1 in
    let same = still inv.effect honest in
    let here = subst (λ (b : List ℕ). AreInputs c.args.geo.now c.loop-key.self newer_pages older_pages newer older b) (sym same.1)
    (inv.passed newer_pages older_pages newer older honest is).0 in
    let told = c.next_group.ensures.inputs newer_pages older_pages newer older same.0 here
    (λ fault. other (result ∙ ap Err (same_error _ _ (sym c.in_err-key.was ∙ fault)))) in (
      subst (λ (r : Result Bool Broken). IfOk r (λ more. IsTrue more ↔ (settled_up_to c.args.self.now.at newer older ≡ settled_fold newer older →
          ⊥))) (sym result) tt,
      λ n damage. told.1 n (c.in_err-key.was ∙ ap Err (same_error {A = Bool} _ _ (sym result ∙ damage))),
    )

pub returns-in_err-key-clause-reads : goal.returns-in_err-key-clause-reads
returns-in_err-key-clause-reads g c =
    let inv = c.loop-key.invariant in
    reads_handed (handed_on c.from_residual.ensures.1) c.in_err-key.was
    (reads_after (g.met.D.Disk.timed c.loop-key.disk) inv.stands inv.effect c.next_group.ensures.reads
    (omega (arith, inv.once, c.next_group.ensures.calls)))

pub returns-in_default-clause-reads : goal.returns-in_default-clause-reads
returns-in_default-clause-reads g c =
    let inv = c.loop-key.invariant in
    reads_calm (ok_is_calm refl) (ok_is_calm c.in_ok-key.was)
    (reads_after (g.met.D.Disk.timed c.loop-key.disk) inv.stands inv.effect c.next_group.ensures.reads
    (omega (arith, inv.once, c.next_group.ensures.calls)))

pub returns-then-is_some-clause-reads : goal.returns-then-is_some-clause-reads
returns-then-is_some-clause-reads g c =
    let inv = c.loop-key.invariant in
    reads_calm (ok_is_calm refl) (ok_is_calm c.in_ok-key.was)
    (reads_after (g.met.D.Disk.timed c.loop-key.disk) inv.stands inv.effect c.next_group.ensures.reads
    (omega (arith, inv.once, c.next_group.ensures.calls)))

-- what the lists have above the key, behind which the next group was found
here : (g : _) (c : In_ok-key g) (newer_pages older_pages : List ℕ) (newer older : Entries) → IsTrue (g.D.Disk.state c.args.disk.now).is_honest →
    AreInputs c.args.geo.now c.args.self.now newer_pages older_pages newer older (g.D.Disk.state c.args.disk.now).bytes
    → AreInputs c.args.geo.now c.next_group.new.self newer_pages older_pages newer older (g.D.Disk.state c.args.disk.now).bytes ×
    (settled_up_to c.next_group.new.self.at newer older ≡ settled_up_to c.args.self.now.at newer older)
here g c newer_pages older_pages newer older honest is =
    let inv = c.loop-key.invariant in
    let same = still inv.effect honest in
    let was = inv.passed newer_pages older_pages newer older honest is in
    let before = subst (λ (b : List ℕ). AreInputs c.args.geo.now c.loop-key.self newer_pages older_pages newer older b) (sym same.1) was.0 in (
      subst (λ (b : List ℕ). AreInputs c.args.geo.now c.next_group.new.self newer_pages older_pages newer older b) same.1
          (c.in_ok-key.ensures.inputs newer_pages older_pages newer older same.0 before (ok_is_calm refl)).0,
      ap (λ (k : Option Key). settled_up_to k newer older) c.next_group.ensures.at ∙ was.1,
    )

pub returns-in_default-clause-tells : goal.returns-in_default-clause-tells
returns-in_default-clause-tells g c = λ newer_pages older_pages newer older honest is other.
    let now = here g (goal.at.returns-in_default-clause-tells g c).In_ok-key newer_pages older_pages newer older honest is in
    let whole = none_above now.0 c.in_ok-key.ensures.ready.0 (sym c.in_default.is ∙ c.in_ok-key.ensures.group) in
    ((λ wrong. absurd (false≢true wrong), λ not. absurd (not (sym now.1 ∙ whole))), λ n damage. ok_not_err refl damage)

pub returns-then-is_some-clause-tells : goal.returns-then-is_some-clause-tells
returns-then-is_some-clause-tells g c = λ newer_pages older_pages newer older honest is other.
    let now = here g (goal.at.returns-then-is_some-clause-tells g c).In_ok-key newer_pages older_pages newer older honest is in
    let t = taken_of _ _ _ now.0 c.in_ok-key.ensures.ready.0 (sym c.in_ok-key.ensures.group ∙ c.in-Some.is) in
    let some = has_value c.settle.result (sym c.is_some.ensures ∙ c.if-is_some.true) in (
      (λ _ all. more_above some.0 now.0.older_is.sorted t (sym c.settle.ensures ∙ some.1) (now.1 ∙ all), λ _. refl),
      λ n damage. ok_not_err refl
          damage,
    )

pub returns-in_default-clause-inputs : goal.returns-in_default-clause-inputs
returns-in_default-clause-inputs g c = λ newer_pages older_pages newer older honest is.
    here g (goal.at.returns-in_default-clause-inputs g c).In_ok-key newer_pages older_pages newer older honest is

pub returns-then-is_some-clause-inputs : goal.returns-then-is_some-clause-inputs
returns-then-is_some-clause-inputs g c = λ newer_pages older_pages newer older honest is.
    here g (goal.at.returns-then-is_some-clause-inputs g c).In_ok-key newer_pages older_pages newer older honest is

onward : (g : _) (c : In_ok-key g) → IsUpTo c.args.self.now.at c.next_group.new.self.at
onward g c = subst (λ (k : Option Key). IsUpTo c.args.self.now.at k) (sym c.next_group.ensures.at) c.loop-key.invariant.onward

pub returns-in_default-clause-onward : goal.returns-in_default-clause-onward
returns-in_default-clause-onward g c = onward g (goal.at.returns-in_default-clause-onward g c).In_ok-key

pub returns-then-is_some-clause-onward : goal.returns-then-is_some-clause-onward
returns-then-is_some-clause-onward g c = onward g (goal.at.returns-then-is_some-clause-onward g c).In_ok-key

pub loop-key-preserved : goal.loop-key-preserved
loop-key-preserved g c =
    let inv = c.loop-key.invariant in
    let calls = reads_after {total = pages_ahead c.args.self.now + 1} (g.met.D.Disk.timed c.loop-key.disk) inv.stands inv.effect c.next_group.ensures.reads
    (omega (arith, inv.once, c.next_group.ensures.calls)) in
    let taken_is = ap (λ (s : Inputs). pages_ahead s) c.take.ensures.taken in
    record {
      behind = c.take.ensures.behind;
      effect = calls.effect;
      stands = calls.stands (ok_is_calm c.in_ok-key.was);
      once = omega (arith, inv.once, c.in_ok-key.ensures.once, taken_is);
      light = omega (arith, inv.light, c.in_ok-key.ensures.ready.1, c.take.ensures.left _ _ (sym c.in_ok-key.ensures.group ∙ c.in-Some.is));
      onward = λ key past. inv.onward key (subst (λ (k : Option Key). IsUpTo k c.take.new.self.at) c.next_group.ensures.at c.take.ensures.onward key
          past);
      passed = λ newer_pages older_pages newer older honest is.
          let now = here g (goal.at.loop-key-preserved g c).In_ok-key newer_pages older_pages newer older honest is in
          let on = c.take.ensures.inputs c.args.geo.now newer_pages older_pages newer older (g.D.Disk.state c.args.disk.now).bytes _ _ now.0
          (sym c.in_ok-key.ensures.group ∙ c.in-Some.is) in
          let none = no_some c.settle.result (sym c.is_some.ensures ∙ c.if-is_some.false) in (
            on.0,
            ap (λ (s : Inputs). settled_up_to s.at newer older) c.take.ensures.taken ∙ none_more on.1 (sym c.settle.ensures ∙ none) ∙ now.1,
          );
    }
