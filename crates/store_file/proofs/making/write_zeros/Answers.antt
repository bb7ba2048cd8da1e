use Rattle.std.proofs.Common.{◌≡◌, ◌≤◌, ◌<◌, ◌+◌, ◌*◌, ◌-◌, ◌/◌, ◌∙◌, rules, arith, IsTrue, List, ℕ, length, subst, sym, ap}
use Rattle.disk_trait.specs.Disk.{overwritten}
use Rattle.disk_trait.proofs.EffectLemmas.{affects_start, affects_write_more}
use Rattle.store_file.specs.Layout.{zeros}
use Rattle.store_file.proofs.LayoutLemmas.{zeros_more}
use Rattle.store_file.proofs.making.write_zeros.Goals as goal

-- one block more
one_more : (at n : ℕ) → 4096 ≤ at → at ≡ 4096 * (at / 4096) → 0 < n → (at - 1) / 4096 + 1 ≤ (at + n - 1) / 4096
one_more at n from whole some = omega arith

pub returns-in_err-write-clause-effect : goal.returns-in_err-write-clause-effect
returns-in_err-write-clause-effect g c =
    affects_write_more c.loop-at.at (length c.zero_bytes.result.now) (g.met.D.Disk.timed c.loop-at.disk) c.loop-at.invariant.stands c.loop-at.invariant.effect
    c.write.ensures.passes c.write.ensures.no_sync c.write.ensures.within c.write.ensures.sure
    (λ i here. (omega (arith, here.0, c.loop-at.invariant.from_block), omega (arith, here.1, c.zero_bytes.ensures.len)))
    (omega (arith, c.zero_bytes.ensures.len)) (omega (arith, c.loop-at.invariant.whole (omega arith), c.loop-at.invariant.from_block))

pub loop-at-init : goal.loop-at-init
loop-at-init g c = record {
  from_block = search rules;
  in_range = search rules;
  whole = λ below. omega arith;
  stands = search rules;
  length = search rules;
  written = search rules;
  effect = affects_start (g.D.Disk.state c.args.disk.now) (g.met.D.Disk.timed c.args.disk.now);
}

pub loop-at-preserved : goal.loop-at-preserved
loop-at-preserved g c = record {
  from_block = search rules;
  in_range = search rules;
  whole = λ below. omega (arith, c.loop-at.invariant.whole (omega arith), below);
  stands = search rules;
  length = search rules;
  written = λ honest blank.
      let still = subst IsTrue (sym c.loop-at.invariant.effect.goes_on.is_honest) honest in
      c.in_ok-write.ensures.bytes still
      ∙ ap (λ (l : List ℕ). overwritten l c.loop-at.at c.zero_bytes.result.now) (c.loop-at.invariant.written honest blank)
      ∙ ap (λ (l : List ℕ). overwritten (zeros c.loop-at.at) c.loop-at.at l) c.zero_bytes.ensures.value
      ∙ zeros_more c.loop-at.at c.min-count.result;
  effect =
      affects_write_more c.loop-at.at (length c.zero_bytes.result.now) (g.met.D.Disk.timed c.loop-at.disk) c.loop-at.invariant.stands c.loop-at.invariant.effect
      c.write.ensures.passes c.write.ensures.no_sync c.write.ensures.within c.write.ensures.sure
      (λ i here. (omega (arith, here.0, c.loop-at.invariant.from_block), omega (arith, here.1, c.zero_bytes.ensures.len)))
      (omega (arith, c.zero_bytes.ensures.len)) (one_more c.loop-at.at c.min-count.result c.loop-at.invariant.from_block (c.loop-at.invariant.whole (omega arith)) (omega arith));
}
