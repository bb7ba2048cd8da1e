use Rattle.std.proofs.Common.{◌∙◌, ◌+◌, List, sym, subst, take}
use Rattle.std.proofs.lemmas.Bool.{true≢false}
use Rattle.bloom_bits.specs.declared.fences.Fence.{Fence}
use Rattle.page_space.specs.Space.{SpaceState}
use Rattle.tree_runs.specs.Holding.{PinsNamed}
use Rattle.tree_runs.proofs.NamedPins.{pins_no_more, pins_one, taken}
use Rattle.tree_runs.proofs.holds.pin_named.Goals as goal
use Rattle.tree_runs.proofs.holds.pin_named.Goals.{then-has, else-has}

pub loop-fence-preserved : goal.loop-fence-preserved
loop-fence-preserved c =
    let fences = c.args.fences.now in
    let i = c.loop-fence.fence-index in
    let more = taken fences i c.fence-item.result c.fence-item.is c.loop-fence-test.true in
    elim c.if-has.branch [
      | then-has w ↦
          subst (λ (s : SpaceState). PinsNamed c.args.seat c.args.tag (take (i + 1) fences) c.args.space.now s) (sym w.space-is)
          (subst (λ (fs : List Fence). PinsNamed c.args.seat c.args.tag fs c.args.space.now w.pin_page.new.self) more
          (pins_one c.fence-item.result c.loop-fence.invariant w.pin_page.new.self (c.has.ensures.has.0 w.if-has.true) w.pin_page.ensures))
      | else-has w ↦
          subst (λ (s : SpaceState). PinsNamed c.args.seat c.args.tag (take (i + 1) fences) c.args.space.now s) (sym w.space-is)
          (subst (λ (fs : List Fence). PinsNamed c.args.seat c.args.tag fs c.args.space.now c.loop-fence.space) more
          (pins_no_more c.fence-item.result c.loop-fence.invariant (λ has. true≢false (sym (c.has.ensures.has.1 has) ∙ w.if-has.false))))
    ]
