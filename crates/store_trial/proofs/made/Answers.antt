use Rattle.std.proofs.Common.{refl}
use Rattle.store_trial.proofs.FreshLemmas.{is_fresh, no_failure}
use Rattle.store_trial.proofs.made.Goals as goal

pub unreachable-requires : goal.unreachable-requires
unreachable-requires c =
    no_failure c.default-geometry.result c.length.result _ _ c.in_ok-disk.disk c.make_store.new.disk c.default-geometry.ensures c.length.ensures c.in_ok-disk.ensures c.make_store.ensures.effect
    c.make_store.result c.make_store.ensures.not_empty c.make_store.ensures.faults _ c.in-Err.is

pub returns : goal.returns
returns c =
    is_fresh c.default-geometry.result c.length.result _ _ c.in_ok-disk.disk c.make_store.new.disk c.default-geometry.ensures c.length.ensures c.in_ok-disk.ensures c.make_store.ensures.effect
    (c.in-Ok.ensures.made refl) (c.in-Ok.ensures.long refl)
