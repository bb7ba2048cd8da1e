-- What the moves hand on of the calls that they are made of.
use Rattle.std.specs.Prelude.{◌≡◌, ℕ, ◌+◌, ◌*◌, ◌^◌, ◌<◌, ◌≤◌, IsTrue, List, length}
use Rattle.std.proofs.Common.{sym, subst, ◌∙◌, ap, arith}
use Rattle.std.proofs.Math.Nat.{mul-le-mul_left}
use Rattle.blsm_model.specs.Geometry.{capacity, file_length}
use Rattle.blsm_model.specs.Lanes.{region_start, region_length}
use Rattle.blsm_model.specs.Sizes.{Sizes, IsGeometry}
use Rattle.blsm_model.proofs.GeometryLemmas.{by_half, by_ratio}
use Rattle.disk_trait.specs.Disk.{DiskState}
use Rattle.disk_trait.specs.Region.{Region, IsWithin, outside}
use Rattle.disk_trait.specs.Effects.{Affects}
use Rattle.disk_trait.proofs.EffectLemmas.{affects_length}
use Rattle.page_space.specs.PageSet.{Members}
use Rattle.page_space.specs.Space.{SpaceState}
use Rattle.gated_log.specs.Lane.{lane_region}
use Rattle.scan_view.specs.Pins.{beside_pins}
use Rattle.tree_runs.specs.Laws.{used_region}
use Rattle.tree_runs.proofs.BesideLemmas.{head_is_beside}
use Rattle.scan_view.proofs.StayLemmas.{head_beside}

-- a file of the right length keeps it
pub stays_long : {region : Region} {most : ℕ} {old new : DiskState} (before after : Sizes) → after ≡ before → (IsTrue old.tells_bytes → length old.bytes ≡ file_length before)
    → Affects region (file_length before) most old new → IsTrue new.tells_bytes → length new.bytes ≡ file_length after
stays_long {region} {most} {old} {new} before after same long effect tells =
    affects_length effect (subst IsTrue effect.goes_on.tells_bytes tells) (long (subst IsTrue effect.goes_on.tells_bytes tells)) ∙ ap file_length (sym same)

-- a capacity is a small number, so what two components weigh fits
pub capacity_small : (sizes : Sizes) → IsGeometry sizes → capacity sizes ≤ 2 ^ 34
capacity_small sizes geometry =
    let half = by_half sizes.ratio sizes.half (omega (arith, geometry.ratio)) (omega (arith, geometry.half)) in
    let whole = by_ratio sizes.ratio (sizes.ratio * sizes.half) (omega (arith, geometry.ratio)) (omega (arith, half)) in
    omega (arith, half, whole)

pub sum_fits : (sizes : Sizes) (one other x y : ℕ) → IsGeometry sizes → one ≤ capacity sizes → other ≤ capacity sizes → x ≡ one → y ≡ other → x + y < 2 ^ 64
sum_fits sizes one other x y geometry small little is are = omega (arith, capacity_small sizes geometry, small, little, is, are)

-- a lane stands before the pages
pub lane_beside : (sizes : Sizes) (space : SpaceState) (lane : ℕ) → lane < 3 → IsWithin (lane_region sizes lane) (outside (used_region sizes space))
lane_beside sizes space lane below =
    let before : region_length sizes * lane ≤ region_length sizes * 2 = mul-le-mul_left (region_length sizes) (omega (arith, below)) in
    head_is_beside sizes space (region_start sizes lane) (region_length sizes) (omega (arith, before))

pub lane_unpinned : (sizes : Sizes) (pins : List Members) (lane : ℕ) → lane < 3 → IsWithin (lane_region sizes lane) (beside_pins sizes pins)
lane_unpinned sizes pins lane below =
    let before : region_length sizes * lane ≤ region_length sizes * 2 = mul-le-mul_left (region_length sizes) (omega (arith, below)) in
    head_beside sizes pins (region_start sizes lane) (region_length sizes) (omega (arith, before))
