-- The four numbers of a store's geometry, and their ranges. All but the ratio are in bytes.
use Rattle.std.specs.Prelude.{ℕ, ◌≤◌}
use Rattle.blsm_model.specs.Format.{most_half}

-- The half spring, the ratio, the low mark and the quantum.
pub record Sizes : Type 0 where
  pub half : ℕ
  pub ratio : ℕ
  pub low : ℕ
  pub quantum : ℕ

-- at least twice the heaviest entry of each caller and of one more
abbrev pub HalfFits : Sizes → Type 0
HalfFits sizes = (17408 ≤ sizes.half) × (sizes.half ≤ most_half)

abbrev pub RatioFits : Sizes → Type 0
RatioFits sizes = (2 ≤ sizes.ratio) × (sizes.ratio ≤ 8)

abbrev pub LowFits : Sizes → Type 0
LowFits sizes = sizes.low ≤ sizes.half

abbrev pub QuantumFits : Sizes → Type 0
QuantumFits sizes = (1024 ≤ sizes.quantum) × (sizes.quantum ≤ 65536)

pub record IsGeometry (sizes : Sizes) : Type 0 where
  pub half : HalfFits sizes
  pub ratio : RatioFits sizes
  pub low : LowFits sizes
  pub quantum : QuantumFits sizes

-- the sizes that a store gets where none are named
abbrev pub default_sizes : Sizes
default_sizes = record { half = 32768; ratio = 4; low = 16384; quantum = 4096 }
