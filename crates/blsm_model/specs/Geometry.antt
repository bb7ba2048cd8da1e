-- The sizes of a store, which follow from the four numbers of its geometry. Marks, limits and lengths are in bytes.
use Rattle.std.specs.Prelude.{ℕ, ◌+◌, ◌-◌, ◌*◌, Bool, true, false, if◌then◌else◌}
use Rattle.std.specs.Int.{div_ceil}
use Rattle.blsm_model.specs.Format.{head_length, page_length, least_full}
use Rattle.blsm_model.specs.Sizes.{Sizes, HalfFits, RatioFits, LowFits, QuantumFits}
use Rattle.blsm_model.specs.declared.geometry.GeometryFault.{GeometryFault}
use Rattle.blsm_model.specs.declared.geometry.GeometryFault.TheVariants.{Half, Ratio, Low, Quantum}
use Rattle.blsm_model.specs.Legal.{Limits}

-- which fault comes first
abbrev pub IsFirstFault : Sizes → GeometryFault → Type 0
IsFirstFault sizes Half = ¬ (HalfFits sizes)
IsFirstFault sizes Ratio = HalfFits sizes × ¬ (RatioFits sizes)
IsFirstFault sizes Low = HalfFits sizes × RatioFits sizes × ¬ (LowFits sizes)
IsFirstFault sizes Quantum = HalfFits sizes × RatioFits sizes × LowFits sizes × ¬ (QuantumFits sizes)

-- the high mark: how much the memory table may weigh
abbrev pub high_mark : Sizes → ℕ
high_mark sizes = 2 * sizes.half

-- C1's mark: the weight from which C1 is full
abbrev pub c1_mark : Sizes → ℕ
c1_mark sizes = 2 * sizes.ratio * sizes.half

-- how much all components and the memory table may weigh
abbrev pub capacity : Sizes → ℕ
capacity sizes = sizes.ratio * c1_mark sizes

-- how much is admitted from one rotation to the next at least
abbrev pub c1_way : Sizes → ℕ
c1_way sizes = c1_mark sizes - sizes.half

-- what each byte that is admitted owes to the pass, and to the deep merge
abbrev pub first_gear : Sizes → ℕ
first_gear sizes = 4 * sizes.ratio + 4

abbrev pub second_gear : Sizes → ℕ
second_gear sizes = sizes.ratio + 2

-- the work bound: how many quanta the caller of a write of this weight does at most
abbrev pub work_bound : Sizes → ℕ → ℕ
work_bound sizes weight = div_ceil (first_gear sizes * weight) sizes.quantum + div_ceil (second_gear sizes * weight) sizes.quantum

-- one share for each caller's hold, one for the components, one for the two runs being written, and one to spare
abbrev pub page_shares : ℕ
page_shares = 19

-- A share has the pages of three components at capacity, of which each may end with a page that is nearly empty.
abbrev pub page_count : Sizes → ℕ
page_count sizes = page_shares * (div_ceil (capacity sizes) least_full + 3)

-- the head, three lanes of four halves each, and the pages
abbrev pub file_length : Sizes → ℕ
file_length sizes = head_length + 12 * sizes.half + page_length * page_count sizes

-- the charge up to which a del is taken, and any other write: these leave half a spring of room
abbrev pub charge_limit : Sizes → Bool → ℕ
charge_limit sizes is_del = if is_del then capacity sizes else capacity sizes - sizes.half

-- the limits of a store that is opened at this charge
abbrev pub limits_of : Sizes → ℕ → Limits
limits_of sizes charge = record { opening = charge; dels = charge_limit sizes true; others = charge_limit sizes false }
