-- The numbers that the gears keep, and what each call makes of them. Weights are in bytes.
use Rattle.std.specs.Prelude.{◌≡◌, ℕ, ◌+◌, ◌-◌, ◌*◌, ◌<◌, ◌≤◌, ◌||◌, ◌==◌, Bool, true, false, if◌then◌else◌, nat_le, nat_lt, List, length, replicate, sum, slice_index, slice_set}
use Rattle.blsm_model.specs.Sizes.{Sizes}
use Rattle.blsm_model.specs.Format.{callers, most_weight}
use Rattle.blsm_model.specs.Geometry.{c1_way, first_gear, second_gear}
use Rattle.gear_sched.specs.declared.Plan.{Plan}
use Rattle.gear_sched.specs.declared.Plan.TheVariants.{Snow, Deep, Nothing}

pub record GearState : Type 0 where
  -- the geometry, which no call changes
  pub sizes : Sizes
  -- whether a pass runs, C1's weight and the memory table's at its begin, what was admitted since, what it has taken
  pub pass : Bool
  pub pass_c1 : ℕ
  pub pass_memory : ℕ
  pub pass_admitted : ℕ
  pub pass_taken : ℕ
  -- whether a deep merge runs, its inputs' weight at its begin, what was admitted since the rotation, what it has taken
  pub deep : Bool
  pub deep_input : ℕ
  pub deep_admitted : ℕ
  pub deep_taken : ℕ
  -- the two debts of each caller's desk
  pub first_debts : List ℕ
  pub second_debts : List ℕ

-- no merge runs, and nobody owes
abbrev pub at_rest : Sizes → GearState
at_rest sizes = record {
  sizes = sizes;
  pass = false;
  pass_c1 = 0;
  pass_memory = 0;
  pass_admitted = 0;
  pass_taken = 0;
  deep = false;
  deep_input = 0;
  deep_admitted = 0;
  deep_taken = 0;
  first_debts = replicate callers 0;
  second_debts = replicate callers 0;
}

-- what a seat owes to the pass, and to the deep merge
abbrev pub first_debt : GearState → ℕ → ℕ
first_debt gears seat = slice_index gears.first_debts seat

abbrev pub second_debt : GearState → ℕ → ℕ
second_debt gears seat = slice_index gears.second_debts seat

abbrev pub Owes : GearState → ℕ → Type 0
Owes gears seat = 0 < first_debt gears seat + second_debt gears seat

-- A write of this weight was admitted: it owes to each merge that runs.
abbrev pub entered : GearState → ℕ → ℕ → GearState
entered gears seat w = record gears {
  pass_admitted = if gears.pass then gears.pass_admitted + w else gears.pass_admitted;
  deep_admitted = if gears.deep then gears.deep_admitted + w else gears.deep_admitted;
  first_debts = if gears.pass then slice_set gears.first_debts seat (first_debt gears seat + first_gear gears.sizes * w) else gears.first_debts;
  second_debts = if gears.deep then slice_set gears.second_debts seat (second_debt gears seat + second_gear gears.sizes * w) else gears.second_debts;
}

-- A debt may be forgiven where its merge is done or absent, or is ahead without it.
abbrev pub forgives_first : GearState → Bool → ℕ → Bool
forgives_first gears done debt = done || nat_le (first_gear gears.sizes * gears.pass_admitted) (gears.pass_taken + (sum gears.first_debts - debt))

abbrev pub forgives_second : GearState → Bool → ℕ → Bool
forgives_second gears done debt = done || nat_le (second_gear gears.sizes * gears.deep_admitted) (gears.deep_taken + (sum gears.second_debts - debt))

-- what is left of a debt
abbrev pub left_of : Bool → ℕ → ℕ
left_of forgiven debt = if forgiven then 0 else debt

-- the seat's debts that may be forgiven are forgiven
abbrev pub forgiven : GearState → ℕ → Bool → Bool → GearState
forgiven gears seat done1 done2 = record gears {
  first_debts = slice_set gears.first_debts seat (left_of (forgives_first gears done1 (first_debt gears seat)) (first_debt gears seat));
  second_debts = slice_set gears.second_debts seat (left_of (forgives_second gears done2 (second_debt gears seat)) (second_debt gears seat));
}

-- the deep merge is behind: what it took is a lesser part of its inputs than what was admitted is of C1's way
abbrev pub deep_is_behind : GearState → Bool
deep_is_behind gears = nat_lt (gears.deep_taken * c1_way gears.sizes) (gears.deep_admitted * gears.deep_input)

-- which merge a seat with these debts pays
abbrev pub plan_for : ℕ → ℕ → Plan
plan_for first second = if first == 0 then (if second == 0 then Nothing else Deep) else Snow

-- A quantum was taken: the seat's debt falls by it, at most to 0. A worker's seat has none.
abbrev pub took_first : GearState → ℕ → ℕ → GearState
took_first gears seat n = record gears { pass_taken = gears.pass_taken + n; first_debts = slice_set gears.first_debts seat (first_debt gears seat - n) }

abbrev pub took_second : GearState → ℕ → ℕ → GearState
took_second gears seat n = record gears { deep_taken = gears.deep_taken + n; second_debts = slice_set gears.second_debts seat (second_debt gears seat - n) }

-- a pass begins
abbrev pub passing : GearState → ℕ → ℕ → GearState
passing gears c1 memory = record gears { pass = true; pass_c1 = c1; pass_memory = memory; pass_admitted = 0; pass_taken = 0; first_debts = replicate callers 0 }

-- it was swapped in
abbrev pub pass_ended : GearState → GearState
pass_ended gears = record gears { pass = false; pass_c1 = 0; pass_memory = 0; pass_admitted = 0; pass_taken = 0; first_debts = replicate callers 0 }

-- a deep merge begins
abbrev pub rotated : GearState → ℕ → GearState
rotated gears input = record gears { deep = true; deep_input = input; deep_admitted = 0; deep_taken = 0; second_debts = replicate callers 0 }

abbrev pub deep_ended : GearState → GearState
deep_ended gears = record gears { deep = false; deep_input = 0; deep_admitted = 0; deep_taken = 0; second_debts = replicate callers 0 }

-- what the seats owe at most
pub record FewDebts (gears : GearState) : Type 0 where
  pub first_seats : length gears.first_debts ≡ callers
  pub second_seats : length gears.second_debts ≡ callers
  pub first : (seat : ℕ) → first_debt gears seat ≤ first_gear gears.sizes * most_weight
  pub second : (seat : ℕ) → second_debt gears seat ≤ second_gear gears.sizes * most_weight
