-- What only lemmas say: no clause names these.
use Rattle.std.specs.Prelude.{◌≡◌, ℕ, ◌+◌, ◌≤◌, true, false, ◌-◌, ◌*◌, ◌^◌, ◌<◌, if◌then◌else◌, sum, ◌&&◌, max}
use Rattle.blsm_model.specs.Format.{least_weight, callers, most_weight}
use Rattle.blsm_model.specs.Geometry.{capacity, first_gear, second_gear, high_mark}
use Rattle.pacing.specs.Pace.{Pace, Written, charge, pass_done}
use Rattle.pacing.specs.Kept.{most_taken}
use Rattle.pacing.specs.Steps.{Event, Admit, Pay, Turn, Move, SwapPass, turn_of, is_worker_seat, deep_settled}
use Rattle.pacing.specs.Fronts.{Fronts}

-- There is room for a write: in the charge, in the pass that runs, or in the spring.
pub record HasRoom (pace : Pace) (w : ℕ) : Type 0 where
  pub light : least_weight ≤ w
  pub room : charge pace + w ≤ capacity pace.gears.sizes
  pub fits : pace.gears.pass ≡ true → pace.gears.pass_admitted + w ≤ pace.gears.sizes.half
  pub low : pace.gears.pass ≡ false → pace.spring + w ≤ pace.gears.sizes.half

-- the memory table, the charge, and what all desks owe
pub record AreBounded (pace : Pace) : Type 0 where
  pub table : pace.a + pace.b ≤ high_mark pace.gears.sizes
  pub most : pace.peak ≤ high_mark pace.gears.sizes
  pub full : charge pace ≤ capacity pace.gears.sizes
  pub first : sum pace.gears.first_debts ≤ callers * (first_gear pace.gears.sizes * most_weight)
  pub second : sum pace.gears.second_debts ≤ callers * (second_gear pace.gears.sizes * most_weight)
  pub since : pace.gears.deep_admitted + most_weight < 2 ^ 63
  pub work : pace.c1 + pace.c1x + pace.c2 + pace.taken ≤ pace.opening + most_taken pace.gears.sizes * pace.work

-- what the run of a merge weighs, with what is left to take
abbrev pub run_of_pass : Pace → ℕ
run_of_pass pace = if pace.gears.pass then pace.made1 + (pace.a + pace.c1 - pace.gears.pass_taken) else 0

abbrev pub run_of_deep : Pace → ℕ
run_of_deep pace = if pace.gears.deep then pace.made2 + (pace.c1x + pace.c2 - pace.gears.deep_taken) else 0

-- what has to fit on the disk and in the numbers' type
pub record Fits (pace : Pace) : Type 0 where
  pub live : pace.c1 + pace.c1x + pace.c2 ≤ capacity pace.gears.sizes
  pub runs : run_of_pass pace + run_of_deep pace ≤ capacity pace.gears.sizes
  pub y : pace.gears.pass_admitted + most_weight < 2 ^ 63
  pub inputs1 : pace.a + pace.c1 < 2 ^ 63
  pub inputs2 : pace.c1x + pace.c2 < 2 ^ 63

abbrev pub no_fronts : Fronts
no_fronts = record { lane_a = 0; lane_b = 0 }

-- the pass is swapped in, and the lanes turn
abbrev pub fronts_turned : Fronts → Fronts
fronts_turned fronts = record { lane_a = fronts.lane_b; lane_b = 0 }

-- what a command writes lands, and its table weighed so much on the way
abbrev pub fronts_written : Written → Fronts → Fronts
fronts_written written fronts = record {
  lane_a = if written.ahead then max fronts.lane_a written.most else fronts.lane_a;
  lane_b = if written.ahead then fronts.lane_b else max fronts.lane_b written.most;
}

-- what an admission's swaps make of them
abbrev pub fronts_ready : Pace → Fronts → Fronts
fronts_ready pace fronts = if (deep_settled pace).gears.pass && pass_done (deep_settled pace) then fronts_turned fronts else fronts

abbrev pub fronts_by : Move → Fronts → Fronts
fronts_by SwapPass fronts = fronts_turned fronts
fronts_by _ fronts = fronts

abbrev pub fronts_after : Pace → Event → Fronts → Fronts
fronts_after pace (Admit seat written) fronts = fronts_written written (fronts_ready pace fronts)
fronts_after pace (Pay seat quantum) fronts = fronts
fronts_after pace (Turn seat quantum) fronts = fronts_by (turn_of (is_worker_seat seat) pace) fronts
