-- An admission, a payment and a turn, made of the moves of the core; and what is told of them.
use Rattle.std.specs.Prelude.{◌≡◌, ℕ, ◌+◌, ◌<◌, ◌≤◌, length}
use Rattle.blsm_model.specs.Format.{callers, least_weight, most_weight}
use Rattle.blsm_model.specs.Geometry.{charge_limit}
use Rattle.blsm_model.specs.Legal.{is_del}
use Rattle.blsm_model.specs.declared.op.Op.{Op}
use Rattle.record_delta.specs.Entries.{Entries, entries_weight}
use Rattle.gated_log.specs.Records.{cost}
use Rattle.gear_sched.specs.Gears.{first_debt, second_debt, plan_for}
use Rattle.pacing.specs.Ends.{IsNoLonger}
use Rattle.gear_sched.specs.declared.Plan.{Plan}
use Rattle.gear_sched.specs.declared.Plan.TheVariants.{Snow, Deep, Nothing}
use Rattle.core_moves.specs.declared.held.Held.{Held}
use Rattle.core_moves.specs.Held.{charge_in}
use Rattle.core_moves.specs.Moves.{TakesOfPass, TakesOfDeep, with_debts_forgiven}

-- ---- an admission

-- the seat may write so much: it owes nothing, and the charge has room
pub record MayWrite (seat w : ℕ) (op : Op) (held : Held) : Type 0 where
  pub caller : seat < callers
  pub settled : first_debt held.gears seat + second_debt held.gears seat ≡ 0
  pub light : least_weight ≤ w
  pub heavy : w ≤ most_weight
  pub room : charge_in held + w ≤ charge_limit held.runs.sizes (is_del op)

-- What a command writes: one entry or several, which take little beside their weight in a lane.
pub record AreWritten (more : Entries) : Type 0 where
  pub some : 1 ≤ length more
  pub short : IsNoLonger (cost more) (entries_weight more)

-- ---- a payment

-- which merge the seat pays, once what may be forgiven is
abbrev pub plan_in : ℕ → Held → Plan
plan_in seat held = plan_for (first_debt (with_debts_forgiven seat held).gears seat) (second_debt (with_debts_forgiven seat held).gears seat)

-- a quantum of the merge that is paid
abbrev pub TakesByPlan : Plan → ℕ → ℕ → Held → Held → Type 0
TakesByPlan Snow seat n old new = TakesOfPass seat n old new
TakesByPlan Deep seat n old new = TakesOfDeep seat n old new
TakesByPlan Nothing seat n old new = ⊥
