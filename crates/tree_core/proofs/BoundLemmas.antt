-- The numbers of a core fit 64 bits, also once it is stopped.
use Rattle.std.specs.Prelude.{◌≡◌, ℕ, ◌+◌, ◌<◌, ◌≤◌, ◌^◌, sum}
use Rattle.std.proofs.Common.{⊎_elim, inl, inr, arith}
use Rattle.std.proofs.lemmas.Bool.{cases_lt}
use Rattle.refusal.specs.Count.{HasRisen}
use Rattle.tree_machine.specs.Outcomes.{Rose}
use Rattle.pacing.specs.Pace.{Pace}
use Rattle.page_file.specs.Page.{most_used}
use Rattle.record_delta.specs.Entries.{above, entries_weight}
use Rattle.tree_log.specs.Log.{resident_in}
use Rattle.tree_runs.specs.Holding.{cursor_of_pass}
use Rattle.core_moves.specs.declared.held.Held.{Held}
use Rattle.core_moves.specs.Held.{charge_in}
use Rattle.core_pace.proofs.CountLemmas.{capacity_small, work_is_small}
use Rattle.tree_core.specs.Core.{IsLight, IsTold}

pub charge_fits : (held : Held) (pace : Pace) → IsTold held pace → charge_in held < 2 ^ 64
charge_fits held pace t = omega (arith, t.charge_is, t.told.paced.within.full, capacity_small pace.gears.sizes t.told.paced.within.sizes)

pub quanta_fit : (held : Held) (pace : Pace) → IsTold held pace → sum held.book.seats.quanta < 2 ^ 64
quanta_fit held pace t = omega (arith, t.told.booked.worked, work_is_small held.book pace t.told)

-- what is held of the memory table, by what table A still has of what the pass took
pub resident_light : (held : Held) (n : ℕ) → n ≡ resident_in held.log → IsLight held
    → n ≤ entries_weight held.log.b.entries + (entries_weight (above (cursor_of_pass held.runs.pass) held.log.a.entries) + most_used)
resident_light held n is light = omega (arith, is, light)

-- a count that has risen, or stands at its last value
pub rose : (old new : ℕ) → old ≤ new → new < 2 ^ 64 → HasRisen old new → Rose old new
rose old new order small risen = ⊎_elim (λ below. inl below) (λ past. inr (omega (arith, order, small, risen, past), omega (arith, order, small, risen, past))) (cases_lt old new)
