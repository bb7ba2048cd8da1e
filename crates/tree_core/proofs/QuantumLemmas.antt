-- What a payment and a turn leave, of the numbers, of the other seats, and of what is told.
use Rattle.std.proofs.Common.{◌≡◌, ◌≢◌, ◌+◌, ℕ, ◌≤◌, Bool, Option, Some, sym, subst, arith}
use Rattle.std.proofs.lemmas.Grind.{common_steps}
use Rattle.std.proofs.lemmas.Bool.Decides.{nat_tests}
use Rattle.std.specs.Prelude.{⊤}
use Rattle.std.proofs.lemmas.List.{get_or-set_other}
use Rattle.blsm_model.specs.Facts.{Follows}
use Rattle.blsm_model.specs.declared.history.Why.{Why}
use Rattle.disk_trait.specs.Disk.{DiskState}
use Rattle.gear_sched.specs.Gears.{GearState, first_debt, second_debt, forgiven, took_first, took_second}
use Rattle.blsm_model.specs.declared.key.Key.{Key}
use Rattle.page_file.specs.Page.{most_used}
use Rattle.record_delta.specs.Entries.{above, entries_weight}
use Rattle.tree_log.specs.Log.{LogState}
use Rattle.tree_runs.specs.Holding.{cursor_of_pass}
use Rattle.pacing.specs.Pace.{Pace}
use Rattle.seat_book.specs.State.{BookState}
use Rattle.seat_book.specs.Seats.{KeepsSeats}
use Rattle.seat_book.proofs.KeepLemmas.{keeps_less, holds_follow}
use Rattle.core_moves.specs.declared.held.Held.{Held}
use Rattle.core_moves.specs.Held.{IsOne, charge_in}
use Rattle.core_moves.specs.Needs.{IsOn}
use Rattle.core_moves.specs.Moves.{KeepsAllButMerges, with_book}
use Rattle.core_pace.specs.Pacing.{HasPace, IsRunBook, IsPacedHeld}
use Rattle.tree_core.specs.Core.{IsLight, IsTold, HoldsPace, beside_in, facts_of_held}
use Rattle.tree_core.proofs.ToldLemmas.{light_of, told_of}

-- ---- numbers

pub told_by : (held : Held) (pace : Pace) → HasPace held pace → IsOne held → IsRunBook held.book pace → IsTold held pace
told_by held pace has one told = told_of held pace has one told

-- a store that runs on
pub holds_running : (held : Held) (pace : Pace) (d : DiskState) → IsPacedHeld held pace → IsOn held d → HoldsPace held pace d
holds_running held pace d k on = record { told = told_by held pace k.numbers k.one k.told; live = λ runs. record { paced = k; on = on } }

-- and one that is stopped
pub holds_stopped : (held : Held) (pace : Pace) (d : DiskState) (why : Why) → held.book.stopped ≡ Some why → IsTold held pace → HoldsPace held pace d
holds_stopped held pace d why stopped told = record { told = told; live = λ runs. absurd (cc (stopped, runs)) }

-- A book that changes alone leaves the merges in order.
pub on_rebooked : (held : Held) (b : BookState) (d : DiskState) → IsOn held d → IsOn (with_book b held) d
on_rebooked held b d on = record { running = on.running; long = on.long }

pub charge_kept : (old failed : Held) → KeepsAllButMerges ⊤ old failed → charge_in failed ≡ charge_in old
charge_kept old failed kept = grind (arith, common_steps, nat_tests)

-- what failed took nothing
light_failed : (old failed : Held) → KeepsAllButMerges ⊤ old failed → IsLight old → IsLight failed
light_failed old failed kept light =
    subst (λ (l : LogState). entries_weight l.a.entries ≤ entries_weight (above (cursor_of_pass failed.runs.pass) l.a.entries) + most_used) (sym (kept.log tt))
    (subst (λ (k : Option Key). entries_weight old.log.a.entries ≤ entries_weight (above k old.log.a.entries) + most_used) (sym (kept.cursor tt)) light)

-- What failed has the charge, the counts and the geometry that it had; its book is told otherwise.
pub told_after_failure : (old failed : Held) (b : BookState) (pace : Pace) → KeepsAllButMerges ⊤ old failed → HasPace old pace → IsOne old → b.counts ≡ old.book.counts → IsRunBook b pace → IsTold (with_book b failed) pace
told_after_failure old failed b pace kept has one counts told =
    let light : IsLight failed = light_failed old failed kept (light_of old one) in
    grind (arith, common_steps, nat_tests)

pub kept_once : {failed : Type 0} (old new : Held) → failed → KeepsAllButMerges failed old new → KeepsAllButMerges ⊤ old new
kept_once old new is kept = grind (arith, common_steps, nat_tests)

-- ---- the other seats

-- the debts of the other seats didn't rise
pub record LeavesDebts (seat : ℕ) (old new : GearState) : Type 0 where
  pub first : (other : ℕ) → other ≢ seat → first_debt new other ≤ first_debt old other
  pub second : (other : ℕ) → other ≢ seat → second_debt new other ≤ second_debt old other

pub debts_stay : (seat : ℕ) (gears : GearState) → LeavesDebts seat gears gears
debts_stay seat gears = record { first = λ other apart. omega arith; second = λ other apart. omega arith }

pub debts_both : (seat : ℕ) (old mid new : GearState) → LeavesDebts seat old mid → LeavesDebts seat mid new → LeavesDebts seat old new
debts_both seat old mid new one two = grind (arith, common_steps, nat_tests)

of_equal : {x y : ℕ} → x ≡ y → x ≤ y
of_equal same = omega arith

pub debts_forgiven : (seat : ℕ) (gears : GearState) (pass deep : Bool) → LeavesDebts seat gears (forgiven gears seat pass deep)
debts_forgiven seat gears pass deep = grind (arith, common_steps, nat_tests)

pub debts_first : (seat n : ℕ) (gears : GearState) → LeavesDebts seat gears (took_first gears seat n)
debts_first seat n gears = record { first = λ other apart. of_equal (get_or-set_other gears.first_debts seat other _ 0 apart); second = λ other apart. omega arith }

pub debts_second : (seat n : ℕ) (gears : GearState) → LeavesDebts seat gears (took_second gears seat n)
debts_second seat n gears = record { first = λ other apart. omega arith; second = λ other apart. of_equal (get_or-set_other gears.second_debts seat other _ 0 apart) }

pub follows_by : (seat entries quanta : ℕ) (old new : Held) → entries ≤ 1 → quanta ≤ 1 → KeepsSeats seat entries quanta old.book new.book → LeavesDebts seat old.gears new.gears → Follows seat (facts_of_held old) (facts_of_held new)
follows_by seat entries quanta old new few less keeps debts =
    holds_follow seat old.book new.book (beside_in old) (beside_in new) (keeps_less seat entries 1 quanta 1 old.book new.book few less keeps)
    (record { first = debts.first; second = debts.second })
