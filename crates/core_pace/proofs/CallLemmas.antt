-- What the calls of an admission and of a payment require and find.
use Rattle.std.proofs.Common.{◌≡◌, ◌+◌, refl, ap, sym, subst, arith}
use Rattle.std.proofs.lemmas.Grind.{common_steps}
use Rattle.std.proofs.lemmas.Bool.Decides.{nat_tests}
use Rattle.disk_trait.specs.Disk.{DiskState}
use Rattle.record_delta.specs.Entries.{Entries, entries_weight}
use Rattle.gear_sched.specs.Gears.{GearState, first_debt, second_debt, plan_for, Owes}
use Rattle.gear_sched.specs.declared.Plan.TheVariants.{Nothing}
use Rattle.pacing.specs.Pace.{Pace, Written, with_forgiven}
use Rattle.pacing.specs.Kept.{IsPaced}
use Rattle.pacing.specs.Steps.{Lands, ready_for, plan_of}
use Rattle.pacing.proofs.Writes as pacing
use Rattle.pacing.proofs.Admissions.{ready as pacing_ready}
use Rattle.pacing.proofs.Counts.{pay}
use Rattle.pacing.proofs.Forgiven.{falls_at}
use Rattle.pacing.proofs.Payments.{snow_owed, deep_owed}
use Rattle.paced_tree.proofs.Terms.{no_quantum}
use Rattle.core_moves.specs.declared.held.Held.{Held}
use Rattle.core_moves.specs.Held.{goes_ahead, IsDeepDone}
use Rattle.core_moves.specs.Needs.{IsOn, IsReady}
use Rattle.core_moves.specs.Moves.{begun_in, SettlesDeep, SettlesPass, with_debts_forgiven}
use Rattle.core_pace.specs.Events.{AreWritten, MayWrite, plan_in}
use Rattle.core_pace.proofs.TestLemmas.{forgiving_has_pace}
use Rattle.core_pace.proofs.WriteLemmas.{lands_by}
use Rattle.core_pace.proofs.NeedLemmas.{pages_fit, writes_fit}
use Rattle.core_pace.proofs.CountLemmas.{counts_are_small}
use Rattle.core_pace.proofs.EventLemmas.{deep_keeps, ready_keeps, may_admit_of, moves_are_told, forgiving_is_paced}
use Rattle.core_pace.specs.Pacing.{IsPacedHeld, HasPace}
use Rattle.std.specs.Prelude.{ℕ, ◌<◌}
use Rattle.blsm_model.specs.declared.op.Op.{Op}
use Rattle.blsm_model.specs.Format.{callers}
use Rattle.core_pace.proofs.Terms.{entries_to, IsBetween, CallsFit, KeepsBook, IsWritable}

-- a step begins between two moves
pub paced_is_between : (held : Held) (pace : Pace) → IsPacedHeld held pace → IsBetween held pace
paced_is_between held pace k = record { numbers = k.numbers; told = k.told; one = k.one; ends = k.ends; version = k.version }

pub between_fits : (held : Held) (pace : Pace) → IsBetween held pace → CallsFit held
between_fits held pace between = grind (arith, common_steps, nat_tests, pages_fit, counts_are_small)

-- so on a disk where its merges are in order each of them may be made
pub between_is_ready : (held : Held) (pace : Pace) (d : DiskState) → IsBetween held pace → IsOn held d → IsReady held d
between_is_ready held pace d between on = let calls = between_fits held pace between in record { on = on; fits = calls.fits; small = calls.small; lanes = calls.lanes }

-- ---- an admission

pub settled_is_not_done : (old settled : Held) → SettlesDeep old settled → IsDeepDone settled → ⊥
settled_is_not_done old settled settles over = grind (arith, common_steps, nat_tests)

pub moves_keep_book : (old settled ready : Held) (w : ℕ) → SettlesDeep old settled → SettlesPass settled ready → KeepsBook old.book settled.book × KeepsBook old.book (begun_in w ready).book
moves_keep_book old settled ready w deep pass = (deep_keeps old settled deep, ready_keeps old settled ready w deep pass)

module _ (seat : ℕ) (op : Op) (more : Entries) (old settled ready : Held) (pace : Pace) (written : AreWritten more) (k : IsPacedHeld old pace)
    (may : MayWrite seat (entries_weight more) op old) (deep : SettlesDeep old settled) (pass : SettlesPass settled ready) where
  abbrev begun : Held
  begun = begun_in (entries_weight more) ready

  abbrev before : Pace
  before = ready_for pace (entries_weight more)

  -- where they would land
  abbrev entry : Written
  entry = entries_to (goes_ahead more begun) more op begun

  between : IsBetween begun before
  between = (moves_are_told old settled ready pace (entries_weight more) k deep pass).1

  lands : Lands before entry
  lands = lands_by more op begun before written.some between.numbers between.one (goes_ahead more begun) refl

  now : IsPaced before × pacing.IsReady before seat (entries_weight more)
  now = pacing_ready pace seat entry k.told.paced (may_admit_of seat op old pace entry written.some refl k may lands)

  pub admission_fits : IsWritable seat more begun
  admission_fits = record {
    settled = subst (λ (g : GearState). first_debt g seat + second_debt g seat ≡ 0) between.numbers.gears now.1.settled;
    fits = writes_fit more op begun before written between.numbers between.one between.told.paced between.ends now.1.has_room may.heavy;
  }

-- ---- a payment

-- the plan of the code is the pacing's
pub plan_agrees : (seat : ℕ) (held : Held) (pace : Pace) → HasPace held pace → plan_in seat held ≡ plan_of (with_forgiven pace seat) seat
plan_agrees seat held pace p = sym (ap (λ (g : GearState). plan_for (first_debt g seat) (second_debt g seat)) (forgiving_has_pace seat held pace p).gears)

-- a seat with something to pay once what may be forgiven is owed it before
pub payers_owe : (seat : ℕ) (held : Held) → (plan_in seat held ≡ Nothing → ⊥) → Owes held.gears seat
payers_owe seat held owes = grind (arith, common_steps, nat_tests, falls_at, snow_owed, deep_owed)

-- a payment that finds nothing to pay has forgiven, and the tree goes on
pub settling_is_paced : (seat : ℕ) (held : Held) (pace : Pace) → seat < callers → IsPacedHeld held pace → IsPacedHeld (with_debts_forgiven seat held) (with_forgiven pace seat)
settling_is_paced seat held pace caller k =
    let between = (forgiving_is_paced seat held pace caller k).0 in
    record { numbers = between.numbers; told = between.told; counted = pay Nothing pace seat no_quantum k.counted; one = between.one; ends = between.ends; version = between.version }
