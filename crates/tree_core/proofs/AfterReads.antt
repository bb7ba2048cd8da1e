-- A call that begins on a disk that was only read, none of whose calls failed, goes on as from before.
use Rattle.std.specs.Prelude.{◌≡◌, ℕ, true, false, List, Option, IsTrue}
use Rattle.std.proofs.Common.{refl, sym, subst}
use Rattle.blsm_model.specs.declared.key.Key.{Key}
use Rattle.blsm_model.specs.declared.row.Row.{Row}
use Rattle.blsm_model.specs.declared.row.Value.{Value}
use Rattle.disk_trait.specs.Disk.{DiskState}
use Rattle.disk_trait.specs.Effects.{Affects}
use Rattle.disk_trait.specs.Moments.{IsTimed}
use Rattle.disk_trait.specs.Reads.{OnlyReads}
use Rattle.disk_trait.proofs.MomentLemmas.{leaves_only_run, leaves_only_weaken}
use Rattle.disk_trait.proofs.ReadLemmas.{only_reads_each}
use Rattle.pacing.specs.Pace.{Pace}
use Rattle.scan_view.specs.Pins.{beside_pins}
use Rattle.tree_file.proofs.StandLemmas.{stands_read}
use Rattle.tree_machine.specs.Machine.{Machine}
use Rattle.tree_machine.specs.Outcomes.{IsPossible}
use Rattle.tree_machine.specs.Plays.{may, stepped_as}
use Rattle.tree_machine.specs.Steps.{Answer}
use Rattle.tree_machine.specs.declared.step.Kind.{Kind}
use Rattle.tree_runs.specs.Holding.{AreOf}
use Rattle.core_lists.specs.Shown.{ShowsWhole}
use Rattle.core_moves.specs.declared.held.Held.{Held}
use Rattle.tree_core.specs.Calls.{BesideHolds, GoesOnAs}
use Rattle.tree_core.specs.Core.{CoreState, HoldsPace, IsCore}
use Rattle.tree_core.specs.Standing.{HasStopped, RunsOver, StandsFor}
use Rattle.tree_core.specs.Steps.{IsStep}
use Rattle.tree_core.proofs.KeepLemmas.{is_held}
use Rattle.tree_core.proofs.LastLemmas.{goes_on_by}
use Rattle.tree_core.proofs.PlayLemmas.{history_grows}
use Rattle.tree_core.proofs.QuietLemmas.{leaves_longer, reads_on, shows_now, with_rows}
use Rattle.tree_core.proofs.VersionLemmas.{commits_still}

-- ---- what stood stands

module _ {end most : ℕ} {before mid : DiskState} (reads : OnlyReads end most before mid) where
  -- by numbers, on every disk
  pub paced_after : (held : Held) (pace : Pace) → HoldsPace held pace before → HoldsPace held pace mid
  paced_after held pace holds = record {
    told = holds.told;
    live = λ runs. let live = holds.live runs in record { paced = live.paced; on = reads_on held reads live.on };
  }

  pub core_after : (held : Held) → IsCore held before → IsCore held mid
  core_after held core = record { pace = core.pace; holds = paced_after held core.pace core.holds }

  -- and by lists, on an honest one
  module _ (opening : List (Key × Value)) (held : Held) (m : Machine) (honest : IsTrue before.is_honest) where
    shown_after : HasStopped opening m before → HasStopped opening m mid
    shown_after shown = record {
      reads = subst (λ (file : List ℕ). ShowsWhole opening m file) (sym (reads.same.same.bytes honest)) shown.reads;
      each = λ c left. shown.each c (reads.same.same.images honest c left);
      commits = commits_still m m before mid refl refl (reads.same.same.bytes honest) (reads.same.same.images honest) shown.commits;
    }

    runs_after : RunsOver held m before → RunsOver held m mid
    runs_after over = record {
      fronts = over.fronts;
      tree = over.tree;
      over = record {
        stands = (stands_read held.runs.sizes over.tree reads honest over.over.stands).0;
        are_of = subst (λ (file : List ℕ). AreOf held.runs over.tree file) (sym (reads.same.same.bytes honest)) over.over.are_of;
      };
      holds = over.holds;
      within = over.within;
      lanes = over.lanes;
    }

    pub stands_after : {Rows : List (Option (List Row)) → Type 0} → StandsFor Rows opening held m before → StandsFor Rows opening held m mid
    stands_after s = record {
      paced = s.paced;
      sizes = s.sizes;
      gears = s.gears;
      book = s.book;
      charge_is = s.charge_is;
      runs = λ none. runs_after (s.runs none);
      rows = s.rows;
      stopped = λ some. shown_after (s.stopped some);
    }

    -- a step from there is one from before
    pub step_after : {Rows Next : List (Option (List Row)) → Type 0} (seat : ℕ) (k : Kind) (answer : Answer) (new : Held) (after : DiskState) →
        mid.faults ≡ before.faults → may m seat k ≡ true
        → StandsFor Rows opening held m before → IsStep Next opening seat k answer new mid after m → IsStep Next opening seat k answer new before
        after m
    step_after seat k answer new after calm can s step = record {
      outcome = step.outcome;
      possible = subst (λ (n : ℕ). IsPossible m seat k step.outcome n after.faults) calm step.possible;
      whole = step.whole;
      stands = step.stands;
      answers = step.answers;
      images = leaves_only_run
          (leaves_longer opening m (stepped_as m seat k step.outcome).state.book.entries before mid (history_grows m seat k step.outcome can)
          (leaves_only_weaken (shows_now opening held m before s).each (only_reads_each reads honest)))
          step.images;
    }

-- ---- and the call goes on

-- it says of the state before the reads what it says of that behind them
pub goes_after : {D : Type 0} {end most reach calls : ℕ} (state : D → DiskState) (seat : ℕ) (k : Kind) (answer : Answer) (old : CoreState D)
    (disk : D) (new : CoreState D)
    → OnlyReads end most (state old.disk) (state disk) → (state disk).faults ≡ (state old.disk).faults → IsCore old.held (state old.disk) → IsTimed
    (state new.disk) → is_held k ≡ false
    → Affects (beside_pins old.held.runs.sizes old.held.runs.space.pins) reach calls (state old.disk) (state new.disk)
    → GoesOnAs state seat k answer (record old { disk = disk }) new → BesideHolds state seat k answer (record old { disk = disk }) new
    → GoesOnAs state seat k answer old new × BesideHolds state seat k answer old new
goes_after state seat k answer old disk new reads calm core timed none effect goes beside =
    goes_on_by state seat k answer old new core timed none goes.may (record
    { holds = beside.holds.holds; pins = beside.holds.pins; sizes = beside.holds.sizes }) goes.commits effect goes.follows
    (λ pace holds. goes.numbers pace (paced_after reads old.held pace holds))
    (λ opening m honest s can.
    let step = beside.step opening m (subst IsTrue (sym reads.effect.goes_on.is_honest) honest) (stands_after reads opening old.held m honest s) in
    step_after reads opening old.held m honest seat k answer new.held (state new.disk) calm can s (record {
      outcome = step.outcome;
      possible = step.possible;
      whole = step.whole;
      stands = with_rows opening new.held (stepped_as m seat k step.outcome).state (state new.disk) (λ runs. tt) step.stands;
      answers = step.answers;
      images = step.images;
    }))
