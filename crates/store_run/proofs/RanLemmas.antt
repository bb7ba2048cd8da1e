-- A script that was run over a disk, whoever ran it: what an opening says of the core that it gives, and the record of the run from there on, are all
-- that is asked of it.
use Rattle.std.specs.Prelude.{◌≡◌, ◌+◌, ℕ, List, [], None, IsTrue, length, replicate}
use Rattle.std.proofs.Common.{◌∙◌, ap, arith}
use Rattle.blsm_model.specs.Format.{callers}
use Rattle.blsm_model.specs.Sizes.{Sizes}
use Rattle.blsm_model.specs.declared.history.Entry.{Entry}
use Rattle.blsm_model.specs.declared.history.Line.{Line}
use Rattle.blsm_model.specs.declared.key.Key.{Key}
use Rattle.blsm_model.specs.declared.room.Room.{Room}
use Rattle.blsm_model.specs.declared.row.Value.{Value}
use Rattle.core_chain.specs.Start.{IsUnasked}
use Rattle.core_chain.proofs.DamageLemmas.{chain_stops}
use Rattle.core_chain.proofs.HelpLemmas.{chain_helps}
use Rattle.core_chain.proofs.HoldLemmas.{chain_tells_holds, holds_none}
use Rattle.core_chain.proofs.QuantaLemmas.{chain_takes_few}
use Rattle.core_chain.proofs.ReplyLemmas.{chain_notes}
use Rattle.core_chain.proofs.StepLemmas.{chain_is_steps}
use Rattle.core_chain.proofs.TellLemmas.{chain_tells}
use Rattle.core_moves.specs.Held.{charge_in}
use Rattle.core_pace.specs.Opening.{IsOpened}
use Rattle.disk_trait.specs.Disk.{DiskState}
use Rattle.disk_trait.specs.Moments.{IsTimed}
use Rattle.recover_open.specs.Opening.{HasLengthOf, KeepsMapOf, OpensAs, StaysInside, TakesFew, no_entries}
use Rattle.seat_book.specs.State.{BookState}
use Rattle.tree_core.specs.Core.{CoreState, IsCore}
use Rattle.tree_core.specs.Steps.{StandsSince}
use Rattle.tree_file.specs.Tree.{ReadsAsMap}
use Rattle.tree_session.specs.Lines.{Rests}
use Rattle.tree_shared.specs.Runs.{RunsAll}
use Rattle.store_run.specs.Run.{AreCounted, CameToEnd, HasCauses, IsRunOf, Run, WasOpened, run_at}
use Rattle.store_run.proofs.CauseLemmas.{AreCaused, causes_at}
use Rattle.store_run.proofs.FaultLemmas.{ReachesInside, counted_of, disk_inside}
use Rattle.store_run.proofs.HeadlineLemmas.{RunAndHeadline, whole_headline}
use Rattle.store_run.proofs.RunLemmas.{HasRun, by_threads, ended_of, few_turned, is_unasked, no_entries_yet, printed_of}

-- A core that was opened on this disk with this room: what the opening says of it, and what it keeps.
pub record Opened {D : Type 0} (state : D → DiskState) (room : Room) (first : D) (core : CoreState D) : Type 0 where
  pub opened : IsOpened (no_entries room) (state core.disk).faults core.held
  pub rests : Rests core.held
  pub keeps : IsCore core.held (state core.disk)
  pub begins : StandsSince state core core
  pub holds : core.holds ≡ replicate callers None
  pub weighs : charge_in core.held ≡ core.held.runs.catalogue.c1.weight + core.held.runs.catalogue.c2.weight
  pub long : HasLengthOf core.held.runs.sizes (state first)
  pub takes : TakesFew core.held.runs.sizes (state first) (state core.disk)
  pub inside : StaysInside (state first) (state core.disk)
  pub calm : (state core.disk).faults ≡ (state first).faults
  pub stands : IsTrue (state first).is_honest → OpensAs state room core (state first).bytes
  pub kept : (sizes : Sizes) (pairs : List (Key × Value)) → IsTrue (state first).is_honest → ReadsAsMap sizes pairs (state first).bytes → KeepsMapOf sizes pairs (state first) (state core.disk)

-- what is said of a run, on every disk and on an honest one
pub record RanOver {D : Type 0} (state : D → DiskState) (room : Room) (lines : List Line) (workers turns : ℕ) (run : Run) (first last : D) : Type 0 where
  pub ran : (sizes : Sizes) × HasLengthOf sizes (state first) × IsRunOf sizes lines workers turns run
  pub ended : CameToEnd workers turns run
  pub counted : AreCounted run (state first) (state last)
  pub causes : HasCauses state room run first last
  pub reaches : ReachesInside (state first) (state last)
  pub headline : IsTrue (state first).is_honest → RunAndHeadline state lines workers turns room run first last

-- so of a run that led from there to this core, of which this is left to be printed, and this disk
module _ {D : Type 0} (state : D → DiskState) (timed : (d : D) → IsTimed (state d)) (room : Room) (lines : List Line) (workers turns : ℕ) (first : D) (old new : CoreState D) (o : Opened state room first old)
    (runs : RunsAll state lines workers turns old new) where
  none_noted : old.held.book.book.entries ≡ []
  none_noted = no_entries_yet (no_entries room) (state old.disk).faults old.held o.opened

  unasked : IsUnasked state old
  unasked = is_unasked state (no_entries room) (state old.disk).faults old o.opened o.rests o.keeps o.begins

  was_opened : WasOpened state room first old
  was_opened = record {
    unasked = unasked;
    begins = o.opened;
    weighs = o.weighs;
    goes_on = o.inside.effect.goes_on;
    takes = o.takes;
    calm = o.calm;
    long = o.long;
  }

  are_caused : AreCaused state runs.came.calls old new
  are_caused = record {
    are = runs.came.are;
    tells = chain_tells state runs.came.calls old new unasked runs.came.are;
    replies = λ front behind e is. chain_notes state runs.came.calls old new front behind e runs.came.are is (omega (arith, ap (λ (es : List Entry). length es) none_noted));
    holds = (chain_tells_holds state runs.came.calls old new none_noted (holds_none old o.holds) runs.came.are).replies;
    saw = λ seat below. runs.saw seat below;
    stops = λ page stops. chain_stops state page runs.came.calls old new (ap (λ (b : BookState). b.stopped) o.opened.book) runs.came.are stops;
  }

  has_run : HasRun state lines old new
  has_run = by_threads state lines workers turns old new o.keeps runs are_caused.tells (chain_takes_few state runs.came.calls old new unasked runs.came.are)

  headline_over : (run : Run) → run ≡ run_at (charge_in old.held) new.held → (last : D) → last ≡ new.disk → IsTrue (state first).is_honest → RunAndHeadline state lines workers turns room run first last
  headline_over run is last same honest =
      let opens = o.stands honest in
      let helps = chain_helps state runs.came.calls old new unasked runs.came.are in
      whole_headline state timed room lines workers turns first old new
      (record {
        opens = opens;
        goes_on = o.inside.effect.goes_on;
        takes = o.takes;
        calm = o.calm;
        ran = ap (λ (b : BookState). b.stopped)
            o.opened.book;
        run = has_run;
      })
      none_noted (o.kept old.held.runs.sizes opens.pairs honest opens.reads) runs was_opened are_caused
      (λ opening m stands. chain_is_steps state opening runs.came.calls old new m (timed new.disk) o.keeps runs.came.are (o.inside.effect.goes_on.is_honest ∙ honest) stands)
      (few_turned state runs.came.calls (no_entries room) (state old.disk).faults old new o.opened helps) helps.rests last same run is

  pub ran_over : (run : Run) → run ≡ run_at (charge_in old.held) new.held → (last : D) → last ≡ new.disk → RanOver state room lines workers turns run first last
  ran_over run is last same = record {
    ran = printed_of state lines workers turns old new has_run runs run is (state first) o.long;
    ended = ended_of state lines workers turns old new runs run is;
    counted = counted_of state lines (no_entries room) (state old.disk).faults (state first) old new o.opened o.calm has_run run is last same;
    causes = causes_at state room first runs.came.calls old new was_opened are_caused last same run is;
    reaches = disk_inside state lines (no_entries room) (state old.disk).faults (state first) old new o.opened o.keeps o.inside has_run last same;
    headline = headline_over run is last same;
  }
