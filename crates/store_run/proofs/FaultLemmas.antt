-- How faults of a run are told, and how far its calls reach.
use Rattle.std.specs.Prelude.{◌≡◌, ℕ, ◌+◌, ◌≤◌, List, Option, Some, None, Result, Err, IsTrue, length, max}
use Rattle.std.proofs.Common.{◌∙◌, ap, sym, subst, arith}
use Rattle.blsm_model.specs.Book.{Book}
use Rattle.blsm_model.specs.Geometry.{file_length}
use Rattle.blsm_model.specs.declared.history.Line.{Line}
use Rattle.blsm_model.specs.declared.history.Why.{Why}
use Rattle.blsm_model.specs.declared.history.Why.TheVariants as why
use Rattle.core_pace.specs.Opening.{IsOpened}
use Rattle.disk_trait.specs.Disk.{DiskState, TellsFaultsBy}
use Rattle.disk_trait.specs.Moments.{LeavesOnly}
use Rattle.disk_trait.proofs.MomentLemmas.{goes_on_run, syncs_later_run}
use Rattle.recover_open.specs.Opening.{SparesImages, StaysInside}
use Rattle.refusal.specs.Count.{HasRisen, HasRisenBy}
use Rattle.seat_book.specs.State.{BookState}
use Rattle.store_file.specs.Layout.{superblock_length}
use Rattle.tree_core.specs.Core.{CoreState, IsCore}
use Rattle.tree_reading.specs.First.{IsOfFile}
use Rattle.tree_reading.specs.declared.found.Unreadable.{Unreadable}
use Rattle.tree_session.specs.Faults.{NamesCount, Reaches, faults_told}
use Rattle.core_moves.specs.Held.{charge_in}
use Rattle.store_run.specs.Run.{AreCounted, Run, run_at}
use Rattle.store_run.proofs.RunLemmas.{HasRun}

-- the count at which it began was the same before
names_count : (stopped : Option Why) (first opened last : DiskState) → opened.faults ≡ first.faults → NamesCount stopped opened last → NamesCount stopped first last
names_count (Some (why.Faulted faults)) first opened last calm names = (names.0, subst (λ (n : ℕ). HasRisen n last.faults) calm names.1)
names_count (Some (why.BadPage page)) first opened last calm names = tt
names_count None first opened last calm names = tt

-- an opening that gave a core failed in no call
pub calm_opening : (first opened : DiskState) → TellsFaultsBy (Some Unreadable.Fault) None first opened → opened.faults ≡ first.faults
calm_opening first opened faults = faults.stands (λ wrong. absurd cc)

are_counted : {D : Type 0} (state : D → DiskState) (lines : List Line) (annals : Book) (faults charge : ℕ) (first : DiskState) (old new : CoreState D) → IsOpened annals faults old.held
    → (state old.disk).faults ≡ first.faults → HasRun state lines old new → AreCounted (run_at charge new.held) first (state new.disk)
are_counted state lines annals faults charge first old new opened calm run =
    let tells = run.tells in
    let runs_on : old.held.book.stopped ≡ None = ap (λ (b : BookState). b.stopped) opened.book in
    record {
      risen = subst (λ (n : ℕ). HasRisenBy (faults_told new.held.book.book.entries) n (state new.disk).faults) calm tells.risen;
      quiet = λ none no_stop. tells.quiet none no_stop ∙ calm;
      stop = names_count new.held.book.stopped first (state old.disk) (state new.disk) calm (tells.stops runs_on);
    }

pub counted_of : {D : Type 0} (state : D → DiskState) (lines : List Line) (annals : Book) (faults : ℕ) (first : DiskState) (old new : CoreState D) → IsOpened annals faults old.held
    → (state old.disk).faults ≡ first.faults → HasRun state lines old new → (run : Run) → run ≡ run_at (charge_in old.held) new.held → (disk : D) → disk ≡ new.disk → AreCounted run first (state disk)
counted_of {D} state lines annals faults first old new opened calm has run is disk same =
    subst (λ (r : Run). AreCounted r first (state disk)) (sym is)
    (subst (λ (d : D). AreCounted (run_at (charge_in old.held) new.held) first (state d)) (sym same) (are_counted state lines annals faults (charge_in old.held) first old new opened calm has))

-- ---- how far calls reach

-- At most so many calls, none of which ends behind the superblock and the file.
abbrev pub ReachesInside : DiskState → DiskState → Type 0
ReachesInside first last = (end : ℕ) × (calls : ℕ) × (IsTrue first.tells_bytes → end ≤ max superblock_length (length first.bytes)) × Reaches end calls first last

opening_reaches : (first last : DiskState) → (inside : StaysInside first last) → Reaches inside.end inside.calls first last
opening_reaches first last inside =
    let e = inside.effect in
    record { goes_on = e.goes_on; calls = e.calls; syncs = e.syncs; sure = e.sure; no_shorter = e.no_shorter; no_longer = e.no_longer }

pub stays_inside : (first last : DiskState) → StaysInside first last → ReachesInside first last
stays_inside first last inside = (inside.end, inside.calls, inside.inside, opening_reaches first last inside)

-- calls after calls
reaches_run : (end end' calls calls' : ℕ) (first mid last : DiskState) → Reaches end calls first mid → Reaches end' calls' mid last → Reaches (max end end') (calls + calls') first last
reaches_run end end' calls calls' first mid last one two = record {
  goes_on = goes_on_run one.goes_on two.goes_on;
  calls = omega (arith, one.calls, two.calls);
  syncs = syncs_later_run one.goes_on.clock one.syncs two.syncs;
  sure = λ some within. two.sure (omega (arith, one.goes_on.sure_up_to, some)) (omega (arith, one.goes_on.sure_up_to, within)) ∙ one.sure some (omega (arith, within));
  no_shorter = λ tells. omega (arith, one.no_shorter tells, two.no_shorter (still tells));
  no_longer = λ tells. omega (arith, one.no_longer tells, two.no_longer (still tells));
}
  where
    still : IsTrue first.tells_bytes → IsTrue mid.tells_bytes
    still tells = subst IsTrue (sym one.goes_on.tells_bytes) tells

-- once a store is opened its file is as long as its geometry says, and the opening made it no longer than it may be
runs_inside : {D : Type 0} (state : D → DiskState) (lines : List Line) (annals : Book) (faults : ℕ) (first : DiskState) (old new : CoreState D) → IsOpened annals faults old.held → IsCore old.held (state old.disk)
    → StaysInside first (state old.disk) → HasRun state lines old new → ReachesInside first (state new.disk)
runs_inside state lines annals faults first old new opened core inside run =
    let runs_on : old.held.book.stopped ≡ None = ap (λ (b : BookState). b.stopped) opened.book in
    let long = (core.holds.live runs_on).on.long in (
      max inside.end (file_length old.held.runs.sizes),
      inside.calls + run.calls,
      λ tells. omega (arith, inside.inside tells, inside.effect.no_longer tells, long (subst IsTrue (sym inside.effect.goes_on.tells_bytes) tells)),
      reaches_run inside.end (file_length old.held.runs.sizes) inside.calls run.calls first (state old.disk) (state new.disk) (opening_reaches first (state old.disk) inside) run.effect,
    )

pub disk_inside : {D : Type 0} (state : D → DiskState) (lines : List Line) (annals : Book) (faults : ℕ) (first : DiskState) (old new : CoreState D) → IsOpened annals faults old.held → IsCore old.held (state old.disk)
    → StaysInside first (state old.disk) → HasRun state lines old new → (disk : D) → disk ≡ new.disk → ReachesInside first (state disk)
disk_inside {D} state lines annals faults first old new opened core inside run disk same =
    subst (λ (d : D). ReachesInside first (state d)) (sym same) (runs_inside state lines annals faults first old new opened core inside run)

-- ---- a refusal

abbrev refusal_of : (T : Type 0) → Unreadable → Result T Unreadable
refusal_of T why = Err why

pub refused_faults : {T : Type 0} (why : Unreadable) (first last : DiskState) → TellsFaultsBy (Some Unreadable.Fault) (Some why) first last
    → TellsFaultsBy {R = Result T Unreadable} (Err Unreadable.Fault) (Err why) first last
refused_faults {T} why first last faults = record {
  stands = λ other. faults.stands (λ same. other (ap (refusal_of T) (some_same same)));
  failed = λ same. faults.failed (ap (λ (w : Unreadable). Some w) (err_same same));
}
  where
    some_same : Some why ≡ Some Unreadable.Fault → why ≡ Unreadable.Fault
    some_same same = cc

    err_same : refusal_of T why ≡ refusal_of T Unreadable.Fault → why ≡ Unreadable.Fault
    err_same same = cc

-- a refusal for what the file is was none by a fault
pub spares_of_file : (why : Unreadable) (first last : DiskState) → SparesImages why first last → IsOfFile why → LeavesOnly first last first.images
spares_of_file why first last spares of_file = spares (λ same. subst IsOfFile same of_file)

-- Memory was refused for the lock: nothing was done since the opening, which failed in no call.
pub refused_calm : {T : Type 0} (first last : DiskState) → last.faults ≡ first.faults → TellsFaultsBy {R = Result T Unreadable} (Err Unreadable.Fault) (Err Unreadable.NoMemory) first last
refused_calm first last calm = record { stands = λ other. calm; failed = λ wrong. absurd cc }
