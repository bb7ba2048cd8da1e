-- What was done to a disk between its fetch and its return was done to the disk of that name of the shelf.
use Rattle.std.proofs.lemmas.Bool.Decides.{nat_tests}
use Rattle.std.proofs.lemmas.Grind.{common_steps}
use Rattle.std.proofs.Common.{◌≡◌, ◌≢◌, ℕ, ◌+◌, ◌<◌, ◌≤◌, Bool, true, false, List, Some, IsTrue, Result, Ok, Err, IfErr, IfOk, IsErr, OnOk, length, refl, ap, subst, ◌∙◌, inl, inr, arith}
use Rattle.std.proofs.lemmas.Result.{IfOk-at_ok}
use Rattle.refusal.specs.Count.{HasRisen}
use Rattle.disk_trait.specs.Calls.{Fetches, GivesBack}
use Rattle.disk_trait.specs.Disk.{DiskState, TellsFaultsBy}
use Rattle.disk_trait.specs.Moments.{LeavesOnly}
use Rattle.disk_trait.specs.Shelf.{ShelfState}
use Rattle.blsm_model.specs.Geometry.{file_length}
use Rattle.blsm_model.specs.Sizes.{Sizes}
use Rattle.blsm_model.specs.declared.history.Line.{Line}
use Rattle.blsm_model.specs.declared.key.Key.{Key}
use Rattle.blsm_model.specs.declared.room.Room.{Room}
use Rattle.blsm_model.specs.declared.row.Value.{Value}
use Rattle.core_moves.specs.declared.held.Settled.{Settled}
use Rattle.tree_file.specs.Tree.{ReadsAsMap}
use Rattle.recover_open.specs.Settled.{ToldSettling}
use Rattle.recover_open.specs.Opening.{HasLengthOf, KeepsMapOf, ReadsAsNone}
use Rattle.tree_reading.specs.First.{IsOfFile}
use Rattle.tree_reading.specs.Reading.{HasLooked, IsWhy, reading_calls}
use Rattle.tree_reading.specs.Report.{IsReportOf}
use Rattle.tree_reading.specs.declared.found.Unreadable.{Unreadable}
use Rattle.tree_reading.specs.declared.found.Unreadable.TheVariants as unreadable
use Rattle.tree_reading.specs.declared.report.Report.{Report}
use Rattle.recover_open.specs.Making.{IsMadeEmpty, WasNotEmpty}
use Rattle.recover_open.specs.declared.making.NotMade.{NotMade}
use Rattle.recover_open.specs.declared.making.NotMade.TheVariants as not_made
use Rattle.store_run.specs.declared.run.Finished.{Finished}
use Rattle.store_run.specs.Headline.{Headline}
use Rattle.store_trial.specs.Trial.{IsRoomOf}
use Rattle.store_run.specs.declared.run.Ending.{Ending}
use Rattle.store_run.specs.Run.{AreCounted, CameToEnd, HasCauses, IsEnding, IsRunInOrder, IsRunOf, Run, run_of}
use Rattle.store_serve.specs.Room.{room_for}
use Rattle.store_serve.specs.Taken.{TakesLines, lines_in}
use Rattle.store_serve.specs.declared.serve.Served.{Served}
use Rattle.text_io.specs.Text.{SourceState}
use Rattle.blsm_run.specs.Outside.{HasFetched, OfTheDisk}
use Rattle.blsm_run.specs.Stores.{
  WasCalm,
  HasFailedOnce,
  LeavesMade,
  WasMade,
  MakesOnShelf,
  LeavesClosed,
  WasRefused,
  IsRunOnShelf,
  RefusesOnShelf,
  RunsOnShelf,
  ServesOnShelf,
  StaysWithin,
  WasLookedAt,
  WasSettled,
  ChecksOnShelf,
  SettlesOnShelf,
}

-- the fetch failed
pub not_fetched : {D E : Type 0} {state : D → DiskState} {name : List ℕ} {fresh : Bool} {old new : ShelfState D} (P : DiskState → DiskState → Type 0) (result : Result D E)
    → Fetches state name fresh result old new → ((disk : D) → result ≡ Ok disk → ⊥) → HasFailedOnce state name fresh old new P
not_fetched P (Ok disk) f none = absurd (none disk refl)
not_fetched P (Err error) f none = record {
  fetched = record {
    fetches = f.noted;
    named = λ tells room quiet. absurd (omega (arith, quiet.0, quiet.1, f.failed refl));
    others = λ tells. record { disks = λ other apart. (f.err tells).disks other; out = λ other apart. (f.err tells).out other };
  };
  disk = inl f.err;
  rose = (f.failed refl, f.one_fault);
}

-- where it wasn't by a fault, a looking makes at most one
looked_once : {most : Sizes → ℕ} {first last : DiskState} → HasLooked most first last → last.faults ≤ first.faults + 1
looked_once h1 = grind (arith, common_steps, nat_tests)

-- a fault is told by the reason itself
tells_why : {T : Type 0} (why : Unreadable) {first last : DiskState} → TellsFaultsBy {R = Result T Unreadable} (Err unreadable.Fault) (Err why) first last → TellsFaultsBy unreadable.Fault why first last
tells_why why tells = record { stands = λ other. tells.stands (λ same. let is : why ≡ unreadable.Fault = cc in other is); failed = λ is. tells.failed (ap (λ (w : Unreadable). Err w) is) }

-- a disk on which a store was made had no bytes
was_empty : (result : Result (Unit {0}) NotMade) (n : ℕ) → result ≡ Ok tt → (0 < n → result ≢ Err not_made.Fault → result ≡ Err (not_made.NotEmpty n)) → n ≡ 0
was_empty result n h1 h2 = grind (arith, common_steps, nat_tests)

-- A disk was fetched under its name, and what it became was given back.
module _ {D E : Type 0} {state : D → DiskState} {name : List ℕ} {fresh : Bool} {old mid new : ShelfState D} {disk last : D} (f : Fetches {D = D} {E = E} state name fresh (Ok disk) old mid) (b : GivesBack state name last mid new) where
  given_back : IsTrue old.tells_disks → new.disk_at name ≡ Some last
  given_back tells = (b.put (f.told.disks ∙ tells) (f.taken tells).out).stands

  -- the fetch, as it is noted
  fetched : HasFetched name fresh old new
  fetched = record {
    fetches = λ tells room. inl (b.noted ∙ f.noted tells room);
    named = λ tells room quiet. b.noted ∙ f.noted tells room;
    others = λ tells.
        let took = (f.taken tells).others in
        let put = (b.put (f.told.disks ∙ tells) (f.taken tells).out).others in
        record { disks = λ other apart. put.disks other apart ∙ took.disks other apart; out = λ other apart. put.out other apart ∙ took.out other apart };
  }

  -- what is said of the disk as it was fetched and as it was given back
  of_the_disk : (P : DiskState → DiskState → Type 0) → P (state disk) (state last) → OfTheDisk state name old new P
  of_the_disk P says tells = let stood = (f.taken tells).stood in (stood.0, disk, last, stood.1, stood.2, given_back tells, says)

  stands : mid.faults ≡ old.faults
  stands = f.stands

  was_calm : (P : DiskState → DiskState → Type 0) → (state last).faults ≡ (state disk).faults → P (state disk) (state last) → WasCalm state name fresh old new P
  was_calm P calm says = record { fetched = fetched; disk = of_the_disk P says; quiet = grind (arith, stands, b.faults, calm ∙ f.count) }

  has_failed : (P : DiskState → DiskState → Type 0) → HasRisen (state disk).faults (state last).faults → (state last).faults ≤ (state disk).faults + 1 → P (state disk) (state last)
      → HasFailedOnce state name fresh old new P
  has_failed P risen once says = record {
    fetched = fetched;
    disk = inr (of_the_disk P says);
    rose = (grind (arith, stands, b.faults, f.count, risen), grind (arith, stands, b.faults, f.count, once));
  }

module _ {D E : Type 0} {state : D → DiskState} {name : List ℕ} {old mid new : ShelfState D} {disk last : D} (f : Fetches {D = D} {E = E} state name true (Ok disk) old mid) (b : GivesBack state name last mid new) where
  pub made : (sizes : Sizes) (n : ℕ) (result : Result (Unit {0}) NotMade) → n ≡ file_length sizes → result ≡ Ok tt
      → (IsTrue (state disk).tells_bytes → 0 < length (state disk).bytes → result ≢ Err not_made.Fault → result ≡ Err (not_made.NotEmpty (length (state disk).bytes)))
      → OnOk result (IsTrue (state disk).is_honest → IsMadeEmpty sizes (state last)) → OnOk result (IsTrue (state disk).tells_bytes → length (state last).bytes ≡ file_length sizes)
      → LeavesMade sizes (state disk) (state last)
      → TellsFaultsBy (Err not_made.Fault) result (state disk) (state last) → MakesOnShelf state name sizes old new (Ok n)
  made sizes n result is_length is full empty long leaves tells = (
    is_length,
    was_calm f b (WasMade sizes) (tells.stands (λ wrong. cc)) (record {
      none = λ tells_bytes. was_empty result (length (state disk).bytes) is (full tells_bytes);
      made = IfOk-at_ok (λ done. IsTrue (state disk).is_honest → IsMadeEmpty sizes (state last)) is empty;
      long = IfOk-at_ok (λ done. IsTrue (state disk).tells_bytes → length (state last).bytes ≡ file_length sizes) is long;
      leaves = leaves;
    }),
  )

  pub not_made_so : (sizes : Sizes) (why : NotMade) (result : Result (Unit {0}) NotMade) → result ≡ Err why
      → ((n : ℕ) → result ≡ Err (not_made.NotEmpty n) → WasNotEmpty n (state disk) (state last)) → LeavesMade sizes (state disk) (state last)
      → TellsFaultsBy (Err not_made.Fault) result (state disk) (state last) → MakesOnShelf state name sizes old new (Err why)
  not_made_so sizes (not_made.NotEmpty n) result is had leaves tells = was_calm f b (WasNotEmpty n) (tells.stands (λ wrong. cc)) (had n is)
  not_made_so sizes not_made.Fault result is had leaves tells = has_failed f b (LeavesMade sizes) (tells.failed is) leaves.effect.one_fault leaves

module _ {D E : Type 0} {state : D → DiskState} {name : List ℕ} {old mid new : ShelfState D} {disk last : D} (f : Fetches {D = D} {E = E} state name false (Ok disk) old mid) (b : GivesBack state name last mid new) where
  -- for what its file is, or for want of memory
  refused : (why : Unreadable) → (IsTrue (state disk).is_honest → IsWhy why (state disk).bytes) → LeavesClosed (state disk) (state last)
      → (IsTrue (state disk).is_honest → IsOfFile why → LeavesOnly (state disk) (state last) (state disk).images) → (state last).faults ≡ (state disk).faults → WasCalm state name false old new (WasRefused why)
  refused why because leaves spares calm = was_calm f b (WasRefused why) calm (record { because = because; leaves = leaves; spares = spares })

  -- the store wasn't opened
  refuses : (why : Unreadable) → (IsTrue (state disk).is_honest → IsWhy why (state disk).bytes) → LeavesClosed (state disk) (state last)
      → (IsTrue (state disk).is_honest → IsOfFile why → LeavesOnly (state disk) (state last) (state disk).images)
      → (state last).faults ≤ (state disk).faults + 1 → TellsFaultsBy unreadable.Fault why (state disk) (state last) → RefusesOnShelf state name old new why
  refuses unreadable.Fault because leaves spares once tells = has_failed f b LeavesClosed (tells.failed refl) once leaves
  refuses unreadable.NotAStore because leaves spares once tells = refused unreadable.NotAStore because leaves spares (tells.stands (λ wrong. cc))
  refuses (unreadable.Damaged place) because leaves spares once tells = refused (unreadable.Damaged place) because leaves spares (tells.stands (λ wrong. cc))
  refuses (unreadable.Worn version) because leaves spares once tells = refused (unreadable.Worn version) because leaves spares (tells.stands (λ wrong. cc))
  refuses unreadable.NoMemory because leaves spares once tells = refused unreadable.NoMemory because leaves spares (tells.stands (λ wrong. cc))

  -- lines were done over it
  did_lines : (lines : List Line) (workers turns : ℕ) (IsRoom : Room → Type 0) (room : Room) (run : Run) (ending : Ending) → IsRoom room
      → (sizes : Sizes) × HasLengthOf sizes (state disk) × IsRunOf sizes lines workers turns run → CameToEnd workers turns run
      → AreCounted run (state disk) (state last) → IsEnding ending run (state last).faults → HasCauses state room run disk last → StaysWithin (state disk) (state last)
      → (IsTrue (state disk).is_honest → (sizes : Sizes) × IsRunOf sizes lines workers turns run × Headline state sizes lines workers turns run room disk last)
      → IsRunOnShelf state name lines workers turns IsRoom run ending old new
  did_lines lines workers turns IsRoom room run ending has_room printed came counted ended causes inside headline = record {
    sizes = printed.0;
    printed = printed.2;
    came = came;
    fetched = fetched f b;
    first = disk;
    last = last;
    disk = λ tells_disks. let stood = (f.taken tells_disks).stood in record { stood = stood.0; was = stood.1; fresh = stood.2; back = given_back f b tells_disks };
    ran = record {
      counted = counted;
      ended = ended;
      within = inside;
      long = printed.1;
      room = room;
      room_is = has_room;
      causes = causes;
      headline = headline;
    };
    fresh = f.count;
    rose = grind (arith, stands f b, b.faults);
    faults = grind (arith, stands f b, b.faults, f.count, counted.risen);
  }

  pub runs : (lines : List Line) (workers turns : ℕ) (room : Room) (result : Result Finished Unreadable) → IsRoomOf room lines
      → IfOk result (λ finished. (sizes : Sizes) × HasLengthOf sizes (state disk) × IsRunOf sizes lines workers turns (run_of finished)) → IfOk result (λ finished. CameToEnd workers turns (run_of finished))
      → IfOk result (λ finished. AreCounted (run_of finished) (state disk) (state last)) → IfOk result (λ finished. IsEnding finished.ending (run_of finished) (state last).faults)
      → IfOk result (λ finished. HasCauses state room (run_of finished) disk last) → StaysWithin (state disk) (state last)
      → (IsTrue (state disk).is_honest → IfOk result (λ finished. (sizes : Sizes) × IsRunOf sizes lines workers turns (run_of finished) × Headline state sizes lines workers turns (run_of finished) room disk last))
      → (IsTrue (state disk).is_honest → IfErr result (λ why. IsWhy why (state disk).bytes))
      → ((sizes : Sizes) (pairs : List (Key × Value)) → IsTrue (state disk).is_honest → ReadsAsMap sizes pairs (state disk).bytes → IfErr result (λ why. KeepsMapOf sizes pairs (state disk) (state last)))
      → (IsTrue (state disk).is_honest → ReadsAsNone (state disk).bytes → LeavesOnly (state disk) (state last) (state disk).images)
      → (IsTrue (state disk).is_honest → IfErr result (λ why. IsOfFile why → LeavesOnly (state disk) (state last) (state disk).images))
      → (IsErr result → (state last).faults ≤ (state disk).faults + 1) → (IsErr result → TellsFaultsBy (Err unreadable.Fault) result (state disk) (state last))
      → RunsOnShelf state name lines workers turns old new result
  runs lines workers turns room (Ok finished) has_room printed came counted ended causes inside headline because keeps untouched spares once tells =
      did_lines lines workers turns (λ r. IsRoomOf r lines) room (run_of finished) finished.ending has_room printed came counted ended causes inside headline
  runs lines workers turns room (Err why) has_room printed came counted ended causes inside headline because keeps untouched spares once tells =
      refuses why because (record { keeps = keeps; untouched = untouched; within = inside }) spares (once refl) (tells_why why (tells refl))

  -- and the source gave them
  pub serves : (callers : ℕ) (room : Room) (result : Result Served Unreadable) (source source_after : SourceState) → room ≡ room_for callers
      → IfOk result (λ s. (sizes : Sizes) × HasLengthOf sizes (state disk) × IsRunInOrder sizes (lines_in (run_of s.finished).entries) (run_of s.finished)) → IfOk result (λ s. CameToEnd 0 0 (run_of s.finished))
      → IfOk result (λ s. AreCounted (run_of s.finished) (state disk) (state last)) → IfOk result (λ s. IsEnding s.finished.ending (run_of s.finished) (state last).faults)
      → IfOk result (λ s. HasCauses state room (run_of s.finished) disk last) → StaysWithin (state disk) (state last)
      → (IsTrue (state disk).is_honest → IfOk result (λ s. (sizes : Sizes) × IsRunInOrder sizes (lines_in (run_of s.finished).entries) (run_of s.finished)
      × Headline state sizes (lines_in (run_of s.finished).entries) 0 0 (run_of s.finished) room disk last))
      → (IsTrue (state disk).is_honest → IfErr result (λ why. IsWhy why (state disk).bytes))
      → ((sizes : Sizes) (pairs : List (Key × Value)) → IsTrue (state disk).is_honest → ReadsAsMap sizes pairs (state disk).bytes → IfErr result (λ why. KeepsMapOf sizes pairs (state disk) (state last)))
      → (IsTrue (state disk).is_honest → ReadsAsNone (state disk).bytes → LeavesOnly (state disk) (state last) (state disk).images)
      → (IsTrue (state disk).is_honest → IfErr result (λ why. IsOfFile why → LeavesOnly (state disk) (state last) (state disk).images))
      → (IsErr result → (state last).faults ≤ (state disk).faults + 1) → (IsErr result → TellsFaultsBy (Err unreadable.Fault) result (state disk) (state last))
      → IfOk result (λ s. TakesLines (run_of s.finished).entries s.closing room source source_after) → (IsErr result → source_after ≡ source)
      → ServesOnShelf state name callers old new source source_after result
  serves callers room (Ok s) source source_after has_room printed came counted ended causes inside headline because keeps untouched spares once tells takes unasked = record {
    runs = did_lines (lines_in (run_of s.finished).entries) 0 0 (λ r. r ≡ room_for callers) room (run_of s.finished) s.finished.ending has_room (printed.0, printed.1, printed.2.printed) came counted ended causes inside
        (λ honest. let whole = headline honest in (whole.0, whole.1.printed, whole.2));
    takes = subst (λ (r : Room). TakesLines (run_of s.finished).entries s.closing r source source_after) has_room takes;
  }
  serves callers room (Err why) source source_after has_room printed came counted ended causes inside headline because keeps untouched spares once tells takes unasked =
      (refuses why because (record { keeps = keeps; untouched = untouched; within = inside }) spares (once refl) (tells_why why (tells refl)), unasked refl)

  looked_at : (P : List ℕ → Type 0) → (IsTrue (state disk).is_honest → P (state disk).bytes) → HasLooked reading_calls (state disk) (state last) → (state last).faults ≡ (state disk).faults
      → WasCalm state name false old new (WasLookedAt P)
  looked_at P is looked calm = was_calm f b (WasLookedAt P) calm (record { is = is; looked = looked })

  -- it was settled, or wasn't opened
  pub settles : (result : Result Settled Unreadable) → IfOk result (λ counts. ToldSettling counts (state disk) (state last))
      → (IsTrue (state disk).is_honest → OnOk result ((sizes : Sizes) × (pairs : List (Key × Value)) × ReadsAsMap sizes pairs (state disk).bytes))
      → (IsTrue (state disk).is_honest → IfErr result (λ why. IsWhy why (state disk).bytes)) → LeavesClosed (state disk) (state last)
      → (IsTrue (state disk).is_honest → IfErr result (λ why. IsOfFile why → LeavesOnly (state disk) (state last) (state disk).images))
      → (state last).faults ≤ (state disk).faults + 1 → TellsFaultsBy (Err unreadable.Fault) result (state disk) (state last)
      → SettlesOnShelf state name old new result
  settles (Ok counts) counted reads because leaves spares once tells =
      was_calm f b (WasSettled counts) (tells.stands (λ wrong. cc)) (record { counted = counted; reads = reads; leaves = leaves })
  settles (Err why) counted reads because leaves spares once tells = refuses why because leaves spares once (tells_why why tells)

  pub checks : (result : Result Report Unreadable) → (IsTrue (state disk).is_honest → IfOk result (λ report. IsReportOf report (state disk).bytes))
      → (IsTrue (state disk).is_honest → IfErr result (λ why. IsWhy why (state disk).bytes)) → HasLooked reading_calls (state disk) (state last)
      → TellsFaultsBy (Err unreadable.Fault) result (state disk) (state last) → ChecksOnShelf state name old new result
  checks (Ok report) is because looked tells = looked_at (IsReportOf report) is looked (tells.stands (λ wrong. cc))
  checks (Err unreadable.Fault) is because looked tells = has_failed f b (HasLooked reading_calls) (tells.failed refl) (looked_once looked) looked
  checks (Err unreadable.NotAStore) is because looked tells = looked_at (IsWhy unreadable.NotAStore) because looked (tells.stands (λ wrong. cc))
  checks (Err (unreadable.Damaged place)) is because looked tells = looked_at (IsWhy (unreadable.Damaged place)) because looked (tells.stands (λ wrong. cc))
  checks (Err (unreadable.Worn version)) is because looked tells = looked_at (IsWhy (unreadable.Worn version)) because looked (tells.stands (λ wrong. cc))
  checks (Err unreadable.NoMemory) is because looked tells = looked_at (IsWhy unreadable.NoMemory) because looked (tells.stands (λ wrong. cc))
