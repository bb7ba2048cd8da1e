-- A hold, the reading on in it and its drop, each with all that the core says of it.
use Rattle.std.specs.Prelude.{◌≡◌, ◌≢◌, ℕ, ◌<◌, ◌≤◌, ◌^◌, true, List, Option, Some, IsTrue}
use Rattle.std.proofs.lemmas.Grind.{common_steps}
use Rattle.std.proofs.lemmas.Bool.Decides.{nat_tests}
use Rattle.std.proofs.Common.{arith, ap}
use Rattle.std.proofs.Common.{◌∙◌, refl, subst, sym}
use Rattle.blsm_model.specs.Book.{HasRoom}
use Rattle.blsm_model.specs.Format.{most_rows}
use Rattle.blsm_model.specs.Geometry.{file_length}
use Rattle.blsm_model.specs.declared.key.Key.{Key}
use Rattle.blsm_model.specs.declared.row.Value.{Value}
use Rattle.blsm_model.specs.declared.op.Op.{Op}
use Rattle.blsm_model.specs.declared.op.Op.TheVariants as op
use Rattle.blsm_model.specs.declared.history.Reply.{Reply}
use Rattle.disk_trait.specs.Disk.{DiskState}
use Rattle.disk_trait.specs.Moments.{IsTimed}
use Rattle.disk_trait.specs.Reads.{OnlyReads}
use Rattle.disk_trait.proofs.ReadLemmas.{only_reads_start}
use Rattle.page_file.specs.Component.{entries_of}
use Rattle.record_delta.specs.Entries.{above, replayed}
use Rattle.scan_view.specs.Hold.{HoldState}
use Rattle.scan_view.specs.Holds.{hold_of, pages_behind}
use Rattle.scan_view.specs.Pins.{HasHeld}
use Rattle.seat_book.specs.State.{BookState, noted_in, may_note_in}
use Rattle.tree_machine.specs.Lists.{rows_in}
use Rattle.tree_machine.specs.Machine.{Machine}
use Rattle.tree_machine.specs.Plays.{may}
use Rattle.tree_machine.specs.Steps.{Replied}
use Rattle.tree_machine.specs.declared.step.Kind.{Kind}
use Rattle.tree_machine.specs.declared.step.Kind.TheVariants as kind
use Rattle.tree_file.specs.Tree.{Tree}
use Rattle.tree_runs.specs.Holding.{AreOf}
use Rattle.core_moves.specs.declared.held.Held.{Held}
use Rattle.core_moves.specs.Moves.{with_book}
use Rattle.core_moves.specs.Needs.{IsOn}
use Rattle.tree_core.specs.declared.answers.Holding.{Holding}
use Rattle.tree_core.specs.declared.answers.Holding.TheVariants as holding
use Rattle.tree_core.specs.declared.answers.Release.{Release}
use Rattle.tree_core.specs.Answers.{HasDropped, reply_to_drop, reply_to_hold, reply_to_next}
use Rattle.tree_core.specs.Calls.{GoesOnAs, HoldsRange, LetsGo, ReadsOn}
use Rattle.tree_core.specs.Causes.{DropsBecause, HoldsBecause, PassesPages, ScansBecause, ScansNone}
use Rattle.tree_core.specs.Core.{CoreState, IsCore}
use Rattle.tree_core.specs.HoldMoves.{MovesHold, undisked}
use Rattle.tree_core.specs.Holds.{AreFew, StandsWhole}
use Rattle.tree_core.specs.Scanned.{Scanned}
use Rattle.tree_core.specs.Scanned as scanned
use Rattle.tree_core.specs.Steps.{IsWholeStep, may_in}
use Rattle.tree_core.proofs.HoldSteps.{IsHoldKind, after_it, hold_follows, hold_kind, hold_moves, leaves_others, moved_on, next_kind, release_kind}
use Rattle.tree_core.proofs.HoldStepsByCall.{GivesRows, drop_room, drop_steps, hold_room, hold_steps, next_moves, next_room, next_steps, notes_below}
use Rattle.tree_core.proofs.LastLemmas.{goes_by, may_next}
use Rattle.tree_core.proofs.PlayLemmas.{may_agrees}
use Rattle.tree_core.proofs.QuietLemmas.{reads_on}
use Rattle.tree_core.proofs.KeepLemmas.{no_commits}

-- ---- what each is due to doesn't speak of the entry

hold_cause : {D : Type 0} (mid : Held) (after : List (Option HoldState)) (answer : Holding) (seat : ℕ) (low high : Key) (old : CoreState D) (disk : D) (b : BookState) → HoldsBecause answer seat low high (undisked old.held old.holds) (undisked mid after)
    → HoldsBecause answer seat low high old (record { disk = disk; held = with_book b mid; holds = after })
hold_cause mid after holding.Held seat low high old disk b because = because
hold_cause mid after holding.NoMemory seat low high old disk b because = because
hold_cause mid after (holding.Stopped why) seat low high old disk b because = because

next_cause : {D : Type 0} (mid : Held) (after : List (Option HoldState)) (answer : Scanned) (seat n : ℕ) (old : CoreState D) (disk : D) (b : BookState) (d d2 : DiskState) → ScansBecause answer seat n (undisked old.held old.holds) (undisked mid after) d d2
    → ScansBecause answer seat n old (record { disk = disk; held = with_book b mid; holds = after }) d d2
next_cause mid after answer seat n old disk b d d2 h1 = grind (arith, common_steps, nat_tests)

drop_cause : {D : Type 0} (mid : Held) (after : List (Option HoldState)) (answer : Release) (seat : ℕ) (old : CoreState D) (disk : D) (b : BookState) → DropsBecause answer seat (undisked old.held old.holds) (undisked mid after)
    → DropsBecause answer seat old (record { disk = disk; held = with_book b mid; holds = after })
drop_cause mid after answer seat old disk b h1 = grind (arith, common_steps, nat_tests)

-- ---- the calls

-- What the three have in common, where the disk is only read, or isn't called.
hold_goes : {D : Type 0} {end most : ℕ} {k : Kind} {command : Op} {mid : Held} {after : List (Option HoldState)} (state : D → DiskState) (seat : ℕ) (r : Reply) (old : CoreState D) (disk : D) → IsCore old.held (state old.disk) → IsTimed (state disk)
    → IsHoldKind seat k command → MovesHold seat old.held mid old.holds after → OnlyReads end most (state old.disk) (state disk) → (IsOn old.held (state old.disk) → IsOn mid (state disk))
    → HasRoom old.held.book.book.room (record { seat = seat; op = command; reply = r }) → may_in old.held seat k ≡ true
    → ((opening : List (Key × Value)) (m : Machine) → IsTrue (state old.disk).is_honest → StandsWhole state opening old m → may m seat k ≡ true
    → IsWholeStep state opening seat k (Replied r) old (after_it disk mid after seat command r old.held) m)
    → GoesOnAs state seat k (Replied r) old (after_it disk mid after seat command r old.held)
hold_goes {D} {end} {most} {k} {command} {mid} {after} state seat r old disk core timed is moves reads on room can steps =
    goes_by state seat k (Replied r) old (after_it disk mid after seat command r old.held) core timed can reads.effect.goes_on (no_commits old.held (with_book (noted_in seat command r old.held.book) mid) (ap (λ (held : Held). held.runs.catalogue) moves.rest) refl) (hold_follows command r moves) (λ pace holds. hold_moves r pace is moves on room holds)
    (λ opening m honest stands. steps opening m honest stands (may_agrees seat k old.held m stands.book stands.gears ∙ can))

pub hold_does : {D : Type 0} {mid : Held} {after : List (Option HoldState)} (state : D → DiskState) (seat : ℕ) (low high : Key) (answer : Holding) (old : CoreState D) (b : BookState) → IsCore old.held (state old.disk) → IsTimed (state old.disk)
    → may_note_in seat 0 old.held.book ≡ true → MovesHold seat old.held mid old.holds after → HoldsBecause answer seat low high (undisked old.held old.holds) (undisked mid after)
    → ((tree : Tree) (file : List ℕ) → answer ≡ holding.Held → AreOf old.held.runs tree file → HasDropped old.held tree file
    → old.held.log.a.entries ≡ above old.held.log.a.floor (replayed tree.lane_a.entries)
    → HasHeld old.held.runs.sizes mid.runs.space.pins seat (hold_of seat after)
    (Some (rows_in (record { b = old.held.log.b.entries; a = replayed tree.lane_a.entries; c1 = entries_of tree.c1; c1x = entries_of tree.c1x; c2 = entries_of tree.c2 }) low high)) file)
    → b ≡ noted_in seat (op.Hold low high) (reply_to_hold answer) old.held.book → HoldsRange state seat low high answer old (record { disk = old.disk; held = with_book b mid; holds = after })
hold_does {D} {mid} {after} state seat low high answer old b core timed can moves because rows is =
    subst (λ (x : BookState). HoldsRange state seat low high answer old (record { disk = old.disk; held = with_book x mid; holds = after })) (sym is) (record { goes = goes; cause = hold_cause mid after answer seat low high old old.disk noted because; others = leaves_others old old.disk noted moves; book = refl; untouched = refl })
  where
    noted : BookState
    noted = noted_in seat (op.Hold low high) (reply_to_hold answer) old.held.book

    reads : OnlyReads 0 0 (state old.disk) (state old.disk)
    reads = only_reads_start (state old.disk) timed

    goes : GoesOnAs state seat (kind.Hold low high) (Replied (reply_to_hold answer)) old (after_it old.disk mid after seat (op.Hold low high) (reply_to_hold answer) old.held)
    goes = hold_goes state seat (reply_to_hold answer) old old.disk core timed (hold_kind seat low high) moves reads (moved_on (state old.disk) moves) (hold_room seat low high answer old.held.book can) can
        (λ opening m honest stands ok. hold_steps state opening seat low high answer old mid after m (λ runs. (core.holds.live runs).paced.one) timed honest (notes_below seat 0 old.held.book can) moves because rows stands ok)

pub next_does : {D : Type 0} {after : List (Option HoldState)} (state : D → DiskState) (seat n : ℕ) (answer : Scanned) (old : CoreState D) (disk : D) (b : BookState) → IsCore old.held (state old.disk) → AreFew old.held.runs.sizes old.holds
    → IsTimed (state disk) → may_note_in seat n old.held.book ≡ true → 0 < n → n ≤ most_rows → ((other : ℕ) → other ≢ seat → hold_of other after ≡ hold_of other old.holds)
    → ScansBecause answer seat n (undisked old.held old.holds) (undisked old.held after) (state old.disk) (state disk) → (answer ≡ scanned.Fault → (state disk).faults < 2 ^ 64) → GivesRows seat n answer old after (state old.disk) (state disk)
    → OnlyReads (file_length old.held.runs.sizes) (pages_behind (hold_of seat old.holds)) (state old.disk) (state disk)
    → PassesPages answer (hold_of seat old.holds) (hold_of seat after) (state old.disk) (state disk) → (ScansNone answer → disk ≡ old.disk)
    → b ≡ noted_in seat (op.Next n) (reply_to_next answer) old.held.book → ReadsOn state seat n answer old (record { disk = disk; held = with_book b old.held; holds = after })
next_does {D} {after} state seat n answer old disk b core few timed note some within others because counted gives reads passes untouched is =
    subst (λ (x : BookState). ReadsOn state seat n answer old (record { disk = disk; held = with_book x old.held; holds = after })) (sym is)
    (record { goes = goes; cause = next_cause old.held after answer seat n old disk noted (state old.disk) (state disk) because; book = refl; others = leaves_others old disk noted moves; runs = refl; few = few seat; reads = reads; passes = passes; untouched = untouched })
  where
    noted : BookState
    noted = noted_in seat (op.Next n) (reply_to_next answer) old.held.book

    moves : MovesHold seat old.held old.held old.holds after
    moves = next_moves seat old.held old.holds after others

    goes : GoesOnAs state seat (kind.Next n) (Replied (reply_to_next answer)) old (after_it disk old.held after seat (op.Next n) (reply_to_next answer) old.held)
    goes = hold_goes state seat (reply_to_next answer) old disk core timed (next_kind seat n) moves reads (reads_on old.held reads)
        (next_room answer seat n (undisked old.held old.holds) (undisked old.held after) (state old.disk) (state disk) old.held.book because note) (may_next seat n old.held note some within)
        (λ opening m honest stands ok. next_steps state opening seat n answer old after disk m reads honest (notes_below seat n old.held.book note) moves because counted gives stands ok)

pub drop_does : {D : Type 0} {mid : Held} {after : List (Option HoldState)} (state : D → DiskState) (seat : ℕ) (answer : Release) (old : CoreState D) (b : BookState) → IsCore old.held (state old.disk) → IsTimed (state old.disk)
    → may_note_in seat 0 old.held.book ≡ true → MovesHold seat old.held mid old.holds after → DropsBecause answer seat (undisked old.held old.holds) (undisked mid after)
    → b ≡ noted_in seat op.Release (reply_to_drop answer) old.held.book → LetsGo state seat answer old (record { disk = old.disk; held = with_book b mid; holds = after })
drop_does {D} {mid} {after} state seat answer old b core timed can moves because is =
    subst (λ (x : BookState). LetsGo state seat answer old (record { disk = old.disk; held = with_book x mid; holds = after })) (sym is) (record { goes = goes; cause = drop_cause mid after answer seat old old.disk noted because; others = leaves_others old old.disk noted moves; book = refl; untouched = refl })
  where
    noted : BookState
    noted = noted_in seat op.Release (reply_to_drop answer) old.held.book

    reads : OnlyReads 0 0 (state old.disk) (state old.disk)
    reads = only_reads_start (state old.disk) timed

    goes : GoesOnAs state seat kind.Release (Replied (reply_to_drop answer)) old (after_it old.disk mid after seat op.Release (reply_to_drop answer) old.held)
    goes = hold_goes state seat (reply_to_drop answer) old old.disk core timed (release_kind seat) moves reads (moved_on (state old.disk) moves) (drop_room seat answer old.held.book can) can
        (λ opening m honest stands ok. drop_steps state opening seat answer old mid after m timed honest (notes_below seat 0 old.held.book can) moves because stands ok)
