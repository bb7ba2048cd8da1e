-- Each of the three calls of a hold, by its answer.
use Rattle.std.specs.Prelude.{◌≡◌, ◌≢◌, ℕ, ◌<◌, ◌≤◌, ◌^◌, ◌==◌, true, false, not, ◌&&◌, List, Option, Some, None, IsTrue, is_some, slice_set, length, take, drop}
use Rattle.std.proofs.lemmas.Grind.{common_steps}
use Rattle.std.proofs.lemmas.Bool.Decides.{nat_tests}
use Rattle.std.proofs.Common.{◌∙◌, refl, ap, sym, subst, arith}
use Rattle.std.proofs.lemmas.Bool.{ltb-true}
use Rattle.blsm_model.specs.Book.{HasRoom, rows_given}
use Rattle.blsm_model.specs.Format.{callers}
use Rattle.blsm_model.specs.Histories.{answer_to_release}
use Rattle.blsm_model.specs.Sizes.{Sizes}
use Rattle.blsm_model.specs.declared.key.Key.{Key}
use Rattle.blsm_model.specs.declared.row.Row.{Row}
use Rattle.blsm_model.specs.declared.row.RowList.{RowList}
use Rattle.blsm_model.specs.declared.row.Value.{Value}
use Rattle.blsm_model.specs.declared.op.Op.{Op}
use Rattle.blsm_model.specs.declared.op.Op.TheVariants as op
use Rattle.blsm_model.specs.declared.history.Why.{Why}
use Rattle.blsm_model.specs.declared.history.Reply.{Reply}
use Rattle.blsm_model.specs.declared.history.Reply.TheVariants as reply
use Rattle.disk_trait.specs.Disk.{DiskState}
use Rattle.disk_trait.specs.Moments.{IsTimed}
use Rattle.disk_trait.specs.Reads.{OnlyReads}
use Rattle.disk_trait.proofs.ReadLemmas.{only_reads_start}
use Rattle.page_file.specs.Component.{entries_of}
use Rattle.record_delta.specs.Entries.{Entries, above, replayed}
use Rattle.scan_view.specs.Hold.{HoldState}
use Rattle.scan_view.specs.Holds.{hold_of, AreGivenBy, IsDamageBehind}
use Rattle.scan_view.specs.Pins.{HasHeld}
use Rattle.seat_book.specs.State.{BookState, noted_in, may_note_in, work_in}
use Rattle.seat_book.proofs.WordLemmas.{note_has_room}
use Rattle.tree_machine.proofs.FoldLemmas.{both_hold}
use Rattle.tree_machine.specs.Lists.{Lists, rows_in}
use Rattle.tree_machine.specs.Machine.{Machine, held_by, is_caller}
use Rattle.tree_machine.specs.Outcomes.{IsPossible, is_broken}
use Rattle.tree_machine.specs.Plays.{has_room, may}
use Rattle.tree_machine.specs.Steps.{Outcome, Well, FailedAfter, NoRoom, Replied, replied, hold, next_rows, drop_hold, holding, do_hold, do_next, unless_stopped}
use Rattle.tree_machine.specs.declared.step.Kind.TheVariants as kind
use Rattle.tree_file.specs.Tree.{Tree}
use Rattle.tree_runs.specs.Holding.{AreOf}
use Rattle.core_moves.specs.declared.held.Held.{Held}
use Rattle.core_moves.specs.Held.{IsOne}
use Rattle.tree_core.specs.declared.answers.Holding.{Holding}
use Rattle.tree_core.specs.declared.answers.Holding.TheVariants as holds
use Rattle.tree_core.specs.Scanned.{Scanned}
use Rattle.tree_core.specs.Scanned as scanned
use Rattle.tree_core.specs.declared.answers.Release.{Release}
use Rattle.tree_core.specs.declared.answers.Release.TheVariants as release
use Rattle.tree_core.specs.Answers.{HasDropped, reply_to_hold, reply_to_next, reply_to_drop}
use Rattle.tree_core.proofs.LookupSteps.{dropped_in}
use Rattle.tree_core.specs.Causes.{HoldsBecause, ScansBecause, DropsBecause}
use Rattle.tree_core.specs.Core.{CoreState}
use Rattle.tree_core.specs.HoldMoves.{MovesHold, undisked}
use Rattle.tree_core.specs.Holds.{StandsWhole}
use Rattle.tree_core.specs.Steps.{IsWholeStep}
use Rattle.tree_core.proofs.BoundLemmas.{rose}
use Rattle.tree_core.proofs.HoldSteps.{after_it, hold_kind, next_kind, release_kind, hold_step, seat_rows, same_rows, none_held, some_held}

-- ---- the room of the entry

-- a seat that may note is a caller's
pub notes_below : (seat rows : ℕ) (b : BookState) → may_note_in seat rows b ≡ true → seat < callers
notes_below seat rows b can = ltb-true seat callers (both_hold (is_caller seat) (has_room b.book.room seat rows) (both_hold (is_caller seat && has_room b.book.room seat rows) ((work_in seat b).turns == 0) can).0).0

none_by_hold : (answer : Holding) → length (rows_given (reply_to_hold answer)) ≤ 0
none_by_hold answer = grind (arith, common_steps, nat_tests)

none_by_drop : (answer : Release) → length (rows_given (reply_to_drop answer)) ≤ 0
none_by_drop answer = grind (arith, common_steps, nat_tests)

few_by_next : {D : Type 0} (answer : Scanned) (seat n : ℕ) (old new : CoreState D) (d d2 : DiskState) → ScansBecause answer seat n old new d d2 → length (rows_given (reply_to_next answer)) ≤ n
few_by_next answer seat n old new d d2 h1 = grind (arith, common_steps, nat_tests)

pub hold_room : (seat : ℕ) (low high : Key) (answer : Holding) (b : BookState) → may_note_in seat 0 b ≡ true → HasRoom b.book.room (record { seat = seat; op = op.Hold low high; reply = reply_to_hold answer })
hold_room seat low high answer b can = note_has_room b seat 0 (op.Hold low high) (reply_to_hold answer) can (none_by_hold answer)

pub drop_room : (seat : ℕ) (answer : Release) (b : BookState) → may_note_in seat 0 b ≡ true → HasRoom b.book.room (record { seat = seat; op = op.Release; reply = reply_to_drop answer })
drop_room seat answer b can = note_has_room b seat 0 op.Release (reply_to_drop answer) can (none_by_drop answer)

pub next_room : {D : Type 0} (answer : Scanned) (seat n : ℕ) (old new : CoreState D) (d d2 : DiskState) (b : BookState) → ScansBecause answer seat n old new d d2 → may_note_in seat n b ≡ true
    → HasRoom b.book.room (record { seat = seat; op = op.Next n; reply = reply_to_next answer })
next_room answer seat n old new d d2 b because can = note_has_room b seat n (op.Next n) (reply_to_next answer) can (few_by_next answer seat n old new d d2 because)

-- ---- the book

-- what was noted, of the book from before
pub noted_before : {seat : ℕ} {old mid : Held} {before after : List (Option HoldState)} (b : BookState) (command : Op) (given kept : Reply) → MovesHold seat old mid before after → b ≡ noted_in seat command given mid.book → given ≡ kept
    → b ≡ noted_in seat command kept old.book
noted_before {seat} {old} {mid} b command given kept moves is same = grind (arith, common_steps, nat_tests)

pub noted_hold : {seat : ℕ} {old mid : Held} {before after : List (Option HoldState)} (b : BookState) (low low2 high high2 : Key) (given kept : Reply) → MovesHold seat old mid before after → b ≡ noted_in seat (op.Hold low high) given mid.book
    → low ≡ low2 → high ≡ high2 → given ≡ kept → b ≡ noted_in seat (op.Hold low2 high2) kept old.book
noted_hold {seat} b low low2 high high2 given kept moves is one two same = grind (arith, common_steps, nat_tests)

running_still : {why : Why} (o : Option Why) → o ≡ Some why → o ≡ None → ⊥
running_still o some none = absurd (cc (some, none))

-- ---- the drop

pub drop_steps : {D : Type 0} (state : D → DiskState) (opening : List (Key × Value)) (seat : ℕ) (answer : Release) (old : CoreState D) (mid : Held) (after : List (Option HoldState)) (m : Machine) → IsTimed (state old.disk)
    → IsTrue (state old.disk).is_honest → seat < callers → MovesHold seat old.held mid old.holds after → DropsBecause answer seat (undisked old.held old.holds) (undisked mid after) → StandsWhole state opening old m
    → may m seat kind.Release ≡ true → IsWholeStep state opening seat kind.Release (Replied (reply_to_drop answer)) old (after_it old.disk mid after seat op.Release (reply_to_drop answer) old.held) m
drop_steps state opening seat answer old mid after m timed honest below moves because stands can = by answer because
  where
    reads : OnlyReads 0 0 (state old.disk) (state old.disk)
    reads = only_reads_start (state old.disk) timed

    stopped_is : m.stopped ≡ old.held.book.stopped
    stopped_is = ap (λ (b : BookState). b.stopped) stands.book

    running : old.held.book.stopped ≡ None → drop_hold m seat ≡ replied seat op.Release (answer_to_release (held_by seat m)) (holding seat None m)
    running none = ap (λ (o : Option Why). unless_stopped o seat op.Release m (replied seat op.Release (answer_to_release (held_by seat m)) (holding seat None m))) (stopped_is ∙ none)

    -- the seat has no hold then
    let_go : (r : Reply) → old.held.book.stopped ≡ None → answer_to_release (held_by seat m) ≡ r → hold_of seat after ≡ None
        → IsWholeStep state opening seat kind.Release (Replied r) old (after_it old.disk mid after seat op.Release r old.held) m
    let_go r none is gone =
        hold_step state opening seat kind.Release op.Release r Well old mid after old.disk (slice_set m.holds seat None) m (release_kind seat) moves reads honest stands can
        (running none ∙ ap (λ (x : Reply). replied seat op.Release x (holding seat None m)) is) tt refl
        (λ runs. seat_rows seat old.held mid old.holds after m None (state old.disk) (state old.disk) moves below stands.paced.stands.places refl
        (subst (λ (h : Option HoldState). HasHeld old.held.runs.sizes mid.runs.space.pins seat h None (state old.disk).bytes) (sym gone) tt) (stands.rows runs))

    by : (a : Release) → DropsBecause a seat (undisked old.held old.holds) (undisked mid after)
        → IsWholeStep state opening seat kind.Release (Replied (reply_to_drop a)) old (after_it old.disk mid after seat op.Release (reply_to_drop a) old.held) m
    by release.Done because =
        let given = some_held old.held.runs.sizes old.held.runs.space.pins seat (state old.disk).bytes (hold_of seat old.holds) (held_by seat m) because.1 (stands.rows because.0 seat below) in
        let_go reply.Done because.0 (ap answer_to_release given.1) because.2
    by release.NoHold because =
        let_go reply.NoHold because.0 (ap answer_to_release (none_held old.held.runs.sizes old.held.runs.space.pins seat (state old.disk).bytes (hold_of seat old.holds) (held_by seat m) because.1 (stands.rows because.0 seat below))) (ap (λ (hs : List (Option HoldState)). hold_of seat hs) because.2 ∙ because.1)
    by (release.Stopped why) because =
        hold_step state opening seat kind.Release op.Release (reply.Stopped why) Well old mid after old.disk m.holds m (release_kind seat) moves reads honest stands can
        (ap (λ (o : Option Why). unless_stopped o seat op.Release m (replied seat op.Release (answer_to_release (held_by seat m)) (holding seat None m))) (stopped_is ∙ because.0)) tt refl
        (λ runs. absurd (running_still old.held.book.stopped because.0 runs))

-- ---- the hold

pub hold_steps : {D : Type 0} (state : D → DiskState) (opening : List (Key × Value)) (seat : ℕ) (low high : Key) (answer : Holding) (old : CoreState D) (mid : Held) (after : List (Option HoldState)) (m : Machine)
    → (old.held.book.stopped ≡ None → IsOne old.held) → IsTimed (state old.disk)
    → IsTrue (state old.disk).is_honest → seat < callers → MovesHold seat old.held mid old.holds after → HoldsBecause answer seat low high (undisked old.held old.holds) (undisked mid after)
    → ((tree : Tree) (file : List ℕ) → answer ≡ holds.Held → AreOf old.held.runs tree file → HasDropped old.held tree file
    → old.held.log.a.entries ≡ above old.held.log.a.floor (replayed tree.lane_a.entries)
    → HasHeld old.held.runs.sizes mid.runs.space.pins seat (hold_of seat after)
    (Some (rows_in (record { b = old.held.log.b.entries; a = replayed tree.lane_a.entries; c1 = entries_of tree.c1; c1x = entries_of tree.c1x; c2 = entries_of tree.c2 }) low high)) file)
    → StandsWhole state opening old m → may m seat (kind.Hold low high) ≡ true
    → IsWholeStep state opening seat (kind.Hold low high) (Replied (reply_to_hold answer)) old (after_it old.disk mid after seat (op.Hold low high) (reply_to_hold answer) old.held) m
hold_steps state opening seat low high answer old mid after m one timed honest below moves because has stands can = by answer because has
  where
    reads : OnlyReads 0 0 (state old.disk) (state old.disk)
    reads = only_reads_start (state old.disk) timed

    stopped_is : m.stopped ≡ old.held.book.stopped
    stopped_is = ap (λ (b : BookState). b.stopped) stands.book

    by_stop : (outcome : Outcome) (o : Option Why) → old.held.book.stopped ≡ o → hold m seat low high outcome ≡ unless_stopped o seat (op.Hold low high) m (do_hold m seat low high outcome)
    by_stop outcome o is = ap (λ (o : Option Why). unless_stopped o seat (op.Hold low high) m (do_hold m seat low high outcome)) (stopped_is ∙ is)

    by : (a : Holding) → HoldsBecause a seat low high (undisked old.held old.holds) (undisked mid after)
        → ((tree : Tree) (file : List ℕ) → a ≡ holds.Held → AreOf old.held.runs tree file → HasDropped old.held tree file
        → old.held.log.a.entries ≡ above old.held.log.a.floor (replayed tree.lane_a.entries)
        → HasHeld old.held.runs.sizes mid.runs.space.pins seat (hold_of seat after)
        (Some (rows_in (record { b = old.held.log.b.entries; a = replayed tree.lane_a.entries; c1 = entries_of tree.c1; c1x = entries_of tree.c1x; c2 = entries_of tree.c2 }) low high)) file)
        → IsWholeStep state opening seat (kind.Hold low high) (Replied (reply_to_hold a)) old (after_it old.disk mid after seat (op.Hold low high) (reply_to_hold a) old.held) m
    by holds.Held because has =
        let rows = Some (rows_in m.lists low high) in
        hold_step state opening seat (kind.Hold low high) (op.Hold low high) reply.Held Well old mid after old.disk (slice_set m.holds seat rows) m (hold_kind seat low high) moves reads honest stands can (by_stop Well None because.0) tt refl
        (λ runs. seat_rows seat old.held mid old.holds after m rows (state old.disk) (state old.disk) moves below stands.paced.stands.places refl (now runs) (stands.rows runs))
      where
        -- the lists are what the lanes replay to
        now : old.held.book.stopped ≡ None → HasHeld old.held.runs.sizes mid.runs.space.pins seat (hold_of seat after) (Some (rows_in m.lists low high)) (state old.disk).bytes
        now runs =
            let over = stands.runs runs in
            let log = over.holds.of_log in
            let tree = over.tree in
            let file = (state old.disk).bytes in
            let lists : m.lists ≡ record { b = old.held.log.b.entries; a = replayed tree.lane_a.entries; c1 = entries_of tree.c1; c1x = entries_of tree.c1x; c2 = entries_of tree.c2 } =
            over.holds.lists
            ∙ ap (λ (b : Entries). record {
              b = b;
              a = replayed tree.lane_a.entries;
              c1 = entries_of tree.c1;
              c1x = entries_of tree.c1x;
              c2 = entries_of tree.c2;
            }) (sym log.b) in
            subst (λ (l : Lists). HasHeld old.held.runs.sizes mid.runs.space.pins seat (hold_of seat after) (Some (rows_in l low high)) file) (sym lists)
            (has tree file refl over.over.are_of (dropped_in old.held (one runs) tree file over.over.are_of) log.a.entries)
    by holds.NoMemory because has =
        hold_step state opening seat (kind.Hold low high) (op.Hold low high) reply.NoMemory NoRoom old mid after old.disk m.holds m (hold_kind seat low high) moves reads honest stands can (by_stop NoRoom None because.0)
        (ap (λ (o : Option Why). not (is_some o) && true) (stopped_is ∙ because.0)) refl
        (λ runs. same_rows old.held mid old.holds after m.holds (state old.disk) (state old.disk) because.2 because.1 refl (stands.rows runs))
    by (holds.Stopped why) because has =
        hold_step state opening seat (kind.Hold low high) (op.Hold low high) (reply.Stopped why) Well old mid after old.disk m.holds m (hold_kind seat low high) moves reads honest stands can (by_stop Well (Some why) because.0) tt refl
        (λ runs. absurd (running_still old.held.book.stopped because.0 runs))

-- ---- the reading on

pub next_moves : (seat : ℕ) (held : Held) (before after : List (Option HoldState)) → ((other : ℕ) → other ≢ seat → hold_of other after ≡ hold_of other before) → MovesHold seat held held before after
next_moves seat held before after others = record {
  rest = refl;
  pins = λ other differs. refl;
  roles = refl;
  holds = others;
  running = λ honest file
      is. is;
  lists = λ tree file is. is;
}

was_held : (n : ℕ) (old new : Option HoldState) (rows : List Row) → AreGivenBy n old new rows → IsTrue (is_some old)
was_held n old new rows h1 = grind (arith, common_steps, nat_tests)

was_damaged : (sizes : Sizes) (n : ℕ) (old : Option HoldState) (page : ℕ) (file : List ℕ) → IsDamageBehind sizes n old page file → IsTrue (is_some old)
was_damaged sizes n old page file h1 = grind (arith, common_steps, nat_tests)

given_is_none_other : (rows : RowList) → scanned.Rows rows ≢ scanned.Fault
given_is_none_other rows same = cc same

damage_is_none_other : (page : ℕ) → scanned.Damaged page ≢ scanned.Fault
damage_is_none_other page same = cc same

damage_gives_none : (page : ℕ) (rows : RowList) → scanned.Damaged page ≢ scanned.Rows rows
damage_gives_none page rows same = cc same

-- a reading on gives the first n of the rows to come, and keeps the others
abbrev pub GivesRows : {D : Type 0} → ℕ → ℕ → Scanned → CoreState D → List (Option HoldState) → DiskState → DiskState → Type 0
GivesRows seat n answer old after before now =
    (rows : List Row) → IsTrue before.is_honest → old.held.book.stopped ≡ None → HasHeld old.held.runs.sizes old.held.runs.space.pins seat (hold_of seat old.holds) (Some rows) before.bytes → answer ≢ scanned.Fault
    → (answer ≡ scanned.Rows (take n rows)) × HasHeld old.held.runs.sizes old.held.runs.space.pins seat (hold_of seat after) (Some (drop n rows)) now.bytes

pub next_steps : {D : Type 0} {end most : ℕ} (state : D → DiskState) (opening : List (Key × Value)) (seat n : ℕ) (answer : Scanned) (old : CoreState D) (after : List (Option HoldState)) (disk : D) (m : Machine)
    → OnlyReads end most (state old.disk) (state disk) → IsTrue (state old.disk).is_honest → seat < callers → MovesHold seat old.held old.held old.holds after
    → ScansBecause answer seat n (undisked old.held old.holds) (undisked old.held after) (state old.disk) (state disk) → (answer ≡ scanned.Fault → (state disk).faults < 2 ^ 64) → GivesRows seat n answer old after (state old.disk) (state disk)
    → StandsWhole state opening old m → may m seat (kind.Next n) ≡ true
    → IsWholeStep state opening seat (kind.Next n) (Replied (reply_to_next answer)) old (after_it disk old.held after seat (op.Next n) (reply_to_next answer) old.held) m
next_steps state opening seat n answer old after disk m reads honest below moves because counted gives stands can = by answer because counted gives
  where
    d : DiskState
    d = state old.disk

    bytes : (state disk).bytes ≡ d.bytes
    bytes = reads.same.same.bytes honest

    stopped_is : m.stopped ≡ old.held.book.stopped
    stopped_is = ap (λ (b : BookState). b.stopped) stands.book

    by_stop : (outcome : Outcome) (o : Option Why) → old.held.book.stopped ≡ o → next_rows m seat n outcome ≡ unless_stopped o seat (op.Next n) m (do_next m seat n outcome (held_by seat m))
    by_stop outcome o is = ap (λ (o : Option Why). unless_stopped o seat (op.Next n) m (do_next m seat n outcome (held_by seat m))) (stopped_is ∙ is)

    running : (outcome : Outcome) (rows : Option (List Row)) → old.held.book.stopped ≡ None → held_by seat m ≡ rows → next_rows m seat n outcome ≡ do_next m seat n outcome rows
    running outcome rows none is = by_stop outcome None none ∙ ap (λ (rows : Option (List Row)). do_next m seat n outcome rows) is

    -- its rows to come, and what is said of them
    to_come : IsTrue (is_some (hold_of seat old.holds)) → old.held.book.stopped ≡ None → (rows : List Row) × (held_by seat m ≡ Some rows)
    to_come some none = some_held old.held.runs.sizes old.held.runs.space.pins seat d.bytes (hold_of seat old.holds) (held_by seat m) some (stands.rows none seat below)

    has : (rows : List Row) → held_by seat m ≡ Some rows → old.held.book.stopped ≡ None → HasHeld old.held.runs.sizes old.held.runs.space.pins seat (hold_of seat old.holds) (Some rows) d.bytes
    has rows is none = subst (λ (o : Option (List Row)). HasHeld old.held.runs.sizes old.held.runs.space.pins seat (hold_of seat old.holds) o d.bytes) is (stands.rows none seat below)

    -- the holds stay
    kept : (r : Reply) (outcome : Outcome) → after ≡ old.holds → next_rows m seat n outcome ≡ replied seat (op.Next n) r m → IsPossible m seat (kind.Next n) outcome d.faults (state disk).faults → is_broken outcome ≡ false
        → IsWholeStep state opening seat (kind.Next n) (Replied r) old (after_it disk old.held after seat (op.Next n) r old.held) m
    kept r outcome same does possible whole = hold_step state opening seat (kind.Next n) (op.Next n) r outcome old old.held after disk m.holds m (next_kind seat n) moves reads honest stands can does possible whole
        (λ runs. same_rows old.held old.held old.holds after m.holds d (state disk) refl same bytes (stands.rows runs))

    by : (a : Scanned) → ScansBecause a seat n (undisked old.held old.holds) (undisked old.held after) d (state disk) → (a ≡ scanned.Fault → (state disk).faults < 2 ^ 64) → GivesRows seat n a old after d (state disk)
        → IsWholeStep state opening seat (kind.Next n) (Replied (reply_to_next a)) old (after_it disk old.held after seat (op.Next n) (reply_to_next a) old.held) m
    by (scanned.Rows rows) because counted gives =
        let come = to_come (was_held n (hold_of seat old.holds) (hold_of seat after) rows because.2) because.0 in
        let given = gives come.0 honest because.0 (has come.0 come.1 because.0) (given_is_none_other rows) in
        let left = Some (drop n come.0) in
        hold_step state opening seat (kind.Next n) (op.Next n) (reply.Rows rows) Well old old.held after disk (slice_set m.holds seat left) m (next_kind seat n) moves reads honest stands can
        (running Well (Some come.0) because.0 come.1 ∙ ap (λ (a : Scanned). replied seat (op.Next n) (reply_to_next a) (holding seat left m)) (sym given.0)) tt refl
        (λ runs. seat_rows seat old.held old.held old.holds after m left d (state disk) moves below stands.paced.stands.places bytes given.1 (stands.rows runs))
    by scanned.NoHold because counted gives =
        kept reply.NoHold Well because.2 (running Well None because.0 (none_held old.held.runs.sizes old.held.runs.space.pins seat d.bytes (hold_of seat old.holds) (held_by seat m) because.1 (stands.rows because.0 seat below))) tt refl
    by scanned.Fault because counted gives =
        let come = to_come because.1 because.0 in
        kept reply.Fault (FailedAfter 0 (state disk).faults) because.2 (running (FailedAfter 0 (state disk).faults) (Some come.0) because.0 come.1) (
          ap (λ (o : Option Why). not (is_some o) && is_some (held_by seat m)) (stopped_is ∙ because.0) ∙ ap (λ (o : Option (List Row)). true && is_some o) come.1,
          omega arith,
          rose d.faults (state disk).faults reads.effect.goes_on.faults (counted refl) because.3,
          refl,
        ) refl
    by (scanned.Damaged page) because counted gives =
        let come = to_come (was_damaged old.held.runs.sizes n (hold_of seat old.holds) page d.bytes (because.3 honest)) because.0 in
        absurd (damage_gives_none page (take n come.0) (gives come.0 honest because.0 (has come.0 come.1 because.0) (damage_is_none_other page)).0)
    by (scanned.Stopped why) because counted gives = kept (reply.Stopped why) Well because.1 (by_stop Well (Some why) because.0) tt refl
