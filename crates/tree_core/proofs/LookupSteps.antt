-- A lookup is a step that only reads, and notes what it found.
use Rattle.std.specs.declared.result.Result.{Result}
use Rattle.std.specs.Prelude.{◌≡◌, ◌≢◌, ℕ, ◌+◌, ◌<◌, ◌≤◌, ◌^◌, true, false, List, Option, None, IsTrue, is_some, length, not, ◌&&◌, IsSome}
use Rattle.std.proofs.lemmas.Grind.{common_steps}
use Rattle.std.proofs.lemmas.Bool.Decides.{nat_tests}
use Rattle.std.proofs.Common.{◌∙◌, Some, inl, inr, refl, ap, sym, subst, arith}
use Rattle.blsm_model.specs.Geometry.{file_length}
use Rattle.blsm_model.specs.declared.key.Key.{Key}
use Rattle.blsm_model.specs.declared.row.Value.{Value}
use Rattle.blsm_model.specs.declared.op.Op.TheVariants.{Get}
use Rattle.blsm_model.specs.declared.history.Entry.{Entry}
use Rattle.blsm_model.specs.declared.history.Why.{Why}
use Rattle.blsm_model.specs.declared.history.Reply.{Reply}
use Rattle.blsm_model.specs.declared.history.Reply.TheVariants as reply
use Rattle.blsm_model.specs.Book.{HasRoom}
use Rattle.blsm_model.specs.Histories.{answer_to_get}
use Rattle.disk_trait.specs.Disk.{DiskState}
use Rattle.disk_trait.specs.Reads.{OnlyReads}
use Rattle.disk_trait.specs.Moments.{IsTimed}
use Rattle.page_file.specs.File.{Reads}
use Rattle.page_file.specs.declared.file.Broken.{Broken}
use Rattle.seat_book.specs.State.{BookState, noted_in, may_note_in}
use Rattle.seat_book.proofs.KeepLemmas.{note_keeps}
use Rattle.seat_book.proofs.WordLemmas.{moves_book, note_has_room}
use Rattle.tree_machine.specs.Lists.{value_in}
use Rattle.tree_machine.specs.Machine.{Machine}
use Rattle.tree_machine.specs.Moves.{note}
use Rattle.tree_machine.specs.Outcomes.{IsPossible, is_broken}
use Rattle.tree_machine.specs.Plays.{may}
use Rattle.tree_machine.specs.Steps.{Outcome, Well, FailedAfter, Replied, replied, reply_unless, unless_stopped, look}
use Rattle.tree_machine.specs.declared.step.Kind.TheVariants as kind
use Rattle.tree_file.specs.Tree.{Tree, HoldsTree}
use Rattle.tree_runs.specs.Holding.{AreGuided, AreOf}
use Rattle.tree_runs.specs.Lookups.{CountsYes, HidesOlder, IsFloorOf, first_tag}
use Rattle.tree_runs.specs.Runs.{filter_of, released_by}
use Rattle.core_moves.specs.declared.held.Held.{Held}
use Rattle.core_moves.specs.Held.{IsOne}
use Rattle.core_moves.specs.Moves.{with_book}
use Rattle.core_pace.proofs.EventLemmas.{entry_is_told}
use Rattle.core_lists.proofs.LookupLemmas.{lookup_is_the_machines}
use Rattle.core_lists.proofs.ShowingLemmas.{quiet_entry_counts_none}
use Rattle.tree_core.specs.declared.answers.Lookup.{Lookup}
use Rattle.tree_core.specs.declared.answers.Lookup.TheVariants as lookup
use Rattle.tree_core.specs.Answers.{HasDropped, reply_to_get, found_in, newest_in}
use Rattle.tree_core.specs.Calls.{BesideHolds, Gets, GoesOnAs, Looks}
use Rattle.tree_core.specs.Causes.{CountsFilters, FindsBecause, LooksNone, IsLookOn}
use Rattle.tree_core.specs.Core.{CoreState, IsCore}
use Rattle.tree_core.specs.Standing.{AnyRows, StandsFor}
use Rattle.tree_core.specs.Steps.{IsStep}
use Rattle.tree_core.proofs.BoundLemmas.{rose}
use Rattle.tree_core.proofs.QuietLemmas.{quiet_step, reads_on}
use Rattle.tree_core.proofs.BookSteps.{book_goes}

-- ---- on every disk

-- a lookup gives no rows
few_rows : (found : Lookup) → length (Rattle.blsm_model.specs.Book.rows_given (reply_to_get found)) ≤ 0
few_rows found = grind (arith, common_steps, nat_tests)

get_has_room : (seat : ℕ) (key : Key) (found : Lookup) (b : BookState) → may_note_in seat 0 b ≡ true → HasRoom b.book.room (record { seat = seat; op = Get key; reply = reply_to_get found })
get_has_room seat key found b can = note_has_room b seat 0 (Get key) (reply_to_get found) can (few_rows found)

-- three components are all
pub three_count : (key : Key) (held : Held) → CountsFilters key held 3
three_count key held = record { c1 = 1; c1x = 1; c2 = 1; first = inl (omega arith); second = inl (omega arith); third = inl (omega arith); all = refl }

-- as many calls as filters say yes
pub asked_few : {A : Type 0} {result : Result A Broken} {end : ℕ} {d d2 : DiskState} (key : Key) (held : Held) (floor : Option Key)
    → floor ≡ held.log.a.floor
    → ((c1 c1x c2 : ℕ) → CountsYes (filter_of held.runs (first_tag floor key held.runs)) key c1
    → CountsYes (filter_of held.runs held.runs.tags.c1x) key c1x → CountsYes (filter_of held.runs held.runs.tags.c2) key c2
    → Reads end (c1 + c1x + c2) result d d2)
    → (n : ℕ) → CountsFilters key held n → OnlyReads end n d d2
asked_few {A} {result} {end} {d} {d2} key held floor is asks n counts =
    let first = subst (λ (f : Option Key). CountsYes (filter_of held.runs (first_tag f key held.runs)) key counts.c1) (sym is) counts.first in
    subst (λ (m : ℕ). OnlyReads end m d d2) (sym counts.all) (asks counts.c1 counts.c1x counts.c2 first counts.second counts.third).effect

-- ---- on an honest one

-- what was dropped of table A is on the pass's finished pages
pub dropped_in : (held : Held) → IsOne held → (tree : Tree) (file : List ℕ) → AreOf held.runs tree file → HasDropped held tree file
dropped_in held one tree file of =
    subst (λ (f : Option Key). IsFloorOf f held.runs tree file) (sym one.follows.floor) (by (released_by held.runs.pass) refl)
  where
    by : (key : Option Key) → released_by held.runs.pass ≡ key → IsFloorOf key held.runs tree file
    by None is = tt
    by (Some key) is = record { floor_is = is; over = of.pass }

-- The machine's step, where it notes this reply.
get_step : {end most : ℕ} {d d2 : DiskState} (opening : List (Key × Value)) (seat : ℕ) (key : Key) (r : Reply) (outcome : Outcome) (held : Held) (m : Machine) → OnlyReads end most d d2 → IsTrue d.is_honest
    → StandsFor AnyRows opening held m d → may m seat (kind.Look (Get key)) ≡ true → look m seat (Get key) outcome ≡ replied seat (Get key) r m
    → IsPossible m seat (kind.Look (Get key)) outcome d.faults d2.faults → is_broken outcome ≡ false
    → IsStep AnyRows opening seat (kind.Look (Get key)) (Replied r) (with_book (noted_in seat (Get key) r held.book) held) d d2 m
get_step opening seat key r outcome held m reads honest s can is possible whole =
    let entry : Entry = record { seat = seat; op = Get key; reply = r } in
    quiet_step opening seat (kind.Look (Get key)) outcome (Replied r) held held.runs.space (noted_in seat (Get key) r held.book) m (note seat (Get key) r m) reads honest s can tt possible whole is
    (record {
      same = record { lists = refl; merges = refl; gears = refl; spring = refl; catalogue = refl };
      counts = record
          { charge = refl; peak = refl; quanta = refl };
      book = (moves_book m).note seat (Get key) r
          ∙ ap (noted_in seat (Get key) r) s.book;
      stopped = refl;
      noted = inr (entry, refl, quiet_entry_counts_none entry (inl refl));
    })
    (λ tree file of. of) (λ none. tt)

get_steps : {end most : ℕ} {d d2 : DiskState} (opening : List (Key × Value)) (seat : ℕ) (key : Key) (found : Lookup) (held : Held) (m : Machine) → (held.book.stopped ≡ None → IsOne held) → OnlyReads end most d d2 → IsTrue d.is_honest
    → FindsBecause found key held d d2 → (found ≡ lookup.Fault → d2.faults < 2 ^ 64)
    → ((tree : Tree) → HoldsTree held.runs.sizes tree d.bytes → tree.catalogue ≡ held.runs.catalogue → AreGuided held.runs.guides held.runs.tags tree
    → HasDropped held tree d.bytes → held.book.stopped ≡ None → found ≢ lookup.Fault
    → reply_to_get found ≡ answer_to_get (found_in key held tree))
    → StandsFor AnyRows opening held m d → may m seat (kind.Look (Get key)) ≡ true
    → IsStep AnyRows opening seat (kind.Look (Get key)) (Replied (reply_to_get found)) (with_book (noted_in seat (Get key) (reply_to_get found) held.book) held) d d2 m
get_steps {end} {most} {d} {d2} opening seat key found held m one reads honest because counted value s can = by found because counted value
  where
    stopped_is : m.stopped ≡ held.book.stopped
    stopped_is = ap (λ (b : BookState). b.stopped) s.book

    running : (outcome : Outcome) → held.book.stopped ≡ None → look m seat (Get key) outcome ≡ replied seat (Get key) (reply_unless outcome (answer_to_get (value_in m.lists key))) m
    running outcome none = ap (λ (o : Option Why). unless_stopped o seat (Get key) m (replied seat (Get key) (reply_unless outcome (answer_to_get (value_in m.lists key))) m)) (stopped_is ∙ none)

    -- what was found is what the machine has
    there : (r : Reply) → held.book.stopped ≡ None
        → ((tree : Tree) → HoldsTree held.runs.sizes tree d.bytes → tree.catalogue ≡ held.runs.catalogue
        → AreGuided held.runs.guides held.runs.tags tree → HasDropped held tree d.bytes → r ≡ answer_to_get (found_in key held tree))
        → r ≡ answer_to_get (value_in m.lists key)
    there r none is =
        let over = s.runs none in
        is over.tree over.over.stands.reads over.over.are_of.catalogue over.over.are_of.guided
        (dropped_in held (one none) over.tree d.bytes over.over.are_of)
        ∙ ap answer_to_get (lookup_is_the_machines held over.tree m d.bytes key (record { are_of = over.over.are_of; holds = over.holds }))

    well : (r : Reply) → held.book.stopped ≡ None → r ≡ answer_to_get (value_in m.lists key)
        → IsStep AnyRows opening seat (kind.Look (Get key)) (Replied r) (with_book (noted_in seat (Get key) r held.book) held) d d2 m
    well r none is = get_step opening seat key r Well held m reads honest s can (running Well none ∙ ap (λ (x : Reply). replied seat (Get key) x m) (sym is)) tt refl

    by : (f : Lookup) → FindsBecause f key held d d2 → (f ≡ lookup.Fault → d2.faults < 2 ^ 64)
        → ((tree : Tree) → HoldsTree held.runs.sizes tree d.bytes → tree.catalogue ≡ held.runs.catalogue
        → AreGuided held.runs.guides held.runs.tags tree → HasDropped held tree d.bytes → held.book.stopped ≡ None → f ≢ lookup.Fault
        → reply_to_get f ≡ answer_to_get (found_in key held tree))
        → IsStep AnyRows opening seat (kind.Look (Get key)) (Replied (reply_to_get f)) (with_book (noted_in seat (Get key) (reply_to_get f) held.book) held) d d2 m
    by (lookup.Is x) because counted is = well (reply.Is x) because.0 (there (reply.Is x) because.0
        (λ tree holds catalogue guided dropped. is tree holds catalogue guided dropped because.0 (λ same. cc same)))
    by lookup.Absent because counted is = well reply.Absent because.0 (there reply.Absent because.0
        (λ tree holds catalogue guided dropped. is tree holds catalogue guided dropped because.0 (λ same. cc same)))
    by (lookup.Damaged page) because counted is = well (reply.Damaged page) because.0
        (there (reply.Damaged page) because.0 (λ tree holds catalogue guided dropped. is tree holds catalogue guided dropped because.0
        (λ same. cc same)))
    by lookup.Fault because counted is =
        get_step opening seat key reply.Fault (FailedAfter 0 d2.faults) held m reads honest s can (running (FailedAfter 0 d2.faults) because.0)
        (ap (λ (o : Option Why). not (is_some o) && true) (stopped_is ∙ because.0), omega arith, rose d.faults d2.faults reads.effect.goes_on.faults (counted refl) because.1, refl) refl
    by (lookup.Stopped why) because counted is =
        get_step opening seat key (reply.Stopped why) Well held m reads honest s can
        (ap (λ (o : Option Why). unless_stopped o seat (Get key) m (replied seat (Get key) (answer_to_get (value_in m.lists key)) m)) (stopped_is ∙ because.0)) tt refl

-- ---- the call

pub get_does : {D : Type 0} (state : D → DiskState) (seat : ℕ) (key : Key) (found : Lookup) (old : CoreState D) (disk : D) (b : BookState) → IsCore old.held (state old.disk) → IsTimed (state disk) → may_note_in seat 0 old.held.book ≡ true
    → FindsBecause found key old.held (state old.disk) (state disk) → (found ≡ lookup.Fault → (state disk).faults < 2 ^ 64)
    → ((tree : Tree) → IsTrue (state old.disk).is_honest → HoldsTree old.held.runs.sizes tree (state old.disk).bytes
    → tree.catalogue ≡ old.held.runs.catalogue → AreGuided old.held.runs.guides old.held.runs.tags tree
    → HasDropped old.held tree (state old.disk).bytes → old.held.book.stopped ≡ None
    → found ≢ lookup.Fault → reply_to_get found ≡ answer_to_get (found_in key old.held tree))
    → ((n : ℕ) → CountsFilters key old.held n → OnlyReads (file_length old.held.runs.sizes) n (state old.disk) (state disk)) → (HidesOlder (newest_in key old.held) → disk ≡ old.disk) → (LooksNone found → disk ≡ old.disk) → b ≡ noted_in seat (Get key) (reply_to_get found) old.held.book
    → Gets state seat key found old (record { disk = disk; held = with_book b old.held; holds = old.holds })
get_does {D} state seat key found old disk b core timed can because counted value reads hidden untouched is =
    subst (λ (x : BookState). Gets state seat key found old (record { disk = disk; held = with_book x old.held; holds = old.holds })) (sym is)
    (record { goes = goes.0; beside = goes.1; cause = because; held = refl; reads = reads; hidden = hidden; untouched = untouched })
  where
    goes : GoesOnAs state seat (kind.Look (Get key)) (Replied (reply_to_get found)) old (record { disk = disk; held = with_book (noted_in seat (Get key) (reply_to_get found) old.held.book) old.held; holds = old.holds }) × BesideHolds state seat (kind.Look (Get key)) (Replied (reply_to_get found)) old (record { disk = disk; held = with_book (noted_in seat (Get key) (reply_to_get found) old.held.book) old.held; holds = old.holds })
    goes = book_goes state seat (kind.Look (Get key)) (Replied (reply_to_get found)) old disk (noted_in seat (Get key) (reply_to_get found) old.held.book) 1 core timed (reads 3 (three_count key old.held)) (reads_on old.held (reads 3 (three_count key old.held))) refl refl can (omega arith)
        (note_keeps seat (Get key) (reply_to_get found) old.held.book) refl refl
        (λ pace told. entry_is_told old.held.book pace seat (Get key) (reply_to_get found) (λ done. refl) (get_has_room seat key found old.held.book can) told) (λ pace. refl)
        (λ opening m honest s ok. get_steps opening seat key found old.held m (λ runs. (core.holds.live runs).paced.one) (reads 3 (three_count key old.held)) honest because counted (λ tree holds catalogue guided. value tree honest holds catalogue guided) s ok)

-- ---- as a command that only looks

get_told : (found : Lookup) (key : Key) (held : Held) (before after : DiskState) → FindsBecause found key held before after → IsLookOn (reply_to_get found) held before after
get_told found key held before after because = grind (arith, common_steps, nat_tests)

get_rests : (found : Lookup) (key : Key) (held : Held) (before after : DiskState) → FindsBecause found key held before after → IsSome held.book.stopped → LooksNone found
get_rests found key held before after because some = grind (arith, common_steps, nat_tests)

pub get_looks : {D : Type 0} (state : D → DiskState) (seat : ℕ) (key : Key) (found : Lookup) (old new : CoreState D) → Gets state seat key found old new → Looks state seat (Get key) (reply_to_get found) old new
get_looks state seat key found old new call = record {
  goes = call.goes;
  beside = call.beside;
  call = (found, refl, call);
  cause = (found, refl, call.cause);
  told = get_told found key old.held (state old.disk) (state new.disk) call.cause;
  held = call.held;
  reads = call.reads 3 (three_count key old.held);
  rests = λ some. call.untouched (get_rests found key old.held (state old.disk) (state new.disk) call.cause some);
}
