-- A hold, the reading on in it and its drop: the seat's pins and its hold may change, and an entry is noted. All else stays.
use Rattle.std.specs.Prelude.{◌≡◌, ℕ, ◌+◌, ◌<◌, ◌≤◌, Bool, if◌then◌else◌, true, false, List, [], Option, Some, None, IsTrue, is_some, slice_index_or, slice_set, length}
use Rattle.std.proofs.lemmas.Grind.{common_steps}
use Rattle.std.proofs.lemmas.Bool.Decides.{nat_tests}
use Rattle.std.proofs.Common.{◌∙◌, inl, inr, refl, ap, sym, subst, arith}
use Rattle.std.proofs.lemmas.Bool.{cases_eq}
use Rattle.std.proofs.lemmas.List.{get_or-set_same, get_or-set_other}
use Rattle.blsm_model.specs.Book.{HasRoom}
use Rattle.blsm_model.specs.Facts.{Follows}
use Rattle.blsm_model.specs.Format.{callers}
use Rattle.blsm_model.specs.Geometry.{capacity, file_length}
use Rattle.blsm_model.specs.Histories.{writes_of}
use Rattle.blsm_model.specs.Legal.{is_write}
use Rattle.blsm_model.specs.Sizes.{Sizes}
use Rattle.blsm_model.specs.declared.key.Key.{Key}
use Rattle.blsm_model.specs.declared.row.Row.{Row}
use Rattle.blsm_model.specs.declared.row.Value.{Value}
use Rattle.blsm_model.specs.declared.op.Op.{Op}
use Rattle.blsm_model.specs.declared.op.Op.TheVariants as op
use Rattle.blsm_model.specs.declared.history.Entry.{Entry}
use Rattle.blsm_model.specs.declared.history.Reply.{Reply}
use Rattle.disk_trait.specs.Disk.{DiskState}
use Rattle.disk_trait.specs.Reads.{OnlyReads}
use Rattle.gear_sched.specs.Gears.{GearState}
use Rattle.pacing.specs.Kept.{IsWithin}
use Rattle.pacing.specs.Pace.{Pace, charge, held as counted_in}
use Rattle.page_space.specs.PageSet.{Members}
use Rattle.scan_view.specs.Hold.{HoldState}
use Rattle.scan_view.specs.Holds.{hold_of}
use Rattle.scan_view.specs.Pins.{HasHeld}
use Rattle.scan_view.proofs.StayLemmas.{held_by_others}
use Rattle.seat_book.specs.State.{BookState, noted_in}
use Rattle.tree_machine.specs.Machine.{Machine, held_by}
use Rattle.tree_machine.specs.Moves.{note}
use Rattle.tree_machine.specs.Outcomes.{IsPossible, is_broken}
use Rattle.tree_machine.specs.Plays.{may, stepped_as}
use Rattle.tree_machine.specs.Stands.{WritesFit}
use Rattle.tree_machine.specs.Steps.{Outcome, Replied, replied}
use Rattle.tree_machine.specs.declared.step.Kind.{Kind}
use Rattle.tree_machine.specs.declared.step.Kind.TheVariants as kind
use Rattle.paced_tree.specs.Made.{IsMadeBy}
use Rattle.tree_file.specs.Tree.{Tree}
use Rattle.tree_log.specs.Log.{listed_in_a}
use Rattle.tree_runs.specs.Holding.{AreOf, HoldFits}
use Rattle.core_moves.specs.declared.held.Held.{Held}
use Rattle.core_moves.specs.Moves.{with_book}
use Rattle.core_moves.specs.Needs.{IsOn}
use Rattle.core_pace.specs.Pacing.{IsPacedHeld}
use Rattle.core_pace.proofs.EventLemmas.{entry_is_told}
use Rattle.core_lists.proofs.ShowingLemmas.{quiet_entry_counts_none}
use Rattle.tree_core.specs.Core.{CoreState, HoldsPace, facts_of_held}
use Rattle.tree_core.specs.Holds.{HoldRows, StandsWhole, LeavesOthers}
use Rattle.tree_core.specs.HoldMoves.{MovesHold}
use Rattle.tree_core.specs.Steps.{MovesPace, IsWholeStep}
use Rattle.tree_core.proofs.QuietLemmas.{quiet_step, read_holds}

-- what the three kinds of steps have in common
pub record IsHoldKind (seat : ℕ) (k : Kind) (command : Op) : Type 0 where
  pub writes : writes_of command ≡ []
  pub none : is_write command ≡ false
  pub fits : WritesFit k
  pub made : (r : Reply) (pace : Pace) → IsMadeBy seat k (Replied r) pace pace

pub hold_kind : (seat : ℕ) (low high : Key) → IsHoldKind seat (kind.Hold low high) (op.Hold low high)
hold_kind seat low high = record { writes = refl; none = refl; fits = tt; made = λ r pace. refl }

pub next_kind : (seat n : ℕ) → IsHoldKind seat (kind.Next n) (op.Next n)
next_kind seat n = record { writes = refl; none = refl; fits = tt; made = λ r pace. refl }

pub release_kind : (seat : ℕ) → IsHoldKind seat kind.Release op.Release
release_kind seat = record { writes = refl; none = refl; fits = tt; made = λ r pace. refl }

-- ---- a hold has no more pages than a seat may pin

-- table A's list counts in the charge
table_charged : (pace : Pace) → IsWithin pace → pace.a ≤ counted_in pace
table_charged pace within = by pace.gears.pass refl
  where
    by : (runs : Bool) → pace.gears.pass ≡ runs → pace.a ≤ (if runs then pace.gears.pass_memory + pace.gears.pass_admitted else pace.a + pace.b)
    by true is = omega (arith, (within.running is).tables)
    by false is = omega arith

-- and the charge is no more than the capacity
pub hold_fits : (held : Held) (pace : Pace) → IsPacedHeld held pace → HoldFits held.runs held.log.a.entries
hold_fits held pace paced =
    let n = paced.numbers in
    let within = paced.told.paced.within in
    let full = subst (λ (s : Sizes). charge pace ≤ capacity s) (ap (λ (g : GearState). g.sizes) n.gears ∙ paced.one.gears) within.full in
    record {
      live = omega (arith, full, n.c1, n.c1x, n.c2);
      total = listed_in_a held.log + held.runs.catalogue.c1.weight;
      covers = paced.one.follows.covers;
      room = omega (arith, full, table_charged pace within, n.a, n.c1, n.c1x, n.c2);
    }

-- ---- by numbers

-- the merges run on, on a disk that isn't called
pub moved_on : {seat : ℕ} {old mid : Held} {before after : List (Option HoldState)} (d : DiskState) → MovesHold seat old mid before after → IsOn old d → IsOn mid d
moved_on {seat} {old} {mid} d moves on = record { running = moves.running d.is_honest d.bytes on.running; long = λ tells. on.long tells ∙ ap (λ (held : Held). file_length held.runs.sizes) (sym moves.rest) }

hold_holds : {seat : ℕ} {k : Kind} {command : Op} {old mid : Held} {before after : List (Option HoldState)} {d d2 : DiskState} (r : Reply) (pace : Pace) → IsHoldKind seat k command → MovesHold seat old mid before after
    → (IsOn old d → IsOn mid d2) → HasRoom old.book.book.room (record { seat = seat; op = command; reply = r }) → HoldsPace old pace d → HoldsPace (with_book (noted_in seat command r old.book) mid) pace d2
hold_holds {seat} {k} {command} {old} {mid} {before} {after} {d} {d2} r pace is moves on room holds =
    let b = noted_in seat command r old.book in
    let told = entry_is_told old.book pace seat command r (λ done. is.none) room holds.told.told in
    subst (λ (held : Held). HoldsPace (with_book b held) pace d2) (sym moves.rest)
    (read_holds old mid.runs.space b pace d d2 holds refl refl told (subst (λ (held : Held). IsOn old d → IsOn held d2) moves.rest on))

pub hold_moves : {seat : ℕ} {k : Kind} {command : Op} {old mid : Held} {before after : List (Option HoldState)} {d d2 : DiskState} (r : Reply) (pace : Pace) → IsHoldKind seat k command → MovesHold seat old mid before after
    → (IsOn old d → IsOn mid d2) → HasRoom old.book.book.room (record { seat = seat; op = command; reply = r }) → HoldsPace old pace d
    → MovesPace seat k (Replied r) (with_book (noted_in seat command r old.book) mid) d2 pace
hold_moves r pace is moves on room holds = record { next = pace; made = is.made r pace; holds = hold_holds r pace is moves on room holds }

pub hold_follows : {seat : ℕ} {old mid : Held} {before after : List (Option HoldState)} (command : Op) (r : Reply) → MovesHold seat old mid before after
    → Follows seat (facts_of_held old) (facts_of_held (with_book (noted_in seat command r old.book) mid))
hold_follows {seat} {old} {mid} command r moves = grind (arith, common_steps, nat_tests)

pub leaves_others : {D : Type 0} {seat : ℕ} {mid : Held} {after : List (Option HoldState)} (old : CoreState D) (disk : D) (b : BookState) → MovesHold seat old.held mid old.holds after
    → LeavesOthers seat old (record { disk = disk; held = with_book b mid; holds = after })
leaves_others old disk b moves = record { holds = moves.holds; pins = moves.pins; roles = moves.roles; rest = ap (λ (held : Held). with_book b held) moves.rest }

-- ---- by lists

-- The whole step: what was moved, then the entry.
abbrev pub after_it : {D : Type 0} → D → Held → List (Option HoldState) → ℕ → Op → Reply → Held → CoreState D
after_it disk mid holds seat command r old = record { disk = disk; held = with_book (noted_in seat command r old.book) mid; holds = holds }

pub hold_step : {D : Type 0} {end most : ℕ} (state : D → DiskState) (opening : List (Key × Value)) (seat : ℕ) (k : Kind) (command : Op) (r : Reply) (outcome : Outcome) (old : CoreState D) (mid : Held) (holds : List (Option HoldState)) (disk : D)
    (rows : List (Option (List Row))) (m : Machine) → IsHoldKind seat k command → MovesHold seat old.held mid old.holds holds → OnlyReads end most (state old.disk) (state disk) → IsTrue (state old.disk).is_honest
    → StandsWhole state opening old m → may m seat k ≡ true
    → stepped_as m seat k outcome ≡ replied seat command r (record m { holds = rows }) → IsPossible m seat k outcome (state old.disk).faults (state disk).faults → is_broken outcome ≡ false
    → (old.held.book.stopped ≡ None → HoldRows mid holds (state disk) rows)
    → IsWholeStep state opening seat k (Replied r) old (after_it disk mid holds seat command r old.held) m
hold_step state opening seat k command r outcome old mid holds disk rows m is moves reads honest stands can does possible whole gives =
    let entry : Entry = record { seat = seat; op = command; reply = r } in
    subst
    (λ (held : Held). ((tree : Tree) (file : List ℕ) → AreOf old.held.runs tree file → AreOf held.runs tree file)
    → (old.held.book.stopped ≡ None → HoldRows held holds (state disk) rows)
    → IsWholeStep state opening seat k (Replied r) old (after_it disk held holds seat command r old.held) m)
    (sym moves.rest)
    (quiet_step opening seat k outcome (Replied r) old.held mid.runs.space (noted_in seat command r old.held.book) m (note seat command r (record m { holds = rows })) reads honest stands can is.fits possible whole does
    (record { same = record { lists = refl; merges = refl; gears = refl; spring = refl; catalogue = refl }; counts = record { charge = refl; peak = refl; quanta = refl }; book = ap (noted_in seat command r) stands.book; stopped = refl; noted = inr (entry, refl, quiet_entry_counts_none entry (inl is.writes)) }))
    moves.lists gives

-- ---- the rows to come

-- Each other seat has its rows still, and this one has these.
pub seat_rows : (seat : ℕ) (old mid : Held) (before after : List (Option HoldState)) (m : Machine) (now : Option (List Row)) (d d2 : DiskState) → MovesHold seat old mid before after → seat < callers → length m.holds ≡ callers → d2.bytes ≡ d.bytes
    → HasHeld old.runs.sizes mid.runs.space.pins seat (hold_of seat after) now d2.bytes → HoldRows old before d m.holds → HoldRows mid after d2 (slice_set m.holds seat now)
seat_rows seat old mid before after m now d d2 moves below places bytes has rows = λ other within. subst (λ (z : Sizes). HasHeld z mid.runs.space.pins other (hold_of other after) (slice_index_or (slice_set m.holds seat now) other None) d2.bytes) (ap (λ (held : Held). held.runs.sizes) (sym moves.rest))
    (elim (cases_eq other seat) [
      | inl same ↦
          subst (λ (s : ℕ). HasHeld old.runs.sizes mid.runs.space.pins s (hold_of s after) (slice_index_or (slice_set m.holds seat now) s None) d2.bytes) (sym same)
          (subst (λ (o : Option (List Row)). HasHeld old.runs.sizes mid.runs.space.pins seat (hold_of seat after) o d2.bytes) (sym (get_or-set_same m.holds seat now None (omega (arith, below, places)))) has)
      | inr differs ↦
          subst (λ (o : Option (List Row)). HasHeld old.runs.sizes mid.runs.space.pins other (hold_of other after) o d2.bytes) (sym (get_or-set_other m.holds seat other now None differs))
          (subst (λ (h : Option HoldState). HasHeld old.runs.sizes mid.runs.space.pins other h (held_by other m) d2.bytes) (sym (moves.holds other differs))
          (subst (λ (file : List ℕ). HasHeld old.runs.sizes mid.runs.space.pins other (hold_of other before) (held_by other m) file) (sym bytes)
          (held_by_others old.runs.sizes old.runs.space mid.runs.space seat other (hold_of other before) (held_by other m) d.bytes moves.pins differs (rows other within))))
    ])

-- where nothing was moved, all have
pub same_rows : (old mid : Held) (before after : List (Option HoldState)) (rows : List (Option (List Row))) (d d2 : DiskState) → mid.runs ≡ old.runs → after ≡ before → d2.bytes ≡ d.bytes → HoldRows old before d rows → HoldRows mid after d2 rows
same_rows old mid before after rows d d2 runs holds bytes has = grind (arith, common_steps, nat_tests)

-- a seat's hold has rows just where it is one
pub none_held : (sizes : Sizes) (pins : List Members) (seat : ℕ) (file : List ℕ) (hold : Option HoldState) (rows : Option (List Row)) → hold ≡ None → HasHeld sizes pins seat hold rows file → rows ≡ None
none_held sizes pins seat file hold rows h1 h2 = grind (arith, common_steps, nat_tests)

pub some_held : (sizes : Sizes) (pins : List Members) (seat : ℕ) (file : List ℕ) (hold : Option HoldState) (rows : Option (List Row)) → IsTrue (is_some hold) → HasHeld sizes pins seat hold rows file → (given : List Row) × (rows ≡ Some given)
some_held sizes pins seat file hold rows h1 h2 = grind (arith, common_steps, nat_tests)
