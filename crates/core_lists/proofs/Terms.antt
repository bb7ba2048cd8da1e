-- What only lemmas say: no clause names these.
use Rattle.std.specs.Prelude.{ℕ, List, ◌≡◌, ◌↔◌, ◌-◌, true, is_some, slice_index, slice_set, Bool, false, ◌+◌, ◌≤◌, None, IsTrue, ◌<◌, ◌==◌, length, not, nat_lt, ⊤}
use Rattle.blsm_model.specs.declared.key.Key.{Key}
use Rattle.blsm_model.specs.declared.row.Value.{Value}
use Rattle.pacing.specs.Pace.{Pace}
use Rattle.pacing.specs.Fronts.{Fronts, AreFronts}
use Rattle.tree_machine.specs.Machine.{Machine, Turned, work_of, charge, in_deep, in_pass, pass_done, deep_done, turn_more, is_closed}
use Rattle.paced_tree.specs.Kept.{IsPacedTree}
use Rattle.tree_file.specs.Tree.{Tree, lists_of}
use Rattle.tree_runs.specs.Holding.{AreOf, IsPassSwapped}
use Rattle.core_moves.specs.declared.held.Held.{Held}
use Rattle.core_lists.specs.Standing.{HoldsMachine}
use Rattle.blsm_model.specs.Format.{callers}
use Rattle.blsm_model.specs.declared.op.Op.{Op}
use Rattle.blsm_model.specs.declared.history.Reply.{Reply}
use Rattle.blsm_model.specs.declared.history.Why.{Why}
use Rattle.record_delta.specs.Entries.{Entries, entries_weight}
use Rattle.record_delta.specs.Several.{entries_of, with_records}
use Rattle.tree_machine.specs.Lists.{memory_weight, Lists, value_in}
use Rattle.tree_machine.specs.Moves.{note, stop}
use Rattle.tree_machine.specs.Steps.{count_for_write, with_turn, work_noted, work_end, leave, deep_swapped, swapped, ready_for, Choice, choice}
use Rattle.seat_book.specs.State.{noted_in, stopped_in, paid_in, turned_in, helped_in, ended_in, left_in}
use Rattle.tree_log.specs.Log.{listed_in_a, weight_of_tables, appended}
use Rattle.core_moves.specs.Held.{IsOne, IsPassDone, IsDeepDone, charge_in, is_run_full, goes_ahead}
use Rattle.core_moves.specs.Moves.{with_book, SettlesDeep, SettlesPass, begun_in, TurnsLog}
use Rattle.blsm_model.specs.Histories.{is_met, written, writes_of}
use Rattle.blsm_model.specs.Values.{value_at}
use Rattle.pacing.specs.Kept.{IsPaced}
use Rattle.tree_machine.specs.Layers.{AreLayered, IsSound}
use Rattle.paced_tree.specs.Numbers.{pace_of}
use Rattle.core_lists.specs.Shown.{HasFronts}
use Rattle.core_lists.specs.Admissions.{DeepSettlesTree}
use Rattle.blsm_model.specs.declared.op.Write.{Write}
use Rattle.blsm_model.specs.Geometry.{charge_limit}
use Rattle.blsm_model.specs.Legal.{total_weight, is_del}
use Rattle.tree_machine.specs.Plays.{may}
use Rattle.tree_machine.specs.Stands.{WritesFit}
use Rattle.tree_machine.specs.declared.step.Kind.TheVariants as kind
use Rattle.core_pace.specs.Pacing.{HasPace}
use Rattle.tree_machine.specs.declared.step.Kind.{Kind}
use Rattle.pacing.proofs.Terms.{fronts_ready}

-- In this file the runs are of the tree, and with its lists the core is the machine's state.
pub record IsAt (held : Held) (tree : Tree) (m : Machine) (file : List ℕ) : Type 0 where
  pub are_of : AreOf held.runs tree file
  pub holds : HoldsMachine held tree m

-- A turn that is over counts for the caller's work, and one of a worker for the worker.
abbrev pub turn_noted : ℕ → Turned → ℕ → Machine → Machine
turn_noted seat ended quanta m = work_noted seat (with_turn (work_of seat m) (record { state = m; ended = ended; quanta = quanta })) m

abbrev pub helped : ℕ → Machine → Machine
helped seat m = record m { seats = record m.seats { turns = slice_set m.seats.turns (seat - callers) (turn_more (slice_index m.seats.turns (seat - callers))) } }

-- What is done to the book alone.
pub record BookMoves (held : Held) (tree : Tree) (m : Machine) (file : List ℕ) : Type 0 where
  pub note : (seat : ℕ) (op : Op) (reply : Reply) → IsAt (with_book (noted_in seat op reply held.book) held) tree (note seat op reply m) file
  pub stop : (why : Why) → IsAt (with_book (stopped_in why held.book) held) tree (stop why m) file
  pub payment : (seat : ℕ) → IsAt (with_book (paid_in seat held.book) held) tree (count_for_write seat m) file
  -- a turn counts for a caller's work, or for the worker
  pub turn : (seat : ℕ) (ended : Turned) (quanta : ℕ) → IsAt (with_book (turned_in seat ended quanta held.book) held) tree (turn_noted seat ended quanta m) file
  pub help : (seat : ℕ) → IsAt (with_book (helped_in seat held.book) held) tree (helped seat m) file
  pub end : (seat n : ℕ) → IsAt (with_book (ended_in seat n held.book) held) tree (work_end m seat n).state file
  pub leave : (seat : ℕ) → IsAt (with_book (left_in seat held.book) held) tree (leave m seat).state file

-- Where the numbers are a pace's the code's tests are the machine's, and the weights of the lists are the numbers of the catalogue, of the tables and of the runs.
pub record Agrees (held : Held) (m : Machine) : Type 0 where
  pub pass_runs : in_pass m ≡ is_some held.runs.pass
  pub deep_runs : in_deep m ≡ is_some held.runs.deep
  pub pass_is_done : IsPassDone held ↔ (pass_done m ≡ true)
  pub deep_is_done : IsDeepDone held ↔ (deep_done m ≡ true)
  pub memory : memory_weight m.lists ≡ weight_of_tables held.log
  pub table : entries_weight m.lists.a ≡ listed_in_a held.log
  pub c1 : entries_weight m.lists.c1 ≡ held.runs.catalogue.c1.weight
  pub c1x : entries_weight m.lists.c1x ≡ held.runs.catalogue.c1x.weight
  pub c2 : entries_weight m.lists.c2 ≡ held.runs.catalogue.c2.weight
  pub charge_is : charge m ≡ charge_in held

-- The machine's lists are the tree's and stand for the history; its numbers keep pace, and so do the fronts of the lanes. It is so after each
-- step, and within an admission after each of its swaps.
pub record IsShown (opening : List (Key × Value)) (m : Machine) (fronts : Fronts) (tree : Tree) : Type 0 where
  pub lists : m.lists ≡ lists_of tree
  pub layered : AreLayered m.lists m.merges
  pub values : (key : Key) → value_in m.lists key ≡ value_at (written opening m.book.entries) key
  pub paced : IsPaced (pace_of m)
  pub within : AreFronts (pace_of m) fronts
  pub lanes : HasFronts tree m.lists fronts

-- The later machine counts the same charge, peak and quanta, so that a file may weigh as much for it.
pub record CountsAs (m later : Machine) : Type 0 where
  pub charge : later.counts.charge ≡ m.counts.charge
  pub peak : later.counts.peak ≡ m.counts.peak
  pub quanta : later.seats.quanta ≡ m.seats.quanta

-- the lists with entries more in a table, and a table of them
abbrev pub joined : Bool → Entries → Lists → Lists
joined true more lists = record lists { a = with_records more lists.a }
joined false more lists = record lists { b = with_records more lists.b }

abbrev pub table_of : Bool → Lists → Entries
table_of true lists = lists.a
table_of false lists = lists.b

-- So does the pass's, which turns the log.
pub record PassSettlesTree (old new : Held) (tree next : Tree) : Type 0 where
  pub done : IsPassDone old → IsPassSwapped (is_run_full old) tree next
  pub turns : IsPassDone old → TurnsLog old.log new.log
  pub rests : (IsPassDone old → ⊥) → next ≡ tree

-- Three states of the core, their trees, and their files: after the deep merge's swap, after the pass's, and when the write is to be appended.
pub record IsReadied (w : ℕ) (settled ready : Held) (middle next : Tree) (m : Machine) (between last : List ℕ) : Type 0 where
  pub after_deep : IsAt settled middle (deep_swapped m) between
  pub after_pass : IsAt ready next (swapped m) last
  pub begun : IsAt (begun_in w ready) next (ready_for w m) last

-- what the calls of an admission tell of them
pub record Readies (w : ℕ) (old settled ready : Held) (tree middle next : Tree) (between last : List ℕ) : Type 0 where
  pub deep : SettlesDeep old settled
  pub deep_tree : DeepSettlesTree old tree middle
  pub after_deep : AreOf settled.runs middle between
  pub pass : SettlesPass settled ready
  pub pass_tree : PassSettlesTree settled ready middle next
  pub after_pass : AreOf ready.runs next last
  pub begun : AreOf (begun_in w ready).runs next last

-- The core stands at the machine's state, over the tree that this file holds, and the machine is paced; no front of a lane weighs more than
-- these. The core's numbers are some pace's, which need not be the machine's.
pub record StandsIn (opening : List (Key × Value)) (held : Held) (m : Machine) (fronts : Fronts) (tree : Tree) (file : List ℕ) : Type 0 where
  pub at : IsAt held tree m file
  pub paced : IsPacedTree opening m
  pub numbers : Pace
  pub has : HasPace held numbers
  pub one : IsOne held
  pub within : AreFronts (pace_of m) fronts
  pub lanes : HasFronts tree m.lists fronts

-- What stands then, in an admission or where it was not done.
pub record SettledIn (opening : List (Key × Value)) (old settled : Held) (m : Machine) (fronts : Fronts) (tree middle : Tree) (file between : List ℕ) : Type 0 where
  pub stood : StandsIn opening old m fronts tree file
  pub moves : DeepSettlesTree old tree middle
  pub at : IsAt settled middle (deep_swapped m) between
  pub numbers : Pace
  pub has : HasPace settled numbers
  pub one : IsOne settled

-- The machine runs, the seat may write, the write's condition holds, and there is room. When the command's writes are to be appended the core
-- stands over this tree.
pub record MayAppend (opening : List (Key × Value)) (m : Machine) (fronts : Fronts) (seat : ℕ) (op : Op) (begun : Held) (tree : Tree) : Type 0 where
  pub paced : IsPacedTree opening m
  pub within : AreFronts (pace_of m) fronts
  pub runs : m.stopped ≡ None
  pub may : IsTrue (may m seat (kind.Admit op))
  pub fits : WritesFit (kind.Admit op)
  pub some : 1 ≤ length (writes_of op)
  pub met : is_met op (value_in m.lists) ≡ true
  pub room : charge m + total_weight (writes_of op) ≤ charge_limit m.gears.sizes (is_del op)
  pub holds : HoldsMachine begun tree (ready_for (total_weight (writes_of op)) m)
  pub lanes : HasFronts tree (swapped m).lists (fronts_ready (pace_of m) fronts)

abbrev pub with_appended : List Write → Held → Tree → Tree
with_appended ws begun tree = appended (goes_ahead (entries_of ws) begun) (entries_of ws) tree

-- What steps over lists rest on: the core stands at the machine's state, its numbers are some pace's, and a quantum has a weight.
pub record IsSteady (held : Held) (tree : Tree) (m : Machine) (file : List ℕ) : Type 0 where
  pub at : IsAt held tree m file
  pub sound : IsSound m
  pub numbers : Pace
  pub has : HasPace held numbers
  pub one : IsOne held
  pub positive : 0 < held.runs.sizes.quantum
  pub runs : m.stopped ≡ None

abbrev pub chosen_by : Bool → Machine → Choice
chosen_by true m = choice (nat_lt m.gears.sizes.low m.spring) false m
chosen_by false m = choice (not (memory_weight m.lists == 0)) (not (entries_weight m.lists.c1 == 0)) m

abbrev pub kind_of_turn : Bool → Kind
kind_of_turn true = kind.WorkerTurn
kind_of_turn false = kind.WorkTurn

-- a worker's turn moves before the store is closed only
abbrev pub IsOpenTo : Bool → Machine → Type 0
IsOpenTo true m = is_closed m ≡ false
IsOpenTo false m = ⊤
