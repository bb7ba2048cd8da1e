-- What a command writes, and what is done to the book alone, over lists.
use Rattle.std.specs.Prelude.{Some, None, ◌≤◌, ◌||◌, [], ◌∷◌, is_some, length, not}
use Rattle.std.proofs.lemmas.Grind.{common_steps}
use Rattle.std.proofs.lemmas.Bool.Decides.{nat_tests}
use Rattle.std.proofs.Common.{arith}
use Rattle.std.proofs.Common.{◌≡◌, ◌∙◌, ℕ, ◌+◌, Bool, true, false, cond, List, Option, refl, ap, sym, subst}
use Rattle.blsm_model.specs.declared.key.Key.{Key}
use Rattle.blsm_model.specs.declared.op.Write.{Write}
use Rattle.blsm_model.specs.Legal.{total_weight}
use Rattle.record_delta.specs.Entries.{Entries, entries_weight}
use Rattle.record_delta.specs.Several.{entries_of}
use Rattle.gear_sched.specs.Gears.{GearState, entered}
use Rattle.snow_merge.specs.Pass.{SnowState}
use Rattle.tree_machine.specs.Lists.{Lists, memory_weight}
use Rattle.tree_machine.specs.Merges.{Merge}
use Rattle.tree_machine.specs.Layers.{IsSound}
use Rattle.tree_machine.specs.Machine.{Machine, Merges}
use Rattle.tree_machine.specs.Moves.{goes_to_a, joins_pass, take_writes, note, stop, with_peak}
use Rattle.tree_machine.specs.Steps.{count_for_write, taken_together, work_end, leave}
use Rattle.tree_machine.proofs.WeightLemmas.{weight_of_entries}
use Rattle.seat_book.specs.State.{BookState, book_of, peaked_in, noted_in, stopped_in, paid_in, turned_in, helped_in, ended_in, left_in}
use Rattle.tree_file.specs.Tree.{Tree, lists_of}
use Rattle.tree_file.proofs.ListLemmas.{lists_appended_a, lists_appended_b}
use Rattle.tree_log.specs.Log.{appended, IsLogOf}
use Rattle.tree_runs.specs.Runs.{RunsState}
use Rattle.tree_runs.specs.Holding.{cursor_of_pass, AreOf}
use Rattle.core_moves.specs.declared.held.Held.{Held}
use Rattle.core_moves.specs.Held.{goes_ahead}
use Rattle.core_moves.specs.Moves.{with_book, WritesIn}
use Rattle.core_lists.specs.Standing.{HoldsMachine, IsPassAt, IsDeepAt, catalogue_of}
use Rattle.core_lists.proofs.WeighLemmas.{tables_weigh}
use Rattle.core_lists.proofs.Terms.{IsAt, turn_noted, helped, joined, with_appended, BookMoves}

-- the code sends writes where the machine does
pub same_way : (m : Machine) (held : Held) (tree : Tree) (more : Entries) → HoldsMachine held tree m
    → goes_to_a m.merges.pass m.lists.b more ≡ goes_ahead more held
same_way m held tree more holds = by m.merges.pass held.runs.pass holds.pass
  where
    table_b : m.lists.b ≡ held.log.b.entries
    table_b = ap (λ (l : Lists). l.b) holds.lists ∙ sym holds.of_log.b

    by : (pass : Option Merge) (snow : Option SnowState) → IsPassAt pass snow
        → goes_to_a pass m.lists.b more ≡ (not (is_some snow) || joins_pass (cursor_of_pass snow) held.log.b.entries more)
    by None None at = refl
    by (Some pass) (Some snow) at =
        ap (λ (c : Option Key). joins_pass c m.lists.b more) at ∙ ap (λ (b : Entries). joins_pass snow.at b more) table_b
    by None (Some snow) at = absurd at
    by (Some pass) None at = absurd at

-- the gears know a pass where one runs
pub runs_as : (m : Machine) (held : Held) → IsSound m → IsPassAt m.merges.pass held.runs.pass → m.gears.pass ≡ is_some held.runs.pass
runs_as m held sound comes = grind (arith, common_steps, nat_tests)

-- what goes to a table of the machine's lists is appended to its lane
joins : (more : Entries) (tree : Tree) (lists : Lists) (goes b : Bool) → lists ≡ lists_of tree → goes ≡ b
    → cond goes (joined true more lists) (joined false more lists) ≡ lists_of (appended b more tree)
joins more tree lists goes true are is =
    ap (λ (b : Bool). cond b (joined true more lists) (joined false more lists)) is ∙ ap (joined true more) are ∙ sym (lists_appended_a more tree)
joins more tree lists goes false are is =
    ap (λ (b : Bool). cond b (joined true more lists) (joined false more lists)) is ∙ ap (joined false more) are ∙ sym (lists_appended_b more tree)

pub writes_have_lists : (seat : ℕ) (ws : List Write) (held : Held) (tree : Tree) (m : Machine) → HoldsMachine held tree m
    → (take_writes seat ws m).lists ≡ lists_of (with_appended ws held tree)
writes_have_lists seat ws held tree m holds =
    joins (entries_of ws) tree m.lists (goes_to_a m.merges.pass m.lists.b (entries_of ws)) (goes_ahead (entries_of ws) held)
    holds.lists (same_way m held tree (entries_of ws) holds)

-- a command that writes something takes all that it writes
pub takes_all : (seat : ℕ) (ws : List Write) (m : Machine) → 1 ≤ length ws → taken_together seat ws m ≡ take_writes seat ws m
takes_all seat [] m some = absurd (omega (arith, some))
takes_all seat (w ∷ ws) m some = refl

-- The writes are appended where they go, are in their table, and count for the peak.
pub writes_land : (seat : ℕ) (ws : List Write) (old new : Held) (tree : Tree) (m : Machine) (file after : List ℕ) → IsAt old tree m file → IsSound m
    → WritesIn seat (entries_of ws) old new
    → (IsLogOf tree old.log → IsLogOf (with_appended ws old tree) new.log)
    → AreOf new.runs (with_appended ws old tree) after
    → IsAt new (with_appended ws old tree) (with_peak (take_writes seat ws m)) after
writes_land seat ws old new tree m file after at sound moves of_log are_of =
    let next = with_appended ws old tree in
    let weighs : entries_weight (entries_of ws) ≡ total_weight ws = weight_of_entries ws in
    let runs = runs_as m old sound at.holds.pass in
    let lists : (take_writes seat ws m).lists ≡ lists_of next = writes_have_lists seat ws old tree m at.holds in
    record {
      are_of = are_of;
      holds = record {
        lists = lists;
        of_log = of_log at.holds.of_log;
        pass = subst (λ (r : RunsState). IsPassAt m.merges.pass r.pass) (sym moves.runs) at.holds.pass;
        deep = subst (λ (r : RunsState). IsDeepAt m.merges.deep r.deep) (sym moves.runs) at.holds.deep;
        gears = ap (λ (g : GearState). entered g seat (total_weight ws)) at.holds.gears ∙ ap (λ (n : ℕ). entered old.gears seat n) (sym weighs)
            ∙ sym moves.gears;
        spring = ap (λ (b : Bool). cond b m.spring (m.spring + total_weight ws)) runs
            ∙ ap (λ (n : ℕ). cond (is_some old.runs.pass) n (n + total_weight ws)) at.holds.spring
            ∙ ap (λ (n : ℕ). cond (is_some old.runs.pass) old.spring (old.spring + n)) (sym weighs)
            ∙ sym moves.spring;
        catalogue = at.holds.catalogue ∙ ap (λ (r : RunsState). catalogue_of r.catalogue) (sym moves.runs);
        book = ap (λ (b : BookState). peaked_in (memory_weight (take_writes seat ws m).lists) b) at.holds.book
            ∙ ap (λ (n : ℕ). peaked_in n old.book) (tables_weigh (take_writes seat ws m).lists next new.log lists (of_log at.holds.of_log))
            ∙ sym moves.book;
      };
    }

-- another machine with the same lists, merges and numbers, whose book the core has
booked : (book : BookState) (held : Held) (tree : Tree) (m next : Machine) (file : List ℕ) → next.lists ≡ m.lists → next.merges ≡ m.merges → next.gears ≡ m.gears → next.spring ≡ m.spring
    → next.catalogue ≡ m.catalogue → book_of next ≡ book → IsAt held tree m file → IsAt (with_book book held) tree next file
booked book held tree m next file lists merges gears spring catalogue is at = record {
  are_of = at.are_of;
  holds = record {
    lists = lists ∙ at.holds.lists;
    of_log = at.holds.of_log;
    pass = subst (λ (ms : Merges). IsPassAt ms.pass held.runs.pass) (sym merges) at.holds.pass;
    deep = subst (λ (ms : Merges). IsDeepAt ms.deep held.runs.deep) (sym merges) at.holds.deep;
    gears = gears ∙ at.holds.gears;
    spring = spring ∙ at.holds.spring;
    catalogue = catalogue ∙ at.holds.catalogue;
    book = is;
  };
}

pub book_lands : (held : Held) (tree : Tree) (m : Machine) (file : List ℕ) → IsAt held tree m file → BookMoves held tree m file
book_lands held tree m file at = record {
  note = λ seat op reply. booked (noted_in seat op reply held.book) held tree m (note seat op reply m) file refl refl refl refl refl (ap (λ (b : BookState). noted_in seat op reply b) at.holds.book) at;
  stop = λ why. booked (stopped_in why held.book) held tree m (stop why m) file refl refl refl refl refl (ap (λ (b : BookState). stopped_in why b) at.holds.book) at;
  payment = λ seat. booked (paid_in seat held.book) held tree m (count_for_write seat m) file refl refl refl refl refl (ap (λ (b : BookState). paid_in seat b) at.holds.book) at;
  turn = λ seat ended quanta. booked (turned_in seat ended quanta held.book) held tree m (turn_noted seat ended quanta m) file refl refl refl refl refl (ap (λ (b : BookState). turned_in seat ended quanta b) at.holds.book) at;
  help = λ seat. booked (helped_in seat held.book) held tree m (helped seat m) file refl refl refl refl refl (ap (λ (b : BookState). helped_in seat b) at.holds.book) at;
  end = λ seat n. booked (ended_in seat n held.book) held tree m (work_end m seat n).state file refl refl refl refl refl (ap (λ (b : BookState). ended_in seat n b) at.holds.book) at;
  leave = λ seat. booked (left_in seat held.book) held tree m (leave m seat).state file refl refl refl refl refl (ap (λ (b : BookState). left_in seat b) at.holds.book) at;
}
