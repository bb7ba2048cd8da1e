-- Swaps, rotations and begins, over lists.
use Rattle.std.proofs.Common.{◌≡◌, ◌∙◌, ℕ, ◌+◌, Bool, true, false, cond, [], List, Option, Some, None, refl, ap, sym, subst}
use Rattle.std.proofs.lemmas.Grind.{common_steps}
use Rattle.std.proofs.lemmas.Bool.Decides.{nat_tests}
use Rattle.std.proofs.Common.{arith}
use Rattle.std.specs.Prelude.{nat_le}
use Rattle.std.proofs.lemmas.Bool.{false≢true}
use Rattle.blsm_model.specs.declared.key.Key.{Key}
use Rattle.blsm_model.specs.Geometry.{c1_mark}
use Rattle.catalog_swap.specs.declared.catalog.Catalog.{Catalog}
use Rattle.record_delta.specs.Entries.{Entries, above, entries_weight, folded_over, settled_entries, up_to, replayed}
use Rattle.page_file.specs.Component.{entries_of}
use Rattle.gear_sched.specs.Gears.{GearState, deep_ended, pass_ended, passing, rotated}
use Rattle.deep_merge.specs.Merge.{started as deep_started}
use Rattle.snow_merge.specs.Pass.{SnowState}
use Rattle.tree_machine.specs.Lists.{Lists, memory_weight}
use Rattle.tree_machine.specs.Merges.{Merge, begun, is_empty}
use Rattle.tree_machine.specs.Layers.{IsSound}
use Rattle.tree_machine.specs.Machine.{Machine, Catalogue, pass_done, deep_done, pass_is_done}
use Rattle.tree_machine.specs.Moves.{begin_pass, end_pass, rotate, committed, turned, output_of, swap_deep, swap_pass, rotate_alone}
use Rattle.merge_ends.proofs.GroupLemmas.{all_up_to}
use Rattle.tree_machine.proofs.FoldLemmas.{both_hold}
use Rattle.tree_machine.proofs.WeightLemmas.{pass_output, deep_output}
use Rattle.seat_book.specs.State.{deep_counted_in, pass_counted_in}
use Rattle.tree_log.proofs.RestLemmas.{log_keeps}
use Rattle.tree_file.specs.Tree.{Tree, lists_of}
use Rattle.tree_file.specs.Places.{TurnsRoles}
use Rattle.tree_log.specs.Log.{LogState, IsLogOf}
use Rattle.tree_runs.specs.Runs.{guide_at, made_by_pass}
use Rattle.tree_runs.specs.Holding.{AreOf, IsPassSwapped, IsPassOver as RunsOver, IsDeepSwapped, IsRotated}
use Rattle.core_moves.specs.declared.held.Held.{Held}
use Rattle.core_moves.specs.Held.{IsOne, is_run_full}
use Rattle.core_moves.specs.Moves.{SwapsPassIn, TurnsLog, with_pass_begun, SwapsDeepIn, RotatesIn}
use Rattle.core_lists.specs.Standing.{HoldsMachine, IsPassAt, IsDeepAt, catalogue_of}
use Rattle.core_lists.proofs.WeighLemmas.{list_a, table_b, list_c1, weight_c1, weight_c2, weight_tables}
use Rattle.core_lists.proofs.Terms.{IsAt}

-- ---- five lists, one by one

pub same_lists : (one other : Lists) → one.b ≡ other.b → one.a ≡ other.a → one.c1 ≡ other.c1 → one.c1x ≡ other.c1x → one.c2 ≡ other.c2 → one ≡ other
same_lists one other b a c1 c1x c2 = grind (arith, common_steps, nat_tests)

-- ---- what a merge that is done has written

pub deep_wrote : (m : Machine) → IsSound m → deep_done m ≡ true → output_of m.merges.deep ≡ settled_entries (folded_over m.lists.c1x m.lists.c2)
deep_wrote m sound done = grind (arith, common_steps, nat_tests, deep_output)

pub pass_wrote : (m : Machine) → IsSound m → pass_done m ≡ true → output_of m.merges.pass ≡ folded_over m.lists.a m.lists.c1
pass_wrote m sound done = grind (arith, common_steps, nat_tests, pass_output)

-- ---- a log that stays

pub log_stays : (tree next : Tree) (log after : LogState) → after ≡ log → next.catalogue.lanes ≡ tree.catalogue.lanes → next.lane_a ≡ tree.lane_a → next.lane_b ≡ tree.lane_b
    → IsLogOf tree log → IsLogOf next after
log_stays tree next log after same roles lane_a lane_b is = subst (IsLogOf next) (sym same) (log_keeps tree next log roles lane_a lane_b is)

-- ---- the deep merge

pub deep_swap_has_lists : (held : Held) (tree next : Tree) (m : Machine) → HoldsMachine held tree m → IsSound m → deep_done m ≡ true → IsDeepSwapped tree next → (swap_deep m).lists ≡ lists_of next
deep_swap_has_lists held tree next m holds sound done swapped = grind (arith, common_steps, nat_tests, same_lists, deep_wrote)

pub deep_swap_lands : (old new : Held) (tree next : Tree) (m : Machine) (file after : List ℕ) → IsAt old tree m file → IsSound m → deep_done m ≡ true
    → SwapsDeepIn old new → IsDeepSwapped tree next → AreOf new.runs next after → IsAt new next (swap_deep m) after
deep_swap_lands old new tree next m file after at sound done moves swapped are_of =
    let holds = at.holds in
    let roles : next.catalogue.lanes ≡ tree.catalogue.lanes =
    ap (λ (k : Catalog). k.lanes) (are_of.catalogue ∙ moves.runs.catalogue) ∙ sym (ap (λ (k : Catalog). k.lanes) at.are_of.catalogue) in
    record {
      are_of = are_of;
      holds = record {
        lists = deep_swap_has_lists old tree next m holds sound done swapped;
        of_log = log_stays tree next old.log new.log moves.log roles swapped.lane_a swapped.lane_b holds.of_log;
        pass = subst (λ p. IsPassAt m.merges.pass p) (sym moves.runs.pass) holds.pass;
        deep = subst (λ p. IsDeepAt None p) (sym moves.runs.deep) tt;
        gears = ap deep_ended holds.gears ∙ sym moves.gears;
        spring = holds.spring ∙ sym moves.spring;
        catalogue = ap committed holds.catalogue ∙ ap catalogue_of (sym moves.runs.catalogue);
        book = ap deep_counted_in holds.book ∙ sym moves.book;
      };
    }

-- ---- the pass

wrote_of : (held : Held) (tree : Tree) (m : Machine) → HoldsMachine held tree m → IsSound m → pass_done m ≡ true
    → output_of m.merges.pass ≡ folded_over (replayed tree.lane_a.entries) (entries_of tree.c1)
wrote_of held tree m holds sound done = pass_wrote m sound done ∙ ap (λ (l : Lists). folded_over l.a l.c1) holds.lists

-- the lists after the pass, where C1 is rotated with it, and where it isn't
ended_lists : (b : Bool) (held : Held) (tree next : Tree) (m : Machine) → HoldsMachine held tree m → IsSound m → pass_done m ≡ true
    → IsPassSwapped b tree next
    → (cond b (rotate (end_pass m)) (end_pass m)).lists ≡ lists_of next
ended_lists b held tree next m h1 h2 h3 h4 = grind (arith, common_steps, nat_tests, same_lists, wrote_of)

-- the code's test of the run is the machine's
same_full : (held : Held) (tree : Tree) (m : Machine) → HoldsMachine held tree m → held.gears.sizes ≡ held.runs.sizes → (made_by_pass held.runs.pass).weight ≡ entries_weight (output_of m.merges.pass)
    → is_run_full held ≡ nat_le (c1_mark m.gears.sizes) (entries_weight (output_of m.merges.pass))
same_full held tree m holds sizes weighs = grind (arith, common_steps, nat_tests)

-- a pass that is done wrote a run that weighs what the machine's output does
none_in : (es : Entries) → is_empty es ≡ true → es ≡ []
none_in es h1 = grind (arith, common_steps, nat_tests)

made_of_done : (held : Held) (tree : Tree) (m : Machine) (file : List ℕ) → IsAt held tree m file → IsSound m → pass_done m ≡ true
    → (made_by_pass held.runs.pass).weight ≡ entries_weight (output_of m.merges.pass)
made_of_done held tree m file at sound done =
    by m.merges.pass held.runs.pass at.holds.pass at.are_of.pass done ∙ sym (ap entries_weight (wrote_of held tree m at.holds sound done))
  where
    taken_all : (cursor : Option Key) (at_key : Option Key) (list es : Entries) → cursor ≡ at_key → list ≡ es → is_empty (above cursor list) ≡ true → up_to at_key es ≡ es
    taken_all cursor at_key list es comes same none =
        all_up_to at_key es (none_in (above at_key es) (sym (ap (λ (k : Option Key). is_empty (above k es)) comes) ∙ sym (ap (λ (l : Entries). is_empty (above cursor l)) same) ∙ none))

    by : (pass : Option Merge) (snow : Option SnowState) → IsPassAt pass snow
        → RunsOver held.runs.sizes file held.runs.space (guide_at held.runs.guides held.runs.tags.pass) snow (replayed tree.lane_a.entries) tree.c1
        → pass_is_done pass m.lists ≡ true
        → (made_by_pass snow).weight ≡ entries_weight (folded_over (replayed tree.lane_a.entries) (entries_of tree.c1))
    by None snow comes over none = absurd (false≢true none)
    by (Some pass) None comes over none = absurd comes
    by (Some pass) (Some snow) comes over none =
        let parts = both_hold (is_empty (above pass.cursor m.lists.a)) (is_empty (above pass.cursor m.lists.c1)) none in
        let of_a = taken_all pass.cursor snow.at m.lists.a (replayed tree.lane_a.entries) comes (list_a held tree m at.holds) parts.0 in
        let of_c1 = taken_all pass.cursor snow.at m.lists.c1 (entries_of tree.c1) comes (list_c1 held tree m file at) parts.1 in
        sym over.run.pushed.held.weight_is
        ∙ ap entries_weight (over.run.pushed.entries_are ∙ over.out_is)
        ∙ ap (λ (es : Entries). entries_weight (folded_over es (up_to snow.at (entries_of tree.c1)))) of_a
        ∙ ap (λ (es : Entries). entries_weight (folded_over (replayed tree.lane_a.entries) es)) of_c1

-- the pass's run, where it is done, weighs as much as the machine's output
pub pass_swap_has_lists : (held : Held) (tree next : Tree) (m : Machine) (file : List ℕ) → IsAt held tree m file → IsOne held → IsSound m → pass_done m ≡ true
    → IsPassSwapped (is_run_full held) tree next → (swap_pass m).lists ≡ lists_of next
pass_swap_has_lists held tree next m file at one sound done swapped = grind (arith, common_steps, nat_tests, same_full, made_of_done, ended_lists)

module _ (old new : Held) (tree next : Tree) (m : Machine) (file after : List ℕ) (at : IsAt old tree m file) (one : IsOne old) (sound : IsSound m) (done : pass_done m ≡ true)
    (moves : SwapsPassIn old new) (turns : TurnsLog old.log new.log) (are_of : AreOf new.runs next after) where
  roles : TurnsRoles tree.catalogue next.catalogue
  roles = grind (arith, common_steps, nat_tests)

  passed : (b : Bool) → (made_by_pass old.runs.pass).weight ≡ entries_weight (output_of m.merges.pass) → new.runs.deep ≡ cond b (Some (deep_started old.runs.tags.deep (made_by_pass old.runs.pass) old.runs.catalogue.c2)) old.runs.deep
      → IsPassSwapped b tree next → new.gears ≡ cond b (rotated (pass_ended old.gears)
      ((made_by_pass old.runs.pass).weight + old.runs.catalogue.c2.weight)) (pass_ended old.gears)
      → HoldsMachine new next (cond b (rotate (end_pass m)) (end_pass m))
  passed true weighs deep swapped gears = record {
    lists = ended_lists true old tree next m at.holds sound done swapped;
    of_log = turns tree next roles swapped.lane_a swapped.lane_b at.holds.of_log;
    pass = subst (λ p. IsPassAt None p) (sym moves.runs.pass) tt;
    deep = subst (λ p. IsDeepAt (Some begun) p) (sym deep) refl;
    gears = ap (λ (g : GearState). rotated (pass_ended g) (entries_weight (output_of m.merges.pass) + entries_weight m.lists.c2)) at.holds.gears
        ∙ ap (λ (n : ℕ). rotated (pass_ended old.gears) (n + entries_weight m.lists.c2)) (sym weighs)
        ∙ ap (λ (n : ℕ). rotated (pass_ended old.gears) ((made_by_pass old.runs.pass).weight + n)) (weight_c2 old tree m file at)
        ∙ sym gears;
    spring = ap entries_weight (table_b old tree m file at) ∙ sym moves.spring;
    catalogue = ap (λ (c : Catalogue). turned (committed c)) at.holds.catalogue ∙ ap catalogue_of (sym moves.runs.catalogue);
    book = ap pass_counted_in at.holds.book ∙ sym moves.book;
  }
  passed false weighs deep swapped gears = record {
    lists = ended_lists false old tree next m at.holds sound done swapped;
    of_log = turns tree next roles swapped.lane_a swapped.lane_b at.holds.of_log;
    pass = subst (λ p. IsPassAt None p) (sym moves.runs.pass) tt;
    deep = subst (λ p. IsDeepAt m.merges.deep p) (sym deep) at.holds.deep;
    gears = ap pass_ended at.holds.gears ∙ sym gears;
    spring = ap entries_weight (table_b old tree m file at) ∙ sym moves.spring;
    catalogue = ap (λ (c : Catalogue). turned (committed c)) at.holds.catalogue ∙ ap catalogue_of (sym moves.runs.catalogue);
    book = ap pass_counted_in at.holds.book ∙ sym moves.book;
  }

pub pass_swap_lands : (old new : Held) (tree next : Tree) (m : Machine) (file after : List ℕ) → IsAt old tree m file → IsOne old → IsSound m → pass_done m ≡ true
    → SwapsPassIn old new → IsPassSwapped (is_run_full old) tree next → TurnsLog old.log new.log
    → AreOf new.runs next after → IsAt new next (swap_pass m) after
pass_swap_lands old new tree next m file after at one sound done moves swapped turns are_of =
    let weighs = made_of_done old tree m file at sound done in
    record {
      are_of = are_of;
      holds = subst (λ (b : Bool). HoldsMachine new next (cond b (rotate (end_pass m)) (end_pass m))) (same_full old tree m at.holds one.gears weighs)
          (passed old new tree next m file after at one sound done moves turns are_of (is_run_full old) weighs moves.runs.deep swapped moves.gears);
    }

-- ---- C1 by itself

pub rotation_has_lists : (held : Held) (tree next : Tree) (m : Machine) → HoldsMachine held tree m → IsRotated tree next → (rotate_alone m).lists ≡ lists_of next
rotation_has_lists held tree next m holds swapped = grind (arith, common_steps, nat_tests)

pub rotation_lands : (old new : Held) (tree next : Tree) (m : Machine) (file after : List ℕ) → IsAt old tree m file
    → RotatesIn old new → IsRotated tree next → AreOf new.runs next after → IsAt new next (rotate_alone m) after
rotation_lands old new tree next m file after at moves swapped are_of =
    let holds = at.holds in
    let roles : next.catalogue.lanes ≡ tree.catalogue.lanes =
    ap (λ (k : Catalog). k.lanes) (are_of.catalogue ∙ moves.runs.catalogue) ∙ sym (ap (λ (k : Catalog). k.lanes) at.are_of.catalogue) in
    record {
      are_of = are_of;
      holds = record {
        lists = rotation_has_lists old tree next m holds swapped;
        of_log = log_stays tree next old.log new.log moves.log roles swapped.lane_a swapped.lane_b holds.of_log;
        pass = subst (λ p. IsPassAt m.merges.pass p) (sym moves.runs.pass) holds.pass;
        deep = subst (λ p. IsDeepAt (Some begun) p) (sym moves.runs.deep) refl;
        gears = ap (λ (g : GearState). rotated g (entries_weight m.lists.c1 + entries_weight m.lists.c2)) holds.gears
            ∙ ap (λ (n : ℕ). rotated old.gears (n + entries_weight m.lists.c2)) (weight_c1 old tree m file at)
            ∙ ap (λ (n : ℕ). rotated old.gears (old.runs.catalogue.c1.weight + n)) (weight_c2 old tree m file at)
            ∙ sym moves.gears;
        spring = holds.spring ∙ sym moves.spring;
        catalogue = ap committed holds.catalogue ∙ ap catalogue_of (sym moves.runs.catalogue);
        book = holds.book ∙ sym moves.book;
      };
    }

-- ---- a pass begins

pub begin_in : (held : Held) (tree : Tree) (m : Machine) (file after : List ℕ) → IsAt held tree m file → AreOf (with_pass_begun held).runs tree after
    → IsAt (with_pass_begun held) tree (begin_pass m) after
begin_in held tree m file after at are_of =
    let holds = at.holds in
    record {
      are_of = are_of;
      holds = record {
        lists = holds.lists;
        of_log = holds.of_log;
        pass = refl;
        deep = holds.deep;
        gears = ap (λ (g : GearState). passing g (entries_weight m.lists.c1) (memory_weight m.lists)) holds.gears
            ∙ ap (λ (n : ℕ). passing held.gears n (memory_weight m.lists)) (weight_c1 held tree m file at)
            ∙ ap (λ (n : ℕ). passing held.gears held.runs.catalogue.c1.weight n) (weight_tables held tree m file at);
        spring = holds.spring;
        catalogue = holds.catalogue;
        book = holds.book;
      };
    }

-- a pass begins: the file stays
pub begin_lands : (held : Held) (tree : Tree) (m : Machine) (file : List ℕ) → IsAt held tree m file → AreOf (with_pass_begun held).runs tree file
    → IsAt (with_pass_begun held) tree (begin_pass m) file
begin_lands held tree m file at are_of = begin_in held tree m file file at are_of
