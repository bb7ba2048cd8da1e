-- An admission's moves, over the lists.
use Rattle.std.specs.Prelude.{is_some, nat_lt, ◌≤◌, length}
use Rattle.std.proofs.lemmas.Grind.{common_steps}
use Rattle.std.proofs.lemmas.Bool.Decides.{nat_tests}
use Rattle.std.proofs.Common.{arith}
use Rattle.std.proofs.Common.{◌≡◌, ◌∙◌, ℕ, ◌+◌, Bool, true, false, cond, not, ◌&&◌, List, ⊎_elim, ap, sym, subst}
use Rattle.blsm_model.specs.Sizes.{Sizes}
use Rattle.blsm_model.specs.declared.history.Reply.TheVariants.{Done}
use Rattle.blsm_model.specs.Histories.{writes_of}
use Rattle.blsm_model.specs.Legal.{total_weight}
use Rattle.record_delta.specs.Several.{entries_of}
use Rattle.gear_sched.specs.Gears.{GearState}
use Rattle.seat_book.specs.State.{noted_in}
use Rattle.tree_machine.specs.Machine.{Machine, in_pass, pass_done, deep_done}
use Rattle.tree_machine.specs.Moves.{begin_pass, swap_deep, swap_pass, take_writes, with_peak, note}
use Rattle.tree_machine.specs.Steps.{deep_swapped, swapped, ready_for, taken_together, pass_swapped, pass_begun_for, Well, admit_fitting}
use Rattle.tree_machine.proofs.CarryLemmas.{deep_swapped_carries, swapped_carries, ready_carries}
use Rattle.tree_file.specs.Tree.{Tree}
use Rattle.tree_log.specs.Log.{IsLogOf}
use Rattle.tree_runs.specs.Holding.{AreOf}
use Rattle.core_moves.specs.declared.held.Held.{Held}
use Rattle.core_moves.specs.Held.{IsOne}
use Rattle.core_pace.proofs.OneLemmas.{each_move_keeps_one}
use Rattle.core_moves.specs.Moves.{SettlesDeep, SettlesPass, with_pass_begun, with_book, begun_in, WritesIn}
use Rattle.core_lists.specs.Admissions.{DeepSettlesTree}
use Rattle.core_lists.proofs.SwapLands.{deep_swap_lands, pass_swap_lands, begin_lands}
use Rattle.core_lists.proofs.WriteLands.{runs_as, takes_all, writes_land, book_lands}
use Rattle.core_lists.proofs.TestLemmas.{tests_agree_with_lists}
use Rattle.pacing.specs.Pace.{Pace}
use Rattle.tree_machine.specs.Layers.{IsSound, HasWay}
use Rattle.core_pace.specs.Pacing.{HasPace}
use Rattle.blsm_model.specs.declared.op.Op.{Op}
use Rattle.core_lists.proofs.Terms.{IsAt, Agrees, PassSettlesTree, Readies, IsReadied, with_appended}

-- a test that doesn't hold fails
fails : (b : Bool) → (b ≡ true → ⊥) → b ≡ false
fails b h1 = grind (arith, common_steps, nat_tests)

-- the same core with another tree, over the same file
pub same_tree : (held new : Held) (tree next : Tree) (m : Machine) (file after : List ℕ) → new ≡ held → next ≡ tree → IsAt held tree m file
    → AreOf new.runs next after → IsAt new next m after
same_tree held new tree next m file after same stays at are_of =
    let there : IsAt held next m file = subst (λ (t : Tree). IsAt held t m file) (sym stays) at in
    let here : IsAt new next m file = subst (λ (h : Held). IsAt h next m file) (sym same) there in
    record { are_of = are_of; holds = here.holds }

pub deep_settling_lands : (old new : Held) (tree next : Tree) (m : Machine) (pace : Pace) (file after : List ℕ) → IsAt old tree m file → IsSound m → HasPace old pace
    → SettlesDeep old new → DeepSettlesTree old tree next → AreOf new.runs next after → IsAt new next (deep_swapped m) after
deep_settling_lands old new tree next m pace file after at sound has settles trees are_of =
    let agrees : Agrees old m = tests_agree_with_lists old tree m file pace at sound has in
    ⊎_elim (λ done.
    let is : deep_done m ≡ true = agrees.deep_is_done.0 done.0 in
    subst (λ (b : Bool). IsAt new next (cond b (swap_deep m) m) after) (sym is) (deep_swap_lands old new tree next m file after at sound is done.1 (trees.done done.0) are_of))
    (λ rests.
    let is : deep_done m ≡ false = fails (deep_done m) (λ yes. rests.0 (agrees.deep_is_done.1 yes)) in
    subst (λ (b : Bool). IsAt new next (cond b (swap_deep m) m) after) (sym is) (same_tree old new tree next m file after rests.1 (trees.rests rests.0) at are_of))
    settles

pub pass_settling_lands : (old new : Held) (tree next : Tree) (m : Machine) (pace : Pace) (file after : List ℕ) → IsAt old tree m file → IsSound m → HasPace old pace → IsOne old
    → SettlesPass old new → PassSettlesTree old new tree next → AreOf new.runs next after → IsAt new next (pass_swapped m) after
pass_settling_lands old new tree next m pace file after at sound has one settles trees are_of =
    let agrees : Agrees old m = tests_agree_with_lists old tree m file pace at sound has in
    ⊎_elim (λ done.
    let is : pass_done m ≡ true = agrees.pass_is_done.0 done.0 in
    subst (λ (b : Bool). IsAt new next (cond b (swap_pass m) m) after) (sym is)
    (pass_swap_lands old new tree next m file after at one sound is done.1 (trees.done done.0) (trees.turns done.0) are_of))
    (λ rests.
    let is : pass_done m ≡ false = fails (pass_done m) (λ yes. rests.0 (agrees.pass_is_done.1 yes)) in
    subst (λ (b : Bool). IsAt new next (cond b (swap_pass m) m) after) (sym is) (same_tree old new tree next m file after rests.1 (trees.rests rests.0) at are_of))
    settles

-- a pass begins where it is due: the file stays
pub beginning_lands : (w : ℕ) (held : Held) (tree : Tree) (m : Machine) (file : List ℕ) → IsAt held tree m file → IsSound m → held.gears.sizes ≡ held.runs.sizes
    → AreOf (begun_in w held).runs tree file → IsAt (begun_in w held) tree (pass_begun_for w m) file
beginning_lands w held tree m file at sound sizes are_of =
    subst (λ (b : Bool). IsAt (cond test (with_pass_begun held) held) tree (cond b (begin_pass m) m) file) (sym same) (by test are_of)
  where
    test : Bool
    test = not (is_some held.runs.pass) && nat_lt held.runs.sizes.low (held.spring + w)

    runs : in_pass m ≡ is_some held.runs.pass
    runs = runs_as m held sound at.holds.pass

    same : (not (in_pass m) && nat_lt m.gears.sizes.low (m.spring + w)) ≡ test
    same =
        ap (λ (b : Bool). not b && nat_lt m.gears.sizes.low (m.spring + w)) runs
        ∙ ap (λ (s : Sizes). not (is_some held.runs.pass) && nat_lt s.low (m.spring + w)) (ap (λ (g : GearState). g.sizes) at.holds.gears ∙ sizes)
        ∙ ap (λ (n : ℕ). not (is_some held.runs.pass) && nat_lt held.runs.sizes.low (n + w)) at.holds.spring

    by : (b : Bool) → AreOf (cond b (with_pass_begun held) held).runs tree file
        → IsAt (cond b (with_pass_begun held) held) tree (cond b (begin_pass m) m) file
    by true of = begin_lands held tree m file at of
    by false of = at

-- the swaps leave one geometry
one_after_deep : (old new : Held) → SettlesDeep old new → IsOne old → IsOne new
one_after_deep old new settles one =
    ⊎_elim (λ done. (each_move_keeps_one old new one).deep_swap done.1) (λ rests. subst IsOne (sym rests.1) one) settles

one_after_pass : (old new : Held) → SettlesPass old new → IsOne old → IsOne new
one_after_pass old new settles one =
    ⊎_elim (λ done. (each_move_keeps_one old new one).pass_swap done.1) (λ rests. subst IsOne (sym rests.1) one) settles

-- The numbers before each swap are some pace's.
pub readying_lands : (w : ℕ) (old settled ready : Held) (tree middle next : Tree) (m : Machine) (before after : Pace) (file between last : List ℕ) → IsAt old tree m file → IsSound m → HasWay m
    → IsOne old → HasPace old before → HasPace settled after → Readies w old settled ready tree middle next between last → IsReadied w settled ready middle next m between last
readying_lands w old settled ready tree middle next m before after file between last at sound way one has then_has moves =
    let then_one = one_after_deep old settled moves.deep one in
    let first = deep_settling_lands old settled tree middle m before file between at sound has moves.deep moves.deep_tree moves.after_deep in
    let second = pass_settling_lands settled ready middle next (deep_swapped m) after between last first (deep_swapped_carries m sound).sound then_has then_one moves.pass moves.pass_tree moves.after_pass in
    record {
      after_deep = first;
      after_pass = second;
      begun = beginning_lands w ready next (swapped m) last second (swapped_carries m sound way).sound (one_after_pass settled ready moves.pass then_one).gears moves.begun;
    }

-- The admission is the machine's own, where all went well.
pub admission_lands : (seat : ℕ) (op : Op) (begun written new : Held) (tree : Tree) (m : Machine) (file after : List ℕ) → 1 ≤ length (writes_of op)
    → IsSound m → HasWay m
    → IsAt begun tree (ready_for (total_weight (writes_of op)) m) file → WritesIn seat (entries_of (writes_of op)) begun written
    → new ≡ with_book (noted_in seat op Done written.book) written
    → (IsLogOf tree begun.log → IsLogOf (with_appended (writes_of op) begun tree) written.log)
    → AreOf written.runs (with_appended (writes_of op) begun tree) after
    → IsAt new (with_appended (writes_of op) begun tree) (admit_fitting m seat op (total_weight (writes_of op)) Well).state after
admission_lands seat op begun written new tree m file after some sound way at moves noted of_log are_of =
    let w = total_weight (writes_of op) in
    let ready = ready_for w m in
    let next = with_appended (writes_of op) begun tree in
    let book = noted_in seat op Done written.book in
    let wrote = writes_land seat (writes_of op) begun written tree ready file after at (ready_carries w m sound way).sound moves of_log are_of in
    let entered = (book_lands written next (with_peak (take_writes seat (writes_of op) ready)) after wrote).note seat op Done in
    subst (λ (h : Held). IsAt h next (note seat op Done (with_peak (taken_together seat (writes_of op) ready))) after) (sym noted)
    (subst (λ (n : Machine). IsAt (with_book book written) next (note seat op Done (with_peak n)) after)
    (sym (takes_all seat (writes_of op) ready some)) entered)
