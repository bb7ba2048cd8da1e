-- The tests of the code are the machine's, and its weights those of the lists.
use Rattle.std.proofs.Common.{◌≡◌, ◌∙◌, ◌↔◌, ℕ, ◌+◌, Bool, true, false, cond, not, ◌||◌, List, refl, ap, sym, arith}
use Rattle.std.specs.Prelude.{is_some, ◌==◌}
use Rattle.std.proofs.lemmas.Bool.{eqb-true, eq-eqb}
use Rattle.record_delta.specs.Entries.{entries_weight}
use Rattle.gear_sched.specs.Gears.{GearState, forgiven}
use Rattle.pacing.specs.Pace.{Pace}
use Rattle.tree_machine.specs.Layers.{IsSound}
use Rattle.tree_machine.specs.Lists.{memory_weight}
use Rattle.tree_machine.specs.Machine.{Machine, in_pass, in_deep, charge, memory_charge, pass_done, deep_done}
use Rattle.tree_machine.proofs.NumberLemmas.{pass_taken_when_done, pass_done_when_taken, pass_runs, deep_taken_when_done, deep_done_when_taken, deep_runs}
use Rattle.paced_tree.proofs.Moves.{input_is}
use Rattle.tree_file.specs.Tree.{Tree}
use Rattle.tree_log.specs.Log.{weight_of_tables}
use Rattle.tree_runs.specs.Runs.{left_for_pass, left_for_deep}
use Rattle.core_moves.specs.declared.held.Held.{Held}
use Rattle.core_moves.specs.Held.{IsPassDone, IsDeepDone, is_pass_over, is_deep_over, charge_in}
use Rattle.core_pace.specs.Pacing.{HasPace}
use Rattle.core_lists.proofs.WeighLemmas.{weight_a, weight_c1, weight_c1x, weight_c2, weight_tables}
use Rattle.tree_machine.specs.Steps.{forgive}
use Rattle.core_moves.specs.Moves.{with_debts_forgiven}
use Rattle.core_lists.proofs.Terms.{IsAt, Agrees}

module _ (held : Held) (tree : Tree) (m : Machine) (file : List ℕ) (pace : Pace) (at : IsAt held tree m file) (sound : IsSound m) (has : HasPace held pace) where
  gears_are : pace.gears ≡ m.gears
  gears_are = has.gears ∙ sym at.holds.gears

  pub runs_pass : in_pass m ≡ is_some held.runs.pass
  runs_pass = ap (λ (g : GearState). g.pass) (sym gears_are) ∙ has.in_pass

  pub runs_deep : in_deep m ≡ is_some held.runs.deep
  runs_deep = ap (λ (g : GearState). g.deep) (sym gears_are) ∙ has.in_deep

  -- what is left of the pass's inputs, by the code's numbers, and what was taken, are all of them
  pass_adds : is_some held.runs.pass ≡ true → m.gears.pass_taken + left_for_pass held.runs.pass held.log.a.entries ≡ entries_weight m.lists.a + entries_weight m.lists.c1
  pass_adds runs =
      omega (
        arith,
        has.pass_left runs,
        ap (λ (g : GearState). g.pass_taken) gears_are,
        has.a,
        has.c1,
        weight_a held tree m file at,
        weight_c1 held tree m file at,
      )

  deep_adds : is_some held.runs.deep ≡ true → m.gears.deep_taken + left_for_deep held.runs.deep ≡ entries_weight m.lists.c1x + entries_weight m.lists.c2
  deep_adds runs =
      omega (
        arith,
        has.deep_left runs,
        ap (λ (g : GearState). g.deep_taken) gears_are,
        has.c1x,
        has.c2,
        weight_c1x held tree m file at,
        weight_c2 held tree m file at,
      )

  pub pass_done_by : is_some held.runs.pass ≡ true → left_for_pass held.runs.pass held.log.a.entries ≡ 0 → pass_done m ≡ true
  pass_done_by runs none = pass_done_when_taken m sound (runs_pass ∙ runs) (omega (arith, pass_adds runs, none))

  pub pass_none_left : pass_done m ≡ true → left_for_pass held.runs.pass held.log.a.entries ≡ 0
  pass_none_left done = omega (arith, pass_adds (sym runs_pass ∙ pass_runs m sound done), pass_taken_when_done m sound done)

  pub deep_done_by : is_some held.runs.deep ≡ true → left_for_deep held.runs.deep ≡ 0 → deep_done m ≡ true
  deep_done_by runs none = deep_done_when_taken m sound (runs_deep ∙ runs) (omega (arith, deep_adds runs, none, input_is m sound (runs_deep ∙ runs)))

  pub deep_none_left : deep_done m ≡ true → left_for_deep held.runs.deep ≡ 0
  deep_none_left done =
      omega (arith, deep_adds (sym runs_deep ∙ deep_runs m sound done), deep_taken_when_done m sound done, input_is m sound (deep_runs m sound done))

  pub pass_tests : IsPassDone held ↔ (pass_done m ≡ true)
  pass_tests = (
    λ is. pass_done_by is.0 is.1,
    λ done. (sym runs_pass ∙ pass_runs m sound done, pass_none_left done),
  )

  pub deep_tests : IsDeepDone held ↔ (deep_done m ≡ true)
  deep_tests = (
    λ is. deep_done_by is.0 is.1,
    λ done. (sym runs_deep ∙ deep_runs m sound done, deep_none_left done),
  )

  -- done or absent
  over : (runs done none : Bool) → (runs ≡ true → none ≡ true → done ≡ true) → (done ≡ true → none ≡ true) → (not runs || done) ≡ (not runs || none)
  over false done none p q = refl
  over true true none p q = sym (q refl)
  over true false true p q = p refl refl
  over true false false p q = refl

  pub pass_is_over : (not (in_pass m) || pass_done m) ≡ is_pass_over held
  pass_is_over =
      ap (λ (b : Bool). not b || pass_done m) runs_pass
      ∙ over (is_some held.runs.pass) (pass_done m) (left_for_pass held.runs.pass held.log.a.entries == 0)
      (λ runs none. pass_done_by runs (eqb-true (left_for_pass held.runs.pass held.log.a.entries) 0 none))
      (λ done. eq-eqb (left_for_pass held.runs.pass held.log.a.entries) 0 (pass_none_left done))

  pub deep_is_over : (not (in_deep m) || deep_done m) ≡ is_deep_over held
  deep_is_over =
      ap (λ (b : Bool). not b || deep_done m) runs_deep
      ∙ over (is_some held.runs.deep) (deep_done m) (left_for_deep held.runs.deep == 0)
      (λ runs none. deep_done_by runs (eqb-true (left_for_deep held.runs.deep) 0 none))
      (λ done. eq-eqb (left_for_deep held.runs.deep) 0 (deep_none_left done))

  memory_is : memory_charge m ≡ cond (is_some held.runs.pass) (held.gears.pass_memory + held.gears.pass_admitted) (weight_of_tables held.log)
  memory_is =
      ap (λ (b : Bool). cond b (m.gears.pass_memory + m.gears.pass_admitted) (memory_weight m.lists)) runs_pass
      ∙ ap (λ (g : GearState). cond (is_some held.runs.pass) (g.pass_memory + g.pass_admitted) (memory_weight m.lists)) at.holds.gears
      ∙ ap (cond (is_some held.runs.pass) (held.gears.pass_memory + held.gears.pass_admitted)) (weight_tables held tree m file at)

  pub same_charge : charge m ≡ charge_in held
  same_charge = omega (arith, weight_c1 held tree m file at, weight_c1x held tree m file at, weight_c2 held tree m file at, memory_is)

pub tests_agree_with_lists : (held : Held) (tree : Tree) (m : Machine) (file : List ℕ) (pace : Pace) → IsAt held tree m file → IsSound m → HasPace held pace → Agrees held m
tests_agree_with_lists held tree m file pace at sound has = record {
  pass_runs = runs_pass held tree m file pace at sound has;
  deep_runs = runs_deep held tree m file pace at sound has;
  pass_is_done = pass_tests held tree m file pace at sound has;
  deep_is_done = deep_tests held tree m file pace at sound has;
  memory = weight_tables held tree m file at;
  table = weight_a held tree m file at;
  c1 = weight_c1 held tree m file at;
  c1x = weight_c1x held tree m file at;
  c2 = weight_c2 held tree m file at;
  charge_is = same_charge held tree m file pace at sound has;
}

-- The seat's debts that may be forgiven are.
pub forgiving_lands : (seat : ℕ) (held : Held) (tree : Tree) (m : Machine) (file : List ℕ) (pace : Pace) → IsAt held tree m file → IsSound m → HasPace held pace
    → IsAt (with_debts_forgiven seat held) tree (forgive seat m) file
forgiving_lands seat held tree m file pace at sound has = record {
  are_of = at.are_of;
  holds = record {
    lists = at.holds.lists;
    of_log = at.holds.of_log;
    pass = at.holds.pass;
    deep = at.holds.deep;
    gears = ap (λ (g : GearState). forgiven g seat (not (in_pass m) || pass_done m) (not (in_deep m) || deep_done m)) at.holds.gears
        ∙ ap (λ (b : Bool). forgiven held.gears seat b (not (in_deep m) || deep_done m)) (pass_is_over held tree m file pace at sound has)
        ∙ ap (λ (b : Bool). forgiven held.gears seat (is_pass_over held) b) (deep_is_over held tree m file pace at sound has);
    spring = at.holds.spring;
    catalogue = at.holds.catalogue;
    book = at.holds.book;
  };
}
