-- What the opening stands for, and every state that a list of steps leads to.
use Rattle.std.proofs.Common.{◌≡◌, ℕ, zero, suc, ◌≤◌, Bool, cond, true, false, List, [], ◌∷◌, None, refl, ap, sym, subst, ◌∙◌, arith, replicate, append-nil}
use Rattle.std.specs.Prelude.{slice_index_or}
use Rattle.std.specs.FinMap.{find}
use Rattle.std.proofs.lemmas.Bool.{false≢true}
use Rattle.blsm_model.specs.Format.{callers}
use Rattle.blsm_model.specs.declared.key.Key.{Key}
use Rattle.blsm_model.specs.declared.row.Value.{Value}
use Rattle.blsm_model.specs.declared.room.Room.{Room}
use Rattle.blsm_model.specs.Sizes.{Sizes}
use Rattle.blsm_model.specs.Keys.{key_cmp}
use Rattle.blsm_model.specs.Rows.{puts_of}
use Rattle.blsm_model.specs.Values.{value_at}
use Rattle.blsm_model.specs.Histories.{written}
use Rattle.blsm_model.proofs.RowLemmas.{map_of-puts_of, find-map_of}
use Rattle.tree_machine.specs.declared.step.Step.{Step}
use Rattle.record_delta.specs.Entries.{AreSorted, Entries}
use Rattle.tree_machine.specs.Lists.{Lists, value_in, map_in}
use Rattle.tree_machine.specs.Layers.{AreLight, AreLayered, HasWay}
use Rattle.tree_machine.specs.Machine.{Machine, Catalogue, WorkSoFar, no_work, opened}
use Rattle.tree_machine.specs.Steps.{Outcome}
use Rattle.tree_machine.specs.Stands.{Stands, is_failing, WritesFit}
use Rattle.tree_machine.specs.Plays.{may_step, stepped, played_one, played, GoesWell}
use Rattle.tree_machine.proofs.MapLemmas.{find-map_in, sorted_map_in}
use Rattle.tree_machine.proofs.StepLemmas.{step_stands}

-- ---- the opening

pub of_replicate : {A : Type 0} (n i : ℕ) (d : A) → slice_index_or (replicate n d) i d ≡ d
of_replicate zero i d = refl
of_replicate (suc n) zero d = refl
of_replicate (suc n) (suc i) d = of_replicate n i d

abbrev at_opening : Entries → Entries → Lists
at_opening c1 c2 = record { b = []; a = []; c1 = c1; c1x = []; c2 = c2 }

-- The opening stands for the map of its components.
pub opened_stands : (sizes : Sizes) (c1 c2 : Entries) (catalogue : Catalogue) (faults : ℕ) (room : Room) → AreSorted c1 → AreSorted c2 → AreLight c1 → AreLight c2
    → Stands (map_in (record { b = []; a = []; c1 = c1; c1x = []; c2 = c2 })) (opened sizes c1 c2 catalogue faults room)
opened_stands sizes c1 c2 catalogue faults room sorted_1 sorted_2 light_1 light_2 = record {
  sound = record { layered = layered; light = record { b = tt; a = tt; c1 = light_1; c1x = tt; c2 = light_2; pass = tt; deep = tt }; charged = omega arith; pass = (refl, refl, refl, refl, refl); deep = (refl, refl, refl, refl) };
  values = values;
  places = refl;
  held = λ s within. of_replicate callers s None;
  weighs = omega arith;
  told = record {
    legal = tt;
    running = λ none. refl;
    one_why = λ why is. tt;
    works = record {
      places = refl;
      few = λ s. subst (λ (w : WorkSoFar). w.worked ≤ w.turns) (sym (of_replicate callers s no_work)) (omega arith);
      first = λ s fails. absurd (false≢true (subst (λ (w : WorkSoFar). is_failing w.last ≡ true) (of_replicate callers s no_work) fails));
      one = λ s t fails. absurd (false≢true (subst (λ (w : WorkSoFar). is_failing w.last ≡ true) (of_replicate callers s no_work) fails));
    };
  };
}
  where
    m : Machine
    m = opened sizes c1 c2 catalogue faults room

    layered : AreLayered (at_opening c1 c2) (record { pass = None; deep = None })
    layered = record { sorted_b = refl; sorted_a = refl; sorted_c1 = sorted_1; sorted_c1x = refl; sorted_c2 = sorted_2; pass = refl; deep = refl }

    values : (q : Key) → value_in (at_opening c1 c2) q ≡ value_at (written (map_in (at_opening c1 c2)) []) q
    values q =
        sym (find-map_in (at_opening c1 c2) (record { pass = None; deep = None }) layered q)
        ∙ ap (λ pairs. find key_cmp q pairs) (sym (map_of-puts_of (map_in (at_opening c1 c2)) (sorted_map_in (at_opening c1 c2))))
        ∙ find-map_of (puts_of (map_in (at_opening c1 c2))) q
        ∙ ap (λ ws. value_at ws q) (sym (append-nil (puts_of (map_in (at_opening c1 c2)))))

-- ---- a list of steps

pub played_one_stands : (opening : List (Key × Value)) (m : Machine) (made : Step × Outcome) → Stands opening m → HasWay m → WritesFit made.0.kind → Stands opening (played_one m made)
played_one_stands opening m made stands way fit = by (may_step m made.0) refl
  where
    by : (b : Bool) → may_step m made.0 ≡ b → Stands opening (cond b (stepped m made.0 made.1).state m)
    by true is = step_stands opening m made.0.seat made.0.kind made.1 stands is way fit
    by false is = stands

pub played_stands : (opening : List (Key × Value)) (m : Machine) (steps : List (Step × Outcome)) → Stands opening m → GoesWell m steps → Stands opening (played m steps)
played_stands opening m [] stands well = stands
played_stands opening m (made ∷ steps) stands well = played_stands opening (played_one m made) steps (played_one_stands opening m made stands well.0 well.1) well.2
