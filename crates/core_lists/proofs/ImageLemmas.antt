-- What the images show of each swap and rotation.
use Rattle.std.proofs.Common.{◌≡◌, ◌∙◌, ℕ, Bool, true, false, cond, ◌&&◌, List, [], Option, None, ⊎_elim, refl, ap, sym, subst, arith}
use Rattle.std.proofs.lemmas.Grind.{common_steps}
use Rattle.std.proofs.lemmas.Bool.Decides.{nat_tests}
use Rattle.std.proofs.lemmas.Bool.{false≢true}
use Rattle.blsm_model.specs.Histories.{written}
use Rattle.blsm_model.specs.Rows.{map_of}
use Rattle.blsm_model.specs.declared.key.Key.{Key}
use Rattle.blsm_model.specs.declared.row.Value.{Value}
use Rattle.gated_log.specs.Lane.{Lane}
use Rattle.record_delta.specs.Entries.{entries_weight}
use Rattle.record_delta.specs.Replays.{ReplaysWithin}
use Rattle.page_file.specs.Component.{RunPage, entries_of}
use Rattle.snow_merge.specs.Pass.{SnowState}
use Rattle.deep_merge.specs.Merge.{DeepState}
use Rattle.pacing.specs.Pace.{Pace, pass_done as pace_pass_done}
use Rattle.pacing.specs.Steps.{deep_settled}
use Rattle.pacing.specs.Fronts.{Fronts}
use Rattle.tree_machine.specs.Lists.{Lists, map_in}
use Rattle.tree_machine.specs.Merges.{Merge}
use Rattle.tree_machine.specs.Layers.{IsSound, IsDeepOver}
use Rattle.tree_machine.specs.Machine.{Machine, pass_done, deep_done}
use Rattle.tree_machine.specs.Moves.{swap_deep, swap_pass, rotate_alone}
use Rattle.tree_machine.specs.Steps.{deep_swapped, swapped}
use Rattle.tree_machine.proofs.CarryLemmas.{deep_swapped_carries, rotate_alone_carries}
use Rattle.tree_machine.proofs.MapLemmas.{map_in_is}
use Rattle.paced_tree.specs.Numbers.{pace_of}
use Rattle.paced_tree.proofs.Moves.{pass_test, settled_pace}
use Rattle.tree_file.specs.Tree.{Tree, FitsSizes, HoldsTree, lists_of, components_weight}
use Rattle.tree_file.specs.Places.{HoldsEither}
use Rattle.tree_runs.specs.Holding.{IsPassSwapped, IsDeepSwapped, IsRotated}
use Rattle.core_moves.specs.declared.held.Held.{Held}
use Rattle.core_moves.specs.Held.{IsPassDone, is_run_full, IsDeepDone}
use Rattle.core_lists.specs.Standing.{IsPassAt, IsDeepAt}
use Rattle.core_lists.specs.Shown.{HasFronts, ShowsWhole, WeighsWithin}
use Rattle.core_lists.specs.Admissions.{DeepSettlesTree}
use Rattle.core_lists.proofs.SwapLands.{deep_swap_has_lists, pass_swap_has_lists, rotation_has_lists}
use Rattle.core_lists.proofs.TestLemmas.{tests_agree_with_lists}
use Rattle.core_lists.proofs.ShownLemmas.{steps_show, shown_fits, fronts_stay, fronts_turn}
use Rattle.core_lists.proofs.ShowingLemmas.{whole_of, standing_shows, settled_shows, swapped_shows}
use Rattle.core_lists.proofs.Terms.{Agrees, PassSettlesTree, SettledIn, StandsIn}
use Rattle.pacing.proofs.Terms.{fronts_turned, fronts_ready}

-- ---- the deep merge

pub settled_fronts : (opening : List (Key × Value)) (old : Held) (m : Machine) (fronts : Fronts) (tree middle : Tree) (file : List ℕ) → StandsIn opening old m fronts tree file → DeepSettlesTree old tree middle
    → HasFronts middle (deep_swapped m).lists fronts
settled_fronts opening old m fronts tree middle file is moves = by (deep_done m) refl
  where
    agrees : Agrees old m
    agrees = tests_agree_with_lists old tree m file is.numbers is.at is.paced.stands.sound is.has

    by : (b : Bool) → deep_done m ≡ b → HasFronts middle (cond b (swap_deep m) m).lists fronts
    by true done =
        let swapped = moves.done (agrees.deep_is_done.1 done) in
        fronts_stay tree middle m.lists (swap_deep m).lists fronts swapped.lane_a swapped.lane_b refl refl is.lanes
    by false undone =
        let stays : middle ≡ tree = moves.rests (λ over. false≢true (sym undone ∙ agrees.deep_is_done.0 over)) in
        subst (λ (t : Tree). HasFronts t m.lists fronts) (sym stays) is.lanes

-- While the deep merge is swapped in, each image shows the history.
pub deep_swap_images : (opening : List (Key × Value)) (held : Held) (m : Machine) (fronts : Fronts) (tree next : Tree) (file image : List ℕ) → StandsIn opening held m fronts tree file
    → IsDeepDone held → IsDeepSwapped tree next → HoldsEither m.gears.sizes tree next image → ShowsWhole opening m image
deep_swap_images opening held m fronts tree next file image is done swapped either =
    let agrees = tests_agree_with_lists held tree m file is.numbers is.at is.paced.stands.sound is.has in
    let test : deep_done m ≡ true = agrees.deep_is_done.0 done in
    let lists : (deep_swapped m).lists ≡ lists_of next = subst (λ (b : Bool). (cond b (swap_deep m) m).lists ≡ lists_of next) (sym test)
    (deep_swap_has_lists held tree next m is.at.holds is.paced.stands.sound test swapped) in
    let moves : DeepSettlesTree held tree next = record { done = λ over. swapped; rests = λ never. absurd (never done) } in
    ⊎_elim (standing_shows opening m fronts tree image is.paced is.within is.at.holds.lists is.lanes)
    (settled_shows opening m fronts next image is.paced is.within lists (settled_fronts opening held m fronts tree next file is moves))
    either

-- ---- the pass

-- the pass's swap drops table A, and empties table B
pub swapped_tables : (m : Machine) → ((swap_pass m).lists.a ≡ m.lists.b) × ((swap_pass m).lists.b ≡ [])
swapped_tables m = grind (arith, common_steps, nat_tests)

module _ (opening : List (Key × Value)) (old settled : Held) (m : Machine) (fronts : Fronts) (tree middle : Tree) (file between : List ℕ)
    (is : SettledIn opening old settled m fronts tree middle file between) where
  sound : IsSound (deep_swapped m)
  sound = (deep_swapped_carries m is.stood.paced.stands.sound).sound

  same : pace_of (deep_swapped m) ≡ deep_settled (pace_of m)
  same = settled_pace m is.stood.paced.stands.sound

  agrees : Agrees settled (deep_swapped m)
  agrees = tests_agree_with_lists settled middle (deep_swapped m) between is.numbers is.at sound is.has

  lanes : HasFronts middle (deep_swapped m).lists fronts
  lanes = settled_fronts opening old m fronts tree middle file is.stood is.moves

  test : pass_done (deep_swapped m) ≡ ((deep_settled (pace_of m)).gears.pass && pace_pass_done (deep_settled (pace_of m)))
  test = pass_test (deep_swapped m) sound ∙ ap (λ (q : Pace). q.gears.pass && pace_pass_done q) same

  fronts_by_test : (next : Tree) → (IsPassDone settled → IsPassSwapped (is_run_full settled) middle next) → ((IsPassDone settled → ⊥) → next ≡ middle)
      → HasFronts next (swapped m).lists (fronts_ready (pace_of m) fronts)
  fronts_by_test next done rests = subst (λ (b : Bool). HasFronts next (swapped m).lists (cond b (fronts_turned fronts) fronts)) test (by (pass_done (deep_swapped m)) refl)
    where
      by : (b : Bool) → pass_done (deep_swapped m) ≡ b → HasFronts next (cond b (swap_pass (deep_swapped m)) (deep_swapped m)).lists (cond b (fronts_turned fronts) fronts)
      by true over =
          let turned = done (agrees.pass_is_done.1 over) in
          let tables = swapped_tables (deep_swapped m) in
          fronts_turn middle next (deep_swapped m).lists (swap_pass (deep_swapped m)).lists fronts turned.lane_a turned.lane_b tables.0 tables.1 lanes
      by false undone =
          let stays : next ≡ middle = rests (λ over. false≢true (sym undone ∙ agrees.pass_is_done.0 over)) in
          subst (λ (t : Tree). HasFronts t (deep_swapped m).lists fronts) (sym stays) lanes

  shows_either : (next : Tree) (image : List ℕ) → IsPassDone settled → IsPassSwapped (is_run_full settled) middle next
      → HoldsEither m.gears.sizes middle next image → ShowsWhole opening m image
  shows_either next image done turned either =
      let over : pass_done (deep_swapped m) ≡ true = agrees.pass_is_done.0 done in
      let lists : (swapped m).lists ≡ lists_of next = subst (λ (b : Bool). (cond b (swap_pass (deep_swapped m)) (deep_swapped m)).lists ≡ lists_of next) (sym over)
      (pass_swap_has_lists settled middle next (deep_swapped m) between is.at is.one sound over turned) in
      ⊎_elim (settled_shows opening m fronts middle image is.stood.paced is.stood.within is.at.holds.lists lanes)
      (swapped_shows opening m fronts next image is.stood.paced is.stood.within lists (fronts_by_test next (λ yes. turned) (λ never. absurd (never done))))
      either

pub ready_fronts : (opening : List (Key × Value)) (old settled ready : Held) (m : Machine) (fronts : Fronts) (tree middle next : Tree) (file between : List ℕ)
    → SettledIn opening old settled m fronts tree middle file between → PassSettlesTree settled ready middle next → HasFronts next (swapped m).lists (fronts_ready (pace_of m) fronts)
ready_fronts opening old settled ready m fronts tree middle next file between is moves = fronts_by_test opening old settled m fronts tree middle file between is next moves.done moves.rests

-- While the pass is swapped in, each image does, too.
pub pass_swap_images : (opening : List (Key × Value)) (old settled : Held) (m : Machine) (fronts : Fronts) (tree middle next : Tree) (file between image : List ℕ)
    → SettledIn opening old settled m fronts tree middle file between → IsPassDone settled → IsPassSwapped (is_run_full settled) middle next
    → HoldsEither m.gears.sizes middle next image → ShowsWhole opening m image
pass_swap_images opening old settled m fronts tree middle next file between image is done turned either =
    shows_either opening old settled m fronts tree middle file between is next image done turned either

-- ---- C1 by itself

no_pass : (pass : Option Merge) (snow : Option SnowState) → IsPassAt pass snow → snow ≡ None → pass ≡ None
no_pass pass snow h1 h2 = grind (arith, common_steps, nat_tests)

no_deep : (deep : Option Merge) (merge : Option DeepState) → IsDeepAt deep merge → merge ≡ None → deep ≡ None
no_deep deep merge h1 h2 = grind (arith, common_steps, nat_tests)

-- And while C1 is rotated by itself: no merge may run then.
pub rotation_images : (opening : List (Key × Value)) (held : Held) (m : Machine) (fronts : Fronts) (tree next : Tree) (file image : List ℕ) → StandsIn opening held m fronts tree file
    → held.runs.pass ≡ None → held.runs.deep ≡ None → IsRotated tree next → HoldsEither m.gears.sizes tree next image → ShowsWhole opening m image
rotation_images opening held m fronts tree next file image is rests unmerged rotated either =
    ⊎_elim (standing_shows opening m fronts tree image is.paced is.within is.at.holds.lists is.lanes) (λ holds. whole_of opening m image (record { tree = next; holds = holds; fits = fits; map_is = map_is }) (weighs_within holds)) either
  where
    pass_none : m.merges.pass ≡ None
    pass_none = no_pass m.merges.pass held.runs.pass is.at.holds.pass rests

    deep_none : m.merges.deep ≡ None
    deep_none = no_deep m.merges.deep held.runs.deep is.at.holds.deep unmerged

    lists : (rotate_alone m).lists ≡ lists_of next
    lists = rotation_has_lists held tree next m is.at.holds rotated

    map_is : map_in (lists_of next) ≡ map_of (written opening m.book.entries)
    map_is =
        let carries = rotate_alone_carries m is.paced.stands.sound pass_none deep_none in
        ap map_in (sym lists) ∙ map_in_is (rotate_alone m).lists (rotate_alone m).merges (written opening m.book.entries) carries.sound.layered (λ key. carries.values key ∙ is.paced.stands.values key)

    old_fits : FitsSizes m.gears.sizes tree
    old_fits = shown_fits opening m fronts tree (steps_show opening m fronts tree is.paced is.at.holds.lists is.within is.lanes)

    -- C1' has nothing
    empty : entries_of tree.c1x ≡ []
    empty = sym (ap (λ (l : Lists). l.c1x) is.at.holds.lists) ∙ subst (λ (p : Option Merge). IsDeepOver m.lists p) deep_none is.paced.stands.sound.layered.deep

    weighs : (one other : List RunPage) → one ≡ other → entries_weight (entries_of one) ≡ entries_weight (entries_of other)
    weighs one other same = ap (λ (pages : List RunPage). entries_weight (entries_of pages)) same

    same_weight : components_weight next ≡ components_weight tree
    same_weight = omega (arith, weighs next.c1 [] rotated.c1, weighs next.c1x tree.c1 rotated.c1x, weighs next.c2 tree.c2 rotated.c2, ap entries_weight empty)

    fits : FitsSizes m.gears.sizes next
    fits = record {
      mark = omega (arith, old_fits.mark, weighs next.c1 [] rotated.c1);
      full = omega (arith, old_fits.full, same_weight);
      replays = subst (λ (n : ℕ). ReplaysWithin m.gears.sizes n next.lane_a.entries next.lane_b.entries) (sym same_weight)
          (subst (λ (l : Lane). ReplaysWithin m.gears.sizes (components_weight tree) l.entries next.lane_b.entries) (sym rotated.lane_a)
          (subst (λ (l : Lane). ReplaysWithin m.gears.sizes (components_weight tree) tree.lane_a.entries l.entries)
          (sym rotated.lane_b) old_fits.replays));
    }

    weighs_within : HoldsTree m.gears.sizes next image → WeighsWithin m m.book.entries image
    weighs_within holds = grind (arith, common_steps, nat_tests)
