-- Each image that holds the tree reads as the map of the history.
use Rattle.std.proofs.Common.{◌≡◌, ◌∙◌, true, false, refl, ap, sym, subst, arith}
use Rattle.std.proofs.lemmas.Grind.{common_steps}
use Rattle.std.proofs.lemmas.Bool.Decides.{nat_tests}
use Rattle.blsm_model.specs.Book.{Book}
use Rattle.blsm_model.specs.Histories.{written}
use Rattle.blsm_model.specs.Values.{value_at}
use Rattle.pacing.proofs.Admissions.{deep_settled_kept, ready_kept}
use Rattle.pacing.proofs.Fronts.{moves_fronts}
use Rattle.tree_machine.specs.Lists.{map_in, Lists}
use Rattle.tree_machine.proofs.MapLemmas.{map_in_is}
use Rattle.tree_machine.proofs.CarryLemmas.{deep_swapped_carries, ready_carries}
use Rattle.paced_tree.proofs.Moves.{settled_pace, ready_pace}
use Rattle.paced_tree.specs.Numbers.{pace_of}
use Rattle.paced_tree.proofs.Terms.{most_on_way, with_numbers_of}
use Rattle.pacing.specs.Kept.{IsPaced}
use Rattle.paced_tree.proofs.Promises.{has_way}
use Rattle.paced_tree.proofs.LaneLemmas.{lane_grows}
use Rattle.core_lists.specs.Shown.{HasFronts}
use Rattle.std.specs.Prelude.{◌≡◌, List, ℕ, Bool, []}
use Rattle.blsm_model.specs.declared.key.Key.{Key}
use Rattle.blsm_model.specs.declared.row.Value.{Value}
use Rattle.pacing.specs.Pace.{Pace, Written}
use Rattle.pacing.specs.Fronts.{Fronts, AreFronts}
use Rattle.tree_machine.specs.Machine.{Machine}
use Rattle.paced_tree.specs.Kept.{IsPacedTree}
use Rattle.gated_log.specs.Lane.{no_lane}
use Rattle.tree_file.specs.Tree.{Tree, lists_of, FitsSizes, HoldsTree, ReadsAsMap}
use Rattle.tree_machine.specs.Steps.{deep_swapped, ready_for}
use Rattle.blsm_model.specs.Rows.{map_of}
use Rattle.record_delta.specs.Entries.{Entries}
use Rattle.tree_log.specs.Log.{appended}
use Rattle.pacing.proofs.Terms.{fronts_ready, fronts_turned, fronts_written}
use Rattle.core_lists.proofs.Terms.{IsShown, joined, table_of}

-- after each step
pub steps_show : (opening : List (Key × Value)) (m : Machine) (fronts : Fronts) (tree : Tree) → IsPacedTree opening m → m.lists ≡ lists_of tree → AreFronts (pace_of m) fronts
    → HasFronts tree m.lists fronts → IsShown opening m fronts tree
steps_show opening m fronts tree is lists within lanes = record { lists = lists; layered = is.stands.sound.layered; values = is.stands.values; paced = is.paced; within = within; lanes = lanes }

-- within an admission, after the deep merge was swapped in where it is done,
pub deep_swap_shows : (opening : List (Key × Value)) (m : Machine) (fronts : Fronts) (next : Tree) → IsPacedTree opening m → AreFronts (pace_of m) fronts → (deep_swapped m).lists ≡ lists_of next
    → HasFronts next (deep_swapped m).lists fronts → IsShown opening (deep_swapped m) fronts next
deep_swap_shows opening m fronts next is within lists lanes =
    let carries = deep_swapped_carries m is.stands.sound in
    record {
      lists = lists;
      layered = carries.sound.layered;
      values = λ key. carries.values key ∙ is.stands.values key ∙ ap (λ (b : Book). value_at (written opening b.entries) key) (sym carries.book);
      paced = subst IsPaced (sym (settled_pace m is.stands.sound)) (deep_settled_kept (pace_of m) is.paced).kept;
      within = subst (λ (p : Pace). AreFronts p fronts) (sym (settled_pace m is.stands.sound)) (moves_fronts (pace_of m) 0 fronts is.paced within).0;
      lanes = lanes;
    }

-- and when the write is to be appended
pub ready_shows : (opening : List (Key × Value)) (m : Machine) (fronts : Fronts) (weight : ℕ) (next : Tree) → IsPacedTree opening m → AreFronts (pace_of m) fronts
    → (ready_for weight m).lists ≡ lists_of next → HasFronts next (ready_for weight m).lists (fronts_ready (pace_of m) fronts)
    → IsShown opening (ready_for weight m) (fronts_ready (pace_of m) fronts) next
ready_shows opening m fronts weight next is within lists lanes =
    let carries = ready_carries weight m is.stands.sound (has_way opening m is) in
    record {
      lists = lists;
      layered = carries.sound.layered;
      values = λ key. carries.values key ∙ is.stands.values key ∙ ap (λ (b : Book). value_at (written opening b.entries) key) (sym carries.book);
      paced = subst IsPaced (sym (ready_pace weight m is.stands.sound)) (ready_kept (pace_of m) weight is.paced);
      within = subst (λ (p : Pace). AreFronts p (fronts_ready (pace_of m) fronts)) (sym (ready_pace weight m is.stands.sound)) (moves_fronts (pace_of m) weight fronts is.paced within).1;
      lanes = lanes;
    }

-- Such a tree fits its sizes, so each file that holds it reads as the map of the history.
fits_by : (m : Machine) (pace : Pace) (fronts : Fronts) (tree : Tree) → m.lists ≡ lists_of tree → with_numbers_of m pace ≡ pace → IsPaced pace → AreFronts pace fronts → HasFronts tree m.lists fronts → FitsSizes m.gears.sizes tree
fits_by m pace fronts tree lists numbers paced within lanes = grind (arith, common_steps, nat_tests)

pub shown_fits : (opening : List (Key × Value)) (m : Machine) (fronts : Fronts) (tree : Tree) → IsShown opening m fronts tree → FitsSizes m.gears.sizes tree
shown_fits opening m fronts tree is = fits_by m (pace_of m) fronts tree is.lists refl is.paced is.within is.lanes

pub images_show : (opening : List (Key × Value)) (m : Machine) (fronts : Fronts) (tree : Tree) (file : List ℕ) → IsShown opening m fronts tree
    → HoldsTree m.gears.sizes tree file → ReadsAsMap m.gears.sizes (map_of (written opening m.book.entries)) file
images_show opening m fronts tree file is holds = record {
  tree = tree;
  holds = holds;
  fits = shown_fits opening m fronts tree is;
  map_is = ap map_in (sym is.lists) ∙ map_in_is m.lists m.merges (written opening m.book.entries) is.layered is.values;
}

-- ---- the fronts

-- where the lanes stay, the fronts do
pub fronts_stay : (tree next : Tree) (lists after : Lists) (fronts : Fronts) → next.lane_a ≡ tree.lane_a → next.lane_b ≡ tree.lane_b → after.a ≡ lists.a → after.b ≡ lists.b
    → HasFronts tree lists fronts → HasFronts next after fronts
fronts_stay tree next lists after fronts lane_a lane_b a b has = grind (arith, common_steps, nat_tests)

-- where they turn
pub fronts_turn : (tree next : Tree) (lists after : Lists) (fronts : Fronts) → next.lane_a ≡ tree.lane_b → next.lane_b ≡ no_lane → after.a ≡ lists.b
    → after.b ≡ []
    → HasFronts tree lists fronts → HasFronts next after (fronts_turned fronts)
fronts_turn tree next lists after fronts lane_a lane_b a b has = grind (arith, common_steps, nat_tests)

-- where entries are appended
pub fronts_grow : (ahead : Bool) (written : Written) (more : Entries) (tree : Tree) (lists : Lists) (fronts : Fronts)
    → HasFronts tree lists fronts
    → HasFronts (appended ahead more tree) (joined ahead more lists)
    (fronts_written (record written { ahead = ahead; most = most_on_way more (table_of ahead lists) }) fronts)
fronts_grow true written more tree lists fronts has =
    record { lane_a = lane_grows more tree.lane_a.entries lists.a fronts.lane_a has.lane_a; lane_b = has.lane_b }
fronts_grow false written more tree lists fronts has =
    record { lane_a = has.lane_a; lane_b = lane_grows more tree.lane_b.entries lists.b fronts.lane_b has.lane_b }
