-- What a file weighs that holds the tree, also within an admission.
use Rattle.std.proofs.lemmas.Grind.{common_steps}
use Rattle.std.proofs.lemmas.Bool.Decides.{nat_tests}
use Rattle.std.proofs.Common.{◌≡◌, ◌∙◌, ℕ, ◌≤◌, true, cond, not, ◌||◌, List, [], ◌∷◌, ◌++◌, refl, sym, subst, arith}
use Rattle.std.proofs.lemmas.List.Sums.{sum_by-append, sum_by-cons}
use Rattle.blsm_model.specs.declared.key.Key.{Key}
use Rattle.blsm_model.specs.declared.row.Value.{Value}
use Rattle.blsm_model.specs.declared.op.Op.{Op}
use Rattle.blsm_model.specs.declared.history.Entry.{Entry}
use Rattle.blsm_model.specs.declared.history.Reply.{Reply}
use Rattle.blsm_model.specs.Histories.{writes_of}
use Rattle.blsm_model.specs.Images.{is_unsure}
use Rattle.blsm_model.specs.Legal.{is_running, is_stopped, is_stopping, total_weight}
use Rattle.blsm_model.specs.Sizes.{Sizes}
use Rattle.pacing.specs.Kept.{IsPaced}
use Rattle.pacing.proofs.Admissions.{deep_settled_kept, ready_kept}
use Rattle.tree_machine.specs.Machine.{Machine}
use Rattle.tree_machine.specs.Steps.{deep_swapped, pass_begun_for, pass_swapped, ready_for, swapped}
use Rattle.tree_machine.proofs.CarryLemmas.{deep_swapped_carries, ready_carries}
use Rattle.tree_machine.proofs.FoldLemmas.{both_hold}
use Rattle.paced_tree.specs.Kept.{IsPacedTree}
use Rattle.paced_tree.specs.Numbers.{pace_of}
use Rattle.paced_tree.proofs.Moves.{settled_pace, ready_pace}
use Rattle.paced_tree.proofs.Promises.{has_way}
use Rattle.tree_file.specs.Tree.{Tree, HoldsTree, components_weight, lists_of}
use Rattle.core_lists.specs.Shown.{WeighsWithin, doubted, most_worked, weight_in_doubt}
use Rattle.core_lists.proofs.Terms.{CountsAs}

-- ---- machines that count the same

pub counts_itself : (m : Machine) → CountsAs m m
counts_itself m = record { charge = refl; peak = refl; quanta = refl }

counts_then : (a b c : Machine) → CountsAs a b → CountsAs b c → CountsAs a c
counts_then a b c first second = record { charge = second.charge ∙ first.charge; peak = second.peak ∙ first.peak; quanta = second.quanta ∙ first.quanta }

counts_back : (m later : Machine) → CountsAs m later → CountsAs later m
counts_back m later counts = record { charge = sym counts.charge; peak = sym counts.peak; quanta = sym counts.quanta }

-- no swap counts a quantum or a write
pub deep_swapped_counts : (m : Machine) → CountsAs m (deep_swapped m)
deep_swapped_counts m = grind (arith, common_steps, nat_tests)

pass_swapped_counts : (m : Machine) → CountsAs m (pass_swapped m)
pass_swapped_counts m = grind (arith, common_steps, nat_tests)

begun_counts : (weight : ℕ) (m : Machine) → CountsAs m (pass_begun_for weight m)
begun_counts weight m = grind (arith, common_steps, nat_tests)

pub ready_counts : (weight : ℕ) (m : Machine) → CountsAs m (ready_for weight m)
ready_counts weight m =
    counts_then m (swapped m) (ready_for weight m) (counts_then m (deep_swapped m) (swapped m) (deep_swapped_counts m) (pass_swapped_counts (deep_swapped m))) (begun_counts weight (swapped m))

-- ---- as the history grows

pub doubt_grows : (history more : List Entry) → doubted history ≤ doubted (history ++ more)
doubt_grows history more = omega (arith, sum_by-append weight_in_doubt history more)

-- a history of a tree that runs has no write in doubt
sure_reply : (op : Op) (reply : Reply) → not (is_stopping op reply || is_stopped reply) ≡ true → cond (is_unsure reply) (total_weight (writes_of op)) 0 ≡ 0
sure_reply op reply h1 = grind (arith, common_steps, nat_tests)

pub running_is_sure : (history : List Entry) → is_running history ≡ true → doubted history ≡ 0
running_is_sure [] runs = refl
running_is_sure (e ∷ es) runs =
    let parts = both_hold (not (is_stopping e.op e.reply || is_stopped e.reply)) (is_running es) runs in
    sum_by-cons weight_in_doubt e es ∙ omega (arith, sure_reply e.op e.reply parts.0, running_is_sure es parts.1)

pub same_work : (m later : Machine) → later.gears.sizes ≡ m.gears.sizes → CountsAs m later → most_worked later ≡ most_worked m
same_work m later sizes counts = grind (arith, common_steps, nat_tests)

-- A file weighs no more for a later machine that counts the same, nor for a history with more in doubt.
pub weighs_as : (m later : Machine) (history longer : List Entry) (file : List ℕ) → later.gears.sizes ≡ m.gears.sizes → CountsAs m later → doubted history ≤ doubted longer → WeighsWithin m history file
    → WeighsWithin later longer file
weighs_as m later history longer file sizes counts more weighs = grind (arith, common_steps, nat_tests)

-- ---- by the pace

pub paced_components : (m : Machine) (tree : Tree) → IsPaced (pace_of m) → m.lists ≡ lists_of tree → components_weight tree ≤ most_worked m
paced_components m tree paced lists = grind (arith, common_steps, nat_tests)

-- each file that holds the tree of a machine that is paced,
pub paced_weighs : (m : Machine) (tree : Tree) (history : List Entry) (file : List ℕ) → IsPaced (pace_of m) → m.lists ≡ lists_of tree → HoldsTree m.gears.sizes tree file → WeighsWithin m history file
paced_weighs m tree history file paced lists holds = grind (arith, common_steps, nat_tests)

-- the tree after the deep merge's swap,
pub settled_weighs : (opening : List (Key × Value)) (m : Machine) (next : Tree) (history : List Entry) (file : List ℕ) → IsPacedTree opening m → (deep_swapped m).lists ≡ lists_of next
    → HoldsTree m.gears.sizes next file → WeighsWithin m history file
settled_weighs opening m next history file paced lists holds =
    let sizes = (deep_swapped_carries m paced.stands.sound).sizes in
    weighs_as (deep_swapped m) m history history file (sym sizes) (counts_back m (deep_swapped m) (deep_swapped_counts m)) (omega arith)
    (paced_weighs (deep_swapped m) next history file (subst IsPaced (sym (settled_pace m paced.stands.sound)) (deep_settled_kept (pace_of m) paced.paced).kept) lists
    (subst (λ (s : Sizes). HoldsTree s next file) (sym sizes) holds))

-- and the one that stands when a write is to be appended
pub ready_weighs : (weight : ℕ) (opening : List (Key × Value)) (m : Machine) (next : Tree) (history : List Entry) (file : List ℕ) → IsPacedTree opening m → (ready_for weight m).lists ≡ lists_of next
    → HoldsTree m.gears.sizes next file → WeighsWithin m history file
ready_weighs weight opening m next history file paced lists holds =
    let sizes = (ready_carries weight m paced.stands.sound (has_way opening m paced)).sizes in
    weighs_as (ready_for weight m) m history history file (sym sizes) (counts_back m (ready_for weight m) (ready_counts weight m)) (omega arith)
    (paced_weighs (ready_for weight m) next history file (subst IsPaced (sym (ready_pace weight m paced.stands.sound)) (ready_kept (pace_of m) weight paced.paced)) lists
    (subst (λ (s : Sizes). HoldsTree s next file) (sym sizes) holds))
