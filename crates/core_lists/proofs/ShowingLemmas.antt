-- What a file shows of a history, in the words of what an image may show.
use Rattle.std.proofs.lemmas.Grind.{common_steps}
use Rattle.std.proofs.lemmas.Bool.Decides.{nat_tests}
use Rattle.std.proofs.Common.{◌≡◌, ◌∙◌, ℕ, ◌≤◌, Bool, true, false, cond, not, ◌||◌, List, [], ◌∷◌, ◌++◌, flat_map, length, refl, ap, sym, subst, append_assoc, append-nil, length-append, arith}
use Rattle.std.proofs.lemmas.List.{flat_map_more}
use mathlib.Core.List.{IsPrefix}
use Rattle.blsm_model.specs.declared.key.Key.{Key}
use Rattle.blsm_model.specs.declared.row.Value.{Value}
use Rattle.blsm_model.specs.declared.op.Op.{Op}
use Rattle.blsm_model.specs.declared.op.Write.{Write}
use Rattle.blsm_model.specs.declared.history.Entry.{Entry}
use Rattle.blsm_model.specs.declared.history.Reply.{Reply}
use Rattle.blsm_model.specs.Sizes.{Sizes}
use Rattle.blsm_model.specs.Histories.{is_done, writes_of, counted, counted_writes, written}
use Rattle.blsm_model.specs.Images.{counted_with, is_unsure}
use Rattle.blsm_model.specs.Legal.{is_running, is_stopping, is_stopped}
use Rattle.blsm_model.specs.Rows.{map_of, puts_of}
use Rattle.pacing.specs.Fronts.{Fronts, AreFronts}
use Rattle.tree_machine.specs.Lists.{Lists}
use Rattle.tree_machine.specs.Machine.{Machine}
use Rattle.tree_machine.specs.Steps.{deep_swapped, swapped, ready_for}
use Rattle.tree_machine.proofs.FoldLemmas.{both_hold}
use Rattle.tree_machine.proofs.CarryLemmas.{deep_swapped_carries, ready_carries}
use Rattle.paced_tree.specs.Numbers.{pace_of}
use Rattle.paced_tree.specs.Kept.{IsPacedTree}
use Rattle.paced_tree.proofs.Promises.{has_way}
use Rattle.tree_file.specs.Tree.{Tree, HoldsTree, ReadsAsMap, lists_of}
use Rattle.core_lists.specs.Shown.{ShowsHistory, ShowsWhole, WeighsWithin, HasFronts}
use Rattle.core_lists.proofs.ShownLemmas.{steps_show, deep_swap_shows, ready_shows, images_show}
use Rattle.core_lists.proofs.FileWeights.{paced_weighs, settled_weighs, ready_weighs}
use Rattle.std.specs.Prelude.{◌⊎◌, ◌+◌}
use Rattle.pacing.proofs.Terms.{fronts_ready}

-- ---- what counts

or_false : (b : Bool) → (b || false) ≡ b
or_false b = grind (arith, common_steps, nat_tests)

-- without doubt, what counts is what was answered Done
sure_one : (entry : Entry) → counted_with false entry ≡ counted entry
sure_one entry = ap (λ b. cond b (writes_of entry.op) []) (or_false (is_done entry.reply))

pub sure_writes : (history : List Entry) → flat_map (counted_with false) history ≡ counted_writes history
sure_writes [] = refl
sure_writes (e ∷ es) = ap (λ ws. ws ++ flat_map (counted_with false) es) (sure_one e) ∙ ap (λ ws. counted e ++ ws) (sure_writes es)

-- and a history of a tree that runs has no doubt
running_one : (seat : ℕ) (op : Op) (reply : Reply) → not (is_stopping op reply || is_stopped reply) ≡ true → counted_with true (record { seat = seat; op = op; reply = reply }) ≡ counted (record { seat = seat; op = op; reply = reply })
running_one seat op reply h1 = grind (arith, common_steps, nat_tests)

pub running_writes : (unsure : Bool) (history : List Entry) → is_running history ≡ true → flat_map (counted_with unsure) history ≡ counted_writes history
running_writes false history runs = sure_writes history
running_writes true [] runs = refl
running_writes true (e ∷ es) runs =
    let parts = both_hold (not (is_stopping e.op e.reply || is_stopped e.reply)) (is_running es) runs in
    ap (λ ws. ws ++ flat_map (counted_with true) es) (running_one e.seat e.op e.reply parts.0) ∙ ap (λ ws. counted e ++ ws) (running_writes true es parts.1)

-- ---- prefixes

pub prefix_self : (history : List Entry) → IsPrefix history history
prefix_self history = ([], append-nil history)

pub prefix_then : (a b c : List Entry) → IsPrefix a b → IsPrefix b c → IsPrefix a c
prefix_then a b c first second = (first.0 ++ second.0, sym (append_assoc a first.0 second.0) ∙ ap (λ (l : List Entry). l ++ second.0) first.1 ∙ second.1)

-- one that is as long is the whole
prefix_whole : (front history : List Entry) → IsPrefix front history → length history ≤ length front → front ≡ history
prefix_whole front history begins long = grind (arith, common_steps, nat_tests)

-- ---- what is shown

-- the map after all of the history
pub shows_by : (unsure : Bool) (sizes : Sizes) (opening : List (Key × Value)) (history : List Entry) (writes : List Write) (n : ℕ) (file : List ℕ) → n ≤ length history
    → writes ≡ puts_of opening ++ flat_map (counted_with unsure) history → ReadsAsMap sizes (map_of writes) file → ShowsHistory sizes opening history n file
shows_by unsure sizes opening history writes n file few same reads = grind (arith, common_steps, nat_tests)

-- the map of the machine's history
abbrev pub ReadsHistory : List (Key × Value) → Machine → List ℕ → Type 0
ReadsHistory opening m file = ReadsAsMap m.gears.sizes (map_of (written opening m.book.entries)) file

pub whole_of : (opening : List (Key × Value)) (m : Machine) (file : List ℕ) → ReadsHistory opening m file → WeighsWithin m m.book.entries file → ShowsWhole opening m file
whole_of opening m file reads weighs = grind (arith, common_steps, nat_tests)

pub standing_reads : (opening : List (Key × Value)) (m : Machine) (fronts : Fronts) (tree : Tree) (file : List ℕ) → IsPacedTree opening m → AreFronts (pace_of m) fronts → m.lists ≡ lists_of tree
    → HasFronts tree m.lists fronts → HoldsTree m.gears.sizes tree file → ReadsHistory opening m file
standing_reads opening m fronts tree file paced within lists lanes holds =
    images_show opening m fronts tree file (steps_show opening m fronts tree paced lists within lanes) holds

-- a later machine of the same sizes and history reads as the same
reads_as : (opening : List (Key × Value)) (m later : Machine) (file : List ℕ) → later.gears.sizes ≡ m.gears.sizes → later.book ≡ m.book → ReadsHistory opening later file → ReadsHistory opening m file
reads_as opening m later file sizes book reads = grind (arith, common_steps, nat_tests)

-- a pass that begins leaves the lists
pub begun_lists : (w : ℕ) (m : Machine) → (ready_for w m).lists ≡ (swapped m).lists
begun_lists w m = grind (arith, common_steps, nat_tests)

pub swapped_reads : (opening : List (Key × Value)) (m : Machine) (fronts : Fronts) (next : Tree) (file : List ℕ) → IsPacedTree opening m → AreFronts (pace_of m) fronts
    → (swapped m).lists ≡ lists_of next → HasFronts next (swapped m).lists (fronts_ready (pace_of m) fronts) → HoldsTree m.gears.sizes next file → ReadsHistory opening m file
swapped_reads opening m fronts next file paced within lists lanes holds =
    let carries = ready_carries 0 m paced.stands.sound (has_way opening m paced) in
    let same = begun_lists 0 m in
    reads_as opening m (ready_for 0 m) file carries.sizes carries.book
    (images_show opening (ready_for 0 m) (fronts_ready (pace_of m) fronts) next file
    (ready_shows opening m fronts 0 next paced within (same ∙ lists) (subst (λ (l : Lists). HasFronts next l (fronts_ready (pace_of m) fronts)) (sym same) lanes))
    (subst (λ (s : Sizes). HoldsTree s next file) (sym carries.sizes) holds))

-- Each file shows it that holds the machine's tree;
pub standing_shows : (opening : List (Key × Value)) (m : Machine) (fronts : Fronts) (tree : Tree) (file : List ℕ) → IsPacedTree opening m → AreFronts (pace_of m) fronts → m.lists ≡ lists_of tree
    → HasFronts tree m.lists fronts → HoldsTree m.gears.sizes tree file → ShowsWhole opening m file
standing_shows opening m fronts tree file paced within lists lanes holds =
    whole_of opening m file (standing_reads opening m fronts tree file paced within lists lanes holds) (paced_weighs m tree m.book.entries file paced.paced lists holds)

-- within an admission the tree after the deep merge's swap, too,
pub settled_shows : (opening : List (Key × Value)) (m : Machine) (fronts : Fronts) (next : Tree) (file : List ℕ) → IsPacedTree opening m → AreFronts (pace_of m) fronts → (deep_swapped m).lists ≡ lists_of next
    → HasFronts next (deep_swapped m).lists fronts → HoldsTree m.gears.sizes next file → ShowsWhole opening m file
settled_shows opening m fronts next file paced within lists lanes holds =
    let carries = deep_swapped_carries m paced.stands.sound in
    whole_of opening m file (reads_as opening m (deep_swapped m) file carries.sizes carries.book
    (images_show opening (deep_swapped m) fronts next file (deep_swap_shows opening m fronts next paced within lists lanes)
    (subst (λ (s : Sizes). HoldsTree s next file) (sym carries.sizes) holds)))
    (settled_weighs opening m next m.book.entries file paced lists holds)

-- and the one after the pass's.
pub swapped_shows : (opening : List (Key × Value)) (m : Machine) (fronts : Fronts) (next : Tree) (file : List ℕ) → IsPacedTree opening m → AreFronts (pace_of m) fronts → (swapped m).lists ≡ lists_of next
    → HasFronts next (swapped m).lists (fronts_ready (pace_of m) fronts) → HoldsTree m.gears.sizes next file → ShowsWhole opening m file
swapped_shows opening m fronts next file paced within lists lanes holds =
    whole_of opening m file (swapped_reads opening m fronts next file paced within lists lanes holds) (ready_weighs 0 opening m next m.book.entries file paced (begun_lists 0 m ∙ lists) holds)

-- ---- as the history grows

-- What shows a history shows each longer one, and no more than fewer entries of it.
pub showing_is_kept : (sizes : Sizes) (opening : List (Key × Value)) (history longer : List Entry) (n fewer : ℕ) (file : List ℕ) → IsPrefix history longer → fewer ≤ n → ShowsHistory sizes opening history n file
    → ShowsHistory sizes opening longer fewer file
showing_is_kept sizes opening history longer n fewer file begins few shows = grind (arith, common_steps, nat_tests)

-- An entry counts no write that writes none, or whose reply is neither done nor unsure.
pub quiet_entry_counts_none : (entry : Entry) → (writes_of entry.op ≡ []) ⊎ ((is_done entry.reply ≡ false) × (is_unsure entry.reply ≡ false)) → (unsure : Bool) → counted_with unsure entry ≡ []
quiet_entry_counts_none entry quiet unsure = grind (arith, common_steps, nat_tests)

-- What shows all of a history shows it with one such entry more.
pub quiet_entry_shows : (sizes : Sizes) (opening : List (Key × Value)) (history : List Entry) (entry : Entry) (file : List ℕ) → ((unsure : Bool) → counted_with unsure entry ≡ [])
    → ShowsHistory sizes opening history (length history) file → ShowsHistory sizes opening (history ++ entry ∷ []) (length history + 1) file
quiet_entry_shows sizes opening history entry file none shows =
    let is = shows.1 in
    let whole : is.front ≡ history = prefix_whole is.front history is.begins is.enough in
    let more : puts_of opening ++ flat_map (counted_with is.unsure) (history ++ entry ∷ []) ≡ puts_of opening ++ flat_map (counted_with is.unsure) history =
    sym (flat_map_more (counted_with is.unsure) (puts_of opening) history entry)
    ∙ ap (λ ws. (puts_of opening ++ flat_map (counted_with is.unsure) history) ++ ws) (none is.unsure)
    ∙ append-nil (puts_of opening ++ flat_map (counted_with is.unsure) history) in (
      shows.0,
      record {
        front = history ++ entry ∷ [];
        unsure = is.unsure;
        begins = prefix_self (history ++ entry ∷ []);
        enough = omega (arith, length-append history (entry ∷ []));
        map = is.map ∙ ap (λ (es : List Entry). map_of (puts_of opening ++ flat_map (counted_with is.unsure) es)) whole ∙ ap map_of (sym more);
      },
      shows.2,
    )
