-- What a lookup folds together is what the machine has of a key.
use Rattle.std.proofs.lemmas.Grind.{common_steps}
use Rattle.std.proofs.lemmas.Bool.Decides.{nat_tests}
use Rattle.std.proofs.Common.{◌∙◌, ap, arith, sym}
use Rattle.tree_machine.proofs.FoldLemmas.{over_any_assoc}
use Rattle.std.specs.Prelude.{◌≡◌, ℕ, List, Option}
use Rattle.blsm_model.specs.declared.key.Key.{Key}
use Rattle.record_delta.specs.declared.record.Rec.{Rec}
use Rattle.record_delta.specs.Records.{settled}
use Rattle.record_delta.specs.Entries.{Entries, above, over_any, record_of_key, replayed}
use Rattle.page_file.specs.Component.{entries_of}
use Rattle.tree_machine.specs.Lists.{Lists, value_in}
use Rattle.tree_machine.specs.Machine.{Machine}
use Rattle.tree_file.specs.Tree.{Tree}
use Rattle.tree_runs.specs.Lookups.{first_record}
use Rattle.tree_runs.proofs.ReleasedLemmas.{rest_over}
use Rattle.core_moves.specs.declared.held.Held.{Held}
use Rattle.core_lists.proofs.Terms.{IsAt}
use Rattle.core_lists.proofs.WeighLemmas.{table_b, list_c1, list_c1x, list_c2}

-- lists of which these are the parts
looked : (lists : Lists) (b a c1 c1x c2 : Entries) (key : Key) → lists.b ≡ b → lists.a ≡ a → lists.c1 ≡ c1 → lists.c1x ≡ c1x → lists.c2 ≡ c2
    → settled (over_any (over_any (record_of_key key b) (record_of_key key a))
    (over_any (record_of_key key c1) (over_any (record_of_key key c1x) (record_of_key key c2))))
    ≡ value_in lists key
looked lists b a c1 c1x c2 key h1 h2 h3 h4 h5 = grind (arith, common_steps, nat_tests, over_any_assoc)

regrouped : (b a first rest : Option Rec) → over_any (over_any b a) (over_any first rest) ≡ over_any b (over_any (over_any a first) rest)
regrouped b a first rest = over_any_assoc b a (over_any first rest) ∙ ap (over_any b) (sym (over_any_assoc a first rest))

-- What the tables have of a key, over what was dropped of table A and what the components have of it, is what the machine has.
pub lookup_is_the_machines : (held : Held) (tree : Tree) (m : Machine) (file : List ℕ) (key : Key) → IsAt held tree m file
    → settled (over_any (over_any (record_of_key key held.log.b.entries) (record_of_key key held.log.a.entries))
    (over_any (first_record held.log.a.floor key tree)
    (over_any (record_of_key key (entries_of tree.c1x)) (record_of_key key (entries_of tree.c2)))))
    ≡ value_in m.lists key
lookup_is_the_machines held tree m file key at =
    ap settled
    (ap (λ (es : Entries). over_any (over_any b (record_of_key key es)) (over_any first rest)) at.holds.of_log.a.entries
    ∙ regrouped b (record_of_key key (above floor list)) first rest
    ∙ ap (λ (r : Option Rec). over_any b (over_any r rest)) (rest_over floor key tree)
    ∙ sym (regrouped b (record_of_key key list) (record_of_key key c1) rest))
    ∙ looked m.lists held.log.b.entries list c1 (entries_of tree.c1x) (entries_of tree.c2) key
    (table_b held tree m file at) (ap (λ (l : Lists). l.a) at.holds.lists) (list_c1 held tree m file at)
    (list_c1x held tree m file at) (list_c2 held tree m file at)
  where
    floor : Option Key
    floor = held.log.a.floor

    list : Entries
    list = replayed tree.lane_a.entries

    c1 : Entries
    c1 = entries_of tree.c1

    b : Option Rec
    b = record_of_key key held.log.b.entries

    first : Option Rec
    first = first_record floor key tree

    rest : Option Rec
    rest = over_any (record_of_key key (entries_of tree.c1x)) (record_of_key key (entries_of tree.c2))
