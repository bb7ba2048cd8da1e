-- What the core has in memory weighs what the machine's lists do.
use Rattle.std.proofs.Common.{◌≡◌, ◌∙◌, ℕ, List, ap, sym}
use Rattle.std.proofs.Common.{arith}
use Rattle.catalog_swap.specs.declared.catalog.Catalog.{Catalog}
use Rattle.record_delta.specs.Entries.{above, entries_weight, replayed}
use Rattle.page_file.specs.Component.{entries_of}
use Rattle.tree_machine.specs.Lists.{Lists, memory_weight}
use Rattle.tree_machine.specs.Machine.{Machine}
use Rattle.tree_file.specs.Tree.{Tree, lists_of}
use Rattle.tree_log.specs.Log.{LogState, IsLogOf, listed_in_a, weight_of_tables}
use Rattle.tree_log.proofs.RestLemmas.{rest_weighs}
use Rattle.tree_runs.specs.Holding.{HasAllAhead, cursor_of_pass}
use Rattle.tree_runs.proofs.CoverLemmas.{above_again}
use Rattle.core_moves.specs.Held.{IsOne}
use Rattle.core_moves.proofs.WriteLemmas.{floor_below}
use Rattle.core_moves.specs.declared.held.Held.{Held}
use Rattle.core_lists.specs.Standing.{HoldsMachine}
use Rattle.core_lists.proofs.Terms.{IsAt}

-- table A's list
pub list_a : (held : Held) (tree : Tree) (m : Machine) → HoldsMachine held tree m → m.lists.a ≡ replayed tree.lane_a.entries
list_a held tree m holds = ap (λ (l : Lists). l.a) holds.lists

-- The table has all of that above the pass's cursor.
pub all_ahead : (held : Held) (tree : Tree) → IsOne held → IsLogOf tree held.log → HasAllAhead held.runs.pass held.log.a.entries tree
all_ahead held tree one is =
    sym (ap (above (cursor_of_pass held.runs.pass)) is.a.entries
    ∙ above_again held.log.a.floor (cursor_of_pass held.runs.pass) (replayed tree.lane_a.entries) (floor_below held one))

-- the tables of a log weigh what its tree's lists do
pub tables_weigh : (lists : Lists) (tree : Tree) (log : LogState) → lists ≡ lists_of tree → IsLogOf tree log → memory_weight lists ≡ weight_of_tables log
tables_weigh lists tree log are is =
    omega (arith, ap memory_weight are, rest_weighs (replayed tree.lane_a.entries) log.a is.a, ap entries_weight is.b)

module _ (held : Held) (tree : Tree) (m : Machine) (file : List ℕ) (at : IsAt held tree m file) where
  pub weight_a : entries_weight m.lists.a ≡ listed_in_a held.log
  weight_a = ap (λ (l : Lists). entries_weight l.a) at.holds.lists ∙ sym (rest_weighs (replayed tree.lane_a.entries) held.log.a at.holds.of_log.a)

  pub table_b : m.lists.b ≡ held.log.b.entries
  table_b = ap (λ (l : Lists). l.b) at.holds.lists ∙ sym at.holds.of_log.b

  pub list_c1 : m.lists.c1 ≡ entries_of tree.c1
  list_c1 = ap (λ (l : Lists). l.c1) at.holds.lists

  pub list_c1x : m.lists.c1x ≡ entries_of tree.c1x
  list_c1x = ap (λ (l : Lists). l.c1x) at.holds.lists

  pub list_c2 : m.lists.c2 ≡ entries_of tree.c2
  list_c2 = ap (λ (l : Lists). l.c2) at.holds.lists

  pub weight_c1 : entries_weight m.lists.c1 ≡ held.runs.catalogue.c1.weight
  weight_c1 = ap entries_weight list_c1 ∙ at.are_of.holds.c1.weight_is ∙ ap (λ (k : Catalog). k.c1.weight) at.are_of.catalogue

  pub weight_c1x : entries_weight m.lists.c1x ≡ held.runs.catalogue.c1x.weight
  weight_c1x = ap entries_weight list_c1x ∙ at.are_of.holds.c1x.weight_is ∙ ap (λ (k : Catalog). k.c1x.weight) at.are_of.catalogue

  pub weight_c2 : entries_weight m.lists.c2 ≡ held.runs.catalogue.c2.weight
  weight_c2 = ap entries_weight list_c2 ∙ at.are_of.holds.c2.weight_is ∙ ap (λ (k : Catalog). k.c2.weight) at.are_of.catalogue

  pub weight_tables : memory_weight m.lists ≡ weight_of_tables held.log
  weight_tables = tables_weigh m.lists tree held.log at.holds.lists at.holds.of_log
