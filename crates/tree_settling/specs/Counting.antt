-- How many quanta settling takes, and how much they take. Weights are in bytes.
use Rattle.std.specs.Prelude.{ℕ, ◌+◌, ◌-◌, ◌*◌, ◌/◌, ◌≤◌, Bool, IsTrue, if◌then◌else◌, is_some, nat_eq, nat_le}
use Rattle.blsm_model.specs.Format.{most_weight}
use Rattle.blsm_model.specs.Geometry.{c1_mark}
use Rattle.blsm_model.specs.Sizes.{Sizes}
use Rattle.catalog_swap.specs.declared.catalog.Catalog.{Catalog}
use Rattle.record_delta.specs.Entries.{entries_weight}
use Rattle.tree_log.specs.Log.{LogState, listed_in_a, weight_of_tables}
use Rattle.tree_runs.specs.Runs.{RunsState, left_for_deep}
use Rattle.tree_runs.specs.Holding.{CountsMore}
use Rattle.tree_settling.specs.Settling.{components_of, taken_before}

-- How much one quantum takes at most: all but the last byte of what is asked for may be there already when it takes a group of two records more.
abbrev pub most_taken : Sizes → ℕ
most_taken sizes = sizes.quantum - 1 + 2 * most_weight

-- So many quanta, of so many merges at most, took so much: each took something, and no more than one may; and each but the last of a merge took what
-- a quantum asks for.
pub record TakeQuanta (sizes : Sizes) (merges quanta taken : ℕ) : Type 0 where
  pub some : quanta ≤ taken
  pub light : taken ≤ most_taken sizes * quanta
  pub enough : sizes.quantum * quanta ≤ taken + merges * sizes.quantum

-- Settling took so many quanta, as the components count them, of so many merges at most, and in all from so much to so much. By what they took the
-- components may weigh more.
pub record CountsQuanta (merges least most : ℕ) (old new : RunsState) (quanta : ℕ) : Type 0 where
  pub counted : CountsMore quanta old new
  pub taken : ℕ
  pub takes : TakeQuanta old.sizes merges quanta taken
  pub all : least ≤ taken
  pub within : taken ≤ most
  pub grows : components_of new.catalogue ≤ components_of old.catalogue + taken

-- ---- how much there is to take

-- so much where it applies
abbrev pub where_so : Bool → ℕ → ℕ
where_so applies n = if applies then n else 0

-- so much where the other weighs something
abbrev pub where_some : ℕ → ℕ → ℕ
where_some other n = if nat_eq other 0 then 0 else n

-- how much of C1' and C2 there is to take for a deep merge, behind what it had taken before
abbrev pub untaken : Catalog → ℕ
untaken catalogue = catalogue.c1x.weight + catalogue.c2.weight - taken_before catalogue.progress

-- A pass with so much before it, and, where that is as heavy as C1's mark, the deep merge that follows, which takes no more than all.
abbrev pub pass_due : Sizes → (before all : ℕ) → ℕ
pass_due sizes before all = before + where_so (nat_le (c1_mark sizes) before) all

-- The passes of two lanes that fold to so much, over a C1 of so much, and the deep merges that follow.
abbrev pub passes_due : Sizes → (c1 a b all : ℕ) → ℕ
passes_due sizes c1 a b all = where_some (a + b) (pass_due sizes (c1 + a) all) + where_some b (pass_due sizes (c1 + a + b) all)

-- how many merges these are at most
abbrev pub most_merges : (a b : ℕ) → ℕ
most_merges a b = where_some (a + b) 2 + where_some b 2

-- How much settling takes at most: by the deep merge that runs, if one does, and by the passes.
abbrev pub settling_due : RunsState → LogState → ℕ
settling_due runs log =
    where_so (is_some runs.deep) (untaken runs.catalogue)
    + passes_due runs.sizes runs.catalogue.c1.weight (listed_in_a log) (entries_weight log.b.entries)
    (components_of runs.catalogue + weight_of_tables log)

-- And at least: all that is left for the deep merge, C1 and table A where either table has an entry, and table B.
abbrev pub settling_least : RunsState → LogState → ℕ
settling_least runs log =
    left_for_deep runs.deep + where_some (weight_of_tables log) (runs.catalogue.c1.weight + listed_in_a log) + entries_weight
    log.b.entries

-- The most quanta that take so much in five merges.
abbrev pub quanta_bound : Sizes → ℕ → ℕ
quanta_bound sizes due = due / sizes.quantum + 5

-- What a pass counts, where either table has an entry, and the deep merge that follows.
abbrev pub CountsPass : RunsState → LogState → RunsState → ℕ → Type 0
CountsPass old log new = CountsQuanta (where_some (weight_of_tables log) 2)
    (where_some (weight_of_tables log) (old.catalogue.c1.weight + listed_in_a log))
    (where_some (weight_of_tables log) (pass_due old.sizes (old.catalogue.c1.weight + listed_in_a log)
    (components_of old.catalogue + weight_of_tables log)))
    old new

-- ---- what a pass leaves

-- A pass that had so much before it was swapped in: C1 weighs no more, and a deep merge runs only where that is as heavy as C1's mark.
pub record HasPassed (before : ℕ) (sizes : Sizes) (new : RunsState) : Type 0 where
  pub c1 : new.catalogue.c1.weight ≤ before
  pub deep : IsTrue (is_some new.deep) → c1_mark sizes ≤ before
