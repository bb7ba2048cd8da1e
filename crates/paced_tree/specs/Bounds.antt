-- What is promised of a paced tree: its bounds, over lists and numbers.
use Rattle.std.specs.Prelude.{◌≡◌, ℕ, ◌+◌, ◌*◌, ◌<◌, ◌≤◌, true, false, not, ◌||◌, length, if◌then◌else◌, sum, sum_by, take, slice_index}
use Rattle.blsm_model.specs.Format.{callers, most_weight}
use Rattle.blsm_model.specs.Histories.{counted_writes, writes_of}
use Rattle.blsm_model.specs.Legal.{total_weight}
use Rattle.blsm_model.specs.Book.{entry_at}
use Rattle.blsm_model.specs.Geometry.{high_mark, c1_mark, capacity, first_gear, second_gear, work_bound}
use Rattle.record_delta.specs.Entries.{entries_weight}
use Rattle.gear_sched.specs.Gears.{FewDebts, first_debt, second_debt}
use Rattle.pacing.specs.Kept.{most_taken, quanta_for}
use Rattle.tree_machine.specs.Lists.{memory_weight}
use Rattle.tree_machine.specs.Layers.{HasWay, AreSettled}
use Rattle.tree_machine.specs.Machine.{Machine, in_pass, in_deep, pass_done, deep_done, memory_charge, charge}
use Rattle.tree_machine.specs.Steps.{one_if}
use Rattle.paced_tree.specs.Numbers.{IsWritten, taken_of, last_weight, last_quanta}

-- While a pass runs: it began with a small C1 and a small memory table, little was admitted since, and until it is done it has taken as
-- much as it owes for that, or the seats owe the rest.
pub record PassKeepsUp (m : Machine) : Type 0 where
  pub input : m.gears.pass_c1 < c1_mark m.gears.sizes
  pub begin : m.gears.pass_memory ≤ m.gears.sizes.half
  pub since : m.gears.pass_admitted ≤ m.gears.sizes.half
  pub table : memory_weight m.lists ≤ m.gears.pass_memory + m.gears.pass_admitted
  pub paced : pass_done m ≡ false → first_gear m.gears.sizes * m.gears.pass_admitted ≤ m.gears.pass_taken + sum m.gears.first_debts

-- while none runs: the memory table is within the spring, and nobody owes to a pass
pub record NoPassRuns (m : Machine) : Type 0 where
  pub table : memory_weight m.lists ≤ m.spring
  pub spring : m.spring ≤ m.gears.sizes.half
  pub nothing : sum m.gears.first_debts ≡ 0

-- While a deep merge runs: C1 with what comes to it weighs little more than what was admitted since the rotation, and until the merge is
-- done it has taken as much as it owes for that, or the seats owe the rest.
pub record DeepKeepsUp (m : Machine) : Type 0 where
  pub small : entries_weight m.lists.c1 + memory_charge m ≤ m.gears.sizes.half + m.gears.deep_admitted
  pub since : m.gears.deep_admitted ≤ capacity m.gears.sizes
  pub paced : deep_done m ≡ false → second_gear m.gears.sizes * m.gears.deep_admitted ≤ m.gears.deep_taken + sum m.gears.second_debts

-- the quanta that a seat's debts may still take: a debt to a merge that is done or absent takes none
abbrev pub quanta_owed_by : ℕ → Machine → ℕ
quanta_owed_by seat m =
    (if not (in_pass m) || pass_done m then 0 else quanta_for m.gears.sizes (first_debt m.gears seat))
    + (if not (in_deep m) || deep_done m then 0 else quanta_for m.gears.sizes (second_debt m.gears seat))

-- The merges keep pace, and the seats owe little.
pub record KeepsPace (m : Machine) : Type 0 where
  -- each seat's debts, and those of all seats together
  pub debts : FewDebts m.gears
  pub first : sum m.gears.first_debts ≤ callers * (first_gear m.gears.sizes * most_weight)
  pub second : sum m.gears.second_debts ≤ callers * (second_gear m.gears.sizes * most_weight)
  -- the quanta of each seat's last write, with those that its debts may still take, are at most the write's work bound
  pub last : (seat : ℕ) → last_quanta m.book seat + quanta_owed_by seat m ≤ work_bound m.gears.sizes (last_weight m.book seat)
  pub running : in_pass m ≡ true → PassKeepsUp m
  pub resting : in_pass m ≡ false → NoPassRuns m
  pub merging : in_deep m ≡ true → DeepKeepsUp m
  pub unmerged : in_deep m ≡ false → sum m.gears.second_debts ≡ 0

pub record IsBounded (m : Machine) : Type 0 where
  -- no deep merge is cut off, it has something to merge, and C2 has bases only; C1 stays below its mark
  pub way : HasWay m
  pub settled : AreSettled m
  pub mark : entries_weight m.lists.c1 < c1_mark m.gears.sizes
  -- the memory table stays below its high mark, and the charge within the capacity
  pub table : memory_weight m.lists ≤ m.counts.peak
  pub peak : m.counts.peak ≤ high_mark m.gears.sizes
  pub full : charge m ≤ capacity m.gears.sizes
  -- the counts are real: the components, and what the pass has taken of table A, weigh at most what all quanta can have taken more than
  -- the opening's
  pub worked : entries_weight m.lists.c1 + entries_weight m.lists.c1x + entries_weight m.lists.c2 + taken_of m.merges.pass m.lists.a ≤ m.counts.charge + most_taken m.gears.sizes * sum m.seats.quanta
  -- the callers' quanta are those of the entries and of the works that are open
  pub by_callers : sum (take callers m.seats.quanta) ≡ sum m.book.quanta + sum_by (λ w. w.quanta) m.seats.work
  -- the quanta of each write that was done are at most its work bound
  pub writes : (place : ℕ) → IsWritten m.book place → slice_index m.book.quanta place ≤ work_bound m.gears.sizes (total_weight (writes_of (entry_at m.book place).op))
  -- the passes begun are at most one more than the counted writes, and the rotations than the passes that were swapped in
  pub begins : m.counts.passes + one_if (in_pass m) ≤ length (counted_writes m.book.entries) + 1
  pub rotations : m.counts.deeps + one_if (in_deep m) ≤ m.counts.passes + 1
  -- the quanta of all seats are few, too
  pub quanta : sum m.seats.quanta ≤ capacity m.gears.sizes * (2 * length (counted_writes m.book.entries) + 3)
  pub pace : KeepsPace m
