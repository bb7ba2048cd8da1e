-- How the five lists stand to one another, and to the merges that run.
use Rattle.std.specs.Prelude.{⊤, ◌≡◌, ℕ, ◌+◌, ◌≤◌, Bool, true, false, not, ◌||◌, IsTrue, [], Option, Some, None, option_map, if◌then◌else◌}
use Rattle.std.specs.List.{AllByRecursion}
use Rattle.blsm_model.specs.declared.key.Key.{Key}
use Rattle.record_delta.specs.declared.record.Rec.{Rec}
use Rattle.record_delta.specs.declared.record.Rec.TheVariants.{Base}
use Rattle.record_delta.specs.Records.{settled, IsWithin}
use Rattle.record_delta.specs.Entries.{AreSorted, Entries, entries_weight, is_above, over_any, record_of_key, up_to}
use Rattle.tree_machine.specs.Lists.{Lists, memory_weight}
use Rattle.tree_machine.specs.Merges.{Merge, is_empty}
use Rattle.blsm_model.specs.Geometry.{c1_mark}
use Rattle.tree_machine.specs.Machine.{Machine, Merges, in_deep, pass_done, deep_done, memory_charge}
use Rattle.tree_machine.specs.Moves.{output_of}

-- no key of the list is ahead of the cursor
abbrev pub IsBehind : Option Key → Entries → Type 0
IsBehind cursor entries = AllByRecursion (λ e. is_above cursor e.0 ≡ false) entries

-- what a pass writes of a folded record, and what a deep merge writes: the base of its value, if it has one
abbrev pub as_it_is : Option Rec → Option Rec
as_it_is rec = rec

abbrev pub as_base : Option Rec → Option Rec
as_base rec = option_map (λ v. Base v) (settled rec)

-- What the merge wrote is, up to its cursor, the fold of its inputs key by key.
pub record IsMergeOf (kept : Option Rec → Option Rec) (newer older : Entries) (merge : Merge) : Type 0 where
  pub folds : (key : Key) → record_of_key key merge.output ≡ (if is_above merge.cursor key then None else kept (over_any (record_of_key key newer) (record_of_key key older)))
  pub sorted : AreSorted merge.output
  pub behind : IsBehind merge.cursor merge.output

-- while no pass runs table B is empty
abbrev pub IsPassOver : Lists → Option Merge → Type 0
IsPassOver lists None = lists.b ≡ []
IsPassOver lists (Some pass) = IsMergeOf as_it_is lists.a lists.c1 pass

-- Table B is empty where no pass runs, and none of its keys is ahead of one that does.
abbrev pub WaitsBehind : Lists → Option Merge → Type 0
WaitsBehind lists None = lists.b ≡ []
WaitsBehind lists (Some pass) = IsBehind pass.cursor lists.b

-- a deep merge runs where C1' isn't empty
abbrev pub IsDeepOver : Lists → Option Merge → Type 0
IsDeepOver lists None = lists.c1x ≡ []
IsDeepOver lists (Some deep) = IsMergeOf as_base lists.c1x lists.c2 deep

pub record AreLayered (lists : Lists) (merges : Merges) : Type 0 where
  pub sorted_b : AreSorted lists.b
  pub sorted_a : AreSorted lists.a
  pub sorted_c1 : AreSorted lists.c1
  pub sorted_c1x : AreSorted lists.c1x
  pub sorted_c2 : AreSorted lists.c2
  pub pass : IsPassOver lists merges.pass
  pub deep : IsDeepOver lists merges.deep

-- no deep merge is cut off: where a pass is done whose C1 is to be rotated, none runs, or it is done too
abbrev pub HasWay : Machine → Type 0
HasWay m = IsTrue (pass_done m) → c1_mark m.gears.sizes ≤ entries_weight (output_of m.merges.pass) → IsTrue (not (in_deep m) || deep_done m)

-- The gears know whether a pass runs, and its numbers, over table A and C1: the weight of C1, and of what both have up to the cursor.
-- Without one all are 0.
abbrev pub IsPassCounted : (a c1 : Entries) (running : Bool) (input memory admitted taken : ℕ) → Option Merge → Type 0
IsPassCounted a c1 running input memory admitted taken None = (running ≡ false) × (input ≡ 0) × (memory ≡ 0) × (admitted ≡ 0) × (taken ≡ 0)
IsPassCounted a c1 running input memory admitted taken (Some pass) = (running ≡ true) × (input ≡ entries_weight c1) × (taken ≡ entries_weight (up_to pass.cursor a) + entries_weight (up_to pass.cursor c1))

-- those of a deep merge, over C1' and C2
abbrev pub IsDeepCounted : (c1x c2 : Entries) (running : Bool) (input admitted taken : ℕ) → Option Merge → Type 0
IsDeepCounted c1x c2 running input admitted taken None = (running ≡ false) × (input ≡ 0) × (admitted ≡ 0) × (taken ≡ 0)
IsDeepCounted c1x c2 running input admitted taken (Some deep) =
    (running ≡ true) × (input ≡ entries_weight c1x + entries_weight c2) × (taken ≡ entries_weight (up_to deep.cursor c1x) + entries_weight (up_to deep.cursor c2))

-- the keys and texts are within the format's lengths, so no record weighs more than the heaviest entry
abbrev pub AreLight : Entries → Type 0
AreLight entries = AllByRecursion (λ e. IsWithin e.0 e.1) entries

pub record AllLight (lists : Lists) (merges : Merges) : Type 0 where
  pub b : AreLight lists.b
  pub a : AreLight lists.a
  pub c1 : AreLight lists.c1
  pub c1x : AreLight lists.c1x
  pub c2 : AreLight lists.c2
  pub pass : AreLight (output_of merges.pass)
  pub deep : AreLight (output_of merges.deep)

-- The lists are in layers, the gears' numbers are those of the lists, and the memory table weighs no more than it is charged for.
pub record IsSound (m : Machine) : Type 0 where
  pub layered : AreLayered m.lists m.merges
  pub light : AllLight m.lists m.merges
  pub charged : memory_weight m.lists ≤ memory_charge m
  pub pass : IsPassCounted m.lists.a m.lists.c1 m.gears.pass m.gears.pass_c1 m.gears.pass_memory m.gears.pass_admitted m.gears.pass_taken m.merges.pass
  pub deep : IsDeepCounted m.lists.c1x m.lists.c2 m.gears.deep m.gears.deep_input m.gears.deep_admitted m.gears.deep_taken m.merges.deep

abbrev pub IsBase : Rec → Type 0
IsBase (Base value) = ⊤
IsBase _ = ⊥

-- a list of bases
abbrev pub AreBases : Entries → Type 0
AreBases entries = AllByRecursion (λ e. IsBase e.1) entries

-- C2 has bases only, and C1' has something while a deep merge runs.
pub record AreSettled (m : Machine) : Type 0 where
  pub bases : AreBases m.lists.c2
  pub merging : in_deep m ≡ true → is_empty m.lists.c1x ≡ false
