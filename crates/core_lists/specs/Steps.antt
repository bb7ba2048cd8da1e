-- A payment, and a turn of work or of a worker, are the machine's own steps, where all goes well.
use Rattle.std.specs.Prelude.{◌≡◌, ℕ}
use Rattle.page_file.specs.Component.{entries_of}
use Rattle.gear_sched.specs.declared.Plan.{Plan}
use Rattle.gear_sched.specs.declared.Plan.TheVariants.{Snow, Deep, Nothing}
use Rattle.pacing.specs.Steps as pacing
use Rattle.pacing.specs.Steps.{Move}
use Rattle.tree_machine.specs.Steps as machine
use Rattle.tree_machine.specs.Steps.{Choice}
use Rattle.record_delta.specs.Entries.{replayed}
use Rattle.tree_file.specs.Tree.{Tree}
use Rattle.tree_runs.specs.Holding.{IsDeepSwapped, IsPassSwapped, IsRotated, PassTook, DeepTook}
use Rattle.core_moves.specs.declared.held.Held.{Held}
use Rattle.core_moves.specs.Held.{is_run_full}
use Rattle.core_moves.specs.Moves.{TurnsLog}

-- ---- a payment

-- the quantum of the merge that is paid, over its lists
abbrev pub TookByPlan : Plan → ℕ → Held → Held → Tree → Type 0
TookByPlan Snow n old new tree = PassTook old.runs.sizes.quantum old.runs.pass new.runs.pass (replayed tree.lane_a.entries) (entries_of tree.c1) n
TookByPlan Deep n old new tree = DeepTook old.runs.sizes.quantum old.runs.deep new.runs.deep (entries_of tree.c1x) (entries_of tree.c2) n
TookByPlan Nothing n old new tree = ⊥

-- ---- a turn

-- the machine's choice
abbrev pub choice_of : Move → Choice
choice_of pacing.SwapDeep = machine.SwapDeep
choice_of pacing.SwapPass = machine.SwapPass
choice_of pacing.TakeDeep = machine.DeepQuantum
choice_of pacing.TakeSnow = machine.PassQuantum
choice_of pacing.Begin = machine.Begin
choice_of pacing.Rotate = machine.Rotate
choice_of pacing.Idle = machine.Rest

-- the tree that the turn's move leaves, and what it took of the lists
abbrev pub TurnsTree : Move → ℕ → Held → Held → Tree → Tree → Type 0
TurnsTree pacing.SwapDeep n old moved tree next = IsDeepSwapped tree next
TurnsTree pacing.SwapPass n old moved tree next = IsPassSwapped (is_run_full old) tree next × TurnsLog old.log moved.log
TurnsTree pacing.TakeDeep n old moved tree next = (next ≡ tree) × DeepTook old.runs.sizes.quantum old.runs.deep moved.runs.deep (entries_of tree.c1x) (entries_of tree.c2) n
TurnsTree pacing.TakeSnow n old moved tree next =
    (next ≡ tree) × PassTook old.runs.sizes.quantum old.runs.pass moved.runs.pass (replayed tree.lane_a.entries) (entries_of tree.c1) n
TurnsTree pacing.Begin n old moved tree next = next ≡ tree
TurnsTree pacing.Rotate n old moved tree next = IsRotated tree next
TurnsTree pacing.Idle n old moved tree next = next ≡ tree
