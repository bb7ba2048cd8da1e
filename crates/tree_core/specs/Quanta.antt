-- A quantum by its plan, and a turn's move: what each requires, and what it leaves of the tree.
use Rattle.std.specs.Prelude.{◌≡◌, ◌≢◌, ℕ, Ok, Err, IsSome}
use Rattle.std.specs.declared.result.Result.{Result}
use Rattle.blsm_model.specs.declared.history.Why.TheVariants as why
use Rattle.disk_trait.specs.Disk.{DiskState}
use Rattle.disk_trait.specs.Moments.{LeavesOnly}
use Rattle.page_file.specs.declared.file.Broken.{Broken}
use Rattle.page_file.specs.declared.file.Broken.TheVariants.{Fault, Damaged}
use Rattle.gear_sched.specs.declared.Plan.{Plan}
use Rattle.gear_sched.specs.declared.Plan.TheVariants.{Snow, Deep, Nothing}
use Rattle.pacing.specs.Steps as pacing
use Rattle.pacing.specs.Steps.{Move}
use Rattle.paced_tree.specs.Booking.{quanta_of_move}
use Rattle.tree_machine.specs.Machine.{Turned, Failed, BadPage}
use Rattle.seat_book.specs.State.{BookState, stopped_in}
use Rattle.tree_file.specs.Tree.{Tree, HoldsTree}
use Rattle.tree_file.specs.Places.{StandsOn, HoldsEither, StandsOnEither}
use Rattle.tree_runs.specs.Holding.{StandOver, IsDeepSwapped, IsPassSwapped, IsRotated}
use Rattle.core_moves.specs.declared.held.Held.{Held}
use Rattle.core_moves.specs.Held.{is_run_full}
use Rattle.core_pace.specs.Turns.{end_of_move}
use Rattle.core_lists.specs.Steps.{TookByPlan, TurnsTree}

-- ---- a quantum that is planned

-- its merge runs
abbrev pub MayTake : Plan → Held → Type 0
MayTake Snow held = IsSome held.runs.pass
MayTake Deep held = IsSome held.runs.deep
MayTake Nothing held = ⊥

-- The disk stands on the tree still, as in each image since, and unless a call failed the quantum was taken of its lists.
pub record LeavesTaken (plan : Plan) (result : Result ℕ Broken) (old new : Held) (tree : Tree) (before after : DiskState) : Type 0 where
  pub stands : StandsOn old.runs.sizes tree after
  pub each : LeavesOnly before after (HoldsTree old.runs.sizes tree)
  pub taken : result ≢ Err Fault → (n : ℕ) × (result ≡ Ok n) × StandOver new.runs tree after × TookByPlan plan n old new tree

-- ---- a move of a turn

-- what one gives that takes no quantum
abbrev pub as_moved : {T E : Type 0} → Result T E → Result ℕ Broken
as_moved (Ok done) = Ok 0
as_moved (Err failed) = Err Fault

-- the tree that it makes, also where it fails and an image may hold it
abbrev pub MakesTree : Move → Held → Tree → Tree → Type 0
MakesTree pacing.SwapDeep held tree next = IsDeepSwapped tree next
MakesTree pacing.SwapPass held tree next = IsPassSwapped (is_run_full held) tree next
MakesTree pacing.Rotate held tree next = IsRotated tree next
MakesTree _ held tree next = next ≡ tree

-- Each image since holds the one tree or the other, and unless a call failed the disk stands on the other.
pub record LeavesMoved (mv : Move) (result : Result ℕ Broken) (old new : Held) (tree next : Tree) (before after : DiskState) : Type 0 where
  pub makes : MakesTree mv old tree next
  pub each : LeavesOnly before after (HoldsEither old.runs.sizes tree next)
  pub either : StandsOnEither old.runs.sizes tree next after
  pub moved : result ≢ Err Fault → (n : ℕ) × (result ≡ Ok n) × StandOver new.runs next after × TurnsTree mv n old new tree next

-- ---- the end of a turn

-- how it ended, its quanta, and its book: a move that failed stops the store, and the disk counts so many faults then
abbrev pub ended_by : Result ℕ Broken → Move → Turned
ended_by (Ok n) mv = end_of_move mv
ended_by (Err Fault) mv = Failed
ended_by (Err (Damaged page)) mv = BadPage page

abbrev pub quanta_by : Result ℕ Broken → Move → ℕ
quanta_by (Ok n) mv = quanta_of_move mv
quanta_by (Err broken) mv = 0

abbrev pub stopped_by : Result ℕ Broken → ℕ → BookState → BookState
stopped_by (Ok n) faults b = b
stopped_by (Err Fault) faults b = stopped_in (why.Faulted faults) b
stopped_by (Err (Damaged page)) faults b = stopped_in (why.BadPage page) b
