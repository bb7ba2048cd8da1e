-- The headline, however the threads interleave. Over an honest disk whose file reads as a map, callers and merge workers ran a script, and this was
-- printed. Each phrase has its word here, or in `IsRunOf`:
--
--   each caller's commands once, in order                        `IsRunOf.of_script`
--   the sequential map's replies                                 `IsServed.replies`; a write is refused for size or for a fault alone (`kept` of
--                                                                one that looks first is a reply of the map)
--   the memory table never passes its bytes                      `IsRunOf.peak`, `EndsWithin.lanes`
--   each write does few merge quanta itself                      `IsRunOf.few`; and the quanta are real: `EndsWithin.components`, `IsServed.commits`, `IsServed.stands`
--   every crash image opens to a prefix of the history           `LeavesHistory.each`, `LeavesHistory.once_synced`
--   which holds every write that was acknowledged by then        `HaveMoments.acknowledged` with `HaveMoments.shows`, and in the end the whole, `LeavesHistory.whole`
--   by the disk's own calls                                      `Headline.causes`, and `clocks_are`, `timed` and `called` of `HaveMoments`
--   each caller and each worker comes to its end                 `Headline.ended`
--   one caller and no worker: the text is one function           `Headline.solo`
use Rattle.std.specs.Prelude.{◌≡◌, ◌<◌, ◌≤◌, ◌+◌, ◌*◌, ℕ, suc, false, List, length, map, None}
use Rattle.std.specs.List.{AllByRecursion}
use Rattle.alone_run.specs.Alone.{alone, is_trouble}
use Rattle.blsm_model.specs.Format.{callers}
use Rattle.blsm_model.specs.Scripts.{lines_of}
use Rattle.blsm_model.specs.declared.history.Line.{Line}
use Rattle.blsm_model.specs.Geometry.{limits_of}
use Rattle.blsm_model.specs.Legal.{IsLegal}
use Rattle.blsm_model.specs.Rows.{puts_of}
use Rattle.blsm_model.specs.Sizes.{Sizes}
use Rattle.blsm_model.specs.Values.{value_at}
use Rattle.blsm_model.specs.declared.key.Key.{Key}
use Rattle.blsm_model.specs.declared.room.Room.{Room}
use Rattle.blsm_model.specs.declared.row.Value.{Value}
use Rattle.disk_trait.specs.Disk.{DiskState, GoesOn}
use Rattle.disk_trait.specs.Moments.{LeavesOnly, LeavesOnlyOnceSynced, IsOldOr}
use Rattle.record_delta.specs.Entries.{Entries, entries_weight}
use Rattle.pacing.specs.Kept.{most_taken}
use Rattle.seat_book.specs.State.{book_of}
use Rattle.tree_machine.specs.declared.step.Step.{Step}
use Rattle.tree_machine.specs.Lists.{value_in}
use Rattle.tree_machine.specs.Machine.{Catalogue, Machine, opened, totals}
use Rattle.tree_machine.specs.Outcomes.{AreTold}
use Rattle.tree_machine.specs.Plays.{played}
use Rattle.tree_machine.specs.Steps.{Outcome, swaps_due}
use Rattle.tree_core.specs.Causes.{pages_first}
use Rattle.tree_core.specs.Core.{CoreState}
use Rattle.tree_file.specs.Tree.{Tree, HoldsTree, ReadsAsMap, components_weight, lists_of}
use Rattle.core_lists.specs.Shown.{HasCommitted, ShowsHistory, doubted, lanes_weight}
use Rattle.core_lists.specs.Standing.{catalogue_of}
use Rattle.tree_reading.specs.Damage.{most_version}
use Rattle.recover_open.specs.Opening.{KeepsMapOf, OpensAs, TakesFew, weight_of_tree}
use Rattle.core_chain.specs.Quanta.{helps_in}
use Rattle.core_chain.specs.Start.{steps_of}
use Rattle.core_chain.specs.Tells.{AreCalled}
use Rattle.core_chain.specs.Steps.{Acknowledges, AllMay, AreTimed, HasOwnSync}
use Rattle.core_chain.specs.Steps.{after_steps, clock_after, clocks_in, floors_in, noted_after, outcomes_in}
use Rattle.store_run.specs.Run.{HasCauses, HaveEnded, HaveRested, Run, finds_damage}

-- The file is a store of these sizes that reads as this map, with a version that is taken.
pub record IsStoreWith (sizes : Sizes) (opening : List (Key × Value)) (file : List ℕ) : Type 0 where
  pub reads : ReadsAsMap sizes opening file
  pub image : Tree
  pub holds : HoldsTree sizes image file
  pub taken : image.catalogue.version ≤ most_version

-- The file holds this state of the machine: a tree of its lists, whose catalogue has its version and its lanes.
pub record HoldsState (sizes : Sizes) (m : Machine) (file : List ℕ) : Type 0 where
  pub tree : Tree
  pub holds : HoldsTree sizes tree file
  pub lists : m.lists ≡ lists_of tree
  pub catalogue : m.catalogue ≡ catalogue_of tree.catalogue

-- The end is reached from the opening by steps of the tree as a machine over lists, with all that is printed: the replies, so a refusal for size
-- names the charge that stood, the quanta and the totals. A step fails only where the disk's count of faults tells it.
pub record IsReached (sizes : Sizes) (opening : List (Key × Value)) (run : Run) (room : Room) (file : List ℕ) (faults_before faults_after : ℕ) : Type 0 where
  pub c1 : Entries
  pub c2 : Entries
  pub catalogue : Catalogue
  -- it begins with the components and the catalogue that the file has, which are the map and weigh what is printed first
  pub begins : HoldsState sizes (opened sizes c1 c2 catalogue faults_before room) file
  pub values : (key : Key) → value_in (opened sizes c1 c2 catalogue faults_before room).lists key ≡ value_at (puts_of opening) key
  pub weigh : entries_weight c1 + entries_weight c2 ≡ run.charge
  pub made : List (Step × Outcome)
  pub told : AreTold (opened sizes c1 c2 catalogue faults_before room) faults_before made faults_after
  pub end : Machine
  pub leads : played (opened sizes c1 c2 catalogue faults_before room) made ≡ end
  pub entries : end.book.entries ≡ run.entries
  pub quanta : end.book.quanta ≡ run.quanta
  pub totals_are : totals end ≡ run.totals

-- the state of the machine that it begins with
abbrev pub begin_of : {sizes : Sizes} {opening : List (Key × Value)} {run : Run} {room : Room} {file : List ℕ} {before after : ℕ} → IsReached sizes opening run room file before after → Machine
begin_of {sizes} {opening} {run} {room} {file} {before} reached = opened sizes reached.c1 reached.c2 reached.catalogue before room

-- What the disk has in the end, also of a store that was stopped: a tree whose components weigh no more than at the opening and what the printed
-- quanta can have taken, a quantum less one and two of the heaviest entries for each, so that no merge work was done in secret; and lanes that weigh
-- no more than the peak, and the write in doubt where one is.
pub record EndsWithin (sizes : Sizes) (run : Run) (file : List ℕ) : Type 0 where
  pub tree : Tree
  pub holds : HoldsTree sizes tree file
  pub components : components_weight tree ≤ run.charge + most_taken sizes * (run.totals.callers + run.totals.workers)
  pub lanes : lanes_weight tree ≤ run.totals.peak + doubted run.entries
  -- a write in doubt stops the store
  pub sure : run.totals.stopped ≡ None → doubted run.entries ≡ 0

-- What the script was answered, and what the steps led to.
pub record IsServed {D : Type 0} (state : D → DiskState) (sizes : Sizes) (run : Run) (room : Room) (first last : DiskState) : Type 0 where
  -- what the disk had
  pub opening : List (Key × Value)
  pub found : IsStoreWith sizes opening first.bytes
  -- of which the opening made nothing heavier
  pub light : run.charge ≤ weight_of_tree found.image
  -- the sequential map's replies, or refusals by name; none tells of a page
  pub replies : IsLegal (limits_of sizes run.charge) opening run.entries
  pub no_page : finds_damage run ≡ false
  -- the opening made no more calls than what the disk had takes, none of which failed, and from there the end is reached
  pub opened : D
  pub starts : GoesOn first (state opened)
  pub takes : TakesFew sizes first (state opened)
  pub goes_on : GoesOn (state opened) last
  pub calm : (state opened).faults ≡ first.faults
  pub reached : IsReached sizes opening run room (state opened).bytes (state opened).faults last.faults
  pub within : EndsWithin sizes run last.bytes
  -- as the disk reads and in each image its catalogue has the version to which the steps led, or the next one where a commit failed and stopped the store
  pub commits : HasCommitted sizes reached.end.catalogue.version last
  -- unless a fault stopped the store, the disk has just the components, the tables and the catalogue to which the steps led
  pub stands : run.totals.stopped ≡ None → HoldsState sizes reached.end last.bytes

-- The moments of the steps, of which one is one hold of the lock: once the first n had ended, each image shows all entries that they had noted. They are the
-- steps of these calls of the core.
pub record HaveMoments {D : Type 0} (state : D → DiskState) (calls : List (Step × CoreState D)) (sizes : Sizes) (opening : List (Key × Value)) (run : Run) (begin : Machine) (made : List (Step × Outcome))
    (opened : CoreState D) (last : DiskState) : Type 0 where
  -- the steps, each with the clock of the disk that its call left
  pub steps : List (Step × Outcome × ℕ)
  pub same : outcomes_in steps ≡ made
  pub clocks_are : clocks_in steps ≡ map (λ one. (state one.1.disk).clock) calls
  -- clocks rise, by no more than a step may call the disk there, with the floor of table A before its call, and so stand where it calls none
  pub timed : AreTimed begin (floors_in opened calls) (state opened.disk).clock steps last.clock
  -- and, by the cores before and after it, by no more than its call may: a next that gives rows reads the pages that its hold passed, and three
  pub called : AreCalled state opened calls
  -- each might be made where it stands
  pub may : AllMay begin made
  pub shows : (n t : ℕ) (c : List ℕ) → clock_after (state opened.disk).clock n steps ≤ t → last.images_since t c
      → ShowsHistory sizes opening run.entries (length (noted_after begin n steps)) c
  -- A write was acknowledged behind the first n steps: by the end of its own step, and later than theirs, a sync of its own ended well, which the disk's last state
  -- tells still. So n writes that were acknowledged have n such moments, which rise.
  pub acknowledged : (n : ℕ) → (it : Acknowledges begin n steps)
      → HasOwnSync (pages_first it.entry.op) (swaps_due (after_steps begin n steps)) (clock_after (state opened.disk).clock n steps)
      (clock_after (state opened.disk).clock (suc n) steps) last

-- What a crash leaves while the history is made. The disk was `first` before the call, that of `opened` when the store was open, and is `last` after
-- it.
pub record LeavesHistory {D : Type 0} (state : D → DiskState) (calls : List (Step × CoreState D)) (sizes : Sizes) (opening : List (Key × Value)) (run : Run) (begin : Machine) (made : List (Step × Outcome))
    (first : DiskState) (opened : CoreState D) (last : DiskState) : Type 0 where
  -- up to the opening nothing of the history was written
  pub begins : KeepsMapOf sizes opening first (state opened.disk)
  -- each image of each moment is one from before, or shows a front of the history; since the first sync of the opening each shows one
  pub each : LeavesOnly first last (IsOldOr first.images (ShowsHistory sizes opening run.entries 0))
  pub once_synced : LeavesOnlyOnceSynced first last (ShowsHistory sizes opening run.entries 0)
  pub moments : HaveMoments state calls sizes opening run begin made opened last
  -- in the end each image shows the whole, and so does the disk as it reads
  pub whole : (c : List ℕ) → last.images c → ShowsHistory sizes opening run.entries (length run.entries) c
  pub shown : ShowsHistory sizes opening run.entries (length run.entries) last.bytes

-- the history that is printed is what this state of the machine has
pub record IsPrinted (run : Run) (m : Machine) : Type 0 where
  pub entries : run.entries ≡ m.book.entries
  pub quanta : run.quanta ≡ m.book.quanta
  pub totals_are : run.totals ≡ totals m

-- no reply tells of a fault, of a damaged page or of want of memory, and nothing stopped the store
pub record IsCalm (run : Run) : Type 0 where
  pub replies : AllByRecursion (λ e. is_trouble e.reply ≡ false) run.entries
  pub runs : run.totals.stopped ≡ None

-- With one caller and no worker, and where all went well, the history that is printed is one function of the state that the run begins with and the
-- script. What is held of the memory table isn't: the machine has no word of it.
abbrev pub Solo : List Line → ℕ → Run → Machine → Type 0
Solo lines workers run begin = (seat : ℕ) → seat < callers → AllByRecursion (λ l. l.seat ≡ seat) lines → workers ≡ 0 → IsCalm run → IsPrinted run (alone seat begin (lines_of seat lines))

-- Of one thread, in the order of the lines: none of its steps was a worker's turn, its callers rest in the end, and of one caller alone the text is that function.
pub record IsServedInOrder {D : Type 0} (state : D → DiskState) (sizes : Sizes) (lines : List Line) (run : Run) (room : Room) (first last : DiskState) : Type 0 where
  pub served : IsServed state sizes run room first last
  pub rests : HaveRested served.reached.end.gears (book_of served.reached.end)
  pub unhelped : helps_in (map (λ one. one.0) served.reached.made) ≡ 0
  pub solo : Solo lines 0 run (begin_of served.reached)

-- so many merge workers, each of which takes so many turns at most
pub record Headline {D : Type 0} (state : D → DiskState) (sizes : Sizes) (lines : List Line) (workers turns : ℕ) (run : Run) (room : Room) (first last : D) : Type 0 where
  -- the calls of the core that led here, as on every disk; the one that they begin with stands for what the disk read as
  pub causes : HasCauses state room run first last
  pub sizes_are : causes.opened.held.runs.sizes ≡ sizes
  pub opens : OpensAs state room causes.opened (state first).bytes
  pub served : IsServed state sizes run room (state first) (state last)
  -- they are the steps to the end, from the disk that the opening left
  pub opened_is : served.opened ≡ causes.opened.disk
  pub steps_are : map (λ one. one.0) served.reached.made ≡ steps_of causes.calls
  pub ended : HaveEnded workers turns served.reached.end.gears (book_of served.reached.end)
  -- each quantum of a worker was a turn of one
  pub helped : run.totals.workers ≤ helps_in (map (λ one. one.0) served.reached.made)
  pub solo : Solo lines workers run (begin_of served.reached)
  pub crashes
      : LeavesHistory state causes.calls sizes served.opening run (begin_of served.reached) served.reached.made (state first) causes.opened
      (state last)
