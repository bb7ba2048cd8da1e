-- What a trial leaves to be printed.
use Rattle.std.specs.Prelude.{◌≡◌, ℕ, ◌<◌, None, List, [], length, map, slice_index}
use Rattle.blsm_model.specs.Geometry.{file_length}
use Rattle.blsm_model.specs.Format.{callers}
use Rattle.blsm_model.specs.Scripts.{lines_of, rows_asked}
use Rattle.blsm_model.specs.Sizes.{default_sizes}
use Rattle.blsm_model.specs.declared.history.Line.{Line}
use Rattle.blsm_model.specs.declared.room.Room.{Room}
use Rattle.core_chain.specs.Quanta.{helps_in}
use Rattle.disk_mem.specs.Faultless.{Faultless, faultless_state}
use Rattle.recover_open.specs.Making.{IsEmptyStore}
use Rattle.script_text.specs.Generated.{generated}
use Rattle.seat_book.specs.State.{book_of}
use Rattle.tree_session.specs.Faults.{faults_told}
use Rattle.store_run.specs.Run.{HaveRested, IsRunInOrder, Run}
use Rattle.store_run.specs.Headline.{IsServed, Solo, begin_of}

-- Each caller has room for just its lines, and for just the rows that they ask for.
pub record IsRoomOf (room : Room) (lines : List Line) : Type 0 where
  pub entries : (seat : ℕ) → seat < callers → slice_index room.entries seat ≡ length (lines_of seat lines)
  pub rows : (seat : ℕ) → seat < callers → slice_index room.rows seat ≡ rows_asked seat lines

-- The disk has an empty store of the default geometry and no room for more than its file, and no call failed yet.
pub record IsFreshStore (disk : Faultless) : Type 0 where
  pub empty : IsEmptyStore default_sizes disk.bytes
  pub long : length disk.bytes ≡ file_length default_sizes
  pub limit : disk.limit ≡ file_length default_sizes
  pub faults : disk.faults ≡ 0

-- The script that this seed makes was run over the empty store of the default geometry that was made, without a fault and without damage, and this
-- disk came back. All of the headline holds of it that one thread has, but for crash images, of which such a disk tells none.
pub record IsTrialOf (seed count : ℕ) (run : Run) (last : Faultless) : Type 0 where
  pub printed : IsRunInOrder default_sizes (generated seed count) run
  -- the disk before the run, on which the store was made
  pub made : Faultless
  pub fresh : IsFreshStore made
  pub room : Room
  pub room_is : IsRoomOf room (generated seed count)
  -- it has become this one: the opening failed in no call, the end is reached from there, and then the disk has just what those steps led to
  pub served : IsServed faultless_state default_sizes run room (faultless_state made) (faultless_state last)
  pub empty : served.opening ≡ []
  -- the caller rests in the end, owing nothing, no worker took a turn, and the text is one function of the store that was made and the script
  pub rests : HaveRested served.reached.end.gears (book_of served.reached.end)
  pub unhelped : helps_in (map (λ one. one.0) served.reached.made) ≡ 0
  pub solo : Solo (generated seed count) 0 run (begin_of served.reached)
  -- nothing was charged at the opening
  pub nothing : run.charge ≡ 0
  pub untold : faults_told run.entries ≡ 0
  pub runs : run.totals.stopped ≡ None
  pub calm : last.faults ≡ 0
