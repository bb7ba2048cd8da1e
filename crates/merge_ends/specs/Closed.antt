-- What a quantum leaves of the closed pages of its run.
use Rattle.std.specs.Prelude.{ℕ, IsTrue, List, Option}
use Rattle.std.specs.List.{Contains}
use Rattle.disk_trait.specs.Disk.{DiskState}
use Rattle.disk_trait.specs.Moments.{LeavesOnly}
use Rattle.blsm_model.specs.declared.component.Component.{Component}
use Rattle.blsm_model.specs.Sizes.{Sizes}
use Rattle.page_space.specs.Space.{SpaceState}
use Rattle.page_file.specs.Component.{RunPage, ReadsOn, numbers_of}
use Rattle.run_writer.specs.Closed.{IsClosedPage}
use Rattle.run_writer.specs.Writer.{WriterState}

-- these pages are closed ones
abbrev pub AreClosed : SpaceState → WriterState → List RunPage → Type 0
AreClosed space writer pages = (n : ℕ) → Contains (numbers_of pages) n → IsClosedPage space writer n

-- Closed pages stay closed, and none is written: what reads on some of them reads so still, and in each image of each moment where it did in each
-- image before.
pub record KeepsClosed (sizes : Sizes) (space after : SpaceState) (writer next : WriterState) (old new : DiskState) : Type 0 where
  pub still : (n : ℕ) → IsClosedPage space writer n → IsClosedPage after next n
  pub reads : (run : Component) (pages : List RunPage) (end : Option ℕ) → IsTrue old.is_honest → AreClosed space writer pages
      → ReadsOn sizes run pages end old.bytes → ReadsOn sizes run pages end new.bytes
  pub each : (run : Component) (pages : List RunPage) (end : Option ℕ) → IsTrue old.is_honest → AreClosed space writer pages
      → ((c : List ℕ) → old.images c → ReadsOn sizes run pages end c) → LeavesOnly old new (ReadsOn sizes run pages end)
