-- Where a tree stands in its file, and the trees that a write leaves.
use Rattle.std.specs.Prelude.{◌≡◌, ◌⊎◌, ℕ, Bool, List, [], ◌∷◌, IsTrue, nat_eq}
use Rattle.std.specs.List.{IsDistinct}
use Rattle.disk_trait.specs.Disk.{DiskState}
use Rattle.disk_trait.specs.Moments.{LeavesOnly}
use Rattle.blsm_model.specs.Sizes.{Sizes}
use Rattle.blsm_model.specs.Lanes.{a_of, b_of, spare_of}
use Rattle.record_delta.specs.Entries.{Entries}
use Rattle.gated_log.specs.Lane.{no_lane, with_more}
use Rattle.page_file.specs.Component.{RunPage, ReadsAs, entries_of}
use Rattle.catalog_swap.specs.declared.catalog.Catalog.{Catalog}
use Rattle.catalog_swap.specs.Swap.{IsSettled}
use Rattle.tree_machine.specs.Layers.{AreBases}
use Rattle.tree_file.specs.Tree.{Tree, HasProgress, HoldsTree, live_pages}

-- with one record more in lane A, or in lane B, of these entries
abbrev pub appended_a : Entries → Tree → Tree
appended_a more tree = record tree { lane_a = with_more tree.lane_a more }

abbrev pub appended_b : Entries → Tree → Tree
appended_b more tree = record tree { lane_b = with_more tree.lane_b more }

-- the tree of another catalogue, which has other components on these pages, names no deep merge's progress, and has the same lanes
abbrev pub with_components : Catalog → (c1 c1x c2 : List RunPage) → Tree → Tree
with_components next c1 c1x c2 tree = record { catalogue = next; c1 = c1; c1x = c1x; c2 = c2; output = []; lane_a = tree.lane_a; lane_b = tree.lane_b }

-- or that of one which may name what a deep merge has finished, on these pages, and whose lanes are turned: lane B is lane A then, and the spare
-- lane, which is empty, lane B
abbrev pub with_pass : Catalog → (c1 c1x c2 output : List RunPage) → Tree → Tree
with_pass next c1 c1x c2 output tree =
    record { catalogue = next; c1 = c1; c1x = c1x; c2 = c2; output = output; lane_a = tree.lane_b; lane_b = no_lane }

-- The lanes' roles stay, or they turn.
abbrev pub KeepsRoles : Catalog → Catalog → Type 0
KeepsRoles now next = next.lanes ≡ now.lanes

abbrev pub TurnsRoles : Catalog → Catalog → Type 0
TurnsRoles now next = next.lanes ≡ b_of now.lanes ∷ spare_of now.lanes ∷ a_of now.lanes ∷ []

-- the file holds the one tree or the other
abbrev pub HoldsEither : Sizes → Tree → Tree → List ℕ → Type 0
HoldsEither sizes one other file = HoldsTree sizes one file ⊎ HoldsTree sizes other file

-- The disk reads as a file that holds the tree, and so does each image, with the slots as they read.
pub record StandsOn (sizes : Sizes) (tree : Tree) (d : DiskState) : Type 0 where
  pub reads : HoldsTree sizes tree d.bytes
  pub each : (c : List ℕ) → d.images c → HoldsTree sizes tree c
  pub settled : IsSettled sizes tree.catalogue d

-- after a write that failed: the one tree or the other, in each image and as the disk reads
pub record StandsOnEither (sizes : Sizes) (one other : Tree) (d : DiskState) : Type 0 where
  pub reads : HoldsEither sizes one other d.bytes
  pub each : (c : List ℕ) → d.images c → HoldsEither sizes one other c

-- In this file the next tree's components read on its pages, none of which is in two of them, C2 has bases only, and its finished pages are what
-- its catalogue names.
pub record ReadsNext (sizes : Sizes) (next : Tree) (file : List ℕ) : Type 0 where
  pub c1 : ReadsAs sizes next.catalogue.c1 next.c1 file
  pub c1x : ReadsAs sizes next.catalogue.c1x next.c1x file
  pub c2 : ReadsAs sizes next.catalogue.c2 next.c2 file
  pub apart : IsDistinct nat_eq (live_pages next)
  pub bases : AreBases (entries_of next.c2)
  pub progress : HasProgress sizes next.catalogue.progress next file

-- One tree becomes another: at each moment, and now, there is the one or the other; once it is done, the other stands.
pub record Becomes (sizes : Sizes) (one other : Tree) (done : Bool) (old new : DiskState) : Type 0 where
  pub each : LeavesOnly old new (HoldsEither sizes one other)
  pub either : StandsOnEither sizes one other new
  pub stands : IsTrue done → StandsOn sizes other new
