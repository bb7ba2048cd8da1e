-- A shelf in memory as contracts see it.
use Rattle.std.specs.Prelude.{◌≡◌, ◌≤◌, ◌⊎◌, ℕ, Bool, true, Option, None, List, [], length}
use Rattle.disk_trait.specs.Shelf.{ShelfState}
use Rattle.disk_mem.specs.Recorded.{Recorded}
use Rattle.disk_mem.specs.Places.{disk_under, is_out_under, all_noted}

pub record Shelved : Type 0 where
  -- the names, and under each its disk, unless that one is out
  pub names : List (List ℕ)
  pub disks : List (Option Recorded)
  -- the fetches in order, each with the place of its name; how many of them there is room for, and how many came past it
  pub fetched : List (Option (ℕ × Bool))
  pub room : ℕ
  pub past : ℕ
  pub faults : ℕ

abbrev pub shelf_state : Shelved → ShelfState Recorded
shelf_state s = record {
  tells_disks = true;
  disk_at = disk_under s.names s.disks;
  is_out = is_out_under s.names s.disks;
  tells_fetches = true;
  fetches = all_noted s.names s.fetched s.past;
  faults = s.faults;
}

-- an empty shelf with room for so many fetches
abbrev pub new_shelf : ℕ → Shelved
new_shelf room = record { names = []; disks = []; fetched = []; room = room; past = 0; faults = 0 }

-- A fetch fails where no disk stands under the name, and past the room for fetches.
abbrev pub FailsToFetch : List ℕ → Shelved → Type 0
FailsToFetch name s = (disk_under s.names s.disks name ≡ None) ⊎ (s.room ≤ length (all_noted s.names s.fetched s.past))
