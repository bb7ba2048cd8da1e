-- A shelf that tells nothing but how often it has failed.
use Rattle.std.specs.Prelude.{ℕ, false, None, []}
use Rattle.disk_trait.specs.Shelf.{ShelfState}

abbrev pub untold_shelf : {D : Type 0} → ℕ → ShelfState D
untold_shelf faults = record {
  tells_disks = false;
  disk_at = λ _. None;
  is_out = λ _. false;
  tells_fetches = false;
  fetches = [];
  faults = faults;
}
