-- What only lemmas say: no clause names these.
use Rattle.std.specs.Prelude.{None}
use Rattle.disk_trait.specs.Shelf.{Fetch}
use Rattle.disk_mem.specs.Recorded.{Recorded}
use Rattle.disk_mem.specs.Replayed.{IsReplayed}

abbrev pub unnoted : Fetch
unnoted = None

abbrev pub IsConsistent : Recorded → Type 0
IsConsistent d = IsReplayed d.first d.events d.changes d.bytes
