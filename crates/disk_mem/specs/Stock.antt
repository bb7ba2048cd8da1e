-- What the parts of a shelf in memory stand for.
use Rattle.std.specs.Prelude.{map, string_bytes}
use Rattle.disk_mem.specs.Shelved.{Shelved}
use Rattle.disk_mem.specs.declared.stock.Stock.{Stock}

abbrev pub shelved : Stock → Shelved
shelved s = record {
  names = map string_bytes s.names.items;
  disks = s.disks.items;
  fetched = s.fetched.items;
  room = s.room;
  past = s.past;
  faults = s.faults;
}
