-- What the parts of a disk in memory stand for.
use Rattle.std.specs.Prelude.{map}
use Rattle.disk_mem.specs.Calls.{events}
use Rattle.disk_mem.specs.Recorded.{Recorded}
use Rattle.disk_mem.specs.declared.recorder.Recorder.{Recorder}
use Rattle.disk_mem.specs.Changes.{change_of}

abbrev pub recorded : Recorder → Recorded
recorded d = record {
  first = d.first.items;
  events = events d.calls.items d.written.items;
  past = d.past;
  bytes = d.bytes.items;
  limit = d.limit;
  kept = d.kept;
  fails = d.fails.items;
  stop = d.stop;
  changes = map change_of d.pokes.items;
  faults = d.faults;
}
