-- Several entries that are written one after the other: what a command writes.
use Rattle.std.specs.Prelude.{List, fold, map}
use Rattle.blsm_model.specs.declared.op.Write.{Write}
use Rattle.blsm_model.specs.Values.{key_of}
use Rattle.record_delta.specs.Records.{record_of}
use Rattle.record_delta.specs.Entries.{Entries, with_record}

-- the entries of writes, the oldest first
abbrev pub entries_of : List Write → Entries
entries_of writes = map (λ w. (key_of w, record_of w)) writes

-- with each of the entries in turn folded over the one of its key
abbrev pub with_records : Entries → Entries → Entries
with_records more entries = fold (λ table e. with_record e.0 e.1 table) entries more
