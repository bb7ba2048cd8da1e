use Rattle.std.proofs.Common.{◌≡◌, List, length}
use Rattle.blsm_model.specs.declared.key.Key.{Key}
use Rattle.bloom_bits.specs.Filter.{HasKeys}
use Rattle.record_delta.specs.Entries.{Entries}
use Rattle.page_file.specs.Entry.{entries_bytes, AreEntries}
use Rattle.run_cursor.proofs.RebuildLemmas.{Adding}
use Rattle.run_cursor.proofs.guides.add_keys.Given as goal

abbrev pub invariant-loop-key : goal.invariant-loop-key
invariant-loop-key l = record {
  reserved : l.filter.reserved ≡ l.fn.filter.reserved;
  bits : length l.filter.bits ≡ length l.fn.filter.bits;
  adding : (keys : List Key) (entries : Entries) → HasKeys l.fn.filter keys → AreEntries entries → l.bytes ≡ entries_bytes entries → Adding keys entries l.filter l.rest;
}

abbrev pub decreases-loop-key : goal.decreases-loop-key
decreases-loop-key l = length l.rest
