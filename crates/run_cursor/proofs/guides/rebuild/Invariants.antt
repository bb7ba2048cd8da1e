use Rattle.std.proofs.Common.{◌≡◌, ◌+◌, ◌*◌, ◌^◌, ◌≤◌, ℕ, List, Option, IsTrue}
use Rattle.blsm_model.specs.Geometry.{file_length}
use Rattle.bloom_bits.specs.Filter.{rounded}
use Rattle.bloom_bits.specs.Guides.{KeepSized}
use Rattle.disk_trait.specs.Reads.{OnlyReads}
use Rattle.page_file.specs.Component.{RunPage, ReadsOn}
use Rattle.run_cursor.proofs.RebuildLemmas.{Building}
use Rattle.run_cursor.proofs.guides.rebuild.Given as goal

-- the filter has the keys of the pages that were read, and the fences are theirs
abbrev pub invariant-loop : goal.invariant-loop
invariant-loop g l = record {
  effect : OnlyReads (file_length l.geo) l.run.pages (g.D.Disk.state l.fn.disk) (g.D.Disk.state l.disk);
  calls : (g.D.Disk.state l.disk).clock ≤ (g.D.Disk.state l.fn.disk).clock + l.counter;
  stands : (g.D.Disk.state l.disk).faults ≡ (g.D.Disk.state l.fn.disk).faults;
  reserves : KeepSized (rounded l.bits) l.fn.filter l.filter l.fn.fences l.fences;
  few : l.at.entries ≤ 2 ^ 16 * l.counter;
  light : l.at.weight ≤ 2 ^ 16 * l.counter;
  building : (pages : List RunPage) (next : Option ℕ) → IsTrue (g.D.Disk.state l.fn.disk).is_honest → ReadsOn l.geo l.run pages next (g.D.Disk.state l.fn.disk).bytes
      → Building l.geo l.counter l.at l.filter l.fences pages next (g.D.Disk.state l.fn.disk).bytes;
}
