use Rattle.std.proofs.Common.{◌≡◌, length, take}
use Rattle.std.specs.Prelude.{IsTrue}
use Rattle.blsm_model.specs.Geometry.{page_count, file_length}
use Rattle.disk_trait.specs.Disk.{GoesOn}
use Rattle.run_writer.specs.Writer.{IsInside, HasEntries, HasPushed}
use Rattle.run_tests.proofs.writers.write_all.Given as goal

abbrev pub invariant-loop-entry : goal.invariant-loop-entry
invariant-loop-entry g l = record {
  pages : l.space.pages ≡ page_count l.geo;
  inside : IsInside (page_count l.geo) l.writer;
  begun : HasEntries l.writer;
  goes_on : GoesOn (g.D.Disk.state l.fn.disk) (g.D.Disk.state l.disk);
  long : IsTrue (g.D.Disk.state l.fn.disk).tells_bytes → length (g.D.Disk.state l.disk).bytes ≡ file_length l.geo;
  pushed : HasPushed l.geo (g.D.Disk.state l.disk).is_honest (g.D.Disk.state l.disk).bytes l.space l.writer l.filter l.fences (take l.entry-index l.entries);
}
