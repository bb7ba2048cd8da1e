use Rattle.std.proofs.Common.{[], ◌∷◌, ◌≡◌, ◌+◌, ◌≤◌, length}
use Rattle.blsm_model.specs.Geometry.{page_count, file_length}
use Rattle.disk_mem.specs.Recorded.{told}
use Rattle.page_space.specs.Space.{role_size}
use Rattle.merge_ends.specs.Input.{left_in}
use Rattle.merge_ends.specs.Output.{TakesPages}
use Rattle.merge_ends.specs.Progress.{IsRunning}
use Rattle.merge_trip.proofs.helpers.Store.deep.Given as goal

abbrev pub invariant-quanta : goal.invariant-quanta
invariant-quanta g l = record {
  pages : l.space.pages ≡ page_count l.geo;
  long : length (told l.disk).bytes ≡ file_length l.geo;
  running : IsRunning l.geo (told l.disk).is_honest (told l.disk).bytes l.space l.deep.writer l.deep.at (l.deep.c1x ∷ l.deep.c2 ∷ []) l.filter l.fences;
  takes : TakesPages l.fn.role l.fn.self.space l.space;
  size : role_size l.space l.fn.role ≡ role_size l.fn.self.space l.fn.role + l.deep.writer.component.pages;
  role : l.deep.writer.role ≡ l.fn.role;
  light : l.deep.writer.component.weight ≤ l.total;
  newer : left_in l.deep.at l.deep.c1x ≤ l.c1x.weight;
  older : left_in l.deep.at l.deep.c2 ≤ l.c2.weight;
  reserved : l.fences.reserved ≡ page_count l.geo;
}
