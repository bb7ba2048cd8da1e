use Rattle.std.proofs.Common.{[], ◌∷◌, ◌≡◌, ◌+◌, ◌≤◌, length}
use Rattle.blsm_model.specs.Geometry.{page_count, file_length}
use Rattle.disk_mem.specs.Recorded.{told}
use Rattle.page_space.specs.Space.{role_size}
use Rattle.merge_ends.specs.Input.{left_in}
use Rattle.merge_ends.specs.Output.{TakesPages}
use Rattle.merge_ends.specs.Progress.{IsRunning}
use Rattle.merge_trip.proofs.helpers.Store.pass.Given as goal

abbrev pub invariant-quanta : goal.invariant-quanta
invariant-quanta g l = record {
  pages : l.space.pages ≡ page_count l.geo;
  long : length (told l.disk).bytes ≡ file_length l.geo;
  running : IsRunning l.geo (told l.disk).is_honest (told l.disk).bytes l.space l.snow.writer l.snow.at (l.snow.c1 ∷ []) l.filter l.fences;
  takes : TakesPages l.fn.role l.fn.self.space l.space;
  size : role_size l.space l.fn.role ≡ role_size l.fn.self.space l.fn.role + l.snow.writer.component.pages;
  role : l.snow.writer.role ≡ l.fn.role;
  light : l.snow.writer.component.weight ≤ l.total;
  left : left_in l.snow.at l.snow.c1 ≤ l.c1.weight;
  reserved : l.fences.reserved ≡ page_count l.geo;
}
