use Rattle.std.proofs.Common.{◌≡◌, ◌/◌}
use Rattle.blsm_model.specs.Format.{most_lines, most_rows_asked}
use Rattle.store_serve.proofs.RoomLemmas.{dealt_to}
use Rattle.store_serve.proofs.room.share.Given as goal

abbrev pub invariant-loop-at : goal.invariant-loop-at
invariant-loop-at l = record {
  entries : l.room.entries ≡ dealt_to l.at (most_lines / l.count);
  rows : l.room.rows ≡ dealt_to l.at (most_rows_asked / l.count);
}
