use Rattle.std.proofs.Common.{arith, ap, ◌∙◌, ◌/◌, ℕ, List, slice_set}
use Rattle.blsm_model.specs.Format.{most_lines, most_rows_asked}
use Rattle.store_serve.proofs.RoomLemmas.{dealt_more}
use Rattle.store_serve.proofs.room.share.Goals as goal

pub loop-at-preserved : goal.loop-at-preserved
loop-at-preserved c = record {
  entries = ap (λ (l : List ℕ). slice_set l c.loop-at.at (most_lines / c.args.count)) c.loop-at.invariant.entries ∙ dealt_more c.loop-at.at (most_lines / c.args.count) (omega arith);
  rows = ap (λ (l : List ℕ). slice_set l c.loop-at.at (most_rows_asked / c.args.count)) c.loop-at.invariant.rows ∙ dealt_more c.loop-at.at (most_rows_asked / c.args.count) (omega arith);
}
