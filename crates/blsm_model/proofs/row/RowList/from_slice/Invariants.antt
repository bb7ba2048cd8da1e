use Rattle.std.proofs.Common.{◌≡◌, take}
use Rattle.blsm_model.proofs.row.RowList.from_slice.Given as goal

-- the rows so far
abbrev pub invariant-loop-row : goal.invariant-loop-row
invariant-loop-row l = l.list ≡ take l.row-index l.rows
