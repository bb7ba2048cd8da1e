use Rattle.std.proofs.Common.{◌≡◌, ◌≤◌, take}
use Rattle.std.specs.List.{count_by}
use Rattle.script_text.specs.Summary.{is_of}
use Rattle.script_text.proofs.summary.count_entries.Given as goal

abbrev pub invariant-loop-place : goal.invariant-loop-place
invariant-loop-place l = record {
  few : l.total ≤ l.place;
  so_far : l.total ≡ count_by (is_of l.kind) (take l.place l.annals.entries);
}
