use Rattle.std.proofs.Common.{◌≡◌, ◌-◌, ◌≤◌, ◌++◌, length}
use Rattle.std.specs.Prelude.{vec_capacity}
use Rattle.script_text.specs.Generated.{generated}
use Rattle.script_text.proofs.generator.generate.Given as goal

-- what was made, and what is still to be made, for which there is room
abbrev pub invariant-loop-generator : goal.invariant-loop-generator
invariant-loop-generator l = record {
  few : length l.lines.items ≤ l.count;
  room : l.count ≤ vec_capacity l.lines;
  whole : l.lines.items ++ generated l.generator.state (l.count - length l.lines.items) ≡ generated l.seed l.count;
}

abbrev pub decreases-loop-generator : goal.decreases-loop-generator
decreases-loop-generator l = l.count - length l.lines.items
