use Rattle.std.proofs.Common.{◌≡◌, ◌≤◌, length}
use Rattle.std.specs.List.{All}
use Rattle.script_text.specs.Grammar.{IsAllowed, all_rows_asked, line_text}
use Rattle.script_text.proofs.ScriptLemmas.{SoFar}
use Rattle.script_text.proofs.script.read_lines.Given as goal

abbrev pub invariant-loop-rest : goal.invariant-loop-rest
invariant-loop-rest l = record {
  allowed : All IsAllowed l.lines.items;
  few : length l.lines.items ≤ 65536;
  few_asked : l.asked ≤ 131072;
  asked : l.asked ≡ all_rows_asked l.lines.items;
  so_far : SoFar line_text l.text l.lines.items l.rest;
}

abbrev pub decreases-loop-rest : goal.decreases-loop-rest
decreases-loop-rest l = length l.rest
