use Rattle.std.proofs.Common.{length}
use Rattle.script_text.proofs.ScriptLemmas.{SoFar}
use Rattle.ship_text.specs.Reading.{AreShips}
use Rattle.ship_text.specs.Ships.{ship_line}
use Rattle.ship_text.proofs.reading.read_lines.Given as goal

abbrev pub invariant-loop-rest : goal.invariant-loop-rest
invariant-loop-rest l = record { are : AreShips l.ships.items; so_far : SoFar ship_line l.text l.ships.items l.rest }

abbrev pub decreases-loop-rest : goal.decreases-loop-rest
decreases-loop-rest l = length l.rest
