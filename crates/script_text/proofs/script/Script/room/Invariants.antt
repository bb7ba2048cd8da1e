use Rattle.std.proofs.Common.{◌≡◌, sum, length, take}
use Rattle.script_text.specs.Grammar.{all_rows_asked}
use Rattle.script_text.proofs.RoomLemmas.{AreCounts, AreAsked}
use Rattle.script_text.proofs.script.Script.room.Given as goal

abbrev pub invariant-loop-line : goal.invariant-loop-line
invariant-loop-line l = record {
  sixteen : length l.entries ≡ 16;
  counts : AreCounts l.entries l.lines l.line-index;
  all : sum l.entries ≡ l.line-index;
  also_sixteen : length l.rows ≡ 16;
  asked : AreAsked l.rows l.lines l.line-index;
  all_asked : sum l.rows ≡ all_rows_asked (take l.line-index l.lines);
}
