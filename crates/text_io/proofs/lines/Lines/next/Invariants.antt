use Rattle.std.proofs.Common.{◌≡◌, ◌+◌, ◌-◌, ◌⊎◌, length}
use Rattle.text_io.specs.Lines.{KeepsLeft, LacksLine}
use Rattle.text_io.proofs.lines.Lines.next.Given as goal

abbrev pub invariant-loop-self : goal.invariant-loop-self
invariant-loop-self g l = record {
  left : KeepsLeft l.fn.self l.self (g.S.Source.state l.fn.source) (g.S.Source.state l.source);
  asked : LacksLine l.fn.self ⊎ ((l.self ≡ l.fn.self) × (g.S.Source.state l.source ≡ g.S.Source.state l.fn.source));
  calm : (g.S.Source.state l.source).faults ≡ (g.S.Source.state l.fn.source).faults;
  longest : l.self.longest ≡ l.fn.self.longest;
}

abbrev pub decreases-loop-self : goal.decreases-loop-self
decreases-loop-self g l = l.self.longest + 1 - length l.self.ahead
