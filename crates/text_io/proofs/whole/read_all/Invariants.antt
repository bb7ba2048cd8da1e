use Rattle.std.proofs.Common.{◌≡◌, ◌≤◌, ◌-◌, vec_len, Some, ◌++◌, IfSome, List, ℕ}
use Rattle.text_io.proofs.whole.read_all.Given as goal

abbrev pub invariant-loop-bytes : goal.invariant-loop-bytes
invariant-loop-bytes g l = record {
  within : vec_len l.bytes ≤ l.limit;
  read : IfSome (g.S.Source.state l.fn.source).left (λ left. (rest : List ℕ) × ((g.S.Source.state l.source).left ≡ Some rest) × (left ≡ l.bytes.items ++ rest));
  calm : (g.S.Source.state l.source).faults ≡ (g.S.Source.state l.fn.source).faults;
}

abbrev pub decreases-loop-bytes : goal.decreases-loop-bytes
decreases-loop-bytes g l = l.limit - vec_len l.bytes
