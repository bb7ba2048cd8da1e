use Rattle.std.specs.Io.KnownBytes.{Keeps}
use Rattle.real_edge.proofs.sink.write_through.Given as goal

-- so far no byte was taken
abbrev pub invariant-loop : goal.invariant-loop
invariant-loop g l = Keeps (g.W.Write.contents l.fn.writer) (g.W.Write.contents l.writer)
