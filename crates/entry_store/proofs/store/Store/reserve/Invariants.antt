use Rattle.std.proofs.Common.{◌≡◌, length}
use Rattle.entry_store.specs.Chains.{AreLinked}
use Rattle.entry_store.proofs.store.Store.reserve.Given as goal

abbrev pub invariant-chunks : goal.invariant-chunks
invariant-chunks l = (length l.chunks.items ≡ l.number) × AreLinked l.chunks.items
