use Rattle.std.proofs.Common.{◌≡◌, length}
use Rattle.entry_store.proofs.StoreLemmas.{AreLinkedTo}
use Rattle.entry_store.proofs.chunks.link_all.Given as goal

abbrev pub invariant-chunks : goal.invariant-chunks
invariant-chunks l = (length l.chunks ≡ length l.initial.chunks) × AreLinkedTo l.number l.chunks
