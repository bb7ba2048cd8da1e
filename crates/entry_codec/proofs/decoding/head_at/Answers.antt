use Rattle.std.proofs.Common.{arith}
use Rattle.entry_codec.proofs.SpellingLemmas.{head_read}
use Rattle.entry_codec.proofs.decoding.head_at.Goals as goal

pub returns-clause-parts : goal.returns-clause-parts
returns-clause-parts c = rw (c.from_be_bytes.ensures, c.from_be_bytes-2.ensures, c.from_be_bytes-3.ensures) (head_read c.args.bytes.now c.requires (λ i. omega (arith, c.type_inv.bytes i)))
