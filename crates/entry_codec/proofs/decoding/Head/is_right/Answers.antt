use Rattle.std.proofs.Common.{arith}
use Rattle.entry_codec.proofs.SpellingLemmas.{from_head, to_kind}
use Rattle.entry_codec.proofs.decoding.Head.is_right.Goals as goal

pub returns-then-text_len-le-MAX_LEN-clause-some : goal.returns-then-text_len-le-MAX_LEN-clause-some
returns-then-text_len-le-MAX_LEN-clause-some c = λ some bytes long.
    let fits = c.if-text_len-le-MAX_LEN.true in
    from_head c.args.self bytes (omega arith) fits.0 fits.1 fits.2 long (c.has_record.ensures.some some)

pub returns-then-text_len-le-MAX_LEN-clause-only : goal.returns-then-text_len-le-MAX_LEN-clause-only
returns-then-text_len-le-MAX_LEN-clause-only c = λ bytes key rec parts. c.has_record.ensures.only _ rec parts.text_len_is (to_kind c.args.self bytes key rec parts)
