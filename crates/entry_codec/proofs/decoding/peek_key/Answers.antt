use Rattle.std.proofs.Common.{◌∙◌, length, drop, ap, sym, arith, ℕ, List}
use Rattle.std.proofs.lemmas.Bool.{false≢true}
use Rattle.std.proofs.lemmas.Slice.{between_to_end}
use Rattle.entry_codec.proofs.SpellingLemmas.{too_short, to_parts, found_key, too_few}
use Rattle.entry_codec.proofs.decoding.peek_key.Goals as goal

pub returns-then-bytes-lt-HEAD_LEN-clause-none : goal.returns-then-bytes-lt-HEAD_LEN-clause-none
returns-then-bytes-lt-HEAD_LEN-clause-none c = too_short c.args.bytes.now c.if-bytes-lt-HEAD_LEN.true

pub returns-then-not-is_right-clause-none : goal.returns-then-not-is_right-clause-none
returns-then-not-is_right-clause-none c = λ key rec begins.
    let h = c.head_at-head.result in
    let parts = to_parts c.args.bytes.now (drop 13 c.args.bytes.now) h key rec c.head_at-head.ensures.in_range c.head_at-head.ensures.parts begins in
    false≢true (sym c.if-not-is_right.true ∙ c.is_right.ensures.only (drop 13 c.args.bytes.now) key rec parts)

pub returns-then-behind-len-clause-none : goal.returns-then-behind-len-clause-none
returns-then-behind-len-clause-none c = λ key rec begins.
    let h = c.head_at-head.result in
    let bytes : List ℕ = c.args.bytes.now in
    let there = between_to_end bytes 13 (length bytes) (omega arith) in
    too_few h (drop 13 bytes) key rec (to_parts bytes (drop 13 bytes) h key rec c.head_at-head.ensures.in_range c.head_at-head.ensures.parts begins)
    (omega (arith, c.if-behind-len.true, ap (length {A = ℕ}) there))

pub returns-clause-found : goal.returns-clause-found
returns-clause-found c =
    let h = c.head_at-head.result in
    let bytes : List ℕ = c.args.bytes.now in
    let there = between_to_end bytes 13 (length bytes) (omega arith) in
    let found = c.is_right.ensures.some c.if-not-is_right.false (drop 13 bytes) (omega (arith, c.if-behind-len.false, ap (length {A = ℕ}) there)) in
    found_key bytes (drop 13 bytes) _ h found.0 c.head_at-head.ensures.parts (sym there) found.1
