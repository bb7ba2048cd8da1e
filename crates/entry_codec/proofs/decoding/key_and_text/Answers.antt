use Rattle.std.proofs.Common.{◌≡◌, ◌∙◌, length, take, drop, ap}
use Rattle.entry_codec.proofs.SpellingLemmas.{key_bounds, text_bound, are_read}
use Rattle.entry_codec.proofs.decoding.key_and_text.Goals as goal

pub returns-clause-found : goal.returns-clause-found
returns-clause-found c =
    let key_is : c.in_ok-key.key ≡ take c.args.key_len c.args.bytes.now = c.in_ok-key.ensures.some ∙ c.split_at.ensures.front in
    let text_is : c.in_ok-text.text ≡ take c.args.text_len (drop c.args.key_len c.args.bytes.now) = c.in_ok-text.ensures.some ∙ ap (λ l. take c.args.text_len l) c.split_at.ensures.back in
    are_read c.args.bytes.now c.args.key_len c.args.text_len c.in_ok-key.key c.in_ok-text.text c.if-bytes-key_len.false key_is text_is
    (rw c.in_ok-key.ensures.some (key_bounds (length c.split_at.result.0.now) c.in_ok-key.ensures.none.1))
    (rw c.in_ok-text.ensures.some (text_bound _ c.in_ok-text.ensures.none.1))
