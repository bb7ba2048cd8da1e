use Rattle.std.proofs.Common.{◌≡◌, ℕ, [], ◌++◌, length, drop, refl, ap, ◌∙◌, length-append, arith}
use Rattle.entry_codec.specs.Spelling.{head_of, spelling, over_front}
use Rattle.entry_codec.proofs.SpellingLemmas.{length-head, length-spelling}
use Rattle.entry_codec.proofs.encoding.encode.Goals as goal

pub returns-clause-spelled : goal.returns-clause-spelled
unfolding spelling
returns-clause-spelled c =
    let original = c.args.out.now in
    let h = c.head_bytes-head.result in
    let key = c.as_bytes-key.result.now in
    let text = c.text-text.result.now in
    let one : c.put-key_at.new.out ≡ over_front h original = c.put-key_at.ensures.written [] original refl refl in
    let key_at : length h ≡ c.put-key_at.result = omega (arith, c.put-key_at.ensures.end) in
    let two : c.put-text_at.new.out ≡ over_front (h ++ key) original = c.put-text_at.ensures.written h original key_at one in
    let text_at : length (h ++ key) ≡ c.put-text_at.result = omega (arith, length-append h key, c.put-text_at.ensures.end, key_at) in
    let three : c.put.new.out ≡ over_front (h ++ key ++ text) original = c.put.ensures.written (h ++ key) original text_at two in
    let head_is : h ≡ head_of c.args.key.now c.args.rec.now =
    c.head_bytes-head.ensures ∙ rw (c.kind.ensures, c.count.ensures, c.as_bytes-key.ensures.bytes, c.text-text.ensures.text) refl in
    let parts : h ++ key ++ text ≡ spelling c.args.key.now c.args.rec.now = rw (head_is, c.as_bytes-key.ensures.bytes, c.text-text.ensures.text) refl in
    three ∙ ap (λ front. over_front front original) parts
    ∙ ap (λ n. spelling c.args.key.now c.args.rec.now ++ drop n original) (length-spelling c.args.key.now c.args.rec.now)

pub returns-clause-len : goal.returns-clause-len
returns-clause-len c =
    let key_len = ap (length {A = ℕ}) c.as_bytes-key.ensures.bytes in
    let text_len = ap (length {A = ℕ}) c.text-text.ensures.text in
    omega (arith, length-spelling c.args.key.now c.args.rec.now, c.put.ensures.end, c.put-text_at.ensures.end, c.put-key_at.ensures.end, ap (length {A = ℕ}) c.head_bytes-head.ensures, length-head c.kind.result (length c.as_bytes-key.result.now) (length c.text-text.result.now) c.count.result)
