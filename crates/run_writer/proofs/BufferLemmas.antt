-- The bytes of a buffer's entries, and of the page that they become.
use Rattle.std.proofs.Common.{◌≡◌, ℕ, ◌+◌, ◌≤◌, List, ◌++◌, length, take, drop, ap, sym, ◌∙◌, append_assoc, length-append, arith}
use Rattle.record_delta.specs.Entries.{Entries}
use Rattle.std.specs.Prelude.{Option}
use Rattle.std.proofs.lemmas.List.{take_at, take-append-drop, length-take-le, drop-take, drop-drop, drop-append-le}
use Rattle.std.proofs.Math.Seq.{take-append-add}
use Rattle.page_file.specs.Page.{page_bytes}
use Rattle.run_writer.specs.Buffer.{BufferState, sealed, IsBufferOf}

-- what bytes have in front of the place where others are spelled stays, and those stand behind it
pub spelled_more : (bytes out s : List ℕ) (used over : ℕ) → used ≤ length bytes
    → ((front behind : List ℕ) → length front ≡ used → bytes ≡ front ++ behind → out ≡ front ++ (s ++ drop over behind))
    → take (used + length s) out ≡ take used bytes ++ s
spelled_more bytes out s used over within written =
    let front : List ℕ = take used bytes in
    let front_long : length front ≡ used = length-take-le used bytes within in
    let behind : List ℕ = drop over (drop used bytes) in
    let out_is = written front (drop used bytes) front_long (sym (take-append-drop used bytes)) ∙ sym (append_assoc front s behind) in
    ap (take (used + length s)) out_is ∙ take_at (front ++ s) behind (used + length s) (omega (arith, length-append front s, front_long))

-- the same of the bytes behind a page's head
pub text_more : (page out s : List ℕ) (used over : ℕ) → 8 + used ≤ length page
    → ((front behind : List ℕ) → length front ≡ 8 + used → page ≡ front ++ behind → out ≡ front ++ (s ++ drop over behind))
    → take (used + length s) (drop 8 out) ≡ take used (drop 8 page) ++ s
text_more page out s used over within written =
    let front : List ℕ = take (8 + used) page in
    let front_long : length front ≡ 8 + used = length-take-le (8 + used) page within in
    let on : 8 + (used + length s) ≡ (8 + used) + length s = omega arith in
    sym (drop-take 8 (used + length s) out)
    ∙ ap (λ n. drop 8 (take n out)) on
    ∙ ap (drop 8) (spelled_more page out s (8 + used) over within written)
    ∙ drop-append-le 8 front s (omega (arith, front_long))
    ∙ ap (λ l. l ++ s) (drop-take 8 used page)

-- what stands behind a head of so many bytes that took the place of those in front
pub behind_head : (a b c page : List ℕ) → length a ≡ 2 → length b ≡ 2 → length c ≡ 4 → drop (length c) (drop (length b) (drop (length a) page)) ≡
    drop 8 page
behind_head a b c page h1 h2 h3 =
    drop-drop (length c) (length b) (drop (length a) page) ∙ drop-drop (length b + length c) (length a) page ∙ ap (λ n. drop n page) {y = 8}
    (omega (arith, h1, h2, h3))

-- a page with this head whose bytes behind so many are zeros, and those before as they were
pub sealed_page : (head page out : List ℕ) (used : ℕ) → length head ≡ 8 → out ≡ head ++ drop 8 page → take (8 + used) out ≡ head ++ take used
    (drop 8 page)
sealed_page head page out used long is =
    let on : 8 + used ≡ length head + used = omega (arith, long) in
    ap (take (8 + used)) is ∙ ap (λ n. take n (head ++ drop 8 page)) on ∙ take-append-add head (drop 8 page) used

-- the page of a buffer that has these entries
pub sealed-bytes : (next : Option ℕ) (buffer : BufferState) (entries : Entries) → IsBufferOf buffer entries → sealed next buffer ≡ page_bytes next entries
unfolding page_bytes
sealed-bytes next buffer entries has = λ i. sealed next (record { count = has.count_is i; text = has.spelled i })
