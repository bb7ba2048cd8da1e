use Rattle.std.proofs.Common.{◌≡◌, ◌∙◌, ◌+◌, ◌-◌, ◌++◌, List, [], ℕ, length, take, drop, refl, ap, length-append, arith}
use Rattle.std.specs.Prelude.{replicate}
use Rattle.std.specs.Int.{w16, w32, to_be_bytes}
use Rattle.std.proofs.lemmas.List.{length-drop, length-take-le, take_at}
use Rattle.page_file.specs.Page.{page_head, page_number}
use Rattle.run_writer.proofs.BufferLemmas.{behind_head, sealed_page}
use Rattle.run_writer.proofs.buffer.seal.Goals as goal
use Rattle.run_writer.proofs.buffer.seal.Goals.{After-blank}

-- the head and the entries behind it, and then zeros
is_sealed : (c : After-blank) → c.blank.new.out ≡ (page_head c.args.count c.args.used c.args.next ++ take c.args.used (drop 8 c.args.page.now)) ++
    replicate (4088 - c.args.used) 0
unfolding page_head
is_sealed c =
    let used = c.args.used in
    let page : List ℕ = c.args.page.now in
    let a : List ℕ = c.to_be_bytes.result in
    let b : List ℕ = c.to_be_bytes-2.result in
    let d : List ℕ = c.to_be_bytes-3.result in
    let head : List ℕ = (a ++ b) ++ d in
    let a_is : a ≡ to_be_bytes w16 c.args.count = c.to_be_bytes.ensures in
    let b_is : b ≡ to_be_bytes w16 used = c.to_be_bytes-2.ensures in
    let d_is : d ≡ to_be_bytes w32 (page_number c.args.next) = c.to_be_bytes-3.ensures ∙ ap (to_be_bytes w32) c.number_of.ensures in
    let a_long : length a ≡ 2 = ap (length {A = ℕ}) a_is in
    let b_long : length b ≡ 2 = ap (length {A = ℕ}) b_is in
    let d_long : length d ≡ 4 = ap (length {A = ℕ}) d_is in
    let head_long : length head ≡ 8 = omega (arith, length-append (a ++ b) d, length-append a b, a_long, b_long, d_long) in
    let one : c.put.new.out ≡ a ++ drop (length a) page = c.put.ensures.written [] page refl refl in
    let two : c.put-2.new.out ≡ (a ++ b) ++ drop (length b) (drop (length a) page) = c.put-2.ensures.written a (drop (length a) page) a_long one in
    let three : c.put-3.new.out ≡ head ++ drop (length d) (drop (length b) (drop (length a) page)) =
    c.put-3.ensures.written (a ++ b) (drop (length b) (drop (length a) page)) (omega (arith, length-append a b, a_long, b_long)) two in
    let headed : c.put-3.new.out ≡ head ++ drop 8 page = three ∙ ap (λ (l : List ℕ). head ++ l) (behind_head a b d page a_long b_long d_long) in
    let long : length c.put-3.new.out - (8 + used) ≡ 4088 - used = omega
    (arith, ap (length {A = ℕ}) headed, length-append head (drop 8 page), head_long, length-drop 8 page, c.told-page) in
    c.blank.ensures
    ∙ (λ i. sealed_page head page c.put-3.new.out used head_long headed i ++ replicate (long i) 0)
    ∙ (λ i. (((a_is i ++ b_is i) ++ d_is i) ++ take used (drop 8 page)) ++ replicate (4088 - used) 0)

pub returns-clause-page : goal.returns-clause-page
returns-clause-page c = is_sealed c

pub returns-clause-kept : goal.returns-clause-kept
unfolding page_head
returns-clause-kept c =
    let text : List ℕ = take c.args.used (drop 8 c.args.page.now) in
    let text_long : length text ≡ c.args.used = length-take-le c.args.used (drop 8 c.args.page.now)
    (omega (arith, length-drop {A = ℕ} 8 c.args.page.now, c.told-page, c.requires)) in
    ap (λ (l : List ℕ). take c.args.used (drop 8 l)) (is_sealed c) ∙ take_at text (replicate (4088 - c.args.used) 0) c.args.used text_long
