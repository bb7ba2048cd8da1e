use Rattle.std.proofs.Common.{◌≡◌, ◌∙◌, ◌<◌, ◌+◌, ◌/◌, ℕ, List, get_or, bit_or, ap, sym, length, below_more, arith}
use Rattle.std.proofs.lemmas.List.{get_or_read, get_or-set_same, get_or-set_other, length-set}
use Rattle.bit_set.specs.Bits.{Members, members, union, AreFor}
use Rattle.bit_set.proofs.BitLemmas.{length-members, members_union}
use Rattle.bit_set.proofs.bits.BitSet.set_to_union.Goals as goal
use Rattle.bit_set.proofs.bits.BitSet.set_to_union.Goals.{After-c}

-- two sets of as many places have as many words
same_pages : (p q : ℕ) (xs ys : List ℕ) (set other : Members) → members p xs ≡ set → members q ys ≡ other → length set ≡ length other → p ≡ q
same_pages p q xs ys set other is other_is same = omega (arith, ap length is, ap length other_is, length-members p xs, length-members q ys)

same_words : (p q : ℕ) (xs ys : List ℕ) (set other : Members) → members p xs ≡ set → members q ys ≡ other → length set ≡ length other → AreFor p xs → AreFor q ys → length xs ≡ length ys
same_words p q xs ys set other is other_is same for_xs for_ys = for_xs ∙ ap (λ n. (n + 63) / 64) (same_pages p q xs ys set other is other_is same) ∙ sym for_ys

words_a : (c : After-c) → length c.a.inside.words.items ≡ length c.self.inside.words.items
words_a c = same_words _ _ _ _ _ _ c.a.view_is c.self.view_is c.requires.a c.a.invariant c.self.invariant

words_b : (c : After-c) → length c.b.inside.words.items ≡ length c.self.inside.words.items
words_b c = same_words _ _ _ _ _ _ c.b.view_is c.self.view_is c.requires.b c.b.invariant c.self.invariant

words_c : (c : After-c) → length c.c.inside.words.items ≡ length c.self.inside.words.items
words_c c = same_words _ _ _ _ _ _ c.c.view_is c.self.view_is c.requires.c c.c.invariant c.self.invariant

pub index-requires : goal.index-requires
index-requires c = omega (arith, words_a (goal.at.index-requires c).After-c, c.a.inside.words.ok.0, c.self.inside.words.ok.0)

pub index-requires-in-loop-i : goal.index-requires-in-loop-i
index-requires-in-loop-i c = omega (arith, words_b (goal.at.index-requires-in-loop-i c).After-c, c.b.inside.words.ok.0, c.self.inside.words.ok.0)

pub index-requires-in-loop-i-2 : goal.index-requires-in-loop-i-2
index-requires-in-loop-i-2 c = omega (arith, words_c (goal.at.index-requires-in-loop-i-2 c).After-c, c.c.inside.words.ok.0, c.self.inside.words.ok.0)

pub loop-i-preserved : goal.loop-i-preserved
loop-i-preserved c =
    let b = (goal.at.loop-i-preserved c).After-c in
    let i = c.loop-i.i in
    let words = c.loop-i.self-inside.words.items in
    let word = bit_or (bit_or c.index.result.now c.index-in-loop-i.result.now) c.index-in-loop-i-2.result.now in
    let within : i < length c.self.inside.words.items = omega (arith, c.self.inside.words.ok.0) in
    let in_words : i < length words = omega (arith, c.loop-i.invariant.words) in
    let read_a = get_or_read c.a.inside.words.items i c.index.result.now (omega (arith, words_a b)) c.index.ensures 0 in
    let read_b = get_or_read c.b.inside.words.items i c.index-in-loop-i.result.now (omega (arith, words_b b)) c.index-in-loop-i.ensures 0 in
    let read_c = get_or_read c.c.inside.words.items i c.index-in-loop-i-2.result.now (omega (arith, words_c b)) c.index-in-loop-i-2.ensures 0 in
    record {
      places = c.loop-i.invariant.places;
      words = length-set words i word ∙ c.loop-i.invariant.words;
      united = below_more _ _
          (λ k below. let differs : k ≡ i → ⊥ = omega arith in get_or-set_other words i k word 0 differs ∙ c.loop-i.invariant.united k below)
          (get_or-set_same words i word 0 in_words
          ∙ ap (λ w. bit_or (bit_or w c.index-in-loop-i.result.now) c.index-in-loop-i-2.result.now) read_a
          ∙ ap (λ w. bit_or (bit_or (get_or c.a.inside.words.items i 0) w) c.index-in-loop-i-2.result.now) read_b
          ∙ ap (λ w. bit_or (bit_or (get_or c.a.inside.words.items i 0) (get_or c.b.inside.words.items i 0)) w) read_c);
    }

pub returns : goal.returns
returns c =
    let b = (goal.at.returns c).After-c in
    let words = c.loop-i.self-inside.words.items in
    let places = c.loop-i.self-inside.places in
    let kept = c.loop-i.invariant in
    let enough : AreFor places words = kept.words ∙ c.self.invariant ∙ ap (λ n. (n + 63) / 64) (sym kept.places) in
    let as_a : members places c.a.inside.words.items ≡ c.args.a.now =
    ap (λ n. members n c.a.inside.words.items) (kept.places ∙ sym (same_pages _ _ _ _ _ _ c.a.view_is c.self.view_is c.requires.a)) ∙ c.a.view_is in
    let as_b : members places c.b.inside.words.items ≡ c.args.b.now =
    ap (λ n. members n c.b.inside.words.items) (kept.places ∙ sym (same_pages _ _ _ _ _ _ c.b.view_is c.self.view_is c.requires.b)) ∙ c.b.view_is in
    let as_c : members places c.c.inside.words.items ≡ c.args.c.now =
    ap (λ n. members n c.c.inside.words.items) (kept.places ∙ sym (same_pages _ _ _ _ _ _ c.c.view_is c.self.view_is c.requires.c)) ∙ c.c.view_is in
    members_union places words c.a.inside.words.items c.b.inside.words.items c.c.inside.words.items enough
    (λ i below. kept.united i (omega (arith, kept.words, c.self.inside.words.ok.0)))
    ∙ ap (λ (set : Members). union set (union (members places c.b.inside.words.items) (members places c.c.inside.words.items))) as_a
    ∙ ap (λ (set : Members). union c.args.a.now (union set (members places c.c.inside.words.items))) as_b
    ∙ ap (λ (set : Members). union c.args.a.now (union c.args.b.now set)) as_c
