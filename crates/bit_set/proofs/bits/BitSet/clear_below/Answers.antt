use Rattle.std.proofs.Common.{◌≡◌, ◌∙◌, ◌*◌, ◌/◌, ◌≤◌, ◌++◌, ℕ, List, ap, sym, length, drop, arith}
use Rattle.std.proofs.lemmas.List.{take_at}
use Rattle.bit_set.specs.Bits.{none_of, members}
use Rattle.bit_set.proofs.BitLemmas.{length-members, zeros, members_cleared}
use Rattle.bit_set.proofs.bits.BitSet.clear_below.Goals as goal
use Rattle.bit_set.proofs.bits.BitSet.clear_below.Goals.{After-deref_mut}

within : (c : After-deref_mut) → 64 * (c.args.places / 64) ≤ c.self.inside.places
within c = omega (arith, c.requires.inside, ap length c.self.view_is, length-members c.self.inside.places c.self.inside.words.items)

pub blank-requires : goal.blank-requires
blank-requires c =
    let inside = within (goal.at.blank-requires c).After-deref_mut in
    omega (arith, inside, c.self.invariant, ap length c.deref_mut.ensures.value)

pub returns : goal.returns
returns c =
    let inside = within (goal.at.returns c).After-deref_mut in
    let n = c.args.places / 64 in
    let places = c.self.inside.places in
    let words = c.self.inside.words.items in
    let enough : n ≤ length words = omega (arith, inside, c.self.invariant) in
    let front : c.blank.new.words ≡ zeros n ++ drop n words = c.blank.ensures ∙ ap (λ (l : List ℕ). zeros n ++ drop n l) c.deref_mut.ensures.value in
    let long : length c.blank.new.words ≡ c.self.inside.words.len = c.blank.auto.words ∙ ap length c.deref_mut.ensures.value ∙ sym
    c.self.inside.words.ok.0 in
    let whole : 64 * n ≡ c.args.places = omega (arith, c.requires.words) in
    ap (members places) (take_at c.blank.new.words (drop (length c.blank.new.words) words) c.self.inside.words.len long ∙ front)
    ∙ members_cleared places n words inside
    ∙ ap (λ k. none_of k ++ drop k (members places words)) whole
    ∙ ap (λ s. none_of c.args.places ++ drop c.args.places s) c.self.view_is
