use Rattle.std.proofs.Common.{◌≡◌, ℕ, ◌<◌, List, false, true, length, take, get_or, ap, sym, subst, ◌∙◌, refl, arith}
use Rattle.std.specs.List.{Contains}
use Rattle.std.proofs.lemmas.Bool.{false≢true}
use Rattle.std.proofs.lemmas.List.{take_all, length-take-le}
use Rattle.std.proofs.lemmas.List.Elements.{All-contains, Contains-get_or}
use Rattle.bit_set.specs.Bits.{IsIn}
use Rattle.bloom_bits.specs.BitSet.{BitState}
use Rattle.bloom_bits.specs.Filter.{bit_positions, MayHave}
use Rattle.bloom_bits.proofs.FilterLemmas.{covered, in_front}
use Rattle.bloom_bits.proofs.filter.Filter.may.Goals as goal
use Rattle.bloom_bits.proofs.filter.Filter.may.Goals.{After-positions-place-items}

-- the places are the key's among the bits that there are
same : (c : After-positions-place-items) → c.positions-place-items.result ≡ bit_positions (length c.args.self.now.bits) c.args.key.now
same c =
    c.positions-place-items.ensures.positions
    ∙ ap (λ n. bit_positions n c.args.key.now) (sym (length-take-le c.self.inside.size c.self.inside.bits c.self.invariant.fits) ∙ ap (λ (s : BitState). length s.bits) c.self.view_is)

pub returns-then-not-has-clause-exactly : goal.returns-then-not-has-clause-exactly
returns-then-not-has-clause-exactly c =
    let b = (goal.at.returns-then-not-has-clause-exactly c).After-positions-place-items in
    let in_list : c.loop-place.place-index < length c.positions-place-items.result = omega (arith, c.loop-place-test.true) in
    let place = get_or c.positions-place-items.result c.loop-place.place-index 0 in
    let its : Contains (bit_positions (length c.args.self.now.bits) c.args.key.now) place =
    subst (λ (l : List ℕ). Contains l place) (same b) (Contains-get_or c.positions-place-items.result c.loop-place.place-index 0 in_list) in (
      λ no. absurd (false≢true no),
      λ may. sym c.if-not-has.true ∙ c.has.ensures.1
          ((in_front c.self.inside.size c.self.inside.bits place (c.positions-place-items.ensures.inside c.loop-place.place-index 0 in_list)).0 (subst (λ (s : BitState). IsIn s.bits place) (sym c.self.view_is) (may place its))),
    )

pub returns-clause-exactly : goal.returns-clause-exactly
returns-clause-exactly c =
    let b = (goal.at.returns-clause-exactly c).After-positions-place-items in
    let items = c.positions-place-items.result in
    let may : MayHave c.args.self.now c.args.key.now =
    λ place its.
    let there : Contains items place = subst (λ (l : List ℕ). Contains l place) (sym (same b)) its in
    let so_far : Contains (take c.loop-place.place-index items) place = subst (λ (l : List ℕ). Contains l place) (sym (take_all c.loop-place.place-index items (omega (arith, c.loop-place-test.false)))) there in
    subst (λ (s : BitState). IsIn s.bits place) c.self.view_is
    ((in_front c.self.inside.size c.self.inside.bits place (All-contains (λ p. p < c.self.inside.size) items place c.positions-place-items.ensures.inside there)).1 (c.loop-place.invariant place so_far)) in
    (λ yes. may, λ its. refl)

-- ---- by the keys

pub returns-then-not-has-clause-covered : goal.returns-then-not-has-clause-covered
returns-then-not-has-clause-covered c = λ keys has. covered c.args.self.now keys c.args.key.now false (returns-then-not-has-clause-exactly c) has

pub returns-clause-covered : goal.returns-clause-covered
returns-clause-covered c = λ keys has. covered c.args.self.now keys c.args.key.now true (returns-clause-exactly c) has

pub returns-then-not-has-clause-added : goal.returns-then-not-has-clause-added
returns-then-not-has-clause-added c = λ keys has there. (returns-then-not-has-clause-covered c keys has).1 (λ place its. (c.args.key.now, there, its))
