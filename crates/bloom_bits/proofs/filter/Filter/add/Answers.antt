use Rattle.std.proofs.Common.{◌≡◌, ◌<◌, ◌++◌, ◌∷◌, [], true, length, take, get_or, ap, sym, subst, ◌∙◌, arith}
use Rattle.std.proofs.lemmas.List.{length-set, length-take-le}
use Rattle.bloom_bits.specs.BitSet.{BitState, front_of}
use Rattle.bloom_bits.specs.Filter.{HasKeys, bit_positions}
use Rattle.bloom_bits.proofs.FilterLemmas.{AreWith, with_more, with_all, keys_more, front_with}
use Rattle.bloom_bits.proofs.filter.Filter.add.Goals as goal

pub loop-place-preserved : goal.loop-place-preserved
loop-place-preserved c =
    let places = c.positions-place-items.result in
    let n = c.loop-place.place-index in
    let size = c.self.inside.size in
    let bits = c.loop-place.self-inside.bits in
    let in_list : n < length places = omega (arith, c.loop-place-test.true) in
    let below : get_or places n 0 < size = c.positions-place-items.ensures.inside n 0 in_list in
    let within : get_or places n 0 < length (take size bits) = omega (arith, below, length-take-le size bits (omega (arith, c.self.invariant.fits, c.loop-place.invariant.long))) in
    record {
      size = c.loop-place.invariant.size;
      long = ap length c.insert.ensures ∙ length-set bits (get_or places n 0) true ∙ c.loop-place.invariant.long;
      places = with_more (take size c.self.inside.bits) (take size bits) (take size c.insert.new.self) places n 0 c.loop-place.invariant.places in_list within
          (front_with size (get_or places n 0) bits c.insert.new.self below c.insert.ensures);
    }

pub returns-clause-keys : goal.returns-clause-keys
returns-clause-keys c = λ keys has.
    let size = c.self.inside.size in
    let many : size ≡ length c.args.self.now.bits = sym (length-take-le size c.self.inside.bits c.self.invariant.fits) ∙ ap (λ (s : BitState). length s.bits) c.self.view_is in
    let same : c.positions-place-items.result ≡ bit_positions (length c.args.self.now.bits) c.args.key.now =
    c.positions-place-items.ensures.positions ∙ ap (λ n. bit_positions n c.args.key.now) many in
    let all = with_all (take size c.self.inside.bits) (take size c.loop-place.self-inside.bits) c.positions-place-items.result (bit_positions (length c.args.self.now.bits) c.args.key.now) c.loop-place.place-index
    c.loop-place.invariant.places (omega (arith, c.loop-place-test.false)) same in
    subst (λ n. HasKeys (front_of n c.loop-place.self-inside.bits) (keys ++ c.args.key.now ∷ [])) (sym c.loop-place.invariant.size)
    (keys_more c.args.self.now (front_of size c.loop-place.self-inside.bits) keys c.args.key.now
    (subst (λ (s : BitState). AreWith s.bits (take size c.loop-place.self-inside.bits) (bit_positions (length c.args.self.now.bits) c.args.key.now)) c.self.view_is all) has)
