use Rattle.std.proofs.Common.{◌≡◌, ◌+◌, ◌<◌, length, rules, of_calls, ap, sym, subst, ◌-◌, refl, arith}
use Rattle.std.specs.Ordering.{is_le}
use Rattle.std.proofs.lemmas.Fn.{always_returns_same}
use Rattle.std.proofs.lemmas.Bool.{true≢false}
use Rattle.blsm_model.specs.Keys.{key_cmp}
use Rattle.bloom_bits.specs.Fences.{FencesState, IsPlaceOf, IsBelowAll}
use Rattle.bloom_bits.proofs.FenceLemmas.{IsSplit, partitioned, place_at, none_before, some_before}
use Rattle.bloom_bits.proofs.fences.Fences.place_of.Goals as goal
use Rattle.bloom_bits.proofs.fences.Fences.place_of.Goals.{After-partition_point-behind, After-index}

-- the closure compares a fence's key, and the slice is the fences
split : (c : After-partition_point-behind) → IsSplit c.self.inside.fences.items c.args.key.now c.partition_point-behind.result
split c =
    let clause = c.partition_point-behind.ensures.partitioned (λ f. is_le (key_cmp f.first c.args.key.now)) (always_returns_same _ _ _ (λ a r f k. search (rules, of_calls))) in
    rw c.deref.ensures.value at clause (partitioned c.self.inside.fences.items c.args.key.now c.self.invariant.rise)

pub returns-then-behind-eq0-clause-none : goal.returns-then-behind-eq0-clause-none
returns-then-behind-eq0-clause-none c =
    let b = (goal.at.returns-then-behind-eq0-clause-none c).After-partition_point-behind in
    let none : IsBelowAll c.args.key.now c.args.self.now.list =
    subst (λ (f : FencesState). IsBelowAll c.args.key.now f.list) c.self.view_is (none_before c.self.inside.fences.items c.args.key.now (rw c.if-behind-eq0.true at (split b))) in
    (λ no. none, λ all. refl)

-- the place that is read, one before those that are above
last_is : (c : After-index) → IsSplit c.self.inside.fences.items c.args.key.now c.partition_point-behind.result → IsSplit c.self.inside.fences.items c.args.key.now ((c.partition_point-behind.result - 1) + 1)
last_is c split =
    let n : c.partition_point-behind.result ≡ (c.partition_point-behind.result - 1) + 1 = omega (arith, c.if-behind-eq0.false) in
    subst (IsSplit c.self.inside.fences.items c.args.key.now) n split

last_within : (c : After-index) → c.partition_point-behind.result - 1 < length c.self.inside.fences.items
last_within c = omega (arith, c.if-behind-eq0.false, c.partition_point-behind.ensures.bound, ap length c.deref.ensures.value)

pub returns-clause-some : goal.returns-clause-some
returns-clause-some c =
    let b = split (goal.at.returns-clause-some c).After-partition_point-behind in
    let there = place_at c.self.inside.fences.items c.args.key.now (c.partition_point-behind.result - 1) c.index.result.now c.index.ensures (last_is c b) (last_within c) in
    subst (λ (f : FencesState). (place : IsPlaceOf c.args.key.now c.index.result.now.page f.list) × (place.fence ≡ c.index.result.now) × (length place.before ≡ c.partition_point-behind.result - 1)) c.self.view_is there

pub returns-clause-none : goal.returns-clause-none
returns-clause-none c =
    let b = split (goal.at.returns-clause-none c).After-partition_point-behind in (
      λ no. absurd (true≢false no),
      λ all. absurd (some_before c.self.inside.fences.items c.args.key.now (c.partition_point-behind.result - 1) (last_is c b) (last_within c) (subst (λ (f : FencesState). IsBelowAll c.args.key.now f.list) (sym c.self.view_is) all)),
    )
