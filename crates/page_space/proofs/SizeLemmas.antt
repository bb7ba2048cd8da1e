-- How many pages a set has.
use Rattle.std.proofs.lemmas.Bool.Decides.{nat_tests}
use Rattle.std.proofs.lemmas.Grind.{common_steps}
use Rattle.std.proofs.Common.{◌≡◌, ℕ, zero, suc, ◌+◌, ◌<◌, ◌≤◌, ◌||◌, Bool, true, false, cond, [], ◌∷◌, length, refl, arith}
use Rattle.std.proofs.lemmas.List.Sums.{sum_by-cons}
use Rattle.page_space.specs.PageSet.{Members, IsIn, size, with_page, union}

pub size-cons : (x : Bool) (xs : Members) → size (x ∷ xs) ≡ cond x 1 0 + size xs
size-cons x xs = sum_by-cons (λ b. cond b 1 0) x xs

pub or_le : (a b : Bool) → cond (a || b) 1 0 ≤ cond a 1 0 + cond b 1 0
or_le a b = grind (arith, common_steps, nat_tests)

pub size-union_le : (xs ys : Members) → size (union xs ys) ≤ size xs + size ys
size-union_le [] ys = omega arith
size-union_le (x ∷ xs) [] = omega arith
size-union_le (x ∷ xs) (y ∷ ys) =
    omega (arith, size-union_le xs ys, or_le x y, size-cons (x || y) (union xs ys), size-cons x xs, size-cons y ys)

pub size-with : (set : Members) (page : ℕ) → page < length set → (IsIn set page → ⊥) → size (with_page page set) ≡ size set + 1
size-with set page h1 h2 = grind (arith, common_steps, nat_tests)

-- or it was in the set before
pub size-with_le : (set : Members) (page : ℕ) → size (with_page page set) ≤ size set + 1
size-with_le [] page = omega arith
size-with_le (x ∷ xs) zero = omega (arith, size-cons x xs, size-cons true xs)
size-with_le (x ∷ xs) (suc page) = omega (arith, size-with_le xs page, size-cons x xs, size-cons x (with_page page xs))

-- ---- a set twice

or_twice : (a b : Bool) → (a || (a || b)) ≡ (a || b)
or_twice true b = refl
or_twice false b = refl

or_same : (a : Bool) → (a || a) ≡ a
or_same true = refl
or_same false = refl

union_same : (xs : Members) → union xs xs ≡ xs
union_same [] = refl
union_same (x ∷ xs) = λ i. or_same x i ∷ union_same xs i

pub union_twice : (xs ys : Members) → union xs (union xs ys) ≡ union xs ys
union_twice [] ys = refl
union_twice (x ∷ xs) [] = union_same (x ∷ xs)
union_twice (x ∷ xs) (y ∷ ys) = λ i. or_twice x y i ∷ union_twice xs ys i
