-- How high a balanced tree is.
use Rattle.std.proofs.lemmas.Bool.Decides.{nat_tests}
use Rattle.std.proofs.lemmas.Grind.{common_steps}
use Rattle.std.proofs.Common.{◌≡◌, ℕ, suc, ◌+◌, ◌-◌, ◌*◌, ◌^◌, ◌≤◌, max, inl, inr, ◌∷◌, ◌++◌, length, ap, ◌∙◌, arith}
use Rattle.std.proofs.Math.Nat.{pow-le-pow_right}
use Rattle.std.proofs.lemmas.Nat.{mul-le, pow-add}
use Rattle.std.proofs.lemmas.Bool.{cases_lt}
use Rattle.std.proofs.lemmas.List.{length-append}
use Rattle.mem_table.specs.Shapes.{Tree, Leaf, Fork, height, places, IsBalanced}

square_le : (a b : ℕ) → a ≤ b → a * a ≤ b * b
square_le a b le = mul-le a a b b le le

four_squares : (a n : ℕ) → 2 * a ≤ n → 4 * (a * a) ≤ n * n
four_squares a n le = grind (arith, common_steps, nat_tests, square_le (2 * a) n le)

power_le : (i j : ℕ) → i ≤ j → 2 ^ i ≤ 2 ^ j
power_le i j le = pow-le-pow_right (omega arith) le

-- 2 to the height is at most four times the square of the number of nodes
pub height_squared : (t : Tree) → IsBalanced t → 1 ≤ height t → 2 ^ height t ≤ 4 * (length (places t) * length (places t))
height_squared Leaf balanced high = absurd (omega arith)
height_squared (Fork l p r) balanced high =
    let len : length (places l ++ p ∷ places r) ≡ length (places l) + suc (length (places r)) = length-append (places l) (p ∷ places r) in
    let close_1 : height l ≤ height r + 1 = balanced.0.0 in
    let close_2 : height r ≤ height l + 1 = balanced.0.1 in
    elim (cases_lt (max (height l) (height r)) 2) [
      | inl low ↦
          let power : 2 ^ (max (height l) (height r) + 1) ≤ 2 ^ 2 = power_le (max (height l) (height r) + 1) 2 (omega arith) in
          let one : 1 * 1 ≤ length (places l ++ p ∷ places r) * length (places l ++ p ∷ places r) = square_le 1 (length (places l ++ p ∷ places r)) (omega arith) in
          omega arith
      | inr tall ↦
          let m : ℕ = max (height l) (height r) - 1 in
          let of_left : 2 ^ height l ≤ 4 * (length (places l) * length (places l)) = height_squared l balanced.1 (omega arith) in
          let of_right : 2 ^ height r ≤ 4 * (length (places r) * length (places r)) = height_squared r balanced.2 (omega arith) in
          let lower_left : 2 ^ m ≤ 2 ^ height l = power_le m (height l) (omega arith) in
          let lower_right : 2 ^ m ≤ 2 ^ height r = power_le m (height r) (omega arith) in
          let all_is : max (height l) (height r) + 1 ≡ m + 2 = omega arith in
          let power : 2 ^ (max (height l) (height r) + 1) ≡ 2 ^ m * 4 = ap (λ k. 2 ^ k) all_is ∙ pow-add 2 m 2 in
          elim (cases_lt (length (places l)) (length (places r))) [
            | inl fewer ↦
                omega (arith, four_squares (length (places l)) (length (places l ++ p ∷ places r)) (omega arith))
            | inr more ↦
                omega (arith, four_squares (length (places r)) (length (places l ++ p ∷ places r)) (omega arith))
          ]
    ]

no_leaf : (t : Tree) → 1 ≤ length (places t) → 1 ≤ height t
no_leaf Leaf some = absurd (omega arith)
no_leaf (Fork l p r) some = omega arith

pub few : (t : Tree) (s n : ℕ) → IsBalanced t → length (places t) ≡ n → s ≤ height t → 1 ≤ n → 2 ^ s ≤ 4 * n * n
few t s n balanced is low some = grind (arith, common_steps, nat_tests, height_squared, no_leaf, power_le)
