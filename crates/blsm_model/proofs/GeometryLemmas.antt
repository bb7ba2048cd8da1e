-- Products of a store's sizes stay small.
use Rattle.std.proofs.lemmas.Bool.Decides.{nat_tests}
use Rattle.std.proofs.lemmas.Grind.{common_steps}
use Rattle.std.proofs.Common.{ℕ, ◌*◌, ◌/◌, ◌^◌, ◌<◌, ◌≤◌, arith}
use Rattle.std.proofs.Math.Nat.{mul-le-mul}

-- a product is below the product of the bounds
pub product_below : (a b m n : ℕ) → a ≤ m → b ≤ n → a * b ≤ m * n
product_below a b m n p q = mul-le-mul p q

-- a ratio times a half, a capacity
pub by_half : (r h : ℕ) → r ≤ 8 → h ≤ 67108864 → r * h ≤ 536870912
by_half r h p q = product_below r h 8 67108864 p q

pub by_ratio : (r m : ℕ) → r ≤ 8 → m ≤ 1073741824 → r * m ≤ 8589934592
by_ratio r m p q = product_below r m 8 1073741824 p q

-- C1's mark is above the half spring
pub half_below : (r h : ℕ) → 2 ≤ r → 2 * h ≤ r * h
half_below r h p = product_below 2 h r h p (omega arith)

pub ruleset bounds = (by_half, by_ratio, half_below)

-- a gear times a weight
pub by_gear : (gear weight : ℕ) → gear ≤ 36 → weight < 2 ^ 64 → gear * weight ≤ 2 ^ 70
by_gear gear weight p q = grind (arith, common_steps, nat_tests)

-- and the quanta that it takes
pub few_quanta : (gear weight quantum : ℕ) → gear ≤ 36 → weight < 2 ^ 64 → 1024 ≤ quantum → gear * weight / quantum ≤ 2 ^ 60
few_quanta gear weight quantum p q r = grind (arith, common_steps, nat_tests)

pub ruleset quanta = (by_gear, few_quanta)
