use Rattle.std.proofs.Common.{◌≡◌, ◌<◌, ◌^◌, List, ℕ, sum, take, drop, length, sym, subst, arith, length-drop}
use Rattle.std.proofs.lemmas.List.{take_all}
use Rattle.std.proofs.lemmas.List.Sums.{sum_by-take-drop}
use Rattle.seat_book.proofs.book.workers_total.Goals as goal

-- the numbers end with the workers'
all_of : (numbers : List ℕ) → length numbers ≡ 24 → take 8 (drop 16 numbers) ≡ drop 16 numbers
all_of numbers long = take_all 8 (drop 16 numbers) (omega (arith, length-drop 16 numbers))

pub total-requires : goal.total-requires
total-requires c =
    let numbers = c.args.numbers.now in
    let long = c.told-numbers in
    let all = all_of numbers long in
    subst (λ (l : List ℕ). sum l < 2 ^ 64) (sym all) (omega (arith, c.requires, sum_by-take-drop (λ n. n) numbers 16))

pub returns : goal.returns
returns c = subst (λ (l : List ℕ). c.total.result ≡ sum l) (all_of c.args.numbers.now c.told-numbers) c.total.ensures
