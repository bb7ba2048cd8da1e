-- How the counts of pages go on when a tag takes some.
use Rattle.std.specs.Prelude.{◌≡◌, ℕ, ◌+◌, ◌<◌, ◌≤◌}
use Rattle.std.proofs.lemmas.Grind.{common_steps}
use Rattle.std.proofs.lemmas.Bool.Decides.{nat_tests}
use Rattle.std.proofs.Common.{ap, arith}
use Rattle.page_space.specs.Space.{SpaceState, IsWithin, role_size, role_count, pin_size, seat_count}
use Rattle.page_space.specs.PageSet.{size, Members}
use Rattle.merge_ends.specs.Output.{TakesPages}

pub other_size : {old new : SpaceState} {role : ℕ} → TakesPages role old new → (other : ℕ) → (other ≡ role → ⊥) → role_size new other ≡ role_size old other
other_size takes other differs = ap (λ (set : Members). size set) (takes.others other differs)

-- where one of five changes, all together change by as much
pub all_but_one : (s t : ℕ → ℕ) (role p q : ℕ) → role < role_count → s role + p ≡ t role + q → ((other : ℕ) → (other ≡ role → ⊥) → s other ≡ t other)
    → s 0 + s 1 + s 2 + s 3 + s 4 + p ≡ t 0 + t 1 + t 2 + t 3 + t 4 + q
all_but_one s t role p q h1 h2 h3 = grind (arith, common_steps, nat_tests)

-- as many are pinned
pub pins_same : (old new : SpaceState) (share : ℕ) → new.pins ≡ old.pins → ((seat : ℕ) → seat < seat_count → pin_size old seat ≤ share) → (seat : ℕ) → seat < seat_count → pin_size new seat ≤ share
pins_same old new share same each seat below = grind (arith, common_steps, nat_tests)

-- how many pages have tags, once a tag took some
pub within_more : {old new : SpaceState} {role : ℕ} (p q live live' share : ℕ) → TakesPages role old new → role < role_count → role_size new role + p ≡ role_size old role + q → live' + p ≡ live + q
    → IsWithin live share old → IsWithin live' share new
within_more {old} {new} {role} p q live live' share takes below more total within = record {
  roles = omega (arith, total, within.roles, all_but_one (role_size new) (role_size old) role p q below more (other_size takes));
  seats = pins_same old new share takes.pins within.seats;
}
