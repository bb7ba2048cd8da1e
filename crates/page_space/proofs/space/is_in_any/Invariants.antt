use Rattle.std.proofs.Common.{◌<◌, ℕ, get_or, []}
use Rattle.page_space.specs.PageSet.{IsIn}
use Rattle.page_space.proofs.space.is_in_any.Given as goal

-- the page is in none of the sets so far
abbrev pub invariant-loop-set : goal.invariant-loop-set
invariant-loop-set l = (k : ℕ) → k < l.set-index → IsIn (get_or l.sets k []) l.page → ⊥
