use Rattle.page_space.specs.Space.{NoneFreeBelow}
use Rattle.page_space.proofs.space.Space.first_free.Given as goal

abbrev pub invariant-loop-page : goal.invariant-loop-page
invariant-loop-page l = NoneFreeBelow l.self l.page
