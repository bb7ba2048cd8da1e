-- What is told of a core that runs, and between the moves of a step.
use Rattle.std.proofs.lemmas.Grind.{common_steps}
use Rattle.std.proofs.lemmas.Bool.Decides.{nat_tests}
use Rattle.std.proofs.Common.{arith}
use Rattle.pacing.specs.Pace.{Pace}
use Rattle.core_moves.specs.declared.held.Held.{Held}
use Rattle.core_moves.specs.Held.{IsOne}
use Rattle.core_pace.specs.Pacing.{HasPace, IsRunBook, IsPacedHeld}
use Rattle.core_pace.proofs.FollowLemmas.{table_light}
use Rattle.tree_core.specs.Core.{IsLight, IsTold}

-- what the pass took has left the table
pub light_of : (held : Held) → IsOne held → IsLight held
light_of held one = table_light held.runs.pass held.runs.catalogue.c1.weight held.log one.follows

pub told_of : (held : Held) (pace : Pace) → HasPace held pace → IsOne held → IsRunBook held.book pace → IsTold held pace
told_of held pace p one told =
    let light : IsLight held = light_of held one in
    grind (arith, common_steps, nat_tests)

pub told_of_paced : (held : Held) (pace : Pace) → IsPacedHeld held pace → IsTold held pace
told_of_paced held pace k = told_of held pace k.numbers k.one k.told
