use Rattle.tree_file.proofs.OneTree.{one_tree}
use Rattle.tree_reading.proofs.FirstLemmas.{map_is_read}
use Rattle.blsm_run.specs.Outcome.{outcome_of}
use Rattle.blsm_run.proofs.AnswerLemmas.{answers}
use Rattle.blsm_run.proofs.run.blsm_run.Goals as goal

pub returns : goal.returns
returns g c =
    answers g.H.D.Disk.state (g.met.H.D.Disk g.world.𝓛 g.world.𝓜 g.world.𝓡 ((λ s x. x), (λ x. x), (λ x. x), λ x. x)).honest_tells one_tree
    map_is_read _ _ _ (outcome_of c.perform-answer.result) c.tell.result
    c.perform-answer.ensures.cause (c.tell.ensures _ c.perform-answer.ensures.told).0 (c.tell.ensures _ c.perform-answer.ensures.told).1
