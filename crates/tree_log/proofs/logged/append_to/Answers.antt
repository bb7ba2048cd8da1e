use Rattle.std.specs.Prelude.{◌+◌, ℕ}
use Rattle.std.proofs.Common.{◌∙◌, ap, sym}
use Rattle.gated_log.specs.Lanes.{end_of, moved}
use Rattle.gated_log.proofs.RecordLemmas.{cost_one}
use Rattle.tree_log.proofs.logged.append_to.Goals as goal

pub returns-clause-lanes : goal.returns-clause-lanes
returns-clause-lanes g c = c.in_ok-append.ensures.moved ∙ ap (moved c.args.lanes.now c.args.lane) (sym (cost_one c.args.key.now c.args.rec.now))

pub returns-clause-ended : goal.returns-clause-ended
returns-clause-ended g c =
    c.in_ok-append.ensures.ended ∙ ap (λ (n : ℕ). end_of c.args.lanes.now c.args.lane + n) (sym (cost_one c.args.key.now c.args.rec.now))
