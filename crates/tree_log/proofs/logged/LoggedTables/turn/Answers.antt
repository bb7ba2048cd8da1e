use Rattle.std.proofs.Common.{◌∙◌, ap, sym, subst}
use Rattle.mem_table.specs.Tables.{Contents}
use Rattle.gated_log.specs.Lanes.{LanesState}
use Rattle.tree_log.specs.Log.{LogState, IsLogOf}
use Rattle.tree_log.proofs.RestLemmas.{turned_is_of}
use Rattle.tree_log.proofs.logged.LoggedTables.turn.Goals as goal

pub returns-clause-is_of : goal.returns-clause-is_of
returns-clause-is_of c = λ tree next turns lane_a lane_b is.
    let inside : LogState = record { a = c.self.inside.a; b = c.self.inside.b; lanes = c.self.inside.lanes } in
    subst (λ (l : LanesState). IsLogOf next (record { a = c.swap.new.x; b = c.swap.new.y; lanes = l })) (sym c.turn.ensures)
    (turned_is_of tree next inside c.self.invariant.roles c.self.invariant.whole_b turns lane_a lane_b
    (subst (IsLogOf tree) (sym c.self.view_is) is) c.swap.new.x c.swap.new.y c.swap.ensures.x_after
    (ap (λ (t : Contents). t.entries) (c.swap.ensures.y_after ∙ c.clear.ensures)))
