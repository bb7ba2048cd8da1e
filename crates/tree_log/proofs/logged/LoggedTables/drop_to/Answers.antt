use Rattle.std.proofs.Common.{sym, subst}
use Rattle.mem_table.specs.Tables.{Contents}
use Rattle.tree_log.specs.Log.{LogState, IsLogOf}
use Rattle.tree_log.proofs.RestLemmas.{dropped_is_of}
use Rattle.tree_log.proofs.logged.LoggedTables.drop_to.Goals as goal

pub returns-clause-is_of : goal.returns-clause-is_of
returns-clause-is_of c = λ tree is.
    let inside : LogState = record { a = c.self.inside.a; b = c.self.inside.b; lanes = c.self.inside.lanes } in
    subst (λ (t : Contents). IsLogOf tree (record { a = t; b = c.self.inside.b; lanes = c.self.inside.lanes })) (sym c.drop_to.ensures.dropped)
    (dropped_is_of c.args.key.now tree inside (subst (IsLogOf tree) (sym c.self.view_is) is))
