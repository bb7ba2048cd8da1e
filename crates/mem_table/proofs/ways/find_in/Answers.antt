use Rattle.std.proofs.Common.{ℕ, Option, IfSome, IfNone, subst}
use Rattle.mem_table.specs.Shapes.{places, tree_at}
use Rattle.mem_table.specs.Ways.{IsPlaced, AreWithout, tree_entries}
use Rattle.mem_table.proofs.WayLemmas.{place_there, place_missing}
use Rattle.mem_table.proofs.ways.find_in.Goals as goal

pub returns-then-place-clause-absent : goal.returns-then-place-clause-absent
returns-then-place-clause-absent g c =
    subst (λ (r : Option ℕ). IfNone r (AreWithout c.args.key.now (tree_entries c.args.nodes.now c.args.store.now.slots c.args.root))) (place_missing c.descend-place.result c.if-place.true) c.descend-place.ensures.absent

pub returns-else-place-clause-found : goal.returns-else-place-clause-found
returns-else-place-clause-found g c =
    subst (λ (r : Option ℕ). IfSome r (IsPlaced c.args.store.now.slots (places (tree_at c.args.nodes.now c.args.root)) c.args.key.now)) (place_there c.descend-place.result c.if-place.false) c.descend-place.ensures.found
