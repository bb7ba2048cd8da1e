use Rattle.std.proofs.Common.{sym, ◌∙◌, arith}
use Rattle.mem_table.specs.Shapes.{tree_at}
use Rattle.mem_table.proofs.NodeLemmas.{stored}
use Rattle.mem_table.proofs.WayLemmas.{forked, compared_key}
use Rattle.mem_table.proofs.AddLemmas.{added_first, new_left, new_right, new_beyond, balanced_sides, may_left, differ_left, low_left, added_left, may_right, differ_right, low_right, added_right}
use Rattle.mem_table.proofs.ways.+add_under.Goals as goal

pub returns-then-root-eq-NONE : goal.returns-then-root-eq-NONE
returns-then-root-eq-NONE t c = rw c.join.ensures (added_first c.args.nodes.now c.args.store.now.slots c.args.root c.args.new c.requires.tree.few c.if-root-eq-NONE.true c.requires.new.in_range)

pub slice_copy_out-node : goal.slice_copy_out-node
slice_copy_out-node t c = (forked c.args.nodes.now c.args.store.now.slots c.args.root c.requires.tree c.if-root-eq-NONE.false).in_range

pub compare-requires : goal.compare-requires
compare-requires t c = omega (arith, (forked c.args.nodes.now c.args.store.now.slots c.args.root c.requires.tree c.if-root-eq-NONE.false).in_range, c.requires.tree.as_many)

pub add_under-left-requires : goal.add_under-left-requires
add_under-left-requires t c =
    let fork = forked c.args.nodes.now c.args.store.now.slots c.args.root c.requires.tree c.if-root-eq-NONE.false in (
      omega (arith, fork.lower_left, c.decreases),
      (
        fork.left_tree,
        (
          (balanced_sides c.args.nodes.now c.args.store.now.slots c.args.root _ _ c.args.new fork c.requires.new c.requires.balanced).1,
          (new_left c.args.nodes.now c.args.store.now.slots c.args.root _ _ c.args.new fork c.requires.new, (c.requires.key, omega (arith, fork.lower_left, c.requires.low))),
        ),
      ),
    )

pub add_under-right-requires : goal.add_under-right-requires
add_under-right-requires t c =
    let fork = forked c.args.nodes.now c.args.store.now.slots c.args.root c.requires.tree c.if-root-eq-NONE.false in (
      omega (arith, fork.lower_right, c.decreases),
      (
        fork.right_tree,
        (
          (balanced_sides c.args.nodes.now c.args.store.now.slots c.args.root _ _ c.args.new fork c.requires.new c.requires.balanced).2,
          (new_right c.args.nodes.now c.args.store.now.slots c.args.root _ _ c.args.new fork c.requires.new, (c.requires.key, omega (arith, fork.lower_right, c.requires.low))),
        ),
      ),
    )

pub settle-requires : goal.settle-requires
settle-requires t c =
    let fork = forked c.args.nodes.now c.args.store.now.slots c.args.root c.requires.tree c.if-root-eq-NONE.false in
    record {
      may = may_left c.args.nodes.now c.args.store.now.slots c.args.root _ _ c.args.new fork c.requires.new c.add_under-left.new.nodes c.add_under-left.result c.requires.balanced c.add_under-left.auto.nodes c.add_under-left.ensures;
      differ = differ_left c.args.nodes.now c.args.store.now.slots c.args.root _ _ c.args.new fork c.requires.new c.add_under-left.new.nodes c.add_under-left.result c.requires.balanced c.add_under-left.auto.nodes c.add_under-left.ensures;
      low = low_left c.args.nodes.now c.args.store.now.slots c.args.root _ _ c.args.new fork c.requires.new c.add_under-left.new.nodes c.add_under-left.result c.requires.balanced c.add_under-left.auto.nodes c.add_under-left.ensures 4294967296
          (omega (arith, c.requires.low, stored c.args.nodes.now c.args.root (tree_at c.args.nodes.now c.args.root) c.requires.tree.few c.requires.tree.holds));
    }

pub settle-requires-in_default : goal.settle-requires-in_default
settle-requires-in_default t c =
    let fork = forked c.args.nodes.now c.args.store.now.slots c.args.root c.requires.tree c.if-root-eq-NONE.false in
    record {
      may = may_right c.args.nodes.now c.args.store.now.slots c.args.root _ _ c.args.new fork c.requires.new c.add_under-right.new.nodes c.add_under-right.result c.requires.balanced c.add_under-right.auto.nodes c.add_under-right.ensures;
      differ = differ_right c.args.nodes.now c.args.store.now.slots c.args.root _ _ c.args.new fork c.requires.new c.add_under-right.new.nodes c.add_under-right.result c.requires.balanced c.add_under-right.auto.nodes c.add_under-right.ensures;
      low = low_right c.args.nodes.now c.args.store.now.slots c.args.root _ _ c.args.new fork c.requires.new c.add_under-right.new.nodes c.add_under-right.result c.requires.balanced c.add_under-right.auto.nodes c.add_under-right.ensures 4294967296
          (omega (arith, c.requires.low, stored c.args.nodes.now c.args.root (tree_at c.args.nodes.now c.args.root) c.requires.tree.few c.requires.tree.holds));
    }

pub returns-in-Less : goal.returns-in-Less
returns-in-Less t c =
    let fork = forked c.args.nodes.now c.args.store.now.slots c.args.root c.requires.tree c.if-root-eq-NONE.false in
    added_left c.args.nodes.now c.args.store.now.slots c.args.root _ _ c.args.new fork c.requires.new c.add_under-left.new.nodes c.add_under-left.result c.requires.balanced c.add_under-left.auto.nodes c.add_under-left.ensures
    c.settle.new.nodes c.settle.result
    (compared_key c.args.store.now.slots c.args.key.now c.args.new c.args.root c.compare.result c.requires.key c.compare.ensures ∙ c.in-Less.is)
    c.settle.ensures

pub returns-in_default : goal.returns-in_default
returns-in_default t c =
    let fork = forked c.args.nodes.now c.args.store.now.slots c.args.root c.requires.tree c.if-root-eq-NONE.false in
    let compared = compared_key c.args.store.now.slots c.args.key.now c.args.new c.args.root c.compare.result c.requires.key c.compare.ensures in
    added_right c.args.nodes.now c.args.store.now.slots c.args.root _ _ c.args.new fork c.requires.new c.add_under-right.new.nodes c.add_under-right.result c.requires.balanced c.add_under-right.auto.nodes c.add_under-right.ensures
    c.settle-in_default.new.nodes c.settle-in_default.result
    (new_beyond c.args.nodes.now c.args.store.now.slots c.args.root _ _ c.args.new fork c.requires.new (λ is. c.in_default.not-Less (sym compared ∙ is)))
    c.settle-in_default.ensures
