use Rattle.std.proofs.Common.{sym, ◌∙◌, arith}
use Rattle.mem_table.proofs.WayLemmas.{forked, next_left, next_right, next_none}
use Rattle.mem_table.proofs.ways.+find_above.Goals as goal

pub returns-then-root-eq-NONE : goal.returns-then-root-eq-NONE
returns-then-root-eq-NONE t c = next_none c.args.nodes.now c.args.store.now.slots c.args.root c.args.key.now c.args.before c.requires.few c.if-root-eq-NONE.true

pub bounds-nodes-root : goal.bounds-nodes-root
bounds-nodes-root t c = (forked c.args.nodes.now c.args.store.now.slots c.args.root c.requires c.if-root-eq-NONE.false).in_range

pub is_above-requires : goal.is_above-requires
is_above-requires t c = omega (arith, (forked c.args.nodes.now c.args.store.now.slots c.args.root c.requires c.if-root-eq-NONE.false).in_range, c.requires.as_many)

pub find_above-requires : goal.find_above-requires
find_above-requires t c =
    let fork = forked c.args.nodes.now c.args.store.now.slots c.args.root c.requires c.if-root-eq-NONE.false in
    (omega (arith, fork.lower_left, c.decreases), fork.left_tree)

pub find_above-requires-else-is_above : goal.find_above-requires-else-is_above
find_above-requires-else-is_above t c =
    let fork = forked c.args.nodes.now c.args.store.now.slots c.args.root c.requires c.if-root-eq-NONE.false in
    (omega (arith, fork.lower_right, c.decreases), fork.right_tree)

pub returns-then-is_above : goal.returns-then-is_above
returns-then-is_above t c =
    let fork = forked c.args.nodes.now c.args.store.now.slots c.args.root c.requires c.if-root-eq-NONE.false in
    c.find_above.ensures
    ∙ next_left c.args.nodes.now c.args.store.now.slots c.args.root _ _ fork c.args.key.now c.args.before
    (sym c.is_above.ensures ∙ c.if-is_above.true)

pub returns-else-is_above : goal.returns-else-is_above
returns-else-is_above t c =
    let fork = forked c.args.nodes.now c.args.store.now.slots c.args.root c.requires c.if-root-eq-NONE.false in
    c.find_above-else-is_above.ensures
    ∙ next_right c.args.nodes.now c.args.store.now.slots c.args.root _ _ fork c.args.key.now c.args.before
    (sym c.is_above.ensures ∙ c.if-is_above.false)
