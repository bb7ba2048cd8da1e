use Rattle.std.proofs.Common.{sym, ◌∙◌, arith}
use Rattle.mem_table.specs.Ways.{place_of}
use Rattle.mem_table.proofs.WayLemmas.{forked, answer_left, answer_right, answer_here, answer_none, place_there}
use Rattle.mem_table.proofs.ways.+descend.Goals as goal

pub returns-then-root-eq-NONE-clause-absent : goal.returns-then-root-eq-NONE-clause-absent
returns-then-root-eq-NONE-clause-absent g t c = (answer_none c.args.nodes.now c.args.store.now.slots c.args.root c.args.key.now c.requires.few c.if-root-eq-NONE.true).absent

pub bounds-nodes-root : goal.bounds-nodes-root
bounds-nodes-root g t c = (forked c.args.nodes.now c.args.store.now.slots c.args.root c.requires c.if-root-eq-NONE.false).in_range

pub compare-requires : goal.compare-requires
compare-requires g t c = omega (arith, (forked c.args.nodes.now c.args.store.now.slots c.args.root c.requires c.if-root-eq-NONE.false).in_range, c.requires.as_many)

pub descend-requires : goal.descend-requires
descend-requires g t c =
    let fork = forked c.args.nodes.now c.args.store.now.slots c.args.root c.requires c.if-root-eq-NONE.false in
    λ κs lives. (omega (arith, fork.lower_left, c.decreases), (lives, fork.left_tree))

pub descend-requires-in-Greater : goal.descend-requires-in-Greater
descend-requires-in-Greater g t c =
    let fork = forked c.args.nodes.now c.args.store.now.slots c.args.root c.requires c.if-root-eq-NONE.false in
    λ κs lives. (omega (arith, fork.lower_right, c.decreases), (lives, fork.right_tree))

pub returns-in-Less : goal.returns-in-Less
returns-in-Less g t c =
    let fork = forked c.args.nodes.now c.args.store.now.slots c.args.root c.requires c.if-root-eq-NONE.false in
    let a = answer_left c.args.nodes.now c.args.store.now.slots c.args.root _ _ c.args.key.now fork (place_of c.descend.result) (sym c.compare.ensures.order ∙ c.in-Less.is) (record { found = c.descend.ensures.found; absent = c.descend.ensures.absent }) in
    record {
      found = a.found;
      absent = a.absent;
      more = omega (arith, c.descend.ensures.more, c.compare.ensures.step);
      few = omega (arith, c.descend.ensures.few, c.compare.ensures.step, fork.lower_left);
    }

pub returns-in-Equal : goal.returns-in-Equal
returns-in-Equal g t c =
    let fork = forked c.args.nodes.now c.args.store.now.slots c.args.root c.requires c.if-root-eq-NONE.false in
    record {
      found = rw (place_there c.args.root c.if-root-eq-NONE.false) (answer_here c.args.nodes.now c.args.store.now.slots c.args.root _ _ c.args.key.now fork (sym c.compare.ensures.order ∙ c.in-Equal.is)).found;
      absent = rw (place_there c.args.root c.if-root-eq-NONE.false) tt;
      more = omega (arith, c.compare.ensures.step);
      few = omega (arith, c.compare.ensures.step, fork.lower_left);
    }

pub returns-in-Greater : goal.returns-in-Greater
returns-in-Greater g t c =
    let fork = forked c.args.nodes.now c.args.store.now.slots c.args.root c.requires c.if-root-eq-NONE.false in
    let d = c.descend-in-Greater.ensures in
    let a = answer_right c.args.nodes.now c.args.store.now.slots c.args.root _ _ c.args.key.now fork (place_of c.descend-in-Greater.result) (sym c.compare.ensures.order ∙ c.in-Greater.is) (record { found = d.found; absent = d.absent }) in
    record {
      found = a.found;
      absent = a.absent;
      more = omega (arith, d.more, c.compare.ensures.step);
      few = omega (arith, d.few, c.compare.ensures.step, fork.lower_right);
    }
