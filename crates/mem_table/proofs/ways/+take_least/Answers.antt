use Rattle.std.proofs.Common.{arith}
use Rattle.mem_table.proofs.TakeLemmas.{parted, taken_here, may_lose, lower_left, may_left, differ_left, low_left, taken_left}
use Rattle.mem_table.proofs.ways.+take_least.Goals as goal

pub slice_copy_out-node : goal.slice_copy_out-node
slice_copy_out-node t c = (parted c.args.nodes.now c.args.root c.requires.may).in_range

pub returns-then-node : goal.returns-then-node
returns-then-node t c = taken_here c.args.nodes.now c.args.root _ _ (parted c.args.nodes.now c.args.root c.requires.may) c.if-node.true

pub take_least-least-requires : goal.take_least-least-requires
take_least-least-requires t c =
    let fork = parted c.args.nodes.now c.args.root c.requires.may in
    let lower = lower_left c.args.nodes.now c.args.root _ _ fork in
    (omega (arith, lower, c.decreases), (may_lose c.args.nodes.now c.args.root _ _ fork c.if-node.false, omega (arith, lower, c.requires.low)))

pub settle-requires-clause-may : goal.settle-requires-clause-may
settle-requires-clause-may t c =
    may_left c.args.nodes.now c.args.root _ _ (parted c.args.nodes.now c.args.root c.requires.may) c.take_least-least.new.nodes
    c.take_least-least.result.0 c.take_least-least.result.1 c.take_least-least.auto.nodes c.take_least-least.ensures

pub settle-requires-clause-differ : goal.settle-requires-clause-differ
settle-requires-clause-differ t c =
    differ_left c.args.nodes.now c.args.root _ _ (parted c.args.nodes.now c.args.root c.requires.may) c.take_least-least.new.nodes
    c.take_least-least.result.0 c.take_least-least.result.1 c.take_least-least.auto.nodes c.take_least-least.ensures

pub settle-requires-clause-low : goal.settle-requires-clause-low
settle-requires-clause-low t c =
    low_left c.args.nodes.now c.args.root _ _ (parted c.args.nodes.now c.args.root c.requires.may) c.take_least-least.new.nodes
    c.take_least-least.result.0 c.take_least-least.result.1 c.take_least-least.auto.nodes c.take_least-least.ensures
    4294967296 c.requires.low

pub returns : goal.returns
returns t c =
    taken_left c.args.nodes.now c.args.root _ _ (parted c.args.nodes.now c.args.root c.requires.may) c.take_least-least.new.nodes
    c.take_least-least.result.0 c.take_least-least.result.1 c.take_least-least.auto.nodes c.take_least-least.ensures
    c.settle.new.nodes c.settle.result c.settle.ensures
