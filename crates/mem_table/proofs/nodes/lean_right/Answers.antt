use Rattle.std.proofs.Common.{arith}
use Rattle.mem_table.proofs.TurnLemmas.{turned_left, turned_under}
use Rattle.mem_table.proofs.nodes.lean_right.Goals as goal

pub join-requires-clause-low : goal.join-requires-clause-low
join-requires-clause-low c = (turned_left 4294967296 c.args.nodes.now c.args.at c.args.left c.args.right _ _ c.requires.may c.requires.higher c.requires.low (omega (arith, c.height_at.ensures, c.height_at-2.ensures))).low_first

pub join-requires-then-height_at-clause-low : goal.join-requires-then-height_at-clause-low
join-requires-then-height_at-clause-low c = rw c.join.ensures (turned_left 4294967296 c.args.nodes.now c.args.at c.args.left c.args.right _ _ c.requires.may c.requires.higher c.requires.low (omega (arith, c.height_at.ensures, c.height_at-2.ensures))).low_second

pub returns-then-height_at : goal.returns-then-height_at
returns-then-height_at c = rw (c.join-then-height_at.ensures, c.join.ensures) (turned_left 4294967296 c.args.nodes.now c.args.at c.args.left c.args.right _ _ c.requires.may c.requires.higher c.requires.low (omega (arith, c.height_at.ensures, c.height_at-2.ensures))).hung_so

pub join-requires-2-clause-low : goal.join-requires-2-clause-low
join-requires-2-clause-low c = (turned_under 4294967296 c.args.nodes.now c.args.at c.args.left c.args.right _ _ c.requires.may c.requires.higher c.requires.low (omega (arith, c.height_at.ensures, c.height_at-2.ensures))).low_first

pub join-requires-3-clause-low : goal.join-requires-3-clause-low
join-requires-3-clause-low c = rw c.join-2.ensures (turned_under 4294967296 c.args.nodes.now c.args.at c.args.left c.args.right _ _ c.requires.may c.requires.higher c.requires.low (omega (arith, c.height_at.ensures, c.height_at-2.ensures))).low_second

pub join-requires-4-clause-low : goal.join-requires-4-clause-low
join-requires-4-clause-low c = rw (c.join-3.ensures, c.join-2.ensures) (turned_under 4294967296 c.args.nodes.now c.args.at c.args.left c.args.right _ _ c.requires.may c.requires.higher c.requires.low (omega (arith, c.height_at.ensures, c.height_at-2.ensures))).low_third

pub returns : goal.returns
returns c = rw (c.join-4.ensures, c.join-3.ensures, c.join-2.ensures) (turned_under 4294967296 c.args.nodes.now c.args.at c.args.left c.args.right _ _ c.requires.may c.requires.higher c.requires.low (omega (arith, c.height_at.ensures, c.height_at-2.ensures))).hung_so
