use Rattle.std.proofs.Common.{arith}
use Rattle.mem_table.proofs.TurnLemmas.{hung_plain}
use Rattle.mem_table.proofs.nodes.settle.Goals as goal

pub returns-else-right_height-left_height : goal.returns-else-right_height-left_height
returns-else-right_height-left_height c =
    rw c.join.ensures (hung_plain c.args.nodes.now c.args.at c.args.left c.args.right _ _ c.requires.may
    (omega (arith, c.height_at-left_height.ensures, c.height_at-right_height.ensures), omega (arith, c.height_at-left_height.ensures, c.height_at-right_height.ensures)))
