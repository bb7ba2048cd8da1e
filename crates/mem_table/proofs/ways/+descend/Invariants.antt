use Rattle.mem_table.specs.Shapes.{height_of}
use Rattle.mem_table.proofs.ways.+descend.Given as goal

abbrev pub decreases-descend : goal.decreases-descend
decreases-descend g l = height_of l.nodes.now l.root
