use Rattle.mem_table.specs.Shapes.{height_of}
use Rattle.mem_table.proofs.ways.+find_above.Given as goal

abbrev pub decreases-find_above : goal.decreases-find_above
decreases-find_above l = height_of l.nodes.now l.root
