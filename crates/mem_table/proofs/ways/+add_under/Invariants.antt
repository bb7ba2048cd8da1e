use Rattle.mem_table.specs.Shapes.{height_of}
use Rattle.mem_table.proofs.ways.+add_under.Given as goal

abbrev pub decreases-add_under : goal.decreases-add_under
decreases-add_under l = height_of l.nodes.now l.root
