use Rattle.mem_table.specs.Shapes.{height_of}
use Rattle.mem_table.proofs.ways.+take_least.Given as goal

abbrev pub decreases-take_least : goal.decreases-take_least
decreases-take_least l = height_of l.nodes.now l.root
