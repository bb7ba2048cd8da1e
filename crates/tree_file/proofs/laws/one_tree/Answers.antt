use Rattle.tree_file.proofs.OneTree.{one_size, one_tree, one_map, reads_exactly}
use Rattle.tree_file.proofs.laws.one_tree.Goals as goal

pub returns-clause-sizes : goal.returns-clause-sizes
returns-clause-sizes c = one_size

pub returns-clause-same : goal.returns-clause-same
returns-clause-same c = one_tree

pub returns-clause-map : goal.returns-clause-map
returns-clause-map c = one_map

pub returns-clause-reads : goal.returns-clause-reads
returns-clause-reads c = reads_exactly
