use Rattle.std.proofs.Common.{arith}
use Rattle.disk_trait.specs.Reads.{OnlyReads}
use Rattle.disk_trait.proofs.ReadLemmas.{only_reads_more, only_reads_wider}
use Rattle.blsm_model.specs.Geometry.{file_length}
use Rattle.tree_reading.specs.Reading.{within}
use Rattle.tree_reading.proofs.FaultLemmas.{calm}
use Rattle.tree_reading.proofs.head.read_head.Goals as goal
use Rattle.tree_reading.proofs.head.read_head.Goals.{After-read_catalogue}

reads : (g : _) (c : After-read_catalogue g) → OnlyReads (file_length c.in_ok-geometry.geometry) 4 (g.D.Disk.state c.args.disk.now) (g.D.Disk.state c.read_catalogue.new.disk)
reads g c =
    only_reads_more (g.met.D.Disk.timed c.read_sizes.new.disk) (calm c.in_ok-geometry.geometry c.in_ok-geometry.ensures.faults)
    (only_reads_wider {end' = file_length c.in_ok-geometry.geometry} {most' = 2} (omega arith) (omega arith) c.read_sizes.ensures.effect) c.read_catalogue.ensures.effect (omega arith) (omega arith)

pub returns-in_err-catalogue-clause-looked : goal.returns-in_err-catalogue-clause-looked
returns-in_err-catalogue-clause-looked g c = λ is.
    within c.in_ok-geometry.geometry c.in_ok-geometry.ensures.fits c.in_ok-geometry.ensures.length (reads g (goal.at.returns-in_err-catalogue-clause-looked g c).After-read_catalogue)

pub returns-clause-effect : goal.returns-clause-effect
returns-clause-effect g c = reads g (goal.at.returns-clause-effect g c).After-read_catalogue
