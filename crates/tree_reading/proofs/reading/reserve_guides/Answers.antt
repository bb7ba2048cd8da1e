use Rattle.tree_reading.proofs.ReadingLemmas.{rooms_reserved}
use Rattle.tree_reading.proofs.reading.reserve_guides.Goals as goal

pub returns-in-Opening-clause-rooms : goal.returns-in-Opening-clause-rooms
returns-in-Opening-clause-rooms c =
    rooms_reserved c.args.head.now.geometry c.args.head.now.catalogue c.requires.right.fits c.reserve.result c.reserve.ensures.guides c.reserve.ensures.c1x
