use Rattle.run_writer.proofs.GrowthLemmas.{room_for_more}
use Rattle.run_writer.proofs.RegionLemmas.{open_inside}
use Rattle.run_writer.proofs.laws.a_run_has_room.Goals as goal

pub returns-clause-room : goal.returns-clause-room
returns-clause-room c = room_for_more

pub returns-clause-inside : goal.returns-clause-inside
returns-clause-inside c = open_inside
