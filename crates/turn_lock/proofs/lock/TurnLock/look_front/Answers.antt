use Rattle.std.proofs.Common.{rules}
use Rattle.turn_lock.proofs.Moves.{reads_front}
use Rattle.turn_lock.proofs.lock.TurnLock.look_front.Goals as goal

pub load-requires : goal.load-requires
load-requires g c = (search rules, search rules, reads_front g.V.Stands.facts g.V.Stands.stands c.self.inside.table.shared.key.value _ _ _)
