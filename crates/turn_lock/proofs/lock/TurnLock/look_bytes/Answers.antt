use Rattle.std.proofs.Common.{rules, ap, arith, length}
use Rattle.turn_lock.proofs.Moves.{reads_bytes}
use Rattle.turn_lock.proofs.lock.TurnLock.look_bytes.Goals as goal

pub load-requires : goal.load-requires
load-requires g c =
    (search rules, search rules, reads_bytes g.V.Stands.facts g.V.Stands.stands c.self.inside.table.shared.key.value g.V.Stands.most g.met.V.Stands.within _ _ _ (omega (arith, ap length c.caller.invariant.0.2)))
