use Rattle.std.proofs.Common.{ap, ◌∙◌, arith}
use Rattle.std.proofs.lemmas.List.{take_all}
use Rattle.blsm_model.specs.Legal.{total_weight}
use Rattle.blsm_model.proofs.PackLemmas.{room_left}
use Rattle.blsm_model.proofs.pack.Pack.of.Goals as goal

pub put_in-requires-clause-heads : goal.put_in-requires-clause-heads
put_in-requires-clause-heads c = omega arith

pub put_in-requires-clause-bytes : goal.put_in-requires-clause-bytes
put_in-requires-clause-bytes c =
    let room = rw (← c.write-item.is) at (room_left c.args.writes.now c.loop-write.write-index c.write-item.result c.loop-write-test.true) in
    omega (arith, room)

pub invariant_of-result : goal.invariant_of-result
invariant_of-result c =
    let all = c.loop-write.invariant.weight ∙ ap total_weight (take_all c.loop-write.write-index c.args.writes.now c.loop-write-test.false) in
    record { are = c.loop-write.invariant.are; some = omega arith; few = omega arith; light = omega (arith, all) }
