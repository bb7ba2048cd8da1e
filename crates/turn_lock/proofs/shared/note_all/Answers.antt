use Rattle.std.proofs.Common.{ℕ, ◌+◌, ◌-◌, List, [], ◌∷◌, subst, arith}
use Rattle.blsm_model.specs.declared.history.Entry.{Entry}
use Rattle.turn_lock.specs.Tallies.{work_by, works_by, Noted}
use Rattle.turn_lock.proofs.Runs.{told, noted_more, works_more}
use Rattle.turn_lock.proofs.shared.note_all.Goals as goal

pub loop-n-preserved : goal.loop-n-preserved
loop-n-preserved g c =
    let so_far = c.loop-n.invariant.0 in
    let room = c.loop-n.invariant.1 in
    let below = c.loop-n-test.true in
    let one : Noted told c.loop-n.caller (work_by c.args.caller.now.number c.loop-n.n ∷ []) c.do_one.new.caller =
    subst (λ (seat : ℕ). Noted told c.loop-n.caller (work_by seat c.loop-n.n ∷ []) c.do_one.new.caller) so_far.number c.do_one.ensures.noted in (
      subst (λ (es : List Entry). Noted told c.args.caller.now es c.do_one.new.caller) (works_more c.args.caller.now.number c.loop-n.n)
          (noted_more told c.args.caller.now c.loop-n.caller c.do_one.new.caller (works_by c.args.caller.now.number c.loop-n.n) (work_by c.args.caller.now.number c.loop-n.n ∷ []) so_far one),
      c.do_one.ensures.room (c.args.count - (c.loop-n.n + 1)) (room.0, room.1, room.2, omega (arith, below, room.3)),
      omega (arith, below),
    )
