use Rattle.std.proofs.Common.{None, length, arith}
use Rattle.disk_mem.proofs.PlaceLemmas.{all_placed_push}
use Rattle.disk_mem.proofs.Noted.{went_well}
use Rattle.disk_mem.proofs.stock.Stock.note_unnamed.Goals as goal

pub invariant_of-self : goal.invariant_of-self
invariant_of-self c =
    let s = c.args.self.now in
    let room = c.has_room.ensures.yes c.if-has_room.true in
    let pushed = went_well c.push.result _ _ _ _ c.push.ensures.items c.push.ensures.full (λ full. omega (arith, full, room.1, s.reserved)) in
    record {
      paired = s.paired;
      reserved = omega (arith, s.reserved, c.push.ensures.capacity);
      full_before = λ some. absurd (omega (arith, some, room.0));
      placed = rw pushed (all_placed_push (length s.names.items) s.fetched.items None s.placed tt);
    }
