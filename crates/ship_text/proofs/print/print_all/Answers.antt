use Rattle.std.proofs.Common.{◌≡◌, ◌<◌, length, take, arith}
use Rattle.std.proofs.lemmas.List.{length-take-le}
use Rattle.text_io.proofs.WritingLemmas.{writes_then, writes_stopped}
use Rattle.ship_text.proofs.ShipLemmas.{among_more, few_among, ships_more, ships_split, written_with}
use Rattle.ship_text.proofs.print.print_all.Goals as goal

pub print_ship_of-requires-clause-next : goal.print_ship_of-requires-clause-next
print_ship_of-requires-clause-next g c =
    let entries = c.args.annals.now.entries in
    let place = c.loop-place.place in
    let as_long : length (take place entries) ≡ place = length-take-le place entries (omega arith) in
    omega (arith, c.loop-place.invariant.0, few_among (take place entries), as_long, c.requires)

pub returns-in_err-number : goal.returns-in_err-number
returns-in_err-number g c =
    let entries = c.args.annals.now.entries in
    let within : c.loop-place.place < length entries = omega arith in
    rw (ships_split c.args.first entries c.loop-place.place within, ← c.loop-place.invariant.0)
    (writes_stopped _ _ (writes_then _ _ c.loop-place.invariant.1 c.in_err-number.ensures.text) c.from_residual.ensures.0)

pub loop-place-preserved : goal.loop-place-preserved
loop-place-preserved g c =
    let entries = c.args.annals.now.entries in
    let within : c.loop-place.place < length entries = omega arith in (
      omega (arith, c.loop-place.invariant.0, among_more entries c.loop-place.place within, c.in_ok-number.ensures.next),
      rw (ships_more c.args.first entries c.loop-place.place within, ← c.loop-place.invariant.0)
          (writes_then _ _ c.loop-place.invariant.1 (written_with _ c.in_ok-number.number tt _ _ c.in_ok-number.ensures.text)),
    )
