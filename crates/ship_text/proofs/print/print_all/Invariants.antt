use Rattle.std.proofs.Common.{◌≡◌, ◌+◌, Ok, take}
use Rattle.refusal.specs.declared.Failed.{Failed}
use Rattle.text_io.specs.Text.{Writes}
use Rattle.ship_text.specs.Ships.{ships_text}
use Rattle.ship_text.proofs.ShipLemmas.{ships_among}
use Rattle.ship_text.proofs.print.print_all.Given as goal

abbrev pub invariant-loop-place : goal.invariant-loop-place
invariant-loop-place g l =
    (l.number ≡ l.first + ships_among (take l.place l.annals.entries))
    × Writes {T = Unit {0}} {E = Failed} (ships_text l.first (take l.place l.annals.entries)) (Ok tt) (g.K.Sink.state l.fn.sink) (g.K.Sink.state l.sink)
