use mathlib.Core.Path.{subst₂}
use Rattle.std.specs.Prelude.{◌≡◌, ℕ, Option, Some, None, OnOk, drop, slice_set}
use Rattle.std.proofs.lemmas.Result.{on_ok_weaker}
use Rattle.std.proofs.Common.{◌∙◌, ap, sym, subst, arith}
use Rattle.std.proofs.lemmas.List.{get_or_read, get_or-set_same}
use Rattle.scan_view.specs.Hold.{HoldState}
use Rattle.scan_view.specs.Holds.{hold_of, pages_behind, AreToldBehind}
use Rattle.scan_view.specs.Pins.{HasHeld}
use Rattle.scan_view.proofs.StayLemmas.{next_pinned}
use Rattle.scan_view.proofs.holds.Holds.next_rows.Goals as goal
use Rattle.scan_view.proofs.holds.Holds.next_rows.Goals.{In-Some, After-next_rows}

hold_is : (g : _) (c : In-Some g) → hold_of c.args.seat c.self.inside.places.items ≡ Some c.in-Some.hold
hold_is g c = sym (get_or_read c.self.inside.places.items c.args.seat c.index_mut.result.now (omega (arith, c.self.invariant, c.requires.seat)) c.index_mut.ensures.value None) ∙ c.in-Some.is

pub returns-clause-rows : goal.returns-clause-rows
returns-clause-rows g c = λ pins rows honest held other.
    let old = g.D.Disk.state c.args.disk.now in
    let new = g.D.Disk.state c.next_rows.new.disk in
    let is = hold_is g (goal.at.returns-clause-rows g c).In-Some in
    let now = subst (λ (h : Option HoldState). HasHeld c.args.geo.now pins c.args.seat h (Some rows) old.bytes) (ap (hold_of c.args.seat) (sym c.self.view_is) ∙ is) held in
    let came = next_pinned c.args.geo.now pins c.args.seat rows c.args.n c.in-Some.hold c.next_rows.new.self old.bytes new.bytes c.next_rows.result c.next_rows.new.room
    (λ before. c.next_rows.ensures.rows rows honest before other) now in (
      came.0,
      came.1,
      subst (λ (h : Option HoldState). HasHeld c.args.geo.now pins c.args.seat h (Some (drop c.args.n rows)) new.bytes)
          (sym (get_or-set_same c.self.inside.places.items c.args.seat (Some c.next_rows.new.self) None (omega (arith, c.self.invariant, c.requires.seat)))) came.2,
    )

-- the seat's hold before and after
was : (g : _) (c : In-Some g) → hold_of c.args.seat c.args.self.now ≡ Some c.in-Some.hold
was g c = ap (hold_of c.args.seat) (sym c.self.view_is) ∙ hold_is g c

now : (g : _) (c : After-next_rows g) → hold_of c.args.seat (slice_set c.self.inside.places.items c.args.seat (Some c.next_rows.new.self)) ≡ Some c.next_rows.new.self
now g c = get_or-set_same c.self.inside.places.items c.args.seat (Some c.next_rows.new.self) None (omega (arith, c.self.invariant, c.requires.seat))

pub returns-clause-told : goal.returns-clause-told
returns-clause-told g c = λ honest.
    let arm = (goal.at.returns-clause-told g c).After-next_rows in
    subst₂ (λ (a b : Option HoldState). OnOk c.next_rows.result (AreToldBehind c.args.geo.now c.args.n a b c.next_rows.new.room (g.D.Disk.state c.args.disk.now).bytes)) (sym (was g (goal.at.returns-clause-told g c).In-Some)) (sym (now g arm))
    (c.next_rows.ensures.told honest)

pub returns-clause-ahead : goal.returns-clause-ahead
returns-clause-ahead g c =
    let arm = (goal.at.returns-clause-ahead g c).After-next_rows in
    omega (arith, ap {B = ℕ} pages_behind (was g (goal.at.returns-clause-ahead g c).In-Some), ap {B = ℕ} pages_behind (now g arm), c.next_rows.ensures.ahead)

pub returns-clause-passes : goal.returns-clause-passes
returns-clause-passes g c =
    let arm = (goal.at.returns-clause-passes g c).After-next_rows in
    on_ok_weaker c.next_rows.result (λ few. omega (arith, ap {B = ℕ} pages_behind (was g (goal.at.returns-clause-passes g c).In-Some), ap {B = ℕ} pages_behind (now g arm), few)) c.next_rows.ensures.passes
