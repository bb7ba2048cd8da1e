use Rattle.std.proofs.Common.{length, inl, sym, arith, ◌∙◌}
use Rattle.std.proofs.lemmas.List.Elements.{All-push}
use Rattle.script_text.proofs.ScriptLemmas.{not_empty, so_far_more, so_far_whole}
use Rattle.ship_text.specs.Reading.{IsShip}
use Rattle.ship_text.specs.Ships.{ship_line}
use Rattle.ship_text.proofs.ReadingLaws.{bad_ship}
use Rattle.ship_text.proofs.reading.read_lines.Goals as goal

pub returns-in-None-clause-bad : goal.returns-in-None-clause-bad
returns-in-None-clause-bad c =
    let some = not_empty (length c.loop-rest.rest.now) (sym c.is_empty.ensures ∙ c.loop-rest-test.true) in
    bad_ship _ _ _ _ _ _ c.loop-rest.invariant.so_far some c.cut.ensures.front c.cut.ensures.whole c.loop-rest.invariant.are (omega arith) (inl c.in-None.ensures)

pub loop-rest-preserved : goal.loop-rest-preserved
loop-rest-preserved c =
    let some = not_empty (length c.loop-rest.rest.now) (sym c.is_empty.ensures ∙ c.loop-rest-test.true) in
    let pushed = c.in_ok-push.ensures.items in
    record {
      are = record { each = rw pushed (All-push IsShip c.loop-rest.ships.items c.in-Some.ship c.loop-rest.invariant.are.each c.in-Some.ensures.is); few = omega arith };
      so_far = rw (pushed, c.remainder-rest.ensures)
          (so_far_more ship_line c.args.text.now c.loop-rest.ships.items c.loop-rest.rest.now _ _ c.in-Some.ship
          (so_far_whole ship_line _ _ _ c.loop-rest.invariant.so_far some) c.cut.ensures.whole c.in-Some.ensures.spelled);
    }
