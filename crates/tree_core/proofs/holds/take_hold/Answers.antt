use Rattle.std.specs.Prelude.{◌≡◌, IfSome, List, Option, Some, None}
use Rattle.std.proofs.Common.{◌∙◌, ap, sym, subst, arith}
use Rattle.std.proofs.lemmas.List.{get_or-set_other, get_or-set_same}
use Rattle.blsm_model.specs.Sizes.{Sizes}
use Rattle.mem_table.specs.Tables.{Contents}
use Rattle.page_file.specs.Component.{entries_of}
use Rattle.record_delta.specs.Entries.{above, replayed}
use Rattle.scan_view.specs.Hold.{HoldState}
use Rattle.scan_view.specs.Holds.{hold_of, pages_behind}
use Rattle.scan_view.specs.Pins.{HasHeld}
use Rattle.tree_machine.specs.Lists.{rows_in}
use Rattle.tree_runs.specs.Holding.{HoldFits, IsHeldFrom, PinsFor}
use Rattle.tree_runs.specs.Lookups.{IsFloorOf}
use Rattle.tree_runs.specs.Runs.{RunsState}
use Rattle.tree_core.specs.Holds.{AreFew}
use Rattle.tree_core.proofs.KeepLemmas.{few_by}
use Rattle.tree_core.proofs.holds.take_hold.Goals as goal
use Rattle.tree_core.proofs.holds.take_hold.Goals.{After-set}

pub hold-requires-clause-fits : goal.hold-requires-clause-fits
hold-requires-clause-fits c = subst (λ (t : Contents). HoldFits c.args.held.now.runs t.entries) (sym c.a.ensures) (c.requires.fits (sym c.in_default.ensures))

-- the seat's hold is the one that was made
its_own : (c : goal.After-set) → hold_of c.args.seat c.set.new.self ≡ Some c.in-Ok.hold
its_own c =
    ap (λ (hs : List (Option HoldState)). hold_of c.args.seat hs) c.set.ensures
    ∙ get_or-set_same c.args.holds.now c.args.seat (Some c.in-Ok.hold) None (omega (arith, c.requires.seat, c.has-had.ensures.places))

pub returns-in-Ok-clause-rows : goal.returns-in-Ok-clause-rows
returns-in-Ok-clause-rows c = λ tree file made are_of dropped rest.
    let own = its_own (goal.at.returns-in-Ok-clause-rows c).After-set in
    let held = c.args.held.now in
    let low = c.args.low.now in
    let high = c.args.high.now in
    let pins = c.hold.new.self.space.pins in
    let a = replayed tree.lane_a.entries in
    let c1 = entries_of tree.c1 in
    let c1x = entries_of tree.c1x in
    let c2 = entries_of tree.c2 in
    let given = c.in-Ok.ensures.rows tree file are_of (subst (λ (t : Contents). IsFloorOf t.floor held.runs tree file) (sym c.a.ensures) dropped)
    (subst (λ (t : Contents). t.entries ≡ above t.floor a) (sym c.a.ensures) rest) in
    let at_b = subst (λ (t : Contents). HasHeld held.runs.sizes pins c.args.seat (Some c.in-Ok.hold) (Some (rows_in (record { b = t.entries; a = a; c1 = c1; c1x = c1x; c2 = c2 }) low high)) file) c.b.ensures given in
    subst (λ (h : Option HoldState). HasHeld held.runs.sizes pins c.args.seat h (Some (rows_in (record { b = held.log.b.entries; a = a; c1 = c1; c1x = c1x; c2 = c2 }) low high)) file)
    (sym own) at_b

pub returns-in-Ok-clause-few : goal.returns-in-Ok-clause-few
returns-in-Ok-clause-few c = λ few.
    let own = its_own (goal.at.returns-in-Ok-clause-few c).After-set in
    let runs = c.args.held.now.runs in
    subst (λ (s : Sizes). AreFew s c.set.new.self) (sym (ap (λ (r : RunsState). r.sizes) c.in-Ok.ensures.pins.rest))
    (few_by runs.sizes c.args.seat c.args.holds.now c.set.new.self
    (λ other differs. ap (λ (hs : List (Option HoldState)). hold_of other hs) c.set.ensures ∙ get_or-set_other c.args.holds.now c.args.seat other (Some c.in-Ok.hold) None differs)
    (omega (arith, ap pages_behind own, c.in-Ok.ensures.few)) few)

pub returns-in-Ok-clause-cause : goal.returns-in-Ok-clause-cause
returns-in-Ok-clause-cause c =
    let own = its_own (goal.at.returns-in-Ok-clause-cause c).After-set in
    let runs = c.args.held.now.runs in
    let low = c.args.low.now in
    let high = c.args.high.now in
    let hold = c.in-Ok.hold in
    let at_a = subst (λ (t : Contents). IsHeldFrom runs t.floor low high c.b.result.now.entries t.entries hold) c.a.ensures c.in-Ok.ensures.hold in
    let at_b = subst (λ (t : Contents). IsHeldFrom runs c.args.held.now.log.a.floor low high t.entries c.args.held.now.log.a.entries hold) c.b.ensures at_a in
    let exact = subst (λ (t : Contents). PinsFor t.floor c.args.seat hold.front hold.c1 runs c.hold.new.self.space) c.a.ensures c.in-Ok.ensures.exact in (
      sym c.in_default.ensures,
      (hold, own, at_b),
      subst (λ (h : Option HoldState). IfSome h (λ (k : HoldState). PinsFor c.args.held.now.log.a.floor c.args.seat k.front k.c1 runs c.hold.new.self.space)) (sym own) exact,
    )
