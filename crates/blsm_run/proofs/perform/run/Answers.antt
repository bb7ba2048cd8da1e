use Rattle.std.proofs.Common.{arith, inl, refl}
use Rattle.store_trial.proofs.RunnableLemmas.{all_runnable, room_is}
use Rattle.blsm_run.specs.Outcome.{refusal_of_store}
use Rattle.blsm_run.specs.Outside.{outside}
use Rattle.blsm_run.proofs.CauseLemmas.{in_vain, not_told, passed_on, stopped}
use Rattle.blsm_run.proofs.perform.run.Goals as goal

pub run_on_shelf-requires-clause-runnable : goal.run_on_shelf-requires-clause-runnable
run_on_shelf-requires-clause-runnable g c = λ κs lives. all_runnable _ c.lines.ensures.allowed

pub run_on_shelf-requires-clause-room : goal.run_on_shelf-requires-clause-room
run_on_shelf-requires-clause-room g c = λ κs lives. room_is c.room.result c.in_ok-script.script c.lines.result.now c.lines.ensures.lines c.room.ensures.entries c.room.ensures.rows

pub run_on_shelf-requires-clause-few : goal.run_on_shelf-requires-clause-few
run_on_shelf-requires-clause-few g c = λ κs lives. omega (arith, c.requires.few)

pub returns-in_err-script-clause-cause : goal.returns-in_err-script-clause-cause
returns-in_err-script-clause-cause g c = λ words accepted asked.
    let state = g.H.D.Disk.state in
    let o = outside words (g.S.Source.state c.args.source.now) (g.S.Source.state c.read_source.new.source) (g.H.Shelf.state c.args.shelf.now) (g.H.Shelf.state c.args.shelf.now) in
    passed_on state o c.from_residual.result c.in_err-script.field-0.0 c.from_residual.ensures.1
    (in_vain state o c.in_err-script.field-0.0 (record { name = c.args.name.now; options = c.args.options; asked = (accepted, asked); reads = c.in_err-script.ensures }, refl))

pub returns-in_err-finished-clause-cause : goal.returns-in_err-finished-clause-cause
returns-in_err-finished-clause-cause g c = λ words accepted asked.
    let state = g.H.D.Disk.state in
    let o = outside words (g.S.Source.state c.args.source.now) (g.S.Source.state c.read_source.new.source) (g.H.Shelf.state c.args.shelf.now) (g.H.Shelf.state c.run_on_shelf.new.shelf) in
    passed_on state o c.from_residual-in_err-finished.result (refusal_of_store c.in_err-finished.field-0.0) c.from_residual-in_err-finished.ensures.1
    (stopped state o c.in_err-finished.field-0.0 (inl (c.lines.result.now, record { name = c.args.name.now; options = c.args.options; asked = (accepted, asked); reads = rw c.lines.ensures.lines c.in_ok-script.ensures }, c.in_err-finished.ensures)))

pub returns-clause-cause : goal.returns-clause-cause
returns-clause-cause g c = λ words accepted asked.
    (c.lines.result.now, record { name = c.args.name.now; options = c.args.options; asked = (accepted, asked); reads = rw c.lines.ensures.lines c.in_ok-script.ensures }, refl, c.in_ok-finished.ensures)

pub returns-in_err-script-clause-told : goal.returns-in_err-script-clause-told
returns-in_err-script-clause-told g c = λ sink. not_told c.from_residual.result c.in_err-script.field-0.0 sink c.from_residual.ensures.1

pub returns-in_err-finished-clause-told : goal.returns-in_err-finished-clause-told
returns-in_err-finished-clause-told g c = λ sink. not_told c.from_residual-in_err-finished.result (refusal_of_store c.in_err-finished.field-0.0) sink c.from_residual-in_err-finished.ensures.1
