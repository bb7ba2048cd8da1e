use Rattle.std.proofs.Common.{inl, inr, refl}
use Rattle.script_text.proofs.GeneratedLaws.{history_keys}
use Rattle.blsm_run.specs.declared.outcome.Refusal.TheVariants as refusal
use Rattle.blsm_run.specs.Outcome.{refusal_of_making, refusal_of_store}
use Rattle.blsm_run.specs.Outside.{outside}
use Rattle.blsm_run.proofs.CauseLemmas.{not_made_so, not_told, passed_on, stopped}
use Rattle.blsm_run.proofs.perform.carry_out.Goals as goal

pub returns-in_err-make_on_shelf-in-Make-clause-cause : goal.returns-in_err-make_on_shelf-in-Make-clause-cause
returns-in_err-make_on_shelf-in-Make-clause-cause g c = λ words accepted asked.
    let state = g.H.D.Disk.state in
    let o = outside words (g.S.Source.state c.args.source.now) (g.S.Source.state c.args.source.now) (g.H.Shelf.state c.args.shelf.now) (g.H.Shelf.state c.make_on_shelf.new.shelf) in
    passed_on state o c.from_residual.result (refusal_of_making c.in_err-make_on_shelf-in-Make.field-0.0) c.from_residual.ensures.1
    (not_made_so state o c.in_err-make_on_shelf-in-Make.field-0.0 (record { name = c.in-Make.name.now; sizes = c.in-Make.geometry; asked = (accepted, rw c.in-Make.is at asked); unread = refl; makes = c.in_err-make_on_shelf-in-Make.ensures }))

pub returns-in_ok-make_on_shelf-in-Make-clause-cause : goal.returns-in_ok-make_on_shelf-in-Make-clause-cause
returns-in_ok-make_on_shelf-in-Make-clause-cause g c = λ words accepted asked.
    record { name = c.in-Make.name.now; sizes = c.in-Make.geometry; asked = (accepted, rw c.in-Make.is at asked); unread = refl; makes = c.in_ok-make_on_shelf-in-Make.ensures }

pub run-requires-clause-few : goal.run-requires-clause-few
run-requires-clause-few g c = λ κs lives. (rw c.in-Run.is at c.requires.range).0

pub run-requires-clause-ships : goal.run-requires-clause-ships
run-requires-clause-ships g c = λ κs lives. (rw c.in-Run.is at c.requires.range).2

pub returns-in-Run-clause-cause : goal.returns-in-Run-clause-cause
returns-in-Run-clause-cause g c = λ words accepted asked. c.run.ensures.cause words accepted (rw c.in-Run.is at asked)

pub returns-in_err-check_on_shelf-in-Check-clause-cause : goal.returns-in_err-check_on_shelf-in-Check-clause-cause
returns-in_err-check_on_shelf-in-Check-clause-cause g c = λ words accepted asked.
    let state = g.H.D.Disk.state in
    let o = outside words (g.S.Source.state c.args.source.now) (g.S.Source.state c.args.source.now) (g.H.Shelf.state c.args.shelf.now) (g.H.Shelf.state c.check_on_shelf.new.shelf) in
    passed_on state o c.from_residual-in_err-check_on_shelf-in-Check.result (refusal_of_store c.in_err-check_on_shelf-in-Check.field-0.0) c.from_residual-in_err-check_on_shelf-in-Check.ensures.1
    (stopped state o c.in_err-check_on_shelf-in-Check.field-0.0 (inr (inr
    (inl (record {
      name = c.in-Check.name.now;
      asked = (accepted, rw c.in-Check.is at asked);
      unread = refl;
      checks
          = c.in_err-check_on_shelf-in-Check.ensures;
    })))))

pub returns-in_ok-check_on_shelf-in-Check-clause-cause : goal.returns-in_ok-check_on_shelf-in-Check-clause-cause
returns-in_ok-check_on_shelf-in-Check-clause-cause g c = λ words accepted asked.
    record { name = c.in-Check.name.now; asked = (accepted, rw c.in-Check.is at asked); unread = refl; checks = c.in_ok-check_on_shelf-in-Check.ensures }

pub returns-in_err-settle_on_shelf-in-Settle-clause-cause : goal.returns-in_err-settle_on_shelf-in-Settle-clause-cause
returns-in_err-settle_on_shelf-in-Settle-clause-cause g c = λ words accepted asked.
    let state = g.H.D.Disk.state in
    let o = outside words (g.S.Source.state c.args.source.now) (g.S.Source.state c.args.source.now) (g.H.Shelf.state c.args.shelf.now)
    (g.H.Shelf.state c.settle_on_shelf.new.shelf) in
    passed_on state o c.from_residual-in_err-settle_on_shelf-in-Settle.result (refusal_of_store c.in_err-settle_on_shelf-in-Settle.field-0.0)
    c.from_residual-in_err-settle_on_shelf-in-Settle.ensures.1
    (stopped state o c.in_err-settle_on_shelf-in-Settle.field-0.0 (inr (inr
    (inr (record {
      name = c.in-Settle.name.now;
      asked = (accepted, rw c.in-Settle.is at asked);
      unread = refl;
      settles
          = c.in_err-settle_on_shelf-in-Settle.ensures;
    })))))

pub returns-in_ok-settle_on_shelf-in-Settle-clause-cause : goal.returns-in_ok-settle_on_shelf-in-Settle-clause-cause
returns-in_ok-settle_on_shelf-in-Settle-clause-cause g c = λ words accepted asked.
    record {
      name = c.in-Settle.name.now;
      asked = (accepted, rw c.in-Settle.is at asked);
      unread = refl;
      settles
          = c.in_ok-settle_on_shelf-in-Settle.ensures;
    }

pub try_seed-requires : goal.try_seed-requires
try_seed-requires g c = (rw c.in-Trial.is at c.requires.range).2

pub returns-in_err-try_seed-in-Trial-clause-cause : goal.returns-in_err-try_seed-in-Trial-clause-cause
returns-in_err-try_seed-in-Trial-clause-cause g c = λ words accepted asked.
    let state = g.H.D.Disk.state in
    let o = outside words (g.S.Source.state c.args.source.now) (g.S.Source.state c.args.source.now) (g.H.Shelf.state c.args.shelf.now) (g.H.Shelf.state c.args.shelf.now) in
    passed_on state o c.from_residual-in_err-try_seed-in-Trial.result refusal.NoMemory c.from_residual-in_err-try_seed-in-Trial.ensures.1 (inl (refl, refl))

pub returns-in_ok-try_seed-in-Trial-clause-cause : goal.returns-in_ok-try_seed-in-Trial-clause-cause
returns-in_ok-try_seed-in-Trial-clause-cause g c = λ words accepted asked.
    ((accepted, rw c.in-Trial.is at asked), refl, refl, _, c.in_ok-try_seed-in-Trial.ensures)

pub returns-in_ok-try_seed-in-Trial-clause-made : goal.returns-in_ok-try_seed-in-Trial-clause-made
returns-in_ok-try_seed-in-Trial-clause-made g c = history_keys c.in-Trial.seed c.in-Trial.count _
    c.in_ok-try_seed-in-Trial.ensures.printed.printed.of_script

pub serve-requires-clause-some : goal.serve-requires-clause-some
serve-requires-clause-some g c = λ κs lives. (rw c.in-Serve.is at c.requires.range).0

pub serve-requires-clause-few : goal.serve-requires-clause-few
serve-requires-clause-few g c = λ κs lives. (rw c.in-Serve.is at c.requires.range).1

pub serve-requires-clause-number : goal.serve-requires-clause-number
serve-requires-clause-number g c = λ κs lives. (rw c.in-Serve.is at c.requires.range).2

pub returns-in-Serve-clause-cause : goal.returns-in-Serve-clause-cause
returns-in-Serve-clause-cause g c = λ words accepted asked. c.serve.ensures.cause words accepted (rw c.in-Serve.is at asked)

-- ---- what was told

pub returns-in_err-make_on_shelf-in-Make-clause-told : goal.returns-in_err-make_on_shelf-in-Make-clause-told
returns-in_err-make_on_shelf-in-Make-clause-told g c = not_told c.from_residual.result (refusal_of_making c.in_err-make_on_shelf-in-Make.field-0.0) (g.K.Sink.state c.args.sink.now) c.from_residual.ensures.1

pub returns-in-Run-clause-told : goal.returns-in-Run-clause-told
returns-in-Run-clause-told g c = c.run.ensures.told (g.K.Sink.state c.args.sink.now)

pub returns-in_err-check_on_shelf-in-Check-clause-told : goal.returns-in_err-check_on_shelf-in-Check-clause-told
returns-in_err-check_on_shelf-in-Check-clause-told g c =
    not_told c.from_residual-in_err-check_on_shelf-in-Check.result (refusal_of_store c.in_err-check_on_shelf-in-Check.field-0.0) (g.K.Sink.state c.args.sink.now) c.from_residual-in_err-check_on_shelf-in-Check.ensures.1

pub returns-in_err-settle_on_shelf-in-Settle-clause-told : goal.returns-in_err-settle_on_shelf-in-Settle-clause-told
returns-in_err-settle_on_shelf-in-Settle-clause-told g c =
    not_told c.from_residual-in_err-settle_on_shelf-in-Settle.result (refusal_of_store c.in_err-settle_on_shelf-in-Settle.field-0.0)
    (g.K.Sink.state c.args.sink.now) c.from_residual-in_err-settle_on_shelf-in-Settle.ensures.1

pub returns-in_err-try_seed-in-Trial-clause-told : goal.returns-in_err-try_seed-in-Trial-clause-told
returns-in_err-try_seed-in-Trial-clause-told g c =
    not_told c.from_residual-in_err-try_seed-in-Trial.result refusal.NoMemory (g.K.Sink.state c.args.sink.now) c.from_residual-in_err-try_seed-in-Trial.ensures.1
