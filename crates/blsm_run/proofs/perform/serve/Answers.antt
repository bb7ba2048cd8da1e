use Rattle.std.proofs.Common.{inl, inr, subst, sym, refl}
use Rattle.text_io.specs.Text.{SinkState}
use Rattle.blsm_run.specs.Outcome.{HasTold, outcome_of, refusal_of_store}
use Rattle.blsm_run.specs.Outside.{outside}
use Rattle.blsm_run.proofs.CauseLemmas.{not_told, passed_on, stopped}
use Rattle.blsm_run.proofs.perform.serve.Goals as goal

pub returns-in_err-served-clause-cause : goal.returns-in_err-served-clause-cause
returns-in_err-served-clause-cause g c = λ words accepted asked.
    let state = g.H.D.Disk.state in
    let o = outside words (g.S.Source.state c.args.source.now) (g.S.Source.state c.serve_on_shelf.new.source) (g.H.Shelf.state c.args.shelf.now) (g.H.Shelf.state c.serve_on_shelf.new.shelf) in
    let why = c.in_err-served.field-0.0 in
    passed_on state o c.from_residual.result (refusal_of_store why) c.from_residual.ensures.1
    (stopped state o why (inr (inl (record { asks = record { name = c.args.name.now; callers = c.args.callers; ships = c.args.ships; asked = (accepted, asked) }; unread = c.in_err-served.ensures.serves.1; refuses = c.in_err-served.ensures.serves.0 }))))

pub returns-in_err-served-clause-told : goal.returns-in_err-served-clause-told
returns-in_err-served-clause-told g c =
    subst (λ (k : SinkState). HasTold (outcome_of c.from_residual.result) (g.K.Sink.state c.args.sink.now) k) (sym (c.in_err-served.ensures.silent refl))
    (not_told c.from_residual.result (refusal_of_store c.in_err-served.field-0.0) (g.K.Sink.state c.args.sink.now) c.from_residual.ensures.1)

pub returns-clause-cause : goal.returns-clause-cause
returns-clause-cause g c = λ words accepted asked. (
  record { name = c.args.name.now; callers = c.args.callers; ships = c.args.ships; asked = (accepted, asked) },
  refl,
  c.in_ok-served.ensures.serves,
)

pub returns-clause-told : goal.returns-clause-told
returns-clause-told g c = c.in_ok-served.ensures.told
