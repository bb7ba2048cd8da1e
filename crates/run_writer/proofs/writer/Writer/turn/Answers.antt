use Rattle.std.proofs.Common.{◌∙◌, ap, subst}
use Rattle.page_space.specs.Space.{SpaceState, Claims}
use Rattle.run_writer.specs.Writer.{WriterState, turned}
use Rattle.run_writer.proofs.RegionLemmas.{not_ok}
use Rattle.run_writer.proofs.writer.Writer.turn.Goals as goal

pub returns-clause-turned : goal.returns-clause-turned
returns-clause-turned g c =
    let role_is = ap (λ (w : WriterState). w.role) c.self.view_is in
    let claims = subst (λ (s : SpaceState). Claims c.self.inside.role c.take-next.result s c.claim.new.self) c.take-next.ensures.same c.claim.ensures in (
      c.take-next.result,
      c.take-next.ensures.least,
      subst (λ role. Claims role c.take-next.result c.args.space.now c.claim.new.self) role_is claims,
      (c.open.ensures ∙ ap (turned c.take-next.result) c.write_open.ensures.same, c.in_ok-write_open.ensures.reads),
    )

pub returns-in_err-write_open-clause-turned : goal.returns-in_err-write_open-clause-turned
returns-in_err-write_open-clause-turned g c =
    let role_is = ap (λ (w : WriterState). w.role) c.self.view_is in
    let claims = subst (λ (s : SpaceState). Claims c.self.inside.role c.take-next.result s c.claim.new.self) c.take-next.ensures.same c.claim.ensures in (
      c.take-next.result,
      c.take-next.ensures.least,
      subst (λ role. Claims role c.take-next.result c.args.space.now c.claim.new.self) role_is claims,
      not_ok _ c.from_residual.result c.from_residual.ensures.0,
    )
