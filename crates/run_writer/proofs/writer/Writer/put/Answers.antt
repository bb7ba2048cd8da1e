use Rattle.std.proofs.Common.{sym, subst}
use Rattle.std.specs.Prelude.{IsTrue}
use Rattle.record_delta.specs.Records.{weight}
use Rattle.run_writer.specs.Writer.{WriterState, has_place}
use Rattle.run_writer.proofs.WriterLemmas.{counted_put}
use Rattle.run_writer.proofs.writer.Writer.put.Goals as goal

pub invariant_of-self : goal.invariant_of-self
invariant_of-self c =
    counted_put _ c.put.new.self c.weight.result c.args.key.now c.args.rec.now c.self.invariant
    (subst (λ (w : WriterState). IsTrue (has_place w (weight c.args.key.now c.args.rec.now))) (sym c.self.view_is) c.requires) c.put.ensures.put c.weight.ensures.weight

pub returns-clause-counted : goal.returns-clause-counted
returns-clause-counted c = invariant_of-self c
