use Rattle.std.proofs.Common.{ap, sym, ◌∙◌}
use Rattle.record_delta.specs.Entries.{record_of_key}
use Rattle.mem_table.specs.Tables.{Contents, place_in}
use Rattle.mem_table.proofs.DropLemmas.{dropped_further, record_left, place_left}
use Rattle.mem_table.proofs.table.Table.drop_to.Goals as goal

pub least-preserved : goal.least-preserved
least-preserved c = dropped_further c.args.key.now c.least.self c.drop_least.new.self c.args.self.now (sym c.begins_by.ensures
    ∙ c.least-test.true) c.drop_least.ensures.dropped c.least.invariant

pub returns-clause-records : goal.returns-clause-records
returns-clause-records c = λ other. ap (λ (v : Contents). record_of_key other v.entries) (c.raise_floor.ensures ∙ c.least.invariant)
    ∙ record_left c.args.key.now c.args.self.now.entries other

pub returns-clause-places : goal.returns-clause-places
returns-clause-places c = λ other high. ap (λ (v : Contents). place_in other v.arrived) (c.raise_floor.ensures ∙ c.least.invariant)
    ∙ place_left c.args.key.now c.args.self.now.arrived other high
