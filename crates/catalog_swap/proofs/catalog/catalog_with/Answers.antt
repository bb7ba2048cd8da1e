use Rattle.catalog_swap.proofs.TextLemmas.{numbers_read}
use Rattle.catalog_swap.proofs.catalog.catalog_with.Goals as goal

pub returns-clause-text : goal.returns-clause-text
returns-clause-text c = numbers_read c.args.body.now _ c.u64_at.ensures c.lanes_at.ensures c.component_at.ensures.text c.component_at-2.ensures.text c.component_at-3.ensures.text
