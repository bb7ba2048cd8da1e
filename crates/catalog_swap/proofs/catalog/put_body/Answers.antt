use Rattle.catalog_swap.proofs.TextLemmas.{body_plain, body_named}
use Rattle.catalog_swap.proofs.catalog.put_body.Goals as goal

pub returns-in-None-clause-text : goal.returns-in-None-clause-text
returns-in-None-clause-text c = body_plain c.args.catalog.now _ _ c.in-None.is c.put_numbers.ensures c.put.ensures

pub returns-in-Some-clause-text : goal.returns-in-Some-clause-text
returns-in-Some-clause-text c =
    body_named c.args.catalog.now c.in-Some.progress c.put_progress.result _ _ _ c.in-Some.is c.put_numbers.ensures c.put-in-Some.ensures c.put_progress.ensures.text
