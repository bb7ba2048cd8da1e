use Rattle.catalog_swap.proofs.TextLemmas.{progress_written}
use Rattle.catalog_swap.proofs.catalog.put_progress.Goals as goal

pub returns-clause-text : goal.returns-clause-text
returns-clause-text c =
    progress_written c.args.progress.now c.args.body.now _ _ _ _ _ _ _ _ _ _
    c.component_text.ensures c.to_be_bytes.ensures c.to_be_bytes-2.ensures c.to_be_bytes-3.ensures c.as_bytes-key.ensures.bytes
    c.put.ensures c.put-2.ensures c.put-3.ensures c.put-4.ensures c.put-5.ensures
