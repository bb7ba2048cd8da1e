use Rattle.run_cursor.proofs.BelowLemmas.{begins_long}
use Rattle.run_cursor.proofs.RebuildLemmas.{is_first_entry}
use Rattle.run_cursor.proofs.guides.first_entry.Goals as goal

pub split_at-requires : goal.split_at-requires
split_at-requires c =
    let found = c.in_ok-key.ensures.found in
    begins_long c.args.bytes.now c.in_ok-key.key _ c.in_ok-key.len found.0 found.1

pub returns-clause-found : goal.returns-clause-found
returns-clause-found c =
    let found = c.in_ok-key.ensures.found in
    is_first_entry c.args.bytes.now c.split_at.result.1.now c.in_ok-key.key _ c.in_ok-key.len found.0 found.1 c.split_at.ensures.back
