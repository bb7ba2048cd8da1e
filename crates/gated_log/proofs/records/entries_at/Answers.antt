use Rattle.std.proofs.Common.{◌∷◌, [], refl, arith}
use Rattle.gated_log.proofs.RecordLemmas.{cost_one, entry_begins, no_record}
use Rattle.gated_log.proofs.records.entries_at.Goals as goal

pub returns-in-Some-peek_key-clause-some : goal.returns-in-Some-peek_key-clause-some
returns-in-Some-peek_key-clause-some c =
    let found = c.in-Some-peek_key.ensures.found in
    let key = c.in-Some-peek_key.field-0-0.now in
    ((key, found.0) ∷ [], entry_begins c.args.bytes.now key found.0 found.1, refl, omega (arith, found.2, cost_one key found.0))

pub returns-in-None-clause-none : goal.returns-in-None-clause-none
returns-in-None-clause-none c = no_record c.args.bytes.now c.in_default.ensures.none c.in-None.ensures.none
