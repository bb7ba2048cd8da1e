use Rattle.std.proofs.Common.{◌∙◌, ap, sym}
use Rattle.std.specs.Ordering.{is_lt}
use Rattle.run_cursor.proofs.BelowLemmas.{under, not_under, begins_long, is_first, first_above}
use Rattle.run_cursor.proofs.below.first_below.Goals as goal

pub returns-in_err-found-clause-none : goal.returns-in_err-found-clause-none
returns-in_err-found-clause-none c =
    rw c.from_residual.ensures (λ entry rest right parts greater. c.in_err-found.ensures.none entry.0 entry.1 (record { entry = right; rest = rest; parts = parts }))

pub split_at-requires : goal.split_at-requires
split_at-requires c =
    let found = c.in_ok-found.ensures.found in
    begins_long c.args.bytes.now c.in_ok-found.found.now found.0 c.in_ok-found.len found.1 found.2

pub returns-then-is_lt-clause-below : goal.returns-then-is_lt-clause-below
returns-then-is_lt-clause-below c =
    let found = c.in_ok-found.ensures.found in
    is_first c.args.bytes.now c.split_at.result.1.now c.args.key.now c.in_ok-found.found.now found.0 c.in_ok-found.len found.1 found.2 c.split_at.ensures.back
    (under c.args.key.now c.in_ok-found.found.now (ap is_lt (sym c.cmp.ensures) ∙ sym c.is_lt.ensures ∙ c.if-is_lt.true))

pub returns-else-is_lt-clause-none : goal.returns-else-is_lt-clause-none
returns-else-is_lt-clause-none c =
    let found = c.in_ok-found.ensures.found in
    first_above c.args.bytes.now c.args.key.now c.in_ok-found.found.now found.0 found.1
    (not_under c.args.key.now c.in_ok-found.found.now (ap is_lt (sym c.cmp.ensures) ∙ sym c.is_lt.ensures ∙ c.if-is_lt.false))
