use Rattle.std.proofs.Common.{Some, ap, subst, ◌∙◌}
use Rattle.std.specs.Prelude.{List, ℕ}
use Rattle.blsm_model.specs.Keys.{key_cmp}
use Rattle.run_cursor.specs.Below.{BeginsBelow, NoneBelow}
use Rattle.run_cursor.proofs.BelowLemmas.{fewer_bytes}
use Rattle.run_cursor.proofs.FindLemmas.{one_fewer, left_none, first_decides, same_key, other_key}
use Rattle.run_cursor.proofs.below.record_among.Goals as goal

pub loop-behind-smaller : goal.loop-behind-smaller
loop-behind-smaller c = fewer_bytes c.as_bytes.result.now c.loop-behind.rest.now c.in-Some.field-0-0 c.in-Some.behind.now c.in-Some.ensures.below

pub loop-behind-preserved : goal.loop-behind-preserved
loop-behind-preserved c = λ entries each rise is.
    let below = subst (λ (key : List ℕ). BeginsBelow key c.loop-behind.rest.now c.in-Some.field-0-0 c.in-Some.behind.now) c.as_bytes.ensures.bytes c.in-Some.ensures.below in
    one_fewer c.args.key.now entries c.loop-behind.rest.now c.in-Some.behind.now c.in-Some.field-0-0 (c.loop-behind.invariant entries each rise is) below

pub returns-in_err-found : goal.returns-in_err-found
returns-in_err-found c = λ entries each rise is.
    c.from_residual.ensures ∙ left_none c.args.key.now entries c.loop-behind.rest.now (c.loop-behind.invariant entries each rise is) c.in_err-found.ensures.none

pub read_record-requires : goal.read_record-requires
read_record-requires c =
    let found = c.in_ok-found.ensures.found in
    (c.in_ok-found.found.now, found.0, found.1)

pub returns-then-is_eq : goal.returns-then-is_eq
returns-then-is_eq c = λ entries each rise is.
    let none = subst (λ (key : List ℕ). NoneBelow key c.loop-behind.rest.now) c.as_bytes.ensures.bytes c.in_default.ensures.none in
    let found = c.in_ok-found.ensures.found in
    let decides = first_decides c.args.key.now entries c.loop-behind.rest.now c.in_ok-found.found.now found.0 (c.loop-behind.invariant entries each rise is) none found.1 in
    ap Some (c.read_record.ensures c.in_ok-found.found.now found.0 found.1)
    ∙ decides.here (same_key c.args.key.now c.in_ok-found.found.now c.cmp.result c.is_eq.result
    (c.cmp.ensures ∙ ap (λ (k : List ℕ). key_cmp k c.in_ok-found.found.now) c.as_bytes-2.ensures.bytes) c.is_eq.ensures c.if-is_eq.true)

pub returns-else-is_eq : goal.returns-else-is_eq
returns-else-is_eq c = λ entries each rise is.
    let none = subst (λ (key : List ℕ). NoneBelow key c.loop-behind.rest.now) c.as_bytes.ensures.bytes c.in_default.ensures.none in
    let found = c.in_ok-found.ensures.found in
    let decides = first_decides c.args.key.now entries c.loop-behind.rest.now c.in_ok-found.found.now found.0 (c.loop-behind.invariant entries each rise is) none found.1 in
    decides.absent (other_key c.args.key.now c.in_ok-found.found.now c.cmp.result c.is_eq.result
    (c.cmp.ensures ∙ ap (λ (k : List ℕ). key_cmp k c.in_ok-found.found.now) c.as_bytes-2.ensures.bytes) c.is_eq.ensures c.if-is_eq.false)
