use Rattle.std.proofs.Common.{◌∷◌, arith}
use Rattle.gated_log.proofs.RecordLemmas.{begins_long, filled_more, filled_first, filled_behind}
use Rattle.gated_log.proofs.records.+are_filled.Goals as goal

pub split_at-requires : goal.split_at-requires
split_at-requires t c = let h =
    c.in-Some.ensures.found in omega (arith, h.1, begins_long c.args.bytes.now c.in-Some.field-0-0 c.in-Some.field-0-1 h.0)

pub returns-in-Some-clause-some : goal.returns-in-Some-clause-some
returns-in-Some-clause-some t c = λ yes.
    let found = c.in-Some.ensures.found in
    let others = c.are_filled.ensures.some yes in (
      (c.in-Some.field-0-0, c.in-Some.field-0-1) ∷ others.0,
      filled_more c.args.bytes.now c.split_at.result.1.now c.in-Some.field-0-0 c.in-Some.field-0-1 c.in-Some.length c.args.count others.0 found.0
          found.1 c.split_at.ensures.back (omega arith) others.1,
    )

pub returns-in-Some-clause-only : goal.returns-in-Some-clause-only
returns-in-Some-clause-only t c = λ es filled.
    let f = filled_first c.args.count c.args.bytes.now es (omega arith) filled in
    c.are_filled.ensures.only f.others
    (filled_behind c.args.count c.in-Some.length c.args.bytes.now c.split_at.result.1.now c.in-Some.field-0-0 c.in-Some.field-0-1
    c.in-Some.ensures.only c.split_at.ensures.back f)

pub returns-in-None-clause-only : goal.returns-in-None-clause-only
returns-in-None-clause-only t c = λ es filled.
    let f = filled_first c.args.count c.args.bytes.now es (omega arith) filled in
    absurd (c.in-None.ensures.none f.first.0 f.first.1 f.begins)
