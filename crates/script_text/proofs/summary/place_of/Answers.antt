use Rattle.std.proofs.Common.{sym, ap, ◌∙◌, arith}
use Rattle.script_text.specs.Generated.{key_at}
use Rattle.script_text.proofs.PresentLemmas.{digits_are, place_is}
use Rattle.script_text.proofs.summary.place_of.Goals as goal
use Rattle.script_text.proofs.summary.place_of.Goals.{in_default-via-then-as_bytes-lt6, in_default-via-else-as_bytes-lt6+else-this-lt7}

pub digit_value-requires : goal.digit_value-requires
digit_value-requires c = omega (arith, (digits_are c.as_bytes.result.now c.requires.place (c.as_bytes.ensures.bytes ∙ c.requires.is)).first)

pub digit_value-requires-in-len6 : goal.digit_value-requires-in-len6
digit_value-requires-in-len6 c = omega (arith, (digits_are c.as_bytes.result.now c.requires.place (c.as_bytes.ensures.bytes ∙ c.requires.is)).second)

pub digit_value-requires-in-len6-2 : goal.digit_value-requires-in-len6-2
digit_value-requires-in-len6-2 c = omega (arith, (digits_are c.as_bytes.result.now c.requires.place (c.as_bytes.ensures.bytes ∙ c.requires.is)).third)

pub digit_value-requires-in-len6-3 : goal.digit_value-requires-in-len6-3
digit_value-requires-in-len6-3 c = omega (arith, (digits_are c.as_bytes.result.now c.requires.place (c.as_bytes.ensures.bytes ∙ c.requires.is)).fourth)

pub digit_value-requires-in-len6-4 : goal.digit_value-requires-in-len6-4
digit_value-requires-in-len6-4 c = omega (arith, (digits_are c.as_bytes.result.now c.requires.place (c.as_bytes.ensures.bytes ∙ c.requires.is)).fifth)

pub unreachable-requires : goal.unreachable-requires
unreachable-requires c =
    let six = (digits_are c.as_bytes.result.now c.requires.place (c.as_bytes.ensures.bytes ∙ c.requires.is)).six in
    elim c.in_default.branch [ in_default-via-then-as_bytes-lt6 w ↦ grind (arith, six) | in_default-via-else-as_bytes-lt6+else-this-lt7 w ↦ grind (arith, six) ]

pub returns-clause-within : goal.returns-clause-within
returns-clause-within c =
    let digits = digits_are c.as_bytes.result.now c.requires.place (c.as_bytes.ensures.bytes ∙ c.requires.is) in
    omega (arith, c.requires.within, place_is c.as_bytes.result.now c.requires.place _ _ _ _ _ c.requires.within digits c.digit_value.ensures c.digit_value-in-len6.ensures c.digit_value-in-len6-2.ensures c.digit_value-in-len6-3.ensures c.digit_value-in-len6-4.ensures)

pub returns-clause-is : goal.returns-clause-is
returns-clause-is c =
    let digits = digits_are c.as_bytes.result.now c.requires.place (c.as_bytes.ensures.bytes ∙ c.requires.is) in
    c.requires.is ∙ ap key_at (sym (place_is c.as_bytes.result.now c.requires.place _ _ _ _ _ c.requires.within digits c.digit_value.ensures c.digit_value-in-len6.ensures c.digit_value-in-len6-2.ensures c.digit_value-in-len6-3.ensures c.digit_value-in-len6-4.ensures))
