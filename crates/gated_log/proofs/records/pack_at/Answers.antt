use Rattle.std.proofs.Common.{refl, ◌∙◌, sym, arith}
use Rattle.std.proofs.lemmas.Bool.{false≢true}
use Rattle.gated_log.proofs.RecordLemmas.{read, part_filled, made}
use Rattle.gated_log.proofs.records.pack_at.Goals as goal
use Rattle.gated_log.proofs.records.pack_at.Goals.{then-count-lt2-via-then-count-lt2, then-count-lt2-via-else-count-lt2+then-count-gt-MOST}
use Rattle.gated_log.proofs.records.pack_at.Goals.{then-count-lt2-via-else-count-lt2+else-count-gt-MOST+then-length-gt-MAX_WEIGHT}
use Rattle.gated_log.proofs.records.pack_at.Goals.{then-count-lt2-via-else-count-lt2+else-count-gt-MOST+else-length-gt-MAX_WEIGHT+then-bytes-length}

pub returns-then-count-lt2-clause-none : goal.returns-then-count-lt2-clause-none
returns-then-count-lt2-clause-none c = λ es b.
    let r = read c.args.bytes.now es b in
    let weighs = c.from_be_bytes-length.ensures ∙ r.weight_is in
    elim c.then-count-lt2.branch [
      | then-count-lt2-via-then-count-lt2 w ↦ omega (arith, w.if-count-lt2.true, r.count, b.is.some)
      | then-count-lt2-via-else-count-lt2+then-count-gt-MOST w ↦ omega (arith, w.if-count-gt-MOST.true, r.count, b.is.is.few)
      | then-count-lt2-via-else-count-lt2+else-count-gt-MOST+then-length-gt-MAX_WEIGHT w ↦ omega
          (arith, w.if-length-gt-MAX_WEIGHT.true, weighs, b.is.is.light)
      | then-count-lt2-via-else-count-lt2+else-count-gt-MOST+else-length-gt-MAX_WEIGHT+then-bytes-length w ↦ omega
          (arith, w.if-bytes-length.true, weighs, r.long)
    ]

pub returns-then-are_filled-clause-some : goal.returns-then-are_filled-clause-some
returns-then-are_filled-clause-some c =
    let filled = c.if-are_filled.ensures.some refl in
    made c.args.bytes.now _ c.from_be_bytes-length.result filled.0 c.if-bytes-lt-HEAD_LEN.false
    (λ i. omega (arith, c.type_inv.bytes i)) c.if-bytes-ne-PACK.false refl
    c.from_be_bytes-length.ensures c.if-count-lt2.false c.if-count-gt-MOST.false c.if-length-gt-MAX_WEIGHT.false c.if-bytes-length.false filled.1

pub returns-else-are_filled-clause-none : goal.returns-else-are_filled-clause-none
returns-else-are_filled-clause-none c = λ es b.
    let r = read c.args.bytes.now es b in
    let weighs = c.from_be_bytes-length.ensures ∙ r.weight_is in
    false≢true (sym c.if-are_filled.false ∙ c.are_filled.ensures.only es (part_filled c.args.bytes.now es c.from_be_bytes-length.result r weighs))
