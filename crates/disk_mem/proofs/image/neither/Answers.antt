use Rattle.std.proofs.Common.{sym, arith}
use Rattle.std.proofs.lemmas.Option.{get_or_from_slice_get, slice_get_within}
use Rattle.disk_mem.proofs.image.neither.Goals as goal

pub returns-then-place-old-clause-not_old : goal.returns-then-place-old-clause-not_old
returns-then-place-old-clause-not_old c = λ is. c.other_than.ensures.not_old (sym (get_or_from_slice_get c.args.old.now c.args.place c.other_than.result 0 is))

pub returns-clause-not_old : goal.returns-clause-not_old
returns-clause-not_old c = λ is. absurd (omega (arith, slice_get_within c.args.old.now c.args.place c.other_than-2.result is, c.if-place-old.false))
