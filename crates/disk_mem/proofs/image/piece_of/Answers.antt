use Rattle.std.proofs.Common.{rules, sym, arith}
use Rattle.std.proofs.lemmas.Option.{get_or_from_slice_get}
use Rattle.disk_mem.specs.Images.{neither}
use Rattle.disk_mem.proofs.image.piece_of.Goals as goal

pub returns : goal.returns
returns c =
    neither c.neither.result (search rules) (omega (arith, c.requires, c.if-kept-text.false)) (search rules)
    (λ is. c.neither.ensures.not_new (sym (get_or_from_slice_get c.args.text.now c.args.kept c.neither.result 0 is))) (search rules)
