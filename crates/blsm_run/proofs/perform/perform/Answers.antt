use Rattle.std.proofs.Common.{map, string_bytes, refl}
use Rattle.program_words.proofs.RangeLemmas.{in_range}
use Rattle.blsm_run.specs.Outside.{outside}
use Rattle.blsm_run.proofs.CauseLemmas.{not_asked}
use Rattle.blsm_run.proofs.perform.perform.Goals as goal

pub carry_out-requires-clause-range : goal.carry_out-requires-clause-range
carry_out-requires-clause-range g c = λ κs lives. in_range (map string_bytes c.args.words.now) _ c.in-Ok.ensures.1

pub returns-in-Ok-clause-cause : goal.returns-in-Ok-clause-cause
returns-in-Ok-clause-cause g c = c.carry_out.ensures.cause (map string_bytes c.args.words.now) c.in-Ok.ensures.0 c.in-Ok.ensures.1

pub returns-in-Err-clause-cause : goal.returns-in-Err-clause-cause
returns-in-Err-clause-cause g c =
    let source = g.S.Source.state c.args.source.now in
    let shelf = g.H.Shelf.state c.args.shelf.now in
    rw c.from.ensures (not_asked g.H.D.Disk.state (outside (map string_bytes c.args.words.now) source source shelf shelf) c.in-Err.why c.in-Err.ensures refl refl)
