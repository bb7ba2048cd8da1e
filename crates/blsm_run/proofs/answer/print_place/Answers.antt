use Rattle.blsm_run.proofs.answer.print_place.Goals as goal

pub returns-in-Lane : goal.returns-in-Lane
returns-in-Lane g c = rw (c.in-Lane.is, ← c.from.ensures) c.print_numbered.ensures
