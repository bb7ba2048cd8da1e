use Rattle.run_cursor.proofs.cursor.first_head.Goals as goal

pub unreachable-requires : goal.unreachable-requires
unreachable-requires c = c.in-None.ensures.none c.requires.0 c.requires.1 c.requires.2
