use Rattle.run_cursor.proofs.below.read_record.Goals as goal

pub returns : goal.returns
returns c = λ front rec begins. (c.read_over.ensures.entry front rec begins).1
