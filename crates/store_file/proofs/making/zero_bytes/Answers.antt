use Rattle.std.proofs.lemmas.List.{take-replicate}
use Rattle.store_file.proofs.making.zero_bytes.Goals as goal

pub returns-clause-value : goal.returns-clause-value
returns-clause-value c = take-replicate c.args.count 4096 0 c.requires
