use Rattle.std.proofs.Common.{◌∙◌}
use Rattle.blsm_model.proofs.PackLemmas.{writes_more}
use Rattle.blsm_model.proofs.pack.put_in.Goals as goal

pub returns-clause-writes : goal.returns-clause-writes
returns-clause-writes c =
    rw (c.push.ensures.items, c.push_all-2.ensures, c.push_all.ensures)
    (writes_more c.args.heads.now.items c.args.bytes.now.items c.as_bytes.result.now c.text_of.result.now c.head_of.result c.args.write.now
    c.requires.are c.head_of.ensures (c.as_bytes.ensures.bytes ∙ c.key.ensures) c.text_of.ensures.text)
