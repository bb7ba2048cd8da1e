use Rattle.script_text.proofs.ReadLemmas.{reads_nothing, reads_bare, worded_is}
use Rattle.script_text.proofs.line.read_command.Goals as goal

pub returns-in_err-read_verb-in-Some : goal.returns-in_err-read_verb-in-Some
returns-in_err-read_verb-in-Some c =
    reads_nothing c.from_residual.ensures
    (λ op spells. let (v, same, rest) = worded_is c.args.bytes.now c.cut.result.0.now c.in-Some.rest.now c.cut.ensures.front (rw c.in-Some.is at c.cut.ensures.whole) op spells in c.in_err-read_verb-in-Some.ensures v same)

pub returns-in-None : goal.returns-in-None
returns-in-None c = reads_bare c.args.bytes.now c.cut.result.0.now c.read_bare.result c.cut.ensures.front (rw c.in-None.is at c.cut.ensures.whole) c.read_bare.ensures
