use Rattle.std.proofs.Common.{IfOk, subst}
use Rattle.program_words.specs.Words.{IsCommand}
use Rattle.program_words.proofs.ProgramLemmas.{adds_last}
use Rattle.program_words.proofs.program.with_arg.Goals as goal

pub returns-in-Ok : goal.returns-in-Ok
returns-in-Ok c = λ app rule is by. adds_last c.in-Ok.command c.args.arg c.arg.result app rule c.arg.ensures (subst (λ r. IfOk r (IsCommand app)) c.in-Ok.is is) by
