use Rattle.std.proofs.Common.{◌≡◌, IfOk, subst}
use Rattle.clap.specs.Words.{app_of}
use Rattle.program_words.specs.Words.{IsCommand}
use Rattle.program_words.proofs.ProgramLemmas.{adds_last_command}
use Rattle.program_words.proofs.program.with_command.Goals as goal

pub returns-in-Ok-command : goal.returns-in-Ok-command
returns-in-Ok-command c = λ app sub is by.
    adds_last_command c.in-Ok.program c.in-Ok-command.command c.subcommand.result app sub c.subcommand.ensures
    (subst (λ r. IfOk r (λ old. app_of old ≡ app)) c.in-Ok.is is) (subst (λ r. IfOk r (IsCommand sub)) c.in-Ok-command.is by)
