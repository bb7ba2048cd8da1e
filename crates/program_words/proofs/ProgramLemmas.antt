-- How the table that `clap` reads grows by an argument or a command.
use Rattle.std.proofs.lemmas.Bool.Decides.{nat_tests}
use Rattle.std.proofs.lemmas.Grind.{common_steps}
use Rattle.std.proofs.Common.{◌≡◌, true, Result, IfOk, Bor, arith}
use Rattle.clap.specs.Words.{App, Rule, Text, AddsArg, AddsSubcommand, app_of, with_rule, with_subcommand}
use Rattle.clap.specs.declared.builder.arg.Arg.{Arg}
use Rattle.clap.specs.declared.builder.command.Command.{Command}
use Rattle.clap.specs.declared.builder.texts.Texts.TheVariants.{One}
use Rattle.program_words.specs.Words.{IsRule, IsCommand, with_default, as_required}

pub adds_last : {E : Type 0} (old : Command) (arg : Arg) (result : Result Command E) (app : App) (rule : Rule) → IfOk result (λ new. AddsArg old arg new) → IsCommand app old → IsRule rule arg
    → IfOk result (IsCommand (with_rule app rule))
adds_last old arg result app rule h1 h2 h3 = grind (arith, common_steps, nat_tests)

pub adds_last_command : {E : Type 0} (old command : Command) (result : Result Command E) (app sub : App) → IfOk result (λ new. AddsSubcommand old command new) → app_of old ≡ app → IsCommand sub command
    → IfOk result (λ new. app_of new ≡ with_subcommand app sub.top)
adds_last_command old command result app sub h1 h2 h3 = grind (arith, common_steps, nat_tests)

-- an option with a default, and one that is required
pub defaulted : (plain arg : Arg) (text : Bor Text) (rule : Rule) → IsRule rule plain → arg ≡ record plain { default_vals = One text } → IsRule (with_default text.now rule) arg
defaulted plain arg text rule h1 h2 = grind (arith, common_steps, nat_tests)

pub wanted : (plain arg : Arg) (rule : Rule) → IsRule rule plain → arg ≡ record plain { required = true } → IsRule (as_required rule) arg
wanted plain arg rule h1 h2 = grind (arith, common_steps, nat_tests)
