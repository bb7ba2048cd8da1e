use Rattle.std.proofs.Common.{◌≡◌, IfOk, codes, true, rules}
use Rattle.clap.specs.Words.{App, app_of, with_subcommand}
use Rattle.program_words.specs.Words.{no_command, make_command, run_command, serve_command, trial_command, on_file as on_file_app}
use Rattle.program_words.proofs.program.program.Goals as goal

pub returns : goal.returns
returns c =
    let wanting : App = record no_command { top = record no_command.top { subcommand_required = true } } in
    let of_make : App = with_subcommand wanting make_command.top in
    let of_run : App = with_subcommand of_make run_command.top in
    let of_check : App = with_subcommand of_run (on_file_app (codes "check")).top in
    let bare : app_of c.subcommand_required-bare.result ≡ wanting = search rules in
    let first : IfOk c.with_command-with_make.result (λ new. app_of new ≡ of_make) = c.with_command-with_make.ensures wanting make_command bare c.make.ensures in
    let second : IfOk c.with_command-with_run.result (λ new. app_of new ≡ of_run) = c.with_command-with_run.ensures of_make run_command first c.run.ensures in
    let third : IfOk c.with_command-with_check.result (λ new. app_of new ≡ of_check) = c.with_command-with_check.ensures of_run (on_file_app (codes "check")) second c.on_file.ensures in
    let of_trial : App = with_subcommand of_check trial_command.top in
    let fourth : IfOk c.with_command-with_trial.result (λ new. app_of new ≡ of_trial) = c.with_command-with_trial.ensures of_check trial_command third c.trial.ensures in
    let of_serve : App = with_subcommand of_trial serve_command.top in
    let fifth : IfOk c.with_command-with_serve.result (λ new. app_of new ≡ of_serve) = c.with_command-with_serve.ensures of_trial serve_command
    fourth c.serve.ensures in
    c.with_command.ensures of_serve (on_file_app (codes "settle")) fifth c.on_file-2.ensures
