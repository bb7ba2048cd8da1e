use Rattle.std.proofs.Common.{IfOk, codes}
use Rattle.clap.specs.Words.{App, Rule, with_rule}
use Rattle.program_words.specs.Words.{IsCommand, callers_number, ships_number, number_rule, with_default, on_file as on_file_app}
use Rattle.program_words.proofs.ProgramLemmas.{defaulted}
use Rattle.program_words.proofs.program.serve.Goals as goal

pub returns : goal.returns
returns c =
    let callers_rule : Rule = with_default (codes "16") (number_rule callers_number) in
    let ships_rule : Rule = with_default (codes "0") (number_rule ships_number) in
    let of_callers : App = with_rule (on_file_app (codes "serve")) callers_rule in
    let callers = defaulted c.number.result c.default_value-callers.result _ (number_rule callers_number) c.number.ensures
    c.default_value-callers.ensures in
    let ships = defaulted c.number-2.result c.default_value-ships.result _ (number_rule ships_number) c.number-2.ensures
    c.default_value-ships.ensures in
    let second : IfOk c.with_arg-with_callers.result (IsCommand of_callers) =
    c.with_arg-with_callers.ensures (on_file_app (codes "serve")) callers_rule c.on_file.ensures callers in
    c.with_arg.ensures of_callers ships_rule second ships
