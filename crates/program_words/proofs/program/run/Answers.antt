use Rattle.std.proofs.Common.{IfOk, codes}
use Rattle.clap.specs.Words.{App, Rule, with_rule}
use Rattle.program_words.specs.Words.{IsCommand, resident_number, ships_number, turns_number, workers_number}
use Rattle.program_words.specs.Words.{number_rule, with_default, on_file as on_file_app}
use Rattle.program_words.proofs.ProgramLemmas.{defaulted}
use Rattle.program_words.proofs.program.run.Goals as goal

pub returns : goal.returns
returns c =
    let workers_rule : Rule = with_default (codes "2") (number_rule workers_number) in
    let turns_rule : Rule = with_default (codes "1000") (number_rule turns_number) in
    let of_workers : App = with_rule (on_file_app (codes "run")) workers_rule in
    let workers = defaulted c.number.result c.default_value-workers.result _ (number_rule workers_number) c.number.ensures c.default_value-workers.ensures in
    let turns = defaulted c.number-2.result c.default_value-turns.result _ (number_rule turns_number) c.number-2.ensures c.default_value-turns.ensures in
    let ships_rule : Rule = with_default (codes "0") (number_rule ships_number) in
    let ships = defaulted c.number-3.result c.default_value-ships.result _ (number_rule ships_number) c.number-3.ensures c.default_value-ships.ensures in
    let resident_rule : Rule = with_default (codes "0") (number_rule resident_number) in
    let resident = defaulted c.number-4.result c.default_value-resident.result _ (number_rule resident_number) c.number-4.ensures
    c.default_value-resident.ensures in
    let of_turns : App = with_rule of_workers turns_rule in
    let of_ships : App = with_rule of_turns ships_rule in
    let second : IfOk c.with_arg-with_workers.result (IsCommand of_workers) = c.with_arg-with_workers.ensures (on_file_app (codes "run")) workers_rule c.on_file.ensures workers in
    let third : IfOk c.with_arg-with_turns.result (IsCommand of_turns) = c.with_arg-with_turns.ensures of_workers turns_rule second turns in
    let fourth : IfOk c.with_arg-with_ships.result (IsCommand of_ships) = c.with_arg-with_ships.ensures of_turns ships_rule third ships in
    c.with_arg.ensures of_ships resident_rule fourth resident
