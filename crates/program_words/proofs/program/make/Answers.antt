use Rattle.std.proofs.Common.{IfOk, codes}
use Rattle.clap.specs.Words.{App, Rule, with_rule}
use Rattle.program_words.specs.Words.{IsCommand, half_number, ratio_number, low_number, quantum_number, number_rule, with_default, on_file as on_file_app}
use Rattle.program_words.proofs.ProgramLemmas.{defaulted}
use Rattle.program_words.proofs.program.make.Goals as goal

pub returns : goal.returns
returns c =
    let half_rule : Rule = with_default (codes "32768") (number_rule half_number) in
    let ratio_rule : Rule = with_default (codes "4") (number_rule ratio_number) in
    let low_rule : Rule = with_default (codes "16384") (number_rule low_number) in
    let quantum_rule : Rule = with_default (codes "4096") (number_rule quantum_number) in
    let of_half : App = with_rule (on_file_app (codes "make")) half_rule in
    let of_ratio : App = with_rule of_half ratio_rule in
    let of_low : App = with_rule of_ratio low_rule in
    let half = defaulted c.number.result c.default_value-half.result _ (number_rule half_number) c.number.ensures c.default_value-half.ensures in
    let ratio = defaulted c.number-2.result c.default_value-ratio.result _ (number_rule ratio_number) c.number-2.ensures c.default_value-ratio.ensures in
    let low = defaulted c.number-3.result c.default_value-low.result _ (number_rule low_number) c.number-3.ensures c.default_value-low.ensures in
    let quantum = defaulted c.number-4.result c.default_value-quantum.result _ (number_rule quantum_number) c.number-4.ensures c.default_value-quantum.ensures in
    let second : IfOk c.with_arg-with_half.result (IsCommand of_half) = c.with_arg-with_half.ensures (on_file_app (codes "make")) half_rule c.on_file.ensures half in
    let third : IfOk c.with_arg-with_ratio.result (IsCommand of_ratio) = c.with_arg-with_ratio.ensures of_half ratio_rule second ratio in
    let fourth : IfOk c.with_arg-with_low.result (IsCommand of_low) = c.with_arg-with_low.ensures of_ratio low_rule third low in
    c.with_arg.ensures of_low quantum_rule fourth quantum
