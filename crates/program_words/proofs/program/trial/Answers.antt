use Rattle.std.proofs.Common.{IfOk, codes}
use Rattle.clap.specs.Words.{App, Rule, new_app, with_rule}
use Rattle.program_words.specs.Words.{IsCommand, seed_number, count_number, number_rule, as_required}
use Rattle.program_words.proofs.ProgramLemmas.{adds_last, wanted}
use Rattle.program_words.proofs.program.trial.Goals as goal

pub returns : goal.returns
returns c =
    let seed_rule : Rule = as_required (number_rule seed_number) in
    let count_rule : Rule = as_required (number_rule count_number) in
    let of_seed : App = with_rule (new_app (codes "trial")) seed_rule in
    let bare : IsCommand (new_app (codes "trial")) c.new.result = record { same = c.new.ensures.app; local = c.new.ensures.local } in
    let seed = wanted c.number.result c.required-seed.result (number_rule seed_number) c.number.ensures c.required-seed.ensures in
    let count = wanted c.number-2.result c.required-count.result (number_rule count_number) c.number-2.ensures c.required-count.ensures in
    let second : IfOk c.arg-with_seed.result (IsCommand of_seed) = adds_last c.new.result c.required-seed.result c.arg-with_seed.result (new_app (codes "trial")) seed_rule c.arg-with_seed.ensures bare seed in
    c.with_arg.ensures of_seed count_rule second count
