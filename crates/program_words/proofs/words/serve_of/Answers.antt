use Rattle.std.proofs.Common.{◌≡◌, None, option_map, codes, rules, ◌∙◌}
use Rattle.clap.specs.Words.{found_of, rows_of}
use Rattle.clap.proofs.WalkLemmas.{first_value-rows}
use Rattle.program_words.specs.Words.{asked_of, file_in, number_in, callers_number, ships_number}
use Rattle.program_words.proofs.MakeLemmas.{nobody_served, served}
use Rattle.program_words.proofs.words.serve_of.Goals as goal

pub returns-in_err-name : goal.returns-in_err-name
returns-in_err-name c =
    let rows = rows_of (found_of c.args.matches.now) in
    let none : option_map asked_of c.from_residual.result ≡ None = search rules in
    none ∙ nobody_served (file_in rows) (number_in callers_number rows) (number_in ships_number rows)
    (c.in_err-name.ensures ∙ first_value-rows (found_of c.args.matches.now) (codes "FILE"))

pub returns : goal.returns
returns c =
    let rows = rows_of (found_of c.args.matches.now) in
    served (file_in rows) (number_in callers_number rows) (number_in ships_number rows) c.in_ok-name.name.now c.in_ok-callers.callers
    c.in_ok-ships.ships
    (c.in_ok-name.ensures ∙ first_value-rows (found_of c.args.matches.now) (codes "FILE")) c.in_ok-callers.ensures.value c.in_ok-ships.ensures.value
