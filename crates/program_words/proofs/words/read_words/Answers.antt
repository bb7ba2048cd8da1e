use Rattle.std.proofs.Common.{◌≡◌, List, [], Some, map, string_bytes, option_and_then, ap, sym, ◌∙◌}
use Rattle.std.specs.Box.{box_value}
use Rattle.clap.specs.Words.{App, Text, Row, app_of, found_of, rows_of, subcommand_of, subcommand_rows_of, fault_of, is_simple}
use Rattle.clap.specs.Faults.{is_simple_and_free}
use Rattle.clap.specs.declared.parser.matches.ArgMatches.TheViews.{out-ArgMatches, out-SubCommand}
use Rattle.program_words.specs.Words.{program as program_app, asked_in, asked_by, asked_of}
use Rattle.program_words.proofs.WordLemmas.{program_is_simple, program_is_free, both_known, reads}
use Rattle.program_words.proofs.words.read_words.Goals as goal

pub returns-in-Some-request_of : goal.returns-in-Some-request_of
returns-in-Some-request_of c =
    let words : List Text = map string_bytes c.args.words.now in
    let app : app_of c.in-Ok.program ≡ program_app = c.in-Ok.ensures in
    let parsed = c.in-Ok-try_get_matches_from in
    let calm : fault_of (app_of c.in-Ok.program) words ≡ [] = parsed.ensures.kinds (ap is_simple_and_free app ∙ program_is_free) in
    let entered : subcommand_rows_of parsed.matches ≡ subcommand_of (app_of c.in-Ok.program) words = (parsed.ensures.matches (ap is_simple app ∙ program_is_simple)).1 in
    let rows : List Row = rows_of (found_of c.in-Some.found.now) in
    let known : Some (c.in-Some.command.now, rows) ≡ subcommand_rows_of parsed.matches =
    both_known (λ b. (out-SubCommand (box_value b)).name.now) (λ b. rows_of (found_of (out-SubCommand (box_value b)).matches)) (out-ArgMatches parsed.matches).subcommand
    c.in-Some.command.now rows c.in-Some.ensures.name c.in-Some.ensures.rows in
    let asked : asked_by words ≡ Some (asked_of c.in-Some-request_of.request) =
    ap (option_and_then asked_in) (sym (known ∙ entered ∙ ap (λ (a : App). subcommand_of a words) app)) ∙ sym c.in-Some-request_of.ensures in
    reads words c.in-Some-request_of.request (ap (λ (a : App). fault_of a words) (sym app) ∙ calm) asked
