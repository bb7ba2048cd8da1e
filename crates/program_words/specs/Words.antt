-- The words of the command line, as `clap` reads them. The first word is the program's name.
use Rattle.std.specs.Prelude.{◌≡◌, ⊤, ℕ, ◌≤◌, ◌<◌, ◌^◌, ◌==◌, List, [], ◌∷◌, false, Option}
use Rattle.std.specs.Prelude.{Some, None, IsSome, true, if◌then◌else◌, nat_le, option_and_then, option_map, codes, Result, Ok, Err}
use Rattle.std.specs.Str.{bytes_eq}
use Rattle.std.specs.Str.Parse.{digits_value, without_leading_plus}
use Rattle.clap.specs.Words.{App, app_of, rule_of, Row, Rule, Text, new_app, new_rule, with_rule, with_subcommand, subcommand_of, first_of, one_of, fault_of}
use Rattle.clap.specs.ValueTests.{is_unsigned_in}
use Rattle.clap.specs.declared.builder.action.ArgAction.TheVariants.{Set}
use Rattle.clap.specs.declared.builder.value_parser.ValueParser.TheVariants.{Unsigned}
use Rattle.clap.specs.declared.builder.arg.Arg.{Arg}
use Rattle.clap.specs.declared.builder.command.Command.{Command}
use Rattle.clap.specs.declared.builder.command.Command.TheViews.{out-Command}
use Rattle.blsm_model.specs.Format.{most_half, most_lines}
use Rattle.blsm_model.specs.Sizes.{Sizes, IsGeometry}
use Rattle.program_words.specs.declared.request.Options.{Options}
use Rattle.program_words.specs.declared.request.Request.{Request}
use Rattle.program_words.specs.declared.request.Request.TheVariants as request
use Rattle.program_words.specs.declared.request.Unread.{Unread}
use Rattle.program_words.specs.declared.request.Unread.TheVariants.{Refused, NoMemory}

-- ---- the table

-- an option that takes one number, from the least to the most
pub record Number : Type 0 where
  pub id : Text
  pub least : ℕ
  pub most : ℕ

abbrev pub half_number : Number
half_number = record { id = codes "half"; least = 17408; most = most_half }

abbrev pub ratio_number : Number
ratio_number = record { id = codes "ratio"; least = 2; most = 8 }

-- no low mark is above the half spring, which is tried when all numbers are known
abbrev pub low_number : Number
low_number = record { id = codes "low"; least = 0; most = most_half }

abbrev pub quantum_number : Number
quantum_number = record { id = codes "quantum"; least = 1024; most = 65536 }

abbrev pub seed_number : Number
seed_number = record { id = codes "seed"; least = 0; most = 18446744073709551615 }

abbrev pub count_number : Number
count_number = record { id = codes "count"; least = 1; most = most_lines }

-- how many merge workers a run has, and how many turns each of them takes at most
abbrev pub most_workers : ℕ
most_workers = 8

abbrev pub most_turns : ℕ
most_turns = 1000000

-- the greatest number that the first ship of a run or a session may have
abbrev pub most_ship : ℕ
most_ship = 9223372036854775808

-- for how many callers a session has room at most
abbrev pub most_callers : ℕ
most_callers = 16

abbrev pub workers_number : Number
workers_number = record { id = codes "workers"; least = 0; most = most_workers }

abbrev pub turns_number : Number
turns_number = record { id = codes "turns"; least = 0; most = most_turns }

abbrev pub ships_number : Number
ships_number = record { id = codes "ships"; least = 0; most = most_ship }

-- whether the resident weight is printed: with 1 it is, with 0 it isn't
abbrev pub resident_number : Number
resident_number = record { id = codes "resident"; least = 0; most = 1 }

abbrev pub callers_number : Number
callers_number = record { id = codes "callers"; least = 1; most = most_callers }

abbrev pub number_rule : Number → Rule
number_rule number =
    record (new_rule number.id) { long = Some number.id; parser = Some (Unsigned number.least number.most) }

abbrev pub with_default : Text → Rule → Rule
with_default text rule = record rule { defaults = text ∷ [] }

abbrev pub as_required : Rule → Rule
as_required rule = record rule { required = true }

-- the one argument that is no option
abbrev pub file : Rule
file = record (new_rule (codes "FILE")) { required = true; action = Some Set }

-- a command on a file, with no option
abbrev pub on_file : Text → App
on_file name = with_rule (new_app name) file

-- `make FILE`, with the numbers of a geometry
abbrev pub make_command : App
make_command = with_rule
    (with_rule
    (with_rule
    (with_rule (on_file (codes "make")) (with_default (codes "32768") (number_rule half_number)))
    (with_default (codes "4") (number_rule ratio_number)))
    (with_default (codes "16384") (number_rule low_number)))
    (with_default (codes "4096") (number_rule quantum_number))

-- `run FILE`, with merge workers and their turns, the number of the first ship, and whether the resident weight is printed
abbrev pub run_command : App
run_command = with_rule
    (with_rule
    (with_rule
    (with_rule (on_file (codes "run")) (with_default (codes "2") (number_rule workers_number)))
    (with_default (codes "1000") (number_rule turns_number)))
    (with_default (codes "0") (number_rule ships_number)))
    (with_default (codes "0") (number_rule resident_number))

-- `trial`, with a seed and a count
abbrev pub trial_command : App
trial_command = with_rule
    (with_rule (new_app (codes "trial")) (as_required (number_rule seed_number)))
    (as_required (number_rule count_number))

-- `serve FILE`, with its callers, and the number of the first ship
abbrev pub serve_command : App
serve_command = with_rule
    (with_rule (on_file (codes "serve")) (with_default (codes "16") (number_rule callers_number)))
    (with_default (codes "0") (number_rule ships_number))

abbrev pub no_command : App
no_command = new_app (codes "blsm")

-- the program, which wants a command
abbrev pub program : App
program = with_subcommand
    (with_subcommand
    (with_subcommand
    (with_subcommand
    (with_subcommand
    (with_subcommand (record no_command { top = record no_command.top { subcommand_required = true } }) make_command.top)
    run_command.top)
    (on_file (codes "check")).top)
    trial_command.top)
    serve_command.top)
    (on_file (codes "settle")).top

-- the argument is read by this rule, and no command but its own has it
pub record IsRule (rule : Rule) (arg : Arg) : Type 0 where
  pub same : rule_of arg ≡ rule
  pub local : arg.global ≡ false

-- the command is read as this one, and has no argument that others have too
pub record IsCommand (app : App) (command : Command) : Type 0 where
  pub same : app_of command ≡ app
  pub local : (out-Command command).has_globals ≡ false

-- ---- what words ask for

-- a store to be made, one to run a script over as the options say, one to look at, one to serve so many callers over, with this number for the
-- first ship, one to settle, each in the file of a name; a trial, by its seed and its count
pub data Asked : Type 0 where
  make : List ℕ → Sizes → Asked
  run : List ℕ → Options → Asked
  check : List ℕ → Asked
  trial : ℕ → ℕ → Asked
  serve : List ℕ → ℕ → ℕ → Asked
  settle : List ℕ → Asked

-- what is asked for is a store of a geometry, a run with few workers, few turns and a small number, a trial of a seed of 64 bits and of a
-- step to as many as a script has lines, or a session of one caller to sixteen and a small number
abbrev pub IsInRange : Asked → Type 0
IsInRange (make name sizes) = IsGeometry sizes
IsInRange (run name options) = (options.workers ≤ most_workers) × (options.turns ≤ most_turns) × (options.ships ≤ most_ship)
IsInRange (check name) = ⊤
IsInRange (trial seed count) = (seed < 2 ^ 64) × (1 ≤ count) × (count ≤ most_lines)
IsInRange (serve name callers ships) = (1 ≤ callers) × (callers ≤ most_callers) × (ships ≤ most_ship)
IsInRange (settle name) = ⊤

-- the number that a text is, where it is one in the option's range, by the test that `clap` tries too
abbrev pub number_by : Number → Text → Option ℕ
number_by number text = if is_unsigned_in number.least number.most text then Some (digits_value 10 (without_leading_plus text)) else None

-- the number that an option was given, or its default
abbrev pub number_in : Number → List Row → Option ℕ
number_in number rows = option_and_then (number_by number) (one_of number.id rows)

abbrev pub file_in : List Row → Option Text
file_in = first_of (codes "FILE")

-- four numbers in their ranges are a geometry where the low mark is at most the half spring
abbrev pub geometry_by : Option ℕ → Option ℕ → Option ℕ → Option ℕ → Option Sizes
geometry_by (Some half) (Some ratio) (Some low) (Some quantum) =
    if nat_le low half then Some (record { half = half; ratio = ratio; low = low; quantum = quantum }) else None
geometry_by _ _ _ _ = None

abbrev pub geometry_in : List Row → Option Sizes
geometry_in rows = geometry_by (number_in half_number rows) (number_in ratio_number rows) (number_in low_number rows) (number_in quantum_number rows)

abbrev pub make_by : Option Text → Option Sizes → Option Asked
make_by (Some name) (Some sizes) = Some (make name sizes)
make_by _ _ = None

abbrev pub make_in : List Row → Option Asked
make_in rows = make_by (file_in rows) (geometry_in rows)

abbrev pub run_by : Option Text → Option ℕ → Option ℕ → Option ℕ → Option ℕ → Option Asked
run_by (Some name) (Some workers) (Some turns) (Some ships) (Some resident) =
    Some (run name (record { workers = workers; turns = turns; ships = ships; resident = resident == 1 }))
run_by _ _ _ _ _ = None

abbrev pub run_in : List Row → Option Asked
run_in rows =
    run_by (file_in rows) (number_in workers_number rows) (number_in turns_number rows) (number_in ships_number rows) (number_in resident_number rows)

abbrev pub serve_by : Option Text → Option ℕ → Option ℕ → Option Asked
serve_by (Some name) (Some callers) (Some ships) = Some (serve name callers ships)
serve_by _ _ _ = None

abbrev pub serve_in : List Row → Option Asked
serve_in rows = serve_by (file_in rows) (number_in callers_number rows) (number_in ships_number rows)

abbrev pub trial_by : Option ℕ → Option ℕ → Option Asked
trial_by (Some seed) (Some count) = Some (trial seed count)
trial_by _ _ = None

abbrev pub trial_in : List Row → Option Asked
trial_in rows = trial_by (number_in seed_number rows) (number_in count_number rows)

-- what a command asks for, by its name and what was found for it
abbrev pub asked_in : Text × List Row → Option Asked
asked_in command = if bytes_eq command.0 (codes "make") then make_in command.1
    else if bytes_eq command.0 (codes "run") then run_in command.1
    else if bytes_eq command.0 (codes "check") then option_map check (file_in command.1)
    else if bytes_eq command.0 (codes "trial") then trial_in command.1
    else if bytes_eq command.0 (codes "serve") then serve_in command.1
    else if bytes_eq command.0 (codes "settle") then option_map settle (file_in command.1) else None

-- the request that the reading of the words gives, if any
abbrev pub asked_by : List Text → Option Asked
asked_by words = option_and_then asked_in (subcommand_of program words)

-- the reading has no fault, and gives a request
abbrev pub AreAccepted : List Text → Type 0
AreAccepted words = (fault_of program words ≡ []) × IsSome (asked_by words)

abbrev pub asked_of : Request → Asked
asked_of (request.Make name geometry) = make name.now geometry
asked_of (request.Run name options) = run name.now options
asked_of (request.Check name) = check name.now
asked_of (request.Trial seed count) = trial seed count
asked_of (request.Serve name callers ships) = serve name.now callers ships
asked_of (request.Settle name) = settle name.now

-- what the reading of the words answers
abbrev pub ReadsWords : List Text → Result Request Unread → Type 0
ReadsWords words (Ok request) = AreAccepted words × (asked_by words ≡ Some (asked_of request))
ReadsWords words (Err Refused) = ¬ AreAccepted words
ReadsWords words (Err NoMemory) = ⊤
