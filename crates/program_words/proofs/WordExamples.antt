-- Words that are accepted, and what is wrong with others.
use Rattle.std.proofs.Common.{◌≡◌, ℕ, true, false, List, [], ◌∷◌, Option, Some, None, codes, refl}
use Rattle.clap.specs.Words.{Text, Kinds, fault_of}
use Rattle.clap.specs.declared.error.kind.ErrorKind.TheVariants as kind
use Rattle.clap.proofs.OnLiterals.{clap_on_literals}
use Rattle.blsm_model.specs.Sizes.{default_sizes}
use Rattle.program_words.specs.declared.request.Options.{Options}
use Rattle.program_words.specs.Words.{program, Asked, make, run, check, trial, serve, settle, asked_by}

abbrev after_name : List Text → List Text
after_name words = codes "blsm" ∷ words

abbrev fault : List Text → Kinds
fault words = fault_of program (after_name words)

abbrev asked : List Text → Option Asked
asked words = asked_by (after_name words)

-- the words have no fault, and ask for this
abbrev AskFor : List Text → Asked → Type 0
AskFor words what = (fault words ≡ []) × (asked words ≡ Some what)

abbrev on_file : Text → List Text → List Text
on_file command options = command ∷ codes "F" ∷ options

abbrev options : ℕ → ℕ → ℕ → Options
options workers turns ships = record { workers = workers; turns = turns; ships = ships; resident = false }

-- ---- accepted

run_file : AskFor (on_file (codes "run") []) (run (codes "F") (options 2 1000 0))
unfolding clap_on_literals
run_file = (refl, refl)

check_file : AskFor (on_file (codes "check") []) (check (codes "F"))
unfolding clap_on_literals
check_file = (refl, refl)

-- a name that begins with a dash stands behind two dashes
run_dash : AskFor (codes "run" ∷ codes "--" ∷ codes "-m" ∷ []) (run (codes "-m") (options 2 1000 0))
unfolding clap_on_literals
run_dash = (refl, refl)

run_alone : AskFor (on_file (codes "run") (codes "--workers" ∷ codes "0" ∷ codes "--turns=0" ∷ [])) (run (codes "F") (options 0 0 0))
unfolding clap_on_literals
run_alone = (refl, refl)

run_with_most : AskFor (codes "run" ∷ codes "--turns" ∷ codes "1000000" ∷ codes "--workers=8" ∷ codes "F" ∷ []) (run (codes "F") (options 8 1000000 0))
unfolding clap_on_literals
run_with_most = (refl, refl)

run_with_ships : AskFor (on_file (codes "run") (codes "--ships" ∷ codes "9223372036854775808" ∷ [])) (run (codes "F") (options 2 1000 9223372036854775808))
unfolding clap_on_literals
run_with_ships = (refl, refl)

run_with_resident : AskFor (on_file (codes "run") (codes "--resident" ∷ codes "1" ∷ []))
    (run (codes "F") (record (options 2 1000 0) { resident = true }))
unfolding clap_on_literals
run_with_resident = (refl, refl)

run_without : AskFor (on_file (codes "run") (codes "--resident=0" ∷ [])) (run (codes "F") (options 2 1000 0))
unfolding clap_on_literals
run_without = (refl, refl)

make_plain : AskFor (on_file (codes "make") []) (make (codes "F") default_sizes)
unfolding clap_on_literals
make_plain = (refl, refl)

make_small : AskFor (on_file (codes "make") (codes "--half=17408" ∷ [])) (make (codes "F") (record default_sizes { half = 17408 }))
unfolding clap_on_literals
make_small = (refl, refl)

make_other : AskFor (codes "make" ∷ codes "--ratio" ∷ codes "8" ∷ codes "F" ∷ codes "--half=67108864" ∷ codes "--low" ∷ codes "67108864" ∷ codes "--quantum" ∷ codes "1024" ∷ [])
    (make (codes "F") (record { half = 67108864; ratio = 8; low = 67108864; quantum = 1024 }))
unfolding clap_on_literals
make_other = (refl, refl)

trial_last : AskFor (codes "trial" ∷ codes "--count" ∷ codes "65536" ∷ codes "--seed" ∷ codes "18446744073709551615" ∷ []) (trial 18446744073709551615 65536)
unfolding clap_on_literals
trial_last = (refl, refl)

trial_first : AskFor (codes "trial" ∷ codes "--seed" ∷ codes "0" ∷ codes "--count=1" ∷ []) (trial 0 1)
unfolding clap_on_literals
trial_first = (refl, refl)

serve_file : AskFor (on_file (codes "serve") []) (serve (codes "F") 16 0)
unfolding clap_on_literals
serve_file = (refl, refl)

serve_one : AskFor (codes "serve" ∷ codes "--callers" ∷ codes "1" ∷ codes "F" ∷ []) (serve (codes "F") 1 0)
unfolding clap_on_literals
serve_one = (refl, refl)

serve_ships : AskFor (codes "serve" ∷ codes "--ships" ∷ codes "9223372036854775808" ∷ codes "F" ∷ []) (serve (codes "F") 16 9223372036854775808)
unfolding clap_on_literals
serve_ships = (refl, refl)

settle_file : AskFor (on_file (codes "settle") []) (settle (codes "F"))
unfolding clap_on_literals
settle_file = (refl, refl)

-- ---- refused

-- the low mark is above the half spring that the store gets by default
low_above : asked (on_file (codes "make") (codes "--low" ∷ codes "40000" ∷ [])) ≡ None
unfolding clap_on_literals
low_above = refl

half_below : fault (on_file (codes "make") (codes "--half" ∷ codes "17407" ∷ [])) ≡ kind.ValueValidation ∷ []
unfolding clap_on_literals
half_below = refl

no_number : fault (on_file (codes "make") (codes "--half" ∷ codes "much" ∷ [])) ≡ kind.ValueValidation ∷ []
unfolding clap_on_literals
no_number = refl

half_twice : fault (on_file (codes "make") (codes "--half=20000" ∷ codes "--half=20000" ∷ [])) ≡ kind.ArgumentConflict ∷ []
unfolding clap_on_literals
half_twice = refl

no_count : fault (codes "trial" ∷ codes "--seed" ∷ codes "7" ∷ []) ≡ kind.MissingRequiredArgument ∷ []
unfolding clap_on_literals
no_count = refl

count_zero : fault (codes "trial" ∷ codes "--seed" ∷ codes "7" ∷ codes "--count" ∷ codes "0" ∷ []) ≡ kind.ValueValidation ∷ []
unfolding clap_on_literals
count_zero = refl

great_seed : fault (codes "trial" ∷ codes "--seed" ∷ codes "18446744073709551616" ∷ codes "--count" ∷ codes "1" ∷ []) ≡ kind.ValueValidation ∷ []
unfolding clap_on_literals
great_seed = refl

no_words : fault [] ≡ kind.MissingSubcommand ∷ []
unfolding clap_on_literals
no_words = refl

no_file : fault (codes "run" ∷ []) ≡ kind.MissingRequiredArgument ∷ []
unfolding clap_on_literals
no_file = refl

two_files : fault (on_file (codes "run") (codes "G" ∷ [])) ≡ kind.UnknownArgument ∷ []
unfolding clap_on_literals
two_files = refl

half_of_check : fault (on_file (codes "check") (codes "--half" ∷ codes "17408" ∷ [])) ≡ kind.UnknownArgument ∷ []
unfolding clap_on_literals
half_of_check = refl

workers_of_check : fault (on_file (codes "check") (codes "--workers" ∷ codes "2" ∷ [])) ≡ kind.UnknownArgument ∷ []
unfolding clap_on_literals
workers_of_check = refl

nine_workers : fault (on_file (codes "run") (codes "--workers" ∷ codes "9" ∷ [])) ≡ kind.ValueValidation ∷ []
unfolding clap_on_literals
nine_workers = refl

too_many_turns : fault (on_file (codes "run") (codes "--turns" ∷ codes "1000001" ∷ [])) ≡ kind.ValueValidation ∷ []
unfolding clap_on_literals
too_many_turns = refl

ship_too_great : fault (on_file (codes "run") (codes "--ships" ∷ codes "9223372036854775809" ∷ [])) ≡ kind.ValueValidation ∷ []
unfolding clap_on_literals
ship_too_great = refl

served_ship_too_great : fault (on_file (codes "serve") (codes "--ships" ∷ codes "9223372036854775809" ∷ [])) ≡ kind.ValueValidation ∷ []
unfolding clap_on_literals
served_ship_too_great = refl

resident_two : fault (on_file (codes "run") (codes "--resident" ∷ codes "2" ∷ [])) ≡ kind.ValueValidation ∷ []
unfolding clap_on_literals
resident_two = refl

resident_served : fault (on_file (codes "serve") (codes "--resident" ∷ codes "1" ∷ [])) ≡ kind.UnknownArgument ∷ []
unfolding clap_on_literals
resident_served = refl

some_workers : fault (on_file (codes "run") (codes "--workers" ∷ codes "some" ∷ [])) ≡ kind.ValueValidation ∷ []
unfolding clap_on_literals
some_workers = refl

no_caller : fault (on_file (codes "serve") (codes "--callers" ∷ codes "0" ∷ [])) ≡ kind.ValueValidation ∷ []
unfolding clap_on_literals
no_caller = refl

many_callers : fault (on_file (codes "serve") (codes "--callers=17" ∷ [])) ≡ kind.ValueValidation ∷ []
unfolding clap_on_literals
many_callers = refl

workers_of_serve : fault (on_file (codes "serve") (codes "--workers" ∷ codes "2" ∷ [])) ≡ kind.UnknownArgument ∷ []
unfolding clap_on_literals
workers_of_serve = refl

half_of_settle : fault (on_file (codes "settle") (codes "--half" ∷ codes "17408" ∷ [])) ≡ kind.UnknownArgument ∷ []
unfolding clap_on_literals
half_of_settle = refl

serve_nothing : fault (codes "serve" ∷ []) ≡ kind.MissingRequiredArgument ∷ []
unfolding clap_on_literals
serve_nothing = refl

other_command : fault (on_file (codes "walk") []) ≡ kind.UnknownArgument ∷ kind.InvalidSubcommand ∷ []
unfolding clap_on_literals
other_command = refl

help : fault (codes "help" ∷ []) ≡ kind.DisplayHelp ∷ kind.InvalidSubcommand ∷ []
unfolding clap_on_literals
help = refl

help_flag : fault (codes "--help" ∷ []) ≡ kind.DisplayHelp ∷ []
unfolding clap_on_literals
help_flag = refl

help_of_make : fault (on_file (codes "make") (codes "--help" ∷ [])) ≡ kind.DisplayHelp ∷ []
unfolding clap_on_literals
help_of_make = refl

version : fault (codes "--version" ∷ []) ≡ kind.UnknownArgument ∷ []
unfolding clap_on_literals
version = refl
