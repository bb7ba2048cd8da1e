-- What words ask for lies in its range.
use Rattle.std.proofs.lemmas.Bool.Decides.{nat_tests}
use Rattle.std.proofs.lemmas.Grind.{common_steps}
use Rattle.std.proofs.Common.{◌≡◌, ℕ, Bool, List, Option, Some, None, option_and_then, option_map, cond, ◌≤◌, arith, codes}
use Rattle.std.specs.Str.{bytes_eq}
use Rattle.std.specs.Str.Parse.{digits_value, without_leading_plus}
use Rattle.clap.specs.Words.{Text, Row, one_of, subcommand_of}
use Rattle.blsm_model.specs.Sizes.{Sizes, IsGeometry}
use Rattle.program_words.specs.Words.{
  Number,
  number_by,
  number_in,
  half_number,
  ratio_number,
  low_number,
  quantum_number,
  seed_number,
  count_number,
  geometry_by,
  geometry_in,
  make_by,
  make_in,
  run_by,
  run_in,
  serve_by,
  serve_in,
  trial_by,
  trial_in,
  callers_number,
  resident_number,
  ships_number,
  workers_number,
  turns_number,
  file_in,
  asked_in,
  asked_by,
  program,
  settle,
  Asked,
  check,
  IsInRange,
}

abbrev value : Text → ℕ
value text = digits_value 10 (without_leading_plus text)

abbrev Inside : Number → ℕ → Type 0
Inside number n = (number.least ≤ n) × (n ≤ number.most)

number_inside : (number : Number) (text : Option Text) (n : ℕ) → option_and_then (number_by number) text ≡ Some n → Inside number n
number_inside number text n h1 = grind (arith, common_steps, nat_tests)

-- all that is found of a number lies inside
abbrev Bounds : Number → Option ℕ → Type 0
Bounds number found = (n : ℕ) → found ≡ Some n → Inside number n

bounded : (number : Number) (rows : List Row) → Bounds number (number_in number rows)
bounded number rows = number_inside number (one_of number.id rows)

geometry_fits : (half ratio low quantum : Option ℕ) (sizes : Sizes) → Bounds half_number half → Bounds ratio_number ratio → Bounds quantum_number quantum
    → geometry_by half ratio low quantum ≡ Some sizes → IsGeometry sizes
geometry_fits half ratio low quantum sizes h1 h2 h3 h4 = grind (arith, common_steps, nat_tests)

make_fits : (name : Option Text) (found : Option Sizes) (asked : Asked) → ((sizes : Sizes) → found ≡ Some sizes → IsGeometry sizes) → make_by name found ≡ Some asked → IsInRange asked
make_fits name found asked h1 h2 = grind (arith, common_steps, nat_tests)

trial_fits : (seed count : Option ℕ) (asked : Asked) → Bounds seed_number seed → Bounds count_number count → trial_by seed count ≡ Some asked → IsInRange asked
trial_fits seed count asked h1 h2 h3 = grind (arith, common_steps, nat_tests)

run_fits : (name : Option Text) (workers turns ships resident : Option ℕ) (asked : Asked) → Bounds workers_number workers → Bounds turns_number turns
    → Bounds ships_number ships → run_by name workers turns ships resident ≡ Some asked → IsInRange asked
run_fits name workers turns ships resident asked h1 h2 h3 h4 = grind (arith, common_steps, nat_tests)

serve_fits : (name : Option Text) (callers ships : Option ℕ) (asked : Asked) → Bounds callers_number callers → Bounds ships_number ships
    → serve_by name callers ships ≡ Some asked → IsInRange asked
serve_fits name callers ships asked h1 h2 h3 = grind (arith, common_steps, nat_tests)

check_fits : (name : Option Text) (asked : Asked) → option_map check name ≡ Some asked → IsInRange asked
check_fits name asked h1 = grind (arith, common_steps, nat_tests)

settle_fits : (name : Option Text) (asked : Asked) → option_map settle name ≡ Some asked → IsInRange asked
settle_fits name asked h1 = grind (arith, common_steps, nat_tests)

either : (b : Bool) (x y : Option Asked) (asked : Asked) → cond b x y ≡ Some asked → (x ≡ Some asked → IsInRange asked) → (y ≡ Some asked → IsInRange asked) → IsInRange asked
either b x y asked h1 h2 h3 = grind (arith, common_steps, nat_tests)

none_fits : (asked : Asked) → None ≡ Some asked → IsInRange asked
none_fits asked is = cc

command_fits : (name : Text) (rows : List Row) (asked : Asked) → asked_in (name, rows) ≡ Some asked → IsInRange asked
command_fits name rows asked is =
    either (bytes_eq name (codes "make")) (make_in rows) _ asked is
    (make_fits (file_in rows) (geometry_in rows) asked (λ sizes. geometry_fits (number_in half_number rows) (number_in ratio_number rows) (number_in low_number rows) (number_in quantum_number rows) sizes
    (bounded half_number rows) (bounded ratio_number rows) (bounded quantum_number rows)))
    (λ other. either (bytes_eq name (codes "run")) (run_in rows) _ asked other
    (run_fits (file_in rows) (number_in workers_number rows) (number_in turns_number rows) (number_in ships_number rows)
    (number_in resident_number rows) asked
    (bounded workers_number rows) (bounded turns_number rows) (bounded ships_number rows))
    (λ third. either (bytes_eq name (codes "check")) (option_map check (file_in rows)) _ asked third (check_fits (file_in rows) asked)
    (λ fourth. either (bytes_eq name (codes "trial")) (trial_in rows) _ asked fourth
    (trial_fits (number_in seed_number rows) (number_in count_number rows) asked (bounded seed_number rows) (bounded count_number rows))
    (λ fifth. either (bytes_eq name (codes "serve")) (serve_in rows) _ asked fifth
    (serve_fits (file_in rows) (number_in callers_number rows) (number_in ships_number rows) asked (bounded callers_number rows)
    (bounded ships_number rows))
    (λ last. either (bytes_eq name (codes "settle")) (option_map settle (file_in rows)) None asked last (settle_fits (file_in rows) asked)
    (none_fits asked))))))

met_fits : (met : Option (Text × List Row)) (asked : Asked) → option_and_then asked_in met ≡ Some asked → IsInRange asked
met_fits met asked h1 = grind (arith, common_steps, nat_tests, command_fits)

pub in_range : (words : List Text) (asked : Asked) → asked_by words ≡ Some asked → IsInRange asked
in_range words asked is = met_fits (subcommand_of program words) asked is
