use Rattle.std.proofs.Common.{◌≡◌, ◌≤◌, None, option_and_then, arith, rules, ap, ◌∙◌}
use Rattle.std.specs.Str.Parse.{ParsesUnsigned, ExplainsUnsignedError, HasUnsignedDigitsIfOk}
use Rattle.clap.specs.Words.{found_of, one_text}
use Rattle.clap.proofs.WalkLemmas.{one_text-rows}
use Rattle.program_words.specs.Words.{Number, number_by}
use Rattle.program_words.proofs.NumberLemmas.{read_none, read_inside, read_outside}
use Rattle.program_words.proofs.numbers.number_of.Goals as goal
use Rattle.program_words.proofs.numbers.number_of.Goals.{else-least-number-via-then-least-number+else-number-most, else-least-number-via-else-least-number}

pub returns-in_err-number-clause-value : goal.returns-in_err-number-clause-value
returns-in_err-number-clause-value c =
    let number : Number = record { id = c.args.name.now; least = c.args.least; most = c.args.most } in
    let none : c.from_residual.result ≡ None = search rules in
    none ∙ read_none _ (λ bs r. ParsesUnsigned 64 10 bs r × ExplainsUnsignedError 10 bs r × HasUnsignedDigitsIfOk bs r) (λ u x g. g.0)
    number (one_text (found_of c.args.matches.now) c.args.name.now) c.in_err-number.ensures.value
    ∙ ap (option_and_then (number_by number)) (one_text-rows (found_of c.args.matches.now) c.args.name.now)

pub returns-then-number-most-clause-value : goal.returns-then-number-most-clause-value
returns-then-number-most-clause-value c =
    let number : Number = record { id = c.args.name.now; least = c.args.least; most = c.args.most } in
    let low : c.args.least ≤ c.in_ok-number.number = omega arith in
    let high : c.in_ok-number.number ≤ c.args.most = omega arith in
    read_inside _ (λ bs r. ParsesUnsigned 64 10 bs r × ExplainsUnsignedError 10 bs r × HasUnsignedDigitsIfOk bs r) (λ u x g. g.0)
    number (one_text (found_of c.args.matches.now) c.args.name.now) c.in_ok-number.number c.in_ok-number.ensures.none c.in_ok-number.ensures.value low high
    ∙ ap (option_and_then (number_by number)) (one_text-rows (found_of c.args.matches.now) c.args.name.now)

pub returns-else-least-number-clause-value : goal.returns-else-least-number-clause-value
returns-else-least-number-clause-value c =
    let number : Number = record { id = c.args.name.now; least = c.args.least; most = c.args.most } in
    let never : c.args.least ≤ c.in_ok-number.number → c.in_ok-number.number ≤ c.args.most → ⊥ = λ low high. elim c.else-least-number.branch [
      | else-least-number-via-then-least-number+else-number-most w ↦ omega arith
      | else-least-number-via-else-least-number w ↦ omega arith
    ] in
    read_outside _ (λ bs r. ParsesUnsigned 64 10 bs r × ExplainsUnsignedError 10 bs r × HasUnsignedDigitsIfOk bs r) (λ u x g. g.0)
    number (one_text (found_of c.args.matches.now) c.args.name.now) c.in_ok-number.number c.in_ok-number.ensures.value never
    ∙ ap (option_and_then (number_by number)) (one_text-rows (found_of c.args.matches.now) c.args.name.now)
