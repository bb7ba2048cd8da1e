use Rattle.std.proofs.Common.{ℕ, List, sym, subst}
use Rattle.script_text.proofs.ReadLemmas.{decimal_begins, number_read, number_is_text}
use Rattle.script_text.specs.Reading.{BeginsAsNumber}
use Rattle.script_text.proofs.read_word.read_number.Goals as goal

pub returns-then-not-begins_as_number : goal.returns-then-not-begins_as_number
returns-then-not-begins_as_number c = λ n spells.
    let begins : BeginsAsNumber c.args.word.now = subst (λ (b : List ℕ). BeginsAsNumber b) (sym spells.0) (decimal_begins n spells.1) in
    let so = c.begins_as_number.ensures.1 begins in
    cc

pub returns-in-Err : goal.returns-in-Err
returns-in-Err c = λ n spells. c.in-Err.ensures.cases.0 (number_is_text n c.args.word.now spells)

pub returns-in-Ok : goal.returns-in-Ok
returns-in-Ok c =
    let begins : BeginsAsNumber c.args.word.now = c.begins_as_number.ensures.0 c.if-not-begins_as_number.false in
    rw c.ok.ensures.value (number_read c.args.word.now c.parse.result begins (rw c.in-Ok.ensures.cases.0 at c.parse.ensures.value.0))
