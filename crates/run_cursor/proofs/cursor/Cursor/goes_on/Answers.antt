use Rattle.std.proofs.Common.{◌∙◌, ap, sym}
use Rattle.std.proofs.lemmas.Bool.{false≢true}
use Rattle.page_file.specs.declared.page.PageHead.{PageHead}
use Rattle.run_cursor.proofs.CursorLemmas.{numbers_of_page}
use Rattle.run_cursor.proofs.cursor.Cursor.goes_on.Goals as goal

pub returns-then-is_in_number : goal.returns-then-is_in_number
returns-then-is_in_number c = λ pages next entries few of.
    let rises = c.rises_to.ensures pages next entries of in
    let valid = c.read.ensures.valid pages next entries few of in
    let numbers = numbers_of_page c.args.self.now next entries c.read.result.next c.read.result.count c.read.result.used
    (ap (λ (h : PageHead). h.next) valid, ap (λ (h : PageHead). h.count) valid, ap (λ (h : PageHead). h.used) valid) in (
      λ some. record { rise = rises.0 some; numbers = numbers.0 (c.is_in_number.ensures.0 c.if-is_in_number.true) },
      λ goes. rises.1 goes.rise,
    )

pub returns-else-is_in_number : goal.returns-else-is_in_number
returns-else-is_in_number c = λ pages next entries few of.
    let valid = c.read.ensures.valid pages next entries few of in
    let numbers = numbers_of_page c.args.self.now next entries c.read.result.next c.read.result.count c.read.result.used
    (ap (λ (h : PageHead). h.next) valid, ap (λ (h : PageHead). h.count) valid, ap (λ (h : PageHead). h.used) valid) in (
      λ some. absurd (false≢true (sym c.if-is_in_number.false ∙ some)),
      λ goes. absurd (false≢true (sym c.if-is_in_number.false ∙ c.is_in_number.ensures.1 (numbers.1 goes.numbers))),
    )
