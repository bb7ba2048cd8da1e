use Rattle.std.proofs.Common.{sym, arith}
use Rattle.page_file.proofs.PageLemmas.{head_read, head_of_page}
use Rattle.page_file.proofs.page.PageHead.read.Goals as goal

pub returns-clause-parts : goal.returns-clause-parts
returns-clause-parts c =
    head_read c.args.page.now c.u16_at.result c.u16_at-2.result c.u32_at.result c.page_of.result (omega (arith, c.told-page)) c.u16_at.ensures c.u16_at-2.ensures c.u32_at.ensures c.page_of.ensures.number

pub returns-clause-valid : goal.returns-clause-valid
returns-clause-valid c = λ pages next entries few of.
    let parts = head_read c.args.page.now c.u16_at.result c.u16_at-2.result c.u32_at.result c.page_of.result (omega (arith, c.told-page)) c.u16_at.ensures c.u16_at-2.ensures c.u32_at.ensures c.page_of.ensures.number in
    let same = head_of_page pages c.u16_at.result c.u16_at-2.result c.page_of.result next entries c.args.page.now _ few (omega arith) (omega arith) c.page_of.ensures.fits parts of in
    λ i. record { count = sym same.count_is i; used = sym same.used_is i; next = sym same.next_is i }
