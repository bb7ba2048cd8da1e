use Rattle.std.proofs.Common.{◌∙◌, drop, take, ap, sym, arith}
use Rattle.std.proofs.lemmas.Bool.{false≢true}
use Rattle.std.proofs.lemmas.Slice.{between_to_end}
use Rattle.page_file.proofs.PageLemmas.{page_read, page_parts}
use Rattle.page_file.proofs.page.is_page.Goals as goal

pub returns-then-not-is_right : goal.returns-then-not-is_right
returns-then-not-is_right c =
    let h = c.read-head.result in
    let fits = c.read-head.ensures in (
      λ wrong. absurd (false≢true wrong),
      λ page. absurd (false≢true (sym c.if-not-is_right.true
          ∙ c.is_right.ensures.1 (page_read c.args.pages h.count h.used h.next c.args.page.now _ c.requires fits.count_fits fits.used_fits fits.next_fits fits.parts page).head)),
    )

pub returns-then-are_entries : goal.returns-then-are_entries
returns-then-are_entries c =
    let h = c.read-head.result in
    let fits = c.read-head.ensures in
    let split = c.split_at.ensures in
    let behind = between_to_end c.args.page.now 8 4096 (omega (arith, c.told-page)) in
    let parts = page_parts c.args.pages h.count h.used h.next c.args.page.now _ _ c.requires fits.count_fits fits.used_fits fits.next_fits c.told-page fits.parts
    (split.front ∙ ap (take h.used) behind) (split.back ∙ ap (drop h.used) behind) split.front_len (c.is_right.ensures.0 c.if-not-is_right.false) in
    (λ blank. parts.1 (c.are_entries.ensures.0 c.if-are_entries.true, c.is_blank.ensures.0 blank), λ page. c.is_blank.ensures.1 (parts.0 page).1)

pub returns-else-are_entries : goal.returns-else-are_entries
returns-else-are_entries c =
    let h = c.read-head.result in
    let fits = c.read-head.ensures in
    let split = c.split_at.ensures in
    let behind = between_to_end c.args.page.now 8 4096 (omega (arith, c.told-page)) in
    let parts = page_parts c.args.pages h.count h.used h.next c.args.page.now _ _ c.requires fits.count_fits fits.used_fits fits.next_fits c.told-page fits.parts
    (split.front ∙ ap (take h.used) behind) (split.back ∙ ap (drop h.used) behind) split.front_len (c.is_right.ensures.0 c.if-not-is_right.false) in
    (λ some. absurd (false≢true (sym c.if-are_entries.false ∙ some)), λ page. c.are_entries.ensures.1 (parts.0 page).0)
