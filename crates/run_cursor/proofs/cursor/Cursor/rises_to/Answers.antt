use Rattle.std.proofs.Common.{◌≡◌, ◌∙◌, List, ℕ, ap, drop, sym, subst, arith}
use Rattle.std.specs.List.{between}
use Rattle.std.specs.Ordering.{is_lt}
use Rattle.std.proofs.lemmas.Slice.{between_to_end}
use Rattle.blsm_model.specs.declared.key.Key.{Key}
use Rattle.blsm_model.specs.Keys.{key_cmp}
use Rattle.entry_codec.specs.Spelling.{BeginsWith}
use Rattle.run_cursor.specs.Cursor.{CursorState}
use Rattle.run_cursor.proofs.CursorLemmas.{page_first, rises_to}
use Rattle.run_cursor.proofs.cursor.Cursor.rises_to.Goals as goal

pub returns-in-Some-peek_key : goal.returns-in-Some-peek_key
returns-in-Some-peek_key c = λ pages next entries of.
    let page : List ℕ = c.args.page.now in
    let last = c.in-Some.last in
    let first = c.in-Some-peek_key.first.now in
    let found = c.in-Some-peek_key.ensures.found in
    let there : between 8 4096 page ≡ drop 8 page = between_to_end page 8 4096 (omega (arith, c.told-page)) in
    rises_to c.args.self.now.head (last, c.in-Some.field-0-1) (first, found.0) pages next entries page c.is_lt.result
    (ap (λ (s : CursorState). s.head) (sym c.self.view_is) ∙ c.in-Some.is) of (subst (λ (l : List ℕ). BeginsWith l first found.0) there found.1)
    (c.is_lt.ensures ∙ ap is_lt c.cmp.ensures ∙ ap (λ (k : Key). is_lt (key_cmp k first)) c.as_bytes.ensures.bytes)

pub returns-in-None : goal.returns-in-None
returns-in-None c = λ pages next entries of.
    let page : List ℕ = c.args.page.now in
    let first = page_first pages next entries page of in
    let there : between 8 4096 page ≡ drop 8 page = between_to_end page 8 4096 (omega (arith, c.told-page)) in
    absurd (c.in-None.ensures.none first.first.0 first.first.1 (subst (λ (l : List ℕ). BeginsWith l first.first.0 first.first.1) (sym there) first.begins))
