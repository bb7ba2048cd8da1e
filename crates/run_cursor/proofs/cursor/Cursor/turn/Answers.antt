use Rattle.std.proofs.Common.{◌≡◌, ◌↔◌, ◌+◌, ◌-◌, ◌<◌, ◌≤◌, ◌∙◌, ℕ, [], Option, length, inl, ap, sym, subst, arith}
use Rattle.std.specs.Prelude.{IsTrue}
use Rattle.std.specs.List.{between}
use Rattle.blsm_model.specs.Geometry.{page_count}
use Rattle.blsm_model.specs.Components.{no_page}
use Rattle.record_delta.specs.Entries.{Entries}
use Rattle.page_file.specs.Page.{IsPageOf, IsPage, page_number, used_by}
use Rattle.page_file.specs.declared.page.PageHead.{PageHead}
use Rattle.page_file.specs.File.{page_at}
use Rattle.run_cursor.specs.Cursor.{CursorState, PageGoesOn, seen, turned, IsKept}
use Rattle.run_cursor.proofs.CursorLemmas.{damage_shown, page_some, reread, reread_kept, taken_is, taken_kept}
use Rattle.run_cursor.proofs.cursor.Cursor.turn.Goals as goal
use Rattle.run_cursor.proofs.cursor.Cursor.turn.Goals.{After-read_page, After-number_of-self-inside}

-- ---- nothing is left of the page that was there, so the cursor stays where another one is read

none_left : (g : _) (c : After-read_page g) → between c.self.inside.at c.self.inside.end c.self.inside.page ≡ []
none_left g c = ap (λ (s : CursorState). s.behind) c.self.view_is ∙ c.requires.none_left

same : (g : _) (c : After-read_page g) → seen c.self.inside.head c.read_page.new.into c.self.inside.at c.self.inside.end c.self.inside.next
    c.self.inside.pages c.self.inside.entries c.self.inside.weight c.self.inside.is_front ≡ c.args.self.now
same g c =
    let f = c.self.inside in
    reread f.head c.read_page.new.into f.page f.at f.end f.next f.pages f.entries f.weight f.is_front c.self.told c.self.invariant (none_left g c) ∙
    c.self.view_is

kept : (g : _) (c : After-read_page g) → IsKept c.self.inside.head c.read_page.new.into c.self.inside.at c.self.inside.end c.self.inside.next
    c.self.inside.pages c.self.inside.entries c.self.inside.weight c.self.inside.is_front
kept g c =
    let f = c.self.inside in
    reread_kept f.head c.read_page.new.into f.page f.at f.end f.next f.pages f.entries f.weight f.is_front c.self.told c.self.invariant (none_left g c)

pub returns-in_err-read_page-clause-kept : goal.returns-in_err-read_page-clause-kept
returns-in_err-read_page-clause-kept g c = λ err. same g (goal.at.returns-in_err-read_page-clause-kept g c).After-read_page

pub invariant_of-self-2 : goal.invariant_of-self-2
invariant_of-self-2 g c = kept g (goal.at.invariant_of-self-2 g c).After-read_page

pub invariant_of-self-then-not-goes_on : goal.invariant_of-self-then-not-goes_on
invariant_of-self-then-not-goes_on g c = kept g (goal.at.invariant_of-self-then-not-goes_on g c).After-read_page

pub returns-then-not-goes_on-clause-kept : goal.returns-then-not-goes_on-clause-kept
returns-then-not-goes_on-clause-kept g c = λ err. same g (goal.at.returns-then-not-goes_on-clause-kept g c).After-read_page

pub returns-then-not-goes_on-clause-damaged : goal.returns-then-not-goes_on-clause-damaged
returns-then-not-goes_on-clause-damaged g c = λ n is tells.
    let number : n ≡ c.self.inside.next = cc in
    let few : page_count c.args.geo.now ≤ no_page = omega (arith, c.pages.ensures.pages, c.pages.ensures.bound) in
    let goes = subst (λ (s : CursorState). (pages : ℕ) (next : Option ℕ) (entries : Entries) → pages ≤ no_page → IsPageOf pages next entries
    c.read_page.new.into → IsTrue c.goes_on.result ↔ PageGoesOn s next entries)
    (same g (goal.at.returns-then-not-goes_on-clause-damaged g c).After-read_page) c.goes_on.ensures in
    damage_shown c.args.geo.now c.args.self.now n c.read_page.new.into (g.D.Disk.state c.read_page.new.disk).bytes c.goes_on.result few (number ∙ ap (λ (s : CursorState). s.next) c.self.view_is) c.requires.none_left c.requires.more_pages
    (c.in_ok-read_page.ensures.bytes (λ wrong. cc) tells ∙ ap (λ m. page_at c.args.geo.now m (g.D.Disk.state c.read_page.new.disk).bytes)
    (sym number)) c.if-not-goes_on.true goes

-- ---- the page that was read

is_page : (g : _) (c : After-number_of-self-inside g) → IsPage (page_count c.args.geo.now) c.read_page.new.into
is_page g c = c.in_ok-read_page.ensures.answer

few_pages : (g : _) (c : After-number_of-self-inside g) → page_count c.args.geo.now ≤ no_page
few_pages g c = omega (arith, c.pages.ensures.pages, c.pages.ensures.bound)

goes : (g : _) (c : After-number_of-self-inside g) → seen c.self.inside.head c.read_page.new.into c.self.inside.at c.self.inside.end
    c.self.inside.next c.self.inside.pages c.self.inside.entries c.self.inside.weight c.self.inside.is_front ≡ c.args.self.now
    → PageGoesOn c.args.self.now (is_page g c).0 (is_page g c).1
goes g c is =
    let page = is_page g c in
    subst (λ (s : CursorState). PageGoesOn s page.0 page.1) is ((c.goes_on.ensures _ page.0 page.1 (few_pages g c) page.2).0 c.if-not-goes_on.false)

read_of : (g : _) (c : After-number_of-self-inside g) → c.read-head.result ≡ record
    { count = length (is_page g c).1; used = used_by (is_page g c).1; next = (is_page g c).0 }
read_of g c = let page = is_page g c in c.read-head.ensures.valid _ page.0 page.1 (few_pages g c) page.2

number_is : (g : _) (c : After-number_of-self-inside g) → c.number_of-self-inside.result ≡ page_number (is_page g c).0
number_is g c = c.number_of-self-inside.ensures ∙ ap (λ (h : PageHead). page_number h.next) (read_of g c)

is_turned : (g : _) (c : After-number_of-self-inside g)
    → seen c.self.inside.head c.read_page.new.into 8 (8 + c.read-head.result.used) c.number_of-self-inside.result (c.self.inside.pages - 1)
    c.self.inside.entries c.self.inside.weight c.self.inside.is_front ≡ turned (is_page g c).0 (is_page g c).1 c.args.self.now
is_turned g c =
    let f = c.self.inside in
    let page = is_page g c in
    taken_is f.head c.read_page.new.into f.page f.at f.end f.next f.pages f.entries f.weight c.read-head.result.used c.number_of-self-inside.result
    f.is_front c.args.self.now _ page.0 page.1
    c.self.view_is page.2 (ap (λ (h : PageHead). h.used) (read_of g c)) (number_is g c)

pub invariant_of-self-3 : goal.invariant_of-self-3
invariant_of-self-3 g c =
    let b = (goal.at.invariant_of-self-3 g c).After-number_of-self-inside in
    let f = c.self.inside in
    let page = is_page g b in
    taken_kept f.head c.read_page.new.into f.page f.at f.end f.next f.pages f.entries f.weight c.read-head.result.used c.number_of-self-inside.result
    f.is_front c.args.self.now _ page.0 page.1
    c.self.view_is page.2 (ap (λ (h : PageHead). h.used) (read_of g b)) (number_is g b) c.requires.more_pages
    (goes g b (same g (goal.at.invariant_of-self-3 g c).After-read_page))

pub returns-clause-turned : goal.returns-clause-turned
returns-clause-turned g c =
    let b = (goal.at.returns-clause-turned g c).After-number_of-self-inside in
    let page = is_page g b in
    let on = goes g b (same g (goal.at.returns-clause-turned g c).After-read_page) in (
      page.0,
      page.1,
      on,
      page_some _ page.0 page.1 _ page.2,
      is_turned g b,
      λ tells. record {
        inside = subst (λ (s : CursorState). s.next < page_count c.args.geo.now) c.self.view_is (omega (arith, c.if-from-pages.false, c.from.ensures, c.pages.ensures.pages));
        valid = subst (λ (s : CursorState). IsPageOf (page_count c.args.geo.now) page.0 page.1 (page_at c.args.geo.now s.next (g.D.Disk.state c.read_page.new.disk).bytes)) c.self.view_is
            (subst (IsPageOf (page_count c.args.geo.now) page.0 page.1) (c.in_ok-read_page.ensures.bytes (λ wrong. cc) tells) page.2);
        goes_on = on;
      },
    )

pub returns-clause-fits : goal.returns-clause-fits
returns-clause-fits g c =
    let b = (goal.at.returns-clause-fits g c).After-number_of-self-inside in
    let page = is_page g b in
    omega (arith, page.2.content.head.fits, ap (λ (s : CursorState). length s.behind) (is_turned g b))

pub returns-clause-full : goal.returns-clause-full
returns-clause-full g c = λ more.
    let b = (goal.at.returns-clause-full g c).After-number_of-self-inside in
    let page = is_page g b in
    let on = goes g b (same g (goal.at.returns-clause-full g c).After-read_page) in
    let full = page.2.content.head.full
    (on.numbers.follows.1 (inl (omega (arith, more, ap (λ (s : CursorState). s.pages) (is_turned g b))))) in
    omega (arith, full, ap (λ (s : CursorState). length s.behind) (is_turned g b))
