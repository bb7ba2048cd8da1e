-- A walk over a component's pages, entry by entry.
use Rattle.std.proofs.Common.{◌≡◌, ◌⊎◌, ◌≢◌, ◌↔◌, ℕ, ◌+◌, ◌-◌, ◌*◌, ◌<◌, ◌≤◌, List, [], ◌∷◌, ◌++◌, length, refl, ap, sym, subst, ◌∙◌, arith, inl, inr, ⊎_elim, Bool, true, false, Option, Some, None, Err, append-nil, append_assoc, length-append}
use Rattle.std.proofs.lemmas.Bool.{false≢true}
use Rattle.std.proofs.lemmas.Grind.{common_steps}
use Rattle.std.proofs.lemmas.Bool.Decides.{nat_tests}
use Rattle.std.specs.Prelude.{nat_eq, IsSome, IfSome, IfNone}
use Rattle.std.specs.List.{Contains, IsDistinct, last_or}
use Rattle.std.specs.List.Sorted.{IsStrictlySortedBy}
use Rattle.std.proofs.lemmas.List.{nil_from_length}
use Rattle.std.proofs.lemmas.List.Elements.{Contains-append_left, Contains-push, Contains-push_cases}
use Rattle.blsm_model.specs.declared.component.Component.{Component}
use Rattle.blsm_model.specs.declared.key.Key.{Key}
use Rattle.blsm_model.specs.Components.{empty_component, no_page}
use Rattle.blsm_model.specs.Format.{least_full}
use Rattle.blsm_model.specs.Sizes.{Sizes}
use Rattle.blsm_model.specs.Geometry.{page_count}
use Rattle.record_delta.specs.declared.record.Rec.{Rec}
use Rattle.record_delta.specs.Entries.{Entries, entries_weight}
use Rattle.page_file.specs.Entry.{AreRising}
use Rattle.page_file.specs.Page.{page_number, IsPageOf}
use Rattle.page_file.specs.File.{page_at}
use Rattle.page_file.proofs.PageLemmas.{page_same}
use Rattle.page_file.specs.declared.file.Broken.{Broken}
use Rattle.page_file.specs.declared.file.Broken.TheVariants.{Fault, Damaged}
use Rattle.page_file.specs.Component.{RunPage, HasList, AreChained, entries_of, first_number, numbers_of}
use Rattle.page_file.proofs.ComponentLemmas.{chain_split, entries_join, first_join, rise_back}
use Rattle.page_space.specs.Space.{Claims, HasRole, IsFree, IsSpace, KeepsOtherRoles, SpaceState, role_size}
use Rattle.run_cursor.specs.Cursor.{AreFull, CursorState, IsDamageAt, GoesOnAt, from_head}
use Rattle.run_cursor.specs.Given.{HasGiven}
use Rattle.run_cursor.proofs.CursorLemmas.{none_in_none}
use Rattle.tree_runs.specs.Laws.{TakesFree}
use Rattle.tree_runs.specs.Runs.{IsFilled}
use Rattle.tree_reading.specs.Pages.{AreAllowed, BeginsWith}
use Rattle.output_reading.specs.Walk.{TakesUp}
use Rattle.tree_reading.specs.Walk.{
  Enters,
  GoesOnWithin,
  ChangesOnly,
  IsEntered,
  IsRefused,
  IsStoppedAt,
  IsWalked,
  TellsStop,
  due,
  not_free,
  nowhere,
  on,
}
use Rattle.output_reading.proofs.PagesLemmas.{same_pages, is_some, distinct_front, last_push, numbers_push, pages_stay, pages_turn, rise_front, still, takes_push}
use Rattle.tree_reading.proofs.PagesLemmas.{allowed_back, allowed_front}

-- ---- what is taken up

-- What was taken up so far: the earlier pages and these, of which the last is the page that the cursor is at.
pub record ArePagesTaken (earlier : List ℕ) (role : ℕ) (old : SpaceState) (pages : List RunPage) (page : ℕ) (space : SpaceState) : Type 0 where
  pub takes : TakesUp (earlier ++ numbers_of pages) space
  pub tags : (k : ℕ) → HasRole space role k ↔ (HasRole old role k ⊎ Contains (numbers_of pages) k)
  pub page_is : (last : RunPage) → last_or None pages ≡ Some last → last.number ≡ page

pub record HasWalked (sizes : Sizes) (run : Component) (only : Bool) (earlier : List ℕ) (role : ℕ) (old : SpaceState) (cursor : CursorState) (page : ℕ) (space : SpaceState) (file : List ℕ) : Type 0 where
  pub given : Entries
  pub has : HasGiven sizes run cursor given file
  pub allowed : AreAllowed only given
  pub taken : ArePagesTaken earlier role old has.pages page space
  pub at_first : has.pages ≡ [] → page ≡ run.first

pub taken_start : (earlier : List ℕ) (role page : ℕ) (space : SpaceState) → TakesUp earlier space → ArePagesTaken earlier role space [] page space
taken_start earlier role page space h1 = grind (arith, common_steps, nat_tests)

taken_turned : (earlier : List ℕ) (role page n : ℕ) (old space now : SpaceState) (ps qs : List RunPage) (p : RunPage) → ArePagesTaken earlier role old ps page space → qs ≡ ps ++ p ∷ [] → p.number ≡ n
    → IsFree space n → Claims role n space now → ArePagesTaken earlier role old qs n now
taken_turned earlier role page n old space now ps qs p was parts number free claims = record {
  takes = subst (λ (l : List ℕ). TakesUp l now) (append_assoc earlier (numbers_of ps) (n ∷ []) ∙ ap (λ (l : List ℕ). earlier ++ l) (sym numbers)) (takes_push (earlier ++ numbers_of ps) role n space now was.takes free claims);
  tags = λ k.
      let among : Contains (numbers_of qs) k → Contains (numbers_of ps) k ⊎ (n ≡ k) = λ has. Contains-push_cases (numbers_of ps) n k (subst (λ (l : List ℕ). Contains l k) numbers has) in
      let before : Contains (numbers_of ps) k → Contains (numbers_of qs) k = λ has. subst (λ (l : List ℕ). Contains l k) (sym numbers) (Contains-append_left (numbers_of ps) (n ∷ []) k has) in
      let this : Contains (numbers_of qs) n = subst (λ (l : List ℕ). Contains l n) (sym numbers) (Contains-push (numbers_of ps) n) in (
        λ has. ⊎_elim (λ was_so. ⊎_elim inl (λ first. inr (before first)) ((was.tags k).0 was_so)) (λ same. inr (subst (Contains (numbers_of qs)) (sym same.1) this)) ((claims.tags role k).0 has),
        λ either. (claims.tags role k).1 (⊎_elim (λ old_so. inl ((was.tags k).1 (inl old_so)))
            (λ has. ⊎_elim (λ first. inl ((was.tags k).1 (inr first))) (λ same. inr (refl, sym same)) (among has)) either),
      );
  page_is = λ last is. grind (arith, common_steps, nat_tests, last_push);
}
  where
    numbers : numbers_of qs ≡ numbers_of ps ++ n ∷ []
    numbers = ap numbers_of parts ∙ numbers_push ps p ∙ ap (λ k. numbers_of ps ++ k ∷ []) number

-- one advance of the cursor, after its next page was entered
pub taken_on : (sizes : Sizes) (run : Component) (earlier : List ℕ) (role page n : ℕ) (first space now : SpaceState) (old new : CursorState) (given more : Entries) (file : List ℕ) → page_count sizes ≤ no_page
    → (g : HasGiven sizes run old given file) → (h : HasGiven sizes run new more file) → ArePagesTaken earlier role first g.pages page space → IsEntered old page role n space now
    → (old.behind ≡ [] → 0 < old.pages → old.pages ≡ new.pages + 1) → (old.behind ≢ [] → new.pages ≡ old.pages) → new.pages ≤ old.pages
    → ArePagesTaken earlier role first h.pages n now
taken_on sizes run earlier role page n first space now old new given more file few g h was (due none some is free claims) turns stays fewer =
    let turned = pages_turn sizes run old new given more file few g h (turns none some) in
    taken_turned earlier role page n first space now g.pages h.pages turned.page was turned.pages_are (turned.number_is ∙ sym is) free claims
taken_on sizes run earlier role page n first space now old new given more file few g h was (on none is same) turns stays fewer =
    subst (λ (l : List RunPage). ArePagesTaken earlier role first l n now) (sym (pages_stay sizes run old new given more file few g h (still old.behind old.pages new.pages none stays fewer)))
    (subst (λ k. ArePagesTaken earlier role first g.pages k now) (sym is) (subst (λ (s : SpaceState). ArePagesTaken earlier role first g.pages page s) (sym same) was))

-- ---- where the component is damaged

pub none_here : {sizes : Sizes} {run : Component} {cursor : CursorState} {given : Entries} {file : List ℕ} (g : HasGiven sizes run cursor given file) → cursor.behind ≡ [] → entries_of g.pages ≡ given
none_here {given = given} g none = g.entries_are ∙ ap (λ (l : Entries). given ++ l) (none_in_none g.here (sym none ∙ g.behind_is)) ∙ append-nil given

begins_at : (sizes : Sizes) (run : Component) (only : Bool) (earlier : List ℕ) (cursor : CursorState) (given : Entries) (n : ℕ) (file : List ℕ) → page_count sizes ≤ no_page
    → (g : HasGiven sizes run cursor given file) → cursor.behind ≡ [] → n ≡ cursor.next → n < page_count sizes → IsDistinct nat_eq (earlier ++ numbers_of g.pages) → AreAllowed only given
    → BeginsWith sizes run only earlier g.pages n file
begins_at sizes run only earlier cursor given n file few g none next inside apart allowed =
    let are = none_here g none in
    let end : g.end ≡ Some n = is_some g.end n (g.end_is ∙ sym next) (omega (arith, inside, few)) in
    record {
      first_is = ap (λ (e : Option ℕ). page_number (first_number g.pages e)) (sym end) ∙ g.first_is;
      chained = subst (λ (e : Option ℕ). AreChained sizes g.pages e file) end g.chained;
      rise = rise_front (entries_of g.pages) [] (subst AreRising (sym (append-nil (entries_of g.pages) ∙ g.entries_are)) g.rise);
      apart = apart;
      allowed = subst (λ (l : Entries). AreAllowed only l) (sym are) allowed;
      pages_few = omega (arith, g.pages_is);
    }

from_last : (head : Option (Key × Rec)) (given es : Entries) → AreRising (from_head head (given ++ es)) → AreRising (from_head (last_or head given) es)
from_last head [] es rise = rise
from_last None (g ∷ given) es rise = from_last (Some g) given es rise
from_last (Some h) (g ∷ given) es rise = from_last (Some g) given es (rise_back (h ∷ []) (g ∷ (given ++ es)) rise)

goes_at : (sizes : Sizes) (run : Component) (only : Bool) (cursor : CursorState) (given : Entries) (file : List ℕ) (next : Option ℕ) (es : Entries) → (g : HasGiven sizes run cursor given file) → cursor.behind ≡ []
    → 0 < cursor.pages → GoesOnWithin sizes run only g.pages cursor.next next es file → GoesOnAt sizes cursor next es file
goes_at sizes run only cursor given file next es g none more within =
    let go = within.goes_on in
    let are = none_here g none in
    let head : cursor.head ≡ last_or None given = ⊎_elim (λ is. is) (λ last. absurd (omega (arith, last, more))) g.head_is in
    let long = ap (λ (l : Entries). length l) are in
    let weighs = ap entries_weight are in
    record {
      inside = go.inside;
      valid = go.valid;
      goes_on = record {
        rise = subst (λ (h : Option (Key × Rec)). AreRising (from_head h es)) (sym head) (from_last None given es (subst (λ (l : Entries). AreRising (l ++ es)) are go.rise));
        numbers = record {
          follows = (
            λ some. inl (omega (arith, go.follows.0 some, g.pages_is)),
            ⊎_elim (λ lt. go.follows.1 (omega (arith, lt, g.pages_is))) (λ front. absurd (false≢true (sym g.front_is ∙ front))),
          );
          few = omega (arith, within.few, g.entries_is, long);
          light = omega (arith, within.light, g.weight_is, weighs);
          enough = λ some. omega (arith, within.enough some, g.pages_is, g.weight_is, weighs);
          all = λ last. let all = go.all (omega (arith, last, g.pages_is)) in (omega (arith, all.0, g.entries_is, long), omega (arith, all.1, g.weight_is, weighs));
        };
      };
    }

-- the page that is read next was entered
entered_inside : (cursor : CursorState) (page role n : ℕ) (old new : SpaceState) → IsEntered cursor page role n old new → cursor.behind ≡ [] → 0 < cursor.pages → cursor.next < old.pages
entered_inside cursor page role n old new h1 h2 h3 = grind (arith, common_steps, nat_tests)

-- it isn't valid, or doesn't go on
pub damage_at : (sizes : Sizes) (run : Component) (only : Bool) (earlier : List ℕ) (role : ℕ) (old : SpaceState) (cursor : CursorState) (page m n : ℕ) (space now : SpaceState) (file : List ℕ) → page_count sizes ≤ no_page
    → HasWalked sizes run only earlier role old cursor page space file → space.pages ≡ page_count sizes → IsEntered cursor page role m space now → IsDamageAt sizes cursor n file
    → IsStoppedAt sizes run only earlier n file
damage_at sizes run only earlier role old cursor page m n space now file few w count entered damage =
    let inside = entered_inside cursor page role m space now entered damage.none_left damage.more_pages in
    record {
      pages = w.has.pages;
      begins = begins_at sizes run only earlier cursor w.given n file few w.has damage.none_left damage.is_next (omega (arith, damage.is_next, inside, count)) w.taken.takes.apart w.allowed;
      more = omega (arith, w.has.pages_is, damage.more_pages);
      stopped = inr (λ next es go. damage.damaged next es
          (goes_at sizes run only cursor w.given file next es w.has damage.none_left damage.more_pages (subst (λ k. GoesOnWithin sizes run only w.has.pages k next es file) damage.is_next go)));
    }

-- what a list has that begins as another
allowed_short : (only : Bool) (es last given rest : Entries) → es ++ last ≡ given ++ rest → length es ≤ length given → AreAllowed only given → AreAllowed only es
allowed_short false es last given rest same short allowed = tt
allowed_short true [] last given rest same short allowed = tt
allowed_short true (e ∷ es) last [] rest same short allowed = absurd (omega (arith, short))
allowed_short true (e ∷ es) last (g ∷ given) rest same short allowed =
    let first : g ≡ e = cc in
    let back : es ++ last ≡ given ++ rest = cc in
    ((subst (λ (x : Key × Rec). AreAllowed true (x ∷ [])) first (allowed.0, tt)).0, allowed_short true es last given rest back (omega (arith, short)) allowed.1)

pub allowed_join : (only : Bool) (es fs : Entries) → AreAllowed only es → AreAllowed only fs → AreAllowed only (es ++ fs)
allowed_join false es fs one other = tt
allowed_join true [] fs one other = other
allowed_join true (e ∷ es) fs one other = (one.0, allowed_join true es fs one.1 other)

unsnoc : (l : List RunPage) → (l ≡ []) ⊎ ((ps : List RunPage) × (p : RunPage) × (l ≡ ps ++ p ∷ []))
unsnoc [] = inl refl
unsnoc (q ∷ l) =
    elim (unsnoc l) [
      | inl none ↦ inr ([], q, ap (λ (m : List RunPage). q ∷ m) none)
      | inr some ↦ inr (q ∷ some.0, some.1, ap (λ (m : List RunPage). q ∷ m) some.2)
    ]

-- the last of the pages that were read stops the walk, if it doesn't go on behind the others: these have entries that were given, which the component may have
last_stops : (sizes : Sizes) (run : Component) (only : Bool) (earlier : List ℕ) (role : ℕ) (old : SpaceState) (cursor : CursorState) (given front back : Entries) (page : ℕ) (space : SpaceState) (file : List ℕ)
    (ps : List RunPage) (p : RunPage) → page_count sizes ≤ no_page → (h : HasGiven sizes run cursor given file) → ArePagesTaken earlier role old h.pages page space → h.pages ≡ ps ++ p ∷ []
    → given ++ h.here ≡ front ++ back → length back ≤ length h.here + 1 → AreAllowed only front
    → ((next : Option ℕ) (es : Entries) → next ≡ h.end → AreAllowed only (front ++ back) → IsPageOf (page_count sizes) next es (page_at sizes page file) → GoesOnWithin sizes run only ps page next es file → ⊥)
    → IsStoppedAt sizes run only earlier page file
last_stops sizes run only earlier role old cursor given front back page space file ps p few h taken parts split short allowed not =
    let last : last_or None h.pages ≡ Some p = ap (last_or None) parts ∙ last_push None ps p in
    let number : p.number ≡ page = taken.page_is p last in
    let whole : entries_of ps ++ p.entries ≡ front ++ back =
    sym (entries_join ps (p ∷ []) ∙ ap (λ (l : Entries). entries_of ps ++ l) (append-nil p.entries)) ∙ ap entries_of (sym parts) ∙ h.entries_are ∙ split in
    let before : AreAllowed only (entries_of ps) = allowed_short only (entries_of ps) p.entries front back whole
    (omega (arith, short, h.on_last p last, length-append (entries_of ps) p.entries, ap (λ (l : Entries). length l) whole, length-append front back)) allowed in
    let chained = chain_split sizes ps (p ∷ []) h.end file (subst (λ (l : List RunPage). AreChained sizes l h.end file) parts h.chained) in
    let many : length h.pages ≡ length ps + 1 = omega (arith, ap (λ (l : List RunPage). length l) parts, length-append ps (p ∷ [])) in
    record {
      pages = ps;
      begins = record {
        first_is =
            ap (λ k. page_number (first_number ps (Some k))) (sym number)
            ∙ sym (ap (λ (l : List RunPage). page_number (first_number l h.end)) parts ∙ ap page_number (first_join ps (p ∷ []) h.end)) ∙ h.first_is;
        chained = subst (λ k. AreChained sizes ps (Some k) file) number chained.0;
        rise = rise_front (entries_of ps) p.entries (subst AreRising (sym (whole ∙ sym split)) h.rise);
        apart =
            distinct_front (earlier ++ numbers_of ps) (p.number ∷ [])
            (subst (λ (l : List ℕ). IsDistinct nat_eq l) (ap (λ (l : List ℕ). earlier ++ l) (ap numbers_of parts ∙ numbers_push ps p) ∙ sym (append_assoc earlier (numbers_of ps) (p.number ∷ []))) taken.takes.apart);
        allowed = before;
        pages_few = omega (arith, many, h.pages_is);
      };
      more = omega (arith, many, h.pages_is);
      stopped = inr (λ next es go.
          let there = subst (λ k. IsPageOf (page_count sizes) next es (page_at sizes k file)) (sym number) go.goes_on.valid in
          let same = page_same (page_count sizes) next h.end es p.entries (page_at sizes p.number file) few there chained.1.1 in
          let here : AreAllowed only p.entries = subst (λ (l : Entries). AreAllowed only l) same.1 go.goes_on.allowed in
          not next es same.0 (subst (λ (l : Entries). AreAllowed only l) whole (allowed_join only (entries_of ps) p.entries before here)) go.goes_on.valid go);
    }

pub some_pages : (sizes : Sizes) (run : Component) (new : CursorState) (given : Entries) (e : Key × Rec) (file : List ℕ) → (h : HasGiven sizes run new (given ++ e ∷ []) file) → h.pages ≡ [] → ⊥
some_pages sizes run new given e file h none = grind (arith, common_steps, nat_tests)

-- it has an entry that the component may not have
pub not_allowed : (sizes : Sizes) (run : Component) (only : Bool) (earlier : List ℕ) (role : ℕ) (old : SpaceState) (new : CursorState) (given : Entries) (e : Key × Rec) (page : ℕ) (space : SpaceState)
    (file : List ℕ) → page_count sizes ≤ no_page → (h : HasGiven sizes run new (given ++ e ∷ []) file) → ArePagesTaken earlier role old h.pages page space → AreAllowed only given
    → (AreAllowed only (e ∷ []) → ⊥) → IsStoppedAt sizes run only earlier page file
not_allowed sizes run only earlier role old new given e page space file few h taken allowed not =
    elim (unsnoc h.pages) [
      | inl none ↦ absurd (some_pages sizes run new given e file h none)
      | inr some ↦ last_stops sizes run only earlier role old new (given ++ e ∷ []) given ((e ∷ []) ++ h.here) page space file some.0 some.1 few h taken some.2 (append_assoc given (e ∷ []) h.here) (omega arith) allowed
          (λ next es next_is all valid go. not (allowed_front only (e ∷ []) h.here (allowed_back only given ((e ∷ []) ++ h.here) all)))
    ]

-- ---- a page that names none of the store

none_allowed : (only : Bool) → AreAllowed only []
none_allowed only = grind (arith, common_steps, nat_tests)

none_rise : AreRising []
unfolding IsStrictlySortedBy
none_rise = tt

-- the component's first page is past the store's last one
first_nowhere : (sizes : Sizes) (run : Component) (only : Bool) (earlier : List ℕ) (n : ℕ) (file : List ℕ) → IsDistinct nat_eq earlier → n ≡ run.first → page_count sizes ≤ n → 0 < run.pages
    → IsStoppedAt sizes run only earlier n file
first_nowhere sizes run only earlier n file apart first past some = record {
  pages = [];
  begins = record {
    first_is = first;
    chained = tt;
    rise = none_rise;
    apart = subst (λ (l : List ℕ). IsDistinct nat_eq l) (sym (append-nil earlier)) apart;
    allowed = none_allowed only;
    pages_few = omega arith;
  };
  more = some;
  stopped = inr (λ next es go. omega (arith, past, go.goes_on.inside));
}

none_named : (pages : ℕ) (next : Option ℕ) → IfSome next (λ n. n < pages) → pages ≤ page_number next → IsSome next → ⊥
none_named pages next h1 h2 h3 = grind (arith, common_steps, nat_tests)

-- the page that the walk is at isn't the component's last one
nowhere_on : (sizes : Sizes) (run : Component) (only : Bool) (earlier : List ℕ) (role : ℕ) (old : SpaceState) (cursor : CursorState) (page : ℕ) (space : SpaceState) (file : List ℕ) → page_count sizes ≤ no_page
    → HasWalked sizes run only earlier role old cursor page space file → 0 < cursor.pages → page_count sizes ≤ cursor.next → IsStoppedAt sizes run only earlier page file
nowhere_on sizes run only earlier role old cursor page space file few w some past =
    elim (unsnoc w.has.pages) [
      | inl none ↦
          first_nowhere sizes run only earlier page file (distinct_front earlier (numbers_of w.has.pages) w.taken.takes.apart) (w.at_first none)
          (omega (arith, w.at_first none, past, w.has.end_is, ap (λ (l : List RunPage). page_number (first_number l w.has.end)) none, w.has.first_is)) (omega (arith, w.has.pages_is, some))
      | inr more ↦ last_stops sizes run only earlier role old cursor w.given w.given w.has.here page space file more.0 more.1 few w.has w.taken more.2 refl (omega arith) w.allowed
          (λ next es next_is all valid go.
          none_named (page_count sizes) next valid.content.head.next_is (omega (arith, ap page_number next_is, w.has.end_is, past))
          (go.goes_on.follows.1 (omega (arith, w.has.pages_is, some, ap (λ (l : List RunPage). length l) more.2, length-append more.0 (more.1 ∷ [])))))
    ]

-- the page that is due was refused
pub refused_damage : (sizes : Sizes) (run : Component) (only : Bool) (earlier : List ℕ) (role : ℕ) (old : SpaceState) (cursor : CursorState) (page n : ℕ) (space : SpaceState) (file : List ℕ) → page_count sizes ≤ no_page
    → HasWalked sizes run only earlier role old cursor page space file → space.pages ≡ page_count sizes → IsRefused cursor page n space → IsStoppedAt sizes run only earlier n file
refused_damage sizes run only earlier role old cursor page n space file few w count (not_free none some next below not) = record {
  pages = w.has.pages;
  begins = begins_at sizes run only earlier cursor w.given n file few w.has none next (omega (arith, below, count)) w.taken.takes.apart w.allowed;
  more = omega (arith, w.has.pages_is, some);
  stopped = inl (⊎_elim (λ free. absurd (not free)) (λ has. has) (w.taken.takes.others n below));
}
refused_damage sizes run only earlier role old cursor page n space file few w count (nowhere none some is past) =
    subst (λ k. IsStoppedAt sizes run only earlier k file) (sym is) (nowhere_on sizes run only earlier role old cursor page space file few w some (omega (arith, past, count)))

-- ---- the end

pub walked_end : (sizes : Sizes) (run : Component) (only : Bool) (earlier : List ℕ) (role : ℕ) (old : SpaceState) (new : CursorState) (given : Entries) (page : ℕ) (space : SpaceState) (file : List ℕ)
    → page_count sizes ≤ no_page → HasList sizes run given file → (h : HasGiven sizes run new given file) → new.pages ≡ 0 → ArePagesTaken earlier role old h.pages page space → AreAllowed only given
    → IsWalked sizes run only earlier role old space file
walked_end sizes run only earlier role old new given page space file h1 h2 h h3 h4 h5 = grind (arith, common_steps, nat_tests, same_pages)

-- ---- on any disk

-- pages that were free have the tag now: as many as aren't left of all
pub record IsClaiming (role all left : ℕ) (old new : SpaceState) : Type 0 where
  pub pages : new.pages ≡ old.pages
  pub shape : IsSpace new
  pub pins : new.pins ≡ old.pins
  pub others : KeepsOtherRoles role old new
  pub fresh : (k : ℕ) → HasRole new role k → HasRole old role k ⊎ IsFree old k
  pub none_freed : (k : ℕ) → IsFree new k → IsFree old k
  pub size : role_size new role + left ≡ role_size old role + all

pub claiming_start : (role all : ℕ) (space : SpaceState) → IsSpace space → IsClaiming role all all space space
claiming_start role all space h1 = grind (arith, common_steps, nat_tests)

-- with one more
pub claiming_more : (role all left n : ℕ) (first old new : SpaceState) → IsClaiming role all (left + 1) first old → IsFree old n → Claims role n old new → IsClaiming role all left first new
claiming_more role all left n first old new was free claims = record {
  pages = claims.pages ∙ was.pages;
  shape = claims.shape;
  pins = claims.pins ∙ was.pins;
  others = λ other apart. claims.others other apart ∙ was.others other apart;
  fresh = λ k has. ⊎_elim (λ before. was.fresh k before) (λ this. inr (was.none_freed k (subst (IsFree old) (sym this.1) free))) ((claims.tags role k).0 has);
  none_freed = λ k now. was.none_freed k ((claims.free k).0 now).0;
  size = omega (arith, was.size, claims.size (free.no_role role));
}

-- one advance of the cursor, after its next page was entered
pub claiming_on : (role all page n : ℕ) (first space now : SpaceState) (old new : CursorState) → IsClaiming role all old.pages first space → IsEntered old page role n space now
    → (old.behind ≡ [] → 0 < old.pages → old.pages ≡ new.pages + 1) → (old.behind ≢ [] → new.pages ≡ old.pages) → new.pages ≤ old.pages → IsClaiming role all new.pages first now
claiming_on role all page n first space now old new was (due none some is free claims) turns stays fewer =
    claiming_more role all new.pages n first space now (subst (λ k. IsClaiming role all k first space) (turns none some) was) free claims
claiming_on role all page n first space now old new was (on none is same) turns stays fewer =
    subst (λ (s : SpaceState). IsClaiming role all new.pages first s) (sym same) (subst (λ k. IsClaiming role all k first space) (sym (still old.behind old.pages new.pages none stays fewer)) was)

-- whatever is left
pub changed_within : (role all left : ℕ) (old new : SpaceState) → IsClaiming role all left old new → ChangesOnly role old new
changed_within role all left old new was = record { pages = was.pages; pins = was.pins; others = was.others }

-- before the next one is read
pub changed_entered : (role all page n : ℕ) (first space now : SpaceState) (old : CursorState) → IsClaiming role all old.pages first space → IsEntered old page role n space now → ChangesOnly role first now
changed_entered role all page n first space now old h1 h2 = grind (arith, common_steps, nat_tests)

-- none is left
pub taken_all : (role all left : ℕ) (old new : SpaceState) → IsClaiming role all left old new → left ≡ 0 → TakesFree role all old new
taken_all role all left old new h1 h2 = grind (arith, common_steps, nat_tests)

-- ---- what the pages weigh, on any disk

-- each page that was read, but the component's last one, weighs least_full at least
pub record IsFilling (run : Component) (cursor : CursorState) : Type 0 where
  pub full : AreFull run cursor
  pub last : cursor.pages ≡ 0 → least_full * (run.pages - 1) ≤ run.weight

pub filling_start : (run : Component) (cursor : CursorState) → AreFull run cursor → cursor.pages ≡ run.pages → IsFilling run cursor
filling_start run cursor full all = record { full = full; last = λ none. subst (λ k. least_full * (k - 1) ≤ run.weight) (sym none ∙ all) (omega arith) }

-- once the last page is due, the others are full
pub filling_on : (run : Component) (page role n : ℕ) (space now : SpaceState) (old new : CursorState) → IsFilling run old → AreFull run new → IsEntered old page role n space now
    → (old.behind ≡ [] → 0 < old.pages → old.pages ≡ new.pages + 1) → (old.behind ≢ [] → new.pages ≡ old.pages) → new.pages ≤ old.pages → IsFilling run new
filling_on run page role n space now old new h1 h2 h3 h4 h5 h6 = grind (arith, common_steps, nat_tests)

pub filled_end : (run : Component) (cursor : CursorState) → (run.pages ≡ 0 → run ≡ empty_component) → IsFilling run cursor → cursor.pages ≡ 0 → IsFilled run
filled_end run cursor none was last = record { none = none; full = was.last last }

-- ---- answers

pub not_fault : (n : ℕ) → Damaged n ≡ Fault → ⊥
not_fault n same = cc

pub no_head : (head : Option (Key × Rec)) → ((e : Key × Rec) → head ≡ Some e → ⊥) → head ≡ None
no_head head h1 = grind (arith, common_steps, nat_tests)

-- one call for each page that isn't read yet
pub few_calls : (pages all old mid new : ℕ) → mid + pages ≤ old + all → new ≤ mid + 1 → (pages ≡ 0 → new ≡ mid) → new ≤ old + all
few_calls pages all old mid new so_far one none = grind (arith, common_steps, nat_tests)

pub record IsEnterRefused (cursor : CursorState) (page : ℕ) (old new : SpaceState) (broken : Broken) : Type 0 where
  pub number : ℕ
  pub broken_is : broken ≡ Damaged number
  pub same : new ≡ old
  pub refused : IsRefused cursor page number old

pub entered_err : (cursor : CursorState) (page role : ℕ) (old new : SpaceState) (broken : Broken) → Enters cursor page role old new (Err broken) → IsEnterRefused cursor page old new broken
entered_err cursor page role old new broken h1 = grind (arith, common_steps, nat_tests)

pub tells_broken : (sizes : Sizes) (run : Component) (only : Bool) (earlier : List ℕ) (role : ℕ) (old new : SpaceState) (file : List ℕ) (broken : Broken)
    → ((n : ℕ) → broken ≡ Damaged n → IsStoppedAt sizes run only earlier n file) → TellsStop sizes run only earlier role old new file (Err broken)
tells_broken sizes run only earlier role old new file broken h1 = grind (arith, common_steps, nat_tests)

-- at the end no page is left
pub ended_pages : (old cursor : CursorState) → cursor.head ≡ None → IfNone cursor.head ((old.weight ≡ 0) × (cursor.entries ≡ 0) × (cursor.weight ≡ 0) × (cursor.pages ≡ 0)) → cursor.pages ≡ 0
ended_pages old cursor none ended = grind (arith, common_steps, nat_tests)

pub walked_start : (sizes : Sizes) (run : Component) (only : Bool) (earlier : List ℕ) (role : ℕ) (space : SpaceState) (cursor : CursorState) (page : ℕ) (file : List ℕ) → HasGiven sizes run cursor [] file
    → cursor.pages ≡ run.pages → page ≡ run.first → TakesUp earlier space → HasWalked sizes run only earlier role space cursor page space file
walked_start sizes run only earlier role space cursor page file g all first takes = record {
  given = [];
  has = g;
  allowed = none_allowed only;
  at_first = λ none. first;
  taken = subst (λ (l : List RunPage). ArePagesTaken earlier role space l page space) (sym (nil_from_length g.pages (omega (arith, g.pages_is, all)))) (taken_start earlier role page space takes);
}
