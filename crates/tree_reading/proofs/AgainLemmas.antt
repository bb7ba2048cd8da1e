-- A second walk over a component that didn't read: its pages' entries and weight are below all bounds, so it stops at the first damaged page.
use Rattle.std.proofs.Common.{◌≡◌, ◌⊎◌, ℕ, zero, ◌+◌, ◌^◌, ◌<◌, ◌≤◌, List, [], ◌∷◌, ◌++◌, length, ap, sym, subst, ◌∙◌, arith, inl, inr, ⊎_elim, Bool, Option, Some, None, Result, Ok, Err, append-nil, append_assoc, length-append}
use Rattle.std.proofs.lemmas.Grind.{common_steps}
use Rattle.std.proofs.lemmas.Bool.Decides.{nat_tests}
use Rattle.std.specs.Prelude.{nat_eq, IsSome, IsErr, IfErr}
use Rattle.std.specs.List.{Contains, IsDistinct}
use Rattle.std.proofs.lemmas.Bool.{cases_lt}
use Rattle.std.proofs.lemmas.List.Elements.{Contains-append_left, Contains-append_right, Contains-append_cases}
use Rattle.blsm_model.specs.declared.component.Component.{Component}
use Rattle.blsm_model.specs.Components.{no_page}
use Rattle.blsm_model.specs.Sizes.{Sizes}
use Rattle.blsm_model.specs.Geometry.{page_count}
use Rattle.record_delta.specs.Entries.{Entries, entries_weight}
use Rattle.page_file.specs.declared.file.Broken.{Broken}
use Rattle.page_file.specs.declared.file.Broken.TheVariants.{Fault, Damaged}
use Rattle.page_file.specs.Page.{page_number, IsPageOf}
use Rattle.page_file.specs.Entry.{AreRising}
use Rattle.page_file.specs.File.{page_at}
use Rattle.page_file.specs.Component.{RunPage, ReadsAs, AreChained, entries_of, numbers_of}
use Rattle.page_file.proofs.ComponentLemmas.{chain_join, entries_join, first_join, weight_join}
use Rattle.page_space.specs.Space.{SpaceState}
use Rattle.tree_reading.specs.Pages.{AreAllowed, BeginsWith, GoesOnBehind, IsDamagedPage}
use Rattle.tree_reading.specs.Walk.{GoesOnWithin, IsStoppedAt, TellsBroken, TellsPages, TellsStop}
use Rattle.output_reading.proofs.PagesLemmas.{chain_holds, distinct_back, distinct_push, numbers_push, page_holds, same_or_not}
use Rattle.tree_reading.proofs.PagesLemmas.{no_stopped_page, single}
use Rattle.tree_reading.proofs.WalkLemmas.{allowed_join}
use Rattle.tree_reading.proofs.Terms.{unbounded}

-- ---- a page that goes on

-- behind pages of which it isn't the last one, it goes on whatever the component's entries and weight are
goes_on_within : (sizes : Sizes) (run : Component) (only : Bool) (pages : List RunPage) (end : Option ℕ) (n : ℕ) (next : Option ℕ) (es : Entries) (file : List ℕ) → run.pages < 2 ^ 32 → AreChained sizes pages end file
    → length pages + 1 < run.pages → GoesOnBehind sizes run only pages n next es file → GoesOnWithin sizes (unbounded run) only pages n next es file
goes_on_within sizes run only pages end n next es file small chained more go =
    let before = chain_holds sizes pages end file chained in
    let this = page_holds (page_count sizes) next es _ go.valid in
    grind (arith, common_steps, nat_tests)

none_next : (next : Option ℕ) → (IsSome next → ⊥) → next ≡ None
none_next next h1 = grind (arith, common_steps, nat_tests)

-- as the last one, it makes the component read
pub record ReadsWhole (sizes : Sizes) (run : Component) (only : Bool) (earlier : List ℕ) (file : List ℕ) : Type 0 where
  pub pages : List RunPage
  pub reads : ReadsAs sizes run pages file
  pub apart : IsDistinct nat_eq (earlier ++ numbers_of pages)
  pub allowed : AreAllowed only (entries_of pages)

reads_whole : (sizes : Sizes) (run : Component) (only : Bool) (earlier : List ℕ) (pages : List RunPage) (n : ℕ) (next : Option ℕ) (es : Entries) (file : List ℕ)
    → BeginsWith sizes run only earlier pages n file → (Contains (earlier ++ numbers_of pages) n → ⊥) → length pages + 1 ≡ run.pages → GoesOnBehind sizes run only pages n next es file
    → ReadsWhole sizes run only earlier file
reads_whole sizes run only earlier pages n next es file b not last go = record {
  pages = pages ++ p ∷ [];
  reads = record {
    first_is = ap page_number (first_join pages (p ∷ []) None) ∙ b.first_is;
    chained = chain_join sizes pages (p ∷ []) None file b.chained (go.inside, valid, tt);
    rise = subst AreRising (sym joined) go.rise;
    apart = distinct_back earlier (numbers_of (pages ++ p ∷ [])) apart;
    pages_is = length-append pages (p ∷ []) ∙ last;
    entries_is = ap (λ (l : Entries). length l) joined ∙ length-append (entries_of pages) es ∙ (go.all last).0;
    weight_is = ap entries_weight joined ∙ weight_join (entries_of pages) es ∙ (go.all last).1;
  };
  apart = apart;
  allowed = subst (λ (l : Entries). AreAllowed only l) (sym joined) (allowed_join only (entries_of pages) es b.allowed go.allowed);
}
  where
    p : RunPage
    p = record { number = n; entries = es }

    valid : IsPageOf (page_count sizes) None es (page_at sizes n file)
    valid = subst (λ (o : Option ℕ). IsPageOf (page_count sizes) o es (page_at sizes n file)) (none_next next (λ some. omega (arith, go.follows.0 some, last))) go.valid

    joined : entries_of (pages ++ p ∷ []) ≡ entries_of pages ++ es
    joined = entries_join pages (p ∷ []) ∙ ap (λ (l : Entries). entries_of pages ++ l) (append-nil es)

    apart : IsDistinct nat_eq (earlier ++ numbers_of (pages ++ p ∷ []))
    apart = grind (arith, common_steps, nat_tests, append_assoc, numbers_push, p, distinct_push)

-- ---- where the walks stop

is_among : (xs : List ℕ) (n : ℕ) → Contains xs n ⊎ (Contains xs n → ⊥)
is_among [] n = inr (λ has. omega (arith, has.1))
is_among (x ∷ xs) n =
    ⊎_elim
    (λ same. inl (Contains-append_left (x ∷ []) xs n (zero, omega arith, same)))
    (λ other. ⊎_elim
    (λ has. inl (Contains-append_right (x ∷ []) xs n has))
    (λ not. inr (λ has. ⊎_elim (λ one. other (single x n one)) not (Contains-append_cases (x ∷ []) xs n has)))
    (is_among xs n))
    (same_or_not x n)

-- where the component doesn't read, a walk over it without bounds stops at its first damaged page
stop_is_damage : (sizes : Sizes) (run : Component) (only : Bool) (earlier : List ℕ) (named n : ℕ) (file : List ℕ) → page_count sizes ≤ no_page → run.pages < 2 ^ 32
    → IsStoppedAt sizes run only earlier named file → IsStoppedAt sizes (unbounded run) only earlier n file → IsDamagedPage sizes run only earlier n file
stop_is_damage sizes run only earlier named n file few small first d = record {
  pages = d.pages;
  begins = begins;
  more = d.more;
  damaged = elim (is_among (earlier ++ numbers_of d.pages) n) [
    | inl met ↦ inl met
    | inr not ↦ inr (λ next es go. goes next es not go)
  ];
}
  where
    begins : BeginsWith sizes run only earlier d.pages n file
    begins = grind (arith, common_steps, nat_tests)

    goes : (next : Option ℕ) (es : Entries) → (Contains (earlier ++ numbers_of d.pages) n → ⊥) → GoesOnBehind sizes run only d.pages n next es file → ⊥
    goes next es not go =
        elim (cases_lt (length d.pages + 1) run.pages) [
          | inl more ↦ ⊎_elim not (λ none. none next es (goes_on_within sizes run only d.pages (Some n) n next es file small d.begins.chained more go)) d.stopped
          | inr past ↦
              let whole = reads_whole sizes run only earlier d.pages n next es file begins not (omega (arith, past, d.more)) go in
              no_stopped_page sizes run only earlier named whole.pages file few whole.reads whole.apart whole.allowed first
        ]

-- it doesn't come to an end
no_end : (sizes : Sizes) (run : Component) (pages : List RunPage) (file : List ℕ) → run.pages < 2 ^ 32 → ReadsAs sizes (unbounded run) pages file → ⊥
no_end sizes run pages file small reads = let all = chain_holds sizes pages None file reads.chained in omega (arith, all.few, reads.pages_is, reads.entries_is, small)

-- so it says which page is damaged
pub again_tells : (sizes : Sizes) (run : Component) (only : Bool) (earlier : List ℕ) (role named : ℕ) (old new : SpaceState) (file : List ℕ) (broken : Broken) → page_count sizes ≤ no_page → run.pages < 2 ^ 32
    → IsStoppedAt sizes run only earlier named file → TellsStop sizes (unbounded run) only earlier role old new file (Err broken) → TellsBroken sizes run only earlier file broken
again_tells sizes run only earlier role named old new file Fault few small first tells = tt
again_tells sizes run only earlier role named old new file (Damaged n) few small first tells = stop_is_damage sizes run only earlier named n file few small first tells

pub again_ends : (sizes : Sizes) (run : Component) (only : Bool) (earlier : List ℕ) (role named : ℕ) (old new : SpaceState) (file : List ℕ) → run.pages < 2 ^ 32
    → TellsStop sizes (unbounded run) only earlier role old new file (Ok tt) → ⊥
again_ends sizes run only earlier role named old new file small walked = no_end sizes run walked.pages file small walked.reads

-- a refusal's word is the answer's
pub refused_tells : (sizes : Sizes) (run : Component) (only : Bool) (earlier : List ℕ) (role : ℕ) (old new : SpaceState) (bytes file : List ℕ) (r : Result (Unit {0}) Broken) → bytes ≡ file → IsErr r
    → IfErr r (λ broken. TellsBroken sizes run only earlier bytes broken) → TellsPages sizes run only earlier role old new file r
refused_tells sizes run only earlier role old new bytes file r h1 h2 h3 = grind (arith, common_steps, nat_tests)
