-- Chains of pages from one first page, and where one is damaged.
use Rattle.std.proofs.Common.{◌≡◌, ◌↔◌, ℕ, ◌+◌, ◌*◌, ◌-◌, ◌<◌, ◌≤◌, List, [], ◌∷◌, ◌++◌, length, refl, ap, sym, subst, ◌∙◌, arith, inl, inr, ⊎_elim, Bool, true, false, Option, Some, None, append_assoc, length-append}
use Rattle.std.proofs.lemmas.Grind.{common_steps}
use Rattle.std.proofs.lemmas.Bool.Decides.{nat_tests}
use Rattle.std.specs.Prelude.{nat_eq, IsSome}
use Rattle.std.specs.List.{Contains, IsDistinct}
use Rattle.std.proofs.lemmas.List.{map-append, nil_from_length}
use Rattle.blsm_model.specs.declared.component.Component.{Component}
use Rattle.blsm_model.specs.Components.{no_page}
use Rattle.blsm_model.specs.Format.{least_full}
use Rattle.blsm_model.specs.Sizes.{Sizes}
use Rattle.blsm_model.specs.Geometry.{page_count}
use Rattle.record_delta.specs.Entries.{Entries, entries_weight}
use Rattle.page_file.specs.Entry.{AreRising}
use Rattle.page_file.specs.Page.{page_number}
use Rattle.page_file.specs.Component.{RunPage, ReadsAs, AreChained, entries_of, first_number, numbers_of}
use Rattle.page_file.proofs.ComponentLemmas.{chain_split, entries_join, weight_is_length, weight_join}
use Rattle.output_reading.proofs.PagesLemmas.{front_of_chain, rise_front}
use Rattle.output_reading.proofs.RightLemmas.{before_differs}
use Rattle.tree_reading.specs.Pages.{AreAllowed, GoesOnBehind, IsDamagedPage}
use Rattle.tree_reading.specs.Walk.{IsStoppedAt}

-- ---- parts of a list

pub allowed_front : (only : Bool) (es fs : Entries) → AreAllowed only (es ++ fs) → AreAllowed only es
allowed_front false es fs all = tt
allowed_front true [] fs all = tt
allowed_front true (e ∷ es) fs all = (all.0, allowed_front true es fs all.1)

pub allowed_back : (only : Bool) (es fs : Entries) → AreAllowed only (es ++ fs) → AreAllowed only fs
allowed_back false es fs all = tt
allowed_back true [] fs all = all
allowed_back true (e ∷ es) fs all = allowed_back true es fs all.1

-- ---- a page that is met once

pub single : (y x : ℕ) → Contains (y ∷ []) x → y ≡ x
single y x h1 = grind (arith, common_steps, nat_tests)

-- ---- a page that others are read behind

-- it goes on behind those before it, and isn't met earlier
goes_behind : (sizes : Sizes) (run : Component) (only : Bool) (earlier : List ℕ) (n : ℕ) (ps rest qs : List RunPage) (p : RunPage) (end : Option ℕ) (file : List ℕ) → qs ≡ ps ++ p ∷ rest → p.number ≡ n
    → AreChained sizes qs end file → AreRising (entries_of qs) → IsDistinct nat_eq (earlier ++ numbers_of qs) → AreAllowed only (entries_of qs) → IsSome (first_number rest end) ↔ (length ps + 1 < run.pages)
    → (length ps + 1 ≡ run.pages → (length (entries_of ps) + length p.entries ≡ run.entries) × (entries_weight (entries_of ps) + entries_weight p.entries ≡ run.weight))
    → (Contains (earlier ++ numbers_of ps) n → ⊥) × GoesOnBehind sizes run only ps n (first_number rest end) p.entries file
goes_behind sizes run only earlier n ps rest qs p end file parts number chained rise apart allowed follows all =
    let joined : entries_of qs ≡ entries_of ps ++ (p.entries ++ entries_of rest) = ap entries_of parts ∙ entries_join ps (p ∷ rest) in
    let here = (chain_split sizes ps (p ∷ rest) end file (subst (λ (l : List RunPage). AreChained sizes l end file) parts chained)).1 in
    subst (λ k. (Contains (earlier ++ numbers_of ps) k → ⊥) × GoesOnBehind sizes run only ps k (first_number rest end) p.entries file) number (
      before_differs (earlier ++ numbers_of ps) p.number (numbers_of rest)
          (subst (λ (l : List ℕ). IsDistinct nat_eq l)
          (ap (λ (l : List ℕ). earlier ++ l) (ap numbers_of parts ∙ map-append (λ (q : RunPage). q.number) ps (p ∷ rest)) ∙ sym (append_assoc earlier (numbers_of ps) (numbers_of (p ∷ rest)))) apart),
      record {
        inside = here.0;
        valid = here.1;
        rise = rise_front (entries_of ps ++ p.entries) (entries_of rest) (subst AreRising (joined ∙ sym (append_assoc (entries_of ps) p.entries (entries_of rest))) rise);
        follows = follows;
        all = all;
        allowed = allowed_front only p.entries (entries_of rest) (allowed_back only (entries_of ps) (p.entries ++ entries_of rest) (subst (λ (l : Entries). AreAllowed only l) joined allowed));
      },
    )

-- ---- a component that reads stops no walk, and has no damaged page

some_first : (ps : List RunPage) → IsSome (first_number ps None) → 0 < length ps
some_first ps h1 = grind (arith, common_steps, nat_tests)

first_some : (ps : List RunPage) → 0 < length ps → IsSome (first_number ps None)
first_some ps h1 = grind (arith, common_steps, nat_tests)

-- pages of a component fill all but the last of them
chained_full : (sizes : Sizes) (file : List ℕ) (ps : List RunPage) → AreChained sizes ps None file → least_full * (length ps - 1) ≤ entries_weight (entries_of ps)
chained_full sizes file [] chained = omega arith
chained_full sizes file (p ∷ []) chained = omega arith
chained_full sizes file (p ∷ q ∷ ps) chained =
    let full = chained.1.content.head.full refl in
    omega (arith, full, weight_is_length p.entries, weight_join p.entries (entries_of (q ∷ ps)), chained_full sizes file (q ∷ ps) chained.2)

pub no_stopped_page : (sizes : Sizes) (run : Component) (only : Bool) (earlier : List ℕ) (n : ℕ) (qs : List RunPage) (file : List ℕ) → page_count sizes ≤ no_page → ReadsAs sizes run qs file
    → IsDistinct nat_eq (earlier ++ numbers_of qs) → AreAllowed only (entries_of qs) → IsStoppedAt sizes run only earlier n file → ⊥
no_stopped_page sizes run only earlier n qs file few reads apart allowed d =
    elim (front_of_chain sizes d.pages qs (Some n) None file few d.begins.chained reads.chained (d.begins.first_is ∙ sym reads.first_is)) [
      | inl b ↦ behind b.rest b.parts b.on
      | inr b ↦ omega (arith, d.more, reads.pages_is, ap (λ (l : List RunPage). length l) b.parts, length-append qs b.rest)
    ]
  where
    behind : (rest : List RunPage) → qs ≡ d.pages ++ rest → page_number (first_number rest None) ≡ n → ⊥
    behind [] parts on = omega (arith, d.more, reads.pages_is, ap (λ (l : List RunPage). length l) parts, length-append {A = RunPage} d.pages [])
    behind (p ∷ rest) parts on =
        let joined : entries_of qs ≡ entries_of d.pages ++ (p.entries ++ entries_of rest) = ap entries_of parts ∙ entries_join d.pages (p ∷ rest) in
        let many : length qs ≡ length d.pages + (1 + length rest) = omega (arith, ap (λ (l : List RunPage). length l) parts, length-append d.pages (p ∷ rest)) in
        let back = (chain_split sizes d.pages (p ∷ rest) None file (subst (λ (l : List RunPage). AreChained sizes l None file) parts reads.chained)).1 in
        let counts : length (entries_of qs) ≡ length (entries_of d.pages) + (length p.entries + length (entries_of rest)) =
        ap (λ (l : Entries). length l) joined ∙ length-append (entries_of d.pages) (p.entries ++ entries_of rest) ∙ ap (λ k. length (entries_of d.pages) + k) (length-append p.entries (entries_of rest)) in
        let weighs : entries_weight (entries_of qs) ≡ entries_weight (entries_of d.pages) + (entries_weight p.entries + entries_weight (entries_of rest)) =
        ap entries_weight joined ∙ weight_join (entries_of d.pages) (p.entries ++ entries_of rest) ∙ ap (λ k. entries_weight (entries_of d.pages) + k) (weight_join p.entries (entries_of rest)) in
        let here = goes_behind sizes run only earlier n d.pages rest qs p None file parts on reads.chained reads.rise apart allowed
        (λ some. omega (arith, some_first rest some, many, reads.pages_is), λ lt. first_some rest (omega (arith, lt, many, reads.pages_is)))
        (λ last.
        let bare : rest ≡ [] = nil_from_length rest (omega (arith, last, many, reads.pages_is)) in
        (omega (arith, counts, reads.entries_is, ap (λ (l : List RunPage). length (entries_of l)) bare), omega (arith, weighs, reads.weight_is, ap (λ (l : List RunPage). entries_weight (entries_of l)) bare))) in
        ⊎_elim here.0 (λ none. none _ _ (record {
          goes_on = here.1;
          few = omega (arith, counts, reads.entries_is);
          light = omega (arith, weighs, reads.weight_is);
          enough = λ some. omega (arith, chained_full sizes file rest back.2, many, weighs, reads.pages_is, reads.weight_is);
        })) d.stopped

pub no_damaged_page : (sizes : Sizes) (run : Component) (only : Bool) (earlier : List ℕ) (n : ℕ) (qs : List RunPage) (file : List ℕ) → page_count sizes ≤ no_page → ReadsAs sizes run qs file
    → IsDistinct nat_eq (earlier ++ numbers_of qs) → AreAllowed only (entries_of qs) → IsDamagedPage sizes run only earlier n file → ⊥
no_damaged_page sizes run only earlier n qs file few reads apart allowed d =
    no_stopped_page sizes run only earlier n qs file few reads apart allowed
    (record { pages = d.pages; begins = d.begins; more = d.more; stopped = ⊎_elim (λ met. inl met) (λ none. inr (λ next es go. none next es go.goes_on)) d.damaged })

-- ---- no two pages are damaged

-- the one comes behind the pages that were read before the other
one_behind : (sizes : Sizes) (run : Component) (only : Bool) (earlier : List ℕ) (m n : ℕ) (file : List ℕ) (c : IsDamagedPage sizes run only earlier m file) (d : IsDamagedPage sizes run only earlier n file)
    (rest : List RunPage) → d.pages ≡ c.pages ++ rest → page_number (first_number rest (Some n)) ≡ m → n ≡ m
one_behind sizes run only earlier m n file c d [] parts on = on
one_behind sizes run only earlier m n file c d (p ∷ rest) parts on =
    let many : length d.pages ≡ length c.pages + (1 + length rest) = omega (arith, ap (λ (l : List RunPage). length l) parts, length-append c.pages (p ∷ rest)) in
    let here = goes_behind sizes run only earlier m c.pages rest d.pages p (Some n) file parts on d.begins.chained d.begins.rise d.begins.apart d.begins.allowed
    (λ some. omega (arith, many, d.more), λ lt. some_named rest) (λ last. absurd (omega (arith, last, many, d.more))) in
    absurd (⊎_elim here.0 (λ none. none _ _ here.1) c.damaged)
  where
    some_named : (ps : List RunPage) → IsSome (first_number ps (Some n))
    some_named ps = grind (arith, common_steps, nat_tests)

pub one_damaged_page : (sizes : Sizes) (run : Component) (only : Bool) (earlier : List ℕ) (m n : ℕ) (file : List ℕ) → page_count sizes ≤ no_page → IsDamagedPage sizes run only earlier m file
    → IsDamagedPage sizes run only earlier n file → m ≡ n
one_damaged_page sizes run only earlier m n file few c d =
    elim (front_of_chain sizes c.pages d.pages (Some m) (Some n) file few c.begins.chained d.begins.chained (c.begins.first_is ∙ sym d.begins.first_is)) [
      | inl b ↦ sym (one_behind sizes run only earlier m n file c d b.rest b.parts b.on)
      | inr b ↦ one_behind sizes run only earlier n m file d c b.rest b.parts b.on
    ]
