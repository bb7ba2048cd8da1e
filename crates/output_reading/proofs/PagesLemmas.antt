-- Chains of pages from one first page, and pages that are taken up one after the other.
use Rattle.std.proofs.Common.{
  ◌≡◌,
  ◌⊎◌,
  ◌≢◌,
  ℕ,
  ◌+◌,
  ◌*◌,
  ◌<◌,
  ◌≤◌,
  List,
  [],
  ◌∷◌,
  ◌++◌,
  length,
  refl,
  ap,
  sym,
  subst,
  ◌∙◌,
  arith,
  inl,
  inr,
  ⊎_elim,
  false,
  Option,
  Some,
  append-nil,
  length-append,
}
use Rattle.std.proofs.lemmas.Grind.{common_steps}
use Rattle.std.proofs.lemmas.Bool.Decides.{nat_tests}
use Rattle.std.specs.Prelude.{nat_eq}
use Rattle.std.specs.List.{AllByRecursion, Contains, IsDistinct, last_or, list_any}
use Rattle.std.specs.declared.cmp.Ordering.TheVariants.{Less}
use Rattle.std.specs.List.Sorted.{IsStrictlySortedBy}
use Rattle.std.proofs.lemmas.Cmp.{nat_eq_equiv}
use Rattle.std.proofs.lemmas.List.{map-append, nil_from_length}
use Rattle.std.proofs.lemmas.List.Elements.{Contains-append_left, Contains-append_right, Contains-push, Contains-push_cases}
use Rattle.std.proofs.lemmas.Map.Keys.{IsDistinct-push}
use Rattle.blsm_model.specs.declared.component.Component.{Component}
use Rattle.blsm_model.specs.declared.key.Key.{Key}
use Rattle.blsm_model.specs.Components.{no_page}
use Rattle.blsm_model.specs.Keys.{key_cmp}
use Rattle.blsm_model.specs.Sizes.{Sizes}
use Rattle.blsm_model.specs.Geometry.{page_count}
use Rattle.record_delta.specs.Entries.{Entries, entries_weight}
use Rattle.page_file.specs.Entry.{AreRising, keys_of}
use Rattle.page_file.specs.Page.{most_used, page_number, IsPageOf}
use Rattle.page_file.specs.File.{page_at}
use Rattle.page_file.specs.Component.{RunPage, AreChained, entries_of, first_number, numbers_of}
use Rattle.page_file.proofs.ComponentLemmas.{chain_split, weight_is_length, weight_join}
use Rattle.page_file.proofs.EntryLemmas.{few_entries}
use Rattle.page_file.proofs.PageLemmas.{page_same}
use Rattle.page_space.specs.Space.{Claims, IsFree, SpaceState}
use Rattle.run_cursor.specs.Cursor.{CursorState}
use Rattle.run_cursor.specs.Given.{HasGiven}
use Rattle.output_reading.specs.Walk.{TakesUp}

-- ---- two chains from one first page

-- the one goes on where the other ends
pub record ComesBehind (ps : List RunPage) (end : Option ℕ) (qs : List RunPage) (other : Option ℕ) : Type 0 where
  pub rest : List RunPage
  pub parts : qs ≡ ps ++ rest
  pub on : page_number (first_number rest other) ≡ page_number end

pub front_of_chain : (sizes : Sizes) (ps qs : List RunPage) (end other : Option ℕ) (file : List ℕ) → page_count sizes ≤ no_page → AreChained sizes ps
    end file → AreChained sizes qs other file
    → page_number (first_number ps end) ≡ page_number (first_number qs other) → ComesBehind ps end qs other ⊎ ComesBehind qs other ps end
front_of_chain sizes [] qs end other file few c d first = inl (record { rest = qs; parts = refl; on = sym first })
front_of_chain sizes (p ∷ ps) [] end other file few c d first = inr (record { rest = p ∷ ps; parts = refl; on = first })
front_of_chain sizes (p ∷ ps) (q ∷ qs) end other file few c d first =
    let there = subst (λ (n : ℕ). IsPageOf (page_count sizes) (first_number qs other) q.entries (page_at sizes n file)) (sym first) d.1 in
    let here = page_same (page_count sizes) (first_number ps end) (first_number qs other) p.entries q.entries (page_at sizes p.number file) few c.1
    there in
    let same : p ≡ q = λ i. record { number = first i; entries = here.1 i } in
    elim (front_of_chain sizes ps qs end other file few c.2 d.2 (ap page_number here.0)) [
      | inl more ↦ inl (record { rest = more.rest; parts = (λ i. sym same i ∷ more.parts i); on = more.on })
      | inr more ↦ inr (record { rest = more.rest; parts = (λ i. same i ∷ more.parts i); on = more.on })
    ]

-- and they are the same, where they are as long
pub same_pages : (sizes : Sizes) (ps qs : List RunPage) (end other : Option ℕ) (file : List ℕ) → page_count sizes ≤ no_page → AreChained sizes ps end
    file → AreChained sizes qs other file
    → page_number (first_number ps end) ≡ page_number (first_number qs other) → length ps ≡ length qs → ps ≡ qs
same_pages sizes ps qs end other file few c d first long =
    elim (front_of_chain sizes ps qs end other file few c d first) [
      | inl b ↦ sym (b.parts ∙ none_behind ps b.rest (ap (λ (l : List RunPage). length l) (sym b.parts) ∙ sym long))
      | inr b ↦ b.parts ∙ none_behind qs b.rest (ap (λ (l : List RunPage). length l) (sym b.parts) ∙ long)
    ]
  where
    none_behind : (xs rest : List RunPage) → length (xs ++ rest) ≡ length xs → xs ++ rest ≡ xs
    none_behind xs rest is = ap (λ (l : List RunPage). xs ++ l) (nil_from_length rest (omega (arith, is, length-append xs rest))) ∙ append-nil xs

pub is_some : (end : Option ℕ) (n : ℕ) → page_number end ≡ n → n < no_page → end ≡ Some n
is_some end n h1 h2 = grind (arith, common_steps, nat_tests)

-- the last of them names one page
pub one_end : (sizes : Sizes) (ps : List RunPage) (p : RunPage) (end other : Option ℕ) (file : List ℕ) → page_count sizes ≤ no_page → AreChained
    sizes (ps ++ p ∷ []) end file
    → AreChained sizes (ps ++ p ∷ []) other file → end ≡ other
one_end sizes ps p end other file few c d =
    (page_same (page_count sizes) end other p.entries p.entries (page_at sizes p.number file) few (chain_split sizes ps (p ∷ []) end file c).1.1
    (chain_split sizes ps (p ∷ []) other file d).1.1).0

-- ---- parts of a list

pub rise_front : (es fs : Entries) → AreRising (es ++ fs) → AreRising es
unfolding IsStrictlySortedBy
rise_front [] fs rise = tt
rise_front (e ∷ es) fs rise = (front es rise.0, rise_front es fs rise.1)
  where
    front : (xs : Entries) → AllByRecursion (λ (k : Key). key_cmp e.0 k ≡ Less) (keys_of (xs ++ fs)) → AllByRecursion
        (λ (k : Key). key_cmp e.0 k ≡ Less) (keys_of xs)
    front [] all = tt
    front (x ∷ xs) all = (all.0, front xs all.1)

pub distinct_front : (xs ys : List ℕ) → IsDistinct nat_eq (xs ++ ys) → IsDistinct nat_eq xs
unfolding IsDistinct
distinct_front [] ys apart = tt
distinct_front (x ∷ xs) ys apart = (front xs apart.0, distinct_front xs ys apart.1)
  where
    front : (zs : List ℕ) → AllByRecursion (λ (z : ℕ). nat_eq x z ≡ false) (zs ++ ys) → AllByRecursion (λ (z : ℕ). nat_eq x z ≡ false) zs
    front [] all = tt
    front (z ∷ zs) all = (all.0, front zs all.1)

pub distinct_back : (xs ys : List ℕ) → IsDistinct nat_eq (xs ++ ys) → IsDistinct nat_eq ys
unfolding IsDistinct
distinct_back [] ys apart = apart
distinct_back (x ∷ xs) ys apart = distinct_back xs ys apart.1

pub last_push : (o : Option RunPage) (ps : List RunPage) (p : RunPage) → last_or o (ps ++ p ∷ []) ≡ Some p
last_push o [] p = refl
last_push o (q ∷ ps) p = last_push (Some q) ps p

pub numbers_push : (ps : List RunPage) (p : RunPage) → numbers_of (ps ++ p ∷ []) ≡ numbers_of ps ++ p.number ∷ []
numbers_push ps p = map-append (λ (q : RunPage). q.number) ps (p ∷ [])

pub unsnoc : (l : List RunPage) → (l ≡ []) ⊎ ((ps : List RunPage) × (p : RunPage) × (l ≡ ps ++ p ∷ []))
unsnoc [] = inl refl
unsnoc (q ∷ l) =
    elim (unsnoc l) [
      | inl none ↦ inr ([], q, ap (λ (m : List RunPage). q ∷ m) none)
      | inr some ↦ inr (q ∷ some.0, some.1, ap (λ (m : List RunPage). q ∷ m) some.2)
    ]

-- ---- what is taken up

-- a number and one that isn't it
pub same_or_not : (a b : ℕ) → (a ≡ b) ⊎ (a ≢ b)
same_or_not a b = grind (arith, common_steps, nat_tests)

pub distinct_push : (xs : List ℕ) (y : ℕ) → IsDistinct nat_eq xs → (Contains xs y → ⊥) → IsDistinct nat_eq (xs ++ y ∷ [])
distinct_push xs y apart not = IsDistinct-push nat_eq_equiv xs y apart (not_any xs not)
  where
    not_any : (zs : List ℕ) → (Contains zs y → ⊥) → list_any (nat_eq y) zs ≡ false
    not_any [] none = refl
    not_any (z ∷ zs) none = grind (arith, common_steps, nat_tests, not_any zs (λ has. none (Contains-append_right (z ∷ []) zs y has)))

pub takes_push : (numbers : List ℕ) (role n : ℕ) (old new : SpaceState) → TakesUp numbers old → IsFree old n → Claims role n old new → TakesUp
    (numbers ++ n ∷ []) new
takes_push numbers role n old new takes free claims = record {
  apart = distinct_push numbers n takes.apart (λ has. takes.each n has free);
  each = λ k has now. grind (arith, common_steps, nat_tests, Contains-push_cases numbers n k has, takes.each k, claims.free k);
  others = λ k below.
      elim (same_or_not k n) [
        | inl same ↦ inr (subst (Contains (numbers ++ n ∷ [])) (sym same) (Contains-push numbers n))
        | inr other ↦
            ⊎_elim (λ before. inl ((claims.free k).1 (before, other))) (λ has. inr (Contains-append_left numbers (n ∷ []) k has))
            (takes.others k (subst (λ m. k < m) claims.pages below))
      ];
}

-- ---- the pages that a cursor has read

-- none of them is empty, so the one that has the head is the last
pub pages_stay : (sizes : Sizes) (run : Component) (old new : CursorState) (given more : Entries) (file : List ℕ) → page_count sizes ≤ no_page
    → (g : HasGiven sizes run old given file) → (h : HasGiven sizes run new more file) → new.pages ≡ old.pages → h.pages ≡ g.pages
pages_stay sizes run old new given more file h1 g h h2 = grind (arith, common_steps, nat_tests, same_pages)

-- where a page less is left, the next one was read
pub record HasTurned (old : CursorState) (before after : List RunPage) : Type 0 where
  pub page : RunPage
  pub pages_are : after ≡ before ++ page ∷ []
  pub number_is : page.number ≡ old.next

pub pages_turn : (sizes : Sizes) (run : Component) (old new : CursorState) (given more : Entries) (file : List ℕ) → page_count sizes ≤ no_page
    → (g : HasGiven sizes run old given file) → (h : HasGiven sizes run new more file) → old.pages ≡ new.pages + 1 → HasTurned old g.pages h.pages
pages_turn sizes run old new given more file few g h less =
    elim (front_of_chain sizes g.pages h.pages g.end h.end file few g.chained h.chained (g.first_is ∙ sym h.first_is)) [
      | inl b ↦ one b.rest b.parts b.on
      | inr b ↦ absurd (omega (arith, g.pages_is, h.pages_is, less, ap (λ (l : List RunPage). length l) b.parts, length-append h.pages b.rest))
    ]
  where
    one : (rest : List RunPage) → h.pages ≡ g.pages ++ rest → page_number (first_number rest h.end) ≡ page_number g.end → HasTurned old g.pages
        h.pages
    one [] parts first = absurd (omega (
      arith,
      g.pages_is,
      h.pages_is,
      less,
      ap (λ (l : List RunPage). length l) parts,
      length-append {A = RunPage}
          g.pages [],
    ))
    one (p ∷ []) parts first = record { page = p; pages_are = parts; number_is = first ∙ g.end_is }
    one (p ∷ q ∷ rest) parts first = absurd (omega (
      arith,
      g.pages_is,
      h.pages_is,
      less,
      ap (λ (l : List RunPage). length l) parts,
      length-append
          g.pages (p ∷ q ∷ rest),
    ))

-- ---- how much pages can hold

pub record HoldLittle (entries : Entries) (pages : ℕ) : Type 0 where
  pub few : length entries ≤ most_used * pages
  pub light : entries_weight entries ≤ most_used * pages

pub page_holds : (pages : ℕ) (next : Option ℕ) (es : Entries) (bytes : List ℕ) → IsPageOf pages next es bytes → HoldLittle es 1
page_holds pages next es bytes h1 = grind (arith, common_steps, nat_tests, few_entries, weight_is_length)

pub chain_holds : (sizes : Sizes) (ps : List RunPage) (end : Option ℕ) (file : List ℕ) → AreChained sizes ps end file → HoldLittle (entries_of ps)
    (length ps)
chain_holds sizes [] end file chained = record { few = omega arith; light = omega arith }
chain_holds sizes (p ∷ ps) end file chained =
    let one = page_holds (page_count sizes) (first_number ps end) p.entries _ chained.1 in
    let more = chain_holds sizes ps end file chained.2 in
    grind (arith, common_steps, nat_tests, length-append p.entries (entries_of ps), weight_join p.entries (entries_of ps))

pub still : (behind : List ℕ) (old new : ℕ) → (behind ≡ [] → old ≡ 0) → (behind ≢ [] → new ≡ old) → new ≤ old → new ≡ old
still behind old new h1 h2 h3 = grind (arith, common_steps, nat_tests)
