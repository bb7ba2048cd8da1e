-- Components: the pages of one are of one list at most, stay where others are written, and are apart where their keys rise.
use Rattle.std.proofs.lemmas.Bool.Decides.{nat_tests}
use Rattle.std.proofs.lemmas.Grind.{common_steps}
use Rattle.std.proofs.Common.{◌≡◌, false, ℕ, ◌+◌, ◌≤◌, List, [], ◌∷◌, ◌++◌, length, Option, None, refl, ap, sym, subst, ◌∙◌, append_assoc, length-append, arith}
use Rattle.record_delta.specs.declared.record.Rec.{Rec}
use Rattle.record_delta.specs.Entries.{Entries, entries_weight}
use Rattle.std.specs.List.{AllByRecursion, IsDistinct}
use Rattle.std.specs.List.Sorted.{IsStrictlySortedBy}
use Rattle.std.specs.Prelude.{nat_eq}
use Rattle.std.specs.declared.cmp.Ordering.TheVariants.{Less}
use Rattle.std.proofs.lemmas.Bool.{ne_eqb}
use Rattle.std.proofs.lemmas.Cmp.{nat_list_cmp_total}
use Rattle.std.proofs.lemmas.List.Sums.{sum_by-cons, sum_by-append}
use Rattle.std.proofs.lemmas.List.Elements.{Contains-append_left, Contains-append_right}
use Rattle.blsm_model.specs.declared.component.Component.{Component}
use Rattle.blsm_model.specs.declared.key.Key.{Key}
use Rattle.blsm_model.specs.Keys.{key_cmp}
use Rattle.blsm_model.specs.Sizes.{Sizes}
use Rattle.blsm_model.specs.Geometry.{page_count}
use Rattle.page_file.specs.Entry.{entries_bytes, keys_of, AreRising}
use Rattle.blsm_model.specs.Components.{no_page}
use Rattle.page_file.specs.Page.{page_number, IsPageOf}
use Rattle.page_file.specs.File.{page_at, AreSamePages}
use Rattle.page_file.specs.Component.{RunPage, numbers_of, entries_of, first_number, AreChained, ReadsAs, ReadsOn, HasList}
use Rattle.record_delta.specs.Records.{weight}
use Rattle.entry_codec.proofs.SpellingLemmas.{length-spelling}
use Rattle.page_file.proofs.PageLemmas.{page_same, number_same, IsNumber}

-- ---- one list at most

same_chain : (sizes : Sizes) (ps qs : List RunPage) (file : List ℕ) → page_count sizes ≤ no_page → AreChained sizes ps None file → AreChained sizes qs None file
    → first_number ps None ≡ first_number qs None → ps ≡ qs
same_chain sizes [] [] file few c d first = refl
same_chain sizes [] (q ∷ qs) file few c d first = absurd (cc)
same_chain sizes (p ∷ ps) [] file few c d first = absurd (cc)
same_chain sizes (p ∷ ps) (q ∷ qs) file few c d first =
    let number : p.number ≡ q.number = cc in
    let other = subst (λ (n : ℕ). IsPageOf (page_count sizes) (first_number qs None) q.entries (page_at sizes n file)) (sym number) d.1 in
    let here = page_same (page_count sizes) (first_number ps None) (first_number qs None) p.entries q.entries (page_at sizes p.number file) few c.1 other in
    let more = same_chain sizes ps qs file few c.2 d.2 here.0 in
    λ i. record { number = number i; entries = here.1 i } ∷ more i

-- a chain's first page has a page's number
first_fits : (sizes : Sizes) (ps : List RunPage) (file : List ℕ) → page_count sizes ≤ no_page → AreChained sizes ps None file → IsNumber (first_number ps None)
first_fits sizes ps file h1 h2 = grind (arith, common_steps, nat_tests)

pub one_chain : (sizes : Sizes) (ps qs : List RunPage) (file : List ℕ) → page_count sizes ≤ no_page → AreChained sizes ps None file → AreChained sizes qs None file
    → page_number (first_number ps None) ≡ page_number (first_number qs None) → ps ≡ qs
one_chain sizes ps qs file few c d first =
    same_chain sizes ps qs file few c d (number_same (first_number ps None) (first_number qs None) (first_fits sizes ps file few c) (first_fits sizes qs file few d) first)

pub one_component : (sizes : Sizes) (component : Component) (ps qs : List RunPage) (file : List ℕ) → page_count sizes ≤ no_page
    → ReadsAs sizes component ps file → ReadsAs sizes component qs file → ps ≡ qs
one_component sizes component ps qs file few c d = one_chain sizes ps qs file few c.chained d.chained (c.first_is ∙ sym d.first_is)

-- ---- where the pages read as before

pub chain_kept : (sizes : Sizes) (pages : List RunPage) (end : Option ℕ) (old new : List ℕ) → AreSamePages sizes (numbers_of pages) old new
    → AreChained sizes pages end old → AreChained sizes pages end new
chain_kept sizes [] end old new same c = tt
chain_kept sizes (p ∷ ps) end old new same c =
    let here = same p.number (Contains-append_left (p.number ∷ []) (numbers_of ps) p.number (0, omega arith, refl)) in (
      c.0,
      subst (λ (page : List ℕ). IsPageOf (page_count sizes) (first_number ps end) p.entries page) (sym here) c.1,
      chain_kept sizes ps end old new (λ n has. same n (Contains-append_right (p.number ∷ []) (numbers_of ps) n has)) c.2,
    )

pub run_kept : (sizes : Sizes) (run : Component) (pages : List RunPage) (next : Option ℕ) (old new : List ℕ) → AreSamePages sizes (numbers_of pages) old new
    → ReadsOn sizes run pages next old → ReadsOn sizes run pages next new
run_kept sizes run pages next old new h1 h2 = grind (arith, common_steps, nat_tests, chain_kept)

pub component_kept : (sizes : Sizes) (component : Component) (pages : List RunPage) (old new : List ℕ) → AreSamePages sizes (numbers_of pages) old new
    → ReadsAs sizes component pages old → ReadsAs sizes component pages new
component_kept sizes component pages old new same reads = run_kept sizes component pages None old new same reads

-- ---- a chain behind a chain

pub first_join : (ps qs : List RunPage) (end : Option ℕ) → first_number (ps ++ qs) end ≡ first_number ps (first_number qs end)
first_join ps qs end = grind (arith, common_steps, nat_tests)

pub chain_join : (sizes : Sizes) (ps qs : List RunPage) (end : Option ℕ) (file : List ℕ) → AreChained sizes ps (first_number qs end) file → AreChained sizes qs end file → AreChained sizes (ps ++ qs) end file
chain_join sizes [] qs end file c d = d
chain_join sizes (p ∷ ps) qs end file c d = (
  c.0,
  subst (λ (next : Option ℕ). IsPageOf (page_count sizes) next p.entries (page_at sizes p.number file)) (sym (first_join ps qs end)) c.1,
  chain_join sizes ps qs end file c.2 d,
)

pub chain_split : (sizes : Sizes) (ps qs : List RunPage) (end : Option ℕ) (file : List ℕ) → AreChained sizes (ps ++ qs) end file → AreChained sizes ps (first_number qs end) file × AreChained sizes qs end file
chain_split sizes [] qs end file c = (tt, c)
chain_split sizes (p ∷ ps) qs end file c =
    let more = chain_split sizes ps qs end file c.2 in (
      (c.0, subst (λ (next : Option ℕ). IsPageOf (page_count sizes) next p.entries (page_at sizes p.number file)) (first_join ps qs end) c.1, more.0),
      more.1,
    )

pub entries_join : (ps qs : List RunPage) → entries_of (ps ++ qs) ≡ entries_of ps ++ entries_of qs
entries_join [] qs = refl
entries_join (p ∷ ps) qs = ap (λ (l : Entries). p.entries ++ l) (entries_join ps qs) ∙ sym (append_assoc p.entries (entries_of ps) (entries_of qs))

-- ---- weights

pub weight_join : (es fs : Entries) → entries_weight (es ++ fs) ≡ entries_weight es + entries_weight fs
weight_join es fs = sum_by-append (λ (e : Key × Rec). weight e.0 e.1) es fs

-- the entries' weights are the lengths of their bytes
pub weight_is_length : (es : Entries) → entries_weight es ≡ length (entries_bytes es)
weight_is_length [] = refl
weight_is_length (e ∷ es) = omega (arith, sum_by-cons (λ (e : Key × Rec). weight e.0 e.1) e es, weight_is_length es, length-spelling e.0 e.1, length-append {A = ℕ})

-- ---- rising keys

-- no key is below itself
not_below_itself : (key : Key) → key_cmp key key ≡ Less → ⊥
not_below_itself key less = let turned = nat_list_cmp_total.antisymm key key in cc

-- what holds of the keys of a list holds of those behind
all_back : (P : Key → Type 0) (es fs : Entries) → AllByRecursion P (keys_of (es ++ fs)) → AllByRecursion P (keys_of fs)
all_back P [] fs all = all
all_back P (e ∷ es) fs all = all_back P es fs all.1

pub rise_back : (es fs : Entries) → AreRising (es ++ fs) → AreRising fs
unfolding IsStrictlySortedBy
rise_back [] fs rise = rise
rise_back (e ∷ es) fs rise = rise_back es fs rise.1

-- A page with an entry that is below all those of other pages is none of them.
apart_from : (sizes : Sizes) (n : ℕ) (next : Option ℕ) (e : Key × Rec) (es : Entries) (qs : List RunPage) (end : Option ℕ) (file : List ℕ) → page_count sizes ≤ no_page
    → IsPageOf (page_count sizes) next (e ∷ es) (page_at sizes n file) → AreChained sizes qs end file → AllByRecursion (λ (k : Key). key_cmp e.0 k ≡ Less) (keys_of (entries_of qs))
    → AllByRecursion (λ (m : ℕ). nat_eq n m ≡ false) (numbers_of qs)
apart_from sizes n next e es [] end file few here c below = tt
apart_from sizes n next e es (q ∷ qs) end file few here c below =
    (ne_eqb n q.number (differs q.entries c.1 below), apart_from sizes n next e es qs end file few here c.2 (all_back (λ (k : Key). key_cmp e.0 k ≡ Less) q.entries (entries_of qs) below))
  where
    first_below : (fs : Entries) → e ∷ es ≡ fs → AllByRecursion (λ (k : Key). key_cmp e.0 k ≡ Less) (keys_of (fs ++ entries_of qs)) → ⊥
    first_below fs same all = not_below_itself e.0 (subst (λ (l : Entries). AllByRecursion (λ (k : Key). key_cmp e.0 k ≡ Less) (keys_of (l ++ entries_of qs))) (sym same) all).0

    differs : (fs : Entries) → IsPageOf (page_count sizes) (first_number qs end) fs (page_at sizes q.number file) → AllByRecursion (λ (k : Key). key_cmp e.0 k ≡ Less) (keys_of (fs ++ entries_of qs))
        → n ≡ q.number → ⊥
    differs fs of all same =
        first_below fs (page_same (page_count sizes) next (first_number qs end) (e ∷ es) fs (page_at sizes n file) few here
        (subst (λ (m : ℕ). IsPageOf (page_count sizes) (first_number qs end) fs (page_at sizes m file)) (sym same) of)).1 all

-- where the keys rise no page is met twice
pub rising_apart : (sizes : Sizes) (pages : List RunPage) (end : Option ℕ) (file : List ℕ) → page_count sizes ≤ no_page → AreChained sizes pages end file → AreRising (entries_of pages)
    → IsDistinct nat_eq (numbers_of pages)
unfolding IsStrictlySortedBy IsDistinct
rising_apart sizes [] end file few c rise = tt
rising_apart sizes (p ∷ ps) end file few c rise =
    (first p.entries c.1 rise, rising_apart sizes ps end file few c.2 (rise_back p.entries (entries_of ps) rise))
  where
    first : (es : Entries) → IsPageOf (page_count sizes) (first_number ps end) es (page_at sizes p.number file) → AreRising (es ++ entries_of ps)
        → AllByRecursion (λ (m : ℕ). nat_eq p.number m ≡ false) (numbers_of ps)
    first [] of rise = let some = of.content.head.some in absurd (omega arith)
    first (e ∷ es) of rise = apart_from sizes p.number (first_number ps end) e es ps end file few of c.2 (all_back (λ (k : Key). key_cmp e.0 k ≡ Less) es (entries_of ps) rise.0)

-- ---- the list

-- a component reads as one list at most
pub one_list : (sizes : Sizes) (component : Component) (es fs : Entries) (file : List ℕ) → page_count sizes ≤ no_page
    → HasList sizes component es file → HasList sizes component fs file → es ≡ fs
one_list sizes component es fs file few has other =
    sym has.entries_are ∙ ap entries_of (one_component sizes component has.pages other.pages file few has.reads other.reads) ∙ other.entries_are

-- and as the same list where its pages read the same
pub list_kept : (sizes : Sizes) (component : Component) (es : Entries) (old new : List ℕ) (list : HasList sizes component es old) → AreSamePages sizes (numbers_of list.pages) old new
    → (now : HasList sizes component es new) × (now.pages ≡ list.pages)
list_kept sizes component es old new list same =
    (record { pages = list.pages; reads = component_kept sizes component list.pages old new same list.reads; entries_are = list.entries_are }, refl)
