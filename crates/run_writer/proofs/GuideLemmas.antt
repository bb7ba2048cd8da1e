-- The filter and the fences of a run that grows.
use Rattle.std.proofs.lemmas.Bool.Decides.{nat_tests}
use Rattle.std.proofs.lemmas.Grind.{common_steps}
use Rattle.std.proofs.Common.{◌≡◌, ℕ, ◌+◌, List, [], ◌∷◌, ◌++◌, length, subst, refl, ap, sym, ◌∙◌, arith}
use Rattle.std.specs.List.{AllByRecursion}
use Rattle.std.specs.List.Sorted.{IsStrictlySortedBy}
use Rattle.std.specs.declared.cmp.Ordering.TheVariants.{Less}
use Rattle.std.proofs.lemmas.List.{append-nil, map-append}
use Rattle.std.proofs.lemmas.List.Elements.{All-nil, All-append}
use Rattle.blsm_model.specs.declared.component.Component.{Component}
use Rattle.blsm_model.specs.declared.key.Key.{Key}
use Rattle.blsm_model.specs.Keys.{key_cmp}
use Rattle.record_delta.specs.declared.record.Rec.{Rec}
use Rattle.record_delta.specs.Entries.{Entries, entries_weight}
use Rattle.page_file.specs.Entry.{keys_of, AreRising}
use Rattle.page_file.specs.Component.{RunPage, entries_of}
use Rattle.bloom_bits.specs.BitSet.{BitState}
use Rattle.bloom_bits.specs.Filter.{HasKeys}
use Rattle.bloom_bits.specs.declared.fences.Fence.{Fence}
use Rattle.bloom_bits.specs.Fences.{FencesState, IsAboveAll}
use Rattle.bloom_bits.specs.Guides.{fence_of, fences_from, fences_of, Guide}
use Rattle.bloom_bits.proofs.PartLemmas.{back_part, fences_join}
use Rattle.run_writer.specs.Run.{Run, page_of, pages_of}
use Rattle.run_writer.proofs.RunLemmas.{pushed_here, pushed_on, entries_here, entries_on}

-- a filter gets a key
abbrev pub Adds : Key → BitState → BitState → Type 0
Adds key filter after = (keys : List Key) → HasKeys filter keys → HasKeys after (keys ++ key ∷ [])

-- ---- one entry more

-- the fences stay where the open page has more entries
fences_here : (count weight : ℕ) (closed : List RunPage) (number : ℕ) (es fs : Entries) → (es ≡ [] → ⊥)
    → fences_from count weight (closed ++ page_of number (es ++ fs)) ≡ fences_from count weight (closed ++ page_of number es)
fences_here count weight closed number [] fs some = absurd (some refl)
fences_here count weight [] number (e ∷ es) fs some = refl
fences_here count weight (p ∷ ps) number (e ∷ es) fs some =
    ap (λ l. fence_of count weight p.number p.entries ++ l) (fences_here (count + length p.entries) (weight + entries_weight p.entries) ps number (e ∷ es) fs some)

keys_more : (more es : Entries) (key : Key) (rec : Rec) → more ≡ es ++ (key, rec) ∷ [] → keys_of es ++ key ∷ [] ≡ keys_of more
keys_more more es key rec is = sym (ap keys_of is ∙ map-append (λ (e : Key × Rec). e.0) es ((key, rec) ∷ []))

pub guide_here : (filter after : BitState) (fences : FencesState) (key : Key) (rec : Rec) (run : Run) → Adds key filter after → (run.entries ≡ [] → ⊥) → Guide filter fences (pages_of run) → Guide after fences (pages_of (pushed_here key rec run))
guide_here filter after fences key rec run adds some guide = record {
  keys = subst (HasKeys after) (keys_more _ _ key rec (entries_here key rec run)) (adds (keys_of (entries_of (pages_of run))) guide.keys);
  fences_are = guide.fences_are ∙ sym (fences_here 0 0 run.closed run.number run.entries ((key, rec) ∷ []) some);
}

-- a page's first entry has a fence
pub guide_on : (filter after : BitState) (fences fences_after : FencesState) (page : ℕ) (key : Key) (rec : Rec) (run : Run) (component : Component) → Adds key filter after
    → fences_after.list ≡ fences.list ++ record { first = key; page = page; entries = component.entries; weight = component.weight } ∷ []
    → length (entries_of (pages_of run)) ≡ component.entries → entries_weight (entries_of (pages_of run)) ≡ component.weight
    → Guide filter fences (pages_of run) → Guide after fences_after (pages_of (pushed_on page key rec run))
guide_on filter after fences fences_after page key rec run component adds fenced count weighs guide =
    let pages = pages_of run in
    let counted : component.entries ≡ 0 + length (entries_of pages) = omega (arith, count) in
    let weighed : component.weight ≡ 0 + entries_weight (entries_of pages) = omega (arith, weighs) in
    record {
      keys = subst (HasKeys after) (keys_more _ _ key rec (entries_on page key rec run)) (adds (keys_of (entries_of pages)) guide.keys);
      fences_are = fenced ∙ (λ i. guide.fences_are i ++ fence_of (counted i) (weighed i) page ((key, rec) ∷ [])) ∙ sym (fences_join 0 0 pages (page_of page ((key, rec) ∷ [])));
    }

-- also where that page was taken before
pub guide_first : (filter after : BitState) (fences fences_after : FencesState) (key : Key) (rec : Rec) (closed : List RunPage) (number : ℕ) (component : Component) → Adds key filter after
    → fences_after.list ≡ fences.list ++ record { first = key; page = number; entries = component.entries; weight = component.weight } ∷ []
    → length (entries_of (closed ++ [])) ≡ component.entries → entries_weight (entries_of (closed ++ [])) ≡ component.weight
    → Guide filter fences (closed ++ []) → Guide after fences_after (closed ++ page_of number ((key, rec) ∷ []))
guide_first filter after fences fences_after key rec closed number component adds fenced count weighs guide =
    subst (λ (ps : List RunPage). Guide after fences_after (ps ++ page_of number ((key, rec) ∷ []))) (append-nil closed)
    (guide_on filter after fences fences_after number key rec (record { closed = closed; number = number; entries = [] }) component adds fenced count weighs guide)

-- ---- the key that comes next

below_last : (low : Key) (es : Entries) (e : Key × Rec) → AllByRecursion (λ k. key_cmp low k ≡ Less) (keys_of (es ++ e ∷ [])) → key_cmp low e.0 ≡ Less
below_last low [] e all = all.0
below_last low (x ∷ es) e all = below_last low es e all.1

below_next : (es : Entries) (e : Key × Rec) → AreRising (es ++ e ∷ []) → AllByRecursion (λ x. key_cmp x.0 e.0 ≡ Less) es
unfolding IsStrictlySortedBy
below_next [] e rise = tt
below_next (x ∷ es) e rise = (below_last x.0 es e rise.0, below_next es e rise.1)

-- of each entry of a list of pages, so of each fence
front : {X : Type 0} (P : X → Type 0) (xs ys : List X) → AllByRecursion P (xs ++ ys) → AllByRecursion P xs
front P [] ys all = tt
front P (x ∷ xs) ys all = (all.0, front P xs ys all.1)

fence_below : (key : Key) (count weight number : ℕ) (es : Entries) → AllByRecursion (λ (x : Key × Rec). key_cmp x.0 key ≡ Less) es → IsAboveAll key (fence_of count weight number es)
fence_below key count weight number es h1 = grind (arith, common_steps, nat_tests)

each_below : (key : Key) (count weight : ℕ) (pages : List RunPage) → AllByRecursion (λ (x : Key × Rec). key_cmp x.0 key ≡ Less) (entries_of pages) → IsAboveAll key (fences_from count weight pages)
each_below key count weight [] all = All-nil (λ (f : Fence). key_cmp f.first key ≡ Less)
each_below key count weight (p ∷ ps) all =
    let below = λ (x : Key × Rec). key_cmp x.0 key ≡ Less in
    let counted = count + length p.entries in
    let weighed = weight + entries_weight p.entries in
    All-append (λ (f : Fence). key_cmp f.first key ≡ Less) (fence_of count weight p.number p.entries) (fences_from counted weighed ps) (fence_below key count weight p.number p.entries (front below p.entries (entries_of ps) all))
    (each_below key counted weighed ps (back_part below p.entries (entries_of ps) all))

pub fences_below : (key : Key) (rec : Rec) (pages : List RunPage) → AreRising (entries_of pages ++ (key, rec) ∷ []) → IsAboveAll key (fences_of pages)
fences_below key rec pages rise = each_below key 0 0 pages (below_next (entries_of pages) (key, rec) rise)
