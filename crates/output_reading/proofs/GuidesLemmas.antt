-- A run's entries, filter and fences where it has one entry more.
use Rattle.std.proofs.Common.{
  ◌≡◌,
  ℕ,
  ◌+◌,
  true,
  List,
  [],
  ◌∷◌,
  ◌++◌,
  length,
  Option,
  refl,
  ap,
  sym,
  subst,
  ◌∙◌,
  arith,
  append-nil,
  append_assoc,
  length-append,
}
use Rattle.std.proofs.lemmas.Grind.{common_steps}
use Rattle.std.proofs.lemmas.Bool.Decides.{nat_tests}
use Rattle.std.specs.List.{AllByRecursion}
use Rattle.std.specs.declared.cmp.Ordering.TheVariants.{Less}
use Rattle.std.proofs.lemmas.List.{map-append}
use Rattle.std.proofs.lemmas.List.Elements.{All-append, All-nil}
use Rattle.blsm_model.specs.declared.key.Key.{Key}
use Rattle.blsm_model.specs.Keys.{key_cmp}
use Rattle.record_delta.specs.declared.record.Rec.{Rec}
use Rattle.record_delta.specs.Entries.{Entries, entries_weight, is_above}
use Rattle.page_file.specs.Entry.{keys_of}
use Rattle.page_file.specs.Component.{RunPage, entries_of, numbers_of}
use Rattle.page_file.proofs.ComponentLemmas.{entries_join}
use Rattle.bloom_bits.specs.BitSet.{BitState}
use Rattle.bloom_bits.specs.Filter.{HasKeys}
use Rattle.bloom_bits.specs.declared.fences.Fence.{Fence}
use Rattle.bloom_bits.specs.Fences.{FencesState, IsAboveAll}
use Rattle.bloom_bits.specs.Guides.{Guide, fence_of, fences_from, fences_of}
use Rattle.bloom_bits.proofs.PartLemmas.{back_part, fences_join}
use Rattle.merge_step.proofs.TakenLemmas.{below_above}
use Rattle.merge_ends.specs.Output.{EndBy}
use Rattle.run_writer.specs.Run.{Run, open_number, page_of, pages_of}

-- the run with one entry more, in its open page, or in a new one of this number
abbrev pub more_here : Key × Rec → Run → Run
more_here e run = record { closed = run.closed; number = run.number; entries = run.entries ++ e ∷ [] }

abbrev pub more_on : ℕ → Key × Rec → Run → Run
more_on page e run = record { closed = pages_of run; number = page; entries = e ∷ [] }

-- ---- its entries

of_page : (number : ℕ) (es : Entries) → entries_of (page_of number es) ≡ es
of_page number [] = refl
of_page number (e ∷ es) = append-nil (e ∷ es)

pub run_entries : (closed : List RunPage) (number : ℕ) (es : Entries) → entries_of (closed ++ page_of number es) ≡ entries_of closed ++ es
run_entries closed number es = entries_join closed (page_of number es) ∙ ap (λ (l : Entries). entries_of closed ++ l) (of_page number es)

pub entries_here : (e : Key × Rec) (run : Run) → entries_of (pages_of (more_here e run)) ≡ entries_of (pages_of run) ++ e ∷ []
entries_here e run =
    run_entries run.closed run.number (run.entries ++ e ∷ []) ∙ sym (append_assoc (entries_of run.closed) run.entries (e ∷ []))
    ∙ ap (λ (l : Entries). l ++ e ∷ []) (sym (run_entries run.closed run.number run.entries))

pub entries_on : (page : ℕ) (e : Key × Rec) (run : Run) → entries_of (pages_of (more_on page e run)) ≡ entries_of (pages_of run) ++ e ∷ []
entries_on page e run = run_entries (pages_of run) page (e ∷ [])

-- ---- its pages

none_some : (p : RunPage) (ps : List RunPage) → p ∷ ps ≡ [] → ⊥
none_some p ps same = cc

pub numbers_are : (closed : List RunPage) (number : ℕ) (es : Entries) → (es ≡ [] → closed ≡ [])
    → numbers_of (closed ++ page_of number es) ≡ numbers_of closed ++ open_number closed number es
numbers_are closed number (e ∷ es) begun = map-append (λ (p : RunPage). p.number) closed (page_of number (e ∷ es))
numbers_are [] number [] begun = refl
numbers_are (p ∷ ps) number [] begun = absurd (none_some p ps (begun refl))

pub as_long : (closed : List RunPage) (number : ℕ) (es fs : Entries) → (es ≡ [] → ⊥) → length (closed ++ page_of number (es ++ fs)) ≡ length
    (closed ++ page_of number es)
as_long closed number [] fs some = absurd (some refl)
as_long closed number (e ∷ es) fs some = omega (
  arith,
  length-append closed (page_of number (e ∷ es ++ fs)),
  length-append closed
      (page_of number (e ∷ es)),
)

-- ---- filter and fences

fences_stay : (count weight : ℕ) (closed : List RunPage) (number : ℕ) (es fs : Entries) → (es ≡ [] → ⊥)
    → fences_from count weight (closed ++ page_of number (es ++ fs)) ≡ fences_from count weight (closed ++ page_of number es)
fences_stay count weight closed number [] fs some = absurd (some refl)
fences_stay count weight [] number (e ∷ es) fs some = refl
fences_stay count weight (p ∷ ps) number (e ∷ es) fs some =
    ap (λ (l : List Fence). fence_of count weight p.number p.entries ++ l)
    (fences_stay (count + length p.entries) (weight + entries_weight p.entries) ps number (e ∷ es) fs some)

keys_more : (more es : Entries) (e : Key × Rec) → more ≡ es ++ e ∷ [] → keys_of es ++ e.0 ∷ [] ≡ keys_of more
keys_more more es e is = sym (ap keys_of is ∙ map-append (λ (x : Key × Rec). x.0) es (e ∷ []))

pub guide_here : (filter after : BitState) (fences : FencesState) (e : Key × Rec) (run : Run)
    → ((keys : List Key) → HasKeys filter keys → HasKeys after (keys ++ e.0 ∷ [])) → (run.entries ≡ [] → ⊥) → Guide filter fences (pages_of run)
    → Guide after fences (pages_of (more_here e run))
guide_here filter after fences e run adds some guide = record {
  keys = subst (HasKeys after) (keys_more _ _ e (entries_here e run)) (adds (keys_of (entries_of (pages_of run))) guide.keys);
  fences_are = guide.fences_are ∙ sym (fences_stay 0 0 run.closed run.number run.entries (e ∷ []) some);
}

pub guide_on : (filter after : BitState) (fences fences_after : FencesState) (page count weight : ℕ) (e : Key × Rec) (run : Run)
    → ((keys : List Key) → HasKeys filter keys → HasKeys after (keys ++ e.0 ∷ []))
    → fences_after.list ≡ fences.list ++ record { first = e.0; page = page; entries = count; weight = weight } ∷ []
    → length (entries_of (pages_of run)) ≡ count → entries_weight (entries_of (pages_of run)) ≡ weight → Guide filter fences (pages_of run)
    → Guide after fences_after (pages_of (more_on page e run))
guide_on filter after fences fences_after page count weight e run adds fenced counts weighs guide =
    let pages = pages_of run in
    let counted : count ≡ 0 + length (entries_of pages) = omega (arith, counts) in
    let weighed : weight ≡ 0 + entries_weight (entries_of pages) = omega (arith, weighs) in
    record {
      keys = subst (HasKeys after) (keys_more _ _ e (entries_on page e run)) (adds (keys_of (entries_of pages)) guide.keys);
      fences_are = fenced ∙ (λ i. guide.fences_are i ++ fence_of (counted i) (weighed i) page (e ∷ [])) ∙ sym
          (fences_join 0 0 pages (page_of page (e ∷ [])));
    }

-- ---- a key above all of them

past : (at : Option Key) (key : Key) (es : Entries) → is_above at key ≡ true → EndBy at es → AllByRecursion
    (λ (x : Key × Rec). key_cmp x.0 key ≡ Less) es
past at key [] higher ends = tt
past at key (e ∷ es) higher ends = (below_above at e.0 key ends.0 higher, past at key es higher ends.1)

front : {X : Type 0} (P : X → Type 0) (xs ys : List X) → AllByRecursion P (xs ++ ys) → AllByRecursion P xs
front P [] ys all = tt
front P (x ∷ xs) ys all = (all.0, front P xs ys all.1)

fence_below : (key : Key) (count weight number : ℕ) (es : Entries) → AllByRecursion (λ (x : Key × Rec). key_cmp x.0 key ≡ Less) es
    → IsAboveAll key (fence_of count weight number es)
fence_below key count weight number es h1 = grind (arith, common_steps, nat_tests)

each_below : (key : Key) (count weight : ℕ) (pages : List RunPage) → AllByRecursion (λ (x : Key × Rec). key_cmp x.0 key ≡ Less) (entries_of pages)
    → IsAboveAll key (fences_from count weight pages)
each_below key count weight [] all = All-nil (λ (f : Fence). key_cmp f.first key ≡ Less)
each_below key count weight (p ∷ ps) all =
    let below = λ (x : Key × Rec). key_cmp x.0 key ≡ Less in
    let counted = count + length p.entries in
    let weighed = weight + entries_weight p.entries in
    All-append (λ (f : Fence). key_cmp f.first key ≡ Less) (fence_of count weight p.number p.entries) (fences_from counted weighed ps)
    (fence_below key count weight p.number p.entries (front below p.entries (entries_of ps) all))
    (each_below key counted weighed ps (back_part below p.entries (entries_of ps) all))

pub above_all : (at : Option Key) (key : Key) (pages : List RunPage) → is_above at key ≡ true → EndBy at (entries_of pages) → IsAboveAll key
    (fences_of pages)
above_all at key pages higher ends = each_below key 0 0 pages (past at key (entries_of pages) higher ends)
