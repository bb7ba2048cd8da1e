-- The pages of the parts that a hold reads, as the fences name them.
use Rattle.std.specs.Prelude.{◌≡◌, ◌<◌, ◌≤◌, ◌+◌, ◌-◌, ◌*◌, ◌&&◌, ℕ, Bool, List, [], ◌∷◌, ◌++◌, length, map, take, drop, None, Some, if◌then◌else◌, nat_eq, nat_lt}
use Rattle.std.specs.List.{Contains}
use Rattle.std.proofs.Common.{⊎_elim, ap, inl, inr, refl, sym, subst, ◌∙◌, length-append, arith}
use Rattle.std.proofs.lemmas.Bool.{cases_eq}
use Rattle.std.proofs.lemmas.Bool.Decides.{nat_tests}
use Rattle.std.proofs.lemmas.Grind.{common_steps}
use Rattle.std.proofs.lemmas.List.{drop-append-le, drop-map, length-drop, length-map, map-append, take-append-drop, take-append-le, take-map}
use Rattle.std.proofs.lemmas.List.Elements.{Contains-append_left, Contains-append_right, Contains-append_cases}
use Rattle.blsm_model.specs.Components.{no_page}
use Rattle.blsm_model.specs.Format.{least_weight}
use Rattle.blsm_model.specs.Geometry.{page_count}
use Rattle.blsm_model.specs.Sizes.{Sizes}
use Rattle.blsm_model.specs.declared.component.Component.{Component}
use Rattle.bloom_bits.specs.declared.fences.Fence.{Fence}
use Rattle.bloom_bits.specs.Guides.{fence_of, fences_from}
use Rattle.bloom_bits.specs.Parts.{last_fences}
use Rattle.record_delta.specs.Entries.{Entries, entries_weight}
use Rattle.page_space.specs.Space.{SpaceState}
use Rattle.page_file.specs.Component.{RunPage, AreChained, first_number, numbers_of}
use Rattle.page_file.specs.Entry.{entries_bytes}
use Rattle.page_file.specs.Page.{page_number}
use Rattle.page_file.proofs.ComponentLemmas.{one_chain}
use Rattle.page_file.proofs.EntryLemmas.{few_entries}
use Rattle.run_writer.specs.Closed.{IsClosedPage}
use Rattle.run_writer.specs.Run.{open_number, page_of}
use Rattle.run_writer.specs.Writer.{HasPushed, closed_of}
use Rattle.run_writer.proofs.RegionLemmas.{closed_page}
use Rattle.snow_merge.specs.Pass.{SnowState}
use Rattle.tree_runs.specs.Runs.{GuideState, finished_by_pass, front_of}
use Rattle.tree_runs.proofs.PartLemmas.{told_or_none}

none_in : (n : ℕ) → Contains {X = ℕ} [] n → ⊥
none_in n has = omega (arith, has.1)

-- ---- fences, one a page

few_from : (count weight : ℕ) (ps : List RunPage) → length (fences_from count weight ps) ≤ length ps
few_from count weight [] = omega arith
few_from count weight (p ∷ ps) = one p.entries (few_from (count + length p.entries) (weight + entries_weight p.entries) ps)
  where
    behind : List Fence
    behind = fences_from (count + length p.entries) (weight + entries_weight p.entries) ps

    one : (es : Entries) → length behind ≤ length ps → length (fence_of count weight p.number es ++ behind) ≤ length (p ∷ ps)
    one [] few = omega (arith, few)
    one (e ∷ es) few = omega (arith, few)

-- where there are as many as pages they name these
named_all : (count weight : ℕ) (ps : List RunPage) → length (fences_from count weight ps) ≡ length ps
    → map (λ (f : Fence). f.page) (fences_from count weight ps) ≡ numbers_of ps
named_all count weight [] many = refl
named_all count weight (p ∷ ps) many =
    one p.entries many (named_all (count + length p.entries) (weight + entries_weight p.entries) ps)
  where
    behind : List Fence
    behind = fences_from (count + length p.entries) (weight + entries_weight p.entries) ps

    one : (es : Entries) → length (fence_of count weight p.number es ++ behind) ≡ length (p ∷ ps)
        → (length behind ≡ length ps → map (λ (f : Fence). f.page) behind ≡ numbers_of ps)
        → map (λ (f : Fence). f.page) (fence_of count weight p.number es ++ behind) ≡ numbers_of (p ∷ ps)
    one [] is more = absurd (omega (arith, is, few_from (count + length p.entries) (weight + entries_weight p.entries) ps))
    one (e ∷ es) is more = ap (λ (ns : List ℕ). p.number ∷ ns) (more (omega (arith, is)))

-- some of the first ones of two lists are in the first list
in_front : (xs ys : List ℕ) (j k n : ℕ) → j + k ≤ length xs → Contains (take k (drop j (xs ++ ys))) n → Contains xs n
in_front xs ys j k n few has =
    let front : take k (drop j (xs ++ ys)) ≡ take k (drop j xs) =
    ap (take k) (drop-append-le j xs ys (omega (arith, few))) ∙ take-append-le k (drop j xs) ys (omega (arith, few, length-drop j xs)) in
    let here : Contains (take k (drop j xs)) n = subst (λ (ns : List ℕ). Contains ns n) front has in
    subst (λ (ns : List ℕ). Contains ns n) (take-append-drop j xs)
    (Contains-append_right (take j xs) (drop j xs) n
    (subst (λ (ns : List ℕ). Contains ns n) (take-append-drop k (drop j xs)) (Contains-append_left (take k (drop j xs)) (drop k (drop j xs)) n here)))

-- ---- the closed pages of a run that is written

unnoted : (text pages fences : ℕ) → fences + (if nat_eq text 0 && nat_lt 0 pages then 1 else 0) ≡ pages
    → (text ≡ 0 → 0 < pages → fences + 1 ≡ pages) × (0 < text → fences ≡ pages) × (pages ≡ 0 → fences ≡ 0)
unnoted text pages fences noted = grind (arith, common_steps, nat_tests)

-- each page of the run has a fence but the open one, as long as it has no entry
all_noted : (closed : List RunPage) (number : ℕ) (es : Entries) (text pages fences : ℕ) → length (numbers_of closed ++ open_number closed number es) ≡ pages
    → least_weight * length es ≤ text → (es ≡ [] → text ≡ 0) → fences + (if nat_eq text 0 && nat_lt 0 pages then 1 else 0) ≡ pages
    → (fences ≡ length (closed ++ page_of number es)) × (length closed ≡ pages - 1)
all_noted [] number [] text pages fences many some none noted =
    let is = unnoted text pages fences noted in
    (is.2 (sym many), omega (arith, many))
all_noted (p ∷ ps) number [] text pages fences many some none noted =
    let is = unnoted text pages fences noted in
    let long : length ps + 2 ≡ pages = omega (arith, many, length-append (numbers_of ps) (number ∷ []), length-map ps (λ (q : RunPage). q.number)) in
    let one = is.0 (none refl) (omega (arith, long)) in
    (omega (arith, one, long, length-append ps []), omega (arith, long))
all_noted [] number (e ∷ es) text pages fences many some none noted =
    let is = unnoted text pages fences noted in
    let one = is.1 (omega (arith, some)) in
    (omega (arith, one, many), omega (arith, many))
all_noted (p ∷ ps) number (e ∷ es) text pages fences many some none noted =
    let is = unnoted text pages fences noted in
    let long : length ps + 2 ≡ pages = omega (arith, many, length-append (numbers_of ps) (number ∷ []), length-map ps (λ (q : RunPage). q.number)) in
    let one = is.1 (omega (arith, some)) in
    (omega (arith, one, long, length-append ps (record { number = number; entries = e ∷ es } ∷ [])), omega (arith, long))

-- So on any disk the fences name closed pages where a hold reads what is finished.
pub finished_named : (sizes : Sizes) (honest : Bool) (file : List ℕ) (space : SpaceState) (snow : SnowState) (guide : GuideState) (out : Entries) (front : Component)
    → (has : HasPushed sizes honest file space snow.writer guide.filter guide.fences out) → front.pages ≤ (front_of (finished_by_pass (Some snow))).pages
    → (n : ℕ) → Contains (map (λ (f : Fence). f.page) (last_fences (front_of (finished_by_pass (Some snow))) front guide.fences.list)) n
    → Contains (numbers_of has.run.closed) n
finished_named sizes honest file space snow guide out front has few n named =
    ⊎_elim
    (λ none.
    let no : front.pages ≡ 0 = omega (arith, few, ap (λ (c : Component). c.pages) none) in
    absurd (none_in n (subst (λ (k : ℕ). Contains (map (λ (f : Fence). f.page) (take k (drop (finished.pages - front.pages) guide.fences.list))) n) no named)))
    (λ told. there told.1)
    (told_or_none (nat_lt 1 snow.writer.component.pages) snow.closed (closed_of snow.writer) snow.writer.number snow.left)
  where
    finished : Component
    finished = front_of (finished_by_pass (Some snow))

    there : finished ≡ closed_of snow.writer → Contains (numbers_of has.run.closed) n
    there is =
        let run = has.run in
        let buffer = has.held.buffer in
        let noted = all_noted run.closed run.number run.entries (length snow.writer.buffer.text) snow.writer.component.pages (length guide.fences.list)
        has.held.pages_is
        (subst (λ (bytes : List ℕ). least_weight * length run.entries ≤ length bytes) (sym buffer.spelled) (few_entries run.entries buffer.each))
        (λ none. ap length (buffer.spelled ∙ ap entries_bytes none)) has.one_a_page in
        let all = named_all 0 0 (run.closed ++ page_of run.number run.entries) (sym (ap (λ (l : List Fence). length l) has.guide.fences_are) ∙ noted.0) in
        let at = finished.pages - front.pages in
        let numbers : map (λ (f : Fence). f.page) (last_fences finished front guide.fences.list)
        ≡ take front.pages (drop at (numbers_of run.closed ++ numbers_of (page_of run.number run.entries))) =
        sym (take-map (λ (f : Fence). f.page) front.pages (drop at guide.fences.list)) ∙ ap (take front.pages) (sym (drop-map (λ (f : Fence). f.page) at guide.fences.list))
        ∙ ap (λ (ns : List ℕ). take front.pages (drop at ns)) (ap (map (λ (f : Fence). f.page)) has.guide.fences_are ∙ all
        ∙ map-append (λ (p : RunPage). p.number) run.closed (page_of run.number run.entries)) in
        in_front (numbers_of run.closed) (numbers_of (page_of run.number run.entries)) at front.pages n
        (omega (arith, few, ap (λ (c : Component). c.pages) is, noted.1, length-map run.closed (λ (p : RunPage). p.number)))
        (subst (λ (ns : List ℕ). Contains ns n) numbers named)

pub finished_closed : (sizes : Sizes) (honest : Bool) (file : List ℕ) (space : SpaceState) (snow : SnowState) (guide : GuideState) (out : Entries) (front : Component)
    → HasPushed sizes honest file space snow.writer guide.filter guide.fences out → front.pages ≤ (front_of (finished_by_pass (Some snow))).pages
    → (n : ℕ) → Contains (map (λ (f : Fence). f.page) (last_fences (front_of (finished_by_pass (Some snow))) front guide.fences.list)) n
    → IsClosedPage space snow.writer n
finished_closed sizes honest file space snow guide out front has few n named =
    closed_page sizes honest file space snow.writer guide.filter guide.fences out has n
    (finished_named sizes honest file space snow guide out front has few n named)

-- ---- where a run begins again

pub record EndsWith (all part : List RunPage) : Type 0 where
  pub before : List RunPage
  pub parts : all ≡ before ++ part

-- what is chained from a page of a run on is the run's end
pub ends_with : (sizes : Sizes) (file : List ℕ) (all part : List RunPage) (n : ℕ) → page_count sizes ≤ no_page → AreChained sizes all None file
    → AreChained sizes part None file → first_number part None ≡ Some n → Contains (numbers_of all) n → EndsWith all part
ends_with sizes file [] part n few chain other first has = absurd (none_in n has)
ends_with sizes file (p ∷ ps) part n few chain other first has =
    elim (cases_eq n p.number) [
      | inl same ↦ record { before = []; parts = one_chain sizes (p ∷ ps) part file few chain other (ap page_number (ap Some (sym same) ∙ sym first)) }
      | inr differs ↦
          let rest = ends_with sizes file ps part n few chain.2 other first
          (⊎_elim (λ (here : Contains (p.number ∷ []) n). absurd (differs (only p.number n here))) (λ there. there) (Contains-append_cases (p.number ∷ []) (numbers_of ps) n has)) in
          record { before = p ∷ rest.before; parts = ap (λ (qs : List RunPage). p ∷ qs) rest.parts }
    ]
  where
    only : (m k : ℕ) → Contains (m ∷ []) k → k ≡ m
    only m k here = grind (arith)
