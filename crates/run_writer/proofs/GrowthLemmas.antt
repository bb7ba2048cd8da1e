-- Runs that grow: their keys rise, no page is there twice, and they don't have all pages.
use Rattle.std.proofs.lemmas.Bool.Decides.{nat_tests}
use Rattle.std.proofs.lemmas.Grind.{common_steps}
use Rattle.std.proofs.Common.{◌≡◌, Bool, false, ℕ, ◌+◌, ◌<◌, ◌≤◌, List, [], ◌∷◌, ◌++◌, length, refl, ap, sym, subst, ◌∙◌, ◌⊎◌, ⊎_elim, inl, inr, length-append, arith}
use Rattle.record_delta.specs.Entries.{Entries, entries_weight}
use Rattle.blsm_model.specs.declared.component.Component.{Component}
use Rattle.bloom_bits.specs.declared.fences.Fence.{Fence}
use Rattle.std.specs.List.{Contains, AllByRecursion, IsDistinct}
use Rattle.std.specs.Prelude.{nat_eq, IsTrue}
use Rattle.std.proofs.lemmas.Bool.{false≢true, eqb-true, eq-eqb, ne_eqb}
use Rattle.std.proofs.lemmas.List.{append-nil, length-map}
use Rattle.std.proofs.lemmas.List.Elements.{Contains-append_left, Contains-append_right, Contains-append_cases}
use Rattle.std.proofs.lemmas.Map.Views.{Contains-from_any}
use Rattle.std.proofs.lemmas.Map.Steps.{length-le_from_distinct_below}
use Rattle.blsm_model.specs.declared.key.Key.{Key}
use Rattle.blsm_model.specs.Sizes.{Sizes}
use Rattle.record_delta.specs.declared.record.Rec.{Rec}
use Rattle.page_space.specs.PageSet.{Members, IsIn}
use Rattle.page_space.specs.Space.{SpaceState, IsFree, HasFree, IsSpace, Claims, role_count}
use Rattle.page_file.specs.Entry.{AreRising}
use Rattle.page_file.specs.Component.{RunPage, numbers_of, entries_of}
use Rattle.bloom_bits.specs.BitSet.{BitState}
use Rattle.bloom_bits.specs.Fences.{FencesState, IsAboveAll}
use Rattle.bloom_bits.specs.Guides.{Guide}
use Rattle.run_writer.specs.Run.{Run, page_of, pages_of, all_numbers, IsRun, AreTagged}
use Rattle.run_writer.specs.Writer.{WriterState, fenced, next_fence, resumed, unfenced, HasEntries, IsCounted, IsResumed, Holds, Stands, HasPushed}
use Rattle.run_writer.proofs.RunLemmas.{empty_run, pushed_here, pushed_on, entries_here, entries_on, has_none, open_here, all_are, is_begun, no_text, text_some}
use Rattle.run_writer.proofs.GuideLemmas.{Adds, guide_here, guide_on, guide_first, fences_below}

-- a run with pages has an open one
pub has_open : (writer : WriterState) (run : Run) → Holds writer run → 0 < writer.component.pages → 0 < length (all_numbers run)
has_open writer run held some = omega (arith, held.pages_is, some)

-- the numbers of the pages stay where the open one has more entries
numbers_here : (key : Key) (rec : Rec) (run : Run) → 0 < length (all_numbers run) → all_numbers (pushed_here key rec run) ≡ all_numbers run
numbers_here key rec run some = ap (λ (l : List ℕ). numbers_of run.closed ++ l) (open_here run.closed run.number run.entries (key, rec) some)

pub grows_here : (key : Key) (rec : Rec) (run : Run) → IsRun run → 0 < length (all_numbers run) → AreRising (entries_of (pages_of run) ++ (key, rec) ∷ []) → IsRun (pushed_here key rec run)
grows_here key rec run is_run some rise = record {
  rise = subst AreRising (sym (entries_here key rec run)) rise;
  apart = subst (IsDistinct nat_eq) (sym (numbers_here key rec run some)) is_run.apart;
}

pub tagged_here : (space : SpaceState) (role : ℕ) (key : Key) (rec : Rec) (run : Run) → AreTagged space role run → 0 < length (all_numbers run) → AreTagged space role (pushed_here key rec run)
tagged_here space role key rec run tagged some n has = tagged n (subst (λ (l : List ℕ). Contains l n) (numbers_here key rec run some) has)

pub here : (n : ℕ) (ns : List ℕ) → Contains (n ∷ ns) n
here n ns = Contains-append_left (n ∷ []) ns n (0, omega arith, refl)

pub further : (m : ℕ) (ns : List ℕ) (n : ℕ) → Contains ns n → Contains (m ∷ ns) n
further m ns n has = Contains-append_right (m ∷ []) ns n has

all_more : (P : ℕ → Type 0) (ns : List ℕ) (n : ℕ) → AllByRecursion P ns → P n → AllByRecursion P (ns ++ n ∷ [])
all_more P [] n all last = (last, tt)
all_more P (m ∷ ns) n all last = (all.0, all_more P ns n all.1 last)

distinct_more : (ns : List ℕ) (n : ℕ) → IsDistinct nat_eq ns → (Contains ns n → ⊥) → IsDistinct nat_eq (ns ++ n ∷ [])
unfolding IsDistinct
distinct_more [] n apart fresh = (tt, tt)
distinct_more (m ∷ ns) n apart fresh = (
  all_more (λ k. nat_eq m k ≡ false) ns n apart.0 (ne_eqb m n (λ same. fresh (subst (Contains (m ∷ ns)) same (here m ns)))),
  distinct_more ns n apart.1 (λ has. fresh (further m ns n has)),
)

-- in a new page, where the one that was open has entries
pub grows_on : (space : SpaceState) (role page : ℕ) (key : Key) (rec : Rec) (run : Run) → (run.entries ≡ [] → run.closed ≡ []) → IsRun run → AreTagged space role run → IsFree space page
    → AreRising (entries_of (pages_of run) ++ (key, rec) ∷ []) → IsRun (pushed_on page key rec run)
grows_on space role page key rec run some is_run tagged free rise = record {
  rise = subst AreRising (sym (entries_on page key rec run)) rise;
  apart =
      subst (λ (l : List ℕ). IsDistinct nat_eq (l ++ page ∷ [])) (sym (all_are run.closed run.number run.entries some))
      (distinct_more (all_numbers run) page is_run.apart (λ has. free.no_role role (tagged page has)));
}

pub only_one : (page n : ℕ) → Contains (page ∷ []) n → n ≡ page
only_one page n h1 = grind (arith, common_steps, nat_tests)

last_of : (P : ℕ → Type 0) (ns : List ℕ) (m : ℕ) → AllByRecursion P (ns ++ m ∷ []) → P m
last_of P [] m all = all.0
last_of P (n ∷ ns) m all = last_of P ns m all.1

pub tagged_on : (old new : SpaceState) (role page : ℕ) (key : Key) (rec : Rec) (run : Run) → (run.entries ≡ [] → run.closed ≡ []) → AreTagged old role run → Claims role page old new
    → AreTagged new role (pushed_on page key rec run)
tagged_on old new role page key rec run some tagged claims n has =
    ⊎_elim (λ before. (claims.tags role n).1 (inl (tagged n before))) (λ last. (claims.tags role n).1 (inr (refl, only_one page n last)))
    (Contains-append_cases (all_numbers run) (page ∷ []) n (subst (λ (l : List ℕ). Contains (l ++ page ∷ []) n) (all_are run.closed run.number run.entries some) has))

-- a number before the last one is another
pub differs_from_last : (ns : List ℕ) (m n : ℕ) → IsDistinct nat_eq (ns ++ m ∷ []) → Contains ns n → n ≡ m → ⊥
unfolding IsDistinct
differs_from_last [] m n apart (k, within, is) same = omega (arith, within)
differs_from_last (p ∷ ps) m n apart has same =
    ⊎_elim
    (λ (first : Contains (p ∷ []) n). false≢true (sym (last_of (λ k. nat_eq p k ≡ false) ps m apart.0) ∙ eq-eqb p m (sym (only_one p n first) ∙ same)))
    (λ (more : Contains ps n). differs_from_last ps m n apart.1 more same)
    (Contains-append_cases (p ∷ []) ps n has)

-- ---- a page for one entry more

all_apart : (ns : List ℕ) (n : ℕ) → (Contains ns n → ⊥) → AllByRecursion (λ k. nat_eq n k ≡ false) ns
all_apart [] n fresh = tt
all_apart (m ∷ ns) n fresh = (ne_eqb n m (λ same. fresh (subst (Contains (m ∷ ns)) (sym same) (here m ns))), all_apart ns n (λ has. fresh (further m ns n has)))

pub in_range : (set : Members) (page : ℕ) → IsIn set page → page < length set
in_range set page h1 = grind (arith, common_steps, nat_tests)

pub has_room : (space : SpaceState) (role : ℕ) (run : Run) → IsSpace space → role < role_count → HasFree space → AreTagged space role run → IsRun run → length (all_numbers run) < space.pages
unfolding IsDistinct
has_room space role run shape within free tagged is_run =
    let numbers = all_numbers run in
    let few : length (free.0 ∷ numbers) ≤ space.pages =
    length-le_from_distinct_below (free.0 ∷ numbers) space.pages (all_apart numbers free.0 (λ has. free.1.no_role role (tagged free.0 has)), is_run.apart)
    (λ q found. below q (Contains-append_cases (free.0 ∷ []) numbers q (Contains-from_any eqb-true q (free.0 ∷ numbers) found))) in
    omega (arith, few)
  where
    below : (q : ℕ) → Contains (free.0 ∷ []) q ⊎ Contains (all_numbers run) q → q < space.pages
    below q (inl is_free) = let first = free.1.in_range in omega (arith, first, only_one free.0 q is_free)
    below q (inr is_run) = omega (arith, in_range _ q (tagged q is_run), shape.of_role role within)

-- ---- the list that was pushed

all_fenced : (list : List Fence) (writer : WriterState) → length list ≡ 0 → writer.component.pages ≡ 0 → length list + unfenced writer ≡ writer.component.pages
all_fenced list writer h1 h2 = grind (arith, common_steps, nat_tests)

pub nothing_pushed : (sizes : Sizes) (honest : Bool) (file : List ℕ) (space : SpaceState) (writer : WriterState) (filter : BitState) (fences : FencesState) → Holds writer empty_run → IsRun empty_run → IsCounted writer
    → Guide filter fences [] → HasPushed sizes honest file space writer filter fences []
nothing_pushed sizes honest file space writer filter fences held is_run counted guide = record {
  run = empty_run;
  held = held;
  is_run = is_run;
  guide = guide;
  one_a_page = all_fenced fences.list writer (ap length guide.fences_are) (sym held.pages_is);
  counted = counted;
  tagged = λ n has. absurd (none n has);
  entries_are = refl;
  stands = λ told. tt;
}
  where
    none : (n : ℕ) → Contains {X = ℕ} [] n → ⊥
    none n (k, within, is) = omega (arith, within)

pub room_for_more : (sizes : Sizes) (honest : Bool) (file : List ℕ) (space : SpaceState) (writer : WriterState) (filter : BitState) (fences : FencesState) (entries : List (Key × Rec))
    → HasPushed sizes honest file space writer filter fences entries → IsSpace space → HasFree space → writer.component.pages < space.pages
room_for_more sizes honest file space writer filter fences entries has shape free =
    omega (arith, has_room space writer.role has.run shape has.counted.role free has.tagged has.is_run, has.held.pages_is)

-- the list with one entry more
list_more : (key : Key) (rec : Rec) (es : Entries) (entries : List (Key × Rec)) → es ≡ entries → es ++ (key, rec) ∷ [] ≡ (entries ++ (key, rec) ∷ [])
list_more key rec es entries are = ap (λ (l : Entries). l ++ (key, rec) ∷ []) are

-- a page's first entry gives it its fence
fenced_here : (key : Key) (fences : FencesState) (writer new : WriterState) → 0 < writer.component.pages → 0 < length new.buffer.text → new.component.pages ≡ writer.component.pages
    → length fences.list + unfenced writer ≡ writer.component.pages → length (fenced key writer fences).list + unfenced new ≡ new.component.pages
fenced_here key fences writer new h1 h2 h3 h4 = grind (arith, common_steps, nat_tests, length-append)

fenced_on : (list : List Fence) (fence : Fence) (writer new : WriterState) → HasEntries writer → 0 < length new.buffer.text → new.component.pages ≡ writer.component.pages + 1
    → length list + unfenced writer ≡ writer.component.pages → length (list ++ fence ∷ []) + unfenced new ≡ new.component.pages
fenced_on list fence writer new h1 h2 h3 h4 = grind (arith, common_steps, nat_tests, length-append)

with_first : (key : Key) (writer : WriterState) (fences : FencesState) → length writer.buffer.text ≡ 0 → (fenced key writer fences).list ≡ fences.list ++ next_fence key writer ∷ []
with_first key writer fences h1 = grind (arith, common_steps, nat_tests)

with_more : (key : Key) (writer : WriterState) (fences : FencesState) → 0 < length writer.buffer.text → fenced key writer fences ≡ fences
with_more key writer fences h1 = grind (arith, common_steps, nat_tests)

guide_put : (writer : WriterState) (filter after : BitState) (fences : FencesState) (key : Key) (rec : Rec) (closed : List RunPage) (number : ℕ) (es : Entries) → Adds key filter after
    → Holds writer (record { closed = closed; number = number; entries = es }) → Guide filter fences (closed ++ page_of number es)
    → Guide after (fenced key writer fences) (closed ++ page_of number (es ++ (key, rec) ∷ []))
guide_put writer filter after fences key rec closed number [] adds held guide =
    guide_first filter after fences (fenced key writer fences) key rec closed number writer.component adds
    (with_first key writer fences (no_text writer.buffer [] held.buffer refl)
    ∙ λ i. fences.list ++ record { first = key; page = held.number i; entries = writer.component.entries; weight = writer.component.weight } ∷ [])
    held.entries_is held.weight_is guide
guide_put writer filter after fences key rec closed number (e ∷ es) adds held guide =
    subst (λ (f : FencesState). Guide after f (closed ++ page_of number ((e ∷ es) ++ (key, rec) ∷ [])))
    (sym (with_more key writer fences (text_some writer.buffer e es held.buffer)))
    (guide_here filter after fences key rec (record { closed = closed; number = number; entries = e ∷ es }) adds (λ none. absurd (cc)) guide)

pub more_here : (sizes : Sizes) (honest : Bool) (file : List ℕ) (space : SpaceState) (writer new : WriterState) (filter after : BitState) (fences : FencesState) (key : Key) (rec : Rec) (entries : List (Key × Rec))
    → AreRising ((entries ++ (key, rec) ∷ [])) → 0 < writer.component.pages → ((run : Run) → Holds writer run → Holds new (pushed_here key rec run)) → Adds key filter after → new.role ≡ writer.role
    → new.component.pages ≡ writer.component.pages → 0 < length new.buffer.text → IsCounted new
    → HasPushed sizes honest file space writer filter fences entries → HasPushed sizes honest file space new after (fenced key writer fences) (entries ++ (key, rec) ∷ [])
more_here sizes honest file space writer new filter after fences key rec entries rise some holds adds role pages text counted has =
    let run = has.run in
    let open_one = has_open writer run has.held some in
    let is = list_more key rec (entries_of (pages_of run)) entries has.entries_are in
    record {
      run = pushed_here key rec run;
      held = holds run has.held;
      is_run = grows_here key rec run has.is_run open_one (subst AreRising (sym is) rise);
      guide = guide_put writer filter after fences key rec run.closed run.number run.entries adds has.held has.guide;
      one_a_page = fenced_here key fences writer new some text pages has.one_a_page;
      counted = counted;
      tagged = subst (λ r. AreTagged space r (pushed_here key rec run)) (sym role) (tagged_here space writer.role key rec run has.tagged open_one);
      entries_are = entries_here key rec run ∙ is;
      stands = has.stands;
    }

pub more_on : (sizes : Sizes) (honest : Bool) (old_file file : List ℕ) (old space : SpaceState) (writer new : WriterState) (filter after : BitState) (fences fences_after : FencesState) (page : ℕ) (key : Key) (rec : Rec) (entries : List (Key × Rec))
    → AreRising ((entries ++ (key, rec) ∷ [])) → HasEntries writer → IsFree old page → Claims writer.role page old space
    → ((run : Run) → (run.entries ≡ [] → run.closed ≡ []) → Holds writer run → Holds new (pushed_on page key rec run))
    → Adds key filter after → fences_after.list ≡ fences.list ++ record { first = key; page = page; entries = writer.component.entries; weight = writer.component.weight } ∷ []
    → ((run : Run) → (run.entries ≡ [] → run.closed ≡ []) → Holds writer run → IsRun run → IsTrue honest → Stands sizes run old_file → Stands sizes (pushed_on page key rec run) file) → new.role ≡ writer.role
    → new.component.pages ≡ writer.component.pages + 1 → 0 < length new.buffer.text → IsCounted new
    → HasPushed sizes honest old_file old writer filter fences entries → HasPushed sizes honest file space new after fences_after (entries ++ (key, rec) ∷ [])
more_on sizes honest old_file file old space writer new filter after fences fences_after page key rec entries rise begun free claims holds adds fence_is closed role pages text counted has =
    let run = has.run in
    let some = is_begun writer run.closed run.number run.entries has.held begun in
    let is = list_more key rec (entries_of (pages_of run)) entries has.entries_are in
    record {
      run = pushed_on page key rec run;
      held = holds run some has.held;
      is_run = grows_on old writer.role page key rec run some has.is_run has.tagged free (subst AreRising (sym is) rise);
      guide = guide_on filter after fences fences_after page key rec run writer.component adds fence_is has.held.entries_is has.held.weight_is has.guide;
      one_a_page = ap (λ (l : List Fence). length l + unfenced new) fence_is ∙ fenced_on fences.list _ writer new begun text pages has.one_a_page;
      counted = counted;
      tagged = subst (λ r. AreTagged space r (pushed_on page key rec run)) (sym role) (tagged_on old space writer.role page key rec run some has.tagged claims);
      entries_are = entries_on page key rec run ∙ is;
      stands = λ told. closed run some has.held has.is_run told (has.stands told);
    }

-- ---- a run that is taken up

one_unfenced : (role : ℕ) (finished : Component) (page : ℕ) → unfenced (resumed role finished page) ≡ 1
one_unfenced role finished page = grind (arith, common_steps, nat_tests)

pub pushed_before : (sizes : Sizes) (honest : Bool) (file : List ℕ) (space : SpaceState) (role : ℕ) (finished : Component) (page : ℕ) (filter : BitState) (fences : FencesState) (closed : List RunPage)
    → IsCounted (resumed role finished page) → IsResumed sizes honest file space role finished page closed → Guide filter fences closed → length fences.list ≡ finished.pages
    → HasPushed sizes honest file space (resumed role finished page) filter fences (entries_of closed)
pushed_before sizes honest file space role finished page filter fences [] counted is guide one = absurd (is.some refl)
pushed_before sizes honest file space role finished page filter fences (p ∷ ps) counted is guide one =
    let closed : List RunPage = p ∷ ps in
    let run : Run = record { closed = closed; number = page; entries = [] } in
    let same : closed ++ [] ≡ closed = append-nil closed in
    record {
      run = run;
      held = record {
        buffer = has_none;
        fits = omega arith;
        number = refl;
        first_is = is.first_is;
        pages_is = omega (arith, length-append (numbers_of closed) (page ∷ []), length-map closed (λ (q : RunPage). q.number), is.pages_is);
        entries_is = ap (λ (l : List RunPage). length (entries_of l)) same ∙ is.entries_is;
        weight_is = ap (λ (l : List RunPage). entries_weight (entries_of l)) same ∙ is.weight_is;
      };
      is_run = record { rise = subst (λ (l : List RunPage). AreRising (entries_of l)) (sym same) is.rise; apart = is.apart };
      guide = subst (Guide filter fences) (sym same) guide;
      one_a_page = omega (arith, one, one_unfenced role finished page);
      counted = counted;
      tagged = is.tagged;
      entries_are = ap entries_of same;
      stands = is.chained;
    }

-- a key that comes next is above the fences
pub next_above : (sizes : Sizes) (honest : Bool) (file : List ℕ) (space : SpaceState) (writer : WriterState) (filter : BitState) (fences : FencesState) (entries : Entries) (key : Key) (rec : Rec)
    → HasPushed sizes honest file space writer filter fences entries → AreRising (entries ++ (key, rec) ∷ []) → IsAboveAll key fences.list
next_above sizes honest file space writer filter fences entries key rec h1 h2 = grind (arith, common_steps, nat_tests, fences_below)
