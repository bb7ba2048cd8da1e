-- Filter and fences that are filled while a component's pages are walked.
use Rattle.std.proofs.Common.{
  ◌≡◌,
  ◌≢◌,
  ℕ,
  ◌+◌,
  ◌<◌,
  ◌≤◌,
  List,
  [],
  ◌∷◌,
  ◌++◌,
  length,
  refl,
  ap,
  sym,
  subst,
  ◌∙◌,
  arith,
  inl,
  inr,
  Option,
  Some,
  None,
  append-nil,
  append_assoc,
  length-append,
}
use Rattle.std.proofs.lemmas.Grind.{common_steps}
use Rattle.std.proofs.lemmas.Bool.Decides.{nat_tests}
use Rattle.std.specs.List.{AllByRecursion, last_or}
use Rattle.std.proofs.lemmas.Bool.{cases_lt}
use Rattle.std.specs.declared.cmp.Ordering.TheVariants.{Less}
use Rattle.std.proofs.lemmas.List.{append_cancel_left, map-append}
use Rattle.std.proofs.lemmas.List.Elements.{All-append, All-cons, All-nil}
use Rattle.blsm_model.specs.declared.component.Component.{Component}
use Rattle.blsm_model.specs.declared.key.Key.{Key}
use Rattle.blsm_model.specs.Components.{no_page}
use Rattle.blsm_model.specs.Keys.{key_cmp}
use Rattle.blsm_model.specs.Sizes.{Sizes}
use Rattle.blsm_model.specs.Geometry.{page_count}
use Rattle.record_delta.specs.declared.record.Rec.{Rec}
use Rattle.record_delta.specs.Entries.{Entries, entries_weight}
use Rattle.page_file.specs.Entry.{AreRising, keys_of}
use Rattle.page_file.specs.Component.{RunPage, HasList, ReadsAs, entries_of}
use Rattle.page_file.proofs.ComponentLemmas.{entries_join}
use Rattle.bloom_bits.specs.declared.fences.Fence.{Fence}
use Rattle.bloom_bits.specs.Fences.{IsAboveAll}
use Rattle.bloom_bits.specs.Filter.{HasKeys}
use Rattle.bloom_bits.specs.Guides.{Guide, fence_of, fences_from, fences_of}
use Rattle.bloom_bits.proofs.PartLemmas.{fences_join, rising_apart}
use Rattle.run_cursor.specs.Cursor.{CursorState}
use Rattle.run_cursor.specs.Given.{HasGiven}
use Rattle.tree_runs.specs.declared.guides.PageStart.{PageStart}
use Rattle.tree_runs.specs.Noting.{HasSameRoom, KeepsRooms, Notes, fence_at}
use Rattle.tree_runs.specs.Runs.{GuideState, IsFilled, IsReserved, guide_at}
use Rattle.tree_runs.proofs.GuideLemmas.{reserved_still}
use Rattle.tree_reading.specs.Walk.{IsClear, IsGuideAt, StartsAt}
use Rattle.output_reading.proofs.PagesLemmas.{last_push, pages_stay, pages_turn, rise_front, same_or_not, same_pages, still}
use Rattle.tree_reading.proofs.WalkLemmas.{none_here}

-- ---- room

pub same_room : {tag : ℕ} {old new : List GuideState} → KeepsRooms tag old new → HasSameRoom old new
same_room {tag} {old} {new} keeps = record {
  many = keeps.many;
  bits = λ other. elim (same_or_not other tag) [
    | inl same ↦ subst (λ (t : ℕ). (guide_at new t).filter.reserved ≡ (guide_at old t).filter.reserved) (sym same) keeps.bits
    | inr differs ↦ ap (λ (g : GuideState). g.filter.reserved) (keeps.others other differs)
  ];
  fences = λ other. elim (same_or_not other tag) [
    | inl same ↦ subst (λ (t : ℕ). (guide_at new t).fences.reserved ≡ (guide_at old t).fences.reserved) (sym same) keeps.fences
    | inr differs ↦ ap (λ (g : GuideState). g.fences.reserved) (keeps.others other differs)
  ];
}

pub room_then : {old mid new : List GuideState} → HasSameRoom old mid → HasSameRoom mid new → HasSameRoom old new
room_then one two = record { many = two.many ∙ one.many; bits = λ tag. two.bits tag ∙ one.bits tag; fences = λ tag. two.fences tag ∙ one.fences tag }

-- there is room for a component still whose tag has this number
pub room_kept : {old new : List GuideState} {weight : ℕ} (tag number : ℕ) → HasSameRoom old new → number ≡ tag → (tag < length old
    → IsReserved weight (guide_at old tag))
    → number < length new → IsReserved weight (guide_at new number)
room_kept {old} {new} {weight} tag number same is had below =
    subst (λ (t : ℕ). IsReserved weight (guide_at new t)) (sym is) (reserved_still tag same (had (omega (arith, below, is, same.many))))

-- ---- a page's first key is above those of the pages before

below_last : (low : Key × Rec) (es : Entries) → AllByRecursion (λ (x : Key × Rec). AllByRecursion (λ (y : Key × Rec). key_cmp x.0 y.0 ≡ Less)
    (low ∷ [])) es
    → AllByRecursion (λ (x : Key × Rec). key_cmp x.0 low.0 ≡ Less) es
below_last low [] all = tt
below_last low (e ∷ es) all = (all.0.0, below_last low es all.1)

parts_of : (P : Key × Rec → Type 0) (xs ys : Entries) → AllByRecursion P (xs ++ ys) → AllByRecursion P xs × AllByRecursion P ys
parts_of P [] ys all = (tt, all)
parts_of P (x ∷ xs) ys all = let rest = parts_of P xs ys all.1 in ((all.0, rest.0), rest.1)

fence_below : (low : Key) (count weight number : ℕ) (es : Entries) → AllByRecursion (λ (x : Key × Rec). key_cmp x.0 low ≡ Less) es → IsAboveAll low
    (fence_of count weight number es)
fence_below low count weight number [] below = All-nil (λ (f : Fence). key_cmp f.first low ≡ Less)
fence_below low count weight number (e ∷ es) below =
    All-cons (λ (f : Fence). key_cmp f.first low ≡ Less) (record { first = e.0; page = number; entries = count; weight = weight }) [] below.0
    (All-nil (λ (f : Fence). key_cmp f.first low ≡ Less))

fences_below : (low : Key) (count weight : ℕ) (ps : List RunPage) → AllByRecursion (λ (x : Key × Rec). key_cmp x.0 low ≡ Less) (entries_of ps) →
    IsAboveAll low (fences_from count weight ps)
fences_below low count weight [] below = All-nil (λ (f : Fence). key_cmp f.first low ≡ Less)
fences_below low count weight (p ∷ ps) below =
    let parts = parts_of (λ (x : Key × Rec). key_cmp x.0 low ≡ Less) p.entries (entries_of ps) below in
    let counted = count + length p.entries in
    let weighed = weight + entries_weight p.entries in
    All-append (λ (f : Fence). key_cmp f.first low ≡ Less) (fence_of count weight p.number p.entries) (fences_from counted weighed ps)
    (fence_below low count weight p.number p.entries parts.0)
    (fences_below low counted weighed ps parts.1)

above_all : (ps : List RunPage) (e : Key × Rec) → AreRising (entries_of ps ++ e ∷ []) → IsAboveAll e.0 (fences_of ps)
above_all ps e rise = fences_below e.0 0 0 ps (below_last e (entries_of ps) (rising_apart (entries_of ps) (e ∷ []) rise))

-- there is one for each page at most
fence_few : (count weight number : ℕ) (es : Entries) → length (fence_of count weight number es) ≤ 1
fence_few count weight number [] = omega arith
fence_few count weight number (e ∷ es) = omega arith

fences_few : (count weight : ℕ) (ps : List RunPage) → length (fences_from count weight ps) ≤ length ps
fences_few count weight [] = omega arith
fences_few count weight (p ∷ ps) =
    let counted = count + length p.entries in
    let weighed = weight + entries_weight p.entries in
    omega (
      arith,
      length-append (fence_of count weight p.number p.entries) (fences_from counted weighed ps),
      fence_few count weight p.number
          p.entries,
      fences_few counted weighed ps,
    )

-- ---- an entry more

-- The filter has the keys of what was given, and the fences are those of the pages that were read.
pub record IsNotedBy (guide : GuideState) (given : Entries) (pages : List RunPage) : Type 0 where
  pub keys : HasKeys guide.filter (keys_of given)
  pub fences : guide.fences.list ≡ fences_of pages

keys_push : (given : Entries) (e : Key × Rec) → keys_of given ++ e.0 ∷ [] ≡ keys_of (given ++ e ∷ [])
keys_push given e = sym (map-append (λ (x : Key × Rec). x.0) given (e ∷ []))

-- the fence of a page that begins with it
fence_first : (page count weight number n m : ℕ) (es rest : Entries) (e : Key × Rec) → es ≡ e ∷ rest → page ≡ number → count ≡ n → weight ≡ m
    → record { first = e.0; page = page; entries = count; weight = weight } ∷ [] ≡ fence_of n m number es
fence_first page count weight number n m es rest e is same counted weighed =
    (λ i. record { first = e.0; page = same i; entries = counted i; weight = weighed i } ∷ []) ∙ sym (ap (fence_of n m number) is)

pub noted_on : (sizes : Sizes) (run : Component) (old new : CursorState) (start : Option PageStart) (given : Entries) (e : Key × Rec)
    (guide after : GuideState) (file : List ℕ) → page_count sizes ≤ no_page
    → (g : HasGiven sizes run old given file) → (h : HasGiven sizes run new (given ++ e ∷ []) file) → StartsAt run old start →
    (old.behind ≡ [] → 0 < old.pages → old.pages ≡ new.pages + 1)
    → (old.behind ≢ [] → new.pages ≡ old.pages) → new.pages ≤ old.pages → run.pages ≤ guide.fences.reserved → Notes e.0 start guide after → IsNotedBy
    guide given g.pages
    → IsNotedBy after (given ++ e ∷ []) h.pages
noted_on sizes run old new None given e guide after file few g h starts turns stays fewer room notes was = record {
  keys = subst (HasKeys after.filter) (keys_push given e) (notes.keys (keys_of given) was.keys);
  fences =
      ap (λ f. f.list) (notes.none refl) ∙ was.fences
      ∙ ap fences_of (sym (pages_stay sizes run old new given (given ++ e ∷ []) file few g h
      (still old.behind old.pages new.pages starts stays fewer)));
}
noted_on sizes run old new (Some start) given e guide after file few g h starts turns stays fewer room notes was =
    let turned = pages_turn sizes run old new given (given ++ e ∷ []) file few g h (turns starts.0 starts.1) in
    let page = turned.page in
    let before : entries_of g.pages ≡ given = none_here g starts.0 in
    let joined : entries_of h.pages ≡ entries_of g.pages ++ page.entries =
    ap entries_of turned.pages_are ∙ entries_join g.pages (page ∷ []) ∙ ap (λ (l : Entries). entries_of g.pages ++ l) (append-nil page.entries) in
    let begins : page.entries ≡ e ∷ h.here =
    append_cancel_left given page.entries (e ∷ h.here) (ap (λ (l : Entries). l ++ page.entries) (sym before) ∙ sym joined ∙ h.entries_are ∙
    append_assoc given (e ∷ []) h.here) in
    let rise : AreRising (given ++ e ∷ []) = rise_front (given ++ e ∷ []) h.here h.rise in
    let above : IsAboveAll e.0 guide.fences.list =
    subst (IsAboveAll e.0) (sym was.fences) (above_all g.pages e (subst (λ (l : Entries). AreRising (l ++ e ∷ [])) (sym before) rise)) in
    let fenced = notes.some (omega (arith, ap (λ l. length l) was.fences, fences_few 0 0 g.pages, g.pages_is, starts.1, room)) above in
    let counted : start.entries ≡ 0 + length (entries_of g.pages) = omega
    (arith, ap (λ (s : PageStart). s.entries) starts.2, g.entries_is, ap (λ (l : Entries). length l) before) in
    let weighed : start.weight ≡ 0 + entries_weight (entries_of g.pages) = omega
    (arith, ap (λ (s : PageStart). s.weight) starts.2, g.weight_is, ap entries_weight before) in
    let last : fence_at e.0 start ∷ [] ≡ fences_from (0 + length (entries_of g.pages)) (0 + entries_weight (entries_of g.pages)) (page ∷ []) =
    fence_first start.page start.entries start.weight page.number _ _ page.entries h.here e begins
    (ap (λ (s : PageStart). s.page) starts.2 ∙ sym turned.number_is) counted weighed
    ∙ sym (append-nil (fence_of (0 + length (entries_of g.pages)) (0 + entries_weight (entries_of g.pages)) page.number page.entries)) in
    record {
      keys = subst (HasKeys after.filter) (keys_push given e) (notes.keys (keys_of given) was.keys);
      fences =
          fenced ∙ (λ i. was.fences i ++ fence_at e.0 start ∷ []) ∙ ap (λ l. fences_of g.pages ++ l) last ∙ sym (fences_join 0 0 g.pages (page ∷ []))
          ∙ ap fences_of (sym turned.pages_are);
    }

-- ---- a walk

-- What was noted of a walk with this cursor, for the filter and fences of a tag.
pub record HasNoted (sizes : Sizes) (run : Component) (cursor : CursorState) (tag : ℕ) (guides : List GuideState) (file : List ℕ) : Type 0 where
  pub given : Entries
  pub has : HasGiven sizes run cursor given file
  pub noted : IsNotedBy (guide_at guides tag) given has.pages

pub noted_start : (sizes : Sizes) (run : Component) (cursor : CursorState) (tag : ℕ) (guides : List GuideState) (file : List ℕ) → HasGiven sizes run
    cursor [] file → cursor.pages ≡ run.pages → IsClear run tag guides
    → HasNoted sizes run cursor tag guides file
noted_start sizes run cursor tag guides file g all clear = record {
  given = [];
  has = g;
  noted = record { keys = clear.none; fences = clear.no_fences ∙ none g.pages (omega (arith, g.pages_is, all)) };
}
  where
    none : (ps : List RunPage) → length ps ≡ 0 → [] ≡ fences_of ps
    none ps h1 = grind (arith, common_steps, nat_tests)

-- once the cursor is at the end it has read no page more
pub ends_there : (sizes : Sizes) (run : Component) (old new : CursorState) (given : Entries) (file : List ℕ) → page_count sizes ≤ no_page →
    (g : HasGiven sizes run old given file) → (h : HasGiven sizes run new given file)
    → (old.behind ≡ [] → 0 < old.pages → old.pages ≡ new.pages + 1) → (old.behind ≢ [] → new.pages ≡ old.pages) → new.pages ≤ old.pages → h.pages ≡
    g.pages
ends_there sizes run old new given file few g h turns stays fewer = by old.behind refl
  where
    no_page_more : old.behind ≡ [] → 0 < old.pages → ⊥
    no_page_more none some =
        let turned = pages_turn sizes run old new given given file few g h (turns none some) in
        let page = turned.page in
        let joined : entries_of h.pages ≡ entries_of g.pages ++ page.entries =
        ap entries_of turned.pages_are ∙ entries_join g.pages (page ∷ []) ∙ ap (λ (l : Entries). entries_of g.pages ++ l) (append-nil page.entries) in
        let all : given ++ h.here ≡ given ++ page.entries = sym h.entries_are ∙ joined ∙ ap (λ (l : Entries). l ++ page.entries) (none_here g none) in
        omega (
          arith,
          ap (λ (l : Entries). length l) (append_cancel_left given h.here page.entries all),
          h.on_last page
              (ap (last_or None) turned.pages_are ∙ last_push None g.pages page),
        )

    by : (behind : List ℕ) → old.behind ≡ behind → h.pages ≡ g.pages
    by [] is =
        elim (cases_lt 0 old.pages) [
          | inl some ↦ absurd (no_page_more is some)
          | inr none ↦ pages_stay sizes run old new given given file few g h (omega (arith, fewer, none))
        ]
    by (x ∷ xs) is = pages_stay sizes run old new given given file few g h (stays (λ none. absurd (cc)))

-- at its end the filter and the fences are those of the pages as which the component reads
pub noted_end : (sizes : Sizes) (run : Component) (cursor : CursorState) (tag : ℕ) (guides : List GuideState) (given : Entries) (file : List ℕ)
    (read pages : List RunPage) → page_count sizes ≤ no_page
    → IsNotedBy (guide_at guides tag) given read → (h : HasGiven sizes run cursor given file) → h.pages ≡ read → HasList sizes run given file →
    cursor.pages ≡ 0 → ReadsAs sizes run pages file
    → IsGuideAt tag guides pages
noted_end sizes run cursor tag guides given file read pages few noted h there list none reads =
    let same : h.pages ≡ pages = same_pages sizes h.pages pages h.end None file few h.chained reads.chained (h.first_is ∙ sym reads.first_is)
    (omega (arith, h.pages_is, none, reads.pages_is)) in
    let all : list.pages ≡ pages = same_pages sizes list.pages pages None None file few list.reads.chained reads.chained
    (list.reads.first_is ∙ sym reads.first_is) (list.reads.pages_is ∙ sym reads.pages_is) in
    record {
      keys = subst (λ (es : Entries). HasKeys (guide_at guides tag).filter (keys_of es)) (sym list.entries_are ∙ ap entries_of all) noted.keys;
      fences_are = noted.fences ∙ ap fences_of (sym there ∙ same);
    }

-- a component that reads has no more pages than there is room for
pub pages_fit : (run : Component) (guide : GuideState) → IsReserved run.weight guide → IsFilled run → run.pages ≤ guide.fences.reserved
pages_fit run guide is filled = omega (arith, is.pages, filled.full)

-- ---- tag by tag

pub guide_named : {tag is_tag : ℕ} (guides : List GuideState) (pages : List RunPage) → tag ≡ is_tag → IsGuideAt tag guides pages → IsGuideAt is_tag
    guides pages
guide_named guides pages is has = subst (λ t. IsGuideAt t guides pages) is has

-- another tag's pages were walked
pub guide_after : {role : ℕ} {old new : List GuideState} (tag : ℕ) (pages : List RunPage) → KeepsRooms role old new → tag ≢ role → IsGuideAt tag old
    pages → IsGuideAt tag new pages
guide_after tag pages keeps differs has = subst (λ (g : GuideState). Guide g.filter g.fences pages) (sym (keeps.others tag differs)) has
