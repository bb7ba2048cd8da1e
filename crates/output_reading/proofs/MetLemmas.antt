-- An output that is met entry by entry, and where it departs.
use Rattle.std.proofs.Common.{
  ◌≡◌,
  ◌⊎◌,
  ◌≢◌,
  ◌↔◌,
  ℕ,
  ◌+◌,
  ◌^◌,
  ◌<◌,
  ◌≤◌,
  List,
  [],
  ◌∷◌,
  ◌++◌,
  length,
  refl,
  ap,
  sym,
  subst,
  ◌∙◌,
  arith,
  inl,
  inr,
  ⊎_elim,
  Option,
  Some,
  None,
  append-nil,
  append_assoc,
  length-append,
}
use Rattle.std.proofs.lemmas.Grind.{common_steps}
use Rattle.std.proofs.lemmas.Bool.Decides.{nat_tests}
use Rattle.std.specs.Prelude.{nat_eq, IfSome, Err}
use Rattle.std.specs.List.{Contains, IsDistinct, last_or}
use Rattle.std.proofs.lemmas.List.{nil_from_length}
use Rattle.std.proofs.lemmas.List.Elements.{Contains-append_left, Contains-push, Contains-push_cases}
use Rattle.blsm_model.specs.declared.component.Component.{Component}
use Rattle.blsm_model.specs.declared.key.Key.{Key}
use Rattle.blsm_model.specs.Components.{no_page}
use Rattle.blsm_model.specs.Sizes.{Sizes}
use Rattle.blsm_model.specs.Geometry.{page_count}
use Rattle.record_delta.specs.declared.record.Rec.{Rec}
use Rattle.blsm_model.specs.declared.row.Value.{Value}
use Rattle.record_delta.specs.declared.record.Rec.TheVariants.{Base}
use Rattle.record_delta.specs.Records.{settle}
use Rattle.record_delta.specs.Entries.{Entries, entries_weight, settled_base, settled_entries}
use Rattle.page_file.specs.declared.file.Broken.{Broken}
use Rattle.page_file.specs.declared.file.Broken.TheVariants.{Fault, Damaged}
use Rattle.page_file.specs.Entry.{AreRising, entries_bytes}
use Rattle.page_file.specs.Page.{page_number, IsPageOf}
use Rattle.page_file.specs.File.{page_at}
use Rattle.page_file.specs.Component.{RunPage, AreChained, entries_of, first_number, numbers_of}
use Rattle.page_file.proofs.ComponentLemmas.{chain_split, entries_join, first_join, rise_back}
use Rattle.page_file.proofs.PageLemmas.{page_same}
use Rattle.page_space.specs.Space.{Claims, HasRole, IsFree, SpaceState}
use Rattle.run_cursor.specs.Cursor.{CursorState, GoesOnAt, IsDamageAt, from_head}
use Rattle.run_cursor.specs.Given.{HasGiven, HasGivenMore}
use Rattle.run_cursor.proofs.CursorLemmas.{none_in_none}
use Rattle.output_reading.specs.declared.output.Output.{Output}
use Rattle.output_reading.specs.Output.{BeginsAs, GoesOnAs, IsDepartedPage, IsFront, IsLastPage}
use Rattle.output_reading.specs.Walk.{
  Enters,
  HasMet,
  IsEntered,
  IsRefused,
  IsStopped,
  TakesUp,
  TellsStop,
  at_last,
  departs,
  due,
  in_use,
  nowhere,
  on,
  short,
  unbounded,
}
use Rattle.output_reading.proofs.PagesLemmas.{
  chain_holds,
  distinct_front,
  is_some,
  last_push,
  numbers_push,
  page_holds,
  pages_stay,
  pages_turn,
  rise_front,
  still,
  takes_push,
  unsnoc,
}

-- ---- fronts of lists

pub front_itself : (entries : Entries) → IsFront entries entries
front_itself entries = ([], sym (append-nil entries))

pub front_then : (a b c : Entries) → IsFront a b → IsFront b c → IsFront a c
front_then a b c one other = (one.0 ++ other.0, other.1 ∙ ap (λ (l : Entries). l ++ other.0) one.1 ∙ append_assoc a one.0 other.0)

front_short : (es last met tail : Entries) → es ++ last ≡ met ++ tail → length es ≤ length met → IsFront es met
front_short [] last met tail same few = (met, refl)
front_short (e ∷ es) last [] tail same few = absurd (omega (arith, few))
front_short (e ∷ es) last (m ∷ met) tail same few =
    let first : m ≡ e = cc in
    let back : es ++ last ≡ met ++ tail = cc in
    let more = front_short es last met tail back (omega (arith, few)) in
    (more.0, λ i. first i ∷ more.1 i)

behind_front : (met xs ys : Entries) → met ++ xs ≡ met ++ ys → xs ≡ ys
behind_front [] xs ys same = same
behind_front (m ∷ met) xs ys same = let back : met ++ xs ≡ met ++ ys = cc in behind_front met xs ys back

pub longer : (es more : Entries) → IsFront (es ++ more) es → length more ≡ 0
longer es more front = omega (arith, ap (λ (l : Entries). length l) front.1, length-append (es ++ more) front.0, length-append es more)

-- ---- what a cursor over an output has read

module _ {sizes : Sizes} (run : Component) {cursor : CursorState} {given : Entries} {file : List ℕ}
    (g : HasGiven sizes (unbounded run) cursor given file) where
  pub none_here : cursor.behind ≡ [] → g.here ≡ []
  none_here none = none_in_none g.here (sym none ∙ g.behind_is)

  pub all_given : cursor.behind ≡ [] → entries_of g.pages ≡ given
  all_given none = g.entries_are ∙ ap (λ (l : Entries). given ++ l) (none_here none) ∙ append-nil given

some_here : (behind : List ℕ) (here : Entries) → behind ≡ entries_bytes here → (behind ≡ [] → ⊥) → 0 < length here
some_here behind [] is some = absurd (some is)
some_here behind (e ∷ es) is some = omega arith

-- ---- the beginning

pub met_start : (sizes : Sizes) (run : Component) (earlier : List ℕ) (role : ℕ) (space : SpaceState) (output : Output) (file : List ℕ) → HasGiven
    sizes (unbounded run) output.cursor [] file
    → output.cursor.pages ≡ run.pages + 1 → output.page ≡ run.first → TakesUp earlier space → HasMet sizes run earlier role space output space [] file
met_start sizes run earlier role space output file g all first takes = record {
  has = g;
  takes = subst (λ (l : List RunPage). TakesUp (earlier ++ numbers_of l) space) (sym none)
      (subst (λ (l : List ℕ). TakesUp l space) (sym (append-nil earlier)) takes);
  tags = λ k. (
    λ has. inl has,
    λ either. ⊎_elim (λ has. has) (λ has. absurd
        (no_number k (subst (λ (l : List RunPage). Contains (numbers_of l) k) none has))) either,
  );
  page_is = λ last is. absurd (no_last last (sym (ap (last_or None) none) ∙ is));
  at_first = λ _. first;
}
  where
    none : g.pages ≡ []
    none = nil_from_length g.pages (omega (arith, g.pages_is, all))

    no_number : (k : ℕ) → Contains [] k → ⊥
    no_number k has = omega (arith, has.1)

    no_last : (last : RunPage) → None ≡ Some last → ⊥
    no_last last is = cc

-- ---- one entry further

some_pages : {sizes : Sizes} (run : Component) {cursor : CursorState} (given : Entries) (e : Key × Rec) {file : List ℕ} →
    (h : HasGiven sizes (unbounded run) cursor (given ++ e ∷ []) file) → h.pages ≡ [] → ⊥
some_pages run given e h none =
    omega (
      arith,
      ap (λ (l : List RunPage). length (entries_of l)) none,
      ap (λ (l : Entries). length l) h.entries_are,
      length-append
          (given ++ e ∷ []) h.here,
      length-append given (e ∷ []),
    )

met_turned : (sizes : Sizes) (run : Component) (earlier : List ℕ) (role : ℕ) (first space now : SpaceState) (old : Output) (cursor : CursorState)
    (page : ℕ) (given more : Entries) (p : RunPage) (file : List ℕ)
    → (h : HasMet sizes run earlier role first old space given file) → (g : HasGiven sizes (unbounded run) cursor more file) → g.pages ≡ h.has.pages
    ++ p ∷ [] → p.number ≡ page → IsFree space page
    → Claims role page space now → HasMet sizes run earlier role first (record { cursor = cursor; page = page }) now more file
met_turned sizes run earlier role first space now old cursor page given more p file h g parts number free claims = record {
  has = g;
  takes = subst (λ (l : List ℕ). TakesUp l now) (append_assoc earlier (numbers_of h.has.pages) (page ∷ []) ∙ ap (λ (l : List ℕ). earlier ++ l)
      (sym numbers))
      (takes_push (earlier ++ numbers_of h.has.pages) role page space now h.takes free claims);
  tags = λ k.
      let before : Contains (numbers_of h.has.pages) k → Contains (numbers_of g.pages) k =
      λ has. subst (λ (l : List ℕ). Contains l k) (sym numbers) (Contains-append_left (numbers_of h.has.pages) (page ∷ []) k has) in
      let this : Contains (numbers_of g.pages) page = subst (λ (l : List ℕ). Contains l page) (sym numbers)
      (Contains-push (numbers_of h.has.pages) page) in (
        λ has. ⊎_elim (λ was_so. ⊎_elim inl (λ one. inr (before one)) ((h.tags k).0 was_so))
            (λ same. inr (subst (Contains (numbers_of g.pages)) (sym same.1) this)) ((claims.tags role k).0 has),
        λ either. (claims.tags role k).1 (⊎_elim (λ old_so. inl ((h.tags k).1 (inl old_so)))
            (λ has. ⊎_elim (λ one. inl ((h.tags k).1 (inr one))) (λ same. inr (refl, sym same))
            (Contains-push_cases (numbers_of h.has.pages) page k (subst (λ (l : List ℕ). Contains l k) numbers has))) either),
      );
  page_is = λ last is. grind (arith, common_steps, nat_tests, last_push);
  at_first = λ none. absurd (omega (arith, ap (λ (l : List RunPage). length l) (sym parts ∙ none), length-append h.has.pages (p ∷ [])));
}
  where
    numbers : numbers_of g.pages ≡ numbers_of h.has.pages ++ page ∷ []
    numbers = ap numbers_of parts ∙ numbers_push h.has.pages p ∙ ap (λ k. numbers_of h.has.pages ++ k ∷ []) number

pub met_on : (sizes : Sizes) (run : Component) (earlier : List ℕ) (role : ℕ) (first space now : SpaceState) (old mid : Output) (cursor : CursorState)
    (given more : Entries) (file : List ℕ) → page_count sizes ≤ no_page
    → (h : HasMet sizes run earlier role first old space given file) → (g : HasGiven sizes (unbounded run) cursor more file) → IsEntered old mid role
    space now
    → (old.cursor.behind ≡ [] → 0 < old.cursor.pages → old.cursor.pages ≡ cursor.pages + 1) →
    (old.cursor.behind ≢ [] → cursor.pages ≡ old.cursor.pages) → cursor.pages ≤ old.cursor.pages
    → HasMet sizes run earlier role first (record { cursor = cursor; page = mid.page }) now more file
met_on sizes run earlier role first space now old mid cursor given more file few h g (due none some is free claims) turns stays fewer =
    let turned = pages_turn sizes (unbounded run) old.cursor cursor given more file few h.has g (turns none (omega (arith, some))) in
    met_turned sizes run earlier role first space now old cursor mid.page given more turned.page file h g turned.pages_are
    (turned.number_is ∙ sym is) free claims
met_on sizes run earlier role first space now old mid cursor given more file few h g (on none is same) turns stays fewer =
    let pages = pages_stay sizes (unbounded run) old.cursor cursor given more file few h.has g
    (still old.cursor.behind old.cursor.pages cursor.pages none stays fewer) in
    record {
      has = g;
      takes = subst (λ (l : List RunPage). TakesUp (earlier ++ numbers_of l) now) (sym pages)
          (subst (λ (s : SpaceState). TakesUp (earlier ++ numbers_of h.has.pages) s) (sym same) h.takes);
      tags = λ k. subst (λ (l : List RunPage). HasRole now role k ↔ (HasRole first role k ⊎ Contains (numbers_of l) k)) (sym pages)
          (subst (λ (s : SpaceState). HasRole s role k ↔ (HasRole first role k ⊎ Contains (numbers_of h.has.pages) k)) (sym same) (h.tags k));
      page_is = λ last is_last. h.page_is last (ap (last_or None) (sym pages) ∙ is_last) ∙ sym is;
      at_first = λ none_read. is ∙ h.at_first (sym pages ∙ none_read);
    }

-- ---- a page that departs

-- where the page that was read last departs
last_departs : (sizes : Sizes) (run : Component) (entries : Entries) (earlier : List ℕ) (cursor : CursorState) (given : Entries) (page : ℕ)
    (file : List ℕ) (ps : List RunPage) (p : RunPage) → page_count sizes ≤ no_page
    → (g : HasGiven sizes (unbounded run) cursor given file) → 0 < cursor.pages → g.pages ≡ ps ++ p ∷ [] → p.number ≡ page → IsDistinct nat_eq
    (earlier ++ numbers_of g.pages) → IsFront (entries_of ps) entries
    → ((next : ℕ) → g.end ≡ Some next → next < page_count sizes → IsFront (entries_of g.pages) entries → ⊥) → IsDepartedPage sizes run entries
    earlier page file
last_departs sizes run entries earlier cursor given page file ps p few g some parts number apart front not =
    let chained = chain_split sizes ps (p ∷ []) g.end file (subst (λ (l : List RunPage). AreChained sizes l g.end file) parts g.chained) in
    let whole : entries_of g.pages ≡ entries_of ps ++ p.entries = ap entries_of parts ∙ entries_join ps (p ∷ []) ∙ ap
    (λ (l : Entries). entries_of ps ++ l) (append-nil p.entries) in
    let many : length g.pages ≡ length ps + 1 = omega (arith, ap (λ (l : List RunPage). length l) parts, length-append ps (p ∷ [])) in
    record {
      pages = ps;
      begins = record {
        first_is =
            ap (λ k. page_number (first_number ps (Some k))) (sym number)
            ∙ sym (ap (λ (l : List RunPage). page_number (first_number l g.end)) parts ∙ ap page_number (first_join ps (p ∷ []) g.end)) ∙ g.first_is;
        chained = subst (λ k. AreChained sizes ps (Some k) file) number chained.0;
        apart =
            distinct_front (earlier ++ numbers_of ps) (p.number ∷ [])
            (subst (λ (l : List ℕ). IsDistinct nat_eq l) (ap (λ (l : List ℕ). earlier ++ l) (ap numbers_of parts ∙ numbers_push ps p) ∙ sym
            (append_assoc earlier (numbers_of ps) (p.number ∷ []))) apart);
        front = front;
        pages_few = omega (arith, many, g.pages_is, some);
      };
      more = omega (arith, many, g.pages_is, some);
      departs = inr (λ next here go.
          let there = subst (λ k. IsPageOf (page_count sizes) (Some next) here (page_at sizes k file)) (sym number) go.valid in
          let same = page_same (page_count sizes) (Some next) g.end here p.entries (page_at sizes p.number file) few there chained.1.1 in
          not next (sym same.0) go.valid.content.head.next_is (subst (λ (l : Entries). IsFront l entries)
          (ap (λ (l : Entries). entries_of ps ++ l) same.1 ∙ sym whole) go.front));
    }

-- what was read before the last page was met
before_last : (sizes : Sizes) (run : Component) (cursor : CursorState) (given front tail : Entries) (file : List ℕ) (ps : List RunPage) (p : RunPage)
    → (g : HasGiven sizes (unbounded run) cursor given file)
    → g.pages ≡ ps ++ p ∷ [] → given ++ g.here ≡ front ++ tail → length tail ≤ length g.here + 1 → IsFront (entries_of ps) front
before_last sizes run cursor given front tail file ps p g parts split few =
    let last : last_or None g.pages ≡ Some p = ap (last_or None) parts ∙ last_push None ps p in
    let whole : entries_of ps ++ p.entries ≡ front ++ tail =
    sym (entries_join ps (p ∷ []) ∙ ap (λ (l : Entries). entries_of ps ++ l) (append-nil p.entries)) ∙ ap entries_of (sym parts) ∙ g.entries_are ∙
    split in
    front_short (entries_of ps) p.entries front tail whole
    (omega (arith, few, g.on_last p last, length-append (entries_of ps) p.entries, ap (λ (l : Entries). length l) whole, length-append front tail))

last_number : {sizes : Sizes} {run : Component} {earlier : List ℕ} {role : ℕ} {first : SpaceState} {output : Output} {space : SpaceState}
    {met : Entries} {file : List ℕ}
    (h : HasMet sizes run earlier role first output space met file) (ps : List RunPage) (p : RunPage) → h.has.pages ≡ ps ++ p ∷ [] → p.number ≡
    output.page
last_number h ps p parts = h.page_is p (ap (last_or None) parts ∙ last_push None ps p)

-- it has another entry than the next one
pub other_departs : (sizes : Sizes) (run : Component) (entries : Entries) (earlier : List ℕ) (role : ℕ) (first : SpaceState) (output : Output)
    (space : SpaceState) (met rest : Entries) (e other : Key × Rec) (file : List ℕ)
    → page_count sizes ≤ no_page → 0 < output.cursor.pages → entries ≡ met ++ e ∷ rest → (other ≡ e → ⊥) → HasMet sizes run earlier role first output
    space (met ++ other ∷ []) file
    → IsDepartedPage sizes run entries earlier output.page file
other_departs sizes run entries earlier role first output space met rest e other file few some are differs h =
    elim (unsnoc h.has.pages) [
      | inl none ↦ absurd (some_pages run met other h.has none)
      | inr more ↦
          let split = append_assoc met (other ∷ []) h.has.here in
          last_departs sizes run entries earlier output.cursor (met ++ other ∷ []) output.page file more.0 more.1 few h.has some more.2
          (last_number h more.0 more.1 more.2) h.takes.apart
          (front_then _ met entries (before_last sizes run output.cursor (met ++ other ∷ []) met (other ∷ h.has.here) file more.0 more.1 h.has more.2
          split (omega arith)) (e ∷ rest, are))
          (λ next end inside front. differs (first_same (front_is front)))
    ]
  where
    front_is : IsFront (entries_of h.has.pages) entries → (tail : Entries) × (e ∷ rest ≡ other ∷ tail)
    front_is front = (
      h.has.here ++ front.0,
      behind_front met (e ∷ rest) (other ∷ (h.has.here ++ front.0))
          (sym are ∙ front.1 ∙ ap (λ (l : Entries). l ++ front.0) (h.has.entries_are ∙ append_assoc met (other ∷ []) h.has.here) ∙ append_assoc met
          (other ∷ h.has.here) front.0),
    )

    first_same : (tail : Entries) × (e ∷ rest ≡ other ∷ tail) → other ≡ e
    first_same (tail, same) = cc

-- it has an entry more
pub more_departs : (sizes : Sizes) (run : Component) (earlier : List ℕ) (role : ℕ) (first : SpaceState) (output : Output) (space : SpaceState)
    (entries : Entries) (file : List ℕ) → page_count sizes ≤ no_page
    → 0 < output.cursor.pages → (output.cursor.behind ≡ [] → ⊥) → HasMet sizes run earlier role first output space entries file → IsDepartedPage
    sizes run entries earlier output.page file
more_departs sizes run earlier role first output space entries file few some behind h =
    let more_here = some_here output.cursor.behind h.has.here h.has.behind_is behind in
    elim (unsnoc h.has.pages) [
      | inl none ↦ absurd (omega (
        arith,
        more_here,
        ap (λ (l : List RunPage). length (entries_of l)) none,
        ap (λ (l : Entries). length l)
            h.has.entries_are,
        length-append entries h.has.here,
      ))
      | inr more ↦
          last_departs sizes run entries earlier output.cursor entries output.page file more.0 more.1 few h.has some more.2
          (last_number h more.0 more.1 more.2) h.takes.apart
          (before_last sizes run output.cursor entries entries h.has.here file more.0 more.1 h.has more.2 refl (omega arith))
          (λ next end inside front. omega (
            arith,
            more_here,
            longer entries h.has.here
                (subst (λ (l : Entries). IsFront l entries) h.has.entries_are front),
          ))
    ]

none_rises : (end : Option ℕ) (next pages : ℕ) → end ≡ Some next → next < pages → pages ≤ page_number end → ⊥
none_rises end next pages is inside past = omega (arith, ap page_number is, inside, past)

-- it names a page that there isn't
pub nowhere_departs : (sizes : Sizes) (run : Component) (entries : Entries) (earlier : List ℕ) (role : ℕ) (first : SpaceState) (output : Output)
    (space : SpaceState) (met : Entries) (file : List ℕ) → page_count sizes ≤ no_page
    → output.cursor.behind ≡ [] → 1 < output.cursor.pages → page_count sizes ≤ output.cursor.next → IsFront met entries → HasMet sizes run earlier
    role first output space met file
    → IsDepartedPage sizes run entries earlier output.page file
nowhere_departs sizes run entries earlier role first output space met file few none some past front h =
    elim (unsnoc h.has.pages) [
      | inl nothing ↦
          let first_is : page_number h.has.end ≡ run.first = sym (ap (λ (l : List RunPage). page_number (first_number l h.has.end)) nothing) ∙
          h.has.first_is in
          record {
            pages = [];
            begins = record {
              first_is = h.at_first nothing;
              chained = tt;
              apart = subst (λ (l : List ℕ). IsDistinct nat_eq l) (sym (append-nil earlier))
                  (distinct_front earlier (numbers_of h.has.pages) h.takes.apart);
              front = (entries, refl);
              pages_few = omega arith;
            };
            more = omega (arith, h.has.pages_is, some, ap (λ (l : List RunPage). length l) nothing);
            departs = inr (λ next here go. omega (arith, go.inside, h.at_first nothing, first_is, h.has.end_is, past));
          }
      | inr more ↦
          last_departs sizes run entries earlier output.cursor met output.page file more.0 more.1 few h.has (omega (arith, some)) more.2
          (last_number h more.0 more.1 more.2) h.takes.apart
          (front_then _ met entries (before_last sizes run output.cursor met met h.has.here file more.0 more.1 h.has more.2 refl (omega arith)) front)
          (λ next end inside _. none_rises h.has.end next (page_count sizes) end inside (omega (arith, h.has.end_is, past)))
    ]

-- the pages that were read, behind which the next one comes
pub begins_at : (sizes : Sizes) (run : Component) (entries : Entries) (earlier : List ℕ) (role : ℕ) (first : SpaceState) (output : Output)
    (space : SpaceState) (met : Entries) (n : ℕ) (file : List ℕ) → page_count sizes ≤ no_page
    → output.cursor.behind ≡ [] → 0 < output.cursor.pages → n ≡ output.cursor.next → n < page_count sizes → IsFront met entries
    → (h : HasMet sizes run earlier role first output space met file) → BeginsAs sizes run entries earlier h.has.pages n file
begins_at sizes run entries earlier role first output space met n file few none some next inside front h =
    let end : h.has.end ≡ Some n = is_some h.has.end n (h.has.end_is ∙ sym next) (omega (arith, inside, few)) in
    record {
      first_is = ap (λ (e : Option ℕ). page_number (first_number h.has.pages e)) (sym end) ∙ h.has.first_is;
      chained = subst (λ (e : Option ℕ). AreChained sizes h.has.pages e file) end h.has.chained;
      apart = h.takes.apart;
      front = subst (λ (l : Entries). IsFront l entries) (sym (all_given run h.has none)) front;
      pages_few = omega (arith, h.has.pages_is, some);
    }

-- at the last page's end: it is the last one, unless it names none
pub last_page : (sizes : Sizes) (run : Component) (entries : Entries) (earlier : List ℕ) (role : ℕ) (first : SpaceState) (output : Output)
    (space : SpaceState) (met : Entries) (file : List ℕ) → page_count sizes ≤ no_page
    → 0 < run.pages → output.cursor.behind ≡ [] → output.cursor.pages ≡ 1 → IsFront met entries →
    (h : HasMet sizes run earlier role first output space met file)
    → IsDepartedPage sizes run entries earlier output.page file ⊎ ((end : IsLastPage sizes run entries earlier output.page file) ×
    (end.before ++ end.last ∷ [] ≡ h.has.pages))
last_page sizes run entries earlier role first output space met file few some none one front h =
    elim (unsnoc h.has.pages) [
      | inl nothing ↦ absurd (omega (arith, h.has.pages_is, one, some, ap (λ (l : List RunPage). length l) nothing))
      | inr more ↦ by_end more.0 more.1 more.2 h.has.end refl
    ]
  where
    by_end : (ps : List RunPage) (p : RunPage) → h.has.pages ≡ ps ++ p ∷ [] → (end : Option ℕ) → h.has.end ≡ end
        → IsDepartedPage sizes run entries earlier output.page file ⊎ ((end : IsLastPage sizes run entries earlier output.page file) ×
        (end.before ++ end.last ∷ [] ≡ h.has.pages))
    by_end ps p parts None is =
        inl (last_departs sizes run entries earlier output.cursor met output.page file ps p few h.has (omega (arith, one)) parts
        (last_number h ps p parts) h.takes.apart
        (front_then _ met entries (before_last sizes run output.cursor met met h.has.here file ps p h.has parts refl (omega arith)) front)
        (λ next end inside _. no_next next (sym is ∙ end)))
      where
        no_next : (next : ℕ) → None ≡ Some next → ⊥
        no_next next same = cc
    by_end ps p parts (Some next) is =
        inr (
          record {
            before = ps;
            last = p;
            next = next;
            begins = record {
              first_is = ap (λ (l : List RunPage). page_number (first_number l (Some next))) (sym parts) ∙ ap
                  (λ (e : Option ℕ). page_number (first_number h.has.pages e)) (sym is) ∙ h.has.first_is;
              chained = subst (λ (l : List RunPage). AreChained sizes l (Some next) file) parts
                  (subst (λ (e : Option ℕ). AreChained sizes h.has.pages e file) is h.has.chained);
              apart = subst (λ (l : List RunPage). IsDistinct nat_eq (earlier ++ numbers_of l)) parts h.takes.apart;
              front = subst (λ (l : List RunPage). IsFront (entries_of l) entries) parts
                  (subst (λ (l : Entries). IsFront l entries) (sym (all_given run h.has none)) front);
              pages_few = omega (arith, ap (λ (l : List RunPage). length l) parts, h.has.pages_is, one);
            };
            all = omega (arith, ap (λ (l : List RunPage). length l) parts, h.has.pages_is, one);
            number_is = last_number h ps p parts;
          },
          sym parts,
        )

-- ---- where a walk stops

-- the page that is due was refused
pub refused_stops : (sizes : Sizes) (run : Component) (entries : Entries) (earlier : List ℕ) (role : ℕ) (first : SpaceState) (output : Output)
    (space : SpaceState) (met : Entries) (n : ℕ) (file : List ℕ) → page_count sizes ≤ no_page
    → 0 < run.pages → space.pages ≡ page_count sizes → IsFront met entries → (met ≡ entries → ⊥) → HasMet sizes run earlier role first output space
    met file → IsRefused output space n
    → IsStopped sizes run entries earlier n file
refused_stops sizes run entries earlier role first output space met n file few some count front more h (at_last none one is) =
    subst (λ k. IsStopped sizes run entries earlier k file) (sym is)
    (elim (last_page sizes run entries earlier role first output space met file few some none one front h) [
      | inl page ↦ departs page
      | inr last ↦ short last.0 (λ all. more (sym (ap entries_of last.1 ∙ all_given run h.has none) ∙ all))
    ])
refused_stops sizes run entries earlier role first output space met n file few some count front more h (in_use none two next inside not) =
    departs (record {
      pages = h.has.pages;
      begins = begins_at sizes run entries earlier role first output space met n file few none (omega (arith, two)) next
          (omega (arith, inside, count)) front h;
      more = omega (arith, h.has.pages_is, two);
      departs = inl (⊎_elim (λ free. absurd (not free)) (λ has. has) (h.takes.others n inside));
    })
refused_stops sizes run entries earlier role first output space met n file few some count front more h (nowhere none two is past) =
    subst (λ k. IsStopped sizes run entries earlier k file) (sym is)
    (departs (nowhere_departs sizes run entries earlier role first output space met file few none two (omega (arith, past, count)) front h))

from_last : (head : Option (Key × Rec)) (given es : Entries) → AreRising (from_head head (given ++ es)) → AreRising
    (from_head (last_or head given) es)
from_last head [] es rise = rise
from_last None (g ∷ given) es rise = from_last (Some g) given es rise
from_last (Some h) (g ∷ given) es rise = from_last (Some g) given es (rise_back (h ∷ []) (g ∷ (given ++ es)) rise)

-- a page with the next of the entries goes on for the cursor too
goes_at : (sizes : Sizes) (run : Component) (entries : Entries) (cursor : CursorState) (given : Entries) (file : List ℕ) (next : ℕ) (here : Entries)
    → run.pages < 2 ^ 32 → (g : HasGiven sizes (unbounded run) cursor given file)
    → cursor.behind ≡ [] → 1 < cursor.pages → AreRising entries → GoesOnAs sizes entries g.pages cursor.next next here file → GoesOnAt sizes cursor
    (Some next) here file
goes_at sizes run entries cursor given file next here small g none two rise go =
    let are = all_given run g none in
    let head : cursor.head ≡ last_or None given = ⊎_elim (λ is. is) (λ last. absurd (omega (arith, last, two))) g.head_is in
    let before = chain_holds sizes g.pages g.end file g.chained in
    let this = page_holds (page_count sizes) (Some next) here (page_at sizes cursor.next file) go.valid in
    let long = ap (λ (l : Entries). length l) are in
    let weighs = ap entries_weight are in
    record {
      inside = go.inside;
      valid = go.valid;
      goes_on = record {
        rise =
            subst (λ (h : Option (Key × Rec)). AreRising (from_head h here)) (sym head)
            (from_last None given here (subst (λ (l : Entries). AreRising (l ++ here)) are
            (rise_front (entries_of g.pages ++ here) go.front.0 (subst AreRising go.front.1 rise))));
        numbers = record {
          follows = (λ _. inl two, λ _. refl);
          few = omega (arith, before.few, this.few, g.entries_is, g.pages_is, long, small);
          light = omega (arith, before.light, this.light, g.weight_is, g.pages_is, weighs, small);
          all = λ last. absurd (omega (arith, last, two));
          enough = λ some. omega (arith, before.light, this.light, g.weight_is, g.pages_is, weighs, small, two);
        };
      };
    }

-- the page that was entered isn't valid, or doesn't go on
pub damage_stops : (sizes : Sizes) (run : Component) (entries : Entries) (earlier : List ℕ) (role : ℕ) (first : SpaceState) (old mid : Output)
    (space now : SpaceState) (met : Entries) (n : ℕ) (file : List ℕ) → page_count sizes ≤ no_page
    → space.pages ≡ page_count sizes → run.pages < 2 ^ 32 → AreRising entries → IsFront met entries → HasMet sizes run earlier role first old space
    met file → IsEntered old mid role space now
    → IsDamageAt sizes old.cursor n file → IsStopped sizes run entries earlier n file
damage_stops sizes run entries earlier role first old mid space now met n file few count small rise front h (due none two is free claims) damage =
    departs (record {
      pages = h.has.pages;
      begins = begins_at sizes run entries earlier role first old space met n file few none (omega (arith, two)) damage.is_next
          (omega (arith, damage.is_next, is, free.in_range, count)) front h;
      more = omega (arith, h.has.pages_is, two);
      departs = inr (λ next here go. damage.damaged (Some next) here
          (goes_at sizes run entries old.cursor met file next here small h.has none two rise
          (subst (λ k. GoesOnAs sizes entries h.has.pages k next here file) damage.is_next go)));
    })
damage_stops sizes run entries earlier role first old mid space now met n file few count small rise front h (on none is same) damage =
    absurd (omega (arith, none damage.none_left, damage.more_pages))

-- ---- answers

-- the cursor went on to the next entry, or to the end
pub met_next : (sizes : Sizes) (run : Component) (earlier : List ℕ) (role : ℕ) (first space now : SpaceState) (old mid : Output)
    (cursor : CursorState) (given : Entries) (file : List ℕ) → page_count sizes ≤ no_page
    → HasMet sizes run earlier role first old space given file → IsEntered old mid role space now → mid.cursor ≡ old.cursor
    → (mid.cursor.behind ≡ [] → 0 < mid.cursor.pages → mid.cursor.pages ≡ cursor.pages + 1) →
    (mid.cursor.behind ≢ [] → cursor.pages ≡ mid.cursor.pages) → cursor.pages ≤ mid.cursor.pages
    → HasGivenMore sizes (unbounded run) cursor cursor.head given file → IfSome cursor.head
    (λ e. HasMet sizes run earlier role first (record { cursor = cursor; page = mid.page }) now (given ++ e ∷ []) file)
met_next sizes run earlier role first space now old mid cursor given file few h entered same turns stays fewer more = by_head cursor.head more
  where
    by_head : (head : Option (Key × Rec)) → HasGivenMore sizes (unbounded run) cursor head given file
        → IfSome head (λ e. HasMet sizes run earlier role first (record { cursor = cursor; page = mid.page }) now (given ++ e ∷ []) file)
    by_head None m = tt
    by_head (Some e) m =
        met_on sizes run earlier role first space now old mid cursor given (given ++ e ∷ []) file few h m entered
        (subst (λ (s : CursorState). s.behind ≡ [] → 0 < s.pages → s.pages ≡ cursor.pages + 1) same turns)
        (subst (λ (s : CursorState). s.behind ≢ [] → cursor.pages ≡ s.pages) same stays)
        (subst (λ (s : CursorState). cursor.pages ≤ s.pages) same fewer)

-- it is on the page that was entered, wherever its cursor is
pub entered_as : (old mid new : Output) (role : ℕ) (space now : SpaceState) → new.page ≡ mid.page → IsEntered old mid role space now → IsEntered old
    new role space now
entered_as old mid new role space now same (due none some is free claims) =
    due none some (same ∙ is) (subst (IsFree space) (sym same) free) (subst (λ n. Claims role n space now) (sym same) claims)
entered_as old mid new role space now same (on none is stays) = on none (same ∙ is) stays

pub is_refused : (old new : Output) (role : ℕ) (space now : SpaceState) (broken : Broken) → Enters old new role space now (Err broken) → (n : ℕ) ×
    (broken ≡ Damaged n) × IsRefused old space n
is_refused old new role space now (Damaged n) (same, stays, refused) = (n, refl, refused)
is_refused old new role space now Fault wrong = absurd wrong

pub tells_by : {sizes : Sizes} {run : Component} {entries : Entries} {earlier : List ℕ} {file : List ℕ} (broken : Broken) →
    ((n : ℕ) → broken ≡ Damaged n → IsStopped sizes run entries earlier n file)
    → TellsStop sizes run entries earlier file broken
tells_by (Damaged n) stops = stops n refl
tells_by Fault stops = tt

pub is_met : (P : Key × Rec → Type 0) (head : Option (Key × Rec)) (e : Key × Rec) → IfSome head P → head ≡ Some e → P e
is_met P head e holds is = subst (λ (h : Option (Key × Rec)). IfSome h P) is holds

pub same_head : (head : Option (Key × Rec)) (e f : Key × Rec) → head ≡ Some e → head ≡ Some f → e ≡ f
same_head head e f one other = cc

-- ---- what a record settles to

pub no_value : (value : Option Value) → ((v : Value) → value ≡ Some v → ⊥) → value ≡ None
no_value None not = refl
no_value (Some v) not = absurd (not v refl)

pub settles_none : (met : Entries) (key : Key) (rec : Rec) → settle rec ≡ None → met ≡ met ++ settled_entries ((key, rec) ∷ [])
settles_none met key rec none = sym (ap (λ (v : Option Value). met ++ settled_base key v []) none ∙ append-nil met)

pub settles_some : (met : Entries) (key : Key) (rec : Rec) (value : Value) → settle rec ≡ Some value → met ++ settled_entries ((key, rec) ∷ []) ≡ met
    ++ (key, Base value) ∷ []
settles_some met key rec value some = ap (λ (v : Option Value). met ++ settled_base key v []) some

-- the fold goes on with that entry
pub goes_on_with : (met entries : Entries) (e : Key × Rec) → IsFront (met ++ e ∷ []) entries → (rest : Entries) × (entries ≡ met ++ e ∷ rest)
goes_on_with met entries e front = (front.0, front.1 ∙ append_assoc met (e ∷ []) front.0)

pub front_more : (met entries : Entries) (e : Key × Rec) → IsFront (met ++ e ∷ []) entries → IsFront met entries × (met ≡ entries → ⊥)
front_more met entries e front =
    let with_it = goes_on_with met entries e front in (
      (e ∷ with_it.0, with_it.1),
      λ same. omega (
        arith,
        ap (λ (l : Entries). length l) same,
        ap (λ (l : Entries). length l) with_it.1,
        length-append
            met (e ∷ with_it.0),
      ),
    )
