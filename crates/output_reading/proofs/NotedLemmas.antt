-- What is noted of an output while it is met, entry by entry.
use Rattle.std.proofs.Common.{
  ◌≡◌,
  ◌≢◌,
  ◌∙◌,
  ℕ,
  ◌+◌,
  ◌-◌,
  ◌^◌,
  ◌<◌,
  ◌≤◌,
  Bool,
  true,
  false,
  IsTrue,
  List,
  [],
  ◌∷◌,
  ◌++◌,
  length,
  Option,
  Some,
  None,
  refl,
  ap,
  sym,
  subst,
  arith,
  append-nil,
  append_assoc,
  length-append,
}
use Rattle.std.specs.List.{Contains, IsDistinct}
use Rattle.std.specs.List.Sorted.{IsStrictlySortedBy}
use Rattle.std.proofs.lemmas.Bool.{false≢true}
use Rattle.std.proofs.lemmas.List.{append_cancel_left, nil_from_length}
use Rattle.std.proofs.lemmas.List.Sums.{sum_by-cons}
use Rattle.blsm_model.specs.declared.component.Component.{Component}
use Rattle.blsm_model.specs.declared.key.Key.{Key}
use Rattle.blsm_model.specs.Components.{no_page}
use Rattle.blsm_model.specs.Sizes.{Sizes}
use Rattle.blsm_model.specs.Geometry.{page_count}
use Rattle.record_delta.specs.declared.record.Rec.{Rec}
use Rattle.record_delta.specs.Records.{settle, weight}
use Rattle.record_delta.specs.Entries.{Entries, entries_weight, is_above, settled_base}
use Rattle.page_file.specs.Entry.{AreRising}
use Rattle.page_file.specs.Page.{page_number}
use Rattle.page_file.specs.Component.{RunPage, entries_of, first_number, numbers_of}
use Rattle.page_file.proofs.ComponentLemmas.{entries_join, first_join, weight_join}
use Rattle.page_space.specs.Space.{Claims, IsFree, SpaceState}
use Rattle.bloom_bits.specs.Filter.{HasKeys}
use Rattle.bloom_bits.specs.declared.fences.Fence.{Fence}
use Rattle.bloom_bits.specs.Fences.{FencesState, IsAboveAll}
use Rattle.bloom_bits.specs.Guides.{Guide}
use Rattle.run_cursor.specs.Cursor.{AreFull, CursorState, started}
use Rattle.run_cursor.specs.Given.{HasGiven}
use Rattle.run_writer.specs.Run.{AreTagged, Run, all_numbers, page_of, pages_of}
use Rattle.run_writer.proofs.GrowthLemmas.{grows_here, grows_on, tagged_here, tagged_on}
use Rattle.merge_ends.specs.Output.{EndBy, IsUpTo}
use Rattle.merge_ends.proofs.GroupLemmas.{ends_more}
use Rattle.merge_ends.proofs.KeptLemmas.{ends_kept}
use Rattle.merge_ends.proofs.OutputLemmas.{rising_more}
use Rattle.tree_runs.specs.declared.guides.PageStart.{PageStart}
use Rattle.tree_runs.specs.Noting.{KeepsRooms, Notes, fence_at}
use Rattle.tree_runs.specs.Runs.{GuideState, guide_at}
use Rattle.output_reading.specs.declared.output.Output.{Output}
use Rattle.output_reading.specs.Noted.{HasFence, HasNoted, IsOnward, MayNote, StartsAt}
use Rattle.output_reading.specs.Walk.{HasFallen, HasPassed, IsEntered, due, on, unbounded}
use Rattle.output_reading.proofs.GuidesLemmas.{above_all, as_long, entries_here, entries_on, guide_here, guide_on, more_here, more_on}
use Rattle.output_reading.proofs.MetLemmas.{all_given, none_here}
use Rattle.output_reading.proofs.PagesLemmas.{pages_stay, pages_turn}

-- ---- keys

pub ends_up_to : (low at : Option Key) (es : Entries) → IsUpTo low at → EndBy low es → EndBy at es
ends_up_to low at [] up ends = tt
ends_up_to low at (e ∷ es) up ends = (not_above (is_above at e.0) refl, ends_up_to low at es up ends.1)
  where
    not_above : (b : Bool) → is_above at e.0 ≡ b → is_above at e.0 ≡ false
    not_above true is = absurd (false≢true (sym ends.0 ∙ up e.0 is))
    not_above false is = is

noted_by : {sizes : Sizes} {honest : Bool} {file : List ℕ} {of : Component} {role : ℕ} {output : Output} {space : SpaceState} {guide : GuideState}
    {low at : Option Key} → (n : HasNoted sizes honest file of role output space guide low) → EndBy at (entries_of (pages_of n.run))
    → HasNoted sizes honest file of role output space guide at
noted_by n ends = record {
  run = n.run;
  is_run = n.is_run;
  begun = n.begun;
  tagged = n.tagged;
  guided = n.guided;
  one_a_page = n.one_a_page;
  ends = ends;
  first_is = n.first_is;
  pages_is = n.pages_is;
  entries_is = n.entries_is;
  weight_is = n.weight_is;
  stands = n.stands;
}

pub noted_onward : {sizes : Sizes} {honest : Bool} {file : List ℕ} {of : Component} {role : ℕ} {output : Output} {space : SpaceState}
    {guide : GuideState}
    {low at : Option Key} → IsUpTo low at → HasNoted sizes honest file of role output space guide low → HasNoted sizes honest file of role output
    space guide at
noted_onward {low = low} {at} up n = noted_by n (ends_up_to low at (entries_of (pages_of n.run)) up n.ends)

-- a record that settles to nothing
pub noted_none : {sizes : Sizes} {honest : Bool} {file : List ℕ} {of : Component} {role : ℕ} {output : Output} {space : SpaceState}
    {guide : GuideState}
    {at : Option Key} (key : Key) (rec : Rec) → settle rec ≡ None → is_above at key ≡ true → HasNoted sizes honest file of role output space guide at
    → HasNoted sizes honest file of role output space guide (Some key)
noted_none {at = at} key rec none higher n =
    let es = entries_of (pages_of n.run) in
    noted_by n (subst (EndBy (Some key)) (ap (λ v. es ++ settled_base key v []) none ∙ append-nil es) (ends_kept true at es key rec n.ends higher))

-- ---- room

pub rooms_none : (tag : ℕ) (guides : List GuideState) → KeepsRooms tag guides guides
rooms_none tag guides = record { many = refl; others = λ other differs. refl; bits = refl; fences = refl }

pub rooms_then : {tag : ℕ} {old mid new : List GuideState} → KeepsRooms tag old mid → KeepsRooms tag mid new → KeepsRooms tag old new
rooms_then one two = record {
  many = two.many ∙ one.many;
  others = λ other differs. two.others other differs ∙ one.others other differs;
  bits = two.bits ∙ one.bits;
  fences = two.fences ∙ one.fences;
}

-- ---- the beginning

nowhere : (k : ℕ) → Contains [] k → ⊥
nowhere k has = omega (arith, has.1)

pub noted_start : (sizes : Sizes) (honest : Bool) (file : List ℕ) (of : Component) (role : ℕ) (output : Output) (space : SpaceState)
    (guide : GuideState)
    → output.cursor ≡ started (unbounded of) → HasGiven sizes (unbounded of) output.cursor [] file → HasKeys guide.filter [] → guide.fences.list ≡ []
    → HasNoted sizes honest file of role output space guide None
unfolding IsStrictlySortedBy IsDistinct
noted_start sizes honest file of role output space guide is given keys fences = record {
  run = record { closed = []; number = 0; entries = [] };
  is_run = record { rise = tt; apart = tt };
  begun = λ _. (refl, ap (λ (s : CursorState). s.behind) is);
  tagged = λ n has. absurd (nowhere n has);
  guided = record { keys = keys; fences_are = fences };
  one_a_page = ap (λ (l : List Fence). length l) fences;
  ends = tt;
  first_is = ap (λ (s : CursorState). s.next) is;
  pages_is = omega (arith, ap (λ (s : CursorState). s.pages) is);
  entries_is = omega (arith, ap (λ (s : CursorState). s.entries) is);
  weight_is = omega (arith, ap (λ (s : CursorState). s.weight) is);
  stands = λ _. (
    given,
    nil_from_length given.pages (omega (arith, given.pages_is, ap (λ (s : CursorState). s.pages) is))
        ∙ sym (ap (page_of 0) (none_here of given (ap (λ (s : CursorState). s.behind) is))),
  );
}

-- ---- one entry further

-- on the same page
stand_here : (sizes : Sizes) (file : List ℕ) (of : Component) (old new : CursorState) (e : Key × Rec) (run : Run) → page_count sizes ≤ no_page →
    new.pages ≡ old.pages
    → (g : HasGiven sizes (unbounded of) old (entries_of (pages_of run)) file) → g.pages ≡ run.closed ++ page_of run.number (run.entries ++ g.here)
    → (h : HasGiven sizes (unbounded of) new (entries_of (pages_of (more_here e run))) file)
    → h.pages ≡ run.closed ++ page_of run.number ((run.entries ++ e ∷ []) ++ h.here)
stand_here sizes file of old new e run few same g was h =
    let given = entries_of (pages_of run) in
    let pages : h.pages ≡ g.pages = pages_stay sizes (unbounded of) old new given _ file few g h same in
    let here : g.here ≡ e ∷ h.here =
    append_cancel_left given g.here (e ∷ h.here)
    (sym g.entries_are ∙ ap entries_of (sym pages) ∙ h.entries_are ∙ ap (λ (l : Entries). l ++ h.here) (entries_here e run) ∙ append_assoc given
    (e ∷ []) h.here) in
    pages ∙ was ∙ ap (λ (l : Entries). run.closed ++ page_of run.number l)
    (ap (λ (l : Entries). run.entries ++ l) here ∙ sym (append_assoc run.entries (e ∷ []) h.here))

-- on the next one
stand_on : (sizes : Sizes) (file : List ℕ) (of : Component) (old new : CursorState) (page : ℕ) (e : Key × Rec) (run : Run) → page_count sizes ≤
    no_page → page ≡ old.next
    → old.behind ≡ [] → old.pages ≡ new.pages + 1
    → (g : HasGiven sizes (unbounded of) old (entries_of (pages_of run)) file) → g.pages ≡ run.closed ++ page_of run.number (run.entries ++ g.here)
    → (h : HasGiven sizes (unbounded of) new (entries_of (pages_of (more_on page e run))) file) → h.pages ≡ pages_of run ++ page_of page
    ((e ∷ []) ++ h.here)
stand_on sizes file of old new page e run few is none less g was h =
    let given = entries_of (pages_of run) in
    let turned = pages_turn sizes (unbounded of) old new given _ file few g h less in
    let p = turned.page in
    let before : g.pages ≡ pages_of run =
    was ∙ ap (λ (l : Entries). run.closed ++ page_of run.number l) (ap (λ (l : Entries). run.entries ++ l) (none_here of g none) ∙ append-nil
    run.entries) in
    let joined : entries_of h.pages ≡ given ++ p.entries =
    ap entries_of turned.pages_are ∙ entries_join g.pages (p ∷ []) ∙ ap (λ (l : Entries). entries_of g.pages ++ l) (append-nil p.entries)
    ∙ ap (λ (l : Entries). l ++ p.entries) (all_given of g none) in
    let here : p.entries ≡ e ∷ h.here =
    append_cancel_left given p.entries (e ∷ h.here)
    (sym joined ∙ h.entries_are ∙ ap (λ (l : Entries). l ++ h.here) (entries_on page e run) ∙ append_assoc given (e ∷ []) h.here) in
    let same : p ≡ record { number = page; entries = e ∷ h.here } = λ i. record { number = (turned.number_is ∙ sym is) i; entries = here i } in
    turned.pages_are ∙ (λ i. before i ++ same i ∷ [])

-- the first page stays
first_here : (closed : List RunPage) (number : ℕ) (es fs : Entries) (end other : Option ℕ) → (es ≡ [] → ⊥)
    → first_number (closed ++ page_of number (es ++ fs)) end ≡ first_number (closed ++ page_of number es) other
first_here closed number [] fs end other some = absurd (some refl)
first_here [] number (e ∷ es) fs end other some = refl
first_here (p ∷ ps) number (e ∷ es) fs end other some = refl

pushed_some : (es : Entries) (e : Key × Rec) → es ++ e ∷ [] ≡ [] → ⊥
pushed_some es e none = omega (arith, ap (λ (l : Entries). length l) none, length-append es (e ∷ []))

counts_more : (more es : Entries) (e : Key × Rec) → more ≡ es ++ e ∷ [] → (length more ≡ length es + 1) ×
    (entries_weight more ≡ entries_weight es + weight e.0 e.1)
counts_more more es e is = (
  omega (arith, ap (λ (l : Entries). length l) is, length-append es (e ∷ [])),
  omega (arith, ap entries_weight is, weight_join es (e ∷ []), sum_by-cons (λ (x : Key × Rec). weight x.0 x.1) e []),
)

module _ (sizes : Sizes) (honest : Bool) (file : List ℕ) (of : Component) (role : ℕ) (old new : Output) (space now : SpaceState)
    (guide after : GuideState)
    (at : Option Key) (e : Key × Rec) (few : page_count sizes ≤ no_page) (higher : is_above at e.0 ≡ true) (falls : HasFallen old.cursor new.cursor e)
    (gives : (given : Entries) → IsTrue honest → HasGiven sizes (unbounded of) old.cursor given file → HasGiven sizes (unbounded of) new.cursor
    (given ++ e ∷ []) file)
    (n : HasNoted sizes honest file of role old space guide at) where
  rise : AreRising (entries_of (pages_of n.run) ++ e ∷ [])
  rise = rising_more at (entries_of (pages_of n.run)) e.0 e.1 n.is_run.rise n.ends higher

  noted_here : now ≡ space → old.cursor.behind ≢ [] → new.cursor.pages ≡ old.cursor.pages → Notes e.0 None guide after
      → HasNoted sizes honest file of role new now after (Some e.0)
  noted_here same some stays notes =
      let open_some : n.run.entries ≡ [] → ⊥ = λ none. some (n.begun none).1 in
      let is = entries_here e n.run in
      let counts = counts_more _ _ e is in
      let fences = notes.none refl in
      let long = as_long n.run.closed n.run.number n.run.entries (e ∷ []) open_some in
      let begun : 0 < length (all_numbers n.run) = open_has n.run open_some in
      record {
        run = more_here e n.run;
        is_run = grows_here e.0 e.1 n.run n.is_run begun rise;
        begun = λ none. absurd (pushed_some n.run.entries e none);
        tagged = subst (λ (s : SpaceState). AreTagged s role (more_here e n.run)) (sym same) (tagged_here space role e.0 e.1 n.run n.tagged begun);
        guided = subst (λ (f : FencesState). Guide after.filter f (pages_of (more_here e n.run))) (sym fences)
            (guide_here guide.filter after.filter guide.fences e n.run notes.keys open_some n.guided);
        one_a_page = ap (λ (f : FencesState). length f.list) fences ∙ n.one_a_page ∙ sym long;
        ends = subst (EndBy (Some e.0)) (sym is) (ends_more at _ e.0 e.1 n.ends higher);
        first_is = ap page_number (first_here n.run.closed n.run.number n.run.entries (e ∷ []) (Some new.cursor.next) (Some old.cursor.next)
            open_some) ∙ n.first_is;
        pages_is = omega (arith, n.pages_is, stays, long);
        entries_is = omega (arith, n.entries_is, falls.entries_is, counts.0);
        weight_is = omega (arith, n.weight_is, falls.weight_is, counts.1);
        stands = λ told.
            let g = n.stands told in
            let h = subst (λ (l : Entries). HasGiven sizes (unbounded of) new.cursor l file) (sym is) (gives _ told g.0) in
            (h, stand_here sizes file of old.cursor new.cursor e n.run few stays g.0 g.1 h);
      }
    where
      open_has : (r : Run) → (r.entries ≡ [] → ⊥) → 0 < length (all_numbers r)
      open_has r some = by r.closed r.number r.entries some
        where
          by : (closed : List RunPage) (number : ℕ) (es : Entries) → (es ≡ [] → ⊥) → 0 < length
              (all_numbers (record { closed = closed; number = number; entries = es }))
          by closed number [] some = absurd (some refl)
          by closed number (x ∷ es) some = omega (arith, length-append (numbers_of closed) (number ∷ []))

  noted_there : (start : PageStart) → old.cursor.behind ≡ [] → new.page ≡ old.cursor.next → IsFree space new.page → Claims role new.page space now
      → old.cursor.pages ≡ new.cursor.pages + 1
      → start ≡ record { page = old.cursor.next; entries = 2 ^ 63 - old.cursor.entries; weight = 2 ^ 63 - old.cursor.weight }
      → Notes e.0 (Some start) guide after → HasFence old.cursor guide → HasNoted sizes honest file of role new now after (Some e.0)
  noted_there start none page_is free claims less start_is notes room =
      let pages = pages_of n.run in
      let is = entries_on new.page e n.run in
      let counts = counts_more _ _ e is in
      let begun = λ (nothing : n.run.entries ≡ []). (n.begun nothing).0 in
      let named : start.page ≡ new.page = ap (λ (s : PageStart). s.page) start_is ∙ sym page_is in
      let fence : Fence = record { first = e.0; page = new.page; entries = start.entries; weight = start.weight } in
      let fence_is : fence_at e.0 start ≡ fence = λ i. record { first = e.0; page = named i; entries = start.entries; weight = start.weight } in
      let higher_all : IsAboveAll e.0 guide.fences.list = subst (IsAboveAll e.0) (sym n.guided.fences_are) (above_all at e.0 pages higher n.ends) in
      let fenced : after.fences.list ≡ guide.fences.list ++ fence ∷ [] = notes.some (room none) higher_all ∙ ap
      (λ (f : Fence). guide.fences.list ++ f ∷ []) fence_is in
      let long = length-append pages (page_of new.page (e ∷ [])) in
      record {
        run = more_on new.page e n.run;
        is_run = grows_on space role new.page e.0 e.1 n.run begun n.is_run n.tagged free rise;
        begun = λ nothing. absurd (pushed_some [] e nothing);
        tagged = tagged_on space now role new.page e.0 e.1 n.run begun n.tagged claims;
        guided = guide_on guide.filter after.filter guide.fences after.fences new.page start.entries start.weight e n.run notes.keys fenced
            (omega (arith, n.entries_is, ap (λ (s : PageStart). s.entries) start_is))
            (omega (arith, n.weight_is, ap (λ (s : PageStart). s.weight) start_is)) n.guided;
        one_a_page = omega (arith, ap (λ (l : List Fence). length l) fenced, length-append guide.fences.list (fence ∷ []), n.one_a_page, long);
        ends = subst (EndBy (Some e.0)) (sym is) (ends_more at _ e.0 e.1 n.ends higher);
        first_is = ap page_number (first_join pages (page_of new.page (e ∷ [])) (Some new.cursor.next))
            ∙ ap (λ (k : ℕ). page_number (first_number pages (Some k))) page_is ∙ n.first_is;
        pages_is = omega (arith, n.pages_is, less, long);
        entries_is = omega (arith, n.entries_is, falls.entries_is, counts.0);
        weight_is = omega (arith, n.weight_is, falls.weight_is, counts.1);
        stands = λ told.
            let g = n.stands told in
            let h = subst (λ (l : Entries). HasGiven sizes (unbounded of) new.cursor l file) (sym is) (gives _ told g.0) in
            (h, stand_on sizes file of old.cursor new.cursor new.page e n.run few page_is none less g.0 g.1 h);
      }

  -- whichever page it is on
  pub noted_on : (start : Option PageStart) → 0 < old.cursor.pages → IsOnward old new role space now → StartsAt old.cursor start → Notes e.0 start
      guide after
      → HasFence old.cursor guide → HasNoted sizes honest file of role new now after (Some e.0)
  noted_on start left onward starts notes room = by start onward.entered starts notes
    where
      by : (start : Option PageStart) → IsEntered old new role space now → StartsAt old.cursor start → Notes e.0 start guide after
          → HasNoted sizes honest file of role new now after (Some e.0)
      by None (due none some is free claims) starts notes = absurd (omega (arith, starts none, some))
      by (Some start) (due none some is free claims) starts notes = noted_there start none is free claims (onward.turns none left) starts.2 notes room
      by None (on none is same) starts notes =
          let more : old.cursor.behind ≢ [] = λ nothing. omega (arith, none nothing, left) in
          noted_here same more (onward.stays more) notes
      by (Some start) (on none is same) starts notes = absurd (omega (arith, none starts.0, starts.1))

-- ---- room for a page's fence

pub fence_room : (of : Component) (role weight z left : ℕ) (first output : Output) (guides now : List GuideState) {sizes : Sizes} {honest : Bool}
    {file : List ℕ}
    {space : SpaceState} {at : Option Key} → MayNote of role first guides weight → KeepsRooms role guides now → AreFull (unbounded of) output.cursor
    → HasPassed first.cursor output.cursor z → z + left ≡ weight → 0 < output.cursor.pages
    → HasNoted sizes honest file of role output space (guide_at now role) at → HasFence output.cursor (guide_at now role)
fence_room of role weight z left first output guides now may rooms full passed total some n = λ none.
    let filled = full.more some in
    omega (arith, n.one_a_page, n.pages_is, filled, passed.light, may.all, may.room, rooms.fences, total, ap (λ (l : List ℕ). length l) none)
