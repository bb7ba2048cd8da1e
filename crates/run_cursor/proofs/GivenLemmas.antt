-- What a cursor has given, as it goes on.
use Rattle.std.proofs.lemmas.Bool.Decides.{nat_tests}
use Rattle.std.proofs.lemmas.Grind.{common_steps}
use Rattle.std.proofs.Common.{◌≡◌, ◌↔◌, ◌⊎◌, inl, inr, ⊎_elim, Bool, true, false, ℕ, ◌+◌, ◌<◌, ◌≤◌, List, [], ◌∷◌, ◌++◌, length, Option, Some, None, refl, ap, sym, subst, ◌∙◌, length-append, arith}
use Rattle.std.specs.Prelude.{IsSome, IsTrue}
use Rattle.std.specs.List.{last_or}
use Rattle.std.specs.List.Sorted.{IsStrictlySortedBy}
use Rattle.std.proofs.lemmas.Bool.{cases_lt, false≢true}
use Rattle.std.proofs.lemmas.List.{append-nil}
use Rattle.std.proofs.lemmas.List.Elements.{All-nil, All-tail}
use Rattle.std.proofs.lemmas.List.Sums.{sum_by-append}
use Rattle.blsm_model.specs.declared.component.Component.{Component}
use Rattle.blsm_model.specs.declared.key.Key.{Key}
use Rattle.blsm_model.specs.Sizes.{Sizes}
use Rattle.blsm_model.specs.Geometry.{page_count}
use Rattle.record_delta.specs.declared.record.Rec.{Rec}
use Rattle.record_delta.specs.Records.{weight}
use Rattle.page_file.specs.Entry.{IsPageEntry, AreEntries, AreRising}
use Rattle.blsm_model.specs.Components.{no_page}
use Rattle.page_file.specs.Page.{page_number}
use Rattle.blsm_model.specs.Components.{empty_component}
use Rattle.page_file.specs.Component.{RunPage, entries_of, first_number, AreChained, HasList, ReadsOn}
use Rattle.record_delta.specs.Entries.{entries_weight, Entries}
use Rattle.page_file.proofs.ComponentLemmas.{first_join, chain_join, entries_join, rising_apart}
use Rattle.run_cursor.specs.Cursor.{CursorState, begun, started, started_front, from_head, GoesOnAt, turned, IsStepped}
use Rattle.run_cursor.specs.Given.{EndsAs, HasGiven, HasGivenOf, HasListOf}
use Rattle.run_cursor.proofs.CursorLemmas.{same_first, none_in_none, rise_over}

-- ---- lists

pub last_push : {X : Type 0} (o : Option X) (es : List X) (e : X) → last_or o (es ++ e ∷ []) ≡ Some e
last_push o [] e = refl
last_push o (f ∷ es) e = last_push (Some f) es e

pub entries_push : (given : List (Key × Rec)) (e : Key × Rec) (rest : Entries) → given ++ (e ∷ rest) ≡ (given ++ e ∷ []) ++ rest
entries_push [] e rest = refl
entries_push (g ∷ given) e rest = ap (λ (l : Entries). g ∷ l) (entries_push given e rest)

pub weights_push : (given : List (Key × Rec)) (e : Key × Rec) → entries_weight (given ++ e ∷ []) ≡ entries_weight given + weight e.0 e.1
weights_push given e = sum_by-append (λ (f : Key × Rec). weight f.0 f.1) given (e ∷ []) ∙ omega arith

-- what rises up to its last one, and on from there, rises
rise_join : (head : Option (Key × Rec)) (given : List (Key × Rec)) (es : Entries) → AreRising (from_head head given) → AreRising (from_head (last_or head given) es)
    → AreRising (from_head head (given ++ es))
unfolding IsStrictlySortedBy
rise_join head [] es rise on = on
rise_join None (g ∷ given) es rise on = rise_join (Some g) given es rise on
rise_join (Some h) (g ∷ given) es rise on =
    let more = rise_join (Some g) given es rise.1 on in
    (rise_over h g (given ++ es) more).0 rise.0.0

-- ---- the start

given_begun : (is_front : Bool) (sizes : Sizes) (run : Component) (file : List ℕ) → (run.pages ≡ 0 → EndsAs is_front (Some run.first))
    → HasGivenOf is_front sizes run (begun is_front run) [] file
unfolding IsStrictlySortedBy
given_begun is_front sizes run file ends = record {
  front_is = refl;
  pages = [];
  end = Some run.first;
  here = [];
  first_is = refl;
  chained = tt;
  end_is = refl;
  none_next = ends;
  each = All-nil IsPageEntry;
  behind_is = refl;
  entries_are = refl;
  on_last = λ last is. absurd (cc);
  rise = tt;
  head_is = inl refl;
  pages_is = omega arith;
  entries_is = omega arith;
  weight_is = omega arith;
}

pub given_start : (sizes : Sizes) (run : Component) (file : List ℕ) → (run.pages ≡ 0 → run ≡ empty_component) → HasGiven sizes run (started run) [] file
unfolding IsStrictlySortedBy
given_start sizes run file none =
    elim (cases_lt 0 run.pages) [
      | inl some ↦ given_begun false sizes run file (λ last. absurd (omega (arith, last, some)))
      | inr bare ↦ record {
        front_is = refl;
        pages = [];
        end = None;
        here = [];
        first_is = sym (ap (λ (r : Component). r.first) (none (omega (arith, bare))));
        chained = tt;
        end_is = sym (ap (λ (r : Component). r.first) (none (omega (arith, bare))));
        none_next = λ last. refl;
        each = All-nil IsPageEntry;
        behind_is = refl;
        entries_are = refl;
        on_last = λ last is. absurd (cc);
        rise = tt;
        head_is = inl refl;
        pages_is = omega arith;
        entries_is = omega arith;
        weight_is = omega arith;
      }
    ]

pub given_front : (sizes : Sizes) (front : Component) (file : List ℕ) → HasGivenOf true sizes front (started_front front) [] file
given_front sizes front file = given_begun true sizes front file (λ last. refl)

-- ---- one entry further

pub given_step : (is_front : Bool) (sizes : Sizes) (run : Component) (old new : CursorState) (given : Entries) (e : Key × Rec) (file : List ℕ)
    → HasGivenOf is_front sizes run old given file → IsStepped old new e → HasGivenOf is_front sizes run new (given ++ e ∷ []) file
given_step is_front sizes run old new given e file g stepped =
    let first = same_first g.here e new.behind g.each stepped.right (sym g.behind_is ∙ stepped.behind_is) in
    let moved : given ++ g.here ≡ (given ++ e ∷ []) ++ first.more =
    ap (λ (l : List (Key × Rec)). given ++ l) first.here_is ∙ entries_push given e first.more in
    let count = g.entries_is in
    let weighs = g.weight_is in
    record {
      front_is = stepped.front_is ∙ g.front_is;
      pages = g.pages;
      end = g.end;
      here = first.more;
      first_is = g.first_is;
      chained = g.chained;
      end_is = g.end_is ∙ sym stepped.next_is;
      none_next = λ last. g.none_next (sym stepped.pages_is ∙ last);
      each = All-tail IsPageEntry e first.more (subst (λ (l : List (Key × Rec)). AreEntries l) first.here_is g.each);
      behind_is = first.rest_is;
      entries_are = g.entries_are ∙ moved;
      on_last = λ last is. let few = g.on_last last is in omega (arith, few, ap (length {A = Key × Rec}) first.here_is);
      rise = subst AreRising moved g.rise;
      head_is = inl (stepped.head_is ∙ sym (last_push None given e));
      pages_is = ap (λ n. length g.pages + n) stepped.pages_is ∙ g.pages_is;
      entries_is = omega (arith, count, stepped.entries_is, length-append given (e ∷ []));
      weight_is = omega (arith, weighs, stepped.weight_is, weights_push given e);
    }

-- ---- the next page

one_some : {X : Type 0} {a b : X} → Some a ≡ Some b → a ≡ b
one_some same = cc

end_some : (end : Option ℕ) (n count : ℕ) → page_number end ≡ n → n < count → count ≤ no_page → end ≡ Some n
end_some end n count h1 h2 h3 = grind (arith, common_steps, nat_tests)

-- behind the last page a front goes on, and a component doesn't
ends_as : (is_front : Bool) (next : Option ℕ) (n : ℕ) → (IsSome next ↔ ((1 < n) ⊎ IsTrue is_front)) → n ≡ 1 → EndsAs is_front next
ends_as false None n follows one = refl
ends_as false (Some page) n follows one = absurd (⊎_elim (λ more. absurd (omega (arith, more, one))) (λ front. false≢true front) (follows.0 refl))
ends_as true next n follows one = follows.1 (inr refl)

-- the cursor went on to the first entry of its next page
pub given_on : (is_front : Bool) (sizes : Sizes) (run : Component) (old new : CursorState) (given : Entries) (next : Option ℕ) (es : Entries)
    (e : Key × Rec) (file : List ℕ) → page_count sizes ≤ no_page
    → HasGivenOf is_front sizes run old given file → old.behind ≡ [] → 0 < old.pages → GoesOnAt sizes old next es file → IsStepped (turned next es old) new e
    → HasGivenOf is_front sizes run new (given ++ e ∷ []) file
given_on is_front sizes run old new given next es e file few g none more at stepped =
    let each = at.valid.content.each in
    let first = same_first es e new.behind each stepped.right stepped.behind_is in
    let here : g.here ≡ [] = none_in_none g.here (sym none ∙ g.behind_is) in
    let p : RunPage = record { number = old.next; entries = es } in
    let end : g.end ≡ Some old.next = end_some g.end old.next (page_count sizes) g.end_is at.inside few in
    let before : given ++ g.here ≡ given = ap (λ (l : List (Key × Rec)). given ++ l) here ∙ append-nil given in
    let so_far : entries_of g.pages ≡ given = g.entries_are ∙ before in
    let head : old.head ≡ last_or None given = ⊎_elim (λ is. is) (λ last. absurd (omega (arith, last, more))) g.head_is in
    let whole : AreRising (given ++ es) = rise_join None given es (subst AreRising before g.rise) (subst (λ (h : Option (Key × Rec)). AreRising (from_head h es)) head at.goes_on.rise) in
    let moved : given ++ es ≡ (given ++ e ∷ []) ++ first.more =
    ap (λ (l : Entries). given ++ l) first.here_is ∙ entries_push given e first.more in
    let pages = g.pages_is in
    let count = g.entries_is in
    let weighs = g.weight_is in
    let on_page : length es ≡ 1 + length first.more = ap (length {A = Key × Rec}) first.here_is ∙ omega arith in
    let follows : IsSome next ↔ ((1 < old.pages) ⊎ IsTrue is_front) =
    subst (λ (b : Bool). IsSome next ↔ ((1 < old.pages) ⊎ IsTrue b)) g.front_is at.goes_on.numbers.follows in
    record {
      front_is = stepped.front_is ∙ g.front_is;
      pages = g.pages ++ p ∷ [];
      end = next;
      here = first.more;
      first_is = ap page_number (first_join g.pages (p ∷ []) next) ∙ ap (λ (o : Option ℕ). page_number (first_number g.pages o)) (sym end) ∙ g.first_is;
      chained = chain_join sizes g.pages (p ∷ []) next file (subst (λ (o : Option ℕ). AreChained sizes g.pages o file) end g.chained) (at.inside, at.valid, tt);
      end_is = sym stepped.next_is;
      none_next = λ last. ends_as is_front next old.pages follows (omega (arith, last, more, stepped.pages_is));
      each = All-tail IsPageEntry e first.more (subst (λ (l : List (Key × Rec)). AreEntries l) first.here_is each);
      behind_is = first.rest_is;
      entries_are = entries_join g.pages (p ∷ []) ∙ (λ i. so_far i ++ append-nil es i) ∙ moved;
      on_last = λ last is.
          let same : p ≡ last = one_some (sym (last_push None g.pages p) ∙ is) in
          omega (arith, on_page, ap (λ (q : RunPage). length q.entries) same);
      rise = subst AreRising moved whole;
      head_is = inl (stepped.head_is ∙ sym (last_push None given e));
      pages_is = omega (arith, pages, more, stepped.pages_is, length-append g.pages (p ∷ []));
      entries_is = omega (arith, count, stepped.entries_is, length-append given (e ∷ []));
      weight_is = omega (arith, weighs, stepped.weight_is, weights_push given e);
    }

-- ---- the end

module _ {is_front : Bool} {sizes : Sizes} {run : Component} {old : CursorState} {given : Entries} {file : List ℕ} (few : page_count sizes ≤ no_page)
    (g : HasGivenOf is_front sizes run old given file) (none : old.behind ≡ []) (last : old.pages ≡ 0) (no_entries : old.entries ≡ 0)
    (no_weight : old.weight ≡ 0) where
  all_given : entries_of g.pages ≡ given
  all_given = g.entries_are ∙ ap (λ (l : Entries). given ++ l) (none_in_none g.here (sym none ∙ g.behind_is)) ∙ append-nil given

  reads_given : ReadsOn sizes run g.pages g.end file
  reads_given =
      let rise : AreRising (entries_of g.pages) = subst AreRising (sym g.entries_are) g.rise in
      record {
        first_is = g.first_is;
        chained = g.chained;
        rise = rise;
        apart = rising_apart sizes g.pages g.end file few g.chained rise;
        pages_is = omega (arith, g.pages_is, last);
        entries_is = ap length all_given ∙ omega (arith, g.entries_is, no_entries);
        weight_is = ap entries_weight all_given ∙ omega (arith, g.weight_is, no_weight);
      }

  pub given_end : HasListOf is_front sizes run given file × HasGivenOf is_front sizes run (record old { head = None }) given file
  given_end = (
    by is_front (g.none_next last),
    record {
      front_is = g.front_is;
      pages = g.pages;
      end = g.end;
      here = g.here;
      first_is = g.first_is;
      chained = g.chained;
      end_is = g.end_is;
      none_next = g.none_next;
      each = g.each;
      behind_is = g.behind_is;
      entries_are = g.entries_are;
      on_last = g.on_last;
      rise = g.rise;
      head_is = inr last;
      pages_is = g.pages_is;
      entries_is = g.entries_is;
      weight_is = g.weight_is;
    },
  )
    where
      front : (end : Option ℕ) → g.end ≡ end → IsSome end → HasListOf true sizes run given file
      front None is some = absurd (false≢true some)
      front (Some n) is some = (
        n,
        record {
          pages = g.pages;
          reads = subst (λ (end : Option ℕ). ReadsOn sizes run g.pages end file) is reads_given;
          entries_are = all_given;
        },
      )

      by : (goes_on : Bool) → EndsAs goes_on g.end → HasListOf goes_on sizes run given file
      by false is = record {
        pages = g.pages;
        reads = subst (λ (end : Option ℕ). ReadsOn sizes run g.pages end file) is reads_given;
        entries_are = all_given;
      }
      by true some = front g.end refl some
