-- What a cursor keeps as it goes on.
use Rattle.std.proofs.lemmas.Bool.Decides.{nat_tests}
use Rattle.std.proofs.lemmas.Grind.{common_steps}
use Rattle.std.proofs.Common.{◌≡◌, ◌≢◌, ◌↔◌, ◌⊎◌, inl, inr, ⊎_elim, Bool, true, false, ℕ, zero, suc, ◌+◌, ◌-◌, ◌*◌, ◌<◌, ◌≤◌, List, [], ◌∷◌, ◌++◌, length, take, drop, Option, Some, None, refl, ap, sym, subst, ◌∙◌, append_assoc, length-append, arith}
use Rattle.std.specs.Prelude.{replicate, IsTrue, IsSome, is_some}
use Rattle.std.proofs.lemmas.Bool.{false≢true}
use Rattle.std.specs.List.{between, AllByRecursion}
use Rattle.std.specs.List.Sorted.{IsStrictlySortedBy}
use Rattle.std.specs.Ordering.{is_lt}
use Rattle.std.specs.declared.cmp.Ordering.{Ordering}
use Rattle.std.specs.declared.cmp.Ordering.TheVariants.{Less}
use Rattle.std.proofs.lemmas.Cmp.{nat_list_cmp_total}
use Rattle.std.proofs.lemmas.List.{drop-drop, drop_at, take_at}
use Rattle.std.proofs.lemmas.List.Edits.{between_none, length-between}
use Rattle.std.proofs.lemmas.List.Elements.{All-nil, All-head, All-tail, Contains-append_right}
use Rattle.std.proofs.lemmas.List.Sums.{sum_by-cons}
use Rattle.std.proofs.lemmas.Slice.{between_is}
use Rattle.blsm_model.specs.Format.{least_full, page_length}
use Rattle.blsm_model.specs.declared.component.Component.{Component}
use Rattle.blsm_model.specs.declared.key.Key.{Key}
use Rattle.blsm_model.specs.Keys.{key_cmp}
use Rattle.blsm_model.specs.Sizes.{Sizes}
use Rattle.blsm_model.specs.Geometry.{page_count}
use Rattle.record_delta.specs.declared.record.Rec.{Rec}
use Rattle.record_delta.specs.Records.{weight}
use Rattle.entry_codec.specs.Spelling.{BeginsWith}
use Rattle.page_file.specs.Entry.{IsPageEntry, entry_bytes, entries_bytes, AreEntries, keys_of, AreRising}
use Rattle.blsm_model.specs.Components.{no_page}
use Rattle.page_file.specs.Page.{most_used, page_number, used_by, page_head, IsPageOf}
use Rattle.page_file.specs.declared.file.Broken.{Broken}
use Rattle.page_file.specs.declared.file.Broken.TheVariants.{Fault, Damaged}
use Rattle.page_file.specs.File.{page_at}
use Rattle.page_file.specs.Component.{RunPage, numbers_of, entries_of, first_number, AreChained, HasList, ReadsOn}
use Rattle.record_delta.specs.Entries.{entries_weight, Entries}
use Rattle.page_file.proofs.EntryLemmas.{few_entries, entry_same}
use Rattle.page_file.proofs.PageLemmas.{spelled, length-page_head, page_same, entry_at}
use Rattle.page_file.proofs.ComponentLemmas.{weight_join, weight_is_length}
use Rattle.entry_codec.proofs.SpellingLemmas.{length-spelling}
use Rattle.run_cursor.specs.Cursor.{CursorState, seen, IsKept, begun, started, started_front, from_head, IsCursor, AreInNumber, PageGoesOn, GoesOnAt}
use Rattle.run_cursor.specs.Cursor.{turned, IsStepped, Rises, HasAhead, HasAheadTo, HasFront, AreAmong, IsAdvancedTo, IsDamageAt}

pub weights-cons : (e : Key × Rec) (es : List (Key × Rec)) → entries_weight (e ∷ es) ≡ weight e.0 e.1 + entries_weight es
weights-cons e es = sum_by-cons (λ (f : Key × Rec). weight f.0 f.1) e es

-- ---- the start

begun_ahead : (end : Option ℕ) (sizes : Sizes) (run : Component) (entries : Entries) (file : List ℕ) (pages : List RunPage)
    → ReadsOn sizes run pages end file → entries_of pages ≡ entries
    → (ahead : HasAheadTo end sizes (begun (is_some end) run) entries file) × (ahead.coming ≡ pages)
begun_ahead end sizes run entries file pages reads is = (
  record {
    front_is = refl;
    here = [];
    coming = pages;
    each = All-nil IsPageEntry;
    behind_is = refl;
    first_is = reads.first_is;
    chained = reads.chained;
    rest_is = sym is;
    rise = subst AreRising is reads.rise;
    pages_is = reads.pages_is;
    entries_is = ap (length {A = Key × Rec}) (sym is) ∙ reads.entries_is;
    weight_is = ap entries_weight (sym is) ∙ reads.weight_is;
  },
  refl,
)

pub started_ahead : (sizes : Sizes) (run : Component) (entries : Entries) (file : List ℕ) → (list : HasList sizes run entries file)
    → (ahead : HasAhead sizes (started run) entries file) × (ahead.coming ≡ list.pages)
started_ahead sizes run entries file has = begun_ahead None sizes run entries file has.pages has.reads has.entries_are

pub front_ahead : (sizes : Sizes) (run : Component) (end : ℕ) (entries : Entries) (file : List ℕ) → (list : HasFront sizes run end entries file)
    → (ahead : HasAheadTo (Some end) sizes (started_front run) entries file) × (ahead.coming ≡ list.pages)
front_ahead sizes run end entries file has = begun_ahead (Some end) sizes run entries file has.pages has.reads has.entries_are

-- a cursor with no entries behind its head, at the end or before the first page
pub bare_cursor : (behind : List ℕ) (next pages entries weight : ℕ) (is_front : Bool) → behind ≡ [] → (pages ≡ 0 → (entries ≡ 0) × (weight ≡ 0))
    → IsCursor (record { head = None; behind = behind; next = next; pages = pages; entries = entries; weight = weight; is_front = is_front })
unfolding IsStrictlySortedBy
bare_cursor behind next pages entries weight is_front empty none =
    record {
      here = [];
      each = All-nil IsPageEntry;
      behind_is = empty;
      rise = tt;
      few = omega arith;
      light = omega arith;
      all = λ last. (sym (none last).0, sym (none last).1);
    }

-- ---- one entry further

-- where bytes are entries and not none, they begin with the first one
pub record First (bytes : List ℕ) (here : List (Key × Rec)) : Type 0 where
  pub entry : Key × Rec
  pub more : List (Key × Rec)
  pub here_is : here ≡ entry ∷ more
  pub right : IsPageEntry entry
  pub parts : bytes ≡ entry_bytes entry ++ entries_bytes more

pub first_of_bytes : (bytes : List ℕ) (here : List (Key × Rec)) → AreEntries here → bytes ≡ entries_bytes here → 0 < length bytes → First bytes here
first_of_bytes bytes [] each is some = absurd (omega (arith, some, ap (length {A = ℕ}) is))
first_of_bytes bytes (e ∷ es) each is some = record { entry = e; more = es; here_is = refl; right = All-head IsPageEntry e es each; parts = is }

pub begins : (bytes : List ℕ) (here : List (Key × Rec)) (first : First bytes here) → BeginsWith bytes first.entry.0 first.entry.1
begins bytes here first = grind (arith, common_steps, nat_tests)

-- the first entry is one
pub record SameFirst (here : List (Key × Rec)) (entry : Key × Rec) (rest : List ℕ) : Type 0 where
  pub more : List (Key × Rec)
  pub here_is : here ≡ entry ∷ more
  pub rest_is : rest ≡ entries_bytes more

pub same_first : (here : List (Key × Rec)) (entry : Key × Rec) (rest : List ℕ) → AreEntries here → IsPageEntry entry
    → entries_bytes here ≡ entry_bytes entry ++ rest → SameFirst here entry rest
same_first [] entry rest each right is =
    let least = right.key_least in
    absurd (omega (arith, least, ap (length {A = ℕ}) is, length-append (entry_bytes entry) rest, length-spelling entry.0 entry.1))
same_first (e ∷ es) entry rest each right is =
    let one = entry_same e entry (entries_bytes es) rest (All-head IsPageEntry e es each) right is in
    record { more = es; here_is = ap (λ (f : Key × Rec). f ∷ es) one.0; rest_is = sym one.1 }

-- the cursor after a step, and what it had before
pub rise_from : (head : Option (Key × Rec)) (es : Entries) → AreRising (from_head head es) → AreRising es
unfolding IsStrictlySortedBy
rise_from None es rise = rise
rise_from (Some h) es rise = rise.1

rises_over : (head : Option (Key × Rec)) (e : Key × Rec) (es : Entries) → AreRising (from_head head (e ∷ es)) → Rises head (Some e)
unfolding IsStrictlySortedBy
rises_over None e es rise = tt
rises_over (Some h) e es rise = rise.0.0

pub record AfterStep (old new : CursorState) (entry : Key × Rec) : Type 0 where
  pub cursor : IsCursor new
  pub rises : Rises old.head (Some entry)

pub after_step : (old new : CursorState) (entry : Key × Rec) → IsCursor old → IsStepped old new entry → AfterStep old new entry
after_step old new entry kept stepped =
    let first = same_first kept.here entry new.behind kept.each stepped.right (sym kept.behind_is ∙ stepped.behind_is) in
    let more = first.more in
    let rise : AreRising (from_head old.head (entry ∷ more)) = subst (λ (l : List (Key × Rec)). AreRising (from_head old.head l)) first.here_is kept.rise in
    let count : length kept.here ≡ 1 + length more = ap (length {A = Key × Rec}) first.here_is ∙ omega arith in
    let weighs : entries_weight kept.here ≡ weight entry.0 entry.1 + entries_weight more = ap entries_weight first.here_is ∙ weights-cons entry more in
    let few = kept.few in
    let light = kept.light in
    record {
      cursor = record {
        here = more;
        each = All-tail IsPageEntry entry more (subst (λ (l : List (Key × Rec)). AreEntries l) first.here_is kept.each);
        behind_is = first.rest_is;
        rise = subst (λ (h : Option (Key × Rec)). AreRising (from_head h more)) (sym stepped.head_is) (rise_from old.head (entry ∷ more) rise);
        few = omega (arith, few, count, stepped.entries_is);
        light = omega (arith, light, weighs, stepped.weight_is);
        all = λ last. let whole = kept.all (sym stepped.pages_is ∙ last) in
            (omega (arith, whole.0, count, stepped.entries_is), omega (arith, whole.1, weighs, stepped.weight_is));
      };
      rises = rises_over old.head entry more rise;
    }

-- what the numbers of a step are
pub record StepFits (at end length_is entries weight_left : ℕ) : Type 0 where
  pub inside : at + length_is ≤ end
  pub some : 1 ≤ entries
  pub light : length_is ≤ weight_left

pub step_fits : (page : List ℕ) (at end : ℕ) (old : CursorState) (entry : Key × Rec) (len : ℕ) → end ≤ length page → at ≤ end → IsCursor old → old.behind ≡ between at end page
    → IsPageEntry entry → (rest : List ℕ) × (old.behind ≡ entry_bytes entry ++ rest) → len ≡ weight entry.0 entry.1 → StepFits at end len old.entries old.weight
step_fits page at end old entry len inside order kept is right (rest, parts) len_is =
    let first = same_first kept.here entry rest kept.each right (sym kept.behind_is ∙ parts) in
    let few = kept.few in
    let light = kept.light in
    let count : length kept.here ≡ 1 + length first.more = ap (length {A = Key × Rec}) first.here_is ∙ omega arith in
    let weighs : entries_weight kept.here ≡ weight entry.0 entry.1 + entries_weight first.more = ap entries_weight first.here_is ∙ weights-cons entry first.more in
    let long : length (between at end page) ≡ end - at = length-between page at end inside in
    record {
      inside = omega (arith, order, long, ap (length {A = ℕ}) (sym is ∙ parts), length-append (entry_bytes entry) rest, length-spelling entry.0 entry.1, len_is);
      some = omega (arith, few, count);
      light = omega (arith, light, weighs, len_is);
    }

-- the bytes behind the entry are what is left of those before
pub step_bytes : (page : List ℕ) (at end : ℕ) (entry : Key × Rec) (len : ℕ) → len ≡ weight entry.0 entry.1
    → (rest : List ℕ) × (between at end page ≡ entry_bytes entry ++ rest) → between at end page ≡ entry_bytes entry ++ between (at + len) end page
step_bytes page at end entry len len_is (rest, parts) =
    let bytes : List ℕ = entry_bytes entry in
    let left : between (at + len) end page ≡ rest =
    between_is page (at + len) end ∙ ap (λ n. drop n (take end page)) (omega arith) ∙ sym (drop-drop len at (take end page)) ∙ ap (drop len) (sym (between_is page at end) ∙ parts)
    ∙ drop_at bytes rest len (length-spelling entry.0 entry.1 ∙ sym len_is) in
    parts ∙ ap (λ (l : List ℕ). bytes ++ l) (sym left)

-- ---- a step of a cursor's fields

pub record Step (head : Option (Key × Rec)) (page : List ℕ) (at end next pages entries weight_left : ℕ) (is_front : Bool) (now : CursorState) (entry : Key × Rec) (len : ℕ) : Type 0 where
  pub light : len ≤ weight_left
  pub some : 1 ≤ entries
  pub kept : IsKept (Some entry) page (at + len) end next pages (entries - 1) (weight_left - len) is_front
  pub stepped : IsStepped now (seen (Some entry) page (at + len) end next pages (entries - 1) (weight_left - len) is_front) entry
  pub rises : Rises now.head (Some entry)

pub step : (head : Option (Key × Rec)) (page : List ℕ) (at end next pages entries weight_left : ℕ) (is_front : Bool) (now : CursorState) (entry : Key × Rec) (len : ℕ) → length page ≡ page_length
    → IsKept head page at end next pages entries weight_left is_front → seen head page at end next pages entries weight_left is_front ≡ now
    → IsPageEntry entry → (rest : List ℕ) × (now.behind ≡ entry_bytes entry ++ rest) → len ≡ weight entry.0 entry.1
    → Step head page at end next pages entries weight_left is_front now entry len
step head page at end next pages entries weight_left is_front now entry len long (order, inside, cursor) is right (rest, parts) len_is =
    let old : CursorState = seen head page at end next pages entries weight_left is_front in
    let new : CursorState = seen (Some entry) page (at + len) end next pages (entries - 1) (weight_left - len) is_front in
    let here : (rest : List ℕ) × (between at end page ≡ entry_bytes entry ++ rest) = (rest, ap (λ (s : CursorState). s.behind) is ∙ parts) in
    let fits : StepFits at end len entries weight_left = step_fits page at end old entry len (omega (arith, long, inside)) order cursor refl right here len_is in
    let some = fits.some in
    let light = fits.light in
    let stepped : IsStepped old new entry = record {
      right = right;
      head_is = refl;
      behind_is = step_bytes page at end entry len len_is here;
      next_is = refl;
      pages_is = refl;
      front_is = refl;
      entries_is = omega (arith, some);
      weight_is = omega (arith, light, len_is);
    } in
    let after = after_step old new entry cursor stepped in
    record {
      light = light;
      some = some;
      kept = (fits.inside, inside, after.cursor);
      stepped = subst (λ (s : CursorState). IsStepped s new entry) is stepped;
      rises = subst (λ (s : CursorState). Rises s.head (Some entry)) is after.rises;
    }

-- the same where the head was read from the page
pub record StepOver (new : Option (Key × Rec)) (page : List ℕ) (at end next pages entries weight_left : ℕ) (is_front : Bool) (now : CursorState) (len : ℕ) : Type 0 where
  pub light : len ≤ weight_left
  pub some : 1 ≤ entries
  pub kept : IsKept new page (at + len) end next pages (entries - 1) (weight_left - len) is_front
  pub stepped : (entry : Key × Rec) × IsStepped now (seen new page (at + len) end next pages (entries - 1) (weight_left - len) is_front) entry
  pub rises : Rises now.head new

-- the entry that stands at the front of what is behind the head
pub at_front : (head : Option (Key × Rec)) (page : List ℕ) (at end next pages entries weight_left : ℕ) (is_front : Bool) (now : CursorState)
    → IsKept head page at end next pages entries weight_left is_front → seen head page at end next pages entries weight_left is_front ≡ now → 0 < length now.behind
    → (key : Key) × (rec : Rec) × BeginsWith (between at end page) key rec
at_front head page at end next pages entries weight_left is_front now kept is some =
    let cursor = kept.2 in
    let first = first_of_bytes _ cursor.here cursor.each cursor.behind_is (subst (λ (s : CursorState). 0 < length s.behind) (sym is) some) in
    (first.entry.0, first.entry.1, begins _ cursor.here first)

pub step_over : (head new : Option (Key × Rec)) (page : List ℕ) (at end next pages entries weight_left : ℕ) (is_front : Bool) (now : CursorState) (len : ℕ) → length page ≡ page_length
    → IsKept head page at end next pages entries weight_left is_front → seen head page at end next pages entries weight_left is_front ≡ now
    → (entry : Key × Rec) × (new ≡ Some entry) × BeginsWith (between at end page) entry.0 entry.1 × (len ≡ weight entry.0 entry.1)
    → StepOver new page at end next pages entries weight_left is_front now len
step_over head new page at end next pages entries weight_left is_front now len long kept is (entry, new_is, begin, len_is) =
    let one = step head page at end next pages entries weight_left is_front now entry len long kept is begin.entry
    (begin.rest, ap (λ (s : CursorState). s.behind) (sym is) ∙ begin.parts) len_is in
    record {
      light = one.light;
      some = one.some;
      kept = subst (λ (h : Option (Key × Rec)). IsKept h page (at + len) end next pages (entries - 1) (weight_left - len) is_front) (sym new_is) one.kept;
      stepped = (entry, subst (λ (h : Option (Key × Rec)). IsStepped now (seen h page (at + len) end next pages (entries - 1) (weight_left - len) is_front) entry) (sym new_is) one.stepped);
      rises = subst (λ (h : Option (Key × Rec)). Rises now.head h) (sym new_is) one.rises;
    }

-- ---- a page

-- a valid page begins with its first entry
pub record PageFirst (entries : Entries) (page : List ℕ) : Type 0 where
  pub first : Key × Rec
  pub more : Entries
  pub entries_are : entries ≡ first ∷ more
  pub begins : BeginsWith (drop 8 page) first.0 first.1

pub page_first : (pages : ℕ) (next : Option ℕ) (entries : Entries) (page : List ℕ) → IsPageOf pages next entries page → PageFirst entries page
page_first pages next [] page of = let some = of.content.head.some in absurd (omega (arith, some))
page_first pages next (e ∷ es) page of =
    let there = entry_at pages next [] es e page of in
    record { first = e; more = es; entries_are = refl; begins = record { entry = All-head IsPageEntry e es of.content.each; rest = there.0; parts = there.1 } }

-- what is above the first of rising keys is below them all
over_all : (low key : Key) (keys : List Key) → key_cmp low key ≡ Less → AllByRecursion (λ (k : Key). key_cmp key k ≡ Less) keys → AllByRecursion (λ (k : Key). key_cmp low k ≡ Less) keys
over_all low key [] less above = tt
over_all low key (k ∷ keys) less above = (nat_list_cmp_total.trans low key k less above.0, over_all low key keys less above.1)

pub rise_over : (head : Key × Rec) (e : Key × Rec) (es : Entries) → AreRising (e ∷ es) → (key_cmp head.0 e.0 ≡ Less) ↔ AreRising (head ∷ e ∷ es)
unfolding IsStrictlySortedBy
rise_over head e es rise = (λ less. ((less, over_all head.0 e.0 (keys_of es) less rise.0), rise), λ whole. whole.0.0)

-- ---- to the front of a page

-- a page's entries stand behind its head
pub on_page : (pages : ℕ) (next : Option ℕ) (entries : Entries) (page : List ℕ) → IsPageOf pages next entries page → between 8 (8 + used_by entries) page ≡ entries_bytes entries
on_page pages next entries page of =
    let head = page_head (length entries) (used_by entries) next in
    let bytes : List ℕ = entries_bytes entries in
    let zeros : List ℕ = replicate (most_used - used_by entries) 0 in
    let whole : page ≡ (head ++ bytes) ++ zeros = of.spelled ∙ spelled next entries ∙ sym (append_assoc head bytes zeros) in
    between_is page 8 (8 + used_by entries) ∙ ap (λ (l : List ℕ). drop 8 (take (8 + used_by entries) l)) whole
    ∙ ap (drop 8) (take_at (head ++ bytes) zeros (8 + used_by entries) (length-append head bytes ∙ ap (λ n. n + used_by entries) (length-page_head (length entries) (used_by entries) next)))
    ∙ drop_at head bytes 8 (length-page_head (length entries) (used_by entries) next)

-- a page has entries
pub page_some : (pages : ℕ) (next : Option ℕ) (entries : Entries) (page : List ℕ) → IsPageOf pages next entries page → 0 < length (entries_bytes entries)
page_some pages next entries page of = let some = of.content.head.some in omega (arith, some, few_entries entries of.content.each)

pub turned_cursor : (old : CursorState) (pages : ℕ) (next : Option ℕ) (entries : Entries) (page : List ℕ) → 0 < old.pages → IsPageOf pages next entries page → PageGoesOn old next entries
    → IsCursor (turned next entries old)
turned_cursor old pages next entries page h1 h2 h3 = grind (arith, common_steps, nat_tests)

-- ---- the first key of a page

pub less_is : (o : Ordering) → is_lt o ≡ true → o ≡ Less
less_is o h1 = grind (arith, common_steps, nat_tests)

-- the key that is found at a page's front is its first entry's
pub rises_to : (head : Option (Key × Rec)) (last first : Key × Rec) (pages : ℕ) (next : Option ℕ) (entries : Entries) (page : List ℕ) (test : Bool) → head ≡ Some last
    → IsPageOf pages next entries page → BeginsWith (drop 8 page) first.0 first.1 → test ≡ is_lt (key_cmp last.0 first.0) → IsTrue test ↔ AreRising (from_head head entries)
rises_to head last first pages next entries page test head_is of begins tests =
    let at = page_first pages next entries page of in
    let one = entry_same first at.first begins.rest at.begins.rest begins.entry at.begins.entry (sym begins.parts ∙ at.begins.parts) in
    let same : first.0 ≡ at.first.0 = ap (λ (e : Key × Rec). e.0) one.0 in
    let over = rise_over last at.first at.more (subst AreRising at.entries_are of.content.rise) in
    let whole : from_head (Some last) (at.first ∷ at.more) ≡ from_head head entries = λ i. from_head (sym head_is i) (sym at.entries_are i) in (
      λ some. subst AreRising whole (over.0 (ap (key_cmp last.0) (sym same) ∙ less_is (key_cmp last.0 first.0) (sym tests ∙ some))),
      λ rises. tests ∙ ap is_lt (ap (key_cmp last.0) same ∙ over.1 (subst AreRising (sym whole) rises)),
    )

-- the numbers that a page's head says are those of its entries
pub numbers_of_page : (cursor : CursorState) (next : Option ℕ) (entries : Entries) (read : Option ℕ) (count used : ℕ) → (read ≡ next) × (count ≡ length entries) × (used ≡ used_by entries)
    → AreInNumber cursor read count used ↔ AreInNumber cursor next (length entries) (entries_weight entries)
numbers_of_page cursor next entries read count used h1 = grind (arith, common_steps, nat_tests, weight_is_length)

-- the fields at the front of a page
pub taken_is : (head : Option (Key × Rec)) (page was : List ℕ) (at end number pages entries weight_left used next_number : ℕ) (is_front : Bool) (now : CursorState) (all : ℕ) (next : Option ℕ) (es : Entries)
    → seen head was at end number pages entries weight_left is_front ≡ now → IsPageOf all next es page → used ≡ used_by es → next_number ≡ page_number next
    → seen head page 8 (8 + used) next_number (pages - 1) entries weight_left is_front ≡ turned next es now
taken_is head page was at end number pages entries weight_left used next_number is_front now all next es is of used_is number_is =
    λ i. record {
      head = (is i).head;
      behind = (ap (λ n. between 8 (8 + n) page) used_is ∙ on_page all next es page of) i;
      next = number_is i;
      pages = (is i).pages - 1;
      entries = (is i).entries;
      weight = (is i).weight;
      is_front = (is i).is_front;
    }

pub taken_kept : (head : Option (Key × Rec)) (page was : List ℕ) (at end number pages entries weight_left used next_number : ℕ) (is_front : Bool) (now : CursorState) (all : ℕ) (next : Option ℕ) (es : Entries)
    → seen head was at end number pages entries weight_left is_front ≡ now → IsPageOf all next es page → used ≡ used_by es → next_number ≡ page_number next → 0 < now.pages → PageGoesOn now next es
    → IsKept head page 8 (8 + used) next_number (pages - 1) entries weight_left is_front
taken_kept head page was at end number pages entries weight_left used next_number is_front now all next es is of used_is number_is more goes =
    let fits = of.content.head.fits in (
      omega arith,
      omega (arith, fits, used_is),
      subst IsCursor (sym (taken_is head page was at end number pages entries weight_left used next_number is_front now all next es is of used_is number_is)) (turned_cursor now all next es page more of goes),
    )

-- another page in the place of one of which nothing is left
pub reread : (head : Option (Key × Rec)) (page was : List ℕ) (at end next pages entries weight_left : ℕ) (is_front : Bool) → length was ≡ page_length → IsKept head was
    at end next pages entries weight_left is_front
    → between at end was ≡ [] → seen head page at end next pages entries weight_left is_front ≡ seen head was at end next pages entries weight_left is_front
reread head page was at end next pages entries weight_left is_front long (order, inside, cursor) none =
    let same : at ≡ end = omega (arith, order, inside, long, ap (length {A = ℕ}) none, length-between was at end (omega (arith, inside, long))) in
    ap (λ (l : List ℕ). record { head = head; behind = l; next = next; pages = pages; entries = entries; weight = weight_left; is_front = is_front })
    (ap (λ n. between at n page) (sym same) ∙ between_none page at ∙ sym none)

pub reread_kept : (head : Option (Key × Rec)) (page was : List ℕ) (at end next pages entries weight_left : ℕ) (is_front : Bool) → length was ≡ page_length → IsKept
    head was at end next pages entries weight_left is_front
    → between at end was ≡ [] → IsKept head page at end next pages entries weight_left is_front
reread_kept head page was at end next pages entries weight_left is_front long kept none =
    (kept.0, kept.1, subst IsCursor (sym (reread head page was at end next pages entries weight_left is_front long kept none)) kept.2)

-- ---- the next page

pub damage_shown : (sizes : Sizes) (cursor : CursorState) (n : ℕ) (page file : List ℕ) (goes : Bool) → page_count sizes ≤ no_page → n ≡ cursor.next → cursor.behind ≡ [] → 0 < cursor.pages
    → page ≡ page_at sizes n file → goes ≡ false
    → ((pages : ℕ) (next : Option ℕ) (entries : Entries) → pages ≤ no_page → IsPageOf pages next entries page → IsTrue goes ↔ PageGoesOn cursor next entries)
    → IsDamageAt sizes cursor n file
damage_shown sizes cursor n page file goes h1 h2 h3 h4 h5 h6 h7 = grind (arith, common_steps, nat_tests)

-- ---- what is ahead

-- no entries are in no bytes
pub none_in_none : (here : List (Key × Rec)) → [] ≡ entries_bytes here → here ≡ []
none_in_none [] empty = refl
none_in_none (e ∷ es) empty =
    absurd (omega (arith, ap (length {A = ℕ}) empty, length-append (entry_bytes e) (entries_bytes es), length-spelling e.0 e.1))

pub stepped_ahead : (end : Option ℕ) (sizes : Sizes) (old new : CursorState) (head : Key × Rec) (rest : Entries) (file : List ℕ)
    → (a : HasAheadTo end sizes old rest file) → IsStepped old new head → IsAdvancedTo end sizes new (numbers_of a.coming) rest file
stepped_ahead end sizes old new head [] file a stepped =
    let first = same_first a.here head new.behind a.each stepped.right (sym a.behind_is ∙ stepped.behind_is) in
    let none : [] ≡ head ∷ (first.more ++ entries_of a.coming) = a.rest_is ∙ ap (λ (l : List (Key × Rec)). l ++ entries_of a.coming) first.here_is in
    absurd (cc)
stepped_ahead end sizes old new head (e ∷ es) file a stepped =
    let first = same_first a.here head new.behind a.each stepped.right (sym a.behind_is ∙ stepped.behind_is) in
    let whole : e ∷ es ≡ head ∷ (first.more ++ entries_of a.coming) =
    a.rest_is ∙ ap (λ (l : List (Key × Rec)). l ++ entries_of a.coming) first.here_is in
    let same : e ≡ head = cc in
    let more : es ≡ first.more ++ entries_of a.coming = cc in
    let one : head ≡ e = sym same in
    let count = a.entries_is in
    let weighs = a.weight_is in (
      stepped.head_is ∙ ap Some one,
      record {
        front_is = stepped.front_is ∙ a.front_is;
        here = first.more;
        coming = a.coming;
        each = All-tail IsPageEntry head first.more (subst (λ (l : List (Key × Rec)). AreEntries l) first.here_is a.each);
        behind_is = first.rest_is;
        first_is = a.first_is ∙ sym stepped.next_is;
        chained = a.chained;
        rest_is = more;
        rise = subst (λ (h : Option (Key × Rec)). AreRising (from_head h es)) (sym (stepped.head_is ∙ ap Some one)) (rise_from old.head (e ∷ es) a.rise);
        pages_is = a.pages_is ∙ sym stepped.pages_is;
        entries_is = omega (arith, count, stepped.entries_is);
        weight_is = omega (arith, weighs, stepped.weight_is, weights-cons e es, ap (λ (f : Key × Rec). weight f.0 f.1) one);
      },
      λ n has. has,
    )

-- at the end nothing is ahead
no_pages : (coming : List RunPage) → length coming ≡ 0 → coming ≡ []
no_pages coming h1 = grind (arith, common_steps, nat_tests)

pub ended_ahead : (end : Option ℕ) (sizes : Sizes) (old : CursorState) (rest : Entries) (file : List ℕ) → (a : HasAheadTo end sizes old rest file)
    → old.behind ≡ [] → old.pages ≡ 0 → IsAdvancedTo end sizes (record old { head = None }) (numbers_of a.coming) rest file
unfolding IsStrictlySortedBy
ended_ahead end sizes old [] file a none last = (
  refl,
  record {
    front_is = a.front_is;
    here = a.here;
    coming = a.coming;
    each = a.each;
    behind_is = a.behind_is;
    first_is = a.first_is;
    chained = a.chained;
    rest_is = a.rest_is;
    rise = tt;
    pages_is = a.pages_is;
    entries_is = a.entries_is;
    weight_is = a.weight_is;
  },
  λ n has. has,
)
ended_ahead end sizes old (e ∷ es) file a none last =
    let here : a.here ≡ [] = none_in_none a.here (sym none ∙ a.behind_is) in
    let coming : a.coming ≡ [] = no_pages a.coming (a.pages_is ∙ last) in
    let empty : e ∷ es ≡ [] = a.rest_is ∙ λ i. (here i) ++ entries_of (coming i) in
    absurd (cc)

-- the front of a rising list rises
rise_front : (es fs : Entries) → AreRising (es ++ fs) → AreRising es
unfolding IsStrictlySortedBy
rise_front [] fs rise = tt
rise_front (e ∷ es) fs rise = (all_front (λ (k : Key). key_cmp e.0 k ≡ Less) es fs rise.0, rise_front es fs rise.1)
  where
    all_front : (P : Key → Type 0) (xs ys : Entries) → AllByRecursion P (keys_of (xs ++ ys)) → AllByRecursion P (keys_of xs)
    all_front P [] ys all = tt
    all_front P (x ∷ xs) ys all = (all.0, all_front P xs ys all.1)

rise_head : (head : Option (Key × Rec)) (es fs : Entries) → AreRising (from_head head (es ++ fs)) → AreRising (from_head head es)
rise_head None es fs rise = rise_front es fs rise
rise_head (Some h) es fs rise = rise_front (h ∷ es) fs rise

-- whether there is a next page, by how many there are, and whether one comes behind them
follows : (ps : List RunPage) (end : Option ℕ) (pages : ℕ) → suc (length ps) ≡ pages
    → IsSome (first_number ps end) ↔ ((1 < pages) ⊎ IsTrue (is_some end))
follows [] None pages is = (λ some. absurd (false≢true some), ⊎_elim (λ more. absurd (omega (arith, more, is))) (λ some. absurd (false≢true some)))
follows [] (Some n) pages is = (λ some. inr refl, λ more. refl)
follows (p ∷ ps) end pages is = (λ some. inl (omega (arith, is)), λ more. refl)

-- pages that are chained fill all but the last of them
chained_full : (end : Option ℕ) (sizes : Sizes) (file : List ℕ) (ps : List RunPage) → AreChained sizes ps end file → least_full * (length ps - 1) ≤ entries_weight (entries_of ps)
chained_full end sizes file [] chained = omega arith
chained_full end sizes file (p ∷ []) chained = omega arith
chained_full end sizes file (p ∷ q ∷ ps) chained =
    let full = chained.1.content.head.full refl in
    omega (arith, full, weight_is_length p.entries, weight_join p.entries (entries_of (q ∷ ps)), chained_full end sizes file (q ∷ ps) chained.2)

-- so has what is left behind a page that was taken, and before it
pub left_enough : (old : CursorState) (next : Option ℕ) (entries : Entries) → AreInNumber old next (length entries) (entries_weight entries)
    → (1 < old.pages → least_full ≤ entries_weight entries) → 0 < old.pages → least_full * (old.pages - 1) ≤ old.weight
left_enough old next entries numbers full more = by old.pages refl
  where
    by : (n : ℕ) → old.pages ≡ n → least_full * (old.pages - 1) ≤ old.weight
    by zero is = absurd (omega (arith, more, is))
    by (suc zero) is = omega (arith, is)
    by (suc (suc n)) is = omega (arith, is, numbers.enough (numbers.follows.1 (inl (omega (arith, is)))), full (omega (arith, is)))

-- a cursor at a page's end, with pages ahead: its next page goes on, and has the first of what is ahead
pub record OnNext (end : Option ℕ) (sizes : Sizes) (old : CursorState) (rest : Entries) (coming : List RunPage) (file : List ℕ) : Type 0 where
  pub next : Option ℕ
  pub entries : Entries
  pub at : GoesOnAt sizes old next entries file
  pub ahead : HasAheadTo end sizes (turned next entries old) rest file
  pub among : AreAmong ahead.coming (numbers_of coming)

on_next : (end : Option ℕ) (sizes : Sizes) (old : CursorState) (rest : Entries) (file : List ℕ) (coming : List RunPage)
    → old.is_front ≡ is_some end → page_number (first_number coming end) ≡ old.next → AreChained sizes coming end file
    → rest ≡ entries_of coming → AreRising (from_head old.head rest) → length coming ≡ old.pages → length rest ≡ old.entries → entries_weight rest ≡ old.weight → 0 < old.pages
    → OnNext end sizes old rest coming file
on_next end sizes old rest file [] front first chained rest_is rise pages_is entries_is weight_is more = absurd (omega (arith, pages_is, more))
on_next end sizes old rest file (p ∷ ps) front first chained rest_is rise pages_is entries_is weight_is more =
    let next = first_number ps end in
    let goes_on = follows ps end old.pages pages_is in
    let as_front : IsSome next ↔ ((1 < old.pages) ⊎ IsTrue old.is_front) =
    subst (λ (b : Bool). IsSome next ↔ ((1 < old.pages) ⊎ IsTrue b)) (sym front) goes_on in
    let count : length rest ≡ length p.entries + length (entries_of ps) = ap (length {A = Key × Rec}) rest_is ∙ length-append p.entries (entries_of ps) in
    let weighs : entries_weight rest ≡ entries_weight p.entries + entries_weight (entries_of ps) = ap entries_weight rest_is ∙ weight_join p.entries (entries_of ps) in
    let valid : IsPageOf (page_count sizes) next p.entries (page_at sizes old.next file) = subst (λ n. IsPageOf (page_count sizes) next p.entries (page_at sizes n file)) first chained.1 in
    let last : old.pages ≡ 1 → entries_of ps ≡ [] = λ one. ap entries_of (no_pages ps (omega (arith, pages_is, one))) in
    let all : old.pages ≡ 1 → (length p.entries ≡ old.entries) × (entries_weight p.entries ≡ old.weight) = λ one. (
      omega (arith, entries_is, count, ap (length {A = Key × Rec}) (last one)),
      omega (arith, weight_is, weighs, ap entries_weight (last one)),
    ) in
    let enough : IsSome next → entries_weight p.entries + least_full * (old.pages - 2) ≤ old.weight =
    λ some. omega (arith, chained_full end sizes file ps chained.2, pages_is, weight_is, weighs) in
    record {
      next = next;
      entries = p.entries;
      at = record {
        inside = subst (λ n. n < page_count sizes) first chained.0;
        valid = valid;
        goes_on = record {
          rise = rise_head old.head p.entries (entries_of ps) (subst (λ (l : Entries). AreRising (from_head old.head l)) rest_is rise);
          numbers = record { follows = as_front; few = omega (arith, entries_is, count); light = omega (arith, weight_is, weighs); all = all; enough = enough };
        };
      };
      ahead = record {
        front_is = front;
        here = p.entries;
        coming = ps;
        each = chained.1.content.each;
        behind_is = refl;
        first_is = refl;
        chained = chained.2;
        rest_is = rest_is;
        rise = rise;
        pages_is = omega (arith, pages_is);
        entries_is = entries_is;
        weight_is = weight_is;
      };
      among = λ n has. Contains-append_right (p.number ∷ []) (numbers_of ps) n has;
    }

pub ahead_on_next : (end : Option ℕ) (sizes : Sizes) (old : CursorState) (rest : Entries) (file : List ℕ) → (a : HasAheadTo end sizes old rest file)
    → old.behind ≡ [] → 0 < old.pages → OnNext end sizes old rest a.coming file
ahead_on_next end sizes old rest file a none more =
    let here : a.here ≡ [] = none_in_none a.here (sym none ∙ a.behind_is) in
    let all : rest ≡ entries_of a.coming = a.rest_is ∙ ap (λ (l : Entries). l ++ entries_of a.coming) here in
    on_next end sizes old rest file a.coming a.front_is a.first_is a.chained all a.rise a.pages_is a.entries_is a.weight_is more

-- what is ahead, on pages among these
abbrev pub AheadAmong : Option ℕ → Sizes → CursorState → Entries → List ℕ → List ℕ → Type 0
AheadAmong end sizes cursor rest pages file = (after : HasAheadTo end sizes cursor rest file) × AreAmong after.coming pages

-- the page that was turned to is that one
pub turned_ahead : (end : Option ℕ) (sizes : Sizes) (old : CursorState) (rest : Entries) (file : List ℕ) (next : Option ℕ) (entries : Entries)
    → page_count sizes ≤ no_page → (a : HasAheadTo end sizes old rest file)
    → old.behind ≡ [] → 0 < old.pages → GoesOnAt sizes old next entries file → AheadAmong end sizes (turned next entries old) rest (numbers_of a.coming) file
turned_ahead end sizes old rest file next entries few a none more at =
    let on = ahead_on_next end sizes old rest file a none more in
    let same = page_same (page_count sizes) on.next next on.entries entries (page_at sizes old.next file) few on.at.valid at.valid in
    subst (λ (o : Option ℕ). AheadAmong end sizes (turned o entries old) rest (numbers_of a.coming) file) same.0
    (subst (λ (es : Entries). AheadAmong end sizes (turned on.next es old) rest (numbers_of a.coming) file) same.1 (on.ahead, on.among))

-- no damage is where entries are ahead
pub not_broken : (end : Option ℕ) (sizes : Sizes) (old : CursorState) (rest : Entries) (file : List ℕ) (broken : Broken)
    → HasAheadTo end sizes old rest file → old.behind ≡ [] → 0 < old.pages → broken ≢ Fault
    → ((n : ℕ) → broken ≡ Damaged n → IsDamageAt sizes old n file) → ⊥
not_broken end sizes old rest file Fault a none more other shown = other refl
not_broken end sizes old rest file (Damaged n) a none more other shown =
    let on = ahead_on_next end sizes old rest file a none more in
    (shown n refl).damaged on.next on.entries on.at

-- ---- the end

-- where a page's entries are through, no bytes are behind the head
pub through : (page : List ℕ) (at end : ℕ) → at ≤ end → end ≤ at → between at end page ≡ []
through page at end order past = let same : at ≡ end = omega (arith, order, past) in ap (λ n. between at n page) (sym same) ∙ between_none page at

pub record Ended (page : List ℕ) (at end next pages entries weight_left : ℕ) (is_front : Bool) : Type 0 where
  pub none_left : between at end page ≡ []
  pub no_entries : entries ≡ 0
  pub no_weight : weight_left ≡ 0
  pub kept : IsKept None page at end next pages entries weight_left is_front

pub ended : (head : Option (Key × Rec)) (page : List ℕ) (at end next pages entries weight_left : ℕ) (is_front : Bool) → IsKept head page at end next pages entries weight_left is_front → end ≤ at → pages ≡ 0
    → Ended page at end next pages entries weight_left is_front
ended head page at end next pages entries weight_left is_front (order, inside, cursor) past last =
    let none = through page at end order past in
    let here : cursor.here ≡ [] = none_in_none cursor.here (sym none ∙ cursor.behind_is) in
    let whole = cursor.all last in
    let no_entries : entries ≡ 0 = sym whole.0 ∙ ap (length {A = Key × Rec}) here in
    let no_weight : weight_left ≡ 0 = sym whole.1 ∙ ap entries_weight here in
    record {
      none_left = none;
      no_entries = no_entries;
      no_weight = no_weight;
      kept = (order, inside, bare_cursor (between at end page) next pages entries weight_left is_front none (λ pages_none. (no_entries, no_weight)));
    }
