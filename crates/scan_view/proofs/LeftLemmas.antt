-- What a cursor has left above a key, while it goes on.
use Rattle.std.proofs.Common.{◌≡◌, ◌≢◌, ◌∙◌, ◌⊎◌, ℕ, ◌+◌, ◌<◌, ◌≤◌, Bool, true, false, List, [], ◌∷◌, length, Option, Some, None, IfSome, IfNone, Result, Ok, Err, inl, inr, refl, ap, sym, subst, arith}
use Rattle.std.proofs.lemmas.Grind.{common_steps}
use Rattle.std.proofs.lemmas.Bool.Decides.{nat_tests}
use Rattle.std.proofs.lemmas.Cmp.{nat_list_cmp_total}
use Rattle.std.specs.Result.{IsErrAnd}
use Rattle.std.proofs.lemmas.Result.{err_from_is_err_and}
use Rattle.std.specs.List.{IsDistinct}
use Rattle.std.specs.List.Sorted.{IsStrictlySortedBy}
use Rattle.blsm_model.specs.declared.component.Component.{Component}
use Rattle.blsm_model.specs.Components.{empty_component, no_page}
use Rattle.std.proofs.lemmas.Bool.{false≢true}
use Rattle.blsm_model.specs.declared.key.Key.{Key}
use Rattle.blsm_model.specs.Sizes.{Sizes}
use Rattle.disk_trait.specs.Disk.{DiskState}
use Rattle.disk_trait.specs.Moments.{IsTimed}
use Rattle.disk_trait.specs.Reads.{OnlyReads}
use Rattle.disk_trait.proofs.ReadLemmas.{only_reads_same}
use Rattle.page_file.specs.File.{Reads}
use Rattle.record_delta.specs.declared.record.Rec.{Rec}
use Rattle.record_delta.specs.Records.{weight}
use Rattle.record_delta.specs.Entries.{Entries, AreSorted, above, is_above, first_of}
use Rattle.page_file.specs.declared.file.Broken.{Broken}
use Rattle.page_file.specs.declared.file.Broken.TheVariants.{Fault}
use Rattle.page_file.specs.Component.{RunPage, numbers_of, HasList}
use Rattle.run_cursor.specs.declared.walk.Walk.{Walk}
use Rattle.run_cursor.specs.Cursor.{CursorState, from_head, HasAhead, HasAheadTo, HasFront, IsAdvancedTo, AreAmong}
use Rattle.run_cursor.specs.Given.{EndsAs, HasListOf, pages_listed}
use Rattle.run_cursor.specs.Part.{IsNextPart}
use Rattle.run_cursor.specs.Walk.{IsWalk}
use Rattle.merge_ends.specs.Input.{head_above, key_of}
use Rattle.merge_ends.proofs.GroupLemmas.{above_further, further, first_none}
use Rattle.merge_step.proofs.TakenLemmas.{first_above, taken}
use Rattle.scan_view.specs.Left.{IsFile, IsAheadOf, IsFromOne, HasLeft, HasPart, count_left}

-- ---- answers of calls

pub not_both : {A : Type 0} (a : Result A Broken) (value : A) (broken : Broken) → a ≡ Err broken → a ≡ Ok value → ⊥
not_both a value broken was is = cc

pub calm_of : {A : Type 0} (a : Result A Broken) (value : A) → a ≡ Ok value → a ≡ Err Fault → ⊥
calm_of a value is fault = not_both a value Fault fault is

pub one_value : {A : Type 0} (result : Result A Broken) (a b : A) → result ≡ Ok a → result ≡ Ok b → a ≡ b
one_value result a b is is_too = cc

-- a call that hands another one's failure on: what the one answers, and what the other did
pub failed_as : {A B : Type 0} {other : Result A Broken} {result : Result B Broken} {broken named : Broken} → IsErrAnd result (λ e. e ≡ broken) → other ≡ Err broken → result ≡ Err named → other ≡ Err named
failed_as {result = result} handed was is = let p = err_from_is_err_and result handed in cc (p.1, p.2)

-- the other one can't have failed, if it only fails at a fault
pub not_failed : {A B : Type 0} {other : Result A Broken} {result : Result B Broken} {broken : Broken} {value : A} → IsErrAnd result (λ e. e ≡ broken) → other ≡ Err broken → result ≢ Err Fault
    → (other ≢ Err Fault → other ≡ Ok value) → ⊥
not_failed handed was calm done = grind (arith, common_steps, nat_tests)

-- ---- a file that is only read

pub file_on : {end most : ℕ} {file : List ℕ} {old new : DiskState} → OnlyReads end most old new → IsFile file old → IsFile file new
file_on run is = record { honest = run.effect.goes_on.is_honest ∙ is.honest; bytes_are = only_reads_same run is.honest ∙ is.bytes_are }

-- ---- a cursor that goes on

-- what is left is what comes after the head, where that isn't above the key
left_behind : (at : Option Key) (head : Option (Key × Rec)) (rest entries : Entries) → head_above at head ≡ false → above at (from_head head rest) ≡ above at entries → above at rest ≡ above at entries
left_behind at head rest entries stale is = grind (arith, common_steps, nat_tests)

-- the part in which the next entry stands has left what the one before had
abbrev pub Listed : Bool → Sizes → Component → Entries → List RunPage → List ℕ → Type 0
Listed is_front sizes part rest coming file =
    (list : HasListOf is_front sizes part rest file) × (pages_listed is_front sizes part rest file list ≡ coming)

pub part_left : {is_front : Bool} {sizes : Sizes} {file : List ℕ} {at : Option Key} {walk : Walk} {part : Component} {entries : Entries} {pages : List ℕ}
    → head_above at walk.cursor.head ≡ false → (has : HasLeft is_front sizes at walk entries pages file)
    → Listed is_front sizes part has.rest has.ahead.coming file ⊎ (part ≡ walk.here) → HasPart is_front sizes at part entries pages file
part_left {is_front} {sizes} {file} {at} {walk} {part} {entries} {pages} stale has is = by is
  where
    by : Listed is_front sizes part has.rest has.ahead.coming file ⊎ (part ≡ walk.here) → HasPart is_front sizes at part entries pages file
    by (inl begins) = record {
      of_part = has.rest;
      list = begins.0;
      left_is = left_behind at walk.cursor.head has.rest entries stale has.left_is;
      among = subst (λ (ps : List RunPage). AreAmong ps pages) (sym begins.1) has.among;
    }
    by (inr same) = subst (λ (p : Component). HasPart is_front sizes at p entries pages file) (sym same) has.part

left_on : (is_front : Bool) (sizes : Sizes) (file : List ℕ) (at : Option Key) (old new : Walk) (entries : Entries) (pages : List ℕ)
    → head_above at old.cursor.head ≡ false → (has : HasLeft is_front sizes at old entries pages file)
    → IsAdvancedTo has.end sizes new.cursor (numbers_of has.ahead.coming) has.rest file → HasPart is_front sizes at new.here entries pages file
    → HasLeft is_front sizes at new entries pages file
left_on is_front sizes file at old new entries pages stale has advanced part =
    by has.rest (left_behind at old.cursor.head has.rest entries stale has.left_is) advanced
  where
    by : (rest : Entries) → above at rest ≡ above at entries → IsAdvancedTo has.end sizes new.cursor (numbers_of has.ahead.coming) rest file
        → HasLeft is_front sizes at new entries pages file
    by [] left_is on = record {
      end = has.end;
      ends = has.ends;
      rest = [];
      ahead = on.1;
      left_is = ap (λ (h : Option (Key × Rec)). above at (from_head h [])) on.0 ∙ left_is;
      among = λ n in_pages. has.among n (on.2 n in_pages);
      part = part;
    }
    by (e ∷ es) left_is on = record {
      end = has.end;
      ends = has.ends;
      rest = es;
      ahead = on.1;
      left_is = ap (λ (h : Option (Key × Rec)). above at (from_head h es)) on.0 ∙ left_is;
      among = λ n in_pages. has.among n (on.2 n in_pages);
      part = part;
    }

-- by what calls of `next_part` and `advance` say of lists
pub advance_left : {result : Result (Unit {0}) Broken} {is_front : Bool} {sizes : Sizes} {file bytes : List ℕ} {at : Option Key} {old new : Walk}
    {entries : Entries} {pages : List ℕ} → bytes ≡ file
    → head_above at old.cursor.head ≡ false → HasLeft is_front sizes at old entries pages file
    → ((rest : Entries) (ahead : HasAhead sizes old.cursor rest file) → ((list : HasList sizes new.here rest file) × (list.pages ≡ ahead.coming)) ⊎ (new.here ≡ old.here))
    → ((end : ℕ) (rest : Entries) (ahead : HasAheadTo (Some end) sizes old.cursor rest file)
    → ((list : HasFront sizes new.here end rest file) × (list.pages ≡ ahead.coming)) ⊎ (new.here ≡ old.here))
    → ((end : Option ℕ) (rest : Entries) (before : HasAheadTo end sizes old.cursor rest bytes) → result ≢ Err Fault
    → (result ≡ Ok tt) × IsAdvancedTo end sizes new.cursor (numbers_of before.coming) rest bytes)
    → result ≢ Err Fault → (result ≡ Ok tt) × HasLeft is_front sizes at new entries pages file
advance_left {is_front = is_front} {sizes} {file} {bytes} {at} {old} {new} {entries} {pages} same stale has part part_of_front list other =
    let here = subst (λ (b : List ℕ). HasLeft is_front sizes at old entries pages b) (sym same) has in
    let advanced = list here.end here.rest here.ahead other in
    let next = subst (λ (b : List ℕ). HasPart is_front sizes at new.here entries pages b) (sym same)
    (part_left {is_front = is_front} {walk = old} stale has (listed is_front has.end has.ends has.ahead)) in (
      advanced.0,
      subst (λ (b : List ℕ). HasLeft is_front sizes at new entries pages b) same
          (left_on is_front sizes bytes at old new entries pages stale here advanced.1 next),
    )
  where
    listed : (kind : Bool) (end : Option ℕ) → EndsAs kind end → (ahead : HasAheadTo end sizes old.cursor has.rest file)
        → Listed kind sizes new.here has.rest ahead.coming file ⊎ (new.here ≡ old.here)
    listed false None ends ahead = part has.rest ahead
    listed false (Some end) ends ahead = absurd (let no : ◌≡◌ {A = Option ℕ} (Some end) None = ends in cc)
    listed true None ends ahead = absurd (false≢true ends)
    listed true (Some end) ends ahead = by (part_of_front end has.rest ahead)
      where
        by : ((list : HasFront sizes new.here end has.rest file) × (list.pages ≡ ahead.coming)) ⊎ (new.here ≡ old.here)
            → Listed true sizes new.here has.rest ahead.coming file ⊎ (new.here ≡ old.here)
        by (inl begins) = inl ((end, begins.0), begins.1)
        by (inr same) = inr same

-- a cursor that is at an entry above the key, or at the end, is at the first of what it has left
pub head_first : (is_front : Bool) (sizes : Sizes) (file : List ℕ) (at : Option Key) (walk : Walk) (entries : Entries) (pages : List ℕ)
    → HasLeft is_front sizes at walk entries pages file → (head_above at walk.cursor.head ≡ true) ⊎ ((walk.cursor.head ≡ None) × (walk.cursor.entries ≡ 0)) → walk.cursor.head ≡ first_of (above at entries)
head_first is_front sizes file at walk entries pages h1 h2 = grind (arith, common_steps, nat_tests)

-- at the end nothing is ahead
none_reads : (sizes : Sizes) (file : List ℕ) → (list : HasList sizes empty_component [] file) × (list.pages ≡ [])
unfolding IsStrictlySortedBy IsDistinct
none_reads sizes file = (
  record {
    pages = [];
    reads = record { first_is = refl; chained = tt; rise = tt; apart = tt; pages_is = refl; entries_is = refl; weight_is = refl };
    entries_are = refl;
  },
  refl,
)

none_front : (sizes : Sizes) (file : List ℕ) → HasFront sizes empty_component no_page [] file
unfolding IsStrictlySortedBy IsDistinct
none_front sizes file = record {
  pages = [];
  reads = record { first_is = refl; chained = tt; rise = tt; apart = tt; pages_is = refl; entries_is = refl; weight_is = refl };
  entries_are = refl;
}

pub none_listed : (is_front : Bool) (sizes : Sizes) (file : List ℕ) → Listed is_front sizes empty_component [] [] file
unfolding none_front
none_listed false sizes file = none_reads sizes file
none_listed true sizes file = ((no_page, none_front sizes file), refl)

pub left_ended : {is_front : Bool} {sizes : Sizes} {file : List ℕ} {at : Option Key} {old new : Walk} {entries : Entries} {pages : List ℕ}
    → new.cursor ≡ old.cursor → new.here ≡ empty_component → old.cursor.head ≡ None
    → old.cursor.entries ≡ 0 → HasLeft is_front sizes at old entries pages file → HasLeft is_front sizes at new entries pages file
left_ended {is_front} {sizes} {file} {at} {old} {new} {entries} {pages} cursor here none no_entries has =
    subst (λ (w : Walk). HasLeft is_front sizes at w entries pages file) is at_end
  where
    is : ◌≡◌ {A = Walk} (record { cursor = old.cursor; here = empty_component }) new
    is = λ i. record { cursor = sym cursor i; here = sym here i }

    at_end : HasLeft is_front sizes at (record { cursor = old.cursor; here = empty_component }) entries pages file
    at_end = record {
      end = has.end;
      ends = has.ends;
      rest = has.rest;
      ahead = has.ahead;
      left_is = has.left_is;
      among = has.among;
      part = record {
        of_part = [];
        list = (none_listed is_front sizes file).0;
        left_is = sym (first_none (above at entries) (sym (head_first is_front sizes file at old entries pages has (inr (none, no_entries))) ∙ none));
        among = subst (λ (ps : List RunPage). AreAmong ps pages) (sym (none_listed is_front sizes file).1)
            (λ n in_none. absurd (omega (arith, in_none.1)));
      };
    }

-- ---- above another key

pub part_further : (is_front : Bool) (sizes : Sizes) (file : List ℕ) (at : Option Key) (key : Key) (part : Component) (entries : Entries)
    (pages : List ℕ) → is_above at key ≡ true
    → HasPart is_front sizes at part entries pages file → HasPart is_front sizes (Some key) part entries pages file
part_further is_front sizes file at key part entries pages key_above has = record {
  of_part = has.of_part;
  list = has.list;
  left_is = above_further at key has.of_part key_above ∙ ap (above (Some key)) has.left_is ∙ sym (above_further at key entries key_above);
  among = has.among;
}

pub left_further : (is_front : Bool) (sizes : Sizes) (file : List ℕ) (at : Option Key) (key : Key) (walk : Walk) (entries : Entries) (pages : List ℕ)
    → is_above at key ≡ true → HasLeft is_front sizes at walk entries pages file → HasLeft is_front sizes (Some key) walk entries pages file
left_further is_front sizes file at key walk entries pages key_above has = record {
  end = has.end;
  ends = has.ends;
  rest = has.rest;
  ahead = has.ahead;
  left_is = above_further at key (from_head walk.cursor.head has.rest) key_above ∙ ap (above (Some key)) has.left_is ∙ sym (above_further at key entries key_above);
  among = has.among;
  part = part_further is_front sizes file at key walk.here entries pages key_above has.part;
}

-- ---- pages ahead

-- by what calls of `next_part` and `advance` say of pages, where an entry came
pub walks_on : (old new : Walk) → IsWalk old → IsNextPart old.cursor old.here new.here → (old.cursor.behind ≡ [] → 0 < old.cursor.pages → old.cursor.pages ≡ new.cursor.pages + 1)
    → (old.cursor.behind ≢ [] → new.cursor.pages ≡ old.cursor.pages) → new.cursor.pages ≤ old.cursor.pages → IsWalk new × (new.here.pages ≤ old.here.pages)
walks_on old new h1 h2 h3 h4 h5 = grind (arith, common_steps, nat_tests)

-- and at the end
pub walks_ended : (old new : Walk) → new.here ≡ empty_component → new.cursor.pages ≡ 0 → IsWalk new × (new.here.pages ≤ old.here.pages)
walks_ended old new here none =
    let no_pages : new.here.pages ≡ 0 = ap (λ (p : Component). p.pages) here in
    (record { paged = λ no. here; within = omega (arith, none, no_pages); one = omega (arith, none, no_pages) }, omega (arith, no_pages))

-- ---- counts

-- what a call of `advance` says of counts
abbrev pub Falls : CursorState → CursorState → Option (Key × Rec) → Type 0
Falls old new head = IfSome head (λ e. (old.entries ≡ new.entries + 1) × (old.weight ≡ weight e.0 e.1 + new.weight))

abbrev pub Ends : CursorState → CursorState → Option (Key × Rec) → Type 0
Ends old new head = IfNone head ((old.weight ≡ 0) × (new.entries ≡ 0) × (new.weight ≡ 0) × (new.pages ≡ 0))

pub count_falls : (at : Option Key) (old new : CursorState) → head_above at old.head ≡ false → Falls old new new.head → Ends old new new.head → count_left at new ≤ count_left at old
count_falls at old new stale falls ended = grind (arith, common_steps, nat_tests)

pub at_end : (old new : CursorState) → new.head ≡ None → Ends old new new.head → (new.head ≡ None) × (new.entries ≡ 0)
at_end old new none ended = (none, (subst (λ (h : Option (Key × Rec)). Ends old new h) none ended).1)

-- ---- calls, one after the other

pub reads_after : {A : Type 0} {end most more : ℕ} {result : Result A Broken} {old mid new : DiskState} (total : ℕ) → IsTimed mid → mid.faults ≡ old.faults
    → OnlyReads end most old mid → Reads end more result mid new → new.clock ≤ old.clock + total → Reads end total result old new
reads_after total h1 h2 h3 h4 h5 = grind (arith, common_steps, nat_tests)

-- a call that hands another one's failure on
pub reads_err : {A B : Type 0} {end most : ℕ} {old new : DiskState} {other : Result A Broken} {result : Result B Broken} {broken : Broken} → IsErrAnd result (λ e. e ≡ broken) → other ≡ Err broken
    → Reads end most other old new → Reads end most result old new
reads_err h1 h2 h3 = grind (arith, common_steps, nat_tests)

-- a call that goes on after another one, and answers Ok
pub reads_ok : {A B : Type 0} {end most : ℕ} {old new : DiskState} {result : Result A Broken} {value : A} {other : B} → result ≡ Ok value
    → Reads end most result old new → Reads end most (Ok other) old new
reads_ok h1 h2 = grind (arith, common_steps, nat_tests)

pub some_of : {P : Key × Rec → Type 0} (entry : Option (Key × Rec)) → ((e : Key × Rec) → entry ≡ Some e → P e) → IfSome entry P
some_of entry h1 = grind (arith, common_steps, nat_tests)

-- ---- a key that is passed

pub first_ahead : (at : Option Key) (es : Entries) → IsAheadOf at (first_of (above at es))
first_ahead at es = grind (arith, common_steps, nat_tests, some_of, first_above)

-- no more is left above a greater key
pub count_further : (at : Option Key) (key : Key) (cursor : CursorState) → is_above at key ≡ true → count_left (Some key) cursor ≤ count_left at cursor
count_further at key cursor key_above = grind (arith, common_steps, nat_tests, further)

-- and less, where the cursor is at it
pub count_less : (at : Option Key) (key : Key) (cursor : CursorState) → is_above at key ≡ true → key_of cursor.head ≡ Some key → count_left (Some key) cursor < count_left at cursor
count_less at key cursor key_above is = grind (arith, common_steps, nat_tests, nat_list_cmp_total)

fewer : (at : Option Key) (es : Entries) → length (above at es) ≤ length es
fewer at [] = omega arith
fewer at (e ∷ es) = grind (arith, common_steps, nat_tests, fewer at es)

pub memory_further : (at : Option Key) (key : Key) (es : Entries) → is_above at key ≡ true → length (above (Some key) es) ≤ length (above at es)
memory_further at key es key_above = omega (arith, ap {B = ℕ} (λ (l : Entries). length l) (above_further at key es key_above), fewer (Some key) (above at es))

pub memory_less : (at : Option Key) (key : Key) (es : Entries) → AreSorted es → key_of (first_of (above at es)) ≡ Some key → length (above (Some key) es) < length (above at es)
memory_less at key es sorted is = grind (arith, common_steps, nat_tests, taken)

-- an entry that was folded from four heads has one of their keys
pub from_four : (memory h1 h2 h3 deep older found m g1 g2 g3 : Option (Key × Rec)) (key : Key) → m ≡ memory → g1 ≡ h1 → g2 ≡ h2 → g3 ≡ h3
    → IsFromOne g2 g3 deep → IsFromOne g1 deep older → IsFromOne m older found → key_of found ≡ Some key
    → (key_of memory ≡ Some key) ⊎ ((key_of h1 ≡ Some key) ⊎ ((key_of h2 ≡ Some key) ⊎ (key_of h3 ≡ Some key)))
from_four memory h1 h2 h3 deep older found m g1 g2 g3 key m_is is1 is2 is3 from_deep from_older from_found is = grind (arith, common_steps, nat_tests)

pub key_is_ahead : (at : Option Key) (entry : Option (Key × Rec)) (e : Key × Rec) → entry ≡ Some e → IsAheadOf at entry → is_above at e.0 ≡ true
key_is_ahead at entry e is ahead = subst (λ (x : Option (Key × Rec)). IsAheadOf at x) is ahead
