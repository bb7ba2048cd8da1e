-- A walk over a front and the component behind it that goes on to a key.
use Rattle.std.specs.Prelude.{OnOk, is_some}
use Rattle.std.proofs.Common.{◌≡◌, ◌∙◌, ◌+◌, ◌≤◌, ◌&&◌, ◌++◌, ℕ, Bool, true, false, cond, T, List, [], ◌∷◌, length, length-append, Option, Some, None, IfSome, Result, Ok, Err, refl, ap, sym, subst, arith}
use Rattle.std.proofs.lemmas.Bool.{false≢true}
use Rattle.std.proofs.lemmas.List.{append-nil}
use Rattle.blsm_model.specs.declared.component.Component.{Component}
use Rattle.blsm_model.specs.declared.key.Key.{Key}
use Rattle.blsm_model.specs.Sizes.{Sizes}
use Rattle.page_file.specs.declared.file.Broken.{Broken}
use Rattle.page_file.specs.Component.{HasList}
use Rattle.record_delta.specs.declared.record.Rec.{Rec}
use Rattle.record_delta.specs.Entries.{Entries, above, first_of, is_above}
use Rattle.run_cursor.specs.declared.walk.Walk.{Walk}
use Rattle.run_cursor.specs.Cursor.{AreAmong, CursorState, HasAhead, from_head, started}
use Rattle.run_cursor.specs.Given.{HasGiven, HasListOf}
use Rattle.merge_ends.specs.Input.{head_above}
use Rattle.merge_ends.proofs.GroupLemmas.{first_none}
use Rattle.merge_step.proofs.MergedLemmas.{is_true, left, test}
use Rattle.scan_view.specs.Hold.{later, splice}
use Rattle.scan_view.specs.Left.{HasLeft, HasRead, HasReadOn, IsAheadOf, count_left}
use Rattle.scan_view.specs.Splice.{IsIn, IsInRest, ReadsFront, ReadsIn, ReadsRest}
use Rattle.scan_view.specs.Told.{Begins, IsDamageBehindFront, IsDamageIn, IsFront, Sources}
use Rattle.scan_view.proofs.ReadLemmas.{read_started}
use Rattle.scan_view.proofs.ScanLemmas.{started_left}
use Rattle.scan_view.proofs.SpliceLemmas.{later_above, splice_first, splice_through}

-- ---- heads

pub none_of : (head : Option (Key × Rec)) → is_some head ≡ false → head ≡ None
none_of None is = refl
none_of (Some e) is = absurd (false≢true (sym is))

some_first : (at released : Option Key) (front rest : Entries) (head : Option (Key × Rec)) → is_some head ≡ true → head ≡ first_of (above at front)
    → head ≡ first_of (above at (splice front released rest))
some_first at released front rest None is first = absurd (false≢true is)
some_first at released front rest (Some e) is first = sym (splice_first at released front rest e (sym first))

rest_first : (at released : Option Key) (front rest : Entries) (head : Option (Key × Rec)) → above at front ≡ []
    → head ≡ first_of (above (later at released) rest) → head ≡ first_of (above at (splice front released rest))
rest_first at released front rest head passed first = first ∙ ap first_of (sym (splice_through at released front rest passed))

-- ---- lists

-- in the component, by what the seek there says
pub rest_goes : {result : Result (Unit {0}) Broken} {sizes : Sizes} {low : Option Key} {old new : Walk} {part : Option Component} {rest : Entries}
    {pages : List ℕ} {file : List ℕ} (at released : Option Key) (front : Entries) → part ≡ None → low ≡ later at released
    → IsIn part sizes at released old front rest pages file
    → (HasLeft false sizes low old rest pages file
    → (result ≡ Ok tt) × HasLeft false sizes low new rest pages file × (new.cursor.head ≡ first_of (above low rest)))
    → (result ≡ Ok tt) × IsIn part sizes at released new front rest pages file × (new.cursor.head ≡ first_of (above at (splice front released rest)))
rest_goes {result} {sizes} {low} {old} {new} {part} {rest} {pages} {file} at released front none low_is has goes =
    subst (λ (p : Option Component). IsIn p sizes at released old front rest pages file
    → (result ≡ Ok tt) × IsIn p sizes at released new front rest pages file × (new.cursor.head ≡ first_of (above at (splice front released rest))))
    (sym none) by has
  where
    by : IsInRest sizes at released old front rest pages file → (result ≡ Ok tt) × IsInRest sizes at released new front rest pages file
        × (new.cursor.head ≡ first_of (above at (splice front released rest)))
    by inside =
        let came = goes (subst (λ (k : Option Key). HasLeft false sizes k old rest pages file) (sym low_is) inside.left) in (
          came.0,
          record { passed = inside.passed; left = subst (λ (k : Option Key). HasLeft false sizes k new rest pages file) low_is came.1 },
          rest_first at released front rest new.cursor.head inside.passed
              (subst (λ (k : Option Key). new.cursor.head ≡ first_of (above k rest)) low_is came.2),
        )

-- in the front, at an entry above the key
pub front_goes : {sizes : Sizes} {at : Option Key} {old new : Walk} {part : Option Component} {c1 : Component} {front : Entries} {pages : List ℕ}
    {file : List ℕ} (released : Option Key) (rest : Entries) → part ≡ Some c1 → is_some new.cursor.head ≡ true → IsIn part sizes at released old front rest pages file
    → (HasLeft true sizes at old front pages file → HasLeft true sizes at new front pages file × (new.cursor.head ≡ first_of (above at front)))
    → IsIn part sizes at released new front rest pages file × (new.cursor.head ≡ first_of (above at (splice front released rest)))
front_goes {sizes} {at} {old} {new} {part} {c1} {front} {pages} {file} released rest some is has goes =
    subst (λ (p : Option Component). IsIn p sizes at released old front rest pages file
    → IsIn p sizes at released new front rest pages file × (new.cursor.head ≡ first_of (above at (splice front released rest))))
    (sym some) by has
  where
    by : IsIn (Some c1) sizes at released old front rest pages file
        → IsIn (Some c1) sizes at released new front rest pages file × (new.cursor.head ≡ first_of (above at (splice front released rest)))
    by inside =
        let came = goes inside.left in (
          record { left = came.0; list = inside.list; among = inside.among },
          some_first at released front rest new.cursor.head is came.1,
        )

-- the front is through, and the walk begins the component
pub front_ends : {sizes : Sizes} {at released low : Option Key} {old new walk : Walk} {part : Option Component} {c1 : Component} {front rest : Entries}
    {pages : List ℕ} {file : List ℕ} → part ≡ Some c1 → low ≡ later at released → new.cursor.head ≡ None
    → IsIn part sizes at released old front rest pages file
    → (HasLeft true sizes at old front pages file → HasLeft true sizes at new front pages file × (new.cursor.head ≡ first_of (above at front)))
    → walk.cursor ≡ started c1 → walk.here ≡ c1
    → ((list : HasList sizes c1 rest file) → (ahead : HasAhead sizes walk.cursor rest file) × (ahead.coming ≡ list.pages))
    → IsInRest sizes at released walk front rest pages file
front_ends {sizes} {at} {released} {low} {old} {new} {walk} {part} {c1} {front} {rest} {pages} {file} some low_is none has goes cursor here list =
    by (subst (λ (p : Option Component). IsIn p sizes at released old front rest pages file) some has)
  where
    by : IsIn (Some c1) sizes at released old front rest pages file → IsInRest sizes at released walk front rest pages file
    by inside =
        let came = goes inside.left in
        record {
          passed = first_none (above at front) (sym came.1 ∙ none);
          left = started_left sizes c1 (later at released) walk rest pages file cursor here inside.list (list inside.list) inside.among;
        }

-- ---- what was read

-- where a front was read whole nothing comes behind
whole_front : (sizes : Sizes) (front : Component) (read all : Entries) (file : List ℕ) → HasListOf true sizes front read file → IsFront front read all
    → all ≡ read
whole_front sizes front read all file list is = by is.behind is.parts
  where
    by : (behind : Entries) → all ≡ read ++ behind → all ≡ read
    by [] parts = parts ∙ append-nil read
    by (e ∷ es) parts =
        absurd (omega (
          arith,
          is.few,
          ap {B = ℕ} (λ (l : Entries). length l) parts,
          length-append read (e ∷ es),
          list.1.reads.entries_is,
          ap {B = ℕ} (λ (l : Entries). length l) list.1.entries_are,
        ))

-- what is read on in the component, behind a front that was read whole
pub reads_rest : {sizes : Sizes} {of_front of_c1 : Component} {at released low : Option Key} {walk : Walk} {front before : Entries} {file : List ℕ}
    → low ≡ later at released → Begins true sizes of_front front file → HasListOf true sizes of_front front file → above at front ≡ []
    → (on : HasReadOn false sizes of_c1 low walk before file) → ReadsRest sizes of_front of_c1 at released walk front on.now file
reads_rest {sizes} {of_c1 = of_c1} {walk = walk} {file = file} low_is begins whole passed on = record {
  begins = begins;
  whole = whole;
  passed = passed;
  read = subst (λ (k : Option Key). HasRead false sizes of_c1 k walk on.now file) low_is on.read;
}

pub rest_heads : {sizes : Sizes} {of_front of_c1 : Component} {low : Option Key} {front : Entries} {file : List ℕ} (at released : Option Key)
    (now : Entries) (head : Option (Key × Rec)) → low ≡ later at released → HasListOf true sizes of_front front file → above at front ≡ []
    → ((all : Entries) → IsFront of_c1 now all → head ≡ first_of (above low all))
    → (all_front all_rest : Entries) → IsFront of_front front all_front → IsFront of_c1 now all_rest
    → head ≡ first_of (above at (splice all_front released all_rest))
rest_heads {sizes} {of_front} {low = low} {front} {file} at released now head low_is whole passed heads all_front all_rest is_front is_rest =
    rest_first at released all_front all_rest head
    (ap (above at) (whole_front sizes of_front front all_front file whole is_front) ∙ passed)
    (subst (λ (k : Option Key). head ≡ first_of (above k all_rest)) low_is (heads all_rest is_rest))

pub front_heads : (at released : Option Key) (front_run rest_run : Component) (now rest : Entries) (head : Option (Key × Rec)) → is_some head ≡ true
    → ((all : Entries) → IsFront front_run now all → head ≡ first_of (above at all))
    → (all_front all_rest : Entries) → IsFront front_run now all_front → IsFront rest_run rest all_rest
    → head ≡ first_of (above at (splice all_front released all_rest))
front_heads at released front_run rest_run now rest head is heads all_front all_rest is_front is_rest =
    some_first at released all_front all_rest head is (heads all_front is_front)

-- at the end of the front none of it is above the key
pub passed_all : (is_front : Bool) (sizes : Sizes) (run : Component) (at : Option Key) (walk : Walk) (given : Entries) (file : List ℕ)
    → walk.cursor.head ≡ None → HasRead is_front sizes run at walk given file → above at given ≡ []
passed_all is_front sizes run at walk given file none read = read.passed ∙ ap (λ (h : Option (Key × Rec)). above at (from_head h [])) none

pub begun_rest : {sizes : Sizes} {of_c1 c1 : Component} {walk : Walk} {file : List ℕ} (low : Option Key) → c1 ≡ of_c1 → walk.cursor ≡ started c1
    → walk.here ≡ c1 → HasGiven sizes c1 walk.cursor [] file → HasRead false sizes of_c1 low walk [] file
begun_rest {sizes} {of_c1} {c1} {walk} {file} low same cursor here given =
    subst (λ (run : Component). HasRead false sizes run low walk [] file) same (read_started false sizes file c1 low walk cursor here given)

-- ---- what is damaged

pub damage_behind : {sizes : Sizes} {of : Sources} {at released low : Option Key} {front : Entries} {k : ℕ} {file : List ℕ} → low ≡ later at released
    → released ≡ of.released → HasListOf true sizes of.front front file → above at front ≡ [] → IsDamageIn false sizes of.c1 low k file
    → IsDamageBehindFront sizes of at k file
damage_behind {sizes} {of} {at} {k = k} {file} low_is released_is whole passed damage = record {
  all = _;
  front = whole;
  passed = passed;
  damage = subst (λ (key : Option Key). IsDamageIn false sizes of.c1 key k file) (low_is ∙ ap (later at) released_is) damage;
}

-- ---- counts

-- what two clauses say of one answer
pub both_on : {T E P Q R : Type 0} (result : Result T E) → OnOk result P → OnOk result Q → (P → Q → R) → OnOk result R
both_on (Ok value) one two so = so one two
both_on (Err error) one two so = tt

pub ahead_both : (at released : Option Key) (entry : Option (Key × Rec)) → IsAheadOf (later at released) entry → IsAheadOf at entry
ahead_both at released None ahead = ahead
ahead_both at released (Some e) ahead = is_true _ (left _ _ (test _ (sym (later_above at released e.0) ∙ ahead)))

fewer_above : (at released : Option Key) (head : Option (Key × Rec))
    → cond (head_above (later at released) head) 1 0 ≤ cond (head_above at head) 1 0
fewer_above at released None = omega arith
fewer_above at released (Some e) = by (is_above at e.0) refl
  where
    by : (b : Bool) → is_above at e.0 ≡ b → cond (is_above (later at released) e.0) 1 0 ≤ cond b 1 0
    by true is = at_most (is_above (later at released) e.0)
      where
        at_most : (b : Bool) → cond b 1 0 ≤ 1
        at_most true = omega arith
        at_most false = omega arith
    by false is = omega (arith, ap {B = ℕ} (λ (b : Bool). cond b 1 0) (later_above at released e.0 ∙ ap (λ (b : Bool). b && is_above released e.0) is))

as_many : (at released : Option Key) (head : Option (Key × Rec)) → IsAheadOf (later at released) head
    → ◌≡◌ {A = ℕ} (cond (head_above at head) 1 0) (cond (head_above (later at released) head) 1 0)
as_many at released None ahead = refl
as_many at released (Some e) ahead = ap {B = ℕ} (λ (b : Bool). cond b 1 0) (ahead_both at released (Some e) ahead ∙ sym ahead)

pub counts_fall : (at released : Option Key) (old new : CursorState) → IsAheadOf (later at released) new.head
    → count_left (later at released) new ≤ count_left (later at released) old → count_left at new ≤ count_left at old
counts_fall at released old new ahead falls = omega (arith, falls, fewer_above at released old.head, as_many at released new.head ahead)
