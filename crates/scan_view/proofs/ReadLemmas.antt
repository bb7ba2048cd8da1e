-- What was read of a front and of components, whatever they read as.
use Rattle.std.proofs.Common.{◌≡◌, ◌∙◌, ◌⊎◌, ℕ, Bool, true, false, List, [], ◌∷◌, ◌++◌, take, drop, Option, Some, None, inl, inr, refl, ap, sym, subst, arith}
use Rattle.std.proofs.lemmas.Grind.{common_steps}
use Rattle.std.proofs.lemmas.Bool.Decides.{nat_tests}
use Rattle.std.specs.List.{AllByRecursion}
use Rattle.std.specs.List.Sorted.{IsStrictlySortedBy}
use Rattle.std.specs.declared.cmp.Ordering.TheVariants.{Less}
use Rattle.std.proofs.lemmas.List.{append-nil}
use Rattle.std.proofs.lemmas.List.Elements.{filter-append}
use Rattle.blsm_model.specs.declared.component.Component.{Component}
use Rattle.blsm_model.specs.Components.{empty_component}
use Rattle.blsm_model.specs.declared.key.Key.{Key}
use Rattle.blsm_model.specs.declared.row.Row.{Row}
use Rattle.blsm_model.specs.Keys.{key_cmp}
use Rattle.blsm_model.specs.Sizes.{Sizes}
use Rattle.record_delta.specs.declared.record.Rec.{Rec}
use Rattle.record_delta.specs.Entries.{Entries, above, is_above, first_of}
use Rattle.page_file.specs.Entry.{AreRising, keys_of}
use Rattle.page_file.proofs.OrderLemmas.{orders}
use Rattle.run_cursor.specs.declared.walk.Walk.{Walk}
use Rattle.run_cursor.specs.Cursor.{CursorState, begun, started, from_head}
use Rattle.run_cursor.specs.Part.{IsNextPart}
use Rattle.run_cursor.specs.Given.{HasGivenOf, HasGivenMoreOf, HasListOf}
use Rattle.run_cursor.proofs.GivenLemmas.{given_start}
use Rattle.merge_ends.specs.Input.{head_above}
use Rattle.merge_ends.proofs.GroupLemmas.{above_further}
use Rattle.scan_view.specs.declared.scan.Scan.{Scan}
use Rattle.scan_view.specs.declared.splice.Splice.{Splice}
use Rattle.scan_view.specs.Left.{HasRead, HasReadOn}
use Rattle.scan_view.specs.Hold.{HoldState, IsEmptyOrPaged, later}
use Rattle.scan_view.specs.Splice.{AreParts, ArePartsBy, HasReadSplice, ReadsIn}
use Rattle.scan_view.specs.Scan.{AreSortedLists, HaveRead, HaveReadOn}
use Rattle.scan_view.specs.Told.{AreFronts, AreTold, Begins, BeginWith, Contents, IsFront, IsPartOf, Sources, rows_by, sources_of}
use Rattle.scan_view.proofs.SpliceLemmas.{later_step}

-- ---- a cursor that goes on

above_append : (at : Option Key) (xs ys : Entries) → above at (xs ++ ys) ≡ above at xs ++ above at ys
above_append at xs ys = filter-append (λ e. is_above at e.0) xs ys

pub stale_none : (at : Option Key) (head : Option (Key × Rec)) → head_above at head ≡ false → above at (from_head head []) ≡ []
stale_none at head h1 = grind (arith, common_steps, nat_tests)

front_onward : (run : Component) (read more all : Entries) → IsFront run (read ++ more) all → IsFront run read all
front_onward run read more all h1 = grind (arith, common_steps, nat_tests)

-- the part in which the next entry stands has all that isn't passed
part_read : (is_front : Bool) (sizes : Sizes) (file : List ℕ) (run : Component) (at : Option Key) (walk : Walk) (part : Component) (given : Entries)
    → head_above at walk.cursor.head ≡ false → HasRead is_front sizes run at walk given file
    → IsNextPart walk.cursor walk.here part → IsPartOf is_front sizes run at part file
part_read is_front sizes file run at walk part given stale has is = by is
  where
    by : IsNextPart walk.cursor walk.here part → IsPartOf is_front sizes run at part file
    by (inl begins) = inl (record {
      cursor = walk.cursor;
      given = given;
      begins = has.begins;
      passed = has.passed ∙ stale_none at walk.cursor.head stale;
      part_is = ap (λ (b : Bool). begun b part) (sym has.begins.front_is) ∙ begins.part_is;
    })
    by (inr same) = subst (λ (p : Component). IsPartOf is_front sizes run at p file) (sym same.0) has.part

-- it has gone on, and at the end all was given
abbrev pub ReadsOn : Bool → Sizes → Component → Option Key → Walk → Entries → List ℕ → Type 0
ReadsOn is_front sizes run at walk before file =
    (on : HasReadOn is_front sizes run at walk before file) × (walk.cursor.head ≡ None → HasListOf is_front sizes run on.now file)

-- what comes in with an entry, or with the end
read_step : (is_front : Bool) (sizes : Sizes) (file : List ℕ) (run : Component) (at : Option Key) (old new : Walk) (given : Entries)
    → head_above at old.cursor.head ≡ false → HasRead is_front sizes run at old given file
    → IsPartOf is_front sizes run at new.here file ⊎ ((new.cursor.head ≡ None) × (new.here ≡ empty_component))
    → HasGivenMoreOf is_front sizes run new.cursor new.cursor.head given file → ReadsOn is_front sizes run at new given file
read_step is_front sizes file run at old new given stale has part more = by_head new.cursor.head refl part more
  where
    passed : above at given ≡ []
    passed = has.passed ∙ stale_none at old.cursor.head stale

    here_of : HasListOf is_front sizes run given file
        → IsPartOf is_front sizes run at new.here file ⊎ ((new.cursor.head ≡ None) × (new.here ≡ empty_component))
        → IsPartOf is_front sizes run at new.here file
    here_of list (inl of) = of
    here_of list (inr ended) = inr (record { all = given; list = list; passed = passed; part_is = ended.1 })

    by_head : (head : Option (Key × Rec)) → new.cursor.head ≡ head
        → IsPartOf is_front sizes run at new.here file ⊎ ((new.cursor.head ≡ None) × (new.here ≡ empty_component))
        → HasGivenMoreOf is_front sizes run new.cursor head given file → ReadsOn is_front sizes run at new given file
    by_head None is of further = (
      record {
        now = given;
        read = record {
          begins = further.1;
          passed = passed ∙ sym (ap (λ (h : Option (Key × Rec)). above at (from_head h [])) is);
          part = here_of further.0 of;
        };
        onward = λ all front. front;
      },
      λ none. further.0,
    )
    by_head (Some e) is (inl of) further = (
      record {
        now = given ++ e ∷ [];
        read = record {
          begins = further;
          passed = above_append at given (e ∷ []) ∙ ap (λ (l : Entries). l ++ above at (e ∷ [])) passed
              ∙ sym (ap (λ (h : Option (Key × Rec)). above at (from_head h [])) is);
          part = of;
        };
        onward = λ all front. front_onward run given (e ∷ []) all front;
      },
      λ none. absurd (let no : Some e ≡ None = sym is ∙ none in cc),
    )
    by_head (Some e) is (inr ended) further = absurd (let no : Some e ≡ None = sym is ∙ ended.0 in cc)

-- by what calls of `next_part` and `advance` say of what was given: an entry more, in the part where it stands, or the end
pub advance_read : {is_front : Bool} {sizes : Sizes} {file bytes : List ℕ} {run : Component} {at : Option Key} {old new : Walk} {before : Entries}
    → bytes ≡ file → head_above at old.cursor.head ≡ false
    → IsNextPart old.cursor old.here new.here ⊎ ((new.cursor.head ≡ None) × (new.here ≡ empty_component))
    → (first : HasReadOn is_front sizes run at old before file)
    → (HasGivenOf is_front sizes run old.cursor first.now bytes → HasGivenMoreOf is_front sizes run new.cursor new.cursor.head first.now bytes)
    → ReadsOn is_front sizes run at new before file
advance_read {is_front} {sizes} {bytes = bytes} {run} {at} {old} {new} {before} same stale part first more =
    let here = subst (λ (b : List ℕ). HasRead is_front sizes run at old first.now b) (sym same) first.read in
    let second = subst (λ (b : List ℕ). ReadsOn is_front sizes run at new first.now b) same
    (read_step is_front sizes bytes run at old new first.now stale here (of here part) (more here.begins)) in
    (record { now = second.0.now; read = second.0.read; onward = λ all front. first.onward all (second.0.onward all front) }, second.1)
  where
    of : HasRead is_front sizes run at old first.now bytes
        → IsNextPart old.cursor old.here new.here ⊎ ((new.cursor.head ≡ None) × (new.here ≡ empty_component))
        → IsPartOf is_front sizes run at new.here bytes ⊎ ((new.cursor.head ≡ None) × (new.here ≡ empty_component))
    of here (inl next) = inl (part_read is_front sizes bytes run at old new.here first.now stale here next)
    of here (inr ended) = inr ended

-- a cursor that is at an entry above the key, or at the end, is at the first of each list that may come of what was read
pub read_first : (is_front : Bool) (sizes : Sizes) (file : List ℕ) (run : Component) (at : Option Key) (walk : Walk) (given : Entries)
    → HasRead is_front sizes run at walk given file
    → (head_above at walk.cursor.head ≡ true) ⊎ ((walk.cursor.head ≡ None) × (walk.cursor.entries ≡ 0)) → (all : Entries) → IsFront run given all
    → walk.cursor.head ≡ first_of (above at all)
read_first is_front sizes file run at walk given has there all front = grind (arith, common_steps, nat_tests)

part_of_further : (is_front : Bool) (sizes : Sizes) (file : List ℕ) (run : Component) (at : Option Key) (key : Key) (part : Component)
    → is_above at key ≡ true → IsPartOf is_front sizes run at part file → IsPartOf is_front sizes run (Some key) part file
part_of_further is_front sizes file run at key part key_above (inl of) = inl (record {
  cursor = of.cursor;
  given = of.given;
  begins = of.begins;
  passed = above_further at key of.given key_above ∙ ap (above (Some key)) of.passed;
  part_is = of.part_is;
})
part_of_further is_front sizes file run at key part key_above (inr of) = inr (record {
  all = of.all;
  list = of.list;
  passed = above_further at key of.all key_above ∙ ap (above (Some key)) of.passed;
  part_is = of.part_is;
})

read_further : (is_front : Bool) (sizes : Sizes) (file : List ℕ) (run : Component) (at : Option Key) (key : Key) (walk : Walk) (given : Entries)
    → is_above at key ≡ true → HasRead is_front sizes run at walk given file → HasRead is_front sizes run (Some key) walk given file
read_further is_front sizes file run at key walk given key_above has = record {
  begins = has.begins;
  passed = above_further at key given key_above ∙ ap (above (Some key)) has.passed ∙ sym (above_further at key (from_head walk.cursor.head []) key_above);
  part = part_of_further is_front sizes file run at key walk.here key_above has.part;
}

pub read_started : (is_front : Bool) (sizes : Sizes) (file : List ℕ) (run : Component) (at : Option Key) (walk : Walk) → walk.cursor ≡ begun is_front run
    → walk.here ≡ run → HasGivenOf is_front sizes run walk.cursor [] file → HasRead is_front sizes run at walk [] file
read_started is_front sizes file run at walk is here given = record {
  begins = given;
  passed = sym (ap (λ (c : CursorState). above at (from_head c.head [])) is);
  part = inl (record {
    cursor = begun is_front run;
    given = [];
    begins = subst (λ (c : CursorState). HasGivenOf is_front sizes run c [] file) is given;
    passed = refl;
    part_is = ap (begun is_front) here;
  });
}

-- ---- a front and the component behind it

later_further : (sizes : Sizes) (file : List ℕ) (run : Component) (at released : Option Key) (key : Key) (walk : Walk) (given : Entries)
    → is_above at key ≡ true → HasRead false sizes run (later at released) walk given file
    → HasRead false sizes run (later (Some key) released) walk given file
later_further sizes file run at released key walk given key_above has = by (later_step at released key key_above)
  where
    by : (later (Some key) released ≡ later at released) ⊎ ((later (Some key) released ≡ Some key) × (is_above (later at released) key ≡ true))
        → HasRead false sizes run (later (Some key) released) walk given file
    by (inl same) = subst (λ (low : Option Key). HasRead false sizes run low walk given file) (sym same) has
    by (inr is) = subst (λ (low : Option Key). HasRead false sizes run low walk given file) (sym is.0)
        (read_further false sizes file run (later at released) key walk given is.1 has)

pub splice_read_further : (sizes : Sizes) (file : List ℕ) (of_front of_c1 : Component) (at : Option Key) (key : Key) (s : Splice) (front rest : Entries)
    → is_above at key ≡ true → HasReadSplice sizes of_front of_c1 at s front rest file
    → HasReadSplice sizes of_front of_c1 (Some key) s front rest file
splice_read_further sizes file of_front of_c1 at key s front rest key_above has = by s.rest has
  where
    by : (part : Option Component) → ReadsIn part sizes of_front of_c1 at s.released s.walk front rest file
        → ReadsIn part sizes of_front of_c1 (Some key) s.released s.walk front rest file
    by (Some c1) reads = record {
      c1_is = reads.c1_is;
      read = read_further true sizes file of_front at key s.walk front key_above reads.read;
      none = reads.none;
    }
    by None reads = record {
      begins = reads.begins;
      whole = reads.whole;
      passed = above_further at key front key_above ∙ ap (above (Some key)) reads.passed;
      read = later_further sizes file of_c1 at s.released key s.walk rest key_above reads.read;
    }

splice_begins : (sizes : Sizes) (file : List ℕ) (of_front of_c1 : Component) (at : Option Key) (s : Splice) (front rest : Entries)
    → IsEmptyOrPaged of_c1 → HasReadSplice sizes of_front of_c1 at s front rest file
    → Begins true sizes of_front front file × Begins false sizes of_c1 rest file
splice_begins sizes file of_front of_c1 at s front rest paged has = by s.rest has
  where
    by : (part : Option Component) → ReadsIn part sizes of_front of_c1 at s.released s.walk front rest file
        → Begins true sizes of_front front file × Begins false sizes of_c1 rest file
    by (Some c1) reads = (
      record { cursor = s.walk.cursor; given = reads.read.begins },
      subst (λ (l : Entries). Begins false sizes of_c1 l file) (sym reads.none)
          (record { cursor = started of_c1; given = given_start sizes of_c1 file paged }),
    )
    by None reads = (reads.begins, record { cursor = s.walk.cursor; given = reads.read.begins })

-- ---- a scan

pub scan_read_further : (sizes : Sizes) (file : List ℕ) (of : Sources) (scan : Scan) (key : Key) (read : Contents) → is_above scan.at key ≡ true
    → HaveRead sizes of scan read file → HaveRead sizes of (record scan { at = Some key }) read file
scan_read_further sizes file of scan key read key_above have = record {
  released = have.released;
  paged = have.paged;
  c1 = splice_read_further sizes file of.front of.c1 scan.at key scan.c1 read.front read.c1 key_above have.c1;
  c1x = read_further false sizes file of.c1x scan.at key scan.c1x read.c1x key_above have.c1x;
  c2 = read_further false sizes file of.c2 scan.at key scan.c2 read.c2 key_above have.c2;
}

pub scan_begins : (sizes : Sizes) (file : List ℕ) (of : Sources) (scan : Scan) (read : Contents) → HaveRead sizes of scan read file
    → BeginWith sizes of read file
scan_begins sizes file of scan read have =
    let both = splice_begins sizes file of.front of.c1 scan.at scan.c1 read.front read.c1 have.paged have.c1 in
    record {
      front = both.0;
      c1 = both.1;
      c1x = record { cursor = scan.c1x.cursor; given = have.c1x.begins };
      c2 = record { cursor = scan.c2.cursor; given = have.c2.begins };
    }

pub fronts_sorted : (of : Sources) (read all : Contents) → AreFronts of read all → AreSortedLists all
fronts_sorted of read all fronts = record {
  front = fronts.front.sorted;
  c1 = fronts.c1.sorted;
  c1x = fronts.c1x.sorted;
  c2 = fronts.c2.sorted;
}

-- the rows are told by what was read
pub told_by : {sizes : Sizes} {n : ℕ} {hold : HoldState} {scan : Scan} {rows : List Row} {before : Contents} {file : List ℕ}
    → (on : HaveReadOn sizes (sources_of hold) scan before file)
    → ((all : Contents) → AreFronts (sources_of hold) on.now all
    → (rows ≡ take n (rows_by hold.place hold all)) × (rows_by scan.at hold all ≡ drop n (rows_by hold.place hold all)))
    → AreTold sizes n hold scan.at rows file
told_by {sizes} {hold = hold} {scan} {file = file} on says = record {
  read = on.now;
  begin = scan_begins sizes file (sources_of hold) scan on.now on.read;
  first = λ all fronts. (says all fronts).0;
  others = λ all fronts. (says all fronts).1;
}

-- the part that is ahead of the front, and that of the component
pub parts_told : (sizes : Sizes) (file : List ℕ) (of : Sources) (scan : Scan) (read : Contents) → HaveRead sizes of scan read file
    → (parts : Component × Component) → ArePartsBy scan.c1 parts
    → IsPartOf true sizes of.front scan.at parts.0 file × IsPartOf false sizes of.c1 (later scan.at of.released) parts.1 file
parts_told sizes file of scan read have parts are = by scan.c1.rest have.c1 are
  where
    unread : IsPartOf false sizes of.c1 (later scan.at of.released) of.c1 file
    unread = inl (record { cursor = started of.c1; given = []; begins = given_start sizes of.c1 file have.paged; passed = refl; part_is = refl })

    by : (part : Option Component) → ReadsIn part sizes of.front of.c1 scan.at scan.c1.released scan.c1.walk read.front read.c1 file
        → AreParts part scan.c1.walk parts
        → IsPartOf true sizes of.front scan.at parts.0 file × IsPartOf false sizes of.c1 (later scan.at of.released) parts.1 file
    by (Some c1) reads is = (
      subst (λ (p : Component). IsPartOf true sizes of.front scan.at p file) (sym is.0) reads.read.part,
      subst (λ (p : Component). IsPartOf false sizes of.c1 (later scan.at of.released) p file) (sym (is.1 ∙ reads.c1_is)) unread,
    )
    by None reads is = (
      inr (record { all = read.front; list = reads.whole; passed = reads.passed; part_is = is.0 }),
      subst (λ (p : Component). IsPartOf false sizes of.c1 (later scan.at of.released) p file) (sym is.1)
          (subst (λ (key : Option Key). IsPartOf false sizes of.c1 (later scan.at key) scan.c1.walk.here file) have.released reads.read.part),
    )

-- ---- what was read is such a list

all_front : (P : Key → Type 0) (es fs : Entries) → AllByRecursion P (keys_of (es ++ fs)) → AllByRecursion P (keys_of es)
all_front P [] fs all = tt
all_front P (e ∷ es) fs all = (all.0, all_front P es fs all.1)

rise_front : (es fs : Entries) → AreRising (es ++ fs) → AreRising es
unfolding IsStrictlySortedBy
rise_front [] fs rise = tt
rise_front (e ∷ es) fs rise = (all_front (λ (k : Key). key_cmp e.0 k ≡ Less) es fs rise.0, rise_front es fs rise.1)

pub front_itself : (is_front : Bool) (sizes : Sizes) (run : Component) (read : Entries) (file : List ℕ) → Begins is_front sizes run read file
    → IsFront run read read
front_itself is_front sizes run read file begins = record {
  behind = [];
  parts = sym (append-nil read);
  sorted = (orders read).0 (rise_front read begins.given.here begins.given.rise);
  few = omega (arith, begins.given.entries_is);
}
