-- What a hold reads in place of what was dropped of table A has just that.
use Rattle.std.specs.Prelude.{◌≡◌, ◌⊎◌, ◌≤◌, ◌+◌, ℕ, Bool, true, false, not, List, [], ◌∷◌, ◌++◌, length, filter, Option, None, Some, if◌then◌else◌, nat_eq, nat_lt}
use Rattle.std.specs.List.{AllByRecursion, Contains}
use Rattle.std.specs.Ordering.{is_eq, is_lt}
use Rattle.std.specs.declared.cmp.Ordering.TheVariants.{Less}
use Rattle.std.proofs.Common.{⊎_elim, ap, cond, inl, inr, refl, sym, subst, ◌∙◌, arith}
use Rattle.std.proofs.lemmas.Bool.{cases_lt, true≢false}
use Rattle.std.proofs.lemmas.Bool.Decides.{nat_tests}
use Rattle.std.proofs.lemmas.Grind.{common_steps}
use Rattle.std.proofs.lemmas.List.{append-nil, length-map, map-append}
use Rattle.std.proofs.lemmas.List.Elements.{All-cons, All-head, All-nil, All-tail, Contains-append_right, filter-append}
use Rattle.blsm_model.specs.Components.{empty_component}
use Rattle.blsm_model.specs.declared.component.Component.{Component}
use Rattle.blsm_model.specs.declared.key.Key.{Key}
use Rattle.blsm_model.specs.Keys.{key_cmp, in_range}
use Rattle.bloom_bits.specs.declared.fences.Fence.{Fence}
use Rattle.bloom_bits.specs.Fences.{IsBelowAll}
use Rattle.bloom_bits.specs.Guides.{fences_from, fences_of}
use Rattle.bloom_bits.specs.Parts.{IsPartFrom, ReadsFrom, last_fences}
use Rattle.bloom_bits.proofs.PartLemmas.{fences_join, named_from, part_named, part_reads}
use Rattle.catalog_swap.specs.declared.catalog.Catalog.{Catalog}
use Rattle.record_delta.specs.declared.record.Rec.{Rec}
use Rattle.record_delta.specs.Entries.{AreSorted, Entries, above, entries_weight, folded_over, is_above, over_any, record_of_key, replayed, up_to}
use Rattle.page_file.specs.Component.{RunPage, AreChained, HasList, ReadsAs, ReadsOn, entries_of, first_number, numbers_of}
use Rattle.page_file.specs.Page.{page_number}
use Rattle.page_file.proofs.ComponentLemmas.{entries_join}
use Rattle.page_file.proofs.OrderLemmas.{orders}
use Rattle.page_file.proofs.PageLemmas.{few_pages}
use Rattle.run_cursor.specs.Cursor.{started as cursor_started}
use Rattle.run_cursor.specs.Given.{HasListOf, pages_listed}
use Rattle.run_cursor.proofs.PartLemmas.{ahead_reads}
use Rattle.merge_ends.specs.Input.{IsInput}
use Rattle.scan_view.specs.Hold.{IsReadAs, is_above_all, later, splice}
use Rattle.scan_view.proofs.FoldLemmas.{find_where, same_lists, sorted_above}
use Rattle.scan_view.proofs.LeftLemmas.{none_listed}
use Rattle.scan_view.proofs.SpliceLemmas.{splice_through}
use Rattle.snow_merge.specs.Pass.{SnowState}
use Rattle.tree_file.specs.Tree.{Tree}
use Rattle.tree_file.proofs.ListLemmas.{sorted_replayed}
use Rattle.tree_machine.proofs.CursorLemmas.{below_or_above, find-ahead, less_trans}
use Rattle.tree_machine.proofs.FoldLemmas.{both_hold, by_test, equal_of, tied}
use Rattle.tree_runs.specs.Runs.{RunsState, AreRuns, GuideState, PassHasTag, fences_of_tag, finished_by_pass, front_of, guide_at, released_by}
use Rattle.tree_runs.specs.Holding.{AreOf, IsFrontFrom, IsNamed, IsOlderFrom, IsPassOver, later_part, part_behind}
use Rattle.tree_runs.specs.Lookups.{IsFloorOf}
use Rattle.tree_runs.proofs.ReleasedLemmas.{HasFinishedPages, find_fold, finished_pages, released_is}
use Rattle.tree_runs.proofs.SourceLemmas.{ends_with}

zero_of : (n : ℕ) → nat_eq n 0 ≡ true → n ≡ 0
zero_of n is = grind (arith, common_steps, nat_tests)

none_in : (n : ℕ) → Contains {X = ℕ} [] n → ⊥
none_in n has = omega (arith, has.1)

-- ---- keys

-- what isn't below a key that is above the floor is above it too
over_floor : (floor : Option Key) (low key : Key) → is_above floor low ≡ true → is_lt (key_cmp key low) ≡ false → is_above floor key ≡ true
over_floor None low key over not_below = refl
over_floor (Some floor) low key over not_below = grind (arith, common_steps, nat_tests, by_test, tied, equal_of, less_trans, below_or_above)

not_same : (key x low : Key) → key_cmp x low ≡ Less → is_lt (key_cmp key low) ≡ false → (b : Bool) → is_eq (key_cmp key x) ≡ b → b ≡ false
not_same key x low below not_below false is = refl
not_same key x low below not_below true is =
    let same : key ≡ x = tied key x (equal_of (key_cmp key x) is) in
    absurd (true≢false (sym (ap is_lt below) ∙ ap (λ (k : Key). is_lt (key_cmp k low)) (sym same) ∙ not_below))

-- ---- the record of a key

-- entries below the range don't count
find_skipped : (low key : Key) (before rest : Entries) → AllByRecursion (λ (e : Key × Rec). key_cmp e.0 low ≡ Less) before → is_lt (key_cmp key low) ≡ false
    → record_of_key key (before ++ rest) ≡ record_of_key key rest
find_skipped low key [] rest below not_below = refl
find_skipped low key (e ∷ es) rest below not_below =
    ap (λ (b : Bool). cond b (Some e.1) (record_of_key key (es ++ rest))) (not_same key e.0 low below.0 not_below (is_eq (key_cmp key e.0)) refl)
    ∙ find_skipped low key es rest below.1 not_below

find_first : (key : Key) (xs ys : Entries) → record_of_key key ys ≡ None → record_of_key key (xs ++ ys) ≡ record_of_key key xs
find_first key [] ys none = none
find_first key (x ∷ xs) ys none = ap (λ (r : Option Rec). cond (is_eq (key_cmp key x.0)) (Some x.1) r) (find_first key xs ys none)

either_same : {X : Type 0} (b : Bool) (x : X) → cond b x x ≡ x
either_same true x = refl
either_same false x = refl

later_same : (at : Option Key) → later at at ≡ at
later_same None = refl
later_same (Some key) = either_same (is_above (Some key) key) (Some key)

find_above : (floor : Option Key) (key : Key) (es : Entries) (b : Bool) → is_above floor key ≡ b → record_of_key key (above floor es) ≡ cond b (record_of_key key es) None
find_above floor key es b is = find-ahead floor es key ∙ ap (λ (t : Bool). cond t (record_of_key key es) None) is

-- Where nothing of a front is above the floor, a key above it is read of the component behind the front, and another of the front.
module _ (floor : Option Key) (front rest : Entries) (up : above floor front ≡ []) (key : Key) where
  spliced_ahead : is_above floor key ≡ true → record_of_key key (splice front floor rest) ≡ record_of_key key rest
  spliced_ahead over =
      sym (find_above floor key (splice front floor rest) true over)
      ∙ ap (record_of_key key) (splice_through floor floor front rest up ∙ ap (λ (k : Option Key). above k rest) (later_same floor))
      ∙ find_above floor key rest true over

  spliced_up_to : is_above floor key ≡ false → record_of_key key (splice front floor rest) ≡ record_of_key key front
  spliced_up_to under =
      find_first key front (filter (λ (e : Key × Rec). is_above_all front e.0) (above floor rest))
      (find_where (is_above_all front) key (above floor rest)
      ∙ ap (λ (r : Option Rec). cond (is_above_all front key) r None) (find_above floor key rest false under)
      ∙ either_same (is_above_all front key) None)

-- what comes of both lists up to a key has nothing above it
none_up : (closed : Option Key) (newer older xs : Entries) → AreSorted newer → AreSorted xs → xs ≡ folded_over (up_to closed newer) (up_to closed older) → above closed xs ≡ []
none_up closed newer older xs sorted sorted_xs is = same_lists (above closed xs) [] (sorted_above closed xs sorted_xs) refl (λ q. by q (is_above closed q) refl)
  where
    by : (q : Key) (b : Bool) → is_above closed q ≡ b → record_of_key q (above closed xs) ≡ None
    by q true over =
        find_above closed q xs true over ∙ ap (record_of_key q) is ∙ find_fold closed newer older sorted q
        ∙ ap (λ (b : Bool). cond b None (over_any (record_of_key q newer) (record_of_key q older))) over
    by q false under = find_above closed q xs false under

empty_behind : {X : Type 0} (xs ys : List X) → xs ++ ys ≡ [] → ys ≡ []
empty_behind [] ys is = is
empty_behind (x ∷ xs) ys is = absurd (omega (arith, ap length is))

-- ---- fences of pages, and of others behind

below_front : (key : Key) (fs gs : List Fence) → IsBelowAll key (fs ++ gs) → IsBelowAll key fs
below_front key [] gs below = All-nil (λ (f : Fence). key_cmp key f.first ≡ Less)
below_front key (f ∷ fs) gs below =
    let P = λ (x : Fence). key_cmp key x.first ≡ Less in
    All-cons P f fs (All-head P f (fs ++ gs) below) (below_front key fs gs (All-tail P f (fs ++ gs) below))

-- of two lists the front of both ends within the first one, where it is shorter
record IsSplit (xs gs before : List Fence) (f : Fence) (behind : List Fence) : Type 0 where
  more : List Fence
  parts : xs ≡ before ++ f ∷ more
  behind_is : behind ≡ more ++ gs

split_in : (xs gs before : List Fence) (f : Fence) (behind : List Fence) → xs ++ gs ≡ before ++ f ∷ behind → length before + 1 ≤ length xs → IsSplit xs gs before f behind
split_in [] gs before f behind is few = absurd (omega (arith, few))
split_in (x ∷ xs) gs [] f behind is few =
    let same : x ≡ f = cc in
    let rest : behind ≡ xs ++ gs = cc in
    record { more = xs; parts = ap (λ (y : Fence). y ∷ xs) same; behind_is = rest }
split_in (x ∷ xs) gs (b ∷ before) f behind is few =
    let same : x ≡ b = cc in
    let rest : xs ++ gs ≡ before ++ f ∷ behind = cc in
    let split = split_in xs gs before f behind rest (omega (arith, few)) in
    record { more = split.more; parts = λ i. same i ∷ split.parts i; behind_is = split.behind_is }

-- The part is one by the fences of the run's pages alone, or all of the run.
part_in_front : (low : Key) (fences others : List Fence) (run part : Component) → length fences ≡ run.pages → IsPartFrom low (fences ++ others) run part
    → IsPartFrom low fences run part ⊎ (part ≡ run)
part_in_front low fences others run part many (inl none) = inr none.1
part_in_front low fences others run part many (inr (page, place, inside, outside)) =
    elim (cases_lt (length place.before) run.pages) [
      | inl lt ↦
          let split = split_in fences others place.before place.fence place.behind place.parts (omega (arith, lt, many)) in
          inl (inr (
            page,
            record {
              before = place.before;
              fence = place.fence;
              behind = split.more;
              parts = split.parts;
              is_page = place.is_page;
              not_below = place.not_below;
              below_others = below_front low split.more others (subst (IsBelowAll low) split.behind_is place.below_others);
            },
            inside,
            outside,
          ))
      | inr ge ↦ inr (outside (omega (arith, ge)))
    ]

-- ---- what is read of the finished pages

-- In this file a part of the finished pages reads as entries that aren't above the floor, and have of each key from low on up to it what both lists have; from
-- pages that the fences name.
pub record HasFrontPart (runs : RunsState) (floor : Option Key) (low : Key) (a c1 : Entries) (front : Component) (file : List ℕ) : Type 0 where
  pub entries : Entries
  pub list : HasListOf true runs.sizes front entries file
  pub up : above floor entries ≡ []
  pub found : (key : Key) → is_lt (key_cmp key low) ≡ false → is_above floor key ≡ false
      → record_of_key key entries ≡ over_any (record_of_key key a) (record_of_key key c1)
  pub named : (n : ℕ) → Contains (numbers_of (pages_listed true runs.sizes front entries file list)) n
      → IsNamed runs.space runs.tags.pass (last_fences (front_of (finished_by_pass runs.pass)) front (fences_of_tag runs runs.tags.pass).list) n

-- where low is above the floor nothing is
none_finished : (runs : RunsState) (floor : Option Key) (low : Key) (a c1 : Entries) (file : List ℕ) → is_above floor low ≡ true
    → HasFrontPart runs floor low a c1 empty_component file
none_finished runs floor low a c1 file over =
    let none = none_listed true runs.sizes file in
    record {
      entries = [];
      list = none.0;
      up = refl;
      found = λ key not_below under. absurd (true≢false (sym (over_floor floor low key over not_below) ∙ under));
      named = λ n has. absurd (none_in n (subst (λ (ps : List RunPage). Contains (numbers_of ps) n) none.1 has));
    }

module _ (runs : RunsState) (floor low : Key) (a c1 : Entries) (front : Component) (file : List ℕ) where
  abbrev run : Component
  run = front_of (finished_by_pass runs.pass)

  abbrev guide : GuideState
  guide = guide_at runs.guides runs.tags.pass

  some_finished : HasFinishedPages runs.sizes file runs.space runs.tags.pass guide floor a c1 run → IsPartFrom low guide.fences.list run front
      → HasFrontPart runs (Some floor) low a c1 front file
  some_finished has is = by_reads reads
    where
      others : List Fence
      others = fences_from (0 + length (entries_of has.pages)) (0 + entries_weight (entries_of has.pages)) has.behind

      all : guide.fences.list ≡ fences_of has.pages ++ others
      all = has.guide_is.fences_are ∙ fences_join 0 0 has.pages has.behind

      whole : front ≡ run → ReadsFrom runs.sizes low front has.pages (Some has.next) file
      whole same = record {
        before = [];
        ahead = has.pages;
        parts = refl;
        below = tt;
        reads = subst (λ (c : Component). ReadsOn runs.sizes c has.pages (Some has.next) file) (sym same) has.reads;
      }

      many : length (fences_of has.pages) ≡ run.pages
      many =
          omega (
            arith,
            length-map (fences_of has.pages) (λ (f : Fence). f.page),
            ap length (named_from runs.sizes file 0 0 has.pages (Some has.next) has.reads.chained),
            length-map has.pages (λ (p : RunPage). p.number),
            has.reads.pages_is,
          )

      reads : ReadsFrom runs.sizes low front has.pages (Some has.next) file
      reads =
          ⊎_elim (λ part. part_reads runs.sizes low (fences_of has.pages) run front has.pages (Some has.next) file part (λ some. refl) has.reads) whole
          (part_in_front low (fences_of has.pages) others run front many (subst (λ (fs : List Fence). IsPartFrom low fs run front) all is))

      sorted : AreSorted (entries_of has.pages)
      sorted = (orders (entries_of has.pages)).0 has.reads.rise

      by_reads : ReadsFrom runs.sizes low front has.pages (Some has.next) file → HasFrontPart runs (Some floor) low a c1 front file
      by_reads from =
          let split : entries_of has.pages ≡ entries_of from.before ++ entries_of from.ahead = ap entries_of from.parts ∙ entries_join from.before from.ahead in
          let none : above (Some floor) (entries_of from.before) ++ above (Some floor) (entries_of from.ahead) ≡ [] =
          sym (filter-append (λ (e : Key × Rec). is_above (Some floor) e.0) (entries_of from.before) (entries_of from.ahead))
          ∙ ap (above (Some floor)) (sym split) ∙ none_up (Some floor) a c1 (entries_of has.pages) has.sorted sorted has.entries_are in
          record {
            entries = entries_of from.ahead;
            list = (has.next, record { pages = from.ahead; reads = from.reads; entries_are = refl });
            up = empty_behind (above (Some floor) (entries_of from.before)) (above (Some floor) (entries_of from.ahead)) none;
            found = λ key not_below under.
                sym (find_skipped low key (entries_of from.before) (entries_of from.ahead) from.below not_below)
                ∙ ap (record_of_key key) (sym split ∙ has.entries_are) ∙ find_fold (Some floor) a c1 has.sorted key
                ∙ ap (λ (b : Bool). cond b None (over_any (record_of_key key a) (record_of_key key c1))) under;
            named = λ n among. (
              subst (λ (ns : List ℕ). Contains ns n)
                  (sym (part_named runs.sizes guide.fences.list run front from.before from.ahead has.behind (Some has.next) file
                  (has.guide_is.fences_are ∙ ap (λ (ps : List RunPage). fences_of (ps ++ has.behind)) from.parts)
                  (subst (λ (ps : List RunPage). ReadsOn runs.sizes run ps (Some has.next) file) from.parts has.reads) from.reads.pages_is)) among,
              has.tagged n (subst (λ (ns : List ℕ). Contains ns n)
                  (sym (ap (λ (ps : List RunPage). numbers_of ps) from.parts ∙ map-append (λ (p : RunPage). p.number) from.before from.ahead))
                  (Contains-append_right (numbers_of from.before) (numbers_of from.ahead) n among)),
            );
          }

pub front_part : (runs : RunsState) (tree : Tree) (file : List ℕ) (floor : Option Key) (low : Key) (front : Component) → PassHasTag runs.tags.pass runs.pass
    → IsFloorOf floor runs tree file → IsFrontFrom runs floor low front
    → HasFrontPart runs floor low (replayed tree.lane_a.entries) (entries_of tree.c1) front file
front_part runs tree file floor low front tag of (inl none) =
    subst (λ (c : Component). HasFrontPart runs floor low (replayed tree.lane_a.entries) (entries_of tree.c1) c file) (sym none.1)
    (none_finished runs floor low (replayed tree.lane_a.entries) (entries_of tree.c1) file none.0)
front_part runs tree file None low front tag of (inr some) = absurd (true≢false some.0)
front_part runs tree file (Some floor) low front tag of (inr some) =
    some_finished runs floor low (replayed tree.lane_a.entries) (entries_of tree.c1) front file
    (finished_pages runs.sizes file runs.space (guide_at runs.guides runs.tags.pass) floor (replayed tree.lane_a.entries) tree.c1 runs.tags.pass runs.pass tag of.floor_is of.over)
    some.1

-- ---- what is read of C1

-- In this file a part of C1 reads as entries that have of each key from low on above the floor what C1 has; from pages that the fences name.
pub record HasOlderPart (runs : RunsState) (floor : Option Key) (low : Key) (of_c1 : Entries) (c1 : Component) (file : List ℕ) : Type 0 where
  pub entries : Entries
  pub list : HasList runs.sizes c1 entries file
  pub found : (key : Key) → is_lt (key_cmp key low) ≡ false → is_above floor key ≡ true → record_of_key key entries ≡ record_of_key key of_c1
  pub named : (n : ℕ) → Contains (numbers_of list.pages) n
      → IsNamed runs.space runs.tags.c1 (last_fences runs.catalogue.c1 c1 (fences_of_tag runs runs.tags.c1).list) n

module _ (runs : RunsState) (tree : Tree) (file : List ℕ) (are : AreRuns runs) (of : AreOf runs tree file) where
  abbrev fences : List Fence
  fences = (fences_of_tag runs runs.tags.c1).list

  reads_c1 : ReadsAs runs.sizes runs.catalogue.c1 tree.c1 file
  reads_c1 = subst (λ (k : Catalog). ReadsAs runs.sizes k.c1 tree.c1 file) of.catalogue of.holds.c1

  -- the pages with which C1 ends are named by the last of its fences, and have its tag
  end_named : (before ahead : List RunPage) (part : Component) → tree.c1 ≡ before ++ ahead → length ahead ≡ part.pages → (n : ℕ) → Contains (numbers_of ahead) n
      → IsNamed runs.space runs.tags.c1 (last_fences runs.catalogue.c1 part fences) n
  end_named before ahead part parts many n among =
      let here : Contains (numbers_of tree.c1) n =
      subst (λ (ns : List ℕ). Contains ns n)
      (sym (ap (λ (ps : List RunPage). numbers_of ps) parts ∙ map-append (λ (p : RunPage). p.number) before ahead))
      (Contains-append_right (numbers_of before) (numbers_of ahead) n among) in
      let guide = of.guided.c1 (λ none. none_in n (subst (λ (ps : List RunPage). Contains (numbers_of ps) n) none here)) in (
        subst (λ (ns : List ℕ). Contains ns n)
            (sym (part_named runs.sizes fences runs.catalogue.c1 part before ahead [] None file
            (guide.fences_are ∙ ap fences_of (parts ∙ sym (append-nil (before ++ ahead))))
            (subst (λ (ps : List RunPage). ReadsOn runs.sizes runs.catalogue.c1 ps None file) parts reads_c1) many)) among,
        of.c1 n here,
      )

  -- the part that the fences name for low
  of_fences : (floor : Option Key) (low : Key) (part : Component) → IsPartFrom low fences runs.catalogue.c1 part → HasOlderPart runs floor low (entries_of tree.c1) part file
  of_fences floor low part is = by_reads (part_reads runs.sizes low fences runs.catalogue.c1 part tree.c1 None file is (λ some. (of.guided.c1 some).fences_are) reads_c1)
    where
      by_reads : ReadsFrom runs.sizes low part tree.c1 None file → HasOlderPart runs floor low (entries_of tree.c1) part file
      by_reads from = record {
        entries = entries_of from.ahead;
        list = record { pages = from.ahead; reads = from.reads; entries_are = refl };
        found = λ key not_below over.
            sym (find_skipped low key (entries_of from.before) (entries_of from.ahead) from.below not_below)
            ∙ ap (record_of_key key) (sym (ap entries_of from.parts ∙ entries_join from.before from.ahead));
        named = end_named from.before from.ahead part from.parts from.reads.pages_is;
      }

  -- the part behind the finished pages
  of_pass : (floor low : Key) (role : ℕ) (behind : Component)
      → IsInput runs.sizes file runs.space role (Some floor) (cursor_started behind) (numbers_of tree.c1) (entries_of tree.c1)
      → HasOlderPart runs (Some floor) low (entries_of tree.c1) behind file
  of_pass floor low role behind is =
      let few = few_pages runs.sizes are.geometry in
      let reads = ahead_reads None runs.sizes behind (cursor_started behind) is.rest file few refl refl refl refl refl is.ahead in
      record {
        entries = is.rest;
        list = record { pages = is.ahead.coming; reads = reads.0; entries_are = reads.1 };
        found = λ key not_below over.
            sym (find_above (Some floor) key is.rest true over) ∙ ap (record_of_key key) is.left_is
            ∙ find_above (Some floor) key (entries_of tree.c1) true over;
        named = named is.ahead.coming is.ahead.chained is.among reads.0.pages_is;
      }
    where
      named : (coming : List RunPage) → AreChained runs.sizes coming None file → ((n : ℕ) → Contains (numbers_of coming) n → Contains (numbers_of tree.c1) n)
          → length coming ≡ behind.pages → (n : ℕ) → Contains (numbers_of coming) n
          → IsNamed runs.space runs.tags.c1 (last_fences runs.catalogue.c1 behind fences) n
      named [] chained among many n has = absurd (none_in n has)
      named (p ∷ ps) chained among many n has =
          let ends = ends_with runs.sizes file tree.c1 (p ∷ ps) p.number (few_pages runs.sizes are.geometry) reads_c1.chained chained refl
          (among p.number (0, omega arith, refl)) in
          end_named ends.before (p ∷ ps) behind ends.parts many n has

  -- a part without pages that reads as a list is the empty component
  empty_part : (floor : Option Key) (low : Key) (part : Component) → HasOlderPart runs floor low (entries_of tree.c1) part file → part.pages ≡ 0 → part ≡ empty_component
  empty_part floor low part has none =
      let reads = has.list.reads in
      by has.list.pages (reads.pages_is ∙ none) reads.first_is reads.entries_is reads.weight_is
    where
      by : (pages : List RunPage) → length pages ≡ 0 → page_number (first_number pages None) ≡ part.first → length (entries_of pages) ≡ part.entries
          → entries_weight (entries_of pages) ≡ part.weight → part ≡ empty_component
      by [] zero first entries weight = λ i. record { first = sym first i; pages = none i; entries = sym entries i; weight = sym weight i }
      by (p ∷ ps) zero first entries weight = absurd (omega (arith, zero))

  later_one : (floor : Option Key) (low : Key) (part behind : Component) → HasOlderPart runs floor low (entries_of tree.c1) part file
      → HasOlderPart runs floor low (entries_of tree.c1) behind file → HasOlderPart runs floor low (entries_of tree.c1) (later_part part (Some behind)) file
  later_one floor low part behind one other = by (nat_lt behind.pages part.pages) (nat_eq behind.pages 0) refl
    where
      by : (further none : Bool) → nat_eq behind.pages 0 ≡ none
          → HasOlderPart runs floor low (entries_of tree.c1) (if further then (if none then empty_component else behind) else part) file
      by true true is =
          subst (λ (c : Component). HasOlderPart runs floor low (entries_of tree.c1) c file) (empty_part floor low behind other (zero_of behind.pages is)) other
      by true false is = other
      by false none is = one

  pub older_part : (floor : Option Key) (low : Key) (c1 : Component) → IsFloorOf floor runs tree file → IsOlderFrom runs floor low c1
      → HasOlderPart runs floor low (entries_of tree.c1) c1 file
  older_part floor low c1 released from =
      subst (λ (c : Component). HasOlderPart runs floor low (entries_of tree.c1) c file) (sym from.2)
      (by floor released (of_fences floor low from.0 from.1))
    where
      by_pass : (key : Key) (pass : Option SnowState) → released_by pass ≡ Some key
          → IsPassOver runs.sizes file runs.space (guide_at runs.guides runs.tags.pass) pass (replayed tree.lane_a.entries) tree.c1
          → HasOlderPart runs (Some key) low (entries_of tree.c1) from.0 file
          → HasOlderPart runs (Some key) low (entries_of tree.c1) (later_part from.0 (part_behind (Some key) pass)) file
      by_pass key None is over part = part
      by_pass key (Some snow) is over part =
          later_one (Some key) low from.0 snow.rest.behind part
          (of_pass key low snow.writer.role snow.rest.behind
          (subst (λ (k : Option Key). IsInput runs.sizes file runs.space snow.writer.role k (cursor_started snow.rest.behind) (numbers_of tree.c1) (entries_of tree.c1))
          (released_is snow key is).0 (over.behind_is refl)))

      by : (at : Option Key) → IsFloorOf at runs tree file → HasOlderPart runs at low (entries_of tree.c1) from.0 file
          → HasOlderPart runs at low (entries_of tree.c1) (later_part from.0 (part_behind at runs.pass)) file
      by None none part = part
      by (Some key) is part = by_pass key runs.pass is.floor_is is.over part

-- ---- both, over the table that is left

pub read_sources : (runs : RunsState) (tree : Tree) (file : List ℕ) (floor : Option Key) (low high : Key) (table : Entries) (front c1 : Component)
    → table ≡ above floor (replayed tree.lane_a.entries) → AreSorted (entries_of tree.c1)
    → (one : HasFrontPart runs floor low (replayed tree.lane_a.entries) (entries_of tree.c1) front file)
    → (two : HasOlderPart runs floor low (entries_of tree.c1) c1 file)
    → IsReadAs low high table (splice one.entries floor two.entries) (replayed tree.lane_a.entries) (entries_of tree.c1)
read_sources runs tree file floor low high table front c1 is sorted one two = record {
  sorted_a = sorted_replayed tree.lane_a.entries;
  sorted_c1 = sorted;
  alike = λ key inside.
      let not_below = from_low key inside in
      (λ i. over_any (record_of_key key (is i)) (record_of_key key (splice one.entries floor two.entries)))
      ∙ by key not_below (is_above floor key) refl;
}
  where
    a : Entries
    a = replayed tree.lane_a.entries

    not_true : (b : Bool) → not b ≡ true → b ≡ false
    not_true false h = refl
    not_true true h = absurd (true≢false (sym h))

    from_low : (key : Key) → in_range low high key ≡ true → is_lt (key_cmp key low) ≡ false
    from_low key inside = not_true (is_lt (key_cmp key low)) (both_hold (not (is_lt (key_cmp key low))) (is_lt (key_cmp key high)) inside).0

    by : (key : Key) → is_lt (key_cmp key low) ≡ false → (b : Bool) → is_above floor key ≡ b
        → over_any (record_of_key key (above floor a)) (record_of_key key (splice one.entries floor two.entries))
        ≡ over_any (record_of_key key a) (record_of_key key (entries_of tree.c1))
    by key not_below true over =
        (λ i. over_any (find_above floor key a true over i) (spliced_ahead floor one.entries two.entries one.up key over i))
        ∙ ap (over_any (record_of_key key a)) (two.found key not_below over)
    by key not_below false under =
        (λ i. over_any (find_above floor key a false under i) (spliced_up_to floor one.entries two.entries one.up key under i))
        ∙ one.found key not_below under
