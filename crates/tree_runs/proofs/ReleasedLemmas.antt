-- What a pass has finished of its run has the record of each key up to the one that it tells.
use Rattle.std.specs.Prelude.{ℕ, List, [], ◌∷◌, ◌++◌, Option, Some, None, option_map, nat_lt}
use Rattle.std.proofs.lemmas.Grind.{common_steps}
use Rattle.std.proofs.lemmas.Bool.Decides.{nat_tests}
use Rattle.std.proofs.Common.{◌≡◌, ◌∙◌, Bool, cond, true, false, not, refl, ap, sym, subst, arith}
use Rattle.std.proofs.lemmas.Cmp.{nat_list_cmp_total, tied_itself}
use Rattle.std.proofs.lemmas.List.{append-nil}
use Rattle.std.proofs.lemmas.List.Elements.{All-cons, All-nil, Contains-append_left}
use Rattle.std.specs.List.{AllByRecursion, Contains}
use Rattle.std.specs.List.Sorted.{IsStrictlySortedBy}
use Rattle.std.specs.Ordering.{is_eq, is_lt, ordering_reverse}
use Rattle.std.specs.declared.cmp.Ordering.TheVariants.{Less}
use Rattle.blsm_model.specs.declared.component.Component.{Component}
use Rattle.blsm_model.specs.declared.key.Key.{Key}
use Rattle.blsm_model.specs.Keys.{key_cmp}
use Rattle.blsm_model.specs.Sizes.{Sizes}
use Rattle.bloom_bits.specs.declared.fences.Fence.{Fence}
use Rattle.bloom_bits.specs.Fences.{IsBelowAll}
use Rattle.bloom_bits.specs.Guides.{Guide, fences_of}
use Rattle.catalog_swap.specs.declared.catalog.Catalog.{Catalog}
use Rattle.record_delta.specs.declared.record.Rec.{Rec}
use Rattle.record_delta.specs.Entries.{AreSorted, Entries, above, folded_over, is_above, over_any, record_of_key, replayed, up_to}
use Rattle.page_space.specs.Space.{SpaceState, HasRole}
use Rattle.page_file.specs.Component.{RunPage, ReadsAs, ReadsOn, entries_of, numbers_of}
use Rattle.page_file.specs.Entry.{AreRising, keys_of}
use Rattle.page_file.proofs.ComponentLemmas.{entries_join}
use Rattle.run_writer.specs.Run.{open_number, page_of}
use Rattle.run_writer.specs.Writer.{closed_of}
use Rattle.run_writer.proofs.ClosedLemmas.{closed_are, closed_reads}
use Rattle.merge_ends.specs.declared.finished.Finished.{Finished}
use Rattle.snow_merge.specs.Pass.{SnowState}
use Rattle.tree_machine.proofs.FoldLemmas.{by_test, equal_of, find-folded_over, holds, less_of, tied}
use Rattle.tree_machine.proofs.CursorLemmas.{below_or_above, find-ahead, less_trans}
use Rattle.tree_machine.proofs.WriteLemmas.{find-behind, sorted_behind}
use Rattle.tree_file.specs.Tree.{Tree, HoldsTree}
use Rattle.tree_runs.specs.Runs.{GuideState, PassHasTag, RunsState, finished_by_pass, front_of, guide_at, released_by}
use Rattle.tree_runs.specs.Holding.{AreGuided, IsGuidedBy, IsPassOver}
use Rattle.tree_runs.specs.Lookups.{HasRecord, IsFloorOf, IsReleased, first_record, first_run, first_tag}
use Rattle.tree_runs.proofs.BesideLemmas.{pass_has_it, tag_of_pass}

-- ---- the key that is told

closed_by : (b : Bool) (closed : Option Key) (output : Component) (next left : ℕ) (floor : Key)
    → option_map (λ (done : Finished). done.key)
    (cond b (option_map (λ key. record { output = output; next = next; key = key; left = left }) closed) None) ≡ Some floor
    → (closed ≡ Some floor)
    × (front_of (cond b (option_map (λ key. record { output = output; next = next; key = key; left = left }) closed) None) ≡ output)
closed_by true (Some key) output next left floor is = (is, refl)
closed_by true None output next left floor is = absurd (cc is)
closed_by false closed output next left floor is = absurd (cc is)

-- it is the one up to which all is on closed pages, and these are told
pub released_is : (snow : SnowState) (floor : Key) → released_by (Some snow) ≡ Some floor
    → (snow.closed ≡ Some floor) × (front_of (finished_by_pass (Some snow)) ≡ closed_of snow.writer)
released_is snow floor is = closed_by (nat_lt 1 snow.writer.component.pages) snow.closed (closed_of snow.writer) snow.writer.number snow.left floor is

-- ---- the record of a key

behind_of : (b : Bool) (n o : Option Rec) → over_any (cond (not b) n None) (cond (not b) o None) ≡ cond b None (over_any n o)
behind_of b n o = grind (arith, common_steps, nat_tests)

-- what comes of both lists up to a key has the record of each key up to it
pub find_fold : (at : Option Key) (newer older : Entries) → AreSorted newer → (key : Key)
    → record_of_key key (folded_over (up_to at newer) (up_to at older))
    ≡ cond (is_above at key) None (over_any (record_of_key key newer) (record_of_key key older))
find_fold at newer older sorted key =
    find-folded_over (up_to at newer) (up_to at older) (holds _ (sorted_behind at newer sorted)) key
    ∙ ap (λ r. over_any r (record_of_key key (up_to at older))) (find-behind at newer key)
    ∙ ap (λ r. over_any (cond (not (is_above at key)) (record_of_key key newer) None) r) (find-behind at older key)
    ∙ behind_of (is_above at key) (record_of_key key newer) (record_of_key key older)

-- ---- what is behind the closed pages is above the key

at_seam : (P : Key → Type 0) (xs es : Entries) (e : Key × Rec) → AllByRecursion P (keys_of (xs ++ e ∷ es)) → P e.0
at_seam P [] es e all = all.0
at_seam P (x ∷ xs) es e all = at_seam P xs es e all.1

-- an entry behind others, where keys rise, has a record in all of them, and none in those before it
is_there : (xs es : Entries) (e : Key × Rec) → AreRising (xs ++ e ∷ es)
    → (record_of_key e.0 xs ≡ None) × (record_of_key e.0 (xs ++ e ∷ es) ≡ Some e.1)
unfolding IsStrictlySortedBy
is_there [] es e rise = (refl, ap (λ o. cond (is_eq o) (Some e.1) (record_of_key e.0 es)) (tied_itself nat_list_cmp_total e.0))
is_there (x ∷ xs) es e rise =
    let rest = is_there xs es e rise.1 in
    let less = at_seam (λ k. key_cmp x.0 k ≡ Less) xs es e rise.0 in
    let apart : key_cmp e.0 x.0 ≡ ordering_reverse Less = nat_list_cmp_total.antisymm e.0 x.0 ∙ ap ordering_reverse less in (
      ap (λ o. cond (is_eq o) (Some x.1) (record_of_key e.0 xs)) apart ∙ rest.0,
      ap (λ o. cond (is_eq o) (Some x.1) (record_of_key e.0 (xs ++ e ∷ es))) apart ∙ rest.1,
    )

none_some : (rec : Rec) → None ≡ Some rec → ⊥
none_some rec is = cc

all_entries : (closed : List RunPage) (number : ℕ) (es : Entries) → entries_of (closed ++ page_of number es) ≡ entries_of closed ++ es
all_entries closed number es = entries_join closed (page_of number es) ∙ ap (λ (l : Entries). entries_of closed ++ l) (here number es)
  where
    here : (number : ℕ) (es : Entries) → entries_of (page_of number es) ≡ es
    here number es = grind (arith, common_steps, nat_tests)

-- Where both lists' fold up to a key is followed by more of them, that is above the key.
beyond : (closed at : Option Key) (newer older xs es : Entries) (e : Key × Rec) → AreSorted newer → AreRising (xs ++ e ∷ es)
    → xs ≡ folded_over (up_to closed newer) (up_to closed older)
    → xs ++ e ∷ es ≡ folded_over (up_to at newer) (up_to at older) → is_above closed e.0 ≡ true
beyond closed at newer older xs es e sorted rise front all = by (is_above closed e.0) refl
  where
    there : (record_of_key e.0 xs ≡ None) × (record_of_key e.0 (xs ++ e ∷ es) ≡ Some e.1)
    there = is_there xs es e rise

    both : Option Rec
    both = over_any (record_of_key e.0 newer) (record_of_key e.0 older)

    none : (b : Bool) → both ≡ None → cond b None both ≡ None
    none true is = refl
    none false is = is

    by : (b : Bool) → is_above closed e.0 ≡ b → is_above closed e.0 ≡ true
    by true is = is
    by false is =
        let left : both ≡ None = sym (ap (λ (b : Bool). cond b None both) is) ∙ sym (find_fold closed newer older sorted e.0)
        ∙ sym (ap (record_of_key e.0) front) ∙ there.0 in
        absurd (none_some e.1 (sym (none (is_above at e.0) left) ∙ sym (find_fold at newer older sorted e.0)
        ∙ sym (ap (record_of_key e.0) all) ∙ there.1))

before_it : (low key x : Key) → is_lt (key_cmp low key) ≡ false → is_lt (key_cmp low x) ≡ true → is_lt (key_cmp key x) ≡ true
before_it low key x h1 h2 = grind (arith, common_steps, nat_tests, by_test, tied, equal_of, less_trans, below_or_above)

below_open : (floor key : Key) (number : ℕ) (es : Entries) → is_above (Some floor) key ≡ false
    → ((e : Key × Rec) (more : Entries) → es ≡ e ∷ more → is_above (Some floor) e.0 ≡ true) → IsBelowAll key (fences_of (page_of number es))
below_open floor key number [] up all = All-nil (λ (f : Fence). key_cmp key f.first ≡ Less)
below_open floor key number (e ∷ es) up all =
    All-cons (λ (f : Fence). key_cmp key f.first ≡ Less) (record { first = e.0; page = number; entries = 0; weight = 0 }) []
    (less_of (key_cmp key e.0) (before_it floor key e.0 up (all e es refl))) (All-nil (λ (f : Fence). key_cmp key f.first ≡ Less))

-- ---- the finished pages

-- In this file they read as what comes of both lists up to the floor, and go on; filter and fences are those of them and of pages behind, which begin with
-- keys above the floor. They have the tag.
pub record HasFinishedPages (sizes : Sizes) (file : List ℕ) (space : SpaceState) (tag : ℕ) (guide : GuideState) (floor : Key) (a c1 : Entries) (run : Component) : Type 0 where
  pub pages : List RunPage
  pub behind : List RunPage
  pub next : ℕ
  pub reads : ReadsOn sizes run pages (Some next) file
  pub guide_is : Guide guide.filter guide.fences (pages ++ behind)
  pub below : (key : Key) → is_above (Some floor) key ≡ false → IsBelowAll key (fences_of behind)
  pub entries_are : entries_of pages ≡ folded_over (up_to (Some floor) a) (up_to (Some floor) c1)
  pub sorted : AreSorted a
  pub tagged : (n : ℕ) → Contains (numbers_of pages) n → HasRole space tag n

module _ (sizes : Sizes) (file : List ℕ) (space : SpaceState) (guide : GuideState) (floor : Key) (a : Entries) (c1 : List RunPage) where
  pub finished_pages : (tag : ℕ) (pass : Option SnowState) → PassHasTag tag pass → released_by pass ≡ Some floor → IsPassOver sizes file space guide pass a c1
      → HasFinishedPages sizes file space tag guide floor a (entries_of c1) (front_of (finished_by_pass pass))
  finished_pages tag None has_tag is over = absurd (cc is)
  finished_pages tag (Some snow) has_tag is over =
      let told = released_is snow floor is in
      let out = over.run.out in
      let has = over.run.pushed in
      let run = has.run in
      let all : entries_of run.closed ++ run.entries ≡ folded_over (up_to snow.at a) (up_to snow.at (entries_of c1)) =
      sym (all_entries run.closed run.number run.entries) ∙ has.entries_are ∙ over.out_is in
      let front : entries_of run.closed ≡ folded_over (up_to (Some floor) a) (up_to (Some floor) (entries_of c1)) =
      closed_are sizes true file space snow.writer guide.filter guide.fences out has ∙ over.closed_is
      ∙ ap (λ (k : Option Key). folded_over (up_to k a) (up_to k (entries_of c1))) told.0 in
      let rise : AreRising (entries_of run.closed ++ run.entries) = subst AreRising (all_entries run.closed run.number run.entries) has.is_run.rise in
      record {
        pages = run.closed;
        behind = page_of run.number run.entries;
        next = snow.writer.number;
        reads = subst (λ (c : Component). ReadsOn sizes c run.closed (Some snow.writer.number) file) (sym told.1)
            (closed_reads sizes true file space snow.writer guide.filter guide.fences out has refl);
        guide_is = has.guide;
        below = λ key up. below_open floor key run.number run.entries up
            (λ e more is_more. beyond (Some floor) snow.at a (entries_of c1) (entries_of run.closed) more e over.newer_is.0
            (subst (λ (es : Entries). AreRising (entries_of run.closed ++ es)) is_more rise) front
            (ap (λ (es : Entries). entries_of run.closed ++ es) (sym is_more) ∙ all));
        entries_are = front;
        sorted = over.newer_is.0;
        tagged = λ n among. subst (λ (r : ℕ). HasRole space r n) has_tag
            (has.tagged n (Contains-append_left (numbers_of run.closed) (open_number run.closed run.number run.entries) n among));
      }

  front_has : (key : Key) → is_above (Some floor) key ≡ false → (pass : Option SnowState) → released_by pass ≡ Some floor → IsPassOver sizes file space guide pass a c1
      → HasRecord sizes (front_of (finished_by_pass pass)) guide key file (over_any (record_of_key key a) (record_of_key key (entries_of c1)))
  front_has key up pass is over =
      let has = finished_pages (tag_of_pass pass) pass (pass_has_it pass) is over in
      record {
        pages = has.pages;
        behind = has.behind;
        next = Some has.next;
        reads = has.reads;
        guided = λ some. has.guide_is;
        below = has.below key up;
        found_is = sym (ap (record_of_key key) has.entries_are ∙ find_fold (Some floor) a (entries_of c1) has.sorted key
            ∙ ap (λ (b : Bool). cond b None (over_any (record_of_key key a) (record_of_key key (entries_of c1)))) up);
      }

-- ---- what is asked first

-- a component's record
pub component_has : (sizes : Sizes) (run : Component) (guide : GuideState) (key : Key) (pages : List RunPage) (file : List ℕ)
    → ReadsAs sizes run pages file
    → IsGuidedBy guide pages → HasRecord sizes run guide key file (record_of_key key (entries_of pages))
component_has sizes run guide key pages file reads guided = record {
  pages = pages;
  behind = [];
  next = None;
  reads = reads;
  guided = subst (λ (ps : List RunPage). IsGuidedBy guide ps) (sym (append-nil pages)) guided;
  below = All-nil (λ (f : Fence). key_cmp key f.first ≡ Less);
  found_is = refl;
}

-- C1's; or, where the table's was dropped, that of the finished pages
pub first_has : (runs : RunsState) (floor : Option Key) (key : Key) (tree : Tree) (file : List ℕ) → HoldsTree runs.sizes tree file
    → tree.catalogue ≡ runs.catalogue → AreGuided runs.guides runs.tags tree → IsFloorOf floor runs tree file
    → HasRecord runs.sizes (first_run floor key runs) (guide_at runs.guides (first_tag floor key runs)) key file
    (first_record floor key tree)
first_has runs floor key tree file holds now guided = by floor
  where
    list : Entries
    list = replayed tree.lane_a.entries

    c1 : HasRecord runs.sizes runs.catalogue.c1 (guide_at runs.guides runs.tags.c1) key file (record_of_key key (entries_of tree.c1))
    c1 = component_has runs.sizes runs.catalogue.c1 (guide_at runs.guides runs.tags.c1) key tree.c1 file
        (subst (λ (k : Catalog). ReadsAs runs.sizes k.c1 tree.c1 file) now holds.c1) guided.c1

    by_order : (low : Key) (b : Bool) → is_above (Some low) key ≡ b → IsReleased low runs tree file
        → HasRecord runs.sizes (cond b runs.catalogue.c1 (front_of (finished_by_pass runs.pass)))
        (guide_at runs.guides (cond b runs.tags.c1 runs.tags.pass)) key file
        (cond b (record_of_key key (entries_of tree.c1)) (over_any (record_of_key key list) (record_of_key key (entries_of tree.c1))))
    by_order low true is of = c1
    by_order low false is of =
        front_has runs.sizes file runs.space (guide_at runs.guides runs.tags.pass) low list tree.c1 key is runs.pass of.floor_is of.over

    by : (low : Option Key) → IsFloorOf low runs tree file
        → HasRecord runs.sizes (first_run low key runs) (guide_at runs.guides (first_tag low key runs)) key file
        (first_record low key tree)
    by None of = c1
    by (Some low) of = by_order low (is_above (Some low) key) refl of

-- ---- the table above its floor

-- What is left of the table has a record over what is asked first just as its list has over C1.
pub rest_over : (floor : Option Key) (key : Key) (tree : Tree)
    → over_any (record_of_key key (above floor (replayed tree.lane_a.entries))) (first_record floor key tree)
    ≡ over_any (record_of_key key (replayed tree.lane_a.entries)) (record_of_key key (entries_of tree.c1))
rest_over floor key tree =
    ap (λ (r : Option Rec). over_any r (first_record floor key tree)) (find-ahead floor (replayed tree.lane_a.entries) key) ∙ by (is_above floor key)
  where
    a : Option Rec
    a = record_of_key key (replayed tree.lane_a.entries)

    c1 : Option Rec
    c1 = record_of_key key (entries_of tree.c1)

    by : (b : Bool) → over_any (cond b a None) (cond b c1 (over_any a c1)) ≡ over_any a c1
    by true = refl
    by false = refl
