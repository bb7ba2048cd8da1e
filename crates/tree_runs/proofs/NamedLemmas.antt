-- What the commit of a pass's swap names of the deep merge that runs: the finished pages of its run, on an honest disk.
use Rattle.std.specs.Prelude.{◌≡◌, ◌≢◌, ℕ, ◌+◌, ◌-◌, ◌<◌, ◌≤◌, ◌^◌, Bool, true, false, if◌then◌else◌, List, [], ◌∷◌, ◌++◌, length, take, min, nat_eq}
use Rattle.std.specs.Prelude.{nat_lt, Option, Some, None, IsSome, option_map, refl}
use Rattle.std.specs.List.{Contains, IsDistinct}
use Rattle.std.proofs.lemmas.Grind.{common_steps}
use Rattle.std.proofs.lemmas.Bool.Decides.{nat_tests}
use Rattle.std.proofs.Common.{⊎_elim, sym, subst, ap, ◌∙◌, arith}
use Rattle.std.proofs.lemmas.List.Elements.{Contains-append_left, Contains-append_right}
use Rattle.std.proofs.Math.Seq.{take-length}
use Rattle.blsm_model.specs.Geometry.{page_count}
use Rattle.blsm_model.specs.Sizes.{Sizes, IsGeometry}
use Rattle.blsm_model.specs.declared.component.Component.{Component}
use Rattle.blsm_model.specs.declared.key.Key.{Key}
use Rattle.catalog_swap.specs.Text.{HasKey, IsComponent, IsEmpty, IsInRange}
use Rattle.gated_log.specs.Lane.{Lane}
use Rattle.catalog_swap.specs.declared.catalog.Catalog.{Catalog}
use Rattle.catalog_swap.specs.declared.catalog.Progress.{Progress}
use Rattle.record_delta.specs.Entries.{Entries, above, entries_weight, up_to}
use Rattle.page_file.specs.Component.{RunPage, ReadsOn, entries_of, numbers_of}
use Rattle.page_file.proofs.PageLemmas.{few_pages}
use Rattle.page_space.specs.Space.{SpaceState, HasRole, IsSpace, role_count}
use Rattle.run_writer.specs.Buffer.{BufferState, IsBufferOf}
use Rattle.run_writer.specs.Run.{open_number}
use Rattle.run_writer.specs.Writer.{WriterState, closed_entries, closed_of, HasEntries, HasPushed}
use Rattle.run_writer.proofs.ClosedLemmas.{closed_are, closed_reads}
use Rattle.merge_ends.specs.Closed.{AreClosed}
use Rattle.merge_ends.specs.declared.finished.Finished.{Finished}
use Rattle.deep_merge.specs.Merge.{DeepState}
use Rattle.tree_machine.proofs.QuantumLemmas.{weight_parts}
use Rattle.tree_file.specs.Output.{settled_fold, settled_up_to, weight_up_to}
use Rattle.tree_file.specs.Tree.{Tree, HasProgress, HoldsTree}
use Rattle.tree_file.proofs.NextLemmas.{distinct_others, kept_apart}
use Rattle.tree_runs.specs.Runs.{GuideState, DeepHasTag, made_by_deep}
use Rattle.tree_runs.specs.Holding.{AreFinished, IsDeepOver, named_of, progress_of}
use Rattle.tree_runs.proofs.CatalogLemmas.{SuitsNamed, holds_little, none_suits, some_in_range}
use Rattle.tree_runs.proofs.FinishedLemmas.{nothing_finished}
use Rattle.tree_runs.proofs.FrontLemmas.{no_longer}
use Rattle.tree_runs.proofs.StayLemmas.{role_below}

-- ---- where something is named

-- a page is finished, up to this key, and C1' has pages
record Names (now : Catalog) (merge : DeepState) (p : Progress) : Type 0 where
  key : Key
  some : now.c1x.pages ≢ 0
  more : 1 < merge.writer.component.pages
  closed_is : merge.closed ≡ Some key
  named_is : named_of now (record { output = closed_of merge.writer; next = merge.writer.number; key = key; left = merge.left }) ≡ p

same_named : {p q : Progress} → Some p ≡ Some q → p ≡ q
same_named is = cc

pages_some : (n : ℕ) → nat_eq n 0 ≡ false → n ≢ 0
pages_some n h1 = grind (arith, common_steps, nat_tests)

pages_more : (n : ℕ) → nat_lt 1 n ≡ true → 1 < n
pages_more n h1 = grind (arith, common_steps, nat_tests)

names : (now : Catalog) (merge : DeepState) (p : Progress) → progress_of now (Some merge) ≡ Some p → Names now merge p
names now merge p = by (nat_eq now.c1x.pages 0) refl (nat_lt 1 merge.writer.component.pages) refl merge.closed refl
  where
    done : Key → Finished
    done key = record { output = closed_of merge.writer; next = merge.writer.number; key = key; left = merge.left }

    by : (a : Bool) → nat_eq now.c1x.pages 0 ≡ a → (b : Bool) → nat_lt 1 merge.writer.component.pages ≡ b → (closed : Option Key) → merge.closed ≡ closed
        → (if a then None else option_map (named_of now) (if b then option_map done closed else None)) ≡ Some p → Names now merge p
    by true empty b more closed is named = absurd (cc named)
    by false some false none closed is named = absurd (cc named)
    by false some true more None is named = absurd (cc named)
    by false some true more (Some key) is named = record {
      key = key;
      some = pages_some now.c1x.pages some;
      more = pages_more merge.writer.component.pages more;
      closed_is = is;
      named_is = same_named named;
    }

-- ---- the finished pages, and the open one behind them

open_behind : (closed : List RunPage) (number : ℕ) (es : Entries) → 0 < length closed → open_number closed number es ≡ number ∷ []
open_behind [] number es some = absurd (omega (arith, some))
open_behind (p ∷ ps) number [] some = refl
open_behind (p ∷ ps) number (e ∷ es) some = refl

first_one : (n : ℕ) → Contains (n ∷ []) n
first_one n = (0, omega arith, refl)

-- a buffer with bytes has entries
text_some : (es : Entries) (buffer : BufferState) → IsBufferOf buffer es → 0 < length buffer.text → 0 < buffer.count
text_some [] buffer is some = absurd (omega (arith, some, ap (λ (l : List ℕ). length l) is.spelled))
text_some (e ∷ es) buffer is some = omega (arith, is.count_is)

-- z is what isn't left
z_is : (a b left up_a up_b above_a above_b : ℕ) → a + b ≤ 2 ^ 64 - 1 → left ≡ above_a + above_b → up_a + above_a ≡ a → up_b + above_b ≡ b
    → min (a + b) (2 ^ 64 - 1) - left ≡ up_a + up_b
z_is a b left up_a up_b above_a above_b h1 h2 h3 h4 = grind (arith, common_steps, nat_tests)

few_of : (pages : ℕ) (component : Component) → IsComponent pages component → component.pages ≤ pages
few_of pages component is = ⊎_elim (λ (none : IsEmpty component). omega (arith, none.pages)) (λ (some : IsInRange pages component). some.no_more_pages) is

range_of : (pages : ℕ) (component : Component) → IsComponent pages component → component.pages ≢ 0 → IsInRange pages component
range_of pages component is some = ⊎_elim (λ (none : IsEmpty component). absurd (some none.pages)) (λ (range : IsInRange pages component). range) is

-- ---- what is named, as a catalogue of these sizes and the next tree want it

-- The finished pages have what comes of both lists up to the key. They aren't the components', and a slot may say what is named.
pub record IsNaming (sizes : Sizes) (tree : Tree) (file : List ℕ) (space : SpaceState) (tag : ℕ) (deep : Option DeepState) (progress : Option Progress) : Type 0 where
  pub output : List RunPage
  pub finished : AreFinished space deep output
  pub named : (next : Catalog) (run : List RunPage) (a b : Lane) → IsDistinct nat_eq (numbers_of run ++ numbers_of tree.c1x ++ numbers_of tree.c2)
      → ((n : ℕ) → Contains (numbers_of run ++ numbers_of tree.c1x ++ numbers_of tree.c2) n → HasRole space tag n → ⊥)
      → HasProgress sizes progress (record { catalogue = next; c1 = run; c1x = tree.c1x; c2 = tree.c2; output = output; lane_a = a; lane_b = b }) file
  pub suits : HasKey progress → SuitsNamed sizes tree.catalogue.c1x progress

-- what is known of the deep merge that runs
module _ (sizes : Sizes) (tree : Tree) (file : List ℕ) (space : SpaceState) (tag : ℕ) (guide : GuideState) (merge : DeepState) (p : Progress)
    (geometry : IsGeometry sizes) (shape : IsSpace space) (pages : space.pages ≡ page_count sizes) (below : tag < role_count)
    (few : merge.writer.component.pages ≤ page_count sizes) (has : DeepHasTag tag (Some merge)) (holds : HoldsTree sizes tree file)
    (over : IsDeepOver sizes file space guide (Some merge) tree.c1x tree.c2) (n : Names tree.catalogue merge p) where
  abbrev newer : Entries
  newer = entries_of tree.c1x

  abbrev older : Entries
  older = entries_of tree.c2

  abbrev writer : WriterState
  writer = merge.writer

  abbrev pushed : HasPushed sizes true file space writer guide.filter guide.fences over.run.out
  pushed = over.run.pushed

  abbrev closed : List RunPage
  closed = pushed.run.closed

  abbrev number : ℕ
  number = writer.number

  reads : ReadsOn sizes (closed_of writer) closed (Some number) file
  reads = closed_reads sizes true file space writer guide.filter guide.fences over.run.out pushed refl

  some_closed : 0 < length closed
  some_closed = omega (arith, reads.pages_is, n.more)

  all : numbers_of closed ++ open_number closed pushed.run.number pushed.run.entries ≡ numbers_of closed ++ number ∷ []
  all = ap (λ (l : List ℕ). numbers_of closed ++ l) (open_behind closed pushed.run.number pushed.run.entries some_closed ∙ ap (λ (m : ℕ). m ∷ []) (sym pushed.held.number))

  once : IsDistinct nat_eq (numbers_of closed ++ number ∷ [])
  once = subst (IsDistinct nat_eq) all pushed.is_run.apart

  tagged : (m : ℕ) → Contains (numbers_of closed ++ number ∷ []) m → HasRole space tag m
  tagged m among = subst (λ (r : ℕ). HasRole space r m) has (pushed.tagged m (subst (λ (l : List ℕ). Contains l m) (sym all) among))

  in_front : (m : ℕ) → Contains (numbers_of closed) m → HasRole space tag m
  in_front m among = tagged m (Contains-append_left (numbers_of closed) (number ∷ []) m among)

  are_closed : AreClosed space writer closed
  are_closed m among = (
    subst (λ (r : ℕ). HasRole space r m) (sym has) (in_front m among),
    λ some is. distinct_others (numbers_of closed) (number ∷ []) once m among (subst (Contains (number ∷ [])) (sym is) (first_one number)),
  )

  inside : number < page_count sizes
  inside = omega (arith, pages, role_below space tag number shape below (tagged number (Contains-append_right (numbers_of closed) (number ∷ []) number (first_one number))))

  -- the entries
  are_up_to : entries_of closed ≡ settled_up_to (Some n.key) newer older
  are_up_to =
      closed_are sizes true file space writer guide.filter guide.fences over.run.out pushed ∙ over.closed_is ∙ ap (λ (k : Option Key). settled_up_to k newer older) n.closed_is

  all_weigh : merge.left ≡ entries_weight (above (Some n.key) newer) + entries_weight (above (Some n.key) older)
  all_weigh =
      over.left_is (subst (λ (k : Option Key). IsSome k) (sym n.closed_is) refl)
      ∙ ap (λ (k : Option Key). entries_weight (above k newer) + entries_weight (above k older)) n.closed_is

  light : tree.catalogue.c1x.weight + tree.catalogue.c2.weight ≤ 2 ^ 64 - 1
  light =
      let fits = holds.newest.stands.fits in
      let one = holds_little sizes tree.catalogue.c1x tree.c1x None file holds.c1x in
      let two = holds_little sizes tree.catalogue.c2 tree.c2 None file holds.c2 in
      omega (arith, one.light, two.light, few_of (page_count sizes) tree.catalogue.c1x fits.c1x, few_of (page_count sizes) tree.catalogue.c2 fits.c2, few_pages sizes geometry)

  is_z : (named_of tree.catalogue (record { output = closed_of writer; next = number; key = n.key; left = merge.left })).z ≡ weight_up_to (Some n.key) newer older
  is_z =
      z_is tree.catalogue.c1x.weight tree.catalogue.c2.weight merge.left (entries_weight (up_to (Some n.key) newer)) (entries_weight (up_to (Some n.key) older))
      (entries_weight (above (Some n.key) newer)) (entries_weight (above (Some n.key) older)) light all_weigh
      (weight_parts (Some n.key) newer ∙ holds.c1x.weight_is) (weight_parts (Some n.key) older ∙ holds.c2.weight_is)

  -- the next page gets an entry
  none_longer : length over.run.out ≤ length (settled_fold newer older)
  none_longer =
      subst (λ (l : Entries). length l ≤ length (settled_fold newer older)) (sym over.out_is) (no_longer merge.at newer older over.older_is.sorted)

  closed_front : entries_of closed ≡ closed_entries writer over.run.out
  closed_front = closed_are sizes true file space writer guide.filter guide.fences over.run.out pushed

  out_long : length over.run.out ≡ writer.component.entries
  out_long = ap (λ (l : Entries). length l) (sym pushed.entries_are) ∙ pushed.held.entries_is

  none_open : entries_of closed ≡ settled_fold newer older → writer.buffer.count ≡ 0
  none_open same = omega (arith, none_longer, ap (λ (l : Entries). length l) same, reads.entries_is, out_long, pushed.counted.here)

  all_closed : entries_of closed ≡ settled_fold newer older → over.run.out ≡ entries_of closed
  all_closed same =
      sym (closed_front ∙ subst (λ (m : ℕ). take m over.run.out ≡ over.run.out) (omega (arith, out_long, none_open same)) (take-length over.run.out))

  more_comes : entries_of closed ≡ settled_fold newer older → ⊥
  more_comes same =
      ⊎_elim
      (λ (opens : HasEntries writer). omega (arith, none_open same, text_some pushed.run.entries writer.buffer pushed.held.buffer (opens (omega (arith, n.more)))))
      (λ (more : IsSome (Some merge.c1x) × (over.run.out ≢ settled_fold newer older)). more.1 (all_closed same ∙ same))
      over.begun

  -- so it is what the next tree wants
  are_named : (next : Catalog) (run : List RunPage) (a b : Lane) → IsDistinct nat_eq (numbers_of run ++ numbers_of tree.c1x ++ numbers_of tree.c2)
      → ((m : ℕ) → Contains (numbers_of run ++ numbers_of tree.c1x ++ numbers_of tree.c2) m → HasRole space tag m → ⊥)
      → HasProgress sizes (Some p) (record { catalogue = next; c1 = run; c1x = tree.c1x; c2 = tree.c2; output = closed; lane_a = a; lane_b = b }) file
  are_named next run a b live others =
      subst (λ (q : Progress). HasProgress sizes (Some q) (record { catalogue = next; c1 = run; c1x = tree.c1x; c2 = tree.c2; output = closed; lane_a = a; lane_b = b }) file) n.named_is
      (record {
        output = record { reads = reads; entries_are = are_up_to; z_is = is_z; more = more_comes };
        apart = kept_apart (numbers_of run ++ numbers_of tree.c1x ++ numbers_of tree.c2) (numbers_of closed) number live once (λ m among also. others m among (tagged m also));
      })

  few_closed : (closed_of writer).pages ≤ page_count sizes
  few_closed = omega (arith, few)

  ranges : IsInRange (page_count sizes) (closed_of writer)
  ranges = some_in_range sizes (closed_of writer) closed (Some number) file reads (omega (arith, n.more)) few_closed

  a_slot_says : HasKey (Some p) → SuitsNamed sizes tree.catalogue.c1x (Some p)
  a_slot_says key =
      let small = few_pages sizes geometry in
      let little = holds_little sizes (closed_of writer) closed (Some number) file reads in
      let c1x = range_of (page_count sizes) tree.catalogue.c1x holds.newest.stands.fits.c1x n.some in
      subst (λ (q : Progress). HasKey (Some q) → SuitsNamed sizes tree.catalogue.c1x (Some q)) n.named_is
      (λ k. record {
        fits = record {
          output = record {
            first = omega (arith, ranges.first, small);
            pages = omega (arith, few_closed, small);
            entries = omega (arith, little.few, few_closed, small);
            weight = omega (arith, little.light, few_closed, small);
          };
          next = omega (arith, inside, small);
          z = omega (arith, is_z, weight_parts (Some n.key) newer, weight_parts (Some n.key) older, holds.c1x.weight_is, holds.c2.weight_is, light);
          some_key = k.0;
          short_key = k.1;
        };
        is = record { some_c1x = c1x; output = ranges; next = inside };
      }) key

pub naming : (sizes : Sizes) (tree : Tree) (file : List ℕ) (space : SpaceState) (tag : ℕ) (guide : GuideState) (deep : Option DeepState) → IsGeometry sizes → IsSpace space
    → space.pages ≡ page_count sizes → tag < role_count → (made_by_deep deep).pages ≤ page_count sizes → DeepHasTag tag deep → HoldsTree sizes tree file
    → IsDeepOver sizes file space guide deep tree.c1x tree.c2 → IsNaming sizes tree file space tag deep (progress_of tree.catalogue deep)
naming sizes tree file space tag guide None geometry shape pages below few has holds over = record {
  output = [];
  finished = refl;
  named = λ next run a b live others. refl;
  suits = λ key. none_suits sizes tree.catalogue.c1x;
}
naming sizes tree file space tag guide (Some merge) geometry shape pages below few has holds over = by (progress_of tree.catalogue (Some merge)) refl
  where
    by : (q : Option Progress) → progress_of tree.catalogue (Some merge) ≡ q → IsNaming sizes tree file space tag (Some merge) q
    by None is = record {
      output = [];
      finished = nothing_finished space (Some merge);
      named = λ next run a b live others. refl;
      suits = λ key. none_suits sizes tree.catalogue.c1x;
    }
    by (Some p) is =
        let n = names tree.catalogue merge p is in
        record {
          output = closed sizes tree file space tag guide merge p geometry shape pages below few has holds over n;
          finished = are_closed sizes tree file space tag guide merge p geometry shape pages below few has holds over n;
          named = are_named sizes tree file space tag guide merge p geometry shape pages below few has holds over n;
          suits = a_slot_says sizes tree file space tag guide merge p geometry shape pages below few has holds over n;
        }
