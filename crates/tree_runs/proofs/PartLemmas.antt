-- The parts of the components that a hold has.
use Rattle.std.specs.Prelude.{◌≡◌, ◌≤◌, ◌+◌, ◌-◌, ◌*◌, ◌/◌, ◌⊎◌, ℕ, Bool, true, false, List, Option, None, Some, IsSome, if◌then◌else◌, is_some, nat_eq, nat_lt, option_map}
use Rattle.std.specs.List.{Contains}
use Rattle.std.proofs.Common.{⊎_elim, ap, inl, inr, refl, sym, subst, ◌∙◌, arith}
use Rattle.std.proofs.lemmas.Bool.{false≢true, true≢false}
use Rattle.std.proofs.lemmas.Bool.Decides.{nat_tests}
use Rattle.std.proofs.lemmas.Grind.{common_steps}
use Rattle.std.proofs.lemmas.List.{map-append}
use Rattle.std.proofs.lemmas.List.Elements.{Contains-append_right}
use Rattle.blsm_model.specs.Components.{empty_component}
use Rattle.blsm_model.specs.Format.{least_full}
use Rattle.blsm_model.specs.Geometry.{capacity}
use Rattle.blsm_model.specs.Sizes.{Sizes}
use Rattle.blsm_model.specs.declared.component.Component.{Component}
use Rattle.blsm_model.specs.declared.key.Key.{Key}
use Rattle.bloom_bits.specs.declared.fences.Fence.{Fence}
use Rattle.bloom_bits.specs.Parts.{IsPartFrom, ReadsFrom}
use Rattle.bloom_bits.proofs.PartLemmas.{part_few, part_none, part_reads}
use Rattle.page_file.specs.Component.{RunPage, HasList, ReadsAs, entries_of, numbers_of}
use Rattle.page_file.specs.Page.{most_used}
use Rattle.page_file.proofs.ComponentLemmas.{entries_join}
use Rattle.page_file.proofs.OrderLemmas.{orders}
use Rattle.record_delta.specs.Entries.{Entries, above, entries_weight}
use Rattle.merge_ends.specs.declared.finished.Finished.{Finished}
use Rattle.run_writer.specs.Writer.{closed_of}
use Rattle.scan_view.specs.Hold.{HoldState, IsRestFrom, held_from}
use Rattle.scan_view.specs.Holds.{pages_behind}
use Rattle.snow_merge.specs.Pass.{SnowState}
use Rattle.tree_runs.specs.Runs.{AreRuns, GuideState, RunsState, fences_of_tag, finished_by_pass, front_of, hold_share, page_share}
use Rattle.tree_runs.specs.Holding.{HoldFits, IsFrontFrom, IsGuidedBy, IsOlderFrom, later_part, part_behind}

less_of : (m n : ℕ) → nat_lt m n ≡ true → m + 1 ≤ n
less_of m n is = grind (arith, common_steps, nat_tests)

least_of : (m n : ℕ) → nat_lt m n ≡ false → n ≤ m
least_of m n is = grind (arith, common_steps, nat_tests)

-- ---- on any disk

pub part_paged : {low : Key} {fences : List Fence} {run part : Component} → IsPartFrom low fences run part → (run.pages ≡ 0 → run ≡ empty_component) → part.pages ≡ 0 → part ≡ empty_component
part_paged {low} {fences} {run} {part} is paged none =
    let same = part_none low fences run part is none in
    same ∙ paged (ap (λ (c : Component). c.pages) (sym same) ∙ none)

-- there is a part behind the finished pages where the table was dropped and a pass runs
pub behind_none : (floor : Option Key) (pass : Option SnowState) → is_some floor ≡ false → part_behind floor pass ≡ None
behind_none None pass is = refl
behind_none (Some key) pass is = absurd (true≢false is)

pub behind_floor : (floor : Option Key) (pass : Option SnowState) (snow : SnowState) → is_some floor ≡ true → pass ≡ Some snow
    → part_behind floor pass ≡ Some snow.rest.behind
behind_floor None pass snow is runs = absurd (false≢true is)
behind_floor (Some key) pass snow is runs = ap (part_behind (Some key)) runs

pub behind_no_pass : (floor : Option Key) (pass : Option SnowState) → pass ≡ None → part_behind floor pass ≡ None
behind_no_pass None pass rests = refl
behind_no_pass (Some key) pass rests = ap (part_behind (Some key)) rests

pub later_few : (part : Component) (behind : Option Component) → (later_part part behind).pages ≤ part.pages
later_few part None = omega arith
later_few part (Some behind) = by (nat_lt behind.pages part.pages) refl (nat_eq behind.pages 0)
  where
    by : (later : Bool) → nat_lt behind.pages part.pages ≡ later → (none : Bool) → (if later then (if none then empty_component else behind) else part).pages ≤ part.pages
    by true is true = omega arith
    by true is false = omega (arith, less_of behind.pages part.pages is)
    by false is none = omega arith

pub later_behind : (part behind : Component) → (later_part part (Some behind)).pages ≤ behind.pages
later_behind part behind = by (nat_lt behind.pages part.pages) refl (nat_eq behind.pages 0)
  where
    by : (later : Bool) → nat_lt behind.pages part.pages ≡ later → (none : Bool) → (if later then (if none then empty_component else behind) else part).pages ≤ behind.pages
    by true is true = omega arith
    by true is false = omega arith
    by false is none = omega (arith, least_of behind.pages part.pages is)

pub later_paged : (part : Component) (behind : Option Component) → (part.pages ≡ 0 → part ≡ empty_component) → (later_part part behind).pages ≡ 0
    → later_part part behind ≡ empty_component
later_paged part None paged = paged
later_paged part (Some behind) paged = by (nat_lt behind.pages part.pages) (nat_eq behind.pages 0) refl
  where
    by : (later none : Bool) → nat_eq behind.pages 0 ≡ none → (if later then (if none then empty_component else behind) else part).pages ≡ 0
        → (if later then (if none then empty_component else behind) else part) ≡ empty_component
    by true true is no_pages = refl
    by true false is no_pages = absurd (false≢true (sym is ∙ ap (λ (n : ℕ). nat_eq n 0) no_pages))
    by false none is no_pages = paged no_pages

-- what is finished has a page, or is nothing
finished_paged : (pass : Option SnowState) → (front_of (finished_by_pass pass)).pages ≡ 0 → front_of (finished_by_pass pass) ≡ empty_component
finished_paged None none = refl
finished_paged (Some snow) none = by (nat_lt 1 snow.writer.component.pages) refl snow.closed none
  where
    done : Key → Finished
    done key = record { output = closed_of snow.writer; next = snow.writer.number; key = key; left = snow.left }

    by : (some : Bool) → nat_lt 1 snow.writer.component.pages ≡ some → (closed : Option Key)
        → (front_of (if some then option_map done closed else None)).pages ≡ 0 → front_of (if some then option_map done closed else None) ≡ empty_component
    by true more (Some key) zero = absurd (omega (arith, less_of 1 snow.writer.component.pages more, zero))
    by true more None zero = refl
    by false more closed zero = refl

pub front_paged : (runs : RunsState) (floor : Option Key) (low : Key) (front : Component) → IsFrontFrom runs floor low front → front.pages ≡ 0 → front ≡ empty_component
front_paged runs floor low front (inl none) zero = none.1
front_paged runs floor low front (inr some) zero = part_paged some.1 (finished_paged runs.pass) zero

pub front_few_pages : (runs : RunsState) (floor : Option Key) (low : Key) (front : Component) → IsFrontFrom runs floor low front
    → front.pages ≤ (front_of (finished_by_pass runs.pass)).pages
front_few_pages runs floor low front (inl none) = omega (arith, ap (λ (c : Component). c.pages) none.1)
front_few_pages runs floor low front (inr some) =
    part_few low (fences_of_tag runs runs.tags.pass).list (front_of (finished_by_pass runs.pass)) front some.1

pub older_paged : (runs : RunsState) (floor : Option Key) (low : Key) (c1 : Component) → IsOlderFrom runs floor low c1
    → (runs.catalogue.c1.pages ≡ 0 → runs.catalogue.c1 ≡ empty_component) → c1.pages ≡ 0 → c1 ≡ empty_component
older_paged runs floor low c1 from none zero =
    let part = from.0 in
    let is = from.2 in
    is ∙ later_paged part (part_behind floor runs.pass) (part_paged from.1 none) (sym (ap (λ (c : Component). c.pages) is) ∙ zero)

-- ---- how many pages a hold has

-- three components that weigh no more than the capacity have no more than a share of pages
pub share_of : (runs : RunsState) → AreRuns runs → runs.catalogue.c1.weight + runs.catalogue.c1x.weight + runs.catalogue.c2.weight ≤ capacity runs.sizes
    → runs.catalogue.c1.pages + runs.catalogue.c1x.pages + runs.catalogue.c2.pages ≤ page_share runs.sizes
share_of runs are live = omega (arith, live, are.c1.filled.full, are.c1x.filled.full, are.c2.filled.full)

-- nothing is finished; or so much is told with it
pub told_or_none : (some : Bool) (closed : Option Key) (run : Component) (next left : ℕ)
    → (front_of (if some then option_map (λ key. record { output = run; next = next; key = key; left = left }) closed else None) ≡ empty_component)
    ⊎ (IsSome closed × (front_of (if some then option_map (λ key. record { output = run; next = next; key = key; left = left }) closed else None) ≡ run))
told_or_none true (Some key) run next left = inr (refl, refl)
told_or_none true None run next left = inl refl
told_or_none false closed run next left = inl refl

front_few : (runs : RunsState) (a : Entries) (front part : Component) → (pass : Option SnowState) → AreRuns runs → HoldFits (record runs { pass = pass }) a
    → least_full * front.pages ≤ (front_of (finished_by_pass pass)).weight → part.pages ≤ runs.catalogue.c1.pages → (floor : Key)
    → front.pages + (later_part part (part_behind (Some floor) pass)).pages + runs.catalogue.c1x.pages + runs.catalogue.c2.pages ≤ hold_share runs.sizes
front_few runs a front part None are fits full few floor = omega (arith, full, few, share_of runs are fits.live)
front_few runs a front part (Some snow) are fits full few floor =
    ⊎_elim
    (λ none.
    let light : least_full * front.pages ≤ 0 = subst (λ (c : Component). least_full * front.pages ≤ c.weight) none full in
    omega (arith, light, few, later_few part (Some snow.rest.behind), share_of runs are fits.live))
    (λ told.
    let light : least_full * front.pages ≤ (closed_of snow.writer).weight = subst (λ (c : Component). least_full * front.pages ≤ c.weight) told.1 full in
    let behind = fits.covers.behind told.0 in
    let all = fits.covers.told refl refl told.0 in
    counts front.pages (later_part part (Some snow.rest.behind)).pages snow.rest.behind.pages runs.catalogue.c1x.pages runs.catalogue.c2.pages
    (closed_of snow.writer).weight snow.rest.behind.weight snow.left (entries_weight (above snow.at a)) runs.catalogue.c1x.weight runs.catalogue.c2.weight
    fits.total (capacity runs.sizes) light (later_behind part snow.rest.behind) behind.1 behind.0 all are.c1x.filled.full are.c2.filled.full fits.room)
    (told_or_none (nat_lt 1 snow.writer.component.pages) snow.closed (closed_of snow.writer) snow.writer.number snow.left)
  where
    counts : (front older behind c1x c2 made rest left table two three total all : ℕ) → least_full * front ≤ made → older ≤ behind
        → least_full * (behind - 1) ≤ rest → rest ≤ left + most_used → made + table + left ≤ total
        → least_full * (c1x - 1) ≤ two → least_full * (c2 - 1) ≤ three → total + two + three ≤ all
        → front + older + c1x + c2 ≤ all / least_full + 3 + 2
    counts front older behind c1x c2 made rest left table two three total all h1 h2 h3 h4 h5 h6 h7 h8 = omega (arith, h1, h2, h3, h4, h5, h6, h7, h8)

-- What is read of the finished pages and of C1, with C1' and C2, has no more pages than a seat may pin.
pub sources_few : (runs : RunsState) (a : Entries) (floor : Option Key) (low : Key) (front c1 : Component) → AreRuns runs → HoldFits runs a
    → IsFrontFrom runs floor low front → least_full * front.pages ≤ (front_of (finished_by_pass runs.pass)).weight → IsOlderFrom runs floor low c1
    → front.pages + c1.pages + runs.catalogue.c1x.pages + runs.catalogue.c2.pages ≤ hold_share runs.sizes
sources_few runs a None low front c1 are fits of_front full of_c1 =
    let none : front ≡ empty_component = ⊎_elim (λ first. first.1) (λ second. absurd (true≢false second.0)) of_front in
    omega (
      arith,
      ap (λ (c : Component). c.pages) none,
      ap (λ (c : Component). c.pages) of_c1.2,
      part_few low (fences_of_tag runs runs.tags.c1).list runs.catalogue.c1 of_c1.0 of_c1.1,
      share_of runs are fits.live,
    )
sources_few runs a (Some floor) low front c1 are fits of_front full of_c1 =
    omega (
      arith,
      ap (λ (c : Component). c.pages) of_c1.2,
      front_few runs a front of_c1.0 runs.pass are fits full (part_few low (fences_of_tag runs runs.tags.c1).list runs.catalogue.c1 of_c1.0 of_c1.1) floor,
    )

-- so the hold has
pub few_held : (runs : RunsState) (floor : Option Key) (low high : Key) (b a : Entries) (front c1 c1x c2 : Component) (hold : HoldState)
    → hold ≡ held_from low high b a front floor c1 c1x c2
    → IsPartFrom low (fences_of_tag runs runs.tags.c1x).list runs.catalogue.c1x c1x → IsPartFrom low (fences_of_tag runs runs.tags.c2).list runs.catalogue.c2 c2
    → front.pages + c1.pages + runs.catalogue.c1x.pages + runs.catalogue.c2.pages ≤ hold_share runs.sizes
    → pages_behind (Some hold) ≤ hold_share runs.sizes
few_held runs floor low high b a front c1 c1x c2 hold is of_c1x of_c2 few =
    omega (
      arith,
      ap (λ (h : HoldState). pages_behind (Some h)) is,
      part_few low (fences_of_tag runs runs.tags.c1x).list runs.catalogue.c1x c1x of_c1x,
      part_few low (fences_of_tag runs runs.tags.c2).list runs.catalogue.c2 c2 of_c2,
      few,
    )

-- ---- in a file that holds a tree

-- the part of a component reads as the rest of its list, from pages that are among the component's
pub record HasRest (sizes : Sizes) (low : Key) (part : Component) (pages : List RunPage) (file : List ℕ) : Type 0 where
  pub rest : Entries
  pub list : HasList sizes part rest file
  pub is_rest : IsRestFrom low (entries_of pages) rest
  pub among : (n : ℕ) → Contains (numbers_of list.pages) n → Contains (numbers_of pages) n

pub has_rest : (sizes : Sizes) (low : Key) (guide : GuideState) (run part : Component) (pages : List RunPage) (file : List ℕ) → IsPartFrom low guide.fences.list run part → IsGuidedBy guide pages
    → ReadsAs sizes run pages file → HasRest sizes low part pages file
has_rest sizes low guide run part pages file is guided reads = by_parts (part_reads sizes low guide.fences.list run part pages None file is (λ some. (guided some).fences_are) reads)
  where
    by_parts : ReadsFrom sizes low part pages None file → HasRest sizes low part pages file
    by_parts from = record {
      rest = entries_of from.ahead;
      list = record { pages = from.ahead; reads = from.reads; entries_are = refl };
      is_rest = record {
        before = entries_of from.before;
        parts = ap entries_of from.parts ∙ entries_join from.before from.ahead;
        below = from.below;
        sorted = (orders (entries_of pages)).0 reads.rise;
      };
      among = λ n has.
          subst (λ (ns : List ℕ). Contains ns n) (sym (ap (λ (ps : List RunPage). numbers_of ps) from.parts ∙ map-append (λ (p : RunPage). p.number) from.before from.ahead))
          (Contains-append_right (numbers_of from.before) (numbers_of from.ahead) n has);
    }
