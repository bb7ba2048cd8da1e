-- The next catalogue is one that a slot may have: each of its components is empty, or within the store's pages.
use Rattle.std.specs.Prelude.{◌≡◌, ◌⊎◌, ℕ, ◌+◌, ◌*◌, ◌<◌, ◌≤◌, ◌^◌, Bool, List, [], ◌∷◌, length, Option, None, IfSome, if◌then◌else◌}
use Rattle.std.proofs.lemmas.Grind.{common_steps}
use Rattle.std.proofs.lemmas.Bool.Decides.{nat_tests}
use Rattle.std.proofs.Common.{⊎_elim, sym, subst, ap, ◌∙◌, arith, length-append}
use Rattle.blsm_model.specs.declared.component.Component.{Component}
use Rattle.blsm_model.specs.Components.{no_page, empty_component}
use Rattle.blsm_model.specs.Sizes.{Sizes, IsGeometry}
use Rattle.blsm_model.specs.Geometry.{page_count}
use Rattle.blsm_model.specs.Lanes.{AreRoles, a_of, b_of, spare_of}
use Rattle.catalog_swap.specs.declared.catalog.Catalog.{Catalog}
use Rattle.catalog_swap.specs.declared.catalog.Progress.{Progress}
use Rattle.catalog_swap.specs.Text.{AreNumbers, FitsProgress, IsEmpty, IsInRange, IsComponent, IsProgressOf, IsCatalog}
use Rattle.catalog_swap.specs.Swap.{IsNext}
use Rattle.record_delta.specs.Entries.{Entries, entries_weight}
use Rattle.page_file.specs.Page.{most_used, IsPageOf}
use Rattle.page_file.specs.Component.{RunPage, AreChained, ReadsAs, ReadsOn, entries_of, first_number}
use Rattle.page_file.proofs.EntryLemmas.{few_entries}
use Rattle.page_file.proofs.ComponentLemmas.{weight_join, weight_is_length}
use Rattle.page_file.proofs.PageLemmas.{few_pages}
use Rattle.run_writer.specs.Writer.{WriterState, IsCounted}
use Rattle.tree_file.specs.Places.{KeepsRoles, TurnsRoles}
use Rattle.tree_runs.specs.Holding.{is_full, with_pass_run}

-- what a catalogue of these sizes may say of a component
pub record Suits (sizes : Sizes) (component : Component) : Type 0 where
  pub numbers : AreNumbers component
  pub is : IsComponent (page_count sizes) component

pub empty_suits : (sizes : Sizes) → Suits sizes empty_component
empty_suits sizes = grind (arith, common_steps, nat_tests)

-- those of a catalogue do
pub c1_suits : {sizes : Sizes} {catalog : Catalog} → IsCatalog sizes catalog → Suits sizes catalog.c1
c1_suits is = record { numbers = is.fits.c1; is = is.c1 }

pub c1x_suits : {sizes : Sizes} {catalog : Catalog} → IsCatalog sizes catalog → Suits sizes catalog.c1x
c1x_suits is = record { numbers = is.fits.c1x; is = is.c1x }

pub c2_suits : {sizes : Sizes} {catalog : Catalog} → IsCatalog sizes catalog → Suits sizes catalog.c2
c2_suits is = record { numbers = is.fits.c2; is = is.c2 }

-- ---- a run

-- its entries weigh at least as much as the lightest one, and no more than a page has room for
page_weighs : (sizes : Sizes) (next : Option ℕ) (entries : Entries) (bytes : List ℕ) → IsPageOf (page_count sizes) next entries bytes
    → (14 ≤ entries_weight entries) × (1 ≤ length entries) × (entries_weight entries ≤ most_used) × (length entries ≤ most_used)
page_weighs sizes next entries bytes h1 = grind (arith, common_steps, nat_tests, few_entries, weight_is_length)

-- nor is it of more than so many entries, on so many pages
pub record HoldsLittle (run : Component) : Type 0 where
  pub few : run.entries ≤ most_used * run.pages
  pub light : run.weight ≤ most_used * run.pages

chain_light : (sizes : Sizes) (pages : List RunPage) (end : Option ℕ) (file : List ℕ) → AreChained sizes pages end file
    → (length (entries_of pages) ≤ most_used * length pages) × (entries_weight (entries_of pages) ≤ most_used * length pages)
chain_light sizes [] end file chained = (omega arith, omega arith)
chain_light sizes (p ∷ ps) end file chained =
    let one = page_weighs sizes (first_number ps end) p.entries _ chained.1 in
    let more = chain_light sizes ps end file chained.2 in (
      omega (arith, one.3, more.0, length-append p.entries (entries_of ps)),
      omega (arith, one.2, more.1, weight_join p.entries (entries_of ps)),
    )

pub holds_little : (sizes : Sizes) (run : Component) (pages : List RunPage) (next : Option ℕ) (file : List ℕ) → ReadsOn sizes run pages next file → HoldsLittle run
holds_little sizes run pages next file reads =
    let all = chain_light sizes pages next file reads.chained in
    record {
      few = omega (arith, all.0, reads.entries_is, reads.pages_is);
      light = omega (arith, all.1, reads.weight_is, reads.pages_is);
    }

-- one that has pages, whatever comes behind them
pub some_in_range : (sizes : Sizes) (component : Component) (run : List RunPage) (next : Option ℕ) (file : List ℕ) → ReadsOn sizes component run next file
    → 1 ≤ component.pages → component.pages ≤ page_count sizes → IsInRange (page_count sizes) component
some_in_range sizes component run next file h1 h2 h3 = grind (arith, common_steps, nat_tests, page_weighs, length-append, weight_join)

pub run_in_range : (sizes : Sizes) (component : Component) (run : List RunPage) (file : List ℕ) → ReadsAs sizes component run file → component.pages ≤ page_count sizes → IsComponent (page_count sizes) component
run_in_range sizes component run file h1 h2 = grind (arith, common_steps, nat_tests, page_weighs, length-append, weight_join)

-- the numbers of a run fit their fields
pub run_suits : (sizes : Sizes) (writer : WriterState) (component : Component) (run : List RunPage) (file : List ℕ) → IsGeometry sizes → IsCounted writer → component ≡ writer.component → ReadsAs sizes component run file
    → component.pages ≤ page_count sizes → Suits sizes component
run_suits sizes writer component run file geometry counted is reads few = record {
  numbers = record {
    first = ⊎_elim (λ (none : IsEmpty component). omega (arith, none.first)) (λ (some : IsInRange (page_count sizes) component). omega (arith, some.first, small)) in_range;
    pages = omega (arith, few, small);
    entries = omega (arith, counted.entries, counted.weight, counted.fits, few, small, ap (λ (k : Component). k.pages) is, ap (λ (k : Component). k.entries) is);
    weight = omega (arith, counted.weight, counted.fits, few, small, ap (λ (k : Component). k.pages) is, ap (λ (k : Component). k.weight) is);
  };
  is = in_range;
}
  where
    in_range : IsComponent (page_count sizes) component
    in_range = run_in_range sizes component run file reads few

    small : page_count sizes ≤ no_page
    small = few_pages sizes geometry

-- ---- the next catalogue

pub roles_turned : (roles : List ℕ) → AreRoles roles → AreRoles (b_of roles ∷ spare_of roles ∷ a_of roles ∷ [])
roles_turned roles are = grind (arith, common_steps, nat_tests)

-- the components of a catalogue, and what it names of a deep merge
pub record HasParts (next : Catalog) (c1 c1x c2 : Component) (progress : Option Progress) : Type 0 where
  pub c1_is : next.c1 ≡ c1
  pub c1x_is : next.c1x ≡ c1x
  pub c2_is : next.c2 ≡ c2
  pub progress_is : next.progress ≡ progress

pub parts_of_pass : {next : Catalog} (sizes : Sizes) (made : Component) (progress : Option Progress) (now : Catalog) (b : Bool)
    → next ≡ with_pass_run sizes made progress now → is_full sizes made ≡ b
    → HasParts next (if b then empty_component else made) (if b then made else now.c1x) now.c2 progress
parts_of_pass sizes made progress now b h1 h2 = grind (arith, common_steps, nat_tests)

pub parts_of : {made : Catalog} {next : Catalog} → next ≡ made → HasParts next made.c1 made.c1x made.c2 made.progress
parts_of is = record {
  c1_is = ap (λ (k : Catalog). k.c1) is;
  c1x_is = ap (λ (k : Catalog). k.c1x) is;
  c2_is = ap (λ (k : Catalog). k.c2) is;
  progress_is = ap (λ (k : Catalog). k.progress) is;
}

-- what a catalogue of these sizes that has this C1' may name of a deep merge
pub record SuitsNamed (sizes : Sizes) (c1x : Component) (progress : Option Progress) : Type 0 where
  pub fits : IfSome progress FitsProgress
  pub is : IfSome progress (IsProgressOf (page_count sizes) c1x)

pub none_suits : (sizes : Sizes) (c1x : Component) → SuitsNamed sizes c1x None
none_suits sizes c1x = record { fits = tt; is = tt }

-- components that suit make a catalogue that may be next
pub may_be_next : {c1 c1x c2 : Component} {progress : Option Progress} (sizes : Sizes) (now next : Catalog) → HasParts next c1 c1x c2 progress → IsCatalog sizes now → next.version ≡ now.version + 1 → now.version + 1 < 2 ^ 64 → KeepsRoles now next ⊎ TurnsRoles now next
    → Suits sizes c1 → Suits sizes c1x → Suits sizes c2 → SuitsNamed sizes c1x progress → IsNext sizes now next
may_be_next {progress = progress} sizes now next parts is follows few lanes c1 c1x c2 named =
    let first = subst (λ (k : Component). Suits sizes k) (sym parts.c1_is) c1 in
    let second = subst (λ (k : Component). Suits sizes k) (sym parts.c1x_is) c1x in
    let third = subst (λ (k : Component). Suits sizes k) (sym parts.c2_is) c2 in
    let fourth = subst (λ (p : Option Progress). SuitsNamed sizes next.c1x p) (sym parts.progress_is) (subst (λ (k : Component). SuitsNamed sizes k progress) (sym parts.c1x_is) named) in
    record {
      fits = record {
        fits = record {
          version = omega (arith, follows, few);
          lanes = ⊎_elim (λ (keeps : KeepsRoles now next). ap (λ (l : List ℕ). length l) keeps ∙ is.fits.lanes) (λ (turns : TurnsRoles now next). ap (λ (l : List ℕ). length l) turns) lanes;
          c1 = first.numbers;
          c1x = second.numbers;
          c2 = third.numbers;
          progress = fourth.fits;
        };
        some_version = omega (arith, follows);
        lanes = ⊎_elim (λ (keeps : KeepsRoles now next). subst (λ (l : List ℕ). AreRoles l) (sym keeps) is.lanes) (λ (turns : TurnsRoles now next). subst (λ (l : List ℕ). AreRoles l) (sym turns) (roles_turned now.lanes is.lanes)) lanes;
        c1 = first.is;
        c1x = second.is;
        c2 = third.is;
        progress = fourth.is;
      };
      follows = follows;
    }
