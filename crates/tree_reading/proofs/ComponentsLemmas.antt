-- The walks over three components, one behind the other.
use Rattle.std.proofs.lemmas.Bool.Decides.{nat_tests}
use Rattle.std.proofs.lemmas.Grind.{common_steps}
use Rattle.std.proofs.Common.{◌≡◌, ◌⊎◌, ◌≢◌, ◌↔◌, ℕ, List, [], ◌++◌, refl, sym, subst, ◌∙◌, arith, inl, inr, Bool, true, false, Result, Err}
use mathlib.Core.Path.{subst₂}
use Rattle.std.specs.List.{Contains}
use Rattle.blsm_model.specs.declared.component.Component.{Component}
use Rattle.blsm_model.specs.Components.{empty_component}
use Rattle.blsm_model.specs.Sizes.{Sizes}
use Rattle.blsm_model.specs.Geometry.{page_count}
use Rattle.catalog_swap.specs.declared.catalog.Catalog.{Catalog}
use Rattle.catalog_swap.specs.Text.{IsComponent}
use Rattle.page_file.specs.declared.file.Broken.{Broken}
use Rattle.page_file.specs.declared.file.Broken.TheVariants.{Fault, Damaged}
use Rattle.page_file.specs.Component.{numbers_of}
use Rattle.page_space.specs.PageSet.{Members, IsIn}
use Rattle.page_space.specs.Space.{HasRole, SpaceState, pages_with, unused}
use Rattle.tree_reading.specs.Damage.{IsDamagedRun}
use Rattle.tree_reading.specs.Pages.{IsDamagedPage}
use Rattle.tree_runs.specs.Laws.{TakesFree}
use Rattle.tree_reading.specs.Walk.{IsWalked, TellsPages}
use Rattle.tree_reading.specs.Reading.{AreTagged, AreWalked, TellsComponents}
use Rattle.tree_reading.proofs.MapLemmas.{no_role_yet}

-- ---- the tags

pub kept : {role most : ℕ} {old new : SpaceState} → TakesFree role most old new → (tag page : ℕ) → tag ≢ role → HasRole new tag page → HasRole old tag page
kept taken tag page differs has = subst (λ (set : Members). IsIn set page) (taken.others tag differs) has

pub taken_from : (pages tag most : ℕ) (old new : SpaceState) → old ≡ unused pages → TakesFree tag most old new → TakesFree tag most (unused pages) new
taken_from pages tag most old new is taken = subst (λ (s : SpaceState). TakesFree tag most s new) is taken

pub taken_as : (tag is_tag most : ℕ) (old new : SpaceState) → tag ≡ is_tag → TakesFree tag most old new → TakesFree is_tag most old new
taken_as tag is_tag most old new is taken = subst (λ t. TakesFree t most old new) is taken

-- what was taken for one tag gives none to another
pub none_in_second : {role most : ℕ} (pages tag k : ℕ) (first second : SpaceState) → first ≡ unused pages → TakesFree role most first second → tag ≢ role → HasRole second tag k → ⊥
none_in_second pages tag k first second is one differs has = no_role_yet pages tag k first is (kept one tag k differs has)

pub none_in_third : {role most other more : ℕ} (pages tag k : ℕ) (first second third : SpaceState) → first ≡ unused pages → TakesFree role most first second → TakesFree other more second third → tag ≢ role
    → tag ≢ other → HasRole third tag k → ⊥
none_in_third pages tag k first second third is one two differs too has = none_in_second pages tag k first second is one differs (kept two tag k too has)

-- ---- the components

tag_is : (tag k : ℕ) (old new last : SpaceState) (numbers : List ℕ) → pages_with last tag ≡ pages_with new tag → (HasRole old tag k → ⊥) → HasRole new tag k ↔ (HasRole old tag k ⊎ Contains numbers k)
    → HasRole last tag k ↔ Contains numbers k
tag_is tag k old new last numbers h1 h2 h3 = grind (arith, common_steps, nat_tests)

pub tagged_of : (sizes : Sizes) (catalogue : Catalog) (first second third last : SpaceState) (file : List ℕ) → first ≡ unused (page_count sizes) → TakesFree 0 catalogue.c1.pages first second
    → TakesFree 1 catalogue.c1x.pages second third → TakesFree 2 catalogue.c2.pages third last → (c1 : IsWalked sizes catalogue.c1 false [] 0 first second file)
    → (c1x : IsWalked sizes catalogue.c1x false (numbers_of c1.pages) 1 second third file) → IsWalked sizes catalogue.c2 true (numbers_of c1.pages ++ numbers_of c1x.pages) 2 third last file
    → AreWalked sizes catalogue last file
tagged_of sizes catalogue first second third last file is one two three c1 c1x c2 = record { tagged = tagged; takes = c2.takes }
  where
    tagged : AreTagged sizes catalogue last file
    tagged = record {
      c1 = c1.pages;
      c1x = c1x.pages;
      c2 = c2.pages;
      components = record { c1_reads = c1.reads; c1x_reads = c1x.reads; c2_reads = c2.reads; apart = c2.takes.apart; bases = c2.allowed };
      c1_tag = λ k. tag_is 0 k first second last (numbers_of c1.pages) (three.others 0 (λ e. omega (arith, e)) ∙ two.others 0
          (λ e. omega (arith, e))) (no_role_yet (page_count sizes) 0 k first is) (c1.tags k);
      c1x_tag = λ k. tag_is 1 k second third last (numbers_of c1x.pages) (three.others 1 (λ e. omega (arith, e)))
          (none_in_second (page_count sizes) 1 k first second is one (λ e. omega (arith, e))) (c1x.tags k);
      c2_tag = λ k. tag_is 2 k third last last (numbers_of c2.pages) refl
          (none_in_third (page_count sizes) 2 k first second third is one two (λ e. omega (arith, e)) (λ e. omega (arith, e))) (c2.tags k);
    }

-- ---- answers

pub walked_in : {sizes : Sizes} {run : Component} {only : Bool} {earlier : List ℕ} {tag is_tag : ℕ} {old new : SpaceState} {bytes file : List ℕ} → tag ≡ is_tag → bytes ≡ file
    → IsWalked sizes run only earlier tag old new bytes → IsWalked sizes run only earlier is_tag old new file
walked_in {sizes} {run} {only} {earlier} {old = old} {new} is same walked = subst₂ (λ t (b : List ℕ). IsWalked sizes run only earlier t old new b) is same walked

pub damaged_in : (sizes : Sizes) (run : Component) (only : Bool) (earlier : List ℕ) (tag : ℕ) (old new : SpaceState) (bytes file : List ℕ) (broken : Broken) → bytes ≡ file
    → TellsPages sizes run only earlier tag old new bytes (Err broken) → (n : ℕ) → broken ≡ Damaged n → IsDamagedPage sizes run only earlier n file
damaged_in sizes run only earlier tag old new bytes file broken h1 h2 n h3 = grind (arith, common_steps, nat_tests)

pub tells_run : {sizes : Sizes} {catalogue : Catalog} (space : SpaceState) {file : List ℕ} {r : Result (Unit {0}) Broken} {broken : Broken} → r ≡ Err broken
    → ((n : ℕ) → broken ≡ Damaged n → IsDamagedRun sizes catalogue n file) → TellsComponents sizes catalogue space file r
tells_run {sizes} {catalogue} space {file} {broken = broken} is damage = subst (λ (x : Result (Unit {0}) Broken). TellsComponents sizes catalogue space file x) (sym is) (told broken damage)
  where
    told : (b : Broken) → ((n : ℕ) → b ≡ Damaged n → IsDamagedRun sizes catalogue n file) → TellsComponents sizes catalogue space file (Err b)
    told Fault run = tt
    told (Damaged n) run = run n refl

-- a catalogue's component without pages is empty
pub empty_without_pages : (pages : ℕ) (run : Component) → IsComponent pages run → run.pages ≡ 0 → run ≡ empty_component
empty_without_pages pages run (inl is) none = λ j. record { first = is.first j; pages = is.pages j; entries = is.entries j; weight = is.weight j }
empty_without_pages pages run (inr is) none = absurd (omega (arith, is.some_page, none))
