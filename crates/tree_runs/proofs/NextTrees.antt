-- The next tree of each swap: its components read in the file already, and its catalogue may follow.
use Rattle.std.specs.Prelude.{◌≡◌, ℕ, ◌+◌, ◌<◌, ◌^◌, Bool, true, false, List, [], ◌++◌, Option, None, refl}
use Rattle.std.specs.List.{Contains}
use Rattle.std.proofs.Common.{inl, inr, sym, subst, ap, ◌∙◌}
use Rattle.blsm_model.specs.declared.component.Component.{Component}
use Rattle.blsm_model.specs.Components.{empty_component}
use Rattle.blsm_model.specs.Sizes.{Sizes}
use Rattle.gated_log.specs.Lane.{no_lane}
use Rattle.catalog_swap.specs.declared.catalog.Catalog.{Catalog}
use Rattle.catalog_swap.specs.declared.catalog.Progress.{Progress}
use Rattle.catalog_swap.specs.Text.{HasKey, IsCatalog}
use Rattle.record_delta.specs.Entries.{Entries, settled_entries}
use Rattle.page_space.specs.Space.{SpaceState, HasRole}
use Rattle.page_file.specs.Component.{HasList, RunPage, numbers_of}
use Rattle.deep_merge.specs.Merge.{DeepState}
use Rattle.tree_machine.specs.Layers.{AreBases}
use Rattle.tree_file.specs.Tree.{Tree, HasProgress, HoldsTree, live_pages}
use Rattle.tree_file.specs.Places.{ReadsNext, with_components, with_pass}
use Rattle.tree_file.proofs.NextLemmas.{IsRunBeside, live_of_pass, next_of_deep, next_of_pass, next_of_rotated_pass, next_of_rotation}
use Rattle.tree_runs.specs.Holding.{with_deep_run, with_rotation, with_pass_run, is_full}
use Rattle.tree_runs.specs.Swaps.{MayFollow}
use Rattle.tree_runs.proofs.SwapLemmas.{settled_bases}
use Rattle.tree_runs.proofs.CatalogLemmas.{Suits, SuitsNamed, empty_suits, none_suits, c1_suits, c1x_suits, c2_suits, may_be_next, parts_of, parts_of_pass}
use Rattle.tree_runs.proofs.NamedLemmas.{IsNaming}

-- the next tree reads, and may follow
pub record IsReadyFor (sizes : Sizes) (tree next : Tree) (file : List ℕ) : Type 0 where
  pub reads : ReadsNext sizes next file
  pub may : HasKey next.catalogue.progress → MayFollow sizes tree next

-- the tree that a pass leaves
abbrev pub pass_tree : Bool → Catalog → (run output : List RunPage) → Tree → Tree
pass_tree true next run output tree = with_pass next [] run tree.c2 [] tree
pass_tree false next run output tree = with_pass next run tree.c1x tree.c2 output tree

-- what is named of the deep merge that runs where a pass's run becomes C1; where C1 rotates none runs, and nothing is named
abbrev pub PassNames : Bool → Sizes → Tree → List ℕ → SpaceState → ℕ → Option DeepState → Option Progress → Type 0
PassNames true sizes tree file space tag deep progress = progress ≡ None
PassNames false sizes tree file space tag deep progress = IsNaming sizes tree file space tag deep progress

-- the pages
abbrev pub named_pages : (b : Bool) (sizes : Sizes) (tree : Tree) (file : List ℕ) (space : SpaceState) (tag : ℕ) (deep : Option DeepState) (progress : Option Progress)
    → PassNames b sizes tree file space tag deep progress → List RunPage
named_pages true sizes tree file space tag deep progress none = []
named_pages false sizes tree file space tag deep progress is = is.output

module _ (sizes : Sizes) (tree : Tree) (file : List ℕ) (holds : HoldsTree sizes tree file) (few : tree.catalogue.version + 1 < 2 ^ 64) where
  is_now : IsCatalog sizes tree.catalogue
  is_now = holds.newest.stands.fits

  pub ready_for_deep : (next : Catalog) (made : Component) (out : Entries) (list : HasList sizes made (settled_entries out) file) → Suits sizes made → next ≡ with_deep_run made tree.catalogue
      → ((n : ℕ) → Contains (numbers_of list.pages) n → Contains (live_pages tree) n → ⊥) → IsReadyFor sizes tree (with_components next tree.c1 [] list.pages tree) file
  ready_for_deep next made out list suits is others =
      let parts = parts_of is in
      let lanes : next.lanes ≡ tree.catalogue.lanes = ap (λ (k : Catalog). k.lanes) is in
      record {
        reads = next_of_deep sizes tree file holds next tree.lane_a tree.lane_b made list.pages (record { reads = list.reads; others = others })
            (subst (λ (es : Entries). AreBases es) (sym list.entries_are) (settled_bases out)) parts.c1_is parts.c1x_is parts.c2_is parts.progress_is;
        may = λ key. record {
          follows = may_be_next sizes tree.catalogue next parts is_now (ap (λ (k : Catalog). k.version) is) few (inl lanes) (c1_suits is_now) (empty_suits sizes) suits (none_suits sizes empty_component);
          lanes = inl (record { roles = lanes; lane_a = refl; lane_b = refl });
        };
      }

  pub ready_for_rotation : (next : Catalog) → next ≡ with_rotation tree.catalogue → IsReadyFor sizes tree (with_components next [] tree.c1 tree.c2 tree) file
  ready_for_rotation next is =
      let parts = parts_of is in
      let lanes : next.lanes ≡ tree.catalogue.lanes = ap (λ (k : Catalog). k.lanes) is in
      record {
        reads = next_of_rotation sizes tree file holds next tree.lane_a tree.lane_b parts.c1_is parts.c1x_is parts.c2_is parts.progress_is;
        may = λ key. record {
          follows = may_be_next sizes tree.catalogue next parts is_now (ap (λ (k : Catalog). k.version) is) few (inl lanes) (empty_suits sizes) (c1_suits is_now) (c2_suits is_now) (none_suits sizes tree.catalogue.c1);
          lanes = inl (record { roles = lanes; lane_a = refl; lane_b = refl });
        };
      }

  -- none of them has the deep run's tag
  pub ready_for_pass : (b : Bool) (next : Catalog) (made : Component) (out : Entries) (progress : Option Progress) (list : HasList sizes made out file) → Suits sizes made
      → next ≡ with_pass_run sizes made progress tree.catalogue → is_full sizes made ≡ b
      → ((n : ℕ) → Contains (numbers_of list.pages) n → Contains (live_pages tree) n → ⊥) → (space : SpaceState) (tag : ℕ) (deep : Option DeepState)
      → ((n : ℕ) → Contains (numbers_of list.pages ++ numbers_of tree.c1x ++ numbers_of tree.c2) n → HasRole space tag n → ⊥)
      → (named : PassNames b sizes tree file space tag deep progress)
      → IsReadyFor sizes tree (pass_tree b next list.pages (named_pages b sizes tree file space tag deep progress named) tree) file
  ready_for_pass true next made out progress list suits is heavy others space tag deep apart none =
      let parts = parts_of_pass sizes made progress tree.catalogue true is heavy in
      let lanes = ap (λ (k : Catalog). k.lanes) is in
      record {
        reads = next_of_rotated_pass sizes tree file holds next tree.lane_b no_lane made list.pages
            (record { reads = list.reads; others = others }) parts.c1_is parts.c1x_is parts.c2_is
            (parts.progress_is ∙ none);
        may = λ key. record {
          follows = may_be_next sizes tree.catalogue next parts is_now (ap (λ (k : Catalog). k.version) is) few (inr lanes) (empty_suits sizes) suits (c2_suits is_now)
              (subst (λ (p : Option Progress). SuitsNamed sizes made p) (sym none) (none_suits sizes made));
          lanes = inr (record { roles = lanes; lane_a = refl; lane_b = refl });
        };
      }
  ready_for_pass false next made out progress list suits is light others space tag deep apart named =
      let parts = parts_of_pass sizes made progress tree.catalogue false is light in
      let lanes = ap (λ (k : Catalog). k.lanes) is in
      let beside : IsRunBeside sizes tree made list.pages file = record { reads = list.reads; others = others } in
      let live = live_of_pass sizes tree file holds made list.pages beside in
      record {
        reads = next_of_pass sizes tree file holds next tree.lane_b no_lane made list.pages named.output beside parts.c1_is parts.c1x_is parts.c2_is
            (subst (λ (p : Option Progress). HasProgress sizes p (with_pass next list.pages tree.c1x tree.c2 named.output tree) file) (sym parts.progress_is)
            (named.named next list.pages tree.lane_b no_lane live apart));
        may = λ key. record {
          follows = may_be_next sizes tree.catalogue next parts is_now (ap (λ (k : Catalog). k.version) is) few (inr lanes) suits (c1x_suits is_now) (c2_suits is_now)
              (named.suits (subst HasKey parts.progress_is key));
          lanes = inr (record { roles = lanes; lane_a = refl; lane_b = refl });
        };
      }
