-- What each swap makes of the tree that stood, from the end of its run to the commit.
use Rattle.std.specs.Prelude.{◌≡◌, ℕ, ◌+◌, ◌<◌, ◌≤◌, ◌^◌, Bool, true, false, IsTrue, List, [], ◌++◌, Option, Some, None, Result, is_ok, refl}
use Rattle.std.proofs.lemmas.Grind.{common_steps}
use Rattle.std.proofs.lemmas.Bool.Decides.{nat_tests}
use Rattle.std.proofs.Common.{⊎_elim, inl, sym, subst, ap, ◌∙◌, arith}
use Rattle.std.proofs.lemmas.List.Elements.{Contains-append_cases}
use Rattle.disk_trait.specs.Disk.{DiskState}
use Rattle.std.specs.List.{Contains}
use Rattle.disk_trait.specs.Effects.{Affects}
use Rattle.disk_trait.proofs.EffectLemmas.{affects_wider}
use Rattle.disk_trait.specs.Moments.{IsTimed, LeavesOnly}
use Rattle.disk_trait.proofs.MomentLemmas.{leaves_only_start}
use Rattle.blsm_model.specs.declared.component.Component.{Component}
use Rattle.blsm_model.specs.Sizes.{Sizes}
use Rattle.blsm_model.specs.Geometry.{page_count}
use Rattle.blsm_model.specs.Lanes.{AreRoles}
use Rattle.bloom_bits.specs.Guides.{Guide}
use Rattle.catalog_swap.specs.declared.catalog.Catalog.{Catalog}
use Rattle.catalog_swap.specs.declared.catalog.Progress.{Progress}
use Rattle.catalog_swap.specs.Text.{HasKey}
use Rattle.record_delta.specs.Entries.{folded_over, replayed, settled_entries}
use Rattle.page_space.specs.Space.{SpaceState, HasRole, role_count, role_size}
use Rattle.page_file.specs.Component.{RunPage, ReadsAs, HasList, entries_of, numbers_of}
use Rattle.run_writer.specs.Writer.{role_region}
use Rattle.snow_merge.specs.Pass.{SnowState}
use Rattle.deep_merge.specs.Merge.{DeepState}
use Rattle.tree_file.specs.Tree.{Tree, HoldsTree}
use Rattle.tree_file.specs.Places.{StandsOn, Becomes, ReadsNext, with_components}
use Rattle.tree_runs.specs.Runs.{RunsState, AreRuns, AreRunning, PassRuns, DeepRuns, fences_of_tag, filter_of, guide_at, made_by_pass, made_by_deep}
use Rattle.tree_runs.specs.Holding.{AreFinished, AreTagged, AreOf, StandOver, IsDeepSwapped, IsPassSwapped, IsRotated, is_full, progress_of, with_deep_run, with_pass_run, with_rotation}
use Rattle.tree_runs.specs.Swaps.{MayFollow}
use Rattle.tree_runs.proofs.QuantumLemmas.{deep_is_run, pass_is_run}
use Rattle.tree_runs.proofs.SwapLemmas.{run_others, one_page, one_page_entries, swap_keeps, swap_pages}
use Rattle.tree_runs.proofs.FinishedLemmas.{nothing_finished}
use Rattle.tree_runs.proofs.KeptMerges.{deep_over_still}
use Rattle.tree_runs.proofs.NamedLemmas.{IsNaming, naming}
use Rattle.tree_runs.proofs.Terms.{swap_region}
use Rattle.tree_runs.proofs.CatalogLemmas.{Suits, empty_suits, run_suits}
use Rattle.tree_runs.proofs.NextTrees.{PassNames, named_pages, pass_tree, ready_for_deep, ready_for_pass, ready_for_rotation}

-- what the commit of the next catalogue ensures
pub record Switches {T E : Type 0} (sizes : Sizes) (now next : Catalog) (result : Result T E) (old new : DiskState) : Type 0 where
  pub becomes : (tree after : Tree) → IsTrue old.is_honest → tree.catalogue ≡ now → after.catalogue ≡ next
      → (HasKey next.progress → MayFollow sizes tree after) → StandsOn sizes tree old → ReadsNext sizes after old.bytes
      → Becomes sizes tree after (is_ok result) old new

-- what is known when a run is finished
pub record IsFinished (runs : RunsState) (tree : Tree) (tag : ℕ) (old mid : DiskState) : Type 0 where
  pub end : ℕ
  pub running : AreRunning old.is_honest old.bytes runs
  pub over : StandOver runs tree old
  pub few : runs.catalogue.version + 1 < 2 ^ 64
  pub effect : Affects (role_region runs.sizes runs.space tag) end 1 old mid
  pub honest : IsTrue old.is_honest
  pub timed : IsTimed mid
  pub stands : StandsOn runs.sizes tree mid × LeavesOnly old mid (HoldsTree runs.sizes tree)

-- ---- a run suits

few_pages_of_run : (runs : RunsState) (tag : ℕ) (component : Component) → AreRuns runs → tag < role_count → role_size runs.space tag ≡ component.pages → component.pages ≤ page_count runs.sizes
few_pages_of_run runs tag component are below is = grind (arith, common_steps, nat_tests)

deep_suits : {now : List ℕ} (honest : Bool) (file : List ℕ) (runs : RunsState) (made : Component) (run : List RunPage) → AreRuns runs → DeepRuns runs.sizes honest file runs.space (guide_at runs.guides runs.tags.deep) runs.deep → made ≡ made_by_deep runs.deep
    → ReadsAs runs.sizes made run now → Suits runs.sizes made
deep_suits {now} honest file runs made run are running is reads = by runs.deep running is
  where
    few : made.pages ≤ page_count runs.sizes
    few = few_pages_of_run runs runs.tags.deep made are are.tags.deep_below (are.deep.size ∙ sym (ap (λ (k : Component). k.pages) is))

    by : (deep : Option DeepState) → DeepRuns runs.sizes honest file runs.space (guide_at runs.guides runs.tags.deep) deep → made ≡ made_by_deep deep → Suits runs.sizes made
    by None going is = subst (λ (k : Component). Suits runs.sizes k) (sym is) (empty_suits runs.sizes)
    by (Some deep) going is = run_suits runs.sizes deep.writer made run now are.geometry going.run.pushed.counted is reads few

pass_suits : {now : List ℕ} (honest : Bool) (file : List ℕ) (runs : RunsState) (made : Component) (run : List RunPage) → AreRuns runs → PassRuns runs.sizes honest file runs.space (guide_at runs.guides runs.tags.pass) runs.pass → made ≡ made_by_pass runs.pass
    → ReadsAs runs.sizes made run now → Suits runs.sizes made
pass_suits {now} honest file runs made run are running is reads = by runs.pass running is
  where
    few : made.pages ≤ page_count runs.sizes
    few = few_pages_of_run runs runs.tags.pass made are are.tags.pass_below (are.pass.size ∙ sym (ap (λ (k : Component). k.pages) is))

    by : (pass : Option SnowState) → PassRuns runs.sizes honest file runs.space (guide_at runs.guides runs.tags.pass) pass → made ≡ made_by_pass pass → Suits runs.sizes made
    by None going is = subst (λ (k : Component). Suits runs.sizes k) (sym is) (empty_suits runs.sizes)
    by (Some pass) going is = run_suits runs.sizes pass.writer made run now are.geometry going.run.pushed.counted is reads few

-- ---- the swaps

-- the version of the tree's catalogue
few_of_tree : {file : List ℕ} (runs : RunsState) (tree : Tree) → AreOf runs tree file → runs.catalogue.version + 1 < 2 ^ 64
    → tree.catalogue.version + 1 < 2 ^ 64
few_of_tree runs tree of few = subst (λ (k : Catalog). k.version + 1 < 2 ^ 64) (sym of.catalogue) few

-- the next version, as the tree has it
pub version_of_next : {file : List ℕ} (runs : RunsState) (tree : Tree) (next : Catalog) → AreOf runs tree file
    → next.version ≡ runs.catalogue.version + 1 → next.version ≡ tree.catalogue.version + 1
version_of_next runs tree next of is = is ∙ ap (λ (k : Catalog). k.version + 1) (sym of.catalogue)

-- a catalogue that was never written
abbrev pub next_version : Catalog → Catalog
next_version now = record now { version = now.version + 1 }

-- the run and what its swap makes of the tree
pub record DeepCommitted (runs : RunsState) (tree : Tree) (made : Component) (next : Catalog) (done : Bool) (old mid new : DiskState) : Type 0 where
  pub list : HasList runs.sizes made (settled_entries (folded_over (entries_of tree.c1x) (entries_of tree.c2))) mid.bytes
  pub tagged : AreTagged runs.space runs.tags.deep list.pages
  pub guided : Guide (filter_of runs runs.tags.deep) (fences_of_tag runs runs.tags.deep) list.pages
  pub swapped : IsDeepSwapped tree (with_components next tree.c1 [] list.pages tree)
  pub first : LeavesOnly old mid (HoldsTree runs.sizes tree)
  pub becomes : Becomes runs.sizes tree (with_components next tree.c1 [] list.pages tree) done mid new

pub deep_becomes : {T E : Type 0} {result : Result T E} {old mid new : DiskState} (runs : RunsState) (tree : Tree) (made : Component) (next : Catalog)
    → IsFinished runs tree runs.tags.deep old mid → made ≡ made_by_deep runs.deep
    → (list : HasList runs.sizes made (settled_entries (folded_over (entries_of tree.c1x) (entries_of tree.c2))) mid.bytes)
    → AreTagged runs.space runs.tags.deep list.pages → Guide (filter_of runs runs.tags.deep) (fences_of_tag runs runs.tags.deep) list.pages → next ≡ with_deep_run made runs.catalogue
    → Switches runs.sizes runs.catalogue next result mid new → DeepCommitted runs tree made next (is_ok result) old mid new
deep_becomes {old = old} {mid = mid} runs tree made next is made_is list tagged guided next_is switches =
    let are = is.running.in_order in
    let of = is.over.are_of in
    let stands = is.stands in
    let suits = deep_suits {now = mid.bytes} old.is_honest old.bytes runs made list.pages are is.running.deep made_is list.reads in
    let ready = ready_for_deep runs.sizes tree mid.bytes stands.0.reads (few_of_tree runs tree of is.few) next made (folded_over (entries_of tree.c1x) (entries_of tree.c2)) list suits
    (subst (λ (k : Catalog). next ≡ with_deep_run made k) (sym of.catalogue) next_is) (λ n has. run_others runs runs.tags.deep are (deep_is_run runs are) of n (tagged n has)) in
    record {
      list = list;
      tagged = tagged;
      guided = guided;
      swapped = record { version = version_of_next runs tree next of (ap (λ (k : Catalog). k.version) next_is); c1 = refl; c1x = refl; c2 = list.entries_are; lane_a = refl; lane_b = refl };
      first = stands.1;
      becomes = switches.becomes tree (with_components next tree.c1 [] list.pages tree) (subst IsTrue (sym is.effect.goes_on.is_honest) is.honest) of.catalogue refl ready.may stands.0 ready.reads;
    }

-- where the run's end wasn't written
pub deep_unswapped : (tree : Tree) → IsDeepSwapped tree (with_components (next_version tree.catalogue) tree.c1 [] (one_page (settled_entries (folded_over (entries_of tree.c1x) (entries_of tree.c2)))) tree)
deep_unswapped tree = record { version = refl; c1 = refl; c1x = refl; c2 = one_page_entries (settled_entries (folded_over (entries_of tree.c1x) (entries_of tree.c2))); lane_a = refl; lane_b = refl }

-- the run and what its swap makes of the tree
pub record PassCommitted (runs : RunsState) (tree : Tree) (b : Bool) (made : Component) (next : Catalog) (done : Bool)
    (old mid new : DiskState) : Type 0 where
  pub list : HasList runs.sizes made (folded_over (replayed tree.lane_a.entries) (entries_of tree.c1)) mid.bytes
  pub tagged : AreTagged runs.space runs.tags.pass list.pages
  pub guided : Guide (filter_of runs runs.tags.pass) (fences_of_tag runs runs.tags.pass) list.pages
  pub output : List RunPage
  pub finished : AreFinished runs.space runs.deep output
  pub swapped : IsPassSwapped (is_full runs.sizes (made_by_pass runs.pass)) tree (pass_tree b next list.pages output tree)
  pub first : LeavesOnly old mid (HoldsTree runs.sizes tree)
  pub becomes : Becomes runs.sizes tree (pass_tree b next list.pages output tree) done mid new

pub pass_swapped : (b : Bool) (tree : Tree) (next : Catalog) (run output : List RunPage)
    → entries_of run ≡ folded_over (replayed tree.lane_a.entries) (entries_of tree.c1) → next.version ≡ tree.catalogue.version + 1
    → IsPassSwapped b tree (pass_tree b next run output tree)
pass_swapped b tree next run output h1 h2 = grind (arith, common_steps, nat_tests)

-- what is named: once the run is finished the deep merge stands over its lists still
pub named_for_pass : {old mid : DiskState} (runs : RunsState) (tree : Tree) (b : Bool) → (b ≡ true → runs.deep ≡ None)
    → IsFinished runs tree runs.tags.pass old mid
    → AreRoles runs.catalogue.lanes → PassNames b runs.sizes tree mid.bytes runs.space runs.tags.deep runs.deep (progress_of runs.catalogue runs.deep)
named_for_pass runs tree true rests is roles = ap (λ (d : Option DeepState). progress_of runs.catalogue d) (rests refl)
named_for_pass {old = old} {mid} runs tree false rests is roles =
    let are = is.running.in_order in
    let of = is.over.are_of in
    let effect : Affects (swap_region runs.sizes runs.space runs.tags.pass runs.catalogue) is.end 1 old mid = affects_wider (λ i here. inl here) (omega arith) (omega arith) is.effect in
    let over = deep_over_still (guide_at runs.guides runs.tags.deep) runs.deep tree.c1x tree.c2
    (swap_keeps true runs runs.tags.pass runs.tags.deep (λ told. is.honest) are roles are.tags.pass_deep effect)
    (swap_pages runs runs.tags.pass runs.tags.c1x are roles (λ same. are.tags.c1x_pass (sym same)))
    (swap_pages runs runs.tags.pass runs.tags.c2 are roles (λ same. are.tags.c2_pass (sym same))) are.deep_tag of.c1x of.c2 of.deep in
    subst (λ (k : Catalog). IsNaming runs.sizes tree mid.bytes runs.space runs.tags.deep runs.deep (progress_of k runs.deep)) of.catalogue
    (naming runs.sizes tree mid.bytes runs.space runs.tags.deep (guide_at runs.guides runs.tags.deep) runs.deep are.geometry are.shape are.pages are.tags.deep_below
    (few_pages_of_run runs runs.tags.deep (made_by_deep runs.deep) are are.tags.deep_below are.deep.size) are.deep_tag is.stands.0.reads over)

named_finished : (b : Bool) (sizes : Sizes) (tree : Tree) (file : List ℕ) (space : SpaceState) (tag : ℕ) (deep : Option DeepState) (progress : Option Progress)
    → (named : PassNames b sizes tree file space tag deep progress) → AreFinished space deep (named_pages b sizes tree file space tag deep progress named)
named_finished true sizes tree file space tag deep progress none = nothing_finished space deep
named_finished false sizes tree file space tag deep progress is = is.finished

-- neither the run nor C1' nor C2 has the deep run's tag
not_of_deep : {tree : Tree} {file : List ℕ} (runs : RunsState) (run : List RunPage) → AreRuns runs → AreOf runs tree file
    → AreTagged runs.space runs.tags.pass run
    → (n : ℕ) → Contains (numbers_of run ++ numbers_of tree.c1x ++ numbers_of tree.c2) n → HasRole runs.space runs.tags.deep n → ⊥
not_of_deep {tree} runs run are of tagged n has also =
    ⊎_elim
    (λ front.
    ⊎_elim (λ here. are.tags.pass_deep (are.one_tag n runs.tags.pass runs.tags.deep (tagged n here) also))
    (λ here. are.tags.c1x_deep (are.one_tag n runs.tags.c1x runs.tags.deep (of.c1x n here) also)) (Contains-append_cases (numbers_of run) (numbers_of tree.c1x) n front))
    (λ here. are.tags.c2_deep (are.one_tag n runs.tags.c2 runs.tags.deep (of.c2 n here) also))
    (Contains-append_cases (numbers_of run ++ numbers_of tree.c1x) (numbers_of tree.c2) n has)

pub pass_becomes : {T E : Type 0} {result : Result T E} {old mid new : DiskState} (runs : RunsState) (tree : Tree) (made : Component)
    (next : Catalog) (b : Bool) → is_full runs.sizes (made_by_pass runs.pass) ≡ b
    → (b ≡ true → runs.deep ≡ None) → AreRoles runs.catalogue.lanes
    → IsFinished runs tree runs.tags.pass old mid → made ≡ made_by_pass runs.pass
    → (list : HasList runs.sizes made (folded_over (replayed tree.lane_a.entries) (entries_of tree.c1)) mid.bytes)
    → AreTagged runs.space runs.tags.pass list.pages → Guide (filter_of runs runs.tags.pass) (fences_of_tag runs runs.tags.pass) list.pages
    → next ≡ with_pass_run runs.sizes made (progress_of runs.catalogue runs.deep) runs.catalogue
    → Switches runs.sizes runs.catalogue next result mid new → PassCommitted runs tree b made next (is_ok result) old mid new
pass_becomes {old = old} {mid = mid} runs tree made next b full rests roles is made_is list tagged guided next_is switches =
    let are = is.running.in_order in
    let of = is.over.are_of in
    let stands = is.stands in
    let suits = pass_suits {now = mid.bytes} old.is_honest old.bytes runs made list.pages are is.running.pass made_is list.reads in
    let progress = progress_of runs.catalogue runs.deep in
    let named = named_for_pass runs tree b rests is roles in
    let output = named_pages b runs.sizes tree mid.bytes runs.space runs.tags.deep runs.deep progress named in
    let ready = ready_for_pass runs.sizes tree mid.bytes stands.0.reads (few_of_tree runs tree of is.few) b next made
    (folded_over (replayed tree.lane_a.entries) (entries_of tree.c1)) progress list suits
    (subst (λ (k : Catalog). next ≡ with_pass_run runs.sizes made progress k) (sym of.catalogue) next_is) (ap (λ (k : Component). is_full runs.sizes k) made_is ∙ full) (λ n has. run_others runs runs.tags.pass are (pass_is_run runs are) of n (tagged n has))
    runs.space runs.tags.deep runs.deep (not_of_deep runs list.pages are of tagged) named in
    record {
      list = list;
      tagged = tagged;
      guided = guided;
      output = output;
      finished = named_finished b runs.sizes tree mid.bytes runs.space runs.tags.deep runs.deep progress named;
      swapped = subst (λ (f : Bool). IsPassSwapped f tree (pass_tree b next list.pages output tree)) (sym full)
          (pass_swapped b tree next list.pages output list.entries_are (version_of_next runs tree next of (ap (λ (k : Catalog). k.version) next_is)));
      first = stands.1;
      becomes = switches.becomes tree (pass_tree b next list.pages output tree) (subst IsTrue (sym is.effect.goes_on.is_honest) is.honest) of.catalogue (catalogue_of b output)
          (λ key. ready.may (subst (λ (k : Catalog). HasKey k.progress) (sym (catalogue_of b output)) key)) stands.0 ready.reads;
    }
  where
    catalogue_of : (b : Bool) (output : List RunPage) → (pass_tree b next list.pages output tree).catalogue ≡ next
    catalogue_of true output = refl
    catalogue_of false output = refl

pub rotation_becomes : {T E : Type 0} {result : Result T E} {old new : DiskState} (runs : RunsState) (tree : Tree) (next : Catalog)
    → StandOver runs tree old → IsTrue old.is_honest → IsTimed old
    → runs.catalogue.version + 1 < 2 ^ 64 → next ≡ with_rotation runs.catalogue → Switches runs.sizes runs.catalogue next result old new
    → IsRotated tree (with_components next [] tree.c1 tree.c2 tree) × LeavesOnly old old (HoldsTree runs.sizes tree) × Becomes runs.sizes tree (with_components next [] tree.c1 tree.c2 tree) (is_ok result) old new
rotation_becomes {old = old} runs tree next over honest timed few next_is switches =
    let of = over.are_of in
    let ready = ready_for_rotation runs.sizes tree old.bytes over.stands.reads (few_of_tree runs tree of few) next (subst (λ (k : Catalog). next ≡ with_rotation k) (sym of.catalogue) next_is) in (
      record { version = version_of_next runs tree next of (ap (λ (k : Catalog). k.version) next_is); c1 = refl; c1x = refl; c2 = refl; lane_a = refl; lane_b = refl },
      leaves_only_start old (λ f. HoldsTree runs.sizes tree f) timed over.stands.each,
      switches.becomes tree (with_components next [] tree.c1 tree.c2 tree) honest of.catalogue refl ready.may over.stands ready.reads,
    )
