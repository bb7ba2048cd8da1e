use Rattle.std.proofs.lemmas.Bool.Decides.{nat_tests}
use Rattle.std.proofs.lemmas.Grind.{common_steps}
use Rattle.std.proofs.Common.{rules, ◌≡◌, ◌∙◌, ℕ, ◌+◌, Bool, true, Option, Some, None, [], ◌∷◌, refl, sym, subst, ap, arith}
use Rattle.std.specs.Prelude.{List, if◌then◌else◌}
use Rattle.std.specs.List.{Contains}
use Rattle.std.proofs.lemmas.Bool.{eqb-true}
use Rattle.std.proofs.lemmas.List.Elements.{Contains-append_left}
use Rattle.blsm_model.specs.Components.{empty_component}
use Rattle.blsm_model.specs.declared.component.Component.{Component}
use Rattle.blsm_model.specs.Sizes.{Sizes}
use Rattle.catalog_swap.specs.declared.catalog.Catalog.{Catalog}
use Rattle.catalog_swap.specs.declared.catalog.Progress.{Progress}
use Rattle.record_delta.specs.Entries.{Entries}
use Rattle.page_space.specs.Space.{SpaceState, role_size}
use Rattle.page_file.specs.Page.{page_number}
use Rattle.page_file.specs.Component.{RunPage, AreChained, ReadsAs, entries_of, first_number, numbers_of}
use Rattle.page_file.proofs.PageLemmas.{few_pages}
use Rattle.run_writer.specs.Writer.{resumed}
use Rattle.merge_ends.specs.Closed.{AreClosed}
use Rattle.deep_merge.specs.Merge.{DeepState, started}
use Rattle.tree_file.specs.Tree.{Tree, HasProgress, HoldsTree}
use Rattle.tree_file.proofs.NextLemmas.{distinct_others}
use Rattle.tree_file.proofs.OneTree.{same_run}
use Rattle.tree_runs.specs.declared.resumable.Resumable.{Resumable}
use Rattle.tree_runs.specs.Ahead.{IsAhead, IsAheadOn, IsAheadOver, MayResume, ResumesOver}
use Rattle.tree_runs.specs.Runs.{GuideState, RunsState, AreGuides, AreRead, AreRuns, AreRunning, AreTags, DeepHasTag, DeepRuns, IsHeld, RestsEmpty, due_deep, due_from, due_guides, first_tags, guide_at, guides_from, made_by_deep, opened, opened_from, pages_named}
use Rattle.tree_runs.specs.Holding.{AreFinished, AreGuided, AreOf, IsDeepOver, KeepsOtherGuides}
use Rattle.tree_runs.proofs.FinishedLemmas.{nothing_finished}
use Rattle.tree_runs.proofs.GuideLemmas.{all_guided_still}
use Rattle.tree_runs.proofs.InstallLemmas.{nothing_held}
use Rattle.tree_runs.proofs.KeptMerges.{elsewhere}
use Rattle.tree_runs.proofs.PinLemmas.{none_pinned}
use Rattle.tree_runs.proofs.runs.Runs.open.Goals as goal

are_tags : AreTags first_tags
are_tags = grind (arith, common_steps, nat_tests)

-- ---- the merge that begins, whether it does or not

abbrev begun : Bool → ℕ → Catalog → Option DeepState
begun rests tag catalogue = if rests then None else Some (started tag catalogue.c1x catalogue.c2)

made_none : (rests : Bool) (tag : ℕ) (catalogue : Catalog) → made_by_deep (begun rests tag catalogue) ≡ empty_component
made_none rests tag catalogue = grind (arith, common_steps, nat_tests)

begun_tag : (rests : Bool) (tag : ℕ) (catalogue : Catalog) → DeepHasTag tag (begun rests tag catalogue)
begun_tag rests tag catalogue = grind (arith, common_steps, nat_tests)

begun_empty : (rests : Bool) (tag : ℕ) (catalogue : Catalog) → (rests ≡ true → catalogue.c1x ≡ empty_component) → RestsEmpty (begun rests tag catalogue) catalogue.c1x
begun_empty rests tag catalogue empty = grind (arith, common_steps, nat_tests)

-- ---- what the components keep from their opening on

runs_opened : (sizes : Sizes) (catalogue : Catalog) (space : SpaceState) (guides : List GuideState) → AreRead sizes catalogue space → role_size space 4 ≡ 0
    → AreGuides sizes first_tags (due_guides sizes catalogue guides) → AreRuns (opened sizes catalogue space guides)
runs_opened sizes catalogue space guides read none reserved = grind (arith, common_steps, nat_tests, are_tags, nothing_held, made_none, begun_tag, begun_empty, none_pinned, eqb-true)

-- the run that is taken up has the pages that are named
held_ahead : (space : SpaceState) (named : Progress) (both : ℕ) (ahead : Resumable) → role_size space 4 ≡ named.output.pages + 1 → MayResume 4 named both ahead
    → IsHeld space 4 (resumed 4 ahead.done.output ahead.done.next).component
held_ahead space named both ahead size may =
    let pages = ap (λ (k : Component). k.pages) may.output_is in
    record {
      filled = record { none = λ is. absurd (omega (arith, is)); full = omega (arith, may.counted.floor) };
      size = omega (arith, size, pages);
    }

runs_from : (sizes : Sizes) (catalogue : Catalog) (space : SpaceState) (guides : List GuideState) (both : ℕ) (ahead : Option Resumable) → AreRead sizes catalogue space
    → IsAhead 4 catalogue.progress both ahead → AreGuides sizes first_tags (guides_from sizes catalogue ahead guides) → AreRuns (opened_from sizes catalogue space guides ahead)
runs_from sizes catalogue space guides both None read none reserved = runs_opened sizes catalogue space guides read (read.deep ∙ ap pages_named none) reserved
runs_from sizes catalogue space guides both (Some ahead) read is reserved =
    let size = read.deep ∙ ap pages_named is.1 in
    let pages = ap (λ (k : Component). k.pages) is.2.output_is in
    record {
      geometry = read.geometry;
      pages = read.pages;
      shape = read.shape;
      tags = are_tags;
      one_tag = read.one_tag;
      c1 = read.c1;
      c1x = read.c1x;
      c2 = read.c2;
      pass = nothing_held space 3 read.pass;
      deep = held_ahead space is.0 both ahead size is.2;
      pass_tag = tt;
      deep_tag = refl;
      rests = tt;
      open_unpinned = tt;
      deep_unpinned = none_pinned space 4 read.shape read.no_pins;
      within = record {
        roles = omega (arith, read.c1.size, read.c1x.size, read.c2.size, read.pass, size, pages);
        seats = λ seat below. omega (arith, read.no_pins seat below);
      };
      guides = reserved;
    }

-- ---- the finished pages that are named are those that stand

finished_pages : (sizes : Sizes) (tree : Tree) (space : SpaceState) (guide : GuideState) (both : ℕ) (ahead : Resumable) (newer_pages older_pages : List ℕ) (newer older : Entries) (file : List ℕ)
    → HoldsTree sizes tree file → (is : IsAhead 4 tree.catalogue.progress both (Some ahead)) → ResumesOver sizes file space 4 guide newer_pages older_pages newer older ahead
    → AreClosed space (resumed 4 ahead.done.output ahead.done.next) tree.output
finished_pages sizes tree space guide both ahead newer_pages older_pages newer older file holds is over n among =
    let named = subst (λ (p : Option Progress). HasProgress sizes p tree file) is.1 holds.progress in
    let reads = named.output.reads in
    let stand = over.finished.stand in
    let next : ahead.done.next ≡ is.0.next = is.2.next_is in
    let same : over.pages ≡ tree.output =
    same_run sizes over.pages tree.output (Some ahead.done.next) file (few_pages sizes holds.store.geometry)
    (stand.pages_is ∙ ap (λ (k : Component). k.pages) is.2.output_is ∙ sym reads.pages_is)
    (stand.first_is ∙ ap (λ (k : Component). k.first) is.2.output_is
    ∙ sym (subst (λ (m : ℕ). page_number (first_number tree.output (Some m)) ≡ is.0.output.first) (sym next) reads.first_is))
    (stand.chained refl) (subst (λ (m : ℕ). AreChained sizes tree.output (Some m) file) (sym next) reads.chained) in
    let here = subst (λ (ps : List RunPage). Contains (numbers_of ps) n) (sym same) among in (
      stand.tagged n (Contains-append_left (numbers_of over.pages) (ahead.done.next ∷ []) n here),
      λ some at_next. distinct_others (numbers_of over.pages) (ahead.done.next ∷ []) stand.apart n here (0, omega arith, sym at_next),
    )

finished_from : (sizes : Sizes) (tree : Tree) (space : SpaceState) (guide : GuideState) (both : ℕ) (ahead : Option Resumable) (file : List ℕ) → HoldsTree sizes tree file
    → IsAhead 4 tree.catalogue.progress both ahead → IsAheadOver sizes file space 4 guide tree.c1x tree.c2 ahead → AreFinished space (due_from 4 tree.catalogue ahead) tree.output
finished_from sizes tree space guide both None file holds none over =
    subst (λ (ps : List RunPage). AreFinished space (due_deep 4 tree.catalogue) ps) (sym (subst (λ (p : Option Progress). HasProgress sizes p tree file) none holds.progress))
    (nothing_finished space (due_deep 4 tree.catalogue))
finished_from sizes tree space guide both (Some ahead) file holds is over =
    finished_pages sizes tree space guide both ahead (numbers_of tree.c1x) (numbers_of tree.c2) (entries_of tree.c1x) (entries_of tree.c2) file holds is over

pub returns-clause-opened : goal.returns-clause-opened
returns-clause-opened c = search rules

-- the guides of the room, under the tag of a deep merge
room_is : (t : ℕ) (one other : List GuideState) → one ≡ other → t ≡ 4 → guide_at one t ≡ guide_at other 4
room_is t one other same tag = λ i. guide_at (same i) (tag i)

pub returns-clause-running : goal.returns-clause-running
returns-clause-running c = λ honest file on.
    let sizes = c.args.geometry.now in
    let space = c.args.space in
    let ahead = c.args.ahead in
    let tag = c.new-deep.ensures in
    let after = c.go_on.new.guides.items in
    let begins = c.go_on.ensures.begun ∙ ap (λ (tag : ℕ). due_from tag c.args.catalogue ahead) tag in
    let same = ap (λ (r : RunsState). r.guides) (returns-clause-opened c) in
    let on_tag = subst (λ (g : GuideState). IsAheadOn sizes honest file space c.new-deep.result g ahead) (sym (room_is c.new-deep.result _ c.args.guides c.guides.view_is tag))
    (subst (λ (t : ℕ). IsAheadOn sizes honest file space t (guide_at c.args.guides 4) ahead) (sym tag) on) in
    let goes = subst (λ (t : ℕ). DeepRuns sizes honest file space (guide_at after t) (due_from 4 c.args.catalogue ahead)) tag
    (subst (λ (d : Option DeepState). DeepRuns sizes honest file space (guide_at after c.new-deep.result) d) begins (c.go_on.ensures.running sizes honest file space on_tag)) in
    subst (λ (r : RunsState). AreRunning honest file r) (sym (returns-clause-opened c)) (record {
      in_order = runs_from sizes c.args.catalogue space c.args.guides _ ahead c.requires.read c.requires.ahead
          (subst (λ (gs : List GuideState). AreGuides sizes first_tags gs) same c.go_on.ensures.reserved);
      pass = tt;
      deep = subst (λ (gs : List GuideState). DeepRuns sizes honest file space (guide_at gs 4) (due_from 4 c.args.catalogue ahead)) same goes;
    })

pub returns-clause-lists : goal.returns-clause-lists
returns-clause-lists c = λ tree file holds is c1 c1x c2 guided over.
    let sizes = c.args.geometry.now in
    let space = c.args.space in
    let ahead = c.args.ahead in
    let tag = c.new-deep.ensures in
    let after = c.go_on.new.guides.items in
    let begins = c.go_on.ensures.begun ∙ ap (λ (tag : ℕ). due_from tag c.args.catalogue ahead) tag in
    let same = ap (λ (r : RunsState). r.guides) (returns-clause-opened c) in
    let once = c.requires.read.one_tag in
    let newer = subst (λ (k : Catalog). ReadsAs sizes k.c1x tree.c1x file) is holds.c1x in
    let older = subst (λ (k : Catalog). ReadsAs sizes k.c2 tree.c2 file) is holds.c2 in
    let over_tag = subst (λ (g : GuideState). IsAheadOver sizes file space c.new-deep.result g tree.c1x tree.c2 ahead) (sym (room_is c.new-deep.result _ c.args.guides c.guides.view_is tag))
    (subst (λ (t : ℕ). IsAheadOver sizes file space t (guide_at c.args.guides 4) tree.c1x tree.c2 ahead) (sym tag) over) in
    let merge = subst (λ (t : ℕ). IsDeepOver sizes file space (guide_at after t) (due_from 4 c.args.catalogue ahead) tree.c1x tree.c2) tag
    (subst (λ (d : Option DeepState). IsDeepOver sizes file space (guide_at after c.new-deep.result) d tree.c1x tree.c2) begins
    (c.go_on.ensures.merge sizes file space tree.c1x tree.c2
    newer (elsewhere space 1 c.new-deep.result tree.c1x once (omega (arith, tag)) c1x)
    older (elsewhere space 2 c.new-deep.result tree.c2 once (omega (arith, tag)) c2) over_tag)) in
    subst (λ (r : RunsState). AreOf r tree file) (sym (returns-clause-opened c)) (record {
      holds = holds;
      catalogue = is;
      c1 = c1;
      c1x = c1x;
      c2 = c2;
      pass = tt;
      deep = subst (λ (gs : List GuideState). IsDeepOver sizes file space (guide_at gs 4) (due_from 4 c.args.catalogue ahead) tree.c1x tree.c2) same merge;
      guided = subst (λ (gs : List GuideState). AreGuided gs first_tags tree) same
          (all_guided_still c.args.guides after first_tags tree (subst (λ (gs : List GuideState). KeepsOtherGuides c.new-deep.result gs after) c.guides.view_is c.go_on.ensures.others) (omega (arith, tag)) (omega (arith, tag)) (omega (arith, tag)) guided);
      output = subst (λ (k : Catalog). AreFinished space (due_from 4 k ahead) tree.output) is
          (finished_from sizes tree space (guide_at c.args.guides 4) (c.args.catalogue.c1x.weight + c.args.catalogue.c2.weight) ahead file holds
          (subst (λ (k : Catalog). IsAhead 4 k.progress (c.args.catalogue.c1x.weight + c.args.catalogue.c2.weight) ahead) (sym is) c.requires.ahead) over);
    })

pub go_on-requires-clause-ahead : goal.go_on-requires-clause-ahead
go_on-requires-clause-ahead c = subst (λ (t : ℕ). IsAhead t c.args.catalogue.progress (c.args.catalogue.c1x.weight + c.args.catalogue.c2.weight) c.args.ahead) (sym c.new-deep.ensures) c.requires.ahead
