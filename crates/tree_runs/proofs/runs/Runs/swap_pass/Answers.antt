use Rattle.std.proofs.Common.{◌≡◌, ◌∙◌, ⊎_elim, ℕ, Bool, true, false, [], IsTrue, Option, nat_le, ap, sym, subst, refl, arith}
use Rattle.std.specs.Prelude.{is_ok}
use Rattle.std.proofs.lemmas.Result.{err_from_is_err_and}
use Rattle.std.proofs.lemmas.Bool.{false≢true, le-leb, lt-leb}
use Rattle.disk_trait.specs.Disk.{TellsFaults}
use Rattle.disk_trait.specs.Effects.{Affects}
use Rattle.disk_trait.proofs.EffectLemmas.{affects_wider}
use Rattle.blsm_model.specs.declared.component.Component.{Component}
use Rattle.blsm_model.specs.Sizes.{Sizes}
use Rattle.blsm_model.specs.Geometry.{file_length}
use Rattle.scan_view.specs.Pins.{beside_pins}
use Rattle.record_delta.specs.Entries.{folded_over, replayed}
use Rattle.page_file.specs.Component.{entries_of}
use Rattle.snow_merge.specs.Pass.{SnowState}
use Rattle.tree_file.specs.Tree.{Tree, HoldsTree}
use Rattle.tree_file.specs.Places.{with_pass, StandsOn}
use Rattle.tree_runs.specs.Runs.{RunsState, PassRuns, DeepRuns, guide_at, made_by_pass}
use Rattle.tree_runs.specs.Holding.{AreFinished, AreTagged, IsDeepOver, IsGuidedBy, progress_of, with_pass_run, is_full}
use Rattle.tree_runs.specs.Holding.{HasAllAhead, StandOver, commit_region}
use Rattle.tree_runs.proofs.PinLemmas.{commit_beside, pass_beside}
use Rattle.tree_runs.proofs.KeptMerges.{deep_runs_still, deep_over_still}
use Rattle.tree_runs.proofs.SwapLemmas.{stands_behind_pass, leaves_swapped, leaves_unswapped, both_effects, swap_effect, swap_keeps, swap_pages, one_page, one_page_entries}
use Rattle.tree_runs.proofs.Swapped.{Switches, IsFinished, PassCommitted, next_version, pass_becomes, pass_swapped}
use Rattle.tree_runs.proofs.NextTrees.{pass_tree}
use Rattle.tree_runs.proofs.runs.Runs.swap_pass.Goals as goal
use Rattle.tree_runs.proofs.runs.Runs.swap_pass.Goals.{After-commit_next}
use Rattle.tree_runs.proofs.Terms.{swap_region}

-- ---- the run's end wasn't written

pub returns-in_err-made-clause-lists : goal.returns-in_err-made-clause-lists
returns-in_err-made-clause-lists g c = λ tree honest over ahead.
    let now = c.args.self.now in
    let are = c.requires.running.in_order in
    let stands = stands_behind_pass now are over c.finish_pass.ensures.writes.effect honest (g.met.D.Disk.timed c.finish_pass.new.disk) in
    let p = err_from_is_err_and c.from_residual.result c.from_residual.ensures.1 in
    let out = folded_over (replayed tree.lane_a.entries) (entries_of tree.c1) in
    let full = is_full now.sizes (made_by_pass now.pass) in (
      pass_tree full (next_version tree.catalogue) (one_page out) [] tree,
      pass_swapped full tree (next_version tree.catalogue) (one_page out) [] (one_page_entries out) refl,
      leaves_unswapped now c.finish_pass.new.self tree (pass_tree full (next_version tree.catalogue) (one_page out) [] tree) stands.0 stands.1
          (λ well. false≢true (sym (ap is_ok p.1) ∙ well)),
    )

pub returns-in_err-made-clause-effect : goal.returns-in_err-made-clause-effect
returns-in_err-made-clause-effect g c =
    let now = c.args.self.now in
    affects_wider (pass_beside now c.requires.running) (omega arith) (omega arith) c.finish_pass.ensures.opens

pub returns-in_err-made-clause-faults : goal.returns-in_err-made-clause-faults
returns-in_err-made-clause-faults g c =
    let p = err_from_is_err_and c.from_residual.result c.from_residual.ensures.1 in
    subst (λ (r : _). TellsFaults r (g.D.Disk.state c.args.disk.now) (g.D.Disk.state c.finish_pass.new.disk)) (sym p.1) (c.in_err-made.ensures.writes.failed refl)

-- ---- the run's end and the commit together

effect : (g : _) (c : After-commit_next g) → Affects (swap_region c.args.self.now.sizes c.args.self.now.space c.args.self.now.tags.pass c.args.self.now.catalogue) (file_length c.args.self.now.sizes) 9
    (g.D.Disk.state c.args.disk.now) (g.D.Disk.state c.commit_next.new.disk)
effect g c =
    swap_effect c.args.self.now c.args.self.now.tags.pass (g.met.D.Disk.timed c.finish_pass.new.disk) c.in_ok-made.ensures.writes.stands c.finish_pass.ensures.writes.effect
    (subst (λ (s : RunsState). Affects (commit_region s.sizes s.catalogue) (file_length s.sizes) 8 (g.D.Disk.state c.finish_pass.new.disk) (g.D.Disk.state c.commit_next.new.disk)) (c.self.view_is ∙ c.finish_pass.ensures.same) c.commit_next.ensures.effect)

effect_beside : (g : _) (c : After-commit_next g) → Affects (beside_pins c.args.self.now.sizes c.args.self.now.space.pins) (file_length c.args.self.now.sizes) 9 (g.D.Disk.state c.args.disk.now) (g.D.Disk.state c.commit_next.new.disk)
effect_beside g c =
    let now = c.args.self.now in
    let are = c.requires.running.in_order in
    affects_wider (λ i here. ⊎_elim (pass_beside now c.requires.running i) (commit_beside now.sizes now.space.pins now.catalogue are.geometry c.requires.roles i) here)
    (omega arith) (omega arith)
    (both_effects now (g.met.D.Disk.timed c.finish_pass.new.disk) c.in_ok-made.ensures.writes.stands c.finish_pass.ensures.opens
    (subst (λ (s : RunsState). Affects (commit_region s.sizes s.catalogue) (file_length s.sizes) 8 (g.D.Disk.state c.finish_pass.new.disk) (g.D.Disk.state c.commit_next.new.disk)) (c.self.view_is ∙ c.finish_pass.ensures.same) c.commit_next.ensures.effect))

committed : (g : _) (c : After-commit_next g) (b : Bool) → is_full c.args.self.now.sizes (made_by_pass c.args.self.now.pass) ≡ b → (tree : Tree) → IsTrue (g.D.Disk.state c.args.disk.now).is_honest
    → StandOver c.args.self.now tree (g.D.Disk.state c.args.disk.now) → HasAllAhead c.args.self.now.pass c.args.a.now.entries tree
    → PassCommitted c.args.self.now tree b c.in_ok-made.made c.after_pass-next.result (is_ok c.commit_next.result) (g.D.Disk.state c.args.disk.now)
    (g.D.Disk.state c.finish_pass.new.disk) (g.D.Disk.state c.commit_next.new.disk)
committed g c b full tree honest over ahead =
    let now = c.args.self.now in
    let finished : IsFinished now tree now.tags.pass (g.D.Disk.state c.args.disk.now) (g.D.Disk.state c.finish_pass.new.disk) =
    record { end = file_length now.sizes; running = c.requires.running; over = over; few = c.requires.version; effect = c.finish_pass.ensures.writes.effect; honest = honest; timed = g.met.D.Disk.timed c.finish_pass.new.disk; stands = stands_behind_pass now c.requires.running.in_order over c.finish_pass.ensures.writes.effect honest (g.met.D.Disk.timed c.finish_pass.new.disk) } in
    let switches = subst (λ (s : RunsState). Switches s.sizes s.catalogue c.after_pass-next.result c.commit_next.result (g.D.Disk.state c.finish_pass.new.disk) (g.D.Disk.state c.commit_next.new.disk)) (c.self.view_is ∙ c.finish_pass.ensures.same) (record { becomes = c.commit_next.ensures.becomes }) in
    let next_is = subst (λ (s : RunsState). c.after_pass-next.result ≡ with_pass_run s.sizes c.in_ok-made.made (progress_of s.catalogue s.deep) s.catalogue) c.finish_pass.ensures.same c.after_pass-next.ensures.next in
    let list = c.in_ok-made.ensures.list (replayed tree.lane_a.entries) tree.c1 honest ahead over.are_of.pass in
    pass_becomes now tree c.in_ok-made.made c.after_pass-next.result b full (λ heavy. c.requires.way (full ∙ heavy)) c.requires.roles finished c.in_ok-made.ensures.component list.0 list.1 list.2 next_is switches

-- ---- the commit failed

pub returns-in_err-commit_next-clause-lists : goal.returns-in_err-commit_next-clause-lists
returns-in_err-commit_next-clause-lists g c = λ tree honest over ahead.
    let now = c.args.self.now in
    let done = committed g (goal.at.returns-in_err-commit_next-clause-lists g c).After-commit_next
    (is_full now.sizes (made_by_pass now.pass)) refl tree honest over ahead in
    let p = err_from_is_err_and c.from_residual-in_err-commit_next.result c.from_residual-in_err-commit_next.ensures.1 in (
      _,
      done.swapped,
      leaves_swapped now c.finish_pass.new.self tree _ done.first done.becomes
          (λ well. absurd (false≢true (sym (ap is_ok p.1) ∙ well))),
    )

pub returns-in_err-commit_next-clause-effect : goal.returns-in_err-commit_next-clause-effect
returns-in_err-commit_next-clause-effect g c = effect_beside g (goal.at.returns-in_err-commit_next-clause-effect g c).After-commit_next

-- ---- C1 rotates

pub returns-then-rotates-clause-effect : goal.returns-then-rotates-clause-effect
returns-then-rotates-clause-effect g c = effect_beside g (goal.at.returns-then-rotates-clause-effect g c).After-commit_next

pub returns-then-rotates-clause-running : goal.returns-then-rotates-clause-running
returns-then-rotates-clause-running g c =
    let after = c.install_rotated_pass.new.self in
    let new = g.D.Disk.state c.commit_next.new.disk in
    let swaps = c.install_rotated_pass.ensures.swaps in
    record {
      in_order = c.install_rotated_pass.ensures.runs;
      pass = subst (λ (o : Option SnowState). PassRuns after.sizes new.is_honest new.bytes after.space (guide_at after.guides after.tags.pass) o) (sym swaps.pass) tt;
      deep = subst (λ (s : Sizes). DeepRuns s new.is_honest new.bytes after.space (guide_at after.guides after.tags.deep) after.deep) (sym swaps.sizes) (c.install_rotated_pass.ensures.goes_on new.is_honest new.bytes);
    }

pub returns-then-rotates-clause-lists : goal.returns-then-rotates-clause-lists
returns-then-rotates-clause-lists g c = λ tree honest over ahead.
    let now = c.args.self.now in
    let new = g.D.Disk.state c.commit_next.new.disk in
    let after = c.install_rotated_pass.new.self in
    let made = c.in_ok-made.made in
    let marked : is_full c.self.inside.geometry made ≡ true = ap (λ (n : ℕ). nat_le n made.weight) (sym c.c1_mark.ensures.mark) ∙ le-leb c.c1_mark.result made.weight c.if-rotates.true in
    let full = subst (λ (s : RunsState). is_full s.sizes made ≡ true) (c.self.view_is ∙ c.finish_pass.ensures.same) marked in
    let full_now : is_full now.sizes (made_by_pass now.pass) ≡ true = ap (λ (k : Component). is_full now.sizes k) (sym c.in_ok-made.ensures.component) ∙ full in
    let done = committed g (goal.at.returns-then-rotates-clause-lists g c).After-commit_next true full_now tree honest over ahead in
    let next_tree = with_pass c.after_pass-next.result [] done.list.pages tree.c2 [] tree in
    let stands = done.becomes.stands (ap is_ok c.in_ok-commit_next.was) in
    let found = subst (λ (s : RunsState). HoldsTree s.sizes next_tree new.bytes × AreTagged s.space s.tags.c2 tree.c2 × AreTagged s.space s.tags.pass done.list.pages
    × IsGuidedBy (guide_at s.guides s.tags.c2) tree.c2 × IsGuidedBy (guide_at s.guides s.tags.pass) done.list.pages)
    (sym c.finish_pass.ensures.same) (stands.reads, over.are_of.c2, done.tagged, over.are_of.guided.c2, λ some. done.guided) in (
      next_tree,
      done.swapped,
      leaves_swapped now after tree next_tree done.first done.becomes (λ well. record {
        stands = subst (λ (s : Sizes). StandsOn s next_tree new) (sym (c.install_rotated_pass.ensures.swaps.sizes ∙ ap (λ (s : RunsState). s.sizes) c.finish_pass.ensures.same)) stands;
        are_of = c.install_rotated_pass.ensures.lists tree done.list.pages new.bytes found.0 found.1 found.2 found.3 found.4;
      }),
    )

-- ---- or not

pub returns-else-rotates-clause-effect : goal.returns-else-rotates-clause-effect
returns-else-rotates-clause-effect g c = effect_beside g (goal.at.returns-else-rotates-clause-effect g c).After-commit_next

pub returns-else-rotates-clause-running : goal.returns-else-rotates-clause-running
returns-else-rotates-clause-running g c =
    let are = c.requires.running.in_order in
    let old = g.D.Disk.state c.args.disk.now in
    let after = c.install_pass.new.self in
    let swaps = c.install_pass.ensures.swaps in
    let now = c.args.self.now in
    let new = g.D.Disk.state c.commit_next.new.disk in
    let effect = effect g (goal.at.returns-else-rotates-clause-running g c).After-commit_next in
    let still : new.is_honest ≡ old.is_honest = effect.goes_on.is_honest in
    let keeps = swap_keeps new.is_honest now now.tags.pass now.tags.deep (λ told. subst IsTrue still told) are c.requires.roles are.tags.pass_deep effect in
    let was = subst (λ (h : Bool). DeepRuns now.sizes h old.bytes now.space (guide_at now.guides now.tags.deep) now.deep) (sym still) c.requires.running.deep in
    let here = deep_runs_still now.tags.deep (guide_at now.guides now.tags.deep) now.deep keeps are.deep_tag was in
    let there = c.install_pass.ensures.goes_on new.is_honest new.bytes (subst (λ (s : RunsState). DeepRuns s.sizes new.is_honest new.bytes s.space (guide_at s.guides s.tags.deep) s.deep) (sym c.finish_pass.ensures.same) here) in
    record {
      in_order = c.install_pass.ensures.runs;
      pass = subst (λ (o : Option SnowState). PassRuns after.sizes new.is_honest new.bytes after.space (guide_at after.guides after.tags.pass) o) (sym swaps.pass) tt;
      deep = subst (λ (s : Sizes). DeepRuns s new.is_honest new.bytes after.space (guide_at after.guides after.tags.deep) after.deep) (sym swaps.sizes) there;
    }

pub returns-else-rotates-clause-lists : goal.returns-else-rotates-clause-lists
returns-else-rotates-clause-lists g c = λ tree honest over ahead.
    let now = c.args.self.now in
    let new = g.D.Disk.state c.commit_next.new.disk in
    let are = c.requires.running.in_order in
    let after = c.install_pass.new.self in
    let made = c.in_ok-made.made in
    let marked : is_full c.self.inside.geometry made ≡ false = ap (λ (n : ℕ). nat_le n made.weight) (sym c.c1_mark.ensures.mark) ∙ lt-leb c.c1_mark.result made.weight c.if-rotates.false in
    let light = subst (λ (s : RunsState). is_full s.sizes made ≡ false) (c.self.view_is ∙ c.finish_pass.ensures.same) marked in
    let light_now : is_full now.sizes (made_by_pass now.pass) ≡ false = ap (λ (k : Component). is_full now.sizes k) (sym c.in_ok-made.ensures.component) ∙ light in
    let done = committed g (goal.at.returns-else-rotates-clause-lists g c).After-commit_next false light_now tree honest over ahead in
    let next_tree = with_pass c.after_pass-next.result done.list.pages tree.c1x tree.c2 done.output tree in
    let stands = done.becomes.stands (ap is_ok c.in_ok-commit_next.was) in
    let deep = deep_over_still (guide_at now.guides now.tags.deep) now.deep tree.c1x tree.c2
    (swap_keeps true now now.tags.pass now.tags.deep (λ told. honest) are c.requires.roles are.tags.pass_deep (effect g (goal.at.returns-else-rotates-clause-lists g c).After-commit_next))
    (swap_pages now now.tags.pass now.tags.c1x are c.requires.roles (λ is. are.tags.c1x_pass (sym is)))
    (swap_pages now now.tags.pass now.tags.c2 are c.requires.roles (λ is. are.tags.c2_pass (sym is))) are.deep_tag over.are_of.c1x over.are_of.c2 over.are_of.deep in
    let found = subst (λ (s : RunsState). HoldsTree s.sizes next_tree new.bytes × AreTagged s.space s.tags.c1x tree.c1x × AreTagged s.space s.tags.c2 tree.c2 × AreTagged s.space s.tags.pass done.list.pages
    × IsGuidedBy (guide_at s.guides s.tags.pass) done.list.pages × IsGuidedBy (guide_at s.guides s.tags.c1x) tree.c1x × IsGuidedBy (guide_at s.guides s.tags.c2) tree.c2
    × IsDeepOver s.sizes new.bytes s.space (guide_at s.guides s.tags.deep) s.deep tree.c1x tree.c2 × AreFinished s.space s.deep done.output)
    (sym c.finish_pass.ensures.same) (stands.reads, over.are_of.c1x, over.are_of.c2, done.tagged, λ some. done.guided, over.are_of.guided.c1x, over.are_of.guided.c2, deep, done.finished) in (
      next_tree,
      done.swapped,
      leaves_swapped now after tree next_tree done.first done.becomes (λ well. record {
        stands = subst (λ (s : Sizes). StandsOn s next_tree new) (sym (c.install_pass.ensures.swaps.sizes ∙ ap (λ (s : RunsState). s.sizes) c.finish_pass.ensures.same)) stands;
        are_of = c.install_pass.ensures.lists tree done.list.pages done.output new.bytes found.0 found.1 found.2 found.3 found.4 found.5 found.6
            found.7 found.8;
      }),
    )
