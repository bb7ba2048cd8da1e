use Rattle.std.proofs.Common.{◌≡◌, ◌∙◌, Bool, true, IsTrue, [], Option, ap, refl, sym, subst, arith}
use Rattle.std.specs.Prelude.{is_ok}
use Rattle.std.proofs.lemmas.Result.{err_from_is_err_and}
use Rattle.std.proofs.lemmas.Bool.{false≢true}
use Rattle.disk_trait.specs.Disk.{TellsFaults}
use Rattle.disk_trait.specs.Effects.{Affects}
use Rattle.disk_trait.proofs.EffectLemmas.{affects_wider}
use Rattle.blsm_model.specs.Sizes.{Sizes}
use Rattle.blsm_model.specs.Geometry.{file_length}
use Rattle.scan_view.specs.Pins.{beside_pins}
use Rattle.deep_merge.specs.Merge.{DeepState}
use Rattle.record_delta.specs.Entries.{replayed}
use Rattle.tree_file.specs.Tree.{Tree, HoldsTree}
use Rattle.tree_file.specs.Places.{with_components, StandsOn}
use Rattle.tree_runs.specs.Runs.{RunsState, PassRuns, DeepRuns, guide_at}
use Rattle.tree_runs.specs.Holding.{AreTagged, IsGuidedBy, IsPassOver, with_deep_run}
use Rattle.tree_runs.specs.Holding.{StandOver, commit_region}
use Rattle.tree_runs.proofs.PinLemmas.{run_beside, swap_beside}
use Rattle.tree_runs.proofs.KeptMerges.{pass_runs_still, pass_over_still}
use Rattle.tree_runs.proofs.SwapLemmas.{stands_behind_deep, leaves_swapped, leaves_unswapped, swap_effect, swap_keeps, swap_pages}
use Rattle.tree_runs.proofs.Swapped.{Switches, IsFinished, DeepCommitted, deep_becomes, deep_unswapped}
use Rattle.tree_runs.proofs.runs.Runs.swap_deep.Goals as goal
use Rattle.tree_runs.proofs.runs.Runs.swap_deep.Goals.{After-commit_next}
use Rattle.tree_runs.proofs.Terms.{swap_region}

-- ---- the run's end wasn't written

pub returns-in_err-made-clause-lists : goal.returns-in_err-made-clause-lists
returns-in_err-made-clause-lists g c = λ tree honest over.
    let now = c.args.self.now in
    let are = c.requires.running.in_order in
    let stands = stands_behind_deep now c.requires.running over c.finish_deep.ensures.opens honest (g.met.D.Disk.timed c.finish_deep.new.disk) in
    let p = err_from_is_err_and c.from_residual.result c.from_residual.ensures.1 in
    (_, deep_unswapped tree, leaves_unswapped now c.finish_deep.new.self tree _ stands.0 stands.1 (λ well. false≢true (sym (ap is_ok p.1) ∙ well)))

pub returns-in_err-made-clause-effect : goal.returns-in_err-made-clause-effect
returns-in_err-made-clause-effect g c =
    let now = c.args.self.now in
    affects_wider (run_beside now.sizes now.space now.tags.deep c.requires.running.in_order.deep_unpinned) (omega arith) (omega arith) c.finish_deep.ensures.writes.effect

pub returns-in_err-made-clause-faults : goal.returns-in_err-made-clause-faults
returns-in_err-made-clause-faults g c =
    let p = err_from_is_err_and c.from_residual.result c.from_residual.ensures.1 in
    subst (λ (r : _). TellsFaults r (g.D.Disk.state c.args.disk.now) (g.D.Disk.state c.finish_deep.new.disk)) (sym p.1)
    (c.in_err-made.ensures.writes.failed refl)

-- ---- the run's end and the commit together

effect : (g : _) (c : After-commit_next g) → Affects (swap_region c.args.self.now.sizes c.args.self.now.space c.args.self.now.tags.deep c.args.self.now.catalogue) (file_length c.args.self.now.sizes) 9
    (g.D.Disk.state c.args.disk.now) (g.D.Disk.state c.commit_next.new.disk)
effect g c =
    swap_effect c.args.self.now c.args.self.now.tags.deep (g.met.D.Disk.timed c.finish_deep.new.disk) c.in_ok-made.ensures.writes.stands c.finish_deep.ensures.writes.effect
    (subst (λ (s : RunsState). Affects (commit_region s.sizes s.catalogue) (file_length s.sizes) 8 (g.D.Disk.state c.finish_deep.new.disk) (g.D.Disk.state c.commit_next.new.disk)) (c.self.view_is ∙ c.finish_deep.ensures.same) c.commit_next.ensures.effect)

effect_beside : (g : _) (c : After-commit_next g) → Affects (beside_pins c.args.self.now.sizes c.args.self.now.space.pins) (file_length c.args.self.now.sizes) 9 (g.D.Disk.state c.args.disk.now) (g.D.Disk.state c.commit_next.new.disk)
effect_beside g c =
    let now = c.args.self.now in
    let are = c.requires.running.in_order in
    affects_wider (swap_beside now.sizes now.space now.tags.deep now.catalogue are.geometry c.requires.roles are.deep_unpinned) (omega arith) (omega arith) (effect g c)

committed : (g : _) (c : After-commit_next g) (tree : Tree) → IsTrue (g.D.Disk.state c.args.disk.now).is_honest
    → StandOver c.args.self.now tree (g.D.Disk.state c.args.disk.now)
    → DeepCommitted c.args.self.now tree c.in_ok-made.made c.after_deep-next.result (is_ok c.commit_next.result) (g.D.Disk.state c.args.disk.now) (g.D.Disk.state c.finish_deep.new.disk) (g.D.Disk.state c.commit_next.new.disk)
committed g c tree honest over =
    let now = c.args.self.now in
    let finished : IsFinished now tree now.tags.deep (g.D.Disk.state c.args.disk.now) (g.D.Disk.state c.finish_deep.new.disk) =
    record { end = file_length now.sizes; running = c.requires.running; over = over; few = c.requires.version; effect = c.finish_deep.ensures.writes.effect; honest = honest; timed = g.met.D.Disk.timed c.finish_deep.new.disk; stands = stands_behind_deep now c.requires.running over c.finish_deep.ensures.opens honest (g.met.D.Disk.timed c.finish_deep.new.disk) } in
    let switches = subst (λ (s : RunsState). Switches s.sizes s.catalogue c.after_deep-next.result c.commit_next.result (g.D.Disk.state c.finish_deep.new.disk) (g.D.Disk.state c.commit_next.new.disk)) (c.self.view_is ∙ c.finish_deep.ensures.same) (record { becomes = c.commit_next.ensures.becomes }) in
    let next_is = subst (λ (s : RunsState). c.after_deep-next.result ≡ with_deep_run c.in_ok-made.made s.catalogue) c.finish_deep.ensures.same c.after_deep-next.ensures.next in
    let list = c.in_ok-made.ensures.list tree.c1x tree.c2 honest over.are_of.deep in
    deep_becomes now tree c.in_ok-made.made c.after_deep-next.result finished c.in_ok-made.ensures.component list.0 list.1 list.2 next_is switches

-- ---- the commit failed

pub returns-in_err-commit_next-clause-lists : goal.returns-in_err-commit_next-clause-lists
returns-in_err-commit_next-clause-lists g c = λ tree honest over.
    let done = committed g (goal.at.returns-in_err-commit_next-clause-lists g c).After-commit_next tree honest over in
    let p = err_from_is_err_and c.from_residual-in_err-commit_next.result c.from_residual-in_err-commit_next.ensures.1 in
    (_, done.swapped, leaves_swapped c.args.self.now c.finish_deep.new.self tree _ done.first done.becomes (λ well. absurd (false≢true (sym (ap is_ok p.1) ∙ well))))

pub returns-in_err-commit_next-clause-effect : goal.returns-in_err-commit_next-clause-effect
returns-in_err-commit_next-clause-effect g c = effect_beside g (goal.at.returns-in_err-commit_next-clause-effect g c).After-commit_next

-- ---- it was done

pub returns-clause-effect : goal.returns-clause-effect
returns-clause-effect g c = effect_beside g (goal.at.returns-clause-effect g c).After-commit_next

pub returns-clause-running : goal.returns-clause-running
returns-clause-running g c =
    let now = c.args.self.now in
    let are = c.requires.running.in_order in
    let old = g.D.Disk.state c.args.disk.now in
    let new = g.D.Disk.state c.commit_next.new.disk in
    let after = c.install_deep.new.self in
    let swaps = c.install_deep.ensures.swaps in
    let effect = effect g (goal.at.returns-clause-running g c).After-commit_next in
    let still : new.is_honest ≡ old.is_honest = effect.goes_on.is_honest in
    let keeps = swap_keeps new.is_honest now now.tags.deep now.tags.pass (λ told. subst IsTrue still told) are c.requires.roles (λ is. are.tags.pass_deep (sym is)) effect in
    let was = subst (λ (h : Bool). PassRuns now.sizes h old.bytes now.space (guide_at now.guides now.tags.pass) now.pass) (sym still) c.requires.running.pass in
    let here = pass_runs_still now.tags.pass (guide_at now.guides now.tags.pass) now.pass keeps are.pass_tag was in
    let there = c.install_deep.ensures.goes_on new.is_honest new.bytes (subst (λ (s : RunsState). PassRuns s.sizes new.is_honest new.bytes s.space (guide_at s.guides s.tags.pass) s.pass) (sym c.finish_deep.ensures.same) here) in
    record {
      in_order = c.install_deep.ensures.runs;
      pass = subst (λ (s : Sizes). PassRuns s new.is_honest new.bytes after.space (guide_at after.guides after.tags.pass) after.pass) (sym swaps.sizes) there;
      deep = subst (λ (o : Option DeepState). DeepRuns after.sizes new.is_honest new.bytes after.space (guide_at after.guides after.tags.deep) o) (sym swaps.deep) tt;
    }

pub returns-clause-lists : goal.returns-clause-lists
returns-clause-lists g c = λ tree honest over.
    let now = c.args.self.now in
    let are = c.requires.running.in_order in
    let new = g.D.Disk.state c.commit_next.new.disk in
    let after = c.install_deep.new.self in
    let done = committed g (goal.at.returns-clause-lists g c).After-commit_next tree honest over in
    let next_tree = with_components c.after_deep-next.result tree.c1 [] done.list.pages tree in
    let stands = done.becomes.stands (ap is_ok c.in_ok-commit_next.was) in
    let pass = pass_over_still (guide_at now.guides now.tags.pass) now.pass (replayed tree.lane_a.entries) tree.c1
    (swap_keeps true now now.tags.deep now.tags.pass (λ told. honest) are c.requires.roles (λ is. are.tags.pass_deep (sym is)) (effect g (goal.at.returns-clause-lists g c).After-commit_next))
    (swap_pages now now.tags.deep now.tags.c1 are c.requires.roles (λ is. are.tags.c1_deep (sym is))) are.pass_tag over.are_of.c1 over.are_of.pass in
    let found = subst (λ (s : RunsState). HoldsTree s.sizes next_tree new.bytes × AreTagged s.space s.tags.c1 tree.c1 × AreTagged s.space s.tags.deep done.list.pages
    × IsGuidedBy (guide_at s.guides s.tags.c1) tree.c1 × IsGuidedBy (guide_at s.guides s.tags.deep) done.list.pages
    × IsPassOver s.sizes new.bytes s.space (guide_at s.guides s.tags.pass) s.pass (replayed tree.lane_a.entries) tree.c1)
    (sym c.finish_deep.ensures.same) (stands.reads, over.are_of.c1, done.tagged, over.are_of.guided.c1, λ some. done.guided, pass) in (
      next_tree,
      done.swapped,
      leaves_swapped now after tree next_tree done.first done.becomes (λ well. record {
        stands = subst (λ (s : Sizes). StandsOn s next_tree new) (sym (c.install_deep.ensures.swaps.sizes ∙ ap (λ (s : RunsState). s.sizes) c.finish_deep.ensures.same)) stands;
        are_of = c.install_deep.ensures.lists tree done.list.pages new.bytes found.0 found.1 found.2 found.3 found.4 found.5;
      }),
    )
