use Rattle.std.proofs.Common.{◌∙◌, [], Option, ap, sym, subst, arith}
use Rattle.std.specs.Prelude.{IsTrue, is_ok}
use Rattle.std.proofs.lemmas.Result.{err_from_is_err_and}
use Rattle.std.proofs.lemmas.Bool.{false≢true}
use Rattle.disk_trait.specs.Effects.{Affects}
use Rattle.disk_trait.proofs.EffectLemmas.{affects_wider}
use Rattle.disk_trait.specs.Moments.{LeavesOnly}
use Rattle.blsm_model.specs.Sizes.{Sizes}
use Rattle.blsm_model.specs.Geometry.{file_length}
use Rattle.scan_view.specs.Pins.{beside_pins}
use Rattle.snow_merge.specs.Pass.{SnowState}
use Rattle.tree_file.specs.Tree.{Tree, HoldsTree}
use Rattle.tree_file.specs.Places.{Becomes, with_components, StandsOn}
use Rattle.tree_runs.specs.Runs.{RunsState, PassRuns, DeepRuns, guide_at}
use Rattle.tree_runs.specs.Holding.{IsRotated, StandOver, commit_region}
use Rattle.tree_runs.proofs.PinLemmas.{commit_beside}
use Rattle.tree_runs.proofs.SwapLemmas.{leaves_swapped}
use Rattle.tree_runs.proofs.Swapped.{Switches, rotation_becomes}
use Rattle.tree_runs.proofs.runs.Runs.rotate.Goals as goal
use Rattle.tree_runs.proofs.runs.Runs.rotate.Goals.{After-commit_next}

effect : (g : _) (c : After-commit_next g) → Affects (beside_pins c.args.self.now.sizes c.args.self.now.space.pins) (file_length c.args.self.now.sizes) 8 (g.D.Disk.state c.args.disk.now) (g.D.Disk.state c.commit_next.new.disk)
effect g c =
    let now = c.args.self.now in
    affects_wider (commit_beside now.sizes now.space.pins now.catalogue c.requires.running.in_order.geometry c.requires.roles) (omega arith) (omega arith)
    (subst (λ (s : RunsState). Affects (commit_region s.sizes s.catalogue) (file_length s.sizes) 8 (g.D.Disk.state c.args.disk.now) (g.D.Disk.state c.commit_next.new.disk)) c.self.view_is c.commit_next.ensures.effect)

committed : (g : _) (c : After-commit_next g) (tree : Tree) → IsTrue (g.D.Disk.state c.args.disk.now).is_honest
    → StandOver c.args.self.now tree (g.D.Disk.state c.args.disk.now)
    → IsRotated tree (with_components c.after_rotation-next.result [] tree.c1 tree.c2 tree) × LeavesOnly (g.D.Disk.state c.args.disk.now) (g.D.Disk.state c.args.disk.now) (HoldsTree c.args.self.now.sizes tree)
    × Becomes c.args.self.now.sizes tree (with_components c.after_rotation-next.result [] tree.c1 tree.c2 tree) (is_ok c.commit_next.result) (g.D.Disk.state c.args.disk.now) (g.D.Disk.state c.commit_next.new.disk)
committed g c tree honest over =
    rotation_becomes c.args.self.now tree c.after_rotation-next.result over honest (g.met.D.Disk.timed c.args.disk.now) c.requires.version c.after_rotation-next.ensures.next
    (subst (λ (s : RunsState). Switches s.sizes s.catalogue c.after_rotation-next.result c.commit_next.result (g.D.Disk.state c.args.disk.now) (g.D.Disk.state c.commit_next.new.disk)) c.self.view_is (record { becomes = c.commit_next.ensures.becomes }))

pub returns-in_err-commit_next-clause-lists : goal.returns-in_err-commit_next-clause-lists
returns-in_err-commit_next-clause-lists g c = λ tree honest over.
    let done = committed g (goal.at.returns-in_err-commit_next-clause-lists g c).After-commit_next tree honest over in
    let p = err_from_is_err_and c.from_residual.result c.from_residual.ensures.1 in
    (_, done.0, leaves_swapped c.args.self.now c.args.self.now tree _ done.1 done.2 (λ well. absurd (false≢true (sym (ap is_ok p.1) ∙ well))))

pub returns-in_err-commit_next-clause-effect : goal.returns-in_err-commit_next-clause-effect
returns-in_err-commit_next-clause-effect g c = effect g (goal.at.returns-in_err-commit_next-clause-effect g c).After-commit_next

pub returns-clause-effect : goal.returns-clause-effect
returns-clause-effect g c = effect g (goal.at.returns-clause-effect g c).After-commit_next

pub returns-clause-running : goal.returns-clause-running
returns-clause-running g c =
    let after = c.install_rotation.new.self in
    let new = g.D.Disk.state c.commit_next.new.disk in
    let rotates = c.install_rotation.ensures.rotates in
    record {
      in_order = c.install_rotation.ensures.runs;
      pass = subst (λ (o : Option SnowState). PassRuns after.sizes new.is_honest new.bytes after.space (guide_at after.guides after.tags.pass) o) (sym (rotates.pass ∙ c.requires.rests.0)) tt;
      deep = subst (λ (s : Sizes). DeepRuns s new.is_honest new.bytes after.space (guide_at after.guides after.tags.deep) after.deep) (sym rotates.sizes) (c.install_rotation.ensures.goes_on new.is_honest new.bytes);
    }

pub returns-clause-lists : goal.returns-clause-lists
returns-clause-lists g c = λ tree honest over.
    let now = c.args.self.now in
    let new = g.D.Disk.state c.commit_next.new.disk in
    let after = c.install_rotation.new.self in
    let next_tree = with_components c.after_rotation-next.result [] tree.c1 tree.c2 tree in
    let done = committed g (goal.at.returns-clause-lists g c).After-commit_next tree honest over in
    let stands = done.2.stands (ap is_ok c.in_ok-commit_next.was) in (
      next_tree,
      done.0,
      leaves_swapped now after tree next_tree done.1 done.2 (λ well. record {
        stands = subst (λ (s : Sizes). StandsOn s next_tree new) (sym c.install_rotation.ensures.rotates.sizes) stands;
        are_of = c.install_rotation.ensures.lists tree new.bytes stands.reads over.are_of.c1 over.are_of.c2 over.are_of.guided.c1
            over.are_of.guided.c2;
      }),
    )
