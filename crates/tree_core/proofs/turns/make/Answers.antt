use Rattle.std.proofs.Common.{ℕ, Ok, refl, sym, subst}
use Rattle.std.specs.Prelude.{IfOk}
use Rattle.std.specs.declared.result.Result.{Result}
use Rattle.page_file.specs.declared.file.Broken.{Broken}
use Rattle.pacing.specs.Steps as pacing
use Rattle.tree_runs.specs.Holding.{IsDeepSwapped, IsPassSwapped, IsRotated}
use Rattle.core_moves.specs.Held.{is_run_full}
use Rattle.core_moves.specs.Moves.{SwapsDeepIn, SwapsPassIn, RotatesIn, TurnsLog}
use Rattle.core_pace.specs.Turns.{TurnsBy}
use Rattle.tree_core.specs.Causes.{IsDamageAhead, merge_of}
use Rattle.tree_core.specs.Quanta.{LeavesMoved}
use Rattle.tree_core.specs.Turning.{move_of}
use Rattle.tree_core.specs.declared.turns.Choice.{Choice}
use Rattle.tree_core.proofs.TurnMoves.{on_both, on_pair, swap_left, swap_moved, swap_kept, swap_told, swap_not_named, quantum_left, rest_left, begun_over, begun_on}
use Rattle.tree_core.proofs.turns.make.Goals as goal

pub returns-in-SwapDeep-clause-lists : goal.returns-in-SwapDeep-clause-lists
returns-in-SwapDeep-clause-lists g c = λ tree honest over ahead.
    let old = c.args.held.now in
    let new = c.swap_deep.new.self in
    let before = g.D.Disk.state c.args.disk.now in
    let after = g.D.Disk.state c.swap_deep.new.disk in
    let x = c.swap_deep.ensures.lists tree honest over in (
      x.0,
      subst (λ (ch : Choice). LeavesMoved (move_of ch) c.no_quantum.result old new tree x.0 before after) (sym c.in-SwapDeep.is)
          (swap_left c.swap_deep.result c.no_quantum.result pacing.SwapDeep old new tree x.0 before after c.no_quantum.ensures x.1 x.2 (on_both c.swap_deep.result (IsDeepSwapped tree x.0) (IsDeepSwapped tree x.0) x.1 (λ is. is))),
    )

pub returns-in-SwapDeep-clause-moves : goal.returns-in-SwapDeep-clause-moves
returns-in-SwapDeep-clause-moves g c =
    let old = c.args.held.now in
    let new = c.swap_deep.new.self in
    subst (λ (ch : Choice). IfOk c.no_quantum.result (λ n. TurnsBy (move_of ch) c.args.seat n old new)) (sym c.in-SwapDeep.is)
    (swap_moved c.swap_deep.result c.no_quantum.result (SwapsDeepIn old new) (λ n. SwapsDeepIn old new) c.no_quantum.ensures (λ moves. moves) c.swap_deep.ensures.swaps)

pub returns-in-SwapDeep-clause-kept : goal.returns-in-SwapDeep-clause-kept
returns-in-SwapDeep-clause-kept g c = swap_kept c.swap_deep.result c.no_quantum.result c.args.held.now c.swap_deep.new.self c.no_quantum.ensures c.swap_deep.ensures.kept

pub returns-in-SwapDeep-clause-faults : goal.returns-in-SwapDeep-clause-faults
returns-in-SwapDeep-clause-faults g c = swap_told c.swap_deep.result c.no_quantum.result (g.D.Disk.state c.args.disk.now) (g.D.Disk.state c.swap_deep.new.disk) c.no_quantum.ensures c.swap_deep.ensures.faults

pub returns-in-SwapPass-clause-lists : goal.returns-in-SwapPass-clause-lists
returns-in-SwapPass-clause-lists g c = λ tree honest over ahead.
    let old = c.args.held.now in
    let new = c.swap_pass.new.self in
    let before = g.D.Disk.state c.args.disk.now in
    let after = g.D.Disk.state c.swap_pass.new.disk in
    let x = c.swap_pass.ensures.lists tree honest over ahead in (
      x.0,
      subst (λ (ch : Choice). LeavesMoved (move_of ch) c.no_quantum-in-SwapPass.result old new tree x.0 before after) (sym c.in-SwapPass.is)
          (swap_left c.swap_pass.result c.no_quantum-in-SwapPass.result pacing.SwapPass old new tree x.0 before after
          c.no_quantum-in-SwapPass.ensures x.1 x.2 (on_pair c.swap_pass.result (IsPassSwapped (is_run_full old) tree x.0)
          (TurnsLog old.log new.log) x.1 c.swap_pass.ensures.turns)),
    )

pub returns-in-SwapPass-clause-moves : goal.returns-in-SwapPass-clause-moves
returns-in-SwapPass-clause-moves g c =
    let old = c.args.held.now in
    let new = c.swap_pass.new.self in
    subst (λ (ch : Choice). IfOk c.no_quantum-in-SwapPass.result (λ n. TurnsBy (move_of ch) c.args.seat n old new)) (sym c.in-SwapPass.is)
    (swap_moved c.swap_pass.result c.no_quantum-in-SwapPass.result (SwapsPassIn old new) (λ n. SwapsPassIn old new) c.no_quantum-in-SwapPass.ensures (λ moves. moves) c.swap_pass.ensures.swaps)

pub returns-in-SwapPass-clause-kept : goal.returns-in-SwapPass-clause-kept
returns-in-SwapPass-clause-kept g c = swap_kept c.swap_pass.result c.no_quantum-in-SwapPass.result c.args.held.now c.swap_pass.new.self c.no_quantum-in-SwapPass.ensures c.swap_pass.ensures.kept

pub returns-in-SwapPass-clause-faults : goal.returns-in-SwapPass-clause-faults
returns-in-SwapPass-clause-faults g c = swap_told c.swap_pass.result c.no_quantum-in-SwapPass.result (g.D.Disk.state c.args.disk.now) (g.D.Disk.state c.swap_pass.new.disk) c.no_quantum-in-SwapPass.ensures c.swap_pass.ensures.faults

pub returns-in-Rotate-clause-lists : goal.returns-in-Rotate-clause-lists
returns-in-Rotate-clause-lists g c = λ tree honest over ahead.
    let old = c.args.held.now in
    let new = c.rotate.new.self in
    let before = g.D.Disk.state c.args.disk.now in
    let after = g.D.Disk.state c.rotate.new.disk in
    let x = c.rotate.ensures.lists tree honest over in (
      x.0,
      subst (λ (ch : Choice). LeavesMoved (move_of ch) c.no_quantum-in-Rotate.result old new tree x.0 before after) (sym c.in-Rotate.is)
          (swap_left c.rotate.result c.no_quantum-in-Rotate.result pacing.Rotate old new tree x.0 before after c.no_quantum-in-Rotate.ensures x.1 x.2 (on_both c.rotate.result (IsRotated tree x.0) (IsRotated tree x.0) x.1 (λ is. is))),
    )

pub returns-in-Rotate-clause-moves : goal.returns-in-Rotate-clause-moves
returns-in-Rotate-clause-moves g c =
    let old = c.args.held.now in
    let new = c.rotate.new.self in
    subst (λ (ch : Choice). IfOk c.no_quantum-in-Rotate.result (λ n. TurnsBy (move_of ch) c.args.seat n old new)) (sym c.in-Rotate.is)
    (swap_moved c.rotate.result c.no_quantum-in-Rotate.result (RotatesIn old new) (λ n. RotatesIn old new) c.no_quantum-in-Rotate.ensures (λ moves. moves) c.rotate.ensures.rotates)

pub returns-in-Rotate-clause-kept : goal.returns-in-Rotate-clause-kept
returns-in-Rotate-clause-kept g c = swap_kept c.rotate.result c.no_quantum-in-Rotate.result c.args.held.now c.rotate.new.self c.no_quantum-in-Rotate.ensures c.rotate.ensures.kept

pub returns-in-Rotate-clause-faults : goal.returns-in-Rotate-clause-faults
returns-in-Rotate-clause-faults g c = swap_told c.rotate.result c.no_quantum-in-Rotate.result (g.D.Disk.state c.args.disk.now) (g.D.Disk.state c.rotate.new.disk) c.no_quantum-in-Rotate.ensures c.rotate.ensures.faults

pub returns-in-DeepQuantum-clause-lists : goal.returns-in-DeepQuantum-clause-lists
returns-in-DeepQuantum-clause-lists g c = λ tree honest over ahead.
    let old = c.args.held.now in
    let new = c.deep_quantum.new.self in
    let before = g.D.Disk.state c.args.disk.now in
    let after = g.D.Disk.state c.deep_quantum.new.disk in (
      tree,
      subst (λ (ch : Choice). LeavesMoved (move_of ch) c.deep_quantum.result old new tree tree before after) (sym c.in-DeepQuantum.is)
          (quantum_left pacing.TakeDeep c.deep_quantum.result old new tree before after refl (c.deep_quantum.ensures.told.stands tree honest over)
          (λ well. let x = c.deep_quantum.ensures.told.lists tree honest over tt well in (x.0, x.1, x.2, (refl, x.3)))),
    )

pub returns-in-DeepQuantum-clause-moves : goal.returns-in-DeepQuantum-clause-moves
returns-in-DeepQuantum-clause-moves g c =
    subst (λ (ch : Choice). IfOk c.deep_quantum.result (λ n. TurnsBy (move_of ch) c.args.seat n c.args.held.now c.deep_quantum.new.self)) (sym c.in-DeepQuantum.is) c.deep_quantum.ensures.takes

pub returns-in-PassQuantum-clause-lists : goal.returns-in-PassQuantum-clause-lists
returns-in-PassQuantum-clause-lists g c = λ tree honest over ahead.
    let old = c.args.held.now in
    let new = c.pass_quantum.new.self in
    let before = g.D.Disk.state c.args.disk.now in
    let after = g.D.Disk.state c.pass_quantum.new.disk in (
      tree,
      subst (λ (ch : Choice). LeavesMoved (move_of ch) c.pass_quantum.result old new tree tree before after) (sym c.in-PassQuantum.is)
          (quantum_left pacing.TakeSnow c.pass_quantum.result old new tree before after refl (c.pass_quantum.ensures.told.stands tree honest over)
          (λ well. let x = c.pass_quantum.ensures.told.lists tree honest over ahead well in (x.0, x.1, x.2, (refl, x.3)))),
    )

pub returns-in-PassQuantum-clause-moves : goal.returns-in-PassQuantum-clause-moves
returns-in-PassQuantum-clause-moves g c =
    subst (λ (ch : Choice). IfOk c.pass_quantum.result (λ n. TurnsBy (move_of ch) c.args.seat n c.args.held.now c.pass_quantum.new.self)) (sym c.in-PassQuantum.is) c.pass_quantum.ensures.takes

pub returns-in-Begin-clause-lists : goal.returns-in-Begin-clause-lists
returns-in-Begin-clause-lists g c = λ tree honest over ahead.
    let old = c.args.held.now in
    let new = c.begin_pass.new.self in
    let d = g.D.Disk.state c.args.disk.now in
    let made : Result ℕ Broken = Ok 0 in (
      tree,
      subst (λ (ch : Choice). LeavesMoved (move_of ch) made old new tree tree d d) (sym c.in-Begin.is)
          (rest_left pacing.Begin made old new tree d (g.met.D.Disk.timed c.args.disk.now) refl over.stands refl (begun_over old new tree d c.begin_pass.ensures.begun c.begin_pass.ensures.lists over) refl),
    )

pub returns-in-Begin-clause-on : goal.returns-in-Begin-clause-on
returns-in-Begin-clause-on g c = begun_on c.args.held.now c.begin_pass.new.self (g.D.Disk.state c.args.disk.now) c.begin_pass.ensures.begun c.begin_pass.ensures.running c.requires.ready.on

pub returns-in-Rest-clause-lists : goal.returns-in-Rest-clause-lists
returns-in-Rest-clause-lists g c = λ tree honest over ahead.
    let old = c.args.held.now in
    let d = g.D.Disk.state c.args.disk.now in
    let made : Result ℕ Broken = Ok 0 in (
      tree,
      subst (λ (ch : Choice). LeavesMoved (move_of ch) made old old tree tree d d) (sym c.in-Rest.is)
          (rest_left pacing.Idle made old old tree d (g.met.D.Disk.timed c.args.disk.now) refl over.stands refl over refl),
    )

pub returns-in-SwapDeep-clause-damaged : goal.returns-in-SwapDeep-clause-damaged
returns-in-SwapDeep-clause-damaged g c = λ n is tells. absurd (swap_not_named c.swap_deep.result c.no_quantum.result n c.no_quantum.ensures is)

pub returns-in-SwapPass-clause-damaged : goal.returns-in-SwapPass-clause-damaged
returns-in-SwapPass-clause-damaged g c = λ n is tells. absurd (swap_not_named c.swap_pass.result c.no_quantum-in-SwapPass.result n c.no_quantum-in-SwapPass.ensures is)

pub returns-in-Rotate-clause-damaged : goal.returns-in-Rotate-clause-damaged
returns-in-Rotate-clause-damaged g c = λ n is tells. absurd (swap_not_named c.rotate.result c.no_quantum-in-Rotate.result n c.no_quantum-in-Rotate.ensures is)

pub returns-in-DeepQuantum-clause-damaged : goal.returns-in-DeepQuantum-clause-damaged
returns-in-DeepQuantum-clause-damaged g c = λ n is tells.
    subst (λ (ch : Choice). IsDamageAhead (merge_of (move_of ch)) c.deep_quantum.new.self.runs n (g.D.Disk.state c.deep_quantum.new.disk).bytes) (sym c.in-DeepQuantum.is) (c.deep_quantum.ensures.told.damaged n is tells)

pub returns-in-PassQuantum-clause-damaged : goal.returns-in-PassQuantum-clause-damaged
returns-in-PassQuantum-clause-damaged g c = λ n is tells.
    subst (λ (ch : Choice). IsDamageAhead (merge_of (move_of ch)) c.pass_quantum.new.self.runs n (g.D.Disk.state c.pass_quantum.new.disk).bytes) (sym c.in-PassQuantum.is) (c.pass_quantum.ensures.told.damaged n is tells)
