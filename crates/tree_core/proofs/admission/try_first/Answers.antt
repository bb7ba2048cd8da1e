use Rattle.std.specs.Prelude.{None, Some}
use Rattle.std.proofs.Common.{refl, subst, sym}
use Rattle.tree_core.specs.Answers.{found_in}
use Rattle.tree_core.specs.Causes.{Finds, Tries}
use Rattle.tree_core.specs.declared.admission.Tried.{Tried}
use Rattle.tree_core.proofs.FirstLemmas.{asks_first, damage_first, finds_found, no_damage, none_is, tries_found, value_is}
use Rattle.tree_core.proofs.admission.try_first.Goals as goal

-- ---- there is a value

pub returns-in-Is-clause-tries : goal.returns-in-Is-clause-tries
returns-in-Is-clause-tries g c =
    subst (λ (r : Tried). Tries r c.args.op.now c.args.held.now (g.D.Disk.state c.args.disk.now) (g.D.Disk.state c.look_up.new.disk))
    (sym c.judge.ensures)
    (tries_found c.args.op.now c.looked_key.result.now c.args.held.now (g.D.Disk.state c.args.disk.now) (g.D.Disk.state c.look_up.new.disk)
    (Some c.in-Is.value) c.looked_key.ensures c.in-Is.ensures.cause.1 c.in-Is.ensures.cause.2)

pub returns-in-Is-clause-finds : goal.returns-in-Is-clause-finds
returns-in-Is-clause-finds g c = λ tree honest holds catalogue guided dropped.
    let at = c.looked_key.result.now in
    subst (λ (r : Tried). Finds r c.args.op.now (λ key. found_in key c.args.held.now tree)) (sym c.judge.ensures)
    (finds_found c.args.op.now at (Some c.in-Is.value) (λ key. found_in key c.args.held.now tree) c.looked_key.ensures
    (value_is c.in-Is.value (found_in at c.args.held.now tree) (c.in-Is.ensures.value tree honest holds catalogue guided dropped c.requires.runs
    (λ same. cc same))))

pub returns-in-Is-clause-asks : goal.returns-in-Is-clause-asks
returns-in-Is-clause-asks g c =
    asks_first g.D.Disk.state c.args.op.now c.looked_key.result.now c.args.held.now c.args.disk.now c.look_up.new.disk
    (g.met.D.Disk.timed c.args.disk.now) c.looked_key.ensures c.in-Is.ensures.reads c.in-Is.ensures.hidden

-- ---- there is none

pub returns-in-Absent-clause-tries : goal.returns-in-Absent-clause-tries
returns-in-Absent-clause-tries g c =
    subst (λ (r : Tried). Tries r c.args.op.now c.args.held.now (g.D.Disk.state c.args.disk.now) (g.D.Disk.state c.look_up.new.disk))
    (sym c.judge-in-Absent.ensures)
    (tries_found c.args.op.now c.looked_key.result.now c.args.held.now (g.D.Disk.state c.args.disk.now) (g.D.Disk.state c.look_up.new.disk) None
    c.looked_key.ensures c.in-Absent.ensures.cause.1 c.in-Absent.ensures.cause.2)

pub returns-in-Absent-clause-finds : goal.returns-in-Absent-clause-finds
returns-in-Absent-clause-finds g c = λ tree honest holds catalogue guided dropped.
    let at = c.looked_key.result.now in
    subst (λ (r : Tried). Finds r c.args.op.now (λ key. found_in key c.args.held.now tree)) (sym c.judge-in-Absent.ensures)
    (finds_found c.args.op.now at None (λ key. found_in key c.args.held.now tree) c.looked_key.ensures
    (none_is (found_in at c.args.held.now tree) (c.in-Absent.ensures.value tree honest holds catalogue guided dropped c.requires.runs
    (λ same. cc same))))

pub returns-in-Absent-clause-asks : goal.returns-in-Absent-clause-asks
returns-in-Absent-clause-asks g c =
    asks_first g.D.Disk.state c.args.op.now c.looked_key.result.now c.args.held.now c.args.disk.now c.look_up.new.disk
    (g.met.D.Disk.timed c.args.disk.now) c.looked_key.ensures c.in-Absent.ensures.reads c.in-Absent.ensures.hidden

-- ---- a call failed, or a page is damaged

pub returns-in-Fault-clause-tries : goal.returns-in-Fault-clause-tries
returns-in-Fault-clause-tries g c = (c.in-Fault.ensures.cause.1, c.in-Fault.ensures.counted refl)

pub returns-in-Fault-clause-finds : goal.returns-in-Fault-clause-finds
returns-in-Fault-clause-finds g c = λ tree honest holds catalogue guided dropped. tt

pub returns-in-Fault-clause-asks : goal.returns-in-Fault-clause-asks
returns-in-Fault-clause-asks g c =
    asks_first g.D.Disk.state c.args.op.now c.looked_key.result.now c.args.held.now c.args.disk.now c.look_up.new.disk
    (g.met.D.Disk.timed c.args.disk.now) c.looked_key.ensures c.in-Fault.ensures.reads c.in-Fault.ensures.hidden

pub returns-in-Damaged-clause-tries : goal.returns-in-Damaged-clause-tries
returns-in-Damaged-clause-tries g c = (
  c.in-Damaged.ensures.cause.1,
  λ honest. damage_first c.args.op.now c.looked_key.result.now c.args.held.now (g.D.Disk.state c.args.disk.now).bytes c.in-Damaged.page
      c.looked_key.ensures (c.in-Damaged.ensures.cause.2 honest),
)

pub returns-in-Damaged-clause-finds : goal.returns-in-Damaged-clause-finds
returns-in-Damaged-clause-finds g c = λ tree honest holds catalogue guided dropped.
    no_damage c.in-Damaged.page (found_in c.looked_key.result.now c.args.held.now tree)
    (c.in-Damaged.ensures.value tree honest holds catalogue guided dropped c.requires.runs (λ same. cc same))

pub returns-in-Damaged-clause-asks : goal.returns-in-Damaged-clause-asks
returns-in-Damaged-clause-asks g c =
    asks_first g.D.Disk.state c.args.op.now c.looked_key.result.now c.args.held.now c.args.disk.now c.look_up.new.disk
    (g.met.D.Disk.timed c.args.disk.now) c.looked_key.ensures c.in-Damaged.ensures.reads c.in-Damaged.ensures.hidden
