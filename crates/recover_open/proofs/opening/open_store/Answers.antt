use Rattle.std.proofs.Common.{◌≡◌, ◌∙◌, ap, sym, subst, IsTrue, Some, None}
use Rattle.disk_trait.specs.Disk.{TellsFaultsBy}
use Rattle.disk_trait.specs.Moments.{LeavesOnly}
use Rattle.disk_trait.proofs.MomentLemmas.{leaves_only_start}
use Rattle.blsm_model.specs.Geometry.{file_length}
use Rattle.core_moves.specs.declared.held.Settled.{Settled}
use Rattle.tree_runs.specs.Runs.{RunsState}
use Rattle.tree_reading.specs.declared.found.Unreadable.{Unreadable}
use Rattle.recover_open.specs.Opening.{KeepsMapOf, TakesFew}
use Rattle.recover_open.specs.Settled.{CountsSettling}
use Rattle.recover_open.proofs.CoreLemmas.{are_settled, charge_opened, keeps_start, opens_as}
use Rattle.recover_open.proofs.opening.open_store.Goals as goal

some_is : {A : Type 0} {a b : A} → Some a ≡ Some b → a ≡ b
some_is same = cc

pub returns-in_default-clause-keeps : goal.returns-in_default-clause-keeps
returns-in_default-clause-keeps g c = λ sizes pairs honest reads. keeps_start (g.D.Disk.state c.args.disk) sizes pairs (g.met.D.Disk.timed c.args.disk) reads

pub returns-in_default-clause-spares : goal.returns-in_default-clause-spares
returns-in_default-clause-spares g c = λ honest calm. leaves_only_start (g.D.Disk.state c.args.disk) _ (g.met.D.Disk.timed c.args.disk) (λ image left. left)

pub assemble-requires-clause-settled : goal.assemble-requires-clause-settled
assemble-requires-clause-settled g c =
    let b = c.in-Ok-open_tree.begun in
    let r = c.in-Ok-open_tree.ensures.ready in
    are_settled b.runs b.log c.in-Some.annals c.args.room (g.D.Disk.state c.open_tree.new.disk) b.runs.sizes r.0 r.1 r.2 c.requires.entries
    (some_is (sym c.in-Some.is ∙ c.in-Ok-open_tree.ensures.history))

pub returns-in-Some-clause-stands : goal.returns-in-Some-clause-stands
returns-in-Some-clause-stands g c = λ honest.
    let b = c.in-Ok-open_tree.begun in
    let honest' = subst IsTrue (sym c.open_tree.ensures.effect.effect.goes_on.is_honest) honest in
    opens_as g.D.Disk.state c.args.room b.runs c.in-Some.annals c.assemble.result (g.D.Disk.state c.args.disk).bytes c.open_tree.new.disk c.assemble.ensures.disk honest' (c.in-Ok-open_tree.ensures.stands honest)
    (some_is (sym c.in-Some.is ∙ c.in-Ok-open_tree.ensures.history)) c.assemble.ensures.runs
    (charge_opened _ _ c.assemble.result.held c.assemble.ensures.opened) c.assemble.ensures.stands

pub returns-in-Some-clause-keeps : goal.returns-in-Some-clause-keeps
returns-in-Some-clause-keeps g c = λ sizes pairs honest reads.
    subst (λ d. KeepsMapOf sizes pairs (g.D.Disk.state c.args.disk) (g.D.Disk.state d)) (sym c.assemble.ensures.disk) (c.open_tree.ensures.keeps sizes pairs honest reads)

pub returns-in-Some-clause-untouched : goal.returns-in-Some-clause-untouched
returns-in-Some-clause-untouched g c = λ honest none.
    subst (λ (d : g.row.D.Denot). LeavesOnly (g.D.Disk.state c.args.disk) (g.D.Disk.state d) (g.D.Disk.state c.args.disk).images) (sym c.assemble.ensures.disk) (c.open_tree.ensures.untouched honest none)

pub returns-in-Some-clause-faults : goal.returns-in-Some-clause-faults
returns-in-Some-clause-faults g c =
    subst (λ d. TellsFaultsBy (Some Unreadable.Fault) None (g.D.Disk.state c.args.disk) (g.D.Disk.state d)) (sym c.assemble.ensures.disk)
    (record { stands = λ other. c.in-Ok-open_tree.ensures.faults.stands (λ wrong. absurd cc); failed = λ same. absurd cc })

pub returns-in-Some-clause-long : goal.returns-in-Some-clause-long
returns-in-Some-clause-long g c = λ tells. c.in-Ok-open_tree.ensures.long tells ∙ ap (λ (r : RunsState). file_length r.sizes) (sym c.assemble.ensures.runs)

pub returns-in-Some-clause-takes : goal.returns-in-Some-clause-takes
returns-in-Some-clause-takes g c =
    subst (λ (d : g.row.D.Denot). TakesFew c.assemble.result.held.runs.sizes (g.D.Disk.state c.args.disk) (g.D.Disk.state d))
    (sym c.assemble.ensures.disk)
    (subst (λ (r : RunsState). TakesFew r.sizes (g.D.Disk.state c.args.disk) (g.D.Disk.state c.open_tree.new.disk)) (sym c.assemble.ensures.runs)
    c.in-Ok-open_tree.ensures.takes)

pub returns-in-Some-clause-counts : goal.returns-in-Some-clause-counts
returns-in-Some-clause-counts g c =
    let old = g.D.Disk.state c.args.disk in
    let held = c.assemble.result.held in
    subst (λ (d : g.row.D.Denot). CountsSettling held.runs.sizes held.runs.catalogue held.settled old (g.D.Disk.state d)) (sym c.assemble.ensures.disk)
    (subst (λ (r : RunsState). CountsSettling r.sizes r.catalogue held.settled old (g.D.Disk.state c.open_tree.new.disk)) (sym c.assemble.ensures.runs)
    (subst (λ (s : Settled). CountsSettling c.in-Ok-open_tree.begun.runs.sizes c.in-Ok-open_tree.begun.runs.catalogue s old
    (g.D.Disk.state c.open_tree.new.disk)) (sym c.assemble.ensures.settled) c.in-Ok-open_tree.ensures.counts))

pub returns-in-Some-clause-counted : goal.returns-in-Some-clause-counted
returns-in-Some-clause-counted g c =
    ap (λ (r : RunsState). r.quanta) c.assemble.ensures.runs ∙ c.in-Ok-open_tree.ensures.counted
    ∙ ap (λ (s : Settled). s.quanta) (sym c.assemble.ensures.settled)

pub returns-in-Some-clause-charge : goal.returns-in-Some-clause-charge
returns-in-Some-clause-charge g c = charge_opened _ _ c.assemble.result.held c.assemble.ensures.opened
