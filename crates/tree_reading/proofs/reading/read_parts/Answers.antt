use Rattle.std.proofs.Common.{◌∙◌, ℕ, List, IfErr, Result, sym, subst}
use Rattle.disk_trait.proofs.ReadLemmas.{only_reads_run}
use Rattle.tree_reading.specs.declared.found.Unreadable.{Unreadable}
use Rattle.tree_reading.specs.declared.reading.Parts.{Parts}
use Rattle.tree_reading.specs.Damage.{HasCatalogue, HasComponents, HasOutput}
use Rattle.tree_reading.specs.Reading.{IsReadAs, IsWhy}
use Rattle.tree_reading.proofs.CallsLemmas.{still}
use Rattle.tree_reading.proofs.FaultLemmas.{calm, faults_as, faults_none, faults_then, handed_on}
use Rattle.tree_reading.proofs.ReadingLemmas.{calls_on, replayed_in}
use Rattle.tree_reading.proofs.reading.read_parts.Goals as goal

pub returns-in_err-ahead-clause-faults : goal.returns-in_err-ahead-clause-faults
returns-in_err-ahead-clause-faults g c = faults_as c.from_residual.ensures.1 c.in_err-ahead.was c.read_components.ensures.faults

pub returns-in_err-ends-clause-refused : goal.returns-in_err-ends-clause-refused
returns-in_err-ends-clause-refused g c = λ honest has.
    let sizes = c.args.head.now.geometry in
    let catalogue = c.args.head.now.catalogue in
    let file = (g.D.Disk.state c.args.disk.now).bytes in
    let read : IsReadAs sizes catalogue c.read_components.new.space c.read_components.new.guides c.in_ok-ahead.ahead file
    = c.in_ok-ahead.ensures.found honest in
    let t = read.tagged in
    let same = still c.read_components.ensures.effect honest in
    subst (λ (r : Result Parts Unreadable). IfErr r (λ why. IsWhy why file)) (sym (handed_on c.from_residual-in_err-ends.ensures.1))
    (subst (λ (b : List ℕ). HasCatalogue sizes catalogue b → HasComponents sizes catalogue t.c1 t.c1x t.c2 b
    → HasOutput sizes catalogue.progress t.c1 t.c1x t.c2 read.output b → IsWhy c.in_err-ends.field-0.0 b) same.1
    (c.in_err-ends.ensures.refused t.c1 t.c1x t.c2 read.output same.0) has t.components read.named)

pub returns-in_err-ends-clause-faults : goal.returns-in_err-ends-clause-faults
returns-in_err-ends-clause-faults g c =
    faults_then c.from_residual-in_err-ends.result (calm _ c.in_ok-ahead.ensures.faults)
    (faults_as c.from_residual-in_err-ends.ensures.1 c.in_err-ends.was c.read_lanes.ensures.faults)

pub returns-in_err-ends-clause-effect : goal.returns-in_err-ends-clause-effect
returns-in_err-ends-clause-effect g c =
    only_reads_run (g.met.D.Disk.timed c.read_components.new.disk) (calm _ c.in_ok-ahead.ensures.faults) c.read_components.ensures.effect
    c.read_lanes.ensures.effect

pub returns-clause-replayed : goal.returns-clause-replayed
returns-clause-replayed g c =
    let first = g.D.Disk.state c.args.disk.now in
    let mid = g.D.Disk.state c.read_components.new.disk in
    let ends = c.in_ok-ends.ends in
    replayed_in c.args.head.now.geometry c.args.head.now.catalogue c.read_lanes.new.a.entries c.read_lanes.new.b.entries ends.a ends.b
    mid.is_honest first.is_honest mid.bytes first.bytes c.in_ok-ends.ensures.replayed
    (λ honest. (still c.read_components.ensures.effect honest).0) (λ honest. (still c.read_components.ensures.effect honest).1)

pub returns-clause-faults : goal.returns-clause-faults
returns-clause-faults g c = faults_none _ (calm _ c.in_ok-ends.ensures.faults ∙ calm _ c.in_ok-ahead.ensures.faults)

pub returns-clause-effect : goal.returns-clause-effect
returns-clause-effect g c =
    only_reads_run (g.met.D.Disk.timed c.read_components.new.disk) (calm _ c.in_ok-ahead.ensures.faults) c.read_components.ensures.effect
    c.read_lanes.ensures.effect

pub returns-clause-calls : goal.returns-clause-calls
returns-clause-calls g c =
    calls_on c.args.head.now.catalogue c.in_ok-ends.ends.a.records c.in_ok-ends.ends.b.records (g.D.Disk.state c.args.disk.now).clock
    (g.D.Disk.state c.read_components.new.disk).clock (g.D.Disk.state c.read_lanes.new.disk).clock c.in_ok-ahead.ensures.once
    c.in_ok-ends.ensures.calls
