use Rattle.std.proofs.Common.{◌∙◌, ℕ, IsTrue, List, IfErr, Result, ap, refl, sym, subst, arith}
use Rattle.tree_reading.proofs.CallsLemmas.{still}
use Rattle.disk_trait.proofs.ReadLemmas.{only_reads_more, only_reads_same, only_reads_wider}
use Rattle.tree_reading.specs.Damage.{HasCatalogue}
use Rattle.tree_reading.specs.declared.found.Unreadable.{Unreadable}
use Rattle.tree_reading.specs.Reading.{GuidesTree, IsReadAs, IsWhy, within}
use Rattle.mem_table.specs.Tables.{Contents}
use Rattle.tree_runs.proofs.GuideLemmas.{guides_still}
use Rattle.tree_reading.proofs.FaultLemmas.{calm, faults_as, faults_none, faults_then, handed_on}
use Rattle.tree_reading.proofs.ReadingLemmas.{fits_found, found_in, looked_more, replayed_at}
use Rattle.tree_reading.proofs.reading.read_tree.Goals as goal

pub returns-in_err-head-clause-looked : goal.returns-in_err-head-clause-looked
returns-in_err-head-clause-looked g c = λ is. looked_more (λ s. omega arith) (c.in_err-head.ensures.looked refl)

pub returns-in_default-clause-looked : goal.returns-in_default-clause-looked
returns-in_default-clause-looked g c = λ is.
    within c.in_ok-head.head.geometry c.in_ok-head.ensures.fits.geometry c.in_ok-head.ensures.length (only_reads_wider (omega arith) (omega arith) c.in_ok-head.ensures.effect)

pub returns-in_err-parts-clause-refused : goal.returns-in_err-parts-clause-refused
returns-in_err-parts-clause-refused g c = λ honest.
    let bytes = (g.D.Disk.state c.args.disk.now).bytes in
    let head = c.in_ok-head.head in
    let same = still c.in_ok-head.ensures.effect honest in
    subst (λ (r : Result _ Unreadable). IfErr r (λ why. IsWhy why bytes)) (sym (handed_on c.from_residual-in_err-parts.ensures.1))
    (subst (λ (b : List ℕ). HasCatalogue head.geometry head.catalogue b → IsWhy c.in_err-parts.field-0.0 b) same.1
    (c.in_err-parts.ensures.refused same.0) (c.in_ok-head.ensures.found honest))

pub returns-in_err-parts-clause-looked : goal.returns-in_err-parts-clause-looked
returns-in_err-parts-clause-looked g c = λ is.
    within c.in_ok-head.head.geometry c.in_ok-head.ensures.fits.geometry c.in_ok-head.ensures.length
    (only_reads_more (g.met.D.Disk.timed c.read_head.new.disk) (calm _ c.in_ok-head.ensures.faults) c.in_ok-head.ensures.effect c.read_parts.ensures.effect (omega arith) (omega arith))

pub returns-in_err-parts-clause-faults : goal.returns-in_err-parts-clause-faults
returns-in_err-parts-clause-faults g c =
    faults_then c.from_residual-in_err-parts.result (calm _ c.in_ok-head.ensures.faults)
    (faults_as c.from_residual-in_err-parts.ensures.1 c.in_err-parts.was c.read_parts.ensures.faults)

pub returns-clause-effect : goal.returns-clause-effect
returns-clause-effect g c =
    only_reads_more (g.met.D.Disk.timed c.read_head.new.disk) (calm _ c.in_ok-head.ensures.faults) c.in_ok-head.ensures.effect
    c.read_parts.ensures.effect (omega arith) (omega arith)

pub returns-clause-found : goal.returns-clause-found
returns-clause-found g c =
    let first = g.D.Disk.state c.args.disk.now in
    let mid = g.D.Disk.state c.read_head.new.disk in
    let last = g.D.Disk.state c.read_parts.new.disk in
    let head = c.in_ok-head.head in
    let ends = c.in_ok-parts.parts.ends in
    let room = c.read_parts.new.room in
    let effect = c.read_parts.ensures.effect in
    let on : IsTrue last.is_honest → IsTrue mid.is_honest = λ honest. sym effect.effect.goes_on.is_honest ∙ honest in
    found_in _ mid.is_honest last.is_honest mid.bytes last.bytes on (λ honest. sym (only_reads_same effect (on honest)))
    (record {
      head = c.in_ok-head.ensures.fits;
      tags = c.in_ok-parts.ensures.tags;
      sizes = c.lanes_of-lanes.ensures.sizes;
      roles = c.lanes_of-lanes.ensures.roles;
      replayed =
          replayed_at head.geometry head.catalogue room.a.entries room.b.entries ends.a ends.b _ _ mid.is_honest mid.bytes
          c.in_ok-parts.ensures.replayed
          c.lanes_of-lanes.ensures.end_a c.lanes_of-lanes.ensures.end_b;
      reserved_a = c.in_ok-parts.ensures.reserved.0 ∙ ap (λ (t : Contents). t.reserved) c.in-Ok.ensures.a;
      reserved_b = c.in_ok-parts.ensures.reserved.1 ∙ ap (λ (t : Contents). t.reserved) c.in-Ok.ensures.b;
      whole_a = c.in_ok-parts.ensures.whole.0;
      whole_b = c.in_ok-parts.ensures.whole.1;
      ahead = c.in_ok-parts.ensures.ahead;
      stands = λ are. c.in_ok-parts.ensures.stands (omega (arith, are.five, c.in_ok-parts.ensures.guides.many));
    })

pub returns-clause-holds : goal.returns-clause-holds
returns-clause-holds g c = λ honest.
    let first = g.D.Disk.state c.args.disk.now in
    let last = g.D.Disk.state c.read_parts.new.disk in
    let head = c.in_ok-head.head in
    let same = still c.in_ok-head.ensures.effect honest in
    let then = still c.read_parts.ensures.effect same.0 in
    fits_found _ first.is_honest first.bytes honest
    (found_in _ last.is_honest first.is_honest last.bytes first.bytes (λ sure. then.0) (λ sure. then.1 ∙ same.1) (returns-clause-found g c))
    (c.in_ok-head.ensures.found honest)
    (subst (λ (b : List ℕ). IsReadAs head.geometry head.catalogue c.read_parts.new.room.space c.read_parts.new.room.guides c.in_ok-parts.parts.ahead
    b) same.1
    (c.in_ok-parts.ensures.read same.0))
    (subst (λ (b : List ℕ). GuidesTree head.geometry head.catalogue c.read_parts.new.room.guides b) same.1 (c.in_ok-parts.ensures.guided same.0))

pub returns-clause-faults : goal.returns-clause-faults
returns-clause-faults g c = faults_none _ (calm _ c.in_ok-parts.ensures.faults ∙ calm _ c.in_ok-head.ensures.faults)

pub returns-clause-guides : goal.returns-clause-guides
returns-clause-guides g c = λ wanted. guides_still c.in_ok-parts.ensures.guides (c.in-Ok.ensures.guides wanted)

pub returns-clause-calls : goal.returns-clause-calls
returns-clause-calls g c = omega (arith, c.in_ok-head.ensures.effect.effect.calls, c.in_ok-parts.ensures.calls)
