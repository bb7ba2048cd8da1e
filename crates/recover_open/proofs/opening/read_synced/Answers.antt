use Rattle.std.proofs.Common.{◌∙◌, IsTrue, sym, subst}
use Rattle.disk_trait.proofs.ReadLemmas.{only_reads_same}
use Rattle.recover_open.proofs.OpeningLemmas.{
  reads_inside,
  sync_inside,
  synced_few,
  synced_inside,
  synced_read,
  synced_kept,
  once_synced,
  still_long,
  still_only,
  was_long,
  when_done,
}
use Rattle.recover_open.proofs.opening.read_synced.Goals as goal

pub returns-clause-length : goal.returns-clause-length
returns-clause-length g c =
    let r = c.read_tree.ensures in
    still_long c.read_tree.result c.sync.ensures.passes (reads_inside c.read_tree.result r.effect r.looked r.length r.found) r.length

pub returns-clause-was_long : goal.returns-clause-was_long
returns-clause-was_long g c = was_long c.read_tree.result c.sync.ensures.passes c.sync.ensures.same c.read_tree.ensures.length

pub returns-clause-same : goal.returns-clause-same
returns-clause-same g c = λ honest.
    let e = c.sync.ensures in
    let r = c.read_tree.ensures in
    only_reads_same (reads_inside c.read_tree.result r.effect r.looked r.length r.found).only (subst IsTrue (sym e.passes.goes_on.is_honest) honest) ∙ e.same.bytes honest

pub returns-clause-only : goal.returns-clause-only
returns-clause-only g c =
    let e = c.sync.ensures in
    let r = c.read_tree.ensures in
    when_done c.read_tree.result (λ honest. still_only (subst IsTrue (sym e.passes.goes_on.is_honest) honest) (c.in-Ok.ensures.durable honest) (reads_inside c.read_tree.result r.effect r.looked r.length r.found))

pub returns-clause-kept : goal.returns-clause-kept
returns-clause-kept g c = λ honest.
    let e = c.sync.ensures in
    let r = c.read_tree.ensures in
    synced_kept (g.met.D.Disk.timed c.args.disk.now) e.passes e.same (reads_inside c.read_tree.result r.effect r.looked r.length r.found) honest

pub returns-clause-synced : goal.returns-clause-synced
returns-clause-synced g c = λ honest.
    let e = c.sync.ensures in
    let r = c.read_tree.ensures in
    once_synced (g.met.D.Disk.timed c.args.disk.now) (g.met.D.Disk.timed c.sync.new.self) e.passes e.marks e.same c.in-Ok.ensures.durable (reads_inside c.read_tree.result r.effect r.looked r.length r.found) honest

pub returns-clause-effect : goal.returns-clause-effect
returns-clause-effect g c =
    let e = c.sync.ensures in
    let r = c.read_tree.ensures in
    synced_inside (g.met.D.Disk.timed c.args.disk.now) (g.met.D.Disk.timed c.sync.new.self) c.in-Ok.ensures.stands e.passes e.marks e.same e.sure (reads_inside c.read_tree.result r.effect r.looked r.length r.found)

pub returns-clause-calls : goal.returns-clause-calls
returns-clause-calls g c = synced_few (g.D.Disk.state c.read_tree.new.disk) c.read_tree.result c.sync.ensures.passes c.read_tree.ensures.effect

pub returns-clause-few : goal.returns-clause-few
returns-clause-few g c = synced_read (g.D.Disk.state c.read_tree.new.disk) c.read_tree.result c.sync.ensures.passes c.read_tree.ensures.calls

pub returns-in_default-clause-effect : goal.returns-in_default-clause-effect
returns-in_default-clause-effect g c =
    let e = c.sync.ensures in
    sync_inside (g.met.D.Disk.timed c.args.disk.now) e.passes e.marks e.same e.sure
