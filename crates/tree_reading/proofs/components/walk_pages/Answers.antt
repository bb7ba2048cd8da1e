use Rattle.std.proofs.Common.{ℕ, List, Option, Result, sym, subst, arith}
use Rattle.blsm_model.specs.Geometry.{page_count}
use Rattle.page_file.specs.declared.file.Broken.{Broken}
use Rattle.tree_runs.specs.declared.resumable.Resumable.{Resumable}
use Rattle.tree_runs.specs.Noting.{HasSameRoom}
use Rattle.tree_runs.specs.Runs.{first_tags, guide_at}
use Rattle.tree_runs.proofs.GuideLemmas.{reserved_still}
use Rattle.output_reading.proofs.CallsLemmas.{handed_on, ok_is_calm, reads_after, reads_handed, reads_wider}
use Rattle.tree_reading.specs.Reading.{AreWalked, TellsTree}
use Rattle.tree_reading.proofs.CallsLemmas.{still}
use Rattle.tree_reading.proofs.NamedLemmas.{ahead_in, component_told, few_pages_of, guided_more}
use Rattle.tree_reading.proofs.NoteLemmas.{room_then, same_room}
use Rattle.tree_reading.proofs.ReadingLemmas.{on_any_ok, on_each_ok}
use Rattle.tree_reading.proofs.components.walk_pages.Goals as goal

pub returns-in_err-walk_all-clause-tells : goal.returns-in_err-walk_all-clause-tells
returns-in_err-walk_all-clause-tells g c = λ honest.
    let sizes = c.args.head.now.geometry in
    let catalogue = c.args.head.now.catalogue in
    let file = (g.D.Disk.state c.args.disk.now).bytes in
    subst (λ (r : Result (Option Resumable) Broken). TellsTree sizes catalogue c.walk_all.new.space c.walk_all.new.guides file r)
    (sym (handed_on c.from_residual.ensures.1))
    (component_told sizes catalogue c.walk_all.new.space c.walk_all.new.space c.walk_all.new.guides file c.in_err-walk_all.field-0.0
    (c.in_err-walk_all.ensures.tells honest))

pub returns-in_err-walk_all-clause-reads : goal.returns-in_err-walk_all-clause-reads
returns-in_err-walk_all-clause-reads g c =
    let valid = c.requires.right.valid in
    let pages = page_count c.args.head.now.geometry in
    reads_handed (handed_on c.from_residual.ensures.1) c.in_err-walk_all.was
    (reads_wider (omega (arith, few_pages_of pages _ valid.c1, few_pages_of pages _ valid.c1x, few_pages_of pages _ valid.c2))
    c.walk_all.ensures.reads)

pub walk_named-requires-clause-rooms : goal.walk_named-requires-clause-rooms
walk_named-requires-clause-rooms g c = λ below.
    let same : HasSameRoom c.args.guides.now c.walk_all.new.guides = c.in_ok-walk_all.ensures.reserved in
    reserved_still first_tags.deep same (c.requires.rooms.deep (omega (arith, below, same.many)))

pub returns-clause-stands : goal.returns-clause-stands
returns-clause-stands g c = λ below.
    let first = g.D.Disk.state c.args.disk.now in
    let mid = g.D.Disk.state c.walk_all.new.disk in
    let effect = c.walk_all.ensures.reads.effect in
    on_each_ok c.walk_named.result
    (λ ahead is. ahead_in c.args.head.now.geometry mid.is_honest first.is_honest mid.bytes first.bytes c.walk_named.new.space first_tags.deep
    (guide_at c.walk_named.new.guides first_tags.deep) ahead (λ honest. (still effect honest).0) (λ honest. (still effect honest).1) is)
    (c.walk_named.ensures.stands (omega (arith, below, c.in_ok-walk_all.ensures.reserved.many)))

pub returns-clause-tells : goal.returns-clause-tells
returns-clause-tells g c = λ honest.
    let sizes = c.args.head.now.geometry in
    let catalogue = c.args.head.now.catalogue in
    let same = still c.walk_all.ensures.reads.effect honest in
    let walked = c.in_ok-walk_all.ensures.tells honest in
    subst (λ (b : List ℕ). TellsTree sizes catalogue c.walk_named.new.space c.walk_named.new.guides b c.walk_named.result) same.1
    (c.walk_named.ensures.tells same.0 (subst (λ (b : List ℕ). AreWalked sizes catalogue c.walk_all.new.space b) (sym same.1) walked))

pub returns-clause-reserved : goal.returns-clause-reserved
returns-clause-reserved g c = on_any_ok c.walk_named.result (room_then c.in_ok-walk_all.ensures.reserved (same_room c.walk_named.ensures.rooms))

pub returns-clause-guided : goal.returns-clause-guided
returns-clause-guided g c = λ honest.
    on_any_ok c.walk_named.result
    (guided_more c.args.head.now.geometry c.args.head.now.catalogue (g.D.Disk.state c.args.disk.now).bytes c.walk_named.ensures.rooms
    (c.in_ok-walk_all.ensures.guided honest))

pub returns-clause-once : goal.returns-clause-once
returns-clause-once g c = on_each_ok c.walk_named.result (λ ahead few. omega (arith, few, c.in_ok-walk_all.ensures.once)) c.walk_named.ensures.once

pub returns-clause-reads : goal.returns-clause-reads
returns-clause-reads g c =
    let valid = c.requires.right.valid in
    let pages = page_count c.args.head.now.geometry in
    let first = c.walk_all.ensures.reads in
    let second = c.walk_named.ensures.reads in
    reads_after (g.met.D.Disk.timed c.walk_all.new.disk) (first.stands (ok_is_calm c.in_ok-walk_all.was)) first.effect second
    (omega (
      arith,
      first.effect.effect.calls,
      second.effect.effect.calls,
      few_pages_of pages _ valid.c1,
      few_pages_of pages _ valid.c1x,
      few_pages_of pages _ valid.c2,
    ))
