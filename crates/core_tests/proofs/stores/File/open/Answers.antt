use Rattle.std.proofs.Common.{ℕ, ◌≤◌, sym, subst, ap, arith}
use Rattle.catalog_swap.specs.declared.catalog.Catalog.{Catalog}
use Rattle.std.specs.Prelude.{sum}
use Rattle.blsm_model.specs.declared.room.Room.{Room}
use Rattle.blsm_model.specs.Format.{most_entries}
use Rattle.disk_mem.specs.Recorded.{told}
use Rattle.tree_machine.proofs.PlayLemmas.{of_replicate}
use Rattle.core_tests.proofs.FreshLemmas.{first_read, made_log, made_runs, settled_as}
use Rattle.core_tests.proofs.stores.File.open.Goals as goal

pub assemble-requires-clause-settled : goal.assemble-requires-clause-settled
assemble-requires-clause-settled c =
    let geo = c.args.self.geo in
    let few : sum (c.room.result).entries ≤ most_entries = subst (λ (room : Room). sum room.entries ≤ most_entries) (sym c.room.ensures) (omega arith) in
    settled_as geo c.in_ok-guides.guides c.open-runs.result c.open-log.result c.in_ok-annals.annals c.room.result (told c.args.self.disk) c.half-half.ensures.fits (λ tells. c.args.self.long) few (c.open-runs.ensures.running (told c.args.self.disk).is_honest (told c.args.self.disk).bytes tt)
    (made_runs geo c.open-runs.result c.first_catalogue.result c.in_ok-space.space c.in_ok-guides.guides c.pages.result c.open-runs.ensures.opened c.first_catalogue.ensures c.in_ok-space.ensures.unused c.pages.ensures.pages)
    (made_log geo c.open-log.result c.in_ok-reserve.field-0 c.in_ok-reserve-2.field-0 c.resume.result c.high_mark.result c.high_mark-2.result c.open-log.ensures c.in_ok-reserve.ensures c.in_ok-reserve-2.ensures
    c.resume.ensures c.high_mark.ensures.mark c.high_mark-2.ensures.mark)
    c.in_ok-annals.ensures

pub open-runs-requires : goal.open-runs-requires
open-runs-requires c =
    record { read = first_read c.args.self.geo c.first_catalogue.result c.in_ok-space.space c.pages.result c.half-half.ensures.fits c.first_catalogue.ensures c.in_ok-space.ensures.unused c.pages.ensures.pages; guides = c.in_ok-guides.ensures.guides; ahead = ap (λ (k : Catalog). k.progress) c.first_catalogue.ensures }

pub resume-requires-clause-inside : goal.resume-requires-clause-inside
resume-requires-clause-inside c = λ lane below. omega (arith, c.half-half.ensures.fits.half.0, of_replicate {A = ℕ} 3 lane 0)
