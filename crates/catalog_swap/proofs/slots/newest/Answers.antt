use Rattle.std.proofs.Common.{◌≡◌, sym, subst, List, ℕ, IsTrue, Option, Result, Ok, Err, arith}
use Rattle.disk_trait.specs.Disk.{DiskState, TellsFaultsBy}
use Rattle.disk_trait.proofs.ReadLemmas.{only_reads_run, only_reads_wider}
use Rattle.catalog_swap.specs.declared.catalog.Catalog.{Catalog}
use Rattle.catalog_swap.specs.declared.slots.SlotsBroken.{SlotsBroken}
use Rattle.catalog_swap.specs.declared.slots.SlotsBroken.TheVariants.{Fault}
use Rattle.catalog_swap.specs.Slots.{even_slot}
use Rattle.catalog_swap.specs.Reading.{TellsSlot}
use Rattle.catalog_swap.proofs.slots.newest.Goals as goal

-- a slot that was read, no fault
calm : {old new : DiskState} {found : Option Catalog} → TellsFaultsBy {R = Result (Option Catalog) SlotsBroken} (Err Fault) (Ok found) old new → new.faults ≡ old.faults
calm told = told.stands (λ wrong. cc)

pub returns-clause-tells : goal.returns-clause-tells
returns-clause-tells g c = λ honest.
    let still = subst IsTrue (sym c.read_slot.ensures.effect.effect.goes_on.is_honest) honest in
    let same = c.read_slot.ensures.effect.same.same.bytes honest in
    c.newest_of.ensures.tells c.args.geo.now (g.D.Disk.state c.args.disk.now).bytes (c.in_ok-odd.ensures.tells honest)
    (subst (λ (l : List ℕ). TellsSlot c.args.geo.now even_slot l (Ok c.in_ok-even.even)) same (c.in_ok-even.ensures.tells still))

pub returns-clause-effect : goal.returns-clause-effect
returns-clause-effect g c =
    only_reads_run {most = 1} {more = 1} (g.met.D.Disk.timed c.read_slot.new.disk) (calm c.in_ok-odd.ensures.faults)
    (only_reads_wider (omega arith) (omega arith) c.read_slot.ensures.effect) c.read_slot-2.ensures.effect

pub returns-in_err-even-clause-effect : goal.returns-in_err-even-clause-effect
returns-in_err-even-clause-effect g c =
    only_reads_run {most = 1} {more = 1} (g.met.D.Disk.timed c.read_slot.new.disk) (calm c.in_ok-odd.ensures.faults)
    (only_reads_wider (omega arith) (omega arith) c.read_slot.ensures.effect) c.read_slot-2.ensures.effect
