use Rattle.std.proofs.Common.{◌∙◌, ◌≡◌, ap, List, ℕ, length, arith}
use Rattle.std.proofs.lemmas.Slice.{between_to_end}
use Rattle.disk_trait.specs.Disk.{part}
use Rattle.disk_trait.proofs.ReadLemmas.{only_reads_call}
use Rattle.catalog_swap.proofs.SlotLemmas.{read_has, read_broken}
use Rattle.catalog_swap.proofs.slots.read_slot.Goals as goal

pub returns-in-Some-clause-tells : goal.returns-in-Some-clause-tells
returns-in-Some-clause-tells g c = λ honest.
    let tells = g.met.D.Disk.honest_tells c.args.disk.now honest in
    let file = (g.D.Disk.state c.args.disk.now).bytes in
    let read : c.read.new.into ≡ part file c.args.at 187 = c.in_ok-read.ensures.bytes tells ∙ ap (λ (l : List ℕ). part l c.args.at 187) (c.read.ensures.same.bytes honest) in
    let long : length c.read.new.into ≡ 187 = omega arith in
    let found = c.in-Some.ensures.found in
    read_has c.args.geo.now c.args.at c.in-Some.found file c.read.new.into _ read long c.if-slot-ne-OPEN.false (between_to_end c.read.new.into 1 187 (omega (arith, long))) found.0 found.1 found.2

pub returns-in-Some-clause-effect : goal.returns-in-Some-clause-effect
returns-in-Some-clause-effect g c =
    only_reads_call (g.met.D.Disk.timed c.args.disk.now) c.read.ensures.passes c.read.ensures.no_sync c.read.ensures.same c.read.ensures.images c.read.ensures.sure

pub returns-in-None-clause-tells : goal.returns-in-None-clause-tells
returns-in-None-clause-tells g c = λ honest.
    let tells = g.met.D.Disk.honest_tells c.args.disk.now honest in
    let file = (g.D.Disk.state c.args.disk.now).bytes in
    let read : c.read.new.into ≡ part file c.args.at 187 = c.in_ok-read.ensures.bytes tells ∙ ap (λ (l : List ℕ). part l c.args.at 187) (c.read.ensures.same.bytes honest) in
    let long : length c.read.new.into ≡ 187 = omega arith in
    read_broken c.args.geo.now c.args.at file c.read.new.into _ read long c.if-slot-ne-OPEN.false (between_to_end c.read.new.into 1 187 (omega (arith, long))) c.in-None.ensures.none
