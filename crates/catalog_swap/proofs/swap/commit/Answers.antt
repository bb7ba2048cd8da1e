use Rattle.std.proofs.Common.{arith}
use Rattle.std.proofs.lemmas.List.{length-take-le}
use Rattle.disk_trait.proofs.EffectLemmas.{affects_wider}
use Rattle.catalog_swap.proofs.SwapLemmas.{slots_inside, each_commit, reads_commit, settled_commit, on_ok}
use Rattle.catalog_swap.proofs.swap.commit.Goals as goal

pub returns-clause-each : goal.returns-clause-each
returns-clause-each g c = λ honest now is ready.
    each_commit c.args.geo.now now c.args.new.now is _ c.slot_of.ensures _ c.put_body-len.ensures.text _ _ ready (c.write_gated.ensures.gated honest).each

pub returns-clause-reads : goal.returns-clause-reads
returns-clause-reads g c = λ honest now is ready.
    reads_commit c.args.geo.now now c.args.new.now is _ c.slot_of.ensures _ c.put_body-len.ensures.text (g.D.Disk.state c.args.disk.now) (g.D.Disk.state c.write_gated.new.disk) ready (c.write_gated.ensures.gated honest).reads

pub returns-clause-committed : goal.returns-clause-committed
returns-clause-committed g c =
    on_ok _ _ c.write_gated.result c.write_gated.ensures.written
    (λ written honest now is ready.
    let tells = g.met.D.Disk.honest_tells c.args.disk.now honest in
    let long = c.requires tells in
    settled_commit c.args.geo.now now c.args.new.now is _ c.slot_of.ensures _ c.put_body-len.ensures.text (g.D.Disk.state c.args.disk.now) (g.D.Disk.state c.write_gated.new.disk) ready
    (omega (arith, c.slot_of.ensures, long)) (c.write_gated.ensures.effect.bytes honest) (written.bytes honest) (written.durable honest))

pub returns-clause-effect : goal.returns-clause-effect
returns-clause-effect g c =
    let long = length-take-le c.put_body-len.result c.put_body-len.new.body (omega arith) in
    affects_wider (λ i inside. (omega (arith, inside.0, c.slot_of.ensures), omega (arith, inside.1, c.slot_of.ensures, c.put_body-len.ensures.inside, long)))
    (omega (arith, c.slot_of.ensures, c.put_body-len.ensures.inside, long, slots_inside c.args.geo.now)) (omega arith) c.write_gated.ensures.effect
