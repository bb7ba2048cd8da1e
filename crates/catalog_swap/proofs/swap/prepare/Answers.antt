use Rattle.std.proofs.Common.{ℕ, IsTrue, sym, subst, arith}
use Rattle.gated_write.specs.Gated.{IsClosed}
use Rattle.blsm_model.specs.Geometry.{file_length}
use Rattle.catalog_swap.proofs.SwapLemmas.{reads_gate, each_gate, reads_spare, each_spare, closed_spare, gate_effect, spare_effect, shut_written}
use Rattle.catalog_swap.proofs.swap.prepare.Goals as goal

pub returns-in_err-close_gate-clause-each : goal.returns-in_err-close_gate-clause-each
returns-in_err-close_gate-clause-each g c = λ honest.
    let gate = c.close_gate.ensures in
    each_gate c.args.geo.now c.args.now.now (g.D.Disk.state c.args.disk.now) (g.D.Disk.state c.close_gate.new.disk) honest _ c.other_slot.ensures (gate.kept honest) (gate.each honest) gate.effect

pub returns-in_err-close_gate-clause-reads : goal.returns-in_err-close_gate-clause-reads
returns-in_err-close_gate-clause-reads g c = λ honest.
    let gate = c.close_gate.ensures in
    reads_gate c.args.geo.now c.args.now.now (g.D.Disk.state c.args.disk.now) (g.D.Disk.state c.close_gate.new.disk) honest _ c.other_slot.ensures (gate.kept honest) (gate.each honest) gate.effect

pub returns-in_err-close_gate-clause-effect : goal.returns-in_err-close_gate-clause-effect
returns-in_err-close_gate-clause-effect g c =
    gate_effect c.args.geo.now c.args.now.now (g.D.Disk.state c.args.disk.now) (g.D.Disk.state c.close_gate.new.disk) _ c.other_slot.ensures c.close_gate.ensures.effect
    (file_length c.args.geo.now) (omega (arith, c.other_slot.ensures, c.start_of-spare_gate.ensures.start, c.start_of-spare_gate.ensures.inside))

pub returns-in_err-write_through-clause-each : goal.returns-in_err-write_through-clause-each
returns-in_err-write_through-clause-each g c = λ honest.
    let gate = c.close_gate.ensures in
    let start = c.start_of-spare_gate.ensures.start in
    each_spare c.args.geo.now c.args.now.now (g.D.Disk.state c.args.disk.now) (g.D.Disk.state c.close_gate.new.disk) honest _ c.other_slot.ensures (gate.kept honest) (gate.each honest) gate.effect
    (g.D.Disk.state c.write_through.new.disk) (g.met.D.Disk.timed c.close_gate.new.disk) c.start_of-spare_gate.result (omega (arith, start)) c.write_through.ensures.effect

pub returns-in_err-write_through-clause-reads : goal.returns-in_err-write_through-clause-reads
returns-in_err-write_through-clause-reads g c = λ honest.
    let gate = c.close_gate.ensures in
    let start = c.start_of-spare_gate.ensures.start in
    reads_spare c.args.geo.now c.args.now.now (g.D.Disk.state c.args.disk.now) (g.D.Disk.state c.close_gate.new.disk) honest _ c.other_slot.ensures (gate.kept honest) (gate.each honest) gate.effect
    (g.D.Disk.state c.write_through.new.disk) (g.met.D.Disk.timed c.close_gate.new.disk) c.start_of-spare_gate.result (omega (arith, start)) c.write_through.ensures.effect

pub returns-in_err-write_through-clause-effect : goal.returns-in_err-write_through-clause-effect
returns-in_err-write_through-clause-effect g c =
    spare_effect c.args.geo.now c.args.now.now (g.D.Disk.state c.args.disk.now) (g.D.Disk.state c.close_gate.new.disk) _ c.other_slot.ensures c.close_gate.ensures.effect
    (file_length c.args.geo.now) (omega (arith, c.other_slot.ensures, c.start_of-spare_gate.ensures.start, c.start_of-spare_gate.ensures.inside))
    (g.D.Disk.state c.write_through.new.disk) c.start_of-spare_gate.result c.start_of-spare_gate.ensures.start c.start_of-spare_gate.ensures.inside (g.met.D.Disk.timed c.close_gate.new.disk) c.in_ok-close_gate.ensures.faults c.write_through.ensures.effect

pub returns-clause-each : goal.returns-clause-each
returns-clause-each g c = λ honest.
    let gate = c.close_gate.ensures in
    let start = c.start_of-spare_gate.ensures.start in
    each_spare c.args.geo.now c.args.now.now (g.D.Disk.state c.args.disk.now) (g.D.Disk.state c.close_gate.new.disk) honest _ c.other_slot.ensures (gate.kept honest) (gate.each honest) gate.effect
    (g.D.Disk.state c.write_through.new.disk) (g.met.D.Disk.timed c.close_gate.new.disk) c.start_of-spare_gate.result (omega (arith, start)) c.write_through.ensures.effect

pub returns-clause-reads : goal.returns-clause-reads
returns-clause-reads g c = λ honest.
    let gate = c.close_gate.ensures in
    let start = c.start_of-spare_gate.ensures.start in
    reads_spare c.args.geo.now c.args.now.now (g.D.Disk.state c.args.disk.now) (g.D.Disk.state c.close_gate.new.disk) honest _ c.other_slot.ensures (gate.kept honest) (gate.each honest) gate.effect
    (g.D.Disk.state c.write_through.new.disk) (g.met.D.Disk.timed c.close_gate.new.disk) c.start_of-spare_gate.result (omega (arith, start)) c.write_through.ensures.effect

pub returns-clause-prepared : goal.returns-clause-prepared
returns-clause-prepared g c = λ honest.
    let tells = g.met.D.Disk.honest_tells c.args.disk.now honest in
    let gate = c.close_gate.ensures in
    let start = c.start_of-spare_gate.ensures.start in
    let still = subst IsTrue (sym gate.effect.goes_on.is_honest) honest in
    let long = c.requires.length tells in
    let kept = gate.effect.no_shorter tells in
    let fits = c.start_of-spare_gate.ensures.inside in
    record {
      only = c.in_ok-write_through.ensures.written.durable still;
      older =
          closed_spare c.args.geo.now c.args.now.now (g.D.Disk.state c.args.disk.now) (g.D.Disk.state c.close_gate.new.disk) honest _ c.other_slot.ensures (gate.kept honest) (gate.each honest) gate.effect
          (g.D.Disk.state c.write_through.new.disk) (g.met.D.Disk.timed c.close_gate.new.disk) c.start_of-spare_gate.result (omega (arith, start)) c.write_through.ensures.effect
          (c.in_ok-close_gate.ensures.closed honest);
      spare =
          subst (λ (k : ℕ). IsClosed k (g.D.Disk.state c.write_through.new.disk).bytes) c.start_of-spare_gate.ensures.start
          (shut_written (g.D.Disk.state c.close_gate.new.disk).bytes (g.D.Disk.state c.write_through.new.disk).bytes c.start_of-spare_gate.result (omega (arith, long, kept, fits)) (c.in_ok-write_through.ensures.written.bytes still));
    }

pub returns-clause-effect : goal.returns-clause-effect
returns-clause-effect g c =
    spare_effect c.args.geo.now c.args.now.now (g.D.Disk.state c.args.disk.now) (g.D.Disk.state c.close_gate.new.disk) _ c.other_slot.ensures c.close_gate.ensures.effect
    (file_length c.args.geo.now) (omega (arith, c.other_slot.ensures, c.start_of-spare_gate.ensures.start, c.start_of-spare_gate.ensures.inside))
    (g.D.Disk.state c.write_through.new.disk) c.start_of-spare_gate.result c.start_of-spare_gate.ensures.start c.start_of-spare_gate.ensures.inside (g.met.D.Disk.timed c.close_gate.new.disk) c.in_ok-close_gate.ensures.faults c.write_through.ensures.effect
