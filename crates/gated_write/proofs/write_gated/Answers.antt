use Rattle.std.proofs.Common.{[], ◌∷◌, List, ℕ, IsTrue, sym, ◌∙◌, ap, subst, arith}
use Rattle.disk_trait.specs.Disk.{overwritten}
use Rattle.gated_write.specs.Gated.{open_byte}
use Rattle.gated_write.proofs.Stages.{text_effect, leaves_text, gate_effect, leaves_gate, gate_over_text}
use Rattle.gated_write.proofs.EndLemmas.{then_ends}
use Rattle.gated_write.proofs.write_gated.Goals as goal

pub returns-in_err-write_through-clause-effect : goal.returns-in_err-write_through-clause-effect
returns-in_err-write_through-clause-effect g c = text_effect c.args.at c.args.text.now _ _ c.write_through.ensures.effect

pub returns-in_err-write_through-clause-gated : goal.returns-in_err-write_through-clause-gated
returns-in_err-write_through-clause-gated g c = leaves_text c.args.at c.args.text.now _ _ c.write_through.ensures.effect

pub returns-in_err-write_through-2-clause-effect : goal.returns-in_err-write_through-2-clause-effect
returns-in_err-write_through-2-clause-effect g c =
    gate_effect c.args.at c.args.text.now _ _ c.write_through.ensures.effect _ (g.met.D.Disk.timed c.write_through.new.disk) c.in_ok-write_through.ensures.faults c.write_through-2.ensures.effect

pub returns-in_err-write_through-2-clause-gated : goal.returns-in_err-write_through-2-clause-gated
returns-in_err-write_through-2-clause-gated g c = λ honest.
    let inside = c.requires.gate_inside (g.met.D.Disk.honest_tells c.args.disk.now honest) in
    let done = c.in_ok-write_through.ensures in
    leaves_gate c.args.at c.args.text.now _ _ c.write_through.ensures.effect _ (g.met.D.Disk.timed c.write_through.new.disk) done.faults c.write_through-2.ensures.effect
    honest (omega (arith, inside)) (done.written.bytes honest) (done.written.durable honest)

pub returns-clause-effect : goal.returns-clause-effect
returns-clause-effect g c =
    gate_effect c.args.at c.args.text.now _ _ c.write_through.ensures.effect _ (g.met.D.Disk.timed c.write_through.new.disk) c.in_ok-write_through.ensures.faults c.write_through-2.ensures.effect

pub returns-clause-gated : goal.returns-clause-gated
returns-clause-gated g c = λ honest.
    let inside = c.requires.gate_inside (g.met.D.Disk.honest_tells c.args.disk.now honest) in
    let done = c.in_ok-write_through.ensures in
    leaves_gate c.args.at c.args.text.now _ _ c.write_through.ensures.effect _ (g.met.D.Disk.timed c.write_through.new.disk) done.faults c.write_through-2.ensures.effect
    honest (omega (arith, inside)) (done.written.bytes honest) (done.written.durable honest)

pub returns-clause-written : goal.returns-clause-written
returns-clause-written g c =
    let at = c.args.at in
    let text = c.args.text.now in
    let start = g.D.Disk.state c.args.disk.now in
    let still : IsTrue start.is_honest → IsTrue (g.D.Disk.state c.write_through.new.disk).is_honest = λ honest. subst IsTrue (sym c.write_through.ensures.effect.goes_on.is_honest) honest in
    let tells : IsTrue start.tells_bytes → IsTrue (g.D.Disk.state c.write_through.new.disk).tells_bytes = λ told. subst IsTrue (sym c.write_through.ensures.effect.goes_on.tells_bytes) told in
    let text_done = c.in_ok-write_through.ensures.written in
    let gate_done = c.in_ok-write_through-2.ensures.written in
    record {
      bytes = λ honest.
          let inside = c.requires.gate_inside (g.met.D.Disk.honest_tells c.args.disk.now honest) in
          gate_done.bytes (still honest) ∙ ap (λ (l : List ℕ). overwritten l at (open_byte ∷ [])) (text_done.bytes honest) ∙ gate_over_text start.bytes at text (omega (arith, inside));
      durable = λ honest. gate_done.durable (still honest);
      long = λ told. omega (arith, gate_done.long (tells told), text_done.long told);
    }

pub returns-clause-ends : goal.returns-clause-ends
returns-clause-ends g c = then_ends 2 c.write_through.ensures.effect.goes_on c.in_ok-write_through.ensures.ends c.in_ok-write_through-2.ensures.ends
