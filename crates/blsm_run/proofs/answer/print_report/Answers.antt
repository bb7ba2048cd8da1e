use Rattle.std.proofs.Common.{◌≡◌, ◌++◌, ℕ, List, codes, ap, append_assoc, sym}
use Rattle.blsm_model.specs.Printed.{and_number}
use Rattle.blsm_run.specs.Outcome.{and_component, newline, report_text}
use Rattle.blsm_run.proofs.answer.print_report.Goals as goal

pub returns : goal.returns
returns g c =
    let r = c.args.report.now in
    let before = codes "ok version" ++ and_number r.version ++ and_component (codes " c1") r.c1 ++ and_component (codes " c1x") r.c1x ++ and_component (codes " c2") r.c2 in
    let text : c.as_slice.result.now ≡ report_text r =
    simp (c.as_slice.ensures, c.add.ensures, c.add_and_number.ensures.text, c.add_named_number-2.ensures.text, c.add_component-3.ensures.text, c.add_component-2.ensures.text, c.add_component.ensures.text, c.add_named_number.ensures.text, c.new-piece.ensures)
    (ap (λ (l : List ℕ). l ++ and_number r.lane_b ++ newline) (sym (append_assoc before (codes " lanes") (and_number r.lane_a)))) in
    rw text at c.write_all.ensures
