use Rattle.std.proofs.Common.{◌≡◌, Some, ap, sym, ◌∙◌}
use Rattle.blsm_model.specs.declared.key.Key.{Key}
use Rattle.record_delta.specs.declared.record.Rec.{Rec}
use Rattle.record_delta.specs.Entries.{first_of}
use Rattle.mem_table.proofs.OrderLemmas.{above_is, first_at, first_behind}
use Rattle.scan_view.proofs.records.first_above.Goals as goal

pub returns-in_err-key : goal.returns-in_err-key
returns-in_err-key c =
    let es = c.args.entries.now in
    c.from_residual.ensures
    ∙ sym (ap first_of (above_is es c.args.at.now c.split_at.result c.split_at.ensures) ∙ first_behind es c.split_at.result c.in_err-key.ensures.lookup.3)

pub returns : goal.returns
returns c =
    let es = c.args.entries.now in
    let e = c.in_ok-key.field-0.now in
    let copied : (c.copy.result, c.copy-2.result) ≡ e = rw (c.copy.ensures, c.copy-2.ensures.same) in
    ap (λ (x : Key × Rec). Some x) (copied ∙ c.in_ok-key.ensures.lookup.1)
    ∙ sym (ap first_of (above_is es c.args.at.now c.split_at.result c.split_at.ensures) ∙ first_at es c.split_at.result e c.in_ok-key.ensures.lookup.3.0)
