use Rattle.std.proofs.Common.{◌≡◌, refl}
use Rattle.blsm_run.specs.Outcome.{settled_text}
use Rattle.blsm_run.proofs.answer.print_settled.Goals as goal

pub returns : goal.returns
returns g c =
    let text : c.as_slice.result.now ≡ settled_text c.args.settled.now =
    simp (
      c.as_slice.ensures,
      c.add.ensures,
      c.add_named_number-3.ensures.text,
      c.add_named_number-2.ensures.text,
      c.add_named_number.ensures.text,
      c.new-piece.ensures,
    ) refl in
    rw text at c.write_all.ensures
