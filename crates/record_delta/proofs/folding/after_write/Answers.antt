use Rattle.std.proofs.Common.{◌≡◌, true, ap, ◌∙◌, sym, rules, Some}
use Rattle.blsm_model.specs.Keys.{same_key}
use Rattle.blsm_model.specs.Values.{key_of}
use Rattle.record_delta.specs.Records.{settle, settled}
use Rattle.record_delta.proofs.FoldingLemmas.{stands_over}
use Rattle.record_delta.proofs.folding.after_write.Goals as goal

pub returns-in-Some-clause-stands : goal.returns-in-Some-clause-stands
returns-in-Some-clause-stands c = λ writes stood.
    let same : same_key (key_of c.args.write.now) c.args.key.now ≡ true = search rules in
    ap settle c.fold.ensures.record
    ∙ stands_over c.args.write.now c.of_write-newer.result c.args.key.now (Some c.in-Some.older) c.of_write-newer.ensures.stands same writes
    (ap settled (sym c.in-Some.is) ∙ stood)
