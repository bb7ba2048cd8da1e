use Rattle.std.proofs.Common.{arith, ap, length}
use Rattle.std.specs.Prelude.{List}
use Rattle.blsm_model.specs.declared.history.Entry.{Entry}
use Rattle.core_chain.proofs.ReplyLemmas.{chain_notes}
use Rattle.core_chain.proofs.laws.calls_note.Goals as goal

pub returns : goal.returns
returns g c = λ calls start front behind e none are is.
    chain_notes g.D.Disk.state calls start c.args.core.now front behind e are is (let first = ap (λ (es : List Entry). length es) none in omega (arith, first))
