use Rattle.std.proofs.Common.{rules}
use Rattle.script_text.specs.Grammar.{IsBadLine}
use Rattle.script_text.specs.Script.{IfBad}
use Rattle.script_text.proofs.GrammarLaws.{only_reading, only_bad}
use Rattle.script_text.proofs.script.read_script.Goals as goal

pub returns-in_err-lines-clause-only_bad : goal.returns-in_err-lines-clause-only_bad
returns-in_err-lines-clause-only_bad c =
    let bad : IfBad c.from_residual.result (IsBadLine c.args.text.now) = search rules in
    only_bad c.args.text.now c.from_residual.result bad

pub returns-clause-only_script : goal.returns-clause-only_script
returns-clause-only_script c = only_reading c.args.text.now c.in_ok-lines.lines.items c.in_ok-lines.ensures.script
