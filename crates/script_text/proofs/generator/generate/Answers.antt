use Rattle.std.proofs.Common.{◌-◌, List, length, refl, sym, subst, arith, length-append}
use Rattle.blsm_model.specs.declared.history.Line.{Line}
use Rattle.script_text.specs.Grammar.{AreLines}
use Rattle.script_text.specs.Generated.{generated}
use Rattle.script_text.proofs.GeneratedLaws.{made_all, made_lines, made_more}
use Rattle.script_text.proofs.generator.generate.Goals as goal

pub loop-generator-preserved : goal.loop-generator-preserved
loop-generator-preserved c =
    let lines = c.loop-generator.lines.items in
    let pushed = c.push_line.ensures.lines in
    record {
      few = rw pushed (omega (arith, length-append {A = Line}));
      room = omega (arith, c.push_line.ensures.capacity, c.loop-generator.invariant.room);
      whole = rw (pushed, c.push_line.ensures.state) (made_more lines (generated c.args.seed c.args.count) _ c.loop-generator.generator.state _ (c.args.count - length lines) (omega (arith, length-append {A = Line})) refl c.loop-generator.invariant.whole);
    }

pub from_lines-requires : goal.from_lines-requires
from_lines-requires c =
    let same = made_all c.loop-generator.lines.items (generated c.args.seed c.args.count) c.loop-generator.generator.state (c.args.count - length c.loop-generator.lines.items) (omega arith) c.loop-generator.invariant.whole in
    subst (λ (lines : List Line). AreLines lines) (sym same) (made_lines c.args.seed c.args.count (omega arith))

pub returns : goal.returns
returns c =
    let same = made_all c.loop-generator.lines.items (generated c.args.seed c.args.count) c.loop-generator.generator.state (c.args.count - length c.loop-generator.lines.items) (omega arith) c.loop-generator.invariant.whole in
    cc
