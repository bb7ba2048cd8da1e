use Rattle.std.specs.Prelude.{◌<◌}
use Rattle.std.proofs.Common.{◌∙◌, ℕ, subst, sym, arith}
use Rattle.blsm_model.specs.Format.{callers}
use Rattle.blsm_model.specs.declared.history.Line.{Line}
use Rattle.tree_session.specs.Lines.{IsRunnable}
use Rattle.tree_shared.proofs.CommandLemmas.{number_went, of_went}
use Rattle.tree_shared.proofs.LineLemmas.{going_none, going_on, may_do}
use Rattle.tree_shared.proofs.jobs.do_lines.Goals as goal

pub loop-line-init : goal.loop-line-init
loop-line-init g c = going_none g.D.Disk.state c.args.script.now c.args.caller.now c.requires.comes.knows

pub do_line-requires : goal.do_line-requires
do_line-requires g c =
    let number = number_went g.D.Disk.state c.args.caller.now c.loop-line.caller c.loop-line.invariant.ran.entries c.loop-line.invariant.ran.went in
    record {
      lock = of_went g.D.Disk.state c.args.lock.now c.args.caller.now c.loop-line.caller c.loop-line.invariant.ran.entries c.requires.comes.of_lock c.loop-line.invariant.ran.went;
      number = subst (λ (n : ℕ). n < callers) (sym number) c.requires.comes.number;
      command = (subst (λ (l : Line). IsRunnable l) (sym c.line-item.is) (c.requires.runnable c.loop-line.line-index c.line-item.result (omega arith))).command;
      free = λ own. may_do g.D.Disk.state c.args.script.now c.args.caller.now c.loop-line.line-index c.line-item.result (omega arith) c.line-item.is c.loop-line.caller c.loop-line.invariant (own ∙ number);
    }

pub loop-line-preserved : goal.loop-line-preserved
loop-line-preserved g c =
    going_on g.D.Disk.state c.args.script.now c.args.caller.now c.loop-line.line-index c.line-item.result (omega arith) c.line-item.is c.loop-line.caller c.do_line.new.caller
    (number_went g.D.Disk.state c.args.caller.now c.loop-line.caller c.loop-line.invariant.ran.entries c.loop-line.invariant.ran.went) c.loop-line.invariant c.do_line.ensures.other c.do_line.ensures.its
