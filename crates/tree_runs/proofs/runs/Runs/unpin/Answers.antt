use Rattle.std.proofs.Common.{◌≡◌, sym, subst}
use Rattle.tree_runs.specs.Runs.{RunsState, AreRunning}
use Rattle.tree_runs.specs.Holding.{AreOf}
use Rattle.tree_runs.proofs.HoldLemmas.{Repinned, Unpins, dropped_repinned, running_repinned, lists_repinned}
use Rattle.tree_runs.proofs.runs.Runs.unpin.Goals as goal

repinned : (c : goal.After-unpin) → Repinned c.args.self.now c.unpin.new.self
repinned c =
    let e = c.unpin.ensures in
    dropped_repinned c.args.self.now c.unpin.new.self c.args.seat c.requires.runs
    (subst (λ (s : RunsState). Unpins c.args.seat s.space c.unpin.new.self) c.self.view_is (record { this = e.this; others = e.others; roles = e.roles; pages = e.pages; shape = e.shape; size = e.size }))

pub returns-clause-running : goal.returns-clause-running
returns-clause-running c = λ honest file running.
    subst (λ (s : RunsState). AreRunning honest file (record s { space = c.unpin.new.self })) (sym c.self.view_is)
    (running_repinned c.args.self.now c.unpin.new.self (repinned c) honest file running)

pub returns-clause-lists : goal.returns-clause-lists
returns-clause-lists c = λ tree file of.
    subst (λ (s : RunsState). AreOf (record s { space = c.unpin.new.self }) tree file) (sym c.self.view_is)
    (lists_repinned c.args.self.now c.unpin.new.self (subst (λ (s : RunsState). c.unpin.new.self.roles ≡ s.space.roles) c.self.view_is c.unpin.ensures.roles) tree file of)
