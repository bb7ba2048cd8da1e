use Rattle.std.proofs.Common.{◌≡◌, ℕ, [], subst, arith}
use Rattle.tree_shared.specs.Seats.{KnowsOf, IsWorking}
use Rattle.tree_shared.proofs.CommandLemmas.{comes_on, went_on, works_all}
use Rattle.tree_shared.proofs.commands.turns.Goals as goal

pub turn-requires-clause-comes : goal.turn-requires-clause-comes
turn-requires-clause-comes g c =
    let had = c.loop-done.invariant.1 1 0 c.requires.comes.knows in
    comes_on g.D.Disk.state [] c.requires.comes c.loop-done.invariant.0 (record { value = had.value; more = had.more; own = had.own; part = ((omega arith, omega arith), had.part.1, had.part.2) })

pub loop-done-preserved : goal.loop-done-preserved
loop-done-preserved g c =
    (went_on g.D.Disk.state c.args.caller.now c.loop-done.caller c.turn.new.caller c.loop-done.invariant.0 c.turn.ensures.did, λ entries rows knows. c.turn.ensures.working entries rows (c.loop-done.invariant.1 entries rows knows))

pub returns-in_default : goal.returns-in_default
returns-in_default g c = record {
  went = went_on g.D.Disk.state c.args.caller.now c.loop-done.caller c.turn.new.caller c.loop-done.invariant.0 c.turn.ensures.did;
  finished = λ entries rows knows. c.turn.ensures.early (λ is. c.in_default.not-Worked is) c.args.n entries rows (omega arith) (c.loop-done.invariant.1 entries rows knows);
}

pub returns-clause-finished : goal.returns-clause-finished
returns-clause-finished g c = λ entries rows knows.
    let all : c.loop-done.done ≡ c.args.n = omega arith in
    works_all c.args.n entries rows c.loop-done.caller (subst (λ (k : ℕ). KnowsOf (IsWorking k entries rows) c.loop-done.caller) all (c.loop-done.invariant.1 entries rows knows))
