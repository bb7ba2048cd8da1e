use Rattle.std.specs.Prelude.{◌<◌, ◌≤◌, ◌+◌}
use Rattle.std.proofs.Common.{◌≡◌, ℕ, inl, inr, refl, subst, sym, arith}
use Rattle.blsm_model.specs.Format.{callers}
use Rattle.tree_machine.specs.Machine.{seats, turn_more}
use Rattle.turn_lock.specs.Callers.{Held as Caller}
use Rattle.tree_core.specs.Core.{CoreState}
use Rattle.tree_shared.specs.Seats.{KnowsOf, HasHelped}
use Rattle.tree_shared.specs.Runs.{turns_after}
use Rattle.tree_shared.proofs.CommandLemmas.{number_went, of_went, went_on}
use Rattle.tree_shared.proofs.JobLemmas.{turns_more}
use Rattle.tree_shared.proofs.jobs.worker.Goals as goal

one_more : {D : Type 0} (n before taken : ℕ) (c : Caller (CoreState D)) → KnowsOf (HasHelped (turn_more (turns_after n before)) (taken + n + 1)) c → KnowsOf (HasHelped (turns_after (n + 1) before) (taken + (n + 1))) c
one_more n before taken c knows =
    let same : taken + n + 1 ≡ taken + (n + 1) = omega arith in
    subst (λ (k : ℕ). KnowsOf (HasHelped (turns_after (n + 1) before) k) c) same (subst (λ (k : ℕ). KnowsOf (HasHelped k (taken + n + 1)) c) (turns_more n before) knows)

pub loop-turn-init : goal.loop-turn-init
loop-turn-init g c = (inl (refl, refl), λ before taken knows. subst (λ (n : ℕ). KnowsOf (HasHelped before n) c.args.caller.now) (omega arith) knows)

pub help-ended-requires-clause-lock : goal.help-ended-requires-clause-lock
help-ended-requires-clause-lock g c = of_went g.D.Disk.state c.args.lock.now c.args.caller.now c.loop-turn.caller _ c.requires.lock c.loop-turn.invariant.0

pub help-ended-requires-clause-number : goal.help-ended-requires-clause-number
help-ended-requires-clause-number g c = subst (λ (n : ℕ). (callers ≤ n) × (n < seats)) (sym (number_went g.D.Disk.state c.args.caller.now c.loop-turn.caller _ c.loop-turn.invariant.0)) c.requires.number

pub help-ended-requires-clause-knows : goal.help-ended-requires-clause-knows
help-ended-requires-clause-knows g c = (turns_after c.loop-turn._turn c.requires.knows.0, c.requires.knows.1 + c.loop-turn._turn, c.loop-turn.invariant.1 c.requires.knows.0 c.requires.knows.1 c.requires.knows.2)

pub loop-turn-preserved : goal.loop-turn-preserved
loop-turn-preserved g c = (
  went_on g.D.Disk.state c.args.caller.now c.loop-turn.caller c.help-ended.new.caller c.loop-turn.invariant.0 c.help-ended.ensures.did,
  λ before taken knows. one_more c.loop-turn._turn before taken c.help-ended.new.caller (c.help-ended.ensures.helped (turns_after c.loop-turn._turn before) (taken + c.loop-turn._turn) (c.loop-turn.invariant.1 before taken knows)),
)

pub returns-in_default : goal.returns-in_default
returns-in_default g c = record {
  went = went_on g.D.Disk.state c.args.caller.now c.loop-turn.caller c.help-ended.new.caller c.loop-turn.invariant.0 c.help-ended.ensures.did;
  counted = λ before taken knows. (
    c.loop-turn._turn + 1,
    omega arith,
    one_more c.loop-turn._turn before taken c.help-ended.new.caller (c.help-ended.ensures.helped (turns_after c.loop-turn._turn before) (taken + c.loop-turn._turn) (c.loop-turn.invariant.1 before taken knows)),
    inr (omega arith, c.help-ended.ensures.over (λ is. c.in_default.not-Worked is) (λ is. c.in_default.not-Idle is)),
  );
}

pub returns : goal.returns
returns g c =
    let all : c.loop-turn._turn ≡ c.args.turns = omega arith in
    record {
      went = c.loop-turn.invariant.0;
      counted = λ before taken knows. (
        c.args.turns,
        omega arith,
        subst (λ (k : ℕ). KnowsOf (HasHelped (turns_after k before) (taken + k)) c.loop-turn.caller) all (c.loop-turn.invariant.1 before taken knows),
        inl refl,
      );
    }
