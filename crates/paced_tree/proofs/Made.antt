-- What a step makes of the numbers keeps their laws.
use Rattle.std.proofs.Common.{◌≡◌, refl, sym, subst, ℕ, ◌<◌, Bool, true, false, inl, inr, arith}
use Rattle.std.proofs.lemmas.Grind.{common_steps}
use Rattle.std.proofs.lemmas.Bool.Decides.{nat_tests}
use Rattle.std.proofs.lemmas.Bool.{false≢true, true≢false}
use Rattle.blsm_model.specs.Format.{callers}
use Rattle.blsm_model.specs.Histories.{writes_of}
use Rattle.blsm_model.specs.Legal.{total_weight}
use Rattle.blsm_model.specs.declared.history.Reply.TheVariants.{Done, FaultLost, FaultUnsure}
use Rattle.gear_sched.specs.declared.Plan.TheVariants.{Nothing}
use Rattle.pacing.specs.Pace.{Pace}
use Rattle.pacing.specs.Counts.{IsCounted, AreFew}
use Rattle.pacing.specs.Kept.{IsPaced}
use Rattle.pacing.specs.Spent.{IsSpent}
use Rattle.pacing.specs.Steps.{Admit, Pay, Turn}
use Rattle.pacing.proofs.Counts.{step_counts, counted_few, moves_few, deep_counts, pay}
use Rattle.pacing.proofs.Promises.{moves_keep, forgiving_keeps}
use Rattle.pacing.proofs.Runs.{step_keeps}
use Rattle.pacing.proofs.Spent.{step_spends, moves_spend, forgave}
use Rattle.tree_machine.specs.declared.step.Kind.{Kind}
use Rattle.tree_machine.specs.declared.step.Kind.TheVariants as kind
use Rattle.tree_machine.specs.Machine.{Worked, Failed, BadPage}
use Rattle.tree_machine.specs.Steps as steps
use Rattle.tree_machine.specs.Steps.{Answer, Replied, Paid, Settled}
use Rattle.paced_tree.specs.Made.{IsMadeBy}
use Rattle.paced_tree.proofs.Terms.{no_quantum}

pub made_paced : (seat : ℕ) (k : Kind) (answer : Answer) (old new : Pace) → (k ≡ kind.Pay → seat < callers) → IsPaced old → IsMadeBy seat k answer old new → IsPaced new
made_paced seat (kind.Admit op) (Replied Done) old new pays k made = subst IsPaced (sym made.led) (step_keeps old (Admit seat made.written) k made.may)
made_paced seat (kind.Admit op) (Replied FaultLost) old new pays k made = elim made [ inl same ↦ subst IsPaced (sym same) k | inr settled ↦ subst IsPaced (sym settled) (moves_keep old 0 k).0 ]
made_paced seat (kind.Admit op) (Replied FaultUnsure) old new pays k made = subst IsPaced (sym made) (moves_keep old (total_weight (writes_of op)) k).2
made_paced seat (kind.Admit op) answer old new pays k made = subst IsPaced (sym made) k
made_paced seat kind.Pay Paid old new pays k made = subst IsPaced (sym made.2) (step_keeps old (Pay seat made.0) k made.1)
made_paced seat kind.Pay Settled old new pays k made = subst IsPaced (sym made) (forgiving_keeps old seat k (pays refl))
made_paced seat kind.Pay (steps.Turn Failed) old new pays k made = subst IsPaced (sym made) (forgiving_keeps old seat k (pays refl))
made_paced seat kind.Pay (steps.Turn (BadPage page)) old new pays k made = subst IsPaced (sym made) (forgiving_keeps old seat k (pays refl))
made_paced seat kind.Pay answer old new pays k made = subst IsPaced (sym made) k
made_paced seat kind.WorkTurn (steps.Turn Worked) old new pays k made = subst IsPaced (sym made.2) (step_keeps old (Turn seat made.0) k made.1)
made_paced seat kind.WorkTurn answer old new pays k made = subst IsPaced (sym made) k
made_paced seat kind.WorkerTurn (steps.Turn Worked) old new pays k made = subst IsPaced (sym made.2) (step_keeps old (Turn seat made.0) k made.1)
made_paced seat kind.WorkerTurn answer old new pays k made = subst IsPaced (sym made) k
made_paced seat kind answer old new pays k made = subst IsPaced (sym made) k

pub made_spends : (seat : ℕ) (k : Kind) (answer : Answer) (old new : Pace) → IsPaced old → IsSpent old → IsMadeBy seat k answer old new → IsSpent new
made_spends seat (kind.Admit op) (Replied Done) old new paced s made = subst IsSpent (sym made.led) (step_spends old (Admit seat made.written) paced s made.may)
made_spends seat (kind.Admit op) (Replied FaultLost) old new paced s made = elim made [ inl same ↦ subst IsSpent (sym same) s | inr settled ↦ subst IsSpent (sym settled) (moves_spend old 0 paced s).0 ]
made_spends seat (kind.Admit op) (Replied FaultUnsure) old new paced s made = subst IsSpent (sym made) (moves_spend old (total_weight (writes_of op)) paced s).1
made_spends seat (kind.Admit op) answer old new paced s made = subst IsSpent (sym made) s
made_spends seat kind.Pay Paid old new paced s made = subst IsSpent (sym made.2) (step_spends old (Pay seat made.0) paced s made.1)
made_spends seat kind.Pay Settled old new paced s made = subst IsSpent (sym made) (forgave old seat s)
made_spends seat kind.Pay (steps.Turn Failed) old new paced s made = subst IsSpent (sym made) (forgave old seat s)
made_spends seat kind.Pay (steps.Turn (BadPage page)) old new paced s made = subst IsSpent (sym made) (forgave old seat s)
made_spends seat kind.Pay answer old new paced s made = subst IsSpent (sym made) s
made_spends seat kind.WorkTurn (steps.Turn Worked) old new paced s made = subst IsSpent (sym made.2) (step_spends old (Turn seat made.0) paced s made.1)
made_spends seat kind.WorkTurn answer old new paced s made = subst IsSpent (sym made) s
made_spends seat kind.WorkerTurn (steps.Turn Worked) old new paced s made = subst IsSpent (sym made.2) (step_spends old (Turn seat made.0) paced s made.1)
made_spends seat kind.WorkerTurn answer old new paced s made = subst IsSpent (sym made) s
made_spends seat k answer old new paced s made = subst IsSpent (sym made) s

-- an admission that began a pass, and then failed to append its write
abbrev pub is_unsure : Kind → Answer → Bool
is_unsure (kind.Admit op) (Replied FaultUnsure) = true
is_unsure k answer = false

-- but for such a one it stays counted
pub made_counts : (seat : ℕ) (k : Kind) (answer : Answer) (old new : Pace) → IsPaced old → IsCounted old → IsMadeBy seat k answer old new → is_unsure k answer ≡ false → IsCounted new
made_counts seat (kind.Admit op) (Replied Done) old new paced c made sure = subst IsCounted (sym made.led) (step_counts old (Admit seat made.written) paced c made.may)
made_counts seat (kind.Admit op) (Replied FaultLost) old new paced c made sure = elim made [ inl same ↦ subst IsCounted (sym same) c | inr settled ↦ subst IsCounted (sym settled) (deep_counts old c) ]
made_counts seat (kind.Admit op) (Replied FaultUnsure) old new paced c made sure = absurd (true≢false sure)
made_counts seat (kind.Admit op) answer old new paced c made sure = subst IsCounted (sym made) c
made_counts seat kind.Pay Paid old new paced c made sure = subst IsCounted (sym made.2) (step_counts old (Pay seat made.0) paced c made.1)
made_counts seat kind.Pay Settled old new paced c made sure = subst IsCounted (sym made) (pay Nothing old seat no_quantum c)
made_counts seat kind.Pay (steps.Turn Failed) old new paced c made sure = subst IsCounted (sym made) (pay Nothing old seat no_quantum c)
made_counts seat kind.Pay (steps.Turn (BadPage page)) old new paced c made sure = subst IsCounted (sym made) (pay Nothing old seat no_quantum c)
made_counts seat kind.Pay answer old new paced c made sure = subst IsCounted (sym made) c
made_counts seat kind.WorkTurn (steps.Turn Worked) old new paced c made sure = subst IsCounted (sym made.2) (step_counts old (Turn seat made.0) paced c made.1)
made_counts seat kind.WorkTurn answer old new paced c made sure = subst IsCounted (sym made) c
made_counts seat kind.WorkerTurn (steps.Turn Worked) old new paced c made sure = subst IsCounted (sym made.2) (step_counts old (Turn seat made.0) paced c made.1)
made_counts seat kind.WorkerTurn answer old new paced c made sure = subst IsCounted (sym made) c
made_counts seat k answer old new paced c made sure = subst IsCounted (sym made) c

unsure_few : (seat : ℕ) (k : Kind) (answer : Answer) (old new : Pace) → IsPaced old → IsCounted old → IsMadeBy seat k answer old new → is_unsure k answer ≡ true → AreFew new
unsure_few seat (kind.Admit op) (Replied FaultUnsure) old new paced c made is = subst AreFew (sym made) (moves_few old (total_weight (writes_of op)) paced c).1
unsure_few seat (kind.Admit op) (Replied Done) old new paced c made is = absurd (false≢true is)
unsure_few seat (kind.Admit op) (Replied FaultLost) old new paced c made is = absurd (false≢true is)
unsure_few seat k answer old new paced c made is = grind (arith, common_steps, nat_tests)

-- and few in any case
pub made_few : (seat : ℕ) (k : Kind) (answer : Answer) (old new : Pace) → IsPaced old → IsCounted old → IsMadeBy seat k answer old new → AreFew new
made_few seat k answer old new paced c made = by (is_unsure k answer) refl
  where
    by : (b : Bool) → is_unsure k answer ≡ b → AreFew new
    by true is = unsure_few seat k answer old new paced c made is
    by false is = counted_few new (made_counts seat k answer old new paced c made is)
