-- A payment, as one call of the core.
use Rattle.std.specs.Prelude.{◌≡◌, ℕ, ◌+◌, ◌/◌, ◌<◌, ◌^◌, true, List, None, Some, Ok, Err, IfOk, IsErr, IsTrue}
use Rattle.std.specs.declared.result.Result.{Result}
use Rattle.std.proofs.Common.{◌∙◌, refl, ap, sym, subst, arith}
use Rattle.blsm_model.specs.Facts.{Follows}
use Rattle.blsm_model.specs.Format.{callers}
use Rattle.blsm_model.specs.Geometry.{file_length}
use Rattle.blsm_model.specs.declared.history.Why.{Why}
use Rattle.blsm_model.specs.declared.history.Why.TheVariants.{Faulted, BadPage}
use Rattle.blsm_model.specs.declared.key.Key.{Key}
use Rattle.blsm_model.specs.declared.row.Value.{Value}
use Rattle.disk_trait.specs.Disk.{DiskState, TellsFaultsBy}
use Rattle.disk_trait.specs.Effects.{Affects}
use Rattle.disk_trait.proofs.EffectLemmas.{affects_start}
use Rattle.disk_trait.specs.Moments.{IsTimed}
use Rattle.gear_sched.specs.Gears.{first_debt, plan_for, second_debt}
use Rattle.gear_sched.specs.declared.Plan.{Plan}
use Rattle.gear_sched.specs.declared.Plan.TheVariants.{Nothing}
use Rattle.page_file.specs.declared.file.Broken.{Broken}
use Rattle.page_file.specs.declared.file.Broken.TheVariants.{Fault, Damaged}
use Rattle.pacing.specs.Pace.{Pace}
use Rattle.scan_view.specs.Pins.{beside_pins}
use Rattle.seat_book.specs.State.{BookState, paid_in, stopped_in}
use Rattle.seat_book.proofs.KeepLemmas.{keeps_itself}
use Rattle.tree_file.specs.Tree.{Tree}
use Rattle.tree_machine.specs.Machine as machine
use Rattle.tree_machine.specs.Machine.{Machine}
use Rattle.tree_machine.specs.Plays.{may}
use Rattle.tree_machine.specs.Steps.{Answer, Paid, Settled, Turn}
use Rattle.tree_machine.specs.declared.step.Kind.TheVariants as kind
use Rattle.core_lists.proofs.WeighLemmas.{all_ahead}
use Rattle.tree_runs.specs.Holding.{HasAllAhead, StandOver}
use Rattle.core_moves.specs.declared.held.Held.{Held}
use Rattle.core_moves.specs.Moves.{KeepsAllButMerges, with_book, with_debts_forgiven}
use Rattle.core_moves.specs.Needs.{IsOn}
use Rattle.core_pace.specs.Events.{TakesByPlan}
use Rattle.tree_core.specs.Calls.{BesideHolds, GoesOnAs, Pays}
use Rattle.tree_core.specs.Causes.{IsDamageAhead}
use Rattle.tree_core.specs.Core.{CoreState, HoldsPace, IsCore, facts_of_held}
use Rattle.tree_core.specs.Quanta.{LeavesTaken}
use Rattle.tree_core.specs.Standing.{AnyRows}
use Rattle.tree_core.specs.Steps.{IsStep, MovesPace}
use Rattle.tree_core.specs.declared.answers.Payment.TheVariants as payment
use Rattle.tree_core.proofs.BoundLemmas.{rose as has_risen}
use Rattle.tree_core.proofs.KeepLemmas.{forgiven_keeps_pins, quantum_keeps_pins, then_pins, no_commits, commits_beside}
use Rattle.tree_core.proofs.LastLemmas.{goes_on_by, may_leave}
use Rattle.tree_core.proofs.NotingLemmas.{failed_payment_counts, payment_counts, plans_nothing, settling_counts}
use Rattle.tree_core.proofs.PaymentLemmas.{FailedToTake, Plans, Took, failed_payment_follows, failed_payment_moves, nothing_planned, payment_follows, payment_lessens, payment_moves, payment_runs, settling_follows, settling_moves}
use Rattle.tree_core.proofs.PaymentSteps.{ahead_forgiven, failed_payment_step, halted_payment, never_damaged, paid_step, settled_payment}
use Rattle.tree_core.proofs.PaymentSteps.{stands_forgiven}
use Rattle.tree_core.proofs.QuantumLemmas.{debts_stay, follows_by, kept_once}
use Rattle.tree_core.proofs.QuantumSteps.{RunsAt, running_at}
use Rattle.tree_core.specs.Notes.{CountsCommits, rotations}
use Rattle.std.proofs.lemmas.Grind.{common_steps}
use Rattle.std.proofs.lemmas.Bool.Decides.{nat_tests}

-- ---- without a quantum

pub pay_halted : {D : Type 0} (state : D → DiskState) (seat : ℕ) (why : Why) (old : CoreState D) → IsCore old.held (state old.disk) → IsTimed (state old.disk) → seat < callers → old.held.book.stopped ≡ Some why
    → Pays state seat (payment.Stopped why) old old
pay_halted state seat why old core timed caller stopped =
    let goes = goes_on_by {end = 0} {most = 0} state seat kind.Pay (Turn (machine.Halted why)) old old core timed refl (may_leave seat caller) (record { holds = refl; pins = refl; sizes = refl }) (no_commits old.held old.held refl refl) (affects_start (state old.disk) timed)
    (follows_by seat 0 0 old.held old.held (omega arith) (omega arith) (keeps_itself seat old.held.book) (debts_stay seat old.held.gears)) (λ pace holds. record { next = pace; made = refl; holds = holds })
    (λ opening m honest s ok. halted_payment opening seat why old.held m (state old.disk) timed honest stopped s ok) in
    record {
      goes = goes.0;
      beside = goes.1;
      cause = (stopped, refl);
      counts = record { annals = refl; work = refl };
      settles = tt;
      lessens = tt;
      effect = affects_start (state old.disk) timed;
      untouched = λ none. refl;
    }

pub pay_settled : {D : Type 0} (state : D → DiskState) (seat : ℕ) (plan : Plan) (old : CoreState D) (forgiven : Held) → IsCore old.held (state old.disk) → IsTimed (state old.disk) → seat < callers → old.held.book.stopped ≡ None
    → forgiven ≡ with_debts_forgiven seat old.held → plan ≡ plan_for (first_debt forgiven.gears seat) (second_debt forgiven.gears seat) → plan ≡ Nothing → Pays state seat payment.Settled old (record old { held = forgiven })
pay_settled state seat plan old forgiven core timed caller ran is plan_is none =
    let d = state old.disk in
    let nothing = nothing_planned seat plan old.held forgiven is plan_is none in
    let pins = forgiven_keeps_pins seat old.held forgiven is in
    let goes = goes_on_by {end = 0} {most = 0} state seat kind.Pay Settled old (record old { held = forgiven }) core timed refl (may_leave seat caller) (record { holds = refl; pins = pins.pins; sizes = pins.sizes }) pins.commits (affects_start d timed) (settling_follows seat old.held forgiven is)
    (λ pace holds. settling_moves seat old.held forgiven pace d caller ran holds is) (λ opening m honest s ok. settled_payment opening seat old.held forgiven m core.pace d timed ran core.holds s ok is nothing) in
    record {
      goes = goes.0;
      beside = goes.1;
      cause = (ran, nothing, is);
      counts = settling_counts seat old.held forgiven is;
      settles = plans_nothing (first_debt forgiven.gears seat) (second_debt forgiven.gears seat) (sym plan_is ∙ none);
      lessens = tt;
      effect = affects_start d timed;
      untouched = λ still. refl;
    }

-- ---- a quantum

-- What it made of the core, however it ended.
pub record Paying {D : Type 0} (state : D → DiskState) (seat : ℕ) (plan : Plan) (result : Result ℕ Broken) (old : CoreState D) (forgiven taken : Held) (disk : D) : Type 0 where
  pub core : IsCore old.held (state old.disk)
  pub timed : IsTimed (state disk)
  pub plans : Plans seat plan old.held forgiven
  pub takes : IfOk result (λ n. TakesByPlan plan seat n forgiven taken)
  pub kept : KeepsAllButMerges (IsErr result) forgiven taken
  pub told : TellsFaultsBy (Err Fault) result (state old.disk) (state disk)
  pub effect : Affects (beside_pins forgiven.runs.sizes forgiven.runs.space.pins) (file_length forgiven.runs.sizes) (forgiven.runs.sizes.quantum / 4 + 3) (state old.disk) (state disk)
  pub ahead : (n : ℕ) → result ≡ Err (Damaged n) → IsTrue (state old.disk).tells_bytes → IsDamageAhead plan taken.runs n (state disk).bytes
  pub lists : (tree : Tree) → IsTrue (state old.disk).is_honest → StandOver forgiven.runs tree (state old.disk)
      → HasAllAhead forgiven.runs.pass forgiven.log.a.entries tree → LeavesTaken plan result forgiven taken tree (state old.disk) (state disk)

-- a payment rotates nothing
pay_rotates : (answer : Answer) (held : Held) → rotations answer kind.Pay held ≡ 0
pay_rotates answer held = grind (arith, common_steps, nat_tests)

module _ {D : Type 0} (state : D → DiskState) (seat : ℕ) (plan : Plan) (result : Result ℕ Broken) (old : CoreState D) (forgiven taken : Held) (disk : D) (t : Paying state seat plan result old forgiven taken disk) where
  paying_effect : Affects (beside_pins old.held.runs.sizes old.held.runs.space.pins) (file_length old.held.runs.sizes) (old.held.runs.sizes.quantum / 4 + 3) (state old.disk) (state disk)
  paying_effect = subst (λ (h : Held). Affects (beside_pins h.runs.sizes h.runs.space.pins) (file_length h.runs.sizes) (h.runs.sizes.quantum / 4 + 3) (state old.disk) (state disk)) t.plans.is t.effect

  paying_goes : (answer : Answer) (b : BookState) → b.counts ≡ taken.book.counts → Follows seat (facts_of_held old.held) (facts_of_held (with_book b taken))
      → ((pace : Pace) → HoldsPace old.held pace (state old.disk) → MovesPace seat kind.Pay answer (with_book b taken) (state disk) pace)
      → ((opening : List (Key × Value)) (m : Machine) (tree : Tree) → RunsAt opening old.held m (state old.disk) tree → may m seat kind.Pay ≡ true → LeavesTaken plan result forgiven taken tree (state old.disk) (state disk)
      → IsStep AnyRows opening seat kind.Pay answer (with_book b taken) (state old.disk) (state disk) m)
      → GoesOnAs state seat kind.Pay answer old (record { disk = disk; held = with_book b taken; holds = old.holds }) × BesideHolds state seat kind.Pay answer old (record { disk = disk; held = with_book b taken; holds = old.holds })
  paying_goes answer b counts follows numbers steps =
      let pins = then_pins old.held forgiven taken (forgiven_keeps_pins seat old.held forgiven t.plans.is) (quantum_keeps_pins plan result seat forgiven taken t.takes t.kept) in
      goes_on_by state seat kind.Pay answer old _ t.core t.timed refl (may_leave seat t.plans.caller) (record { holds = refl; pins = pins.pins; sizes = pins.sizes }) (subst (λ (n : ℕ). CountsCommits n old.held (with_book b taken)) (sym (pay_rotates answer old.held)) (commits_beside 0 old.held taken b counts pins.commits)) paying_effect follows numbers
      (λ opening m honest s ok.
      let ran = t.plans.ran in
      let k = (t.core.holds.live ran).paced in
      let tree = (s.runs ran).tree in
      let r = running_at opening old.held m (state old.disk) t.core.pace s ran k.numbers k.one in
      steps opening m tree r ok (t.lists tree honest (stands_forgiven seat old.held forgiven tree (state old.disk) t.plans.is r.over)
      (ahead_forgiven seat old.held forgiven tree t.plans.is (all_ahead old.held tree r.one r.holds.of_log))))

pub pay_taken : {D : Type 0} (state : D → DiskState) (seat n : ℕ) (plan : Plan) (old : CoreState D) (forgiven taken : Held) (disk : D) (b : BookState) → Paying state seat plan (Ok n) old forgiven taken disk → IsOn taken (state disk)
    → b ≡ paid_in seat taken.book → Pays state seat payment.Paid old (record { disk = disk; held = with_book b taken; holds = old.holds })
pay_taken {D} state seat n plan old forgiven taken disk b t on counted = record {
  goes = goes.0;
  beside = goes.1;
  cause = (record { ran = p.ran; runs = runs; faults = t.told.stands (λ same. cc same) }, λ none. p.owes (p.plan_is ∙ none));
  counts = payment_counts seat n plan old.held forgiven taken b took counted;
  settles = tt;
  lessens = payment_lessens seat old.held (with_book b taken) t.core.pace before after p.caller p.ran runs (λ none. p.owes (p.plan_is ∙ none)) t.core.holds (moves t.core.pace t.core.holds);
  effect = paying_effect state seat plan (Ok n) old forgiven taken disk t;
  untouched = λ none. absurd none;
}
  where
    before : DiskState
    before = state old.disk

    after : DiskState
    after = state disk

    p : Plans seat plan old.held forgiven
    p = t.plans

    took : Took seat n plan old.held forgiven taken
    took = record { plans = t.plans; takes = t.takes }

    moves : (pace : Pace) → HoldsPace old.held pace (state old.disk) → MovesPace seat kind.Pay Paid (with_book b taken) (state disk) pace
    moves pace holds = payment_moves seat n plan old.held forgiven taken b pace (state old.disk) (state disk) took holds on counted

    runs : b.stopped ≡ None
    runs = payment_runs seat n plan old.held forgiven taken b took counted

    goes : GoesOnAs state seat kind.Pay Paid old (record { disk = disk; held = with_book b taken; holds = old.holds }) × BesideHolds state seat kind.Pay Paid old (record { disk = disk; held = with_book b taken; holds = old.holds })
    goes = paying_goes state seat plan (Ok n) old forgiven taken disk t Paid b (ap (λ (x : BookState). x.counts) counted) (payment_follows seat n plan old.held forgiven taken b took counted) (λ pace holds. moves pace holds)
        (λ opening m tree r ok leaves. paid_step opening seat n plan old.held forgiven taken b m (moves t.core.pace t.core.holds).next before after tree (Ok n) took counted r
        ((moves t.core.pace t.core.holds).holds.live runs).paced ok refl leaves)

-- a call of the disk failed, or a page was found damaged
fails : {D : Type 0} (state : D → DiskState) (seat : ℕ) (plan : Plan) (broken : Broken) (why : Why) (old : CoreState D) (forgiven taken : Held) (disk : D) (b : BookState) → Paying state seat plan (Err broken) old forgiven taken disk
    → b ≡ stopped_in why taken.book → FailedToTake seat plan why old.held forgiven taken b
fails state seat plan broken why old forgiven taken disk b t stops = record { plans = t.plans; kept = kept_once forgiven taken refl t.kept; stops = stops }

pub pay_failed : {D : Type 0} (state : D → DiskState) (seat faults : ℕ) (plan : Plan) (broken : Broken) (old : CoreState D) (forgiven taken : Held) (disk : D) (b : BookState) → Paying state seat plan (Err broken) old forgiven taken disk → broken ≡ Fault
    → faults ≡ (state disk).faults → (state disk).faults < 2 ^ 64 → b ≡ stopped_in (Faulted faults) taken.book → Pays state seat payment.Fault old (record { disk = disk; held = with_book b taken; holds = old.holds })
pay_failed state seat faults plan broken old forgiven taken disk b t is counted few stops =
    let before = state old.disk in
    let after = state disk in
    let f = fails state seat plan broken (Faulted faults) old forgiven taken disk b t stops in
    let notes = failed_payment_counts seat plan (Faulted faults) old.held forgiven taken b f in
    let risen = t.told.failed (ap (λ (x : Broken). Err x) is) in
    let goes = paying_goes state seat plan (Err broken) old forgiven taken disk t (Turn machine.Failed) b (ap (λ (x : BookState). x.counts) stops) (failed_payment_follows seat plan (Faulted faults) old.held forgiven taken b f)
    (λ pace holds. failed_payment_moves seat plan (Faulted faults) old.held forgiven taken b pace before after (Turn machine.Failed) f holds refl)
    (λ opening m tree r ok leaves. failed_payment_step opening seat faults plan old.held forgiven taken b m before after tree (Err broken) f r ok counted (has_risen before.faults after.faults t.effect.goes_on.faults few risen) leaves) in
    record {
      goes = goes.0;
      beside = goes.1;
      cause = record { ran = t.plans.ran; faults = risen; stopped = ap (λ (x : BookState). x.stopped) stops ∙ ap (λ (n : ℕ). Some (Faulted n)) counted };
      counts = record { annals = notes.annals; work = notes.work };
      settles = tt;
      lessens = tt;
      effect = paying_effect state seat plan (Err broken) old forgiven taken disk t;
      untouched = λ none. absurd none;
    }

pub pay_damaged : {D : Type 0} (state : D → DiskState) (seat page : ℕ) (plan : Plan) (broken : Broken) (old : CoreState D) (forgiven taken : Held) (disk : D) (b : BookState) → Paying state seat plan (Err broken) old forgiven taken disk → broken ≡ Damaged page
    → b ≡ stopped_in (BadPage page) taken.book → Pays state seat (payment.Damaged page) old (record { disk = disk; held = with_book b taken; holds = old.holds })
pay_damaged state seat page plan broken old forgiven taken disk b t is stops =
    let before = state old.disk in
    let after = state disk in
    let f = fails state seat plan broken (BadPage page) old forgiven taken disk b t stops in
    let notes = failed_payment_counts seat plan (BadPage page) old.held forgiven taken b f in
    let goes = paying_goes state seat plan (Err broken) old forgiven taken disk t (Turn (machine.BadPage page)) b (ap (λ (x : BookState). x.counts) stops) (failed_payment_follows seat plan (BadPage page) old.held forgiven taken b f)
    (λ pace holds. failed_payment_moves seat plan (BadPage page) old.held forgiven taken b pace before after (Turn (machine.BadPage page)) f holds refl)
    (λ opening m tree r ok leaves. absurd (never_damaged plan page forgiven taken tree before after (Err broken) (ap (λ (x : Broken). Err x) is) leaves)) in
    record {
      goes = goes.0;
      beside = goes.1;
      cause = record { ran = t.plans.ran; faults = t.told.stands (λ same. cc (same, is)); stopped = ap (λ (x : BookState). x.stopped) stops; ahead = λ tells. subst (λ (p : Plan). IsDamageAhead p taken.runs page after.bytes) t.plans.plan_is (t.ahead page (ap (λ (x : Broken). Err x) is) tells) };
      counts = record { annals = notes.annals; work = notes.work };
      settles = tt;
      lessens = tt;
      effect = paying_effect state seat plan (Err broken) old forgiven taken disk t;
      untouched = λ none. absurd none;
    }
