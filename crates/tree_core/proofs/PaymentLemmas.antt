-- A payment: what was planned, what its quantum requires, and the numbers that it leaves.
use Rattle.std.proofs.Common.{◌≡◌, ◌∙◌, ℕ, ◌+◌, ◌-◌, ◌^◌, ◌<◌, ◌≤◌, List, None, refl, ap, sym, subst, arith}
use Rattle.std.proofs.lemmas.Grind.{common_steps}
use Rattle.std.proofs.lemmas.Bool.Decides.{nat_tests}
use Rattle.std.specs.Prelude.{⊤, length, slice_index, slice_set, sum}
use Rattle.std.proofs.lemmas.List.{get_or-set_same}
use Rattle.blsm_model.specs.Format.{callers}
use Rattle.blsm_model.specs.Sizes.{Sizes}
use Rattle.blsm_model.specs.declared.history.Why.{Why}
use Rattle.blsm_model.specs.Facts.{Follows}
use Rattle.disk_trait.specs.Disk.{DiskState}
use Rattle.gear_sched.specs.Gears.{GearState, first_debt, second_debt, forgives_first, forgives_second, plan_for}
use Rattle.gear_sched.specs.declared.Plan.{Plan}
use Rattle.gear_sched.specs.declared.Plan.TheVariants.{Snow, Deep, Nothing}
use Rattle.pacing.proofs.Forgiven.{falls_at}
use Rattle.pacing.proofs.Payments.{snow_owed, deep_owed}
use Rattle.pacing.specs.Kept.{IsPaced}
use Rattle.pacing.specs.Pace.{Pace, Quantum, deep_over, pass_over, with_forgiven}
use Rattle.pacing.specs.Steps.{FitsPlan, IsDeep, IsQuantum, IsSnow, paid_by, plan_of}
use Rattle.paced_tree.specs.Made.{IsPaidBy}
use Rattle.tree_machine.specs.declared.step.Kind.TheVariants as kind
use Rattle.tree_machine.specs.Steps.{Answer, Paid, Settled}
use Rattle.seat_book.specs.Places.{HasWrite}
use Rattle.seat_book.specs.State.{BookState, paid_in, stopped_in, quantum_counted_in}
use Rattle.seat_book.specs.Seats.{KeepsSeats}
use Rattle.seat_book.proofs.KeepLemmas.{keeps_both, quantum_keeps, payment_keeps, stop_keeps}
use Rattle.core_moves.specs.declared.held.Held.{Held}
use Rattle.core_moves.specs.Held.{is_pass_over, is_deep_over}
use Rattle.core_moves.specs.Needs.{IsOn, IsReady}
use Rattle.core_moves.specs.Moves.{KeepsAllButMerges, with_book, with_debts_forgiven}
use Rattle.tree_runs.specs.Runs.{left_for_deep, left_for_pass}
use Rattle.core_pace.specs.Pacing.{HasPace, IsRunBook, IsPacedHeld}
use Rattle.core_pace.specs.Events.{TakesByPlan, plan_in}
use Rattle.core_pace.proofs.EventLemmas.{forgiving_is_paced}
use Rattle.core_pace.proofs.CallLemmas.{between_is_ready, between_fits, paced_is_between, plan_agrees, payers_owe, settling_is_paced}
use Rattle.core_pace.proofs.MadeLemmas.{failed_payment_is_told}
use Rattle.core_pace.proofs.PayLemmas.{each_plan_runs, payers_wrote, payment_is_paced}
use Rattle.tree_core.specs.Core.{HoldsPace, facts_of_held}
use Rattle.tree_core.specs.Quanta.{MayTake}
use Rattle.tree_core.specs.Steps.{MovesPace}
use Rattle.tree_core.proofs.QuantumLemmas.{holds_running, holds_stopped, on_rebooked, told_after_failure, LeavesDebts, debts_both, debts_forgiven, follows_by}

-- A caller's payment in a store that runs: what may be forgiven is, and something is owed still.
pub record Plans (seat : ℕ) (plan : Plan) (old forgiven : Held) : Type 0 where
  pub caller : seat < callers
  pub ran : old.book.stopped ≡ None
  pub is : forgiven ≡ with_debts_forgiven seat old
  pub plan_is : plan ≡ plan_in seat old
  pub owes : plan ≡ Nothing → ⊥

pub plans_by : (seat : ℕ) (plan : Plan) (old forgiven : Held) → seat < callers → None ≡ old.book.stopped → forgiven ≡ with_debts_forgiven seat old → plan ≡ plan_for (first_debt forgiven.gears seat) (second_debt forgiven.gears seat)
    → (plan ≡ Nothing → ⊥) → Plans seat plan old forgiven
plans_by seat plan old forgiven caller ran is plan_is owes = grind (arith, common_steps, nat_tests)

pub nothing_planned : (seat : ℕ) (plan : Plan) (old forgiven : Held) → forgiven ≡ with_debts_forgiven seat old → plan ≡ plan_for (first_debt forgiven.gears seat) (second_debt forgiven.gears seat) → plan ≡ Nothing → plan_in seat old ≡ Nothing
nothing_planned seat plan old forgiven is plan_is none = sym (ap (λ (h : Held). plan_for (first_debt h.gears seat) (second_debt h.gears seat)) is) ∙ sym plan_is ∙ none

-- ---- what its quantum requires

may_take : (seat : ℕ) (old : Held) (pace : Pace) (plan : Plan) → seat < callers → IsPacedHeld old pace → plan ≡ plan_in seat old → (plan ≡ Nothing → ⊥) → MayTake plan (with_debts_forgiven seat old)
may_take seat old pace Nothing caller k is owes = owes refl
may_take seat old pace Snow caller k is owes = ((each_plan_runs old pace seat k.numbers k.told.paced caller).pass (sym (is ∙ plan_agrees seat old pace k.numbers))).0
may_take seat old pace Deep caller k is owes = ((each_plan_runs old pace seat k.numbers k.told.paced caller).deep (sym (is ∙ plan_agrees seat old pace k.numbers))).0

pub quantum_may : (seat : ℕ) (plan : Plan) (old forgiven : Held) (pace : Pace) (d : DiskState) → Plans seat plan old forgiven → HoldsPace old pace d → MayTake plan forgiven
quantum_may seat plan old forgiven pace d p holds = subst (λ (h : Held). MayTake plan h) (sym p.is) (may_take seat old pace plan p.caller (holds.live p.ran).paced p.plan_is p.owes)

pub quantum_ready : (seat : ℕ) (plan : Plan) (old forgiven : Held) (pace : Pace) (d : DiskState) → Plans seat plan old forgiven → HoldsPace old pace d → IsReady forgiven d
quantum_ready seat plan old forgiven pace d p holds =
    let live = holds.live p.ran in
    let on : IsOn (with_debts_forgiven seat old) d = record { running = live.on.running; long = live.on.long } in
    subst (λ (h : Held). IsReady h d) (sym p.is) (between_is_ready (with_debts_forgiven seat old) (with_forgiven pace seat) d (forgiving_is_paced seat old pace p.caller live.paced).0 on)

-- ---- what it leaves

taken_book : (plan : Plan) (seat n : ℕ) (old taken : Held) → TakesByPlan plan seat n old taken → taken.book ≡ quantum_counted_in seat old.book
taken_book plan seat n old taken h1 = grind (arith, common_steps, nat_tests)

taken_debts : (plan : Plan) (seat n : ℕ) (old taken : Held) → TakesByPlan plan seat n old taken → LeavesDebts seat old.gears taken.gears
taken_debts plan seat n old taken h1 = grind (arith, common_steps, nat_tests)

-- The quantum was taken, and its book is the old one with a quantum more.
pub record Took (seat n : ℕ) (plan : Plan) (old forgiven taken : Held) : Type 0 where
  pub plans : Plans seat plan old forgiven
  pub takes : TakesByPlan plan seat n forgiven taken

pub takes_in : (seat n : ℕ) (plan : Plan) (old forgiven taken : Held) → Took seat n plan old forgiven taken → TakesByPlan (plan_in seat old) seat n (with_debts_forgiven seat old) taken
takes_in seat n plan old forgiven taken took = grind (arith, common_steps, nat_tests)

pub book_taken : (seat n : ℕ) (plan : Plan) (old forgiven taken : Held) → Took seat n plan old forgiven taken → taken.book ≡ quantum_counted_in seat old.book
book_taken seat n plan old forgiven taken took = taken_book (plan_in seat old) seat n (with_debts_forgiven seat old) taken (takes_in seat n plan old forgiven taken took)

pub payer_wrote : (seat n : ℕ) (plan : Plan) (old forgiven taken : Held) (pace : Pace) (d : DiskState) → Took seat n plan old forgiven taken → HoldsPace old pace d → HasWrite seat taken.book.book
payer_wrote seat n plan old forgiven taken pace d took holds =
    let live = holds.live took.plans.ran in
    subst (λ (b : BookState). HasWrite seat b.book) (sym (book_taken seat n plan old forgiven taken took))
    (payers_wrote old pace seat holds.told.told took.plans.caller (λ none. took.plans.owes (took.plans.plan_is ∙ plan_agrees seat old pace live.paced.numbers ∙ none)))

pub quanta_fit : (seat n : ℕ) (plan : Plan) (old forgiven taken : Held) (pace : Pace) (d : DiskState) → Took seat n plan old forgiven taken → HoldsPace old pace d → sum taken.book.book.quanta + 1 < 2 ^ 64
quanta_fit seat n plan old forgiven taken pace d took holds =
    subst (λ (b : BookState). sum b.book.quanta + 1 < 2 ^ 64) (sym (book_taken seat n plan old forgiven taken took))
    (between_fits old pace (paced_is_between old pace (holds.live took.plans.ran).paced)).small.entries

pub payment_moves : (seat n : ℕ) (plan : Plan) (old forgiven taken : Held) (b : BookState) (pace : Pace) (before after : DiskState) → Took seat n plan old forgiven taken → HoldsPace old pace before → IsOn taken after
    → b ≡ paid_in seat taken.book → MovesPace seat kind.Pay Paid (with_book b taken) after pace
payment_moves seat n plan old forgiven taken b pace before after took holds on counted =
    let k = (holds.live took.plans.ran).paced in
    let next = payment_is_paced seat n old taken (with_book b taken) pace k
    (record { caller = took.plans.caller; owes = payers_owe seat old (λ none. took.plans.owes (took.plans.plan_is ∙ none)) })
    (record { takes = takes_in seat n plan old forgiven taken took; counted = ap (λ (x : BookState). with_book x taken) counted }) in
    record { next = next.0; made = next.1; holds = holds_running (with_book b taken) next.0 after next.2 (on_rebooked taken b after on) }

pub payment_runs : (seat n : ℕ) (plan : Plan) (old forgiven taken : Held) (b : BookState) → Took seat n plan old forgiven taken → b ≡ paid_in seat taken.book → b.stopped ≡ None
payment_runs seat n plan old forgiven taken b took counted = grind (arith, common_steps, nat_tests)

pub payment_follows : (seat n : ℕ) (plan : Plan) (old forgiven taken : Held) (b : BookState) → Took seat n plan old forgiven taken → b ≡ paid_in seat taken.book
    → Follows seat (facts_of_held old) (facts_of_held (with_book b taken))
payment_follows seat n plan old forgiven taken b took counted = follows_by seat 0 1 old (with_book b taken) (omega arith) (omega arith) keeps debts
  where
    keeps : KeepsSeats seat 0 1 old.book b
    keeps =
        subst (λ (x : BookState). KeepsSeats seat 0 1 old.book x) (sym (counted ∙ ap (λ (x : BookState). paid_in seat x) (book_taken seat n plan old forgiven taken took)))
        (keeps_both seat 0 0 1 0 old.book (quantum_counted_in seat old.book) (paid_in seat (quantum_counted_in seat old.book)) (quantum_keeps seat old.book) (payment_keeps seat (quantum_counted_in seat old.book)))

    debts : LeavesDebts seat old.gears taken.gears
    debts = debts_both seat old.gears (with_debts_forgiven seat old).gears taken.gears (debts_forgiven seat old.gears (is_pass_over old) (is_deep_over old))
        (taken_debts (plan_in seat old) seat n (with_debts_forgiven seat old) taken (takes_in seat n plan old forgiven taken took))

-- ---- what is owed less

-- a quantum takes something of a merge that has something left
takes_some : (sizes : Sizes) (taken all left : ℕ) (quantum : Quantum) → 0 < sizes.quantum → taken + left ≡ all → 0 < left → IsQuantum sizes taken all quantum → 0 < quantum.took
takes_some sizes taken all left quantum size sum some is = grind (arith, common_steps, nat_tests)

-- so a debt falls by it
falls_by : (debts : List ℕ) (seat n : ℕ) → seat < length debts → 0 < n → 0 < slice_index debts seat → slice_index (slice_set debts seat (slice_index debts seat - n)) seat < slice_index debts seat
falls_by debts seat n there some owed = let now = get_or-set_same debts seat (slice_index debts seat - n) 0 there in omega (arith, now, some, owed)

pub payment_lessens : (seat : ℕ) (old new : Held) (pace : Pace) (before after : DiskState) → seat < callers → old.book.stopped ≡ None → new.book.stopped ≡ None → (plan_in seat old ≡ Nothing → ⊥) → HoldsPace old pace before
    → MovesPace seat kind.Pay Paid new after pace → first_debt new.gears seat + second_debt new.gears seat < first_debt old.gears seat + second_debt old.gears seat
payment_lessens seat old new pace before after caller ran runs owes holds moves =
    subst (λ (g : GearState). first_debt new.gears seat + second_debt new.gears seat < first_debt g seat + second_debt g seat) numbers.gears
    (subst (λ (g : GearState). first_debt g seat + second_debt g seat < first_debt pace.gears seat + second_debt pace.gears seat) (ap (λ (p : Pace). p.gears) (sym moves.made.2) ∙ (moves.holds.live runs).paced.numbers.gears)
    (by (plan_of (with_forgiven pace seat) seat) refl))
  where
    numbers : HasPace old pace
    numbers = (holds.live ran).paced.numbers

    kept : IsPaced (with_forgiven pace seat)
    kept = (forgiving_is_paced seat old pace caller (holds.live ran).paced).1

    size : 0 < pace.gears.sizes.quantum
    size = let fits = holds.told.told.paced.within.sizes.quantum in omega (arith, fits)

    first : first_debt (with_forgiven pace seat).gears seat ≤ first_debt pace.gears seat
    first = falls_at pace.gears.first_debts seat seat (forgives_first pace.gears (pass_over pace) (first_debt pace.gears seat))

    second : second_debt (with_forgiven pace seat).gears seat ≤ second_debt pace.gears seat
    second = falls_at pace.gears.second_debts seat seat (forgives_second pace.gears (deep_over pace) (second_debt pace.gears seat))

    by : (plan : Plan) → plan_of (with_forgiven pace seat) seat ≡ plan
        → first_debt (paid_by plan (with_forgiven pace seat) seat moves.made.0).gears seat + second_debt (paid_by plan (with_forgiven pace seat) seat moves.made.0).gears seat < first_debt pace.gears seat + second_debt pace.gears seat
    by Nothing is = absurd (owes (plan_agrees seat old pace numbers ∙ is))
    by Snow is =
        let goes = (each_plan_runs old pace seat numbers holds.told.told.paced caller).pass is in
        let fits : IsSnow (with_forgiven pace seat) moves.made.0 = subst (λ (plan : Plan). FitsPlan plan (with_forgiven pace seat) moves.made.0) is moves.made.1.fits in
        let some = takes_some pace.gears.sizes pace.gears.pass_taken (pace.a + pace.c1) (left_for_pass old.runs.pass old.log.a.entries) moves.made.0 size (numbers.pass_left goes.0) goes.1 fits.0 in
        let owed = snow_owed (first_debt (with_forgiven pace seat).gears seat) (second_debt (with_forgiven pace seat).gears seat) is in
        let less = falls_by (with_forgiven pace seat).gears.first_debts seat moves.made.0.took (omega (arith, kept.debts.first_seats, caller)) some owed in
        omega (arith, less, first, second)
    by Deep is =
        let goes = (each_plan_runs old pace seat numbers holds.told.told.paced caller).deep is in
        let fits : IsDeep (with_forgiven pace seat) moves.made.0 = subst (λ (plan : Plan). FitsPlan plan (with_forgiven pace seat) moves.made.0) is moves.made.1.fits in
        let some = takes_some pace.gears.sizes pace.gears.deep_taken (pace.c1x + pace.c2) (left_for_deep old.runs.deep) moves.made.0 size (numbers.deep_left goes.0) goes.1 fits in
        let owed = deep_owed (first_debt (with_forgiven pace seat).gears seat) (second_debt (with_forgiven pace seat).gears seat) is in
        let less = falls_by (with_forgiven pace seat).gears.second_debts seat moves.made.0.took (omega (arith, kept.debts.second_seats, caller)) some owed in
        omega (arith, less, first, second)

-- ---- nothing is owed

pub settling_moves : (seat : ℕ) (old forgiven : Held) (pace : Pace) (d : DiskState) → seat < callers → old.book.stopped ≡ None → HoldsPace old pace d → forgiven ≡ with_debts_forgiven seat old
    → MovesPace seat kind.Pay Settled forgiven d pace
settling_moves seat old forgiven pace d caller ran holds is =
    let live = holds.live ran in
    let on : IsOn (with_debts_forgiven seat old) d = record { running = live.on.running; long = live.on.long } in
    subst (λ (h : Held). MovesPace seat kind.Pay Settled h d pace) (sym is)
    (record { next = with_forgiven pace seat; made = refl; holds = holds_running (with_debts_forgiven seat old) (with_forgiven pace seat) d (settling_is_paced seat old pace caller live.paced) on })

pub settling_follows : (seat : ℕ) (old forgiven : Held) → forgiven ≡ with_debts_forgiven seat old → Follows seat (facts_of_held old) (facts_of_held forgiven)
settling_follows seat old forgiven is = grind (arith, common_steps, nat_tests)

-- ---- its quantum failed

-- its book is the old one, and stops
pub record FailedToTake (seat : ℕ) (plan : Plan) (why : Why) (old forgiven failed : Held) (b : BookState) : Type 0 where
  pub plans : Plans seat plan old forgiven
  pub kept : KeepsAllButMerges ⊤ forgiven failed
  pub stops : b ≡ stopped_in why failed.book

pub kept_of : (seat : ℕ) (plan : Plan) (why : Why) (old forgiven failed : Held) (b : BookState) → FailedToTake seat plan why old forgiven failed b → KeepsAllButMerges ⊤ (with_debts_forgiven seat old) failed
kept_of seat plan why old forgiven failed b f = subst (λ (h : Held). KeepsAllButMerges ⊤ h failed) f.plans.is f.kept

pub book_stopped : (seat : ℕ) (plan : Plan) (why : Why) (old forgiven failed : Held) (b : BookState) → FailedToTake seat plan why old forgiven failed b → b ≡ stopped_in why old.book
book_stopped seat plan why old forgiven failed b f = f.stops ∙ ap (λ (x : BookState). stopped_in why x) ((kept_of seat plan why old forgiven failed b f).book tt)

pub failed_payment_moves : (seat : ℕ) (plan : Plan) (why : Why) (old forgiven failed : Held) (b : BookState) (pace : Pace) (before after : DiskState) (answer : Answer) → FailedToTake seat plan why old forgiven failed b → HoldsPace old pace before
    → IsPaidBy answer seat pace (with_forgiven pace seat) → MovesPace seat kind.Pay answer (with_book b failed) after pace
failed_payment_moves seat plan why old forgiven failed b pace before after answer f holds made =
    let k = (holds.live f.plans.ran).paced in
    let kept = kept_of seat plan why old forgiven failed b f in
    let is = book_stopped seat plan why old forgiven failed b f in
    let between = (forgiving_is_paced seat old pace f.plans.caller k).0 in
    record {
      next = with_forgiven pace seat;
      made = made;
      holds = holds_stopped (with_book b failed) (with_forgiven pace seat) after why (ap (λ (x : BookState). x.stopped) is)
          (told_after_failure (with_debts_forgiven seat old) failed b (with_forgiven pace seat) kept between.numbers between.one (ap (λ (x : BookState). x.counts) is)
          (subst (λ (x : BookState). IsRunBook x (with_forgiven pace seat)) (sym f.stops) (failed_payment_is_told seat why old failed pace f.plans.caller k (kept.book tt))));
    }

pub failed_payment_follows : (seat : ℕ) (plan : Plan) (why : Why) (old forgiven failed : Held) (b : BookState) → FailedToTake seat plan why old forgiven failed b → Follows seat (facts_of_held old) (facts_of_held (with_book b failed))
failed_payment_follows seat plan why old forgiven failed b f =
    follows_by seat 0 0 old (with_book b failed) (omega arith) (omega arith)
    (subst (λ (x : BookState). KeepsSeats seat 0 0 old.book x) (sym (book_stopped seat plan why old forgiven failed b f)) (stop_keeps seat why old.book))
    (subst (λ (g : GearState). LeavesDebts seat old.gears g) (sym ((kept_of seat plan why old forgiven failed b f).gears tt)) (debts_forgiven seat old.gears (is_pass_over old) (is_deep_over old)))
