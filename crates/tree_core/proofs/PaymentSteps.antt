-- On an honest disk a payment is the machine's own step.
use Rattle.std.proofs.Common.{◌≡◌, ◌∙◌, inl, ℕ, ◌+◌, true, not, ◌&&◌, List, Some, None, Option, Ok, Err, refl, ap, sym, subst, arith}
use Rattle.std.proofs.lemmas.Grind.{common_steps}
use Rattle.std.proofs.lemmas.Bool.Decides.{nat_tests}
use Rattle.std.specs.Prelude.{IsTrue, is_some, nat_lt}
use Rattle.std.specs.declared.result.Result.{Result}
use Rattle.blsm_model.specs.declared.key.Key.{Key}
use Rattle.blsm_model.specs.declared.row.Value.{Value}
use Rattle.blsm_model.specs.declared.history.Why.{Why}
use Rattle.blsm_model.specs.declared.history.Why.TheVariants.{Faulted}
use Rattle.disk_trait.specs.Disk.{DiskState}
use Rattle.disk_trait.specs.Moments.{IsTimed}
use Rattle.disk_trait.proofs.MomentLemmas.{leaves_only_start}
use Rattle.gear_sched.specs.Gears.{GearState, first_debt, second_debt, plan_for}
use Rattle.gear_sched.specs.declared.Plan.{Plan}
use Rattle.gear_sched.specs.declared.Plan.TheVariants.{Nothing}
use Rattle.page_file.specs.declared.file.Broken.{Broken}
use Rattle.page_file.specs.declared.file.Broken.TheVariants.{Damaged}
use Rattle.pacing.specs.Pace.{Pace, with_forgiven}
use Rattle.tree_machine.specs.declared.step.Kind.TheVariants as kind
use Rattle.tree_machine.specs.Machine as machine
use Rattle.tree_machine.specs.Machine.{Machine}
use Rattle.tree_machine.specs.Moves.{stop}
use Rattle.tree_machine.specs.Steps.{Stepped, Outcome, Well, FailedAfter, Paid, Settled, Turn, forgive, pay, pay_planned, pay_running}
use Rattle.tree_machine.specs.Plays.{may}
use Rattle.tree_machine.specs.Outcomes.{Rose, IsPossible}
use Rattle.paced_tree.specs.Kept.{IsPacedTree}
use Rattle.paced_tree.proofs.Payments.{sound_forgiven}
use Rattle.seat_book.specs.State.{BookState, paid_in, stopped_in}
use Rattle.tree_file.specs.Tree.{Tree, HoldsTree}
use Rattle.tree_runs.specs.Holding.{HasAllAhead, StandOver}
use Rattle.core_moves.specs.declared.held.Held.{Held}
use Rattle.core_moves.specs.Moves.{with_book, with_debts_forgiven}
use Rattle.core_pace.specs.Pacing.{IsPacedHeld}
use Rattle.core_pace.specs.Events.{plan_in}
use Rattle.core_pace.proofs.OneLemmas.{each_move_keeps_one}
use Rattle.core_pace.proofs.TestLemmas.{forgiving_has_pace}
use Rattle.core_lists.specs.Shown.{ShowsWhole}
use Rattle.core_lists.specs.Steps.{TookByPlan}
use Rattle.core_lists.proofs.TestLemmas.{tests_agree_with_lists, forgiving_lands}
use Rattle.core_lists.proofs.StepLands.{payment_lands, settling_lands}
use Rattle.core_lists.proofs.GoingLemmas.{payment_goes_on}
use Rattle.tree_core.specs.Core.{HoldsPace}
use Rattle.tree_core.specs.Quanta.{LeavesTaken}
use Rattle.tree_core.specs.Standing.{AnyRows, StandsFor}
use Rattle.tree_core.specs.Steps.{IsStep}
use Rattle.tree_core.proofs.QuantumLemmas.{charge_kept}
use Rattle.tree_core.proofs.QuantumSteps.{RunsAt, stands_running, running_at, steady_at, shows_at, leaves_same, step_by}
use Rattle.tree_core.proofs.VersionLemmas.{one_commits, version_of}
use Rattle.tree_core.proofs.PaymentLemmas.{Took, FailedToTake, book_stopped, kept_of, takes_in, payment_runs}
use Rattle.disk_trait.proofs.ReadLemmas.{only_reads_start}
use Rattle.tree_core.proofs.QuietLemmas.{quiet_step}
use Rattle.core_lists.proofs.Terms.{IsAt}

-- ---- a store that is stopped

pub halted_payment : (opening : List (Key × Value)) (seat : ℕ) (why : Why) (held : Held) (m : Machine) (d : DiskState) → IsTimed d → IsTrue d.is_honest → held.book.stopped ≡ Some why → StandsFor AnyRows opening held m d
    → IsTrue (may m seat kind.Pay) → IsStep AnyRows opening seat kind.Pay (Turn (machine.Halted why)) held d d m
halted_payment opening seat why held m d timed honest is stands ok =
    let stop_is : m.stopped ≡ Some why = ap (λ (b : BookState). b.stopped) stands.book ∙ is in
    quiet_step {end = 0} {most = 0} opening seat kind.Pay Well (Turn (machine.Halted why)) held held.runs.space held.book m m (only_reads_start d timed) honest stands ok tt tt refl
    (ap (λ (o : Option Why). pay_running o m seat Well) stop_is)
    (record {
      same = record { lists = refl; merges = refl; gears = refl; spring = refl; catalogue = refl };
      counts = record
          { charge = refl; peak = refl; quanta = refl };
      book = stands.book;
      stopped = refl;
      noted = inl refl;
    }) (λ tree file of. of) (λ none. tt)

-- ---- one that runs

-- What a payment finds: where the core stands, with its numbers.
abbrev pub at_forgiven : (opening : List (Key × Value)) (seat : ℕ) (old : Held) (m : Machine) (d : DiskState) (tree : Tree) (r : RunsAt opening old m d tree) → IsAt (with_debts_forgiven seat old) tree (forgive seat m) d.bytes
at_forgiven opening seat old m d tree r = forgiving_lands seat old tree m d.bytes r.numbers (record { are_of = r.over.are_of; holds = r.holds }) r.goes.paced.stands.sound r.has

pay_as : (m : Machine) (seat : ℕ) (outcome : Outcome) (plan : Plan) → m.stopped ≡ None → plan_for (first_debt (forgive seat m).gears seat) (second_debt (forgive seat m).gears seat) ≡ plan
    → pay m seat outcome ≡ pay_planned plan (forgive seat m) seat outcome
pay_as m seat outcome plan runs is = ap (λ (o : Option Why). pay_running o m seat outcome) runs ∙ ap (λ (p : Plan). pay_planned p (forgive seat m) seat outcome) is

same_plan : (opening : List (Key × Value)) (seat : ℕ) (old : Held) (m : Machine) (d : DiskState) (tree : Tree) → RunsAt opening old m d tree
    → plan_for (first_debt (forgive seat m).gears seat) (second_debt (forgive seat m).gears seat) ≡ plan_in seat old
same_plan opening seat old m d tree r = ap (λ (g : GearState). plan_for (first_debt g seat) (second_debt g seat)) (at_forgiven opening seat old m d tree r).holds.gears

machine_runs : (opening : List (Key × Value)) (old : Held) (m : Machine) (d : DiskState) (tree : Tree) → RunsAt opening old m d tree → m.stopped ≡ None
machine_runs opening old m d tree r = ap (λ (b : BookState). b.stopped) r.holds.book ∙ r.ran

-- where nothing is owed
settled_at : (opening : List (Key × Value)) (seat : ℕ) (old : Held) (m : Machine) (d : DiskState) (tree : Tree) → IsTimed d → RunsAt opening old m d tree → IsTrue (may m seat kind.Pay)
    → ((c : List ℕ) → d.images c → HoldsTree old.runs.sizes tree c) → plan_in seat old ≡ Nothing → IsStep AnyRows opening seat kind.Pay Settled (with_debts_forgiven seat old) d d m
settled_at opening seat old m d tree timed r ok each nothing =
    let steady = steady_at opening old m d tree r in
    let at = settling_lands seat old tree m d.bytes steady nothing in
    let goes = payment_goes_on opening m r.fronts tree seat Well ok r.goes in
    let answers = ap (λ (s : Stepped). s.answer) (pay_as m seat Well Nothing (machine_runs opening old m d tree r) (same_plan opening seat old m d tree r ∙ nothing)) in
    step_by opening seat kind.Pay Settled (with_debts_forgiven seat old) d d m Well (pay m seat Well) refl tt refl
    (stands_running opening (with_debts_forgiven seat old) (pay m seat Well).state d tree
    (record { fronts = r.fronts; over = r.over; holds = at.holds; goes = goes; numbers = with_forgiven r.numbers seat; has = forgiving_has_pace seat old r.numbers r.has; one = (each_move_keeps_one old old r.one).forgiving seat; ran = r.ran }))
    (sym answers)
    (leaves_same opening m d d (pay m seat Well).state.book.entries d.images (ap (λ (b : BookState). b.book.entries) (at.holds.book ∙ sym r.holds.book))
    (λ c here. shows_at opening old m d tree c r (each c here)) (leaves_only_start d d.images timed (λ c here. here)))

pub settled_payment : (opening : List (Key × Value)) (seat : ℕ) (old forgiven : Held) (m : Machine) (numbers : Pace) (d : DiskState) → IsTimed d → old.book.stopped ≡ None → HoldsPace old numbers d → StandsFor AnyRows opening old m d
    → IsTrue (may m seat kind.Pay) → forgiven ≡ with_debts_forgiven seat old → plan_in seat old ≡ Nothing → IsStep AnyRows opening seat kind.Pay Settled forgiven d d m
settled_payment opening seat old forgiven m numbers d timed ran holds stands ok is nothing =
    let k = (holds.live ran).paced in
    let r = running_at opening old m d numbers stands ran k.numbers k.one in
    subst (λ (h : Held). IsStep AnyRows opening seat kind.Pay Settled h d d m) (sym is)
    (settled_at opening seat old m d (stands.runs ran).tree timed r ok (stands.runs ran).over.stands.each nothing)

-- where the quantum was taken
paid_answer : (plan : Plan) (m : Machine) (seat : ℕ) → (plan ≡ Nothing → ⊥) → (pay_planned plan m seat Well).answer ≡ Paid
paid_answer plan m seat h1 = grind (arith, common_steps, nat_tests)

paid_entries : (seat n : ℕ) (plan : Plan) (old forgiven taken : Held) (b : BookState) → Took seat n plan old forgiven taken → b ≡ paid_in seat taken.book → b.book.entries ≡ old.book.book.entries
paid_entries seat n plan old forgiven taken b took counted = grind (arith, common_steps, nat_tests)

-- the trees stand in files of one geometry
same_file : (seat : ℕ) (old forgiven : Held) (tree : Tree) (file : List ℕ) → forgiven ≡ with_debts_forgiven seat old → HoldsTree forgiven.runs.sizes tree file → HoldsTree old.runs.sizes tree file
same_file seat old forgiven tree file is holds = subst (λ (h : Held). HoldsTree h.runs.sizes tree file) is holds

pub stands_forgiven : (seat : ℕ) (old forgiven : Held) (tree : Tree) (d : DiskState) → forgiven ≡ with_debts_forgiven seat old
    → StandOver old.runs tree d → StandOver forgiven.runs tree d
stands_forgiven seat old forgiven tree d is over = subst (λ (h : Held). StandOver h.runs tree d) (sym is) over

pub ahead_forgiven : (seat : ℕ) (old forgiven : Held) (tree : Tree) → forgiven ≡ with_debts_forgiven seat old
    → HasAllAhead old.runs.pass old.log.a.entries tree
    → HasAllAhead forgiven.runs.pass forgiven.log.a.entries tree
ahead_forgiven seat old forgiven tree is ahead = subst (λ (h : Held). HasAllAhead h.runs.pass h.log.a.entries tree) (sym is) ahead

pub paid_step : (opening : List (Key × Value)) (seat n : ℕ) (plan : Plan) (old forgiven taken : Held) (b : BookState) (m : Machine) (next : Pace) (before after : DiskState) (tree : Tree) (result : Result ℕ Broken)
    → Took seat n plan old forgiven taken → b ≡ paid_in seat taken.book → RunsAt opening old m before tree → IsPacedHeld (with_book b taken) next → IsTrue (may m seat kind.Pay)
    → result ≡ Ok n → LeavesTaken plan result forgiven taken tree before after → IsStep AnyRows opening seat kind.Pay Paid (with_book b taken) before after m
paid_step opening seat n plan old forgiven taken b m next before after tree result took counted r k ok is leaves =
    step_by opening seat kind.Pay Paid (with_book b taken) before after m Well (pay m seat Well) refl tt refl
    (stands_running opening (with_book b taken) (pay m seat Well).state after tree
    (record { fronts = r.fronts; over = left.2; holds = at.holds; goes = payment_goes_on opening m r.fronts tree seat Well ok r.goes; numbers = next; has = k.numbers; one = k.one; ran = payment_runs seat n plan old forgiven taken b took counted }))
    (sym (ap (λ (s : Stepped). s.answer) (pay_as m seat Well plan (machine_runs opening old m before tree r) (same_plan opening seat old m before tree r ∙ sym took.plans.plan_is)) ∙ paid_answer plan (forgive seat m) seat took.plans.owes))
    (leaves_same opening m before after (pay m seat Well).state.book.entries (HoldsTree forgiven.runs.sizes tree)
    (ap (λ (x : BookState). x.book.entries) at.holds.book ∙ paid_entries seat n plan old forgiven taken b took counted ∙ sym (ap (λ (x : BookState). x.book.entries) r.holds.book))
    (λ c here. shows_at opening old m before tree c r (same_file seat old forgiven tree c took.plans.is here)) leaves.each)
  where
    left : (x : ℕ) × (result ≡ Ok x) × StandOver taken.runs tree after × TookByPlan plan x forgiven taken tree
    left = leaves.taken (λ same. cc (same, is))

    same_n : left.0 ≡ n
    same_n = let e = left.1 in cc (e, is)

    took_lists : TookByPlan (plan_in seat old) n (with_debts_forgiven seat old) taken tree
    took_lists =
        subst (λ (p : Plan). TookByPlan p n (with_debts_forgiven seat old) taken tree) took.plans.plan_is
        (subst (λ (h : Held). TookByPlan plan n h taken tree) took.plans.is (subst (λ (x : ℕ). TookByPlan plan x forgiven taken tree) same_n left.3))

    at : IsAt (with_book b taken) tree (pay m seat Well).state after.bytes
    at = payment_lands seat n old taken (with_book b taken) tree m before.bytes after.bytes (steady_at opening old m before tree r)
        (record { takes = takes_in seat n plan old forgiven taken took; counted = ap (λ (x : BookState). with_book x taken) counted }) took_lists left.2.are_of

-- ---- where it failed

failed_as : (plan : Plan) (m : Machine) (seat f : ℕ) → (plan ≡ Nothing → ⊥) → pay_planned plan m seat (FailedAfter 0 f) ≡ record { state = stop (Faulted f) m; answer = Turn machine.Failed }
failed_as plan m seat f h1 = grind (arith, common_steps, nat_tests)

-- a seat with something to pay owes it
owed_by : (first second : ℕ) → (plan_for first second ≡ Nothing → ⊥) → nat_lt 0 (first + second) ≡ true
owed_by first second h1 = grind (arith, common_steps, nat_tests)

pub failed_payment_step : (opening : List (Key × Value)) (seat f : ℕ) (plan : Plan) (old forgiven failed : Held) (b : BookState) (m : Machine) (before after : DiskState) (tree : Tree) (result : Result ℕ Broken)
    → FailedToTake seat plan (Faulted f) old forgiven failed b → RunsAt opening old m before tree → IsTrue (may m seat kind.Pay) → f ≡ after.faults → Rose before.faults after.faults
    → LeavesTaken plan result forgiven failed tree before after → IsStep AnyRows opening seat kind.Pay (Turn machine.Failed) (with_book b failed) before after m
failed_payment_step opening seat f plan old forgiven failed b m before after tree result fails r ok counted rose leaves =
    step_by opening seat kind.Pay (Turn machine.Failed) (with_book b failed) before after m (FailedAfter 0 f) stepped same possible refl stands refl
    (leaves_same opening m before after m.book.entries (HoldsTree forgiven.runs.sizes tree) refl shows leaves.each)
  where
    stopped : Machine
    stopped = stop (Faulted f) (forgive seat m)

    stepped : Stepped
    stepped = record { state = stop (Faulted f) (forgive seat m); answer = Turn machine.Failed }

    at : IsAt (with_debts_forgiven seat old) tree (forgive seat m) before.bytes
    at = at_forgiven opening seat old m before tree r

    plan_is : plan_for (first_debt (forgive seat m).gears seat) (second_debt (forgive seat m).gears seat) ≡ plan
    plan_is = same_plan opening seat old m before tree r ∙ sym fails.plans.plan_is

    same : pay m seat (FailedAfter 0 f) ≡ stepped
    same = pay_as m seat (FailedAfter 0 f) plan (machine_runs opening old m before tree r) plan_is ∙ failed_as plan (forgive seat m) seat f fails.plans.owes

    owes : nat_lt 0 (first_debt (forgive seat m).gears seat + second_debt (forgive seat m).gears seat) ≡ true
    owes = owed_by (first_debt (forgive seat m).gears seat) (second_debt (forgive seat m).gears seat) (λ none. fails.plans.owes (sym plan_is ∙ none))

    possible : IsPossible m seat kind.Pay (FailedAfter 0 f) before.faults after.faults
    possible = (
      ap (λ (o : Option Why). not (is_some o) && nat_lt 0 (first_debt (forgive seat m).gears seat + second_debt (forgive seat m).gears seat)) (machine_runs opening old m before tree r) ∙ owes,
      omega arith,
      rose,
      counted,
    )

    shows : (c : List ℕ) → HoldsTree forgiven.runs.sizes tree c → ShowsWhole opening m c
    shows c here = shows_at opening old m before tree c r (same_file seat old forgiven tree c fails.plans.is here)

    stops : b ≡ stopped_in (Faulted f) old.book
    stops = book_stopped seat plan (Faulted f) old forgiven failed b fails

    stands : StandsFor AnyRows opening (with_book b failed) stepped.state after
    stands =
        let kept = kept_of seat plan (Faulted f) old forgiven failed b fails in
        record {
          paced = subst (λ (s : Stepped). IsPacedTree opening s.state) same (payment_goes_on opening m r.fronts tree seat (FailedAfter 0 f) ok r.goes).paced;
          sizes = ap (λ (g : GearState). g.sizes) r.holds.gears ∙ r.one.gears ∙ sym (kept.sizes tt);
          gears = at.holds.gears ∙ sym (kept.gears tt);
          book = ap (λ (x : BookState). stopped_in (Faulted f) x) at.holds.book ∙ sym stops;
          charge_is = (tests_agree_with_lists (with_debts_forgiven seat old) tree (forgive seat m) before.bytes (with_forgiven r.numbers seat) at (sound_forgiven m seat r.goes.paced.stands.sound) (forgiving_has_pace seat old r.numbers r.has)).charge_is
              ∙ sym (charge_kept (with_debts_forgiven seat old) failed kept);
          runs = λ runs. absurd (let e = ap (λ (x : BookState). x.stopped) stops in cc (e, runs));
          rows = λ runs. tt;
          stopped = λ some. record {
            reads = shows after.bytes leaves.stands.reads;
            each = λ c here. shows c (leaves.stands.each c here);
            commits = one_commits m.gears.sizes forgiven.runs.sizes m.catalogue.version tree after (ap (λ (g : GearState). g.sizes) r.holds.gears ∙ r.one.gears ∙ sym (ap (λ (h : Held). h.runs.sizes) fails.plans.is))
                (version_of old tree m before.bytes r.over.are_of r.holds) leaves.stands;
          };
        }

-- On an honest disk no page is found damaged.
pub never_damaged : (plan : Plan) (page : ℕ) (old new : Held) (tree : Tree) (before after : DiskState) (result : Result ℕ Broken) → result ≡ Err (Damaged page) → LeavesTaken plan result old new tree before after → ⊥
never_damaged plan page old new tree before after result is leaves = grind (arith, common_steps, nat_tests)
