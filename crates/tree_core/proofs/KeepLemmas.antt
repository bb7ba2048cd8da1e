-- Steps that are none of a hold leave the callers' holds as they are, those of the machine and those of the core.
use Rattle.std.specs.Prelude.{◌≢◌, ◌≤◌, nat_lt, not, ◌==◌, replicate, IsErr, IfOk, Ok, Err}
use Rattle.std.proofs.lemmas.Grind.{common_steps}
use Rattle.std.proofs.lemmas.Bool.Decides.{nat_tests}
use Rattle.std.specs.declared.result.Result.{Result}
use Rattle.std.proofs.Common.{◌≡◌, ◌∙◌, ⊎_elim, ℕ, Bool, true, false, cond, List, Option, None, Some, refl, ap, sym, subst, arith}
use Rattle.std.proofs.lemmas.Bool.{true≢false}
use Rattle.std.proofs.lemmas.Option.{none-some}
use Rattle.gear_sched.specs.Gears.{plan_for, first_debt, second_debt}
use Rattle.gear_sched.specs.declared.Plan.{Plan}
use Rattle.gear_sched.specs.declared.Plan.TheVariants.{Snow, Deep, Nothing}
use Rattle.blsm_model.specs.Format.{callers}
use Rattle.blsm_model.specs.Histories.{answer_to_look, writes_of}
use Rattle.blsm_model.specs.Legal.{total_weight}
use Rattle.blsm_model.specs.Sizes.{Sizes}
use Rattle.blsm_model.specs.declared.key.Key.{Key}
use Rattle.blsm_model.specs.declared.row.Row.{Row}
use Rattle.blsm_model.specs.declared.row.Value.{Value}
use Rattle.blsm_model.specs.declared.op.Op.{Op}
use Rattle.blsm_model.specs.declared.op.Write.{Write}
use Rattle.blsm_model.specs.declared.history.Reply.{Reply}
use Rattle.blsm_model.specs.declared.history.Why.{Why}
use Rattle.disk_trait.specs.Disk.{DiskState}
use Rattle.disk_trait.specs.Effects.{Affects}
use Rattle.disk_trait.proofs.EffectLemmas.{affects_wider}
use Rattle.disk_trait.specs.Reads.{OnlyReads}
use Rattle.disk_trait.specs.Region.{Region, IsSameOutside}
use Rattle.gear_sched.specs.declared.Plan.{Plan}
use Rattle.pacing.specs.Steps.{Move}
use Rattle.page_file.specs.declared.file.Broken.{Broken}
use Rattle.record_delta.specs.Entries.{Entries, entries_weight}
use Rattle.scan_view.specs.Hold.{HoldState}
use Rattle.scan_view.specs.Holds.{hold_of, pages_behind}
use Rattle.scan_view.specs.Pins.{beside_pins}
use Rattle.scan_view.proofs.StayLemmas.{held_beside}
use Rattle.seat_book.specs.State.{BookState}
use Rattle.tree_machine.specs.declared.step.Kind.{Kind}
use Rattle.tree_machine.specs.declared.step.Kind.TheVariants as kind
use Rattle.tree_machine.specs.Lists.{contents_in, memory_weight}
use Rattle.tree_machine.specs.Machine.{Machine, deep_done, is_closed}
use Rattle.tree_machine.specs.Moves.{deep_quantum, pass_quantum, swap_deep}
use Rattle.tree_machine.specs.Plays.{stepped_as}
use Rattle.tree_machine.specs.Steps.{
  Answer,
  Broken as AtPage,
  Choice,
  DeepQuantum,
  PassQuantum,
  FailedAfter,
  FailedLooking,
  NoRoom,
  Outcome,
  Well,
  Stepped,
  admit,
  admit_met,
  admit_fitting,
  is_full,
  refused_first,
  unless_refused,
  choice,
  chosen,
  deep_swapped,
  do_pay,
  do_turn,
  forgive,
  pay,
  pay_planned,
  pay_running,
  replied,
  reply_unless,
  ready_for,
  swaps_due,
  taken_together,
  unless_stopped,
  work_turning,
  worker_turning,
}
use Rattle.tree_machine.proofs.FrameLemmas.{step_stays}
use Rattle.tree_runs.specs.Runs.{hold_share}
use Rattle.core_moves.specs.declared.held.Held.{Held}
use Rattle.core_moves.specs.Moves.{KeepsAllButMerges, SettlesDeep, SettlesPass, begun_in, with_debts_forgiven, WritesIn, with_book}
use Rattle.core_pace.specs.Events.{TakesByPlan}
use Rattle.core_pace.specs.Turns.{TurnsBy}
use Rattle.tree_core.specs.declared.admission.Taking.{Taking}
use Rattle.tree_core.specs.declared.admission.Taking.TheVariants.{Taken, Failed}
use Rattle.tree_core.specs.Core.{CoreState}
use Rattle.tree_core.specs.Holds.{AreFew, HoldRows, KeepsHolds}
use Rattle.tree_core.specs.Standing.{AnyRows, StandsFor}
use Rattle.tree_core.specs.Steps.{IsStep}
use Rattle.tree_core.specs.Taking.{IsReadied, Takes}
use Rattle.tree_core.proofs.QuietLemmas.{with_rows}
use Rattle.tree_core.specs.Notes.{CountsCommits, rotations_by}

-- ---- the machine

-- a step of a hold
abbrev pub is_held : Kind → Bool
is_held (kind.Hold low high) = true
is_held (kind.Next n) = true
is_held kind.Release = true
is_held _ = false

record Keeps (old new : Machine) : Type 0 where
  holds : new.holds ≡ old.holds

either : (b : Bool) (m one other : Machine) → Keeps m one → Keeps m other → Keeps m (cond b one other)
either b m one other h1 h2 = grind (arith, common_steps, nat_tests)

both : (a b c : Machine) → Keeps a b → Keeps b c → Keeps a c
both a b c p q = record { holds = q.holds ∙ p.holds }

itself : (m : Machine) → Keeps m m
itself m = record { holds = refl }

either_stepped : (b : Bool) (m : Machine) (one other : Stepped) → Keeps m one.state → Keeps m other.state → Keeps m (cond b one other).state
either_stepped b m one other h1 h2 = grind (arith, common_steps, nat_tests)

unless : (o : Option Why) (seat : ℕ) (op : Op) (m : Machine) (otherwise : Stepped) → Keeps m otherwise.state → Keeps m (unless_stopped o seat op m otherwise).state
unless o seat op m otherwise h1 = grind (arith, common_steps, nat_tests)

deep_swap_keeps : (m : Machine) → Keeps m (deep_swapped m)
deep_swap_keeps m = either (deep_done m) m (swap_deep m) m (record { holds = refl }) (itself m)

ready_keeps : (w : ℕ) (m : Machine) → Keeps m (ready_for w m)
ready_keeps w m = grind (arith, common_steps, nat_tests)

taking_keeps : (seat : ℕ) (ws : List Write) (m : Machine) → Keeps m (taken_together seat ws m)
taking_keeps seat ws m = grind (arith, common_steps, nat_tests)

admission_keeps : (m : Machine) (seat : ℕ) (op : Op) (outcome : Outcome) → Keeps m (admit m seat op outcome).state
admission_keeps m seat op outcome =
    unless m.stopped seat op m _
    (refused (refused_first m op outcome))
  where
    done : Keeps m (taken_together seat (writes_of op) (ready_for (total_weight (writes_of op)) m))
    done = both m (ready_for (total_weight (writes_of op)) m) _ (ready_keeps (total_weight (writes_of op)) m) (taking_keeps seat (writes_of op) (ready_for (total_weight (writes_of op)) m))

    by : (o : Outcome) → Keeps m (admit_fitting m seat op (total_weight (writes_of op)) o).state
    by (FailedAfter commits faults) =
        either_stepped (nat_lt commits (swaps_due m)) m _ _
        (record { holds = (either (commits == 0) m m (deep_swapped m) (itself m) (deep_swap_keeps m)).holds })
        (record { holds = (ready_keeps (total_weight (writes_of op)) m).holds })
    by (FailedLooking faults) = record { holds = done.holds }
    by Well = record { holds = done.holds }
    by (AtPage page) = record { holds = done.holds }
    by NoRoom = record { holds = done.holds }

    refused : (o : Option Reply) → Keeps m (unless_refused o seat op m (admit_met m seat op outcome)).state
    refused (Some reply) = record { holds = refl }
    refused None = either_stepped (is_full m op) m _ _ (record { holds = refl }) (by outcome)

chosen_holds : (c : Choice) (seat : ℕ) (m : Machine) → (chosen c seat m).holds ≡ m.holds
chosen_holds c seat m = grind (arith, common_steps, nat_tests)

payment_keeps : (m : Machine) (seat : ℕ) (outcome : Outcome) → Keeps m (pay m seat outcome).state
payment_keeps m seat outcome = by m.stopped
  where
    owing : (quantum : Machine → Machine) → (quantum (forgive seat m)).holds ≡ m.holds → (e : Outcome) → Keeps m
        (do_pay (forgive seat m) quantum seat e).state
    owing quantum same (FailedAfter commits faults) = record { holds = refl }
    owing quantum same (AtPage page) = record { holds = refl }
    owing quantum same _ = record { holds = same }

    planned : (plan : Plan) → Keeps m (pay_planned plan (forgive seat m) seat outcome).state
    planned Snow = owing (pass_quantum seat) (chosen_holds PassQuantum seat (forgive seat m)) outcome
    planned Deep = owing (deep_quantum seat) (chosen_holds DeepQuantum seat (forgive seat m)) outcome
    planned Nothing = record { holds = refl }

    by : (o : Option Why) → Keeps m (pay_running o m seat outcome).state
    by (Some cause) = record { holds = refl }
    by None = planned (plan_for (first_debt (forgive seat m).gears seat) (second_debt (forgive seat m).gears seat))

turn_keeps : (c : Choice) (o : Outcome) (seat : ℕ) (m : Machine) → Keeps m (do_turn c o seat m).state
turn_keeps c (FailedAfter commits faults) seat m = record { holds = refl }
turn_keeps c (AtPage page) seat m = record { holds = refl }
turn_keeps c (FailedLooking faults) seat m = record { holds = chosen_holds c seat m }
turn_keeps c Well seat m = record { holds = chosen_holds c seat m }
turn_keeps c NoRoom seat m = record { holds = chosen_holds c seat m }

work_keeps : (o : Option Why) (m : Machine) (seat : ℕ) (outcome : Outcome) → Keeps m (work_turning o m seat outcome).state
work_keeps (Some why) m seat outcome = itself m
work_keeps None m seat outcome = turn_keeps (choice (not (memory_weight m.lists == 0)) (not (entries_weight m.lists.c1 == 0)) m) outcome seat m

worker_keeps : (o : Option Why) (closed : Bool) (m : Machine) (seat : ℕ) (outcome : Outcome) → Keeps m (worker_turning o closed m seat outcome).state
worker_keeps (Some why) closed m seat outcome = itself m
worker_keeps None true m seat outcome = itself m
worker_keeps None false m seat outcome = turn_keeps (choice (nat_lt m.gears.sizes.low m.spring) false m) outcome seat m

pub step_keeps_holds : (m : Machine) (seat : ℕ) (k : Kind) (outcome : Outcome) → is_held k ≡ false → (stepped_as m seat k outcome).state.holds ≡ m.holds
step_keeps_holds m seat (kind.Admit op) outcome none = (admission_keeps m seat op outcome).holds
step_keeps_holds m seat kind.Pay outcome none = (payment_keeps m seat outcome).holds
step_keeps_holds m seat (kind.Look op) outcome none = (unless m.stopped seat op m
    (replied seat op (reply_unless outcome (answer_to_look op (contents_in m.lists))) m) (record { holds = refl })).holds
step_keeps_holds m seat (kind.Hold low high) outcome none = absurd (true≢false none)
step_keeps_holds m seat (kind.Next n) outcome none = absurd (true≢false none)
step_keeps_holds m seat kind.Release outcome none = absurd (true≢false none)
step_keeps_holds m seat kind.WorkTurn outcome none = (work_keeps m.stopped m seat outcome).holds
step_keeps_holds m seat (kind.WorkEnd n) outcome none = refl
step_keeps_holds m seat kind.WorkerTurn outcome none = (worker_keeps m.stopped (is_closed m) m seat outcome).holds
step_keeps_holds m seat kind.Leave outcome none = refl

-- ---- the core

-- the rows to come stay where nothing that is pinned is written
pub rows_stay : {D : Type 0} (state : D → DiskState) (old new : CoreState D) (rows : List (Option (List Row))) → KeepsHolds old new
    → IsSameOutside (beside_pins old.held.runs.sizes old.held.runs.space.pins) (state old.disk).bytes (state new.disk).bytes → HoldRows old.held old.holds (state old.disk) rows → HoldRows new.held new.holds (state new.disk) rows
rows_stay state old new rows keeps beside has = grind (arith, common_steps, nat_tests, held_beside)

-- at the opening there are none
pub none_held : (held : Held) (holds : List (Option HoldState)) (d : DiskState) (rows : List (Option (List Row))) → holds ≡ replicate callers None → rows ≡ replicate callers None → HoldRows held holds d rows
none_held held holds d rows none none_too = grind (arith, common_steps, nat_tests)

pub few_at_first : (sizes : Sizes) (holds : List (Option HoldState)) → holds ≡ replicate callers None → AreFew sizes holds
few_at_first sizes holds none = grind (arith, common_steps, nat_tests)

-- where one seat's hold alone is another, and has no more pages than it may
pub few_by : (sizes : Sizes) (seat : ℕ) (old new : List (Option HoldState)) → ((other : ℕ) → other ≢ seat → hold_of other new ≡ hold_of other old) → pages_behind (hold_of seat new) ≤ hold_share sizes
    → AreFew sizes old → AreFew sizes new
few_by sizes seat old new others bound few = grind (arith, common_steps, nat_tests)

-- a store that runs after a step ran before it
ran_before : {Rows Next : List (Option (List Row)) → Type 0} (opening : List (Key × Value)) (seat : ℕ) (k : Kind) (answer : Answer) (old new : Held) (before after : DiskState) (m : Machine) → StandsFor Rows opening old m before
    → IsStep Next opening seat k answer new before after m → new.book.stopped ≡ None → old.book.stopped ≡ None
ran_before opening seat k answer old new before after m stands is runs = by old.book.stopped refl
  where
    by : (o : Option Why) → old.book.stopped ≡ o → old.book.stopped ≡ None
    by None same = same
    by (Some why) same =
        let was : m.stopped ≡ Some why = ap (λ (b : BookState). b.stopped) stands.book ∙ same in
        absurd (none-some why (sym runs ∙ sym (ap (λ (b : BookState). b.stopped) is.stands.book) ∙ step_stays m seat k is.outcome why was))

-- A step that keeps the holds leaves the rows to come, of which this was so.
pub rows_said : {Rows Next : List (Option (List Row)) → Type 0} (opening : List (Key × Value)) (seat : ℕ) (k : Kind) (answer : Answer) (old new : Held) (before after : DiskState) (m : Machine) → is_held k ≡ false
    → (old.book.stopped ≡ None → Next m.holds) → StandsFor Rows opening old m before → IsStep AnyRows opening seat k answer new before after m → IsStep Next opening seat k answer new before after m
rows_said {Rows} {Next} opening seat k answer old new before after m none said stands is = record {
  outcome = is.outcome;
  possible = is.possible;
  whole = is.whole;
  stands = with_rows opening new _ after (λ runs. subst Next (sym (step_keeps_holds m seat k is.outcome none)) (said (ran_before opening seat k answer old new before after m stands is runs))) is.stands;
  answers = is.answers;
  images = is.images;
}

-- ---- what each call keeps

-- Pins and sizes stay, and commits are counted, but for so many rotations.
pub record KeepsPins (rotated : ℕ) (old new : Held) : Type 0 where
  pub pins : new.runs.space.pins ≡ old.runs.space.pins
  pub sizes : new.runs.sizes ≡ old.runs.sizes
  pub commits : CountsCommits rotated old new

-- where nothing is committed
pub no_commits : (old new : Held) → new.runs.catalogue ≡ old.runs.catalogue → new.book.counts ≡ old.book.counts → CountsCommits 0 old new
no_commits old new catalogue counts = grind (arith, common_steps, nat_tests)

-- what is noted beside counts none
pub commits_beside : (rotated : ℕ) (old new : Held) (b : BookState) → b.counts ≡ new.book.counts → CountsCommits rotated old new → CountsCommits rotated old (with_book b new)
commits_beside rotated old new b counts commits = grind (arith, common_steps, nat_tests)

pub same_pins : (old new : Held) → new ≡ old → KeepsPins 0 old new
same_pins old new is = grind (arith, common_steps, nat_tests)

pub then_pins : (old mid new : Held) → KeepsPins 0 old mid → KeepsPins 0 mid new → KeepsPins 0 old new
then_pins old mid new one two = record { pins = two.pins ∙ one.pins; sizes = two.sizes ∙ one.sizes; commits = omega (arith, one.commits, two.commits) }

pub deep_keeps_pins : (old new : Held) → SettlesDeep old new → KeepsPins 0 old new
deep_keeps_pins old new settles = grind (arith, common_steps, nat_tests)

pub pass_keeps_pins : (old new : Held) → SettlesPass old new → KeepsPins 0 old new
pass_keeps_pins old new settles = grind (arith, common_steps, nat_tests)

pub begin_keeps_pins : (w : ℕ) (held : Held) → KeepsPins 0 held (begun_in w held)
begin_keeps_pins w held = grind (arith, common_steps, nat_tests)

readied_keeps_pins : (w : ℕ) (old new : Held) → IsReadied w old new → KeepsPins 0 old new
readied_keeps_pins w old new is =
    subst (λ (h : Held). KeepsPins 0 old h) (sym is.begun)
    (then_pins old is.ready (begun_in w is.ready) (then_pins old is.settled is.ready (deep_keeps_pins old is.settled is.deep) (pass_keeps_pins is.settled is.ready is.pass)) (begin_keeps_pins w is.ready))

write_keeps_pins : (seat : ℕ) (more : Entries) (old new : Held) → WritesIn seat more old new → KeepsPins 0 old new
write_keeps_pins seat more old new is = grind (arith, common_steps, nat_tests)

-- an admission, however its write was taken
pub taking_keeps_pins : (t : Taking) (seat : ℕ) (more : Entries) (old new : Held) (after : DiskState) → Takes t seat more old new after
    → KeepsPins 0 old new
taking_keeps_pins Taken seat more old new after is = then_pins old is.0 new (readied_keeps_pins _ old is.0 is.1)
    (write_keeps_pins seat more is.0 new is.2)
taking_keeps_pins (Failed true) seat more old new after is = readied_keeps_pins _ old new is
taking_keeps_pins (Failed false) seat more old new after is = ⊎_elim (λ still. same_pins old new still.0)
    (λ settled. deep_keeps_pins old new settled.0) is

-- a payment's quantum
pub quantum_keeps_pins : (p : Plan) (result : Result ℕ Broken) (seat : ℕ) (old new : Held) → IfOk result (λ n. TakesByPlan p seat n old new) → KeepsAllButMerges (IsErr result) old new → KeepsPins 0 old new
quantum_keeps_pins p result seat old new h1 h2 = grind (arith, common_steps, nat_tests)

-- a turn's move
abbrev pub rotated_by : Result ℕ Broken → Move → ℕ
rotated_by (Ok n) mv = rotations_by mv
rotated_by (Err broken) mv = 0

pub move_keeps_pins : (mv : Move) (result : Result ℕ Broken) (seat : ℕ) (old new : Held) → IfOk result (λ n. TurnsBy mv seat n old new) → KeepsAllButMerges (IsErr result) old new → KeepsPins (rotated_by result mv) old new
move_keeps_pins mv result seat old new h1 h2 = grind (arith, common_steps, nat_tests)

-- with the debts that may be forgiven
pub forgiven_keeps_pins : (seat : ℕ) (old new : Held) → new ≡ with_debts_forgiven seat old → KeepsPins 0 old new
forgiven_keeps_pins seat old new is = grind (arith, common_steps, nat_tests)

-- ---- a disk that was only read

pub reads_affect : {region : Region} {end most : ℕ} {old new : DiskState} → OnlyReads end most old new → Affects region end most old new
reads_affect reads = affects_wider (λ i here. absurd here) (omega arith) (omega arith) reads.effect
