-- On an honest disk: which steps call no disk.
use Rattle.std.proofs.Common.{◌≡◌, ◌∙◌, ℕ, ◌+◌, ◌<◌, Bool, true, false, not, ◌&&◌, ◌||◌, cond, None, Some, refl, ap, sym, subst, arith}
use Rattle.std.proofs.lemmas.Grind.{common_steps}
use Rattle.std.proofs.lemmas.Bool.Decides.{nat_tests}
use Rattle.std.proofs.lemmas.Bool.{false≢true, ltb-true}
use Rattle.std.specs.Prelude.{IsSome, IsTrue, List, Option, is_some, nat_lt}
use Rattle.blsm_model.specs.Geometry.{charge_limit}
use Rattle.blsm_model.specs.Histories.{is_met_by, looks_first, writes_of}
use Rattle.blsm_model.specs.Legal.{is_del, total_weight}
use Rattle.blsm_model.specs.Sizes.{Sizes}
use Rattle.blsm_model.specs.declared.history.Reply.{Reply}
use Rattle.blsm_model.specs.declared.history.Reply.TheVariants as reply
use Rattle.blsm_model.specs.declared.history.Why.{Why}
use Rattle.blsm_model.specs.declared.key.Key.{Key}
use Rattle.blsm_model.specs.declared.op.Op.{Op}
use Rattle.blsm_model.specs.declared.op.Op.TheVariants as op
use Rattle.blsm_model.specs.declared.row.Row.{Row}
use Rattle.blsm_model.specs.declared.row.Value.{Value}
use Rattle.disk_trait.specs.Disk.{DiskState}
use Rattle.gear_sched.specs.Gears.{first_debt, second_debt, plan_for}
use Rattle.gear_sched.specs.declared.Plan.{Plan}
use Rattle.gear_sched.specs.declared.Plan.TheVariants.{Nothing}
use Rattle.record_delta.specs.Entries.{Entries, is_above, over_any, record_of_key, replayed}
use Rattle.record_delta.specs.declared.record.Rec.{Rec}
use Rattle.record_delta.specs.declared.record.Rec.TheVariants.{Base, Delta, Tomb}
use Rattle.seat_book.specs.State.{BookState}
use Rattle.tree_machine.proofs.CursorLemmas.{find-ahead}
use Rattle.tree_machine.specs.Lists.{Lists}
use Rattle.tree_machine.specs.Machine as machine
use Rattle.tree_machine.specs.Machine.{Machine, Turned, charge, held_by, is_closed, owes}
use Rattle.tree_machine.specs.Outcomes.{calls, calls_disk, worker_choice}
use Rattle.tree_machine.specs.Steps as steps
use Rattle.tree_machine.specs.Steps.{
  Answer,
  Outcome,
  Replied,
  Turn,
  do_next,
  forgive,
  is_full,
  next_rows,
  pay,
  pay_planned,
  pay_running,
  unless_stopped,
  worker_turning,
}
use Rattle.tree_machine.specs.declared.step.Kind.{Kind}
use Rattle.tree_machine.specs.declared.step.Kind.TheVariants as kind
use Rattle.tree_runs.specs.Lookups.{HidesOlder}
use Rattle.core_moves.specs.Held.{charge_in}
use Rattle.core_pace.specs.Turns.{move_in}
use Rattle.core_lists.specs.Steps.{choice_of}
use Rattle.core_lists.proofs.StepLands.{choices_agree}
use Rattle.core_lists.proofs.Terms.{chosen_by}
use Rattle.tree_core.specs.Answers.{answer_to_pay, newest_in, reply_to_next}
use Rattle.tree_core.specs.Calls.{Admits, Helps, IsCall, Looks, Pays, ReadsOn, TurnsOnce}
use Rattle.tree_core.specs.Causes.{PaysNone, ScansNone, TurnsNone}
use Rattle.tree_core.specs.Core.{CoreState, IsCore}
use Rattle.tree_core.specs.Holds.{StandsWhole}
use Rattle.tree_core.specs.Scanned.{Scanned}
use Rattle.tree_core.specs.Scanned as scanned
use Rattle.tree_core.specs.Standing.{AnyRows, StandsFor}
use Rattle.tree_core.specs.Ruling.{Ruling}
use Rattle.tree_core.specs.Ruling as ruling
use Rattle.tree_core.specs.declared.answers.Payment.{Payment}
use Rattle.tree_core.specs.declared.answers.Payment.TheVariants as payment
use Rattle.tree_core.proofs.QuantumSteps.{running_at, steady_at}
use Rattle.tree_core.proofs.QuietLemmas.{with_rows}
use Rattle.core_chain.specs.Steps.{calls_at, hides_older, is_in_memory}
use Rattle.core_chain.proofs.LinkLemmas.{link_rests}

flipped : (b : Bool) → not b ≡ false → b ≡ true
flipped b h1 = grind (arith, common_steps, nat_tests)

neither : (first full : Bool) → (first || not full) ≡ false → (first ≡ false) × (full ≡ true)
neither first full h1 = grind (arith, common_steps, nat_tests)

-- a write that doesn't look first has no condition
met_alone : (op : Op) (found : Option Value) → looks_first op ≡ false → is_met_by op found ≡ true
met_alone op found alone = grind (arith, common_steps, nat_tests)

-- ---- what the answers of a machine say that calls nothing

-- nothing is owed, so nothing is paid
plans_nothing : (first second : ℕ) → first + second ≡ 0 → plan_for first second ≡ Nothing
plans_nothing first second none =
    let one : first ≡ 0 = omega (arith, none) in
    let two : second ≡ 0 = omega (arith, none) in
    ap (λ (n : ℕ). plan_for n second) one ∙ ap (λ (n : ℕ). plan_for 0 n) two

owes_none : (n : ℕ) → nat_lt 0 n ≡ false → n ≡ 0
owes_none n h1 = grind (arith, common_steps, nat_tests)

pays_nothing : (m : Machine) (seat : ℕ) (outcome : Outcome) → m.stopped ≡ None → owes seat (forgive seat m) ≡ false → (pay m seat outcome).answer ≡ steps.Settled
pays_nothing m seat outcome runs even =
    let none = owes_none (first_debt (forgive seat m).gears seat + second_debt (forgive seat m).gears seat) even in
    ap (λ (o : Option Why). (pay_running o m seat outcome).answer) runs
    ∙ ap (λ (p : Plan). (pay_planned p (forgive seat m) seat outcome).answer) (plans_nothing (first_debt (forgive seat m).gears seat) (second_debt (forgive seat m).gears seat) none)

settled_pays_none : (answer : Payment) → answer_to_pay answer ≡ steps.Settled → PaysNone answer
settled_pays_none payment.Paid is = absurd (cc is)
settled_pays_none payment.Settled is = tt
settled_pays_none payment.Fault is = absurd (cc is)
settled_pays_none (payment.Damaged page) is = absurd (cc is)
settled_pays_none (payment.Stopped why) is = tt

-- nothing is held, so nothing is read
none_of : (o : Option (List Row)) → is_some o ≡ false → o ≡ None
none_of o h1 = grind (arith, common_steps, nat_tests)

reads_nothing : (m : Machine) (seat n : ℕ) (outcome : Outcome) → m.stopped ≡ None → is_some (held_by seat m) ≡ false → (next_rows m seat n outcome).answer ≡ Replied reply.NoHold
reads_nothing m seat n outcome runs none =
    ap (λ (o : Option Why). (unless_stopped o seat (op.Next n) m (do_next m seat n outcome (held_by seat m))).answer) runs
    ∙ ap (λ (h : Option (List Row)). (do_next m seat n outcome h).answer) (none_of (held_by seat m) none)

abbrev replied_in : Answer → Reply
replied_in (Replied r) = r
replied_in _ = reply.Done

no_hold_scans_none : (answer : Scanned) → reply_to_next answer ≡ reply.NoHold → ScansNone answer
no_hold_scans_none (scanned.Rows rows) is = absurd (cc is)
no_hold_scans_none scanned.NoHold is = tt
no_hold_scans_none scanned.Fault is = absurd (cc is)
no_hold_scans_none (scanned.Damaged page) is = absurd (cc is)
no_hold_scans_none (scanned.Stopped why) is = tt

-- a worker's turn is told that all callers left, or what stopped the store
abbrev turned_in : Answer → Turned
turned_in (Turn turned) = turned
turned_in _ = machine.Idle

closed_ends : (stopped : Option Why) (m : Machine) (seat : ℕ) (outcome : Outcome) → TurnsNone (worker_turning stopped true m seat outcome).ended
closed_ends stopped m seat outcome = grind (arith, common_steps, nat_tests)

-- a record that hides what is older
hides : (r : Option Rec) → hides_older r ≡ true → HidesOlder r
hides None is = absurd (false≢true is)
hides (Some (Base value)) is = tt
hides (Some (Delta count)) is = absurd (false≢true is)
hides (Some Tomb) is = tt

-- ---- by the kind of the step

module _ {D : Type 0} (state : D → DiskState) (opening : List (Key × Value)) (seat : ℕ) (old new : CoreState D) (m : Machine) (keeps : IsCore old.held (state old.disk)) (honest : IsTrue (state old.disk).is_honest)
    (whole : StandsWhole state opening old m) (runs : old.held.book.stopped ≡ None) where
  ran : m.stopped ≡ None
  ran = ap (λ (b : BookState). b.stopped) whole.book ∙ runs

  -- a write that is refused as full
  past_limit : (op : Op) → is_full m op ≡ true → charge_limit old.held.runs.sizes (is_del op) < charge_in old.held + total_weight (writes_of op)
  past_limit op full =
      let limit = charge_limit m.gears.sizes (is_del op) in
      let after = charge m + total_weight (writes_of op) in
      let past = ltb-true limit after full in
      omega (arith, past, whole.charge_is, ap (λ (s : Sizes). charge_limit s (is_del op)) whole.sizes)

  -- and that doesn't look first
  alone_quiet : (op : Op) (answer : Ruling) → Admits state seat op answer old new → looks_first op ≡ false → is_full m op ≡ true → new.disk ≡ old.disk
  alone_quiet op ruling.Admitted call alone full = absurd (let past = past_limit op full in omega (arith, past, call.cause.1))
  alone_quiet op (ruling.Kept found) call alone full = absurd (false≢true (sym call.cause.2 ∙ met_alone op found alone))
  alone_quiet op (ruling.Full charge) call alone full = call.untouched alone
  alone_quiet op ruling.ReadFault call alone full = absurd (false≢true (sym alone ∙ call.cause.1))
  alone_quiet op (ruling.Damaged page) call alone full = absurd (false≢true (sym alone ∙ call.cause.3))
  alone_quiet op (ruling.Fault begun) call alone full = absurd (let past = past_limit op full in omega (arith, past, call.cause.1))
  alone_quiet op (ruling.Stopped why) call alone full = call.untouched tt

  admit_quiet : (op : Op) (answer : Ruling) → Admits state seat op answer old new → calls m seat (kind.Admit op) ≡ false → new.disk ≡ old.disk
  admit_quiet op answer call none = let parts = neither (looks_first op) (is_full m op) none in alone_quiet op answer call parts.0 parts.1

  pay_quiet : (answer : Payment) → Pays state seat answer old new → owes seat (forgive seat m) ≡ false → new.disk ≡ old.disk
  pay_quiet answer call none =
      let step = call.goes.steps opening m honest whole in
      call.untouched (settled_pays_none answer (step.answers ∙ pays_nothing m seat step.outcome ran none))

  next_quiet : (n : ℕ) (answer : Scanned) → ReadsOn state seat n answer old new → is_some (held_by seat m) ≡ false → new.disk ≡ old.disk
  next_quiet n answer call none =
      let step = call.goes.steps opening m honest whole in
      call.untouched (no_hold_scans_none answer (ap replied_in (step.answers ∙ reads_nothing m seat n step.outcome ran none)))

  -- the turn's move is the core's
  same_choice : (w : Bool) → chosen_by w m ≡ choice_of (move_in w old.held)
  same_choice w =
      let d = state old.disk in
      let any : StandsFor AnyRows opening old.held m d = with_rows opening old.held m d (λ none. tt) whole in
      let k = (keeps.holds.live runs).paced in
      choices_agree w old.held (any.runs runs).tree m d.bytes (steady_at opening old.held m d (any.runs runs).tree (running_at opening old.held m d keeps.pace any runs k.numbers k.one))

  turn_quiet : (answer : Turned) → TurnsOnce state seat answer old new → calls m seat kind.WorkTurn ≡ false → new.disk ≡ old.disk
  turn_quiet answer call none = call.in_memory (ap calls_disk (sym (same_choice false)) ∙ none)

  -- where all callers left, and where it does nothing or begins a pass
  help_quiet : (answer : Turned) → Helps state seat answer old new → calls m seat kind.WorkerTurn ≡ false → new.disk ≡ old.disk
  help_quiet answer call none = by (is_closed m) refl
    where
      by : (b : Bool) → is_closed m ≡ b → new.disk ≡ old.disk
      by true closed =
          let step = call.goes.steps opening m honest whole in
          let ended : answer ≡ (worker_turning m.stopped (is_closed m) m seat step.outcome).ended = ap turned_in step.answers in
          call.untouched (subst (λ (t : Turned). TurnsNone t) (sym ended) (subst (λ (b : Bool). TurnsNone (worker_turning m.stopped b m seat step.outcome).ended) (sym closed) (closed_ends m.stopped m seat step.outcome)))
      by false open_still = call.in_memory (ap calls_disk (sym (same_choice true)) ∙ sym (ap (λ (b : Bool). not b && calls_disk (worker_choice m)) open_still) ∙ none)

  kind_quiet : (k : Kind) → IsCall state seat k old new → calls m seat k ≡ false → new.disk ≡ old.disk
  kind_quiet (kind.Admit op) call none = admit_quiet op call.0 call.1 none
  kind_quiet kind.Pay call none = pay_quiet call.0 call.1 none
  kind_quiet (kind.Look op) call none = absurd (false≢true (sym none))
  kind_quiet (kind.Hold low high) call none = call.1.untouched
  kind_quiet (kind.Next n) call none = next_quiet n call.0 call.1 none
  kind_quiet kind.Release call none = call.1.untouched
  kind_quiet kind.WorkTurn call none = turn_quiet call.0 call.1 none
  kind_quiet (kind.WorkEnd n) call none = call.1.untouched
  kind_quiet kind.WorkerTurn call none = help_quiet call.0 call.1 none
  kind_quiet kind.Leave call none = call.untouched

  -- the memory table has what hides all that is older
  newest_hides : (key : Key) → is_in_memory old.held.log.a.floor m.lists (kind.Look (op.Get key)) ≡ true → HidesOlder (newest_in key old.held)
  newest_hides key found =
      let holds = (whole.runs runs).holds in
      let list = replayed (whole.runs runs).tree.lane_a.entries in
      let floor = old.held.log.a.floor in
      let b = ap (λ (l : Lists). l.b) holds.lists ∙ sym holds.of_log.b in
      let a : cond (is_above floor key) (record_of_key key m.lists.a) None ≡ record_of_key key old.held.log.a.entries =
      ap (λ (l : Lists). cond (is_above floor key) (record_of_key key l.a) None) holds.lists
      ∙ sym (find-ahead floor list key) ∙ sym (ap (record_of_key key) holds.of_log.a.entries) in
      subst (λ (es : Entries). HidesOlder (over_any (record_of_key key es) (record_of_key key old.held.log.a.entries))) b
      (subst (λ (r : Option Rec). HidesOlder (over_any (record_of_key key m.lists.b) r)) a
      (hides (over_any (record_of_key key m.lists.b) (cond (is_above floor key) (record_of_key key m.lists.a) None)) found))

  look_quiet : (op : Op) (r : Reply) → Looks state seat op r old new → is_in_memory old.held.log.a.floor m.lists (kind.Look op) ≡ true
      → new.disk ≡ old.disk
  look_quiet (op.Get key) r call found = call.call.2.hidden (newest_hides key found)
  look_quiet op r call found = absurd (false≢true found)

  memory_quiet : (k : Kind) → IsCall state seat k old new → is_in_memory old.held.log.a.floor m.lists k ≡ true → new.disk ≡ old.disk
  memory_quiet (kind.Look op) call found = look_quiet op call.0 call.1 found
  memory_quiet k call found = absurd (false≢true found)

  running_quiet : (k : Kind) → IsCall state seat k old new → (calls m seat k && not (is_in_memory old.held.log.a.floor m.lists k)) ≡ false
      → new.disk ≡ old.disk
  running_quiet k call none = by (calls m seat k) refl
    where
      by : (b : Bool) → calls m seat k ≡ b → new.disk ≡ old.disk
      by false is = kind_quiet k call is
      by true is = memory_quiet k call (flipped (is_in_memory old.held.log.a.floor m.lists k)
          (sym (ap (λ (b : Bool). b && not (is_in_memory old.held.log.a.floor m.lists k)) is) ∙ none))

-- A step that calls no disk by the machine's word leaves it.
pub link_quiet : {D : Type 0} (state : D → DiskState) (opening : List (Key × Value)) (seat : ℕ) (k : Kind) (old new : CoreState D) (m : Machine) → IsCall state seat k old new → IsCore old.held (state old.disk) → IsTrue (state old.disk).is_honest
    → StandsWhole state opening old m → calls_at old.held.log.a.floor m seat k ≡ false → new.disk ≡ old.disk
link_quiet {D} state opening seat k old new m call keeps honest whole none = by old.held.book.stopped refl
  where
    by : (o : Option Why) → old.held.book.stopped ≡ o → new.disk ≡ old.disk
    by (Some why) is = link_rests state seat k old new call (subst (λ (o : Option Why). IsSome o) (sym is) refl)
    by None runs =
        let ran : m.stopped ≡ None = ap (λ (b : BookState). b.stopped) whole.book ∙ runs in
        running_quiet state opening seat old new m keeps honest whole runs k call
        (sym (ap (λ (o : Option Why). not (is_some o) && (calls m seat k && not (is_in_memory old.held.log.a.floor m.lists k))) ran) ∙ none)
