-- What each kind of call tells, and what a chain of them does.
use Rattle.std.proofs.Common.{◌≡◌, ◌∙◌, cond, inl, inr, ℕ, ◌+◌, ◌≤◌, true, false, List, [], ◌∷◌, ◌++◌, None, refl, ap, sym, subst, arith}
use Rattle.std.proofs.lemmas.Grind.{common_steps}
use Rattle.std.proofs.lemmas.Bool.Decides.{nat_tests}
use Rattle.std.specs.Prelude.{Bool, Option, ◌-◌, length, sum_by}
use Rattle.std.proofs.lemmas.Bool.{false≢true}
use Rattle.std.proofs.lemmas.List.{get_or-set_other}
use Rattle.refusal.specs.Count.{HasRisen}
use Rattle.blsm_model.specs.Book.{Book, entry_at}
use Rattle.blsm_model.specs.Geometry.{file_length}
use Rattle.blsm_model.specs.Legal.{is_write, is_look}
use Rattle.blsm_model.specs.Scripts.{asked_in}
use Rattle.blsm_model.specs.Sizes.{Sizes}
use Rattle.blsm_model.specs.declared.history.Entry.{Entry}
use Rattle.blsm_model.specs.declared.history.Reply.{Reply}
use Rattle.blsm_model.specs.declared.history.Reply.TheVariants as reply
use Rattle.blsm_model.specs.declared.history.Why.{Why}
use Rattle.blsm_model.specs.declared.op.Op.{Op}
use Rattle.blsm_model.specs.declared.op.Op.TheVariants as op
use Rattle.tree_machine.proofs.TellLemmas.{no_look}
use Rattle.disk_trait.specs.Disk.{DiskState}
use Rattle.scan_view.specs.Holds.{hold_of, pages_behind}
use Rattle.seat_book.specs.State.{BookState, noted_in, work_in}
use Rattle.tree_machine.specs.Machine as machine
use Rattle.tree_machine.specs.Machine.{Turned, WorkSoFar}
use Rattle.tree_machine.specs.Outcomes.{is_failed_lookup}
use Rattle.tree_machine.specs.Steps.{one_if, work_reply}
use Rattle.tree_machine.specs.declared.step.Kind.{Kind}
use Rattle.tree_machine.specs.declared.step.Kind.TheVariants as kind
use Rattle.tree_machine.specs.declared.step.Step.{Step}
use Rattle.core_moves.specs.declared.held.Held.{Held}
use Rattle.tree_core.specs.Answers.{reply_to_drop, reply_to_hold, reply_to_next, reply_to_write}
use Rattle.tree_core.specs.Calls.{Admits, AreCalls, EndsWork, Helps, IsCall, Leaves, Pays, ReadsOn, TurnsOnce, Looks}
use Rattle.tree_core.specs.Causes.{
  AdmitsBecause,
  CallsNone,
  HasFailed,
  PaysBecause,
  PaysNone,
  ScansBecause,
  ScansNone,
  TurnsBecause,
  TurnsNone,
  swaps_due_in,
  IsLookOn,
}
use Rattle.tree_core.specs.Core.{CoreState, IsCore}
use Rattle.tree_core.specs.Ruling.{Ruling}
use Rattle.tree_core.specs.Ruling as ruling
use Rattle.tree_core.specs.declared.answers.Payment.{Payment}
use Rattle.tree_core.specs.declared.answers.Payment.TheVariants as payment
use Rattle.tree_core.specs.Scanned.{Scanned}
use Rattle.tree_core.specs.Scanned as scanned
use Rattle.tree_session.specs.Faults.{NamesCount, NamesStop, Reaches, faults_of, faults_of_turn, faults_told, is_by_fault}
use Rattle.tree_session.proofs.BookLemmas.{ended_empty, work_says}
use Rattle.tree_session.proofs.FaultLemmas.{reaches_by, reaches_none, reaches_then, reaches_wider}
use Rattle.tree_session.proofs.HoldLemmas.{drop_names, drop_quiet, hold_names, hold_quiet}
use Rattle.core_chain.specs.Start.{IsUnasked, steps_of}
use Rattle.core_chain.specs.Scans.{has_rows, newest_reply}
use Rattle.core_chain.specs.Tells.{AreCalled, ChainTells, asked_by, calls_between, calls_of, calls_of_all, lookups_failed}
use Rattle.core_chain.proofs.FaultLemmas.{
  AllNamed,
  How,
  LinkTells,
  Told,
  all_calm,
  entry_tells,
  no_entry_tells,
  one_changed,
  pending,
  stays_damaged,
  stays_ran,
  stays_same,
  stops_failed,
  tells_all,
  told_more,
  works_idle,
}
use Rattle.core_chain.proofs.LinkLemmas.{Kept, chain_keeps, link_keeps, link_kept, link_sizes, writes_as, looks_as}
use Rattle.core_chain.proofs.NoteLemmas.{AreCallers, chain_asks, entries_are_callers, payment_notes_none}
use Rattle.core_chain.proofs.ScanLemmas.{were_rows}
use Rattle.blsm_model.proofs.LookLemmas.{look_may}
use Rattle.blsm_model.proofs.OpLemmas.{write_may_look}

-- the same works are open
same_pending : (old new : BookState) → new.seats.work ≡ old.seats.work → 0 + pending new ≤ pending old
same_pending old new same = omega (arith, ap (λ (l : List WorkSoFar). sum_by (λ (w : WorkSoFar). faults_of_turn w.last) l) same)

-- ---- one link, by its kind

module _ {D : Type 0} (state : D → DiskState) where
  faults_same : (old new : CoreState D) → new.disk ≡ old.disk → (state new.disk).faults ≡ (state old.disk).faults
  faults_same old new same = ap (λ (d : D). (state d).faults) same

  -- what a call notes at once, which tells no fault
  quiet_entry : (e : Entry) (old new : CoreState D) → new.held.book.book.entries ≡ old.held.book.book.entries ++ e ∷ [] → new.held.book.seats.work ≡ old.held.book.seats.work → is_failed_lookup e.op e.reply ≡ false → faults_of e.reply ≡ 0
      → new.held.book.stopped ≡ old.held.book.stopped → (state new.disk).faults ≡ (state old.disk).faults → NamesStop e.reply new.held.book.stopped → LinkTells old.held.book new.held.book (state old.disk) (state new.disk)
  quiet_entry e old new is work lookup fault stopped faults names = grind (arith, common_steps, nat_tests)

  -- a lookup, or a next, that failed
  lookup_entry : (e : Entry) (old new : CoreState D) → new.held.book.book.entries ≡ old.held.book.book.entries ++ e ∷ [] → new.held.book.seats.work ≡ old.held.book.seats.work → is_failed_lookup e.op e.reply ≡ true → faults_of e.reply ≡ 1
      → old.held.book.stopped ≡ None → new.held.book.stopped ≡ old.held.book.stopped → HasRisen (state old.disk).faults (state new.disk).faults → NamesStop e.reply new.held.book.stopped → LinkTells old.held.book new.held.book (state old.disk) (state new.disk)
  lookup_entry e old new is work lookup fault ran stopped rose names = grind (arith, common_steps, nat_tests)

  -- a write whose admission failed
  failed_entry : (e : Entry) (old new : CoreState D) → new.held.book.book.entries ≡ old.held.book.book.entries ++ e ∷ [] → new.held.book.seats.work ≡ old.held.book.seats.work → is_failed_lookup e.op e.reply ≡ false → faults_of e.reply ≡ 1
      → HasFailed old.held new.held (state old.disk) (state new.disk) → NamesStop e.reply new.held.book.stopped → LinkTells old.held.book new.held.book (state old.disk) (state new.disk)
  failed_entry e old new is work lookup fault failed names = grind (arith, common_steps, nat_tests)

  admit_link : (seat : ℕ) (op : Op) (answer : Ruling) (old new : CoreState D) → is_write op ≡ true → Admits state seat op answer old new → LinkTells
      old.held.book new.held.book (state old.disk) (state new.disk)
  admit_link seat op answer old new write call = by answer call.cause (ap (λ (b : Book). b.entries) call.notes.annals) call.untouched
    where
      by : (given : Ruling) → AdmitsBecause given seat op old.held new.held (state old.disk) (state new.disk)
          → new.held.book.book.entries ≡ old.held.book.book.entries ++ record { seat = seat; op = op; reply = reply_to_write given } ∷ [] →
          (CallsNone op given → new.disk ≡ old.disk)
          → LinkTells old.held.book new.held.book (state old.disk) (state new.disk)
      by ruling.Admitted cause noted none =
          entry_tells 0 0 (record { seat = seat; op = op; reply = reply_to_write ruling.Admitted }) old.held.book new.held.book (state old.disk)
          (state new.disk) noted refl refl tt
          (inl (stays_ran 0 (pending old.held.book) (pending new.held.book) old.held new.held (state old.disk) (state new.disk) cause.0
          (same_pending old.held.book new.held.book call.notes.work)))
      by (ruling.Kept found) cause noted none =
          quiet_entry (record { seat = seat; op = op; reply = reply_to_write (ruling.Kept found) }) old new noted call.notes.work refl refl
          (ap (λ (h : Held). h.book.stopped) cause.4) cause.1 tt
      by (ruling.Full charge) cause noted none =
          quiet_entry (record { seat = seat; op = op; reply = reply_to_write (ruling.Full charge) }) old new noted call.notes.work refl refl
          (ap (λ (h : Held). h.book.stopped) cause.3) cause.4 tt
      by ruling.ReadFault cause noted none =
          lookup_entry (record { seat = seat; op = op; reply = reply_to_write ruling.ReadFault }) old new noted call.notes.work
          (write_may_look op write ∙ cause.1) refl cause.0 (ap (λ (h : Held). h.book.stopped) cause.3) cause.2 tt
      by (ruling.Damaged page) cause noted none =
          quiet_entry (record { seat = seat; op = op; reply = reply_to_write (ruling.Damaged page) }) old new noted call.notes.work refl refl
          (ap (λ (h : Held). h.book.stopped) cause.4) cause.1 tt
      by (ruling.Fault true) cause noted none = failed_entry (record { seat = seat; op = op; reply = reply_to_write (ruling.Fault true) }) old new
          noted call.notes.work refl refl cause.0 tt
      by (ruling.Fault false) cause noted none = failed_entry (record { seat = seat; op = op; reply = reply_to_write (ruling.Fault false) }) old new
          noted call.notes.work refl refl cause.0 tt
      by (ruling.Stopped why) cause noted none =
          let stopped : new.held.book.stopped ≡ old.held.book.stopped = ap (λ (h : Held). h.book.stopped) cause.1 in
          quiet_entry (record { seat = seat; op = op; reply = reply_to_write (ruling.Stopped why) }) old new noted call.notes.work refl refl stopped
          (faults_same old new (none tt)) (stopped ∙ cause.0)

  pay_link : (seat : ℕ) (answer : Payment) (old new : CoreState D) → Pays state seat answer old new → LinkTells old.held.book new.held.book (state old.disk) (state new.disk)
  pay_link seat answer old new call =
      no_entry_tells old.held.book new.held.book (state old.disk) (state new.disk) (ap (λ (b : Book). b.entries) call.counts.annals ∙ payment_notes_none answer seat old.held.book.book) (by answer call.cause call.untouched)
    where
      few : 0 + pending new.held.book ≤ pending old.held.book
      few = same_pending old.held.book new.held.book call.counts.work

      by : (given : Payment) → PaysBecause given seat old.held new.held (state old.disk) (state new.disk) → (PaysNone given → new.disk ≡ old.disk)
          → How 0 0 (pending old.held.book) (pending new.held.book) old.held.book.stopped new.held.book.stopped (state old.disk) (state new.disk)
      by payment.Paid cause none = inl (stays_ran 0 (pending old.held.book) (pending new.held.book) old.held new.held (state old.disk) (state new.disk) cause.0 few)
      by payment.Settled cause none =
          inl (stays_same 0 (pending old.held.book) (pending new.held.book) old.held.book.stopped new.held.book.stopped (state old.disk) (state new.disk) (ap (λ (h : Held). h.book.stopped) cause.2) (faults_same old new (none tt)) few)
      by payment.Fault cause none = inr (refl, stops_failed 0 (pending old.held.book) (pending new.held.book) old.held new.held (state old.disk) (state new.disk) cause (omega (arith, few)))
      by (payment.Damaged page) cause none = inl (stays_damaged page 0 (pending old.held.book) (pending new.held.book) old.held new.held (state old.disk) (state new.disk) cause few)
      by (payment.Stopped why) cause none =
          inl (stays_same 0 (pending old.held.book) (pending new.held.book) old.held.book.stopped new.held.book.stopped (state old.disk) (state new.disk) (ap (λ (h : Held). h.book.stopped) cause.1) (faults_same old new (none tt)) few)

  look_link : (seat : ℕ) (op : Op) (given : Reply) (old new : CoreState D) → is_look op ≡ true → Looks state seat op given old new → LinkTells old.held.book new.held.book (state old.disk) (state new.disk)
  look_link seat op given old new looks call = by given call.told noted
    where
      noted : new.held.book.book.entries ≡ old.held.book.book.entries ++ record { seat = seat; op = op; reply = given } ∷ []
      noted = ap (λ (h : Held). h.book.book.entries) call.held

      stopped : new.held.book.stopped ≡ old.held.book.stopped
      stopped = ap (λ (h : Held). h.book.stopped) call.held

      work : new.held.book.seats.work ≡ old.held.book.seats.work
      work = ap (λ (h : Held). h.book.seats.work) call.held

      by : (r : Reply) → IsLookOn r old.held (state old.disk) (state new.disk) → new.held.book.book.entries ≡ old.held.book.book.entries ++ record { seat = seat; op = op; reply = r } ∷ []
          → LinkTells old.held.book new.held.book (state old.disk) (state new.disk)
      by reply.Fault told is = lookup_entry (record { seat = seat; op = op; reply = reply.Fault }) old new is work (look_may op looks) refl told.0 stopped told.1 tt
      by (reply.Stopped why) told is = quiet_entry (record { seat = seat; op = op; reply = reply.Stopped why }) old new is work refl refl stopped told.1 (stopped ∙ told.0)
      by reply.FaultLost told is = absurd told
      by reply.FaultUnsure told is = absurd told
      by r told is = quiet_entry (record { seat = seat; op = op; reply = r }) old new is work refl refl stopped told tt

  scan_link : (seat n : ℕ) (answer : Scanned) (old new : CoreState D) → ReadsOn state seat n answer old new → LinkTells old.held.book new.held.book (state old.disk) (state new.disk)
  scan_link seat n answer old new call = by answer refl call.cause call.untouched
    where
      stopped : new.held.book.stopped ≡ old.held.book.stopped
      stopped = ap (λ (b : BookState). b.stopped) call.book

      work : new.held.book.seats.work ≡ old.held.book.seats.work
      work = ap (λ (b : BookState). b.seats.work) call.book

      noted : (given : Scanned) → answer ≡ given → new.held.book.book.entries ≡ old.held.book.book.entries ++ record { seat = seat; op = op.Next n; reply = reply_to_next given } ∷ []
      noted given is = ap (λ (b : BookState). b.book.entries) call.book ∙ ap (λ (a : Scanned). old.held.book.book.entries ++ record { seat = seat; op = op.Next n; reply = reply_to_next a } ∷ []) is

      by : (given : Scanned) → answer ≡ given → ScansBecause given seat n old new (state old.disk) (state new.disk) → (ScansNone given → new.disk ≡ old.disk) → LinkTells old.held.book new.held.book (state old.disk) (state new.disk)
      by (scanned.Rows rows) is cause none = quiet_entry (record { seat = seat; op = op.Next n; reply = reply_to_next (scanned.Rows rows) }) old new (noted (scanned.Rows rows) is) work refl refl stopped cause.1 tt
      by scanned.NoHold is cause none = quiet_entry (record { seat = seat; op = op.Next n; reply = reply_to_next scanned.NoHold }) old new (noted scanned.NoHold is) work refl refl stopped (faults_same old new (none tt)) tt
      by scanned.Fault is cause none = lookup_entry (record { seat = seat; op = op.Next n; reply = reply_to_next scanned.Fault }) old new (noted scanned.Fault is) work refl refl cause.0 stopped cause.3 tt
      by (scanned.Damaged page) is cause none = quiet_entry (record { seat = seat; op = op.Next n; reply = reply_to_next (scanned.Damaged page) }) old new (noted (scanned.Damaged page) is) work refl refl stopped cause.2 tt
      by (scanned.Stopped why) is cause none = quiet_entry (record { seat = seat; op = op.Next n; reply = reply_to_next (scanned.Stopped why) }) old new (noted (scanned.Stopped why) is) work refl refl stopped cause.2 (stopped ∙ cause.0)

  -- a command whose entry is noted in memory alone
  memory_link : (e : Entry) (old new : CoreState D) → is_failed_lookup e.op e.reply ≡ false → faults_of e.reply ≡ 0 → new.held.book ≡ noted_in e.seat e.op e.reply old.held.book → new.disk ≡ old.disk → NamesStop e.reply new.held.book.stopped
      → LinkTells old.held.book new.held.book (state old.disk) (state new.disk)
  memory_link e old new lookup fault book disk names = grind (arith, common_steps, nat_tests)

  -- of a caller's work the last turn alone is told, once it ends
  turn_link : (seat : ℕ) (answer : Turned) (old new : CoreState D) → TurnsOnce state seat answer old new → LinkTells old.held.book new.held.book (state old.disk) (state new.disk)
  turn_link seat answer old new call =
      no_entry_tells old.held.book new.held.book (state old.disk) (state new.disk) (ap (λ (b : Book). b.entries) call.counts.annals) (by answer call.cause call.untouched few)
    where
      few : pending new.held.book ≤ pending old.held.book + faults_of_turn answer
      few =
          let changed = one_changed (λ (w : WorkSoFar). faults_of_turn w.last) refl old.held.book.seats.work new.held.book.seats.work seat (λ other apart. call.counts.others other apart) in
          let now = ap (λ (w : WorkSoFar). faults_of_turn w.last) call.counts.work in
          omega (arith, changed, now)

      by : (given : Turned) → TurnsBecause given false seat old.held new.held (state old.disk) (state new.disk) → (TurnsNone given → new.disk ≡ old.disk) → pending new.held.book ≤ pending old.held.book + faults_of_turn given
          → How 0 0 (pending old.held.book) (pending new.held.book) old.held.book.stopped new.held.book.stopped (state old.disk) (state new.disk)
      by machine.Closed cause none within = absurd (false≢true cause.1)
      by machine.Failed cause none within = inr (refl, stops_failed 0 (pending old.held.book) (pending new.held.book) old.held new.held (state old.disk) (state new.disk) cause (omega (arith, within)))
      by (machine.BadPage page) cause none within = inl (stays_damaged page 0 (pending old.held.book) (pending new.held.book) old.held new.held (state old.disk) (state new.disk) cause (omega (arith, within)))
      by (machine.Halted why) cause none within =
          inl (stays_same 0 (pending old.held.book) (pending new.held.book) old.held.book.stopped new.held.book.stopped (state old.disk) (state new.disk) (call.counts.halted why cause.0 ∙ sym cause.0) (faults_same old new (none tt)) (omega (arith, within)))
      by _ cause none within = inl (stays_ran 0 (pending old.held.book) (pending new.held.book) old.held new.held (state old.disk) (state new.disk) cause.0 (omega (arith, within)))

  end_link : (seat n : ℕ) (reply : Reply) (old new : CoreState D) → EndsWork state seat n reply old new → LinkTells old.held.book new.held.book (state old.disk) (state new.disk)
  end_link seat n reply old new call =
      entry_tells 0 told entry old.held.book new.held.book (state old.disk) (state new.disk) (ap (λ (h : Held). h.book.book.entries) call.held ∙ ap (λ (r : Reply). old.held.book.book.entries ++ record { seat = seat; op = op.Work n; reply = r } ∷ []) (sym call.reply_is))
      (ap one_if (no_look (op.Work n) reply refl)) (ap faults_of call.reply_is ∙ sym (work_says (work_in seat old.held.book) old.held.book.stopped).0)
      (subst (λ (r : Reply). NamesStop r new.held.book.stopped) (sym call.reply_is) (subst (λ (o : Option Why). NamesStop (work_reply (work_in seat old.held.book) old.held.book.stopped) o) (sym stopped) (work_says (work_in seat old.held.book) old.held.book.stopped).1))
      (inl (stays_same told (pending old.held.book) (pending new.held.book) old.held.book.stopped new.held.book.stopped (state old.disk) (state new.disk) stopped (faults_same old new call.untouched) few))
    where
      entry : Entry
      entry = record { seat = seat; op = op.Work n; reply = reply }

      told : ℕ
      told = faults_of_turn (work_in seat old.held.book).last

      stopped : new.held.book.stopped ≡ old.held.book.stopped
      stopped = ap (λ (h : Held). h.book.stopped) call.held

      few : faults_of_turn (work_in seat old.held.book).last + pending new.held.book ≤ pending old.held.book
      few = grind (arith, common_steps, nat_tests, one_changed, get_or-set_other, ended_empty)

  help_link : (seat : ℕ) (answer : Turned) (old new : CoreState D) → Helps state seat answer old new → LinkTells old.held.book new.held.book (state old.disk) (state new.disk)
  help_link seat answer old new call =
      no_entry_tells old.held.book new.held.book (state old.disk) (state new.disk) (ap (λ (b : Book). b.entries) call.notes.annals) (by answer call.cause call.untouched call.still)
    where
      few : 0 + pending new.held.book ≤ pending old.held.book
      few = same_pending old.held.book new.held.book call.notes.work

      by : (given : Turned) → TurnsBecause given true seat old.held new.held (state old.disk) (state new.disk) → (TurnsNone given → new.disk ≡ old.disk) → (TurnsNone given → new.held.book.stopped ≡ old.held.book.stopped)
          → How 0 0 (pending old.held.book) (pending new.held.book) old.held.book.stopped new.held.book.stopped (state old.disk) (state new.disk)
      by machine.Closed cause none still = inl (stays_same 0 (pending old.held.book) (pending new.held.book) old.held.book.stopped new.held.book.stopped (state old.disk) (state new.disk) (still tt) (faults_same old new (none tt)) few)
      by machine.Failed cause none still = inr (refl, stops_failed 0 (pending old.held.book) (pending new.held.book) old.held new.held (state old.disk) (state new.disk) cause (omega (arith, few)))
      by (machine.BadPage page) cause none still = inl (stays_damaged page 0 (pending old.held.book) (pending new.held.book) old.held new.held (state old.disk) (state new.disk) cause few)
      by (machine.Halted why) cause none still = inl (stays_same 0 (pending old.held.book) (pending new.held.book) old.held.book.stopped new.held.book.stopped (state old.disk) (state new.disk) (still tt) (faults_same old new (none tt)) few)
      by _ cause none still = inl (stays_ran 0 (pending old.held.book) (pending new.held.book) old.held new.held (state old.disk) (state new.disk) cause.0 few)

  -- a caller that leaves
  leave_link : (seat : ℕ) (old new : CoreState D) → Leaves state seat old new → LinkTells old.held.book new.held.book (state old.disk) (state new.disk)
  leave_link seat old new call = grind (arith, common_steps, nat_tests, no_entry_tells, stays_same, pending, same_pending)

  pub link_tells : (seat : ℕ) (k : Kind) (old new : CoreState D) → IsCall state seat k old new → LinkTells old.held.book new.held.book (state old.disk) (state new.disk)
  link_tells seat (kind.Admit op) old new call = admit_link seat op call.0 old new (writes_as state seat old op call.1.goes.may).0 call.1
  link_tells seat kind.Pay old new call = pay_link seat call.0 old new call.1
  link_tells seat (kind.Look op) old new call = look_link seat op call.0 old new (looks_as seat op old.held.book call.1.goes.may).0 call.1
  link_tells seat (kind.Hold low high) old new call =
      memory_link (record { seat = seat; op = op.Hold low high; reply = reply_to_hold call.0 }) old new (no_look (op.Hold low high) (reply_to_hold call.0) refl) (hold_quiet call.0).0 call.1.book call.1.untouched
      (hold_names call.0 seat low high old new call.1.cause (ap (λ (b : BookState). b.stopped) call.1.book))
  link_tells seat (kind.Next n) old new call = scan_link seat n call.0 old new call.1
  link_tells seat kind.Release old new call =
      memory_link (record { seat = seat; op = op.Release; reply = reply_to_drop call.0 }) old new (no_look op.Release (reply_to_drop call.0) refl) (drop_quiet call.0).0 call.1.book call.1.untouched (drop_names call.0 seat old new call.1.cause (ap (λ (b : BookState). b.stopped) call.1.book))
  link_tells seat kind.WorkTurn old new call = turn_link seat call.0 old new call.1
  link_tells seat (kind.WorkEnd n) old new call = end_link seat n call.0 old new call.1
  link_tells seat kind.WorkerTurn old new call = help_link seat call.0 old new call.1
  link_tells seat kind.Leave old new call = leave_link seat old new call

  -- ---- calls of the disk

  rests : (sizes : Sizes) (old new : CoreState D) → new.disk ≡ old.disk → Reaches (file_length sizes) 0 (state old.disk) (state new.disk)
  rests sizes old new same = subst (λ (d : D). Reaches (file_length sizes) 0 (state old.disk) (state d)) (sym same) (reaches_none (state old.disk))

  pub link_reaches : (seat : ℕ) (k : Kind) (old new : CoreState D) → IsCall state seat k old new → Reaches (file_length old.held.runs.sizes) (calls_of old.held.runs.sizes (swaps_due_in old.held) k) (state old.disk) (state new.disk)
  link_reaches seat (kind.Admit op) old new call = reaches_by call.1.effect
  link_reaches seat kind.Pay old new call = reaches_by call.1.effect
  link_reaches seat (kind.Look op) old new call = reaches_by call.1.reads.effect
  link_reaches seat (kind.Hold low high) old new call = rests old.held.runs.sizes old new call.1.untouched
  link_reaches seat (kind.Next n) old new call = reaches_wider call.1.few (reaches_by call.1.reads.effect)
  link_reaches seat kind.Release old new call = rests old.held.runs.sizes old new call.1.untouched
  link_reaches seat kind.WorkTurn old new call = reaches_by call.1.effect
  link_reaches seat (kind.WorkEnd n) old new call = rests old.held.runs.sizes old new call.1.untouched
  link_reaches seat kind.WorkerTurn old new call = reaches_by call.1.effect
  link_reaches seat kind.Leave old new call = rests old.held.runs.sizes old new call.untouched

  -- a next that gave rows called it as often as its hold passed pages, and three times more
  next_calls : (seat n : ℕ) (old new : CoreState D) → IsCall state seat (kind.Next n) old new
      → (state new.disk).clock ≤ (state old.disk).clock + calls_between old seat (kind.Next n) new
  next_calls seat n old new call = by (has_rows (newest_reply new)) refl
    where
      by : (b : Bool) → has_rows (newest_reply new) ≡ b → (state new.disk).clock ≤ (state old.disk).clock + calls_between old seat (kind.Next n) new
      by true is =
          let newest : BookState → Reply = λ b. (entry_at b.book (length b.book.entries - 1)).reply in
          let gave = were_rows call.0 seat n old.held.book (subst (λ (b : BookState). has_rows (newest b) ≡ true) call.1.book is) in
          let few = call.1.passes.calls gave.0 gave.1 in
          let all = call.1.reads.effect.calls in
          let ahead = call.1.passes.ahead in
          let rows = ap (λ (b : Bool). cond b (pages_behind (hold_of seat new.holds) - 3) 0) is in
          omega (arith, few, all, ahead, rows)
      by false is =
          let all = call.1.reads.effect.calls in
          let rows = ap (λ (b : Bool). cond b (pages_behind (hold_of seat new.holds) - 3) 0) is in
          omega (arith, all, rows)

  fewer : {end most few : ℕ} {old new : DiskState} → new.clock ≤ old.clock + few → Reaches end most old new → Reaches end few old new
  fewer within run = record {
    goes_on = run.goes_on;
    calls = within;
    syncs = run.syncs;
    sure = run.sure;
    no_shorter = run.no_shorter;
    no_longer = run.no_longer;
  }

  link_between : (seat : ℕ) (k : Kind) (old new : CoreState D) → IsCall state seat k old new
      → Reaches (file_length old.held.runs.sizes) (calls_between old seat k new) (state old.disk) (state new.disk)
  link_between seat (kind.Next n) old new call = fewer (next_calls seat n old new call) (link_reaches seat (kind.Next n) old new call)
  link_between seat (kind.Admit op) old new call = link_reaches seat (kind.Admit op) old new call
  link_between seat kind.Pay old new call = link_reaches seat kind.Pay old new call
  link_between seat (kind.Look op) old new call = link_reaches seat (kind.Look op) old new call
  link_between seat (kind.Hold low high) old new call = link_reaches seat (kind.Hold low high) old new call
  link_between seat kind.Release old new call = link_reaches seat kind.Release old new call
  link_between seat kind.WorkTurn old new call = link_reaches seat kind.WorkTurn old new call
  link_between seat (kind.WorkEnd n) old new call = link_reaches seat (kind.WorkEnd n) old new call
  link_between seat kind.WorkerTurn old new call = link_reaches seat kind.WorkerTurn old new call
  link_between seat kind.Leave old new call = link_reaches seat kind.Leave old new call

  -- ---- the chain

  chain_called : (calls : List (Step × CoreState D)) (old new : CoreState D) → AreCalls state calls old new → AreCalled state old calls
  chain_called [] old new are = tt
  chain_called (one ∷ calls) old new are = ((link_between one.0.seat one.0.kind old one.1 are.0).calls, chain_called calls one.1 new are.1)

  pub chain_reaches : (calls : List (Step × CoreState D)) (old new : CoreState D) → AreCalls state calls old new → IsCore old.held (state old.disk)
      → Reaches (file_length old.held.runs.sizes) (calls_of_all old calls) (state old.disk) (state new.disk)
  chain_reaches [] old new are keeps = rests old.held.runs.sizes old new (ap (λ (core : CoreState D). core.disk) are)
  chain_reaches (one ∷ calls) old new are keeps =
      reaches_then (link_between one.0.seat one.0.kind old one.1 are.0)
      (subst (λ (sizes : Sizes). Reaches (file_length sizes) (calls_of_all one.1 calls) (state one.1.disk) (state new.disk)) (link_sizes state one.0.seat one.0.kind old one.1 are.0 keeps)
      (chain_reaches calls one.1 new are.1 (link_keeps state one.0.seat one.0.kind old one.1 are.0 keeps)))

  -- what its type keeps, and what was told
  record SoFar (start now : CoreState D) : Type 0 where
    kept : Kept state start now
    told : Told (state start.disk) now.held.book (state now.disk)

  so_far : (start : CoreState D) → IsUnasked state start → SoFar start start
  so_far start unasked = record {
    kept = record { keeps = unasked.keeps; sizes = refl };
    told = record {
      grows = omega arith;
      counted = omega (arith, ap lookups_failed unasked.none, ap (λ (o : Option Why). one_if (is_by_fault o)) unasked.runs);
      quiet = λ none calm. refl;
      stop = subst (λ (o : Option Why). NamesCount o (state start.disk) (state start.disk)) (sym unasked.runs) tt;
      others =
          let open_works = works_idle (λ (w : WorkSoFar). faults_of_turn w.last) refl start.held.book.seats.work unasked.idle in
          omega (arith, ap faults_told unasked.none, open_works);
      names = subst (λ (es : List Entry). AllNamed es start.held.book.stopped) (sym unasked.none) tt;
    };
  }

  pub chain_tells : (calls : List (Step × CoreState D)) (start end : CoreState D) → IsUnasked state start → AreCalls state calls start end → ChainTells state calls start end
  chain_tells calls start end unasked are =
      let all = chain_keeps state (λ now. SoFar start now)
      (λ seat k old new call before. record {
        kept = link_kept state start seat k old new call before.kept;
        told = told_more (state start.disk) (state old.disk) (state new.disk) old.held.book new.held.book (link_reaches seat k old new call).goes_on.faults (link_tells seat k old new call) before.told;
      }) calls start end are (so_far start unasked) in
      let told = all.told in
      let few : faults_told end.held.book.book.entries ≤ lookups_failed end.held.book.book.entries + one_if (is_by_fault end.held.book.stopped) = omega (arith, told.others) in
      record {
        sizes = all.kept.sizes;
        asked = chain_asks state calls start end are ∙ ap (λ (es : List Entry). asked_in es ++ asked_by (steps_of calls)) unasked.none;
        of_callers = entries_are_callers state calls start end are (subst (λ (es : List Entry). AreCallers es) (sym unasked.none) tt);
        tells = tells_all start.held end.held (state start.disk) (state end.disk) unasked.runs told;
        counted = told.counted;
        no_others = few;
        calm = λ calm. all_calm end.held.book.book.entries (omega (arith, few, ap one_if calm));
        names = told.names;
        called = chain_called calls start end are;
        effect = chain_reaches calls start end are unasked.keeps;
      }
