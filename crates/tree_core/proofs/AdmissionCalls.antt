-- An admission, as one call of the core.
use Rattle.std.specs.Prelude.{◌≡◌, ℕ, ◌+◌, ◌<◌, ◌≤◌, ◌^◌, Bool, true, List, [], ◌∷◌, None, IsTrue}
use Rattle.std.proofs.lemmas.Grind.{common_steps}
use Rattle.std.proofs.lemmas.Bool.Decides.{nat_tests}
use Rattle.std.proofs.Common.{◌∙◌, cond, refl, sym, subst, arith}
use Rattle.refusal.specs.Count.{HasRisen}
use Rattle.blsm_model.specs.Book.{HasRoom}
use Rattle.blsm_model.specs.Format.{least_weight, most_weight}
use Rattle.blsm_model.specs.Geometry.{charge_limit, file_length}
use Rattle.blsm_model.specs.Histories.{is_met, writes_of}
use Rattle.tree_machine.specs.Lists.{value_in}
use Rattle.blsm_model.specs.Legal.{is_write, total_weight, is_del}
use Rattle.blsm_model.specs.Sizes.{Sizes}
use Rattle.blsm_model.specs.declared.history.Reply.{Reply}
use Rattle.blsm_model.specs.declared.history.Reply.TheVariants.{Done, FaultLost, FaultUnsure, Full}
use Rattle.blsm_model.specs.declared.history.Why.TheVariants.{Faulted}
use Rattle.blsm_model.specs.declared.key.Key.{Key}
use Rattle.blsm_model.specs.declared.op.Op.{Op}
use Rattle.blsm_model.specs.declared.op.Write.{Write}
use Rattle.blsm_model.specs.declared.row.Value.{Value}
use Rattle.disk_trait.specs.Disk.{DiskState}
use Rattle.disk_trait.specs.Effects.{Affects}
use Rattle.disk_trait.proofs.EffectLemmas.{affects_start}
use Rattle.disk_trait.specs.Moments.{IsTimed}
use Rattle.gear_sched.specs.Gears.{first_debt, second_debt}
use Rattle.pacing.specs.Pace.{Pace}
use Rattle.record_delta.specs.Several.{entries_of}
use Rattle.scan_view.specs.Pins.{beside_pins}
use Rattle.seat_book.specs.State.{BookState, may_note_in, noted_in, stopped_in}
use Rattle.seat_book.proofs.WordLemmas.{note_has_room}
use Rattle.tree_machine.specs.Machine.{Machine}
use Rattle.tree_machine.specs.Plays.{may}
use Rattle.tree_machine.specs.Stands.{WritesFit}
use Rattle.tree_machine.specs.Steps.{Replied}
use Rattle.tree_machine.specs.declared.step.Kind.TheVariants as kind
use Rattle.core_moves.specs.Held.{charge_in}
use Rattle.core_moves.specs.Moves.{with_book}
use Rattle.core_moves.specs.declared.held.Held.{Held}
use Rattle.core_pace.specs.Events.{AreWritten, MayWrite}
use Rattle.tree_core.specs.Calls.{AdmitsMet, BesideHolds, GoesOnAs}
use Rattle.tree_core.specs.Causes.{calls_to_admit, swaps_due_in}
use Rattle.tree_core.specs.Clock.{EndsAppended}
use Rattle.tree_core.specs.Core.{CoreState, HoldsPace, IsCore}
use Rattle.tree_core.specs.Standing.{AnyRows, StandsFor}
use Rattle.tree_core.specs.Steps.{may_in}
use Rattle.tree_core.specs.Taking.{Takes, TakesOver}
use Rattle.tree_core.specs.declared.admission.Taking.{Taking}
use Rattle.tree_core.specs.declared.admission.Taking.TheVariants.{Taken, Failed}
use Rattle.tree_core.specs.declared.answers.Admission.TheVariants as admission
use Rattle.tree_core.proofs.AdmissionFollows.{failed_follows, quiet_follows, taken_follows}
use Rattle.tree_core.proofs.AdmissionLemmas.{failed_keeps, failed_moves, refused_moves, room_as, taken_keeps, taken_moves}
use Rattle.tree_core.proofs.AdmissionSteps.{IsAsked, failed_steps, full_steps, taken_steps}
use Rattle.tree_core.proofs.BegunLemmas.{begun_by}
use Rattle.tree_core.proofs.KeepLemmas.{taking_keeps_pins, no_commits}
use Rattle.tree_core.proofs.LastLemmas.{goes_on_by}
use Rattle.tree_core.proofs.NotingLemmas.{notes_at_once, notes_by, notes_stopped}

-- there is room for the entry of a write that fails, either way
pub room_for : (b : BookState) (seat : ℕ) (op : Op) → IsTrue (may_note_in seat 0 b) → (begun : Bool) → HasRoom b.book.room (record { seat = seat; op = op; reply = cond begun FaultUnsure FaultLost })
room_for b seat op h1 begun = grind (arith, common_steps, nat_tests)

module _ {D : Type 0} (state : D → DiskState) (seat : ℕ) (op : Op) (old : CoreState D) (core : IsCore old.held (state old.disk)) (timed : IsTimed (state old.disk)) (can : may_in old.held seat (kind.Admit op) ≡ true)
    (room : may_note_in seat 0 old.held.book ≡ true) (fits : WritesFit (kind.Admit op))
    (met : (opening : List (Key × Value)) (m : Machine) → IsTrue (state old.disk).is_honest → StandsFor AnyRows opening old.held m (state old.disk) →
    is_met op (value_in m.lists) ≡ true) where
  asked_by : (opening : List (Key × Value)) (m : Machine) → IsTrue (state old.disk).is_honest → StandsFor AnyRows opening old.held m (state old.disk) → may m seat (kind.Admit op) ≡ true → IsAsked opening seat op old.held m (state old.disk)
  asked_by opening m honest s ok = record { honest = honest; timed = timed; stands = s; may = ok; fits = fits; met = met opening m honest s }

  -- ---- it is refused for its size

  pub admit_full : (charge : ℕ) (b : BookState) → old.held.book.stopped ≡ None → charge ≡ charge_in old.held → charge_limit old.held.runs.sizes
      (is_del op) < charge_in old.held + total_weight (writes_of op) → b ≡ noted_in seat op (Full charge) old.held.book
      → AdmitsMet state seat op (admission.Full charge) old (record old { held = with_book b old.held })
  admit_full charge b ran charge_is past is = subst (λ (x : BookState). AdmitsMet state seat op (admission.Full charge) old
      (record old { held = with_book x old.held })) (sym is)
      (subst (λ (n : ℕ). AdmitsMet state seat op (admission.Full n) old
      (record old { held = with_book (noted_in seat op (Full n) old.held.book) old.held })) (sym charge_is) full)
    where
      reply : Reply
      reply = Full (charge_in old.held)

      then : BookState
      then = noted_in seat op reply old.held.book

      goes : GoesOnAs state seat (kind.Admit op) (Replied reply) old (record old { held = with_book then old.held }) × BesideHolds state seat
          (kind.Admit op) (Replied reply) old (record old { held = with_book then old.held })
      goes = goes_on_by {end = 0} {most = 0} state seat (kind.Admit op) (Replied reply) old (record old { held = with_book then old.held }) core
          timed refl can (record { holds = refl; pins = refl; sizes = refl }) (no_commits old.held (with_book then old.held) refl refl)
          (affects_start (state old.disk) timed) (quiet_follows seat op reply old.held)
          (λ pace holds. refused_moves seat op reply old.held pace (state old.disk) then refl refl
          (note_has_room old.held.book seat 0 op reply room (omega arith)) refl holds)
          (λ opening m honest s ok. full_steps opening seat op old.held m (state old.disk) (asked_by opening m honest s ok) ran past)

      full : AdmitsMet state seat op (admission.Full (charge_in old.held)) old (record old { held = with_book then old.held })
      full = record {
        goes = goes.0;
        beside = goes.1;
        cause = (ran, refl, past, refl);
        begun = tt;
        notes = notes_at_once seat op reply old.held.book then refl;
        effect = affects_start (state old.disk) timed;
        ends = tt;
        untouched = λ none. refl;
      }

  -- ---- the write is taken, or a call of the disk fails

  module _ (disk : D) (new : Held) (b : BookState) (later : IsTimed (state disk)) (are : AreWritten (entries_of (writes_of op)))
      (ran : old.held.book.stopped ≡ None) (may_write : MayWrite seat (total_weight (writes_of op)) op old.held)
      (effect : Affects (beside_pins old.held.runs.sizes old.held.runs.space.pins) (file_length old.held.runs.sizes) (calls_to_admit old.held) (state old.disk) (state disk)) where
    -- how it was taken says what it left
    abbrev LeavesOver : Taking → Type 0
    LeavesOver taking =
        (opening : List (Key × Value)) (m : Machine) → IsTrue (state old.disk).is_honest → StandsFor AnyRows opening old.held m (state old.disk) → old.held.book.stopped ≡ None → may m seat (kind.Admit op) ≡ true → WritesFit (kind.Admit op)
        → is_met op (value_in m.lists) ≡ true → TakesOver taking opening seat op m new (state old.disk) (state disk)

    pub admit_taken : is_write op ≡ true → Takes Taken seat (entries_of (writes_of op)) old.held new (state disk) → (state disk).faults ≡
        (state old.disk).faults → EndsAppended 0 (swaps_due_in old.held) (state old.disk) (state disk) → LeavesOver Taken → b ≡ noted_in seat op Done
        new.book
        → AdmitsMet state seat op admission.Admitted old (record { disk = disk; held = with_book b new; holds = old.holds })
    admit_taken writing takes calm ends lists is =
        let keeps = taken_keeps seat (entries_of (writes_of op)) old.held new (state disk) takes in
        let pins = taking_keeps_pins Taken seat (entries_of (writes_of op)) old.held new (state disk) takes in
        let moves = λ (pace : Pace) (paced : HoldsPace old.held pace (state old.disk)). taken_moves seat op old.held new pace (state disk) are writing
        (paced.live ran).paced may_write (note_has_room old.held.book seat 0 op Done room (omega arith)) takes in
        let moved = moves core.pace core.holds in
        let live = (moved.holds.live (keeps.stopped ∙ ran)).paced in
        let goes = goes_on_by state seat (kind.Admit op) (Replied Done) old
        (record { disk = disk; held = with_book (noted_in seat op Done new.book) new; holds = old.holds }) core later refl can
        (record { holds = refl; pins = pins.pins; sizes = pins.sizes }) pins.commits effect
        (taken_follows seat op (entries_of (writes_of op)) old.held new (state disk) takes) moves
        (λ opening m honest s ok.
        let left = lists opening m honest s ran ok fits (met opening m honest s) in
        taken_steps opening seat op old.held m (state old.disk) (asked_by opening m honest s ok) ran may_write.room new (state disk) moved.next left.0 (keeps.stopped ∙ ran) live.numbers live.one.gears left.1) in
        subst (λ (x : BookState). AdmitsMet state seat op admission.Admitted old (record { disk = disk; held = with_book x new; holds = old.holds }))
        (sym is)
        (record {
          goes = goes.0;
          beside = goes.1;
          cause = (record { ran = ran; runs = keeps.stopped ∙ ran; faults = calm }, may_write.room);
          begun = tt;
          notes = notes_by seat op Done old.held.book new.book (noted_in seat op Done new.book) keeps refl;
          effect = effect;
          ends = ends;
          untouched = λ none. absurd none;
        })

    pub admit_failed : (begun : Bool) → Takes (Failed begun) seat (entries_of (writes_of op)) old.held new (state disk)
        → HasRisen (state old.disk).faults (state disk).faults → (state disk).faults < 2 ^ 64 → LeavesOver (Failed begun)
        → b ≡ noted_in seat op (cond begun FaultUnsure FaultLost) (stopped_in (Faulted (state disk).faults) new.book) → AdmitsMet state seat op
        (admission.Fault begun) old (record { disk = disk; held = with_book b new; holds = old.holds })
    admit_failed begun takes risen few lists is =
        let why = Faulted (state disk).faults in
        let reply = cond begun FaultUnsure FaultLost in
        let keeps = failed_keeps begun seat (entries_of (writes_of op)) old.held new (state disk) takes in
        let pins = taking_keeps_pins (Failed begun) seat (entries_of (writes_of op)) old.held new (state disk) takes in
        let goes = goes_on_by state seat (kind.Admit op) (Replied reply) old
        (record { disk = disk; held = with_book (noted_in seat op reply (stopped_in why new.book)) new; holds = old.holds }) core later refl can
        (record { holds = refl; pins = pins.pins; sizes = pins.sizes }) pins.commits effect
        (failed_follows begun seat op reply why (entries_of (writes_of op)) old.held new (state disk) takes)
        (λ pace holds. failed_moves begun seat op why old.held new pace (state disk) (holds.live ran).paced
        (room_for old.held.book seat op room) takes)
        (λ opening m honest s ok. failed_steps opening seat op old.held m (state old.disk) (asked_by opening m honest s ok) ran may_write.room
        (state disk) effect.goes_on.faults few risen new begun later (lists opening m honest s ran ok fits (met opening m honest s))) in
        subst (λ (x : BookState). AdmitsMet state seat op (admission.Fault begun) old
        (record { disk = disk; held = with_book x new; holds = old.holds })) (sym is)
        (record {
          goes = goes.0;
          beside = goes.1;
          cause = (record { ran = ran; faults = risen; stopped = refl }, may_write.room);
          begun = begun_by begun seat (entries_of (writes_of op)) old.held new (noted_in seat op reply (stopped_in why new.book)) (state disk) takes;
          notes = notes_stopped seat op reply why old.held.book new.book (noted_in seat op reply (stopped_in why new.book)) keeps refl;
          effect = effect;
          ends = tt;
          untouched = λ none. absurd none;
        })

-- ---- what a write requires, as its conditions are told

pub may_write_at : {D : Type 0} {inside now : CoreState D} → inside ≡ now → (seat : ℕ) (op : Op) (charge weight : ℕ) (sizes : Sizes) (del : Bool) → may_note_in seat 0 now.held.book ≡ true
    → (now.held.book.stopped ≡ None → first_debt now.held.gears seat + second_debt now.held.gears seat ≡ 0) → inside.held.book.stopped ≡ None → charge ≡ charge_in now.held → weight ≡ total_weight (writes_of op) → sizes ≡ now.held.runs.sizes → del ≡ is_del op
    → least_weight ≤ weight → weight ≤ most_weight → charge + weight ≤ charge_limit sizes del → MayWrite seat (total_weight (writes_of op)) op inside.held
may_write_at {D} {inside} {now} same seat op charge weight sizes del room even ran charge_is weight_is sizes_is del_is least most fits =
    subst (λ (s : CoreState D). s.held.book.stopped ≡ None → MayWrite seat (total_weight (writes_of op)) op s.held) (sym same)
    (λ runs. record {
      caller = (note_has_room now.held.book seat 0 op Done room (omega arith)).seat;
      settled = even runs;
      light = subst (λ (n : ℕ). least_weight ≤ n) weight_is least;
      heavy = subst (λ (n : ℕ). n ≤ most_weight) weight_is most;
      room = room_as charge (charge_in now.held) weight (total_weight (writes_of op)) sizes now.held.runs.sizes del (is_del op) charge_is weight_is sizes_is del_is fits;
    }) ran
