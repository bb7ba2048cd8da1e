use Rattle.std.specs.Prelude.{◌≡◌, true, List, None, IsTrue}
use Rattle.std.proofs.Common.{◌∙◌, cond, refl, ap, sym, subst, arith}
use Rattle.std.proofs.lemmas.Bool.{false≢true}
use Rattle.blsm_model.specs.Book.{Book, HasRoom}
use Rattle.blsm_model.specs.Histories.{is_met, writes_of}
use Rattle.blsm_model.specs.declared.history.Reply.TheVariants.{Done, Full, FaultLost, FaultUnsure}
use Rattle.blsm_model.specs.declared.key.Key.{Key}
use Rattle.blsm_model.specs.declared.row.Value.{Value}
use Rattle.record_delta.specs.Several.{entries_of}
use Rattle.seat_book.specs.State.{BookState, may_note_in}
use Rattle.seat_book.proofs.WordLemmas.{note_has_room}
use Rattle.tree_machine.specs.Lists.{value_in}
use Rattle.tree_machine.specs.Machine.{Machine}
use Rattle.tree_machine.specs.declared.step.Kind.TheVariants as kind
use Rattle.core_moves.specs.Held.{charge_in}
use Rattle.core_moves.specs.Moves.{with_book}
use Rattle.tree_core.specs.Calls.{AdmitsMet}
use Rattle.tree_core.specs.Core.{CoreState}
use Rattle.tree_core.specs.Standing.{AnyRows, StandsFor}
use Rattle.tree_core.specs.Steps.{may_in}
use Rattle.tree_core.specs.declared.answers.Admission.TheVariants as admission
use Rattle.tree_core.proofs.AdmissionCalls.{admit_failed, admit_full, admit_taken, may_write_at, room_for}
use Rattle.tree_core.proofs.AdmissionLemmas.{failed_keeps, past_as, stopped_same, taken_keeps}
use Rattle.tree_core.proofs.LastLemmas.{kept_on, may_admit}
use Rattle.tree_core.proofs.TakingLemmas.{writes_written}
use Rattle.tree_core.proofs.store.Core.admit_met.Goals as goal

-- ---- what its parts require

pub note-requires : goal.note-requires
note-requires g c =
    let b = c.self.inside.held.book in
    let room = subst (λ (s : CoreState g.row.D.Denot). IsTrue (may_note_in c.args.seat 0 s.held.book)) (sym c.self.view_is) c.requires.note in
    note_has_room b c.args.seat 0 c.args.op.now (Full c.charge-charge.result) room (omega arith)

pub take-requires-clause-runs : goal.take-requires-clause-runs
take-requires-clause-runs g c =
    let ran = subst (λ (s : CoreState g.row.D.Denot). s.held.book.stopped ≡ None) (sym c.self.view_is) c.requires.runs in
    record { pace = c.self.invariant.0.pace; live = c.self.invariant.0.holds.live ran }

pub take-requires-clause-may : goal.take-requires-clause-may
take-requires-clause-may g c =
    let ran = subst (λ (s : CoreState g.row.D.Denot). s.held.book.stopped ≡ None) (sym c.self.view_is) c.requires.runs in
    may_write_at c.self.view_is c.args.seat c.args.op.now c.charge-charge.result c.args.weight c.geometry.result c.is_del.result
    c.requires.note (λ runs. c.requires.even) ran c.charge-charge.ensures c.requires.weight c.geometry.ensures c.is_del.ensures
    c.requires.least c.requires.most (c.admits.ensures.0 c.if-not-admits.false)

pub note-requires-in-Taken : goal.note-requires-in-Taken
note-requires-in-Taken g c =
    let b = c.self.inside.held.book in
    let room = subst (λ (s : CoreState g.row.D.Denot). IsTrue (may_note_in c.args.seat 0 s.held.book)) (sym c.self.view_is) c.requires.note in
    let keeps = taken_keeps c.args.seat (entries_of (writes_of c.args.op.now)) c.self.inside.held c.take.new.held (g.D.Disk.state c.take.new.disk)
    c.in-Taken.ensures.takes in
    subst (λ (k : Book). HasRoom k.room (record { seat = c.args.seat; op = c.args.op.now; reply = Done })) (sym keeps.book)
    (note_has_room b c.args.seat 0 c.args.op.now Done room (omega arith))

pub note-requires-in-Failed : goal.note-requires-in-Failed
note-requires-in-Failed g c =
    let b = c.self.inside.held.book in
    let begun = c.in-Failed.begun in
    let room = subst (λ (s : CoreState g.row.D.Denot). IsTrue (may_note_in c.args.seat 0 s.held.book)) (sym c.self.view_is) c.requires.note in
    let keeps = failed_keeps begun c.args.seat (entries_of (writes_of c.args.op.now)) c.self.inside.held c.take.new.held
    (g.D.Disk.state c.take.new.disk)
    c.in-Failed.ensures.takes in
    subst (λ (k : Book). HasRoom k.room (record { seat = c.args.seat; op = c.args.op.now; reply = cond begun FaultUnsure FaultLost }))
    (sym (ap (λ (x : BookState). x.book) c.stop.ensures ∙ keeps.book)) (room_for b c.args.seat c.args.op.now room begun)

-- ---- the call

pub returns-then-not-admits : goal.returns-then-not-admits
returns-then-not-admits g c =
    let ran = subst (λ (s : CoreState g.row.D.Denot). s.held.book.stopped ≡ None) (sym c.self.view_is) c.requires.runs in
    let met = subst (λ (s : CoreState g.row.D.Denot). (opening : List (Key × Value)) (m : Machine) → IsTrue (g.D.Disk.state s.disk).is_honest →
    StandsFor AnyRows opening s.held m (g.D.Disk.state s.disk) → is_met c.args.op.now (value_in m.lists) ≡ true) (sym c.self.view_is)
    c.requires.met in
    let old : CoreState g.row.D.Denot = record { disk = c.self.inside.disk; held = c.self.inside.held; holds = c.self.inside.holds } in
    let can = subst (λ (s : CoreState g.row.D.Denot). may_in s.held c.args.seat (kind.Admit c.args.op.now) ≡ true) (sym c.self.view_is)
    (may_admit c.args.seat c.args.op.now c.args.self.now.held c.requires.write c.requires.note (λ runs. c.requires.even)) in
    let room = subst (λ (s : CoreState g.row.D.Denot). may_note_in c.args.seat 0 s.held.book ≡ true) (sym c.self.view_is) c.requires.note in
    let charge_is = c.charge-charge.ensures ∙ ap (λ (s : CoreState g.row.D.Denot). charge_in s.held) (sym c.self.view_is) in
    let past = past_as c.charge-charge.result (charge_in old.held) c.args.weight _ c.geometry.result old.held.runs.sizes c.is_del.result _
    charge_is c.requires.weight (c.geometry.ensures ∙ ap (λ (s : CoreState g.row.D.Denot). s.held.runs.sizes) (sym c.self.view_is)) c.is_del.ensures
    (λ within. false≢true (sym c.if-not-admits.true ∙ c.admits.ensures.1 within)) in
    subst (λ (s : CoreState g.row.D.Denot). AdmitsMet g.D.Disk.state c.args.seat c.args.op.now (admission.Full c.charge-charge.result) s
    (record old { held = with_book c.note.new.book old.held })) c.self.view_is
    (admit_full g.D.Disk.state c.args.seat c.args.op.now old c.self.invariant.0 (g.met.D.Disk.timed old.disk) can room c.requires.fits met
    c.charge-charge.result c.note.new.book ran charge_is past c.note.ensures)

pub returns-in-Taken : goal.returns-in-Taken
returns-in-Taken g c =
    let ran = subst (λ (s : CoreState g.row.D.Denot). s.held.book.stopped ≡ None) (sym c.self.view_is) c.requires.runs in
    let met = subst (λ (s : CoreState g.row.D.Denot). (opening : List (Key × Value)) (m : Machine) → IsTrue (g.D.Disk.state s.disk).is_honest →
    StandsFor AnyRows opening s.held m (g.D.Disk.state s.disk) → is_met c.args.op.now (value_in m.lists) ≡ true) (sym c.self.view_is)
    c.requires.met in
    let old : CoreState g.row.D.Denot = record { disk = c.self.inside.disk; held = c.self.inside.held; holds = c.self.inside.holds } in
    let can = subst (λ (s : CoreState g.row.D.Denot). may_in s.held c.args.seat (kind.Admit c.args.op.now) ≡ true) (sym c.self.view_is)
    (may_admit c.args.seat c.args.op.now c.args.self.now.held c.requires.write c.requires.note (λ runs. c.requires.even)) in
    let room = subst (λ (s : CoreState g.row.D.Denot). may_note_in c.args.seat 0 s.held.book ≡ true) (sym c.self.view_is) c.requires.note in
    let writing = may_write_at c.self.view_is c.args.seat c.args.op.now c.charge-charge.result c.args.weight c.geometry.result
    c.is_del.result c.requires.note (λ runs. c.requires.even) ran c.charge-charge.ensures c.requires.weight c.geometry.ensures
    c.is_del.ensures c.requires.least c.requires.most (c.admits.ensures.0 c.if-not-admits.false) in
    subst (λ (s : CoreState g.row.D.Denot). AdmitsMet g.D.Disk.state c.args.seat c.args.op.now admission.Admitted s
    (record { disk = c.take.new.disk; held = with_book c.note-in-Taken.new.book c.take.new.held; holds = old.holds })) c.self.view_is
    (admit_taken g.D.Disk.state c.args.seat c.args.op.now old c.self.invariant.0 (g.met.D.Disk.timed old.disk) can room c.requires.fits met
    c.take.new.disk c.take.new.held c.note-in-Taken.new.book (g.met.D.Disk.timed c.take.new.disk)
    (writes_written c.args.op.now c.requires.write c.requires.fits) ran writing
    c.take.ensures.effect c.requires.write c.in-Taken.ensures.takes c.in-Taken.ensures.faults c.in-Taken.ensures.ends
    (λ opening m honest s ran ok fit met. c.in-Taken.ensures.lists opening m honest s ran ok fit met) c.note-in-Taken.ensures)

pub returns-in-Failed : goal.returns-in-Failed
returns-in-Failed g c =
    let ran = subst (λ (s : CoreState g.row.D.Denot). s.held.book.stopped ≡ None) (sym c.self.view_is) c.requires.runs in
    let met = subst (λ (s : CoreState g.row.D.Denot). (opening : List (Key × Value)) (m : Machine) → IsTrue (g.D.Disk.state s.disk).is_honest →
    StandsFor AnyRows opening s.held m (g.D.Disk.state s.disk) → is_met c.args.op.now (value_in m.lists) ≡ true) (sym c.self.view_is)
    c.requires.met in
    let old : CoreState g.row.D.Denot = record { disk = c.self.inside.disk; held = c.self.inside.held; holds = c.self.inside.holds } in
    let can = subst (λ (s : CoreState g.row.D.Denot). may_in s.held c.args.seat (kind.Admit c.args.op.now) ≡ true) (sym c.self.view_is)
    (may_admit c.args.seat c.args.op.now c.args.self.now.held c.requires.write c.requires.note (λ runs. c.requires.even)) in
    let room = subst (λ (s : CoreState g.row.D.Denot). may_note_in c.args.seat 0 s.held.book ≡ true) (sym c.self.view_is) c.requires.note in
    let writing = may_write_at c.self.view_is c.args.seat c.args.op.now c.charge-charge.result c.args.weight c.geometry.result
    c.is_del.result c.requires.note (λ runs. c.requires.even) ran c.charge-charge.ensures c.requires.weight c.geometry.ensures
    c.is_del.ensures c.requires.least c.requires.most (c.admits.ensures.0 c.if-not-admits.false) in
    let begun = c.in-Failed.begun in
    let reply = cond begun FaultUnsure FaultLost in
    let same = stopped_same c.args.seat c.args.op.now c.args.op.now reply reply c.faults.result (g.D.Disk.state c.take.new.disk).faults c.take.new.held.book
    c.stop.new.self c.note-in-Failed.new.book c.stop.ensures c.faults.ensures c.note-in-Failed.ensures refl refl in
    subst (λ (s : CoreState g.row.D.Denot). AdmitsMet g.D.Disk.state c.args.seat c.args.op.now (admission.Fault begun) s
    (record { disk = c.take.new.disk; held = with_book c.note-in-Failed.new.book c.take.new.held; holds = old.holds })) c.self.view_is
    (admit_failed g.D.Disk.state c.args.seat c.args.op.now old c.self.invariant.0 (g.met.D.Disk.timed old.disk) can room c.requires.fits met
    c.take.new.disk c.take.new.held c.note-in-Failed.new.book (g.met.D.Disk.timed c.take.new.disk)
    (writes_written c.args.op.now c.requires.write c.requires.fits) ran writing
    c.take.ensures.effect begun c.in-Failed.ensures.takes c.in-Failed.ensures.faults (omega (arith, c.faults.type_inv, c.faults.ensures))
    (λ opening m honest s ran ok fit met. c.in-Failed.ensures.lists opening m honest s ran ok fit met) same)

-- ---- what the type keeps

pub invariant_of-self : goal.invariant_of-self
invariant_of-self g c = kept_on g.D.Disk.state c.self.view_is (g.met.D.Disk.timed c.self.inside.disk) c.self.invariant refl
    (returns-then-not-admits g c).goes

pub invariant_of-self-in-Taken : goal.invariant_of-self-in-Taken
invariant_of-self-in-Taken g c = kept_on g.D.Disk.state c.self.view_is (g.met.D.Disk.timed c.self.inside.disk) c.self.invariant refl
    (returns-in-Taken g c).goes

pub invariant_of-self-in-Failed : goal.invariant_of-self-in-Failed
invariant_of-self-in-Failed g c = kept_on g.D.Disk.state c.self.view_is (g.met.D.Disk.timed c.self.inside.disk) c.self.invariant refl
    (returns-in-Failed g c).goes
