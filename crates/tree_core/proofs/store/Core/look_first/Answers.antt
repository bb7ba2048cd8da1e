use Rattle.std.specs.Prelude.{◌≡◌, true, None, IsTrue}
use Rattle.std.proofs.Common.{refl, sym, subst, arith}
use Rattle.blsm_model.specs.Book.{HasRoom}
use Rattle.blsm_model.specs.declared.history.Reply.TheVariants.{Damaged, Fault, Kept}
use Rattle.blsm_model.specs.declared.op.Op.{Op}
use Rattle.blsm_model.proofs.OpLemmas.{first_is_write}
use Rattle.seat_book.specs.State.{may_note_in}
use Rattle.seat_book.proofs.WordLemmas.{note_has_room}
use Rattle.tree_machine.specs.declared.step.Kind.TheVariants as kind
use Rattle.core_moves.specs.Moves.{with_book}
use Rattle.tree_core.specs.Calls.{Admits, LooksFirst}
use Rattle.tree_core.specs.Causes.{pages_first}
use Rattle.tree_core.specs.Core.{CoreState}
use Rattle.tree_core.specs.Ruling as ruling
use Rattle.tree_core.specs.Steps.{may_in}
use Rattle.tree_core.proofs.AdmissionLemmas.{noted_same}
use Rattle.tree_core.proofs.AfterReads.{core_after}
use Rattle.tree_core.proofs.FirstLemmas.{counts_first}
use Rattle.tree_core.proofs.LastLemmas.{kept_on, may_admit}
use Rattle.tree_core.proofs.RefusalCalls.{passes, refused_damaged, refused_fault, refused_kept}
use Rattle.tree_core.proofs.store.Core.look_first.Goals as goal

-- ---- its condition holds

pub returns-in-Met : goal.returns-in-Met
returns-in-Met g c =
    let old : CoreState g.row.D.Denot = record { disk = c.self.inside.disk; held = c.self.inside.held; holds = c.self.inside.holds } in
    let disk = c.try_first.new.disk in
    let can = subst (λ (s : CoreState g.row.D.Denot). may_in s.held c.args.seat (kind.Admit c.args.op.now) ≡ true) (sym c.self.view_is)
    (may_admit c.args.seat c.args.op.now c.args.self.now.held (first_is_write c.args.op.now c.requires.first) c.requires.note
    (λ runs. c.requires.even)) in
    let room = subst (λ (s : CoreState g.row.D.Denot). may_note_in c.args.seat 0 s.held.book ≡ true) (sym c.self.view_is) c.requires.note in
    let ran = subst (λ (s : CoreState g.row.D.Denot). s.held.book.stopped ≡ None) (sym c.self.view_is) c.requires.runs in
    subst (λ (s : CoreState g.row.D.Denot). LooksFirst g.D.Disk.state c.args.seat c.args.op.now None s
    (record { disk = disk; held = old.held; holds = old.holds })) c.self.view_is
    (passes g.D.Disk.state c.args.seat c.args.op.now old disk c.self.invariant.0 (g.met.D.Disk.timed disk) can room c.requires.fits
    c.try_first.ensures.asks ran c.in-Met.ensures.tries c.in-Met.ensures.finds)

-- ---- it is refused

pub note-requires : goal.note-requires
note-requires g c =
    let b = c.self.inside.held.book in
    let room = subst (λ (s : CoreState g.row.D.Denot). IsTrue (may_note_in c.args.seat 0 s.held.book)) (sym c.self.view_is) c.requires.note in
    subst (λ (o : Op). HasRoom b.book.room (record { seat = c.args.seat; op = o; reply = Kept c.in-Kept.found })) (sym c.copy.ensures)
    (note_has_room b c.args.seat 0 c.args.op.now (Kept c.in-Kept.found) room (omega arith))

pub returns-in-Kept : goal.returns-in-Kept
returns-in-Kept g c = (
  c.in-Kept.found,
  let old : CoreState g.row.D.Denot = record { disk = c.self.inside.disk; held = c.self.inside.held; holds = c.self.inside.holds } in
      let disk = c.try_first.new.disk in
      let can = subst (λ (s : CoreState g.row.D.Denot). may_in s.held c.args.seat (kind.Admit c.args.op.now) ≡ true) (sym c.self.view_is)
      (may_admit c.args.seat c.args.op.now c.args.self.now.held (first_is_write c.args.op.now c.requires.first) c.requires.note
      (λ runs. c.requires.even)) in
      let room = subst (λ (s : CoreState g.row.D.Denot). may_note_in c.args.seat 0 s.held.book ≡ true) (sym c.self.view_is) c.requires.note in
      let ran = subst (λ (s : CoreState g.row.D.Denot). s.held.book.stopped ≡ None) (sym c.self.view_is) c.requires.runs in
      let same = noted_same c.args.seat c.args.op.now c.copy.result (Kept c.in-Kept.found) old.held.book c.note.new.self c.note.ensures
      c.copy.ensures in
      subst (λ (s : CoreState g.row.D.Denot). Admits g.D.Disk.state c.args.seat c.args.op.now (ruling.Kept c.in-Kept.found) s
      (record { disk = disk; held = with_book c.note.new.self old.held; holds = old.holds })) c.self.view_is
      (refused_kept g.D.Disk.state c.args.seat c.args.op.now old disk c.self.invariant.0 (g.met.D.Disk.timed disk) can room c.requires.fits
      c.try_first.ensures.asks ran c.requires.first c.in-Kept.found c.note.new.self c.in-Kept.ensures.tries c.in-Kept.ensures.finds same),
)

pub note-requires-in-Fault : goal.note-requires-in-Fault
note-requires-in-Fault g c =
    let b = c.self.inside.held.book in
    let room = subst (λ (s : CoreState g.row.D.Denot). IsTrue (may_note_in c.args.seat 0 s.held.book)) (sym c.self.view_is) c.requires.note in
    subst (λ (o : Op). HasRoom b.book.room (record { seat = c.args.seat; op = o; reply = Fault })) (sym c.copy-in-Fault.ensures)
    (note_has_room b c.args.seat 0 c.args.op.now Fault room (omega arith))

pub returns-in-Fault : goal.returns-in-Fault
returns-in-Fault g c = (
  None,
  let old : CoreState g.row.D.Denot = record { disk = c.self.inside.disk; held = c.self.inside.held; holds = c.self.inside.holds } in
      let disk = c.try_first.new.disk in
      let can = subst (λ (s : CoreState g.row.D.Denot). may_in s.held c.args.seat (kind.Admit c.args.op.now) ≡ true) (sym c.self.view_is)
      (may_admit c.args.seat c.args.op.now c.args.self.now.held (first_is_write c.args.op.now c.requires.first) c.requires.note
      (λ runs. c.requires.even)) in
      let room = subst (λ (s : CoreState g.row.D.Denot). may_note_in c.args.seat 0 s.held.book ≡ true) (sym c.self.view_is) c.requires.note in
      let ran = subst (λ (s : CoreState g.row.D.Denot). s.held.book.stopped ≡ None) (sym c.self.view_is) c.requires.runs in
      let same = noted_same c.args.seat c.args.op.now c.copy-in-Fault.result Fault old.held.book c.note-in-Fault.new.self c.note-in-Fault.ensures
      c.copy-in-Fault.ensures in
      subst (λ (s : CoreState g.row.D.Denot). Admits g.D.Disk.state c.args.seat c.args.op.now ruling.ReadFault s
      (record { disk = disk; held = with_book c.note-in-Fault.new.self old.held; holds = old.holds })) c.self.view_is
      (refused_fault g.D.Disk.state c.args.seat c.args.op.now old disk c.self.invariant.0 (g.met.D.Disk.timed disk) can room c.requires.fits
      c.try_first.ensures.asks ran c.requires.first c.note-in-Fault.new.self c.in-Fault.ensures.tries same),
)

pub note-requires-in-Damaged : goal.note-requires-in-Damaged
note-requires-in-Damaged g c =
    let b = c.self.inside.held.book in
    let room = subst (λ (s : CoreState g.row.D.Denot). IsTrue (may_note_in c.args.seat 0 s.held.book)) (sym c.self.view_is) c.requires.note in
    subst (λ (o : Op). HasRoom b.book.room (record { seat = c.args.seat; op = o; reply = Damaged c.in-Damaged.page }))
    (sym c.copy-in-Damaged.ensures) (note_has_room b c.args.seat 0 c.args.op.now (Damaged c.in-Damaged.page) room (omega arith))

pub returns-in-Damaged : goal.returns-in-Damaged
returns-in-Damaged g c = (
  None,
  let old : CoreState g.row.D.Denot = record { disk = c.self.inside.disk; held = c.self.inside.held; holds = c.self.inside.holds } in
      let disk = c.try_first.new.disk in
      let can = subst (λ (s : CoreState g.row.D.Denot). may_in s.held c.args.seat (kind.Admit c.args.op.now) ≡ true) (sym c.self.view_is)
      (may_admit c.args.seat c.args.op.now c.args.self.now.held (first_is_write c.args.op.now c.requires.first) c.requires.note
      (λ runs. c.requires.even)) in
      let room = subst (λ (s : CoreState g.row.D.Denot). may_note_in c.args.seat 0 s.held.book ≡ true) (sym c.self.view_is) c.requires.note in
      let ran = subst (λ (s : CoreState g.row.D.Denot). s.held.book.stopped ≡ None) (sym c.self.view_is) c.requires.runs in
      let same = noted_same c.args.seat c.args.op.now c.copy-in-Damaged.result (Damaged c.in-Damaged.page) old.held.book c.note-in-Damaged.new.self
      c.note-in-Damaged.ensures c.copy-in-Damaged.ensures in
      subst (λ (s : CoreState g.row.D.Denot). Admits g.D.Disk.state c.args.seat c.args.op.now (ruling.Damaged c.in-Damaged.page) s
      (record { disk = disk; held = with_book c.note-in-Damaged.new.self old.held; holds = old.holds })) c.self.view_is
      (refused_damaged g.D.Disk.state c.args.seat c.args.op.now old disk c.self.invariant.0 (g.met.D.Disk.timed disk) can room c.requires.fits
      c.try_first.ensures.asks ran c.requires.first c.in-Damaged.page c.note-in-Damaged.new.self c.in-Damaged.ensures.tries
      c.in-Damaged.ensures.finds same),
)

-- ---- what the type keeps

pub invariant_of-self-in-Kept : goal.invariant_of-self-in-Kept
invariant_of-self-in-Kept g c = kept_on g.D.Disk.state c.self.view_is (g.met.D.Disk.timed c.self.inside.disk) c.self.invariant refl
    (returns-in-Kept g c).1.goes

pub invariant_of-self-in-Fault : goal.invariant_of-self-in-Fault
invariant_of-self-in-Fault g c = kept_on g.D.Disk.state c.self.view_is (g.met.D.Disk.timed c.self.inside.disk) c.self.invariant refl
    (returns-in-Fault g c).1.goes

pub invariant_of-self-in-Damaged : goal.invariant_of-self-in-Damaged
invariant_of-self-in-Damaged g c = kept_on g.D.Disk.state c.self.view_is (g.met.D.Disk.timed c.self.inside.disk) c.self.invariant refl
    (returns-in-Damaged g c).1.goes

pub invariant_of-self : goal.invariant_of-self
invariant_of-self g c =
    let asks = c.try_first.ensures.asks (pages_first c.args.op.now) (counts_first c.args.op.now c.self.inside.held) in
    (core_after asks c.self.inside.held c.self.invariant.0, c.self.invariant.1)
