use Rattle.std.specs.Prelude.{◌≡◌, true}
use Rattle.std.proofs.Common.{ap, subst, sym, ◌∙◌}
use Rattle.seat_book.specs.State.{BookState, may_note_in}
use Rattle.core_moves.specs.Moves.{with_book}
use Rattle.tree_core.specs.Calls.{ReadsOn}
use Rattle.tree_core.specs.Core.{CoreState}
use Rattle.tree_core.specs.HoldMoves.{undisked}
use Rattle.tree_core.specs.Scanned.{Counts, Scanned, rows_noted, scanned_by, scanned_in}
use Rattle.tree_core.proofs.HoldCalls.{next_does}
use Rattle.tree_core.proofs.HoldStepsByCall.{next_room}
use Rattle.tree_core.proofs.LastLemmas.{core_kept}
use Rattle.tree_core.proofs.ScanLemmas.{counts_entry, told_by_entry}
use Rattle.tree_core.proofs.store.Core.next_rows.Goals as goal

pub note_scan-requires : goal.note_scan-requires
note_scan-requires g c =
    let held = c.self.inside.held in
    let scan = c.read_on-scan in
    let can = subst (λ (s : CoreState g.row.D.Denot). may_note_in c.args.seat c.args.n s.held.book ≡ true) (sym c.self.view_is) c.requires.note in
    next_room (scanned_by scan.result scan.new.room) c.args.seat c.args.n (undisked held c.self.inside.holds) (undisked held scan.new.holds) (g.D.Disk.state c.self.inside.disk) (g.D.Disk.state scan.new.disk) held.book scan.ensures.cause can

pub returns-clause-reads : goal.returns-clause-reads
returns-clause-reads g c =
    let state = g.D.Disk.state in
    let seat = c.args.seat in
    let n = c.args.n in
    let old = c.self.inside in
    let scan = c.read_on-scan in
    let e = scan.ensures in
    let gave = scanned_by scan.result scan.new.room in
    let new : CoreState g.row.D.Denot = record { disk = scan.new.disk; held = with_book c.note_scan.new.book old.held; holds = scan.new.holds } in
    -- the entry has what the room was filled with
    let told : gave ≡ scanned_in scan.result c.note_scan.new.book =
    sym (told_by_entry scan.result scan.new.room seat n old.held.book) ∙ ap (λ (b : BookState). scanned_in scan.result b) (sym c.note_scan.ensures) in
    subst (λ (s : CoreState g.row.D.Denot). may_note_in seat n s.held.book ≡ true → ReadsOn state seat n (scanned_in scan.result c.note_scan.new.book) s new) c.self.view_is
    (λ note. subst (λ (answer : Scanned). ReadsOn state seat n answer (record { disk = old.disk; held = old.held; holds = old.holds }) new) told
    (next_does state seat n gave (record { disk = old.disk; held = old.held; holds = old.holds }) scan.new.disk c.note_scan.new.book c.self.invariant.0 c.self.invariant.1 (g.met.D.Disk.timed scan.new.disk)
    note c.requires.some c.requires.few e.others e.cause e.counted (λ rows honest runs has whole. e.rows rows honest runs has whole) e.reads e.passes (λ none. e.untouched none) c.note_scan.ensures)) c.requires.note

pub returns-clause-counts : goal.returns-clause-counts
returns-clause-counts g c =
    let scan = c.read_on-scan in
    subst (λ (b : BookState). Counts scan.result (rows_noted b.book)) (sym c.note_scan.ensures) (counts_entry scan.result scan.new.room c.args.seat c.args.n c.self.inside.held.book scan.ensures.counts)

pub invariant_of-self : goal.invariant_of-self
invariant_of-self g c = (core_kept g.D.Disk.state c.self.view_is c.self.invariant.0 (returns-clause-reads g c).goes, c.read_on-scan.ensures.few c.self.invariant.1)
