use Rattle.std.proofs.Common.{◌∙◌, ℕ, ◌≤◌, List, Some, ap, subst, arith}
use Rattle.std.specs.Prelude.{Option, None, length}
use Rattle.blsm_model.specs.Book.{rows_given}
use Rattle.blsm_model.specs.declared.row.Row.{Row}
use Rattle.disk_trait.specs.Disk.{DiskState}
use Rattle.scan_view.specs.Hold.{HoldState}
use Rattle.scan_view.specs.Holds.{AreGivenBy}
use Rattle.tree_machine.specs.declared.step.Kind.TheVariants as kind
use Rattle.core_moves.specs.declared.held.Held.{Held}
use Rattle.tree_core.specs.Answers.{reply_to_next}
use Rattle.tree_core.specs.Calls.{ReadsOn}
use Rattle.tree_core.specs.Causes.{ScansBecause}
use Rattle.tree_core.specs.Core.{CoreState}
use Rattle.tree_core.specs.Scanned.{Scanned, rows_noted, scanned_in}
use Rattle.tree_core.specs.Scanned as scanned
use Rattle.tree_shared.proofs.HoldLemmas.{calls, came_given, note_ok, table_given, took, turn_given}
use Rattle.tree_shared.proofs.NoteLemmas.{answers}
use Rattle.tree_shared.proofs.holds.read_on.Goals as goal

given_few : (n : ℕ) (rows : List Row) (old new : Option HoldState) → AreGivenBy n old new rows → length rows ≤ n
given_few n rows (Some old) (Some new) given = given.0.few
given_few n rows (Some old) None given = absurd given
given_few n rows None new given = absurd given

gives_few : {D : Type 0} (answer : Scanned) (seat n : ℕ) (old new : CoreState D) (before after : DiskState) → ScansBecause answer seat n old new before after → length (rows_given (reply_to_next answer)) ≤ n
gives_few (scanned.Rows rows) seat n old new before after because = given_few n rows _ _ because.2
gives_few _ seat n old new before after because = omega arith

pub next_rows-answer-requires-clause-note : goal.next_rows-answer-requires-clause-note
next_rows-answer-requires-clause-note g c = note_ok g.D.Disk.state c.args.caller.now c.take-core.result c.take-core.ensures.2 c.number-seat.ensures c.args.n c.requires.comes

pub give-requires : goal.give-requires
give-requires g c =
    let its = calls g.D.Disk.state (kind.Next c.args.n) c.args.caller.now c.take-core.new.caller c.take-core.result c.next_rows-answer.new.self c.take-core.ensures c.number-seat.ensures (scanned_in c.next_rows-answer.result c.next_rows-answer.new.self.held.book, c.next_rows-answer.ensures.reads) in
    record { lock = table_given its ∙ c.requires.comes.of_lock.0; turn = turn_given its; lasts = came_given its }

pub returns : goal.returns
returns g c =
    let its = calls g.D.Disk.state (kind.Next c.args.n) c.args.caller.now c.take-core.new.caller c.take-core.result c.next_rows-answer.new.self c.take-core.ensures c.number-seat.ensures (scanned_in c.next_rows-answer.result c.next_rows-answer.new.self.held.book, c.next_rows-answer.ensures.reads) in
    let told = scanned_in c.next_rows-answer.result c.next_rows-answer.new.self.held.book in
    let reads = subst (λ (n : ℕ). ReadsOn g.D.Disk.state n c.args.n told c.take-core.result c.next_rows-answer.new.self) c.number-seat.ensures c.next_rows-answer.ensures.reads in (
      rows_noted c.next_rows-answer.new.self.held.book.book,
      c.next_rows-answer.ensures.counts,
      answers (took its c.give.ensures) c.requires.comes reads.book (ap (λ (h : Held). h.gears) reads.others.rest)
          (gives_few told c.args.caller.now.number c.args.n c.take-core.result c.next_rows-answer.new.self (g.D.Disk.state c.take-core.result.disk) (g.D.Disk.state c.next_rows-answer.new.self.disk) reads.cause),
    )
