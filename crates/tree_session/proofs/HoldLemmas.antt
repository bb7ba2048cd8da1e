-- Holds, which are made and dropped in memory alone, and read: each command notes its entry and moves no merge.
use Rattle.std.proofs.lemmas.Grind.{common_steps}
use Rattle.std.proofs.lemmas.Bool.Decides.{nat_tests}
use Rattle.std.proofs.Common.{◌≡◌, ◌∙◌, ℕ, ◌<◌, ◌≤◌, length, ap, sym, subst, arith}
use Rattle.blsm_model.specs.Book.{noted, rows_given}
use Rattle.blsm_model.specs.Format.{callers}
use Rattle.blsm_model.specs.Geometry.{file_length}
use Rattle.blsm_model.specs.declared.history.Entry.{Entry}
use Rattle.blsm_model.specs.declared.history.Reply.{Reply}
use Rattle.blsm_model.specs.declared.key.Key.{Key}
use Rattle.blsm_model.specs.declared.op.Op.{Op}
use Rattle.disk_trait.specs.Disk.{DiskState}
use Rattle.seat_book.specs.State.{BookState, noted_in}
use Rattle.tree_machine.specs.Steps.{Answer}
use Rattle.tree_machine.specs.declared.step.Kind.{Kind}
use Rattle.core_moves.specs.declared.held.Held.{Held}
use Rattle.tree_core.specs.Answers.{reply_to_drop, reply_to_hold, reply_to_next}
use Rattle.tree_core.specs.Calls.{GoesOnAs, IsCall}
use Rattle.tree_core.specs.Causes.{DropsBecause, HoldsBecause, ScansBecause, swaps_due_in}
use Rattle.tree_core.specs.Core.{CoreState}
use Rattle.tree_core.specs.Holds.{LeavesOthers}
use Rattle.tree_core.specs.Steps.{StandsSince}
use Rattle.tree_core.specs.declared.answers.Holding.{Holding}
use Rattle.tree_core.specs.declared.answers.Holding.TheVariants as holding
use Rattle.tree_core.specs.declared.answers.Release.{Release}
use Rattle.tree_core.specs.declared.answers.Release.TheVariants as release
use Rattle.tree_core.specs.Scanned.{Scanned}
use Rattle.tree_core.specs.Scanned as scanned
use Rattle.tree_session.specs.Faults.{NamesStop, Reaches, TellsFaults, TellsNone, faults_of}
use Rattle.tree_session.specs.Lines.{Rests}
use Rattle.tree_session.specs.Session.{Performs, most_calls}
use Rattle.tree_session.proofs.BookLemmas.{count_none}
use Rattle.tree_session.proofs.FaultLemmas.{none_told, proceeds_by, reaches_none, tells_quiet}
use Rattle.tree_session.proofs.MadeLemmas.{caller_is_no_help, made_by}
use Rattle.blsm_model.specs.Scripts.{rows_of}

-- ---- a command that notes its entry alone

-- the session rests still: no work was opened, and the debts are the same
still_rests : {D : Type 0} (seat : ℕ) (op : Op) (reply : Reply) (old new : CoreState D) → new.held.gears ≡ old.held.gears → new.held.book ≡ noted_in seat op reply old.held.book → Rests old.held → Rests new.held
still_rests seat op reply old new gears book rests = grind (arith, common_steps, nat_tests)

pub notes_alone : {D : Type 0} {answer : Answer} (state : D → DiskState) (seat : ℕ) (k : Kind) (op : Op) (reply : Reply) (old new : CoreState D) → seat < callers → StandsSince state old old → Rests old.held → GoesOnAs state seat k answer old new → IsCall state seat k old new
    → new.held.gears ≡ old.held.gears → new.held.book ≡ noted_in seat op reply old.held.book → length (rows_given reply) ≤ rows_of op → TellsNone op reply → NamesStop reply new.held.book.stopped
    → Reaches (file_length old.held.runs.sizes) (most_calls old.held.runs.sizes op 0 (swaps_due_in old.held)) (state old.disk) (state new.disk) → TellsFaults (faults_of reply) old.held new.held (state old.disk) (state new.disk) → Performs state seat op old new
notes_alone state seat k op reply old new below begins rests goes call gears book rows calm names effect tells =
    let entry : Entry = record { seat = seat; op = op; reply = reply } in
    record {
      reply = reply;
      quanta = 0;
      annals = ap (λ (b : BookState). b.book) book ∙ sym (count_none (noted old.held.book.book entry) (length old.held.book.book.entries));
      few = omega arith;
      rows = rows;
      calm = λ calm_end. calm;
      names = names;
      rests = still_rests seat op reply old new gears book rests;
      begins = goes.begins;
      proceeds = proceeds_by state (faults_of reply) (most_calls old.held.runs.sizes op 0 (swaps_due_in old.held)) old new below begins goes effect tells;
      made = made_by state seat k old new call (caller_is_no_help state seat k old new call below);
    }

-- and one that calls no disk
pub in_memory : {D : Type 0} {answer : Answer} (state : D → DiskState) (seat : ℕ) (k : Kind) (op : Op) (reply : Reply) (old new : CoreState D) → seat < callers → StandsSince state old old → Rests old.held → GoesOnAs state seat k answer old new → IsCall state seat k old new
    → LeavesOthers seat old new → new.held.book ≡ noted_in seat op reply old.held.book → (faults_of reply ≡ 0) × (length (rows_given reply) ≤ 0) → most_calls old.held.runs.sizes op 0 (swaps_due_in old.held) ≡ 0 → NamesStop reply new.held.book.stopped → new.disk ≡ old.disk
    → Performs state seat op old new
in_memory {D} state seat k op reply old new below begins rests goes call leaves book quiet calls names disk =
    let none = tells_quiet (ap (λ (b : BookState). b.stopped) book) (ap (λ (d : D). (state d).faults) disk) in
    notes_alone state seat k op reply old new below begins rests goes call (ap (λ (h : Held). h.gears) leaves.rest) book (omega (arith, quiet.1)) (none_told op reply quiet.0) names
    (subst (λ (n : ℕ). Reaches (file_length old.held.runs.sizes) n (state old.disk) (state new.disk)) (sym calls) (subst (λ (d : D). Reaches (file_length old.held.runs.sizes) 0 (state old.disk) (state d)) (sym disk) (reaches_none (state old.disk))))
    (subst (λ (told : ℕ). TellsFaults told old.held new.held (state old.disk) (state new.disk)) (sym quiet.0) none)

-- ---- what is told

pub hold_quiet : (answer : Holding) → (faults_of (reply_to_hold answer) ≡ 0) × (length (rows_given (reply_to_hold answer)) ≤ 0)
hold_quiet answer = grind (arith, common_steps, nat_tests)

pub hold_names : {D : Type 0} (answer : Holding) (seat : ℕ) (low high : Key) (old new : CoreState D) → HoldsBecause answer seat low high old new → new.held.book.stopped ≡ old.held.book.stopped → NamesStop (reply_to_hold answer) new.held.book.stopped
hold_names (holding.Stopped why) seat low high old new because same = same ∙ because.0
hold_names _ seat low high old new because same = tt

pub drop_quiet : (answer : Release) → (faults_of (reply_to_drop answer) ≡ 0) × (length (rows_given (reply_to_drop answer)) ≤ 0)
drop_quiet answer = grind (arith, common_steps, nat_tests)

pub drop_names : {D : Type 0} (answer : Release) (seat : ℕ) (old new : CoreState D) → DropsBecause answer seat old new → new.held.book.stopped ≡ old.held.book.stopped → NamesStop (reply_to_drop answer) new.held.book.stopped
drop_names (release.Stopped why) seat old new because same = same ∙ because.0
drop_names _ seat old new because same = tt

pub scan_names : {D : Type 0} (answer : Scanned) (seat n : ℕ) (old new : CoreState D) (before after : DiskState) → ScansBecause answer seat n old new before after → new.held.book.stopped ≡ old.held.book.stopped
    → NamesStop (reply_to_next answer) new.held.book.stopped
scan_names (scanned.Stopped why) seat n old new before after because same = same ∙ because.0
scan_names _ seat n old new before after because same = tt

-- nor does it give more rows than it was asked for
pub scan_rows : {D : Type 0} (answer : Scanned) (seat n : ℕ) (old new : CoreState D) (before after : DiskState) → ScansBecause answer seat n old new before after → length (rows_given (reply_to_next answer)) ≤ n
scan_rows answer seat n old new before after h1 = grind (arith, common_steps, nat_tests)
