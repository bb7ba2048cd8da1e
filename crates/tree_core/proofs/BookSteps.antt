-- A leave and the end of a work: steps that only write in the book.
use Rattle.std.specs.Prelude.{◌≡◌, ℕ, ◌<◌, ◌≤◌, true, false, List, Option, IsTrue, length}
use Rattle.std.proofs.lemmas.Grind.{common_steps}
use Rattle.std.proofs.lemmas.Bool.Decides.{nat_tests}
use Rattle.std.proofs.Common.{◌∙◌, inl, inr, refl, ap, sym, subst, arith}
use Rattle.std.proofs.lemmas.List.{get_or-set_same}
use Rattle.blsm_model.specs.Format.{callers}
use Rattle.blsm_model.specs.declared.key.Key.{Key}
use Rattle.blsm_model.specs.declared.row.Value.{Value}
use Rattle.blsm_model.specs.declared.op.Op.TheVariants.{Work}
use Rattle.blsm_model.specs.declared.history.Entry.{Entry}
use Rattle.blsm_model.specs.declared.history.Why.{Why}
use Rattle.blsm_model.specs.declared.history.Reply.{Reply}
use Rattle.blsm_model.specs.Book.{HasRoom, rows_given}
use Rattle.blsm_model.specs.Facts.{Follows}
use Rattle.disk_trait.specs.Disk.{DiskState}
use Rattle.disk_trait.specs.Moments.{IsTimed}
use Rattle.disk_trait.specs.Reads.{OnlyReads}
use Rattle.disk_trait.proofs.ReadLemmas.{only_reads_start}
use Rattle.pacing.specs.Pace.{Pace}
use Rattle.seat_book.specs.State.{BookState, book_of, ended_in, left_in, work_in, may_end_in}
use Rattle.seat_book.specs.Seats.{KeepsSeats}
use Rattle.seat_book.proofs.KeepLemmas.{leave_keeps, ending_keeps, keeps_less, holds_follow}
use Rattle.seat_book.proofs.WordLemmas.{steps_book}
use Rattle.tree_machine.specs.Machine.{Machine, WorkSoFar}
use Rattle.tree_machine.specs.Steps.{Answer, Well, Left, Replied, leave, work_end, work_reply}
use Rattle.tree_machine.specs.Plays.{may}
use Rattle.tree_machine.specs.declared.step.Kind.{Kind}
use Rattle.tree_machine.specs.declared.step.Kind.TheVariants as kind
use Rattle.paced_tree.specs.Made.{IsMadeBy}
use Rattle.core_moves.specs.declared.held.Held.{Held}
use Rattle.core_moves.specs.Moves.{with_book}
use Rattle.core_moves.specs.Needs.{IsOn}
use Rattle.core_pace.specs.Pacing.{IsRunBook}
use Rattle.core_pace.proofs.TurnLemmas.{leave_is_told, end_is_told}
use Rattle.core_lists.proofs.ShowingLemmas.{quiet_entry_counts_none}
use Rattle.tree_core.specs.Calls.{BesideHolds, EndsWork, GoesOnAs, Leaves}
use Rattle.tree_core.specs.Core.{CoreState, IsCore, facts_of_held, beside_in}
use Rattle.tree_core.specs.Notes.{HasLeft, CountsCommits, rotations}
use Rattle.tree_core.specs.Standing.{AnyRows, StandsFor}
use Rattle.tree_core.specs.Steps.{IsStep, may_in}
use Rattle.tree_core.proofs.KeepLemmas.{is_held, reads_affect, no_commits}
use Rattle.tree_core.proofs.LastLemmas.{goes_on_by, may_leave}
use Rattle.tree_core.proofs.QuietLemmas.{quiet_step, read_holds}

-- what one call for the book leaves to the other seats, whose debts stay
pub book_follows : (seat entries : ℕ) (held : Held) (b : BookState) → entries ≤ 1 → KeepsSeats seat entries 0 held.book b → Follows seat (facts_of_held held) (facts_of_held (with_book b held))
book_follows seat entries held b few keeps =
    holds_follow seat held.book b (beside_in held) (beside_in held) (keeps_less seat entries 1 0 1 held.book b few (omega arith) keeps)
    (record { first = λ other not. omega arith; second = λ other not. omega arith })

-- What such a call says, where its disk is only read, or isn't called.
pub book_goes : {D : Type 0} {end most : ℕ} (state : D → DiskState) (seat : ℕ) (k : Kind) (answer : Answer) (old : CoreState D) (disk : D) (b : BookState) (entries : ℕ) → IsCore old.held (state old.disk) → IsTimed (state disk)
    → OnlyReads end most (state old.disk) (state disk) → (IsOn old.held (state old.disk) → IsOn old.held (state disk)) → is_held k ≡ false → rotations answer k old.held ≡ 0 → may_in old.held seat k ≡ true → entries ≤ 1 → KeepsSeats seat entries 0 old.held.book b
    → b.counts ≡ old.held.book.counts → b.stopped ≡ old.held.book.stopped → ((pace : Pace) → IsRunBook old.held.book pace → IsRunBook b pace) → ((pace : Pace) → IsMadeBy seat k answer pace pace)
    → ((opening : List (Key × Value)) (m : Machine) → IsTrue (state old.disk).is_honest → StandsFor AnyRows opening old.held m (state old.disk) → may m seat k ≡ true
    → IsStep AnyRows opening seat k answer (with_book b old.held) (state old.disk) (state disk) m)
    → GoesOnAs state seat k answer old (record { disk = disk; held = with_book b old.held; holds = old.holds }) × BesideHolds state seat k answer old (record { disk = disk; held = with_book b old.held; holds = old.holds })
book_goes state seat k answer old disk b entries core timed reads on none still can few keeps counts stopped told made steps =
    goes_on_by state seat k answer old _ core timed none can (record { holds = refl; pins = refl; sizes = refl }) (subst (λ (n : ℕ). CountsCommits n old.held (with_book b old.held)) (sym still) (no_commits old.held (with_book b old.held) refl counts)) (reads_affect reads) (book_follows seat entries old.held b few keeps)
    (λ pace holds. record { next = pace; made = made pace; holds = read_holds old.held old.held.runs.space b pace (state old.disk) (state disk) holds counts stopped (told pace holds.told.told) on }) steps

-- ---- a leave

pub leave_does : {D : Type 0} (state : D → DiskState) (seat : ℕ) (old : CoreState D) (b : BookState) → IsCore old.held (state old.disk) → IsTimed (state old.disk) → seat < callers → length old.held.book.seats.left ≡ callers
    → b ≡ left_in seat old.held.book → Leaves state seat old (record old { held = with_book b old.held })
leave_does {D} state seat old b core timed caller places is = subst (λ (x : BookState). Leaves state seat old (record old { held = with_book x old.held })) (sym is) (record { goes = goes.0; beside = goes.1; held = refl; left = left; untouched = refl })
  where
    reads : OnlyReads 0 0 (state old.disk) (state old.disk)
    reads = only_reads_start (state old.disk) timed

    goes : GoesOnAs state seat kind.Leave Left old (record old { held = with_book (left_in seat old.held.book) old.held }) × BesideHolds state seat kind.Leave Left old (record old { held = with_book (left_in seat old.held.book) old.held })
    goes = book_goes state seat kind.Leave Left old old.disk (left_in seat old.held.book) 0 core timed reads (λ on. on) refl refl (may_leave seat caller) (omega arith) (leave_keeps seat old.held.book) refl refl
        (λ pace told. leave_is_told old.held.book pace seat told) (λ pace. refl)
        (λ opening m honest s can. quiet_step opening seat kind.Leave Well Left old.held old.held.runs.space (left_in seat old.held.book) m (leave m seat).state reads honest s can tt tt refl refl
        (record {
          same = record { lists = refl; merges = refl; gears = refl; spring = refl; catalogue = refl };
          counts = record
              { charge = refl; peak = refl; quanta = refl };
          book = (steps_book m).leave seat
              ∙ ap (left_in seat) s.book;
          stopped = refl;
          noted = inl refl;
        }) (λ tree file of. of) (λ none. tt))

    left : HasLeft seat (left_in seat old.held.book)
    left = get_or-set_same old.held.book.seats.left seat true false (omega (arith, caller, places))

-- ---- the end of a work

pub end_has_room : (seat n : ℕ) (b : BookState) (reply : Reply) → length (rows_given reply) ≡ 0 → may_end_in seat n b ≡ true → HasRoom b.book.room (record { seat = seat; op = Work n; reply = reply })
end_has_room seat n b reply none can = grind (arith, common_steps, nat_tests)

-- a work gives no rows
no_rows : (work : WorkSoFar) (stopped : Option Why) → length (rows_given (work_reply work stopped)) ≡ 0
no_rows work stopped = grind (arith, common_steps, nat_tests)

pub end_does : {D : Type 0} (state : D → DiskState) (seat n : ℕ) (reply : Reply) (old : CoreState D) (b : BookState) → IsCore old.held (state old.disk) → IsTimed (state old.disk) → length old.held.book.seats.work ≡ callers
    → may_end_in seat n old.held.book ≡ true → reply ≡ work_reply (work_in seat old.held.book) old.held.book.stopped → b ≡ ended_in seat n old.held.book → EndsWork state seat n reply old (record old { held = with_book b old.held })
end_does {D} state seat n reply old b core timed works can reply_is is = subst (λ (x : BookState). EndsWork state seat n reply old (record old { held = with_book x old.held })) (sym is) (record { goes = goes.0; beside = goes.1; reply_is = reply_is; held = refl; untouched = refl })
  where
    reads : OnlyReads 0 0 (state old.disk) (state old.disk)
    reads = only_reads_start (state old.disk) timed

    goes : GoesOnAs state seat (kind.WorkEnd n) (Replied reply) old (record old { held = with_book (ended_in seat n old.held.book) old.held }) × BesideHolds state seat (kind.WorkEnd n) (Replied reply) old (record old { held = with_book (ended_in seat n old.held.book) old.held })
    goes = book_goes state seat (kind.WorkEnd n) (Replied reply) old old.disk (ended_in seat n old.held.book) 1 core timed reads (λ on. on) refl refl can (omega arith) (ending_keeps seat n old.held.book) refl refl
        (λ pace told. end_is_told old.held.book pace seat n works (end_has_room seat n old.held.book (work_reply (work_in seat old.held.book) old.held.book.stopped) (no_rows (work_in seat old.held.book) old.held.book.stopped) can) told) (λ pace. refl)
        (λ opening m honest s ok.
        let entry : Entry = record { seat = seat; op = Work n; reply = work_reply (work_in seat (book_of m)) m.stopped } in
        quiet_step opening seat (kind.WorkEnd n) Well (Replied reply) old.held old.held.runs.space (ended_in seat n old.held.book) m (work_end m seat n).state reads honest s ok tt tt refl
        (ap (λ (r : Reply). record { state = (work_end m seat n).state; answer = Replied r }) (ap (λ (x : BookState). work_reply (work_in seat x) x.stopped) s.book ∙ sym reply_is))
        (record {
          same = record { lists = refl; merges = refl; gears = refl; spring = refl; catalogue = refl };
          counts = record
              { charge = refl; peak = refl; quanta = refl };
          book = (steps_book m).ending seat n
              ∙ ap (ended_in seat n) s.book;
          stopped = refl;
          noted = inr (entry, refl, quiet_entry_counts_none entry (inl refl));
        })
        (λ tree file of. of) (λ none. tt))
