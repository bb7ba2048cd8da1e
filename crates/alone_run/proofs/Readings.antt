-- Steps that note an entry and leave the merges alone: lookups, holds, and the end of a work.
use Rattle.std.proofs.Common.{◌≡◌, ◌∙◌, refl, ap, sym, subst, ℕ, zero, suc, ◌+◌, false, List, [], ◌∷◌, ◌++◌, length, take, drop, Option, Some, None, arith}
use Rattle.std.proofs.lemmas.Grind.{common_steps}
use Rattle.std.proofs.lemmas.Bool.Decides.{nat_tests}
use Rattle.std.specs.Prelude.{slice_index, slice_index_or, slice_set}
use Rattle.std.specs.List.{AllByRecursion}
use Rattle.std.proofs.lemmas.Bool.{false≢true}
use Rattle.blsm_model.specs.Book.{room_after}
use Rattle.blsm_model.specs.Histories.{answer_to_release, answer_to_look}
use Rattle.blsm_model.specs.declared.history.Entry.{Entry}
use Rattle.blsm_model.specs.declared.history.Reply.{Reply}
use Rattle.blsm_model.specs.declared.history.Reply.TheVariants.{Held, NoHold, Rows, Fault, Damaged, NoMemory}
use Rattle.blsm_model.specs.declared.history.Why.{Why}
use Rattle.blsm_model.specs.declared.key.Key.{Key}
use Rattle.blsm_model.specs.declared.op.Op.{Op}
use Rattle.blsm_model.specs.declared.op.Op.TheVariants.{Hold, Next, Release, Work}
use Rattle.blsm_model.specs.declared.row.Row.{Row}
use Rattle.tree_machine.specs.Lists.{Lists, rows_in, contents_in}
use Rattle.tree_machine.specs.Machine.{Machine, WorkSoFar, held_by, no_work}
use Rattle.tree_machine.specs.Stands.{work_at}
use Rattle.tree_machine.specs.Steps.{
  Outcome,
  Well,
  FailedAfter,
  FailedLooking,
  Broken,
  NoRoom,
  Stepped,
  do_hold,
  do_next,
  drop_hold,
  hold,
  holding,
  next_rows,
  replied,
  reply_unless,
  unless_stopped,
  work_end,
  work_reply,
  look,
}
use Rattle.alone_run.specs.Alone.{is_trouble}

-- what such a step reads
pub record Seen : Type 0 where
  pub lists : Lists
  pub holds : List (Option (List Row))
  pub work : List WorkSoFar
  pub stopped : Option Why

abbrev pub seen : Machine → Seen
seen m = record { lists = m.lists; holds = m.holds; work = m.seats.work; stopped = m.stopped }

-- what it replies and leaves, and the quanta of its entry
pub record Reading : Type 0 where
  pub reply : Seen → Reply
  pub holds : Seen → List (Option (List Row))
  pub work : Seen → List WorkSoFar
  pub quanta : Seen → ℕ

abbrev pub entry_of : ℕ → Op → Reply → Entry
entry_of seat op reply = record { seat = seat; op = op; reply = reply }

abbrev pub read_as : Reading → ℕ → Op → Machine → Machine
read_as r seat op m = record m {
  holds = r.holds (seen m);
  seats = record m.seats { work = r.work (seen m) };
  book = record {
    entries = m.book.entries ++ entry_of seat op (r.reply (seen m)) ∷ [];
    quanta = m.book.quanta ++ r.quanta (seen m) ∷ [];
    room = room_after m.book.room (entry_of seat op (r.reply (seen m)));
  };
}

abbrev pub looking : Op → Reading
looking op = record { reply = λ v. answer_to_look op (contents_in v.lists); holds = λ v. v.holds; work = λ v. v.work; quanta = λ v. 0 }

abbrev pub taking_hold : ℕ → Key → Key → Reading
taking_hold seat low high = record { reply = λ v. Held; holds = λ v. slice_set v.holds seat (Some (rows_in v.lists low high)); work = λ v. v.work; quanta = λ v. 0 }

abbrev next_reply : ℕ → Option (List Row) → Reply
next_reply n None = NoHold
next_reply n (Some rows) = Rows (take n rows)

abbrev next_holds : ℕ → ℕ → List (Option (List Row)) → Option (List Row) → List (Option (List Row))
next_holds seat n holds None = holds
next_holds seat n holds (Some rows) = slice_set holds seat (Some (drop n rows))

abbrev pub reading_on : ℕ → ℕ → Reading
reading_on seat n = record { reply = λ v. next_reply n (slice_index_or v.holds seat None); holds = λ v. next_holds seat n v.holds (slice_index_or v.holds seat None); work = λ v. v.work; quanta = λ v. 0 }

abbrev pub releasing : ℕ → Reading
releasing seat = record { reply = λ v. answer_to_release (slice_index_or v.holds seat None); holds = λ v. slice_set v.holds seat None; work = λ v. v.work; quanta = λ v. 0 }

abbrev pub ending : ℕ → Reading
ending seat = record { reply = λ v. work_reply (work_at seat v.work) v.stopped; holds = λ v. v.holds; work = λ v. slice_set v.work seat no_work; quanta = λ v. (work_at seat v.work).quanta }

-- ---- each such step, of a tree that runs, where its reply tells of no trouble

abbrev pub Calm : List Entry → Type 0
Calm entries = AllByRecursion (λ e. is_trouble e.reply ≡ false) entries

pub last_of : (P : Entry → Type 0) (xs : List Entry) (x : Entry) → AllByRecursion P (xs ++ x ∷ []) → P x
last_of P [] x all = all.0
last_of P (y ∷ xs) x all = last_of P xs x all.1

-- a step that runs
pub running_is : (m : Machine) (seat : ℕ) (op : Op) (made : Stepped) → m.stopped ≡ None → (unless_stopped m.stopped seat op m made).state ≡ made.state
running_is m seat op made none = ap (λ o. (unless_stopped o seat op m made).state) none

no_trouble : (m : Machine) (seat : ℕ) (op : Op) (reply : Reply) (made : Stepped) → m.stopped ≡ None → made.state.book.entries ≡ m.book.entries ++ entry_of seat op reply ∷ [] → Calm (unless_stopped m.stopped seat op m made).state.book.entries
    → is_trouble reply ≡ false
no_trouble m seat op reply made none is calm =
    last_of (λ (e : Entry). is_trouble e.reply ≡ false) m.book.entries (entry_of seat op reply) (subst Calm (ap (λ (n : Machine). n.book.entries) (running_is m seat op made none) ∙ is) calm)

pub look_reads : (m : Machine) (seat : ℕ) (op : Op) (outcome : Outcome) → m.stopped ≡ None → Calm (look m seat op outcome).state.book.entries → (look m seat op outcome).state ≡ read_as (looking op) seat op m
look_reads m seat op outcome none calm =
    running_is m seat op (replied seat op (reply_unless outcome answer) m) none
    ∙ by outcome (no_trouble m seat op (reply_unless outcome answer) (replied seat op (reply_unless outcome answer) m) none refl calm)
  where
    answer : Reply
    answer = answer_to_look op (contents_in m.lists)

    by : (e : Outcome) → is_trouble (reply_unless e answer) ≡ false → (replied seat op (reply_unless e answer) m).state ≡ read_as (looking op) seat op m
    by e h1 = grind (arith, common_steps, nat_tests)

-- one that went well
pub look_well : (m : Machine) (seat : ℕ) (op : Op) → m.stopped ≡ None → (look m seat op Well).state ≡ read_as (looking op) seat op m
look_well m seat op none = running_is m seat op (replied seat op (answer_to_look op (contents_in m.lists)) m) none

pub hold_reads : (m : Machine) (seat : ℕ) (low high : Key) (outcome : Outcome) → m.stopped ≡ None → Calm (hold m seat low high outcome).state.book.entries → (hold m seat low high outcome).state ≡ read_as (taking_hold seat low high) seat (Hold low high) m
hold_reads m seat low high outcome none calm = running_is m seat (Hold low high) (do_hold m seat low high outcome) none ∙ by outcome calm
  where
    by : (e : Outcome) → Calm (unless_stopped m.stopped seat (Hold low high) m (do_hold m seat low high e)).state.book.entries → (do_hold m seat low high e).state ≡ read_as (taking_hold seat low high) seat (Hold low high) m
    by Well is = refl
    by (FailedLooking faults) is = refl
    by (FailedAfter commits faults) is = refl
    by (Broken page) is = refl
    by NoRoom is = absurd (false≢true (sym (no_trouble m seat (Hold low high) NoMemory (do_hold m seat low high NoRoom) none refl is)))

pub next_reads : (m : Machine) (seat n : ℕ) (outcome : Outcome) → m.stopped ≡ None → Calm (next_rows m seat n outcome).state.book.entries → (next_rows m seat n outcome).state ≡ read_as (reading_on seat n) seat (Next n) m
next_reads m seat n outcome none calm = running_is m seat (Next n) (do_next m seat n outcome (held_by seat m)) none ∙ by outcome (held_by seat m) calm
  where
    by : (e : Outcome) (held : Option (List Row)) → Calm (unless_stopped m.stopped seat (Next n) m (do_next m seat n e held)).state.book.entries
        → (do_next m seat n e held).state ≡ read_as (record (reading_on seat n) { reply = λ v. next_reply n held; holds = λ v. next_holds seat n v.holds held }) seat (Next n) m
    by e None is = refl
    by Well (Some rows) is = refl
    by (FailedLooking faults) (Some rows) is = refl
    by NoRoom (Some rows) is = refl
    by (FailedAfter commits faults) (Some rows) is = absurd (false≢true (sym (no_trouble m seat (Next n) Fault (do_next m seat n (FailedAfter commits faults) (Some rows)) none refl is)))
    by (Broken page) (Some rows) is = absurd (false≢true (sym (no_trouble m seat (Next n) (Damaged page) (do_next m seat n (Broken page) (Some rows)) none refl is)))

-- a next that went well reads so whatever it finds
pub next_well : (m : Machine) (seat n : ℕ) → m.stopped ≡ None → (next_rows m seat n Well).state ≡ read_as (reading_on seat n) seat (Next n) m
next_well m seat n none = grind (arith, common_steps, nat_tests)

pub drop_reads : (m : Machine) (seat : ℕ) → m.stopped ≡ None → (drop_hold m seat).state ≡ read_as (releasing seat) seat Release m
drop_reads m seat none = running_is m seat Release (replied seat Release (answer_to_release (held_by seat m)) (holding seat None m)) none

-- the last place of a list is counted up
count_last : (xs : List ℕ) (k q : ℕ) → k ≡ length xs → slice_set (xs ++ 0 ∷ []) k (slice_index (xs ++ 0 ∷ []) k + q) ≡ xs ++ q ∷ []
count_last [] zero q is = ap (λ n. n ∷ []) (omega arith)
count_last [] (suc k) q is = absurd (omega (arith, is))
count_last (x ∷ xs) zero q is = absurd (omega (arith, is))
count_last (x ∷ xs) (suc k) q is = ap (λ ys. x ∷ ys) (count_last xs k q (omega (arith, is)))

pub end_reads : (m : Machine) (seat n : ℕ) → length m.book.quanta ≡ length m.book.entries → (work_end m seat n).state ≡ read_as (ending seat) seat (Work n) m
end_reads m seat n lengths = grind (arith, common_steps, nat_tests, count_last)
