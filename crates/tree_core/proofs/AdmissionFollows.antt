-- What an admission leaves to the other seats.
use Rattle.std.specs.Prelude.{is_some, slice_index, nat_lt}
use Rattle.std.proofs.lemmas.Grind.{common_steps}
use Rattle.std.proofs.lemmas.Bool.Decides.{nat_tests}
use Rattle.std.proofs.Common.{◌≡◌, ◌≢◌, ⊎_elim, ℕ, ◌+◌, ◌≤◌, Bool, true, false, cond, not, ◌&&◌, replicate, refl, sym, subst, arith}
use Rattle.blsm_model.specs.Facts.{Follows}
use Rattle.blsm_model.specs.Format.{callers}
use Rattle.blsm_model.specs.declared.op.Op.{Op}
use Rattle.blsm_model.specs.declared.history.Why.{Why}
use Rattle.blsm_model.specs.declared.history.Reply.{Reply}
use Rattle.blsm_model.specs.declared.history.Reply.TheVariants.{Done}
use Rattle.disk_trait.specs.Disk.{DiskState}
use Rattle.gear_sched.specs.Gears.{GearState, first_debt, second_debt, entered, passing, pass_ended, rotated}
use Rattle.record_delta.specs.Entries.{Entries}
use Rattle.seat_book.specs.State.{BookState, noted_in, stopped_in}
use Rattle.seat_book.specs.Seats.{KeepsSeats}
use Rattle.seat_book.proofs.KeepLemmas.{keeps_itself, keeps_both, keeps_less, note_keeps, peak_keeps, pass_keeps, holds_follow}
use Rattle.tree_machine.proofs.PlayLemmas.{of_replicate}
use Rattle.tree_runs.specs.Runs.{made_by_pass}
use Rattle.core_moves.specs.declared.held.Held.{Held}
use Rattle.core_moves.specs.Held.{is_run_full}
use Rattle.core_moves.specs.Moves.{SettlesDeep, SettlesPass, WritesIn, with_pass_begun, begun_in, with_book}
use Rattle.tree_core.specs.declared.admission.Taking.TheVariants.{Taken, Failed}
use Rattle.tree_core.specs.Core.{beside_in, facts_of_held}
use Rattle.tree_core.specs.Taking.{IsReadied, Takes}

-- The other seats owe no more, and the book keeps what it keeps of them.
record LeavesOthers (seat : ℕ) (old new : Held) : Type 0 where
  first : (other : ℕ) → other ≢ seat → first_debt new.gears other ≤ first_debt old.gears other
  second : (other : ℕ) → other ≢ seat → second_debt new.gears other ≤ second_debt old.gears other
  book : KeepsSeats seat 0 0 old.book new.book

leaves_then : (seat : ℕ) (old mid new : Held) → LeavesOthers seat old mid → LeavesOthers seat mid new → LeavesOthers seat old new
leaves_then seat old mid new one two = record {
  first = λ other apart. omega (arith, one.first other apart, two.first other apart);
  second = λ other apart. omega (arith, one.second other apart, two.second other apart);
  book = keeps_both seat 0 0 0 0 old.book mid.book new.book one.book two.book;
}

leaves_itself : (seat : ℕ) (held : Held) → LeavesOthers seat held held
leaves_itself seat held = record { first = λ other apart. omega arith; second = λ other apart. omega arith; book = keeps_itself seat held.book }

same_leaves : (seat : ℕ) (old new : Held) → new ≡ old → LeavesOthers seat old new
same_leaves seat old new same = subst (λ (h : Held). LeavesOthers seat old h) (sym same) (leaves_itself seat old)

-- ---- gears

record Eases (seat : ℕ) (old new : GearState) : Type 0 where
  first : (other : ℕ) → other ≢ seat → first_debt new other ≤ first_debt old other
  second : (other : ℕ) → other ≢ seat → second_debt new other ≤ second_debt old other

none_owed : (seat : ℕ) → slice_index (replicate callers 0) seat ≡ 0
none_owed seat = of_replicate 16 seat 0

pass_end_eases : (seat : ℕ) (gears : GearState) → Eases seat gears (pass_ended gears)
pass_end_eases seat gears = record { first = λ other apart. omega (arith, none_owed other); second = λ other apart. omega arith }

rotated_pass_eases : (seat input : ℕ) (gears : GearState) → Eases seat gears (rotated (pass_ended gears) input)
rotated_pass_eases seat input gears = record { first = λ other apart. omega (arith, none_owed other); second = λ other apart. omega (arith, none_owed other) }

begin_eases : (seat c1 memory : ℕ) (gears : GearState) → Eases seat gears (passing gears c1 memory)
begin_eases seat c1 memory gears = record { first = λ other apart. omega (arith, none_owed other); second = λ other apart. omega arith }

entry_eases : (seat w : ℕ) (gears : GearState) → Eases seat gears (entered gears seat w)
entry_eases seat w gears = grind (arith, common_steps, nat_tests)

leaves_by : (seat : ℕ) (old new : Held) (gears : GearState) (book : BookState) → new.gears ≡ gears → new.book ≡ book → Eases seat old.gears gears → KeepsSeats seat 0 0 old.book book → LeavesOthers seat old new
leaves_by seat old new gears book same_gears same_book eases keeps = grind (arith, common_steps, nat_tests)

-- ---- the moves

deep_leaves : (seat : ℕ) (old new : Held) → SettlesDeep old new → LeavesOthers seat old new
deep_leaves seat old new settles = grind (arith, common_steps, nat_tests)

pass_leaves : (seat : ℕ) (old new : Held) → SettlesPass old new → LeavesOthers seat old new
pass_leaves seat old new settles = ⊎_elim
    (λ done. leaves_by seat old new _ _ done.1.gears done.1.book (by (is_run_full old)) (pass_keeps seat old.book))
    (λ rests. same_leaves seat old new rests.1)
    settles
  where
    by : (b : Bool) → Eases seat old.gears (cond b (rotated (pass_ended old.gears) ((made_by_pass old.runs.pass).weight + old.runs.catalogue.c2.weight)) (pass_ended old.gears))
    by true = rotated_pass_eases seat _ old.gears
    by false = pass_end_eases seat old.gears

begin_leaves : (seat w : ℕ) (held : Held) → LeavesOthers seat held (begun_in w held)
begin_leaves seat w held = by (not (is_some held.runs.pass) && nat_lt held.runs.sizes.low (held.spring + w))
  where
    by : (b : Bool) → LeavesOthers seat held (cond b (with_pass_begun held) held)
    by true = leaves_by seat held (with_pass_begun held) _ _ refl refl (begin_eases seat _ _ held.gears) (keeps_itself seat held.book)
    by false = leaves_itself seat held

readied_leaves : (seat w : ℕ) (old new : Held) → IsReadied w old new → LeavesOthers seat old new
readied_leaves seat w old new is =
    subst (λ (h : Held). LeavesOthers seat old h) (sym is.begun)
    (leaves_then seat old is.ready (begun_in w is.ready) (leaves_then seat old is.settled is.ready (deep_leaves seat old is.settled is.deep) (pass_leaves seat is.settled is.ready is.pass)) (begin_leaves seat w is.ready))

write_leaves : (seat : ℕ) (more : Entries) (old new : Held) → WritesIn seat more old new → LeavesOthers seat old new
write_leaves seat more old new writes = leaves_by seat old new _ _ writes.gears writes.book (entry_eases seat _ old.gears)
    (peak_keeps seat _ old.book)

-- ---- admissions

follows_by : (seat : ℕ) (old left : Held) (b : BookState) → LeavesOthers seat old left → KeepsSeats seat 1 0 left.book b → Follows seat (facts_of_held old) (facts_of_held (with_book b left))
follows_by seat old left b leaves keeps =
    holds_follow seat old.book b (beside_in old) (beside_in (with_book b left))
    (keeps_less seat 1 1 0 1 old.book b (omega arith) (omega arith) (keeps_both seat 0 1 0 0 old.book left.book b leaves.book keeps))
    (record { first = leaves.first; second = leaves.second })

-- an entry
pub quiet_follows : (seat : ℕ) (op : Op) (reply : Reply) (held : Held) → Follows seat (facts_of_held held) (facts_of_held (with_book (noted_in seat op reply held.book) held))
quiet_follows seat op reply held = follows_by seat held held (noted_in seat op reply held.book) (leaves_itself seat held) (note_keeps seat op reply held.book)

stopped_follows : (seat : ℕ) (op : Op) (reply : Reply) (why : Why) (old left : Held) → LeavesOthers seat old left
    → Follows seat (facts_of_held old) (facts_of_held (with_book (noted_in seat op reply (stopped_in why left.book)) left))
stopped_follows seat op reply why old left leaves = grind (arith, common_steps, nat_tests)

-- a call failed
pub failed_follows : (begun : Bool) (seat : ℕ) (op : Op) (reply : Reply) (why : Why) (more : Entries) (old left : Held) (after : DiskState)
    → Takes (Failed begun) seat more old left after
    → Follows seat (facts_of_held old) (facts_of_held (with_book (noted_in seat op reply (stopped_in why left.book)) left))
failed_follows true seat op reply why more old left after is = stopped_follows seat op reply why old left (readied_leaves seat _ old left is)
failed_follows false seat op reply why more old left after is =
    stopped_follows seat op reply why old left (⊎_elim (λ still. same_leaves seat old left still.0) (λ settled. deep_leaves seat old left settled.0) is)

-- the write was taken
pub taken_follows : (seat : ℕ) (op : Op) (more : Entries) (old new : Held) (after : DiskState) → Takes Taken seat more old new after
    → Follows seat (facts_of_held old) (facts_of_held (with_book (noted_in seat op Done new.book) new))
taken_follows seat op more old new after is = follows_by seat old new (noted_in seat op Done new.book)
    (leaves_then seat old is.0 new (readied_leaves seat _ old is.0 is.1) (write_leaves seat more is.0 new is.2)) (note_keeps seat op Done new.book)
