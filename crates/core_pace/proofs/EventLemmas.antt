-- An admission is made of its moves.
use Rattle.std.proofs.Common.{◌≡◌, ◌∙◌, ⊎_elim, ℕ, ◌+◌, ◌-◌, ◌<◌, ◌≤◌, Bool, true, false, cond, not, ◌&&◌, List, [], ◌∷◌, length, refl, ap, sym, subst, arith, length-append}
use Rattle.std.proofs.lemmas.Grind.{common_steps}
use Rattle.std.proofs.lemmas.Bool.Decides.{nat_tests}
use Rattle.std.specs.Prelude.{is_some, nat_le, nat_lt, slice_index, slice_set, sum}
use Rattle.blsm_model.specs.Format.{most_entries, callers}
use Rattle.blsm_model.specs.Geometry.{c1_mark}
use Rattle.blsm_model.specs.Book.{Book, noted, HasRoom}
use Rattle.blsm_model.specs.Histories.{writes_of, is_done}
use Rattle.blsm_model.specs.Legal.{is_write, total_weight, is_del}
use Rattle.blsm_model.specs.declared.op.Op.{Op}
use Rattle.blsm_model.specs.declared.history.Entry.{Entry}
use Rattle.blsm_model.specs.declared.history.Reply.TheVariants.{Done}
use Rattle.catalog_swap.specs.declared.catalog.Catalog.{Catalog}
use Rattle.record_delta.specs.Entries.{Entries, entries_weight}
use Rattle.gated_log.specs.Records.{cost}
use Rattle.gear_sched.specs.Gears.{GearState}
use Rattle.pacing.specs.Ends.{AreEnds}
use Rattle.pacing.proofs.Ends.{ends_as, ends_turned, ends_begun, ends_written}
use Rattle.blsm_model.specs.Lanes.{a_of, b_of}
use Rattle.gated_log.specs.Lanes.{LanesState, end_of}
use Rattle.tree_log.specs.Log.{LogState, end_of_a, end_of_b}
use Rattle.std.proofs.lemmas.Bool.{and_parts, not-true}
use Rattle.pacing.specs.Pace.{Pace, Written, rotations, with_deep_swapped, with_pass_swapped, with_swap_and_rotation, with_rotation, with_pass, with_write, deep_done, pass_done, with_forgiven}
use Rattle.pacing.specs.Kept.{IsPaced, IsWithin}
use Rattle.pacing.specs.Counts.{AreFew, IsCounted}
use Rattle.pacing.specs.Spent.{IsSpent}
use Rattle.pacing.specs.Steps.{Admit, MayAdmit, Lands, deep_settled, pass_settled, begun_for, ready_for}
use Rattle.pacing.proofs.Promises.{moves_keep, forgiving_keeps}
use Rattle.pacing.proofs.Runs.{step_keeps}
use Rattle.pacing.proofs.Counts.{step_counts, moves_few, counted_few}
use Rattle.pacing.proofs.Spent.{step_spends, moves_spend, forgave}
use Rattle.paced_tree.specs.Booking.{IsBookOf}
use Rattle.paced_tree.specs.Made.{IsAdmission}
use Rattle.paced_tree.proofs.BookLaws.{moves_book, write_books, note_books}
use Rattle.tree_machine.specs.Machine.{Seats}
use Rattle.seat_book.specs.State.{BookState, noted_in, stopped_in}
use Rattle.tree_runs.specs.Runs.{RunsState}
use Rattle.core_moves.specs.declared.held.Held.{Held}
use Rattle.core_moves.specs.Held.{IsOne, IsDeepDone, IsPassDone}
use Rattle.core_moves.specs.Moves.{SwapsDeepIn, SwapsPassIn, with_pass_begun, SettlesDeep, SettlesPass, begun_in, with_book, with_debts_forgiven}
use Rattle.core_pace.specs.Pacing.{HasPace, IsRunBook, IsPacedHeld, most_opened}
use Rattle.core_pace.specs.Events.{AreWritten, MayWrite}
use Rattle.core_pace.proofs.TestLemmas.{each_test_agrees, forgiving_has_pace}
use Rattle.core_pace.proofs.SwapLemmas.{deep_swap_has_pace, pass_swap_has_pace, begin_has_pace}
use Rattle.core_pace.proofs.WriteLemmas.{write_has_pace}
use Rattle.core_pace.proofs.FollowLemmas.{no_pass, whole_at_rest}
use Rattle.core_pace.proofs.OneLemmas.{each_move_keeps_one}
use Rattle.core_pace.proofs.BookLemmas.{rebooked, one_rebooked}
use Rattle.blsm_model.specs.declared.history.Reply.{Reply}
use Rattle.blsm_model.specs.declared.history.Why.{Why}
use Rattle.core_pace.proofs.Terms.{written_in, Admits, IsBetween, done_entry, KeepsBook}

not_so : (b : Bool) → (b ≡ true → ⊥) → b ≡ false
not_so b h1 = grind (arith, common_steps, nat_tests)

-- where the lanes are as they were, and what their bounds hang on
pub lanes_stay : (old new : Held) (p q : Pace) → new.log.lanes ≡ old.log.lanes → q.gears.pass ≡ p.gears.pass → q.gears.pass_admitted ≡ p.gears.pass_admitted
    → q.gears.sizes ≡ p.gears.sizes → q.spring ≡ p.spring → AreEnds p (end_of_a old.log) (end_of_b old.log) → AreEnds q (end_of_a new.log) (end_of_b new.log)
lanes_stay old new p q lanes pass admitted sizes spring ends =
    subst (λ (l : LanesState). AreEnds q (end_of l (a_of l.roles)) (end_of l (b_of l.roles))) (sym lanes)
    (ends_as p q (end_of_a old.log) (end_of_b old.log) pass admitted sizes spring ends)

pub ends_stay : (old new : Held) (p q : Pace) → new.log ≡ old.log → q.gears.pass ≡ p.gears.pass → q.gears.pass_admitted ≡ p.gears.pass_admitted → q.gears.sizes ≡ p.gears.sizes → q.spring ≡ p.spring
    → AreEnds p (end_of_a old.log) (end_of_b old.log) → AreEnds q (end_of_a new.log) (end_of_b new.log)
ends_stay old new p q log pass admitted sizes spring ends =
    lanes_stay old new p q (ap (λ (l : LogState). l.lanes) log) pass admitted sizes spring ends

-- the numbers, the geometry, the lanes and the version
pub record Stands (held : Held) (pace : Pace) : Type 0 where
  pub numbers : HasPace held pace
  pub one : IsOne held
  pub ends : AreEnds pace (end_of_a held.log) (end_of_b held.log)
  pub version : held.runs.catalogue.version ≤ most_opened + (pace.passes + pace.deeps + rotations pace)

pub moved_on : (old new : Held) (pace : Pace) → new ≡ old → Stands old pace → Stands new pace
moved_on old new pace same s = subst (λ (h : Held). Stands h pace) (sym same) s

pub deep_swapped : (old new : Held) (pace : Pace) → Stands old pace → SwapsDeepIn old new → Stands new (with_deep_swapped pace)
deep_swapped old new pace s m = record {
  numbers = deep_swap_has_pace old new pace s.numbers m;
  one = (each_move_keeps_one old new s.one).deep_swap m;
  ends = ends_stay old new pace (with_deep_swapped pace) m.log refl refl refl refl s.ends;
  version = omega (arith, s.version, ap (λ (c : Catalog). c.version) m.runs.catalogue, more pace.gears.deep);
}
  where
    more : (b : Bool) → cond b (pace.deeps + 1) pace.deeps ≤ pace.deeps + 1
    more b = grind (arith, common_steps, nat_tests)

pub pass_swapped : (old new : Held) (pace : Pace) → IsWithin pace → pace.gears.pass ≡ true → Stands old pace → SwapsPassIn old new → Stands new (with_swap_and_rotation pace)
pass_swapped old new pace within runs s m = record {
  numbers = pass_swap_has_pace old new pace s.numbers s.one m;
  one = (each_move_keeps_one old new s.one).pass_swap m;
  ends = subst (λ (n : ℕ). AreEnds (with_swap_and_rotation pace) n (end_of_b new.log)) (sym m.turns.a) (subst (λ (n : ℕ). AreEnds (with_swap_and_rotation pace) (end_of_b old.log) n) (sym m.turns.b)
      (ends_turned pace (end_of_a old.log) (end_of_b old.log) (nat_le (c1_mark pace.gears.sizes) pace.made1) within runs s.ends));
  version = omega (arith, s.version, ap (λ (c : Catalog). c.version) m.runs.catalogue, more (nat_le (c1_mark pace.gears.sizes) pace.made1));
}
  where
    more : (b : Bool) → pace.passes + pace.deeps + rotations pace + 1
        ≤ (cond b (with_rotation (with_pass_swapped pace)) (with_pass_swapped pace)).passes + (cond b (with_rotation (with_pass_swapped pace)) (with_pass_swapped pace)).deeps
        + rotations (cond b (with_rotation (with_pass_swapped pace)) (with_pass_swapped pace))
    more b = grind (arith, common_steps, nat_tests)

settles_deep : (old new : Held) (pace : Pace) → Stands old pace → SettlesDeep old new → Stands new (deep_settled pace)
settles_deep old new pace s settles = ⊎_elim
    (λ (done : IsDeepDone old × SwapsDeepIn old new). let test = (each_test_agrees old pace s.numbers).deep_done.0 done.0 in
    subst (λ (b : Bool). Stands new (cond b (with_deep_swapped pace) pace)) (sym test) (deep_swapped old new pace s done.1))
    (λ (still : (IsDeepDone old → ⊥) × (new ≡ old)). let test = not_so (pace.gears.deep && deep_done pace) (λ is. still.0 ((each_test_agrees old pace s.numbers).deep_done.1 is)) in
    subst (λ (b : Bool). Stands new (cond b (with_deep_swapped pace) pace)) (sym test) (moved_on old new pace still.1 s))
    settles

settles_pass : (old new : Held) (pace : Pace) → IsPaced pace → Stands old pace → SettlesPass old new → Stands new (pass_settled pace)
settles_pass old new pace paced s settles = ⊎_elim
    (λ (done : IsPassDone old × SwapsPassIn old new). let test = (each_test_agrees old pace s.numbers).pass_done.0 done.0 in
    subst (λ (b : Bool). Stands new (cond b (with_swap_and_rotation pace) pace)) (sym test) (pass_swapped old new pace paced.within (and_parts pace.gears.pass (pass_done pace) test).0 s done.1))
    (λ (still : (IsPassDone old → ⊥) × (new ≡ old)). let test = not_so (pace.gears.pass && pass_done pace) (λ is. still.0 ((each_test_agrees old pace s.numbers).pass_done.1 is)) in
    subst (λ (b : Bool). Stands new (cond b (with_swap_and_rotation pace) pace)) (sym test) (moved_on old new pace still.1 s))
    settles

begins : (w : ℕ) (old : Held) (pace : Pace) → IsPaced pace → Stands old pace → Stands (begun_in w old) (begun_for pace w)
begins w old pace paced s =
    subst (λ (b : Bool). Stands (begun_in w old) (cond b (with_pass pace) pace)) (sym test) (by (not (is_some old.runs.pass) && nat_lt old.runs.sizes.low (old.spring + w)) refl)
  where
    sizes : pace.gears.sizes ≡ old.runs.sizes
    sizes = ap (λ (g : GearState). g.sizes) s.numbers.gears ∙ s.one.gears

    test : (not pace.gears.pass && nat_lt pace.gears.sizes.low (pace.spring + w)) ≡ (not (is_some old.runs.pass) && nat_lt old.runs.sizes.low (old.spring + w))
    test = cc (s.numbers.in_pass, s.numbers.spring, sizes)

    by : (b : Bool) → (not (is_some old.runs.pass) && nat_lt old.runs.sizes.low (old.spring + w)) ≡ b → Stands (cond b (with_pass_begun old) old) (cond b (with_pass pace) pace)
    by true due =
        let none = not-true (is_some old.runs.pass) (and_parts (not (is_some old.runs.pass)) (nat_lt old.runs.sizes.low (old.spring + w)) due).0 in
        let rests : pace.gears.pass ≡ false = s.numbers.in_pass ∙ none in
        let gone = no_pass old.runs.pass none in
        record { numbers = begin_has_pace old pace s.numbers (whole_at_rest old s.one gone); one = (each_move_keeps_one old old s.one).begin gone; ends = ends_begun pace (end_of_a old.log) (end_of_b old.log) paced.within rests s.ends; version = s.version }
    by false due = s

stands : (held : Held) (pace : Pace) → IsPacedHeld held pace → Stands held pace
stands held pace k = record { numbers = k.numbers; one = k.one; ends = k.ends; version = k.version }

-- ---- what is told

told_at : (b c : BookState) (pace next : Pace) → KeepsBook b c → IsRunBook b pace → IsBookOf b.book b.seats next → IsPaced next → AreFew next → IsSpent next → IsRunBook c next
told_at b c pace next keeps told booked paced few spent = grind (arith, common_steps, nat_tests)

pub deep_keeps : (old new : Held) → SettlesDeep old new → KeepsBook old.book new.book
deep_keeps old new settles = grind (arith, common_steps, nat_tests)

pass_keeps : (old new : Held) → SettlesPass old new → KeepsBook old.book new.book
pass_keeps old new settles = grind (arith, common_steps, nat_tests)

begun_book : (w : ℕ) (held : Held) → (begun_in w held).book ≡ held.book
begun_book w held = grind (arith, common_steps, nat_tests)

pub ready_keeps : (old settled ready : Held) (w : ℕ) → SettlesDeep old settled → SettlesPass settled ready → KeepsBook old.book (begun_in w ready).book
ready_keeps old settled ready w deep pass =
    let one = deep_keeps old settled deep in
    let two = pass_keeps settled ready pass in
    let three = begun_book w ready in
    record {
      book = ap (λ (b : BookState). b.book) three ∙ two.book ∙ one.book;
      seats = ap (λ (b : BookState). b.seats) three ∙ two.seats ∙ one.seats;
      stopped = ap (λ (b : BookState). b.stopped) three ∙ two.stopped ∙ one.stopped;
    }

-- Once the deep merge is swapped in where it was done, the pass may be, whose way is free then.
pub settled_between : (old settled : Held) (pace : Pace) → IsPacedHeld old pace → SettlesDeep old settled → IsBetween settled (deep_settled pace)
settled_between old settled pace k deep = record {
  numbers = now.numbers;
  one = now.one;
  ends = now.ends;
  version = now.version;
  told = told_at old.book settled.book pace (deep_settled pace) (deep_keeps old settled deep) k.told (moves_book old.book.book old.book.seats pace 0 0 k.told.booked).0 (moves_keep pace 0 k.told.paced).0
      (moves_few pace 0 k.told.paced k.counted).0 (moves_spend pace 0 k.told.paced k.told.spent).0;
}
  where
    now : Stands settled (deep_settled pace)
    now = settles_deep old settled pace (stands old pace k) deep

-- An admission that stops after the swap of the deep merge, or before the write, has kept what is told.
pub moves_are_told : (old settled ready : Held) (pace : Pace) (w : ℕ) → IsPacedHeld old pace → SettlesDeep old settled → SettlesPass settled ready
    → IsBetween settled (deep_settled pace) × IsBetween (begun_in w ready) (ready_for pace w)
moves_are_told old settled ready pace w k deep pass = (
  settled_between old settled pace k deep,
  record {
    numbers = three.numbers;
    one = three.one;
    ends = three.ends;
    version = three.version;
    told = told_at old.book (begun_in w ready).book pace (ready_for pace w) (ready_keeps old settled ready w deep pass) k.told (moves_book old.book.book old.book.seats pace w 0 k.told.booked).1 (moves_keep pace w k.told.paced).2
        (moves_few pace w k.told.paced k.counted).1 (moves_spend pace w k.told.paced k.told.spent).1;
  },
)
  where
    two : Stands ready (pass_settled (deep_settled pace))
    two = settles_pass settled ready (deep_settled pace) (moves_keep pace w k.told.paced).0 (settles_deep old settled pace (stands old pace k) deep) pass

    three : Stands (begun_in w ready) (ready_for pace w)
    three = begins w ready (pass_settled (deep_settled pace)) (moves_keep pace w k.told.paced).1 two

-- ---- an admission

-- an entry takes its room
lowered : (xs : List ℕ) (seat : ℕ) → 0 < slice_index xs seat → sum (slice_set xs seat (slice_index xs seat - 1)) + 1 ≡ sum xs
lowered xs seat some = grind (arith, common_steps, nat_tests)

pub room_taken : (book : Book) (entry : Entry) → HasRoom book.room entry → length book.entries + sum book.room.entries ≤ most_entries → length (noted book entry).entries + sum (noted book entry).room.entries ≤ most_entries
room_taken book entry room few = omega (arith, few, lowered book.room.entries entry.seat room.entries, length-append book.entries (entry ∷ []))

-- a write that may be is an admission that may be, wherever it lands
pub may_admit_of : (seat : ℕ) (op : Op) (held : Held) (pace : Pace) (written : Written) → 1 ≤ written.writes → written.is_del ≡ is_del op
    → IsPacedHeld held pace
    → MayWrite seat written.weight op held → Lands (ready_for pace written.weight) written → MayAdmit pace seat written
may_admit_of seat op held pace written some deletes k may lands = grind (arith, common_steps, nat_tests)

module _ (seat : ℕ) (op : Op) (more : Entries) (old settled ready written new : Held) (pace : Pace) (writing : is_write op ≡ true)
    (weighs : total_weight (writes_of op) ≡ entries_weight more) (counts : length (writes_of op) ≡ length more) (are : AreWritten more)
    (k : IsPacedHeld old pace) (may : MayWrite seat (entries_weight more) op old) (room : HasRoom ready.book.book.room (done_entry seat op))
    (admits : Admits seat op more old settled ready written new) where
  abbrev begun : Held
  begun = begun_in (entries_weight more) ready

  abbrev before : Pace
  before = ready_for pace (entries_weight more)

  abbrev entry : Written
  entry = written_in more op begun written

  abbrev next : Pace
  next = with_write before seat entry

  between : IsBetween begun before
  between = (moves_are_told old settled ready pace (entries_weight more) k admits.deep admits.pass).1

  wrote : Lands before entry × HasPace written next
  wrote = write_has_pace seat more op begun written before are.some between.numbers between.one admits.write

  may_admit : MayAdmit pace seat entry
  may_admit = may_admit_of seat op old pace entry are.some refl k may wrote.0

  book_is : written.book.book ≡ ready.book.book
  book_is = ap (λ (b : BookState). b.book) admits.write.book ∙ ap (λ (b : BookState). b.book) (begun_book (entries_weight more) ready)

  seats_are : written.book.seats ≡ ready.book.seats
  seats_are = ap (λ (b : BookState). b.seats) admits.write.book ∙ ap (λ (b : BookState). b.seats) (begun_book (entries_weight more) ready)

  booked : IsBookOf (noted written.book.book (done_entry seat op)) written.book.seats next
  booked =
      let was : IsBookOf ready.book.book ready.book.seats before =
      subst (λ (b : BookState). IsBookOf b.book b.seats before) (begun_book (entries_weight more) ready) between.told.booked in
      subst (λ (b : Book). IsBookOf (noted b (done_entry seat op)) written.book.seats next) (sym book_is)
      (subst (λ (s : Seats). IsBookOf (noted ready.book.book (done_entry seat op)) s next) (sym seats_are)
      (write_books ready.book.book ready.book.seats before seat op entry (sym weighs) (sym counts) between.told.paced may.caller writing was))

  entries : length (noted written.book.book (done_entry seat op)).entries + sum (noted written.book.book (done_entry seat op)).room.entries ≤ most_entries
  entries =
      let was : length ready.book.book.entries + sum ready.book.book.room.entries ≤ most_entries =
      subst (λ (b : BookState). length b.book.entries + sum b.book.room.entries ≤ most_entries) (begun_book (entries_weight more) ready)
      between.told.entries in
      subst (λ (b : Book). length (noted b (done_entry seat op)).entries + sum (noted b (done_entry seat op)).room.entries ≤ most_entries) (sym book_is) (room_taken ready.book.book (done_entry seat op) room was)

  counted : IsCounted next
  counted = step_counts pace (Admit seat entry) k.told.paced k.counted may_admit

  noted_held : IsPacedHeld (with_book (noted_in seat op Done written.book) written) next
  noted_held = record {
    numbers = rebooked written (noted_in seat op Done written.book) next refl wrote.1;
    told = record {
      booked = booked;
      paced = step_keeps pace (Admit seat entry) k.told.paced may_admit;
      few = counted_few next counted;
      spent = step_spends pace (Admit seat entry) k.told.paced k.told.spent may_admit;
      entries = entries;
    };
    counted = counted;
    one = one_rebooked written (noted_in seat op Done written.book) ((each_move_keeps_one begun written between.one).write seat more admits.write);
    ends = subst (λ (n : ℕ). AreEnds next n (end_of_b written.log)) (sym admits.write.grows.a)
        (subst (λ (n : ℕ). AreEnds next (cond entry.ahead (end_of_a begun.log + cost more) (end_of_a begun.log)) n) (sym admits.write.grows.b)
        (ends_written before seat entry (cost more) (end_of_a begun.log) (end_of_b begun.log) are.short wrote.0 between.ends));
    version = omega (arith, between.version, ap (λ (r : RunsState). r.catalogue.version) admits.write.runs);
  }

  pub admitted : IsPacedHeld new next
  admitted = subst (λ (h : Held). IsPacedHeld h next) (sym admits.entry) noted_held

  pub is_admission : IsAdmission seat op pace next
  is_admission = record { written = entry; weighs = sym weighs; counts = sym counts; deletes = refl; may = may_admit; led = refl }

-- What a command writes is one admission of the pacing.
pub admission_is_paced : (seat : ℕ) (op : Op) (more : Entries) (old settled ready written new : Held) (pace : Pace)
    → is_write op ≡ true → total_weight (writes_of op) ≡ entries_weight more → length (writes_of op) ≡ length more → AreWritten more
    → IsPacedHeld old pace → MayWrite seat (entries_weight more) op old → HasRoom ready.book.book.room (done_entry seat op)
    → Admits seat op more old settled ready written new
    → (next : Pace) × IsAdmission seat op pace next × IsPacedHeld new next
admission_is_paced seat op more old settled ready written new pace writing weighs counts are k may room admits = (
  with_write (ready_for pace (entries_weight more)) seat (written_in more op (begun_in (entries_weight more) ready) written),
  is_admission seat op more old settled ready written new pace writing weighs counts are k may room admits,
  admitted seat op more old settled ready written new pace writing weighs counts are k may room admits,
)

-- ---- debts, entries and stops

pub forgiving_is_paced : (seat : ℕ) (held : Held) (pace : Pace) → seat < callers → IsPacedHeld held pace → IsBetween (with_debts_forgiven seat held) (with_forgiven pace seat) × IsPaced (with_forgiven pace seat)
forgiving_is_paced seat held pace caller k = (
  record {
    numbers = forgiving_has_pace seat held pace k.numbers;
    told = record {
      booked = (moves_book held.book.book held.book.seats pace 0 seat k.told.booked).2;
      paced = forgiving_keeps pace seat k.told.paced caller;
      few = record { begins = k.told.few.begins; turns = k.told.few.turns };
      spent = forgave pace seat k.told.spent;
      entries = k.told.entries;
    };
    one = (each_move_keeps_one held held k.one).forgiving seat;
    ends = ends_stay held held pace (with_forgiven pace seat) refl refl refl refl refl k.ends;
    version = k.version;
  },
  forgiving_keeps pace seat k.told.paced caller,
)

-- an entry that is no write that was done
pub entry_is_told : (b : BookState) (pace : Pace) (seat : ℕ) (op : Op) (reply : Reply) → (is_done reply ≡ true → is_write op ≡ false) → HasRoom b.book.room (record { seat = seat; op = op; reply = reply }) → IsRunBook b pace
    → IsRunBook (noted_in seat op reply b) pace
entry_is_told b pace seat op reply is room told = record {
  booked = note_books b.book b.seats pace (record { seat = seat; op = op; reply = reply }) is told.booked;
  paced = told.paced;
  few = told.few;
  spent = told.spent;
  entries = room_taken b.book (record { seat = seat; op = op; reply = reply }) room told.entries;
}

pub stop_is_told : (b : BookState) (pace : Pace) (why : Why) → IsRunBook b pace → IsRunBook (stopped_in why b) pace
stop_is_told b pace why told = record { booked = told.booked; paced = told.paced; few = told.few; spent = told.spent; entries = told.entries }
