-- Lines, one after another.
use Rattle.std.specs.Prelude.{◌==◌, slice_index, slice_set}
use Rattle.std.proofs.Common.{◌≡◌, ◌∙◌, ℕ, ◌+◌, ◌-◌, ◌≤◌, ◌<◌, cond, List, [], ◌∷◌, ◌++◌, length, refl, ap, sym, subst, arith, append-nil, append_assoc}
use Rattle.std.specs.List.{AllByRecursion}
use Rattle.std.proofs.lemmas.Bool.Decides.{nat_tests}
use Rattle.std.proofs.lemmas.Grind.{common_steps}
use Rattle.std.proofs.lemmas.List.{map-append}
use Rattle.blsm_model.specs.Book.{Book, room_after, rows_given}
use Rattle.blsm_model.specs.Format.{callers}
use Rattle.blsm_model.specs.Scripts.{lines_of, rows_of, rows_asked}
use Rattle.blsm_model.specs.Sizes.{Sizes}
use Rattle.blsm_model.specs.declared.history.Entry.{Entry}
use Rattle.blsm_model.specs.declared.history.Line.{Line}
use Rattle.blsm_model.specs.declared.op.Op.{Op}
use Rattle.blsm_model.specs.declared.room.Room.{Room}
use Rattle.disk_trait.specs.Disk.{DiskState}
use Rattle.core_moves.specs.declared.held.Held.{Held}
use Rattle.tree_core.specs.Causes.{swaps_due_in}
use Rattle.tree_core.specs.Core.{CoreState}
use Rattle.tree_session.specs.Faults.{NamesStop, TellsFaults, TellsNone, faults_of, faults_told}
use Rattle.tree_session.specs.Lines.{HasRoomFor, Rests}
use Rattle.tree_session.specs.Session.{AreDone, Performs, Runs, TookFew, calls_for, most_calls, most_quanta}
use Rattle.tree_session.proofs.BookLemmas.{end_counted}
use Rattle.tree_session.proofs.MadeLemmas.{made_none, made_then}
use Rattle.tree_session.proofs.FaultLemmas.{calm_before, names_still, proceeds_none, proceeds_then}

-- ---- lists

pub took_more : (sizes : Sizes) (es : List Entry) (ns : List ℕ) (e : Entry) (n : ℕ) → TookFew sizes es ns → n ≤ most_quanta sizes e.op → TookFew sizes (es ++ e ∷ []) (ns ++ n ∷ [])
took_more sizes [] [] e n few one = (one, tt)
took_more sizes [] (m ∷ ns) e n few one = absurd few
took_more sizes (x ∷ es) [] e n few one = absurd few
took_more sizes (x ∷ es) (m ∷ ns) e n few one = (few.0, took_more sizes es ns e n few.1 one)

-- one line more was done, by its own calls more
done_more : {D : Type 0} (state : D → DiskState) (lines : List Line) (line : Line) (old mid new : CoreState D) → (done : AreDone state lines old mid) → (did : Performs state line.seat line.op mid new)
    → (all : AreDone state (lines ++ line ∷ []) old new)
    × (calls_for state (lines ++ line ∷ []) old new all ≡ calls_for state lines old mid done + most_calls mid.held.runs.sizes line.op did.quanta (swaps_due_in mid.held))
done_more {D} state [] line old mid new done did =
    let one =
    subst (λ (from : CoreState D). (it : Performs state line.seat line.op from new)
    × (most_calls from.held.runs.sizes line.op it.quanta (swaps_due_in from.held) ≡ most_calls mid.held.runs.sizes line.op did.quanta (swaps_due_in mid.held))) done (did, refl) in
    ((new, one.0, refl), omega (arith, one.1))
done_more state (first ∷ lines) line old mid new done did =
    let rest = done_more state lines line done.0 mid new done.2 did in
    ((done.0, done.1, rest.0), omega (arith, rest.1))

all_more : (es : List Entry) (e : Entry) → AllByRecursion (λ x. TellsNone x.op x.reply) es → TellsNone e.op e.reply → AllByRecursion (λ x. TellsNone x.op x.reply) (es ++ e ∷ [])
all_more [] e all one = (one, tt)
all_more (x ∷ es) e all one = (all.0, all_more es e all.1 one)

-- what was told of a stop holds still, and of one reply more
names_more : (told : ℕ) (es : List Entry) (e : Entry) (old new : Held) (before after : DiskState) → TellsFaults told old new before after → AllByRecursion (λ x. NamesStop x.reply old.book.stopped) es
    → NamesStop e.reply new.book.stopped → AllByRecursion (λ x. NamesStop x.reply new.book.stopped) (es ++ e ∷ [])
names_more told [] e old new before after tells all one = (one, tt)
names_more told (x ∷ es) e old new before after tells all one = (names_still told x.reply old new before after tells all.0, names_more told es e old new before after tells all.1 one)

told_more : (es : List Entry) (e : Entry) → faults_told (es ++ e ∷ []) ≡ faults_told es + faults_of e.reply
told_more es e = grind (arith, common_steps, nat_tests)

lines_more : (seat : ℕ) (lines : List Line) (line : Line) → length (lines_of seat (lines ++ line ∷ [])) ≡ length (lines_of seat lines) + cond (line.seat == seat) 1 0
lines_more seat lines line = grind (arith, common_steps, nat_tests)

-- ---- room

-- one less at the seat of the entry
room_less : (entries : List ℕ) (seat any : ℕ) → 0 < slice_index entries seat → slice_index (slice_set entries seat (slice_index entries seat - 1)) any + cond (seat == any) 1 0 ≡ slice_index entries any
room_less entries seat any some = grind (arith, common_steps, nat_tests)

-- so many less there, or nothing where there is less
rows_less : (rows : List ℕ) (seat any given : ℕ) → slice_index rows any ≤ slice_index (slice_set rows seat (slice_index rows seat - given)) any + cond (seat == any) given 0
rows_less rows seat any given = grind (arith, common_steps, nat_tests)

-- the rows of the first line come on top of those of the others
asked_first : (seat : ℕ) (line : Line) (lines : List Line) → rows_asked seat (line ∷ lines) ≡ cond (line.seat == seat) (rows_of line.op) 0 + rows_asked seat lines
asked_first seat line lines = grind (arith, common_steps, nat_tests)

-- a caller whose line is next has room for it, and after it for the rest
pub room_next : (room : Room) (line : Line) (lines : List Line) → line.seat < callers → HasRoomFor room (line ∷ lines) → 0 < slice_index room.entries line.seat
room_next room line lines below has = grind (arith, common_steps, nat_tests)

pub rows_next : (room : Room) (line : Line) (lines : List Line) → line.seat < callers → HasRoomFor room (line ∷ lines) → rows_of line.op ≤ slice_index room.rows line.seat
rows_next room line lines below has = grind (arith, common_steps, nat_tests)

pub room_then : (room : Room) (line : Line) (lines : List Line) (entry : Entry) → entry.seat ≡ line.seat → length (rows_given entry.reply) ≤ rows_of line.op → HasRoomFor room (line ∷ lines) → HasRoomFor (room_after room entry) lines
room_then room line lines entry same given has = grind (arith, common_steps, nat_tests, asked_first, rows_less)

-- ---- a script

pub runs_none : {D : Type 0} (state : D → DiskState) (old : CoreState D) → Rests old.held → Runs state [] old old
runs_none state old rests = record {
  done = refl;
  added = [];
  counts = [];
  entries = sym (append-nil old.held.book.book.entries);
  quanta = sym (append-nil old.held.book.book.quanta);
  asked_for = refl;
  few = tt;
  calm = λ calm. tt;
  names = tt;
  room = λ seat below. omega arith;
  rests = rests;
  proceeds = proceeds_none state 0 old;
  made = made_none state old;
}

pub runs_more : {D : Type 0} (state : D → DiskState) (lines : List Line) (line : Line) (old mid new : CoreState D) → length mid.held.book.book.quanta ≡ length mid.held.book.book.entries
    → 0 < slice_index mid.held.book.book.room.entries line.seat → Runs state lines old mid → Performs state line.seat line.op mid new → Runs state (lines ++ line ∷ []) old new
runs_more state lines line old mid new places some so_far did =
    let entry : Entry = record { seat = line.seat; op = line.op; reply = did.reply } in
    let all = done_more state lines line old mid new so_far.done did in
    record {
      done = all.0;
      added = so_far.added ++ entry ∷ [];
      counts = so_far.counts ++ did.quanta ∷ [];
      entries = ap (λ (b : Book). b.entries) did.annals ∙ ap (λ (es : List Entry). es ++ entry ∷ []) so_far.entries ∙ append_assoc old.held.book.book.entries so_far.added (entry ∷ []);
      quanta = ap (λ (b : Book). b.quanta) did.annals ∙ end_counted mid.held.book.book.quanta (length mid.held.book.book.entries) did.quanta places
          ∙ ap (λ (ns : List ℕ). ns ++ did.quanta ∷ []) so_far.quanta ∙ append_assoc old.held.book.book.quanta so_far.counts (did.quanta ∷ []);
      asked_for = map-append (λ (e : Entry). (e.seat, e.op)) so_far.added (entry ∷ []) ∙ ap (λ (cs : List (ℕ × Op)). cs ++ (line.seat, line.op) ∷ []) so_far.asked_for
          ∙ sym (map-append (λ (l : Line). (l.seat, l.op)) lines (line ∷ []));
      few = took_more old.held.runs.sizes so_far.added so_far.counts entry did.quanta so_far.few (subst (λ (s : Sizes). did.quanta ≤ most_quanta s line.op) so_far.proceeds.sizes did.few);
      calm = λ calm. all_more so_far.added entry (so_far.calm (calm_before (faults_of did.reply) mid.held new.held (state mid.disk) (state new.disk) did.proceeds.tells calm)) (did.calm calm);
      names = names_more (faults_of did.reply) so_far.added entry mid.held new.held (state mid.disk) (state new.disk) did.proceeds.tells so_far.names did.names;
      room = λ seat below.
          let before = so_far.room seat below in
          let now = ap (λ (b : Book). slice_index b.room.entries seat) did.annals in
          let less = room_less mid.held.book.book.room.entries line.seat seat some in
          let more = lines_more seat lines line in
          omega (arith, before, now, less, more);
      rests = did.rests;
      proceeds = proceeds_then state old mid new so_far.proceeds did.proceeds (sym (told_more so_far.added entry)) (omega (arith, all.1));
      made = made_then state old mid new so_far.made did.made;
    }

-- each entry has its quanta still
pub places_then : {D : Type 0} (state : D → DiskState) (line : Line) (mid new : CoreState D) → length mid.held.book.book.quanta ≡ length mid.held.book.book.entries → Performs state line.seat line.op mid new
    → length new.held.book.book.quanta ≡ length new.held.book.book.entries
places_then state line mid new places did = grind (arith, common_steps, nat_tests)
