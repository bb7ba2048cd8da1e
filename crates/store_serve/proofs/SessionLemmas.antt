-- A session, line by line.
use Rattle.std.proofs.Common.{◌≡◌, ◌∙◌, ℕ, ◌+◌, ◌-◌, ◌≤◌, ◌<◌, List, [], ◌∷◌, ◌++◌, Option, Some, None, IfSome, Result, Ok, Err, option_map, length, slice_index, slice_index_or, refl, sym, ap, subst, append-nil, arith, length-append}
use Rattle.std.proofs.lemmas.Bool.Decides.{nat_tests}
use Rattle.std.proofs.lemmas.Grind.{common_steps}
use Rattle.std.proofs.lemmas.List.{get_or-append_right, map-append}
use Rattle.std.proofs.lemmas.List.Elements.{All-nil}
use Rattle.refusal.specs.declared.Failed.{Failed}
use Rattle.blsm_model.specs.Book.{Book, entry_at, no_entry, room_after}
use Rattle.blsm_model.specs.Format.{most_entries}
use Rattle.blsm_model.specs.declared.history.Entry.{Entry}
use Rattle.blsm_model.specs.declared.history.Line.{Line}
use Rattle.blsm_model.specs.declared.op.Op.{Op}
use Rattle.blsm_model.specs.declared.room.Room.{Room}
use Rattle.core_moves.specs.Held.{charge_in}
use Rattle.disk_trait.specs.Disk.{DiskState}
use Rattle.script_text.specs.Grammar as grammar
use Rattle.script_text.specs.Grammar.{IsAllowed, lines_text}
use Rattle.tree_core.specs.Core.{CoreState}
use Rattle.tree_session.specs.Lines.{IsCommand, IsRunnable, Rests}
use Rattle.tree_session.specs.Session.{Performs, Runs}
use Rattle.tree_session.proofs.BookLemmas.{end_counted, entry_at_end}
use Rattle.tree_session.proofs.RunLemmas.{runs_more, runs_none}
use Rattle.ship_text.specs.Ships.{most_first}
use Rattle.store_serve.specs.Room.{HasRoomForLine}
use Rattle.store_serve.specs.Session.{DidLine, DidLines, DoesNext, last_text}
use Rattle.store_serve.specs.Taken.{ComesTo, CountsClosing, Stops, StopsAt, TakesLines, TookBytes, lines_in, room_left}
use Rattle.store_serve.specs.Told.{IsTold, front_text, open_text, ship_behind, told_entry}
use Rattle.store_serve.specs.declared.closing.Closing.{Closing}
use Rattle.store_serve.specs.declared.closing.Closing.TheVariants.{Ended, BadLine, NoRoom, SourceFault, SinkFault}
use Rattle.store_serve.proofs.NextLemmas.{left_parts, stops_by}
use Rattle.store_serve.proofs.TakenLemmas.{GaveLines, gave_first, gave_more, room_left-push, took}
use Rattle.store_serve.proofs.ToldLemmas.{few_ships, ship_after, ship_after-push, told_but_last, told_more, told_nothing}
use Rattle.text_io.specs.Lines.{LinesState, left_of}
use Rattle.text_io.specs.Reading.{piece_length}
use Rattle.text_io.specs.Text.{SinkState, SourceState, Writes}

module _ {D : Type 0} (state : D → DiskState) (old new : CoreState D) (line : Line) (did : Performs state line.seat line.op old new) (places : length old.held.book.book.quanta ≡ length old.held.book.book.entries) where
  pub entries_then : new.held.book.book.entries ≡ old.held.book.book.entries ++ record { seat = line.seat; op = line.op; reply = did.reply } ∷ []
  entries_then = ap (λ (b : Book). b.entries) did.annals

  pub quanta_then : new.held.book.book.quanta ≡ old.held.book.book.quanta ++ did.quanta ∷ []
  quanta_then = ap (λ (b : Book). b.quanta) did.annals ∙ end_counted old.held.book.book.quanta (length old.held.book.book.entries) did.quanta places

  pub room_then : new.held.book.book.room ≡ room_after old.held.book.book.room (record { seat = line.seat; op = line.op; reply = did.reply })
  room_then = ap (λ (b : Book). b.room) did.annals

  pub entry_then : entry_at new.held.book.book (length old.held.book.book.entries) ≡ record { seat = line.seat; op = line.op; reply = did.reply }
  entry_then =
      ap (λ (es : List Entry). slice_index_or es (length old.held.book.book.entries) no_entry) entries_then
      ∙ entry_at_end old.held.book.book.entries (record { seat = line.seat; op = line.op; reply = did.reply })

  pub text_then : (ship : ℕ) → last_text ship old.held.book.book new.held.book.book
      ≡ told_entry ship (length old.held.book.book.entries + 1) (record { seat = line.seat; op = line.op; reply = did.reply }) did.quanta
  text_then ship =
      let place = length old.held.book.book.entries in
      let entry : Entry = record { seat = line.seat; op = line.op; reply = did.reply } in
      let there : entry_at new.held.book.book place ≡ entry = entry_then in
      let counted : slice_index new.held.book.book.quanta place ≡ did.quanta = ap (λ (ns : List ℕ). slice_index ns place) quanta_then ∙ get_or-append_right old.held.book.book.quanta (did.quanta ∷ []) place place 0 places (omega arith) ∙ at_start (place - place) did.quanta (omega arith) in
      ap (λ (e : Entry). told_entry ship (place + 1) e (slice_index new.held.book.book.quanta place)) there
      ∙ ap (λ (n : ℕ). told_entry ship (place + 1) entry n) counted
    where
      at_start : (k n : ℕ) → k ≡ 0 → slice_index (n ∷ []) k ≡ n
      at_start k n zero = ap (λ (i : ℕ). slice_index (n ∷ []) i) zero

-- the session so far
pub record SoFar {D : Type 0} (state : D → DiskState) (ships ship : ℕ) (first now : CoreState D) (s0 : SourceState) (l : LinesState) (s : SourceState)
    (k0 k : SinkState) : Type 0 where
  pub runs : Runs state (lines_in now.held.book.book.entries) first now
  pub gave : GaveLines (lines_in now.held.book.book.entries) s0 l s
  pub room : now.held.book.book.room ≡ room_left first.held.book.book.room now.held.book.book.entries
  pub told : Writes {T = Unit {0}} {E = Failed} (front_text ships (charge_in first.held) now.held.book.book.entries now.held.book.book.quanta) (Ok tt)
      k0 k
  pub next : ship ≡ ship_after ships now.held.book.book.entries

-- nothing yet, and the first line told
pub so_far_none : {D : Type 0} (state : D → DiskState) (ships : ℕ) (first : CoreState D) (s : SourceState) (longest : ℕ) (k0 k : SinkState)
    → Rests first.held → first.held.book.book.entries ≡ [] → first.held.book.book.quanta ≡ []
    → Writes {T = Unit {0}} {E = Failed} (open_text (charge_in first.held)) (Ok tt) k0 k
    → SoFar state ships ships first first s (record { line = []; ahead = []; longest = longest }) s k0 k
so_far_none {D} state ships first s longest k0 k rests none uncounted told = record {
  runs = subst (λ (es : List Entry). Runs state (lines_in es) first first) (sym none) (runs_none state first rests);
  gave = subst (λ (es : List Entry). GaveLines (lines_in es) s (record { line = []; ahead = []; longest = longest }) s) (sym none) (gave_first longest s);
  room = ap (λ (es : List Entry). room_left first.held.book.book.room es) (sym none);
  told = subst (λ (text : List ℕ). Writes {T = Unit {0}} {E = Failed} text (Ok tt) k0 k)
      (sym (ap (λ (es : List Entry). front_text ships (charge_in first.held) es first.held.book.book.quanta) none
      ∙ ap (λ (ns : List ℕ). front_text ships (charge_in first.held) [] ns) uncounted ∙ append-nil (open_text (charge_in first.held)))) told;
  next = ap (λ (es : List Entry). ship_after ships es) (sym none);
}

-- the rest is what the reader read ahead, and what the source has
took_done : (entries : List Entry) (room : Room) (ahead : List ℕ) (old now after : Option (List ℕ)) → length ahead ≤ piece_length → IfSome old (λ left. (rest : List ℕ) × (left ≡ lines_text (lines_in entries) ++ rest) × (now ≡ Some rest))
    → now ≡ option_map (λ (more : List ℕ). ahead ++ more) after → IfSome old (λ left. TookBytes entries SinkFault room left after)
took_done entries room ahead None now after few gave is = tt
took_done entries room ahead (Some left) now after few (rest, split, now_is) is =
    let (r, after_is, rest_is) = left_parts ahead after rest (sym is ∙ now_is) in
    record { rest = rest; split = split; stops = stops_by SinkFault (length entries) (room_left room entries) ahead r rest after after_is rest_is few tt }

module _ {D : Type 0} (state : D → DiskState) (ships ship : ℕ) (first now new : CoreState D) (s0 : SourceState) (l m : LinesState) (s t : SourceState)
    (k0 k h : SinkState) (so_far : SoFar state ships ship first now s0 l s k0 k) (does : DoesNext state now new l m s t) where
  lines_then : lines_in new.held.book.book.entries ≡ lines_in now.held.book.book.entries ++ does.line ∷ []
  lines_then = ap lines_in (entries_then state now new does.line does.performs does.places) ∙ map-append (λ (e : Entry). record { seat = e.seat; op = e.op }) now.held.book.book.entries (record { seat = does.line.seat; op = does.line.op; reply = does.performs.reply } ∷ [])

  runs_then : Runs state (lines_in new.held.book.book.entries) first new
  runs_then = subst (λ (ls : List Line). Runs state ls first new) (sym lines_then) (runs_more state (lines_in now.held.book.book.entries) does.line first now new does.places does.room.0 so_far.runs does.performs)

  gave_then : GaveLines (lines_in new.held.book.book.entries) s0 m t
  gave_then = subst (λ (ls : List Line). GaveLines ls s0 m t) (sym lines_then) (gave_more (lines_in now.held.book.book.entries) does.line s0 l m s t so_far.gave does.reads)

  -- what is told of it, by the number that the session has come to
  line_is : (entry : Entry) → entry ≡ record { seat = does.line.seat; op = does.line.op; reply = does.performs.reply }
      → last_text ship now.held.book.book new.held.book.book
      ≡ told_entry (ship_after ships now.held.book.book.entries) (length now.held.book.book.entries + 1) entry does.performs.quanta
  line_is entry is =
      text_then state now new does.line does.performs does.places ship
      ∙ ap (λ (n : ℕ). told_entry n (length now.held.book.book.entries + 1)
      (record { seat = does.line.seat; op = does.line.op; reply = does.performs.reply })
      does.performs.quanta) so_far.next
      ∙ ap (λ (e : Entry). told_entry (ship_after ships now.held.book.book.entries) (length now.held.book.book.entries + 1) e does.performs.quanta)
      (sym is)

  -- one line more was done and told
  pub so_far_more : (next : ℕ) → Writes {T = Unit {0}} {E = Failed} (last_text ship now.held.book.book new.held.book.book) (Ok tt) k h
      → next ≡ ship_behind ship (entry_at new.held.book.book (length now.held.book.book.entries)) → SoFar state ships next first new s0 m t k0 h
  so_far_more next told behind =
      let entry : Entry = record { seat = does.line.seat; op = does.line.op; reply = does.performs.reply } in
      let line_told = subst (λ (text : List ℕ). Writes {T = Unit {0}} {E = Failed} text (Ok tt) k h) (line_is entry refl) told in
      let all = told_more ships (charge_in first.held) now.held.book.book.entries now.held.book.book.quanta entry does.performs.quanta does.places
      so_far.told line_told in
      record {
        runs = runs_then;
        gave = gave_then;
        room = room_then state now new does.line does.performs does.places ∙ ap (λ (r : Room). room_after r entry) so_far.room ∙ sym (room_left-push first.held.book.book.room now.held.book.book.entries entry)
            ∙ ap (λ (es : List Entry). room_left first.held.book.book.room es) (sym (entries_then state now new does.line does.performs does.places));
        told = subst (λ (text : List ℕ). Writes {T = Unit {0}} {E = Failed} text (Ok tt) k0 h)
            (ap (λ (es : List Entry). front_text ships (charge_in first.held) es (now.held.book.book.quanta ++ does.performs.quanta ∷ []))
            (sym (entries_then state now new does.line does.performs does.places))
            ∙ ap (λ (ns : List ℕ). front_text ships (charge_in first.held) new.held.book.book.entries ns)
            (sym (quanta_then state now new does.line does.performs does.places))) all;
        next = behind ∙ ap (λ (e : Entry). ship_behind ship e) (entry_then state now new does.line does.performs does.places)
            ∙ ap (λ (n : ℕ). ship_behind n entry) so_far.next ∙ sym (ship_after-push ships now.held.book.book.entries entry)
            ∙ ap (λ (es : List Entry). ship_after ships es) (sym (entries_then state now new does.line does.performs does.places));
      }

  -- the sink failed at it
  pub cut_at_last : (failed : Failed) → length m.ahead ≤ piece_length
      → Writes {T = Unit {0}} {E = Failed} (last_text ship now.held.book.book new.held.book.book) (Err failed) k h
      → DidLines state ships SinkFault first new s0 t k0 h
  cut_at_last failed few told =
      let entry : Entry = record { seat = does.line.seat; op = does.line.op; reply = does.performs.reply } in
      let line_told = subst (λ (text : List ℕ). Writes {T = Unit {0}} {E = Failed} text (Err failed) k h) (line_is entry refl) told in
      let cut = told_but_last ships (charge_in first.held) now.held.book.book.entries now.held.book.book.quanta entry does.performs.quanta failed
      does.places so_far.told line_told in
      record {
        runs = runs_then;
        takes = record { allowed = gave_then.allowed; bytes = took_done new.held.book.book.entries first.held.book.book.room m.ahead s0.left (left_of m t) t.left few gave_then.bytes refl; counts = gave_then.calm };
        told = subst (λ (es : List Entry). IsTold SinkFault ships (charge_in first.held) es new.held.book.book.quanta k0 h)
            (sym (entries_then state now new does.line does.performs does.places))
            (subst (λ (ns : List ℕ). IsTold SinkFault ships (charge_in first.held) (now.held.book.book.entries ++ entry ∷ []) ns k0 h)
            (sym (quanta_then state now new does.line does.performs does.places)) cut);
      }

-- no more was done
pub stopped : {D : Type 0} (state : D → DiskState) (ships ship : ℕ) (closing : Closing) (first now : CoreState D) (s0 : SourceState) (l : LinesState)
    (s t : SourceState) (k0 k : SinkState) → (closing ≡ SinkFault → ⊥) → SoFar state ships ship first now s0 l s k0 k
    → StopsAt closing now.held.book.book l s t → DidLines state ships closing first now s0 t k0 k
stopped state ships ship closing first now s0 l s t k0 k other so_far stops = record {
  runs = so_far.runs;
  takes = record {
    allowed = so_far.gave.allowed;
    bytes = took now.held.book.book.entries closing first.held.book.book.room s0.left (left_of l s) t.left so_far.gave.bytes
        (subst (λ (r : Room). IfSome (left_of l s) (λ left. Stops closing (length now.held.book.book.entries) r left t.left)) so_far.room stops.bytes);
    counts = subst (λ (n : ℕ). CountsClosing closing n t.faults) so_far.gave.calm stops.counts;
  };
  told = told_whole closing other;
}
  where
    told_whole : (c : Closing) → (c ≡ SinkFault → ⊥) → IsTold c ships (charge_in first.held) now.held.book.book.entries now.held.book.book.quanta k0 k
    told_whole Ended apart = so_far.told
    told_whole (BadLine n) apart = so_far.told
    told_whole (NoRoom n) apart = so_far.told
    told_whole SourceFault apart = so_far.told
    told_whole SinkFault apart = absurd (apart refl)

-- ---- as the calls say it

command : (op : Op) → grammar.IsCommand op → IsCommand op
command op is = grind (arith, common_steps, nat_tests)

-- a line of the grammar may be done
pub runnable : (line : Line) → IsAllowed line → IsRunnable line
runnable line allowed = record { seat = allowed.seat; command = command line.op allowed.command }

-- there was no line that may be done
pub did_nothing : {D : Type 0} (state : D → DiskState) (ship : ℕ) (closing : Closing) (core : CoreState D) (l m : LinesState) (s t : SourceState)
    (k : SinkState) → ComesTo (Err closing) core.held.book.book l m s t → DidLine state ship (Err closing) core core l m s t k k
did_nothing state ship Ended core l m s t k stops = (refl, stops, refl)
did_nothing state ship (BadLine n) core l m s t k stops = (refl, stops, refl)
did_nothing state ship (NoRoom n) core l m s t k stops = (refl, stops, refl)
did_nothing state ship SourceFault core l m s t k stops = (refl, stops, refl)
did_nothing state ship SinkFault core l m s t k never = absurd never

ended_so : {D : Type 0} (state : D → DiskState) (ships ship : ℕ) (closing : Closing) (first now new : CoreState D) (s0 : SourceState) (l : LinesState)
    (s t : SourceState) (k0 k h : SinkState) → (closing ≡ SinkFault → ⊥) → SoFar state ships ship first now s0 l s k0 k
    → (new ≡ now) × StopsAt closing now.held.book.book l s t × (h ≡ k) → DidLines state ships closing first new s0 t k0 h
ended_so {D} state ships ship closing first now new s0 l s t k0 k h other so_far (core_is, stops, sink_is) =
    subst (λ (core : CoreState D). DidLines state ships closing first core s0 t k0 h) (sym core_is)
    (subst (λ (sink : SinkState). DidLines state ships closing first now s0 t k0 sink) (sym sink_is)
    (stopped state ships ship closing first now s0 l s t k0 k other so_far stops))

-- the session ended at a line
pub did_end : {D : Type 0} (state : D → DiskState) (ships ship : ℕ) (closing : Closing) (first now new : CoreState D) (s0 : SourceState)
    (l m : LinesState) (s t : SourceState) (k0 k h : SinkState) → SoFar state ships ship first now s0 l s k0 k
    → DidLine state ship (Err closing) now new l m s t k h → DidLines state ships closing first new s0 t k0 h
did_end state ships ship Ended first now new s0 l m s t k0 k h so_far did =
    ended_so state ships ship Ended first now new s0 l s t k0 k h (λ same. absurd cc) so_far did
did_end state ships ship (BadLine n) first now new s0 l m s t k0 k h so_far did =
    ended_so state ships ship (BadLine n) first now new s0 l s t k0 k h (λ same. absurd cc) so_far did
did_end state ships ship (NoRoom n) first now new s0 l m s t k0 k h so_far did =
    ended_so state ships ship (NoRoom n) first now new s0 l s t k0 k h (λ same. absurd cc) so_far did
did_end state ships ship SourceFault first now new s0 l m s t k0 k h so_far did =
    ended_so state ships ship SourceFault first now new s0 l s t k0 k h (λ same. absurd cc) so_far did
did_end state ships ship SinkFault first now new s0 l m s t k0 k h so_far (does, failed, told) =
    cut_at_last state ships ship first now new s0 l m s t k0 k h so_far does failed does.reads.few told

-- the sink failed at the first line
pub told_none : {D : Type 0} (state : D → DiskState) (ships : ℕ) (first : CoreState D) (s : SourceState) (k h : SinkState) (failed : Failed)
    → Rests first.held → first.held.book.book.entries ≡ [] → first.held.book.book.quanta ≡ []
    → Writes {T = Unit {0}} {E = Failed} (open_text (charge_in first.held)) (Err failed) k h → DidLines state ships SinkFault first first s s k h
told_none {D} state ships first s k h failed rests none uncounted told = record {
  runs = subst (λ (es : List Entry). Runs state (lines_in es) first first) (sym none) (runs_none state first rests);
  takes = subst (λ (es : List Entry). TakesLines es SinkFault first.held.book.book.room s s) (sym none) (record { allowed = All-nil IsAllowed; bytes = nothing_taken s.left first.held.book.book.room; counts = refl });
  told = subst (λ (es : List Entry). IsTold SinkFault ships (charge_in first.held) es first.held.book.book.quanta k h) (sym none)
      (subst (λ (ns : List ℕ). IsTold SinkFault ships (charge_in first.held) [] ns k h) (sym uncounted)
      (told_nothing ships (charge_in first.held) failed told));
}
  where
    nothing_taken : (left : Option (List ℕ)) (room : Room) → IfSome left (λ bytes. TookBytes [] SinkFault room bytes left)
    nothing_taken None room = tt
    nothing_taken (Some bytes) room = record { rest = bytes; split = refl; stops = record { taken = 0; few = omega arith; within = omega arith; after_is = refl; why = tt } }

-- so by the call's answer
pub told_none_by : {D : Type 0} (state : D → DiskState) (ships : ℕ) (first : CoreState D) (s : SourceState) (k h : SinkState)
    (result : Result (Unit {0}) Failed) → (result ≡ Ok tt → ⊥) → Rests first.held
    → first.held.book.book.entries ≡ [] → first.held.book.book.quanta ≡ []
    → (charge : ℕ) → charge ≡ charge_in first.held → Writes (open_text charge) result k h → DidLines state ships SinkFault first first s s k h
told_none_by state ships first s k h (Ok done) failed rests none uncounted charge is told = absurd (failed refl)
told_none_by state ships first s k h (Err fault) failed rests none uncounted charge is told =
    told_none state ships first s k h fault rests none uncounted
    (subst (λ (n : ℕ). Writes {T = Unit {0}} {E = Failed} (open_text n) (Err fault) k h) is told)

-- ---- a line, with the numbers and the annals that its calls were given

pub does_next : {D : Type 0} (state : D → DiskState) (old new : CoreState D) (before : Book) (line : Line) (l m : LinesState) (s t : SourceState) → before ≡ old.held.book.book → ComesTo (Ok line) before l m s t
    → Performs state line.seat line.op old new → (place : ℕ) → place ≡ length old.held.book.book.entries → place ≡ length old.held.book.book.quanta → place ≤ most_entries → DoesNext state old new l m s t
does_next state old new before line l m s t same comes performs place entries quanta few = record {
  line = line;
  reads = comes.0;
  room = subst (λ (b : Book). HasRoomForLine b.room line) same comes.1;
  performs = performs;
  few = subst (λ (n : ℕ). n ≤ most_entries) entries few;
  places = sym quanta ∙ entries;
}

-- its place is there once it was done
pub has_place : {D : Type 0} (state : D → DiskState) (old new : CoreState D) (l m : LinesState) (s t : SourceState) → DoesNext state old new l m s t → length old.held.book.book.entries < length new.held.book.book.entries
has_place state old new l m s t does =
    omega (
      arith,
      ap (λ (es : List Entry). length es) (entries_then state old new does.line does.performs does.places),
      length-append old.held.book.book.entries (record { seat = does.line.seat; op = does.line.op; reply = does.performs.reply } ∷ []),
    )

-- what is printed is the line of the entry that was noted last
pub printed_last : (ship place : ℕ) (old new annals : Book) → place ≡ length old.entries → annals ≡ new
    → told_entry ship (place + 1) (entry_at annals place) (slice_index annals.quanta place) ≡ last_text ship old new
printed_last ship place old new annals at same =
    ap (λ (b : Book). told_entry ship (place + 1) (entry_at b place) (slice_index b.quanta place)) same
    ∙ ap (λ (n : ℕ). told_entry ship (n + 1) (entry_at new n) (slice_index new.quanta n)) at

-- and the next ship is the one behind it
pub last_entry : (ship place : ℕ) (old new annals : Book) → place ≡ length old.entries → annals ≡ new
    → ship_behind ship (entry_at annals place) ≡ ship_behind ship (entry_at new (length old.entries))
last_entry ship place old new annals at same =
    ap (λ (b : Book). ship_behind ship (entry_at b place)) same ∙ ap (λ (n : ℕ). ship_behind ship (entry_at new n)) at

-- fewer are left to come, since there is no place for more
pub line_more : {D : Type 0} (state : D → DiskState) (old new : CoreState D) (l m : LinesState) (s t : SourceState) → DoesNext state old new l m s t
    → most_entries + 1 - length new.held.book.book.entries < most_entries + 1 - length old.held.book.book.entries
line_more state old new l m s t does = omega (arith, does.few, has_place state old new l m s t does)

-- no ship's number is too great
pub small_number : {D : Type 0} (state : D → DiskState) (ships ship : ℕ) (first now : CoreState D) (s0 : SourceState) (l : LinesState)
    (s : SourceState) (k0 k : SinkState) → SoFar state ships ship first now s0 l s k0 k
    → ships ≤ most_first → ship ≤ most_first + length now.held.book.book.entries
small_number state ships ship first now s0 l s k0 k so_far few = omega (arith, so_far.next, few_ships ships now.held.book.book.entries)
