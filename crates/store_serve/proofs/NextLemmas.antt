-- The next line, and why there is none.
use Rattle.std.proofs.lemmas.Bool.Decides.{nat_tests}
use Rattle.std.proofs.lemmas.Grind.{common_steps}
use Rattle.std.proofs.Common.{◌≡◌, ◌≢◌, ◌∙◌, ℕ, zero, suc, ◌+◌, ◌≤◌, ◌<◌, List, [], ◌∷◌, ◌++◌, Option, Some, None, IfSome, Result, Ok, Err, option_map, inl, inr, length, take, drop, refl, sym, ap, subst, append_assoc, arith, length-append}
use Rattle.std.proofs.lemmas.List.{take_all, take-append-le}
use Rattle.std.proofs.lemmas.List.Elements.{All-head, All-tail}
use Rattle.std.proofs.Math.Seq.{drop-append_seam, take-append_seam}
use Rattle.blsm_model.specs.Book.{Book}
use Rattle.blsm_model.specs.declared.history.Line.{Line}
use Rattle.blsm_model.specs.declared.room.Room.{Room}
use Rattle.script_text.specs.Grammar.{IsLine, first_line, longest_line}
use Rattle.script_text.proofs.GrammarLaws.{line_fits}
use Rattle.script_text.proofs.ScriptLemmas.{first_line_is}
use Rattle.store_serve.specs.Taken.{ComesTo, CountsClosing, IsLineFor, IsWhyClosed, ReadsNext, Stops, StopsAt}
use Rattle.store_serve.specs.declared.closing.Closing.{Closing}
use Rattle.store_serve.specs.declared.closing.Closing.TheVariants.{Ended, BadLine, NoRoom, SourceFault}
use Rattle.text_io.specs.Lines.{GivesLine, GivesNone, HasRisenOnce, Lacks, LacksLine, LinesState, WereAllLeft, left_of, line_end}
use Rattle.text_io.specs.Reading.{piece_length}
use Rattle.text_io.specs.Text.{SourceState}

-- what is left is what was read ahead, and what the source has
pub left_parts : (ahead : List ℕ) (o : Option (List ℕ)) (left : List ℕ) → option_map (λ (more : List ℕ). ahead ++ more) o ≡ Some left → (r : List ℕ) × (o ≡ Some r) × (left ≡ ahead ++ r)
left_parts ahead None left is = absurd cc
left_parts ahead (Some r) left is = (r, refl, cc)

pub stops_by : (closing : Closing) (count : ℕ) (room : Room) (front r left : List ℕ) (after : Option (List ℕ)) → after ≡ Some r → left ≡ front ++ r → length front ≤ piece_length → IsWhyClosed closing count room left (length front)
    → Stops closing count room left after
stops_by closing count room front r left after after_is left_is few why = record {
  taken = length front;
  few = few;
  within = omega (arith, ap length left_is, length-append front r);
  after_is = after_is ∙ ap (λ (l : List ℕ). Some l) (sym (ap (drop (length front)) left_is ∙ drop-append_seam front r));
  why = why;
}

-- no line was given
none_stops : (closing : Closing) (count : ℕ) (room : Room) (ahead : List ℕ) (o after : Option (List ℕ)) (P : List ℕ → Type 0) → IfSome o (λ left. option_map (λ (more : List ℕ). ahead ++ more) after ≡ Some left) → IfSome o P → length ahead ≤ piece_length
    → ((left r : List ℕ) → P left → left ≡ ahead ++ r → IsWhyClosed closing count room left (length ahead)) → IfSome o (λ left. Stops closing count room left after)
none_stops closing count room ahead None after P keeps p few why = tt
none_stops closing count room ahead (Some left) after P keeps p few why =
    let (r, after_is, left_is) = left_parts ahead after left keeps in
    stops_by closing count room ahead r left after after_is left_is few (why left r p left_is)

-- as many bytes as the longest line has, or fewer, lack an end
ahead_lacks : (m : LinesState) → LacksLine m → length m.ahead ≤ m.longest → Lacks line_end m.ahead
ahead_lacks m lacks few = subst (λ (l : List ℕ). Lacks line_end l) (take_all (m.longest + 1) m.ahead (omega arith)) lacks

pub ended_stops : (book : Book) (l m : LinesState) (s t : SourceState) → GivesNone l m s t → m.ahead ≡ [] → WereAllLeft [] l s → t.faults ≡ s.faults → StopsAt Ended book l s t
ended_stops book l m s t gives none were calm = record {
  bytes = none_stops Ended (length book.entries) book.room m.ahead (left_of l s) t.left (λ left. left ≡ []) gives.left were (omega (arith, ap length none)) (λ left r is split. is);
  counts = calm;
}

pub failed_stops : (book : Book) (l m : LinesState) (s t : SourceState) → GivesNone l m s t → LacksLine m → length m.ahead ≤ m.longest → m.longest ≡ longest_line → HasRisenOnce s.faults t.faults → StopsAt SourceFault book l s t
failed_stops book l m s t gives lacks few longest risen = record {
  bytes = none_stops SourceFault (length book.entries) book.room m.ahead (left_of l s) t.left (λ left. Unit {0}) gives.left (any_left (left_of l s)) (omega arith)
      (λ left r any split. subst (λ (front : List ℕ). Lacks line_end front) (sym (ap (take (length m.ahead)) split ∙ take-append_seam m.ahead r)) (ahead_lacks m lacks few));
  counts = risen;
}
  where
    any_left : (o : Option (List ℕ)) → IfSome o (λ left. Unit {0})
    any_left None = tt
    any_left (Some left) = tt

pub cut_off_stops : (book : Book) (l m : LinesState) (s t : SourceState) (number : ℕ) → number ≡ length book.entries + 1 → GivesNone l m s t → LacksLine m → 0 < length m.ahead → length m.ahead ≤ m.longest → m.longest ≡ longest_line → WereAllLeft m.ahead l s → t.faults ≡ s.faults
    → StopsAt (BadLine number) book l s t
cut_off_stops book l m s t number place gives lacks some few longest were calm = record {
  bytes = none_stops (BadLine number) (length book.entries) book.room m.ahead (left_of l s) t.left (λ left. left ≡ m.ahead) gives.left were (omega arith)
      (λ left r is split. (place, omega (arith, ap length is), inl (subst (λ (bytes : List ℕ). Lacks line_end bytes) (sym is) (ahead_lacks m lacks few))));
  counts = calm;
}

-- where so many bytes lack an end, the first line has as many
long_first : (n : ℕ) (bytes : List ℕ) → Lacks line_end (take n bytes) → n ≤ length bytes → n ≤ length (first_line bytes)
long_first zero bytes lacks within = omega arith
long_first (suc n) [] lacks within = absurd (omega arith)
long_first (suc n) (x ∷ bytes) lacks within =
    let head = All-head (λ byte. byte ≢ line_end) x (take n bytes) lacks in
    let rest = long_first n bytes (All-tail (λ byte. byte ≢ line_end) x (take n bytes) lacks) (omega arith) in
    grind (arith, common_steps, nat_tests)

pub too_long_stops : (book : Book) (l m : LinesState) (s t : SourceState) (number : ℕ) → number ≡ length book.entries + 1 → GivesNone l m s t → LacksLine m → m.longest < length m.ahead → m.longest ≡ longest_line → length m.ahead ≤ piece_length → t.faults ≡ s.faults
    → StopsAt (BadLine number) book l s t
too_long_stops book l m s t number place gives lacks many longest few calm = record {
  bytes = none_stops (BadLine number) (length book.entries) book.room m.ahead (left_of l s) t.left (λ left. Unit {0}) gives.left (any_left (left_of l s)) few
      (λ left r any split. (place, omega (arith, ap length split, length-append m.ahead r), inr (λ line is. omega (arith, line_fits (first_line left) line is, long_first (m.longest + 1) left (front left r split) (omega (arith, ap length split, length-append m.ahead r))))));
  counts = calm;
}
  where
    any_left : (o : Option (List ℕ)) → IfSome o (λ left. Unit {0})
    any_left None = tt
    any_left (Some left) = tt

    front : (left r : List ℕ) → left ≡ m.ahead ++ r → Lacks line_end (take (m.longest + 1) left)
    front left r split = subst (λ (bytes : List ℕ). Lacks line_end bytes) (sym (ap (take (m.longest + 1)) split ∙ take-append-le (m.longest + 1) m.ahead r (omega arith))) lacks

-- ---- a line was given

line_split : (line ahead r rest left : List ℕ) → left ≡ line ++ line_end ∷ rest → rest ≡ ahead ++ r → left ≡ (line ++ line_end ∷ ahead) ++ r
line_split line ahead r rest left left_is rest_is = left_is ∙ ap (λ (l : List ℕ). line ++ line_end ∷ l) rest_is ∙ sym (append_assoc line (line_end ∷ ahead) r)

refused_why : (count : ℕ) (room : Room) (number : ℕ) (bytes rest left : List ℕ) (closing : Closing) (taken : ℕ) → number ≡ count + 1 → Lacks line_end bytes → left ≡ bytes ++ line_end ∷ rest → IsLineFor bytes room number (Err closing) → IsWhyClosed closing count room left taken
refused_why count room number bytes rest left closing taken place lacks left_is (inl (is, none)) =
    subst (λ (c : Closing). IsWhyClosed c count room left taken) (sym is) (place, omega (arith, ap length left_is, length-append bytes (line_end ∷ rest)), inr (λ line spelled. none line (subst (λ (b : List ℕ). IsLine b line) (first_line_is left bytes (Some rest) lacks left_is) spelled)))
refused_why count room number bytes rest left closing taken place lacks left_is (inr (is, line, spelled, full)) =
    subst (λ (c : Closing). IsWhyClosed c count room left taken) (sym is) (
      place,
      record {
        line = line;
        behind = rest;
        allowed = spelled.allowed;
        split = left_is ∙ ap (λ (b : List ℕ). b ++ line_end ∷ rest) spelled.spelled;
        full = full;
      },
    )

refused_left : (count : ℕ) (room : Room) (number : ℕ) (bytes ahead : List ℕ) (closing : Closing) (o after : Option (List ℕ)) → number ≡ count + 1 → Lacks line_end bytes → length bytes + 1 + length ahead ≤ piece_length
    → IfSome o (λ left. (rest : List ℕ) × (left ≡ bytes ++ line_end ∷ rest) × (option_map (λ (more : List ℕ). ahead ++ more) after ≡ Some rest)) → IsLineFor bytes room number (Err closing)
    → IfSome o (λ left. Stops closing count room left after)
refused_left count room number bytes ahead closing None after place lacks few gives why = tt
refused_left count room number bytes ahead closing (Some left) after place lacks few (rest, left_is, keeps) why =
    let (r, after_is, rest_is) = left_parts ahead after rest keeps in
    stops_by closing count room (bytes ++ line_end ∷ ahead) r left after after_is (line_split bytes ahead r rest left left_is rest_is) (omega (arith, length-append bytes (line_end ∷ ahead)))
    (refused_why count room number bytes rest left closing (length (bytes ++ line_end ∷ ahead)) place lacks left_is why)

counts_refused : (bytes : List ℕ) (room : Room) (number : ℕ) (closing : Closing) (old new : ℕ) → new ≡ old → IsLineFor bytes room number (Err closing) → CountsClosing closing old new
counts_refused bytes room number closing old new same (inl (is, none)) = subst (λ (c : Closing). CountsClosing c old new) (sym is) same
counts_refused bytes room number closing old new same (inr (is, line, spelled, full)) = subst (λ (c : Closing). CountsClosing c old new) (sym is) same

-- it is none of a script's, or its caller has no room for it
pub refused_stops : (book : Book) (number : ℕ) (closing : Closing) (l m : LinesState) (s t : SourceState) → number ≡ length book.entries + 1 → GivesLine l m s t → IsLineFor m.line book.room number (Err closing) → StopsAt closing book l s t
refused_stops book number closing l m s t place gives why = record {
  bytes = refused_left (length book.entries) book.room number m.line m.ahead closing (left_of l s) t.left place gives.lacks gives.few gives.left why;
  counts = counts_refused m.line book.room number closing s.faults t.faults gives.calm why;
}

-- or it is to be done
pub reads_next : (line : Line) (l m : LinesState) (s t : SourceState) → GivesLine l m s t → IsLine m.line line → ReadsNext line l m s t
reads_next line l m s t gives is = record {
  allowed = is.allowed;
  left = subst (λ (bytes : List ℕ). IfSome (left_of l s) (λ left. (rest : List ℕ) × (left ≡ bytes ++ line_end ∷ rest) × (left_of m t ≡ Some rest))) is.spelled gives.left;
  asked = gives.asked;
  calm = gives.calm;
  few = omega (arith, gives.few);
}

pub comes_to : (book : Book) (number : ℕ) (result : Result Line Closing) (l m : LinesState) (s t : SourceState) → number ≡ length book.entries + 1 → GivesLine l m s t → IsLineFor m.line book.room number result → ComesTo result book l m s t
comes_to book number (Ok line) l m s t place gives is = (reads_next line l m s t gives is.0, is.1)
comes_to book number (Err closing) l m s t place gives (inl (is, none)) = subst (λ (c : Closing). ComesTo (Err c) book l m s t) (sym is) (refused_stops book number (BadLine number) l m s t place gives (inl (refl, none)))
comes_to book number (Err closing) l m s t place gives (inr (is, line, spelled, full)) = subst (λ (c : Closing). ComesTo (Err c) book l m s t) (sym is) (refused_stops book number (NoRoom number) l m s t place gives (inr (refl, line, spelled, full)))
