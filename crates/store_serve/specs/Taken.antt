-- What a session takes of its source, and why it takes no more.
use Rattle.std.specs.Prelude.{◌≡◌, ◌<◌, ◌≤◌, ◌+◌, ◌⊎◌, ⊤, ℕ, List, [], ◌∷◌, ◌++◌, Option, Some, IfSome, Result, Ok, Err, drop, length, map, take}
use Rattle.std.specs.List.{All}
use Rattle.blsm_model.specs.Book.{Book, room_after}
use Rattle.blsm_model.specs.declared.history.Entry.{Entry}
use Rattle.blsm_model.specs.declared.history.Line.{Line}
use Rattle.blsm_model.specs.declared.room.Room.{Room}
use Rattle.script_text.specs.Grammar.{IsAllowed, IsLine, first_line, line_text, lines_text}
use Rattle.store_serve.specs.Room.{HasRoomForLine}
use Rattle.store_serve.specs.declared.closing.Closing.{Closing}
use Rattle.store_serve.specs.declared.closing.Closing.TheVariants.{Ended, BadLine, NoRoom, SourceFault, SinkFault}
use Rattle.text_io.specs.Lines.{HasRisenOnce, Lacks, LacksLine, LinesState, left_of, line_end}
use Rattle.text_io.specs.Reading.{piece_length}
use Rattle.text_io.specs.Text.{SourceState}

-- the lines that were done, of which each has its entry
abbrev pub lines_in : List Entry → List Line
lines_in entries = map (λ (e : Entry). record { seat = e.seat; op = e.op }) entries

-- the room that is left after these entries
abbrev pub room_left : Room → List Entry → Room
room_left room [] = room
room_left room (e ∷ entries) = room_left (room_after room e) entries

-- what is left begins with no line, or has no end of one
abbrev pub BeginsWithNone : List ℕ → Type 0
BeginsWithNone rest = Lacks line_end rest ⊎ ((line : Line) → IsLine (first_line rest) line → ⊥)

-- what is left begins with a line whose caller has no room for it
pub record BeginsWithoutRoom (room : Room) (rest : List ℕ) : Type 0 where
  pub line : Line
  pub behind : List ℕ
  pub allowed : IsAllowed line
  pub split : rest ≡ line_text line ++ line_end ∷ behind
  pub full : HasRoomForLine room line → ⊥

-- Why a session ended that has answered so many lines: this is left, of which so much was taken.
abbrev pub IsWhyClosed : Closing → ℕ → Room → List ℕ → ℕ → Type 0
IsWhyClosed Ended count room rest taken = rest ≡ []
IsWhyClosed (BadLine n) count room rest taken = (n ≡ count + 1) × (0 < length rest) × BeginsWithNone rest
IsWhyClosed (NoRoom n) count room rest taken = (n ≡ count + 1) × BeginsWithoutRoom room rest
IsWhyClosed SourceFault count room rest taken = Lacks line_end (take taken rest)
IsWhyClosed SinkFault count room rest taken = ⊤

-- so much of what is left was taken, and no line of it was done
pub record Stops (closing : Closing) (count : ℕ) (room : Room) (left : List ℕ) (after : Option (List ℕ)) : Type 0 where
  pub taken : ℕ
  pub few : taken ≤ piece_length
  pub within : taken ≤ length left
  pub after_is : after ≡ Some (drop taken left)
  pub why : IsWhyClosed closing count room left taken

-- the source gave the lines that were done, each with its end, and a little of the rest
pub record TookBytes (entries : List Entry) (closing : Closing) (room : Room) (left : List ℕ) (after : Option (List ℕ)) : Type 0 where
  pub rest : List ℕ
  pub split : left ≡ lines_text (lines_in entries) ++ rest
  pub stops : Stops closing (length entries) (room_left room entries) rest after

-- the source's count of faults rose where its fault ended the session, and else stands
abbrev pub CountsClosing : Closing → ℕ → ℕ → Type 0
CountsClosing SourceFault old new = HasRisenOnce old new
CountsClosing _ old new = new ≡ old

pub record TakesLines (entries : List Entry) (closing : Closing) (room : Room) (old new : SourceState) : Type 0 where
  -- each is a line of the grammar, so that the bytes have one reading
  pub allowed : All IsAllowed (lines_in entries)
  pub bytes : IfSome old.left (λ left. TookBytes entries closing room left new.left)
  pub counts : CountsClosing closing old.faults new.faults

-- ---- one line

-- the bytes spell a line whose caller has room for it, or not
abbrev pub IsLineFor : List ℕ → Room → ℕ → Result Line Closing → Type 0
IsLineFor bytes room number (Ok line) = IsLine bytes line × HasRoomForLine room line
IsLineFor bytes room number (Err closing) = ((closing ≡ BadLine number) × ((line : Line) → IsLine bytes line → ⊥))
    ⊎ ((closing ≡ NoRoom number) × (line : Line) × IsLine bytes line × (HasRoomForLine room line → ⊥))

-- the next line was read, and its bytes and its end are gone from what is left
pub record ReadsNext (line : Line) (l m : LinesState) (s t : SourceState) : Type 0 where
  pub allowed : IsAllowed line
  pub left : IfSome (left_of l s) (λ left. (rest : List ℕ) × (left ≡ line_text line ++ line_end ∷ rest) × (left_of m t ≡ Some rest))
  pub asked : LacksLine l ⊎ (t ≡ s)
  pub calm : t.faults ≡ s.faults
  pub few : length m.ahead ≤ piece_length

-- there is none that is done, and the source was left so
pub record StopsAt (closing : Closing) (book : Book) (l : LinesState) (s t : SourceState) : Type 0 where
  pub bytes : IfSome (left_of l s) (λ left. Stops closing (length book.entries) book.room left t.left)
  pub counts : CountsClosing closing s.faults t.faults

-- the next line, whose caller has room for it, or why the session ends
abbrev pub ComesTo : Result Line Closing → Book → LinesState → LinesState → SourceState → SourceState → Type 0
ComesTo (Ok line) book l m s t = ReadsNext line l m s t × HasRoomForLine book.room line
ComesTo (Err SinkFault) book l m s t = ⊥
ComesTo (Err closing) book l m s t = StopsAt closing book l s t
