-- What is taken of the source, line by line.
use Rattle.std.proofs.lemmas.Grind.{flat_map-append}
use Rattle.std.proofs.Common.{◌≡◌, ◌∙◌, ℕ, List, [], ◌∷◌, ◌++◌, Option, Some, None, IfSome, option_map, length, refl, sym, ap, subst, append_assoc, append-nil}
use Rattle.std.specs.List.{All}
use Rattle.std.proofs.lemmas.List.Elements.{All-append, All-cons, All-nil}
use Rattle.blsm_model.specs.Book.{room_after}
use Rattle.blsm_model.specs.declared.history.Entry.{Entry}
use Rattle.blsm_model.specs.declared.history.Line.{Line}
use Rattle.blsm_model.specs.declared.room.Room.{Room}
use Rattle.script_text.specs.Grammar.{IsAllowed, line_text, lines_text}
use Rattle.store_serve.specs.Taken.{ReadsNext, Stops, TookBytes, lines_in, room_left}
use Rattle.store_serve.specs.declared.closing.Closing.{Closing}
use Rattle.text_io.specs.Lines.{LinesState, left_of, line_end}
use Rattle.text_io.specs.Text.{SourceState}

-- one entry more
pub room_left-push : (room : Room) (es : List Entry) (e : Entry) → room_left room (es ++ e ∷ []) ≡ room_after (room_left room es) e
room_left-push room [] e = refl
room_left-push room (x ∷ es) e = room_left-push (room_after room x) es e

lines_text-push : (ls : List Line) (line : Line) → lines_text (ls ++ line ∷ []) ≡ lines_text ls ++ (line_text line ++ line_end ∷ [])
lines_text-push ls line = flat_map-append (λ (l : Line). line_text l ++ line_end ∷ []) ls (line ∷ []) ∙ ap (λ (t : List ℕ). lines_text ls ++ t) (append-nil (line_text line ++ line_end ∷ []))

-- the lines that were done were given, and what the reader and the source have is the rest
pub record GaveLines (lines : List Line) (old : SourceState) (l : LinesState) (s : SourceState) : Type 0 where
  pub allowed : All IsAllowed lines
  pub bytes : IfSome old.left (λ left. (rest : List ℕ) × (left ≡ lines_text lines ++ rest) × (left_of l s ≡ Some rest))
  pub calm : s.faults ≡ old.faults

gave_none : (left : Option (List ℕ)) (line : List ℕ) → IfSome left (λ bytes. (rest : List ℕ) × (bytes ≡ [] ++ rest) × (option_map (λ (more : List ℕ). [] ++ more) left ≡ Some rest))
gave_none None line = tt
gave_none (Some bytes) line = (bytes, refl, refl)

pub gave_first : (longest : ℕ) (s : SourceState) → GaveLines [] s (record { line = []; ahead = []; longest = longest }) s
gave_first longest s = record { allowed = All-nil IsAllowed; bytes = gave_none s.left []; calm = refl }

one_joined : (lines : List Line) (line : Line) (behind : List ℕ) → lines_text lines ++ (line_text line ++ line_end ∷ behind) ≡ lines_text (lines ++ line ∷ []) ++ behind
one_joined lines line behind =
    sym (ap (λ (t : List ℕ). t ++ behind) (lines_text-push lines line) ∙ append_assoc (lines_text lines) (line_text line ++ line_end ∷ []) behind ∙ ap (λ (t : List ℕ). lines_text lines ++ t) (append_assoc (line_text line) (line_end ∷ []) behind))

gave_one : (lines : List Line) (line : Line) (old now after : Option (List ℕ)) → IfSome old (λ left. (rest : List ℕ) × (left ≡ lines_text lines ++ rest) × (now ≡ Some rest))
    → IfSome now (λ left. (rest : List ℕ) × (left ≡ line_text line ++ line_end ∷ rest) × (after ≡ Some rest)) → IfSome old (λ left. (rest : List ℕ) × (left ≡ lines_text (lines ++ line ∷ []) ++ rest) × (after ≡ Some rest))
gave_one lines line None now after so_far one = tt
gave_one lines line (Some left) now after (rest, split, now_is) one =
    let (behind, rest_is, after_is) = subst (λ (o : Option (List ℕ)). IfSome o (λ l. (b : List ℕ) × (l ≡ line_text line ++ line_end ∷ b) × (after ≡ Some b))) now_is one in
    (behind, split ∙ ap (λ (t : List ℕ). lines_text lines ++ t) rest_is ∙ one_joined lines line behind, after_is)

pub gave_more : (lines : List Line) (line : Line) (old : SourceState) (l m : LinesState) (s t : SourceState) → GaveLines lines old l s → ReadsNext line l m s t → GaveLines (lines ++ line ∷ []) old m t
gave_more lines line old l m s t so_far one = record {
  allowed = All-append IsAllowed lines (line ∷ []) so_far.allowed (All-cons IsAllowed line [] one.allowed (All-nil IsAllowed));
  bytes = gave_one lines line old.left (left_of l s) (left_of m t) so_far.bytes one.left;
  calm = one.calm ∙ so_far.calm;
}

-- and the session ended
pub took : (entries : List Entry) (closing : Closing) (room : Room) (old now after : Option (List ℕ)) → IfSome old (λ left. (rest : List ℕ) × (left ≡ lines_text (lines_in entries) ++ rest) × (now ≡ Some rest))
    → IfSome now (λ left. Stops closing (length entries) (room_left room entries) left after) → IfSome old (λ left. TookBytes entries closing room left after)
took entries closing room None now after so_far stops = tt
took entries closing room (Some left) now after (rest, split, now_is) stops =
    record { rest = rest; split = split; stops = subst (λ (o : Option (List ℕ)). IfSome o (λ l. Stops closing (length entries) (room_left room entries) l after)) now_is stops }
