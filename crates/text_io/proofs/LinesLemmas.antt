-- Laws of `specs/Lines`.
use Rattle.std.proofs.lemmas.Bool.Decides.{nat_tests}
use Rattle.std.proofs.lemmas.Grind.{common_steps}
use Rattle.std.proofs.Common.{◌≡◌, ◌≤◌, ◌<◌, ◌+◌, ◌-◌, ℕ, suc, min, List, ◌∷◌, ◌++◌, length, take, drop, slice_index, Option, Some, None, IfSome, option_map, Ok, refl, sym, ◌∙◌, ap, subst, append_assoc, arith, length-append, length-drop, drop-cons, zero-add}
use Rattle.std.proofs.lemmas.List.{append-nil, drop-drop, get_or-take, length-take, length-take-le, take-append-drop, take-append-le, take-take}
use Rattle.std.proofs.lemmas.List.Edits.{length-between, take-paste}
use Rattle.std.proofs.Math.Seq.{take-add, take-append-add}
use Rattle.std.specs.List.{copy_within, slice_range}
use borrow.Rule.Slice.PartMut.{post_of, put_mid}
use Rattle.text_io.specs.Reading.{piece_length}
use Rattle.text_io.specs.Text.{Gives, ReadsSome, SourceState}
use Rattle.text_io.specs.Lines.{IsLineAt, Lacks, LacksLine, LinesState, ReadsAhead, TakesLine, line_end}

-- a list is what stands before a place, the element there, and what stands behind it
split_at : (xs : List ℕ) (at m x : ℕ) → at < length xs → slice_index xs at ≡ x → take (at + suc m) xs ≡ take at xs ++ x ∷ take m (drop (suc at) xs)
split_at xs at m x within is =
    take-add at (suc m) xs ∙ ap (λ (l : List ℕ). take at xs ++ take (suc m) l) (drop-cons xs at 0 within ∙ ap (λ (b : ℕ). b ∷ drop (suc at) xs) is)

-- a part of a list up to two places of it
ahead_split : (piece : List ℕ) (from at end x : ℕ) → from + at < end → at < length (drop from piece) → slice_index (drop from piece) at ≡ x
    → slice_range piece from end ≡ slice_range piece from (from + at) ++ x ∷ slice_range piece (from + at + 1) end
ahead_split piece from at end x before within is =
    let m : ℕ = end - (from + at + 1) in
    let length_is : end - from ≡ at + suc m = omega arith in
    let front_is : from + at - from ≡ at = omega arith in
    let rest_is : drop (from + at + 1) piece ≡ drop (suc at) (drop from piece) = sym (drop-drop (suc at) from piece ∙ ap (λ (n : ℕ). drop n piece) (omega arith)) in
    rw (length_is, front_is, rest_is) (split_at (drop from piece) at m x within is)

-- the line that stands in a part of a piece, taken
pub waiting_taken : (piece : List ℕ) (start stop from end most longest at : ℕ) {l : LinesState} → record { line = slice_range piece start stop; ahead = slice_range piece from end; longest = longest } ≡ l
    → IsLineAt at (slice_range piece from most) → most ≡ min end (from + longest + 1) → from ≤ end → end ≤ piece_length → length piece ≡ piece_length
    → TakesLine l (record { line = slice_range piece from (from + at); ahead = slice_range piece (from + at + 1) end; longest = longest })
waiting_taken piece start stop from end most longest at view_is is most_is order fits whole =
    let within : at < min (most - from) (length (drop from piece)) = subst (λ (n : ℕ). at < n) (length-take (most - from) (drop from piece)) is.within in
    let front : at < most - from = omega arith in
    let found : slice_index (drop from piece) at ≡ line_end = sym (get_or-take (most - from) (drop from piece) at 0 front) ∙ is.end in
    let taken : from + at - from ≡ at = omega arith in
    let before : at ≤ most - from = omega arith in
    let takes : TakesLine (record { line = slice_range piece start stop; ahead = slice_range piece from end; longest = longest }) (record { line = slice_range piece from (from + at); ahead = slice_range piece (from + at + 1) end; longest = longest }) = record {
      lacks = rw taken (subst (λ (l : List ℕ). Lacks line_end l) (take-take at (most - from) (drop from piece) before) is.lacks);
      fits = rw taken (omega (arith, length-take at (drop from piece)));
      split = ahead_split piece from at end line_end (omega arith) (omega arith) found;
      few = omega (arith, length-take (end - from) (drop from piece));
      longest = refl;
    } in
    subst (λ (l : LinesState). TakesLine l (record { line = slice_range piece from (from + at); ahead = slice_range piece (from + at + 1) end; longest = longest })) view_is takes

take_both : (a b c : ℕ) (xs : List ℕ) → c ≡ min a b → take a (take b xs) ≡ take c xs
take_both a b c xs is = grind (arith, common_steps, nat_tests)

-- a part of a piece where no line stands
pub none_waits : (piece : List ℕ) (start stop from end most longest : ℕ) {l : LinesState} → record { line = slice_range piece start stop; ahead = slice_range piece from end; longest = longest } ≡ l
    → Lacks line_end (slice_range piece from most) → most ≡ min end (from + longest + 1) → from ≤ end → LacksLine l
none_waits piece start stop from end most longest view_is lacks most_is order =
    let few : most - from ≡ min (longest + 1) (end - from) = omega arith in
    subst LacksLine view_is (subst (λ (l : List ℕ). Lacks line_end l) (sym (take_both (longest + 1) (end - from) (most - from) (drop from piece) few)) lacks)

-- what a call gave stands behind what was read before, and is gone from the source
keeps_left : (ahead more : List ℕ) (old new : Option (List ℕ)) (room n : ℕ) (into : List ℕ) → more ≡ ahead ++ take n into → Gives old new room into n
    → IfSome (option_map (λ left. ahead ++ left) old) (λ left. option_map (λ (rest : List ℕ). more ++ rest) new ≡ Some left)
keeps_left ahead more None new room n into is gives = tt
keeps_left ahead more (Some left) new room n into is gives =
    let (within, same, rest) = gives.bytes in
    let joined : more ++ drop n left ≡ ahead ++ left = ap (λ (l : List ℕ). l ++ drop n left) is ∙ append_assoc ahead (take n into) (drop n left) ∙ ap (λ (l : List ℕ). ahead ++ l) (ap (λ (l : List ℕ). l ++ drop n left) same ∙ take-append-drop n left) in
    ap (option_map (λ (l : List ℕ). more ++ l)) rest ∙ ap (λ (l : List ℕ). Some l) joined

-- none came, so the source was at its end
all_left : (ahead : List ℕ) (old new : Option (List ℕ)) (room : ℕ) (into : List ℕ) → 0 < room → Gives old new room into 0 → IfSome (option_map (λ left. ahead ++ left) old) (λ left. left ≡ ahead)
all_left ahead None new room into some gives = tt
all_left ahead (Some left) new room into some gives = ap (λ (l : List ℕ). ahead ++ l) (gives.end refl some) ∙ append-nil ahead

-- where the bytes of a part are moved to the front, and more are put behind them
put_behind : (piece moved into : List ℕ) (from end n : ℕ) → moved ≡ copy_within piece from end 0 → from ≤ end → end ≤ length piece → n ≤ length into
    → slice_range (put_mid (end - from) (piece_length - (end - from)) moved into) 0 (end - from + n) ≡ slice_range piece from end ++ take n into
put_behind piece moved into from end n moved_is order fits few =
    let k : ℕ = end - from in
    let front : take k moved ≡ slice_range piece from end = ap (take k) moved_is ∙ subst (λ (m : ℕ). take m (copy_within piece from end 0) ≡ slice_range piece from end) (zero-add k) (take-paste piece 0 (drop from piece) k (omega arith) (omega (arith, length-drop from piece))) in
    let count : length (slice_range piece from end) ≡ k = length-between piece from end fits in
    let behind : List ℕ = post_of k (piece_length - k) moved in
    sub_zero_of (k + n) (put_mid k (piece_length - k) moved into)
    ∙ ap (λ (l : List ℕ). take (k + n) (l ++ (into ++ behind))) front
    ∙ ap (λ (m : ℕ). take (m + n) (slice_range piece from end ++ (into ++ behind))) (sym count)
    ∙ take-append-add (slice_range piece from end) (into ++ behind) n
    ∙ ap (λ (l : List ℕ). slice_range piece from end ++ l) (take-append-le n into behind few)
  where
    sub_zero_of : (m : ℕ) (xs : List ℕ) → take (m - 0) xs ≡ take m xs
    sub_zero_of m xs = grind (arith, common_steps, nat_tests)

-- one call of the source into the room behind what was read
pub more_ahead : (piece moved into : List ℕ) (start stop from end longest n : ℕ) {l : LinesState} {s t : SourceState} {E : Type 0} → record { line = slice_range piece start stop; ahead = slice_range piece from end; longest = longest } ≡ l
    → moved ≡ copy_within piece from end 0 → ReadsSome {E = E} (Ok n) (piece_length - (end - from)) into s t → length into ≡ piece_length - (end - from)
    → from ≤ end → end ≤ piece_length → length piece ≡ piece_length → length l.ahead ≤ l.longest → longest < piece_length
    → ReadsAhead {E = E} (Ok n) l (record { line = slice_range (put_mid (end - from) (piece_length - (end - from)) moved into) 0 0; ahead = slice_range (put_mid (end - from) (piece_length - (end - from)) moved into) 0 (end - from + n); longest = longest }) s t
more_ahead piece moved into start stop from end longest n {s} {t} {E} view_is moved_is reads room order fits whole few short =
    let old : LinesState = record { line = slice_range piece start stop; ahead = slice_range piece from end; longest = longest } in
    let few : length (slice_range piece from end) ≤ longest = subst (λ (l : LinesState). length l.ahead ≤ l.longest) (sym view_is) few in
    let count : length (slice_range piece from end) ≡ end - from = length-between piece from end (omega arith) in
    let within : n ≤ length into = omega (arith, reads.gives.within) in
    let is = put_behind piece moved into from end n moved_is order (omega arith) within in
    let new : List ℕ = slice_range (put_mid (end - from) (piece_length - (end - from)) moved into) 0 (end - from + n) in
    let counted : length new ≡ length (slice_range piece from end) + n = ap length is ∙ length-append (slice_range piece from end) (take n into) ∙ ap (λ (m : ℕ). length (slice_range piece from end) + m) (length-take-le n into within) in
    let ahead : ReadsAhead {E = E} (Ok n) old (record { line = slice_range (put_mid (end - from) (piece_length - (end - from)) moved into) 0 0; ahead = new; longest = longest }) s t = record {
      left = keeps_left (slice_range piece from end) new s.left t.left (piece_length - (end - from)) n into is reads.gives;
      more = counted;
      end = λ none. (is ∙ ap (λ (m : ℕ). slice_range piece from end ++ take m into) none ∙ append-nil (slice_range piece from end), all_left (slice_range piece from end) s.left t.left (piece_length - (end - from)) into (omega arith) (subst (Gives s.left t.left (piece_length - (end - from)) into) none reads.gives));
      err = tt;
      calm = reads.calm;
      cause = reads.cause;
      few = omega (arith, reads.gives.within);
      longest = refl;
    } in
    subst (λ (l : LinesState). ReadsAhead {E = E} (Ok n) l (record { line = slice_range (put_mid (end - from) (piece_length - (end - from)) moved into) 0 0; ahead = new; longest = longest }) s t) view_is ahead
