-- A text is read line by line.
use Rattle.std.proofs.Common.{◌≡◌, ◌≢◌, ℕ, ◌+◌, ◌-◌, ◌<◌, ◌≤◌, ◌⊎◌, inl, inr, false, eqb, List, [], ◌∷◌, ◌++◌, length, take, get_or, Option, Some, None, ◌∙◌, ap, refl, arith, length-append}
use Rattle.std.specs.Prelude.{flat_map}
use Rattle.std.specs.List.{All, before_first, position_or_len}
use Rattle.std.specs.Option.{unwrap_or}
use Rattle.std.proofs.lemmas.Grind.{common_steps}
use Rattle.std.proofs.lemmas.List.{get_or_append_left, get_or-append_right}
use Rattle.std.proofs.lemmas.List.Sums.{position_or_len_is}
use Rattle.std.proofs.lemmas.Bool.Decides.{eqb_tells, nat_tests}
use Rattle.std.proofs.Math.Seq.{take-append_seam, take-length}
use Rattle.blsm_model.specs.declared.history.Line.{Line}
use Rattle.script_text.specs.Grammar.{AsksTooMuch, IsAllowed, IsBadLine, IsLine, all_rows_asked, first_line, line_text}
use Rattle.script_text.specs.Reading.{IsJoined}
use Rattle.text_io.specs.Lines.{Lacks}

-- lines of any kind, by how each is spelled, each with its end
abbrev pub with_ends : {X : Type 0} → (X → List ℕ) → List X → List ℕ
with_ends spell lines = flat_map (λ line. spell line ++ 10 ∷ []) lines

-- the lines are what was read, and the rest is still to be read; a last line without an end leaves nothing
pub data SoFar {X : Type 0} (spell : X → List ℕ) (text : List ℕ) (lines : List X) (rest : List ℕ) : Type 0 where
  ended : text ≡ with_ends spell lines ++ rest → SoFar spell text lines rest
  unended : rest ≡ [] → text ++ 10 ∷ [] ≡ with_ends spell lines → SoFar spell text lines rest

-- where something is left, each line had its end
pub so_far_whole : {X : Type 0} (spell : X → List ℕ) (text : List ℕ) (lines : List X) (rest : List ℕ) → SoFar spell text lines rest → 0 < length rest → text ≡ with_ends spell lines ++ rest
so_far_whole spell text lines rest h1 h2 = grind (arith, common_steps, nat_tests)

-- one line more
pub so_far_more : {X : Type 0} (spell : X → List ℕ) (text : List ℕ) (lines : List X) (rest front : List ℕ) (behind : Option (List ℕ)) (line : X) → text ≡ with_ends spell lines ++ rest
    → IsJoined 10 rest front behind → front ≡ spell line → SoFar spell text (lines ++ line ∷ []) (unwrap_or behind [])
so_far_more spell text lines rest front behind line h1 h2 h3 = grind (arith, common_steps, nat_tests)

eqb_is_false : (a b : ℕ) → a ≢ b → eqb a b ≡ false
eqb_is_false a b other = elim (eqb_tells a b) [ inl both ↦ absurd (other both.1) | inr both ↦ both.0 ]

-- what was cut off is the first line
front_is : (front : List ℕ) (rest : List ℕ) → Lacks 10 front → before_first (λ byte. eqb byte 10) (front ++ 10 ∷ rest) ≡ front
front_is front rest lacks =
    let place : position_or_len (λ byte. eqb byte 10) (front ++ 10 ∷ rest) ≡ length front =
    position_or_len_is (λ byte. eqb byte 10) (front ++ 10 ∷ rest) (length front) 0 (omega (arith, length-append front (10 ∷ rest)))
    (λ k within. ap (λ byte. eqb byte 10) (get_or_append_left front (10 ∷ rest) 0 k within) ∙ eqb_is_false (get_or front k 0) 10 (lacks k 0 within))
    (λ within. let none : length front - length front ≡ 0 = omega arith in
    ap (λ byte. eqb byte 10) (get_or-append_right front (10 ∷ rest) (length front) (length front) 0 refl (omega arith) ∙ ap (λ n. get_or (10 ∷ rest) n 0) none)) in
    ap (λ n. take n (front ++ 10 ∷ rest)) place ∙ take-append_seam front (10 ∷ rest)

whole_is : (front : List ℕ) → Lacks 10 front → before_first (λ byte. eqb byte 10) front ≡ front
whole_is front lacks =
    let place : position_or_len (λ byte. eqb byte 10) front ≡ length front =
    position_or_len_is (λ byte. eqb byte 10) front (length front) 0 (omega arith) (λ k within. eqb_is_false (get_or front k 0) 10 (lacks k 0 within)) (λ within. absurd (omega arith)) in
    ap (λ n. take n front) place ∙ take-length front

pub first_line_is : (bytes front : List ℕ) (behind : Option (List ℕ)) → Lacks 10 front → IsJoined 10 bytes front behind → first_line bytes ≡ front
first_line_is bytes front None lacks joined = ap first_line joined ∙ whole_is front lacks
first_line_is bytes front (Some rest) lacks joined = ap first_line joined ∙ front_is front rest lacks

-- the next line is the first that is bad, where what was cut off is none or asks for too much
pub bad_line : (text : List ℕ) (lines : List Line) (rest front : List ℕ) (behind : Option (List ℕ)) (n : ℕ) → SoFar line_text text lines rest → 0 < length rest → Lacks 10 front → IsJoined 10 rest front behind → All IsAllowed lines → length lines ≤ 65536
    → all_rows_asked lines ≤ 131072 → n ≡ length lines + 1 → ((line : Line) → IsLine front line → ⊥) ⊎ (length lines ≡ 65536) ⊎ AsksTooMuch lines front → IsBadLine text n
bad_line text lines rest front behind n h1 h2 h3 h4 h5 h6 h7 h8 h9 = grind (arith, common_steps, nat_tests, so_far_whole, first_line_is)

-- a list that isn't empty has an element
pub not_empty : (n : ℕ) → eqb n 0 ≡ false → 0 < n
not_empty n h1 = grind (arith, common_steps, nat_tests)

-- less is left
pub shorter : (bytes front : List ℕ) (behind : Option (List ℕ)) → IsJoined 10 bytes front behind → 0 < length bytes → length (unwrap_or behind []) < length bytes
shorter bytes front behind h1 h2 = grind (arith, common_steps, nat_tests)
