-- The ships of a history, entry by entry.
use Rattle.std.proofs.lemmas.Bool.Decides.{nat_tests}
use Rattle.std.proofs.lemmas.Grind.{common_steps}
use Rattle.std.proofs.Common.{◌≡◌, ℕ, ◌+◌, ◌<◌, ◌≤◌, List, [], ◌∷◌, ◌++◌, Ok, length, take, drop, get_or, sym, ◌∙◌, ap, append_assoc, append-nil, arith}
use Rattle.std.proofs.lemmas.List.{take_more}
use Rattle.blsm_model.specs.declared.history.Entry.{Entry}
use Rattle.blsm_model.specs.Book.{no_entry}
use Rattle.script_text.proofs.PrintLemmas.{parted}
use Rattle.text_io.specs.Text.{SinkState, Writes}
use Rattle.ship_text.specs.Ships.{ships_in, ships_of, ships_text, printed_ships}

-- how many ships entries have
abbrev pub ships_among : List Entry → ℕ
ships_among [] = 0
ships_among (e ∷ es) = ships_in e + ships_among es

-- the ships of entries, and of more entries behind them
ships_append : (number : ℕ) (es fs : List Entry) → ships_text number (es ++ fs) ≡ ships_text number es ++ ships_text (number + ships_among es) fs
ships_append number [] fs = grind (arith, common_steps, nat_tests)
ships_append number (e ∷ es) fs =
    ap (λ (l : List ℕ). ships_of number e ++ l) (ships_append (number + ships_in e) es fs)
    ∙ sym (append_assoc (ships_of number e) (ships_text (number + ships_in e) es) (ships_text (number + ships_in e + ships_among es) fs))
    ∙ ap (λ n. (ships_of number e ++ ships_text (number + ships_in e) es) ++ ships_text n fs) (omega arith)

among_append : (es fs : List Entry) → ships_among (es ++ fs) ≡ ships_among es + ships_among fs
among_append [] fs = omega arith
among_append (e ∷ es) fs = omega (arith, among_append es fs)

-- one entry more
pub ships_more : (number : ℕ) (es : List Entry) (i : ℕ) → i < length es
    → ships_text number (take (i + 1) es) ≡ ships_text number (take i es) ++ ships_of (number + ships_among (take i es)) (get_or es i no_entry)
ships_more number es i within =
    ap (ships_text number) (take_more es i no_entry within) ∙ ships_append number (take i es) (get_or es i no_entry ∷ [])
    ∙ ap (λ (l : List ℕ). ships_text number (take i es) ++ l) (append-nil (ships_of (number + ships_among (take i es)) (get_or es i no_entry)))

pub among_more : (es : List Entry) (i : ℕ) → i < length es → ships_among (take (i + 1) es) ≡ ships_among (take i es) + ships_in (get_or es i no_entry)
among_more es i within = ap ships_among (take_more es i no_entry within) ∙ among_append (take i es) (get_or es i no_entry ∷ []) ∙ omega arith

-- the ships before a place, the one there, and the rest
pub ships_split : (number : ℕ) (es : List Entry) (i : ℕ) → i < length es
    → ships_text number es
    ≡ (ships_text number (take i es) ++ ships_of (number + ships_among (take i es)) (get_or es i no_entry))
    ++ ships_text (number + ships_among (take i es) + ships_in (get_or es i no_entry)) (drop (i + 1) es)
ships_split number es i within =
    ap (ships_text number) (parted es i no_entry within) ∙ ships_append number (take i es) (get_or es i no_entry ∷ drop (i + 1) es)
    ∙ sym (append_assoc (ships_text number (take i es)) (ships_of (number + ships_among (take i es)) (get_or es i no_entry)) _)

one_at_most : (e : Entry) → ships_in e ≤ 1
one_at_most e = grind (arith, common_steps, nat_tests)

-- an entry has one ship at most
pub few_among : (es : List Entry) → ships_among es ≤ length es
few_among [] = omega arith
few_among (e ∷ es) = omega (arith, one_at_most e, few_among es)

-- with a number there are ships
pub ships_there : (first : ℕ) (entries : List Entry) → (first ≡ 0 → ⊥) → printed_ships first entries ≡ ships_text first entries
ships_there first entries some = grind (arith, common_steps, nat_tests)

-- what was written doesn't hang on the value that a call answers
pub written_with : {S T E : Type 0} (text : List ℕ) (value : S) (other : T) (old new : SinkState)
    → Writes {T = S} {E = E} text (Ok value) old new → Writes {T = T} {E = E} text (Ok other) old new
written_with text value other old new writes = grind (arith, common_steps, nat_tests)
