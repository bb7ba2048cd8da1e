-- A text of many pieces, one piece after another.
use Rattle.std.proofs.lemmas.Bool.Decides.{nat_tests}
use Rattle.std.proofs.Common.{◌≡◌, ℕ, ◌+◌, ◌<◌, List, [], ◌∷◌, ◌++◌, Result, length, take, drop, get_or, flat_map, sym, ◌∙◌, ap, append_assoc, add-zero, add-one, arith, drop-cons, append-nil}
use Rattle.std.proofs.lemmas.List.{take-append-drop, take_more, length-take-le}
use Rattle.std.proofs.lemmas.List.Concat.{flat_map-cons}
use Rattle.std.proofs.lemmas.Grind.{flat_map-append, common_steps}
use Rattle.blsm_model.specs.declared.history.Entry.{Entry}
use Rattle.text_io.specs.Text.{SinkState, Writes}
use Rattle.blsm_model.specs.Printed.{entry_text, entries_text}

-- a list is what stands before a place, what stands there, and the rest
pub parted : {X : Type 0} (xs : List X) (i : ℕ) (d : X) → i < length xs → xs ≡ take i xs ++ (get_or xs i d ∷ drop (i + 1) xs)
parted xs i d within = sym (take-append-drop i xs) ∙ ap (λ (l : List _). take i xs ++ l) (drop-cons xs i d within ∙ ap (λ n. get_or xs i d ∷ drop n xs) (sym (add-one i)))

-- the pieces before a place, the piece there, and the rest
pub pieces_split : {X : Type 0} (f : X → List ℕ) (xs : List X) (i : ℕ) (d : X) → i < length xs
    → flat_map f xs ≡ (flat_map f (take i xs) ++ f (get_or xs i d)) ++ flat_map f (drop (i + 1) xs)
pieces_split f xs i d within =
    ap (flat_map f) (parted xs i d within) ∙ flat_map-append f (take i xs) (get_or xs i d ∷ drop (i + 1) xs)
    ∙ ap (λ (l : List ℕ). flat_map f (take i xs) ++ l) (flat_map-cons f (get_or xs i d) (drop (i + 1) xs))
    ∙ sym (append_assoc (flat_map f (take i xs)) (f (get_or xs i d)) (flat_map f (drop (i + 1) xs)))

-- the text of entries, and of more entries behind them
entries_text-append : (place : ℕ) (es fs : List Entry) (qs rs : List ℕ) → length qs ≡ length es
    → entries_text place (es ++ fs) (qs ++ rs) ≡ entries_text place es qs ++ entries_text (place + length es) fs rs
entries_text-append place [] fs [] rs same = ap (λ n. entries_text n fs rs) (sym (add-zero place))
entries_text-append place (e ∷ es) fs (q ∷ qs) rs same =
    ap (λ (l : List ℕ). entry_text place e q ++ l) (entries_text-append (place + 1) es fs qs rs (omega arith))
    ∙ sym (append_assoc (entry_text place e q) (entries_text (place + 1) es qs) (entries_text (place + 1 + length es) fs rs))
    ∙ ap (λ n. (entry_text place e q ++ entries_text (place + 1) es qs) ++ entries_text n fs rs) (omega arith)
entries_text-append place [] fs (q ∷ qs) rs same = absurd (omega arith)
entries_text-append place (e ∷ es) fs [] rs same = absurd (omega arith)

-- with one entry between them
entries_joined : (place : ℕ) (es fs : List Entry) (qs rs : List ℕ) (e : Entry) (q n : ℕ) → length qs ≡ length es → place + length es ≡ n
    → entries_text place (es ++ e ∷ fs) (qs ++ q ∷ rs) ≡ (entries_text place es qs ++ entry_text n e q) ++ entries_text (n + 1) fs rs
entries_joined place es fs qs rs e q n h1 h2 = grind (arith, common_steps, nat_tests, entries_text-append, append_assoc)

-- a text with one entry more
pub entries_and_one : (place : ℕ) (es : List Entry) (qs : List ℕ) (e : Entry) (q n : ℕ) → length qs ≡ length es → place + length es ≡ n
    → entries_text place (es ++ e ∷ []) (qs ++ q ∷ []) ≡ entries_text place es qs ++ entry_text n e q
entries_and_one place es qs e q n same here = entries_joined place es [] qs [] e q n same here ∙ append-nil (entries_text place es qs ++ entry_text n e q)

pub as_long : (es : List Entry) (qs : List ℕ) (i : ℕ) → length qs ≡ length es → i < length es → length (take i qs) ≡ length (take i es)
as_long es qs i same within = length-take-le i qs (omega arith) ∙ sym (length-take-le i es (omega arith))

-- the entries before a place, the entry there, and the rest
pub entries_split : (place : ℕ) (es : List Entry) (qs : List ℕ) (i : ℕ) (d : Entry) (n : ℕ) → length qs ≡ length es → i < length es → place + i ≡ n
    → entries_text place es qs ≡ (entries_text place (take i es) (take i qs) ++ entry_text n (get_or es i d) (get_or qs i 0)) ++ entries_text (n + 1) (drop (i + 1) es) (drop (i + 1) qs)
entries_split place es qs i d n same within here =
    ap (λ (l : List Entry). entries_text place l qs) (parted es i d within)
    ∙ ap (λ (l : List ℕ). entries_text place (take i es ++ (get_or es i d ∷ drop (i + 1) es)) l) (parted qs i 0 (omega arith))
    ∙ entries_joined place (take i es) (drop (i + 1) es) (take i qs) (drop (i + 1) qs) (get_or es i d) (get_or qs i 0) n (as_long es qs i same within)
    (ap (λ m. place + m) (length-take-le i es (omega arith)) ∙ here)

-- one entry more
pub entries_more : (place : ℕ) (es : List Entry) (qs : List ℕ) (i : ℕ) (d : Entry) (n : ℕ) → length qs ≡ length es → i < length es → place + i ≡ n
    → entries_text place (take (i + 1) es) (take (i + 1) qs) ≡ entries_text place (take i es) (take i qs) ++ entry_text n (get_or es i d) (get_or qs i 0)
entries_more place es qs i d n same within here =
    ap (λ (l : List Entry). entries_text place l (take (i + 1) qs)) (take_more es i d within)
    ∙ ap (λ (l : List ℕ). entries_text place (take i es ++ get_or es i d ∷ []) l) (take_more qs i 0 (omega arith))
    ∙ entries_joined place (take i es) [] (take i qs) [] (get_or es i d) (get_or qs i 0) n (as_long es qs i same within)
    (ap (λ m. place + m) (length-take-le i es (omega arith)) ∙ here)
    ∙ append-nil (entries_text place (take i es) (take i qs) ++ entry_text n (get_or es i d) (get_or qs i 0))

-- a line with rows, in the pieces in which it is written
pub rows_line : {T E : Type 0} (p r f a b e : List ℕ) {result : Result T E} {old new : SinkState}
    → Writes (((p ++ r) ++ f) ++ ((a ++ b) ++ e)) result old new → Writes ((((p ++ (r ++ f)) ++ a) ++ b) ++ e) result old new
rows_line p r f a b e h1 = grind (arith, common_steps, nat_tests)
