-- The greatest quanta of a write, and the writes that count, one entry further on.
use Rattle.std.proofs.lemmas.Bool.Decides.{nat_tests}
use Rattle.std.proofs.lemmas.Grind.{common_steps}
use Rattle.std.proofs.Common.{◌≡◌, ℕ, ◌+◌, ◌<◌, max, List, [], ◌∷◌, ◌++◌, length, take, get_or, refl, ap, ◌∙◌, arith}
use Rattle.std.proofs.lemmas.List.{take_more}
use Rattle.blsm_model.specs.declared.history.Entry.{Entry}
use Rattle.blsm_model.specs.Book.{no_entry}
use Rattle.blsm_model.specs.Histories.{counted, counted_writes}
use Rattle.blsm_model.proofs.HistoryLemmas.{counted_writes_push}
use Rattle.script_text.proofs.PrintLemmas.{as_long}
use Rattle.script_text.specs.Summary.{made_bound, most_quanta, quanta_of_write}

-- the bound that a summary prints
pub bound_of_made : made_bound ≡ 3
bound_of_made = refl

max_none : (a : ℕ) → max a 0 ≡ max 0 a
max_none a = omega arith

max_after : (a b c : ℕ) → max a (max b c) ≡ max (max a b) c
max_after a b c = omega arith

most_push : (es : List Entry) (qs : List ℕ) (e : Entry) (q : ℕ) → length qs ≡ length es → most_quanta (es ++ e ∷ []) (qs ++ q ∷ []) ≡ max (most_quanta es qs) (quanta_of_write e q)
most_push [] [] e q same = max_none (quanta_of_write e q)
most_push (x ∷ es) (n ∷ qs) e q same =
    ap (λ m. max (quanta_of_write x n) m) (most_push es qs e q (omega arith)) ∙ max_after (quanta_of_write x n) (most_quanta es qs) (quanta_of_write e q)
most_push [] (n ∷ qs) e q same = absurd (omega arith)
most_push (x ∷ es) [] e q same = absurd (omega arith)

pub most_more : (es : List Entry) (qs : List ℕ) (i : ℕ) → length qs ≡ length es → i < length es
    → most_quanta (take (i + 1) es) (take (i + 1) qs) ≡ max (most_quanta (take i es) (take i qs)) (quanta_of_write (get_or es i no_entry) (get_or qs i 0))
most_more es qs i h1 h2 = grind (arith, common_steps, nat_tests, take_more, get_or, most_push, as_long)

-- the writes that count
pub counted_more : (es : List Entry) (i : ℕ) → i < length es → counted_writes (take (i + 1) es) ≡ counted_writes (take i es) ++ counted (get_or es i no_entry)
counted_more es i within = ap counted_writes (take_more es i no_entry within) ∙ counted_writes_push (take i es) (get_or es i no_entry)
