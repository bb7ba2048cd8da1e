-- What is made from a seed is a script, and every key in it, and in a history of it, is the generator's.
use Rattle.std.proofs.lemmas.Bool.Decides.{nat_tests}
use Rattle.std.proofs.lemmas.Grind.{common_steps}
use Rattle.std.proofs.Common.{◌≡◌, ℕ, zero, suc, ◌+◌, ◌/◌, ◌%◌, ◌^◌, ◌<◌, ◌≤◌, Bool, true, false, cond, T, eqb, nat_lt, List, [], ◌∷◌, ◌++◌, length, map, filter, refl, ap, sym, subst, ◌∙◌, add-one, append_assoc, append-nil, arith}
use Rattle.std.specs.List.{All}
use Rattle.std.proofs.lemmas.List.Elements.{All-cons, All-filter, All-from_recursion, All-head, All-map, All-replicate, All-tail}
use Rattle.std.proofs.lemmas.List.Sums.{sum_by-cons}
use Rattle.std.proofs.Math.Dec.{eqb_refl}
use Rattle.std.proofs.Math.ListN.{length-replicate}
use Rattle.blsm_model.specs.Format.{overhead}
use Rattle.blsm_model.specs.Histories.{writes_of}
use Rattle.blsm_model.specs.Legal.{total_weight}
use Rattle.blsm_model.specs.Values.{weight_of}
use Rattle.blsm_model.specs.declared.op.Write.{Write}
use Rattle.blsm_model.specs.declared.op.Write.TheVariants as write
use Rattle.blsm_model.specs.declared.op.Op.{Op}
use Rattle.blsm_model.specs.declared.op.Op.TheVariants.{Put, Add, Del, Get}
use Rattle.blsm_model.specs.declared.history.Entry.{Entry}
use Rattle.blsm_model.specs.declared.history.Line.{Line}
use Rattle.blsm_model.specs.Scripts.{IsOfScript, lines_of, ops_of, rows_of}
use Rattle.script_text.specs.Grammar.{AreLines, IsAllowed, IsCommand, IsKey, IsText, IsVisible, all_rows_asked}
use Rattle.script_text.specs.Generated.{HasMadeKeys, IsMade, after_command, drawn, generated, heaviest_made, key_at, key_count, longest_made, next_state, op_from, op_of, text_at}

-- one command more
generated_more : (x m n : ℕ) → n ≡ m + 1 → generated x n ≡ record { seat = 0; op = op_from x } ∷ generated (after_command x) m
unfolding generated
generated_more x m n is = ap (generated x) (is ∙ add-one m)

generated_none : (x n : ℕ) → n ≡ 0 → generated x n ≡ []
unfolding generated
generated_none x n is = ap (generated x) is

-- what was made and what is still to be made are the whole
pub made_more : (lines whole : List Line) (line : Line) (x m n : ℕ) → n ≡ m + 1 → line ≡ record { seat = 0; op = op_from x } → lines ++ generated x n ≡ whole
    → (lines ++ line ∷ []) ++ generated (after_command x) m ≡ whole
made_more lines whole line x m n is made so_far =
    append_assoc lines (line ∷ []) (generated (after_command x) m) ∙ ap (λ (l : Line). lines ++ (l ∷ generated (after_command x) m)) made
    ∙ ap (λ (l : List Line). lines ++ l) (sym (generated_more x m n is)) ∙ so_far

pub made_all : (lines whole : List Line) (x n : ℕ) → n ≡ 0 → lines ++ generated x n ≡ whole → lines ≡ whole
made_all lines whole x n is so_far = sym (append-nil lines) ∙ ap (λ (l : List Line). lines ++ l) (sym (generated_none x n is)) ∙ so_far

length-generated : (x n : ℕ) → length (generated x n) ≡ n
unfolding generated
length-generated x zero = refl
length-generated x (suc n) = ap suc (length-generated (after_command x) n)

-- keys and texts are such as a script may have
digit_visible : (q : ℕ) → IsVisible (48 + q % 10)
digit_visible q = (omega arith, omega arith)

key_allowed : (place : ℕ) → IsKey (key_at place)
unfolding key_at
key_allowed place = record {
  some = omega arith;
  fits = omega arith;
  visible = All-from_recursion IsVisible (key_at place)
      ((omega arith, omega arith), (digit_visible (place / 10000), (digit_visible (place / 1000), (digit_visible (place / 100), (digit_visible (place / 10), (digit_visible (place / 1), tt))))));
}

text_allowed : (place size : ℕ) → 2 ≤ size → size ≤ 435 → IsText (text_at place size)
unfolding text_at
text_allowed place size some few = record {
  fits = omega (arith, length-replicate size (97 + place % 26));
  visible = All-replicate IsVisible size (97 + place % 26) (omega arith, omega arith);
  no_dash = λ same. absurd (omega (arith, length-replicate size (97 + place % 26), ap length same));
}

-- what holds of the four commands of a place holds of any that is made
op_cases : (P : Op → Type 0) (kind place count size : ℕ)
    → P (Put (key_at place) (record { count = count; text = text_at place size })) → P (Add (key_at place) count) → P (Del (key_at place)) → P (Get (key_at place))
    → P (op_of kind place count size)
unfolding op_of
op_cases P kind place count size put add del get =
    elim (nat_lt kind 60) as (λ b. P (cond b (Put (key_at place) (record { count = count; text = text_at place size })) (cond (nat_lt kind 78) (Add (key_at place) count) (cond (nat_lt kind 80) (Del (key_at place)) (Get (key_at place)))))) [
      | true ↦ put
      | false ↦
          elim (nat_lt kind 78) as (λ b. P (cond b (Add (key_at place) count) (cond (nat_lt kind 80) (Del (key_at place)) (Get (key_at place))))) [
            | true ↦ add
            | false ↦ elim (nat_lt kind 80) as (λ b. P (cond b (Del (key_at place)) (Get (key_at place)))) [ true ↦ del | false ↦ get ]
          ]
    ]

op_allowed : (kind place count size : ℕ) → count < 2 ^ 64 → 2 ≤ size → size ≤ 435 → IsCommand (op_of kind place count size)
op_allowed kind place count size small some few =
    op_cases IsCommand kind place count size (key_allowed place, small, text_allowed place size some few) (key_allowed place, small) (key_allowed place) (key_allowed place)

op_made : (kind place count size : ℕ) → place < key_count → HasMadeKeys (op_of kind place count size)
op_made kind place count size within =
    let made : IsMade (key_at place) = record { place = place; within = within; is = refl } in
    op_cases HasMadeKeys kind place count size made made made made

from_allowed : (x : ℕ) → IsCommand (op_from x)
from_allowed x = grind (arith, common_steps, nat_tests, op_allowed)

from_made : (x : ℕ) → HasMadeKeys (op_from x)
from_made x = grind (arith, common_steps, nat_tests, op_made)

all_allowed : (x n : ℕ) → All IsAllowed (generated x n)
unfolding generated
all_allowed x zero = All-from_recursion IsAllowed [] tt
all_allowed x (suc n) =
    All-cons IsAllowed (record { seat = 0; op = op_from x }) (generated (after_command x) n) (record { seat = omega arith; command = from_allowed x }) (all_allowed (after_command x) n)

op_asks_none : (kind place count size : ℕ) → rows_of (op_of kind place count size) ≡ 0
op_asks_none kind place count size = op_cases (λ op. rows_of op ≡ 0) kind place count size refl refl refl refl

from_asks_none : (x : ℕ) → rows_of (op_from x) ≡ 0
from_asks_none x = grind (arith, common_steps, nat_tests, op_asks_none)

none_asked : (x n : ℕ) → all_rows_asked (generated x n) ≡ 0
unfolding generated
none_asked x zero = refl
none_asked x (suc n) =
    omega (arith, sum_by-cons (λ (l : Line). rows_of l.op) (record { seat = 0; op = op_from x }) (generated (after_command x) n), from_asks_none x, none_asked (after_command x) n)

-- what is made is a script
pub made_lines : (x n : ℕ) → n ≤ 65536 → AreLines (generated x n)
made_lines x n few = record { allowed = all_allowed x n; few = omega (arith, length-generated x n); asked = omega (arith, none_asked x n) }

-- ---- weights

abbrev weight_of_op : Op → ℕ
weight_of_op op = total_weight (writes_of op)

weighs : (w : Write) → total_weight (w ∷ []) ≡ weight_of w
weighs w = omega (arith, sum_by-cons weight_of w [])

key_length : (place : ℕ) → length (key_at place) ≡ 6
unfolding key_at
key_length place = refl

text_length : (place size : ℕ) → length (text_at place size) ≡ size
unfolding text_at
text_length place size = length-replicate size (97 + place % 26)

put_weighs : (place count size : ℕ) → weight_of_op (Put (key_at place) (record { count = count; text = text_at place size })) ≡ overhead + 6 + size
put_weighs place count size = omega (arith, weighs (write.Put (key_at place) (record { count = count; text = text_at place size })), key_length place, text_length place size)

op_weighs : (kind place count size : ℕ) → size ≤ longest_made → weight_of_op (op_of kind place count size) ≤ heaviest_made
op_weighs kind place count size few = op_cases (λ op. weight_of_op op ≤ heaviest_made) kind place count size
    (omega (arith, put_weighs place count size, few))
    (omega (arith, weighs (write.Add (key_at place) count), key_length place))
    (omega (arith, weighs (write.Del (key_at place)), key_length place))
    (let none : weight_of_op (Get (key_at place)) ≡ 0 = refl in omega (arith, none))

from_weighs : (x : ℕ) → weight_of_op (op_from x) ≤ heaviest_made
from_weighs x =
    let first = next_state x in
    let second = next_state first in
    let third = next_state second in
    let fourth = next_state third in
    op_weighs (drawn first % 100) (drawn second % key_count) (drawn third % 1000) (160 + drawn fourth % 40) (omega arith)

-- no write that is made weighs more than the heaviest, and some may weigh as much
pub made_weights : (x n : ℕ) → All (λ (l : Line). weight_of_op l.op ≤ heaviest_made) (generated x n)
unfolding generated
made_weights x zero = All-from_recursion (λ (l : Line). weight_of_op l.op ≤ heaviest_made) [] tt
made_weights x (suc n) =
    All-cons (λ (l : Line). weight_of_op l.op ≤ heaviest_made) (record { seat = 0; op = op_from x }) (generated (after_command x) n) (from_weighs x) (made_weights (after_command x) n)

heaviest_weighs : (place count : ℕ) → weight_of_op (Put (key_at place) (record { count = count; text = text_at place longest_made })) ≡ heaviest_made
heaviest_weighs place count = put_weighs place count longest_made

-- its keys are the generator's
pub made_keys : (x n : ℕ) → All (λ (l : Line). HasMadeKeys l.op) (generated x n)
unfolding generated
made_keys x zero = All-from_recursion (λ (l : Line). HasMadeKeys l.op) [] tt
made_keys x (suc n) =
    All-cons (λ (l : Line). HasMadeKeys l.op) (record { seat = 0; op = op_from x }) (generated (after_command x) n) (from_made x) (made_keys (after_command x) n)

holds : (b : Bool) → T b → b ≡ true
holds b h1 = grind (arith, common_steps, nat_tests)

-- what holds of each caller's commands holds of each entry's
of_seats : (P : Op → Type 0) (history : List Entry) → ((seat : ℕ) → All P (ops_of seat history)) → All (λ (e : Entry). P e.op) history
of_seats P [] each = All-from_recursion (λ (e : Entry). P e.op) [] tt
of_seats P (e ∷ es) each =
    All-cons (λ (f : Entry). P f.op) e es
    (All-head P e.op (ops_of e.seat es) (subst (λ b. All P (map (λ f. f.op) (cond b (e ∷ filter (λ f. eqb f.seat e.seat) es) (filter (λ f. eqb f.seat e.seat) es)))) (holds (eqb e.seat e.seat) (eqb_refl e.seat)) (each e.seat)))
    (of_seats P es (λ seat. rest seat (eqb e.seat seat) (each seat)))
  where
    rest : (seat : ℕ) (b : Bool) → All P (map (λ (f : Entry). f.op) (cond b (e ∷ filter (λ f. eqb f.seat seat) es) (filter (λ f. eqb f.seat seat) es))) → All P (ops_of seat es)
    rest seat true all = All-tail P e.op (ops_of seat es) all
    rest seat false all = all

of_lines : (P : Op → Type 0) (script : List Line) (seat : ℕ) → All (λ (l : Line). P l.op) script → All P (lines_of seat script)
of_lines P script seat all = All-map P (λ (l : Line). l.op) (filter (λ l. eqb l.seat seat) script) (All-filter (λ (l : Line). eqb l.seat seat) (λ (l : Line). P l.op) script all)

-- what holds of a script's commands holds of those of a history of it
of_script : (P : Op → Type 0) (script : List Line) (history : List Entry) → IsOfScript script history → All (λ (l : Line). P l.op) script → All (λ (e : Entry). P e.op) history
of_script P script history is all = of_seats P history (λ seat. subst (λ (ops : List Op). All P ops) (sym (is seat)) (of_lines P script seat all))

-- the keys of a history of a script that was made are the generator's
pub history_keys : (x n : ℕ) (history : List Entry) → IsOfScript (generated x n) history → All (λ (e : Entry). HasMadeKeys e.op) history
history_keys x n history is = of_script HasMadeKeys (generated x n) history is (made_keys x n)
