-- Worked lines, and what is none.
use Rattle.std.proofs.Common.{◌≡◌, ◌≢◌, ℕ, ◌+◌, List, [], ◌∷◌, ◌++◌, inl, inr, length, drop, replicate, codes, decimal, refl, ap, sym, subst, arith}
use Rattle.std.specs.List.{All}
use Rattle.std.specs.Fmt.{digits}
use Rattle.std.proofs.lemmas.List.Elements.{All-from_recursion, All-replicate}
use Rattle.std.proofs.lemmas.List.Folds.{sum_by-replicate}
use Rattle.std.proofs.Math.ListN.{length-replicate}
use Rattle.blsm_model.specs.declared.op.Op.{Op}
use Rattle.blsm_model.specs.declared.op.Op.TheVariants.{Put, Del, New, Swap, Get, Hold, Next, Release, Work}
use Rattle.blsm_model.specs.declared.history.Line.{Line}
use Rattle.blsm_model.specs.Printed.{command_text}
use Rattle.script_text.specs.Grammar.{IsAllowed, IsBadLine, IsCommand, IsKey, IsLine, IsScript, IsText, IsVisible, all_rows_asked, lines_text}
use Rattle.script_text.specs.Reading.{BeginsAsNumber}
use Rattle.text_io.specs.Lines.{Lacks}
use Rattle.script_text.proofs.GrammarLaws.{line_some}
use Rattle.script_text.proofs.ReadLemmas.{decimal_begins, decimal_lacks, heads, one_cut}
use Rattle.blsm_model.specs.Scripts.{rows_of}

one_byte : (byte : ℕ) → IsVisible byte → All IsVisible (byte ∷ [])
one_byte byte visible = All-from_recursion IsVisible (byte ∷ []) (visible, tt)

key_a : IsKey (97 ∷ [])
key_a = record { some = omega arith; fits = omega arith; visible = one_byte 97 (omega arith, omega arith) }

key_b : IsKey (98 ∷ [])
key_b = record { some = omega arith; fits = omega arith; visible = one_byte 98 (omega arith, omega arith) }

no_text : IsText []
no_text = record { fits = omega arith; visible = All-from_recursion IsVisible [] tt; no_dash = λ same. cc }

get_a : Line
get_a = record { seat = 0; op = Get (97 ∷ []) }

put_a : Line
put_a = record { seat = 15; op = Put (97 ∷ []) (record { count = 5; text = [] }) }

a_get : IsLine (codes "1 get a") get_a
unfolding digits get_a
a_get = record { allowed = record { seat = omega arith; command = key_a }; spelled = refl }

a_put : IsLine (codes "16 put a 5 -") put_a
unfolding digits put_a
a_put = record { allowed = record { seat = omega arith; command = (key_a, omega arith, no_text) }; spelled = refl }

-- lines of writes that look first: a new is spelled as a put, a swap with one number more
new_a : Line
new_a = record { seat = 0; op = New (97 ∷ []) (record { count = 1; text = [] }) }

swap_a : Line
swap_a = record { seat = 2; op = Swap (97 ∷ []) 1 (record { count = 7; text = [] }) }

a_new : IsLine (codes "1 new a 1 -") new_a
unfolding digits new_a
a_new = record { allowed = record { seat = omega arith; command = (key_a, omega arith, no_text) }; spelled = refl }

a_swap : IsLine (codes "3 swap a 1 7 -") swap_a
unfolding digits swap_a
a_swap = record { allowed = record { seat = omega arith; command = (key_a, omega arith, omega arith, no_text) }; spelled = refl }

-- lines of holds: any two keys, a number of rows, and a word alone
hold_a : Line
hold_a = record { seat = 1; op = Hold (97 ∷ []) (98 ∷ []) }

next_32 : Line
next_32 = record { seat = 0; op = Next 32 }

drop_it : Line
drop_it = record { seat = 9; op = Release }

a_hold : IsLine (codes "2 hold a b") hold_a
unfolding digits hold_a
a_hold = record { allowed = record { seat = omega arith; command = (key_a, key_b) }; spelled = refl }

a_next : IsLine (codes "1 next 32") next_32
unfolding digits next_32
a_next = record { allowed = record { seat = omega arith; command = (omega arith, omega arith) }; spelled = refl }

a_drop : IsLine (codes "10 drop") drop_it
unfolding digits drop_it
a_drop = record { allowed = record { seat = omega arith; command = tt }; spelled = refl }

allowed_both : All IsAllowed (get_a ∷ put_a ∷ [])
allowed_both = All-from_recursion IsAllowed (get_a ∷ put_a ∷ []) (a_get.allowed, (a_put.allowed, tt))

-- the end of the last line may lack
ended : IsScript (codes "1 get a" ++ 10 ∷ [] ++ codes "16 put a 5 -" ++ 10 ∷ []) (get_a ∷ put_a ∷ [])
unfolding digits get_a put_a
ended = record { are = record { allowed = allowed_both; few = omega arith; asked = omega arith }; spelled = inl refl }

unended : IsScript (codes "1 get a" ++ 10 ∷ [] ++ codes "16 put a 5 -") (get_a ∷ put_a ∷ [])
unfolding digits get_a put_a
unended = record { are = record { allowed = allowed_both; few = omega arith; asked = omega arith }; spelled = inr refl }

-- a key of 65 bytes, and a dash as a text
long_key : IsKey (replicate 65 97) → ⊥
long_key is_key = absurd (omega (arith, is_key.fits))

dash : IsText (45 ∷ []) → ⊥
dash is_text = is_text.no_dash refl

-- a next is for one row at least, and 32 at most
no_rows : IsCommand (Next 0) → ⊥
no_rows allowed = absurd (omega (arith, allowed.0))

more_rows : IsCommand (Next 33) → ⊥
more_rows allowed = absurd (omega (arith, allowed.1))

-- a work is for one turn at least, and 100,000 at most
no_turns : IsCommand (Work 0) → ⊥
no_turns allowed = absurd (omega (arith, allowed.0))

most_work : IsCommand (Work 100000)
most_work = (omega arith, omega arith)

more_work : IsCommand (Work 100001) → ⊥
more_work allowed = absurd (omega (arith, allowed.1))

-- no line has a number that begins with 0
one_digit : Lacks 32 (49 ∷ [])
one_digit = All-from_recursion (λ byte. byte ≢ 32) (49 ∷ []) ((λ same. absurd (omega (arith, same))), tt)

two_digits : Lacks 32 (48 ∷ 49 ∷ [])
two_digits = All-from_recursion (λ byte. byte ≢ 32) (48 ∷ 49 ∷ []) ((λ same. absurd (omega (arith, same))), ((λ same. absurd (omega (arith, same))), tt))

caller_lacks : (line : Line) → IsAllowed line → Lacks 32 (decimal (line.seat + 1))
caller_lacks line allowed = decimal_lacks 32 (line.seat + 1) (omega (arith, allowed.seat)) (omega arith)

leading_zero : (line : Line) → IsLine (codes "01 get a") line → ⊥
leading_zero line is =
    let parts = one_cut 32 (codes "01") (decimal (line.seat + 1)) (codes "get a") (command_text line.op) two_digits (caller_lacks line is.allowed) is.spelled in
    let begins : BeginsAsNumber (codes "01") = subst BeginsAsNumber (sym parts.0) (decimal_begins (line.seat + 1) (omega (arith, is.allowed.seat))) in
    absurd (omega (arith, begins.alone refl))

-- no command is called so
no_frob : (op : Op) → codes "frob a" ≡ command_text op → ⊥
no_frob (Put key value) is = absurd (omega (arith, heads is))
no_frob _ is = absurd (omega (arith, heads is))

-- nothing stands behind a drop
no_drop : (op : Op) → codes "drop a" ≡ command_text op → ⊥
no_drop Release is = absurd (omega (arith, ap length is))
no_drop (Del key) is = absurd (omega (arith, heads (ap (λ (l : List ℕ). drop 1 l) is)))
no_drop _ is = absurd (omega (arith, heads is))

none_of_first : (command : List ℕ) → ((op : Op) → command ≡ command_text op → ⊥) → (line : Line) → IsLine (codes "1" ++ 32 ∷ command) line → ⊥
none_of_first command none line is = none line.op (one_cut 32 (codes "1") (decimal (line.seat + 1)) command (command_text line.op) one_digit (caller_lacks line is.allowed) is.spelled).1

frob : (line : Line) → IsLine (codes "1 frob a") line → ⊥
frob = none_of_first (codes "frob a") no_frob

drop_a : (line : Line) → IsLine (codes "1 drop a") line → ⊥
drop_a = none_of_first (codes "drop a") no_drop

allowed_first : All IsAllowed (get_a ∷ [])
allowed_first = All-from_recursion IsAllowed (get_a ∷ []) (a_get.allowed, tt)

second_bad : IsBadLine (codes "1 get a" ++ 10 ∷ codes "1 frob a") 2
unfolding digits get_a
second_bad = record { before = get_a ∷ []; rest = codes "1 frob a"; split = refl; are = record { allowed = allowed_first; few = omega arith; asked = omega arith }; place = refl; there = omega arith; bad = inl frob }

-- an empty line is bad, and not the line behind it
nothing : (line : Line) → IsLine [] line → ⊥
nothing line is = absurd (omega (arith, line_some line is.allowed, ap (λ bytes. length bytes) is.spelled))

empty_bad : IsBadLine (codes "1 get a" ++ 10 ∷ 10 ∷ codes "1 get a") 2
unfolding digits get_a
empty_bad = record { before = get_a ∷ []; rest = 10 ∷ codes "1 get a"; split = refl; are = record { allowed = allowed_first; few = omega arith; asked = omega arith }; place = refl; there = omega arith; bad = inl nothing }

-- 4,096 nexts of 32 rows ask for as many rows as a script may, and one row more is too much
full : List Line
full = replicate 4096 next_32

full_asks : all_rows_asked full ≡ 131072
unfolding full next_32
full_asks = sum_by-replicate (λ (l : Line). rows_of l.op) 4096 next_32

full_script : IsScript (lines_text full) full
unfolding full
full_script = record { are = record { allowed = All-replicate IsAllowed 4096 next_32 a_next.allowed; few = omega (arith, length-replicate 4096 next_32); asked = omega (arith, full_asks) }; spelled = inl refl }

next_1 : Line
next_1 = record { seat = 0; op = Next 1 }

one_next : IsLine (codes "1 next 1") next_1
unfolding digits next_1
one_next = record { allowed = record { seat = omega arith; command = (omega arith, omega arith) }; spelled = refl }

past_limit : IsBadLine (lines_text full ++ codes "1 next 1") 4097
unfolding full next_1
past_limit =
    record {
      before = full;
      rest = codes "1 next 1";
      split = refl;
      are = full_script.are;
      place = omega (arith, length-replicate 4096 next_32);
      there = omega arith;
      bad = inr (inr (record { line = next_1; is = one_next; past = omega (arith, full_asks) }));
    }
