-- A text has one reading: it is ships, or one line of it is the first that is bad, and not both. What was printed is read as itself.
use Rattle.std.proofs.lemmas.Bool.Decides.{nat_tests}
use Rattle.std.proofs.lemmas.Grind.{common_steps, flat_map-append}
use Rattle.std.proofs.Common.{◌≡◌, ◌≢◌, ℕ, ◌+◌, ◌^◌, ◌<◌, ◌≤◌, ◌⊎◌, inl, inr, true, List, [], ◌∷◌, ◌++◌, Option, Some, None, Result, Ok, Err, length, drop, decimal, codes, sym, ◌∙◌, ap, refl, arith, length-append}
use Rattle.std.specs.List.{All}
use Rattle.std.specs.Option.{option_copied}
use Rattle.std.specs.Borrow.{Bor}
use Rattle.std.proofs.lemmas.List.Elements.{All-append, All-cons, All-from_recursion, All-head, All-tail}
use Rattle.std.proofs.lemmas.Fmt.{decimal_injective}
use Rattle.blsm_model.specs.declared.history.Entry.{Entry}
use Rattle.blsm_model.specs.declared.op.Op.{Op}
use Rattle.blsm_model.specs.declared.op.Op.TheVariants.{Put, Add, Tail, Del, New, Swap}
use Rattle.blsm_model.specs.Legal.{is_write}
use Rattle.blsm_model.specs.Printed.{and_number, and_word, command_text}
use Rattle.script_text.specs.Grammar.{IsCommand}
use Rattle.script_text.specs.Reading.{IsJoined}
use Rattle.script_text.proofs.GrammarLaws.{command_lacks, number_lacks, one_command}
use Rattle.script_text.proofs.LineLaws.{AreSpelled, GoesOn, fronts, level, longer, one_reading, shorter, text_goes_on}
use Rattle.script_text.proofs.ReadLemmas.{cut_is, decimal_lacks, no_rest, one_cut}
use Rattle.script_text.proofs.ScriptLemmas.{SoFar, first_line_is, so_far_whole}
use Rattle.text_io.specs.Lines.{Lacks}
use Rattle.ship_text.specs.declared.reading.Ship.{Ship}
use Rattle.ship_text.specs.declared.reading.ShipFault.{ShipFault}
use Rattle.ship_text.specs.declared.reading.ShipFault.TheVariants.{Bad, NoMemory}
use Rattle.ship_text.specs.Ships.{most_first, printed_ships, ship_line, shipped, ships_in, ships_of, ships_text}
use Rattle.ship_text.specs.Reading.{AreOnlyShips, AreShips, AreShipsOf, IfBad, IsBadShip, IsLoad, IsOnlyBadShip, IsShip, IsShipLine, ship_lines, ships_told, told_of}
use Rattle.ship_text.proofs.ShipLemmas.{few_among, ships_among, ships_there}

-- ---- a spelling has one ship

ship_small : (x : Ship) → IsShip x → x.n < 2 ^ 64
ship_small x is = omega (arith, is.number.1)

one_ship : (x y : Ship) → IsShip x → IsShip y → ship_line x ≡ ship_line y → x ≡ y
one_ship x y is_x is_y same =
    let both = one_cut 32 (decimal x.n) (decimal y.n) (command_text x.op) (command_text y.op) (decimal_lacks 32 x.n (ship_small x is_x) (omega arith))
    (decimal_lacks 32 y.n (ship_small y is_y) (omega arith)) (ap (λ (l : List ℕ). drop 5 l) same) in
    let number : x.n ≡ y.n = decimal_injective x.n y.n (ship_small x is_x) (ship_small y is_y) both.0 in
    let write : x.op ≡ y.op = one_command x.op y.op is_x.load.command is_y.load.command both.1 in
    λ i. record { n = number i; op = write i }

word_lacks : (mark : ℕ) → mark < 48 → Lacks mark (codes "ship")
word_lacks mark low =
    All-from_recursion (λ byte. byte ≢ mark) (codes "ship")
    (λ same. absurd (omega (arith, same)), (λ same. absurd (omega (arith, same)), (λ same. absurd (omega (arith, same)), (λ same. absurd (omega (arith, same)), tt))))

line_lacks : (x : Ship) → IsShip x → Lacks 10 (ship_line x)
line_lacks x is =
    All-append (λ byte. byte ≢ 10) (codes "ship" ++ and_number x.n) (and_word (command_text x.op))
    (All-append (λ byte. byte ≢ 10) (codes "ship") (and_number x.n) (word_lacks 10 (omega arith)) (number_lacks x.n (ship_small x is)))
    (All-cons (λ byte. byte ≢ 10) 32 (command_text x.op) (λ same. absurd (omega arith)) (command_lacks x.op is.load.command))

ships_are : AreSpelled ship_line IsShip
ships_are = record { one = one_ship; lacks = line_lacks; some = λ x is. omega arith }

-- what stands before the first space of a ship is its word
pub word_is : (bytes front : List ℕ) (rest : Option (Bor (List ℕ))) (x : Ship) → Lacks 32 front → IsJoined 32 bytes front (option_copied rest) → IsShipLine bytes x → front ≡ codes "ship"
word_is bytes front rest x lacks joined is = by rest lacks joined refl
  where
    by : (found : Option (Bor (List ℕ))) → Lacks 32 front → IsJoined 32 bytes front (option_copied found) → found ≡ found → front ≡ codes "ship"
    by None l j e = absurd (no_rest 32 bytes front None l j refl (codes "ship") (decimal x.n ++ and_word (command_text x.op)) is.spelled)
    by (Some r) l j e = (cut_is 32 bytes front (Some r) r l j refl (codes "ship") (decimal x.n ++ and_word (command_text x.op)) (word_lacks 32 (omega arith)) is.spelled).0

-- ---- the first bad line

-- the next line is the first that is bad, where what was cut off is none, or there are too many
pub bad_ship : (text : List ℕ) (ships : List Ship) (rest front : List ℕ) (behind : Option (List ℕ)) (n : ℕ) → SoFar ship_line text ships rest → 0 < length rest → Lacks 10 front
    → IsJoined 10 rest front behind → AreShips ships → n ≡ length ships + 1 → ((ship : Ship) → IsShipLine front ship → ⊥) ⊎ (length ships ≡ 65536) → IsBadShip text n
bad_ship text ships rest front behind n h1 h2 h3 h4 h5 h6 h7 = grind (arith, common_steps, nat_tests, so_far_whole, first_line_is)

no_more : (bytes : List ℕ) (n : ℕ) (bad : IsBadShip bytes n) (whole : List Ship) → AreShips whole → GoesOn ship_line IsShip bad.before whole bad.rest → ⊥
no_more bytes n bad whole are on =
    elim bad.bad [
      | inl none ↦ none on.next (record { is = on.is; spelled = on.first })
      | inr full ↦ omega (arith, full, are.few, ap length on.more, length-append bad.before (on.next ∷ on.others))
    ]

none_bad : (bytes : List ℕ) (x : List Ship) (n : ℕ) → AreShipsOf bytes x → IsBadShip bytes n → ⊥
none_bad bytes x n is_x bad =
    no_more bytes n bad x is_x.are (text_goes_on ship_line IsShip ships_are bytes bad.rest bad.before x bad.are.each is_x.are.each is_x.spelled bad.split bad.there)

one_bad : (bytes : List ℕ) (m n : ℕ) → IsBadShip bytes m → IsBadShip bytes n → m ≡ n
one_bad bytes m n bad_m bad_n =
    elim (fronts ship_line IsShip ships_are bad_m.before bad_n.before bad_m.rest bad_n.rest bad_m.are.each bad_n.are.each (sym bad_m.split ∙ bad_n.split)) [
      | level both ↦ omega (arith, bad_m.place, bad_n.place, ap length both)
      | longer on ↦ absurd (no_more bytes m bad_m bad_n.before bad_n.are on)
      | shorter on ↦ absurd (no_more bytes n bad_n bad_m.before bad_m.are on)
    ]

pub only_ships : (bytes : List ℕ) (ships : List Ship) → AreShipsOf bytes ships → AreOnlyShips bytes ships
only_ships bytes ships is = record {
  only = λ other is_other. one_reading ship_line IsShip ships_are bytes other ships is_other.are.each is.are.each is_other.spelled is.spelled;
  none_bad = λ n bad. none_bad bytes ships n is bad;
}

pub only_bad : {T : Type 0} (bytes : List ℕ) (result : Result T ShipFault) → IfBad result (IsBadShip bytes) → IfBad result (IsOnlyBadShip bytes)
only_bad bytes (Err (Bad n)) bad = record { only = λ other is. one_bad bytes other n is bad; no_ships = λ ships is. none_bad bytes ships n is bad }
only_bad bytes (Err NoMemory) bad = tt
only_bad bytes (Ok value) bad = tt

-- ---- what was printed

-- a write that was done is told as one that asks nothing first
load_is : (op : Op) → IsCommand op → is_write op ≡ true → IsLoad (shipped op)
load_is (Put key value) (is_key, small, is_text) write = record { plain = refl; command = (is_key, small, is_text); light = omega (arith, is_key.fits, is_text.fits) }
load_is (Add key count) (is_key, small) write = record { plain = refl; command = (is_key, small); light = omega (arith, is_key.fits) }
load_is (Tail key tail) (is_key, is_tail) write = record { plain = refl; command = (is_key, is_tail); light = omega (arith, is_key.fits, is_tail.fits) }
load_is (Del key) is_key write = record { plain = refl; command = is_key; light = omega (arith, is_key.fits) }
load_is (New key value) (is_key, small, is_text) write = record { plain = refl; command = (is_key, small, is_text); light = omega (arith, is_key.fits, is_text.fits) }
load_is (Swap key count value) (is_key, little, small, is_text) write = record { plain = refl; command = (is_key, small, is_text); light = omega (arith, is_key.fits, is_text.fits) }
load_is _ allowed write = cc

told_text : (number : ℕ) (e : Entry) → ship_lines (told_of number e) ≡ ships_of number e
told_text number e = grind (arith, common_steps, nat_tests)

told_is : (number : ℕ) (e : Entry) → IsCommand e.op → 1 ≤ number → number ≤ 18446744073709551614 → All IsShip (told_of number e)
told_is number e allowed some few = grind (arith, common_steps, nat_tests, load_is)

ships_spell : (number : ℕ) (es : List Entry) → ships_text number es ≡ ship_lines (ships_told number es)
ships_spell number [] = refl
ships_spell number (e ∷ es) = grind (arith, common_steps, nat_tests, told_text, ships_spell (number + ships_in e) es, flat_map-append)

told_few : (number : ℕ) (es : List Entry) → length (ships_told number es) ≡ ships_among es
told_few number [] = refl
told_few number (e ∷ es) = grind (arith, common_steps, nat_tests, told_few (number + ships_in e) es, length-append)

told_are : (number : ℕ) (es : List Entry) → 1 ≤ number → number + length es ≤ 18446744073709551614 → All (λ e. IsCommand e.op) es → All IsShip (ships_told number es)
told_are number [] some few allowed = All-from_recursion IsShip [] tt
told_are number (e ∷ es) some few allowed =
    All-append IsShip (told_of number e) (ships_told (number + ships_in e) es) (told_is number e (All-head (λ e. IsCommand e.op) e es allowed) some (omega arith))
    (told_are (number + ships_in e) es (omega arith) (omega (arith, few_among (e ∷ []))) (All-tail (λ e. IsCommand e.op) e es allowed))

pub read_as_printed : (first : ℕ) (es : List Entry) → 1 ≤ first → first ≤ most_first → length es ≤ 65536 → All (λ e. IsCommand e.op) es
    → AreShipsOf (printed_ships first es) (ships_told first es)
read_as_printed first es some few short allowed = record {
  are = record { each = told_are first es some (omega arith) allowed; few = omega (arith, told_few first es, few_among es) };
  spelled = inl (ships_there first es (λ none. absurd (omega (arith, none))) ∙ ships_spell first es);
}
