-- A text is cut in one way, and its parts are spelled in one way.
use Rattle.std.proofs.lemmas.Bool.Decides.{nat_tests}
use Rattle.std.proofs.lemmas.Grind.{common_steps}
use Rattle.std.proofs.Common.{◌≡◌, ◌≢◌, ℕ, ◌+◌, ◌^◌, ◌<◌, ◌≤◌, List, [], ◌∷◌, ◌++◌, length, drop, get_or, Option, Some, None, Result, Ok, Err, codes, decimal, sym, ◌∙◌, ap, subst, refl, arith}
use Rattle.std.specs.Prelude.{MatchOption}
use Rattle.std.specs.List.{All}
use Rattle.std.specs.Option.{option_copied}
use Rattle.std.specs.Result.{result_ok}
use Rattle.std.specs.Str.{IsUtf8}
use Rattle.std.specs.Str.Parse.{AllDigits, digits_value, ParsesUnsigned}
use Rattle.std.specs.Int.{IsInRange}
use Rattle.std.proofs.lemmas.List.Elements.{All-head, All-tail, All-from_recursion, All-from_get_or, All-weaker}
use Rattle.std.proofs.lemmas.Str.{IsUtf8-from_ascii}
use Rattle.std.proofs.lemmas.Str.Parse.{IsNumeralModel, numerals_by_value, tells_digits, parse_plain, digit_at}
use Rattle.std.proofs.lemmas.Fmt.{IsAscii-decimal, decimal_nonempty, decimal_digit, first_decimal, decimal_injective, digits_decimal, digits_value-decimal, decimal-digits_value}
use Rattle.std.specs.Borrow.{Bor}
use Rattle.blsm_model.specs.declared.row.Value.{Value}
use Rattle.blsm_model.specs.declared.op.Op.{Op}
use Rattle.blsm_model.specs.declared.op.Op.TheVariants.{Put, Add, Tail, Del, New, Swap, Get, Hold, Next, Release, Work}
use Rattle.blsm_model.specs.Printed.{command_text, and_value, and_number, and_word}
use Rattle.script_text.specs.declared.line.Verb.{Verb}
use Rattle.script_text.specs.declared.line.Verb.TheVariants as verb
use Rattle.blsm_model.specs.Format.{callers}
use Rattle.script_text.specs.Grammar.{IsVisible, IsCommand, IsKey, IsTail, IsText}
use Rattle.script_text.specs.Reading.{Reads, IsJoined, BeginsAsNumber, Spells, SpellsArguments, verb_text}
use Rattle.text_io.specs.Lines.{Lacks}

-- an answer of none
pub reads_nothing : {X : Type 0} {P : X → Type 0} {result : Option X} → result ≡ None → ((x : X) → P x → ⊥) → MatchOption result ((x : X) → P x → ⊥) (λ x. P x)
reads_nothing h1 h2 = grind (arith, common_steps, nat_tests)

-- a list is cut at the first mark in one way
pub one_cut : (mark : ℕ) (w f r s : List ℕ) → Lacks mark w → Lacks mark f → w ++ mark ∷ r ≡ f ++ mark ∷ s → (w ≡ f) × (r ≡ s)
one_cut mark [] [] r s lacks_w lacks_f same = (refl, cc)
one_cut mark [] (b ∷ f) r s lacks_w lacks_f same = absurd (All-head (λ byte. byte ≢ mark) b f lacks_f cc)
one_cut mark (a ∷ w) [] r s lacks_w lacks_f same = absurd (All-head (λ byte. byte ≢ mark) a w lacks_w cc)
one_cut mark (a ∷ w) (b ∷ f) r s lacks_w lacks_f same =
    let rest : w ++ mark ∷ r ≡ f ++ mark ∷ s = cc in
    let both = one_cut mark w f r s (All-tail (λ byte. byte ≢ mark) a w lacks_w) (All-tail (λ byte. byte ≢ mark) b f lacks_f) rest in
    let heads : a ≡ b = cc in
    let tails = both.0 in
    (cc, both.1)

-- a list with a mark doesn't lack it
pub no_cut : (mark : ℕ) (w f r : List ℕ) → Lacks mark f → w ++ mark ∷ r ≡ f → ⊥
no_cut mark [] [] r lacks same = cc
no_cut mark [] (b ∷ f) r lacks same = All-head (λ byte. byte ≢ mark) b f lacks cc
no_cut mark (a ∷ w) [] r lacks same = cc
no_cut mark (a ∷ w) (b ∷ f) r lacks same = no_cut mark w f r (All-tail (λ byte. byte ≢ mark) b f lacks) cc

-- where no mark was found, the bytes are no word with a mark behind it
pub no_rest : (mark : ℕ) (bytes front : List ℕ) (rest : Option (Bor (List ℕ))) → Lacks mark front → IsJoined mark bytes front (option_copied rest) → rest ≡ None → (w r : List ℕ) → bytes ≡ w ++ mark ∷ r → ⊥
no_rest mark bytes front None lacks joined is w r same = no_cut mark w front r lacks (sym same ∙ joined)
no_rest mark bytes front (Some x) lacks joined is w r same = cc

-- and where one was found, the word is what stood before it
pub cut_is : (mark : ℕ) (bytes front : List ℕ) (rest : Option (Bor (List ℕ))) (x : Bor (List ℕ)) → Lacks mark front → IsJoined mark bytes front (option_copied rest) → rest ≡ Some x → (w r : List ℕ) → Lacks mark w → bytes ≡ w ++ mark ∷ r
    → (front ≡ w) × (x.now ≡ r)
cut_is mark bytes front rest x h1 h2 h3 w r h4 h5 = grind (arith, common_steps, nat_tests, one_cut)

own : IsNumeralModel (AllDigits 10) (digits_value 10)
own = numerals_by_value (AllDigits 10) tells_digits

-- a number in digits has no space, and no end of a line
pub decimal_lacks : (mark n : ℕ) → n < 2 ^ 64 → mark < 48 → Lacks mark (decimal n)
decimal_lacks mark n small low =
    All-from_get_or (λ byte. byte ≢ mark) (decimal n) 0 (λ i within. let digit : IsInRange 48 57 (get_or (decimal n) i 0) = digit_at (decimal n) i (digits_decimal own n small) within in λ same. absurd (omega (arith, digit.0)))

-- a word has no space, and no end of a line
pub visible_lacks : (mark : ℕ) (word : List ℕ) → mark < 33 → All IsVisible word → Lacks mark word
visible_lacks mark word low visible = All-weaker IsVisible (λ byte. byte ≢ mark) (λ byte (v : IsVisible byte). λ same. absurd (omega (arith, v.0))) word visible

decimal_alone : (n : ℕ) → n < 2 ^ 64 → get_or (decimal n) 0 0 ≡ 48 → length (decimal n) ≡ 1
decimal_alone n h1 h2 = grind (arith, common_steps, nat_tests, decimal_digit, first_decimal)

-- a number in digits begins as one
pub decimal_begins : (n : ℕ) → n < 2 ^ 64 → BeginsAsNumber (decimal n)
decimal_begins n h1 = grind (arith, common_steps, nat_tests, decimal_nonempty, get_or, decimal, digit_at, digits_decimal, own, decimal_alone)

-- what `parse` reads, where the first byte is right
pub number_read : {E : Type 0} (bytes : List ℕ) (r : Result ℕ E) → BeginsAsNumber bytes → ParsesUnsigned 64 10 bytes r → Reads (Spells decimal (λ n. n < 2 ^ 64)) bytes (result_ok r)
number_read {E = E} bytes (Ok n) begins parses =
    let read = parse_plain own {E = E} 64 bytes (Ok n) parses (λ (sign : get_or bytes 0 0 ≡ 43). absurd (omega (arith, begins.digit.0))) in
    (sym (decimal-digits_value own bytes read.0.0 begins.some begins.alone read.0.2) ∙ ap decimal (sym read.1), subst (λ (m : ℕ). m < 2 ^ 64) (sym read.1) read.0.2)
number_read {E = E} bytes (Err e) begins parses =
    let read = parse_plain own {E = E} 64 bytes (Err e) parses (λ (sign : get_or bytes 0 0 ≡ 43). absurd (omega (arith, begins.digit.0))) in
    λ n (spelled, small). read (subst (λ (b : List ℕ). AllDigits 10 b × (0 < length b) × (digits_value 10 b < 2 ^ 64)) (sym spelled)
    (digits_decimal own n small, decimal_nonempty n small, subst (λ (m : ℕ). m < 2 ^ 64) (sym (digits_value-decimal own n small)) small))

pub number_is_text : (n : ℕ) (bytes : List ℕ) → (bytes ≡ decimal n) × (n < 2 ^ 64) → IsUtf8 bytes
number_is_text n bytes (spelled, small) = subst (λ (b : List ℕ). IsUtf8 b) (sym spelled) (IsUtf8-from_ascii (decimal n) (IsAscii-decimal n small))

-- no number but the caller's own is its seat's
pub seat_is : (n seat : ℕ) (bytes : List ℕ) → (bytes ≡ decimal n) × (n < 2 ^ 64) → (bytes ≡ decimal (seat + 1)) × (seat < callers) → n ≡ seat + 1
seat_is n seat bytes (spelled, small) (of_seat, within) = decimal_injective n (seat + 1) small (omega arith) (sym spelled ∙ of_seat)

-- no number but this one is read as a count
pub count_is : (most m n : ℕ) (bytes : List ℕ) → most < 2 ^ 64 → (bytes ≡ decimal m) × (m < 2 ^ 64) → (bytes ≡ decimal n) × ((1 ≤ n) × (n ≤ most)) → m ≡ n
count_is most m n bytes little (spelled, small) (of_count, (some, few)) = decimal_injective m n small (omega arith) (sym spelled ∙ of_count)

pub heads : {x y : ℕ} {xs ys : List ℕ} → x ∷ xs ≡ y ∷ ys → x ≡ y
heads same = cc

-- what isn't a key and a value is no put's arguments
pub no_put : (bytes : List ℕ) → ((x : List ℕ × Value) → (bytes ≡ x.0 ++ and_value x.1) × (IsKey x.0 × (x.1.count < 2 ^ 64) × IsText x.1.text) → ⊥) → (op : Op) → SpellsArguments verb.Put bytes op → ⊥
no_put bytes none (Put key value) (is, (is_key, small, is_text)) = none (key, value) (sym (ap (λ (l : List ℕ). drop 4 l) is), (is_key, small, is_text))
no_put bytes none _ (is, allowed) = absurd (omega (arith, heads is))

-- what isn't a key and a number is no add's arguments
pub no_add : (bytes : List ℕ) → ((x : List ℕ × ℕ) → (bytes ≡ x.0 ++ and_number x.1) × (IsKey x.0 × (x.1 < 2 ^ 64)) → ⊥) → (op : Op) → SpellsArguments verb.Add bytes op → ⊥
no_add bytes none (Add key count) (is, (is_key, small)) = none (key, count) (sym (ap (λ (l : List ℕ). drop 4 l) is), (is_key, small))
no_add bytes none _ (is, allowed) = absurd (omega (arith, heads is))

-- what isn't a key and a tail is no tail's arguments
pub no_tail : (bytes : List ℕ) → ((x : List ℕ × List ℕ) → (bytes ≡ x.0 ++ and_word x.1) × (IsKey x.0 × IsTail x.1) → ⊥) → (op : Op) → SpellsArguments verb.Tail bytes op → ⊥
no_tail bytes none (Tail key tail) (is, (is_key, is_tail)) = none (key, tail) (sym (ap (λ (l : List ℕ). drop 5 l) is), (is_key, is_tail))
no_tail bytes none _ (is, allowed) = absurd (omega (arith, heads is))

-- what isn't a key and a value is no new's arguments either
pub no_new : (bytes : List ℕ) → ((x : List ℕ × Value) → (bytes ≡ x.0 ++ and_value x.1) × (IsKey x.0 × (x.1.count < 2 ^ 64) × IsText x.1.text) → ⊥) →
    (op : Op)
    → SpellsArguments verb.New bytes op → ⊥
no_new bytes none (New key value) (is, (is_key, small, is_text)) = none (key, value)
    (sym (ap (λ (l : List ℕ). drop 4 l) is), (is_key, small, is_text))
no_new bytes none (Next n) (is, allowed) = absurd (omega (arith, heads (ap (λ (l : List ℕ). drop 2 l) is)))
no_new bytes none _ (is, allowed) = absurd (omega (arith, heads is))

-- what isn't a key, a number and a value is no swap's arguments
pub no_swap : (bytes : List ℕ)
    → ((x : List ℕ × ℕ × Value) → (bytes ≡ x.0 ++ and_number x.1 ++ and_value x.2) ×
    (IsKey x.0 × (x.1 < 2 ^ 64) × (x.2.count < 2 ^ 64) × IsText x.2.text) → ⊥)
    → (op : Op) → SpellsArguments verb.Swap bytes op → ⊥
no_swap bytes none (Swap key count value) (is, allowed) = none (key, count, value) (sym (ap (λ (l : List ℕ). drop 5 l) is), allowed)
no_swap bytes none _ (is, allowed) = absurd (omega (arith, heads is))

-- what isn't two keys is no hold's arguments
pub no_hold : (bytes : List ℕ) → ((x : List ℕ × List ℕ) → (bytes ≡ x.0 ++ and_word x.1) × (IsKey x.0 × IsKey x.1) → ⊥) → (op : Op) → SpellsArguments verb.Hold bytes op → ⊥
no_hold bytes none (Hold low high) (is, (is_low, is_high)) = none (low, high) (sym (ap (λ (l : List ℕ). drop 5 l) is), (is_low, is_high))
no_hold bytes none _ (is, allowed) = absurd (omega (arith, heads is))

-- what isn't a number of rows is no next's argument
pub no_next : (bytes : List ℕ) → ((n : ℕ) → (bytes ≡ decimal n) × ((1 ≤ n) × (n ≤ 32)) → ⊥) → (op : Op) → SpellsArguments verb.Next bytes op → ⊥
no_next bytes h1 op h2 = grind (arith, common_steps, nat_tests)

-- what isn't a number of turns is no work's argument
pub no_work : (bytes : List ℕ) → ((n : ℕ) → (bytes ≡ decimal n) × ((1 ≤ n) × (n ≤ 100000)) → ⊥) → (op : Op) → SpellsArguments verb.Work bytes op → ⊥
no_work bytes h1 op h2 = grind (arith, common_steps, nat_tests)

-- a command has a first word and something behind a space, or is a word alone
pub data Form (op : Op) : Type 0 where
  worded : (v : Verb) (rest : List ℕ) → command_text op ≡ verb_text v ++ 32 ∷ rest → Form op
  bare : op ≡ Release → Form op

pub form_of : (op : Op) → Form op
form_of (Put key value) = worded verb.Put (key ++ and_value value) refl
form_of (Add key count) = worded verb.Add (key ++ and_number count) refl
form_of (Tail key tail) = worded verb.Tail (key ++ and_word tail) refl
form_of (Del key) = worded verb.Del key refl
form_of (New key value) = worded verb.New (key ++ and_value value) refl
form_of (Swap key count value) = worded verb.Swap (key ++ and_number count ++ and_value value) refl
form_of (Get key) = worded verb.Get key refl
form_of (Hold low high) = worded verb.Hold (low ++ and_word high) refl
form_of (Next n) = worded verb.Next (decimal n) refl
form_of Release = bare refl
form_of (Work n) = worded verb.Work (decimal n) refl

-- and that word has no space
pub verb_lacks : (v : Verb) → Lacks 32 (verb_text v)
verb_lacks v = grind (arith, common_steps, nat_tests)

-- where nothing but a word was found, the command is the one that is a word alone
bare_is : (bytes front : List ℕ) → Lacks 32 front → bytes ≡ front → (op : Op) → (bytes ≡ command_text op) × IsCommand op → (front ≡ command_text op) × (op ≡ Release)
bare_is bytes front lacks joined op spells =
    elim (form_of op) [
      | worded v rest is ↦ absurd (no_cut 32 (verb_text v) front rest lacks (sym is ∙ sym spells.0 ∙ joined))
      | bare same ↦ (sym joined ∙ spells.0, same)
    ]

pub reads_bare : (bytes front : List ℕ) (result : Option Op) → Lacks 32 front → bytes ≡ front → Reads (Spells command_text (λ op. op ≡ Release)) front result → Reads (Spells command_text IsCommand) bytes result
reads_bare bytes front None lacks joined none = λ op spells. none op (bare_is bytes front lacks joined op spells)
reads_bare bytes front (Some op) lacks joined (is, same) = (joined ∙ is, subst IsCommand (sym same) tt)

drop_lacks : Lacks 32 (codes "drop")
drop_lacks = All-from_recursion (λ byte. byte ≢ 32) (codes "drop") (λ same. absurd (omega arith), (λ same. absurd (omega arith), (λ same. absurd (omega arith), (λ same. absurd (omega arith), tt))))

-- and where a word was found with something behind it, that is the command's first word and its arguments
pub worded_is : (bytes front rest : List ℕ) → Lacks 32 front → bytes ≡ front ++ 32 ∷ rest → (op : Op) → (bytes ≡ command_text op) × IsCommand op → (v : Verb) × (front ≡ verb_text v) × SpellsArguments v rest op
worded_is bytes front rest lacks joined op spells =
    elim (form_of op) [
      | worded v r is ↦
          let both = one_cut 32 front (verb_text v) rest r lacks (verb_lacks v) (sym joined ∙ spells.0 ∙ is) in
          (v, both.0, (is ∙ ap (λ (l : List ℕ). verb_text v ++ 32 ∷ l) (sym both.1), spells.1))
      | bare same ↦ absurd (no_cut 32 front (codes "drop") rest drop_lacks (sym joined ∙ spells.0 ∙ ap command_text same))
    ]
