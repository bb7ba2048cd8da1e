-- A text has one reading: it is one script, or one line of it is the first that is bad, and not both.
use Rattle.std.proofs.lemmas.Bool.Decides.{nat_tests}
use Rattle.std.proofs.lemmas.Grind.{common_steps}
use Rattle.std.proofs.Common.{◌≡◌, ◌≢◌, ℕ, ◌+◌, ◌^◌, ◌<◌, ◌≤◌, List, [], ◌∷◌, ◌++◌, Result, Ok, Err, length, drop, decimal, codes, sym, ◌∙◌, ap, refl, append_assoc, append-nil, arith, length-append}
use Rattle.std.specs.List.{All}
use Rattle.std.proofs.lemmas.List.Elements.{All-cons, All-append, All-from_recursion}
use Rattle.std.proofs.lemmas.List.Sums.{sum_by-append, sum_by-cons}
use Rattle.std.proofs.lemmas.Fmt.{decimal_injective, decimal_nonempty, length-decimal-le}
use Rattle.blsm_model.specs.declared.row.Value.{Value}
use Rattle.blsm_model.specs.declared.op.Op.{Op}
use Rattle.blsm_model.specs.declared.op.Op.TheVariants.{Put, Add, Tail, Del, New, Swap, Get, Hold, Next, Release, Work}
use Rattle.blsm_model.specs.declared.history.Line.{Line}
use Rattle.blsm_model.specs.Printed.{and_number, and_value, and_word, command_text, spelled}
use Rattle.script_text.specs.Grammar.{AreLines, IsAllowed, IsBadLine, IsCommand, IsKey, IsLine, IsOnlyBadLine, IsOnlyReading, IsScript, IsText, all_rows_asked, first_line, line_text, lines_text, longest_line}
use Rattle.blsm_model.specs.Format.{most_text}
use Rattle.script_text.specs.declared.script.ScriptFault.{ScriptFault}
use Rattle.script_text.specs.declared.script.ScriptFault.TheVariants.{Bad, NoMemory}
use Rattle.script_text.specs.Script.{IfBad}
use Rattle.text_io.specs.Lines.{Lacks}
use Rattle.script_text.proofs.ReadLemmas.{one_cut, no_cut, decimal_lacks, visible_lacks, heads}
use Rattle.script_text.proofs.LineLaws.{AreSpelled, GoesOn, ahead, allowed_rest, behind, compared, fronts, level, longer, nothing_left, one_reading, opened, opened_first, shorter, text_goes_on}
use Rattle.blsm_model.specs.Scripts.{rows_of}

-- a spelling has one text, value, command and line
one_text : (x y : List ℕ) → x ≢ 45 ∷ [] → y ≢ 45 ∷ [] → spelled x ≡ spelled y → x ≡ y
one_text x y h1 h2 h3 = grind (arith, common_steps, nat_tests)

one_value : (v w : Value) → v.count < 2 ^ 64 → w.count < 2 ^ 64 → IsText v.text → IsText w.text → decimal v.count ++ and_word (spelled v.text) ≡ decimal w.count ++ and_word (spelled w.text) → v ≡ w
one_value v w small_v small_w text_v text_w is =
    let both = one_cut 32 (decimal v.count) (decimal w.count) (spelled v.text) (spelled w.text) (decimal_lacks 32 v.count small_v (omega arith)) (decimal_lacks 32 w.count small_w (omega arith)) is in
    let count : v.count ≡ w.count = decimal_injective v.count w.count small_v small_w both.0 in
    let text : v.text ≡ w.text = one_text v.text w.text text_v.no_dash text_w.no_dash both.1 in
    λ i. record { count = count i; text = text i }

-- a key and a value
one_pair : (key k : List ℕ) (value v : Value) → IsKey key → IsKey k → value.count < 2 ^ 64 → v.count < 2 ^ 64 → IsText value.text → IsText v.text
    → key ++ and_value value ≡ k ++ and_value v → (key ≡ k) × (value ≡ v)
one_pair key k value v is_key is_k small small_v is_text is_text_v is =
    let both = one_cut 32 key k (decimal value.count ++ and_word (spelled value.text)) (decimal v.count ++ and_word (spelled v.text))
    (visible_lacks 32 key (omega arith) is_key.visible) (visible_lacks 32 k (omega arith) is_k.visible) is in
    (both.0, one_value value v small small_v is_text is_text_v both.1)

one_put : (key : List ℕ) (value : Value) (y : Op) → IsCommand (Put key value) → IsCommand y → command_text (Put key value) ≡ command_text y → Put key value ≡ y
one_put key value (Put k v) (is_key, small, is_text) (is_k, small_v, is_text_v) is =
    let both = one_pair key k value v is_key is_k small small_v is_text is_text_v (ap (λ (l : List ℕ). drop 4 l) is) in
    let same_key : key ≡ k = both.0 in
    let same_value : value ≡ v = both.1 in
    λ i. Put (same_key i) (same_value i)
one_put key value _ x y is = absurd (omega (arith, heads is))

one_new : (key : List ℕ) (value : Value) (y : Op) → IsCommand (New key value) → IsCommand y → command_text (New key value) ≡ command_text y → New key
    value ≡ y
one_new key value (New k v) (is_key, small, is_text) (is_k, small_v, is_text_v) is =
    let both = one_pair key k value v is_key is_k small small_v is_text is_text_v (ap (λ (l : List ℕ). drop 4 l) is) in
    let same_key : key ≡ k = both.0 in
    let same_value : value ≡ v = both.1 in
    λ i. New (same_key i) (same_value i)
one_new key value (Next n) x y is = absurd (omega (arith, heads (ap (λ (l : List ℕ). drop 2 l) is)))
one_new key value _ x y is = absurd (omega (arith, heads is))

one_swap : (key : List ℕ) (count : ℕ) (value : Value) (y : Op) → IsCommand (Swap key count value) → IsCommand y
    → command_text (Swap key count value) ≡ command_text y → Swap key count value ≡ y
one_swap key count value (Swap k n v) (is_key, little, small, is_text) (is_k, little_n, small_v, is_text_v) is =
    let first = one_cut 32 key k (decimal count ++ and_value value) (decimal n ++ and_value v)
    (visible_lacks 32 key (omega arith) is_key.visible) (visible_lacks 32 k (omega arith) is_k.visible)
    (sym (append_assoc key (and_number count) (and_value value)) ∙ ap (λ (l : List ℕ). drop 5 l) is ∙ append_assoc k (and_number n) (and_value v)) in
    let second = one_cut 32 (decimal count) (decimal n) (decimal value.count ++ and_word (spelled value.text))
    (decimal v.count ++ and_word (spelled v.text))
    (decimal_lacks 32 count little (omega arith)) (decimal_lacks 32 n little_n (omega arith)) first.1 in
    let same_key : key ≡ k = first.0 in
    let same_count : count ≡ n = decimal_injective count n little little_n second.0 in
    let same_value : value ≡ v = one_value value v small small_v is_text is_text_v second.1 in
    λ i. Swap (same_key i) (same_count i) (same_value i)
one_swap key count value _ x y is = absurd (omega (arith, heads is))

pub one_command : (x y : Op) → IsCommand x → IsCommand y → command_text x ≡ command_text y → x ≡ y
one_command (Put key value) y allowed_x allowed_y is = one_put key value y allowed_x allowed_y is
one_command (Add key count) y allowed_x allowed_y is = grind (arith, common_steps, nat_tests, one_cut, decimal, visible_lacks, decimal_injective, heads)
one_command (Tail key tail) y allowed_x allowed_y is = grind (arith, common_steps, nat_tests, one_cut, visible_lacks, heads)
one_command (Del key) y allowed_x allowed_y is = grind (arith, common_steps, nat_tests)
one_command (New key value) y allowed_x allowed_y is = one_new key value y allowed_x allowed_y is
one_command (Swap key count value) y allowed_x allowed_y is = one_swap key count value y allowed_x allowed_y is
one_command (Get key) y allowed_x allowed_y is = grind (arith, common_steps, nat_tests)
one_command (Hold low high) y allowed_x allowed_y is = grind (arith, common_steps, nat_tests, one_cut, visible_lacks, heads)
one_command (Next n) y allowed_x allowed_y is = grind (arith, common_steps, nat_tests, decimal_injective, heads)
one_command Release y allowed_x allowed_y is = grind (arith, common_steps, nat_tests)
one_command (Work n) y allowed_x allowed_y is = grind (arith, common_steps, nat_tests, decimal_injective, heads)

seat_small : (line : Line) → IsAllowed line → line.seat + 1 < 2 ^ 64
seat_small line allowed = omega (arith, allowed.seat)

pub one_line : (bytes : List ℕ) (x y : Line) → IsLine bytes x → IsLine bytes y → x ≡ y
one_line bytes x y is_x is_y =
    let both = one_cut 32 (decimal (x.seat + 1)) (decimal (y.seat + 1)) (command_text x.op) (command_text y.op) (decimal_lacks 32 (x.seat + 1) (seat_small x is_x.allowed) (omega arith)) (decimal_lacks 32 (y.seat + 1) (seat_small y is_y.allowed) (omega arith))
    (sym is_x.spelled ∙ is_y.spelled) in
    let next : x.seat + 1 ≡ y.seat + 1 = decimal_injective (x.seat + 1) (y.seat + 1) (seat_small x is_x.allowed) (seat_small y is_y.allowed) both.0 in
    let seat : x.seat ≡ y.seat = omega (arith, next) in
    let op : x.op ≡ y.op = one_command x.op y.op is_x.allowed.command is_y.allowed.command both.1 in
    λ i. record { seat = seat i; op = op i }

-- a spelled line has no end of a line in it
key_lacks : (key : List ℕ) → IsKey key → Lacks 10 (and_word key)
key_lacks key is_key = All-cons (λ byte. byte ≢ 10) 32 key (λ same. absurd (omega arith)) (visible_lacks 10 key (omega arith) is_key.visible)

pub number_lacks : (n : ℕ) → n < 2 ^ 64 → Lacks 10 (and_number n)
number_lacks n small = All-cons (λ byte. byte ≢ 10) 32 (decimal n) (λ same. absurd (omega arith)) (decimal_lacks 10 n small (omega arith))

text_lacks : (text : List ℕ) → IsText text → Lacks 10 (and_word (spelled text))
text_lacks text h1 = grind (arith, common_steps, nat_tests)

three_lack : (a b c : ℕ) → a ≢ 10 → b ≢ 10 → c ≢ 10 → Lacks 10 (a ∷ b ∷ c ∷ [])
three_lack a b c no_a no_b no_c = All-from_recursion (λ byte. byte ≢ 10) (a ∷ b ∷ c ∷ []) (no_a, (no_b, (no_c, tt)))

four_lack : (a b c d : ℕ) → a ≢ 10 → b ≢ 10 → c ≢ 10 → d ≢ 10 → Lacks 10 (a ∷ b ∷ c ∷ d ∷ [])
four_lack a b c d no_a no_b no_c no_d = All-from_recursion (λ byte. byte ≢ 10) (a ∷ b ∷ c ∷ d ∷ []) (no_a, (no_b, (no_c, (no_d, tt))))

pub command_lacks : (op : Op) → IsCommand op → Lacks 10 (command_text op)
command_lacks (Put key value) (is_key, small, is_text) =
    All-append (λ byte. byte ≢ 10) (codes "put" ++ and_word key) (and_value value)
    (All-append (λ byte. byte ≢ 10) (codes "put") (and_word key) (three_lack 112 117 116 (λ same. absurd (omega arith)) (λ same. absurd (omega arith)) (λ same. absurd (omega arith))) (key_lacks key is_key))
    (All-append (λ byte. byte ≢ 10) (and_number value.count) (and_word (spelled value.text)) (number_lacks value.count small) (text_lacks value.text is_text))
command_lacks (Add key count) (is_key, small) =
    All-append (λ byte. byte ≢ 10) (codes "add" ++ and_word key) (and_number count)
    (All-append (λ byte. byte ≢ 10) (codes "add") (and_word key) (three_lack 97 100 100 (λ same. absurd (omega arith)) (λ same. absurd (omega arith)) (λ same. absurd (omega arith))) (key_lacks key is_key))
    (number_lacks count small)
command_lacks (Tail key tail) (is_key, is_tail) =
    All-append (λ byte. byte ≢ 10) (codes "tail" ++ and_word key) (and_word tail)
    (All-append (λ byte. byte ≢ 10) (codes "tail") (and_word key) (four_lack 116 97 105 108 (λ same. absurd (omega arith)) (λ same. absurd (omega arith)) (λ same. absurd (omega arith)) (λ same. absurd (omega arith))) (key_lacks key is_key))
    (All-cons (λ byte. byte ≢ 10) 32 tail (λ same. absurd (omega arith)) (visible_lacks 10 tail (omega arith) is_tail.visible))
command_lacks (Del key) is_key =
    All-append (λ byte. byte ≢ 10) (codes "del") (and_word key) (three_lack 100 101 108 (λ same. absurd (omega arith)) (λ same. absurd (omega arith)) (λ same. absurd (omega arith))) (key_lacks key is_key)
command_lacks (New key value) (is_key, small, is_text) =
    All-append (λ byte. byte ≢ 10) (codes "new" ++ and_word key) (and_value value)
    (All-append (λ byte. byte ≢ 10) (codes "new") (and_word key) (three_lack 110 101 119 (λ same. absurd (omega arith))
    (λ same. absurd (omega arith)) (λ same. absurd (omega arith))) (key_lacks key is_key))
    (All-append (λ byte. byte ≢ 10) (and_number value.count) (and_word (spelled value.text)) (number_lacks value.count small)
    (text_lacks value.text is_text))
command_lacks (Swap key count value) (is_key, little, small, is_text) =
    All-append (λ byte. byte ≢ 10) (codes "swap" ++ and_word key ++ and_number count) (and_value value)
    (All-append (λ byte. byte ≢ 10) (codes "swap" ++ and_word key) (and_number count)
    (All-append (λ byte. byte ≢ 10) (codes "swap") (and_word key) (four_lack 115 119 97 112 (λ same. absurd (omega arith))
    (λ same. absurd (omega arith)) (λ same. absurd (omega arith)) (λ same. absurd (omega arith))) (key_lacks key is_key))
    (number_lacks count little))
    (All-append (λ byte. byte ≢ 10) (and_number value.count) (and_word (spelled value.text)) (number_lacks value.count small)
    (text_lacks value.text is_text))
command_lacks (Get key) is_key =
    All-append (λ byte. byte ≢ 10) (codes "get") (and_word key) (three_lack 103 101 116 (λ same. absurd (omega arith)) (λ same. absurd (omega arith)) (λ same. absurd (omega arith))) (key_lacks key is_key)
command_lacks (Hold low high) (is_low, is_high) =
    All-append (λ byte. byte ≢ 10) (codes "hold" ++ and_word low) (and_word high)
    (All-append (λ byte. byte ≢ 10) (codes "hold") (and_word low) (four_lack 104 111 108 100 (λ same. absurd (omega arith)) (λ same. absurd (omega arith)) (λ same. absurd (omega arith)) (λ same. absurd (omega arith))) (key_lacks low is_low))
    (key_lacks high is_high)
command_lacks (Next n) allowed =
    All-append (λ byte. byte ≢ 10) (codes "next") (and_number n) (four_lack 110 101 120 116 (λ same. absurd (omega arith)) (λ same. absurd (omega arith)) (λ same. absurd (omega arith)) (λ same. absurd (omega arith))) (number_lacks n (omega (arith, allowed.1)))
command_lacks Release allowed = four_lack 100 114 111 112 (λ same. absurd (omega arith)) (λ same. absurd (omega arith)) (λ same. absurd (omega arith)) (λ same. absurd (omega arith))
command_lacks (Work n) allowed =
    All-append (λ byte. byte ≢ 10) (codes "work") (and_number n) (four_lack 119 111 114 107 (λ same. absurd (omega arith)) (λ same. absurd (omega arith)) (λ same. absurd (omega arith)) (λ same. absurd (omega arith))) (number_lacks n (omega (arith, allowed.1)))

line_lacks : (line : Line) → IsAllowed line → Lacks 10 (line_text line)
line_lacks line allowed =
    All-append (λ byte. byte ≢ 10) (decimal (line.seat + 1)) (and_word (command_text line.op)) (decimal_lacks 10 (line.seat + 1) (seat_small line allowed) (omega arith))
    (All-cons (λ byte. byte ≢ 10) 32 (command_text line.op) (λ same. absurd (omega arith)) (command_lacks line.op allowed.command))

pub line_some : (line : Line) → IsAllowed line → 0 < length (line_text line)
line_some line allowed = omega (arith, decimal_nonempty (line.seat + 1) (seat_small line allowed), length-append (decimal (line.seat + 1)) (and_word (command_text line.op)))

-- no line is longer than the longest
spelled_fits : (text : List ℕ) → length text ≤ most_text → length (spelled text) ≤ most_text
spelled_fits [] fits = omega arith
spelled_fits (byte ∷ bytes) fits = fits

number_fits : (n : ℕ) → n < 2 ^ 64 → length (and_number n) ≤ 21
number_fits n small = omega (arith, length-decimal-le 20 n (omega arith) (omega arith) small)

command_fits : (op : Op) → IsCommand op → length (command_text op) ≤ 547
command_fits (Put key value) (is_key, small, is_text) =
    omega (arith, length-append (codes "put" ++ and_word key) (and_value value), length-append (codes "put") (and_word key), length-append (and_number value.count) (and_word (spelled value.text)), number_fits value.count small, spelled_fits value.text is_text.fits, is_key.fits)
command_fits (Add key count) (is_key, small) = omega (arith, length-append (codes "add" ++ and_word key) (and_number count), length-append (codes "add") (and_word key), number_fits count small, is_key.fits)
command_fits (Tail key tail) (is_key, is_tail) = omega (arith, length-append (codes "tail" ++ and_word key) (and_word tail), length-append (codes "tail") (and_word key), is_key.fits, is_tail.fits)
command_fits (Del key) is_key = omega (arith, length-append (codes "del") (and_word key), is_key.fits)
command_fits (New key value) (is_key, small, is_text) =
    omega (
      arith,
      length-append (codes "new" ++ and_word key) (and_value value),
      length-append (codes "new") (and_word key),
      length-append
          (and_number value.count) (and_word (spelled value.text)),
      number_fits value.count small,
      spelled_fits value.text is_text.fits,
      is_key.fits,
    )
command_fits (Swap key count value) (is_key, little, small, is_text) =
    omega (
      arith,
      length-append (codes "swap" ++ and_word key ++ and_number count) (and_value value),
      length-append (codes "swap" ++ and_word key) (and_number count),
      length-append (codes "swap") (and_word key),
      length-append (and_number value.count) (and_word (spelled value.text)),
      number_fits count little,
      number_fits value.count small,
      spelled_fits value.text is_text.fits,
      is_key.fits,
    )
command_fits (Get key) is_key = omega (arith, length-append (codes "get") (and_word key), is_key.fits)
command_fits (Hold low high) (is_low, is_high) = omega (arith, length-append (codes "hold" ++ and_word low) (and_word high), length-append (codes "hold") (and_word low), is_low.fits, is_high.fits)
command_fits (Next n) allowed = omega (arith, length-append (codes "next") (and_number n), number_fits n (omega (arith, allowed.1)))
command_fits Release allowed = omega arith
command_fits (Work n) allowed = omega (arith, length-append (codes "work") (and_number n), number_fits n (omega (arith, allowed.1)))

pub line_fits : (bytes : List ℕ) (line : Line) → IsLine bytes line → length bytes ≤ longest_line
line_fits bytes line is =
    omega (arith, ap length is.spelled, length-append (decimal (line.seat + 1)) (and_word (command_text line.op)), length-decimal-le 2 (line.seat + 1) (omega arith) (omega (arith, is.allowed.seat)) (seat_small line is.allowed), command_fits line.op is.allowed.command)

-- each line has a spelling of its own
pub lines_are : AreSpelled line_text IsAllowed
lines_are = record {
  one = λ x y ok_x ok_y same. one_line (line_text x) x y (record { allowed = ok_x; spelled = refl }) (record { allowed = ok_y; spelled = same });
  lacks = line_lacks;
  some = line_some;
}

-- a text is one script
pub one_script : (bytes : List ℕ) (x y : List Line) → IsScript bytes x → IsScript bytes y → x ≡ y
one_script bytes x y is_x is_y = one_reading line_text IsAllowed lines_are bytes x y is_x.are.allowed is_y.are.allowed is_x.spelled is_y.spelled

all_rows-seam : (xs : List Line) (z : Line) (zs : List Line) → all_rows_asked (xs ++ z ∷ zs) ≡ all_rows_asked xs + (rows_of z.op + all_rows_asked zs)
all_rows-seam xs z zs = sum_by-append (λ (l : Line). rows_of l.op) xs (z ∷ zs) ∙ ap (λ n. all_rows_asked xs + n) (sum_by-cons (λ (l : Line). rows_of l.op) z zs)

-- a bad line is no line of lines that are few enough and ask for few enough rows
refused : (bytes : List ℕ) (n : ℕ) (bad : IsBadLine bytes n) (z : Line) (zs ws : List Line) → IsAllowed z → first_line bad.rest ≡ line_text z → ws ≡ bad.before ++ z ∷ zs → length ws ≤ 65536 → all_rows_asked ws ≤ 131072 → ⊥
refused bytes n bad z zs ws h1 h2 h3 h4 h5 = grind (arith, common_steps, nat_tests, length-append, one_line, all_rows-seam)

no_more : (bytes : List ℕ) (n : ℕ) (bad : IsBadLine bytes n) (ws : List Line) → AreLines ws → GoesOn line_text IsAllowed bad.before ws bad.rest → ⊥
no_more bytes n bad ws are on = refused bytes n bad on.next on.others ws on.is on.first on.more are.few are.asked

-- a script has no bad line
pub script_not_bad : (bytes : List ℕ) (x : List Line) (n : ℕ) → IsScript bytes x → IsBadLine bytes n → ⊥
script_not_bad bytes x n is_x bad =
    no_more bytes n bad x is_x.are (text_goes_on line_text IsAllowed lines_are bytes bad.rest bad.before x bad.are.allowed is_x.are.allowed is_x.spelled bad.split bad.there)

-- and a text has one bad line
pub one_bad : (bytes : List ℕ) (m n : ℕ) → IsBadLine bytes m → IsBadLine bytes n → m ≡ n
one_bad bytes m n bad_m bad_n =
    elim (fronts line_text IsAllowed lines_are bad_m.before bad_n.before bad_m.rest bad_n.rest bad_m.are.allowed bad_n.are.allowed (sym bad_m.split ∙ bad_n.split)) [
      | level both ↦ omega (arith, bad_m.place, bad_n.place, ap length both)
      | longer on ↦ absurd (no_more bytes m bad_m bad_n.before bad_n.are on)
      | shorter on ↦ absurd (no_more bytes n bad_n bad_m.before bad_m.are on)
    ]

pub only_reading : (bytes : List ℕ) (lines : List Line) → IsScript bytes lines → IsOnlyReading bytes lines
only_reading bytes lines is = record { only = λ other is_other. one_script bytes other lines is_other is; none_bad = λ n bad. script_not_bad bytes lines n is bad }

pub only_bad : {T : Type 0} (bytes : List ℕ) (result : Result T ScriptFault) → IfBad result (IsBadLine bytes) → IfBad result (IsOnlyBadLine bytes)
only_bad bytes (Err (Bad n)) bad = record { only = λ other is. one_bad bytes other n is bad; no_script = λ lines is. script_not_bad bytes lines n is bad }
only_bad bytes (Err NoMemory) bad = tt
only_bad bytes (Ok value) bad = tt

-- ---- a text of lines, each with its end

-- of such a text the lines that were read are the first, and what is left are the others
pub lines_go_on : (xs ys : List Line) (rest : List ℕ) → All IsAllowed xs → All IsAllowed ys → lines_text ys ≡ lines_text xs ++ rest → (zs : List Line) × (ys ≡ xs ++ zs) × All IsAllowed zs × (rest ≡ lines_text zs)
lines_go_on xs ys rest allowed_x allowed_y is =
    elim (compared line_text IsAllowed lines_are xs ys rest [] allowed_x allowed_y (sym is ∙ sym (append-nil (lines_text ys)))) [
      | ahead zs more left ↦ (zs, more, allowed_rest IsAllowed xs ys zs more allowed_y, left ∙ append-nil (lines_text zs))
      | behind zs more left ↦
          let none = nothing_left line_text zs rest left in
          let same : xs ≡ ys = more ∙ ap (λ (l : List Line). ys ++ l) none.0 ∙ append-nil ys in
          let all : ys ≡ xs ++ [] = sym same ∙ sym (append-nil xs) in
          ([], all, allowed_rest IsAllowed xs ys [] all allowed_y, none.1)
    ]

-- its first line is that of its text
pub first_spelled : (z : Line) (zs : List Line) → IsAllowed z → IsLine (first_line (lines_text (z ∷ zs))) z
first_spelled z zs allowed = record { allowed = allowed; spelled = ap first_line (sym (append-nil (lines_text (z ∷ zs)))) ∙ opened_first line_text IsAllowed lines_are z zs [] allowed }

-- which has an end
pub has_end : (z : Line) (zs : List Line) → Lacks 10 (lines_text (z ∷ zs)) → ⊥
has_end z zs lacks =
    let whole : lines_text (z ∷ zs) ≡ line_text z ++ 10 ∷ lines_text zs = sym (append-nil (lines_text (z ∷ zs))) ∙ opened line_text z zs [] ∙ ap (λ (l : List ℕ). line_text z ++ 10 ∷ l) (append-nil (lines_text zs)) in
    no_cut 10 (line_text z) (lines_text (z ∷ zs)) (lines_text zs) lacks (sym whole)

-- and no other line is first
pub only_first : (z : Line) (zs : List Line) (line : Line) (rest : List ℕ) → IsAllowed z → IsAllowed line → lines_text (z ∷ zs) ≡ line_text line ++ 10 ∷ rest → line ≡ z
only_first z zs line rest allowed_z allowed_line is =
    let whole : lines_text (z ∷ zs) ≡ line_text z ++ 10 ∷ (lines_text zs ++ []) = sym (append-nil (lines_text (z ∷ zs))) ∙ opened line_text z zs [] in
    let both = one_cut 10 (line_text line) (line_text z) rest (lines_text zs ++ []) (line_lacks line allowed_line) (line_lacks z allowed_z) (sym is ∙ whole) in
    one_line (line_text line) line z (record { allowed = allowed_line; spelled = refl }) (record { allowed = allowed_z; spelled = both.0 })
