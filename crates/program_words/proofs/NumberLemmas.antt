-- What a number that was read is of the text that was found.
use Rattle.std.proofs.lemmas.Bool.Decides.{nat_tests}
use Rattle.std.proofs.lemmas.Grind.{common_steps}
use Rattle.std.proofs.Common.{◌≡◌, ℕ, Bool, true, false, List, Option, Some, None, Result, Ok, Err, option_and_then, cond, ◌≤◌, ap, sym, refl, subst, ◌∙◌, arith}
use Rattle.std.specs.Str.Parse.{ParsesUnsigned, digits_value, without_leading_plus}
use Rattle.clap.specs.Words.{Text, ReadsOne}
use Rattle.clap.specs.ValueTests.{is_unsigned_in}
use Rattle.clap.specs.declared.builder.value_parser.ValueParser.TheVariants.{Unsigned}
use Rattle.clap.proofs.ValueTestLemmas.{accepts-Accepts, Accepts-accepts}
use Rattle.program_words.specs.Words.{Number, number_by}

abbrev value : Text → ℕ
value text = digits_value 10 (without_leading_plus text)

abbrev when_in : Bool → Text → Option ℕ
when_in inside text = cond inside (Some (value text)) None

inside : (number : Number) (text : Text) → is_unsigned_in number.least number.most text ≡ true → number_by number text ≡ Some (value text)
inside number text is = ap (λ b. when_in b text) is

outside : (number : Number) (text : Text) → (is_unsigned_in number.least number.most text ≡ true → ⊥) → number_by number text ≡ None
outside number text h1 = grind (arith, common_steps, nat_tests)

-- no number was read
pub read_none : (E : Type 0) (G : List ℕ → Result ℕ E → Type 0) → ((u : List ℕ) (x : Result ℕ E) → G u x → ParsesUnsigned 64 10 u x)
    → (number : Number) (text : Option Text) → ((t : List ℕ) → text ≡ Some t → ReadsOne G t None)
    → None ≡ option_and_then (number_by number) text
read_none E G only number None reads = refl
read_none E G only number (Some t) reads =
    let failed : ReadsOne G t None = reads t refl in
    sym (outside number t (λ is. only t (Err failed.0) failed.1 ((accepts-Accepts false (Unsigned number.least number.most) t is).0, (accepts-Accepts false (Unsigned number.least number.most) t is).1)))

-- a number was read, in the range or out of it
pub read_inside : (E : Type 0) (G : List ℕ → Result ℕ E → Type 0) → ((u : List ℕ) (x : Result ℕ E) → G u x → ParsesUnsigned 64 10 u x)
    → (number : Number) (text : Option Text) (n : ℕ) → (text ≡ None → Some n ≡ None) → ((t : List ℕ) → text ≡ Some t → ReadsOne G t (Some n))
    → number.least ≤ n → n ≤ number.most → Some n ≡ option_and_then (number_by number) text
read_inside E G only number None n missing reads low high = missing refl
read_inside E G only number (Some t) n missing reads low high =
    let parsed : ParsesUnsigned {E = E} 64 10 t (Ok n) = only t (Ok n) (reads t refl) in
    let is : n ≡ value t = parsed.1 in
    sym (inside number t (Accepts-accepts false (Unsigned number.least number.most) t (parsed.0.0, parsed.0.1, subst (λ m. number.least ≤ m) is low, subst (λ m. m ≤ number.most) is high))
    ∙ ap (λ (m : ℕ). Some m) (sym is))

pub read_outside : (E : Type 0) (G : List ℕ → Result ℕ E → Type 0) → ((u : List ℕ) (x : Result ℕ E) → G u x → ParsesUnsigned 64 10 u x)
    → (number : Number) (text : Option Text) (n : ℕ) → ((t : List ℕ) → text ≡ Some t → ReadsOne G t (Some n))
    → (number.least ≤ n → n ≤ number.most → ⊥) → None ≡ option_and_then (number_by number) text
read_outside E G only number None n reads never = refl
read_outside E G only number (Some t) n reads never =
    let parsed : ParsesUnsigned {E = E} 64 10 t (Ok n) = only t (Ok n) (reads t refl) in
    let is : value t ≡ n = sym parsed.1 in
    sym (outside number t (λ test.
    let passed = accepts-Accepts false (Unsigned number.least number.most) t test in
    never (subst (λ m. number.least ≤ m) is passed.2) (subst (λ m. m ≤ number.most) is passed.3)))
