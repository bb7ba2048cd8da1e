-- Lines of one kind, each with its end: a text is such lines in one way, and what stands behind some of them begins with the next one.
use Rattle.std.proofs.lemmas.Bool.Decides.{nat_tests}
use Rattle.std.proofs.lemmas.Grind.{common_steps}
use Rattle.std.proofs.Common.{◌≡◌, ℕ, ◌<◌, ◌⊎◌, inl, inr, List, [], ◌∷◌, ◌++◌, Some, length, drop, sym, ◌∙◌, ap, subst, refl, append_assoc, append-nil, arith, length-append}
use Rattle.std.specs.List.{All}
use Rattle.std.proofs.lemmas.List.Elements.{All-head, All-tail, All-drop}
use Rattle.std.proofs.Math.Seq.{drop-append_seam}
use Rattle.script_text.specs.Grammar.{first_line}
use Rattle.script_text.proofs.ReadLemmas.{one_cut}
use Rattle.script_text.proofs.ScriptLemmas.{first_line_is, with_ends}
use Rattle.text_io.specs.Lines.{Lacks}

-- each of a kind has a spelling of its own, which isn't empty and has no end of a line in it
pub record AreSpelled {X : Type 0} (spell : X → List ℕ) (Is : X → Type 0) : Type 0 where
  pub one : (x y : X) → Is x → Is y → spell x ≡ spell y → x ≡ y
  pub lacks : (x : X) → Is x → Lacks 10 (spell x)
  pub some : (x : X) → Is x → 0 < length (spell x)

-- bytes are lines of a kind, each with its end, which the last may lack
abbrev pub Spell : {X : Type 0} → (X → List ℕ) → List ℕ → List X → Type 0
Spell spell bytes xs = (bytes ≡ with_ends spell xs) ⊎ (bytes ++ 10 ∷ [] ≡ with_ends spell xs)

-- ---- two readings of one text

-- the first line, its end, and the rest
pub opened : {X : Type 0} (spell : X → List ℕ) (x : X) (xs : List X) (r : List ℕ) → with_ends spell (x ∷ xs) ++ r ≡ spell x ++ 10 ∷ (with_ends spell xs ++ r)
opened spell x xs r = grind (arith, common_steps, nat_tests)

-- of two readings of one text the one goes on where the other ends
pub data Compared {X : Type 0} (spell : X → List ℕ) (xs ys : List X) (r s : List ℕ) : Type 0 where
  ahead : (zs : List X) → ys ≡ xs ++ zs → r ≡ with_ends spell zs ++ s → Compared spell xs ys r s
  behind : (zs : List X) → xs ≡ ys ++ zs → s ≡ with_ends spell zs ++ r → Compared spell xs ys r s

pub compared : {X : Type 0} (spell : X → List ℕ) (Is : X → Type 0) → AreSpelled spell Is → (xs ys : List X) (r s : List ℕ) → All Is xs → All Is ys
    → with_ends spell xs ++ r ≡ with_ends spell ys ++ s → Compared spell xs ys r s
compared spell Is are [] ys r s allowed_x allowed_y is = ahead ys refl is
compared spell Is are (x ∷ xs) [] r s allowed_x allowed_y is = behind (x ∷ xs) refl (sym is)
compared spell Is are (x ∷ xs) (y ∷ ys) r s allowed_x allowed_y is =
    let ok_x = All-head Is x xs allowed_x in
    let ok_y = All-head Is y ys allowed_y in
    let both = one_cut 10 (spell x) (spell y) (with_ends spell xs ++ r) (with_ends spell ys ++ s) (are.lacks x ok_x) (are.lacks y ok_y)
    (sym (opened spell x xs r) ∙ is ∙ opened spell y ys s) in
    let same : x ≡ y = are.one x y ok_x ok_y both.0 in
    elim (compared spell Is are xs ys r s (All-tail Is x xs allowed_x) (All-tail Is y ys allowed_y) both.1) [
      | ahead zs more left ↦ ahead zs (λ i. sym same i ∷ more i) left
      | behind zs more left ↦ behind zs (λ i. same i ∷ more i) left
    ]

pub nothing_left : {X : Type 0} (spell : X → List ℕ) (zs : List X) (s : List ℕ) → [] ≡ with_ends spell zs ++ s → (zs ≡ []) × (s ≡ [])
nothing_left spell [] s is = (refl, sym is)
nothing_left spell (z ∷ zs) s is = absurd (omega (arith, ap length (is ∙ opened spell z zs s), length-append (spell z) (10 ∷ (with_ends spell zs ++ s))))

-- an end of a line alone is no line
no_empty_line : {X : Type 0} (spell : X → List ℕ) (Is : X → Type 0) → AreSpelled spell Is → (zs : List X) → All Is zs → 10 ∷ [] ≡ with_ends spell zs ++ [] → ⊥
no_empty_line spell Is are [] allowed is = omega (arith, ap length is)
no_empty_line spell Is are (z ∷ zs) allowed is =
    omega (arith, ap length (is ∙ opened spell z zs []), length-append (spell z) (10 ∷ (with_ends spell zs ++ [])), are.some z (All-head Is z zs allowed))

pub allowed_rest : {X : Type 0} (Is : X → Type 0) (xs ys zs : List X) → ys ≡ xs ++ zs → All Is ys → All Is zs
allowed_rest {X} Is xs ys zs is allowed =
    subst (λ (l : List X). All Is l) (ap (λ (l : List X). drop (length xs) l) is ∙ drop-append_seam xs zs) (All-drop Is (length xs) ys allowed)

one_end : {X : Type 0} (spell : X → List ℕ) (xs ys : List X) → Compared spell xs ys [] [] → xs ≡ ys
one_end {X} spell xs ys (ahead zs more left) = sym (more ∙ ap (λ (l : List X). xs ++ l) (nothing_left spell zs [] left).0 ∙ append-nil xs)
one_end {X} spell xs ys (behind zs more left) = more ∙ ap (λ (l : List X). ys ++ l) (nothing_left spell zs [] left).0 ∙ append-nil ys

one_ended : {X : Type 0} (spell : X → List ℕ) (Is : X → Type 0) → AreSpelled spell Is → (xs ys : List X) → All Is xs → All Is ys → with_ends spell xs ≡ with_ends spell ys → xs ≡ ys
one_ended spell Is are xs ys allowed_x allowed_y is = one_end spell xs ys (compared spell Is are xs ys [] [] allowed_x allowed_y (ap (λ (l : List ℕ). l ++ []) is))

-- lines with an end, and an end more, aren't lines
no_end_more : {X : Type 0} (spell : X → List ℕ) (Is : X → Type 0) → AreSpelled spell Is → (xs ys : List X) → All Is xs → All Is ys
    → with_ends spell xs ++ 10 ∷ [] ≡ with_ends spell ys → ⊥
no_end_more spell Is are xs ys allowed_x allowed_y is =
    elim (compared spell Is are xs ys (10 ∷ []) [] allowed_x allowed_y (is ∙ sym (append-nil (with_ends spell ys)))) [
      | ahead zs more left ↦ no_empty_line spell Is are zs (allowed_rest Is xs ys zs more allowed_y) left
      | behind zs more left ↦ omega (arith, ap length (nothing_left spell zs (10 ∷ []) left).1)
    ]

-- a text is lines of a kind in one way
pub one_reading : {X : Type 0} (spell : X → List ℕ) (Is : X → Type 0) → AreSpelled spell Is → (bytes : List ℕ) (x y : List X) → All Is x → All Is y → Spell spell bytes x → Spell spell bytes y → x ≡ y
one_reading spell Is are bytes x y all_x all_y (inl a) (inl b) = one_ended spell Is are x y all_x all_y (sym a ∙ b)
one_reading spell Is are bytes x y all_x all_y (inl a) (inr b) = absurd (no_end_more spell Is are x y all_x all_y (ap (λ (l : List ℕ). l ++ 10 ∷ []) (sym a) ∙ b))
one_reading spell Is are bytes x y all_x all_y (inr a) (inl b) = absurd (no_end_more spell Is are y x all_y all_x (ap (λ (l : List ℕ). l ++ 10 ∷ []) (sym b) ∙ a))
one_reading spell Is are bytes x y all_x all_y (inr a) (inr b) = one_ended spell Is are x y all_x all_y (sym a ∙ b)

-- ---- what stands behind some of a text's lines

first_line_end : (bytes : List ℕ) → first_line (bytes ++ 10 ∷ []) ≡ first_line bytes
first_line_end bytes = grind (arith, common_steps, nat_tests)

pub opened_first : {X : Type 0} (spell : X → List ℕ) (Is : X → Type 0) → AreSpelled spell Is → (z : X) (zs : List X) (s : List ℕ) → Is z → first_line (with_ends spell (z ∷ zs) ++ s) ≡ spell z
opened_first spell Is are z zs s is_z =
    ap first_line (opened spell z zs s)
    ∙ first_line_is (spell z ++ 10 ∷ (with_ends spell zs ++ s)) (spell z) (Some (with_ends spell zs ++ s)) (are.lacks z is_z) refl

-- there are more lines than these, and the rest begins with the next one
pub record GoesOn {X : Type 0} (spell : X → List ℕ) (Is : X → Type 0) (before whole : List X) (rest : List ℕ) : Type 0 where
  pub next : X
  pub others : List X
  pub is : Is next
  pub more : whole ≡ before ++ next ∷ others
  pub first : first_line rest ≡ spell next

-- lines that a rest is
goes_on : {X : Type 0} (spell : X → List ℕ) (Is : X → Type 0) → AreSpelled spell Is → (before whole zs : List X) (r rest s : List ℕ) → All Is whole → whole ≡ before ++ zs → r ≡ with_ends spell zs ++ s
    → first_line r ≡ first_line rest → (zs ≡ []) ⊎ GoesOn spell Is before whole rest
goes_on spell Is are before whole [] r rest s allowed more left first = inl refl
goes_on spell Is are before whole (z ∷ zs) r rest s allowed more left first =
    let is_z = All-head Is z zs (allowed_rest Is before whole (z ∷ zs) more allowed) in
    inr (record { next = z; others = zs; is = is_z; more = more; first = sym first ∙ ap first_line left ∙ opened_first spell Is are z zs s is_z })

-- where something is left behind some lines of a text, that begins with the next line
pub text_goes_on : {X : Type 0} (spell : X → List ℕ) (Is : X → Type 0) → AreSpelled spell Is → (bytes rest : List ℕ) (before whole : List X) → All Is before → All Is whole
    → Spell spell bytes whole → bytes ≡ with_ends spell before ++ rest → 0 < length rest → GoesOn spell Is before whole rest
text_goes_on spell Is are bytes rest before whole all_before all_whole (inl a) split there =
    elim (compared spell Is are whole before [] rest all_whole all_before (append-nil (with_ends spell whole) ∙ sym a ∙ split)) [
      | ahead zs more left ↦ absurd (omega (arith, there, ap length (nothing_left spell zs rest left).1))
      | behind zs more left ↦ elim (goes_on spell Is are before whole zs rest rest [] all_whole more left refl) [
        | inl none ↦ absurd (omega (arith, there, ap length (left ∙ ap (λ l. with_ends spell l ++ []) none)))
        | inr on ↦ on
      ]
    ]
text_goes_on spell Is are bytes rest before whole all_before all_whole (inr a) split there =
    elim (compared spell Is are whole before [] (rest ++ 10 ∷ []) all_whole all_before
    (append-nil (with_ends spell whole) ∙ sym a ∙ ap (λ (l : List ℕ). l ++ 10 ∷ []) split ∙ append_assoc (with_ends spell before) rest (10 ∷ []))) [
      | ahead zs more left ↦ absurd (omega (arith, length-append rest (10 ∷ []), ap length (nothing_left spell zs (rest ++ 10 ∷ []) left).1))
      | behind zs more left ↦ elim (goes_on spell Is are before whole zs (rest ++ 10 ∷ []) rest [] all_whole more left (first_line_end rest)) [
        | inl none ↦ absurd (omega (arith, length-append rest (10 ∷ []), ap length (left ∙ ap (λ l. with_ends spell l ++ []) none)))
        | inr on ↦ on
      ]
    ]

-- of two fronts of one text the lines are the same, or what stands behind the shorter one begins with the longer one's next line
pub data FrontsOf {X : Type 0} (spell : X → List ℕ) (Is : X → Type 0) (xs ys : List X) (r s : List ℕ) : Type 0 where
  level : xs ≡ ys → FrontsOf spell Is xs ys r s
  longer : GoesOn spell Is xs ys r → FrontsOf spell Is xs ys r s
  shorter : GoesOn spell Is ys xs s → FrontsOf spell Is xs ys r s

pub fronts : {X : Type 0} (spell : X → List ℕ) (Is : X → Type 0) → AreSpelled spell Is → (xs ys : List X) (r s : List ℕ) → All Is xs → All Is ys
    → with_ends spell xs ++ r ≡ with_ends spell ys ++ s → FrontsOf spell Is xs ys r s
fronts {X} spell Is are xs ys r s all_x all_y is =
    elim (compared spell Is are xs ys r s all_x all_y is) [
      | ahead zs more left ↦ elim (goes_on spell Is are xs ys zs r r s all_y more left refl) [
        | inl none ↦ level (sym (more ∙ ap (λ (l : List X). xs ++ l) none ∙ append-nil xs))
        | inr on ↦ longer on
      ]
      | behind zs more left ↦ elim (goes_on spell Is are ys xs zs s s r all_x more left refl) [
        | inl none ↦ level (more ∙ ap (λ (l : List X). ys ++ l) none ∙ append-nil ys)
        | inr on ↦ shorter on
      ]
    ]
