-- Laws of `specs/Writing`.
use Rattle.std.proofs.lemmas.Bool.Decides.{nat_tests}
use Rattle.std.proofs.lemmas.Grind.{common_steps}
use Rattle.std.specs.Prelude.{ℕ, ◌+◌, Option, Some, None, List, ◌++◌, length, take, Result, Ok, Err, IsErr, OnOk, OnErr, refl}
use Rattle.std.proofs.Common.{ap, sym, ◌∙◌, subst, append_assoc, arith, length-append}
use Rattle.std.proofs.Math.Seq.{take-append-add}
use Rattle.text_io.specs.Text.{Adds, AddsFront, SinkState, Writes}

adds_then : (a b : List ℕ) (old mid new : Option (List ℕ)) → Adds a old mid → Adds b mid new → Adds (a ++ b) old new
adds_then a b old mid new h1 h2 = grind (arith, common_steps, nat_tests)

front_of_second : (a b : List ℕ) (old mid new : Option (List ℕ)) → Adds a old mid → AddsFront b mid new → AddsFront (a ++ b) old new
front_of_second a b None mid new first front = tt
front_of_second a b (Some held) mid new first front =
    let (n, within, is) = subst (λ (o : Option (List ℕ)). AddsFront b o new) first front in
    (length a + n, omega (arith, length-append a b), is ∙ ap (λ (l : List ℕ). Some l) (append_assoc held a (take n b) ∙ ap (λ (l : List ℕ). held ++ l) (sym (take-append-add a b n))))

on_ok_of : {T E : Type 0} (result : Result T E) (P Q : Type 0) → (P → Q) → OnOk result P → OnOk result Q
on_ok_of result P Q h1 h2 = grind (arith, common_steps, nat_tests)

on_err_of : {T E : Type 0} (result : Result T E) (P Q : Type 0) → (P → Q) → OnErr result P → OnErr result Q
on_err_of result P Q h1 h2 = grind (arith, common_steps, nat_tests)

-- one text and then another
pub writes_then : {T E U F : Type 0} (a b : List ℕ) {value : T} {result : Result U F} {old mid new : SinkState}
    → Writes {T = T} {E = E} a (Ok value) old mid → Writes b result mid new → Writes (a ++ b) result old new
writes_then a b h1 h2 = grind (arith, common_steps, nat_tests, on_ok_of, adds_then, on_err_of, front_of_second)

-- the first of two texts failed, and the error is passed on
pub writes_stopped : {T E U F : Type 0} (a b : List ℕ) {error : E} {result : Result U F} {old new : SinkState}
    → Writes {T = T} {E = E} a (Err error) old new → IsErr result → Writes (a ++ b) result old new
writes_stopped a b h1 h2 = grind (arith, common_steps, nat_tests)

-- the first of two texts failed
pub writes_cut : {T E : Type 0} (a b : List ℕ) {error : E} {old new : SinkState} → Writes {T = T} {E = E} a (Err error) old new → Writes {T = T} {E = E} (a ++ b) (Err error) old new
writes_cut a b one = writes_stopped a b one refl
