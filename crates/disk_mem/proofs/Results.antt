-- A fact by how a call ended.
use Rattle.std.proofs.lemmas.Bool.Decides.{nat_tests}
use Rattle.std.proofs.lemmas.Grind.{common_steps}
use Rattle.std.proofs.Common.{◌≡◌, true, false, Result, is_ok, IsErr, OnOk, OnErr, arith}

pub on_ok : {T E : Type 0} (r : Result T E) (P : Type 0) → (is_ok r ≡ true → P) → OnOk r P
on_ok r P h1 = grind (arith, common_steps, nat_tests)

pub on_err : {T E : Type 0} (r : Result T E) (P : Type 0) → (is_ok r ≡ false → P) → OnErr r P
on_err r P h1 = grind (arith, common_steps, nat_tests)

pub is_err : {T E : Type 0} (r : Result T E) → IsErr r → is_ok r ≡ false
is_err r h1 = grind (arith, common_steps, nat_tests)
