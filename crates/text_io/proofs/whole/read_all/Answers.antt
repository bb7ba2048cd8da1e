use Rattle.std.proofs.Common.{◌≡◌, ◌≤◌, Result, Ok, Err, IfErr, IsErrAnd, length, ℕ, ◌+◌, List, ◌++◌, Option, Some, None, take, drop, IfSome, refl, sym, ◌∙◌, ap, subst, append_assoc, arith, length-append}
use Rattle.std.proofs.lemmas.List.{length-take-le, take-append-drop}
use Rattle.refusal.specs.Count.{HasRisen}
use Rattle.text_io.specs.Text.{Gives, Loses}
use Rattle.text_io.proofs.whole.read_all.Goals as goal

-- an error that is passed on
passed_on : {T E : Type 0} (result : Result T E) (error : E) (P : E → Type 0) → IsErrAnd result (λ e. e ≡ error) → P error → IfErr result P
passed_on (Ok value) error P is fact = tt
passed_on (Err e) error P is fact = subst P (sym is) fact

-- what was read so far is a front
lost : (bytes : List ℕ) (start now new : Option (List ℕ)) (most : ℕ) → IfSome start (λ left. (rest : List ℕ) × (now ≡ Some rest) × (left ≡ bytes ++ rest)) → new ≡ now → length bytes ≤ most → Loses 0 most start new
lost bytes None now new most read same few = tt
lost bytes (Some left) now new most (rest, is, whole) same few = (bytes, rest, omega arith, few, whole, same ∙ is)

-- and one piece more
lost_more : (bytes : List ℕ) (start now new : Option (List ℕ)) (room : ℕ) (into : List ℕ) (n least most : ℕ) → IfSome start (λ left. (rest : List ℕ) × (now ≡ Some rest) × (left ≡ bytes ++ rest)) → Gives now new room into n
    → least ≤ length bytes + n → length bytes + n ≤ most → Loses least most start new
lost_more bytes None now new room into n least most read gives many few = tt
lost_more bytes (Some left) now new room into n least most (rest, is, whole) gives many few =
    let given = subst (λ (o : Option (List ℕ)). IfSome o (λ l. (n ≤ length l) × (take n into ≡ take n l) × (new ≡ Some (drop n l)))) is gives.bytes in
    let taken = length-take-le n rest given.0 in (
      bytes ++ take n rest,
      drop n rest,
      omega (arith, length-append bytes (take n rest)),
      omega (arith, length-append bytes (take n rest)),
      whole ∙ ap (λ (l : List ℕ). bytes ++ l) (sym (take-append-drop n rest)) ∙ sym (append_assoc bytes (take n rest) (drop n rest)),
      given.2,
    )

pub returns-in_err-n-clause-err : goal.returns-in_err-n-clause-err
returns-in_err-n-clause-err g c =
    let loop = c.loop-bytes.invariant in
    let call = c.in_err-n.ensures in
    let new = (g.S.Source.state c.read.new.self).faults in
    let risen = subst (λ (n : ℕ). (n ≤ new) × HasRisen n new × (new ≤ n + 1)) loop.calm (call.cause.no_fall, call.cause.failed refl, call.cause.one_fault) in
    passed_on _ _ _ c.from_residual.ensures.1 (lost c.loop-bytes.bytes.items _ _ _ _ loop.read call.err (omega (arith, loop.within)), risen.0, risen.1, risen.2)

pub returns-then-n-limit-clause-err : goal.returns-then-n-limit-clause-err
returns-then-n-limit-clause-err g c =
    let loop = c.loop-bytes.invariant in
    let call = c.in_ok-n.ensures in
    (lost_more c.loop-bytes.bytes.items _ _ _ _ _ c.in_ok-n.n _ _ loop.read call.gives (omega arith) (omega (arith, loop.within, call.gives.within)), call.calm ∙ loop.calm)

pub returns-in_err-extend_from_slice-clause-err : goal.returns-in_err-extend_from_slice-clause-err
returns-in_err-extend_from_slice-clause-err g c =
    let loop = c.loop-bytes.invariant in
    let call = c.in_ok-n.ensures in
    passed_on _ _ _ c.from_residual-in_err-extend_from_slice.ensures.1
    (lost_more c.loop-bytes.bytes.items _ _ _ _ _ c.in_ok-n.n _ _ loop.read call.gives (omega arith) (omega (arith, loop.within, call.gives.within)), call.calm ∙ loop.calm)
