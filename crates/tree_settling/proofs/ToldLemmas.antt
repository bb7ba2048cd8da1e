-- What a call hands on of one that failed behind calls that went well.
use Rattle.std.proofs.Common.{◌≡◌, ◌≢◌, ◌∙◌, ℕ, Bool, true, false, Ok, Err, ap, sym, subst}
use Rattle.std.specs.Prelude.{◌↔◌, IsErrAnd, IsOk, IsTrue, OnOk}
use Rattle.std.proofs.lemmas.Result.{err_from_is_err_and}
use Rattle.std.specs.declared.result.Result.{Result}
use Rattle.disk_trait.specs.Disk.{DiskState, TellsFaultsBy}
use Rattle.page_file.specs.declared.file.Broken.{Broken}
use Rattle.page_file.specs.declared.file.Broken.TheVariants.{Fault}
use Rattle.refusal.specs.Count.{HasRisen}

pub is_err : {e : Broken} {result : Result ℕ Broken} → IsErrAnd result (λ (x : Broken). x ≡ e) → result ≡ Err e
is_err {e} {result} failed = let p = err_from_is_err_and result failed in p.1 ∙ ap (λ (x : Broken). Err x) p.2

pub on_failed : {e : Broken} {result : Result ℕ Broken} (P : Type 0) → result ≡ Err e → OnOk result P
on_failed P is = subst (λ (r : Result ℕ Broken). OnOk r P) (sym is) tt

pub told_then : {T : Type 0} {e : Broken} {result : Result ℕ Broken} {inner : Result T Broken} {old mid new : DiskState} → mid.faults ≡ old.faults
    → inner ≡ Err e → IsErrAnd result (λ (x : Broken). x ≡ e)
    → TellsFaultsBy (Err Fault) inner mid new → TellsFaultsBy (Err Fault) result old new
told_then {new = new} calm was failed told =
    let is = is_err failed in
    record {
      stands = λ other. told.stands (λ same. other (cc)) ∙ calm;
      failed = λ fault. subst (λ (n : ℕ). HasRisen n new.faults) calm (told.failed (cc));
    }

pub ends_then : {T : Type 0} {e : Broken} {result : Result ℕ Broken} {inner : Result T Broken} → inner ≡ Err e
    → IsErrAnd result (λ (x : Broken). x ≡ e) → (inner ≢ Err Fault → (n : T) × (inner ≡ Ok n)) → result ≢ Err Fault
    → IsOk result
ends_then {T} {e} {result} {inner} was failed well other =
    let is = is_err failed in
    let got : (n : T) × (inner ≡ Ok n) = well (λ same. other (cc)) in
    let never : Err e ≡ Ok got.0 = sym was ∙ got.1 in
    absurd (cc (never))

-- a merge that runs and isn't done has something left
pub still_left : {P : Type 0} (done : Bool) (left : ℕ) → done ≡ false → (IsTrue done ↔ (P × (left ≡ 0))) → P → left ≢ 0
still_left true left is iff runs none = absurd (cc (is))
still_left false left is iff runs none = let never : IsTrue false = iff.1 (runs, none) in absurd (cc (never))

-- a test that failed says no
pub not_so : {P : Type 0} (test : Bool) → test ≡ false → (IsTrue test ↔ P) → P → ⊥
not_so true is iff so = absurd (cc (is))
not_so false is iff so = let never : IsTrue false = iff.1 so in absurd (cc (never))

pub ok_is_no_err : {T : Type 0} (value : T) → Ok value ≢ Err Fault
ok_is_no_err value same = absurd (cc (same))

pub ends_from : {e : Broken} {result inner : Result ℕ Broken} → inner ≡ Err e → IsErrAnd result (λ (x : Broken). x ≡ e)
    → (inner ≢ Err Fault → IsOk inner) → result ≢ Err Fault → IsOk result
ends_from {result = result} {inner = inner} was failed well other =
    let same : result ≡ inner = is_err failed ∙ sym was in
    subst (λ (r : Result ℕ Broken). IsOk r) (sym same) (well (λ fault. other (same ∙ fault)))

-- a call that fails by a fault alone
pub fault_then : {result : Result ℕ Broken} {old new : DiskState} (mid : DiskState) → mid.faults ≡ old.faults
    → IsErrAnd result (λ (x : Broken). x ≡ Fault) → HasRisen mid.faults new.faults → TellsFaultsBy (Err Fault) result old new
fault_then {new = new} mid calm failed rises = record { stands = λ other. absurd (other (is_err failed)); failed = λ same. subst (λ (n : ℕ). HasRisen n new.faults) calm rises }

pub well_told : (n : ℕ) (old new : DiskState) → new.faults ≡ old.faults → TellsFaultsBy {R = Result ℕ Broken} (Err Fault) (Ok n) old new
well_told n old new calm = record { stands = λ other. calm; failed = λ same. absurd (ok_is_no_err n same) }
