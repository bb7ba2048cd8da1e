-- Calls of the disk that only read, one behind the other.
use Rattle.std.proofs.Common.{◌≡◌, ℕ, ◌+◌, ◌≤◌, IsTrue, ◌∙◌, ap, sym, subst, arith, Result, Ok, Err}
use Rattle.std.specs.Result.{IsErrAnd}
use Rattle.std.proofs.lemmas.Result.{err_from_is_err_and}
use Rattle.refusal.specs.Count.{HasRisen}
use Rattle.disk_trait.specs.Disk.{DiskState}
use Rattle.disk_trait.specs.Moments.{IsTimed}
use Rattle.disk_trait.specs.Reads.{OnlyReads}
use Rattle.disk_trait.proofs.ReadLemmas.{only_reads_run_within, only_reads_same, only_reads_wider}
use Rattle.page_file.specs.declared.file.Broken.{Broken}
use Rattle.page_file.specs.declared.file.Broken.TheVariants.{Fault, Damaged}
use Rattle.page_file.specs.File.{Reads}

-- an honest disk stays so, and reads the same
pub still : {end most : ℕ} {old new : DiskState} → OnlyReads end most old new → IsTrue old.is_honest → IsTrue new.is_honest × (new.bytes ≡ old.bytes)
still run honest = (run.effect.goes_on.is_honest ∙ honest, only_reads_same run honest)

-- an answer that hands another one's failure on
pub handed_on : {A : Type 0} {r : Result A Broken} {b : Broken} → IsErrAnd r (λ e. e ≡ b) → r ≡ Err b
handed_on {r = r} {b} handed = let p = err_from_is_err_and r handed in p.1 ∙ ap Err p.2

pub same_error : {A : Type 0} (a b : Broken) → ◌≡◌ {A = Result A Broken} (Err a) (Err b) → a ≡ b
same_error a b same = cc

pub ok_is_calm : {A : Type 0} {r : Result A Broken} {a : A} → r ≡ Ok a → r ≡ Err Fault → ⊥
ok_is_calm is fault = cc

pub damage_is_calm : {A : Type 0} {r : Result A Broken} {n : ℕ} → r ≡ Err (Damaged n) → r ≡ Err Fault → ⊥
damage_is_calm is fault = cc

-- the answer is another one, and no fault either; or it hands one on
pub reads_as : {A B : Type 0} {end most : ℕ} {r : Result A Broken} {a : Result B Broken} {old new : DiskState} → (a ≡ Err Fault → r ≡ Err Fault) →
    (r ≡ Err Fault → a ≡ Err Fault) → Reads end most a old new
    → Reads end most r old new
reads_as on back reads = record {
  effect = reads.effect;
  stands = λ other. reads.stands (λ fault. other (on fault));
  failed = λ fault. reads.failed
      (back fault);
}

pub reads_handed : {A B : Type 0} {end most : ℕ} {r : Result A Broken} {a : Result B Broken} {b : Broken} {old new : DiskState} → r ≡ Err b → a ≡ Err
    b → Reads end most a old new → Reads end most r old new
reads_handed {A} {B} {b = b} is was reads =
    reads_as (λ fault. is ∙ ap Err (same_error {A = B} b Fault (sym was ∙ fault)))
    (λ fault. was ∙ ap Err (same_error {A = A} b Fault (sym is ∙ fault))) reads

pub reads_calm : {A B : Type 0} {end most : ℕ} {r : Result A Broken} {a : Result B Broken} {old new : DiskState} → (r ≡ Err Fault → ⊥) →
    (a ≡ Err Fault → ⊥) → Reads end most a old new → Reads end most r old new
reads_calm calm was reads = reads_as (λ fault. absurd (was fault)) (λ fault. absurd (calm fault)) reads

-- after calls that gave no fault
pub reads_after : {B : Type 0} {end most more total : ℕ} {b : Result B Broken} {old mid new : DiskState} → IsTimed mid → mid.faults ≡ old.faults →
    OnlyReads end most old mid → Reads end more b mid new
    → new.clock ≤ old.clock + total → Reads end total b old new
reads_after {total = total} {new = new} timed calm first second calls = record {
  effect = only_reads_run_within total timed calm first second.effect calls;
  stands = λ other. second.stands other ∙ calm;
  failed = λ fault. subst (λ n. HasRisen n new.faults) calm (second.failed fault);
}

pub reads_wider : {A : Type 0} {end most total : ℕ} {a : Result A Broken} {old new : DiskState} → most ≤ total → Reads end most a old new → Reads end
    total a old new
reads_wider few reads = record { effect = only_reads_wider (omega arith) few reads.effect; stands = reads.stands; failed = reads.failed }

pub ok_not_err : {A : Type 0} {r : Result A Broken} {a : A} {b : Broken} → r ≡ Ok a → r ≡ Err b → ⊥
ok_not_err is was = cc
