-- What an answer tells of the count of faults, through an answer of another type, and behind calls that didn't fail.
use Rattle.std.proofs.lemmas.Bool.Decides.{nat_tests}
use Rattle.std.proofs.lemmas.Grind.{common_steps}
use Rattle.std.proofs.Common.{◌≡◌, ◌∙◌, ℕ, ap, sym, subst, Result, Ok, Err, arith}
use Rattle.std.specs.Result.{IsErrAnd}
use Rattle.std.proofs.lemmas.Result.{err_from_is_err_and}
use Rattle.refusal.specs.Count.{HasRisen}
use Rattle.disk_trait.specs.Disk.{DiskState, TellsFaultsBy}
use Rattle.page_file.specs.declared.file.Broken.{Broken}
use Rattle.page_file.specs.declared.file.Broken.TheVariants as broken
use Rattle.page_file.specs.File.{Reads}
use Rattle.tree_reading.specs.declared.found.Place.{Place}
use Rattle.tree_reading.specs.declared.found.Unreadable.{Unreadable}

pub same_error : {A E : Type 0} (a b : E) → ◌≡◌ {A = Result A E} (Err a) (Err b) → a ≡ b
same_error a b same = cc

-- an answer that hands another one's failure on
pub handed_on : {A E : Type 0} {r : Result A E} {b : E} → IsErrAnd r (λ e. e ≡ b) → r ≡ Err b
handed_on {r = r} {b} handed = let p = err_from_is_err_and r handed in p.1 ∙ ap Err p.2

pub named_by : {A E : Type 0} {r : Result A E} {b named : E} → IsErrAnd r (λ e. e ≡ b) → r ≡ Err named → b ≡ named
named_by {A} {b = b} {named} handed is = same_error {A = A} b named (sym (handed_on handed) ∙ is)

pub faults_as : {A B E : Type 0} {old new : DiskState} {fault b : E} {r : Result A E} {a : Result B E} → IsErrAnd r (λ e. e ≡ b) → a ≡ Err b
    → TellsFaultsBy {R = Result B E} (Err fault) a old new → TellsFaultsBy {R = Result A E} (Err fault) r old new
faults_as h1 h2 h3 = grind (arith, common_steps, nat_tests)

pub faults_then : {A E : Type 0} {old mid new : DiskState} {fault : E} (r : Result A E) → mid.faults ≡ old.faults → TellsFaultsBy {R = Result A E} (Err fault) r mid new
    → TellsFaultsBy {R = Result A E} (Err fault) r old new
faults_then {new = new} r calm told = record { stands = λ other. told.stands other ∙ calm; failed = λ failed. subst (λ n. HasRisen n new.faults) calm (told.failed failed) }

pub calm : {A E : Type 0} {old new : DiskState} {fault : E} (a : A) → TellsFaultsBy {R = Result A E} (Err fault) (Ok a) old new → new.faults ≡ old.faults
calm a told = told.stands (λ wrong. absurd (cc))

pub faults_none : {A E : Type 0} {old new : DiskState} {fault : E} (a : A) → new.faults ≡ old.faults → TellsFaultsBy {R = Result A E} (Err fault) (Ok a) old new
faults_none a still = record { stands = λ other. still; failed = λ wrong. absurd (cc) }

-- what the pages' answer tells of the count of faults is told by the answer that is made of it
pub faults_of_ok : {A : Type 0} {end most : ℕ} {r : Result A Broken} {old new : DiskState} {a : A} → r ≡ Ok a → Reads end most r old new
    → TellsFaultsBy {R = Result A Unreadable} (Err Unreadable.Fault) (Ok a) old new
faults_of_ok h1 h2 = grind (arith, common_steps, nat_tests)

pub faults_of_damage : {A : Type 0} {end most n : ℕ} {r : Result A Broken} {old new : DiskState} (place : Place) → r ≡ Err (broken.Damaged n)
    → Reads end most r old new
    → TellsFaultsBy {R = Result A Unreadable} (Err Unreadable.Fault) (Err (Unreadable.Damaged place)) old new
faults_of_damage place h1 h2 = grind (arith, common_steps, nat_tests)

pub faults_of_fault : {A : Type 0} {end most : ℕ} {r : Result A Broken} {old new : DiskState} → r ≡ Err broken.Fault → Reads end most r old new
    → TellsFaultsBy {R = Result A Unreadable} (Err Unreadable.Fault) (Err Unreadable.Fault) old new
faults_of_fault h1 h2 = grind (arith, common_steps, nat_tests)
