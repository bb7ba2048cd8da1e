-- Calls of the disk that only read, one behind the other.
use Rattle.std.proofs.lemmas.Bool.Decides.{nat_tests}
use Rattle.std.proofs.lemmas.Grind.{common_steps}
use Rattle.std.proofs.Common.{◌≡◌, ℕ, ◌+◌, ◌≤◌, IsTrue, ◌∙◌, arith, Result, Ok, Err}
use Rattle.disk_trait.specs.Disk.{DiskState}
use Rattle.disk_trait.specs.Moments.{IsTimed}
use Rattle.disk_trait.specs.Reads.{OnlyReads}
use Rattle.disk_trait.proofs.ReadLemmas.{only_reads_same}
use Rattle.page_file.specs.declared.file.Broken.{Broken}
use Rattle.page_file.specs.declared.file.Broken.TheVariants.{Fault}
use Rattle.page_file.specs.File.{Reads}

-- an honest disk stays so, and reads the same
pub still : {end most : ℕ} {old new : DiskState} → OnlyReads end most old new → IsTrue old.is_honest → IsTrue new.is_honest × (new.bytes ≡ old.bytes)
still run honest = (run.effect.goes_on.is_honest ∙ honest, only_reads_same run honest)

-- and over another run
pub still_then : {end most end' most' : ℕ} {old mid new : DiskState} → OnlyReads end most old mid → OnlyReads end' most' mid new → IsTrue old.is_honest
    → IsTrue mid.is_honest × IsTrue new.is_honest × (new.bytes ≡ old.bytes)
still_then first second honest = let here = still first honest in let there = still second here.0 in (here.0, there.0, there.1 ∙ here.1)

pub not_a_fault : (a : Result (Unit {0}) Broken) → a ≡ Ok tt → a ≡ Err Fault → ⊥
not_a_fault a is fault = cc

pub reads_as : {end most all : ℕ} {r a : Result (Unit {0}) Broken} {old new : DiskState} → r ≡ a → most ≤ all → Reads end most a old new → Reads end all r old new
reads_as h1 h2 h3 = grind (arith, common_steps, nat_tests)

-- an answer that is no fault, where the call's wasn't
pub reads_calm : {end most : ℕ} {r a : Result (Unit {0}) Broken} {old new : DiskState} → (r ≡ Err Fault → ⊥) → a ≡ Ok tt → Reads end most a old new → Reads end most r old new
reads_calm h1 h2 h3 = grind (arith, common_steps, nat_tests)

-- after calls that gave no fault
pub reads_after : {end most more total : ℕ} {b : Result (Unit {0}) Broken} {old mid new : DiskState} → IsTimed mid → mid.faults ≡ old.faults → OnlyReads end most old mid → Reads end more b mid new
    → new.clock ≤ old.clock + total → Reads end total b old new
reads_after h1 h2 h3 h4 h5 = grind (arith, common_steps, nat_tests)

pub reads_then : {end most more : ℕ} {a b : Result (Unit {0}) Broken} {old mid new : DiskState} → IsTimed mid → a ≡ Ok tt → Reads end most a old mid → Reads end more b mid new
    → Reads end (most + more) b old new
reads_then timed done first second = reads_after timed (first.stands (not_a_fault _ done)) first.effect second (omega (arith, first.effect.effect.calls, second.effect.effect.calls))
