-- What a lookup tells of the pages that it asks, in one component after the other.
use Rattle.std.specs.Prelude.{◌≡◌, ℕ, List, [], ◌∷◌, IsTrue, Option, Result, Ok, Err, IfOk}
use Rattle.std.proofs.lemmas.Grind.{common_steps}
use Rattle.std.proofs.lemmas.Bool.Decides.{nat_tests}
use Rattle.std.proofs.Common.{arith}
use Rattle.std.proofs.Common.{◌∙◌, inl, sym, subst}
use Rattle.disk_trait.specs.Disk.{DiskState}
use Rattle.disk_trait.specs.Reads.{OnlyReads}
use Rattle.blsm_model.specs.declared.component.Component.{Component}
use Rattle.blsm_model.specs.declared.key.Key.{Key}
use Rattle.blsm_model.specs.Sizes.{Sizes}
use Rattle.record_delta.specs.declared.record.Rec.{Rec}
use Rattle.page_file.specs.declared.file.Broken.{Broken}
use Rattle.page_file.specs.declared.file.Broken.TheVariants.{Damaged}
use Rattle.run_cursor.specs.Lookup.{IsDamaged}
use Rattle.tree_runs.specs.Lookups.{AreToldBy, HidesOlder, IsDamageBelow, IsToldBy}
use Rattle.tree_runs.specs.Runs.{GuideState}

-- ---- one component

-- what was found in it, or what is damaged, where nothing newer hides it
pub record TellsOne (sizes : Sizes) (key : Key) (c : Component × GuideState) (newer : Option Rec) (result : Result (Option Rec) Broken) (old : DiskState) : Type 0 where
  pub told : IfOk result (λ found. IsTrue old.is_honest → IsToldBy sizes key old.bytes c newer found)
  pub damaged : (n : ℕ) → result ≡ Err (Damaged n) → IsTrue old.is_honest → (HidesOlder newer → ⊥) × IsDamaged sizes c.0 c.1.filter c.1.fences key n old.bytes

-- ---- one after the other

pub record Tells (sizes : Sizes) (key : Key) (cs : List (Component × GuideState)) (newer : Option Rec) (result : Result (Option Rec) Broken) (old : DiskState) : Type 0 where
  pub told : IfOk result (λ found. IsTrue old.is_honest → AreToldBy sizes key old.bytes cs newer found)
  pub damaged : (n : ℕ) → result ≡ Err (Damaged n) → IsTrue old.is_honest → IsDamageBelow sizes key old.bytes cs newer n

told_last : (H : Type 0) (sizes : Sizes) (key : Key) (file : List ℕ) (c : Component × GuideState) (newer : Option Rec) (result : Result (Option Rec) Broken)
    → IfOk result (λ found. H → IsToldBy sizes key file c newer found) → IfOk result (λ found. H → AreToldBy sizes key file (c ∷ []) newer found)
told_last H sizes key file c newer result h1 = grind (arith, common_steps, nat_tests)

-- the last one
pub tells_last : {newer : Option Rec} {result : Result (Option Rec) Broken} {old : DiskState} (sizes : Sizes) (key : Key) (c : Component × GuideState) → TellsOne sizes key c newer result old → Tells sizes key (c ∷ []) newer result old
tells_last {newer} {result} {old} sizes key c one = record {
  told = told_last (IsTrue old.is_honest) sizes key old.bytes c newer result one.told;
  damaged = λ n named honest. inl (one.damaged n named honest);
}

-- one that failed, before others
pub tells_failed : {newer : Option Rec} {broken : Broken} {result : Result (Option Rec) Broken} {old : DiskState} (sizes : Sizes) (key : Key) (c : Component × GuideState) (cs : List (Component × GuideState))
    → TellsOne sizes key c newer (Err broken) old → result ≡ Err broken → Tells sizes key (c ∷ cs) newer result old
tells_failed {newer} {broken} {result} {old} sizes key c cs one is = record {
  told = subst (λ (r : Result (Option Rec) Broken). IfOk r (λ found. IsTrue old.is_honest → AreToldBy sizes key old.bytes (c ∷ cs) newer found)) (sym is) tt;
  damaged = λ n named honest. inl (one.damaged n (sym is ∙ named) honest);
}

-- one before others
pub tells_behind : {newer found : Option Rec} {result : Result (Option Rec) Broken} {end most : ℕ} {old mid : DiskState} (sizes : Sizes) (key : Key) (c : Component × GuideState) (cs : List (Component × GuideState))
    → TellsOne sizes key c newer (Ok found) old → OnlyReads end most old mid → Tells sizes key cs found result mid → Tells sizes key (c ∷ cs) newer result old
tells_behind {newer} {found} {result} {end} {most} {old} {mid} sizes key c cs one reads rest = grind (arith, common_steps, nat_tests)
