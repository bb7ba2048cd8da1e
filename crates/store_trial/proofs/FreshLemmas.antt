-- The disk of an empty store: how it is made, and that no call within its file fails.
use Rattle.std.proofs.Common.{◌≡◌, ◌≤◌, ◌<◌, ◌∙◌, ℕ, [], Result, Err, IsTrue, ap, subst, refl, length, max, arith}
use Rattle.disk_trait.specs.Disk.{DiskState, TellsFaultsBy}
use Rattle.disk_trait.specs.Effects.{Affects}
use Rattle.disk_trait.specs.Region.{Region}
use Rattle.blsm_model.specs.Geometry.{file_length}
use Rattle.blsm_model.specs.Sizes.{Sizes, default_sizes}
use Rattle.disk_mem.specs.Faultless.{Faultless, faultless_state}
use Rattle.store_file.specs.Layout.{superblock_length}
use Rattle.recover_open.specs.Making.{IsEmptyStore, IsMadeEmpty, WasNotEmpty}
use Rattle.recover_open.specs.declared.making.NotMade.{NotMade}
use Rattle.recover_open.specs.declared.making.NotMade.TheVariants.{NotEmpty, Fault}
use Rattle.tree_session.specs.Faults.{Reaches}
use Rattle.store_trial.specs.Trial.{IsFreshStore}

some_length : (n : ℕ) → n ≡ file_length default_sizes → superblock_length < n
some_length n is = omega (arith, is)

-- On an empty disk with room for the file of a store no call within that fails.
module _ (sizes : Sizes) (limit : ℕ) (region : Region) (calls : ℕ) (old new : Faultless) (sizes_are : sizes ≡ default_sizes) (limit_is : limit ≡ file_length sizes)
    (was : old ≡ record { bytes = []; calls = 0; faults = 0; limit = limit }) (effect : Affects region (file_length sizes) calls (faultless_state old) (faultless_state new)) where
  limit_was : old.limit ≡ file_length sizes
  limit_was = ap (λ (d : Faultless). d.limit) was ∙ limit_is

  stands : new.faults ≡ 0
  stands =
      let some = some_length old.limit (limit_was ∙ ap file_length sizes_are) in
      effect.sure (omega (arith, some)) (omega (arith, limit_was)) ∙ ap (λ (d : Faultless). d.faults) was

  pub is_fresh : IsMadeEmpty sizes (faultless_state new) → length new.bytes ≡ file_length sizes → IsFreshStore new
  is_fresh made long = record {
    empty = subst (λ (s : Sizes). IsEmptyStore s new.bytes) sizes_are made.reads;
    long = long ∙ ap file_length sizes_are;
    limit = effect.goes_on.sure_up_to ∙ limit_was ∙ ap file_length sizes_are;
    faults = stands;
  }

  -- so the store is made
  pub no_failure : (result : Result (Unit {0}) NotMade) → ((n : ℕ) → result ≡ Err (NotEmpty n) → WasNotEmpty n (faultless_state old) (faultless_state new))
      → TellsFaultsBy (Err Fault) result (faultless_state old) (faultless_state new) → (why : NotMade) → result ≡ Err why → ⊥
  no_failure result not_empty tells (NotEmpty n) is =
      let told = not_empty n is in
      omega (arith, told.some, told.length_is refl, ap (λ (d : Faultless). length d.bytes) was)
  no_failure result not_empty tells Fault is = omega (arith, tells.failed is, stands, ap (λ (d : Faultless). d.faults) was)

-- No call within the file of an empty store fails.
pub stays_calm : (disk : Faultless) (last : DiskState) → IsFreshStore disk
    → ((end : ℕ) × (calls : ℕ) × (IsTrue (faultless_state disk).tells_bytes → end ≤ max superblock_length (length disk.bytes)) × Reaches end calls (faultless_state disk) last)
    → last.faults ≡ 0
stays_calm disk last fresh run =
    let some = some_length disk.limit fresh.limit in
    let inside = run.2 refl in
    run.3.sure (omega (arith, some)) (omega (arith, inside, some, fresh.long, fresh.limit)) ∙ fresh.faults
