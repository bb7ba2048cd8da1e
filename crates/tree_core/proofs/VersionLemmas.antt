-- How many commits a disk tells, where the core is stopped: as many as the machine counted, or one more that failed.
use Rattle.std.specs.Prelude.{◌≡◌, ◌⊎◌, ℕ, ◌+◌, List}
use Rattle.std.proofs.lemmas.Grind.{common_steps}
use Rattle.std.proofs.lemmas.Bool.Decides.{nat_tests}
use Rattle.std.proofs.Common.{arith}
use Rattle.std.proofs.Common.{◌∙◌, inl, inr, refl, ap, sym, subst}
use Rattle.blsm_model.specs.Sizes.{Sizes}
use Rattle.catalog_swap.specs.declared.catalog.Catalog.{Catalog}
use Rattle.disk_trait.specs.Disk.{DiskState}
use Rattle.gear_sched.specs.Gears.{GearState}
use Rattle.pacing.specs.Steps.{Move}
use Rattle.tree_machine.specs.Machine.{Machine, Catalogue}
use Rattle.tree_file.specs.Tree.{Tree}
use Rattle.tree_file.specs.Places.{HoldsEither, StandsOn, StandsOnEither}
use Rattle.tree_runs.specs.Holding.{AreOf}
use Rattle.core_moves.specs.declared.held.Held.{Held}
use Rattle.core_lists.specs.Standing.{HoldsMachine}
use Rattle.core_lists.specs.Shown.{CommitsAs, HasCommitted, HasVersion}
use Rattle.tree_core.specs.Quanta.{MakesTree}

-- the tree's version is the machine's
pub version_of : (held : Held) (tree : Tree) (m : Machine) (file : List ℕ) → AreOf held.runs tree file → HoldsMachine held tree m
    → tree.catalogue.version ≡ m.catalogue.version
version_of held tree m file of holds = ap (λ (k : Catalog). k.version) of.catalogue ∙ sym (ap (λ (k : Catalogue). k.version) holds.catalogue)

-- A disk that holds the tree of a version, or the one after its commit, commits as the machine of that version.
has_either : (sizes : Sizes) (version : ℕ) (tree next : Tree) (file : List ℕ) → tree.catalogue.version ≡ version → (next.catalogue.version ≡ tree.catalogue.version) ⊎ (next.catalogue.version ≡ tree.catalogue.version + 1)
    → HoldsEither sizes tree next file → HasVersion sizes version file
has_either sizes version tree next file is then (inl here) = record { tree = tree; holds = here; one = inl is }
has_either sizes version tree next file is (inl same) (inr here) = record { tree = next; holds = here; one = inl (same ∙ is) }
has_either sizes version tree next file is (inr more) (inr here) = record { tree = next; holds = here; one = inr (more ∙ ap (λ (n : ℕ). n + 1) is) }

pub either_commits : (sizes of : Sizes) (version : ℕ) (tree next : Tree) (d : DiskState) → sizes ≡ of → tree.catalogue.version ≡ version
    → (next.catalogue.version ≡ tree.catalogue.version) ⊎ (next.catalogue.version ≡ tree.catalogue.version + 1) → StandsOnEither of tree next d → HasCommitted sizes version d
either_commits sizes of version tree next d same is then stands = subst (λ (z : Sizes). HasCommitted z version d) (sym same) (record {
  reads = has_either of version tree next d.bytes is then stands.reads;
  each = λ c left. has_either of version tree next c is then (stands.each c left);
})

pub one_commits : (sizes of : Sizes) (version : ℕ) (tree : Tree) (d : DiskState) → sizes ≡ of → tree.catalogue.version ≡ version → StandsOn of tree d → HasCommitted sizes version d
one_commits sizes of version tree d same is stands =
    either_commits sizes of version tree tree d same is (inl refl) (record { reads = inl stands.reads; each = λ c left. inl (stands.each c left) })

-- a machine of the same sizes and catalogue commits so on a disk that reads as before
pub commits_still : (m after : Machine) (d d2 : DiskState) → after.gears ≡ m.gears → after.catalogue ≡ m.catalogue → d2.bytes ≡ d.bytes → ((c : List ℕ) → d2.images c → d.images c) → CommitsAs m d → CommitsAs after d2
commits_still m after d d2 gears catalogue bytes images commits =
    subst (λ (g : GearState). HasCommitted g.sizes after.catalogue.version d2) (sym gears)
    (subst (λ (k : Catalogue). HasCommitted m.gears.sizes k.version d2) (sym catalogue) (record {
      reads = subst (λ (file : List ℕ). HasVersion m.gears.sizes m.catalogue.version file) (sym bytes) commits.reads;
      each = λ c left. commits.each c (images c left);
    }))

-- a move commits once at most
pub moved_version : (mv : Move) (held : Held) (tree next : Tree) → MakesTree mv held tree next → (next.catalogue.version ≡ tree.catalogue.version) ⊎ (next.catalogue.version ≡ tree.catalogue.version + 1)
moved_version mv held tree next h1 = grind (arith, common_steps, nat_tests)
