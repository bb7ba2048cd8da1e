-- What a deep merge has finished of its run: its pages stay finished where they keep their tag, and where other pages are written, and the open one.
use Rattle.std.specs.Prelude.{◌≡◌, ℕ, Bool, List, [], Option, Some, None, refl}
use Rattle.std.specs.List.{Contains}
use Rattle.std.proofs.Common.{inl, sym, subst, arith}
use Rattle.disk_trait.specs.Region.{AreApart, IsWithin}
use Rattle.blsm_model.specs.Sizes.{Sizes}
use Rattle.page_space.specs.Space.{SpaceState, HasRole}
use Rattle.page_file.specs.Component.{RunPage, numbers_of}
use Rattle.page_file.specs.File.{pages_region}
use Rattle.page_file.proofs.PageLemmas.{others_apart}
use Rattle.run_writer.specs.Writer.{role_region}
use Rattle.run_writer.proofs.RegionLemmas.{closed_page_apart, open_tagged}
use Rattle.merge_ends.specs.Quantum.{grown_region}
use Rattle.deep_merge.specs.Merge.{DeepState}
use Rattle.tree_runs.specs.Runs.{GuideState, RunsState, AreRunning, DeepRuns, DeepHasTag, HasOneTag, guide_at}
use Rattle.tree_runs.specs.Holding.{AreFinished}
use Rattle.tree_runs.specs.Writing.{open_of_deep}

none_in : (n : ℕ) → Contains {X = ℕ} [] n → ⊥
none_in n has = omega (arith, has.1)

-- no page is always finished
pub nothing_finished : (space : SpaceState) (deep : Option DeepState) → AreFinished space deep []
nothing_finished space None = refl
nothing_finished space (Some merge) = λ n has. absurd (none_in n has)

pub finished_still : (space after : SpaceState) (tag : ℕ) (deep : Option DeepState) (pages : List RunPage) → DeepHasTag tag deep
    → ((n : ℕ) → HasRole space tag n → HasRole after tag n) → AreFinished space deep pages → AreFinished after deep pages
finished_still space after tag None pages has kept finished = finished
finished_still space after tag (Some merge) pages has kept finished = λ n among.
    let is = finished n among in
    (subst (λ (r : ℕ). HasRole after r n) (sym has) (kept n (subst (λ (r : ℕ). HasRole space r n) has is.0)), is.1)

-- they aren't of another tag
tag_of_finished : (space : SpaceState) (tag : ℕ) (deep : Option DeepState) (pages : List RunPage) → DeepHasTag tag deep → AreFinished space deep pages
    → (n : ℕ) → Contains (numbers_of pages) n → HasRole space tag n
tag_of_finished space tag None pages has finished n among = absurd (none_in n (subst (λ (ps : List RunPage). Contains (numbers_of ps) n) finished among))
tag_of_finished space tag (Some merge) pages has finished n among = subst (λ (r : ℕ). HasRole space r n) has (finished n among).0

pub finished_other : (sizes : Sizes) (space : SpaceState) (role tag : ℕ) (deep : Option DeepState) (pages : List RunPage) → HasOneTag space → (role ≡ tag → ⊥)
    → DeepHasTag tag deep → AreFinished space deep pages → AreApart (role_region sizes space role) (pages_region sizes (numbers_of pages))
finished_other sizes space role tag deep pages one_tag differs has finished i here there =
    let tagged = tag_of_finished space tag deep pages has finished there.0 there.1 in
    others_apart sizes here.0 there.0
    (λ same. differs (one_tag here.0 role tag here.1 (subst (HasRole space tag) (sym same) tagged))) i here.2 there.2

-- nor where their run grows, or writes its last page
pub finished_grown : (sizes : Sizes) (space after : SpaceState) (merge : DeepState) (pages : List RunPage) → AreFinished space (Some merge) pages
    → AreApart (grown_region sizes space after merge.writer) (pages_region sizes (numbers_of pages))
finished_grown sizes space after merge pages finished i here there = closed_page_apart sizes space merge.writer there.0 (finished there.0 there.1) i here.1 there.2

pub finished_open : (sizes : Sizes) (space : SpaceState) (deep : Option DeepState) (pages : List RunPage) → AreFinished space deep pages
    → AreApart (open_of_deep sizes deep) (pages_region sizes (numbers_of pages))
finished_open sizes space None pages finished i here there = here
finished_open sizes space (Some merge) pages finished i here there = closed_page_apart sizes space merge.writer there.0 (finished there.0 there.1) i (inl here) there.2

-- the open page has the run's tag
open_within : (sizes : Sizes) (honest : Bool) (file : List ℕ) (space : SpaceState) (tag : ℕ) (guide : GuideState) (deep : Option DeepState) → DeepHasTag tag deep
    → DeepRuns sizes honest file space guide deep → IsWithin (open_of_deep sizes deep) (role_region sizes space tag)
open_within sizes honest file space tag guide None has runs i here = absurd here
open_within sizes honest file space tag guide (Some merge) has runs i here =
    subst (λ (r : ℕ). role_region sizes space r i) has
    (open_tagged sizes honest file space merge.writer guide.filter guide.fences runs.run.out runs.run.pushed i here)

pub deep_open_within : (runs : RunsState) (honest : Bool) (file : List ℕ) → AreRunning honest file runs
    → IsWithin (open_of_deep runs.sizes runs.deep) (role_region runs.sizes runs.space runs.tags.deep)
deep_open_within runs honest file running =
    open_within runs.sizes honest file runs.space runs.tags.deep (guide_at runs.guides runs.tags.deep) runs.deep running.in_order.deep_tag running.deep
