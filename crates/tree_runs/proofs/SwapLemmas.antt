-- What a swap leaves of the tree that stood.
use Rattle.std.specs.Prelude.{◌≡◌, ◌≢◌, ◌⊎◌, ℕ, Bool, IsTrue, List, [], ◌∷◌}
use Rattle.std.proofs.lemmas.Grind.{common_steps}
use Rattle.std.proofs.lemmas.Bool.Decides.{nat_tests}
use Rattle.std.specs.List.{Contains}
use Rattle.std.proofs.Common.{inl, inr, arith}
use Rattle.std.proofs.lemmas.List.{append-nil}
use Rattle.disk_trait.specs.Disk.{DiskState}
use Rattle.disk_trait.specs.Region.{Region}
use Rattle.disk_trait.specs.Effects.{Affects}
use Rattle.disk_trait.proofs.EffectLemmas.{affects_wider, affects_more}
use Rattle.disk_trait.specs.Moments.{IsTimed, LeavesOnly}
use Rattle.disk_trait.specs.Region.{Region, AreApart, IsWithin}
use Rattle.disk_trait.proofs.MomentLemmas.{leaves_only_weaken}
use Rattle.blsm_model.specs.Lanes.{AreRoles}
use Rattle.record_delta.specs.Entries.{Entries, settled_entries}
use Rattle.page_space.specs.Space.{HasRole}
use Rattle.page_file.specs.Component.{RunPage, entries_of, numbers_of}
use Rattle.page_file.specs.File.{pages_region}
use Rattle.run_writer.specs.Writer.{role_region}
use Rattle.tree_machine.specs.Layers.{AreBases}
use Rattle.tree_file.specs.Tree.{Tree, HoldsTree, live_pages}
use Rattle.tree_file.specs.Places.{StandsOn, Becomes}
use Rattle.tree_file.proofs.StandLemmas.{stands_beside, becomes_behind}
use Rattle.tree_runs.specs.Runs.{RunsState, AreRuns, AreRunning}
use Rattle.tree_runs.specs.Holding.{AreOf, StandOver, LeavesSwapped}
use Rattle.tree_runs.specs.Holding.{commit_region}
use Rattle.tree_runs.proofs.KeptMerges.{KeepsRun, KeepsPages}
use Rattle.tree_runs.proofs.SwapRegions.{swap_apart}
use Rattle.tree_runs.proofs.StayLemmas.{not_live, role_is_beside}
use Rattle.tree_runs.proofs.QuantumLemmas.{IsRunTag, deep_is_run, pass_is_run}
use Rattle.tree_runs.proofs.FinishedLemmas.{deep_open_within, finished_open, finished_other}
use Rattle.tree_runs.specs.Writing.{open_of_deep}
use Rattle.tree_runs.proofs.Terms.{swap_region}

-- ---- a tag that is no component's

-- the run's pages aren't the tree's
pub run_others : {tree : Tree} {file : List ℕ} (runs : RunsState) (tag : ℕ) → AreRuns runs → IsRunTag runs.tags tag → AreOf runs tree file
    → (n : ℕ) → HasRole runs.space tag n → Contains (live_pages tree) n → ⊥
run_others {tree} runs tag are is of = not_live runs.tags tree runs.space tag are.one_tag is.c1 is.c1x is.c2 of.c1 of.c1x of.c2

-- Once the run is finished the disk stands on the tree still.
stands_finished : {region : Region} {tree : Tree} {end most : ℕ} {old new : DiskState} (runs : RunsState) (tag : ℕ) → AreRuns runs
    → IsRunTag runs.tags tag
    → StandOver runs tree old → Affects region end most old new → IsWithin region (role_region runs.sizes runs.space tag)
    → AreApart region (pages_region runs.sizes (numbers_of tree.output)) → IsTrue old.is_honest → IsTimed new → StandsOn runs.sizes tree new × LeavesOnly old new (HoldsTree runs.sizes tree)
stands_finished {tree = tree} {old = old} runs tag are is over effect within finished honest timed =
    stands_beside runs.sizes tree effect
    (role_is_beside runs.sizes tree runs.space tag old.bytes over.stands.reads are.shape are.pages is.below (run_others runs tag are is over.are_of) within finished)
    honest timed over.stands

pub stands_behind_pass : {tree : Tree} {end most : ℕ} {old new : DiskState} (runs : RunsState) → AreRuns runs → StandOver runs tree old
    → Affects (role_region runs.sizes runs.space runs.tags.pass) end most old new → IsTrue old.is_honest → IsTimed new
    → StandsOn runs.sizes tree new × LeavesOnly old new (HoldsTree runs.sizes tree)
stands_behind_pass {tree} runs are over effect =
    stands_finished runs runs.tags.pass are (pass_is_run runs are) over effect (λ i here. here)
    (finished_other runs.sizes runs.space runs.tags.pass runs.tags.deep runs.deep tree.output are.one_tag are.tags.pass_deep are.deep_tag over.are_of.output)

pub stands_behind_deep : {tree : Tree} {end most : ℕ} {old new : DiskState} (runs : RunsState) → AreRunning old.is_honest old.bytes runs
    → StandOver runs tree old
    → Affects (open_of_deep runs.sizes runs.deep) end most old new → IsTrue old.is_honest → IsTimed new
    → StandsOn runs.sizes tree new × LeavesOnly old new (HoldsTree runs.sizes tree)
stands_behind_deep {tree} {old = old} runs running over effect =
    let are = running.in_order in
    stands_finished runs runs.tags.deep are (deep_is_run runs are) over effect (deep_open_within runs old.is_honest old.bytes running)
    (finished_open runs.sizes runs.space runs.deep tree.output over.are_of.output)

-- ---- what is said of both

-- the commit failed, or was done
pub leaves_swapped : {done committed : Bool} {old mid new : DiskState} (runs after : RunsState) (tree next : Tree)
    → LeavesOnly old mid (HoldsTree runs.sizes tree) → Becomes runs.sizes tree next committed mid new
    → (IsTrue done → StandOver after next new) → LeavesSwapped runs after tree next done old new
leaves_swapped runs after tree next first becomes stands = record { each = (becomes_behind first becomes).each; either = becomes.either; stands = stands }

-- or there was none
pub leaves_unswapped : {done : Bool} {old new : DiskState} (runs after : RunsState) (tree next : Tree) → StandsOn runs.sizes tree new
    → LeavesOnly old new (HoldsTree runs.sizes tree) → (IsTrue done → ⊥)
    → LeavesSwapped runs after tree next done old new
leaves_unswapped runs after tree next stands each not_done = record {
  each = leaves_only_weaken (λ c holds. inl holds) each;
  either = record { reads = inl stands.reads; each = λ c left. inl (stands.each c left) };
  stands = λ well. absurd (not_done well);
}

-- one region for both
pub both_effects : {region : Region} {end : ℕ} {old mid new : DiskState} (runs : RunsState) → IsTimed mid → mid.faults ≡ old.faults → Affects region end 1 old mid
    → Affects (commit_region runs.sizes runs.catalogue) end 8 mid new → Affects (λ i. region i ⊎ commit_region runs.sizes runs.catalogue i) end 9 old new
both_effects {region} {end} {old} {mid} {new} runs timed calm first second =
    let wide : Affects (λ i. region i ⊎ commit_region runs.sizes runs.catalogue i) end 1 old mid = affects_wider (λ i here. inl here) (omega arith) (omega arith) first in
    affects_more timed calm wide second (λ i here. inr here) (omega arith) (omega arith)

pub swap_effect : {end : ℕ} {old mid new : DiskState} (runs : RunsState) (tag : ℕ) → IsTimed mid → mid.faults ≡ old.faults → Affects (role_region runs.sizes runs.space tag) end 1 old mid
    → Affects (commit_region runs.sizes runs.catalogue) end 8 mid new → Affects (swap_region runs.sizes runs.space tag runs.catalogue) end 9 old new
swap_effect {end} {old} {mid} {new} runs tag timed calm first second = both_effects runs timed calm first second

-- what another run and its inputs keep
pub swap_keeps : {end most : ℕ} {old new : DiskState} (honest : Bool) (runs : RunsState) (of_run tag : ℕ) → (IsTrue honest → IsTrue old.is_honest) → AreRuns runs → AreRoles runs.catalogue.lanes → of_run ≢ tag
    → Affects (swap_region runs.sizes runs.space of_run runs.catalogue) end most old new
    → KeepsRun runs.sizes honest (swap_region runs.sizes runs.space of_run runs.catalogue) old.bytes new.bytes runs.space runs.space tag
swap_keeps honest runs of_run tag so are roles differs effect = record {
  no_more = λ n has. has;
  tagged = λ n has. has;
  same = λ told. effect.bytes (so told);
  apart = swap_apart runs.sizes runs.space of_run tag runs.catalogue are.geometry roles are.one_tag differs;
}

pub swap_pages : (runs : RunsState) (of_run tag : ℕ) → AreRuns runs → AreRoles runs.catalogue.lanes → of_run ≢ tag
    → KeepsPages runs.sizes runs.space runs.space (swap_region runs.sizes runs.space of_run runs.catalogue) tag
swap_pages runs of_run tag are roles differs = record { tagged = λ n has. has; apart = swap_apart runs.sizes runs.space of_run tag runs.catalogue are.geometry roles are.one_tag differs }

-- ---- what is settled has bases only

pub settled_bases : (es : Entries) → AreBases (settled_entries es)
settled_bases [] = tt
settled_bases (e ∷ es) = grind (arith, common_steps, nat_tests, settled_bases es)

-- a list on one page, for a swap that wrote none
pub one_page : Entries → List RunPage
one_page entries = record { number = 0; entries = entries } ∷ []

pub one_page_entries : (entries : Entries) → entries_of (one_page entries) ≡ entries
unfolding one_page
one_page_entries entries = append-nil entries
