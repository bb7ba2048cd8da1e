-- Laws of `specs/Moments`.
use Rattle.std.proofs.lemmas.Bool.Decides.{nat_tests}
use Rattle.std.proofs.lemmas.Grind.{common_steps}
use Rattle.std.specs.Prelude.{◌<◌, ◌⊎◌, ℕ, ◌≤◌, List, refl}
use Rattle.std.proofs.Common.{inl, inr, ⊎_elim, arith}
use Rattle.disk_trait.specs.Disk.{DiskState, GoesOn, Passes, MarksSync}
use Rattle.disk_trait.specs.Moments.{IsTimed, LeavesOnly, LeavesOnlyOnceSynced, IsOldOr, SyncsLater}

-- what goes on through two runs
pub goes_on_start : (d : DiskState) → GoesOn d d
goes_on_start d = record { tells_bytes = refl; tells_images = refl; is_honest = refl; sure_up_to = refl; clock = omega arith; faults = omega arith }

pub goes_on_run : {old mid new : DiskState} → GoesOn old mid → GoesOn mid new → GoesOn old new
goes_on_run h1 h2 = grind (arith, common_steps, nat_tests)

-- before the first call
pub leaves_only_start : (d : DiskState) (P : List ℕ → Type 0) → IsTimed d → ((c : List ℕ) → d.images c → P c) → LeavesOnly d d P
leaves_only_start d P timed here = record { later = omega arith; each = λ c left. here c (timed.only_now c left); before = λ t c le left. inl left }

-- one call more, after which each image has P
pub leaves_only_call : {old mid new : DiskState} {P : List ℕ → Type 0} → LeavesOnly old mid P → Passes mid new → ((c : List ℕ) → new.images c → P c) → LeavesOnly old new P
leaves_only_call h1 h2 h3 = grind (arith, common_steps, nat_tests)

-- a run after a run
pub leaves_only_run : {old mid new : DiskState} {P : List ℕ → Type 0} → LeavesOnly old mid P → LeavesOnly mid new P → LeavesOnly old new P
leaves_only_run h1 h2 = grind (arith, common_steps, nat_tests)

-- what has P has Q
pub leaves_only_weaken : {old new : DiskState} {P Q : List ℕ → Type 0} → ((c : List ℕ) → P c → Q c) → LeavesOnly old new P → LeavesOnly old new Q
leaves_only_weaken so run = record { later = run.later; each = λ c left. so c (run.each c left); before = λ t c le left. ⊎_elim (λ l. inl l) (λ p. inr (so c p)) (run.before t c le left) }

-- Each image now is one since any moment so far.
pub leaves_only_now : {old new : DiskState} {P : List ℕ → Type 0} → IsTimed new → LeavesOnly old new P → (c : List ℕ) → new.images c → P c
leaves_only_now {old} {new} timed run c here = run.each c (timed.counts_now old.clock c run.later here)

-- a run that leaves only what a crash before it might have left
pub leaves_only_kept : {old mid new : DiskState} {P : List ℕ → Type 0} → IsTimed mid → LeavesOnly old mid P → LeavesOnly mid new mid.images → LeavesOnly old new P
leaves_only_kept timed so_far run = leaves_only_run so_far (leaves_only_weaken (leaves_only_now timed so_far) run)

-- a run that leaves only old files or ones that have P, behind one that leaves only old files
pub old_or_behind : {old mid new : DiskState} {P : List ℕ → Type 0} → IsTimed mid → LeavesOnly old mid old.images → LeavesOnly mid new (IsOldOr mid.images P)
    → LeavesOnly old new (IsOldOr old.images P)
old_or_behind h1 h2 h3 = grind (arith, common_steps, nat_tests)

-- no sync before the first call
pub no_sync_start : (d : DiskState) → MarksSync ⊥ d d
no_sync_start d = record { none_else = λ t at. inl at; none_lost = λ t at. at; now = λ tells never. absurd never; later = λ tells never. absurd never }

-- none in a run after a run, where there is none in either
pub no_sync_run : {old mid new : DiskState} → MarksSync ⊥ old mid → MarksSync ⊥ mid new → MarksSync ⊥ old new
no_sync_run h1 h2 = grind (arith, common_steps, nat_tests)

-- before the first call
pub syncs_later_start : (d : DiskState) → SyncsLater d d
syncs_later_start d = record { none_else = λ t at. inl at; none_lost = λ t at. at }

-- one call, or a run that makes no sync
pub syncs_later_call : {old new : DiskState} (ended_well : Type 0) → MarksSync ended_well old new → SyncsLater old new
syncs_later_call ended_well h1 = grind (arith, common_steps, nat_tests)

-- a run after a run
pub syncs_later_run : {old mid new : DiskState} → old.clock ≤ mid.clock → SyncsLater old mid → SyncsLater mid new → SyncsLater old new
syncs_later_run h1 h2 h3 = grind (arith, common_steps, nat_tests)

-- no sync before the first call
pub once_synced_start : (d : DiskState) (P : List ℕ → Type 0) → IsTimed d → LeavesOnlyOnceSynced d d P
once_synced_start d P h1 = grind (arith, common_steps, nat_tests)

-- one call more, after which each image has P once a sync has ended well
pub once_synced_call : {old mid new : DiskState} {P : List ℕ → Type 0} (ended_well : Type 0) → LeavesOnlyOnceSynced old mid P → Passes mid new → MarksSync ended_well mid new
    → IsTimed mid → IsTimed new
    → ((t : ℕ) (c : List ℕ) → old.clock < t → new.synced_at t → new.images c → P c) → LeavesOnlyOnceSynced old new P
once_synced_call ended_well h1 h2 h3 h4 h5 h6 = grind (arith, common_steps, nat_tests)

-- a run behind one that made no sync
pub once_synced_behind : {old mid new : DiskState} {P : List ℕ → Type 0} → IsTimed old → old.clock ≤ mid.clock → MarksSync ⊥ old mid → LeavesOnlyOnceSynced mid new P
    → LeavesOnlyOnceSynced old new P
once_synced_behind h1 h2 h3 h4 = grind (arith, common_steps, nat_tests)

-- a run, with syncs or without, at each moment of which a crash leaves a file that has P
pub once_synced_more : {start old new : DiskState} {P : List ℕ → Type 0} → IsTimed old → IsTimed new → LeavesOnlyOnceSynced start old P → LeavesOnly old new P → SyncsLater old new
    → LeavesOnlyOnceSynced start new P
once_synced_more h1 h2 h3 h4 h5 = grind (arith, common_steps, nat_tests)

-- a run without a sync that leaves only what a crash before it might have left
pub once_synced_kept : {start old new : DiskState} {P : List ℕ → Type 0} → IsTimed old → LeavesOnlyOnceSynced start old P → LeavesOnly old new old.images → MarksSync ⊥ old new
    → LeavesOnlyOnceSynced start new P
once_synced_kept h1 h2 h3 h4 = grind (arith, common_steps, nat_tests)

-- what has P has Q
pub once_synced_weaken : {old new : DiskState} {P Q : List ℕ → Type 0} → ((c : List ℕ) → P c → Q c) → LeavesOnlyOnceSynced old new P → LeavesOnlyOnceSynced old new Q
once_synced_weaken so run = record { later = run.later; each = λ t c after at left. so c (run.each t c after at left); before = run.before }
