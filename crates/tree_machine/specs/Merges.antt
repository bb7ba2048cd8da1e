-- Merges of two sorted lists. A merge takes whole key groups, the records of one key in both lists, by rising key, and
-- folds each. Up to its cursor, the greatest key that it took, it has done so.
use Rattle.std.specs.Prelude.{ℕ, ◌+◌, ◌-◌, Bool, true, false, ◌&&◌, [], ◌∷◌, ◌++◌, Option, Some, None, sum_by, if◌then◌else◌, nat_lt}
use Rattle.blsm_model.specs.declared.key.Key.{Key}
use Rattle.record_delta.specs.declared.record.Rec.{Rec}
use Rattle.record_delta.specs.Records.{weight}
use Rattle.record_delta.specs.Entries.{Entries, above, folded_over, record_of_key}

-- a running merge: the greatest key that it took, if any, and what it wrote
pub record Merge : Type 0 where
  pub cursor : Option Key
  pub output : Entries

-- a merge that begins has taken nothing
abbrev pub begun : Merge
begun = record { cursor = None; output = [] }

abbrev pub is_empty : Entries → Bool
is_empty [] = true
is_empty (e ∷ entries) = false

-- nothing is left ahead of the cursor
abbrev pub is_done : Merge → Entries → Entries → Bool
is_done merge newer older = is_empty (above merge.cursor newer) && is_empty (above merge.cursor older)

abbrev pub weight_of_any : Key → Option Rec → ℕ
weight_of_any key None = 0
weight_of_any key (Some rec) = weight key rec

-- the weight of a key's group: of its records in both lists
abbrev pub group_weight : Entries → Entries → Key → ℕ
group_weight newer older key = weight_of_any key (record_of_key key newer) + weight_of_any key (record_of_key key older)

-- groups from the front, until they weigh this much at least, or none is left
abbrev pub until : ℕ → (Key → ℕ) → Entries → Entries
until wanted weigh [] = []
until wanted weigh (e ∷ groups) = e ∷ (if nat_lt (weigh e.0) wanted then until (wanted - weigh e.0) weigh groups else [])

-- the folded groups that a quantum takes of these lists
abbrev pub groups_taken : ℕ → Entries → Entries → Entries
groups_taken quantum newer older = until quantum (group_weight newer older) (folded_over newer older)

-- the greatest of these keys, or else the cursor
abbrev pub cursor_after : Option Key → Entries → Option Key
cursor_after cursor [] = cursor
cursor_after cursor (e ∷ groups) = cursor_after (Some e.0) groups

-- what one quantum takes: the groups, and the weight of their records
pub record Taken : Type 0 where
  pub groups : Entries
  pub weight : ℕ

abbrev pub quantum_of : ℕ → Merge → Entries → Entries → Taken
quantum_of quantum merge newer older =
    let newer_left = above merge.cursor newer in
    let older_left = above merge.cursor older in
    let groups = groups_taken quantum newer_left older_left in
    record { groups = groups; weight = sum_by (λ e. group_weight newer_left older_left e.0) groups }

-- the merge after it, where it writes this
abbrev pub moved_on : Merge → Entries → Entries → Merge
moved_on merge groups written = record { cursor = cursor_after merge.cursor groups; output = merge.output ++ written }
