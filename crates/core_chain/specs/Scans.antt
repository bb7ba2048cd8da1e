-- How often the nexts of one seat's hold call the disk together, over a chain of calls.
use Rattle.std.specs.Prelude.{◌≡◌, ⊤, ℕ, ◌+◌, ◌-◌, ◌*◌, ◌≤◌, Bool, true, false, ◌&&◌, nat_eq, if◌then◌else◌, List, [], ◌∷◌, ◌++◌, length}
use Rattle.blsm_model.specs.Book.{entry_at}
use Rattle.blsm_model.specs.declared.history.Reply.{Reply}
use Rattle.blsm_model.specs.declared.history.Reply.TheVariants as reply
use Rattle.disk_trait.specs.Disk.{DiskState}
use Rattle.scan_view.specs.Holds.{hold_of, pages_behind}
use Rattle.tree_machine.specs.declared.step.Kind.{Kind}
use Rattle.tree_machine.specs.declared.step.Kind.TheVariants as kind
use Rattle.tree_machine.specs.declared.step.Step.{Step}
use Rattle.tree_core.specs.Core.{CoreState}

abbrev pub is_next : Kind → Bool
is_next (kind.Next n) = true
is_next _ = false

-- it makes a hold, or drops one
abbrev pub changes_hold : Kind → Bool
changes_hold (kind.Hold low high) = true
changes_hold kind.Release = true
changes_hold _ = false

abbrev pub has_rows : Reply → Bool
has_rows (reply.Rows rows) = true
has_rows _ = false

-- the reply that was noted last
abbrev pub newest_reply : {D : Type 0} → CoreState D → Reply
newest_reply core = (entry_at core.held.book.book (length core.held.book.book.entries - 1)).reply

-- a next of this seat
abbrev pub is_next_of : ℕ → Step → Bool
is_next_of seat step = nat_eq step.seat seat && is_next step.kind

-- among these calls the seat makes no hold and drops none, and each of its nexts gives rows
abbrev pub ReadsWell : {D : Type 0} → ℕ → List (Step × CoreState D) → Type 0
ReadsWell seat [] = ⊤
ReadsWell seat (one ∷ calls) =
    (one.0.seat ≡ seat → (changes_hold one.0.kind ≡ false) × (is_next one.0.kind ≡ true → has_rows (newest_reply one.1) ≡ true)) × ReadsWell seat calls

-- how many nexts of the seat there are
abbrev pub nexts_of : {D : Type 0} → ℕ → List (Step × CoreState D) → ℕ
nexts_of seat [] = 0
nexts_of seat (one ∷ calls) = (if is_next_of seat one.0 then 1 else 0) + nexts_of seat calls

-- and how often they called the disk, by its clock
abbrev pub calls_of_nexts : {D : Type 0} → (D → DiskState) → ℕ → List (Step × CoreState D) → CoreState D → ℕ
calls_of_nexts state seat [] old = 0
calls_of_nexts state seat (one ∷ calls) old = (if is_next_of seat one.0 then (state one.1.disk).clock - (state old.disk).clock else 0) + calls_of_nexts state seat calls one.1

-- at most three times for each, and once for each page that its hold had ahead and has no more
abbrev pub ReadOnce : {D : Type 0} → (D → DiskState) → ℕ → List (Step × CoreState D) → CoreState D → CoreState D → Type 0
ReadOnce state seat calls start end = calls_of_nexts state seat calls start + pages_behind (hold_of seat end.holds) ≤ 3 * nexts_of seat calls + pages_behind (hold_of seat start.holds)

-- the core behind these calls
abbrev pub core_behind : {D : Type 0} → CoreState D → List (Step × CoreState D) → CoreState D
core_behind core [] = core
core_behind core (one ∷ calls) = core_behind one.1 calls

-- So wherever they stand among the calls of a chain.
abbrev pub AreReadOnce : {D : Type 0} → (D → DiskState) → List (Step × CoreState D) → CoreState D → Type 0
AreReadOnce {D} state calls start =
    (seat : ℕ) (front part behind : List (Step × CoreState D)) → calls ≡ front ++ (part ++ behind) → ReadsWell seat part
    → ReadOnce state seat part (core_behind start front) (core_behind (core_behind start front) part)
