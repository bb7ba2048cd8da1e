-- Which outcomes a step may have, and what a list of steps tells of the disk's faults and pages.
use Rattle.std.specs.Prelude.{
  ◌≡◌,
  ◌⊎◌,
  ⊤,
  ℕ,
  ◌+◌,
  ◌-◌,
  ◌<◌,
  ◌≤◌,
  ◌^◌,
  ◌==◌,
  Bool,
  true,
  false,
  not,
  ◌&&◌,
  ◌||◌,
  List,
  [],
  ◌∷◌,
  Option,
  Some,
  is_some,
  sum_by,
  IsTrue,
  nat_lt,
}
use Rattle.std.specs.List.{AllByRecursion}
use Rattle.blsm_model.specs.declared.op.Op.{Op}
use Rattle.blsm_model.specs.declared.history.Reply.{Reply}
use Rattle.blsm_model.specs.declared.history.Reply.TheVariants.{Fault, Damaged}
use Rattle.blsm_model.specs.declared.history.Why.{Why}
use Rattle.blsm_model.specs.declared.history.Why.TheVariants as why
use Rattle.blsm_model.specs.Histories.{is_met, looks_first}
use Rattle.blsm_model.specs.Legal.{may_look}
use Rattle.record_delta.specs.Entries.{entries_weight}
use Rattle.tree_machine.specs.declared.step.Kind.{Kind}
use Rattle.tree_machine.specs.declared.step.Kind.TheVariants as kind
use Rattle.tree_machine.specs.declared.step.Step.{Step}
use Rattle.tree_machine.specs.Lists.{memory_weight, value_in}
use Rattle.tree_machine.specs.Machine.{Machine, owes, held_by, is_closed}
use Rattle.tree_machine.specs.Steps.{
  Outcome,
  Well,
  FailedAfter,
  FailedLooking,
  Broken,
  NoRoom,
  Choice,
  DeepQuantum,
  PassQuantum,
  Begin,
  Rest,
  choice,
  forgive,
  is_full,
  swaps_due,
  one_if,
}
use Rattle.tree_machine.specs.Plays.{may_step, played_one}

-- ---- which outcomes may be

-- what a turn of work does, and one of a worker
abbrev pub work_choice : Machine → Choice
work_choice m = choice (not (memory_weight m.lists == 0)) (not (entries_weight m.lists.c1 == 0)) m

abbrev pub worker_choice : Machine → Choice
worker_choice m = choice (nat_lt m.gears.sizes.low m.spring) false m

-- a begin, and a turn that idles, call no disk
abbrev pub calls_disk : Choice → Bool
calls_disk Begin = false
calls_disk Rest = false
calls_disk _ = true

-- a quantum reads pages
abbrev pub reads_pages : Choice → Bool
reads_pages DeepQuantum = true
reads_pages PassQuantum = true
reads_pages _ = false

-- A step that calls the disk: not a write that is refused as full, unless it looks first, a payment of nothing, or a next without
-- a hold.
abbrev pub calls : Machine → ℕ → Kind → Bool
calls m seat (kind.Admit op) = looks_first op || not (is_full m op)
calls m seat kind.Pay = owes seat (forgive seat m)
calls m seat (kind.Look op) = true
calls m seat (kind.Next n) = is_some (held_by seat m)
calls m seat kind.WorkTurn = calls_disk (work_choice m)
calls m seat kind.WorkerTurn = not (is_closed m) && calls_disk (worker_choice m)
calls m seat _ = false

-- One that calls it behind the lookup that comes first, if one does: a write doesn't whose condition doesn't hold, or that is
-- refused as full.
abbrev pub calls_behind_look : Machine → ℕ → Kind → Bool
calls_behind_look m seat (kind.Admit op) = is_met op (value_in m.lists) && not (is_full m op)
calls_behind_look m seat k = calls m seat k

-- a write that looks first
abbrev pub looks_before : Kind → Bool
looks_before (kind.Admit op) = looks_first op
looks_before _ = false

-- a step that reads pages of the components
abbrev pub reads : Machine → ℕ → Kind → Bool
reads m seat (kind.Admit op) = looks_first op
reads m seat kind.Pay = owes seat (forgive seat m)
reads m seat (kind.Look op) = true
reads m seat (kind.Next n) = is_some (held_by seat m)
reads m seat kind.WorkTurn = reads_pages (work_choice m)
reads m seat kind.WorkerTurn = not (is_closed m) && reads_pages (worker_choice m)
reads m seat _ = false

-- a step that takes memory
abbrev pub takes_memory : Kind → Bool
takes_memory (kind.Hold low high) = true
takes_memory _ = false

-- the commits that a step makes at most before the call that fails
abbrev pub commits_before : Machine → Kind → ℕ
commits_before m (kind.Admit op) = swaps_due m
commits_before m _ = 0

-- The disk's count of faults never falls. It rose; at its last value it stays.
abbrev pub last_count : ℕ
last_count = 2 ^ 64 - 1

abbrev pub Rose : ℕ → ℕ → Type 0
Rose old new = (old < new) ⊎ ((old ≡ last_count) × (new ≡ last_count))

-- whether a step may have this outcome, where the disk's count goes from the one to the other
abbrev pub IsPossible : Machine → ℕ → Kind → Outcome → ℕ → ℕ → Type 0
IsPossible m seat k Well old new = ⊤
IsPossible m seat k (FailedAfter commits faults) old new =
    IsTrue (not (is_some m.stopped) && calls_behind_look m seat k) × (commits ≤ commits_before m k) × Rose old new × (faults ≡ new)
IsPossible m seat k (FailedLooking faults) old new = IsTrue (not (is_some m.stopped) && looks_before k) × Rose old new × (faults ≡ new)
IsPossible m seat k (Broken page) old new = IsTrue (not (is_some m.stopped) && reads m seat k)
IsPossible m seat k NoRoom old new = IsTrue (not (is_some m.stopped) && takes_memory k)

-- and so on along a list of steps, from the count at its begin to that at its end
abbrev pub AreTold : Machine → ℕ → List (Step × Outcome) → ℕ → Type 0
AreTold m old [] new = old ≤ new
AreTold m old (made ∷ steps) new =
    (mid : ℕ) × (old ≤ mid) × (IsTrue (may_step m made.0) → IsPossible m made.0.seat made.0.kind made.1 old mid) × AreTold (played_one m made) mid steps new

-- ---- what is told

-- a lookup that failed
abbrev pub is_failed_lookup : Op → Reply → Bool
is_failed_lookup op Fault = may_look op
is_failed_lookup op reply = false

abbrev pub is_faulted : Option Why → Bool
is_faulted (Some (why.Faulted faults)) = true
is_faulted _ = false

-- the faults that a run tells of: the lookups that failed, and the stop, where a fault was its cause
abbrev pub faults_told : Machine → ℕ
faults_told m = sum_by (λ e. one_if (is_failed_lookup e.op e.reply)) m.book.entries + one_if (is_faulted m.stopped)

abbrev pub is_damaged : Reply → Bool
is_damaged (Damaged page) = true
is_damaged _ = false

abbrev pub is_by_page : Option Why → Bool
is_by_page (Some (why.BadPage page)) = true
is_by_page _ = false

-- no outcome of these is a damaged page
abbrev pub is_broken : Outcome → Bool
is_broken (Broken page) = true
is_broken _ = false

abbrev pub NoneBroken : List (Step × Outcome) → Type 0
NoneBroken steps = AllByRecursion (λ made. is_broken made.1 ≡ false) steps
