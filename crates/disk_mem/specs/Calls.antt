-- The record of a disk's calls as it is kept: the calls, and in one list the bytes of all writes among them.
use Rattle.std.specs.Prelude.{ℕ, ◌+◌, List, [], ◌∷◌, take, drop}
use Rattle.disk_mem.specs.Events.{Event, wrote, tore, synced, passed}
use Rattle.disk_mem.specs.declared.call.Call.{Call}
use Rattle.disk_mem.specs.declared.call.Call.TheVariants.{Wrote, Tore, Synced, Passed}

-- the event of a call, whose bytes stand at the front of those that were written
abbrev pub event : Call → List ℕ → Event
event (Wrote at n) written = wrote at (take n written)
event (Tore at n) written = tore at (take n written)
event Synced written = synced
event Passed written = passed

-- how many of these bytes belong to a call
abbrev pub taken : Call → ℕ
taken (Wrote at n) = n
taken (Tore at n) = n
taken Synced = 0
taken Passed = 0

abbrev pub events : List Call → List ℕ → List Event
events [] written = []
events (call ∷ calls) written = event call written ∷ events calls (drop (taken call) written)

-- how many bytes belong to all of them
abbrev pub written_len : List Call → ℕ
written_len [] = 0
written_len (call ∷ calls) = taken call + written_len calls

-- it looks at the disk or syncs it
abbrev pub IsLook : Call → Type 0
IsLook (Wrote at n) = ⊥
IsLook (Tore at n) = ⊥
IsLook Synced = Unit {0}
IsLook Passed = Unit {0}

-- it leaves the bytes as they are
abbrev pub IsNoWrite : Call → Type 0
IsNoWrite (Wrote at n) = ⊥
IsNoWrite (Tore at n) = Unit {0}
IsNoWrite Synced = Unit {0}
IsNoWrite Passed = Unit {0}
