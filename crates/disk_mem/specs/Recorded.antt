-- A disk in memory as contracts see it, and what one call makes of it.
use Rattle.std.specs.Prelude.{◌≡◌, ◌≤◌, ◌<◌, ◌⊎◌, ℕ, ◌+◌, ◌-◌, ◌^◌, min, Bool, true, false, nat_eq, if◌then◌else◌, bytes_eq, List, [], ◌∷◌, ◌++◌, length, take, Contains}
use Rattle.refusal.specs.Count.{next_count}
use Rattle.disk_trait.specs.Disk.{DiskState, overwritten}
use Rattle.disk_mem.specs.Events.{Event, wrote, tore, synced, passed, fresh, replay, IsImage, LeftSince, IsSyncAt}

-- bytes that stand at an offset from this call on, as if somebody else wrote the disk
pub record Change : Type 0 where
  pub call : ℕ
  pub at : ℕ
  pub bytes : List ℕ

pub record Recorded : Type 0 where
  -- what it began with, the calls in its record, and how many came past the record
  pub first : List ℕ
  pub events : List Event
  pub past : ℕ
  -- as it reads
  pub bytes : List ℕ
  -- a write may end at this offset at most; the record has at most so many bytes
  pub limit : ℕ
  pub kept : ℕ
  -- the numbers of the calls that are to fail, and the call after which each fails
  pub fails : List ℕ
  pub stop : ℕ
  pub changes : List Change
  pub faults : ℕ

-- a disk that begins with these bytes
abbrev pub new_disk : List ℕ → ℕ → ℕ → Recorded
new_disk bytes limit kept = record {
  first = bytes;
  events = [];
  past = 0;
  bytes = bytes;
  limit = limit;
  kept = kept;
  fails = [];
  stop = 2 ^ 64 - 1;
  changes = [];
  faults = 0;
}

-- how many bytes a call takes in the record: sixteen, and those of a write
abbrev pub event_size : Event → ℕ
event_size (wrote at bytes) = 16 + length bytes
event_size (tore at bytes) = 16 + length bytes
event_size synced = 16
event_size passed = 16

abbrev pub record_size : List Event → ℕ
record_size [] = 0
record_size (e ∷ es) = event_size e + record_size es

-- the number of the next call
abbrev pub next_call : Recorded → ℕ
next_call d = min (length d.events + d.past + 1) (2 ^ 64 - 1)

-- the next call is to fail, by the list or because the disk has stopped
abbrev pub IsListed : Recorded → Type 0
IsListed d = (d.stop < next_call d) ⊎ Contains d.fails (next_call d)

-- the record has no room for one call more that writes n bytes
abbrev pub HasNoRecord : ℕ → Recorded → Type 0
HasNoRecord n d = (0 < d.past) ⊎ (d.kept < record_size d.events + 16 + n)

-- the record has room for it
abbrev pub HasRecord : ℕ → Recorded → Type 0
HasRecord n d = (d.past ≡ 0) × (record_size d.events + 16 + n ≤ d.kept)

-- the bytes with these at an offset; what lies past the end is left out
abbrev pub changed : List ℕ → ℕ → List ℕ → List ℕ
changed bytes at new = take (length bytes) (overwritten bytes at new)

-- the bytes after the changes that come before this call
abbrev pub changed_by : List Change → ℕ → List ℕ → List ℕ
changed_by [] number bytes = bytes
changed_by (c ∷ cs) number bytes = changed_by cs number (if nat_eq c.call number then changed bytes c.at c.bytes else bytes)

-- the disk as its next call finds it
abbrev pub at_call : Recorded → Recorded
at_call d = record d { bytes = changed_by d.changes (next_call d) d.bytes }

-- one call more in its record, past its record, and one fault more
abbrev pub noting : Event → Recorded → Recorded
noting e d = record d { events = d.events ++ e ∷ [] }

abbrev pub missing : Recorded → Recorded
missing d = record d { past = next_count d.past }

abbrev pub faulting : Recorded → Recorded
faulting d = record d { faults = next_count d.faults }

-- what an event does to the bytes as they read
abbrev pub written_by : Event → List ℕ → List ℕ
written_by (wrote at text) bytes = overwritten bytes at text
written_by (tore at text) bytes = bytes
written_by synced bytes = bytes
written_by passed bytes = bytes

-- one call that is done
abbrev pub doing : Event → Recorded → Recorded
doing e d = record d { events = d.events ++ e ∷ []; bytes = written_by e d.bytes }

-- What kind of call it is: how many bytes it writes, how many have to be there, up to which offset it writes (0 where it writes nothing), and how it is noted where it is done and where it fails.
pub record Kind : Type 0 where
  pub size : ℕ
  pub needs : ℕ
  pub reaches : ℕ
  pub done : Event
  pub failed : Event

abbrev pub look_or_sync : ℕ → Event → Kind
look_or_sync needs done = record { size = 0; needs = needs; reaches = 0; done = done; failed = passed }

abbrev pub look : ℕ → Kind
look needs = look_or_sync needs passed

abbrev pub sync_call : Kind
sync_call = look_or_sync 0 synced

abbrev pub write_call : ℕ → List ℕ → Kind
write_call at text = record { size = length text; needs = at; reaches = at + length text; done = wrote at text; failed = tore at text }

-- why a call fails: past the record, by list or stop, past the end of the bytes, or past the limit
abbrev pub Fails : Kind → Recorded → Type 0
Fails k d = HasNoRecord k.size d ⊎ IsListed d ⊎ (length d.bytes < k.needs) ⊎ (d.limit < k.reaches)

-- What a call does, and whether it ends well. Past the record nothing changes but the count of calls, and past the end of the bytes no fault is counted.
pub data Outcome (k : Kind) (old new : Recorded) (ended_well : Bool) : Type 0 where
  unrecorded : HasNoRecord k.size old → k.needs ≤ length old.bytes → new ≡ faulting (missing (at_call old)) → ended_well ≡ false → Outcome k old new ended_well
  unrecorded_past_end : HasNoRecord k.size old → length old.bytes < k.needs → new ≡ missing (at_call old) → ended_well ≡ false → Outcome k old new ended_well
  past_end : HasRecord k.size old → length old.bytes < k.needs → new ≡ noting passed (at_call old) → ended_well ≡ false → Outcome k old new ended_well
  refused : HasRecord k.size old → k.needs ≤ length old.bytes → IsListed old ⊎ (old.limit < k.reaches) → new ≡ faulting (noting k.failed (at_call old)) → ended_well ≡ false → Outcome k old new ended_well
  done : HasRecord k.size old → k.needs ≤ length old.bytes → ¬ IsListed old → k.reaches ≤ old.limit → new ≡ doing k.done (at_call old) → ended_well ≡ true → Outcome k old new ended_well

-- Nobody changes it, so it reads as its record says.
abbrev pub is_untouched : List Change → Bool
is_untouched [] = true
is_untouched (c ∷ cs) = false

abbrev pub is_honest : Recorded → Bool
is_honest d = if is_untouched d.changes then bytes_eq d.bytes (replay (fresh d.first) d.events).bytes else false

-- what a disk tells that began with the bytes `first`, has this record of calls, reads as `bytes`, and has answered `past` calls beyond its record
abbrev pub disk_state : List ℕ → List Event → List ℕ → ℕ → ℕ → Bool → DiskState
disk_state first es bytes past faults honest = record {
  tells_bytes = true;
  bytes = bytes;
  tells_images = true;
  images = IsImage (replay (fresh first) es);
  images_since = LeftSince (fresh first) es;
  is_noted = nat_eq past 0;
  clock = length es + past;
  synced_at = IsSyncAt es;
  is_honest = honest;
  faults = faults;
  sure_up_to = 0;
}

abbrev pub told : Recorded → DiskState
told d = disk_state d.first d.events d.bytes d.past d.faults (is_honest d)
