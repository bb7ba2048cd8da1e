-- What a disk means, what its calls do, and what a crash may do between two syncs.
use Rattle.std.specs.Prelude.{◌<◌, ◌≡◌, ◌≢◌, ◌⊎◌, ℕ, ◌+◌, ◌-◌, ◌^◌, ◌≤◌, max, Bool, IsTrue, List, ◌++◌, length, take, drop, Result, Ok, Err}
use Rattle.refusal.specs.Count.{HasRisen}

-- what stands behind a disk at one moment
pub record DiskState : Type 1 where
  -- whether it tells its bytes, and the bytes that a read gives
  pub tells_bytes : Bool
  pub bytes : List ℕ
  -- whether it tells what a crash may leave; what a crash now may leave, and what one at some moment from t on might have left
  pub tells_images : Bool
  pub images : List ℕ → Type 0
  pub images_since : ℕ → List ℕ → Type 0
  -- whether its images tell of its last call; a disk whose record of calls is full answers them without
  pub is_noted : Bool
  -- how many calls it has answered, and the moments at which a sync ended well
  pub clock : ℕ
  pub synced_at : ℕ → Type 0
  -- nobody else changes its bytes
  pub is_honest : Bool
  -- how often it has failed
  pub faults : ℕ
  -- no call that ends at or before this offset fails; 0 where nothing is promised
  pub sure_up_to : ℕ

-- n bytes of a file from an offset on
abbrev pub part : List ℕ → ℕ → ℕ → List ℕ
part file at n = take n (drop at file)

-- the file with these bytes at this offset, in place of what stood there
abbrev pub overwritten : List ℕ → ℕ → List ℕ → List ℕ
overwritten file at bytes = take at file ++ bytes ++ drop (at + length bytes) file

-- after a write of n bytes that is cut short: any bytes in its range and past the old end, the same elsewhere
pub record Torn (at n : ℕ) (old new : List ℕ) : Type 0 where
  pub before : take at new ≡ take at old
  pub after : drop (at + n) new ≡ drop (at + n) old
  pub no_shorter : length old ≤ length new
  pub no_longer : length new ≤ max (length old) (at + n)

-- each image now is an image before the write, torn
abbrev pub Tears : ℕ → ℕ → (List ℕ → Type 0) → (List ℕ → Type 0) → Type 0
Tears at n old new = (c : List ℕ) → new c → (was : List ℕ) × old was × Torn at n was c

-- a crash leaves this file and no other
abbrev pub Only : List ℕ → (List ℕ → Type 0) → Type 0
Only file images = (c : List ℕ) → images c → c ≡ file

-- what stays through any number of calls, and what only grows
pub record GoesOn (old new : DiskState) : Type 0 where
  pub tells_bytes : new.tells_bytes ≡ old.tells_bytes
  pub tells_images : new.tells_images ≡ old.tells_images
  pub is_honest : new.is_honest ≡ old.is_honest
  pub sure_up_to : new.sure_up_to ≡ old.sure_up_to
  pub clock : old.clock ≤ new.clock
  pub faults : old.faults ≤ new.faults

-- the count stands through a call that ends at this offset, where the disk is sure up to it
abbrev pub IsSure : ℕ → DiskState → DiskState → Type 0
IsSure end old new = 0 < old.sure_up_to → end ≤ old.sure_up_to → new.faults ≡ old.faults

-- After Ok the count of faults stands, after Err it has risen.
abbrev pub TellsFaults : {T E : Type 0} → Result T E → DiskState → DiskState → Type 0
TellsFaults (Ok value) old new = new.faults ≡ old.faults
TellsFaults (Err error) old new = HasRisen old.faults new.faults

-- It has risen after this one answer, and stands after any other.
pub record TellsFaultsBy {R : Type 0} (fault answer : R) (old new : DiskState) : Type 0 where
  pub stands : answer ≢ fault → new.faults ≡ old.faults
  pub failed : answer ≡ fault → HasRisen old.faults new.faults

-- One call: the clock moves by one (at 2 ^ 64 - 1 it may stand), the count of faults by one at most, and the images since a moment are those from before the call and those of now.
pub record Passes (old new : DiskState) : Type 0 where
  pub goes_on : GoesOn old new
  pub at_most_one : new.clock ≤ old.clock + 1
  pub one : old.clock < 2 ^ 64 - 1 → new.clock ≡ old.clock + 1
  pub one_fault : new.faults ≤ old.faults + 1
  pub none_else : (t : ℕ) (c : List ℕ) → t ≤ old.clock → new.images_since t c → old.images_since t c ⊎ new.images c
  pub none_lost : (t : ℕ) (c : List ℕ) → t ≤ old.clock → old.images_since t c → new.images_since t c

-- The moments at which a sync ended well are those from before the call, and now where this call was one. Now is then later than before the call.
pub record MarksSync (ended_well : Type 0) (old new : DiskState) : Type 0 where
  pub none_else : (t : ℕ) → new.synced_at t → old.synced_at t ⊎ (ended_well × (old.clock < t) × (t ≡ new.clock))
  pub none_lost : (t : ℕ) → old.synced_at t → new.synced_at t
  pub now : IsTrue old.tells_images → ended_well → new.synced_at new.clock
  pub later : IsTrue old.tells_images → ended_well → old.clock < new.clock

-- a call that writes nothing
pub record WritesNothing (old new : DiskState) : Type 0 where
  pub bytes : IsTrue old.is_honest → new.bytes ≡ old.bytes
  pub length : IsTrue old.tells_bytes → length new.bytes ≡ length old.bytes
  pub images : IsTrue old.is_honest → (c : List ℕ) → new.images c → old.images c

-- a write of n bytes, whatever it answers
pub record WritesWithin (at n : ℕ) (old new : DiskState) : Type 0 where
  pub bytes : IsTrue old.is_honest → Torn at n old.bytes new.bytes
  pub no_shorter : IsTrue old.tells_bytes → length old.bytes ≤ length new.bytes
  pub no_longer : IsTrue old.tells_bytes → length new.bytes ≤ max (length old.bytes) (at + n)
  pub images : IsTrue old.is_honest → Tears at n old.images new.images

-- no image is lost but by a sync that ended well
abbrev pub KeepsImages : DiskState → DiskState → Type 0
KeepsImages old new = IsTrue old.is_honest → IsTrue old.tells_images → (c : List ℕ) → old.images c → new.images c

-- a call that leaves the bytes and the images as they were
pub record ChangesNothing (old new : DiskState) : Type 0 where
  pub same : WritesNothing old new
  pub images : KeepsImages old new

-- These bytes were written over what was there, from an offset on, and a crash leaves them so.
pub record HasWritten (at : ℕ) (text : List ℕ) (old new : DiskState) : Type 0 where
  pub bytes : IsTrue old.is_honest → new.bytes ≡ overwritten old.bytes at text
  pub durable : IsTrue old.is_honest → Only new.bytes new.images
  pub long : IsTrue old.tells_bytes → length new.bytes ≡ max (length old.bytes) (at + length text)

-- a crash may leave any bytes in the range of a write
abbrev pub LeavesAnyBytes : ℕ → ℕ → DiskState → DiskState → Type 0
LeavesAnyBytes at n old new = IsTrue old.is_honest → IsTrue old.tells_images → (d c : List ℕ) → old.images d → Torn at n d c → new.images c
