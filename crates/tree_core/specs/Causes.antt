-- Why a call answers what it does, on every disk.
use Rattle.std.specs.Prelude.{
  ◌≡◌,
  ◌⊎◌,
  ⊤,
  ℕ,
  ◌+◌,
  ◌*◌,
  ◌^◌,
  ◌<◌,
  ◌≤◌,
  if◌then◌else◌,
  Bool,
  true,
  false,
  ◌&&◌,
  ◌==◌,
  IfSome,
  IsTrue,
  is_some,
  List,
  Option,
  None,
  Some,
}
use Rattle.refusal.specs.Count.{HasRisen}
use Rattle.blsm_model.specs.declared.op.Op.{Op}
use Rattle.blsm_model.specs.declared.op.Op.TheVariants.{New, Swap}
use Rattle.blsm_model.specs.declared.history.Why.TheVariants as why
use Rattle.blsm_model.specs.declared.history.Reply.TheVariants as reply
use Rattle.blsm_model.specs.Geometry.{charge_limit, file_length}
use Rattle.blsm_model.specs.Histories.{is_met, is_met_by, looked_at, looks_first, writes_of}
use Rattle.blsm_model.specs.Legal.{total_weight, is_del}
use Rattle.blsm_model.specs.declared.key.Key.{Key}
use Rattle.blsm_model.specs.declared.row.Row.{Row}
use Rattle.blsm_model.specs.declared.row.Value.{Value}
use Rattle.disk_trait.specs.Disk.{DiskState, GoesOn}
use Rattle.disk_trait.specs.Reads.{OnlyReads}
use Rattle.record_delta.specs.declared.record.Rec.{Rec}
use Rattle.record_delta.specs.Records.{settled}
use Rattle.page_space.specs.PageSet.{none_of}
use Rattle.page_space.specs.Space.{pins_of}
use Rattle.scan_view.specs.Hold.{HoldState}
use Rattle.scan_view.specs.Holds.{hold_of, pages_behind, AreGivenBy, AreToldBehind, IsDamageBehind}
use Rattle.gear_sched.specs.declared.Plan.{Plan}
use Rattle.gear_sched.specs.declared.Plan.TheVariants.{Snow, Deep, Nothing}
use Rattle.pacing.specs.Steps.{Move, TakeDeep, TakeSnow, Idle}
use Rattle.tree_machine.specs.Machine.{Turned}
use Rattle.tree_machine.specs.Machine as machine
use Rattle.seat_book.specs.State.{is_closed_in, noted_in}
use Rattle.tree_runs.specs.Runs.{RunsState, filter_of, left_for_pass, left_for_deep}
use Rattle.tree_runs.specs.Damage.{DeepMeetsDamage, PassMeetsDamage}
use Rattle.tree_runs.specs.Holding.{IsHeldFrom, PinsFor}
use Rattle.tree_runs.specs.Lookups.{AreToldBy, CountsYes, HidesOlder, IsDamageBelow, first_tag, from_newest}
use Rattle.core_moves.specs.declared.held.Held.{Held}
use Rattle.core_moves.specs.Held.{charge_in}
use Rattle.core_moves.specs.Moves.{with_book, with_debts_forgiven}
use Rattle.core_pace.specs.Events.{plan_in}
use Rattle.core_pace.specs.Turns.{move_in}
use Rattle.tree_core.specs.declared.answers.Admission.{Admission}
use Rattle.tree_core.specs.declared.answers.Admission.TheVariants as admission
use Rattle.tree_core.specs.Ruling.{Ruling}
use Rattle.tree_core.specs.declared.admission.Tried.{Tried}
use Rattle.tree_core.specs.declared.admission.Tried.TheVariants as tried
use Rattle.tree_core.specs.Ruling as ruling
use Rattle.tree_core.specs.declared.answers.Lookup.{Lookup}
use Rattle.tree_core.specs.declared.answers.Lookup.TheVariants as lookup
use Rattle.tree_core.specs.declared.answers.Holding.{Holding}
use Rattle.tree_core.specs.declared.answers.Holding.TheVariants as holding
use Rattle.tree_core.specs.Scanned.{Scanned}
use Rattle.tree_core.specs.Scanned as scanned
use Rattle.tree_core.specs.declared.answers.Release.{Release}
use Rattle.tree_core.specs.declared.answers.Release.TheVariants as release
use Rattle.tree_core.specs.Answers.{newest_in}
use Rattle.tree_core.specs.Core.{CoreState}
use Rattle.tree_core.specs.declared.answers.Payment.{Payment}
use Rattle.tree_core.specs.declared.answers.Payment.TheVariants as payment
use Rattle.blsm_model.specs.declared.history.Reply.{Reply}

-- the store ran, no call failed, and it runs on
pub record RanOn (old new : Held) (before after : DiskState) : Type 0 where
  pub ran : old.book.stopped ≡ None
  pub runs : new.book.stopped ≡ None
  pub faults : after.faults ≡ before.faults

-- it ran, and a call of the disk failed: it stops, and names the disk's count
pub record HasFailed (old new : Held) (before after : DiskState) : Type 0 where
  pub ran : old.book.stopped ≡ None
  pub faults : HasRisen before.faults after.faults
  pub stopped : new.book.stopped ≡ Some (why.Faulted after.faults)

-- the merge of which a move takes a quantum, if it takes one
abbrev pub merge_of : Move → Plan
merge_of TakeDeep = Deep
merge_of TakeSnow = Snow
merge_of _ = Nothing

-- in this file that merge comes to this page next, and it isn't valid or doesn't go on from there
abbrev pub IsDamageAhead : Plan → RunsState → ℕ → List ℕ → Type 0
IsDamageAhead Snow runs n file = PassMeetsDamage runs.sizes runs.pass n file
IsDamageAhead Deep runs n file = DeepMeetsDamage runs.sizes runs.deep n file
IsDamageAhead Nothing runs n file = ⊥

-- It ran, and a page was found damaged: it stops, and names the page, to which the merge comes next whose quantum it was.
pub record FoundDamaged (plan : Plan) (page : ℕ) (old new : Held) (before after : DiskState) : Type 0 where
  pub ran : old.book.stopped ≡ None
  pub faults : after.faults ≡ before.faults
  pub stopped : new.book.stopped ≡ Some (why.BadPage page)
  pub ahead : IsTrue before.tells_bytes → IsDamageAhead plan new.runs page after.bytes

-- So many at least of the components may have the key, as their filters say: 0 is enough where each of them says no, and 3 is always. Where table A
-- may have been dropped up to the key, the pass's finished pages are asked in place of C1.
pub record CountsFilters (key : Key) (held : Held) (n : ℕ) : Type 0 where
  pub c1 : ℕ
  pub c1x : ℕ
  pub c2 : ℕ
  pub first : CountsYes (filter_of held.runs (first_tag held.log.a.floor key held.runs)) key c1
  pub second : CountsYes (filter_of held.runs held.runs.tags.c1x) key c1x
  pub third : CountsYes (filter_of held.runs held.runs.tags.c2) key c2
  pub all : n ≡ c1 + c1x + c2

-- in this file so much is told of the key by the pages that are asked for it, below the memory table's record
abbrev pub IsToldOf : Key → Held → List ℕ → Option Value → Type 0
IsToldOf key held file value =
    (found : Option Rec)
    × AreToldBy held.runs.sizes key file (from_newest held.log.a.floor key held.runs) (newest_in key held) found × (value ≡ settled found)

-- ---- what a lookup finds that comes before a write

-- in this file the pages that are asked say this of the key that it looks at
abbrev pub IsToldFirst : Op → Held → List ℕ → Option Value → Type 0
IsToldFirst (New key value) held file found = IsToldOf key held file found
IsToldFirst (Swap key count value) held file found = IsToldOf key held file found
IsToldFirst _ held file found = found ≡ None

-- and this is the page that is asked for it and isn't valid
abbrev pub IsDamageFirst : Op → Held → List ℕ → ℕ → Type 0
IsDamageFirst (New key value) held file page = IsDamageBelow held.runs.sizes key file
    (from_newest held.log.a.floor key held.runs) (newest_in key held) page
IsDamageFirst (Swap key count value) held file page = IsDamageBelow held.runs.sizes key file
    (from_newest held.log.a.floor key held.runs) (newest_in key held) page
IsDamageFirst _ held file page = ⊥

-- It found this value, by which its condition holds. On an honest disk that is what the pages say that were asked.
pub record HasLooked (op : Op) (old : Held) (before : DiskState) : Type 0 where
  pub found : Option Value
  pub met : is_met_by op found ≡ true
  pub told : IsTrue before.is_honest → IsToldFirst op old before.bytes found

-- So many at least of the components may have the key that it looks at, as their filters say; none are asked where the memory table's record hides
-- what is older, or where it doesn't look.
abbrev pub CountsFirst : Op → Held → ℕ → Type 0
CountsFirst (New key value) held n = CountsFilters key held n ⊎ HidesOlder (newest_in key held)
CountsFirst (Swap key count value) held n = CountsFilters key held n ⊎ HidesOlder (newest_in key held)
CountsFirst _ held n = ⊤

-- this is the key that it looks at
abbrev pub IsAbout : Op → Key → Type 0
IsAbout (New key value) at = key ≡ at
IsAbout (Swap key count value) at = key ≡ at
IsAbout _ at = ⊥

-- what a value that was found comes to
abbrev pub tried_by : Op → Option Value → Tried
tried_by op found = if is_met_by op found then tried.Met else tried.Kept found

-- what it came to
abbrev pub Tries : Tried → Op → Held → DiskState → DiskState → Type 0
Tries tried.Met op held before after = (after.faults ≡ before.faults) × HasLooked op held before
Tries (tried.Kept found) op held before after = (after.faults ≡ before.faults) × (is_met_by op found ≡ false) ×
    (IsTrue before.is_honest → IsToldFirst op held before.bytes found)
Tries tried.Fault op held before after = HasRisen before.faults after.faults × (after.faults < 2 ^ 64)
Tries (tried.Damaged page) op held before after = (after.faults ≡ before.faults) × (IsTrue before.is_honest → IsDamageFirst op held before.bytes page)

-- and this it came to over a map that has this value of each key, where no page is damaged
abbrev pub Finds : Tried → Op → (Key → Option Value) → Type 0
Finds tried.Met op has = is_met op has ≡ true
Finds (tried.Kept found) op has = (is_met op has ≡ false) × (found ≡ looked_at op has)
Finds tried.Fault op has = ⊤
Finds (tried.Damaged page) op has = ⊥

-- A write that is kept or full, or whose lookup failed, leaves all but the entry: it is kept by what was found, and full exactly by the charge; and a
-- store that is stopped only notes that it is.
abbrev pub AdmitsBecause : Ruling → ℕ → Op → Held → Held → DiskState → DiskState → Type 0
AdmitsBecause ruling.Admitted seat op old new before after =
    RanOn old new before after × (charge_in old + total_weight (writes_of op) ≤ charge_limit old.runs.sizes (is_del op)) × HasLooked op old before
AdmitsBecause (ruling.Kept found) seat op old new before after =
    (old.book.stopped ≡ None) × (after.faults ≡ before.faults) × (is_met_by op found ≡ false) ×
    (IsTrue before.is_honest → IsToldFirst op old before.bytes found)
    × (new ≡ with_book (noted_in seat op (reply.Kept found) old.book) old)
AdmitsBecause (ruling.Full charge) seat op old new before after =
    (old.book.stopped ≡ None) × (charge ≡ charge_in old) × (charge_limit old.runs.sizes (is_del op) < charge_in old + total_weight (writes_of op))
    × (new ≡ with_book (noted_in seat op (reply.Full charge) old.book) old) × (after.faults ≡ before.faults) × HasLooked op old before
AdmitsBecause ruling.ReadFault seat op old new before after =
    (old.book.stopped ≡ None) × (looks_first op ≡ true) × HasRisen before.faults after.faults ×
    (new ≡ with_book (noted_in seat op reply.Fault old.book) old)
AdmitsBecause (ruling.Damaged page) seat op old new before after =
    (old.book.stopped ≡ None) × (after.faults ≡ before.faults) × (IsTrue before.is_honest → IsDamageFirst op old before.bytes page) ×
    (looks_first op ≡ true)
    × (new ≡ with_book (noted_in seat op (reply.Damaged page) old.book) old)
AdmitsBecause (ruling.Fault begun) seat op old new before after =
    HasFailed old new before after × (charge_in old + total_weight (writes_of op) ≤ charge_limit old.runs.sizes (is_del op)) × HasLooked op old before
AdmitsBecause (ruling.Stopped why) seat op old new before after = (old.book.stopped ≡ Some why) ×
    (new ≡ with_book (noted_in seat op (reply.Stopped why) old.book) old)

-- once its condition holds
abbrev pub MetBecause : Admission → ℕ → Op → Held → Held → DiskState → DiskState → Type 0
MetBecause admission.Admitted seat op old new before after = RanOn old new before after ×
    (charge_in old + total_weight (writes_of op) ≤ charge_limit old.runs.sizes (is_del op))
MetBecause (admission.Full charge) seat op old new before after =
    (old.book.stopped ≡ None) × (charge ≡ charge_in old) × (charge_limit old.runs.sizes (is_del op) < charge_in old + total_weight (writes_of op))
    × (new ≡ with_book (noted_in seat op (reply.Full charge) old.book) old)
MetBecause (admission.Fault begun) seat op old new before after = HasFailed old new before after ×
    (charge_in old + total_weight (writes_of op) ≤ charge_limit old.runs.sizes (is_del op))
MetBecause _ seat op old new before after = ⊥

abbrev pub IsFull : Admission → Type 0
IsFull (admission.Full charge) = ⊤
IsFull _ = ⊥

-- the disk isn't called where the store was stopped before, nor where a write is full that doesn't look first
abbrev pub CallsNone : Op → Ruling → Type 0
CallsNone op (ruling.Full charge) = looks_first op ≡ false
CallsNone op (ruling.Stopped why) = ⊤
CallsNone op _ = ⊥

-- the swaps that an admission begins with: of the deep merge where it is done, and of the pass where it is
abbrev pub one_where : Bool → ℕ
one_where true = 1
one_where false = 0

abbrev pub is_deep_due : Held → Bool
is_deep_due held = is_some held.runs.deep && (left_for_deep held.runs.deep == 0)

abbrev pub is_pass_due : Held → Bool
is_pass_due held = is_some held.runs.pass && (left_for_pass held.runs.pass held.log.a.entries == 0)

abbrev pub swaps_due_in : Held → ℕ
swaps_due_in held = one_where (is_deep_due held) + one_where (is_pass_due held)

-- how many calls of the disk an admission makes at most behind its lookup: nine for each of the swaps that are due, and four for its append
abbrev pub calls_to_admit : Held → ℕ
calls_to_admit held = 4 + 9 * swaps_due_in held

-- and with it
abbrev pub pages_first : Op → ℕ
pages_first op = if looks_first op then 3 else 0

-- So many reads at most led to a disk, from which as many calls at most go on as an admission makes.
pub record ReadsBefore {D : Type 0} (state : D → DiskState) (old : Held) (n : ℕ) (before after : D) : Type 0 where
  pub read : D
  pub reads : OnlyReads (file_length old.runs.sizes) n (state before) (state read)
  pub goes_on : GoesOn (state read) (state after)
  pub calls : (state after).clock ≤ (state read).clock + calls_to_admit old

-- One that isn't taken makes so many calls at most as its lookup does, all of them reads; any other the admission's behind them.
abbrev pub CallsAtMost : {D : Type 0} → (D → DiskState) → Ruling → Held → ℕ → D → D → Type 0
CallsAtMost state ruling.Admitted old n before after = ReadsBefore state old n before after
CallsAtMost state (ruling.Fault begun) old n before after = ReadsBefore state old n before after
CallsAtMost state _ old n before after = OnlyReads (file_length old.runs.sizes) n (state before) (state after)

-- The append of a write that failed had begun exactly where each of them was committed.
abbrev pub HasBegun : Ruling → Held → Held → Type 0
HasBegun (ruling.Fault true) old new = new.runs.catalogue.version ≡ old.runs.catalogue.version + swaps_due_in old
HasBegun (ruling.Fault false) old new = new.runs.catalogue.version < old.runs.catalogue.version + swaps_due_in old
HasBegun _ old new = ⊤

-- A payment is settled exactly where nothing is owed once what may be forgiven is.
abbrev pub PaysBecause : Payment → ℕ → Held → Held → DiskState → DiskState → Type 0
PaysBecause payment.Paid seat old new before after = RanOn old new before after × (plan_in seat old ≡ Nothing → ⊥)
PaysBecause payment.Settled seat old new before after = (old.book.stopped ≡ None) × (plan_in seat old ≡ Nothing) × (new ≡ with_debts_forgiven seat old)
PaysBecause payment.Fault seat old new before after = HasFailed old new before after
PaysBecause (payment.Damaged page) seat old new before after = FoundDamaged (plan_in seat old) page old new before after
PaysBecause (payment.Stopped why) seat old new before after = (old.book.stopped ≡ Some why) × (new ≡ old)

-- nor by a payment of nothing
abbrev pub PaysNone : Payment → Type 0
PaysNone payment.Settled = ⊤
PaysNone (payment.Stopped why) = ⊤
PaysNone _ = ⊥

-- nor by a turn of a store that is stopped, or closed to a worker
abbrev pub TurnsNone : Turned → Type 0
TurnsNone machine.Closed = ⊤
TurnsNone (machine.Halted why) = ⊤
TurnsNone _ = ⊥

-- A turn idles exactly where there is nothing to do. Only the book of a store that is stopped, or closed to a worker, may change.
abbrev pub TurnsBecause : Turned → Bool → ℕ → Held → Held → DiskState → DiskState → Type 0
TurnsBecause machine.Worked is_worker seat old new before after = RanOn old new before after × (move_in is_worker old ≡ Idle → ⊥)
TurnsBecause machine.Idle is_worker seat old new before after = RanOn old new before after × (move_in is_worker old ≡ Idle)
TurnsBecause machine.Closed is_worker seat old new before after = (old.book.stopped ≡ None) × (is_worker ≡ true) × (is_closed_in old.book ≡ true) × (new ≡ with_book new.book old)
TurnsBecause machine.Failed is_worker seat old new before after = HasFailed old new before after
TurnsBecause (machine.BadPage page) is_worker seat old new before after = FoundDamaged (merge_of (move_in is_worker old)) page old new before after
TurnsBecause (machine.Halted why) is_worker seat old new before after = (old.book.stopped ≡ Some why) × (new ≡ with_book new.book old)

-- the key has a value, or none
abbrev pub IsFound : Lookup → Type 0
IsFound (lookup.Is value) = ⊤
IsFound lookup.Absent = ⊤
IsFound _ = ⊥

-- nor is the disk called by a lookup of a store that is stopped
abbrev pub LooksNone : Lookup → Type 0
LooksNone (lookup.Stopped why) = ⊤
LooksNone _ = ⊥

-- What a lookup's answer is due to. On an honest disk, whatever the components read as, a value is what the pages say that are asked, and the first
-- of these that is damaged is named.
abbrev pub FindsBecause : Lookup → Key → Held → DiskState → DiskState → Type 0
FindsBecause (lookup.Is value) key old before after = (old.book.stopped ≡ None) × (after.faults ≡ before.faults) × (IsTrue before.is_honest → IsToldOf key old before.bytes (Some value))
FindsBecause lookup.Absent key old before after = (old.book.stopped ≡ None) × (after.faults ≡ before.faults) × (IsTrue before.is_honest → IsToldOf key old before.bytes None)
FindsBecause lookup.Fault key old before after = (old.book.stopped ≡ None) × HasRisen before.faults after.faults
FindsBecause (lookup.Damaged page) key old before after =
    (old.book.stopped ≡ None) × (after.faults ≡ before.faults)
    × (IsTrue before.is_honest → IsDamageBelow old.runs.sizes key before.bytes (from_newest old.log.a.floor key old.runs) (newest_in key old) page)
FindsBecause (lookup.Stopped why) key old before after = (old.book.stopped ≡ Some why) × (after.faults ≡ before.faults)

-- Whatever a command that only looks asks: no call of the disk failed unless its reply says so, and a stopped store replies that it is.
abbrev pub IsLookOn : Reply → Held → DiskState → DiskState → Type 0
IsLookOn reply.Fault old before after = (old.book.stopped ≡ None) × HasRisen before.faults after.faults
IsLookOn (reply.Stopped why) old before after = (old.book.stopped ≡ Some why) × (after.faults ≡ before.faults)
IsLookOn reply.FaultLost old before after = ⊥
IsLookOn reply.FaultUnsure old before after = ⊥
IsLookOn _ old before after = after.faults ≡ before.faults

-- ---- holds

-- What holding a range is due to. A hold that was made is the one of this moment, and begins at low's page of each component. It pins just the components'
-- pages; or, where table A was dropped, of C1 only those that it reads, and beside them those that it reads of what the pass has finished. One for which
-- memory was refused leaves the earlier one, and its pins.
abbrev pub HoldsBecause : {D : Type 0} → Holding → ℕ → Key → Key → CoreState D → CoreState D → Type 0
HoldsBecause holding.Held seat low high old new =
    (old.held.book.stopped ≡ None)
    × ((hold : HoldState) × (hold_of seat new.holds ≡ Some hold)
    × IsHeldFrom old.held.runs old.held.log.a.floor low high old.held.log.b.entries old.held.log.a.entries hold)
    × IfSome (hold_of seat new.holds) (λ hold. PinsFor old.held.log.a.floor seat hold.front hold.c1 old.held.runs new.held.runs.space)
HoldsBecause holding.NoMemory seat low high old new = (old.held.book.stopped ≡ None) × (new.holds ≡ old.holds) × (new.held.runs ≡ old.held.runs)
HoldsBecause (holding.Stopped why) seat low high old new = (old.held.book.stopped ≡ Some why) × (new.holds ≡ old.holds) × (new.held.runs ≡ old.held.runs)

-- the disk isn't called without a hold, or where the store is stopped
abbrev pub ScansNone : Scanned → Type 0
ScansNone scanned.NoHold = ⊤
ScansNone (scanned.Stopped why) = ⊤
ScansNone _ = ⊥

-- What reading on in a hold is due to, on every disk. Where no rows are given the hold stays as it is. On an honest disk, whatever the components read
-- as, the rows are what the pages say that were read, and a page is named as damaged only where the next row can't be told without it.
abbrev pub ScansBecause : {D : Type 0} → Scanned → ℕ → ℕ → CoreState D → CoreState D → DiskState → DiskState → Type 0
ScansBecause (scanned.Rows rows) seat n old new before after =
    (old.held.book.stopped ≡ None) × (after.faults ≡ before.faults) × AreGivenBy n (hold_of seat old.holds) (hold_of seat new.holds) rows
    × (IsTrue before.is_honest → AreToldBehind old.held.runs.sizes n (hold_of seat old.holds) (hold_of seat new.holds) rows before.bytes)
ScansBecause scanned.NoHold seat n old new before after = (old.held.book.stopped ≡ None) × (hold_of seat old.holds ≡ None) × (new.holds ≡ old.holds)
ScansBecause scanned.Fault seat n old new before after =
    (old.held.book.stopped ≡ None) × IsTrue (is_some (hold_of seat old.holds)) × (new.holds ≡ old.holds) × HasRisen before.faults after.faults
ScansBecause (scanned.Damaged page) seat n old new before after =
    (old.held.book.stopped ≡ None) × (new.holds ≡ old.holds) × (after.faults ≡ before.faults)
    × (IsTrue before.is_honest → IsDamageBehind old.held.runs.sizes n (hold_of seat old.holds) page before.bytes)
    × IsTrue (is_some (hold_of seat old.holds))
ScansBecause (scanned.Stopped why) seat n old new before after = (old.held.book.stopped ≡ Some why) × (new.holds ≡ old.holds) × (after.faults ≡ before.faults)

-- On every disk: where rows are given, the calls are at most the pages that were passed, and three; and no pages come to those that a hold has ahead.
pub record PassesPages (answer : Scanned) (old new : Option HoldState) (before after : DiskState) : Type 0 where
  pub ahead : pages_behind new ≤ pages_behind old
  pub calls : (rows : List Row) → answer ≡ scanned.Rows rows → after.clock + pages_behind new ≤ before.clock + pages_behind old + 3

-- What dropping a hold is due to. Once it is dropped the seat pins nothing.
abbrev pub DropsBecause : {D : Type 0} → Release → ℕ → CoreState D → CoreState D → Type 0
DropsBecause release.Done seat old new =
    (old.held.book.stopped ≡ None) × IsTrue (is_some (hold_of seat old.holds)) × (hold_of seat new.holds ≡ None)
    × (pins_of new.held.runs.space seat ≡ none_of old.held.runs.space.pages)
DropsBecause release.NoHold seat old new = (old.held.book.stopped ≡ None) × (hold_of seat old.holds ≡ None) × (new.holds ≡ old.holds) × (new.held.runs ≡ old.held.runs)
DropsBecause (release.Stopped why) seat old new = (old.held.book.stopped ≡ Some why) × (new.holds ≡ old.holds) × (new.held.runs ≡ old.held.runs)
