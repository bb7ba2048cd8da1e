-- Calls of the core, one after another: what they tell of faults, and what they do to the disk.
use Rattle.std.specs.Prelude.{◌/◌, Option}
use Rattle.std.proofs.lemmas.Grind.{common_steps}
use Rattle.std.proofs.lemmas.Bool.Decides.{nat_tests}
use Rattle.std.proofs.Common.{◌≡◌, ◌∙◌, ℕ, ◌+◌, ◌*◌, ◌<◌, ◌≤◌, true, false, None, ap, refl, sym, subst, zero-add, arith}
use Rattle.std.proofs.lemmas.Bool.{false≢true}
use Rattle.refusal.specs.Count.{HasRisen}
use Rattle.blsm_model.specs.declared.key.Key.{Key}
use Rattle.blsm_model.specs.Facts.{Follows}
use Rattle.blsm_model.specs.Format.{callers}
use Rattle.blsm_model.specs.Geometry.{file_length}
use Rattle.blsm_model.specs.Histories.{looks_first}
use Rattle.blsm_model.specs.Legal.{may_look}
use Rattle.blsm_model.specs.declared.op.Op.{Op}
use Rattle.blsm_model.specs.declared.history.Reply.{Reply}
use Rattle.blsm_model.specs.declared.history.Reply.TheVariants.{Stopped}
use Rattle.blsm_model.specs.declared.history.Why.{Why}
use Rattle.blsm_model.specs.Sizes.{Sizes}
use Rattle.disk_trait.specs.Disk.{DiskState}
use Rattle.disk_trait.specs.Effects.{Affects}
use Rattle.disk_trait.proofs.MomentLemmas.{syncs_later_run, syncs_later_start, goes_on_run, goes_on_start}
use Rattle.disk_trait.specs.Region.{Region}
use Rattle.tree_machine.specs.Machine as machine
use Rattle.tree_machine.specs.Machine.{Turned}
use Rattle.tree_machine.specs.Steps.{Answer}
use Rattle.tree_machine.specs.declared.step.Kind.{Kind}
use Rattle.gear_sched.specs.declared.Plan.{Plan}
use Rattle.core_moves.specs.declared.held.Held.{Held}
use Rattle.tree_core.specs.Answers.{reply_to_get, reply_to_next, reply_to_write}
use Rattle.tree_core.specs.Calls.{Admits, Gets, GoesOnAs, Pays, ReadsOn, TurnsOnce}
use Rattle.tree_core.specs.Causes.{AdmitsBecause, FindsBecause, FoundDamaged, HasFailed, RanOn, TurnsBecause}
use Rattle.tree_core.specs.Core.{CoreState, IsCore, facts_of_held}
use Rattle.tree_core.specs.Scanned.{Scanned}
use Rattle.tree_core.specs.Scanned as scanned
use Rattle.tree_core.specs.Steps.{StandsSince}
use Rattle.tree_core.specs.Ruling.{Ruling}
use Rattle.tree_core.specs.Ruling as ruling
use Rattle.tree_core.specs.declared.answers.Lookup.{Lookup}
use Rattle.tree_core.specs.declared.answers.Lookup.TheVariants as lookup
use Rattle.tree_core.specs.declared.answers.Payment.{Payment}
use Rattle.tree_core.specs.declared.answers.Payment.TheVariants as payment
use Rattle.tree_session.specs.Faults.{NamesStop, TellsFaults, TellsNone, Reaches, Proceeds, NamesCount, faults_of, faults_of_turn, is_by_fault}
use Rattle.tree_session.specs.Session.{EasesOthers}
use Rattle.tree_session.proofs.AloneLemmas.{workers_by, workers_none, workers_then}

-- ---- what one call tells

tells_ran : {old new : Held} {before after : DiskState} → RanOn old new before after → TellsFaults 0 old new before after
tells_ran {old} {new} {before} {after} ran = grind (arith, common_steps, nat_tests)

tells_failed : {old new : Held} {before after : DiskState} (told : ℕ) → told ≤ 1 → HasFailed old new before after → TellsFaults told old new before after
tells_failed {old} {new} {before} {after} told few failed = grind (arith, common_steps, nat_tests)

tells_damaged : {plan : Plan} {page : ℕ} {old new : Held} {before after : DiskState} → FoundDamaged plan page old new before after → TellsFaults 0 old new before after
tells_damaged {plan} {page} {old} {new} {before} {after} found = grind (arith, common_steps, nat_tests)

-- the stop stands, and no call failed
pub tells_quiet : {old new : Held} {before after : DiskState} → new.book.stopped ≡ old.book.stopped → after.faults ≡ before.faults → TellsFaults 0 old new before after
tells_quiet {old} {new} {before} {after} same faults = grind (arith, common_steps, nat_tests)

-- a lookup, or a next, failed
tells_lookup : {old new : Held} {before after : DiskState} → old.book.stopped ≡ None → new.book.stopped ≡ old.book.stopped → HasRisen before.faults after.faults → TellsFaults 1 old new before after
tells_lookup {old} {new} {before} {after} ran same rose = grind (arith, common_steps, nat_tests)

-- the core is as it was, but for what its book says of the run, and so is the disk
still : {D : Type 0} (state : D → DiskState) (old new : CoreState D) → new.held.book.stopped ≡ old.held.book.stopped → new.disk ≡ old.disk → TellsFaults 0 old.held new.held (state old.disk) (state new.disk)
still {D} state old new same disk = tells_quiet same (ap (λ (d : D). (state d).faults) disk)

pub admit_tells : {D : Type 0} (state : D → DiskState) (seat : ℕ) (op : Op) (answer : Ruling) (old new : CoreState D) → Admits state seat op answer
    old new
    → TellsFaults (faults_of (reply_to_write answer)) old.held new.held (state old.disk) (state new.disk)
admit_tells state seat op ruling.Admitted old new call = tells_ran call.cause.0
admit_tells state seat op (ruling.Kept found) old new call = tells_quiet (ap (λ (h : Held). h.book.stopped) call.cause.4) call.cause.1
admit_tells state seat op (ruling.Full charge) old new call = tells_quiet (ap (λ (h : Held). h.book.stopped) call.cause.3) call.cause.4
admit_tells state seat op ruling.ReadFault old new call = tells_lookup call.cause.0 (ap (λ (h : Held). h.book.stopped) call.cause.3) call.cause.2
admit_tells state seat op (ruling.Damaged page) old new call = tells_quiet (ap (λ (h : Held). h.book.stopped) call.cause.4) call.cause.1
admit_tells state seat op (ruling.Fault true) old new call = tells_failed 1 (omega arith) call.cause.0
admit_tells state seat op (ruling.Fault false) old new call = tells_failed 1 (omega arith) call.cause.0
admit_tells state seat op (ruling.Stopped why) old new call = still state old new (ap (λ (h : Held). h.book.stopped) call.cause.1) (call.untouched tt)

pub pay_tells : {D : Type 0} (state : D → DiskState) (seat : ℕ) (answer : Payment) (old new : CoreState D) → Pays state seat answer old new → TellsFaults 0 old.held new.held (state old.disk) (state new.disk)
pay_tells state seat payment.Paid old new call = tells_ran call.cause.0
pay_tells state seat payment.Settled old new call = still state old new (ap (λ (h : Held). h.book.stopped) call.cause.2) (call.untouched tt)
pay_tells state seat payment.Fault old new call = tells_failed 0 (omega arith) call.cause
pay_tells state seat (payment.Damaged page) old new call = tells_damaged call.cause
pay_tells state seat (payment.Stopped why) old new call = still state old new (ap (λ (h : Held). h.book.stopped) call.cause.1) (call.untouched tt)

pub turn_tells : {D : Type 0} (state : D → DiskState) (seat : ℕ) (ended : Turned) (old new : CoreState D) → TurnsOnce state seat ended old new → TellsFaults (faults_of_turn ended) old.held new.held (state old.disk) (state new.disk)
turn_tells state seat machine.Closed old new call = absurd (false≢true call.cause.1)
turn_tells state seat machine.Failed old new call = tells_failed 1 (omega arith) call.cause
turn_tells state seat (machine.BadPage page) old new call = tells_damaged call.cause
turn_tells state seat (machine.Halted why) old new call = still state old new (call.counts.halted why call.cause.0 ∙ sym call.cause.0) (call.untouched tt)
turn_tells state seat _ old new call = tells_ran call.cause.0

pub get_tells : {D : Type 0} (state : D → DiskState) (seat : ℕ) (key : Key) (answer : Lookup) (old new : CoreState D) → Gets state seat key answer old new
    → TellsFaults (faults_of (reply_to_get answer)) old.held new.held (state old.disk) (state new.disk)
get_tells state seat key lookup.Fault old new call = tells_lookup call.cause.0 (ap (λ (h : Held). h.book.stopped) call.held) call.cause.1
get_tells state seat key _ old new call = tells_quiet (ap (λ (h : Held). h.book.stopped) call.held) call.cause.1

-- a next tells a fault without a stop, as a get does
pub scan_tells : {D : Type 0} (state : D → DiskState) (seat n : ℕ) (answer : Scanned) (old new : CoreState D) → ReadsOn state seat n answer old new → new.held.book.stopped ≡ old.held.book.stopped
    → TellsFaults (faults_of (reply_to_next answer)) old.held new.held (state old.disk) (state new.disk)
scan_tells state seat n (scanned.Rows rows) old new call same = tells_quiet same call.cause.1
scan_tells state seat n scanned.NoHold old new call same = still state old new same (call.untouched tt)
scan_tells state seat n scanned.Fault old new call same = tells_lookup call.cause.0 same call.cause.3
scan_tells state seat n _ old new call same = tells_quiet same call.cause.2

-- ---- whose faults stop the store

pub none_told : (op : Op) (reply : Reply) → faults_of reply ≡ 0 → TellsNone op reply
none_told op reply none = λ looks. none

-- what looks first may look
first_looks : (op : Op) → looks_first op ≡ true → may_look op ≡ true
first_looks op first = grind (arith, common_steps, nat_tests)

-- a write that isn't one of those tells a fault with a stop alone
pub admit_calm : (result : Ruling) (seat : ℕ) (op : Op) (old new : Held) (before after : DiskState) → AdmitsBecause result seat op old new before
    after → is_by_fault new.book.stopped ≡ false → TellsNone op (reply_to_write result)
admit_calm ruling.ReadFault seat op old new before after because calm = λ looks. absurd (false≢true (sym looks ∙ first_looks op because.1))
admit_calm (ruling.Fault true) seat op old new before after because calm = absurd (false≢true (sym calm ∙ ap is_by_fault because.0.stopped))
admit_calm (ruling.Fault false) seat op old new before after because calm = absurd (false≢true (sym calm ∙ ap is_by_fault because.0.stopped))
admit_calm ruling.Admitted seat op old new before after because calm = none_told op (reply_to_write ruling.Admitted) refl
admit_calm (ruling.Kept found) seat op old new before after because calm = none_told op (reply_to_write (ruling.Kept found)) refl
admit_calm (ruling.Full charge) seat op old new before after because calm = none_told op (reply_to_write (ruling.Full charge)) refl
admit_calm (ruling.Damaged page) seat op old new before after because calm = none_told op (reply_to_write (ruling.Damaged page)) refl
admit_calm (ruling.Stopped why) seat op old new before after because calm = none_told op (reply_to_write (ruling.Stopped why)) refl

pub turn_calm : (ended : Turned) (seat : ℕ) (old new : Held) (before after : DiskState) → TurnsBecause ended false seat old new before after → is_by_fault new.book.stopped ≡ false → faults_of_turn ended ≡ 0
turn_calm ended seat old new before after h1 h2 = grind (arith, common_steps, nat_tests)

-- a store that no fault has stopped now, none had stopped before
pub calm_before : (told : ℕ) (old new : Held) (before after : DiskState) → TellsFaults told old new before after → is_by_fault new.book.stopped ≡ false → is_by_fault old.book.stopped ≡ false
calm_before told old new before after tells calm = grind (arith, common_steps, nat_tests)

-- ---- which stop is told

pub admit_names : (result : Ruling) (seat : ℕ) (op : Op) (old new : Held) (before after : DiskState) → AdmitsBecause result seat op old new before
    after → NamesStop (reply_to_write result) new.book.stopped
admit_names (ruling.Stopped why) seat op old new before after because = ap (λ (h : Held). h.book.stopped) because.1 ∙ because.0
admit_names (ruling.Fault true) seat op old new before after because = tt
admit_names _ seat op old new before after because = tt

pub get_names : (result : Lookup) (key : Key) (old new : Held) (before after : DiskState) → FindsBecause result key old before after → new.book.stopped ≡ old.book.stopped → NamesStop (reply_to_get result) new.book.stopped
get_names (lookup.Stopped why) key old new before after because same = same ∙ because.0
get_names _ key old new before after because same = tt

-- a stop lasts, and so does what was told of it
pub names_still : (told : ℕ) (reply : Reply) (old new : Held) (before after : DiskState) → TellsFaults told old new before after → NamesStop reply old.book.stopped → NamesStop reply new.book.stopped
names_still told (Stopped why) old new before after tells names = (tells.halted why names).0
names_still told _ old new before after tells names = tt

-- ---- and one after another

names_from : (o : Option Why) (before between after : DiskState) → before.faults ≤ between.faults → NamesCount o between after → NamesCount o before after
names_from o before between after grows names = grind (arith, common_steps, nat_tests)

names_to : (o : Option Why) (before between after : DiskState) → after.faults ≡ between.faults → NamesCount o before between → NamesCount o before after
names_to o before between after same names = grind (arith, common_steps, nat_tests)

pub tells_then : (one two : ℕ) (old mid new : Held) (before between after : DiskState) → before.faults ≤ between.faults → between.faults ≤ after.faults → TellsFaults one old mid before between → TellsFaults two mid new between after
    → TellsFaults (one + two) old new before after
tells_then one two old mid new before between after grows grows_more first second = grind (arith, common_steps, nat_tests, calm_before, names_from, names_to)

-- ---- the disk

-- a run that failed once at most
pub reaches_by : {region : Region} {end most : ℕ} {old new : DiskState} → Affects region end most old new → Reaches end most old new
reaches_by run = record { goes_on = run.goes_on; calls = run.calls; syncs = run.syncs; sure = run.sure; no_shorter = run.no_shorter; no_longer = run.no_longer }

-- before the first call
pub reaches_none : {end most : ℕ} (d : DiskState) → Reaches end most d d
reaches_none {end} {most} d = grind (arith, common_steps, nat_tests, goes_on_start, syncs_later_start)

-- a run after a run
pub reaches_then : {end most more : ℕ} {old mid new : DiskState} → Reaches end most old mid → Reaches end more mid new → Reaches end (most + more) old new
reaches_then {end} {most} {more} {old} {mid} {new} first second = grind (arith, common_steps, nat_tests, goes_on_run, syncs_later_run)

-- with more calls
pub reaches_wider : {end most most' : ℕ} {old new : DiskState} → most ≤ most' → Reaches end most old new → Reaches end most' old new
reaches_wider within run = record { goes_on = run.goes_on; calls = omega (arith, run.calls, within); syncs = run.syncs; sure = run.sure; no_shorter = run.no_shorter; no_longer = run.no_longer }

-- ---- calls of the core

-- no call yet
pub proceeds_none : {D : Type 0} (state : D → DiskState) (calls : ℕ) (old : CoreState D) → Proceeds state 0 calls old old
proceeds_none state calls old = record {
  sizes = refl;
  effect = reaches_none (state old.disk);
  tells = tells_quiet refl refl;
  alone = workers_none old.held.book;
  lasts = λ start since. since;
}

-- one call by a caller
pub proceeds_by : {D : Type 0} {seat : ℕ} {k : Kind} {answer : Answer} (state : D → DiskState) (told calls : ℕ) (old new : CoreState D) → seat < callers → StandsSince state old old → GoesOnAs state seat k answer old new
    → Reaches (file_length old.held.runs.sizes) calls (state old.disk) (state new.disk) → TellsFaults told old.held new.held (state old.disk) (state new.disk) → Proceeds state told calls old new
proceeds_by {D} {seat} state told calls old new below begins goes effect tells =
    record { sizes = (goes.lasts old begins).sizes; effect = effect; tells = tells; alone = workers_by seat old.held new.held below goes.follows; lasts = goes.lasts }

-- and then some more, so that these faults are told, with so many calls at most
pub proceeds_then : {D : Type 0} {one two few more told calls : ℕ} (state : D → DiskState) (old mid new : CoreState D) → Proceeds state one few old mid → Proceeds state two more mid new → one + two ≡ told → few + more ≤ calls → Proceeds state told calls old new
proceeds_then {D} {one} {two} {few} {more} state old mid new first second sum within = record {
  sizes = second.sizes ∙ first.sizes;
  effect = reaches_wider within (reaches_then first.effect (subst (λ (s : Sizes). Reaches (file_length s) more (state mid.disk) (state new.disk)) first.sizes second.effect));
  tells = subst (λ (n : ℕ). TellsFaults n old.held new.held (state old.disk) (state new.disk)) sum
      (tells_then one two old.held mid.held new.held (state old.disk) (state mid.disk) (state new.disk) first.effect.goes_on.faults second.effect.goes_on.faults first.tells second.tells);
  alone = workers_then first.alone second.alone;
  lasts = λ start since. second.lasts start (first.lasts start since);
}

-- with more calls
pub proceeds_wider : {D : Type 0} (state : D → DiskState) (told calls more : ℕ) (old new : CoreState D) → calls ≤ more → Proceeds state told calls old new → Proceeds state told more old new
proceeds_wider state told calls more old new within run = record { sizes = run.sizes; effect = reaches_wider within run.effect; tells = run.tells; alone = run.alone; lasts = run.lasts }

-- a call more, after n of its kind: each makes so many calls of the disk, and as many again as a quarter of a quantum
pub proceeds_more : {D : Type 0} (state : D → DiskState) (told n few : ℕ) (old mid new : CoreState D) → Proceeds state 0 (n * (old.held.runs.sizes.quantum / 4 + few)) old mid
    → Proceeds state told (mid.held.runs.sizes.quantum / 4 + few) mid new → Proceeds state told ((n + 1) * (old.held.runs.sizes.quantum / 4 + few)) old new
proceeds_more state told n few old mid new first second =
    let same : mid.held.runs.sizes.quantum / 4 + few ≡ old.held.runs.sizes.quantum / 4 + few = ap (λ (s : Sizes). s.quantum / 4 + few) first.sizes in
    proceeds_then state old mid new first second (zero-add told) (omega (arith, same))

-- the core keeps a pace
pub core_then : {D : Type 0} {state : D → DiskState} {seat : ℕ} {k : Kind} {answer : Answer} {old new : CoreState D} → GoesOnAs state seat k answer old new → IsCore old.held (state old.disk) → IsCore new.held (state new.disk)
core_then goes keeps = let moves = goes.numbers keeps.pace keeps.holds in record { pace = moves.next; holds = moves.holds }

-- ---- the other seats

pub eases_by : (seat : ℕ) (old new : Held) → Follows seat (facts_of_held old) (facts_of_held new) → EasesOthers seat old new
eases_by seat old new follows = record { first = λ other apart. (follows.others other apart).debt1; second = λ other apart. (follows.others other apart).debt2 }

pub eases_none : (seat : ℕ) (held : Held) → EasesOthers seat held held
eases_none seat held = record { first = λ other apart. omega arith; second = λ other apart. omega arith }

pub eases_then : (seat : ℕ) (old mid new : Held) → EasesOthers seat old mid → EasesOthers seat mid new → EasesOthers seat old new
eases_then seat old mid new one two = record { first = λ other apart. omega (arith, one.first other apart, two.first other apart); second = λ other apart. omega (arith, one.second other apart, two.second other apart) }
