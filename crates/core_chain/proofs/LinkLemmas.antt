-- One link of a chain: what each kind of call says of it. And what each link keeps, the chain keeps.
use Rattle.std.proofs.Common.{◌≡◌, ◌∙◌, ℕ, ◌<◌, Bool, true, false, List, [], ◌∷◌, ◌&&◌, ◌==◌, None, ap, sym, subst}
use Rattle.std.proofs.lemmas.Grind.{common_steps}
use Rattle.std.proofs.lemmas.Bool.Decides.{nat_tests}
use Rattle.std.proofs.Common.{arith}
use Rattle.std.specs.Prelude.{IsSome, Option}
use Rattle.std.proofs.lemmas.Bool.{ltb-true}
use Rattle.blsm_model.specs.Format.{callers}
use Rattle.blsm_model.specs.Legal.{is_write, is_look}
use Rattle.blsm_model.specs.declared.history.Why.{Why}
use Rattle.blsm_model.specs.declared.op.Op.{Op}
use Rattle.disk_trait.specs.Disk.{DiskState}
use Rattle.seat_book.specs.State.{BookState, may_note_in, work_in}
use Rattle.tree_machine.specs.Machine.{Turned, is_caller}
use Rattle.tree_machine.specs.Plays.{has_room, is_help}
use Rattle.tree_machine.specs.Steps.{Answer, Left, Replied, Turn}
use Rattle.tree_machine.specs.declared.step.Kind.{Kind}
use Rattle.tree_machine.specs.declared.step.Kind.TheVariants as kind
use Rattle.tree_machine.specs.declared.step.Step.{Step}
use Rattle.tree_machine.proofs.FoldLemmas.{both_hold}
use Rattle.tree_core.specs.Answers.{answer_to_pay, reply_to_drop, reply_to_hold, reply_to_next, reply_to_write}
use Rattle.tree_core.specs.Calls.{Admits, AreCalls, GoesOnAs, IsCall, Pays, ReadsOn}
use Rattle.tree_core.specs.Causes.{TurnsBecause, TurnsNone}
use Rattle.tree_core.specs.Core.{CoreState, IsCore}
use Rattle.tree_core.specs.Steps.{is_even_in}
use Rattle.tree_core.specs.Ruling.{Ruling}
use Rattle.tree_core.specs.Ruling as ruling
use Rattle.tree_core.specs.declared.answers.Payment.{Payment}
use Rattle.tree_core.specs.Scanned.{Scanned}
use Rattle.tree_core.specs.Scanned as scanned
use Rattle.core_chain.specs.Damage.{IsAmong}

-- ---- one link

-- what all kinds say
pub goes_of : {D : Type 0} (state : D → DiskState) (seat : ℕ) (k : Kind) (old new : CoreState D) → IsCall state seat k old new → (answer : Answer) × GoesOnAs state seat k answer old new
goes_of state seat (kind.Admit op) old new call = (Replied (reply_to_write call.0), call.1.goes)
goes_of state seat kind.Pay old new call = (answer_to_pay call.0, call.1.goes)
goes_of state seat (kind.Look op) old new call = (Replied call.0, call.1.goes)
goes_of state seat (kind.Hold low high) old new call = (Replied (reply_to_hold call.0), call.1.goes)
goes_of state seat (kind.Next n) old new call = (Replied (reply_to_next call.0), call.1.goes)
goes_of state seat kind.Release old new call = (Replied (reply_to_drop call.0), call.1.goes)
goes_of state seat kind.WorkTurn old new call = (Turn call.0, call.1.goes)
goes_of state seat (kind.WorkEnd n) old new call = (Replied call.0, call.1.goes)
goes_of state seat kind.WorkerTurn old new call = (Turn call.0, call.1.goes)
goes_of state seat kind.Leave old new call = (Left, call.goes)

-- the core keeps a pace
pub link_keeps : {D : Type 0} (state : D → DiskState) (seat : ℕ) (k : Kind) (old new : CoreState D) → IsCall state seat k old new → IsCore old.held (state old.disk) → IsCore new.held (state new.disk)
link_keeps state seat k old new call keeps = let moves = (goes_of state seat k old new call).1.numbers keeps.pace keeps.holds in record { pace = moves.next; holds = moves.holds }

-- and its geometry
pub link_sizes : {D : Type 0} (state : D → DiskState) (seat : ℕ) (k : Kind) (old new : CoreState D) → IsCall state seat k old new → IsCore old.held (state old.disk) → new.held.runs.sizes ≡ old.held.runs.sizes
link_sizes state seat k old new call keeps = grind (arith, common_steps, nat_tests)

-- what only looks may be asked of it
pub looks_as : (seat : ℕ) (op : Op) (b : BookState) → (is_look op && may_note_in seat 0 b) ≡ true → (is_look op ≡ true) × (may_note_in seat 0 b ≡ true)
looks_as seat op b is = both_hold (is_look op) (may_note_in seat 0 b) is

-- who notes, works, pays or leaves is a caller
noter : (seat rows : ℕ) (b : BookState) → may_note_in seat rows b ≡ true → seat < callers
noter seat rows b is = ltb-true seat callers (both_hold (is_caller seat) (has_room b.book.room seat rows) (both_hold (is_caller seat && has_room b.book.room seat rows) ((work_in seat b).turns == 0) is).0).0

pub writes_as : {D : Type 0} (state : D → DiskState) (seat : ℕ) (old : CoreState D) (op : Op) → (is_write op && may_note_in seat 0 old.held.book && is_even_in seat old.held) ≡ true → (is_write op ≡ true) × (may_note_in seat 0 old.held.book ≡ true)
writes_as state seat old op is = both_hold (is_write op) (may_note_in seat 0 old.held.book) (both_hold (is_write op && may_note_in seat 0 old.held.book) (is_even_in seat old.held) is).0

pub caller_of : {D : Type 0} (state : D → DiskState) (seat : ℕ) (k : Kind) (old new : CoreState D) → IsCall state seat k old new → is_help k ≡ false → seat < callers
caller_of state seat k old new h1 h2 = grind (arith, common_steps, nat_tests, noter, writes_as, looks_as, ltb-true, both_hold)

-- ---- a store that is stopped

-- it can't have run
never : (o : Option Why) → IsSome o → o ≡ None → ⊥
never o h1 h2 = grind (arith, common_steps, nat_tests)

admit_rests : {D : Type 0} (state : D → DiskState) (seat : ℕ) (op : Op) (answer : Ruling) (old new : CoreState D) → Admits state seat op answer old
    new → IsSome old.held.book.stopped → new.disk ≡ old.disk
admit_rests state seat op ruling.Admitted old new call some = absurd (never old.held.book.stopped some call.cause.0.ran)
admit_rests state seat op (ruling.Kept found) old new call some = absurd (never old.held.book.stopped some call.cause.0)
admit_rests state seat op (ruling.Full charge) old new call some = absurd (never old.held.book.stopped some call.cause.0)
admit_rests state seat op ruling.ReadFault old new call some = absurd (never old.held.book.stopped some call.cause.0)
admit_rests state seat op (ruling.Damaged page) old new call some = absurd (never old.held.book.stopped some call.cause.0)
admit_rests state seat op (ruling.Fault begun) old new call some = absurd (never old.held.book.stopped some call.cause.0.ran)
admit_rests state seat op (ruling.Stopped why) old new call some = call.untouched tt

pay_rests : {D : Type 0} (state : D → DiskState) (seat : ℕ) (answer : Payment) (old new : CoreState D) → Pays state seat answer old new → IsSome old.held.book.stopped → new.disk ≡ old.disk
pay_rests state seat answer old new h1 h2 = grind (arith, common_steps, nat_tests)

scan_rests : {D : Type 0} (state : D → DiskState) (seat n : ℕ) (answer : Scanned) (old new : CoreState D) → ReadsOn state seat n answer old new → IsSome old.held.book.stopped → new.disk ≡ old.disk
scan_rests state seat n (scanned.Rows rows) old new call some = absurd (never old.held.book.stopped some call.cause.0)
scan_rests state seat n scanned.NoHold old new call some = call.untouched tt
scan_rests state seat n scanned.Fault old new call some = absurd (never old.held.book.stopped some call.cause.0)
scan_rests state seat n (scanned.Damaged page) old new call some = absurd (never old.held.book.stopped some call.cause.0)
scan_rests state seat n (scanned.Stopped why) old new call some = call.untouched tt

turn_rests : {D : Type 0} (state : D → DiskState) (is_worker : Bool) (seat : ℕ) (answer : Turned) (old new : CoreState D) → TurnsBecause answer is_worker seat old.held new.held (state old.disk) (state new.disk) → (TurnsNone answer → new.disk ≡ old.disk)
    → IsSome old.held.book.stopped → new.disk ≡ old.disk
turn_rests state is_worker seat answer old new h1 h2 h3 = grind (arith, common_steps, nat_tests)

-- no call of it calls the disk
pub link_rests : {D : Type 0} (state : D → DiskState) (seat : ℕ) (k : Kind) (old new : CoreState D) → IsCall state seat k old new → IsSome old.held.book.stopped → new.disk ≡ old.disk
link_rests state seat (kind.Admit op) old new call some = admit_rests state seat op call.0 old new call.1 some
link_rests state seat kind.Pay old new call some = pay_rests state seat call.0 old new call.1 some
link_rests state seat (kind.Look op) old new call some = call.1.rests some
link_rests state seat (kind.Hold low high) old new call some = call.1.untouched
link_rests state seat (kind.Next n) old new call some = scan_rests state seat n call.0 old new call.1 some
link_rests state seat kind.Release old new call some = call.1.untouched
link_rests state seat kind.WorkTurn old new call some = turn_rests state false seat call.0 old new call.1.cause call.1.untouched some
link_rests state seat (kind.WorkEnd n) old new call some = call.1.untouched
link_rests state seat kind.WorkerTurn old new call some = turn_rests state true seat call.0 old new call.1.cause call.1.untouched some
link_rests state seat kind.Leave old new call some = call.untouched

-- ---- the chain

pub chain_keeps : {D : Type 0} (state : D → DiskState) (P : CoreState D → Type 0) → ((seat : ℕ) (k : Kind) (old new : CoreState D) → IsCall state seat k old new → P old → P new)
    → (calls : List (Step × CoreState D)) (old new : CoreState D) → AreCalls state calls old new → P old → P new
chain_keeps {D} state P link [] old new are here = subst (λ (core : CoreState D). P core) (sym are) here
chain_keeps state P link (one ∷ calls) old new are here = chain_keeps state P link calls one.1 new are.1 (link one.0.seat one.0.kind old one.1 are.0 here)

-- a pace and a geometry
pub record Kept {D : Type 0} (state : D → DiskState) (start now : CoreState D) : Type 0 where
  pub keeps : IsCore now.held (state now.disk)
  pub sizes : now.held.runs.sizes ≡ start.held.runs.sizes

pub link_kept : {D : Type 0} (state : D → DiskState) (start : CoreState D) (seat : ℕ) (k : Kind) (old new : CoreState D) → IsCall state seat k old new → Kept state start old → Kept state start new
link_kept state start seat k old new call kept = record { keeps = link_keeps state seat k old new call kept.keeps; sizes = link_sizes state seat k old new call kept.keeps ∙ kept.sizes }

-- a call among these is among more
pub among_more : {D : Type 0} {state : D → DiskState} {calls : List (Step × CoreState D)} {start end old new : CoreState D} {step : Step} (one : Step × CoreState D) → IsCall state one.0.seat one.0.kind start one.1 → IsAmong state calls one.1 end step old new
    → IsAmong state (one ∷ calls) start end step old new
among_more {D} one call found =
    record { before = one ∷ found.before; behind = found.behind; parts = ap (λ (l : List (Step × CoreState D)). one ∷ l) found.parts; led = (call, found.led); call = found.call; leads = found.leads }
