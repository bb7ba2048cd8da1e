use Rattle.std.specs.Prelude.{◌≡◌, ◌≢◌, ℕ, IsTrue, Option, None, Some, Ok, Err}
use Rattle.std.specs.declared.result.Result.{Result}
use Rattle.std.proofs.Common.{◌∙◌, ap, refl, subst, sym}
use Rattle.blsm_model.specs.declared.history.Reply.TheVariants as reply
use Rattle.blsm_model.specs.declared.key.Key.{Key}
use Rattle.blsm_model.specs.declared.row.Value.{Value}
use Rattle.blsm_model.specs.Histories.{answer_to_get}
use Rattle.disk_trait.specs.Disk.{DiskState}
use Rattle.page_file.specs.Component.{entries_of}
use Rattle.page_file.specs.declared.file.Broken.{Broken}
use Rattle.page_file.specs.declared.file.Broken.TheVariants.{Fault}
use Rattle.record_delta.specs.declared.record.Rec.{Rec}
use Rattle.record_delta.specs.Records.{settled}
use Rattle.record_delta.specs.Entries.{over_any, record_of_key}
use Rattle.mem_table.specs.Tables.{Contents}
use Rattle.tree_runs.specs.Lookups.{AreToldBy, IsDamageBelow, IsFloorOf, first_record, from_newest}
use Rattle.core_moves.specs.declared.held.Held.{Held}
use Rattle.tree_core.specs.Answers.{newest_in, reply_to_get}
use Rattle.tree_core.specs.Causes.{FindsBecause, IsFound}
use Rattle.tree_core.specs.declared.answers.Lookup.{Lookup}
use Rattle.tree_core.specs.declared.answers.Lookup.TheVariants as lookup
use Rattle.tree_core.proofs.LookupSteps.{asked_few}
use Rattle.tree_core.proofs.lookup.look_up.Goals as goal

no_fault : (value : Unit {0}) → ◌≢◌ {A = Result (Unit {0}) Broken} (Ok value) (Err Fault)
no_fault value same = cc same

not_both : (broken : Broken) (rec : Option Rec) → ◌≢◌ {A = Result (Option Rec) Broken} (Err broken) (Ok rec)
not_both broken rec same = cc same

same_record : (one other : Option Rec) → ◌≡◌ {A = Result (Option Rec) Broken} (Ok one) (Ok other) → one ≡ other
same_record one other same = cc same

value_is : (value : Value) (o : Option Value) → reply.Is value ≡ answer_to_get o → Some value ≡ o
value_is value None is = cc
value_is value (Some other) is = cc

none_is : (o : Option Value) → reply.Absent ≡ answer_to_get o → None ≡ o
none_is None is = refl
none_is (Some other) is = cc

-- an answer that was found is what was told
told_is : (found : Lookup) (key : Key) (held : Held) (before after : DiskState) (rec : Option Rec) → IsFound found → reply_to_get found ≡ answer_to_get (settled rec) → held.book.stopped ≡ None → after.faults ≡ before.faults
    → (IsTrue before.is_honest → AreToldBy held.runs.sizes key before.bytes (from_newest held.log.a.floor key held.runs) (newest_in key held) rec)
    → FindsBecause found key held before after
told_is (lookup.Is value) key held before after rec is_found is ran same told = (ran, same, λ honest. (rec, told honest, value_is value (settled rec) is))
told_is lookup.Absent key held before after rec is_found is ran same told = (ran, same, λ honest. (rec, told honest, none_is (settled rec) is))
told_is lookup.Fault key held before after rec is_found is ran same told = absurd is_found
told_is (lookup.Damaged page) key held before after rec is_found is ran same told = absurd is_found
told_is (lookup.Stopped why) key held before after rec is_found is ran same told = absurd is_found

-- a damaged page that is named is the one that was told
damaged_is : (page : ℕ) (key : Key) (held : Held) (before after : DiskState) → held.book.stopped ≡ None → after.faults ≡ before.faults
    → (IsTrue before.is_honest
    → IsDamageBelow held.runs.sizes key before.bytes (from_newest held.log.a.floor key held.runs) (newest_in key held) page)
    → FindsBecause (lookup.Damaged page) key held before after
damaged_is page key held before after ran same told = (ran, same, told)

pub returns-in-Ok-clause-cause : goal.returns-in-Ok-clause-cause
returns-in-Ok-clause-cause g c =
    let held = c.args.held.now in
    let before = g.D.Disk.state c.args.disk.now in
    let key = c.args.key.now in
    told_is c.answer.result c.args.key.now held before (g.D.Disk.state c.find.new.disk) c.find.new.found c.answer.ensures.is_found c.answer.ensures.reply (sym c.in_default.ensures)
    (c.in-Ok.ensures.reads.stands (no_fault c.in-Ok.field-0))
    (λ honest. subst (λ (f : Option Key). AreToldBy held.runs.sizes key before.bytes (from_newest f key held.runs)
    (newest_in key held) c.find.new.found)
    (c.floor-floor.ensures.floor ∙ ap (λ (t : Contents). t.floor) c.a.ensures)
    (subst (λ (n : Option Rec). AreToldBy held.runs.sizes key before.bytes (from_newest c.floor-floor.result.now key held.runs) n c.find.new.found)
    c.get-found.ensures
    (c.in-Ok.ensures.told honest)))

pub returns-in-Err-Damaged-clause-cause : goal.returns-in-Err-Damaged-clause-cause
returns-in-Err-Damaged-clause-cause g c =
    let held = c.args.held.now in
    let before = g.D.Disk.state c.args.disk.now in
    let after = g.D.Disk.state c.find.new.disk in
    let key = c.args.key.now in
    subst (λ (p : ℕ). FindsBecause (lookup.Damaged p) c.args.key.now held before after) (sym c.in-Err-Damaged.page-is)
    (damaged_is c.in-Err-Damaged.page c.args.key.now held before after (sym c.in_default.ensures)
    (c.in-Err-Damaged.ensures.reads.stands (λ same. cc (same, c.in-Err-Damaged.field-0-is)))
    (λ honest. subst (λ (f : Option Key). IsDamageBelow held.runs.sizes key before.bytes (from_newest f key held.runs)
    (newest_in key held) c.in-Err-Damaged.page)
    (c.floor-floor.ensures.floor ∙ ap (λ (t : Contents). t.floor) c.a.ensures)
    (subst (λ (n : Option Rec). IsDamageBelow held.runs.sizes key before.bytes
    (from_newest c.floor-floor.result.now key held.runs) n c.in-Err-Damaged.page) c.get-found.ensures
    (c.in-Err-Damaged.ensures.damaged c.in-Err-Damaged.page (cc c.in-Err-Damaged.field-0-is) honest))))

pub returns-in-Ok-clause-value : goal.returns-in-Ok-clause-value
returns-in-Ok-clause-value g c = λ tree honest holds catalogue guided dropped runs not.
    let held = c.args.held.now in
    let key = c.args.key.now in
    let below = λ (f : Option Key).
    over_any (first_record f key tree) (over_any (record_of_key key (entries_of tree.c1x))
    (record_of_key key (entries_of tree.c2))) in
    let is = c.floor-floor.ensures.floor ∙ ap (λ (t : Contents). t.floor) c.a.ensures in
    let found = same_record c.find.new.found (over_any c.get-found.result (below c.floor-floor.result.now))
    (c.in-Ok.ensures.lists tree honest holds catalogue guided
    (subst (λ (f : Option Key). IsFloorOf f held.runs tree (g.D.Disk.state c.args.disk.now).bytes) (sym is) dropped)
    (no_fault c.in-Ok.field-0)) in
    c.answer.ensures.reply
    ∙ ap (λ (r : Option Rec). answer_to_get (settled r))
    (found ∙ ap (λ (n : Option Rec). over_any n (below c.floor-floor.result.now)) c.get-found.ensures
    ∙ ap (λ (f : Option Key). over_any (newest_in key held) (below f)) is)

pub returns-in-Err-Damaged-clause-value : goal.returns-in-Err-Damaged-clause-value
returns-in-Err-Damaged-clause-value g c = λ tree honest holds catalogue guided dropped runs not.
    let broken = c.in-Err-Damaged.field-0 in
    let is = c.floor-floor.ensures.floor ∙ ap (λ (t : Contents). t.floor) c.a.ensures in
    absurd (not_both broken _ (c.in-Err-Damaged.ensures.lists tree honest holds catalogue guided
    (subst (λ (f : Option Key). IsFloorOf f c.args.held.now.runs tree (g.D.Disk.state c.args.disk.now).bytes) (sym is) dropped)
    (λ same. cc (same, c.in-Err-Damaged.field-0-is))))

pub returns-in-Ok-clause-reads : goal.returns-in-Ok-clause-reads
returns-in-Ok-clause-reads g c = asked_few c.args.key.now c.args.held.now c.floor-floor.result.now
    (c.floor-floor.ensures.floor ∙ ap (λ (t : Contents). t.floor) c.a.ensures) c.in-Ok.ensures.asks

pub returns-in-Err-Fault-clause-reads : goal.returns-in-Err-Fault-clause-reads
returns-in-Err-Fault-clause-reads g c = asked_few c.args.key.now c.args.held.now c.floor-floor.result.now
    (c.floor-floor.ensures.floor ∙ ap (λ (t : Contents). t.floor) c.a.ensures) c.in-Err-Fault.ensures.asks

pub returns-in-Err-Damaged-clause-reads : goal.returns-in-Err-Damaged-clause-reads
returns-in-Err-Damaged-clause-reads g c = asked_few c.args.key.now c.args.held.now c.floor-floor.result.now
    (c.floor-floor.ensures.floor ∙ ap (λ (t : Contents). t.floor) c.a.ensures) c.in-Err-Damaged.ensures.asks
