-- What the calls answer, in the words of the history and of the machine.
use Rattle.std.specs.Prelude.{ℕ, List, Option, if◌then◌else◌}
use Rattle.blsm_model.specs.declared.key.Key.{Key}
use Rattle.blsm_model.specs.declared.row.Value.{Value}
use Rattle.record_delta.specs.declared.record.Rec.{Rec}
use Rattle.record_delta.specs.Records.{settled}
use Rattle.record_delta.specs.Entries.{over_any, record_of_key}
use Rattle.page_file.specs.Component.{entries_of}
use Rattle.tree_file.specs.Tree.{Tree}
use Rattle.tree_runs.specs.Lookups.{IsFloorOf, first_record}
use Rattle.core_moves.specs.declared.held.Held.{Held}
use Rattle.blsm_model.specs.declared.history.Reply.{Reply}
use Rattle.blsm_model.specs.declared.history.Reply.TheVariants as reply
use Rattle.tree_machine.specs.Machine as machine
use Rattle.tree_machine.specs.Steps as steps
use Rattle.tree_machine.specs.Steps.{Answer, Turn}
use Rattle.tree_core.specs.Ruling.{Ruling}
use Rattle.tree_core.specs.Ruling as ruling
use Rattle.tree_core.specs.declared.answers.Payment.{Payment}
use Rattle.tree_core.specs.declared.answers.Payment.TheVariants as payment
use Rattle.tree_core.specs.declared.answers.Holding.{Holding}
use Rattle.tree_core.specs.declared.answers.Holding.TheVariants as holding
use Rattle.tree_core.specs.Scanned.{Scanned}
use Rattle.tree_core.specs.Scanned as scanned
use Rattle.tree_core.specs.declared.answers.Release.{Release}
use Rattle.tree_core.specs.declared.answers.Release.TheVariants as release
use Rattle.tree_core.specs.declared.answers.Lookup.{Lookup}
use Rattle.tree_core.specs.declared.answers.Lookup.TheVariants as lookup

abbrev pub reply_to_write : Ruling → Reply
reply_to_write ruling.Admitted = reply.Done
reply_to_write (ruling.Kept found) = reply.Kept found
reply_to_write (ruling.Full charge) = reply.Full charge
reply_to_write ruling.ReadFault = reply.Fault
reply_to_write (ruling.Damaged page) = reply.Damaged page
reply_to_write (ruling.Fault begun) = if begun then reply.FaultUnsure else reply.FaultLost
reply_to_write (ruling.Stopped why) = reply.Stopped why

abbrev pub answer_to_pay : Payment → Answer
answer_to_pay payment.Paid = steps.Paid
answer_to_pay payment.Settled = steps.Settled
answer_to_pay payment.Fault = Turn machine.Failed
answer_to_pay (payment.Damaged page) = Turn (machine.BadPage page)
answer_to_pay (payment.Stopped why) = Turn (machine.Halted why)

abbrev pub reply_to_get : Lookup → Reply
reply_to_get (lookup.Is value) = reply.Is value
reply_to_get lookup.Absent = reply.Absent
reply_to_get lookup.Fault = reply.Fault
reply_to_get (lookup.Damaged page) = reply.Damaged page
reply_to_get (lookup.Stopped why) = reply.Stopped why

abbrev pub reply_to_hold : Holding → Reply
reply_to_hold holding.Held = reply.Held
reply_to_hold holding.NoMemory = reply.NoMemory
reply_to_hold (holding.Stopped why) = reply.Stopped why

abbrev pub reply_to_next : Scanned → Reply
reply_to_next (scanned.Rows rows) = reply.Rows rows
reply_to_next scanned.NoHold = reply.NoHold
reply_to_next scanned.Fault = reply.Fault
reply_to_next (scanned.Damaged page) = reply.Damaged page
reply_to_next (scanned.Stopped why) = reply.Stopped why

abbrev pub reply_to_drop : Release → Reply
reply_to_drop release.Done = reply.Done
reply_to_drop release.NoHold = reply.NoHold
reply_to_drop (release.Stopped why) = reply.Stopped why

-- what the memory table has of a key: table B's record over table A's
abbrev pub newest_in : Key → Held → Option Rec
newest_in key held = over_any (record_of_key key held.log.b.entries) (record_of_key key held.log.a.entries)

-- In this file what was dropped of table A, which is the tree's, is on the pass's finished pages.
abbrev pub HasDropped : Held → Tree → List ℕ → Type 0
HasDropped held tree file = IsFloorOf held.log.a.floor held.runs tree file

-- and the memory table's record over what was dropped of table A and the components of this tree have of the key
abbrev pub found_in : Key → Held → Tree → Option Value
found_in key held tree =
    settled (over_any (newest_in key held)
    (over_any (first_record held.log.a.floor key tree)
    (over_any (record_of_key key (entries_of tree.c1x)) (record_of_key key (entries_of tree.c2)))))
