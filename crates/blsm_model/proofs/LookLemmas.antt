-- A command that only looks writes nothing, moves no rows and stops nothing, and its answer is no refusal.
use Rattle.std.proofs.lemmas.Bool.Decides.{nat_tests}
use Rattle.std.proofs.lemmas.Grind.{common_steps}
use Rattle.std.proofs.Common.{◌≡◌, ℕ, true, false, List, [], arith}
use Rattle.blsm_model.specs.Histories.{Contents, IsAnswer, Object, answer_to_look, counted, is_refusal, moves_rows, object_after}
use Rattle.blsm_model.specs.Legal.{Limits, MayFail, MayReply, is_look, is_running, is_stopped, is_stopping, is_work, is_write, may_look}
use Rattle.blsm_model.specs.Rows.{rows}
use Rattle.blsm_model.specs.Values.{value_at}
use Rattle.blsm_model.specs.declared.history.Entry.{Entry}
use Rattle.blsm_model.specs.declared.history.Reply.{Reply}
use Rattle.blsm_model.specs.declared.key.Key.{Key}
use Rattle.blsm_model.specs.declared.op.Op.{Op}
use Rattle.blsm_model.specs.declared.row.Value.{Value}

pub look_is_no_write : (op : Op) → is_look op ≡ true → is_write op ≡ false
look_is_no_write op is = grind (arith, common_steps, nat_tests)

pub look_is_no_work : (op : Op) → is_look op ≡ true → is_work op ≡ false
look_is_no_work op is = grind (arith, common_steps, nat_tests)

pub look_leaves_rows : (op : Op) → is_look op ≡ true → moves_rows op ≡ false
look_leaves_rows op is = grind (arith, common_steps, nat_tests)

pub look_counts_none : (seat : ℕ) (op : Op) (reply : Reply) → is_look op ≡ true → counted (record { seat = seat; op = op; reply = reply }) ≡ []
look_counts_none seat op reply is = grind (arith, common_steps, nat_tests)

pub look_may : (op : Op) → is_look op ≡ true → may_look op ≡ true
look_may op is = grind (arith, common_steps, nat_tests)

-- it may fail while the store runs
pub look_may_fail : (before : List Entry) (op : Op) → is_look op ≡ true → is_running before ≡ true → MayFail before op
look_may_fail before op is runs = grind (arith, common_steps, nat_tests)

-- its answer is no refusal
pub look_answers : (op : Op) (contents : Contents) → is_refusal (answer_to_look op contents) ≡ false
look_answers op contents = grind (arith, common_steps, nat_tests)

-- and, of a map that has what was written, what the sequential map answers
pub look_is_answered : (op : Op) (contents : Contents) (object : Object) (seat : ℕ) → is_look op ≡ true → ((key : Key) → contents.value key ≡ value_at object.writes key)
    → ((low high : Key) → contents.rows low high ≡ rows object.writes low high) → IsAnswer object seat op (answer_to_look op contents)
look_is_answered op contents object seat is values ranges = grind (arith, common_steps, nat_tests)

-- an answer of the sequential map may be given while the store runs, and tells of no stop
pub answer_may : (limits : Limits) (opening : List (Key × Value)) (before : List Entry) (seat : ℕ) (op : Op) (reply : Reply) → is_refusal reply ≡ false → is_running before ≡ true
    → IsAnswer (object_after opening before) seat op reply → MayReply limits opening before seat op reply
answer_may limits opening before seat op reply none runs answered = grind (arith, common_steps, nat_tests)

pub answer_stops_none : (op : Op) (reply : Reply) → is_refusal reply ≡ false → (is_stopping op reply ≡ false) × (is_stopped reply ≡ false)
answer_stops_none op reply none = grind (arith, common_steps, nat_tests)
