-- Histories that grow at the end.
use Rattle.std.proofs.lemmas.Bool.Decides.{nat_tests}
use Rattle.std.proofs.lemmas.Grind.{common_steps}
use Rattle.std.proofs.Common.{arith, ◌≡◌, ℕ, ◌++◌, List, [], ◌∷◌, true, false, ap, sym, subst, ◌∙◌, append_assoc, append-nil}
use Rattle.std.specs.List.{fold}
use Rattle.std.proofs.lemmas.List.Concat.{flat_map-append}
use Rattle.blsm_model.specs.declared.row.Value.{Value}
use Rattle.blsm_model.specs.declared.history.Entry.{Entry}
use Rattle.std.specs.FinMap.{find}
use Rattle.blsm_model.specs.Keys.{key_cmp}
use Rattle.blsm_model.specs.Values.{value_at}
use Rattle.blsm_model.specs.Rows.{puts_of}
use Rattle.blsm_model.specs.Histories.{Object, counted, counted_writes, written, fresh_object, after, object_after, map_after}
use Rattle.blsm_model.proofs.RowLemmas.{find-map_of}
use Rattle.blsm_model.specs.Legal.{Limits, MayReply, FollowsOn, IsLegal, is_running, is_stopping, is_stopped}

pub counted_writes_push : (history : List Entry) (entry : Entry) → counted_writes (history ++ entry ∷ []) ≡ counted_writes history ++ counted entry
counted_writes_push history entry = flat_map-append counted history (entry ∷ []) ∙ ap (λ ws. counted_writes history ++ ws) (append-nil (counted entry))

pub written_push : (opening : List (List ℕ × Value)) (history : List Entry) (entry : Entry) → written opening (history ++ entry ∷ []) ≡ written opening history ++ counted entry
written_push opening history entry = ap (λ ws. puts_of opening ++ ws) (counted_writes_push history entry) ∙ sym (append_assoc (puts_of opening) (counted_writes history) (counted entry))

writes_from : (object : Object) (history : List Entry) → (fold after object history).writes ≡ object.writes ++ counted_writes history
writes_from object [] = sym (append-nil object.writes)
writes_from object (e ∷ es) = writes_from (after object e) es ∙ append_assoc object.writes (counted e) (counted_writes es)

-- the sequential map holds what was written
pub writes-object_after : (opening : List (List ℕ × Value)) (history : List Entry) → (object_after opening history).writes ≡ written opening history
writes-object_after opening history = writes_from (fresh_object opening) history

-- so a get is answered from the map after the history
pub value-object_after : (opening : List (List ℕ × Value)) (history : List Entry) (key : List ℕ) → value_at (object_after opening history).writes key ≡ find key_cmp key (map_after opening history)
value-object_after opening history key = ap (λ writes. value_at writes key) (writes-object_after opening history) ∙ sym (find-map_of (written opening history) key)

follows_push : (limits : Limits) (opening : List (List ℕ × Value)) (before history : List Entry) (entry : Entry) →
    FollowsOn limits opening before history → MayReply limits opening (before ++ history) entry.seat entry.op entry.reply → FollowsOn limits opening before (history ++ entry ∷ [])
follows_push limits opening before [] entry legal may = grind (arith, common_steps, nat_tests)
follows_push limits opening before (e ∷ es) entry legal may = grind (arith, common_steps, nat_tests, follows_push limits opening (before ++ e ∷ []) es entry legal.1 (subst (λ h. MayReply limits opening h entry.seat entry.op entry.reply) (sym (append_assoc before (e ∷ []) es)) may))

-- a legal history, and a reply that may come after it
pub legal_push : (limits : Limits) (opening : List (List ℕ × Value)) (history : List Entry) (entry : Entry) →
    IsLegal limits opening history → MayReply limits opening history entry.seat entry.op entry.reply → IsLegal limits opening (history ++ entry ∷ [])
legal_push limits opening history entry legal may = follows_push limits opening [] history entry legal may

front_follows : (limits : Limits) (opening : List (List ℕ × Value)) (before front more : List Entry) → FollowsOn limits opening before (front ++ more) → FollowsOn limits opening before front
front_follows limits opening before [] more legal = tt
front_follows limits opening before (e ∷ es) more legal = (legal.0, front_follows limits opening (before ++ e ∷ []) es more legal.1)

-- a front of a legal history is legal
pub legal_front : (limits : Limits) (opening : List (List ℕ × Value)) (front more : List Entry) → IsLegal limits opening (front ++ more) → IsLegal limits opening front
legal_front limits opening front more legal = front_follows limits opening [] front more legal

-- the store still runs after an entry that shows no stop
pub running_push : (history : List Entry) (entry : Entry) → is_running history ≡ true → is_stopping entry.op entry.reply ≡ false → is_stopped entry.reply ≡ false → is_running (history ++ entry ∷ []) ≡ true
running_push history entry running stopping stopped = grind (arith, common_steps, nat_tests)
