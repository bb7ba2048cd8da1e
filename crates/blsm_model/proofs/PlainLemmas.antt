-- The plain store keeps a legal history.
use Rattle.std.proofs.lemmas.Bool.Decides.{nat_tests}
use Rattle.std.proofs.lemmas.Grind.{common_steps}
use Rattle.std.proofs.Common.{
  ◌≡◌,
  ℕ,
  ◌+◌,
  ◌<◌,
  ◌≤◌,
  ◌++◌,
  List,
  [],
  ◌∷◌,
  Option,
  Some,
  None,
  true,
  refl,
  ap,
  sym,
  subst,
  ◌∙◌,
  append-nil,
  arith,
  ◌⊎◌,
  false,
}
use Rattle.std.specs.List.{list_all}
use Rattle.blsm_model.specs.declared.row.Value.{Value}
use Rattle.blsm_model.specs.declared.op.Op.{Op}
use Rattle.blsm_model.specs.declared.op.Op.TheVariants.{Get}
use Rattle.blsm_model.specs.declared.history.Reply.{Reply}
use Rattle.blsm_model.specs.declared.history.Reply.TheVariants.{Done, Is, Absent, Kept, Full}
use Rattle.blsm_model.specs.declared.history.Entry.{Entry}
use Rattle.blsm_model.specs.PlainState.{PlainState}
use Rattle.blsm_model.specs.Values.{value_at}
use Rattle.blsm_model.specs.Histories.{writes_of, counted_writes, counted, is_met, looked_at, written, object_after, answer_to_get}
use Rattle.blsm_model.specs.Legal.{MayReply, is_running, is_write, limit_for, total_weight}
use Rattle.blsm_model.specs.Plain.{IsPlainStep, StandsAfter, plain_limits, is_plain_reply}
use Rattle.blsm_model.proofs.OpLemmas.{write_is_done, write_is_kept}
use Rattle.blsm_model.proofs.HistoryLemmas.{written_push, legal_push, running_push, writes-object_after}

abbrev by : ℕ → Op → Reply → Entry
by seat op reply = record { seat = seat; op = op; reply = reply }

same_limit : (kept : PlainState) (charge : ℕ) (op : Op) → limit_for (plain_limits kept charge) op ≡ kept.limit
same_limit kept charge op = grind (arith, common_steps, nat_tests)

charge_push : (at c : ℕ) (history : List Entry) (entry : Entry) → c ≡ at + total_weight (counted_writes history) → c + total_weight (counted entry) ≡ at + total_weight (counted_writes (history ++ entry ∷ []))
charge_push at c history entry is = grind (arith, common_steps, nat_tests)

-- what it has is what the sequential map has
same_writes : (old : PlainState) (opening : List (List ℕ × Value)) (at : ℕ) (history : List Entry) → StandsAfter old opening at history
    → old.writes ≡ (object_after opening history).writes
same_writes old opening at history s = s.writes ∙ sym (writes-object_after opening history)

-- after a write that is done
stands_done : (old : PlainState) (opening : List (List ℕ × Value)) (at : ℕ) (history : List Entry) (seat : ℕ) (op : Op) → is_write op ≡ true
    → is_met op (value_at old.writes) ≡ true → StandsAfter old opening at history
    → StandsAfter (record { writes = old.writes ++ writes_of op; charge = old.charge + total_weight (writes_of op); limit = old.limit }) opening at
    (history ++ by seat op Done ∷ [])
stands_done old opening at history seat op w met s = record {
  writes = ap (λ ws. ws ++ writes_of op) s.writes ∙ sym (written_push opening history (by seat op Done));
  charge = charge_push at old.charge history (by seat op Done) s.charge;
  legal = legal_push (plain_limits old at) opening history (by seat op Done) s.legal (
    s.running,
    write_is_done (object_after opening history) seat op w
        (subst (λ ws. is_met op (value_at ws) ≡ true) (same_writes old opening at history s) met),
  );
  running = running_push history (by seat op Done) s.running refl refl;
}

-- after an entry that writes nothing and stops nothing
stands_same : (old : PlainState) (opening : List (List ℕ × Value)) (at : ℕ) (history : List Entry) (entry : Entry) → StandsAfter old opening at
    history →
    counted entry ≡ [] → MayReply (plain_limits old at) opening history entry.seat entry.op entry.reply → is_running (history ++ entry ∷ []) ≡ true → StandsAfter old opening at (history ++ entry ∷ [])
stands_same old opening at history entry s none may running = record {
  writes = s.writes ∙ sym (written_push opening history entry ∙ ap (λ ws. written opening history ++ ws) none ∙ append-nil (written opening history));
  charge = let e : old.charge + total_weight (counted entry) ≡ at + total_weight (counted_writes (history ++ entry ∷ [])) = charge_push at old.charge history entry s.charge in
      let z : total_weight (counted entry) ≡ 0 = ap total_weight none in omega arith;
  legal = legal_push (plain_limits old at) opening history entry s.legal may;
  running = running;
}

stands_full : (old : PlainState) (opening : List (List ℕ × Value)) (at : ℕ) (history : List Entry) (seat : ℕ) (op : Op) → is_write op ≡ true
    → old.limit < old.charge + total_weight (writes_of op) → is_met op (value_at old.writes) ≡ true → StandsAfter old opening at history
    → StandsAfter old opening at (history ++ by seat op (Full old.charge) ∷ [])
stands_full old opening at history seat op w past met s =
    let met_there : is_met op (value_at (object_after opening history).writes) ≡ true =
    subst (λ ws. is_met op (value_at ws) ≡ true) (same_writes old opening at history s) met in
    grind (arith, common_steps, nat_tests, same_limit, stands_same)

-- after one whose condition doesn't hold
stands_kept : (old : PlainState) (opening : List (List ℕ × Value)) (at : ℕ) (history : List Entry) (seat : ℕ) (op : Op) → is_write op ≡ true
    → is_met op (value_at old.writes) ≡ false → StandsAfter old opening at history
    → StandsAfter old opening at (history ++ by seat op (Kept (looked_at op (value_at old.writes))) ∷ [])
stands_kept old opening at history seat op w unmet s =
    let same = same_writes old opening at history s in
    let told = write_is_kept (object_after opening history) seat op w (subst (λ ws. is_met op (value_at ws) ≡ false) same unmet) in
    subst (λ ws. StandsAfter old opening at (history ++ by seat op (Kept (looked_at op (value_at ws))) ∷ [])) (sym same)
    (let entry : Entry = by seat op (Kept (looked_at op (value_at (object_after opening history).writes))) in
    stands_same old opening at history entry s refl (s.running, told) (running_push history entry s.running refl refl))

stands_get : (old : PlainState) (opening : List (List ℕ × Value)) (at : ℕ) (history : List Entry) (seat : ℕ) (key : List ℕ) (found : Option Value) →
    value_at old.writes key ≡ found → StandsAfter old opening at history →
    StandsAfter old opening at (history ++ by seat (Get key) (answer_to_get found) ∷ [])
stands_get old opening at history seat key found is s =
    let told : answer_to_get found ≡ answer_to_get (value_at (object_after opening history).writes key) =
    ap answer_to_get (sym is ∙ ap (λ ws. value_at ws key) (s.writes ∙ sym (writes-object_after opening history))) in
    at_found found told
  where
    at_found : (o : Option Value) → answer_to_get o ≡ answer_to_get (value_at (object_after opening history).writes key) → StandsAfter old opening at (history ++ by seat (Get key) (answer_to_get o) ∷ [])
    at_found None told = stands_same old opening at history (by seat (Get key) Absent) s refl (s.running, told) (running_push history (by seat (Get key) Absent) s.running refl refl)
    at_found (Some value) told = stands_same old opening at history (by seat (Get key) (Is value)) s refl (s.running, told) (running_push history (by seat (Get key) (Is value)) s.running refl refl)

-- what an answer to a write may be
write_answers : (old new : PlainState) (op : Op) (reply : Reply) → is_write op ≡ true → IsPlainStep old op new reply →
    ((reply ≡ Done) × (is_met op (value_at old.writes) ≡ true) × (old.charge + total_weight (writes_of op) ≤ old.limit)
    × (new ≡ record { writes = old.writes ++ writes_of op; charge = old.charge + total_weight (writes_of op); limit = old.limit }))
    ⊎ ((reply ≡ Full old.charge) × (is_met op (value_at old.writes) ≡ true) × (old.limit < old.charge + total_weight (writes_of op)) × (new ≡ old))
    ⊎ ((reply ≡ Kept (looked_at op (value_at old.writes))) × (is_met op (value_at old.writes) ≡ false) × (new ≡ old))
write_answers old new op reply h1 h2 = grind (arith, common_steps, nat_tests)

stands_write : (old new : PlainState) (opening : List (List ℕ × Value)) (at : ℕ) (history : List Entry) (seat : ℕ) (op : Op) (reply : Reply) →
    is_write op ≡ true → IsPlainStep old op new reply → StandsAfter old opening at history → StandsAfter new opening at
    (history ++ by seat op reply ∷ [])
stands_write old new opening at history seat op reply w a s = grind (
  arith,
  common_steps,
  nat_tests,
  write_answers,
  stands_done,
  stands_full,
  stands_kept,
)

-- after any answer of the plain store
pub stands_push : (old new : PlainState) (opening : List (List ℕ × Value)) (at : ℕ) (history : List Entry) (seat : ℕ) (op : Op) (reply : Reply) →
    IsPlainStep old op new reply → StandsAfter old opening at history → StandsAfter new opening at (history ++ by seat op reply ∷ [])
stands_push old new opening at history seat (Get key) reply a s =
    subst (λ r. StandsAfter new opening at (history ++ by seat (Get key) r ∷ [])) (sym a.0) (subst (λ k. StandsAfter k opening at (history ++ by seat (Get key) (answer_to_get (value_at old.writes key)) ∷ [])) (sym a.1) (stands_get old opening at history seat key _ refl s))
stands_push old new opening at history seat op (Full charge) a s = stands_write old new opening at history seat op (Full charge) a.0 a s
stands_push old new opening at history seat op (Kept found) a s = stands_write old new opening at history seat op (Kept found) a.0 a s
stands_push old new opening at history seat op reply a s = stands_write old new opening at history seat op reply a.0 a s

-- no answer changes the limit
pub limit_kept : (old new : PlainState) (op : Op) (reply : Reply) → IsPlainStep old op new reply → new.limit ≡ old.limit
limit_kept old new op reply h1 = grind (arith, common_steps, nat_tests)

-- the charge stays within the limit
pub charge_kept : (old new : PlainState) (op : Op) (reply : Reply) → IsPlainStep old op new reply → old.charge ≤ old.limit → new.charge ≤ new.limit
charge_kept old new op reply h1 h2 = grind (arith, common_steps, nat_tests)

-- each reply is one of those that the plain store gives
pub answered : (old new : PlainState) (op : Op) (reply : Reply) → IsPlainStep old op new reply → is_plain_reply reply ≡ true
answered old new op reply h1 = grind (arith, common_steps, nat_tests)

pub answered_push : (history : List Entry) (entry : Entry) → list_all (λ e. is_plain_reply e.reply) history ≡ true → is_plain_reply entry.reply ≡ true → list_all (λ e. is_plain_reply e.reply) (history ++ entry ∷ []) ≡ true
answered_push history entry before now = grind (arith, common_steps, nat_tests)
