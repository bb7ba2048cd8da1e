-- The plain store, and what it answers.
use Rattle.std.specs.Prelude.{◌∷◌, [], ◌≡◌, ℕ, ◌+◌, ◌<◌, ◌≤◌, Bool, true, false, List, ◌++◌, IsTrue, All}
use Rattle.std.specs.List.{list_all}
use Rattle.blsm_model.specs.declared.key.Key.{Key}
use Rattle.blsm_model.specs.declared.row.Value.{Value}
use Rattle.blsm_model.specs.declared.op.Op.{Op}
use Rattle.blsm_model.specs.declared.op.Op.TheVariants.{Get}
use Rattle.blsm_model.specs.declared.history.Reply.{Reply}
use Rattle.blsm_model.specs.declared.history.Reply.TheVariants.{Done, Is, Absent, Kept, Full}
use Rattle.blsm_model.specs.declared.history.Entry.{Entry}
use Rattle.blsm_model.specs.declared.history.Line.{Line}
use Rattle.blsm_model.specs.PlainState.{PlainState}
use Rattle.blsm_model.specs.Values.{value_at}
use Rattle.blsm_model.specs.Histories.{writes_of, counted_writes, written, answer_to_get, is_met, looked_at}
use Rattle.blsm_model.specs.Legal.{Limits, total_weight, IsLegal, is_running, is_write}

-- the commands that the plain store answers
abbrev pub is_plain : Op → Bool
is_plain (Get key) = true
is_plain op = is_write op

abbrev pub AllPlain : List Line → Type 0
AllPlain script = All (λ l. IsTrue (is_plain l.op)) script

-- what the plain store answers to a command, and has then: a write whose condition holds is done where the charge stays
-- within the limit, and refused as full where it wouldn't; one whose condition doesn't is told what it found
abbrev pub IsPlainStep : PlainState → Op → PlainState → Reply → Type 0
IsPlainStep old (Get key) new reply = (reply ≡ answer_to_get (value_at old.writes key)) × (new ≡ old)
IsPlainStep old op new (Full charge) =
    IsTrue (is_write op) × IsTrue (is_met op (value_at old.writes)) × (charge ≡ old.charge)
    × (old.limit < old.charge + total_weight (writes_of op)) × (new ≡ old)
IsPlainStep old op new (Kept found) =
    IsTrue (is_write op) × (is_met op (value_at old.writes) ≡ false) × (found ≡ looked_at op (value_at old.writes)) × (new ≡ old)
IsPlainStep old op new reply =
    IsTrue (is_write op) × IsTrue (is_met op (value_at old.writes)) × (reply ≡ Done)
    × (old.charge + total_weight (writes_of op) ≤ old.limit)
    × (new ≡ record { writes = old.writes ++ writes_of op; charge = old.charge + total_weight (writes_of op); limit = old.limit })

-- the replies that the plain store gives
abbrev pub is_plain_reply : Reply → Bool
is_plain_reply Done = true
is_plain_reply (Is value) = true
is_plain_reply Absent = true
is_plain_reply (Full charge) = true
is_plain_reply (Kept found) = true
is_plain_reply _ = false

abbrev pub AllAnswered : List Entry → Type 0
AllAnswered history = IsTrue (list_all (λ e. is_plain_reply e.reply) history)

-- the plain store takes every write up to one limit
abbrev pub plain_limits : PlainState → ℕ → Limits
plain_limits kept charge = record { opening = charge; dels = kept.limit; others = kept.limit }

-- the plain store stands where this legal history leads, from an opening with these pairs and this charge
pub record StandsAfter (kept : PlainState) (opening : List (Key × Value)) (at_opening : ℕ) (history : List Entry) : Type 0 where
  pub writes : kept.writes ≡ written opening history
  pub charge : kept.charge ≡ at_opening + total_weight (counted_writes history)
  pub legal : IsLegal (plain_limits kept at_opening) opening history
  pub running : is_running history ≡ true

-- whatever history the store stood for, it stands for that history with one entry more
abbrev pub KeepsHistory : PlainState → Op → PlainState → Reply → Type 0
KeepsHistory old op new reply =
    (opening : List (Key × Value)) (at_opening : ℕ) (history : List Entry) (seat : ℕ) → StandsAfter old opening at_opening history
    → StandsAfter new opening at_opening (history ++ (record { seat = seat; op = op; reply = reply }) ∷ [])
