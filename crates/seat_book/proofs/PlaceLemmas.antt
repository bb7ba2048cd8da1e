-- The place of a seat's last write that was done.
use Rattle.std.proofs.Common.{◌≡◌, ℕ, ◌+◌, ◌<◌, cond, true, List, [], ◌∷◌, ◌++◌, length, get_or, IsTrue, arith}
use Rattle.std.proofs.lemmas.Grind.{common_steps}
use Rattle.std.proofs.lemmas.Bool.Decides.{nat_tests}
use Rattle.std.proofs.lemmas.List.{get_or_append_left}
use Rattle.blsm_model.specs.Book.{no_entry}
use Rattle.blsm_model.specs.Legal.{is_write}
use Rattle.blsm_model.specs.declared.op.Op.{Op}
use Rattle.blsm_model.specs.declared.history.Reply.TheVariants.{Done}
use Rattle.blsm_model.specs.declared.history.Entry.{Entry}
use Rattle.tree_machine.specs.Steps.{is_write_by, last_write}
use Rattle.seat_book.specs.Places.{HasWrite}
use Rattle.seat_book.specs.State.{BookState, noted_in}

-- an entry that is such a write is the last, and after any other the place stays
pub last_after : (seat : ℕ) (es : List Entry) (e : Entry) → last_write seat (es ++ e ∷ []) ≡ cond (is_write_by seat e) (length es) (last_write seat es)
last_after seat es e = grind (arith, common_steps, nat_tests)

-- the entry at the end of a list
at_end : (es : List Entry) (e : Entry) → get_or (es ++ e ∷ []) (length es) no_entry ≡ e
at_end es e = grind (arith, common_steps, nat_tests)

-- a write stands among the entries
pub write_stands : (seat : ℕ) (es : List Entry) (place : ℕ) → is_write_by seat (get_or es place no_entry) ≡ true → place < length es
write_stands seat es place is = grind (arith, common_steps, nat_tests)

-- after one entry more the seat still has a write
pub write_stays : (seat : ℕ) (es : List Entry) (e : Entry) → is_write_by seat (get_or es (last_write seat es) no_entry) ≡ true → is_write_by seat (get_or (es ++ e ∷ []) (last_write seat (es ++ e ∷ [])) no_entry) ≡ true
write_stays seat es e is = grind (arith, common_steps, nat_tests, get_or, last_after, at_end, get_or_append_left, write_stands)

pub write_is_last : (b : BookState) (seat : ℕ) (op : Op) → IsTrue (is_write op)
    → (last_write seat (noted_in seat op Done b).book.entries ≡ length b.book.entries) × HasWrite seat (noted_in seat op Done b).book
write_is_last b seat op write = grind (arith, common_steps, nat_tests)
