-- Rows that are added leave what was noted before.
use Rattle.std.proofs.lemmas.Bool.Decides.{nat_tests}
use Rattle.std.proofs.Common.{◌≡◌, ℕ, zero, suc, ◌+◌, ◌-◌, ◌<◌, ◌≤◌, ◌++◌, List, [], ◌∷◌, refl, ap, ◌∙◌, map, length, sum, arith, slice_index, slice_set}
use Rattle.std.specs.List.{AllByRecursion}
use Rattle.std.proofs.lemmas.List.{set-get_or}
use Rattle.std.proofs.lemmas.Grind.{common_steps}
use Rattle.std.proofs.lemmas.List.Sums.{sum_by-cons}
use Rattle.blsm_model.specs.declared.row.Row.{Row}
use Rattle.blsm_model.specs.declared.room.Room.{Room}
use Rattle.blsm_model.specs.declared.history.Reply.{Reply}
use Rattle.blsm_model.specs.declared.history.ShortReply.{ShortReply}
use Rattle.blsm_model.specs.declared.annals.StoredReply.{StoredReply}
use Rattle.blsm_model.specs.declared.annals.StoredEntry.{StoredEntry}
use Rattle.blsm_model.specs.Book.{rows_given}
use Rattle.blsm_model.specs.Stored.{as_reply, stored_reply, stored_entry, FitsRows, IsStored}

same_reply : (rows more : List Row) (reply : StoredReply) → FitsRows rows reply → stored_reply (rows ++ more) reply ≡ stored_reply rows reply
same_reply rows more reply h1 = grind (arith, common_steps, nat_tests)

same_entries : (rows more : List Row) (entries : List StoredEntry) → AllByRecursion (λ e. FitsRows rows e.reply) entries → map (stored_entry (rows ++ more)) entries ≡ map (stored_entry rows) entries
same_entries rows more [] within = refl
same_entries rows more (e ∷ es) within =
    λ i. record { seat = e.seat; op = e.op; reply = same_reply rows more e.reply within.0 i } ∷ same_entries rows more es within.1 i

fits_more : (rows more : List Row) (reply : StoredReply) → FitsRows rows reply → FitsRows (rows ++ more) reply
fits_more rows more reply h1 = grind (arith, common_steps, nat_tests)

within_push : (rows more : List Row) (entries : List StoredEntry) (e : StoredEntry) → AllByRecursion (λ k. FitsRows rows k.reply) entries → FitsRows (rows ++ more) e.reply → AllByRecursion (λ k. FitsRows (rows ++ more) k.reply) (entries ++ e ∷ [])
within_push rows more [] e within fits = (fits, tt)
within_push rows more (k ∷ ks) e within fits = (fits_more rows more k.reply within.0, within_push rows more ks e within.1 fits)

-- one place of the room is lowered by n
sum_lowered : (xs : List ℕ) (i n : ℕ) → n ≤ slice_index xs i → sum (slice_set xs i (slice_index xs i - n)) + n ≡ sum xs
sum_lowered [] i n fits = omega arith
sum_lowered (x ∷ xs) zero n fits = omega (arith, sum_by-cons (λ y. y) (x - n) xs, sum_by-cons (λ y. y) x xs)
sum_lowered (x ∷ xs) (suc i) n fits = grind (arith, common_steps, nat_tests, sum_lowered xs i n fits)

-- the fields agree after an entry more
pub stored_push : (entries : List StoredEntry) (rows : List Row) (quanta : List ℕ) (room : Room) (entries_capacity rows_capacity quanta_capacity : ℕ) (e : StoredEntry) (given : List Row) (seat : ℕ) →
    IsStored entries rows quanta room entries_capacity rows_capacity quanta_capacity → 0 < slice_index room.entries seat → length given ≤ slice_index room.rows seat → FitsRows (rows ++ given) e.reply →
    IsStored (entries ++ e ∷ []) (rows ++ given) (quanta ++ 0 ∷ [])
    (record { entries = slice_set room.entries seat (slice_index room.entries seat - 1); rows = slice_set room.rows seat (slice_index room.rows seat - length given) }) entries_capacity rows_capacity quanta_capacity
stored_push entries rows quanta room entries_capacity rows_capacity quanta_capacity e given seat kept one fits within = grind (arith, common_steps, nat_tests, sum_lowered, within_push)

-- and the entries are those before, and this one
pub entries_push : (rows given : List Row) (entries : List StoredEntry) (e : StoredEntry) (reply : Reply) → AllByRecursion (λ k. FitsRows rows k.reply) entries → stored_reply (rows ++ given) e.reply ≡ reply →
    map (stored_entry (rows ++ given)) (entries ++ e ∷ []) ≡ map (stored_entry rows) entries ++ (record { seat = e.seat; op = e.op; reply = reply }) ∷ []
entries_push rows given entries e reply within is = grind (arith, common_steps, nat_tests, same_entries)

-- a short reply gives no rows
pub no_rows : (reply : ShortReply) → rows_given (as_reply reply) ≡ []
no_rows reply = grind (arith, common_steps, nat_tests)

-- so that the room for rows stays
pub same_room : (room : List ℕ) (seat n : ℕ) → n ≡ 0 → slice_set room seat (slice_index room seat - n) ≡ room
same_room room seat n none =
    let same : slice_index room seat - n ≡ slice_index room seat = omega (arith, none) in
    ap (λ m. slice_set room seat m) same ∙ set-get_or room seat 0
