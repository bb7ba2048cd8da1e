use Rattle.std.proofs.Common.{◌≡◌, ◌-◌, ◌++◌, [], ◌∷◌, List, ℕ, length, map, slice_index, slice_set, ap, sym, ◌∙◌}
use Rattle.std.proofs.lemmas.List.{map-append}
use Rattle.blsm_model.specs.declared.row.Row.{Row}
use Rattle.blsm_model.specs.declared.history.Entry.{Entry}
use Rattle.blsm_model.specs.Book.{noted, rows_given}
use Rattle.blsm_model.specs.Stored.{as_reply, stored_entry}
use Rattle.blsm_model.proofs.AnnalsLemmas.{no_rows, same_room}
use Rattle.blsm_model.proofs.annals.Annals.note_short.Goals as goal

pub returns : goal.returns
returns c =
    let room = c.self.inside.room in
    let seat = c.args.seat in
    let entry : Entry = record { seat = seat; op = c.args.op; reply = as_reply c.args.reply } in
    let entries : List ℕ = slice_set room.entries seat (slice_index room.entries seat - 1) in
    let none : length (rows_given (as_reply c.args.reply)) ≡ 0 = ap (λ (l : List Row). length l) (no_rows c.args.reply) in
    rw (c.push_reserved.ensures.items, c.push_reserved-2.ensures.items)
    (ap (λ es. record { entries = es; quanta = c.self.inside.quanta.items ++ 0 ∷ []; room = record { entries = entries; rows = room.rows } })
    (map-append (stored_entry c.self.inside.rows.items) c.self.inside.stored.items _)
    ∙ ap (λ (rs : List ℕ). record { entries = map (stored_entry c.self.inside.rows.items) c.self.inside.stored.items ++ entry ∷ []; quanta = c.self.inside.quanta.items ++ 0 ∷ []; room = record { entries = entries; rows = rs } })
    (sym (same_room room.rows seat _ none))
    ∙ ap (λ b. noted b entry) c.self.view_is)
