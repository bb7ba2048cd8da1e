use Rattle.std.proofs.Common.{◌<◌, ◌≤◌, ◌++◌, [], ◌∷◌, length, slice_index, ap, ◌∙◌}
use Rattle.blsm_model.specs.Book.{Book, noted, room_after}
use Rattle.blsm_model.specs.declared.history.Entry.{Entry}
use Rattle.blsm_model.specs.declared.history.Reply.TheVariants.{Rows}
use Rattle.blsm_model.proofs.AnnalsLemmas.{stored_push, entries_push}
use Rattle.blsm_model.proofs.annals.Annals.note_rows.Goals as goal

pub invariant_of-self : goal.invariant_of-self
invariant_of-self c =
    let room = ap (λ (b : Book). b.room) c.self.view_is in
    let one : 0 < slice_index c.self.inside.room.entries c.args.seat = rw room c.requires.room.entries in
    let fits : length c.args.rows.now ≤ slice_index c.self.inside.room.rows c.args.seat = rw room c.requires.room.rows in
    rw (c.push_reserved.ensures.items, c.push_reserved.ensures.capacity, c.push_reserved-2.ensures.items, c.push_reserved-2.ensures.capacity, c.keep_rows-reply.ensures.rows, c.keep_rows-reply.ensures.capacity)
    (stored_push _ _ _ c.self.inside.room _ _ _ _ c.args.rows.now c.args.seat c.self.invariant one fits (rw c.keep_rows-reply.ensures.rows at c.keep_rows-reply.ensures.fits))

pub returns : goal.returns
returns c =
    let entry : Entry = record { seat = c.args.seat; op = c.args.op; reply = Rows c.args.rows.now } in
    rw (c.push_reserved.ensures.items, c.push_reserved-2.ensures.items, c.keep_rows-reply.ensures.rows)
    (ap (λ es. record { entries = es; quanta = c.self.inside.quanta.items ++ 0 ∷ []; room = room_after c.self.inside.room entry })
    (entries_push c.self.inside.rows.items c.args.rows.now c.self.inside.stored.items (record { seat = c.args.seat; op = c.args.op; reply = c.keep_rows-reply.result }) (Rows c.args.rows.now)
    c.self.invariant.within (rw c.keep_rows-reply.ensures.rows at c.keep_rows-reply.ensures.told))
    ∙ ap (λ b. noted b entry) c.self.view_is)
