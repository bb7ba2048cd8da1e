use Rattle.std.proofs.Common.{◌<◌, ◌≤◌, ◌++◌, [], ◌∷◌, length, slice_index, ap, ◌∙◌}
use Rattle.blsm_model.specs.Book.{Book, noted, rows_given, room_after}
use Rattle.blsm_model.proofs.AnnalsLemmas.{stored_push, entries_push}
use Rattle.blsm_model.proofs.annals.Annals.note.Goals as goal

pub invariant_of-self : goal.invariant_of-self
invariant_of-self c =
    let room = ap (λ (b : Book). b.room) c.self.view_is in
    let one : 0 < slice_index c.self.inside.room.entries c.args.entry.seat = rw room c.requires.entries in
    let fits : length (rows_given c.args.entry.reply) ≤ slice_index c.self.inside.room.rows c.args.entry.seat = rw room c.requires.rows in
    rw (c.push_reserved.ensures.items, c.push_reserved.ensures.capacity, c.push_reserved-2.ensures.items, c.push_reserved-2.ensures.capacity, c.keep-reply.ensures.rows, c.keep-reply.ensures.capacity, c.given-count.ensures)
    (stored_push _ _ _ c.self.inside.room _ _ _ _ (rows_given c.args.entry.reply) c.args.entry.seat c.self.invariant one fits (rw c.keep-reply.ensures.rows at c.keep-reply.ensures.fits))

pub returns : goal.returns
returns c =
    rw (c.push_reserved.ensures.items, c.push_reserved-2.ensures.items, c.keep-reply.ensures.rows, c.given-count.ensures)
    (ap (λ es. record { entries = es; quanta = c.self.inside.quanta.items ++ 0 ∷ []; room = room_after c.self.inside.room c.args.entry })
    (entries_push c.self.inside.rows.items (rows_given c.args.entry.reply) c.self.inside.stored.items (record { seat = c.args.entry.seat; op = c.args.entry.op; reply = c.keep-reply.result }) c.args.entry.reply
    c.self.invariant.within (rw c.keep-reply.ensures.rows at c.keep-reply.ensures.told))
    ∙ ap (λ b. noted b c.args.entry) c.self.view_is)
