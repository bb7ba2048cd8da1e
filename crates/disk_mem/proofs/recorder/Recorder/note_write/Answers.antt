use Rattle.std.proofs.Common.{◌∙◌, ap, arith, map, ◌++◌, ◌∷◌, []}
use Rattle.disk_mem.specs.Events.{Event, wrote}
use Rattle.disk_mem.specs.Changes.{change_of}
use Rattle.disk_mem.specs.Calls.{events}
use Rattle.disk_mem.proofs.CallLemmas.{record_size-events}
use Rattle.disk_mem.proofs.Noted.{record_size-push, replayed_write, ok_of, whole}
use Rattle.disk_mem.proofs.recorder.Recorder.note_write.Goals as goal

pub overflow_sub-self : goal.overflow_sub-self
overflow_sub-self c = omega (arith, c.requires.room.1, c.args.self.now.size)

pub keep-requires-clause-room : goal.keep-requires-clause-room
keep-requires-clause-room c =
    let d = c.args.self.now in
    omega (arith, record_size-events d.calls.items d.written.items d.counted, d.size, c.requires.room.1, d.call_room)

pub keep-requires-clause-space : goal.keep-requires-clause-space
keep-requires-clause-space c =
    let d = c.args.self.now in
    omega (arith, record_size-events d.calls.items d.written.items d.counted, d.size, c.requires.room.1, d.written_room)

pub invariant_of-self : goal.invariant_of-self
invariant_of-self c =
    let d = c.args.self.now in
    let at = c.args.at in
    let text = c.args.from.now in
    let es = events d.calls.items d.written.items in
    let written = ok_of c.overwrite.result _ _ c.overwrite.ensures.ok c.overwrite.ensures.room (λ lt. omega (arith, lt, c.requires.limit, d.room)) in
    let noted = c.keep.ensures.events ∙ ap (λ (e : Event). es ++ e ∷ []) (whole at text) in
    record {
      room = omega (arith, d.room, c.overwrite.ensures.capacity);
      call_room = omega (arith, d.call_room, c.keep.ensures.call_room);
      written_room = omega (arith, d.written_room, c.keep.ensures.written_room);
      counted = c.keep.ensures.counted;
      size = rw noted (omega (arith, record_size-push es (wrote at text), d.size, c.requires.room.1));
      past_fits = d.past_fits;
      faults_fit = d.faults_fit;
      replayed = rw (noted, written) (replayed_write d.first.items es (map change_of d.pokes.items) d.bytes.items text at c.requires.inside d.replayed);
    }
