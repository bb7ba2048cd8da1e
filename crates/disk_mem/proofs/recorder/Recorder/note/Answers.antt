use Rattle.std.proofs.Common.{arith, map}
use Rattle.disk_mem.specs.Changes.{change_of}
use Rattle.disk_mem.specs.Calls.{event, events}
use Rattle.disk_mem.proofs.CallLemmas.{record_size-events}
use Rattle.disk_mem.proofs.Noted.{record_size-push, event_size-whole, replayed_note}
use Rattle.disk_mem.proofs.recorder.Recorder.note.Goals as goal

pub overflow_sub-self : goal.overflow_sub-self
overflow_sub-self c = omega (arith, c.requires.room.1, c.args.self.now.size)

pub invariant_of-self : goal.invariant_of-self
invariant_of-self c =
    let d = c.args.self.now in
    let es = events d.calls.items d.written.items in
    let e = event c.args.call c.args.text.now in
    record {
      room = d.room;
      call_room = omega (arith, d.call_room, c.keep.ensures.call_room);
      written_room = omega (arith, d.written_room, c.keep.ensures.written_room);
      counted = c.keep.ensures.counted;
      size = rw c.keep.ensures.events (omega (arith, record_size-push es e, event_size-whole c.args.call c.args.text.now c.requires.owns, d.size, c.requires.room.1));
      past_fits = d.past_fits;
      faults_fit = d.faults_fit;
      replayed = rw c.keep.ensures.events (replayed_note d.first.items es (map change_of d.pokes.items) d.bytes.items c.args.text.now c.args.call c.requires.no_write d.replayed);
    }

pub keep-requires-clause-room : goal.keep-requires-clause-room
keep-requires-clause-room c =
    let d = c.args.self.now in
    omega (arith, record_size-events d.calls.items d.written.items d.counted, d.size, c.requires.room.1, d.call_room)

pub keep-requires-clause-space : goal.keep-requires-clause-space
keep-requires-clause-space c =
    let d = c.args.self.now in
    omega (arith, record_size-events d.calls.items d.written.items d.counted, d.size, c.requires.room.1, d.written_room)
