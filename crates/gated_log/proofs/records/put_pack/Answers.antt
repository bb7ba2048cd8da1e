use Rattle.std.proofs.Common.{ap, refl, ◌∙◌, arith}
use Rattle.std.proofs.lemmas.List.{take_all}
use Rattle.std.specs.Prelude.{◌<◌, length}
use Rattle.record_delta.specs.Entries.{entries_weight}
use Rattle.record_delta.specs.Several.{entries_of}
use Rattle.gated_log.proofs.RecordLemmas.{room_for, text_more, weight_more, entries_more, writes_weight}
use Rattle.gated_log.proofs.records.put_pack.Goals as goal

pub put_write-at-requires-clause-room : goal.put_write-at-requires-clause-room
put_write-at-requires-clause-room c = omega (arith, room_for c.args.pack.now c.places.place)

pub places-preserved : goal.places-preserved
places-preserved c =
    let within : c.places.place < length c.args.pack.now = omega arith in
    let text = text_more c.args.pack.now c.places.place c.write.result within c.write.ensures in
    let weight = weight_more c.args.pack.now c.places.place c.write.result within c.write.ensures in
    record {
      text = c.put_write-at.ensures.front ∙ rw (text, c.places.invariant.text) refl;
      ends = omega (arith, weight);
      entries = entries_more c.args.pack.now c.places.place c.write.result within c.write.ensures c.places.invariant.entries
          c.put_write-at.ensures.entry;
    }

pub bounds-buffer-at : goal.bounds-buffer-at
bounds-buffer-at c = omega (arith, room_for c.args.pack.now c.places.place)

pub overflow_add-result : goal.overflow_add-result
overflow_add-result c = omega (arith, room_for c.args.pack.now c.places.place)

pub returns-clause-weight : goal.returns-clause-weight
returns-clause-weight c =
    let all = ap (λ writes. entries_weight (entries_of writes)) (take_all c.places.place c.args.pack.now (omega arith)) in
    omega (arith, all, writes_weight c.args.pack.now)
