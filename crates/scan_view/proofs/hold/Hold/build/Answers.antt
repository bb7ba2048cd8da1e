use Rattle.std.proofs.Common.{◌∙◌, Option, None, refl, ap, sym, subst}
use Rattle.blsm_model.specs.declared.key.Key.{Key}
use Rattle.record_delta.specs.Entries.{AreSorted, above, folded_over}
use Rattle.merge_step.proofs.MergedLemmas.{sorted_folded}
use Rattle.scan_view.specs.Hold.{rows_of, splice, view_of}
use Rattle.scan_view.proofs.ScanLemmas.{front_sorted, list_sorted}
use Rattle.scan_view.proofs.SpliceLemmas.{sorted_splice}
use Rattle.scan_view.proofs.RangeLemmas.{within_sorted, rows_from}
use Rattle.scan_view.proofs.RestLemmas.{rows_left}
use Rattle.scan_view.proofs.hold.Hold.build.Goals as goal

pub invariant_of-result : goal.invariant_of-result
invariant_of-result c = record {
  sorted = subst AreSorted (sym c.in_ok-memory.ensures)
      (within_sorted c.args.low.now c.args.high.now (folded_over c.args.b.now.entries c.args.a.now.entries) (sorted_folded c.args.b.now.entries c.args.a.now.entries c.weight.ensures.sorted));
  front = c.requires.front;
  c1 = c.requires.c1;
  c1x = c.requires.c1x;
  c2 = c.requires.c2;
}

pub returns-clause-rows : goal.returns-clause-rows
returns-clause-rows c = λ sizes lists of_a of_c1 of_c1x of_c2 file front c1 c1x c2 first second third.
    let b = c.args.b.now.entries in
    let a = c.args.a.now.entries in
    let read = splice lists.front c.args.released.now lists.c1 in
    let older = folded_over read (folded_over lists.c1x lists.c2) in
    let sorted_read = sorted_splice lists.front c.args.released.now lists.c1 (front_sorted sizes c.args.front.now lists.front file front)
    (list_sorted sizes c.args.c1.now lists.c1 file c1) in
    let sorted_c1x = list_sorted sizes c.args.c1x.now lists.c1x file c1x in
    let sorted_c2 = list_sorted sizes c.args.c2.now lists.c2 file c2 in
    let sorted_older = sorted_folded read (folded_over lists.c1x lists.c2) (sorted_folded lists.c1x lists.c2 sorted_c2) in
    let left = rows_left c.args.low.now c.args.high.now b a read lists.c1x lists.c2 of_a of_c1 of_c1x of_c2 c.weight-2.ensures.sorted
    c.weight.ensures.sorted sorted_read sorted_c1x sorted_c2 (first c.weight.ensures.sorted) second third in
    let rows = left ∙ rows_from c.args.low.now c.args.high.now c.copy.result c.copy-2.result c.in_ok-memory.memory.items b a older c.copy.ensures
    c.copy-2.ensures c.in_ok-memory.ensures c.weight-2.ensures.sorted c.weight.ensures.sorted sorted_older in (
      record {
        of_front = lists.front;
        of_c1 = lists.c1;
        of_c1x = lists.c1x;
        of_c2 = lists.c2;
        front = front;
        c1 = c1;
        c1x = c1x;
        c2 = c2;
        rows_are = rows
            ∙ ap (λ (key : Option Key). rows_of c.copy.result c.copy-2.result
            (above None (view_of c.in_ok-memory.memory.items (splice lists.front key lists.c1) lists.c1x lists.c2))) (sym c.copy_of.ensures);
      },
      refl,
    )
