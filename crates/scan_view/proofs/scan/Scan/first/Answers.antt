use Rattle.std.proofs.Common.{◌≡◌, ◌∙◌, Option, ap, sym, subst}
use Rattle.blsm_model.specs.declared.key.Key.{Key}
use Rattle.record_delta.specs.declared.record.Rec.{Rec}
use Rattle.record_delta.specs.Entries.{folded_over}
use Rattle.merge_step.proofs.MergedLemmas.{sorted_folded}
use Rattle.merge_ends.specs.Input.{key_of}
use Rattle.scan_view.specs.Hold.{splice}
use Rattle.scan_view.specs.Left.{IsAheadOf}
use Rattle.scan_view.proofs.SpliceLemmas.{sorted_splice}
use Rattle.scan_view.proofs.LeftLemmas.{some_of, first_ahead, from_four, key_is_ahead}
use Rattle.scan_view.proofs.ScanLemmas.{passes_one}
use Rattle.scan_view.proofs.scan.Scan.first.Goals as goal

pub returns-clause-first : goal.returns-clause-first
returns-clause-first c = λ released lists sorted heads.
    let at = c.args.self.now.at in
    let xs = splice lists.front released lists.c1 in
    let ys = lists.c1x in
    let zs = lists.c2 in
    let sorted_xs = sorted_splice lists.front released lists.c1 sorted.front sorted.c1 in
    let sorted_ys = sorted.c1x in
    let sorted_zs = sorted.c2 in
    let deep = c.least-older.ensures.first at ys zs sorted_ys sorted_zs (c.head.ensures ∙ heads.c1x) (c.head-2.ensures ∙ heads.c2) in
    let sorted_deep = sorted_folded ys zs sorted_zs in
    let older = c.least-older-2.ensures.first at xs (folded_over ys zs) sorted_xs sorted_deep (c.head-3.ensures ∙ heads.c1) deep in
    c.least.ensures.first at c.args.memory.now (folded_over xs (folded_over ys zs)) c.requires.sorted (sorted_folded xs (folded_over ys zs) sorted_deep) c.first_above.ensures older

pub returns-clause-ahead : goal.returns-clause-ahead
returns-clause-ahead c =
    let at = c.args.self.now.at in
    let ahead = λ (e f : Option (Key × Rec)) (is : e ≡ f) (of : IsAheadOf at f). subst (λ (x : Option (Key × Rec)). IsAheadOf at x) (sym is) of in
    c.least.ensures.ahead at (ahead _ _ c.first_above.ensures (first_ahead at c.args.memory.now))
    (c.least-older-2.ensures.ahead at (ahead _ _ c.head-3.ensures c.requires.ahead.c1)
    (c.least-older.ensures.ahead at (ahead _ _ c.head.ensures c.requires.ahead.c1x) (ahead _ _ c.head-2.ensures c.requires.ahead.c2)))

pub returns-clause-falls : goal.returns-clause-falls
returns-clause-falls c =
    let scan = c.args.self.now in
    some_of c.least.result (λ e is. passes_one c.args.memory.now scan e.0 c.requires.sorted (key_is_ahead scan.at c.least.result e is (returns-clause-ahead c))
    (from_four _ _ _ _ c.least-older.result c.least-older-2.result c.least.result c.first_above.result c.head-3.result c.head.result c.head-2.result e.0
    c.first_above.ensures c.head-3.ensures c.head.ensures c.head-2.ensures c.least-older.ensures.from_one c.least-older-2.ensures.from_one c.least.ensures.from_one (ap key_of is)))
