use Rattle.std.proofs.Common.{◌≡◌, ◌∙◌, ◌++◌, [], ◌∷◌, Option, Some, None, false, ap, sym}
use Rattle.std.proofs.lemmas.List.{append-nil, append_assoc}
use Rattle.std.specs.Ordering.{is_lt}
use Rattle.blsm_model.specs.declared.key.Key.{Key}
use Rattle.blsm_model.specs.Keys.{key_cmp}
use Rattle.record_delta.specs.declared.record.Rec.{Rec}
use Rattle.record_delta.specs.Entries.{Entries, AreSorted, folded_over, above, first_of}
use Rattle.merge_step.proofs.MergedLemmas.{sorted_folded}
use Rattle.merge_ends.specs.Input.{key_of}
use Rattle.scan_view.specs.Hold.{within}
use Rattle.scan_view.proofs.LeftLemmas.{memory_less}
use Rattle.scan_view.proofs.RangeLemmas.{within_step, within_ended, above_none}
use Rattle.scan_view.proofs.copy.copy_range.Goals as goal
use Rattle.scan_view.proofs.copy.copy_range.Goals.{In-Some}

sorted : (c : In-Some) → AreSorted (folded_over c.args.b.now.entries c.args.a.now.entries)
sorted c = sorted_folded c.args.b.now.entries c.args.a.now.entries c.weight.ensures.sorted

-- the entry is the first one that is left
first : (c : In-Some) → first_of (above c.loop-key.at (folded_over c.args.b.now.entries c.args.a.now.entries)) ≡ Some (c.in-Some.key, c.in-Some.rec)
first c =
    let b = c.args.b.now.entries in
    let a = c.args.a.now.entries in
    sym (c.in-Some.ensures.first c.loop-key.at b a c.weight-2.ensures.sorted c.weight.ensures.sorted (c.least_above.ensures ∙ ap (λ (k : Option Key). first_of (above k b)) c.copy_of.ensures)
    (c.least_above-in-loop-key.ensures ∙ ap (λ (k : Option Key). first_of (above k a)) c.copy_of-in-loop-key.ensures))

pub loop-key-init : goal.loop-key-init
loop-key-init c =
    let memory = folded_over c.args.b.now.entries c.args.a.now.entries in
    ap (λ (l : Entries). l ++ within c.args.low.now c.args.high.now (above None memory)) c.new-copies.ensures.items
    ∙ ap (within c.args.low.now c.args.high.now) (above_none memory)

pub returns-then-not-lt : goal.returns-then-not-lt
returns-then-not-lt c =
    let e : Key × Rec = (c.in-Some.key, c.in-Some.rec) in
    let past : is_lt (key_cmp e.0 c.args.high.now) ≡ false = sym c.lt.ensures ∙ c.if-not-lt.true in
    let arm = (goal.at.returns-then-not-lt c).In-Some in
    let ended = within_ended c.args.low.now c.args.high.now c.loop-key.at _ e (sorted arm) (first arm) past in
    sym (append-nil c.loop-key.copies.items) ∙ ap (λ (l : Entries). c.loop-key.copies.items ++ l) (sym ended) ∙ c.loop-key.invariant

pub loop-key-smaller : goal.loop-key-smaller
loop-key-smaller c =
    let arm = (goal.at.loop-key-smaller c).In-Some in
    memory_less c.loop-key.at c.in-Some.key _ (sorted arm) (ap key_of (first arm))

pub loop-key-preserved : goal.loop-key-preserved
loop-key-preserved c =
    let arm = (goal.at.loop-key-preserved c).In-Some in
    let low = c.args.low.now in
    let high = c.args.high.now in
    let copies = c.loop-key.copies.items in
    let e : Key × Rec = (c.in-Some.key, c.in-Some.rec) in
    let left = within low high (above (Some e.0) (folded_over c.args.b.now.entries c.args.a.now.entries)) in
    ap (λ (l : Entries). l ++ left) c.in_ok-push_within.ensures ∙ append_assoc copies (within low high (e ∷ [])) left
    ∙ ap (λ (l : Entries). copies ++ l) (sym (within_step low high c.loop-key.at _ e (sorted arm) (first arm))) ∙ c.loop-key.invariant
