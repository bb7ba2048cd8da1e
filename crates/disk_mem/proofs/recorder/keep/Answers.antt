use Rattle.std.proofs.Common.{length, ◌∙◌, ap, arith, length-append}
use Rattle.disk_mem.specs.Calls.{written_len, events}
use Rattle.disk_mem.proofs.CallLemmas.{events-push, written_len-push}
use Rattle.disk_mem.proofs.Noted.{went_well}
use Rattle.disk_mem.proofs.recorder.keep.Goals as goal

pub returns-clause-counted : goal.returns-clause-counted
returns-clause-counted c =
    let calls_are = went_well c.push.result _ _ _ _ c.push.ensures.items c.push.ensures.full (λ le. omega (arith, le, c.requires.room)) in
    let written_is = went_well c.extend_from_slice.result _ _ _ _ c.extend_from_slice.ensures.items c.extend_from_slice.ensures.full (λ lt. omega (arith, lt, c.requires.space)) in
    ap written_len calls_are ∙ written_len-push c.args.calls.now.items c.args.call ∙ omega (arith, c.requires.owns, c.requires.counted, ap length written_is, length-append c.args.written.now.items c.args.text.now)

pub returns-clause-events : goal.returns-clause-events
returns-clause-events c =
    let calls_are = went_well c.push.result _ _ _ _ c.push.ensures.items c.push.ensures.full (λ le. omega (arith, le, c.requires.room)) in
    let written_is = went_well c.extend_from_slice.result _ _ _ _ c.extend_from_slice.ensures.items c.extend_from_slice.ensures.full (λ lt. omega (arith, lt, c.requires.space)) in
    (λ i. events (calls_are i) (written_is i)) ∙ events-push c.args.calls.now.items c.args.call c.args.written.now.items c.args.text.now c.requires.counted
