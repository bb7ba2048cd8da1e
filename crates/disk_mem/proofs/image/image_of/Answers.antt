use Rattle.std.proofs.Common.{rules, List, map, refl, subst}
use Rattle.disk_mem.specs.Changes.{change_of}
use Rattle.disk_mem.specs.Calls.{events}
use Rattle.disk_mem.specs.Images.{follow, start}
use Rattle.disk_mem.specs.declared.call.Call.{Call}
use Rattle.disk_mem.specs.declared.call.Call.TheVariants.{Wrote, Tore}
use Rattle.disk_mem.proofs.Picking.{IsPicking, first_of, none_of, picking_poked, picking_wrote, picking_refused, picking_tore, picking_end, picked_image}
use Rattle.disk_mem.proofs.image.image_of.Goals as goal

pub loop-left-preserved-in_ok-tear-in-Wrote : goal.loop-left-preserved-in_ok-tear-in-Wrote
loop-left-preserved-in_ok-tear-in-Wrote c =
    let changes = map change_of c.args.pokes.now in
    let end = follow changes 1 (start c.args.first.now) (events c.args.calls.now c.args.written.now) in
    let l = c.loop-left in
    let left = first_of l.left.now (Wrote c.in-Wrote.at c.in-Wrote.n) (Wrote 0 0) c.in-len1-up.len_at_least c.in-Wrote.is in
    let now = subst (λ (x : List Call). IsPicking changes x l.rest.now end l.number c.args.pick l.choice l.index l.bytes.items l.image.items) left l.invariant.0 in
    let ready = picking_poked changes _ _ l.rest.now end l.number c.args.pick l.choice l.index l.bytes.items l.image.items _ _ c.poke_bytes.ensures.changed c.poke_bytes-in-len1-up.ensures.changed now in (
      picking_wrote changes c.in-Wrote.at c.in-Wrote.n _ l.rest.now c.split_at.result.0.now _ end l.number c.args.pick l.choice l.index _ _ _ _ _ _ _
          c.in_ok-tear-in-Wrote.ensures (record { number_is = search rules; left_is = search rules; place_is = refl }) (search rules) (search rules) (search rules) (search rules) ready,
      search rules,
      search rules,
    )

pub loop-left-preserved-else-place-len : goal.loop-left-preserved-else-place-len
loop-left-preserved-else-place-len c =
    let changes = map change_of c.args.pokes.now in
    let end = follow changes 1 (start c.args.first.now) (events c.args.calls.now c.args.written.now) in
    let l = c.loop-left in
    let left = first_of l.left.now (Wrote c.in-Wrote.at c.in-Wrote.n) (Wrote 0 0) c.in-len1-up.len_at_least c.in-Wrote.is in
    let now = subst (λ (x : List Call). IsPicking changes x l.rest.now end l.number c.args.pick l.choice l.index l.bytes.items l.image.items) left l.invariant.0 in
    let ready = picking_poked changes _ _ l.rest.now end l.number c.args.pick l.choice l.index l.bytes.items l.image.items _ _ c.poke_bytes.ensures.changed c.poke_bytes-in-len1-up.ensures.changed now in
    (picking_refused changes c.in-Wrote.at c.in-Wrote.n _ l.rest.now _ end l.number c.args.pick l.choice l.index _ _ (search rules) (search rules) ready, search rules, search rules)

pub loop-left-preserved-in-Tore : goal.loop-left-preserved-in-Tore
loop-left-preserved-in-Tore c =
    let changes = map change_of c.args.pokes.now in
    let end = follow changes 1 (start c.args.first.now) (events c.args.calls.now c.args.written.now) in
    let l = c.loop-left in
    let left = first_of l.left.now (Tore c.in-Tore.at c.in-Tore.n) (Wrote 0 0) c.in-len1-up.len_at_least c.in-Tore.is in
    let now = subst (λ (x : List Call). IsPicking changes x l.rest.now end l.number c.args.pick l.choice l.index l.bytes.items l.image.items) left l.invariant.0 in
    let ready = picking_poked changes _ _ l.rest.now end l.number c.args.pick l.choice l.index l.bytes.items l.image.items _ _ c.poke_bytes.ensures.changed c.poke_bytes-in-len1-up.ensures.changed now in (
      picking_tore changes c.in-Tore.at c.in-Tore.n _ l.rest.now c.split_at-in-Tore.result.0.now _ end l.number c.args.pick l.choice l.index _ _ _ _ _ _
          c.in_ok-tear-in-Tore.ensures (record { number_is = search rules; left_is = search rules; place_is = refl }) (search rules) (search rules) ready,
      search rules,
      search rules,
    )

pub returns-clause-image : goal.returns-clause-image
returns-clause-image c = λ untouched.
    let changes = map change_of c.args.pokes.now in
    let end = follow changes 1 (start c.args.first.now) (events c.args.calls.now c.args.written.now) in
    let l = c.loop-left in
    let now = subst (λ (x : List Call). IsPicking changes x l.rest.now end l.number c.args.pick l.choice l.index l.bytes.items l.image.items) (none_of l.left.now c.in_default.len_below) l.invariant.0 in
    picked_image changes c.args.first.now (events c.args.calls.now c.args.written.now) c.args.pick l.image.items untouched (picking_end changes l.rest.now end l.number c.args.pick l.choice l.index l.bytes.items l.image.items now)
