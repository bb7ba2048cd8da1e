use Rattle.std.proofs.Common.{rules, ◌<◌, ◌≤◌, ◌≡◌, ◌∙◌, ◌+◌, [], ◌∷◌, ◌++◌, ℕ, Option, length, inl, ⊎_elim, ap, sym, subst, arith}
use Rattle.std.specs.Prelude.{if◌then◌else◌, IfSome, OnOk}
use Rattle.blsm_model.specs.declared.key.Key.{Key}
use Rattle.record_delta.specs.declared.record.Rec.{Rec}
use Rattle.record_delta.specs.Entries.{Entries}
use Rattle.record_delta.specs.Records.{weight}
use Rattle.page_space.proofs.FreeLemmas.{free_within}
use Rattle.run_writer.specs.Writer.{closed_entries, has_place, HasEntries}
use Rattle.run_writer.proofs.ClosedLemmas.{closed_pushed, text_more}
use Rattle.run_writer.proofs.GrowthLemmas.{next_above, room_for_more}
use Rattle.run_writer.proofs.RegionLemmas.{open_inside, open_tagged}
use Rattle.merge_ends.specs.Output.{entry_of, has_turned, kept}
use Rattle.merge_ends.proofs.OutputLemmas.{begun_put, closed_none, closed_put, fence_for_one, not_kept, opens_put, room_for_one, room_put, same_kept, takes_put, text_put}
use Rattle.merge_ends.proofs.WorkLemmas.{room_less}
use Rattle.merge_ends.proofs.output.put.Goals as goal
use Rattle.merge_ends.proofs.output.put.Goals.{In-Some, In_default}

-- what is pushed is what is kept of the record, and nothing is where nothing is left
is_kept : (g : _) (c : In-Some g) (key : Key) → kept c.args.settles ((key, c.args.rec.now) ∷ []) ≡ (key, c.in-Some.rec.now) ∷ []
is_kept g c key = c.left_of-left.ensures.kept key ∙ ap (entry_of key) (sym c.in-Some.ensures)

is_light : (g : _) (c : In-Some g) (key : Key) → weight key c.in-Some.rec.now ≤ weight key c.args.rec.now
is_light g c key = subst (λ (o : Option Rec). IfSome o (λ left. weight key left ≤ weight key c.args.rec.now)) (sym c.in-Some.ensures) (c.left_of-left.ensures.light key)

none_kept : (g : _) (c : In_default g) (key : Key) → kept c.args.settles ((key, c.args.rec.now) ∷ []) ≡ []
none_kept g c key = c.left_of-left.ensures.kept key ∙ ap (entry_of key) (sym c.in_default.ensures)

pub push-requires-clause-free : goal.push-requires-clause-free
push-requires-clause-free g c = λ none.
    let room = room_less c.args.space.now c.args.writer.now _ _ (is_light g (goal.at.push-requires-clause-free g c).In-Some c.args.key.now) c.requires.room in
    free_within c.args.space.now room.live room.share c.pages-pages.ensures.shape room.within
    (room_for_one c.args.space.now c.args.writer.now (weight c.args.key.now c.in-Some.rec.now) c.requires.run.1.counted (omega arith) none room)

pub push-requires-clause-room : goal.push-requires-clause-room
push-requires-clause-room g c = λ none.
    let room = room_less c.args.space.now c.args.writer.now _ _ (is_light g (goal.at.push-requires-clause-room g c).In-Some c.args.key.now) c.requires.room in
    let free = free_within c.args.space.now room.live room.share c.pages-pages.ensures.shape room.within
    (room_for_one c.args.space.now c.args.writer.now (weight c.args.key.now c.in-Some.rec.now) c.requires.run.1.counted (omega arith) none room) in
    let d = g.D.Disk.state c.args.disk.now in
    subst (λ (n : ℕ). c.args.writer.now.component.pages < n) c.requires.pages
    (room_for_more c.args.geo.now d.is_honest d.bytes c.args.space.now c.args.writer.now c.args.filter.now c.args.fences.now c.requires.run.0 c.requires.run.1 c.pages-pages.ensures.shape free)

pub push-requires-clause-fence : goal.push-requires-clause-fence
push-requires-clause-fence g c = λ begins.
    let d = g.D.Disk.state c.args.disk.now in
    let one = c.requires.run.1.one_a_page in
    let above =
    next_above c.args.geo.now d.is_honest d.bytes c.args.space.now c.args.writer.now c.args.filter.now c.args.fences.now c.requires.run.0 c.args.key.now c.in-Some.rec.now c.requires.run.1 (c.requires.run.2 c.in-Some.rec.now) in (
      fence_for_one c.args.writer.now (weight c.args.key.now c.in-Some.rec.now) c.args.fences.now.reserved (length c.args.fences.now.list) c.requires.run.1.counted (omega arith) begins
          (omega (arith, c.requires.fences, is_light g (goal.at.push-requires-clause-fence g c).In-Some c.args.key.now)) one,
      above,
    )

pub push-requires-clause-inside : goal.push-requires-clause-inside
push-requires-clause-inside g c =
    let d = g.D.Disk.state c.args.disk.now in
    open_inside c.args.geo.now d.is_honest d.bytes c.args.space.now c.args.writer.now c.args.filter.now c.args.fences.now c.requires.run.0 c.requires.run.1 c.pages-pages.ensures.shape c.requires.pages

pub returns-clause-room : goal.returns-clause-room
returns-clause-room g c = λ left room.
    let key = c.args.key.now in
    let rec = c.in-Some.rec.now in
    room_put (has_place c.args.writer.now (weight key rec)) c.push.result c.args.space.now c.push.new.space c.args.writer.now c.push.new.self key rec left
    c.requires.run.1.counted.role
    (λ place. let h = c.push.ensures.here place in (h.1, h.3)) c.push.ensures.claimed (room_less c.args.space.now c.args.writer.now _ _ (omega (arith, is_light g (goal.at.returns-clause-room g c).In-Some key)) room)

pub returns-clause-takes : goal.returns-clause-takes
returns-clause-takes g c =
    let key = c.args.key.now in
    let rec = c.in-Some.rec.now in
    takes_put (has_place c.args.writer.now (weight key rec)) c.push.result c.args.space.now c.push.new.space c.args.writer.now c.push.new.self key rec
    (λ place. let h = c.push.ensures.here place in (h.1, h.3)) c.push.ensures.claimed

pub returns-in_default-clause-tagged : goal.returns-in_default-clause-tagged
returns-in_default-clause-tagged g c =
    let d = g.D.Disk.state c.args.disk.now in
    open_tagged c.args.geo.now d.is_honest d.bytes c.args.space.now c.args.writer.now c.args.filter.now c.args.fences.now c.requires.run.0 c.requires.run.1

pub returns-in_default-clause-opens : goal.returns-in_default-clause-opens
returns-in_default-clause-opens g c = λ i here. inl here

pub returns-clause-tagged : goal.returns-clause-tagged
returns-clause-tagged g c =
    let d = g.D.Disk.state c.args.disk.now in
    open_tagged c.args.geo.now d.is_honest d.bytes c.args.space.now c.args.writer.now c.args.filter.now c.args.fences.now c.requires.run.0 c.requires.run.1

pub returns-clause-opens : goal.returns-clause-opens
returns-clause-opens g c =
    let key = c.args.key.now in
    let rec = c.in-Some.rec.now in
    opens_put c.args.geo.now (has_place c.args.writer.now (weight key rec)) c.push.result c.args.space.now c.push.new.space c.args.writer.now c.push.new.self key rec
    (λ place. let h = c.push.ensures.here place in (h.1, h.3)) c.push.ensures.claimed c.push.ensures.kept

-- ---- the closed pages

pub returns-in_default-clause-closed : goal.returns-in_default-clause-closed
returns-in_default-clause-closed g c = λ out has. closed_none c.args.writer.now out _ (none_kept g (goal.at.returns-in_default-clause-closed g c).In_default c.args.key.now)

pub returns-in_default-clause-begun : goal.returns-in_default-clause-begun
returns-in_default-clause-begun g c = λ begun.
    let none = none_kept g (goal.at.returns-in_default-clause-begun g c).In_default c.args.key.now in
    ⊎_elim (λ (has : HasEntries c.args.writer.now). has) (λ more. absurd (more none)) begun

pub returns-clause-begun : goal.returns-clause-begun
returns-clause-begun g c = λ begun.
    let key = c.args.key.now in
    let rec = c.in-Some.rec.now in
    begun_put (has_place c.args.writer.now (weight key rec)) c.push.result c.args.space.now c.push.new.space c.args.writer.now c.push.new.self key rec
    (λ place. let h = c.push.ensures.here place in (h.1, h.3)) c.push.ensures.claimed text_more

pub returns-in_default-clause-here : goal.returns-in_default-clause-here
returns-in_default-clause-here g c = λ plain. absurd (not_kept c.args.settles c.args.key.now c.args.rec.now plain (none_kept g (goal.at.returns-in_default-clause-here g c).In_default c.args.key.now))

pub returns-clause-closed : goal.returns-clause-closed
returns-clause-closed g c = λ out has.
    let key = c.args.key.now in
    let rec = c.in-Some.rec.now in
    let old = c.args.writer.now in
    let new = c.push.new.self in
    let d = g.D.Disk.state c.args.disk.now in
    subst (λ (l : Entries). OnOk c.push.result (closed_entries new (out ++ l) ≡ (if has_turned old new then out else closed_entries old out))) (sym (is_kept g (goal.at.returns-clause-closed g c).In-Some key))
    (closed_put (has_place old (weight key rec)) c.push.result c.args.space.now c.push.new.space old new key rec out
    (λ place. let h = c.push.ensures.here place in (h.1, h.3)) c.push.ensures.claimed
    (closed_pushed c.args.geo.now d.is_honest d.bytes c.args.space.now old c.args.filter.now c.args.fences.now out key rec has))

pub returns-clause-here : goal.returns-clause-here
returns-clause-here g c = λ plain.
    let key = c.args.key.now in
    let rec = c.in-Some.rec.now in
    let old = c.args.writer.now in
    let new = c.push.new.self in
    subst (λ (r : Rec). OnOk c.push.result (length new.buffer.text ≡ (if has_turned old new then 0 else length old.buffer.text) + weight key r)) (same_kept c.args.settles key c.args.rec.now rec plain (is_kept g (goal.at.returns-clause-here g c).In-Some key))
    (text_put (has_place old (weight key rec)) c.push.result c.args.space.now c.push.new.space old new key rec
    (λ place. let h = c.push.ensures.here place in (h.1, h.3)) c.push.ensures.claimed text_more)

pub returns-clause-light : goal.returns-clause-light
returns-clause-light g c = let less = is_light g (goal.at.returns-clause-light g c).In-Some c.args.key.now in search rules
