use Rattle.std.proofs.Common.{◌≡◌, ◌∙◌, ◌≤◌, sym, ap, subst, Some, Bool, [], ◌∷◌, ◌++◌, inl, arith}
use Rattle.disk_trait.proofs.RegionLemmas.{same_wider}
use Rattle.bloom_bits.specs.declared.fences.Fence.{Fence}
use Rattle.bloom_bits.specs.Fences.{FencesState}
use Rattle.record_delta.specs.Entries.{Entries}
use Rattle.record_delta.specs.Records.{weight}
use Rattle.run_writer.specs.Writer.{WriterState, next_fence, put_in, turned, Holds, HasPushed}
use Rattle.run_writer.proofs.RunLemmas.{pushed_here, pushed_on, holds_here, holds_on}
use Rattle.run_writer.proofs.WriterLemmas.{place_parts, no_place, has_entries, text_put, chained}
use Rattle.run_writer.proofs.GrowthLemmas.{more_here, more_on}
use Rattle.run_writer.proofs.RegionLemmas.{pushed_kept, always_err}
use Rattle.run_writer.proofs.writer.Writer.push.Goals as goal

pub returns-then-has_place-clause-pushed : goal.returns-then-has_place-clause-pushed
returns-then-has_place-clause-pushed g c = λ entries rise has.
    let old = g.D.Disk.state c.args.disk.now in
    let writer = c.args.self.now in
    let key = c.args.key.now in
    let rec = c.args.rec.now in
    let parts = place_parts writer (weight key rec) (sym c.has_place.ensures.place ∙ c.if-has_place.true) in
    let put = c.put.ensures.put in
    subst (λ (f : FencesState). HasPushed c.args.geo.now old.is_honest old.bytes c.args.space.now c.put.new.self c.add.new.self f (entries ++ (key, rec) ∷ [])) (sym c.mark.ensures)
    (more_here c.args.geo.now old.is_honest old.bytes c.args.space.now writer c.put.new.self c.args.filter.now c.add.new.self c.args.fences.now key rec entries rise parts.0
    (λ run held. subst (λ (w : WriterState). Holds w (pushed_here key rec run)) (sym put) (holds_here writer key rec run c.put.ensures.entry parts.0 parts.1 held))
    c.add.ensures.keys (ap (λ (w : WriterState). w.role) put) (ap (λ (w : WriterState). w.component.pages) put) (text_put writer c.put.new.self key rec put) c.put.ensures.counted has)

pub returns-clause-pushed : goal.returns-clause-pushed
returns-clause-pushed g c = λ entries rise has.
    let sizes = c.args.geo.now in
    let old = g.D.Disk.state c.args.disk.now in
    let new = g.D.Disk.state c.turn.new.disk in
    let writer = c.args.self.now in
    let key = c.args.key.now in
    let rec = c.args.rec.now in
    let w = weight key rec in
    let more : Entries = entries ++ (key, rec) ∷ [] in
    let taken = c.in_ok-turn.ensures.turned in
    let page = taken.0 in
    let put : c.put-2.new.self ≡ put_in key rec (turned page writer) = c.put-2.ensures.put ∙ ap (put_in key rec) taken.3.0 in
    let fenced : c.push.new.self.list ≡ c.args.fences.now.list ++ record { first = key; page = page; entries = writer.component.entries; weight = writer.component.weight } ∷ [] =
    ap (λ (f : FencesState). f.list) c.push.ensures ∙ ap (λ (f : Fence). c.args.fences.now.list ++ f ∷ []) (c.fence.ensures ∙ ap (next_fence key) taken.3.0) in
    let light : w ≤ 512 = c.has_place.ensures.light in
    let none = sym c.has_place.ensures.place ∙ c.if-has_place.false in
    let begun = has_entries writer w none light in
    subst (λ (h : Bool). HasPushed sizes h new.bytes c.turn.new.space c.put-2.new.self c.add-2.new.self c.push.new.self more) (sym c.turn.ensures.writes.effect.goes_on.is_honest)
    (more_on sizes old.is_honest old.bytes new.bytes c.args.space.now c.turn.new.space writer c.put-2.new.self c.args.filter.now c.add-2.new.self c.args.fences.now c.push.new.self page key rec entries rise begun taken.1.free taken.2
    (λ run some held. subst (λ (x : WriterState). Holds x (pushed_on page key rec run)) (sym put) (holds_on writer page key rec run c.put-2.ensures.entry (omega (arith, light)) some held))
    c.add-2.ensures.keys fenced
    (λ run some held is_run honest stands. chained sizes writer (Some page) old.bytes new.bytes run.closed run.number run.entries
    (record {
      same = c.turn.ensures.writes.effect.bytes honest;
      inside = c.requires.inside;
      reads = taken.3.1 honest;
      below = omega (arith, taken.1.free.in_range, c.requires.pages);
      full = λ open_one names. omega (arith, light, no_place writer w none open_one);
    }) some held is_run stands)
    (ap (λ (x : WriterState). x.role) put) (ap (λ (x : WriterState). x.component.pages) put) (text_put (turned page writer) c.put-2.new.self key rec put) c.put-2.ensures.counted has)

pub returns-in_err-turn-clause-unpushed : goal.returns-in_err-turn-clause-unpushed
returns-in_err-turn-clause-unpushed g c = λ entries has.
    let sizes = c.args.geo.now in
    let old = g.D.Disk.state c.args.disk.now in
    let new = g.D.Disk.state c.turn.new.disk in
    let writer = c.args.self.now in
    let still = pushed_kept sizes old.is_honest old.bytes new.bytes c.args.space.now c.turn.new.space writer c.args.filter.now c.args.fences.now entries
    (λ n tagged. (c.turn.ensures.turned.2.tags writer.role n).1 (inl tagged))
    (λ told. same_wider (λ i inside. inl inside) (c.turn.ensures.writes.effect.bytes told)) has in
    always_err c.from_residual.result
    (subst (λ (h : Bool). HasPushed sizes h new.bytes c.turn.new.space c.turn.new.self c.args.filter.now c.args.fences.now entries) (sym c.turn.ensures.writes.effect.goes_on.is_honest)
    (subst (λ (x : WriterState). HasPushed sizes old.is_honest new.bytes c.turn.new.space x c.args.filter.now c.args.fences.now entries) (sym c.in_err-turn.ensures.kept) still))
