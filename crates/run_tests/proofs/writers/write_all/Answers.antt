use Rattle.std.proofs.Common.{◌≡◌, ◌∙◌, inl, inr, ℕ, ◌+◌, List, [], ◌∷◌, ◌++◌, length, take, sym, ap, subst, arith, IsTrue, IfOk, Result, Ok, Err}
use Rattle.std.proofs.lemmas.Bool.{cases_Bool}
use Rattle.std.proofs.lemmas.List.{take_more, take_all}
use Rattle.refusal.specs.declared.Failed.{Failed}
use Rattle.blsm_model.specs.Sizes.{Sizes}
use Rattle.blsm_model.specs.declared.component.Component.{Component}
use Rattle.blsm_model.specs.declared.key.Key.{Key}
use Rattle.bloom_bits.specs.BitSet.{BitState}
use Rattle.bloom_bits.specs.Fences.{FencesState}
use Rattle.bloom_bits.specs.Guides.{Guide}
use Rattle.page_file.specs.Component.{RunPage, HasList}
use Rattle.record_delta.specs.declared.record.Rec.{Rec}
use Rattle.disk_trait.proofs.EffectLemmas.{affects_length}
use Rattle.disk_trait.proofs.MomentLemmas.{goes_on_start, goes_on_run}
use Rattle.page_space.specs.Space.{SpaceState, HasFree}
use Rattle.page_file.specs.Entry.{AreRising}
use Rattle.record_delta.specs.Records.{weight}
use Rattle.run_writer.specs.Writer.{WriterState, has_place, turned, HasPushed}
use Rattle.run_writer.proofs.ClosedLemmas.{text_more}
use Rattle.run_writer.proofs.GrowthLemmas.{room_for_more}
use Rattle.run_tests.proofs.RiseLemmas.{front_rises}
use Rattle.run_tests.proofs.writers.write_all.Goals as goal

pub loop-entry-init : goal.loop-entry-init
loop-entry-init g c =
    let started = c.start-writer.ensures.started in
    record {
      pages = c.requires.pages;
      inside = λ some. absurd (omega (arith, some, ap (λ (w : WriterState). w.component.pages) started));
      begun = λ some. absurd (omega (arith, some, ap (λ (w : WriterState). w.component.pages) started));
      goes_on = goes_on_start (g.D.Disk.state c.args.disk.now);
      long = c.requires.length;
      pushed = c.start-writer.ensures.pushed _ _ _ _ c.reset.new.self c.clear.new.self (record { keys = c.reset.ensures.none; fences_are = ap (λ (f : FencesState). f.list) c.clear.ensures });
    }

pub push-requires-clause-room : goal.push-requires-clause-room
push-requires-clause-room g c = λ none.
    let inv = c.loop-entry.invariant in
    let free : HasFree c.loop-entry.space = c.has_free.ensures.0 c.if-not-has_free.false in
    omega (arith, room_for_more _ _ _ c.loop-entry.space c.loop-entry.writer _ _ _ inv.pushed c.pages-pages.ensures.shape free, inv.pages)

pub loop-entry-preserved : goal.loop-entry-preserved
loop-entry-preserved g c =
    let inv = c.loop-entry.invariant in
    let entries = c.args.entries.now in
    let i = c.loop-entry.entry-index in
    let item : Key × Rec = c.entry-item.result in
    let more : take (i + 1) entries ≡ take i entries ++ item ∷ [] = take_more entries i item c.loop-entry-test.true ∙ ap (λ (e : Key × Rec). take i entries ++ e ∷ []) (sym c.entry-item.is) in
    let rise = subst (λ (l : List (Key × Rec)). AreRising l) more (front_rises entries (i + 1) c.requires.rise) in
    record {
      pages =
          elim (cases_Bool (has_place c.loop-entry.writer (weight c.entry-item.result.0 c.entry-item.result.1))) [
            | inl place ↦ ap (λ (s : SpaceState). s.pages) (c.push.ensures.here place).1 ∙ inv.pages
            | inr none ↦ (c.push.ensures.claimed none).2.pages ∙ inv.pages
          ];
      inside = c.push.ensures.inside;
      begun =
          elim (cases_Bool (has_place c.loop-entry.writer (weight c.entry-item.result.0 c.entry-item.result.1))) [
            | inl place ↦ λ some.
                omega (arith, ap (λ (w : WriterState). length w.buffer.text) (c.push.ensures.here place).3, text_more c.loop-entry.writer c.entry-item.result.0 c.entry-item.result.1)
            | inr none ↦ λ some.
                let claimed = c.in_ok-push.ensures.claimed none in
                omega (arith, ap (λ (w : WriterState). length w.buffer.text) claimed.3, text_more (turned claimed.0 c.loop-entry.writer) c.entry-item.result.0 c.entry-item.result.1)
          ];
      goes_on = goes_on_run inv.goes_on c.push.ensures.writes.effect.goes_on;
      long = λ tells. affects_length c.push.ensures.writes.effect (subst IsTrue (sym inv.goes_on.tells_bytes) tells) (inv.long tells);
      pushed = subst (λ (l : List (Key × Rec)). HasPushed c.args.geo.now (g.D.Disk.state c.push.new.disk).is_honest (g.D.Disk.state c.push.new.disk).bytes c.push.new.space c.push.new.self c.push.new.filter c.push.new.fences l) (sym more) (c.in_ok-push.ensures.pushed (take i entries) rise inv.pushed);
    }

told : (sizes : Sizes) (file : List ℕ) (entries : List (Key × Rec)) (filter : BitState) (fences : FencesState) (r : Result Component Failed) (A : Type 0) (Q : List RunPage → Type 0)
    → (A → IfOk r (λ c. (list : HasList sizes c entries file) × Q list.pages × Guide filter fences list.pages))
    → IfOk r (λ c. A → (list : HasList sizes c entries file) × Guide filter fences list.pages)
told sizes file entries filter fences (Ok c) A Q all = λ a. ((all a).0, (all a).2)
told sizes file entries filter fences (Err e) A Q all = tt

pub returns : goal.returns
returns g c =
    let inv = c.loop-entry.invariant in
    let disk = g.D.Disk.state c.loop-entry.disk in
    let whole : take c.loop-entry.entry-index c.args.entries.now ≡ c.args.entries.now = take_all c.loop-entry.entry-index c.args.entries.now c.loop-entry-test.false in
    let has = subst (λ (l : List (Key × Rec)). HasPushed c.args.geo.now disk.is_honest disk.bytes c.loop-entry.space c.loop-entry.writer c.loop-entry.filter c.loop-entry.fences l) whole inv.pushed in
    record {
      list = told c.args.geo.now (g.D.Disk.state c.end.new.disk).bytes c.args.entries.now c.loop-entry.filter c.loop-entry.fences c.end.result _ _ (λ honest. c.end.ensures.list c.loop-entry.space c.loop-entry.filter c.loop-entry.fences c.args.entries.now (subst IsTrue (sym inv.goes_on.is_honest) honest) inv.begun has);
    }
