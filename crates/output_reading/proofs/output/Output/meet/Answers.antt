use Rattle.std.specs.Prelude.{IfErr}
use Rattle.std.proofs.Common.{◌∙◌, ◌≡◌, ◌∷◌, ◌++◌, ◌≤◌, ℕ, [], List, Option, Some, Result, ap, sym, subst}
use Rattle.std.proofs.lemmas.Bool.{false≢true}
use Rattle.blsm_model.specs.declared.key.Key.{Key}
use Rattle.blsm_model.specs.declared.row.Value.{Value}
use Rattle.blsm_model.specs.Components.{no_page}
use Rattle.record_delta.specs.declared.record.Rec.{Rec}
use Rattle.record_delta.specs.declared.record.Rec.TheVariants.{Base}
use Rattle.record_delta.specs.Records.{settle}
use Rattle.record_delta.specs.Entries.{Entries}
use Rattle.page_file.specs.declared.file.Broken.{Broken}
use Rattle.output_reading.specs.Output.{IsFront}
use Rattle.output_reading.specs.Walk.{HasMet, TellsStop, departs}
use Rattle.output_reading.proofs.CallsLemmas.{handed_on}
use Rattle.blsm_model.specs.Geometry.{page_count}
use Rattle.run_cursor.specs.Given.{HasGiven, HasGivenMore}
use Rattle.tree_runs.specs.Runs.{guide_at}
use Rattle.output_reading.specs.Walk.{HasFallen, unbounded}
use Rattle.output_reading.proofs.MetLemmas.{front_more, goes_on_with, is_met, no_value, other_departs, same_head, settles_none, settles_some}
use Rattle.output_reading.proofs.NotedLemmas.{noted_none, noted_on, rooms_none}
use Rattle.output_reading.proofs.output.Output.meet.Goals as goal

pub returns-in_default-clause-met : goal.returns-in_default-clause-met
returns-in_default-clause-met g c = λ run earlier first met honest has.
    let none : settle c.args.rec ≡ _ = sym c.settle.ensures ∙ no_value c.settle.result c.in_default.not-Some in
    subst (λ (l : Entries). HasMet c.args.geo.now run earlier c.args.role first c.args.self.now c.args.space.now l
    (g.D.Disk.state c.args.disk.now).bytes) (settles_none met c.args.key.now c.args.rec none) has

pub returns-in_default-clause-noted : goal.returns-in_default-clause-noted
returns-in_default-clause-noted g c = λ run at honest file below same higher noted room.
    noted_none c.args.key.now c.args.rec (sym c.settle.ensures ∙ no_value c.settle.result c.in_default.not-Some) higher noted

pub returns-in_default-clause-rooms : goal.returns-in_default-clause-rooms
returns-in_default-clause-rooms g c = rooms_none c.args.role c.args.guides.now

pub returns-in_err-advance-clause-rooms : goal.returns-in_err-advance-clause-rooms
returns-in_err-advance-clause-rooms g c = rooms_none c.args.role c.args.guides.now

pub returns-else-is_at-clause-rooms : goal.returns-else-is_at-clause-rooms
returns-else-is_at-clause-rooms g c = rooms_none c.args.role c.args.guides.now

pub returns-then-is_at-clause-noted : goal.returns-then-is_at-clause-noted
returns-then-is_at-clause-noted g c = λ run at honest file below same higher noted room.
    let value : Value = c.in-Some.value in
    let e : Key × Rec = (c.args.key.now, Base value) in
    let few : page_count c.args.geo.now ≤ no_page = c.advance.ensures.few in
    let at_is = c.is_at.ensures.0 c.if-is_at.true in
    let fell = c.in_ok-advance.ensures.falls in
    let falls : HasFallen c.args.self.now.cursor c.advance.new.self.cursor e =
    subst (λ x. HasFallen c.args.self.now.cursor c.advance.new.self.cursor x) (same_head _ _ _ fell.1 at_is) fell.2 in
    noted_on c.args.geo.now honest file run c.args.role c.args.self.now c.advance.new.self c.args.space.now c.advance.new.space
    (guide_at c.args.guides.now c.args.role) (guide_at c.note.new.self c.args.role) at e few higher falls
    (λ given told has.
    let told_so = same told in
    let more = c.in_ok-advance.ensures.given run given told_so.0
    (subst (λ (b : List ℕ). HasGiven c.args.geo.now (unbounded run) c.args.self.now.cursor given b) (sym told_so.1) has) in
    subst (λ (b : List ℕ). HasGiven c.args.geo.now (unbounded run) c.advance.new.self.cursor (given ++ e ∷ []) b) told_so.1
    (subst (λ (h : Option (Key × Rec)). HasGivenMore c.args.geo.now (unbounded run) c.advance.new.self.cursor h given
    (g.D.Disk.state c.args.disk.now).bytes) at_is more))
    noted c.next_start-start.result c.requires.left c.in_ok-advance.ensures.onward c.next_start-start.ensures (c.note.ensures.notes below) room

pub returns-in_err-advance-clause-stops : goal.returns-in_err-advance-clause-stops
returns-in_err-advance-clause-stops g c = λ run earlier first met entries honest some small rise has front.
    let file = (g.D.Disk.state c.args.disk.now).bytes in
    let value : Value = c.in-Some.value in
    let is : settle c.args.rec ≡ Some value = sym c.settle.ensures ∙ c.in-Some.is in
    let e : Key × Rec = (c.args.key.now, Base value) in
    let more = front_more met entries e (subst (λ (l : Entries). IsFront l entries) (settles_some met c.args.key.now c.args.rec value is) front) in
    subst (λ (r : Result (Unit {0}) Broken). IfErr r (λ broken. TellsStop c.args.geo.now run entries earlier file broken))
    (sym (handed_on c.from_residual.ensures.1))
    (c.in_err-advance.ensures.stops run earlier first met entries honest some small rise has more.0 more.1)

pub returns-then-is_at-clause-met : goal.returns-then-is_at-clause-met
returns-then-is_at-clause-met g c = λ run earlier first met honest has.
    let file = (g.D.Disk.state c.args.disk.now).bytes in
    let value : Value = c.in-Some.value in
    let is : settle c.args.rec ≡ Some value = sym c.settle.ensures ∙ c.in-Some.is in
    let e : Key × Rec = (c.args.key.now, Base value) in
    let output = c.advance.new.self in
    subst (λ (l : Entries). HasMet c.args.geo.now run earlier c.args.role first output c.advance.new.space l file)
    (sym (settles_some met c.args.key.now c.args.rec value is))
    (is_met (λ x. HasMet c.args.geo.now run earlier c.args.role first output c.advance.new.space (met ++ x ∷ []) file) output.cursor.head e
    (c.in_ok-advance.ensures.met run earlier first met honest has) (c.is_at.ensures.0 c.if-is_at.true))

pub returns-else-is_at-clause-stops : goal.returns-else-is_at-clause-stops
returns-else-is_at-clause-stops g c = λ run earlier first met entries honest some small rise has front.
    let file = (g.D.Disk.state c.args.disk.now).bytes in
    let value : Value = c.in-Some.value in
    let is : settle c.args.rec ≡ Some value = sym c.settle.ensures ∙ c.in-Some.is in
    let e : Key × Rec = (c.args.key.now, Base value) in
    let output = c.advance.new.self in
    let rest = goes_on_with met entries e (subst (λ (l : Entries). IsFront l entries) (settles_some met c.args.key.now c.args.rec value is) front) in
    let fell = c.in_ok-advance.ensures.falls in
    let other : Key × Rec = fell.0 in
    departs (other_departs c.args.geo.now run entries earlier c.args.role first output c.advance.new.space met rest.0 e other file
    c.advance.ensures.few c.advance.ensures.left rest.1
    (λ same. false≢true (sym c.if-is_at.false ∙ c.is_at.ensures.1 (fell.1 ∙ ap Some same)))
    (is_met (λ x. HasMet c.args.geo.now run earlier c.args.role first output c.advance.new.space (met ++ x ∷ []) file) output.cursor.head other
    (c.in_ok-advance.ensures.met run earlier first met honest has) fell.1))
