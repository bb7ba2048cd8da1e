use Rattle.std.specs.Prelude.{◌≡◌, ℕ, ◌+◌, ◌≤◌, Bool, true, false, [], ◌∷◌, Option, Some, None, OnOk, is_ok, is_some, if◌then◌else◌}
use Rattle.std.proofs.Common.{◌∙◌, ap, refl, sym, subst, arith}
use Rattle.std.proofs.lemmas.Bool.{false≢true}
use Rattle.std.proofs.lemmas.Result.{err_from_is_err_and}
use Rattle.std.specs.declared.result.Result.{Result}
use Rattle.refusal.specs.declared.Failed.{Failed}
use Rattle.blsm_model.specs.Sizes.{Sizes}
use Rattle.blsm_model.specs.Geometry.{file_length}
use Rattle.blsm_model.specs.Lanes.{region_length}
use Rattle.record_delta.specs.Records.{weight}
use Rattle.record_delta.specs.Entries.{Entries, entries_weight}
use Rattle.gear_sched.specs.Gears.{entered}
use Rattle.seat_book.specs.State.{peaked_in}
use Rattle.disk_trait.specs.Effects.{Affects}
use Rattle.disk_trait.proofs.EffectLemmas.{affects_wider}
use Rattle.gated_log.specs.Lane.{lane_region}
use Rattle.gated_log.specs.Lanes.{end_of}
use Rattle.gated_log.proofs.RecordLemmas.{cost_one}
use Rattle.snow_merge.specs.Pass.{SnowState}
use Rattle.tree_file.specs.Places.{StandsOn, Becomes}
use Rattle.tree_log.specs.Log.{Grows, IsLogOf, appended, lane_for, with_entries}
use Rattle.tree_runs.specs.Holding.{StandOver}
use Rattle.core_moves.specs.Held.{goes_ahead}
use Rattle.core_moves.proofs.AffectLemmas.{stays_long}
use Rattle.core_moves.proofs.WriteLemmas.{above_floor, lane_beside_pins, one_weighs, runs_on, joined}
use Rattle.core_moves.proofs.held.Held.write.Goals as goal

none_runs : (pass : Option SnowState) → is_some pass ≡ false → pass ≡ None
none_runs None none = refl
none_runs (Some snow) some = absurd (false≢true (sym some))

pub append-requires-clause-above : goal.append-requires-clause-above
append-requires-clause-above g c =
    (above_floor c.goes_ahead-ahead.result ((c.args.key.now, c.args.rec.now) ∷ []) c.args.self.now c.requires.one (sym c.goes_ahead-ahead.ensures)).0

pub append-requires-clause-fits : goal.append-requires-clause-fits
append-requires-clause-fits g c =
    let held = c.args.self.now in
    let more : Entries = (c.args.key.now, c.args.rec.now) ∷ [] in
    let is : goes_ahead more held ≡ c.goes_ahead-ahead.result = sym c.goes_ahead-ahead.ensures in
    subst (λ (b : Bool). end_of held.log.lanes (lane_for b held.log) + 1 + weight c.args.key.now c.args.rec.now + 1 ≤ region_length held.log.lanes.sizes) is
    (omega (arith, c.requires.fits.lane, cost_one c.args.key.now c.args.rec.now))

pub append-requires-clause-length : goal.append-requires-clause-length
append-requires-clause-length g c = λ tells. c.requires.on.long tells ∙ ap file_length (sym c.requires.one.lanes)

pub returns-in_err-append-clause-becomes : goal.returns-in_err-append-clause-becomes
returns-in_err-append-clause-becomes g c = λ tree honest is_of over.
    let held = c.args.self.now in
    let old = g.D.Disk.state c.args.disk.now in
    let new = g.D.Disk.state c.append.new.disk in
    let p = err_from_is_err_and c.from_residual.result c.from_residual.ensures.1 in
    let stands = subst (λ (s : Sizes). StandsOn s tree old) (sym c.requires.one.lanes) over.stands in
    let becomes = subst (λ (s : Sizes). Becomes s tree (appended c.goes_ahead-ahead.result ((c.args.key.now, c.args.rec.now) ∷ []) tree) false old new) c.requires.one.lanes
    (c.in_err-append.ensures.becomes tree honest is_of stands) in
    subst (λ (r : Result (Unit {0}) Failed). Becomes held.runs.sizes tree (appended (goes_ahead ((c.args.key.now, c.args.rec.now) ∷ []) held) ((c.args.key.now, c.args.rec.now) ∷ []) tree) (is_ok r) old new
    × OnOk r (StandOver held.runs (appended (goes_ahead ((c.args.key.now, c.args.rec.now) ∷ []) held) ((c.args.key.now, c.args.rec.now) ∷ []) tree) new)) (sym p.1)
    (subst (λ (b : Bool). Becomes held.runs.sizes tree (appended b ((c.args.key.now, c.args.rec.now) ∷ []) tree) false old new) c.goes_ahead-ahead.ensures becomes, tt)

pub returns-in_err-append-clause-effect : goal.returns-in_err-append-clause-effect
returns-in_err-append-clause-effect g c = affects_wider (lane_beside_pins c.goes_ahead-ahead.result c.args.self.now c.requires.one) (omega arith) (omega arith) (subst (λ (s : Sizes). Affects (lane_region c.args.self.now.log.lanes.sizes (lane_for c.goes_ahead-ahead.result c.args.self.now.log)) (file_length s) 4 (g.D.Disk.state c.args.disk.now) (g.D.Disk.state c.append.new.disk)) c.requires.one.lanes c.append.ensures.effect)

pub spring_after-self-requires : goal.spring_after-self-requires
spring_after-self-requires g c = λ no.
    let fits = c.requires.fits.spring (none_runs c.args.self.now.runs.pass (sym c.in_pass.ensures ∙ no)) in
    omega (arith, fits, one_weighs c.args.key.now c.args.rec.now, c.weight-weight.ensures.weight)

pub returns-clause-writes : goal.returns-clause-writes
returns-clause-writes g c =
    let held = c.args.self.now in
    let more : Entries = (c.args.key.now, c.args.rec.now) ∷ [] in
    let weighs : c.weight-weight.result ≡ entries_weight more = c.weight-weight.ensures.weight ∙ sym (one_weighs c.args.key.now c.args.rec.now) in
    record {
      runs = refl;
      log = subst (λ (b : Bool). c.append.new.self ≡ with_entries b more held.log) c.goes_ahead-ahead.ensures c.in_ok-append.ensures.log;
      grows = subst (λ (b : Bool). Grows b more held.log c.append.new.self) c.goes_ahead-ahead.ensures c.in_ok-append.ensures.grows;
      gears = c.enter.ensures ∙ ap (entered held.gears c.args.seat) weighs;
      spring = c.spring_after-self.ensures
          ∙ ap (λ (b : Bool). if b then held.spring else held.spring + c.weight-weight.result) c.in_pass.ensures
          ∙ ap (λ (n : ℕ). if is_some held.runs.pass then held.spring else held.spring + n) weighs;
      book = c.raise_peak.ensures ∙ ap (λ (n : ℕ). peaked_in n held.book) c.weight.ensures.weight;
    }

pub returns-clause-is_of : goal.returns-clause-is_of
returns-clause-is_of g c = λ tree is_of.
    subst (λ (b : Bool). IsLogOf (appended b ((c.args.key.now, c.args.rec.now) ∷ []) tree) c.append.new.self) c.goes_ahead-ahead.ensures (c.in_ok-append.ensures.is_of tree is_of)

pub returns-clause-becomes : goal.returns-clause-becomes
returns-clause-becomes g c = λ tree honest is_of over.
    let held = c.args.self.now in
    let old = g.D.Disk.state c.args.disk.now in
    let new = g.D.Disk.state c.append.new.disk in
    let more : Entries = (c.args.key.now, c.args.rec.now) ∷ [] in
    let stands = subst (λ (s : Sizes). StandsOn s tree old) (sym c.requires.one.lanes) over.stands in
    let becomes = subst (λ (s : Sizes). Becomes s tree (appended c.goes_ahead-ahead.result more tree) true old new) c.requires.one.lanes
    (c.in_ok-append.ensures.becomes tree honest is_of stands) in
    let next = becomes.stands refl in
    let effect = subst (λ (b : Bool). Affects (lane_region held.log.lanes.sizes (lane_for b held.log)) (file_length held.log.lanes.sizes) 4 old new) refl c.append.ensures.effect in
    let are = joined c.goes_ahead-ahead.result held tree more c.requires.one
    (sym c.goes_ahead-ahead.ensures) effect honest over.are_of next.reads in
    subst (λ (b : Bool). Becomes held.runs.sizes tree (appended b more tree) true old new × StandOver held.runs (appended b more tree) new)
    c.goes_ahead-ahead.ensures (
      becomes,
      record { stands = next; are_of = are },
    )

pub returns-clause-on : goal.returns-clause-on
returns-clause-on g c = record {
  running = runs_on c.goes_ahead-ahead.result c.args.self.now c.requires.one c.append.ensures.effect c.requires.on.running;
  long = stays_long c.args.self.now.runs.sizes c.args.self.now.runs.sizes refl c.requires.on.long
      (subst (λ (s : Sizes). Affects (lane_region c.args.self.now.log.lanes.sizes (lane_for c.goes_ahead-ahead.result c.args.self.now.log)) (file_length s) 4 (g.D.Disk.state c.args.disk.now) (g.D.Disk.state c.append.new.disk)) c.requires.one.lanes c.append.ensures.effect);
}

pub returns-clause-effect : goal.returns-clause-effect
returns-clause-effect g c = affects_wider (lane_beside_pins c.goes_ahead-ahead.result c.args.self.now c.requires.one) (omega arith) (omega arith) (subst (λ (s : Sizes). Affects (lane_region c.args.self.now.log.lanes.sizes (lane_for c.goes_ahead-ahead.result c.args.self.now.log)) (file_length s) 4 (g.D.Disk.state c.args.disk.now) (g.D.Disk.state c.append.new.disk)) c.requires.one.lanes c.append.ensures.effect)

pub returns-clause-ends : goal.returns-clause-ends
returns-clause-ends g c = c.in_ok-append.ensures.ends
