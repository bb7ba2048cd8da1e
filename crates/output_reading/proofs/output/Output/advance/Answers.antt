use Rattle.std.specs.Prelude.{IfErr}
use Rattle.std.proofs.Common.{◌∙◌, ◌≡◌, ◌+◌, ◌<◌, ◌≤◌, ◌≢◌, ℕ, [], List, Result, Err, false, ap, refl, sym, subst, arith}
use Rattle.blsm_model.specs.Components.{no_page}
use Rattle.blsm_model.specs.Geometry.{page_count}
use Rattle.page_file.specs.declared.file.Broken.{Broken}
use Rattle.run_cursor.specs.Cursor.{CursorState, IsDamageAt}
use Rattle.run_cursor.specs.Given.{HasGiven, HasGivenMore}
use Rattle.output_reading.specs.Walk.{TellsStop, unbounded}
use Rattle.output_reading.proofs.CallsLemmas.{handed_on, still}
use Rattle.output_reading.proofs.MetLemmas.{damage_stops, entered_as, is_refused, met_next, refused_stops, tells_by}
use Rattle.output_reading.proofs.NumberLemmas.{claimed_on}
use Rattle.output_reading.proofs.output.Output.advance.Goals as goal

pub returns-in_err-enter-clause-stops : goal.returns-in_err-enter-clause-stops
returns-in_err-enter-clause-stops g c = λ run earlier first met entries honest some small rise has front more.
    let file = (g.D.Disk.state c.args.disk.now).bytes in
    let few : page_count c.args.geo.now ≤ no_page = omega (arith, c.pages-pages.ensures.pages, c.pages-pages.ensures.bound) in
    let refused = is_refused c.args.self.now c.enter.new.self c.args.role c.args.space.now c.enter.new.space c.in_err-enter.field-0.0
    c.in_err-enter.ensures in
    subst (λ (r : Result (Unit {0}) Broken). IfErr r (λ broken. TellsStop c.args.geo.now run entries earlier file broken))
    (sym (handed_on c.from_residual.ensures.1 ∙ ap Err refused.1))
    (refused_stops c.args.geo.now run entries earlier c.args.role first c.args.self.now c.args.space.now met refused.0 file few some c.requires.pages
    front more has refused.2)

pub returns-in_err-advance-clause-stops : goal.returns-in_err-advance-clause-stops
returns-in_err-advance-clause-stops g c = λ run earlier first met entries honest some small rise has front more.
    let file = (g.D.Disk.state c.args.disk.now).bytes in
    let few : page_count c.args.geo.now ≤ no_page = omega (arith, c.pages-pages.ensures.pages, c.pages-pages.ensures.bound) in
    let same = still c.advance.ensures.reads.effect honest in
    let entered = c.in_ok-enter.ensures in
    subst (λ (r : Result (Unit {0}) Broken). IfErr r (λ broken. TellsStop c.args.geo.now run entries earlier file broken))
    (sym (handed_on c.from_residual-in_err-advance.ensures.1))
    (tells_by c.in_err-advance.field-0.0 (λ n is.
    damage_stops c.args.geo.now run entries earlier c.args.role first c.args.self.now c.enter.new.self c.args.space.now c.enter.new.space met n file
    few c.requires.pages small rise front has entered.1
    (subst (λ (s : CursorState). IsDamageAt c.args.geo.now s n file) entered.0
    (subst (λ (b : List ℕ). IsDamageAt c.args.geo.now c.enter.new.self.cursor n b) same.1
    (c.advance.ensures.damaged n (c.in_err-advance.was ∙ ap Err is) (g.met.D.Disk.honest_tells c.args.disk.now honest))))))

pub returns-clause-met : goal.returns-clause-met
returns-clause-met g c = λ run earlier first met honest has.
    let file = (g.D.Disk.state c.args.disk.now).bytes in
    let few : page_count c.args.geo.now ≤ no_page = omega (arith, c.pages-pages.ensures.pages, c.pages-pages.ensures.bound) in
    let same = still c.advance.ensures.reads.effect honest in
    let entered = c.in_ok-enter.ensures in
    let given = subst (λ (s : CursorState). HasGiven c.args.geo.now (unbounded run) s met file) (sym entered.0) has.has in
    let more = c.in_ok-advance.ensures.given false (unbounded run) met (g.met.D.Disk.honest_tells c.args.disk.now honest)
    (subst (λ (b : List ℕ). HasGiven c.args.geo.now (unbounded run) c.enter.new.self.cursor met b) (sym same.1) given) in
    met_next c.args.geo.now run earlier c.args.role first c.args.space.now c.enter.new.space c.args.self.now c.enter.new.self c.advance.new.self met
    file few has entered.1 entered.0
    c.in_ok-advance.ensures.turns c.in_ok-advance.ensures.stays (omega (
      arith,
      c.in_ok-advance.ensures.one_a_page,
      c.advance.ensures.reads.effect.effect.goes_on.clock,
    ))
    (subst (λ (b : List ℕ). HasGivenMore c.args.geo.now (unbounded run) c.advance.new.self c.advance.new.self.head met b) same.1 more)

pub returns-clause-given : goal.returns-clause-given
returns-clause-given g c = λ run given honest has.
    let same = still c.advance.ensures.reads.effect honest in
    let before = subst (λ (s : CursorState). HasGiven c.args.geo.now (unbounded run) s given (g.D.Disk.state c.args.disk.now).bytes)
    (sym c.in_ok-enter.ensures.0) has in
    subst (λ (b : List ℕ). HasGivenMore c.args.geo.now (unbounded run) c.advance.new.self c.advance.new.self.head given b) same.1
    (c.in_ok-advance.ensures.given false (unbounded run) given (g.met.D.Disk.honest_tells c.args.disk.now honest)
    (subst (λ (b : List ℕ). HasGiven c.args.geo.now (unbounded run) c.enter.new.self.cursor given b) (sym same.1) before))

pub returns-clause-onward : goal.returns-clause-onward
returns-clause-onward g c =
    let entered = c.in_ok-enter.ensures in
    let cursor = c.advance.new.self in
    let fewer : cursor.pages ≤ c.enter.new.self.cursor.pages = omega (
      arith,
      c.in_ok-advance.ensures.one_a_page,
      c.advance.ensures.reads.effect.effect.goes_on.clock,
    ) in
    record {
      entered = entered_as c.args.self.now c.enter.new.self (record { cursor = cursor; page = c.enter.new.self.page }) c.args.role c.args.space.now
          c.enter.new.space refl entered.1;
      turns = subst (λ (s : CursorState). s.behind ≡ [] → 0 < s.pages → s.pages ≡ cursor.pages + 1) entered.0 c.in_ok-advance.ensures.turns;
      stays = subst (λ (s : CursorState). s.behind ≢ [] → cursor.pages ≡ s.pages) entered.0 c.in_ok-advance.ensures.stays;
      fewer = subst (λ (s : CursorState). cursor.pages ≤ s.pages) entered.0 fewer;
    }

pub returns-clause-claims : goal.returns-clause-claims
returns-clause-claims g c = λ all first claimed.
    let entered = c.in_ok-enter.ensures in
    let cursor = c.advance.new.self in
    let fewer : cursor.pages ≤ c.enter.new.self.cursor.pages = omega (
      arith,
      c.in_ok-advance.ensures.one_a_page,
      c.advance.ensures.reads.effect.effect.goes_on.clock,
    ) in
    claimed_on c.args.role all first c.args.space.now c.enter.new.space c.args.self.now c.enter.new.self cursor claimed entered.1
    (subst (λ (s : CursorState). s.behind ≡ [] → 0 < s.pages → s.pages ≡ cursor.pages + 1) entered.0 c.in_ok-advance.ensures.turns)
    (subst (λ (s : CursorState). s.behind ≢ [] → cursor.pages ≡ s.pages) entered.0 c.in_ok-advance.ensures.stays)
    (subst (λ (s : CursorState). cursor.pages ≤ s.pages) entered.0 fewer)
