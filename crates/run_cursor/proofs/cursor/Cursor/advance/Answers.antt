use Rattle.std.proofs.Common.{◌≡◌, ◌+◌, ◌*◌, ◌-◌, ◌<◌, ◌≤◌, ◌∙◌, [], length, Err, refl, ap, sym, subst, arith}
use Rattle.std.proofs.lemmas.Result.{err_from_is_err_and}
use Rattle.disk_trait.proofs.ReadLemmas.{only_reads_start}
use Rattle.blsm_model.specs.Format.{least_full}
use Rattle.blsm_model.specs.Geometry.{page_count}
use Rattle.blsm_model.specs.Components.{no_page}
use Rattle.run_cursor.specs.Cursor.{CursorState, seen, IsStepped}
use Rattle.std.specs.Prelude.{Option}
use Rattle.blsm_model.specs.declared.key.Key.{Key}
use Rattle.record_delta.specs.declared.record.Rec.{Rec}
use Rattle.run_cursor.specs.Given.{HasGivenOf, HasGivenMoreOf}
use Rattle.run_cursor.proofs.GivenLemmas.{given_step, given_on, given_end}
use Rattle.run_cursor.proofs.CursorLemmas.{AheadAmong, left_enough, stepped_ahead, ended_ahead, ended, through, turned_ahead, not_broken}
use Rattle.run_cursor.proofs.AheadLemmas.{advanced_wider}
use Rattle.run_cursor.proofs.FullLemmas.{full_step, full_turn, part_stepped, step_falls, step_some}
use Rattle.page_file.specs.Page.{most_used}
use Rattle.page_file.specs.Component.{numbers_of}
use Rattle.page_file.proofs.ComponentLemmas.{weight_is_length}
use Rattle.run_cursor.proofs.cursor.Cursor.advance.Goals as goal

pub returns-then-self-clause-list : goal.returns-then-self-clause-list
returns-then-self-clause-list g c = λ upto rest tells ahead other.
    let s = c.step.ensures.stepped in
    (refl, stepped_ahead upto c.args.geo.now c.args.self.now c.step.new.self s.0 rest _ ahead s.1)

pub invariant_of-self : goal.invariant_of-self
invariant_of-self g c =
    let f = c.self.inside in
    (ended f.head f.page f.at f.end f.next f.pages f.entries f.weight f.is_front c.self.invariant c.if-self.false c.if-self-eq0.true).kept

pub returns-then-self-eq0-clause-list : goal.returns-then-self-eq0-clause-list
returns-then-self-eq0-clause-list g c = λ upto rest tells ahead other.
    let f = c.self.inside in
    let old = seen f.head f.page f.at f.end f.next f.pages f.entries f.weight f.is_front in
    let end = ended f.head f.page f.at f.end f.next f.pages f.entries f.weight f.is_front c.self.invariant c.if-self.false c.if-self-eq0.true in
    let file = (g.D.Disk.state c.args.disk.now).bytes in
    let here = subst (λ (s : CursorState). AheadAmong upto c.args.geo.now s rest (numbers_of ahead.coming) file) (sym c.self.view_is) (ahead, λ n has. has) in
    (refl, advanced_wider upto c.args.geo.now _ rest file (numbers_of here.0.coming) (numbers_of ahead.coming) here.1 (ended_ahead upto c.args.geo.now old rest file here.0 end.none_left c.if-self-eq0.true))

pub returns-then-self-eq0-clause-ended : goal.returns-then-self-eq0-clause-ended
returns-then-self-eq0-clause-ended g c =
    let f = c.self.inside in
    let end = ended f.head f.page f.at f.end f.next f.pages f.entries f.weight f.is_front c.self.invariant c.if-self.false c.if-self-eq0.true in
    (subst (λ (s : CursorState). s.weight ≡ 0) c.self.view_is end.no_weight, end.no_entries, end.no_weight, c.if-self-eq0.true)

pub returns-in_err-turn-clause-list : goal.returns-in_err-turn-clause-list
returns-in_err-turn-clause-list g c = λ upto rest tells ahead other.
    let f = c.self.inside in
    let none : c.args.self.now.behind ≡ [] = ap (λ (s : CursorState). s.behind) (sym c.self.view_is) ∙ through f.page f.at f.end c.self.invariant.0 c.if-self.false in
    let more : 0 < c.args.self.now.pages = subst (λ (s : CursorState). 0 < s.pages) c.self.view_is (omega (arith, c.if-self-eq0.false)) in
    let p = err_from_is_err_and c.from_residual.result c.from_residual.ensures.1 in
    absurd (not_broken upto c.args.geo.now c.args.self.now rest (g.D.Disk.state c.turn.new.disk).bytes c.in_err-turn.field-0.0 ahead none more (λ same. other (p.1 ∙ ap Err (p.2 ∙ same)))
    (λ n is. c.turn.ensures.damaged n (c.in_err-turn.was ∙ ap Err is) tells))

pub returns-clause-list : goal.returns-clause-list
returns-clause-list g c = λ upto rest tells ahead other.
    let f = c.self.inside in
    let none : c.args.self.now.behind ≡ [] = ap (λ (s : CursorState). s.behind) (sym c.self.view_is) ∙ through f.page f.at f.end c.self.invariant.0 c.if-self.false in
    let more : 0 < c.args.self.now.pages = subst (λ (s : CursorState). 0 < s.pages) c.self.view_is (omega (arith, c.if-self-eq0.false)) in
    let t = c.in_ok-turn.ensures.turned in
    let s = c.step-2.ensures.stepped in
    let there = turned_ahead upto c.args.geo.now c.args.self.now rest (g.D.Disk.state c.turn.new.disk).bytes t.0 t.1 c.turn.ensures.few ahead none more (t.5 tells) in
    let file = (g.D.Disk.state c.turn.new.disk).bytes in
    let here = subst (λ (w : CursorState). AheadAmong upto c.args.geo.now w rest (numbers_of ahead.coming) file) (sym t.4) there in (
      refl,
      advanced_wider upto c.args.geo.now c.step-2.new.self rest file (numbers_of here.0.coming) (numbers_of ahead.coming) here.1
          (stepped_ahead upto c.args.geo.now c.turn.new.self c.step-2.new.self s.0 rest file here.0 s.1),
    )

pub returns-then-self-clause-given : goal.returns-then-self-clause-given
returns-then-self-clause-given g c = λ is_front run given tells has.
    let s = c.step.ensures.stepped in
    let file = (g.D.Disk.state c.args.disk.now).bytes in
    subst (λ (h : Option (Key × Rec)). HasGivenMoreOf is_front c.args.geo.now run c.step.new.self h given file) (sym s.1.head_is)
    (given_step is_front c.args.geo.now run c.args.self.now c.step.new.self given s.0 file has s.1)

pub returns-then-self-eq0-clause-given : goal.returns-then-self-eq0-clause-given
returns-then-self-eq0-clause-given g c = λ is_front run given tells has.
    let f = c.self.inside in
    let file = (g.D.Disk.state c.args.disk.now).bytes in
    let old = seen f.head f.page f.at f.end f.next f.pages f.entries f.weight f.is_front in
    let end = ended f.head f.page f.at f.end f.next f.pages f.entries f.weight f.is_front c.self.invariant c.if-self.false c.if-self-eq0.true in
    let few : page_count c.args.geo.now ≤ no_page = omega (arith, c.pages-pages.ensures.pages, c.pages-pages.ensures.bound) in
    given_end few (subst (λ (s : CursorState). HasGivenOf is_front c.args.geo.now run s given file) (sym c.self.view_is) has) end.none_left c.if-self-eq0.true end.no_entries end.no_weight

pub returns-clause-given : goal.returns-clause-given
returns-clause-given g c = λ is_front run given tells has.
    let f = c.self.inside in
    let file = (g.D.Disk.state c.turn.new.disk).bytes in
    let none : c.args.self.now.behind ≡ [] = ap (λ (s : CursorState). s.behind) (sym c.self.view_is) ∙ through f.page f.at f.end c.self.invariant.0 c.if-self.false in
    let more : 0 < c.args.self.now.pages = subst (λ (s : CursorState). 0 < s.pages) c.self.view_is (omega (arith, c.if-self-eq0.false)) in
    let t = c.in_ok-turn.ensures.turned in
    let s = c.step-2.ensures.stepped in
    let onto = subst (λ (w : CursorState). IsStepped w c.step-2.new.self s.0) t.4 s.1 in
    subst (λ (h : Option (Key × Rec)). HasGivenMoreOf is_front c.args.geo.now run c.step-2.new.self h given file) (sym s.1.head_is)
    (given_on is_front c.args.geo.now run c.args.self.now c.step-2.new.self given t.0 t.1 s.0 file c.turn.ensures.few has none more (t.5 tells) onto)

pub returns-then-self-clause-reads : goal.returns-then-self-clause-reads
returns-then-self-clause-reads g c = record { effect = only_reads_start (g.D.Disk.state c.args.disk.now) (g.met.D.Disk.timed c.args.disk.now); stands = λ other. refl; failed = λ wrong. absurd (cc) }

pub returns-then-self-eq0-clause-reads : goal.returns-then-self-eq0-clause-reads
returns-then-self-eq0-clause-reads g c = record { effect = only_reads_start (g.D.Disk.state c.args.disk.now) (g.met.D.Disk.timed c.args.disk.now); stands = λ other. refl; failed = λ wrong. absurd (cc) }

pub returns-then-self-clause-full : goal.returns-then-self-clause-full
returns-then-self-clause-full g c = λ run full.
    let s = c.step.ensures.stepped in
    full_step run c.args.self.now c.step.new.self s.0 full s.1

pub returns-then-self-clause-turns : goal.returns-then-self-clause-turns
returns-then-self-clause-turns g c = λ none more.
    let s = c.step.ensures.stepped in
    absurd (step_some c.args.self.now c.step.new.self s.0 s.1 none)

pub returns-then-self-clause-part : goal.returns-then-self-clause-part
returns-then-self-clause-part g c =
    let s = c.step.ensures.stepped in
    part_stepped c.args.self.now c.step.new.self s.0 s.1

pub returns-then-self-eq0-clause-part : goal.returns-then-self-eq0-clause-part
returns-then-self-eq0-clause-part g c =
    let none : c.args.self.now.pages ≡ 0 = ap (λ (s : CursorState). s.pages) (sym c.self.view_is) ∙ c.if-self-eq0.true in
    record {
      enough = λ due some. absurd (omega (arith, none, some));
      begins = λ due some. absurd (omega (arith, none, some));
      stays = λ part rests on. subst (λ (s : CursorState). part + length s.behind ≤ s.weight + most_used) (sym c.self.view_is) on;
    }

pub returns-clause-part : goal.returns-clause-part
returns-clause-part g c =
    let f = c.self.inside in
    let none : c.args.self.now.behind ≡ [] = ap (λ (s : CursorState). s.behind) (sym c.self.view_is) ∙ through f.page f.at f.end c.self.invariant.0 c.if-self.false in
    let more : 0 < c.args.self.now.pages = subst (λ (s : CursorState). 0 < s.pages) c.self.view_is (omega (arith, c.if-self-eq0.false)) in
    let t = c.in_ok-turn.ensures.turned in
    let s = c.step-2.ensures.stepped in
    let enough : least_full * (c.args.self.now.pages - 1) ≤ c.args.self.now.weight =
    left_enough c.args.self.now t.0 t.1 t.2.numbers
    (λ others. omega (
      arith,
      c.in_ok-turn.ensures.full (omega (arith, others, ap (λ (w : CursorState). w.pages) t.4)),
      ap (λ (w : CursorState). length w.behind) t.4,
      weight_is_length t.1,
    ))
    more in
    record {
      enough = λ due some. enough;
      begins = λ due some.
          omega (
            arith,
            c.in_ok-turn.ensures.fits,
            ap (λ (w : CursorState). w.weight) t.4,
            step_falls c.turn.new.self c.step-2.new.self s.0 s.1,
          );
      stays = λ part rests on. absurd (omega (arith, more, rests none));
    }

pub returns-clause-full : goal.returns-clause-full
returns-clause-full g c = λ run full.
    let f = c.self.inside in
    let none : c.args.self.now.behind ≡ [] = ap (λ (s : CursorState). s.behind) (sym c.self.view_is) ∙ through f.page f.at f.end c.self.invariant.0 c.if-self.false in
    let more : 0 < c.args.self.now.pages = subst (λ (s : CursorState). 0 < s.pages) c.self.view_is (omega (arith, c.if-self-eq0.false)) in
    let t = c.in_ok-turn.ensures.turned in
    let s = c.step-2.ensures.stepped in
    full_step run c.turn.new.self c.step-2.new.self s.0
    (full_turn run c.args.self.now c.turn.new.self full none (omega (arith, more, ap (λ (w : CursorState). w.pages) t.4)) (ap (λ (w : CursorState). w.weight) t.4) c.in_ok-turn.ensures.full) s.1
