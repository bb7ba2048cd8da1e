use Rattle.std.proofs.Common.{rules, ◌≡◌, ◌/◌, ◌+◌, Option, Some, OnOk, ◌∙◌, ap, sym, subst, refl, arith}
use Rattle.std.specs.Int.{from_bool}
use Rattle.std.specs.Prelude.{List, IfOk, slice_set}
use Rattle.disk_trait.specs.Effects.{Affects}
use Rattle.disk_trait.proofs.EffectLemmas.{affects_wider}
use Rattle.blsm_model.specs.Geometry.{file_length}
use Rattle.blsm_model.specs.Sizes.{Sizes}
use Rattle.merge_ends.specs.Quantum.{Works}
use Rattle.merge_ends.specs.Progress.{MayGoOn, stage}
use Rattle.snow_merge.specs.Pass.{SnowState, progress_of_pass}
use Rattle.tree_runs.proofs.PinLemmas.{grown_beside}
use Rattle.tree_runs.specs.Runs.{GuideState, RunsState, AreRunning, PassCovers, PassRuns, PinsOfPass, guide_at, left_for_pass, run_most}
use Rattle.tree_runs.specs.Damage.{PassMeetsDamage}
use Rattle.tree_runs.specs.Writing.{region_of_pass}
use Rattle.tree_runs.specs.Holding.{PassTakes, StandOver}
use Rattle.tree_runs.proofs.CoverLemmas.{pass_covered}
use Rattle.tree_runs.proofs.GuideLemmas.{WritesGuide, guide_named, pages_within, writes_guide}
use Rattle.tree_runs.proofs.QuantumLemmas.{PassQuantum, counted_one, pass_has_room, pass_light, passed_is, pass_ran, pass_stands, pass_works, pass_stays}
use Rattle.tree_runs.proofs.runs.Runs.pass_quantum.Goals as goal
use Rattle.tree_runs.proofs.runs.Runs.pass_quantum.Goals.{After-pages-pages}

-- ---- what the quantum begins with

pub quantum-taken-requires-clause-runs : goal.quantum-taken-requires-clause-runs
quantum-taken-requires-clause-runs g c =
    let now = c.args.self.now in
    let d = g.D.Disk.state c.args.disk.now in
    let order = c.requires.running.in_order in
    let is : now.pass ≡ Some c.in-Some.snow = search rules in
    let was = guide_named c.requires.running.in_order.guides.five (ap (λ (s : RunsState). s.guides) c.self.view_is) (c.number.ensures.number ∙ ap (λ (s : RunsState). s.tags.pass) c.self.view_is) c.number.ensures.in_range c.guide.view_is c.index_mut-guide.ensures.value in
    let running = subst (λ (o : Option SnowState). PassRuns now.sizes d.is_honest d.bytes now.space (guide_at now.guides now.tags.pass) o) is c.requires.running.pass in
    let room = pass_has_room now c.in-Some.snow c.args.a.now.entries is order c.requires.fits in
    let fits = pages_within (c.in-Some.snow.writer.component.weight + left_for_pass (Some c.in-Some.snow) c.args.a.now.entries) (run_most now.sizes) (pass_light now c.in-Some.snow c.args.a.now.entries is c.requires.fits) in
    subst (λ (r : GuideState). MayGoOn c.self.inside.geometry (stage (progress_of_pass c.in-Some.snow c.args.a.now.entries) c.self.inside.space r.filter r.fences d)) (sym was)
    (subst (λ (s : RunsState). MayGoOn s.sizes (stage (progress_of_pass c.in-Some.snow c.args.a.now.entries) s.space (guide_at now.guides now.tags.pass).filter (guide_at now.guides now.tags.pass).fences d)) (sym c.self.view_is)
    (record { running = running; fences_fit = omega (arith, fits, order.guides.pass.pages); room = room }))

-- ---- what it ends with

pass_is : (g : _) (c : After-pages-pages g) → c.args.self.now.pass ≡ Some c.in-Some.snow
pass_is g c = search rules

guide_was : (g : _) (c : After-pages-pages g) → ◌≡◌ {A = GuideState} (record { filter = c.guide.inside.filter; fences = c.guide.inside.fences }) (guide_at c.args.self.now.guides c.args.self.now.tags.pass)
guide_was g c = guide_named c.requires.running.in_order.guides.five (ap (λ (s : RunsState). s.guides) c.self.view_is) (c.number.ensures.number ∙ ap (λ (s : RunsState). s.tags.pass) c.self.view_is) c.number.ensures.in_range c.guide.view_is c.index_mut-guide.ensures.value

abbrev guide_after : (g : _) (c : After-pages-pages g) → GuideState
guide_after g c = record { filter = c.quantum-taken.new.filter; fences = c.quantum-taken.new.fences }

abbrev guides_after : (g : _) (c : After-pages-pages g) → List GuideState
guides_after g c = slice_set c.self.inside.guides.items c.number.result (guide_after g c)

writes : (g : _) (c : After-pages-pages g) → WritesGuide c.args.self.now.sizes c.args.self.now.tags c.args.self.now.tags.pass c.args.self.now.guides (guides_after g c) (guide_after g c)
writes g c =
    let kept = c.quantum-taken.ensures.numbers.reserves in
    writes_guide _ (guide_after g c) c.requires.running.in_order.guides (ap (λ (s : RunsState). s.guides) c.self.view_is) (c.number.ensures.number ∙ ap (λ (s : RunsState). s.tags.pass) c.self.view_is) c.number.ensures.in_range (guide_was g c) kept.bits kept.fences_are

quantum_is : (g : _) (c : After-pages-pages g) → PassQuantum c.args.self.now.sizes c.args.self.now.space c.quantum-taken.new.space (guide_at c.args.self.now.guides c.args.self.now.tags.pass) (guide_after g c)
    c.in-Some.snow c.quantum-taken.new.self c.args.a.now.entries c.quantum-taken.result (g.D.Disk.state c.args.disk.now) (g.D.Disk.state c.quantum-taken.new.disk)
quantum_is g c =
    let now = c.args.self.now in
    let old = g.D.Disk.state c.args.disk.now in
    let new = g.D.Disk.state c.quantum-taken.new.disk in
    subst (λ (r : GuideState). PassQuantum now.sizes now.space c.quantum-taken.new.space r (guide_after g c) c.in-Some.snow c.quantum-taken.new.self c.args.a.now.entries c.quantum-taken.result old new) (guide_was g c)
    (subst (λ (s : RunsState). PassQuantum s.sizes s.space c.quantum-taken.new.space (record { filter = c.guide.inside.filter; fences = c.guide.inside.fences }) (guide_after g c) c.in-Some.snow c.quantum-taken.new.self c.args.a.now.entries c.quantum-taken.result old new) c.self.view_is
    (record { took = c.quantum-taken.ensures.pass; on = c.quantum-taken.ensures.numbers }))

works_are : (g : _) (c : After-pages-pages g) → Works c.args.self.now.sizes c.args.self.now.tags.pass (c.args.self.now.sizes.quantum / 7 + 2) c.args.self.now.space c.quantum-taken.new.space
    (g.D.Disk.state c.args.disk.now) (g.D.Disk.state c.quantum-taken.new.disk)
works_are g c =
    let now = c.args.self.now in
    pass_works now c.quantum-taken.new.space (guide_at now.guides now.tags.pass) (guide_after g c) c.in-Some.snow c.quantum-taken.new.self c.args.a.now.entries c.quantum-taken.result
    (g.D.Disk.state c.args.disk.now) (g.D.Disk.state c.quantum-taken.new.disk) (pass_is g c) c.requires.running.in_order (quantum_is g c)

pub returns-clause-writes : goal.returns-clause-writes
returns-clause-writes g c =
    let now = c.args.self.now in
    let after = c.quantum-taken.new.space in
    let old = g.D.Disk.state c.args.disk.now in
    let new = g.D.Disk.state c.quantum-taken.new.disk in
    let arm = (goal.at.returns-clause-writes g c).After-pages-pages in
    subst
    (λ (m : Option SnowState). Affects (region_of_pass now.sizes now.space after m) (file_length now.sizes) (now.sizes.quantum / 7 + 2) old new)
    (sym (pass_is g arm)) (quantum_is g arm).on.works.effect

pub returns-clause-others : goal.returns-clause-others
returns-clause-others g c =
    let arm = (goal.at.returns-clause-others g c).After-pages-pages in
    record { sizes = search rules; catalogue = search rules; tags = search rules; deep = search rules; takes = (works_are g arm).takes; guides = (writes g arm).others }

pub returns-clause-takes : goal.returns-clause-takes
returns-clause-takes g c =
    let a = c.args.a.now.entries in
    let next = c.quantum-taken.new.self in
    subst (λ (p : Option SnowState). IfOk c.quantum-taken.result (PassTakes c.args.self.now.sizes.quantum p (Some next) a)) (sym (pass_is g
    (goal.at.returns-clause-takes g c).After-pages-pages))
    (subst (λ (s : RunsState). IfOk c.quantum-taken.result (PassTakes s.sizes.quantum (Some c.in-Some.snow)
    (Some next) a)) c.self.view_is c.quantum-taken.ensures.numbers.takes)

pub returns-clause-covers : goal.returns-clause-covers
returns-clause-covers g c = λ total covers.
    let arm = (goal.at.returns-clause-covers g c).After-pages-pages in
    let next = c.quantum-taken.new.self in
    let was = subst (λ (p : Option SnowState). PassCovers total p c.args.a.now.entries) (pass_is g arm) covers in
    pass_covered total c.args.self.now.pass c.in-Some.snow next c.args.a.now.entries c.quantum-taken.result (pass_is g arm) was
    (c.quantum-taken.ensures.covers total was)

pub returns-clause-told : goal.returns-clause-told
returns-clause-told g c =
    let arm = (goal.at.returns-clause-told g c).After-pages-pages in
    let runs = c.args.self.now in
    let are = c.requires.running.in_order in
    let a = c.args.a.now.entries in
    let old = g.D.Disk.state c.args.disk.now in
    let new = g.D.Disk.state c.quantum-taken.new.disk in
    let after = c.quantum-taken.new.space in
    let next = c.quantum-taken.new.self in
    let timed = g.met.D.Disk.timed c.quantum-taken.new.disk in
    let works = works_are g arm in
    let grows = (quantum_is g arm).on.works in
    let sizes : c.self.inside.geometry ≡ runs.sizes = search rules in
    let is_new = passed_is after (guides_after g arm) c.saturating_add-self-inside.result next (returns-clause-others g c) refl refl refl refl in
    record {
      stands = λ tree honest stand. pass_stays runs tree (runs.sizes.quantum / 7 + 2) after old new are c.pages-pages.ensures.shape works honest
          timed stand;
      lists = λ tree honest stand ahead other.
          let stands = pass_stands runs after (guides_after g arm) c.saturating_add-self-inside.result (guide_after g arm) c.in-Some.snow next a
          c.quantum-taken.result old new (pass_is g arm) are c.pages-pages.ensures.shape (writes g arm)
          (quantum_is g arm) timed tree honest stand ahead other in
          (stands.0, stands.1, subst (λ (r : RunsState). StandOver r tree new) (sym is_new) stands.2, stands.3);
      running =
          subst (λ (r : RunsState). OnOk c.quantum-taken.result (AreRunning new.is_honest new.bytes r)) (sym is_new)
          (pass_ran runs after (guides_after g arm) c.saturating_add-self-inside.result (guide_after g arm) c.in-Some.snow next a
          c.quantum-taken.result old new (pass_is g arm) c.requires.running c.pages-pages.ensures.shape (writes g arm) (quantum_is g arm));
      damaged = λ n is tells.
          subst (λ (r : RunsState). PassMeetsDamage r.sizes r.pass n new.bytes) (sym is_new)
          (subst (λ (s : Sizes). PassMeetsDamage s (Some next) n new.bytes) sizes (c.quantum-taken.ensures.numbers.damaged n is tells));
      effect = affects_wider (grown_beside runs.sizes runs.space after c.in-Some.snow grows.takes (subst (PinsOfPass runs.space) (pass_is g arm) are.open_unpinned)) (omega arith) (omega arith) grows.effect;
      faults = c.quantum-taken.ensures.numbers.faults;
    }

pub returns-clause-counted : goal.returns-clause-counted
returns-clause-counted g c =
    counted_one c.quantum-taken.result c.from.result c.args.self.now.quanta c.saturating_add-self-inside.result (c.from.ensures ∙ ap from_bool c.is_ok.ensures.value)
    (omega (arith, c.saturating_add-self-inside.ensures, ap (λ (s : RunsState). s.quanta) c.self.view_is))
