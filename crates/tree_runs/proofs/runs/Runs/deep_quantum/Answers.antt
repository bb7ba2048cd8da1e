use Rattle.std.proofs.Common.{rules, ◌≡◌, ◌/◌, ◌+◌, Option, Some, OnOk, ◌∙◌, ap, sym, subst, refl, arith}
use Rattle.std.specs.Int.{from_bool}
use Rattle.std.specs.Prelude.{List, slice_set}
use Rattle.disk_trait.specs.Effects.{Affects}
use Rattle.disk_trait.proofs.EffectLemmas.{affects_wider}
use Rattle.blsm_model.specs.Sizes.{Sizes}
use Rattle.blsm_model.specs.Geometry.{capacity, file_length}
use Rattle.merge_ends.specs.Quantum.{Works}
use Rattle.merge_ends.specs.Progress.{MayGoOn, stage}
use Rattle.deep_merge.specs.Merge.{DeepState, progress_of_deep}
use Rattle.scan_view.proofs.StayLemmas.{writes_beside}
use Rattle.tree_runs.specs.Runs.{GuideState, RunsState, AreRunning, DeepRuns, guide_at, left_for_deep}
use Rattle.tree_runs.specs.Damage.{DeepMeetsDamage}
use Rattle.tree_runs.specs.Writing.{region_of_deep}
use Rattle.tree_runs.specs.Holding.{StandOver}
use Rattle.tree_runs.proofs.GuideLemmas.{WritesGuide, guide_named, pages_within, writes_guide}
use Rattle.tree_runs.proofs.QuantumLemmas.{DeepQuantum, counted_one, deep_has_room, deep_light, deepened_is, deep_ran, deep_stands, deep_works, deep_stays}
use Rattle.tree_runs.proofs.runs.Runs.deep_quantum.Goals as goal
use Rattle.tree_runs.proofs.runs.Runs.deep_quantum.Goals.{After-pages-pages}

-- ---- what the quantum begins with

pub quantum-taken-requires-clause-runs : goal.quantum-taken-requires-clause-runs
quantum-taken-requires-clause-runs g c =
    let now = c.args.self.now in
    let d = g.D.Disk.state c.args.disk.now in
    let order = c.requires.running.in_order in
    let is : now.deep ≡ Some c.in-Some.deep = search rules in
    let was = guide_named c.requires.running.in_order.guides.five (ap (λ (s : RunsState). s.guides) c.self.view_is) (c.number.ensures.number ∙ ap (λ (s : RunsState). s.tags.deep) c.self.view_is) c.number.ensures.in_range c.guide.view_is c.index_mut-guide.ensures.value in
    let running = subst (λ (o : Option DeepState). DeepRuns now.sizes d.is_honest d.bytes now.space (guide_at now.guides now.tags.deep) o) is c.requires.running.deep in
    let room = deep_has_room now c.in-Some.deep c.args.a.now.entries is order c.requires.fits in
    let fits = pages_within (c.in-Some.deep.writer.component.weight + left_for_deep (Some c.in-Some.deep)) (capacity now.sizes) (deep_light now c.in-Some.deep c.args.a.now.entries is c.requires.fits) in
    subst (λ (r : GuideState). MayGoOn c.self.inside.geometry (stage (progress_of_deep c.in-Some.deep) c.self.inside.space r.filter r.fences d)) (sym was)
    (subst (λ (s : RunsState). MayGoOn s.sizes (stage (progress_of_deep c.in-Some.deep) s.space (guide_at now.guides now.tags.deep).filter (guide_at now.guides now.tags.deep).fences d)) (sym c.self.view_is)
    (record { running = running; fences_fit = omega (arith, fits, order.guides.deep.pages); room = room }))

-- ---- what it ends with

deep_is : (g : _) (c : After-pages-pages g) → c.args.self.now.deep ≡ Some c.in-Some.deep
deep_is g c = search rules

guide_was : (g : _) (c : After-pages-pages g) → ◌≡◌ {A = GuideState} (record { filter = c.guide.inside.filter; fences = c.guide.inside.fences }) (guide_at c.args.self.now.guides c.args.self.now.tags.deep)
guide_was g c = guide_named c.requires.running.in_order.guides.five (ap (λ (s : RunsState). s.guides) c.self.view_is) (c.number.ensures.number ∙ ap (λ (s : RunsState). s.tags.deep) c.self.view_is) c.number.ensures.in_range c.guide.view_is c.index_mut-guide.ensures.value

abbrev guide_after : (g : _) (c : After-pages-pages g) → GuideState
guide_after g c = record { filter = c.quantum-taken.new.filter; fences = c.quantum-taken.new.fences }

abbrev guides_after : (g : _) (c : After-pages-pages g) → List GuideState
guides_after g c = slice_set c.self.inside.guides.items c.number.result (guide_after g c)

writes : (g : _) (c : After-pages-pages g) → WritesGuide c.args.self.now.sizes c.args.self.now.tags c.args.self.now.tags.deep c.args.self.now.guides (guides_after g c) (guide_after g c)
writes g c =
    let kept = c.quantum-taken.ensures.numbers.reserves in
    writes_guide _ (guide_after g c) c.requires.running.in_order.guides (ap (λ (s : RunsState). s.guides) c.self.view_is) (c.number.ensures.number ∙ ap (λ (s : RunsState). s.tags.deep) c.self.view_is) c.number.ensures.in_range (guide_was g c) kept.bits kept.fences_are

quantum_is : (g : _) (c : After-pages-pages g) → DeepQuantum c.args.self.now.sizes c.args.self.now.space c.quantum-taken.new.space (guide_at c.args.self.now.guides c.args.self.now.tags.deep) (guide_after g c)
    c.in-Some.deep c.quantum-taken.new.self c.quantum-taken.result (g.D.Disk.state c.args.disk.now) (g.D.Disk.state c.quantum-taken.new.disk)
quantum_is g c =
    let now = c.args.self.now in
    let old = g.D.Disk.state c.args.disk.now in
    let new = g.D.Disk.state c.quantum-taken.new.disk in
    subst (λ (r : GuideState). DeepQuantum now.sizes now.space c.quantum-taken.new.space r (guide_after g c) c.in-Some.deep c.quantum-taken.new.self c.quantum-taken.result old new) (guide_was g c)
    (subst (λ (s : RunsState). DeepQuantum s.sizes s.space c.quantum-taken.new.space (record { filter = c.guide.inside.filter; fences = c.guide.inside.fences }) (guide_after g c) c.in-Some.deep c.quantum-taken.new.self c.quantum-taken.result old new) c.self.view_is
    (record { took = c.quantum-taken.ensures.merge; on = c.quantum-taken.ensures.numbers }))

works_are : (g : _) (c : After-pages-pages g) → Works c.args.self.now.sizes c.args.self.now.tags.deep (c.args.self.now.sizes.quantum / 4 + 3) c.args.self.now.space c.quantum-taken.new.space
    (g.D.Disk.state c.args.disk.now) (g.D.Disk.state c.quantum-taken.new.disk)
works_are g c =
    let now = c.args.self.now in
    deep_works now c.quantum-taken.new.space (guide_at now.guides now.tags.deep) (guide_after g c) c.in-Some.deep c.quantum-taken.new.self c.quantum-taken.result
    (g.D.Disk.state c.args.disk.now) (g.D.Disk.state c.quantum-taken.new.disk) (deep_is g c) c.requires.running.in_order (quantum_is g c)

pub returns-clause-writes : goal.returns-clause-writes
returns-clause-writes g c =
    let now = c.args.self.now in
    let after = c.quantum-taken.new.space in
    let old = g.D.Disk.state c.args.disk.now in
    let new = g.D.Disk.state c.quantum-taken.new.disk in
    let arm = (goal.at.returns-clause-writes g c).After-pages-pages in
    subst
    (λ (m : Option DeepState). Affects (region_of_deep now.sizes now.space after m) (file_length now.sizes) (now.sizes.quantum / 4 + 3) old new)
    (sym (deep_is g arm)) (quantum_is g arm).on.works.effect

pub returns-clause-others : goal.returns-clause-others
returns-clause-others g c =
    let arm = (goal.at.returns-clause-others g c).After-pages-pages in
    record { sizes = search rules; catalogue = search rules; tags = search rules; pass = search rules; takes = (works_are g arm).takes; guides = (writes g arm).others }

pub returns-clause-told : goal.returns-clause-told
returns-clause-told g c =
    let arm = (goal.at.returns-clause-told g c).After-pages-pages in
    let runs = c.args.self.now in
    let are = c.requires.running.in_order in
    let old = g.D.Disk.state c.args.disk.now in
    let new = g.D.Disk.state c.quantum-taken.new.disk in
    let after = c.quantum-taken.new.space in
    let next = c.quantum-taken.new.self in
    let timed = g.met.D.Disk.timed c.quantum-taken.new.disk in
    let works = works_are g arm in
    let sizes : c.self.inside.geometry ≡ runs.sizes = search rules in
    let is_new = deepened_is after (guides_after g arm) c.saturating_add-self-inside.result next (returns-clause-others g c) refl refl refl refl in
    record {
      stands = λ tree honest stand. deep_stays runs tree (runs.sizes.quantum / 4 + 3) after c.in-Some.deep next.writer old new
          (deep_is g arm) are c.pages-pages.ensures.shape (quantum_is g arm).on.works honest timed stand;
      lists = λ tree honest stand lent other.
          let stands = deep_stands runs after (guides_after g arm) c.saturating_add-self-inside.result (guide_after g arm) c.in-Some.deep next
          c.quantum-taken.result old new (deep_is g arm) are c.pages-pages.ensures.shape (writes g arm)
          (quantum_is g arm) timed tree honest stand other in
          (stands.0, stands.1, subst (λ (r : RunsState). StandOver r tree new) (sym is_new) stands.2, stands.3);
      running =
          subst (λ (r : RunsState). OnOk c.quantum-taken.result (AreRunning new.is_honest new.bytes r)) (sym is_new)
          (deep_ran runs after (guides_after g arm) c.saturating_add-self-inside.result (guide_after g arm) c.in-Some.deep next
          c.quantum-taken.result old new (deep_is g arm) c.requires.running c.pages-pages.ensures.shape (writes g arm) (quantum_is g arm));
      damaged = λ n is tells.
          subst (λ (r : RunsState). DeepMeetsDamage r.sizes r.deep n new.bytes) (sym is_new)
          (subst (λ (s : Sizes). DeepMeetsDamage s (Some next) n new.bytes) sizes (c.quantum-taken.ensures.numbers.damaged n is tells));
      effect = affects_wider (writes_beside runs.sizes runs.space after runs.tags.deep works.takes are.deep_unpinned) (omega arith) (omega arith) works.effect;
      faults = c.quantum-taken.ensures.numbers.faults;
    }

pub returns-clause-counted : goal.returns-clause-counted
returns-clause-counted g c =
    counted_one c.quantum-taken.result c.from.result c.args.self.now.quanta c.saturating_add-self-inside.result (c.from.ensures ∙ ap from_bool c.is_ok.ensures.value)
    (omega (arith, c.saturating_add-self-inside.ensures, ap (λ (s : RunsState). s.quanta) c.self.view_is))
