use Rattle.std.proofs.Common.{◌∙◌, ◌≡◌, ◌+◌, ℕ, refl, subst, arith}
use Rattle.disk_trait.proofs.EffectLemmas.{affects_length}
use Rattle.disk_mem.specs.Recorded.{told}
use Rattle.blsm_model.specs.declared.component.Component.{Component}
use Rattle.page_space.specs.Space.{role_size}
use Rattle.merge_ends.specs.Output.{TakesPages}
use Rattle.merge_ends.proofs.OutputLemmas.{takes_run}
use Rattle.run_writer.proofs.RegionLemmas.{open_inside}
use Rattle.snow_merge.proofs.PassLemmas.{above_light}
use Rattle.merge_trip.proofs.StoreLemmas.{within_run, if_given}
use Rattle.merge_trip.proofs.helpers.Store.pass.Goals as goal

pub finish-requires-clause-inside : goal.finish-requires-clause-inside
finish-requires-clause-inside g c =
    let inv = c.quanta.invariant in
    let d = told c.quanta.disk in
    open_inside c.args.self.file.geo d.is_honest d.bytes c.quanta.space c.quanta.snow.writer c.quanta.filter c.quanta.fences
    inv.running.run.out inv.running.run.pushed c.pages-pages.ensures.shape inv.pages

pub invariant_of-ended : goal.invariant_of-ended
invariant_of-ended g c = record {
  long = affects_length c.finish.ensures.writes.effect refl c.quanta.invariant.long;
}

pub ended-requires-clause-taken : goal.ended-requires-clause-taken
ended-requires-clause-taken g c =
    let inv = c.quanta.invariant in
    let self = c.args.self in (
      self.space,
      record { roles = self.roles; seats = self.seats },
      inv.takes,
      if_given c.finish.result c.ok-run.result c.quanta.snow.writer.component (λ (run : Component). role_size c.quanta.space c.args.role ≡ role_size self.space c.args.role + run.pages)
          c.ok-run.ensures.value c.finish.ensures.component inv.size,
    )

pub quantum-requires-clause-runs : goal.quantum-requires-clause-runs
quantum-requires-clause-runs g c =
    let inv = c.quanta.invariant in
    let light = above_light c.quanta.snow.at c.quanta.own.table.entries in
    let self = c.args.self in
    record {
      running = inv.running;
      fences_fit = omega (arith, light, inv.light, inv.left, inv.reserved, c.weight.ensures.weight, c.pages.ensures.pages);
      room = record {
        live = self.live + c.quanta.snow.writer.component.pages;
        share = 0;
        within = within_run self.live c.args.role c.quanta.snow.writer.component.pages self.space c.quanta.space (omega (arith, c.number-role.ensures.number, c.number-role.ensures.in_range))
            (record { roles = self.roles; seats = self.seats }) inv.takes inv.size;
        room = omega (arith, light, inv.light, inv.left, inv.pages, c.weight.ensures.weight, c.pages.ensures.pages);
      };
    }

pub ended-requires-in-Err-clause-taken : goal.ended-requires-in-Err-clause-taken
ended-requires-in-Err-clause-taken g c =
    let inv = c.quanta.invariant in
    let self = c.args.self in
    let takes = subst (λ (r : ℕ). TakesPages r c.quanta.space c.quantum.new.space) inv.role c.quantum.ensures.numbers.works.takes in (
      self.space,
      record { roles = self.roles; seats = self.seats },
      takes_run c.args.role self.space c.quanta.space c.quantum.new.space inv.takes takes,
      tt,
    )

pub quanta-preserved : goal.quanta-preserved
quanta-preserved g c =
    let inv = c.quanta.invariant in
    let self = c.args.self in
    let works = c.quantum.ensures.numbers.works in
    let took = c.in-Ok.ensures.numbers.takes.takes in
    let takes = subst (λ (r : ℕ). TakesPages r c.quanta.space c.quantum.new.space) inv.role works.takes in
    let size = subst (λ (r : ℕ). role_size c.quantum.new.space r + c.quanta.snow.writer.component.pages ≡ role_size c.quanta.space r + c.quantum.new.self.writer.component.pages) inv.role c.in-Ok.ensures.numbers.size in
    record {
      pages = works.takes.pages ∙ inv.pages;
      long = affects_length works.effect refl inv.long;
      running = c.in-Ok.ensures.numbers.runs.running;
      takes = takes_run c.args.role self.space c.quanta.space c.quantum.new.space inv.takes takes;
      size = omega (arith, inv.size, size);
      role = c.quantum.ensures.numbers.role ∙ inv.role;
      light = omega (arith, took.light, inv.light);
      left = omega (arith, took.older, inv.left);
      reserved = c.quantum.ensures.numbers.reserves.fences_are ∙ inv.reserved;
    }
