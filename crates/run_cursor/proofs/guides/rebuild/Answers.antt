use Rattle.std.proofs.Common.{◌≡◌, ◌≢◌, ◌∙◌, ◌+◌, ◌<◌, ℕ, IsTrue, List, Option, Result, Ok, Err, length, refl, ap, sym, subst, arith}
use Rattle.std.proofs.lemmas.Result.{err_from_is_err_and}
use Rattle.refusal.specs.Count.{HasRisen}
use Rattle.bloom_bits.specs.BitSet.{BitState}
use Rattle.bloom_bits.specs.Fences.{FencesState}
use Rattle.disk_trait.proofs.ReadLemmas.{only_reads_start, only_reads_run_within, only_reads_same}
use Rattle.page_file.specs.Component.{RunPage, ReadsOn, first_number}
use Rattle.page_file.specs.declared.file.Broken.{Broken}
use Rattle.page_file.specs.declared.file.Broken.TheVariants.{Fault}
use Rattle.run_cursor.specs.Rebuild.{place_behind}
use Rattle.run_cursor.specs.declared.guides.Place.{Place}
use Rattle.run_cursor.proofs.RebuildLemmas.{Building, Coming, build_more, build_none, built, comes, few_fences, place_told, page_told, same_error}
use Rattle.run_cursor.proofs.guides.rebuild.Goals as goal
use Rattle.run_cursor.proofs.guides.rebuild.Goals.{After-add_page}

pub loop-init : goal.loop-init
loop-init g c = record {
  effect = only_reads_start (g.D.Disk.state c.args.disk.now) (g.met.D.Disk.timed c.args.disk.now);
  calls = omega arith;
  stands = refl;
  few = omega arith;
  light = omega arith;
  reserves = record { bits = ap (λ (f : BitState). f.reserved) c.reset.ensures.cleared; fences_are = ap (λ (f : FencesState). f.reserved) c.clear.ensures; size_is = c.reset.ensures.bits };
  building = λ pages next honest reads.
      build_none c.args.geo.now c.args.run.now c.reset.new.self c.clear.new.self pages next (g.D.Disk.state c.args.disk.now).bytes reads c.reset.ensures.none (ap (λ (f : FencesState). f.list) c.clear.ensures);
}

-- what a page more told, where the run reads as these pages
told : (g : _) (c : After-add_page g) (pages : List RunPage) (next : Option ℕ) → IsTrue (g.D.Disk.state c.args.disk.now).is_honest → ReadsOn c.args.geo.now c.args.run.now pages next (g.D.Disk.state c.args.disk.now).bytes
    → c.add_page.result ≢ Err Fault
    → (b : Building c.args.geo.now c.loop.counter c.loop.at c.loop.filter c.loop.fences pages next (g.D.Disk.state c.args.disk.now).bytes)
    × (k : Coming c.args.geo.now c.loop.at.page c.loop.fences b.read b.coming next (g.D.Disk.state c.args.disk.now).bytes) × (c.add_page.result ≡ Ok (place_behind c.loop.at (first_number k.more next) k.page.entries))
    × Building c.args.geo.now (c.loop.counter + 1) (place_behind c.loop.at (first_number k.more next) k.page.entries) c.add_page.new.filter c.add_page.new.fences pages next (g.D.Disk.state c.args.disk.now).bytes
told g c pages next honest reads other =
    let inv = c.loop.invariant in
    let sizes = c.args.geo.now in
    let file = (g.D.Disk.state c.args.disk.now).bytes in
    let b = inv.building pages next honest reads in
    let k = comes sizes c.args.run.now c.loop.counter c.loop.at c.loop.filter c.loop.fences pages next file c.loop-test.true reads b in
    let still = subst IsTrue (sym inv.effect.effect.goes_on.is_honest) honest in
    let same = only_reads_same inv.effect honest in
    let room : length c.loop.fences.list < c.loop.fences.reserved =
    omega (arith, ap (λ l. length l) b.fences_are, few_fences b.read, b.count_is, c.loop-test.true, c.requires.room, inv.reserves.fences_are) in
    let page = c.add_page.ensures.page (first_number k.more next) k.page.entries still k.inside
    (page_told sizes c.loop.at.page k.page.entries (first_number k.more next) file (g.D.Disk.state c.loop.disk).bytes same k.valid) room k.above other in (
      b,
      k,
      page.0,
      build_more sizes c.loop.counter c.loop.at c.loop.filter c.add_page.new.filter c.loop.fences c.add_page.new.fences pages next file b k page.1 page.2,
    )

fault_is : (a : Result Place Broken) (broken : Broken) → a ≡ Err broken → a ≡ Err Fault → broken ≡ Fault
fault_is a broken was is = cc

not_both : (a : Result Place Broken) (broken : Broken) (n : Place) → a ≡ Err broken → a ≡ Ok n → ⊥
not_both a broken n was is = cc

pub returns-in_err-at-clause-guide : goal.returns-in_err-at-clause-guide
returns-in_err-at-clause-guide g c = λ pages next honest reads other.
    let p = err_from_is_err_and c.from_residual.result c.from_residual.ensures.1 in
    let t = told g (goal.at.returns-in_err-at-clause-guide g c).After-add_page pages next honest reads
    (λ fault. other (p.1 ∙ ap Err (p.2 ∙ fault_is c.add_page.result c.in_err-at.field-0.0 c.in_err-at.was fault))) in
    absurd (not_both c.add_page.result c.in_err-at.field-0.0 _ c.in_err-at.was t.2)

pub returns-in_err-at-clause-reads : goal.returns-in_err-at-clause-reads
returns-in_err-at-clause-reads g c =
    let inv = c.loop.invariant in
    let p = err_from_is_err_and c.from_residual.result c.from_residual.ensures.1 in
    record {
      effect = only_reads_run_within c.args.run.now.pages (g.met.D.Disk.timed c.loop.disk) inv.stands inv.effect c.add_page.ensures.reads.effect
          (omega (arith, inv.calls, c.add_page.ensures.reads.effect.effect.calls, c.loop-test.true));
      stands = λ other. c.add_page.ensures.reads.stands (λ fault. other (p.1 ∙ ap Err (p.2 ∙ fault_is c.add_page.result c.in_err-at.field-0.0 c.in_err-at.was fault))) ∙ inv.stands;
      failed = λ is. subst (λ n. HasRisen n (g.D.Disk.state c.add_page.new.disk).faults) inv.stands
          (c.add_page.ensures.reads.failed (c.in_err-at.was ∙ ap Err (sym p.2 ∙ same_error p.0 Fault (sym p.1 ∙ is))));
    }

calm_of : (a : Result Place Broken) (n : Place) → a ≡ Ok n → a ≢ Err Fault
calm_of a n is fault = not_both a Fault n fault is

pub loop-preserved : goal.loop-preserved
loop-preserved g c =
    let inv = c.loop.invariant in
    let calm = calm_of c.add_page.result c.in_ok-at.at c.in_ok-at.was in
    let sums = c.in_ok-at.ensures.sums in
    record {
      effect = only_reads_run_within c.args.run.now.pages (g.met.D.Disk.timed c.loop.disk) inv.stands inv.effect c.add_page.ensures.reads.effect
          (omega (arith, inv.calls, c.add_page.ensures.reads.effect.effect.calls, c.loop-test.true));
      calls = omega (arith, inv.calls, c.add_page.ensures.reads.effect.effect.calls);
      stands = c.add_page.ensures.reads.stands calm ∙ inv.stands;
      few = omega (arith, inv.few, sums.0);
      light = omega (arith, inv.light, sums.1);
      reserves = record {
        bits = c.add_page.ensures.reserves.bits ∙ inv.reserves.bits;
        fences_are = c.add_page.ensures.reserves.fences_are ∙ inv.reserves.fences_are;
        size_is = c.add_page.ensures.reserves.size_is ∙ inv.reserves.size_is;
      };
      building = λ pages next honest reads.
          let t = told g (goal.at.loop-preserved g c).After-add_page pages next honest reads calm in
          subst (λ (p : Place). Building c.args.geo.now (c.loop.counter + 1) p c.add_page.new.filter c.add_page.new.fences pages next (g.D.Disk.state c.args.disk.now).bytes)
          (place_told c.add_page.result _ c.in_ok-at.at t.2 c.in_ok-at.was) t.3;
    }

pub returns-clause-guide : goal.returns-clause-guide
returns-clause-guide g c = λ pages next honest reads other. (
  refl,
  built c.args.geo.now c.args.run.now c.loop.counter c.loop.at c.loop.filter c.loop.fences pages next (g.D.Disk.state c.args.disk.now).bytes (omega (arith, c.loop-test.false)) reads (c.loop.invariant.building pages next honest reads),
)
