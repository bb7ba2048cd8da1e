use Rattle.std.specs.Prelude.{◌+◌, ◌/◌, Ok, Err, is_some}
use Rattle.std.proofs.Common.{◌∙◌, ◌*◌, ◌≤◌, ℕ, Option, refl, ap, sym, subst, arith}
use Rattle.std.proofs.lemmas.Grind.{common_steps}
use Rattle.std.proofs.lemmas.Bool.Decides.{nat_tests}
use Rattle.blsm_model.specs.Format.{most_weight}
use Rattle.mem_table.specs.Tables.{Contents}
use Rattle.snow_merge.specs.Pass.{SnowState}
use Rattle.record_delta.specs.Entries.{Entries, replayed}
use Rattle.page_file.specs.Component.{entries_of}
use Rattle.merge_ends.specs.Output.{IsUpTo}
use Rattle.tree_runs.specs.Damage.{PassMeetsDamage}
use Rattle.tree_runs.specs.Runs.{PassCovers, released_by}
use Rattle.tree_runs.specs.Holding.{HasAllAhead, PassTakes, PassTook, TellsQuantum}
use Rattle.core_moves.proofs.AffectLemmas.{stays_long}
use Rattle.core_moves.proofs.held.Held.pass_quantum.Goals as goal

-- less than a group more than a quantum
few : (least : ℕ) (old new : Option SnowState) (a : Entries) (n : ℕ) → PassTakes least old new a n → n + 1 ≤ least + 2 * most_weight
few least old new a n takes = grind (arith, common_steps, nat_tests)

-- where it took one

pub took1-requires-clause-fits : goal.took1-requires-clause-fits
took1-requires-clause-fits g c =
    let held = c.args.self.now in
    omega (arith, few held.runs.sizes.quantum held.runs.pass c.pass_quantum.new.self.pass c.a.result.now.entries c.in-Ok.taken c.in-Ok.ensures.takes, c.requires.ready.small.pass_taken c.requires.runs)

pub returns-in-Ok-clause-told : goal.returns-in-Ok-clause-told
returns-in-Ok-clause-told g c =
    let held = c.args.self.now in
    let next = c.pass_quantum.new.self in
    subst (λ (t : Contents). TellsQuantum (HasAllAhead held.runs.pass t.entries) (held.runs.sizes.quantum / 7 + 2)
    (λ tree n. PassTook held.runs.sizes.quantum held.runs.pass next.pass (replayed tree.lane_a.entries)
    (entries_of tree.c1) n)
    (PassMeetsDamage next.sizes next.pass) held.runs next (Ok c.in-Ok.taken) (g.D.Disk.state c.args.disk.now) (g.D.Disk.state c.pass_quantum.new.disk)) c.a.ensures c.in-Ok.ensures.told

pub returns-in-Ok-clause-takes : goal.returns-in-Ok-clause-takes
returns-in-Ok-clause-takes g c = record {
  takes = subst (λ (t : Contents). PassTakes c.args.self.now.runs.sizes.quantum c.args.self.now.runs.pass c.pass_quantum.new.self.pass t.entries c.in-Ok.taken) c.a.ensures c.in-Ok.ensures.takes;
  covers = λ total covers.
      subst (λ (t : Contents). PassCovers total c.pass_quantum.new.self.pass t.entries
      × IsUpTo (released_by c.args.self.now.runs.pass) (released_by c.pass_quantum.new.self.pass)) c.a.ensures
      (c.in-Ok.ensures.covers total (subst (λ (t : Contents). PassCovers total c.args.self.now.runs.pass t.entries) (sym c.a.ensures) covers));
  others = c.pass_quantum.ensures.others;
  log = c.drop_released.ensures;
  gears = c.took1.ensures;
  spring = refl;
  book = c.count_quantum.ensures;
}

pub returns-in-Ok-clause-on : goal.returns-in-Ok-clause-on
returns-in-Ok-clause-on g c = record {
  running = c.in-Ok.ensures.told.running;
  long = stays_long c.args.self.now.runs.sizes c.pass_quantum.new.self.sizes c.pass_quantum.ensures.others.sizes c.requires.ready.on.long c.pass_quantum.ensures.told.effect;
}

-- and where it failed

pub returns-in-Err-clause-told : goal.returns-in-Err-clause-told
returns-in-Err-clause-told g c =
    let held = c.args.self.now in
    let next = c.pass_quantum.new.self in
    subst (λ (t : Contents). TellsQuantum (HasAllAhead held.runs.pass t.entries) (held.runs.sizes.quantum / 7 + 2)
    (λ tree n. PassTook held.runs.sizes.quantum held.runs.pass next.pass (replayed tree.lane_a.entries)
    (entries_of tree.c1) n)
    (PassMeetsDamage next.sizes next.pass) held.runs next (Err c.in-Err.broken) (g.D.Disk.state c.args.disk.now) (g.D.Disk.state c.pass_quantum.new.disk)) c.a.ensures c.in-Err.ensures.told

pub returns-in-Err-clause-kept : goal.returns-in-Err-clause-kept
returns-in-Err-clause-kept g c = record {
  sizes = λ failed. c.pass_quantum.ensures.others.sizes;
  catalogue = λ failed. c.pass_quantum.ensures.others.catalogue;
  pass = λ failed. c.pass_quantum.ensures.runs ∙ sym c.requires.runs;
  deep = λ failed. ap is_some c.pass_quantum.ensures.others.deep;
  log = λ failed. refl;
  gears = λ failed. refl;
  spring = λ failed. refl;
  book = λ failed. refl;
  pins = λ failed. c.pass_quantum.ensures.others.takes.pins;
  cursor = λ failed. c.in-Err.ensures.kept failed;
}
