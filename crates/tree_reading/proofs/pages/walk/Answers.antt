use Rattle.std.proofs.Common.{◌∙◌, ℕ, List, Result, Err, ap, sym, subst, arith}
use Rattle.page_file.specs.declared.file.Broken.{Broken}
use Rattle.tree_reading.specs.Walk.{IsStoppedAt, TellsStop}
use Rattle.tree_reading.proofs.AgainLemmas.{refused_tells}
use Rattle.tree_reading.proofs.CallsLemmas.{reads_after, still}
use Rattle.tree_reading.proofs.FaultLemmas.{same_error}
use Rattle.tree_reading.proofs.MapLemmas.{takes_again}
use Rattle.tree_reading.proofs.WalkLemmas.{not_fault}
use Rattle.tree_reading.proofs.pages.walk.Goals as goal

pub returns-clause-tells : goal.returns-clause-tells
returns-clause-tells g c = λ earlier honest takes.
    let first = g.D.Disk.state c.args.disk.now in
    let mid = g.D.Disk.state c.walk_within.new.disk in
    let once = c.walk_within.ensures in
    let n : ℕ = c.in-Damaged.named in
    let same = still once.reads.effect honest in
    let stopped : IsStoppedAt c.args.geo.now c.args.run.now c.args.bases_only earlier n first.bytes =
    subst (λ (r : Result (Unit {0}) Broken). TellsStop c.args.geo.now c.args.run.now c.args.bases_only earlier c.args.role c.args.space.now c.walk_within.new.space first.bytes r)
    (c.in-Err.is ∙ ap Err c.in-Damaged.is) (once.tells earlier honest takes) in
    let again = takes_again earlier c.args.role c.args.space.now c.walk_within.new.space c.release.new.self c.requires.none once.changed c.release.ensures.this c.release.ensures.others c.release.ensures.pins
    c.release.ensures.pages takes in
    refused_tells c.args.geo.now c.args.run.now c.args.bases_only earlier c.args.role c.args.space.now c.walk_again.new.space mid.bytes first.bytes c.walk_again.result same.1 c.walk_again.ensures.refused
    (c.walk_again.ensures.tells earlier same.0 again (subst (λ (b : List ℕ). IsStoppedAt c.args.geo.now c.args.run.now c.args.bases_only earlier n b) (sym same.1) stopped))

pub returns-clause-reads : goal.returns-clause-reads
returns-clause-reads g c =
    let once = c.walk_within.ensures.reads in
    let calm = once.stands (λ fault. not_fault c.in-Damaged.named (same_error {A = Unit {0}} _ _ (sym (c.in-Err.is ∙ ap Err c.in-Damaged.is) ∙ fault))) in
    reads_after (g.met.D.Disk.timed c.walk_within.new.disk) calm once.effect c.walk_again.ensures.reads (omega (arith, once.effect.effect.calls, c.walk_again.ensures.reads.effect.effect.calls))
