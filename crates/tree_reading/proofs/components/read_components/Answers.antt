use Rattle.std.proofs.Common.{◌∙◌, Err, Option, Result, ap, subst}
use Rattle.page_file.specs.declared.file.Broken.{Broken}
use Rattle.tree_runs.specs.declared.resumable.Resumable.{Resumable}
use Rattle.tree_reading.specs.Reading.{TellsTree}
use Rattle.tree_reading.proofs.FaultLemmas.{faults_of_damage, faults_of_fault, faults_of_ok}
use Rattle.tree_reading.proofs.components.read_components.Goals as goal

pub returns-in-Ok-clause-faults : goal.returns-in-Ok-clause-faults
returns-in-Ok-clause-faults g c = faults_of_ok c.in-Ok.is c.walk_pages.ensures.reads

pub returns-in-Err-Damaged-clause-refused : goal.returns-in-Err-Damaged-clause-refused
returns-in-Err-Damaged-clause-refused g c = λ honest has.
    let sizes = c.args.head.now.geometry in
    let catalogue = c.args.head.now.catalogue in
    let damaged = subst (λ (r : Result (Option Resumable) Broken). TellsTree sizes catalogue c.walk_pages.new.space c.walk_pages.new.guides
    (g.D.Disk.state c.args.disk.now).bytes r)
    (c.in-Err-Damaged.is ∙ ap Err c.in-Err-Damaged.field-0-is) (c.walk_pages.ensures.tells honest) in
    (sizes, (catalogue, has, c.requires.right.version, damaged))

pub returns-in-Err-Damaged-clause-faults : goal.returns-in-Err-Damaged-clause-faults
returns-in-Err-Damaged-clause-faults g c = faults_of_damage _ (c.in-Err-Damaged.is ∙ ap Err c.in-Err-Damaged.field-0-is) c.walk_pages.ensures.reads

pub returns-in-Err-Fault-clause-faults : goal.returns-in-Err-Fault-clause-faults
returns-in-Err-Fault-clause-faults g c = faults_of_fault (c.in-Err-Fault.is ∙ ap Err c.in-Err-Fault.field-0-is) c.walk_pages.ensures.reads
