use Rattle.std.proofs.Common.{◌∙◌, Err, sym, subst, arith}
use Rattle.std.proofs.lemmas.Bool.{false≢true}
use Rattle.disk_trait.proofs.ReadLemmas.{only_reads_wider}
use Rattle.catalog_swap.specs.declared.slots.SlotsBroken.{SlotsBroken}
use Rattle.catalog_swap.specs.Reading.{TellsNewest}
use Rattle.tree_reading.specs.Damage.{broken, heavy}
use Rattle.tree_reading.proofs.head.read_catalogue.Goals as goal

pub returns-in-Err-Damaged-clause-refused : goal.returns-in-Err-Damaged-clause-refused
returns-in-Err-Damaged-clause-refused g c = λ honest store. (
  c.args.geometry.now,
  (store, broken (subst (λ (b : SlotsBroken). TellsNewest c.args.geometry.now (g.D.Disk.state c.args.disk.now).bytes (Err b)) c.in-Err-Damaged.field-0-is (c.in-Err-Damaged.ensures.tells honest))),
)

pub returns-then-not-fits_marks-clause-refused : goal.returns-then-not-fits_marks-clause-refused
returns-then-not-fits_marks-clause-refused g c = λ honest store.
    (c.args.geometry.now, (store, heavy c.in-Ok.catalogue (c.in-Ok.ensures.tells honest) (λ fits. false≢true (sym c.if-not-fits_marks.true ∙ c.fits_marks.ensures.1 fits))))

pub returns-then-catalogue-gt-MOST_VERSION-clause-effect : goal.returns-then-catalogue-gt-MOST_VERSION-clause-effect
returns-then-catalogue-gt-MOST_VERSION-clause-effect g c = only_reads_wider (omega arith) (omega arith) c.newest.ensures.effect

pub returns-clause-effect : goal.returns-clause-effect
returns-clause-effect g c = only_reads_wider (omega arith) (omega arith) c.newest.ensures.effect
