use Rattle.std.proofs.Common.{refl, subst}
use Rattle.page_file.specs.Entry.{AreRising}
use Rattle.page_file.proofs.OrderLemmas.{orders}
use Rattle.merge_ends.proofs.InputLemmas.{input_begun}
use Rattle.output_reading.proofs.InputsLemmas.{nowhere_in}
use Rattle.output_reading.proofs.inputs.Inputs.start.Goals as goal

pub returns-clause-inputs : goal.returns-clause-inputs
returns-clause-inputs c = λ sizes newer older file list below. record {
  newer_is = input_begun refl c.start.ensures.start ((orders newer).0 (subst AreRising list.entries_are list.reads.rise))
      (c.start.ensures.list sizes newer file list) (λ n _. nowhere_in n);
  older_is = input_begun refl c.start-2.ensures.start ((orders older).0 (subst AreRising below.entries_are below.reads.rise))
      (c.start-2.ensures.list sizes older file below) (λ n _. nowhere_in n);
}
