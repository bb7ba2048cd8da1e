use Rattle.tree_machine.proofs.MergeLemmas.{groups_sorted, groups_ahead, quantum_keeps, written_as_it_is, written_as_base, output_then_rest}
use Rattle.std.proofs.Common.{refl}
use Rattle.tree_machine.specs.Layers.{as_it_is, as_base}
use Rattle.record_delta.specs.Entries.{settled_entries}
use Rattle.tree_machine.specs.Merges.{quantum_of}
use Rattle.tree_machine.proofs.laws.merges_fold.Goals as goal

pub returns-clause-pass : goal.returns-clause-pass
returns-clause-pass c = λ quantum merge newer older sorted_newer sorted_older is.
    let groups = (quantum_of quantum merge newer older).groups in
    quantum_keeps quantum merge newer older sorted_newer sorted_older as_it_is groups refl is
    (written_as_it_is merge.cursor groups (groups_sorted quantum merge newer older sorted_newer sorted_older) (groups_ahead quantum merge newer older sorted_newer sorted_older))

pub returns-clause-deep : goal.returns-clause-deep
returns-clause-deep c = λ quantum merge newer older sorted_newer sorted_older is.
    let groups = (quantum_of quantum merge newer older).groups in
    quantum_keeps quantum merge newer older sorted_newer sorted_older as_base (settled_entries groups) refl is
    (written_as_base merge.cursor groups (groups_sorted quantum merge newer older sorted_newer sorted_older) (groups_ahead quantum merge newer older sorted_newer sorted_older))

pub returns-clause-rest : goal.returns-clause-rest
returns-clause-rest c = output_then_rest
