use Rattle.store_file.proofs.LayoutLaws.{only_sizes, store_same, slots_same}
use Rattle.store_file.proofs.reading.one_geometry.Goals as goal

pub returns-clause-same : goal.returns-clause-same
returns-clause-same c = only_sizes

pub returns-clause-kept : goal.returns-clause-kept
returns-clause-kept c = store_same

pub returns-clause-slots : goal.returns-clause-slots
returns-clause-slots c = slots_same
