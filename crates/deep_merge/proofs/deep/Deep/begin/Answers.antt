use Rattle.std.proofs.Common.{true, [], refl, Some, subst}
use Rattle.page_file.specs.Component.{numbers_of}
use Rattle.page_file.specs.Entry.{AreRising}
use Rattle.page_file.proofs.OrderLemmas.{orders}
use Rattle.merge_ends.proofs.InputLemmas.{input_begun}
use Rattle.deep_merge.proofs.deep.Deep.begin.Goals as goal

pub returns-clause-merge : goal.returns-clause-merge
returns-clause-merge c = λ sizes file space newer older list elsewhere below below_elsewhere.
    let sorted = (orders newer).0 (subst AreRising list.entries_are list.reads.rise) in
    c.begin.ensures.merging true sizes file space (Some c.start.result) [] (numbers_of list.pages) newer older
    (input_begun refl c.start.ensures.start sorted (c.start.ensures.list sizes newer file list) elsewhere) below below_elsewhere
