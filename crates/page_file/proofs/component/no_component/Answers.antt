use Rattle.std.proofs.Common.{refl, sym}
use Rattle.std.specs.List.{IsDistinct}
use Rattle.std.specs.List.Sorted.{IsStrictlySortedBy}
use Rattle.page_file.proofs.component.no_component.Goals as goal

pub returns-clause-reads : goal.returns-clause-reads
unfolding IsStrictlySortedBy IsDistinct
returns-clause-reads c = λ sizes file. record { first_is = sym c.number_of.ensures; chained = tt; rise = tt; apart = tt; pages_is = refl; entries_is = refl; weight_is = refl }
