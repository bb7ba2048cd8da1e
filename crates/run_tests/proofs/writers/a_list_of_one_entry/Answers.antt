use Rattle.std.specs.List.Sorted.{IsStrictlySortedBy}
use Rattle.run_tests.proofs.writers.a_list_of_one_entry.Goals as goal

pub write_all-requires-clause-rise : goal.write_all-requires-clause-rise
unfolding IsStrictlySortedBy
write_all-requires-clause-rise g c = (tt, tt)
