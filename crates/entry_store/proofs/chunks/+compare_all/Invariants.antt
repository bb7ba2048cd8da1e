use Rattle.entry_store.proofs.chunks.+compare_all.Given as goal

abbrev pub decreases-compare_all : goal.decreases-compare_all
decreases-compare_all l = l.len
