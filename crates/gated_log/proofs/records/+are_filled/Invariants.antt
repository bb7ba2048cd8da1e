use Rattle.gated_log.proofs.records.+are_filled.Given as goal

abbrev pub decreases-are_filled : goal.decreases-are_filled
decreases-are_filled l = l.count
