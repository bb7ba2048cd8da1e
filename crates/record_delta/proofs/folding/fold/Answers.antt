use Rattle.record_delta.proofs.FoldingLemmas.{fold_associative, fold_grows, fold_lighter, fold_within, stands_folded}
use Rattle.record_delta.proofs.folding.fold.Goals as goal

pub returns-clause-associative : goal.returns-clause-associative
returns-clause-associative c = λ oldest. rw c.combined.ensures.«record» (fold_associative c.args.newer c.args.older oldest)

pub returns-clause-lighter : goal.returns-clause-lighter
returns-clause-lighter c = λ key. rw c.combined.ensures.«record» (fold_lighter key c.args.newer c.args.older)

pub returns-clause-grows : goal.returns-clause-grows
returns-clause-grows c = λ key. rw c.combined.ensures.«record» (fold_grows key c.args.newer c.args.older c.combined.ensures.in_range.text_fits)

pub returns-clause-within : goal.returns-clause-within
returns-clause-within c = λ key newer older. rw c.combined.ensures.«record» (fold_within key c.args.newer c.args.older newer older)

pub returns-clause-stands : goal.returns-clause-stands
returns-clause-stands c = λ key writes stood. rw c.combined.ensures.«record» (stands_folded c.args.newer c.args.older c.combined.ensures.in_range key writes stood)
