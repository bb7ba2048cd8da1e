use Rattle.std.proofs.Common.{◌≡◌, ◌∙◌, Option, ap}
use Rattle.blsm_model.specs.declared.key.Key.{Key}
use Rattle.record_delta.specs.declared.record.Rec.{Rec}
use Rattle.record_delta.specs.Entries.{Entries, AreSorted, first_of, above, folded_over}
use Rattle.merge_step.specs.Group.{group_of}
use Rattle.scan_view.specs.Left.{entry_of}
use Rattle.scan_view.proofs.FoldLemmas.{first_above_folded}
use Rattle.scan_view.proofs.least.least.Goals as goal

-- the entry of the group of what is first in two lists
first : (newer older found : Option (Key × Rec)) → found ≡ entry_of (group_of newer older) → (at : Option Key) (xs ys : Entries) → AreSorted xs → AreSorted ys
    → newer ≡ first_of (above at xs) → older ≡ first_of (above at ys) → found ≡ first_of (above at (folded_over xs ys))
first newer older found is at xs ys sorted_xs sorted_ys newer_is older_is =
    is ∙ ap (λ e. entry_of (group_of e older)) newer_is ∙ ap (λ e. entry_of (group_of (first_of (above at xs)) e)) older_is ∙ first_above_folded at xs ys sorted_xs sorted_ys

pub returns-in_err-key-clause-first : goal.returns-in_err-key-clause-first
returns-in_err-key-clause-first c = λ at xs ys sorted_xs sorted_ys newer_is older_is.
    first c.args.newer c.args.older c.from_residual.result (c.from_residual.ensures ∙ ap entry_of c.in_err-key.ensures.group) at xs ys sorted_xs sorted_ys newer_is older_is

pub returns-clause-first : goal.returns-clause-first
returns-clause-first c = λ at xs ys sorted_xs sorted_ys newer_is older_is.
    first c.args.newer c.args.older _ (ap entry_of c.in_ok-key.ensures.group) at xs ys sorted_xs sorted_ys newer_is older_is
