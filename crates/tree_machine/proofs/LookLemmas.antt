-- What a lookup that comes before a write makes of its admission.
use Rattle.std.proofs.Common.{◌≡◌, ℕ, Bool, cond, true, false, Option, Some, None, ap, refl, ◌∙◌}
use Rattle.blsm_model.specs.Histories.{is_met, looked_at, looks_first}
use Rattle.blsm_model.specs.declared.history.Reply.{Reply}
use Rattle.blsm_model.specs.declared.history.Reply.TheVariants.{Fault, Kept}
use Rattle.blsm_model.specs.declared.history.Why.{Why}
use Rattle.blsm_model.specs.declared.op.Op.{Op}
use Rattle.blsm_model.proofs.OpLemmas.{unmet_looks}
use Rattle.tree_machine.specs.Lists.{value_in}
use Rattle.tree_machine.specs.Machine.{Machine}
use Rattle.tree_machine.specs.Steps.{
  Outcome,
  Well,
  FailedAfter,
  FailedLooking,
  admit,
  admit_met,
  refused_first,
  told_by_look,
  unless_refused,
  unless_stopped,
}

-- where the tree runs, an admission is refused by what was looked at, or goes on
pub looked_admits : (m : Machine) (seat : ℕ) (op : Op) (outcome : Outcome) (o : Option Reply) → m.stopped ≡ None → refused_first m op outcome ≡ o
    → admit m seat op outcome ≡ unless_refused o seat op m (admit_met m seat op outcome)
looked_admits m seat op outcome o runs is =
    ap (λ (stopped : Option Why). unless_stopped stopped seat op m (unless_refused (refused_first m op outcome) seat op m
    (admit_met m seat op outcome))) runs
    ∙ ap (λ (refused : Option Reply). unless_refused refused seat op m (admit_met m seat op outcome)) is

abbrev no_reply : Option Reply
no_reply = None

either : (b : Bool) → cond b no_reply no_reply ≡ no_reply
either true = refl
either false = refl

-- it goes on where the condition holds, also where a later call fails
pub met_well : (m : Machine) (op : Op) → is_met op (value_in m.lists) ≡ true → refused_first m op Well ≡ None
met_well m op met =
    ap (λ (b : Bool). cond (looks_first op) (told_by_look Well b (looked_at op (value_in m.lists))) None) met ∙ either (looks_first op)

pub met_failed : (m : Machine) (op : Op) (commits faults : ℕ) → is_met op (value_in m.lists) ≡ true → refused_first m op (FailedAfter commits faults)
    ≡ None
met_failed m op commits faults met =
    ap (λ (b : Bool). cond (looks_first op) (told_by_look (FailedAfter commits faults) b (looked_at op (value_in m.lists))) None) met
    ∙ either (looks_first op)

-- where it doesn't, the value that shows it is the reply
pub unmet_kept : (m : Machine) (op : Op) → is_met op (value_in m.lists) ≡ false → refused_first m op Well ≡ Some
    (Kept (looked_at op (value_in m.lists)))
unmet_kept m op unmet =
    ap (λ (b : Bool). cond (looks_first op) (told_by_look Well b (looked_at op (value_in m.lists))) None) unmet
    ∙ ap (λ (b : Bool). cond b (Some (Kept (looked_at op (value_in m.lists)))) None) (unmet_looks op (value_in m.lists) unmet)

-- and where it fails, that
pub look_failed : (m : Machine) (op : Op) (faults : ℕ) → looks_first op ≡ true → refused_first m op (FailedLooking faults) ≡ Some Fault
look_failed m op faults first = ap (λ (b : Bool). cond b (told_by_look (FailedLooking faults) (is_met op (value_in m.lists))
    (looked_at op (value_in m.lists))) None) first
