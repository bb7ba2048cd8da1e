use Rattle.std.proofs.Common.{◌≡◌, ◌∙◌, ap, sym, subst}
use Rattle.std.specs.Cmp.{tied_itself}
use Rattle.std.specs.declared.cmp.Ordering.{Ordering}
use Rattle.std.specs.declared.cmp.Ordering.TheVariants.{Equal, Greater}
use Rattle.std.proofs.lemmas.Cmp.{nat_list_cmp_total}
use Rattle.blsm_model.specs.declared.key.Key.{Key}
use Rattle.blsm_model.specs.Keys.{key_cmp}
use Rattle.record_delta.specs.declared.record.Rec.{Rec}
use Rattle.merge_step.proofs.group.least.Goals as goal

not_greater : (a b : Key) → a ≡ b → key_cmp a b ≡ Greater → ⊥
not_greater a b same greater =
    let equal : key_cmp b b ≡ Equal = tied_itself nat_list_cmp_total b in
    let here : key_cmp b b ≡ Greater = subst (λ (k : Key). key_cmp k b ≡ Greater) same greater in
    apart (sym equal ∙ here)
  where
    apart : ◌≡◌ {A = Ordering} Equal Greater → ⊥
    apart eq = cc

pub returns-in-Greater-clause-grows : goal.returns-in-Greater-clause-grows
returns-in-Greater-clause-grows c = λ rec is.
    absurd (not_greater c.args.newer.0 c.args.older.0 (ap (λ (e : Key × Rec). e.0) is ∙ ap (λ g. g.0) c.alone-in-Greater.ensures.entry) (sym c.cmp.ensures ∙ c.in-Greater.is))
