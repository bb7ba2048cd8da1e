use Rattle.std.proofs.Common.{◌≡◌, ◌∙◌, sym, subst}
use Rattle.std.specs.Cmp.{tied_itself}
use Rattle.std.specs.declared.cmp.Ordering.{Ordering}
use Rattle.std.specs.declared.cmp.Ordering.TheVariants.{Equal, Greater}
use Rattle.std.proofs.lemmas.Cmp.{nat_list_cmp_total}
use Rattle.blsm_model.specs.declared.key.Key.{Key}
use Rattle.blsm_model.specs.Keys.{key_cmp}
use Rattle.merge_step.proofs.group.lesser.Goals as goal

not_greater : (a b : Key) → a ≡ b → key_cmp a b ≡ Greater → ⊥
not_greater a b same greater =
    let equal : key_cmp b b ≡ Equal = tied_itself nat_list_cmp_total b in
    let here : key_cmp b b ≡ Greater = subst (λ (k : Key). key_cmp k b ≡ Greater) same greater in
    apart (sym equal ∙ here)
  where
    apart : ◌≡◌ {A = Ordering} Equal Greater → ⊥
    apart eq = cc

pub returns-in-Greater-clause-grows : goal.returns-in-Greater-clause-grows
returns-in-Greater-clause-grows c = λ given is _. absurd (not_greater c.args.key.now c.args.other.now is (sym c.cmp.ensures ∙ c.in-Greater.is))
