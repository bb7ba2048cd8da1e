use Rattle.std.proofs.Common.{◌+◌, Option, IfOk, IfErr, sym, subst, rules, of_calls}
use Rattle.std.proofs.lemmas.Fn.{always_returns_same}
use Rattle.blsm_model.specs.declared.key.Key.{Key}
use Rattle.blsm_model.specs.Keys.{key_cmp}
use Rattle.mem_table.specs.Places.{IsSplit}
use Rattle.mem_table.proofs.OrderLemmas.{split_at, split_gap}
use Rattle.mem_table.proofs.PlaceLemmas.{Searched, searched}
use Rattle.scan_view.proofs.records.split_at.Goals as goal
use Rattle.scan_view.proofs.records.split_at.Goals.{After-binary_search_by}
use Rattle.mem_table.proofs.Terms.{IsAt, IsGapFor}

searched_for : (c : After-binary_search_by) → Searched c.args.entries.now c.in-Some.key c.binary_search_by.result
searched_for c =
    searched c.args.entries.now c.in-Some.key c.binary_search_by.result c.requires c.binary_search_by.ensures.bound
    (c.binary_search_by.ensures.position (λ e. key_cmp e.0 c.in-Some.key) (always_returns_same _ _ _ (λ a r f k. search (rules, of_calls))))

pub returns-in-Ok : goal.returns-in-Ok
returns-in-Ok c =
    let found = (searched_for (goal.at.returns-in-Ok c).After-binary_search_by).found in
    subst (λ (k : Option Key). IsSplit c.args.entries.now k (c.in-Ok.place + 1)) (sym c.in-Some.is)
    (split_at c.args.entries.now c.in-Some.key c.in-Ok.place c.requires (subst (λ r. IfOk r (IsAt c.args.entries.now c.in-Some.key)) c.in-Ok.is found))

pub returns-in-Err : goal.returns-in-Err
returns-in-Err c =
    let absent = (searched_for (goal.at.returns-in-Err c).After-binary_search_by).absent in
    subst (λ (k : Option Key). IsSplit c.args.entries.now k c.in-Err.place) (sym c.in-Some.is)
    (split_gap c.args.entries.now c.in-Some.key c.in-Err.place (subst (λ r. IfErr r (IsGapFor c.args.entries.now c.in-Some.key)) c.in-Err.is absent))
