-- The rows that a caller holds stay those of the moment of its hold.
use Rattle.std.proofs.lemmas.Bool.Decides.{nat_tests}
use Rattle.std.proofs.lemmas.Grind.{common_steps}
use Rattle.std.proofs.Common.{arith, ◌≡◌, ℕ, ◌==◌, ◌++◌, List, [], ◌∷◌, Bool, cond, true, false, Option, Some, refl, ap, ◌∙◌, eq-eqb}
use Rattle.std.specs.List.{fold, list_all}
use Rattle.std.proofs.lemmas.List.Sums.{fold-append}
use Rattle.blsm_model.specs.declared.key.Key.{Key}
use Rattle.blsm_model.specs.declared.row.Row.{Row}
use Rattle.blsm_model.specs.declared.row.Value.{Value}
use Rattle.blsm_model.specs.declared.history.Entry.{Entry}
use Rattle.blsm_model.specs.Rows.{rows}
use Rattle.blsm_model.specs.Histories.{Object, held_after, is_refusal, moves_rows, leaves_rows, hold_by, fresh_object, after, object_after, written}
use Rattle.blsm_model.proofs.HistoryLemmas.{writes-object_after}

-- a refusal changes no caller's rows
pub held-refusal : (object : Object) (entry : Entry) (seat : ℕ) → is_refusal entry.reply ≡ true → (after object entry).held seat ≡ object.held seat
held-refusal object entry seat refused = ap (λ b. cond b (object.held seat) (cond (seat == entry.seat) (held_after entry.op object.writes (object.held seat)) (object.held seat))) refused

either : (b : Bool) (held : Option (List Row)) → cond b held held ≡ held
either b held = grind (arith, common_steps, nat_tests)

-- a caller's own writes, gets and work change none of its rows either
pub held-still : (object : Object) (entry : Entry) (seat : ℕ) → moves_rows entry.op ≡ false → (after object entry).held seat ≡ object.held seat
held-still object entry seat still = grind (arith, common_steps, nat_tests)

-- nor do many such entries
pub held-all_leave : (object : Object) (entries : List Entry) (seat : ℕ) → list_all (leaves_rows seat) entries ≡ true → (fold after object entries).held seat ≡ object.held seat
held-all_leave object [] seat leave = refl
held-all_leave object (e ∷ es) seat leave = grind (arith, common_steps, nat_tests, held-all_leave (after object e) es seat)

-- a hold is a snapshot: until the caller's next hold, next or drop it has the rows of what was written before the hold
pub held-snapshot : (opening : List (Key × Value)) (history later : List Entry) (seat : ℕ) (low high : Key) → list_all (leaves_rows seat) later ≡ true →
    (object_after opening (history ++ hold_by seat low high ∷ later)).held seat ≡ Some (rows (written opening history) low high)
held-snapshot opening history later seat low high leave =
    let object : Object = object_after opening history in
    ap (λ (o : Object). o.held seat) (fold-append after (fresh_object opening) history (hold_by seat low high ∷ later))
    ∙ held-all_leave (after object (hold_by seat low high)) later seat leave
    ∙ ap (λ b. cond b (Some (rows object.writes low high)) (object.held seat)) (eq-eqb seat seat refl)
    ∙ ap (λ writes. Some (rows writes low high)) (writes-object_after opening history)
