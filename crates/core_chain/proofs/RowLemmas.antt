-- The rows that a caller has still to read are the same after what it saw and after the whole history, since it saw all entries of its own.
use Rattle.std.proofs.Common.{◌≡◌, ◌∙◌, ℕ, Bool, ◌==◌, List, [], ◌∷◌, ◌++◌, length, refl, ap, sym, arith}
use Rattle.std.proofs.lemmas.Grind.{common_steps}
use Rattle.std.proofs.lemmas.Bool.Decides.{nat_tests}
use Rattle.std.specs.Prelude.{fold}
use Rattle.std.proofs.lemmas.List.Elements.{filter-append}
use Rattle.std.proofs.lemmas.List.Sums.{fold-append}
use mathlib.Core.List.{IsPrefix}
use Rattle.blsm_model.specs.Facts.{entries_of}
use Rattle.blsm_model.specs.Histories.{Object, after, fresh_object, object_after}
use Rattle.blsm_model.specs.declared.history.Entry.{Entry}
use Rattle.blsm_model.specs.declared.key.Key.{Key}
use Rattle.blsm_model.specs.declared.row.Value.{Value}

none_leave : (es : List Entry) (object : Object) (seat : ℕ) → entries_of seat es ≡ [] → (fold after object es).held seat ≡ object.held seat
none_leave [] object seat none = refl
none_leave (e ∷ es) object seat none = by (e.seat == seat) refl (none_leave es (after object e) seat)
  where
    by : (b : Bool) → (e.seat == seat) ≡ b → (entries_of seat es ≡ [] → (fold after (after object e) es).held seat ≡ (after object e).held seat) → (fold after (after object e) es).held seat ≡ object.held seat
    by b h1 h2 = grind (arith, common_steps, nat_tests)

no_more : (xs ys : List Entry) → length (xs ++ ys) ≡ length xs → ys ≡ []
no_more xs ys h1 = grind (arith, common_steps, nat_tests)

pub rows_of_a_seat_stay : (opening : List (Key × Value)) (seen history : List Entry) (seat : ℕ) → IsPrefix seen history → entries_of seat seen ≡ entries_of seat history
    → (object_after opening seen).held seat ≡ (object_after opening history).held seat
rows_of_a_seat_stay opening seen history seat begins same =
    let both : entries_of seat history ≡ entries_of seat seen ++ entries_of seat begins.0 = ap (entries_of seat) (sym begins.1) ∙ filter-append (λ (e : Entry). e.seat == seat) seen begins.0 in
    let none : entries_of seat begins.0 ≡ [] = no_more (entries_of seat seen) (entries_of seat begins.0) (ap (λ (l : List Entry). length l) (sym both ∙ sym same)) in
    sym (ap (λ (es : List Entry). (object_after opening es).held seat) (sym begins.1) ∙ (ap (λ (o : Object). o.held seat) (fold-append after (fresh_object opening) seen begins.0) ∙ none_leave begins.0 (object_after opening seen) seat none))
