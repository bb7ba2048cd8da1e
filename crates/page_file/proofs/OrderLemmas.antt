-- The two words for a list whose keys rise.
use Rattle.std.proofs.lemmas.Bool.Decides.{nat_tests}
use Rattle.std.proofs.lemmas.Grind.{common_steps}
use Rattle.std.proofs.Common.{◌≡◌, Bool, true, T, ◌&&◌, List, [], ◌∷◌, sym, subst, arith}
use Rattle.std.specs.Prelude.{◌↔◌}
use Rattle.std.specs.List.{AllByRecursion}
use Rattle.std.specs.List.Sorted.{IsStrictlySortedBy}
use Rattle.std.specs.Ordering.{is_lt}
use Rattle.std.specs.declared.cmp.Ordering.{Ordering}
use Rattle.std.specs.declared.cmp.Ordering.TheVariants.{Less}
use Rattle.std.specs.FinMap.{is_sorted}
use Rattle.std.specs.FinMap.Entries.{below_all}
use Rattle.blsm_model.specs.declared.key.Key.{Key}
use Rattle.blsm_model.specs.Keys.{key_cmp}
use Rattle.record_delta.specs.declared.record.Rec.{Rec}
use Rattle.page_file.specs.Entry.{keys_of, AreRising}

left : (a b : Bool) → T (a && b) → T a
left a b h1 = grind (arith, common_steps, nat_tests)

right : (a b : Bool) → T (a && b) → T b
right a b h1 = grind (arith, common_steps, nat_tests)

both : (a b : Bool) → T a → T b → T (a && b)
both a b h1 h2 = grind (arith, common_steps, nat_tests)

less : (o : Ordering) → T (is_lt o) → o ≡ Less
less o h1 = grind (arith, common_steps, nat_tests)

is_true : (b : Bool) → T b → b ≡ true
is_true b h1 = grind (arith, common_steps, nat_tests)

beyond : (key : Key) (es : List (Key × Rec)) → T (below_all key_cmp key es) → AllByRecursion (λ y. key_cmp key y ≡ Less) (keys_of es)
beyond key [] h = tt
beyond key (e ∷ es) h = (less _ (left _ _ h), beyond key es (right _ _ h))

below : (key : Key) (es : List (Key × Rec)) → AllByRecursion (λ y. key_cmp key y ≡ Less) (keys_of es) → T (below_all key_cmp key es)
below key [] h = tt
below key (e ∷ es) h = both _ _ (subst (λ (o : Ordering). T (is_lt o)) (sym h.0) tt) (below key es h.1)

rising : (es : List (Key × Rec)) → T (is_sorted key_cmp es) → AreRising es
unfolding IsStrictlySortedBy
rising [] h = tt
rising (e ∷ es) h = (beyond e.0 es (left _ _ h), rising es (right _ _ h))

in_order : (es : List (Key × Rec)) → AreRising es → T (is_sorted key_cmp es)
unfolding IsStrictlySortedBy
in_order [] h = tt
in_order (e ∷ es) h = both _ _ (below e.0 es h.0) (in_order es h.1)

pub orders : (es : List (Key × Rec)) → AreRising es ↔ (is_sorted key_cmp es ≡ true)
orders es = (λ rise. is_true _ (in_order es rise), λ sorted. rising es (subst T (sym sorted) tt))
