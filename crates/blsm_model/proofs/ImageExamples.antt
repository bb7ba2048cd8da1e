-- The images after a write that is unsure, worked out. Beside those that may be stand some that may not.
use Rattle.std.proofs.Common.{◌≡◌, ℕ, ◌≤◌, ◌++◌, List, [], ◌∷◌, length, Bool, true, false, refl, ap, ◌∙◌, flat_map, lit≤, slice_index_or, arith}
use Rattle.blsm_model.specs.declared.key.Key.{Key}
use Rattle.blsm_model.specs.declared.row.Value.{Value}
use Rattle.blsm_model.specs.declared.op.Op.TheVariants.{Put}
use Rattle.blsm_model.specs.declared.history.Reply.TheVariants.{Done, FaultUnsure}
use Rattle.blsm_model.specs.declared.history.Entry.{Entry}
use Rattle.blsm_model.specs.Book.{no_entry}
use Rattle.blsm_model.specs.Rows.{map_of}
use Rattle.blsm_model.specs.Images.{Shows, counted_with}
use Rattle.blsm_model.proofs.ExampleWords.{a, b, by, of}

-- a write that was answered FaultUnsure stands in an image, or does not
abbrev unsure_put : List Entry
unsure_put = by 0 (Put a (of 1 [])) Done ∷ by 0 (Put b (of 2 [])) FaultUnsure ∷ []

unsure_is_out : Shows ((a, of 1 []) ∷ []) [] unsure_put 2
unsure_is_out = record { front = unsure_put; unsure = false; begins = ([], refl); enough = lit≤ tt; map = refl }

unsure_is_in : Shows ((a, of 1 []) ∷ (b, of 2 []) ∷ []) [] unsure_put 2
unsure_is_in = record { front = unsure_put; unsure = true; begins = ([], refl); enough = lit≤ tt; map = refl }

-- what a front of these two entries leaves, and the count of its first pair
abbrev map_with : Bool → List Entry → List (Key × Value)
map_with unsure front = map_of (flat_map (counted_with unsure) front)

abbrev first_count : List (Key × Value) → ℕ
first_count [] = 0
first_count (p ∷ ps) = p.1.count

first_is : (front rest : List Entry) (unsure : Bool) → front ++ rest ≡ unsure_put → 1 ≤ length front → first_count (map_with unsure front) ≡ 1
first_is [] rest unsure is some = absurd (omega (arith, some))
first_is (e ∷ []) rest unsure is some =
    let e_is : e ≡ by 0 (Put a (of 1 [])) Done = ap (λ es. slice_index_or es 0 no_entry) is in ap (λ k. first_count (map_with unsure (k ∷ []))) e_is
first_is (e ∷ f ∷ []) rest unsure is some =
    let e_is : e ≡ by 0 (Put a (of 1 [])) Done = ap (λ es. slice_index_or es 0 no_entry) is in
    let f_is : f ≡ by 0 (Put b (of 2 [])) FaultUnsure = ap (λ es. slice_index_or es 1 no_entry) is in
    ap (λ k. first_count (map_with unsure (k ∷ f ∷ []))) e_is ∙ ap (λ k. first_count (map_with unsure (by 0 (Put a (of 1 [])) Done ∷ k ∷ []))) f_is ∙ whole unsure
  where
    whole : (unsure : Bool) → first_count (map_with unsure unsure_put) ≡ 1
    whole true = refl
    whole false = refl
first_is (e ∷ f ∷ g ∷ gs) rest unsure is some = absurd (omega (arith, ap (λ es. length es) is))

-- a write that was acknowledged is in each image that shows as many entries
acknowledged_lost : Shows [] [] unsure_put 1 → ⊥
acknowledged_lost shows = absurd (omega (arith, ap first_count shows.map, first_is shows.front shows.begins.0 shows.unsure shows.begins.1 shows.enough))

-- and no later write is in an image without an earlier one
later_alone : Shows ((b, of 2 []) ∷ []) [] unsure_put 0 → ⊥
later_alone shows = none_or_some shows.front shows.begins.0 shows.begins.1 shows.map
  where
    none_or_some : (front rest : List Entry) → front ++ rest ≡ unsure_put → (b, of 2 []) ∷ [] ≡ map_with shows.unsure front → ⊥
    none_or_some [] rest is map = absurd (omega (arith, ap first_count map))
    none_or_some (e ∷ es) rest is map = absurd (omega (arith, ap first_count map, first_is (e ∷ es) rest shows.unsure is (omega arith)))
