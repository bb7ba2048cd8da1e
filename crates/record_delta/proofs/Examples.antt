-- Small lists of writes, worked out by their records.
use Rattle.std.proofs.Common.{◌≡◌, ℕ, List, [], ◌∷◌, Some, None, Option, refl, ap, codes, length, arith}
use Rattle.blsm_model.specs.declared.row.Value.{Value}
use Rattle.blsm_model.specs.declared.op.Write.{Write}
use Rattle.blsm_model.specs.declared.op.Write.TheVariants.{Put, Add, Del}
use Rattle.record_delta.specs.declared.record.Rec.{Rec}
use Rattle.record_delta.specs.declared.record.Rec.TheVariants.{Base, Delta, Tomb}
use Rattle.record_delta.specs.Records.{settled, text_of, weight}
use Rattle.record_delta.specs.Folding.{fold, record_at}

abbrev of : ℕ → List ℕ → Value
of count text = record { count = count; text = text }

abbrev a : List ℕ
a = codes "a"

abbrev x : List ℕ
x = codes "x"

-- a key that was removed and added to: the add doesn't reach over the tombstone
abbrev removed_then_added : List Write
removed_then_added = Put x (of 100 (codes "old")) ∷ Del x ∷ Put a (of 1 []) ∷ Add x 7 ∷ []

removed_then_added_is : record_at removed_then_added x ≡ Some (Base (of 7 []))
removed_then_added_is = refl

abbrev text_len : Option Rec → ℕ
text_len None = 0
text_len (Some rec) = length (text_of rec)

lengths_differ : ◌≡◌ {A = ℕ} 0 3 → ⊥
lengths_differ same = omega arith

not_over_the_tombstone : record_at removed_then_added x ≡ Some (Base (of 107 (codes "old"))) → ⊥
not_over_the_tombstone wrong = lengths_differ (ap text_len wrong)

-- adds with no put are a delta, whose sum wraps
adds_alone : record_at (Add x 18446744073709551615 ∷ Add x 2 ∷ []) x ≡ Some (Delta (record { count = 1; text = [] }))
adds_alone = refl

adds_settled : settled (record_at (Add x 18446744073709551615 ∷ Add x 2 ∷ []) x) ≡ Some (of 1 [])
adds_settled = refl

-- the newer record is first
a_put_is_taken_whole : fold (Base (of 2 [])) (Base (of 1 (codes "t"))) ≡ Base (of 2 [])
a_put_is_taken_whole = refl

put_weighs : weight x (Base (of 100 (codes "old"))) ≡ 17
put_weighs = refl

tombstone_weighs : weight a Tomb ≡ 14
tombstone_weighs = refl
