-- The spellings of five entries, byte by byte.
use Rattle.std.proofs.Common.{◌≡◌, ℕ, [], ◌∷◌, refl, ap, codes, get_or, arith}
use Rattle.record_delta.specs.declared.record.Rec.TheVariants.{Base, Delta, Tomb}
use Rattle.entry_codec.specs.Spelling.{head, spelling}

put_of_a : spelling (codes "a") (Base (record { count = 5; text = codes "hi" })) ≡ 1 ∷ 0 ∷ 1 ∷ 0 ∷ 2 ∷ 0 ∷ 0 ∷ 0 ∷ 0 ∷ 0 ∷ 0 ∷ 0 ∷ 5 ∷ 0x61 ∷ 0x68 ∷ 0x69 ∷ []
unfolding head spelling
put_of_a = refl

del_of_a : spelling (codes "a") Tomb ≡ 3 ∷ 0 ∷ 1 ∷ 0 ∷ 0 ∷ 0 ∷ 0 ∷ 0 ∷ 0 ∷ 0 ∷ 0 ∷ 0 ∷ 0 ∷ 0x61 ∷ []
unfolding head spelling
del_of_a = refl

add_to_n : spelling (codes "n") (Delta (record { count = 7; text = [] })) ≡ 2 ∷ 0 ∷ 1 ∷ 0 ∷ 0 ∷ 0 ∷ 0 ∷ 0 ∷ 0 ∷ 0 ∷ 0 ∷ 0 ∷ 7 ∷ 0x6e ∷ []
unfolding head spelling
add_to_n = refl

tail_of_n : spelling (codes "n") (Delta (record { count = 7; text = codes "hi" })) ≡ 4 ∷ 0 ∷ 1 ∷ 0 ∷ 2 ∷ 0 ∷ 0 ∷ 0 ∷ 0 ∷ 0 ∷ 0 ∷ 0 ∷ 7 ∷ 0x6e ∷ 0x68 ∷ 0x69 ∷ []
unfolding head spelling
tail_of_n = refl

put_of_x : spelling (codes "x") (Base (record { count = 100; text = codes "old" })) ≡ 1 ∷ 0 ∷ 1 ∷ 0 ∷ 3 ∷ 0 ∷ 0 ∷ 0 ∷ 0 ∷ 0 ∷ 0 ∷ 0 ∷ 0x64 ∷ 0x78 ∷ 0x6f ∷ 0x6c ∷ 0x64 ∷ []
unfolding head spelling
put_of_x = refl

one_is_not_none : ◌≡◌ {A = ℕ} 1 0 → ⊥
one_is_not_none same = omega arith

-- the low byte of a length isn't first
lengths_are_big_endian : spelling (codes "a") Tomb ≡ 3 ∷ 1 ∷ 0 ∷ 0 ∷ 0 ∷ 0 ∷ 0 ∷ 0 ∷ 0 ∷ 0 ∷ 0 ∷ 0 ∷ 0 ∷ 0x61 ∷ [] → ⊥
unfolding head spelling
lengths_are_big_endian same = one_is_not_none (ap (λ bytes. get_or bytes 2 0) same)
