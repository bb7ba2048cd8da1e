-- Sets of three places and of more than a word, computed.
use Rattle.std.proofs.Common.{◌≡◌, true, false, [], ◌∷◌, refl}
use Rattle.bit_set.specs.Bits.{members, is_set, union}

-- words of 64 bits, lowest bit first
bits : members 3 (5 ∷ []) ≡ true ∷ false ∷ true ∷ []
bits = refl

second_word : is_set (0 ∷ 2 ∷ []) 65 ≡ true
second_word = refl

united : union (true ∷ false ∷ false ∷ []) (union (false ∷ true ∷ false ∷ []) (true ∷ false ∷ false ∷ [])) ≡ true ∷ true ∷ false ∷ []
united = refl
