use Rattle.std.proofs.Common.{◌≡◌, ◌<◌, ℕ, length, get_or, bit_or}
use Rattle.bit_set.proofs.bits.BitSet.set_to_union.Given as goal

-- the words so far have the bits of the three others'
abbrev pub invariant-loop-i : goal.invariant-loop-i
invariant-loop-i l =
    record {
      places : l.self-inside.places ≡ l.initial.self-inside.places;
      words : length l.self-inside.words.items ≡ length l.initial.self-inside.words.items;
      united : (k : ℕ) → k < l.i → get_or l.self-inside.words.items k 0 ≡ bit_or (bit_or (get_or l.a-inside.words.items k 0) (get_or l.b-inside.words.items k 0)) (get_or l.c-inside.words.items k 0);
    }
