use Rattle.std.proofs.Common.{◌≡◌, length, take}
use Rattle.bloom_bits.proofs.FilterLemmas.{AreWith}
use Rattle.bloom_bits.proofs.filter.Filter.add.Given as goal

-- the places so far are set
abbrev pub invariant-loop-place : goal.invariant-loop-place
invariant-loop-place l =
    record {
      size : l.self-inside.size ≡ l.initial.self-inside.size;
      long : length l.self-inside.bits ≡ length l.initial.self-inside.bits;
      places : AreWith (take l.initial.self-inside.size l.initial.self-inside.bits) (take l.initial.self-inside.size l.self-inside.bits) (take l.place-index l.place-items);
    }
