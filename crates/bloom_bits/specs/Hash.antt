-- FNV-1a with 64 bits, the hash of Fowler, Noll and Vo.
use Rattle.std.specs.Prelude.{ℕ, ◌*◌, ◌%◌, ◌^◌, List, fold, bit_xor}

-- the hash with one byte more; the number is the hash's prime
abbrev pub with_byte : ℕ → ℕ → ℕ
with_byte hash byte = (bit_xor hash byte * 1099511628211) % 2 ^ 64

-- from the hash's offset basis on
abbrev pub hash_of : List ℕ → ℕ
hash_of bytes = fold with_byte 14695981039346656037 bytes
