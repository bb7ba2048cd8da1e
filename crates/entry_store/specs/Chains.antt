-- Chunks that are linked by numbers.
use Rattle.std.specs.Prelude.{◌≡◌, ◌<◌, length, ℕ, zero, suc, ◌+◌, ◌-◌, ◌/◌, min, List, [], ◌∷◌, ◌++◌, get_or, set, take, nat_eq, if◌then◌else◌}
use Rattle.entry_store.specs.declared.chunks.Chunk.{Chunk}

-- 1 for the same number, and else 0
abbrev pub one_if : ℕ → ℕ → ℕ
one_if q p = if nat_eq q p then 1 else 0

-- how often a number stands in a list
abbrev pub times : ℕ → List ℕ → ℕ
times q [] = 0
times q (p ∷ ps) = one_if q p + times q ps

-- how many chunks so many bytes take
abbrev pub chunks_for : ℕ → ℕ
chunks_for bytes = (bytes + 15) / 16

abbrev pub chunk_at : List Chunk → ℕ → Chunk
chunk_at chunks p = get_or chunks p (record { bytes = []; next = 0 })

abbrev pub next_of : List Chunk → ℕ → ℕ
next_of chunks p = (chunk_at chunks p).next

-- so many chunks, from this one on
unfoldable pub chain : ℕ → List Chunk → ℕ → List ℕ
chain zero chunks p = []
chain (suc n) chunks p = p ∷ chain n chunks (next_of chunks p)

-- the chunk behind so many
unfoldable pub walk : ℕ → List Chunk → ℕ → ℕ
walk zero chunks p = p
walk (suc n) chunks p = walk n chunks (next_of chunks p)

-- the bytes in so many chunks
unfoldable pub text_of : ℕ → List Chunk → ℕ → ℕ → List ℕ
text_of zero chunks p bytes = []
text_of (suc n) chunks p bytes = take (min bytes 16) (chunk_at chunks p).bytes ++ text_of n chunks (next_of chunks p) (bytes - min bytes 16)

-- a chunk linked to another one
abbrev pub linked : List Chunk → ℕ → ℕ → List Chunk
linked chunks p next = set chunks p (record { bytes = (chunk_at chunks p).bytes; next = next })

-- each chunk is linked to the one behind it
pub record AreLinked (cs : List Chunk) : Type 0 where
  pub rise : (i : ℕ) → i < length cs → next_of cs i ≡ i + 1
  pub full : (i : ℕ) → i < length cs → length (chunk_at cs i).bytes ≡ 16
