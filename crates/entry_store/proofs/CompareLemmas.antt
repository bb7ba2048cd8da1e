-- A string beside one in chunks, and the first bytes of one.
use Rattle.std.proofs.lemmas.Bool.Decides.{nat_tests}
use Rattle.std.proofs.lemmas.Grind.{common_steps}
use Rattle.std.proofs.Common.{◌≡◌, ◌≢◌, ℕ, zero, suc, ◌-◌, ◌*◌, ◌<◌, ◌≤◌, min, List, [], ◌∷◌, ◌++◌, length, take, drop, refl, ap, sym, ◌∙◌, arith}
use Rattle.std.specs.Int.{w64, from_be_bytes}
use Rattle.std.specs.Ordering.{nat_cmp, ordering_then}
use Rattle.std.specs.declared.cmp.Ordering.{Ordering}
use Rattle.std.specs.declared.cmp.Ordering.TheVariants.{Equal, Greater}
use Rattle.std.specs.Cmp.Lexicographic.{slice_cmp}
use Rattle.std.proofs.lemmas.List.{length-take, take_all, take_min, drop_all, drop_min, take-take}
use Rattle.std.proofs.lemmas.List.{take-append-le, drop-append-le}
use Rattle.std.proofs.Math.Seq.{take-append-add, drop-append-add}
use Rattle.entry_store.specs.declared.chunks.Chunk.{Chunk}
use Rattle.entry_store.specs.Chains.{times, chunks_for, chunk_at, next_of, chain, text_of}
use Rattle.entry_store.proofs.NumberLemmas.{AreBytes, AreBytes-take, eight_ordered}
use Rattle.entry_store.proofs.ChainLemmas.{chain_is, times_parts, text_is, text_empty, chunks_none, chunks_more, first_in}

-- ---- lists

pub take_over : (n : ℕ) (xs ys : List ℕ) → take n (xs ++ ys) ≡ take n xs ++ take (n - length xs) ys
take_over n xs ys = grind (arith, common_steps, nat_tests, take-append-le, take-append-add xs ys (n - length xs))

pub drop_over : (n : ℕ) (xs ys : List ℕ) → drop n (xs ++ ys) ≡ drop n xs ++ drop (n - length xs) ys
drop_over n xs ys = grind (arith, common_steps, nat_tests, drop-append-le, drop-append-add xs ys (n - length xs))

then_assoc : (a b c : Ordering) → ordering_then a (ordering_then b c) ≡ ordering_then (ordering_then a b) c
then_assoc a b c = grind (arith, common_steps, nat_tests)

-- the first bytes decide, and then the rest
pub cmp_parts : (n : ℕ) (xs ys : List ℕ) → slice_cmp nat_cmp xs ys ≡ ordering_then (slice_cmp nat_cmp (take n xs) (take n ys)) (slice_cmp nat_cmp (drop n xs) (drop n ys))
cmp_parts zero xs ys = refl
cmp_parts (suc n) [] [] = refl
cmp_parts (suc n) [] (y ∷ ys) = refl
cmp_parts (suc n) (x ∷ xs) [] = refl
cmp_parts (suc n) (x ∷ xs) (y ∷ ys) =
    ap (ordering_then (nat_cmp x y)) (cmp_parts n xs ys)
    ∙ then_assoc (nat_cmp x y) (slice_cmp nat_cmp (take n xs) (take n ys)) (slice_cmp nat_cmp (drop n xs) (drop n ys))

front_taken : (n : ℕ) (front rest : List ℕ) → length front ≤ n → (length front < n → rest ≡ []) → take n (front ++ rest) ≡ front
front_taken n front rest fits last = grind (arith, common_steps, nat_tests, take_over, take_all)

front_dropped : (n : ℕ) (front rest : List ℕ) → length front ≤ n → (length front < n → rest ≡ []) → drop n (front ++ rest) ≡ rest
front_dropped n front rest fits last = grind (arith, common_steps, nat_tests, drop_over, drop_all)

-- with so many bytes at once, where fewer come last
pub cmp_chunk : (xs front rest : List ℕ) (many : ℕ) → many ≡ min (length xs) 16 → length front ≤ 16 → (length front < 16 → rest ≡ [])
    → slice_cmp nat_cmp xs (front ++ rest) ≡ ordering_then (slice_cmp nat_cmp (take many xs) front) (slice_cmp nat_cmp (drop many xs) rest)
cmp_chunk xs front rest many is fits last =
    let mine : many ≡ min 16 (length xs) = omega (arith, is) in
    rw (cmp_parts 16 xs (front ++ rest), front_taken 16 front rest fits last, front_dropped 16 front rest fits last, mine, take_min 16 xs, drop_min 16 xs) refl

pub stands : (o rest : Ordering) → o ≢ Equal → ordering_then o rest ≡ o
stands o rest h1 = grind (arith, common_steps, nat_tests)

-- the first bytes decide alone where they differ
pub cmp_decided : (n : ℕ) (xs ys : List ℕ) (o : Ordering) → o ≡ slice_cmp nat_cmp (take n xs) (take n ys) → o ≢ Equal → o ≡ slice_cmp nat_cmp xs ys
cmp_decided n xs ys o is differs =
    sym (cmp_parts n xs ys ∙ ap (λ p. ordering_then p (slice_cmp nat_cmp (drop n xs) (drop n ys))) (sym is) ∙ stands o (slice_cmp nat_cmp (drop n xs) (drop n ys)) differs)

-- by eight bytes and their numbers
pub by_fronts : (xs ys : List ℕ) (x y : ℕ) (o : Ordering) → 8 ≤ length xs → 8 ≤ length ys → AreBytes xs → AreBytes ys → x ≡ from_be_bytes w64 (take 8 xs) → y ≡ from_be_bytes w64 (take 8 ys)
    → o ≡ nat_cmp x y → o ≡ slice_cmp nat_cmp (take 8 xs) (take 8 ys)
by_fronts xs ys x y o xs_long ys_long xs_fit ys_fit x_is y_is is =
    rw (is, x_is, y_is)
    (eight_ordered (take 8 xs) (take 8 ys) (omega (arith, xs_long, length-take 8 xs)) (omega (arith, ys_long, length-take 8 ys)) (AreBytes-take 8 xs xs_fit) (AreBytes-take 8 ys ys_fit))

-- and say nothing where they are the same
pub cmp_behind : (n : ℕ) (xs ys : List ℕ) → slice_cmp nat_cmp (take n xs) (take n ys) ≡ Equal → slice_cmp nat_cmp (drop n xs) (drop n ys) ≡ slice_cmp nat_cmp xs ys
cmp_behind n xs ys level = sym (cmp_parts n xs ys ∙ ap (λ p. ordering_then p (slice_cmp nat_cmp (drop n xs) (drop n ys))) level)

pub cmp_nothing : (xs : List ℕ) → length xs ≢ 0 → Greater ≡ slice_cmp nat_cmp xs []
cmp_nothing [] some = absurd (some refl)
cmp_nothing (x ∷ xs) some = refl

-- ---- the first bytes of a string in chunks

-- the first eight are those of the first chunk
pub text_front : (cs : List Chunk) (p bytes : ℕ) → 8 ≤ bytes → length (chunk_at cs p).bytes ≡ 16 → take 8 (text_of (chunks_for bytes) cs p bytes) ≡ take 8 (chunk_at cs p).bytes
text_front cs p bytes enough long =
    let many : ℕ = min bytes 16 in
    let here : List ℕ = (chunk_at cs p).bytes in
    let rest : List ℕ = text_of (chunks_for (bytes - many)) cs (next_of cs p) (bytes - many) in
    rw (text_is (chunks_for bytes) (chunks_for (bytes - many)) cs p bytes (chunks_more bytes many (omega (arith, enough)) refl))
    (grind (arith, common_steps, take_over 8 (take many here) rest, length-take many here, take-take 8 many here (omega (arith, enough))))

-- are those of its first chunks
pub text_taken : (n : ℕ) (cs : List Chunk) (p k bytes : ℕ) → k ≤ bytes → bytes ≤ 16 * n → ((q : ℕ) → 1 ≤ times q (chain n cs p) → length (chunk_at cs q).bytes ≡ 16)
    → take k (text_of n cs p bytes) ≡ text_of (chunks_for k) cs p k
text_taken n cs p zero bytes le fits full = sym (text_empty (chunks_for zero) cs p zero (chunks_none zero refl))
text_taken zero cs p (suc k) bytes le fits full = absurd (omega (arith, le, fits))
text_taken (suc n) cs p (suc j) bytes le fits full =
    let k : ℕ = suc j in
    let many : ℕ = min bytes 16 in
    let mine : ℕ = min k 16 in
    let here : List ℕ = (chunk_at cs p).bytes in
    let next : ℕ = next_of cs p in
    let long : length here ≡ 16 = full p (first_in (suc n) n cs p refl) in
    let front : length (take many here) ≡ many = omega (arith, length-take many here, long) in
    let first : take k (take many here) ≡ take mine here = take_both k many mine here (omega (arith, le)) in
    let left : k - length (take many here) ≡ k - mine = omega (arith, front, le) in
    let rest : take (k - mine) (text_of n cs next (bytes - many)) ≡ text_of (chunks_for (k - mine)) cs next (k - mine) =
    text_taken n cs next (k - mine) (bytes - many) (omega (arith, le)) (omega (arith, fits)) (λ q one. full q (omega (arith, one, ap (times q) (chain_is (suc n) n cs p refl)))) in
    rw (
      text_is (suc n) n cs p bytes refl,
      text_is (chunks_for k) (chunks_for (k - mine)) cs p k (chunks_more k mine (omega arith) refl),
      take_over k (take many here) (text_of n cs next (bytes - many)),
      first,
      left,
      rest,
    ) refl
  where
    take_both : (a b c : ℕ) (xs : List ℕ) → c ≡ min a b → take a (take b xs) ≡ take c xs
    take_both a b c xs h1 = grind (arith, common_steps, nat_tests)

-- the chunks of the first bytes are among those of all
pub chain_taken : (k bytes : ℕ) (cs : List Chunk) (p q : ℕ) → k ≤ bytes → times q (chain (chunks_for k) cs p) ≤ times q (chain (chunks_for bytes) cs p)
chain_taken k bytes cs p q le = omega (arith, times_parts q (chunks_for bytes) (chunks_for k) cs p (omega (arith, le)))
