-- A store's heads and chunks.
use Rattle.std.proofs.lemmas.Bool.Decides.{nat_tests}
use Rattle.std.proofs.lemmas.Grind.{common_steps}
use Rattle.std.proofs.Common.{◌≡◌, ℕ, zero, suc, ◌+◌, ◌-◌, ◌*◌, ◌<◌, ◌≤◌, List, [], ◌∷◌, ◌++◌, length, get_or, take, drop, sum_by, refl, ap, sym, subst, ◌∙◌, arith}
use Rattle.std.specs.List.{AllByRecursion}
use Rattle.std.proofs.lemmas.List.{length-append, length-take, length-map, map-append, get_or-map}
use Rattle.std.proofs.Math.Seq.{take-append_seam, drop-append_seam}
use Rattle.std.proofs.lemmas.List.Sums.{sum_by-append, sum_by-cons, get_or-le-sum_by}
use Rattle.blsm_model.specs.declared.key.Key.{Key}
use Rattle.record_delta.specs.declared.record.Rec.{Rec}
use Rattle.record_delta.specs.Records.{text_of as text_in, weight}
use Rattle.record_delta.specs.Entries.{Entries, entries_weight}
use Rattle.entry_store.specs.declared.chunks.Chunk.{Chunk}
use Rattle.entry_store.specs.declared.store.Head.{Head}
use Rattle.entry_store.specs.Chains.{AreLinked, chunks_for, chunk_at, next_of, chain, walk, text_of, times}
use Rattle.entry_store.specs.Stores.{Stored, rec_with, len_of, size_of, string_in, entry_in, entries_in, in_use, free_chunks, is_free, IsHead, IsStore, IsHeadOf, HasEntry, vacant}
use Rattle.entry_store.proofs.CompareLemmas.{text_taken}
use Rattle.entry_store.proofs.ChainLemmas.{length-text, times_parts, chain_stays, text_stays, rising_chain}

pub all_at : {X : Type 0} (P : X → Type 0) (xs : List X) (i : ℕ) (d : X) → i < length xs → AllByRecursion P xs → P (get_or xs i d)
all_at P [] i d within all = absurd (omega arith)
all_at P (x ∷ xs) zero d within all = all.0
all_at P (x ∷ xs) (suc i) d within all = all_at P xs i d (omega arith) all.1

pub sixteen : (n : ℕ) → n ≤ 16 * chunks_for n
sixteen n = omega arith

pub place_within : (cs : List Chunk) (heads : List Head) (reserved : ℕ) (v : Stored) (i : ℕ) → v ≡ record { slots = entries_in cs heads; reserved = reserved } → i < length v.slots → i < length heads
place_within cs heads reserved v i is within = omega (arith, ap (λ (v : Stored). length v.slots) is, length-map heads (entry_in cs))

-- an entry stands at a place
pub entry_within : (slots : Entries) (i : ℕ) → HasEntry slots i → i < length slots
entry_within [] i has = absurd (omega (arith, has))
entry_within (e ∷ slots) zero has = omega arith
entry_within (e ∷ slots) (suc i) has = omega (arith, entry_within slots i has)

-- what a head's bytes are, where these have been read
pub record IsRead (cs : List Chunk) (h : Head) (bytes : List ℕ) : Type 0 where
  pub head : IsHead h
  pub long : len_of h ≤ length bytes
  pub string : take (len_of h) bytes ≡ string_in cs h
  pub taken : length (take (len_of h) bytes) ≡ len_of h

module _ (cs : List Chunk) (heads : List Head) (free reserved head_places : ℕ) (s : IsStore cs heads free reserved head_places) (h : Head) (i : ℕ) (within : i < length heads) (is : h ≡ get_or heads i h) where
  pub head_is : IsHead h
  head_is = subst IsHead (sym is) (all_at IsHead heads i h within s.are_heads)

  pub chain_used : (q : ℕ) → times q (chain (size_of h) cs h.first) ≤ in_use q cs heads
  chain_used q = subst (λ (x : Head). times q (chain (size_of x) cs x.first) ≤ in_use q cs heads) (sym is) (get_or-le-sum_by (λ x. times q (chain (size_of x) cs x.first)) heads i h within)

  pub chain_inside : (q : ℕ) → 1 ≤ times q (chain (size_of h) cs h.first) → q < length cs
  chain_inside q one = s.inside q (omega (arith, chain_used q))

  chunks_full : (q : ℕ) → 1 ≤ times q (chain (size_of h) cs h.first) → length (chunk_at cs q).bytes ≡ 16
  chunks_full q one = s.full q (chain_inside q one)

  pub room_whole : 16 * size_of h ≤ 512
  room_whole = omega (arith, head_is.key_most, head_is.text_most)

  pub entry_there : (d : Key × Rec) → get_or (entries_in cs heads) i d ≡ entry_in cs h
  entry_there d = get_or-map (entry_in cs) heads i h d within ∙ ap (entry_in cs) (sym is)

  -- where it has an entry its key has a byte
  pub key_there : HasEntry (entries_in cs heads) i → 1 ≤ h.key_len
  key_there has = omega (arith, has, ap (λ (e : Key × Rec). length e.0) (entry_there vacant), length-take h.key_len (string_in cs h))

  -- its chunks, read as whole ones
  pub read_whole : (lent : List Chunk) (many : ℕ) (none bytes : List ℕ) → lent ≡ cs → many ≡ size_of h → none ≡ [] → bytes ≡ none ++ text_of many lent h.first (16 * many) → IsRead cs h bytes
  read_whole lent many none bytes lent_is many_is none_is is =
      let whole : bytes ≡ text_of (size_of h) cs h.first (16 * size_of h) = rw (is, lent_is, many_is, none_is) refl in
      let string : take (len_of h) bytes ≡ string_in cs h = rw whole (text_taken (size_of h) cs h.first (len_of h) (16 * size_of h) (sixteen (len_of h)) (omega arith) chunks_full) in
      let taken : length (take (len_of h) bytes) ≡ len_of h = rw string (length-text (size_of h) cs h.first (len_of h) chunks_full (sixteen (len_of h))) in
      record { head = head_is; long = omega (arith, length-take (len_of h) bytes); string = string; taken = taken }

-- ---- weights

pub fourteen : (n : ℕ) → 14 * chunks_for n ≤ 13 + n
fourteen n = omega arith

pub weight_entry : (cs : List Chunk) (h : Head) → IsHead h → length (string_in cs h) ≡ len_of h → weight (entry_in cs h).0 (entry_in cs h).1 ≡ 13 + len_of h
weight_entry cs h h1 h2 = grind (arith, common_steps, nat_tests)

pub least_sum : (cs : List Chunk) (heads : List Head) → AllByRecursion IsHead heads → ((q : ℕ) → 1 ≤ in_use q cs heads → length (chunk_at cs q).bytes ≡ 16) → 14 * sum_by size_of heads ≤ entries_weight (entries_in cs heads)
least_sum cs [] all full = omega arith
least_sum cs (h ∷ heads) all full =
    let used = λ (q : ℕ). sum_by-cons (λ (x : Head). times q (chain (size_of x) cs x.first)) h heads in
    let len : length (string_in cs h) ≡ len_of h = length-text (size_of h) cs h.first (len_of h) (λ q one. full q (omega (arith, used q))) (sixteen (len_of h)) in
    let rest = least_sum cs heads all.1 (λ q one. full q (omega (arith, used q))) in
    omega (
      arith,
      rest,
      weight_entry cs h all.0 len,
      fourteen (len_of h),
      sum_by-cons size_of h heads,
      sum_by-cons (λ (e : Key × Rec). weight e.0 e.1) (entry_in cs h) (entries_in cs heads),
    )

-- ---- the same links, and the same chunks

pub in_use_keep : (q : ℕ) (old new : List Chunk) (heads : List Head) → ((p : ℕ) → 1 ≤ in_use p old heads → next_of new p ≡ next_of old p) → in_use q new heads ≡ in_use q old heads
in_use_keep q old new [] links = refl
in_use_keep q old new (h ∷ heads) links =
    let used = λ (p : ℕ). sum_by-cons (λ (x : Head). times p (chain (size_of x) old x.first)) h heads in
    omega (
      arith,
      sum_by-cons (λ (x : Head). times q (chain (size_of x) new x.first)) h heads,
      used q,
      in_use_keep q old new heads (λ p one. links p (omega (arith, used p))),
      ap (times q) (chain_stays (size_of h) old new h.first (λ p one. links p (omega (arith, used p)))),
    )

pub entries_stay : (old new : List Chunk) (heads : List Head) → ((q : ℕ) → 1 ≤ in_use q old heads → chunk_at new q ≡ chunk_at old q) → entries_in new heads ≡ entries_in old heads
entries_stay old new [] same = refl
entries_stay old new (h ∷ heads) same =
    let used = λ (q : ℕ). sum_by-cons (λ (x : Head). times q (chain (size_of x) old x.first)) h heads in
    ap (λ (s : List ℕ). (take h.key_len s, rec_with h.kind h.count (drop h.key_len s)) ∷ entries_in new heads)
    (text_stays (size_of h) old new h.first (len_of h) (λ q one. same q (omega (arith, used q))))
    ∙ ap (λ (l : Entries). entry_in old h ∷ l) (entries_stay old new heads (λ q one. same q (omega (arith, used q))))

-- ---- what filling chunks gives, in one record

pub record IsFilled (cs new : List Chunk) (at n : ℕ) (bytes : List ℕ) (result : ℕ) : Type 0 where
  pub links : (q : ℕ) → next_of new q ≡ next_of cs q
  pub others : (q : ℕ) → times q (chain (chunks_for n) cs at) ≡ 0 → chunk_at new q ≡ chunk_at cs q
  pub text : text_of (chunks_for n) new at n ≡ bytes
  pub next : result ≡ walk (chunks_for n) cs at
  pub full : (q : ℕ) → q < length cs → length (chunk_at new q).bytes ≡ 16
  pub len : length new ≡ length cs

pub packed_len : (h : Head) (key : Key) (rec : Rec) (first : ℕ) → IsHeadOf h key rec first → length (key ++ text_in rec) ≡ len_of h
packed_len h key rec first head = omega (arith, head.key_len_is, head.text_len_is, length-append key (text_in rec))

-- filled with a key and its record, where the chunks are lent
pub filled : (cs lent new : List Chunk) (h : Head) (key : Key) (rec : Rec) (first : ℕ) (bytes : List ℕ) (result : ℕ) → IsHeadOf h key rec first → IsFilled lent new first (length bytes) bytes result
    → lent ≡ cs → bytes ≡ key ++ text_in rec → IsFilled cs new first (len_of h) (key ++ text_in rec) result
filled cs lent new h key rec first bytes result head raw lent_is is = subst (λ n. IsFilled cs new first n (key ++ text_in rec) result) (packed_len h key rec first head) (rw (← lent_is, ← is) raw)

pub entry_filled : (cs new : List Chunk) (h : Head) (key : Key) (rec : Rec) (first result : ℕ) → IsHeadOf h key rec first → IsFilled cs new first (len_of h) (key ++ text_in rec) result → entry_in new h ≡ (key, rec)
entry_filled cs new h key rec first result head f = grind (arith, common_steps, nat_tests, take-append_seam, drop-append_seam)

-- ---- one entry more

module _ (cs : List Chunk) (heads : List Head) (free reserved head_places : ℕ) (s : IsStore cs heads free reserved head_places) (key : Key) (rec : Rec) (h : Head) (head : IsHeadOf h key rec free)
    (fits : entries_weight (entries_in cs heads ++ (key, rec) ∷ []) ≤ reserved) where
  pub enough : size_of h ≤ free_chunks cs heads
  enough = grind (arith, common_steps, nat_tests, least_sum, sum_by-append, sum_by-cons, fourteen)

  pub head_left : 14 * (length (entries_in cs heads) + 1) ≤ reserved → length heads < head_places
  head_left place = omega (arith, place, s.room_heads, length-map heads (entry_in cs))

  free_split : (q : ℕ) → is_free q cs heads free ≡ times q (chain (size_of h) cs free) + times q (chain (free_chunks cs heads - size_of h) cs (walk (size_of h) cs free))
  free_split q = times_parts q (free_chunks cs heads) (size_of h) cs free enough

  pub fill_inside : (q : ℕ) → 1 ≤ times q (chain (size_of h) cs free) → q < length cs
  fill_inside q one = s.inside q (omega (arith, free_split q))

  pub fill_apart : (q : ℕ) → times q (chain (size_of h) cs free) ≤ 1
  fill_apart q = omega (arith, free_split q, s.apart q)

  module _ (new : List Chunk) (next : ℕ) (f : IsFilled cs new free (len_of h) (key ++ text_in rec) next) where
    pub entries_pushed : entries_in new (heads ++ h ∷ []) ≡ entries_in cs heads ++ (key, rec) ∷ []
    entries_pushed = grind (arith, common_steps, nat_tests, take-append_seam, drop-append_seam, map-append, entries_stay, free_split)

    used_pushed : (q : ℕ) → in_use q new (heads ++ h ∷ []) + is_free q new (heads ++ h ∷ []) (walk (size_of h) cs free) ≡ in_use q cs heads + is_free q cs heads free
    used_pushed q = grind (arith, common_steps, nat_tests, sum_by-append, sum_by-cons, chain_stays, free_split, in_use_keep)

    pub store_pushed : (more : ℕ) → head_places ≤ more → IsStore new (heads ++ h ∷ []) (walk (size_of h) cs free) reserved more
    store_pushed more h1 = grind (arith, common_steps, nat_tests, sum_by-append, sum_by-cons, enough, used_pushed, entries_pushed)

-- ---- an empty store

-- linked up to this one
abbrev pub AreLinkedTo : ℕ → List Chunk → Type 0
AreLinkedTo n cs = (i : ℕ) → i < length cs → (i < n → next_of cs i ≡ i + 1) × (length (chunk_at cs i).bytes ≡ 16)

pub store_empty : (cs : List Chunk) (reserved head_places : ℕ) → AreLinked cs → reserved < 14 * (head_places + 1) → reserved < 14 * (length cs + 1) → length cs < 4294967296 → IsStore cs [] 0 reserved head_places
store_empty cs reserved head_places h1 h2 h3 h4 = grind (arith, common_steps, nat_tests, rising_chain)

-- a lent list that is put back whole
pub put_back : {A : Type 0} (n : ℕ) (xs lent ys : List A) → length xs ≡ length lent → lent ≡ ys → n ≡ length ys → take n (xs ++ drop (length xs) ys) ≡ xs
put_back n xs lent ys h1 h2 h3 = grind (arith, common_steps, nat_tests)
