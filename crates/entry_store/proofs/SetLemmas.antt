-- Another record at a place.
use Rattle.std.proofs.lemmas.Bool.Decides.{nat_tests}
use Rattle.std.proofs.lemmas.Grind.{common_steps}
use Rattle.std.proofs.Common.{◌≡◌, ◌≢◌, ℕ, zero, suc, ◌+◌, ◌-◌, ◌<◌, ◌≤◌, List, [], ◌∷◌, ◌++◌, length, get_or, set, take, drop, map, sum_by, refl, ap, ◌∙◌, arith}
use Rattle.std.specs.List.{AllByRecursion, remove}
use Rattle.std.proofs.lemmas.List.{length-map, length-set, get_or-set_other}
use Rattle.std.proofs.lemmas.List.Sums.{sum_by-set, sum_by-remove, sum_by-cons}
use Rattle.blsm_model.specs.declared.key.Key.{Key}
use Rattle.record_delta.specs.declared.record.Rec.{Rec}
use Rattle.record_delta.specs.Records.{text_of as text_in, weight}
use Rattle.record_delta.specs.Entries.{Entries, entries_weight}
use Rattle.entry_store.specs.declared.chunks.Chunk.{Chunk}
use Rattle.entry_store.specs.declared.store.Head.{Head}
use Rattle.entry_store.specs.Chains.{chunk_at, chain, walk, times, linked}
use Rattle.entry_store.specs.Stores.{rec_with, len_of, size_of, entry_in, entries_in, in_use, free_chunks, is_free, IsHead, IsStore, IsHeadOf, vacant}
use Rattle.entry_store.proofs.ChainLemmas.{chain_none, times_parts, chain_stays, text_stays, times-append, chain_linked, walk_in}
use Rattle.entry_store.proofs.StoreLemmas.{IsFilled, entry_filled, chain_inside, least_sum, fourteen, in_use_keep, entries_stay}

sum_set : {X : Type 0} (f : X → ℕ) (xs : List X) (i : ℕ) (y : X) → i < length xs → sum_by f (set xs i y) ≡ sum_by f (remove xs i) + f y
sum_set f xs i y within = omega (arith, sum_by-set f xs i y y within, sum_by-remove f xs i y within)

all_set : {X : Type 0} (P : X → Type 0) (xs : List X) (i : ℕ) (y : X) → P y → AllByRecursion P xs → AllByRecursion P (set xs i y)
all_set P [] i y here all = tt
all_set P (x ∷ xs) zero y here all = (here, all.1)
all_set P (x ∷ xs) (suc i) y here all = (all.0, all_set P xs i y here all.1)

all_remove : {X : Type 0} (P : X → Type 0) (xs : List X) (i : ℕ) → AllByRecursion P xs → AllByRecursion P (remove xs i)
all_remove P [] zero all = tt
all_remove P [] (suc i) all = tt
all_remove P (x ∷ xs) zero all = all.1
all_remove P (x ∷ xs) (suc i) all = (all.0, all_remove P xs i all.1)

map_remove : {X Y : Type 0} (f : X → Y) (xs : List X) (i : ℕ) → map f (remove xs i) ≡ remove (map f xs) i
map_remove f [] zero = refl
map_remove f [] (suc i) = refl
map_remove f (x ∷ xs) zero = refl
map_remove f (x ∷ xs) (suc i) = ap (λ (l : List _). f x ∷ l) (map_remove f xs i)

entries_set : (old new : List Chunk) (heads : List Head) (i : ℕ) (h : Head) → i < length heads → ((q : ℕ) → 1 ≤ in_use q old (remove heads i) → chunk_at new q ≡ chunk_at old q)
    → entries_in new (set heads i h) ≡ set (entries_in old heads) i (entry_in new h)
entries_set old new [] i h within same = absurd (omega arith)
entries_set old new (x ∷ heads) zero h within same = ap (λ (l : Entries). entry_in new h ∷ l) (entries_stay old new heads same)
entries_set old new (x ∷ heads) (suc i) h within same =
    let used = λ (q : ℕ). sum_by-cons (λ (y : Head). times q (chain (size_of y) old y.first)) x (remove heads i) in
    ap (λ (s : List ℕ). (take x.key_len s, rec_with x.kind x.count (drop x.key_len s)) ∷ entries_in new (set heads i h))
    (text_stays (size_of x) old new x.first (len_of x) (λ q one. same q (omega (arith, used q))))
    ∙ ap (λ (l : Entries). entry_in old x ∷ l) (entries_set old new heads i h (omega arith) (λ q one. same q (omega (arith, used q))))

-- ---- the store, the head at a place, and the chunks with its own in front of the free ones

module _ (cs : List Chunk) (heads : List Head) (free reserved head_places : ℕ) (s : IsStore cs heads free reserved head_places) (older : Head) (i n : ℕ) (within : i < length heads)
    (is : older ≡ get_or heads i older) (size_is : size_of older ≡ suc n) where
  abbrev last : ℕ
  last = walk n cs older.first

  abbrev given : List Chunk
  given = linked cs last free

  uses : (q : ℕ) → in_use q cs (remove heads i) + times q (chain (size_of older) cs older.first) ≡ in_use q cs heads
  uses q = grind (arith, common_steps, nat_tests)

  pub given_inside : (q : ℕ) → 1 ≤ times q (chain (size_of older) cs older.first) → q < length cs
  given_inside = chain_inside cs heads free reserved head_places s older i within is

  last_in : 1 ≤ times last (chain (size_of older) cs older.first)
  last_in = walk_in (size_of older) n cs older.first size_is

  given_chain : chain (size_of older + free_chunks cs heads) given older.first ≡ chain (size_of older) cs older.first ++ chain (free_chunks cs heads) cs free
  given_chain = grind (arith, common_steps, nat_tests, chain_linked, uses, given_inside)

  given_times : (q : ℕ) → times q (chain (size_of older + free_chunks cs heads) given older.first) ≡ times q (chain (size_of older) cs older.first) + is_free q cs heads free
  given_times q = ap (times q) given_chain ∙ times-append q (chain (size_of older) cs older.first) (chain (free_chunks cs heads) cs free)

  given_other : (q : ℕ) → q ≢ last → chunk_at given q ≡ chunk_at cs q
  given_other q differs = get_or-set_other cs last q _ _ differs

  given_rest : (q : ℕ) → 1 ≤ in_use q cs (remove heads i) → chunk_at given q ≡ chunk_at cs q
  given_rest q h1 = grind (arith, common_steps, nat_tests, given_other, uses, last_in)

  sizes : sum_by size_of (remove heads i) + size_of older ≡ sum_by size_of heads
  sizes = grind (arith, common_steps, nat_tests)

  pub set_full : (q : ℕ) → q < length given → length (chunk_at given q).bytes ≡ 16
  set_full q h1 = grind (arith, common_steps, nat_tests)

  module _ (key : Key) (rec : Rec) (h : Head) (head : IsHeadOf h key rec older.first) (fits : entries_weight (set (entries_in cs heads) i (key, rec)) ≤ reserved) where
    enough : size_of h ≤ size_of older + free_chunks cs heads
    enough =
        let least = least_sum cs (remove heads i) (all_remove IsHead heads i s.are_heads) (λ q one. s.full q (s.inside q (omega (arith, one, uses q)))) in
        let rest = ap entries_weight (map_remove (entry_in cs) heads i) in
        let all = sum_set (λ (e : Key × Rec). weight e.0 e.1) (entries_in cs heads) i (key, rec) (omega (arith, length-map heads (entry_in cs))) in
        omega (arith, least, rest, all, sizes, fourteen (len_of h), s.room_chunks, s.conserved, head.key_len_is, head.text_len_is)

    split : (q : ℕ) → times q (chain (size_of older + free_chunks cs heads) given older.first)
        ≡ times q (chain (size_of h) given older.first) + times q (chain (size_of older + free_chunks cs heads - size_of h) given (walk (size_of h) given older.first))
    split q = times_parts q (size_of older + free_chunks cs heads) (size_of h) given older.first enough

    pub set_inside : (q : ℕ) → 1 ≤ times q (chain (size_of h) given older.first) → q < length given
    set_inside q one = omega (arith, s.inside q (omega (arith, split q, given_times q, uses q)), length-set {A = Chunk})

    pub set_apart : (q : ℕ) → times q (chain (size_of h) given older.first) ≤ 1
    set_apart q = omega (arith, split q, given_times q, uses q, s.apart q)

    module _ (new : List Chunk) (next : ℕ) (f : IsFilled given new older.first (len_of h) (key ++ text_in rec) next) where
      pub entries_changed : entries_in new (set heads i h) ≡ set (entries_in cs heads) i (key, rec)
      entries_changed =
          entries_set cs new heads i h within (λ q one. f.others q (omega (arith, one, uses q, s.apart q, split q, given_times q)) ∙ given_rest q one)
          ∙ ap (λ (e : Key × Rec). set (entries_in cs heads) i e) (entry_filled given new h key rec older.first next head f)

      used_changed : (q : ℕ) → in_use q new (set heads i h) + is_free q new (set heads i h) (walk (size_of h) given older.first) ≡ in_use q cs heads + is_free q cs heads free
      used_changed q =
          let left : ℕ = size_of older + free_chunks cs heads - size_of h in
          let next_free : ℕ = walk (size_of h) given older.first in
          let sizes_now = sum_set size_of heads i h within in
          let count : free_chunks new (set heads i h) ≡ left = omega (arith, f.len, length-set {A = Chunk}, sizes, s.conserved) in
          let mine = ap (λ k. times q (chain (size_of h) new k)) head.first_is ∙ ap (times q) (chain_stays (size_of h) given new older.first (λ p one. f.links p)) in
          let rest = ap (λ k. times q (chain k new next_free)) count ∙ ap (times q) (chain_stays left given new next_free (λ p one. f.links p)) in
          let kept = in_use_keep q cs new (remove heads i) (λ p one. f.links p ∙ ap (λ (c : Chunk). c.next) (given_rest p one)) in
          omega (arith, sum_set (λ (x : Head). times q (chain (size_of x) new x.first)) heads i h within, mine, rest, split q, given_times q, uses q, kept)

      pub store_changed : IsStore new (set heads i h) (walk (size_of h) given older.first) reserved head_places
      store_changed = grind (arith, common_steps, nat_tests, length-set, all_set, sum_set, sizes, enough, used_changed, entries_changed)

  -- ---- the place without an entry

  module _ (h : Head) (head : IsHead h) (none : len_of h ≡ 0) (is_vacant : (cs : List Chunk) → entry_in cs h ≡ vacant) where
    no_size : size_of h ≡ 0
    no_size = omega arith

    pub entries_vacated : entries_in given (set heads i h) ≡ set (entries_in cs heads) i vacant
    entries_vacated = entries_set cs given heads i h within given_rest ∙ ap (λ (e : Key × Rec). set (entries_in cs heads) i e) (is_vacant given)

    used_vacated : (q : ℕ)
        → in_use q given (set heads i h) + is_free q given (set heads i h) older.first ≡ in_use q cs heads + is_free q cs heads free
    used_vacated q =
        let sizes_now = sum_set size_of heads i h within in
        let count : free_chunks given (set heads i h) ≡ size_of older + free_chunks cs heads =
        omega (arith, length-set {A = Chunk}, sizes, no_size, s.conserved) in
        let mine = ap (λ k. times q (chain k given h.first)) no_size ∙ ap (times q) (chain_none given h.first) in
        let rest = ap (λ k. times q (chain k given older.first)) count in
        let kept = in_use_keep q cs given (remove heads i) (λ p one. ap (λ (c : Chunk). c.next) (given_rest p one)) in
        omega (arith, sum_set (λ (x : Head). times q (chain (size_of x) given x.first)) heads i h within, mine, rest, given_times q, uses q, kept)

    lighter : entries_weight (set (entries_in cs heads) i vacant) ≤ entries_weight (entries_in cs heads)
    lighter =
        let in_range : i < length (entries_in cs heads) = omega (arith, length-map heads (entry_in cs)) in
        omega (arith, sum_by-set (λ (e : Key × Rec). weight e.0 e.1) (entries_in cs heads) i vacant vacant in_range)

    pub store_vacated : IsStore given (set heads i h) older.first reserved head_places
    store_vacated = record {
      are_heads = all_set IsHead heads i h head s.are_heads;
      conserved = omega (arith, length-set {A = Chunk}, sum_set size_of heads i h within, sizes, no_size, s.conserved);
      apart = λ q. omega (arith, used_vacated q, s.apart q);
      inside = λ q one. omega (arith, length-set {A = Chunk}, s.inside q (omega (arith, used_vacated q)));
      full = λ q lt. set_full q lt;
      fits = omega (arith, ap entries_weight entries_vacated, lighter, s.fits);
      room_heads = s.room_heads;
      room_chunks = omega (arith, length-set {A = Chunk}, s.room_chunks);
      numbered = omega (arith, length-set {A = Chunk}, s.numbered);
    }
