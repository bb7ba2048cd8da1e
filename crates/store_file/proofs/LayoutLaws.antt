-- What holds of each store's file, and what keeps it one.
use Rattle.std.specs.Prelude.{◌≡◌, ◌≤◌, ℕ, ◌<◌, ◌^◌, List, length, take, drop}
use Rattle.std.specs.Int.{w32, to_be_bytes, from_be_bytes}
use Rattle.std.proofs.Common.{sym, ◌∙◌, ap, arith}
use Rattle.std.proofs.lemmas.Nat.{from_be_bytes-to_be_bytes_4}
use Rattle.disk_trait.specs.Disk.{part}
use Rattle.disk_trait.specs.Region.{Region, span, AreApart, IsSameOutside}
use Rattle.disk_trait.proofs.RegionLemmas.{part_apart, same_no_longer}
use Rattle.gated_write.specs.Gated.{open_byte}
use Rattle.blsm_model.specs.Sizes.{Sizes, IsGeometry}
use Rattle.blsm_model.specs.Geometry.{file_length}
use Rattle.catalog_swap.specs.Slots.{odd_slot, even_slot, plain_length}
use Rattle.store_file.specs.Layout.{superblock_text, superblock, superblock_length, IsStoreOf, HasFirstSlots}

same32 : (n m : ℕ) → n < 2 ^ 32 → m < 2 ^ 32 → to_be_bytes w32 n ≡ to_be_bytes w32 m → n ≡ m
same32 n m ln lm e = sym (from_be_bytes-to_be_bytes_4 n ln) ∙ ap (from_be_bytes w32) e ∙ from_be_bytes-to_be_bytes_4 m lm

pub sizes_same : (a b : Sizes) → a.half ≡ b.half → a.ratio ≡ b.ratio → a.low ≡ b.low → a.quantum ≡ b.quantum → a ≡ b
sizes_same a b half ratio low quantum = λ i. record { half = half i; ratio = ratio i; low = low i; quantum = quantum i }

-- one superblock is that of one geometry
text_same : (a b : Sizes) → IsGeometry a → IsGeometry b → superblock_text a ≡ superblock_text b → a ≡ b
unfolding superblock_text
text_same a b ga gb same =
    let ha = ga.half.1 in
    let hb = gb.half.1 in
    let ra = ga.ratio.1 in
    let rb = gb.ratio.1 in
    let la = ga.low in
    let lb = gb.low in
    let qa = ga.quantum.1 in
    let qb = gb.quantum.1 in
    sizes_same a b
    (same32 a.half b.half (omega arith) (omega arith) (ap (λ (l : List ℕ). take 4 (drop 10 l)) same))
    (same32 a.ratio b.ratio (omega arith) (omega arith) (ap (λ (l : List ℕ). take 4 (drop 14 l)) same))
    (same32 a.low b.low (omega arith) (omega arith) (ap (λ (l : List ℕ). take 4 (drop 18 l)) same))
    (same32 a.quantum b.quantum (omega arith) (omega arith) (ap (λ (l : List ℕ). take 4 (drop 22 l)) same))

pub superblock_same : (a b : Sizes) → IsGeometry a → IsGeometry b → superblock open_byte a ≡ superblock open_byte b → a ≡ b
superblock_same a b ga gb same = text_same a b ga gb (ap (drop 1) same)

-- a store is one of one geometry
pub only_sizes : (a b : Sizes) (file : List ℕ) → IsStoreOf a file → IsStoreOf b file → a ≡ b
only_sizes a b file sa sb = superblock_same a b sa.geometry sb.geometry (sym sa.begins ∙ sb.begins)

-- after a change outside the superblock that keeps the length
pub store_same : (sizes : Sizes) (old new : List ℕ) → part new 0 superblock_length ≡ part old 0 superblock_length → length new ≡ length old → IsStoreOf sizes old → IsStoreOf sizes new
store_same sizes old new same long store = record { geometry = store.geometry; long = long ∙ store.long; begins = same ∙ store.begins }

-- A change between the superblock and the store's end keeps it.
pub store_apart : {region : Region} {old new : List ℕ} (sizes : Sizes) → ((i : ℕ) → region i → (superblock_length ≤ i) × (i < file_length sizes)) → IsSameOutside region old new → IsStoreOf sizes old → IsStoreOf sizes new
store_apart {region} {old} {new} sizes inside same store =
    store_same sizes old new (part_apart 0 superblock_length (λ i here front. omega (arith, (inside i here).0, front.1)) same)
    (omega (arith, same.no_shorter, same_no_longer (file_length sizes) (λ i here. (inside i here).1) same, store.long)) store

-- where both slots say the same
pub slots_same : (old new : List ℕ) → part new odd_slot plain_length ≡ part old odd_slot plain_length → part new even_slot plain_length ≡ part old even_slot plain_length → HasFirstSlots old → HasFirstSlots new
slots_same old new odd even slots = record { odd = odd ∙ slots.odd; even = even ∙ slots.even }

-- so after a change apart from both
pub slots_apart : {region : Region} {old new : List ℕ} → AreApart region (span odd_slot plain_length) → AreApart region (span even_slot plain_length) → IsSameOutside region old new → HasFirstSlots old → HasFirstSlots new
slots_apart {region} {old} {new} odd even same slots = slots_same old new (part_apart odd_slot plain_length odd same) (part_apart even_slot plain_length even same) slots
