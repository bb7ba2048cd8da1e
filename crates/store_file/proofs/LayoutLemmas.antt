-- What stands where in the file that making writes, and which files are no store.
use Rattle.std.proofs.lemmas.Bool.Decides.{nat_tests}
use Rattle.std.proofs.lemmas.Grind.{common_steps}
use Rattle.std.proofs.Common.{◌≡◌, ◌⊎◌, inl, inr, ⊎_elim, ℕ, zero, suc, ◌+◌, ◌-◌, ◌*◌, ◌<◌, ◌≤◌, List, [], ◌∷◌, ◌++◌, length, take, drop, refl, sym, ◌∙◌, ap, subst, arith, append_assoc, length-append}
use Rattle.std.specs.Int.{w32, from_be_bytes}
use Rattle.std.proofs.lemmas.List.{append-nil, drop_at, drop-drop, take-take, length-replicate, take-replicate, drop-replicate, replicate-append-replicate}
use Rattle.std.proofs.lemmas.Nat.{from_be_bytes-to_be_bytes_4}
use Rattle.disk_trait.specs.Disk.{part, overwritten}
use Rattle.disk_trait.specs.Region.{span, IsSameOutside}
use Rattle.disk_trait.proofs.RegionLemmas.{same_no_longer, same_bytes}
use Rattle.gated_write.specs.Gated.{open_byte, IsClosed}
use Rattle.blsm_model.specs.Lanes.{region_start}
use Rattle.gated_log.specs.Lane.{no_lane, HasEntries}
use Rattle.blsm_model.specs.Format.{head_length}
use Rattle.blsm_model.specs.Sizes.{Sizes, IsGeometry}
use Rattle.blsm_model.specs.Geometry.{file_length, IsFirstFault}
use Rattle.blsm_model.specs.declared.geometry.GeometryFault.{GeometryFault}
use Rattle.catalog_swap.specs.Text.{slot_text, first_catalog, body_text, numbers_text, component_text}
use Rattle.store_file.specs.Layout.{superblock_text, superblock, IsStore, zeros, IsMade, first_file}
use Rattle.store_file.proofs.LayoutLaws.{sizes_same}
use Rattle.store_file.specs.declared.layout.TheConstants.{FIRST_CATALOGUE}
use Rattle.store_file.specs.Making.{IsHalfMade}

-- ---- sizes and superblocks

pub length-superblock_text : (sizes : Sizes) → length (superblock_text sizes) ≡ 26
unfolding superblock_text
length-superblock_text sizes = refl

-- as the code has it
pub first_catalogue_is : FIRST_CATALOGUE ≡ slot_text first_catalog
unfolding body_text numbers_text component_text
first_catalogue_is = refl

pub length-first_catalogue : length (slot_text first_catalog) ≡ 85
unfolding body_text numbers_text component_text
length-first_catalogue = refl

-- ---- files that are no store

-- a file that has no more than what stands before the lanes, so it is no store
pub record IsShort (file : List ℕ) : Type 0 where
  pub no_longer : length file ≤ head_length

-- a file whose superblock's gate is closed, and that isn't longer than this
pub record IsShut (end : ℕ) (file : List ℕ) : Type 0 where
  pub closed : IsClosed 0 file
  pub no_longer : length file ≤ end

-- a file has room for its first block
pub head_inside : (sizes : Sizes) → head_length ≤ file_length sizes
head_inside sizes = omega arith

-- a store is longer than its first block
pub store_length : (sizes : Sizes) → IsGeometry sizes → head_length + 12 * 17408 ≤ file_length sizes
store_length sizes h1 = grind (arith, common_steps, nat_tests)

pub shut_no_store : (end : ℕ) (file : List ℕ) → IsShut end file → IsStore file → ⊥
shut_no_store end file shut store = shut.closed (sym (take-take 1 27 file (omega arith)) ∙ ap (take 1) store.1.begins)

zero_is_open : ◌≡◌ {A = List ℕ} (0 ∷ []) (open_byte ∷ []) → ⊥
zero_is_open same = cc

-- the first block, of zeros
pub block_shut : (end : ℕ) (file : List ℕ) → head_length ≤ end → file ≡ zeros head_length → IsShut end file
block_shut end file h1 h2 = grind (arith, common_steps, nat_tests)

pub short_half : (sizes : Sizes) (file : List ℕ) → IsShort file → IsHalfMade sizes file
short_half sizes file h1 = grind (arith, common_steps, nat_tests)

pub shut_half : (sizes : Sizes) (file : List ℕ) → IsShut (file_length sizes) file → IsHalfMade sizes file
shut_half sizes file shut = record { store = inl (shut_no_store (file_length sizes) file shut); no_longer = shut.no_longer }

-- ---- the file that making writes

front : ℕ → Sizes → List ℕ
front gate sizes = superblock gate sizes ++ zeros 485 ++ slot_text first_catalog

length-front : (gate : ℕ) (sizes : Sizes) → length (front gate sizes) ≡ 597
unfolding front superblock_text body_text numbers_text component_text
length-front gate sizes = refl

as_front : (gate : ℕ) (sizes : Sizes) → first_file gate sizes ≡ front gate sizes ++ zeros (file_length sizes - 597)
unfolding front first_file
as_front gate sizes = refl

pub length-first_file : (gate : ℕ) (sizes : Sizes) → 597 ≤ file_length sizes → length (first_file gate sizes) ≡ file_length sizes
length-first_file gate sizes le =
    ap (length {A = ℕ}) (as_front gate sizes)
    ∙ omega (arith, length-append (front gate sizes) (zeros (file_length sizes - 597)), length-front gate sizes, length-replicate {A = ℕ} (file_length sizes - 597) 0)

begins : (gate : ℕ) (sizes : Sizes) → part (first_file gate sizes) 0 27 ≡ superblock gate sizes
unfolding first_file superblock_text
begins gate sizes = refl

odd : (gate : ℕ) (sizes : Sizes) → part (first_file gate sizes) 512 85 ≡ slot_text first_catalog
unfolding first_file superblock_text body_text numbers_text component_text
odd gate sizes = refl

-- zeros behind the catalogue
behind : (gate : ℕ) (sizes : Sizes) (at n : ℕ) → 597 ≤ at → at + n ≤ file_length sizes → part (first_file gate sizes) at n ≡ zeros n
behind gate sizes at n le fits =
    let place : at ≡ 597 + (at - 597) = omega arith in
    ap (λ (l : List ℕ). part l at n) (as_front gate sizes)
    ∙ ap (λ (k : ℕ). part (front gate sizes ++ zeros (file_length sizes - 597)) k n) place
    ∙ ap (take n) (sym (drop-drop (at - 597) 597 (front gate sizes ++ zeros (file_length sizes - 597)))
    ∙ ap (drop (at - 597)) (drop_at (front gate sizes) (zeros (file_length sizes - 597)) 597 (length-front gate sizes))
    ∙ drop-replicate (at - 597) (file_length sizes - 597) 0)
    ∙ take-replicate n (file_length sizes - 597 - (at - 597)) 0 (omega arith)

zero_is_closed : ◌≡◌ {A = ℕ} 0 open_byte → ⊥
zero_is_closed same = omega arith

no_entries : (gate : ℕ) (sizes : Sizes) → IsGeometry sizes → (lane : ℕ) → lane < 3 → HasEntries sizes lane no_lane (first_file gate sizes)
no_entries gate sizes geometry lane below =
    let half = geometry.half.0 in
    let offset : 4 * sizes.half * lane ≤ 4 * sizes.half * 2 = grind arith in
    record {
      records = [];
      has = record {
        each = λ k d below. absurd (omega (arith, below));
        gate = 0;
        closed = zero_is_closed;
        inside = omega (arith, half);
        begins = behind gate sizes (region_start sizes lane) 1 (omega arith) (omega (arith, half, offset));
      };
      entries_are = refl;
      end_is = refl;
    }

pub first_file_made : (sizes : Sizes) → IsGeometry sizes → IsMade sizes (first_file open_byte sizes)
first_file_made sizes geometry =
    let least = store_length sizes geometry in
    record {
      store = record { geometry = geometry; long = length-first_file open_byte sizes (omega (arith, least)); begins = begins open_byte sizes };
      slots = record { odd = odd open_byte sizes; even = behind open_byte sizes 1024 85 (omega arith) (omega (arith, least)) };
      lanes = no_entries open_byte sizes geometry;
    }

-- ---- how it is written

-- over an empty file
pub overwritten_empty : (file bytes : List ℕ) → length file ≡ 0 → overwritten file 0 bytes ≡ bytes
overwritten_empty file bytes h1 = grind (arith, common_steps, nat_tests)

-- zeros behind zeros
pub zeros_more : (at n : ℕ) → overwritten (zeros at) at (zeros n) ≡ zeros (at + n)
zeros_more at n = grind (arith, common_steps, nat_tests, length-replicate, take-replicate, drop-replicate, replicate-append-replicate, append-nil)

over_front : (text catalogue tail : List ℕ) → length text ≡ 26
    → take 1 (zeros 512 ++ catalogue ++ tail) ++ text ++ drop (1 + length text) (zeros 512 ++ catalogue ++ tail) ≡ (0 ∷ text) ++ zeros 485 ++ catalogue ++ tail
over_front text catalogue tail long =
    ap (λ (n : ℕ). take 1 (zeros 512 ++ catalogue ++ tail) ++ text ++ drop (1 + n) (zeros 512 ++ catalogue ++ tail)) long
    ∙ sym (append_assoc (0 ∷ text) (zeros 485 ++ catalogue) tail)
    ∙ ap (λ (l : List ℕ). l ++ tail) (sym (append_assoc (0 ∷ text) (zeros 485) catalogue))

pub parts_written : (sizes : Sizes) (file : List ℕ) → 597 ≤ file_length sizes → file ≡ zeros (file_length sizes)
    → overwritten (overwritten file 512 (slot_text first_catalog)) 1 (superblock_text sizes) ≡ first_file 0 sizes
unfolding first_file
parts_written sizes file le blank =
    ap (λ (l : List ℕ). overwritten (overwritten l 512 (slot_text first_catalog)) 1 (superblock_text sizes)) blank
    ∙ ap (λ (l : List ℕ). overwritten l 1 (superblock_text sizes)) placed
    ∙ over_front (superblock_text sizes) (slot_text first_catalog) (zeros (file_length sizes - 597)) (length-superblock_text sizes)
  where
    placed : overwritten (zeros (file_length sizes)) 512 (slot_text first_catalog) ≡ zeros 512 ++ slot_text first_catalog ++ zeros (file_length sizes - 597)
    placed =
        ap (λ (l : List ℕ). l ++ slot_text first_catalog ++ drop (512 + length (slot_text first_catalog)) (zeros (file_length sizes))) (take-replicate 512 (file_length sizes) 0 (omega arith))
        ∙ ap (λ (l : List ℕ). zeros 512 ++ slot_text first_catalog ++ l)
        (ap (λ (n : ℕ). drop (512 + n) (zeros (file_length sizes))) length-first_catalogue ∙ drop-replicate 597 (file_length sizes) 0)

pub gate_opened : (sizes : Sizes) → overwritten (first_file 0 sizes) 0 (open_byte ∷ []) ≡ first_file open_byte sizes
unfolding first_file
gate_opened sizes = refl

-- the gate is open, or it isn't
gate_cases : (file : List ℕ) → (part file 0 1 ≡ open_byte ∷ []) ⊎ IsClosed 0 file
gate_cases file = grind (arith, common_steps, nat_tests)

behind_gate : (sizes : Sizes) (i : ℕ) → part (first_file 0 sizes) (suc i) 1 ≡ part (first_file open_byte sizes) (suc i) 1
unfolding first_file
behind_gate sizes i = refl

at_gate : (sizes : Sizes) → part (first_file open_byte sizes) 0 1 ≡ open_byte ∷ []
unfolding first_file
at_gate sizes = refl

-- with a torn gate the file is no store, or the one that was to be made
pub gate_torn : (sizes : Sizes) → IsGeometry sizes → (file : List ℕ) → IsSameOutside (span 0 1) (first_file 0 sizes) file → IsHalfMade sizes file
gate_torn sizes geometry file same =
    let least = store_length sizes geometry in
    let long = length-first_file 0 sizes (omega (arith, least)) in
    let fits : length file ≤ file_length sizes = omega (arith, same_no_longer 1 (λ i inside. inside.1) same, long, least) in
    ⊎_elim
    (λ (opened : part file 0 1 ≡ open_byte ∷ []).
    let made : IsHalfMade sizes file = record { store = inr (subst (IsMade sizes) (sym (same_bytes (first_file open_byte sizes) file (as_made opened))) (first_file_made sizes geometry)); no_longer = fits } in
    made)
    (λ (shut : IsClosed 0 file). shut_half sizes file (record { closed = shut; no_longer = fits }))
    (gate_cases file)
  where
    as_made : part file 0 1 ≡ open_byte ∷ [] → (i : ℕ) → part file i 1 ≡ part (first_file open_byte sizes) i 1
    as_made opened zero = opened ∙ sym (at_gate sizes)
    as_made opened (suc i) = same.bytes (suc i) (λ inside. omega (arith, inside.1)) ∙ behind_gate sizes i

-- ---- how it is read

-- the numbers that a superblock says
abbrev pub sizes_in : List ℕ → Sizes
sizes_in block = record {
  half = from_be_bytes w32 (part block 11 4);
  ratio = from_be_bytes w32 (part block 15 4);
  low = from_be_bytes w32 (part block 19 4);
  quantum = from_be_bytes w32 (part block 23 4);
}

pub sizes_read : (block : List ℕ) (sizes : Sizes) → IsGeometry sizes → block ≡ superblock open_byte sizes → sizes_in block ≡ sizes
unfolding superblock_text
sizes_read block sizes geometry same =
    let half = geometry.half.1 in
    let ratio = geometry.ratio.1 in
    let low = geometry.low in
    let quantum = geometry.quantum.1 in
    ap sizes_in same
    ∙ sizes_same (sizes_in (superblock open_byte sizes)) sizes
    (from_be_bytes-to_be_bytes_4 sizes.half (omega arith))
    (from_be_bytes-to_be_bytes_4 sizes.ratio (omega arith))
    (from_be_bytes-to_be_bytes_4 sizes.low (omega arith))
    (from_be_bytes-to_be_bytes_4 sizes.quantum (omega arith))

-- numbers in range have no fault
pub no_fault : (sizes : Sizes) (fault : GeometryFault) → IsGeometry sizes → IsFirstFault sizes fault → ⊥
no_fault sizes fault h1 h2 = grind (arith, common_steps, nat_tests)
