-- Lanes and their blocks in a file: the gate behind the entries, a byte of the file, where a region lies.
use Rattle.std.proofs.lemmas.Bool.Decides.{nat_tests}
use Rattle.std.proofs.Common.{◌≡◌, ℕ, ◌+◌, ◌*◌, ◌≤◌, ◌<◌, List, [], ◌∷◌, ◌++◌, length, take, drop, refl, ap, sym, ◌∙◌, arith, append_assoc, get_or}
use Rattle.std.proofs.lemmas.List.{take_at, drop_at, take-take, drop-take, drop-drop}
use Rattle.std.proofs.lemmas.Grind.{common_steps}
use Rattle.std.proofs.Math.Seq.{drop-cons}
use Rattle.disk_trait.specs.Disk.{part}
use Rattle.gated_write.specs.Gated.{open_byte, IsClosed}
use Rattle.blsm_model.specs.Sizes.{Sizes}
use Rattle.record_delta.specs.Entries.{Entries}
use Rattle.blsm_model.specs.Lanes.{region_start, region_length}
use Rattle.gated_log.specs.Records.{record_text}
use Rattle.gated_log.specs.Lane.{blocks, entries_in, HasRecords}

pub blocks-append : (es fs : List Entries) → blocks (es ++ fs) ≡ blocks es ++ blocks fs
blocks-append [] fs = refl
blocks-append (e ∷ es) fs =
    ap (λ (bs : List ℕ). open_byte ∷ (record_text e ++ bs)) (blocks-append es fs)
    ∙ ap (λ (bs : List ℕ). open_byte ∷ bs) (sym (append_assoc (record_text e) (blocks es) (blocks fs)))

pub entries_in-append : (es fs : List Entries) → entries_in (es ++ fs) ≡ entries_in es ++ entries_in fs
entries_in-append [] fs = refl
entries_in-append (e ∷ es) fs = ap (λ (l : Entries). e ++ l) (entries_in-append es fs) ∙ sym (append_assoc e (entries_in es) (entries_in fs))

-- the two parts of a front that is known
pub front_parts : (file : List ℕ) (at : ℕ) (front : List ℕ) (gate : ℕ) → part file at (length front + 1) ≡ front ++ gate ∷ [] → (part file at (length front) ≡ front) × (part file (at + length front) 1 ≡ gate ∷ [])
front_parts file at front gate begins =
    let n = length front in
    let own : List ℕ = drop at file in
    let short : n ≤ n + 1 = omega arith in (
      sym (take-take n (n + 1) own short) ∙ ap (λ (l : List ℕ). take n l) begins ∙ take_at front (gate ∷ []) n refl,
      ap (λ (l : List ℕ). take 1 l) (sym (drop-drop n at file)) ∙ sym (drop-take n 1 own) ∙ ap (λ (l : List ℕ). drop n l) begins ∙ drop_at front (gate ∷ []) n refl,
    )

-- the lane's gate is closed
pub gate_closed : (sizes : Sizes) (lane : ℕ) (records : List Entries) (file : List ℕ) → HasRecords sizes lane records file
    → IsClosed (region_start sizes lane + length (blocks records)) file
gate_closed sizes lane records file has opened =
    let parts = front_parts file (region_start sizes lane) (blocks records) has.gate has.begins in
    let same : has.gate ∷ [] ≡ open_byte ∷ [] = sym parts.1 ∙ opened in
    has.closed (cc (same))

pub one_byte : (file : List ℕ) (at : ℕ) → at < length file → (g : ℕ) × (part file at 1 ≡ g ∷ [])
one_byte file at below = (get_or file at 0, ap (λ (l : List ℕ). take 1 l) (drop-cons file at 0 below))

pub part_below : (file : List ℕ) (at : ℕ) (g : ℕ) → part file at 1 ≡ g ∷ [] → at < length file
part_below file at g h1 = grind (arith, common_steps, nat_tests)

-- A region lies inside the store's file.
pub region_inside : (sizes : Sizes) (lane : ℕ) → lane < 3 → region_start sizes lane + region_length sizes ≤ 4096 + 12 * sizes.half
region_inside sizes lane h1 = grind (arith, common_steps, nat_tests)
