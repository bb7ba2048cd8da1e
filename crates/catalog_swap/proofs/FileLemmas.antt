-- Files whose slots read the same.
use Rattle.std.proofs.lemmas.Bool.Decides.{nat_tests}
use Rattle.std.proofs.lemmas.Grind.{common_steps}
use Rattle.std.specs.Prelude.{◌≡◌, ℕ, ◌+◌, ◌≤◌, List, length, take, drop, refl, IsTrue}
use Rattle.std.proofs.Common.{sym, subst, ◌∙◌, ap, inl, inr, arith}
use Rattle.std.proofs.lemmas.List.{take-take}
use Rattle.disk_trait.specs.Disk.{DiskState, Only, part}
use Rattle.disk_trait.specs.Effects.{Affects}
use Rattle.disk_trait.specs.Moments.{IsTimed}
use Rattle.disk_trait.proofs.MomentLemmas.{leaves_only_now}
use Rattle.disk_trait.specs.Region.{Region, span, AreApart, IsSameOutside}
use Rattle.disk_trait.proofs.RegionLemmas.{part_apart}
use Rattle.gated_write.specs.Gated.{IsClosed}
use Rattle.blsm_model.specs.Sizes.{Sizes}
use Rattle.catalog_swap.specs.declared.catalog.Catalog.{Catalog}
use Rattle.catalog_swap.specs.Slots.{slot_length, slot_of, IsOpen, HasSlot, IsNewest, AreSameSlots}
use Rattle.catalog_swap.specs.Text.{IsCatalog, slot_text}
use Rattle.catalog_swap.specs.Swap.{IsSettled, IsPrepared, IsReady}
use Rattle.catalog_swap.proofs.TextLemmas.{body_short}

-- the front of a slot, and its gate, which is the first byte
pub front_of_slot : (at n : ℕ) (file : List ℕ) → n ≤ slot_length → part file at n ≡ take n (part file at slot_length)
front_of_slot at n file short = sym (take-take n slot_length (drop at file) short)

pub gate_of_slot : (at : ℕ) (file : List ℕ) → part file at 1 ≡ take 1 (part file at slot_length)
gate_of_slot at file = front_of_slot at 1 file (omega arith)

-- the text of a catalogue is no longer
pub text_short : {sizes : Sizes} {catalog : Catalog} → IsCatalog sizes catalog → length (slot_text catalog) ≤ slot_length
text_short {sizes} {catalog} is = omega (arith, body_short catalog is.fits)

-- so it stands where the slot reads the same
pub text_same : {sizes : Sizes} {catalog : Catalog} (at : ℕ) (old new : List ℕ) → IsCatalog sizes catalog → part new at slot_length ≡ part old at slot_length
    → part new at (length (slot_text catalog)) ≡ part old at (length (slot_text catalog))
text_same {sizes} {catalog} at old new is same =
    let n = length (slot_text catalog) in
    front_of_slot at n new (text_short is) ∙ ap (take n) same ∙ sym (front_of_slot at n old (text_short is))

pub gate_same : {old new : List ℕ} → AreSameSlots old new → (version : ℕ) → part new (slot_of version) 1 ≡ part old (slot_of version) 1
gate_same h1 version = grind (arith, common_steps, nat_tests)

-- a slot that has a catalogue is open
pub has_open : {sizes : Sizes} {at : ℕ} {catalog : Catalog} {file : List ℕ} → HasSlot sizes at catalog file → IsOpen at file
has_open {sizes} {at} {catalog} {file} has =
    sym (take-take 1 (length (slot_text catalog)) (drop at file) (omega arith)) ∙ ap (λ (l : List ℕ). take 1 l) has.text

pub closed_same : {old new : List ℕ} → AreSameSlots old new → (version : ℕ) → IsClosed (slot_of version) old → IsClosed (slot_of version) new
closed_same same version closed = λ opened. closed (sym (gate_same same version) ∙ opened)

pub has_same : {sizes : Sizes} {catalog : Catalog} {old new : List ℕ} → AreSameSlots old new → (version : ℕ) → HasSlot sizes (slot_of version) catalog old
    → HasSlot sizes (slot_of version) catalog new
has_same {sizes} {catalog} {old} {new} same version has = record {
  fits = has.fits;
  parity = has.parity;
  text = text_same (slot_of version) old new has.fits (same.slot version) ∙ has.text;
}

pub newest_same : {sizes : Sizes} {now : Catalog} {old new : List ℕ} → AreSameSlots old new → IsNewest sizes now old → IsNewest sizes now new
newest_same {sizes} {now} {old} {new} same newest = record {
  stands = has_same same now.version newest.stands;
  other =
      elim newest.other [
        | inl closed ↦ inl (closed_same same (now.version + 1) closed)
        | inr older ↦ inr (record { catalog = older.catalog; stands = has_same same (now.version + 1) older.stands; lower = older.lower })
      ];
}

-- what stands apart from the slots leaves them as they read
pub slots_apart : {region : Region} {old new : List ℕ} → ((version : ℕ) → AreApart region (span (slot_of version) slot_length)) → IsSameOutside region old new → AreSameSlots old new
slots_apart apart same = record { slot = λ version. part_apart (slot_of version) slot_length (apart version) same }

-- what lies behind the slots stands apart from them
pub behind_apart : (at n : ℕ) → 1211 ≤ at → (version : ℕ) → AreApart (span at n) (span (slot_of version) slot_length)
behind_apart at n behind version i one other = omega (arith, behind, one.0, other.1)

-- where a crash leaves what a read gives, a disk is settled at its newest catalogue
pub settled_only : {sizes : Sizes} {now : Catalog} (d : DiskState) → IsNewest sizes now d.bytes → Only d.bytes d.images → IsSettled sizes now d
settled_only d newest only = record { newest = newest; each = λ c left. subst (λ (l : List ℕ). AreSameSlots d.bytes l) (sym (only c left)) (record { slot = λ version. refl }) }

-- a disk that is prepared after its newest catalogue is ready for the next one
pub ready_prepared : {sizes : Sizes} {now : Catalog} (d : DiskState) → IsNewest sizes now d.bytes → IsPrepared sizes now d → IsReady sizes now d
ready_prepared d newest prepared = record { settled = settled_only d newest prepared.only; closed = prepared.older }

-- each image of a settled disk has its newest catalogue
pub settled_each : {sizes : Sizes} {now : Catalog} (d : DiskState) → IsSettled sizes now d → (c : List ℕ) → d.images c → IsNewest sizes now c
settled_each d settled c left = newest_same (settled.each c left) settled.newest

pub settled_apart : (region : Region) (end most : ℕ) (sizes : Sizes) (now : Catalog) (old new : DiskState) → Affects region end most old new
    → ((version : ℕ) → AreApart region (span (slot_of version) slot_length)) → IsTrue old.is_honest → IsTimed new → IsSettled sizes now old → IsSettled sizes now new
settled_apart region end most sizes now old new run apart honest timed settled = record {
  newest = newest_same (slots_apart apart (run.bytes honest)) settled.newest;
  each = λ c left.
      let was = leaves_only_now timed (run.images honest) c left in
      record {
        slot = λ version.
            (slots_apart apart was.2).slot version ∙ (settled.each was.0 was.1).slot version ∙ sym ((slots_apart apart (run.bytes honest)).slot version);
      };
}
