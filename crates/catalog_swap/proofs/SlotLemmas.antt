-- Which catalogue is the newest: one at most, and none where the slots are damaged.
use Rattle.std.proofs.lemmas.Bool.Decides.{nat_tests}
use Rattle.std.proofs.lemmas.Grind.{common_steps}
use Rattle.std.proofs.Common.{◌≡◌, ◌⊎◌, inl, inr, ⊎_elim, ℕ, ◌<◌, suc, List, [], ◌∷◌, length, take, drop, get_or, refl, ap, sym, subst, ◌∙◌, arith}
use Rattle.std.specs.Prelude.{replicate}
use Rattle.std.proofs.lemmas.List.{take-take, drop_more}
use Rattle.disk_trait.specs.Disk.{part}
use Rattle.gated_write.specs.Gated.{open_byte, IsClosed}
use Rattle.blsm_model.specs.Sizes.{Sizes}
use Rattle.catalog_swap.specs.declared.catalog.Catalog.{Catalog}
use Rattle.catalog_swap.specs.Slots.{slot_of, other_slot, odd_slot, even_slot, slot_length, plain_length, HasSlot, IsBroken, IsNewest, IsDamagedSlots, none_open, odd_broken, even_broken}
use Rattle.catalog_swap.specs.Text.{IsCatalog, BeginsWith, body_text, slot_text, first_catalog}
use Rattle.catalog_swap.proofs.FileLemmas.{front_of_slot, text_short, has_open}
use Rattle.catalog_swap.proofs.SaidLemmas.{front_same}
use Rattle.catalog_swap.proofs.TextLemmas.{length-plain}

begins_behind : (l : List ℕ) (x : ℕ) (text : List ℕ) → take (length (x ∷ text)) l ≡ x ∷ text → take (length text) (drop 1 l) ≡ text
begins_behind [] x text is = absurd (cc is)
begins_behind (y ∷ l) x text is = ap (drop 1) is

-- what is behind the gate of a slot begins with the body of its catalogue
pub slot_begins : {sizes : Sizes} {at : ℕ} {catalog : Catalog} {file : List ℕ} → HasSlot sizes at catalog file → BeginsWith (drop 1 (part file at slot_length)) catalog
slot_begins {sizes} {at} {catalog} {file} has =
    let front = front_of_slot at (length (slot_text catalog)) file (text_short has.fits) in
    begins_behind (part file at slot_length) open_byte (body_text catalog) (sym front ∙ has.text)

-- a slot has one catalogue at most
pub one_catalog : (sizes : Sizes) (at : ℕ) (a b : Catalog) (file : List ℕ) → HasSlot sizes at a file → HasSlot sizes at b file → a ≡ b
one_catalog sizes at a b file ha hb = front_same a b (drop 1 (part file at slot_length)) ha.fits.fits hb.fits.fits (slot_begins ha) (slot_begins hb)

pub slot_cases : (version : ℕ) → ((slot_of version ≡ odd_slot) × (other_slot version ≡ even_slot)) ⊎ ((slot_of version ≡ even_slot) × (other_slot version ≡ odd_slot))
slot_cases version = grind (arith, common_steps, nat_tests)

same_or_other : (u v : ℕ) → (slot_of u ≡ slot_of v) ⊎ ((slot_of u ≡ other_slot v) × (slot_of v ≡ other_slot u))
same_or_other u v = grind (arith, common_steps, nat_tests)

pub moved : (sizes : Sizes) (at at' : ℕ) (a : Catalog) (file : List ℕ) → at ≡ at' → HasSlot sizes at a file → HasSlot sizes at' a file
moved sizes at at' a file same has = subst (λ (k : ℕ). HasSlot sizes k a file) same has

-- what stands in the other slot is older
lower_than : (sizes : Sizes) (a b : Catalog) (file : List ℕ) → IsNewest sizes a file → HasSlot sizes (other_slot a.version) b file → b.version < a.version
lower_than sizes a b file h1 h2 = grind (arith, common_steps, nat_tests, has_open, one_catalog)

pub one_newest : (sizes : Sizes) (a b : Catalog) (file : List ℕ) → IsNewest sizes a file → IsNewest sizes b file → a ≡ b
one_newest sizes a b file na nb =
    elim (same_or_other b.version a.version) [
      | inl same ↦ one_catalog sizes (slot_of a.version) a b file na.stands (moved sizes (slot_of b.version) (slot_of a.version) b file same nb.stands)
      | inr crossed ↦
          let below = lower_than sizes a b file na (moved sizes (slot_of b.version) (other_slot a.version) b file crossed.0 nb.stands) in
          let above = lower_than sizes b a file nb (moved sizes (slot_of a.version) (other_slot b.version) a file crossed.1 na.stands) in
          absurd (omega (arith, below, above))
    ]

open_slot : (sizes : Sizes) (a : Catalog) (file : List ℕ) (at : ℕ) → slot_of a.version ≡ at → IsNewest sizes a file → IsClosed at file → ⊥
open_slot sizes a file at same newest closed = closed (has_open (moved sizes (slot_of a.version) at a file same newest.stands))

-- the newest catalogue's slot isn't broken, and neither is the other
unbroken : (sizes : Sizes) (a : Catalog) (file : List ℕ) (at : ℕ) → IsNewest sizes a file → (slot_of a.version ≡ at) ⊎ (other_slot a.version ≡ at)
    → IsClosed at file ⊎ ((b : Catalog) × HasSlot sizes at b file)
unbroken sizes a file at newest (inl same) = inr (a, moved sizes (slot_of a.version) at a file same newest.stands)
unbroken sizes a file at newest (inr same) =
    elim newest.other [
      | inl closed ↦ inl (subst (λ (k : ℕ). IsClosed k file) same closed)
      | inr older ↦ inr (older.catalog, moved sizes (other_slot a.version) at older.catalog file same older.stands)
    ]

pub not_damaged : (sizes : Sizes) (a : Catalog) (file : List ℕ) → IsNewest sizes a file → IsDamagedSlots sizes file → ⊥
not_damaged sizes a file newest (none_open odd even) =
    ⊎_elim (λ is. open_slot sizes a file odd_slot is.0 newest odd) (λ is. open_slot sizes a file even_slot is.0 newest even) (slot_cases a.version)
not_damaged sizes a file newest (odd_broken broken) =
    ⊎_elim (λ closed. closed broken.opened) (λ has. broken.no_body has.0 has.1)
    (unbroken sizes a file odd_slot newest (⊎_elim (λ is. inl is.0) (λ is. inr is.1) (slot_cases a.version)))
not_damaged sizes a file newest (even_broken broken) =
    ⊎_elim (λ closed. closed broken.opened) (λ has. broken.no_body has.0 has.1)
    (unbroken sizes a file even_slot newest (⊎_elim (λ is. inr is.1) (λ is. inl is.0) (slot_cases a.version)))

-- ---- the newest of what the slots have

pub newest_alone : (sizes : Sizes) (a : Catalog) (at at' : ℕ) (file : List ℕ) → HasSlot sizes at a file → other_slot a.version ≡ at' → IsClosed at' file → IsNewest sizes a file
newest_alone sizes a at at' file h1 h2 h3 = grind (arith, common_steps, nat_tests)

pub newest_above : (sizes : Sizes) (a b : Catalog) (at at' : ℕ) (file : List ℕ) → HasSlot sizes at a file → other_slot a.version ≡ at' → HasSlot sizes at' b file → b.version < a.version
    → IsNewest sizes a file
newest_above sizes a b at at' file has other has' lower = record {
  stands = moved sizes at (slot_of a.version) a file (sym has.parity) has;
  other = inr (record { catalog = b; stands = moved sizes at' (other_slot a.version) b file (sym other) has'; lower = lower });
}

-- ---- what is read of a slot

pub read_has : (sizes : Sizes) (at : ℕ) (found : Catalog) (file slot body : List ℕ) → slot ≡ part file at slot_length → length slot ≡ slot_length → get_or slot 0 0 ≡ open_byte → body ≡ drop 1 slot
    → IsCatalog sizes found → slot_of found.version ≡ at → BeginsWith body found → HasSlot sizes at found file
read_has sizes at found file slot body read long opened behind fits parity begins = record {
  fits = fits;
  parity = parity;
  text =
      let n = length (slot_text found) in
      front_of_slot at n file (text_short fits) ∙ ap (take n) (sym read ∙ whole)
      ∙ (λ i. opened i ∷ (ap (take (length (body_text found))) (sym behind) ∙ begins) i);
}
  where
    whole : slot ≡ get_or slot 0 0 ∷ drop 1 slot
    whole = drop_more slot 0 0 (omega (arith, long))

pub read_broken : (sizes : Sizes) (at : ℕ) (file slot body : List ℕ) → slot ≡ part file at slot_length → length slot ≡ slot_length → get_or slot 0 0 ≡ open_byte → body ≡ drop 1 slot
    → ((other : Catalog) → IsCatalog sizes other → slot_of other.version ≡ at → BeginsWith body other → ⊥) → IsBroken sizes at file
read_broken sizes at file slot body read long opened behind none = record {
  opened =
      front_of_slot at 1 file (omega arith) ∙ ap (take 1) (sym read ∙ drop_more slot 0 0 (omega (arith, long))) ∙ (λ i. opened i ∷ []);
  no_body = λ other has.
      none other has.fits has.parity (subst (λ (l : List ℕ). BeginsWith l other) (ap (drop 1) (sym read) ∙ sym behind) (slot_begins has));
}

-- ---- a store that was just made

first_is : (sizes : Sizes) → IsCatalog sizes first_catalog
first_is sizes = grind (arith, common_steps, nat_tests)

zero_is_open : ◌≡◌ {A = List ℕ} (0 ∷ []) (open_byte ∷ []) → ⊥
zero_is_open same = cc

pub first_newest : (sizes : Sizes) (file : List ℕ) → part file odd_slot plain_length ≡ slot_text first_catalog → part file even_slot plain_length ≡ replicate plain_length 0
    → IsNewest sizes first_catalog file
first_newest sizes file odd even =
    let long : length (slot_text first_catalog) ≡ plain_length = ap suc (length-plain first_catalog (first_is sizes).fits refl) in
    newest_alone sizes first_catalog odd_slot even_slot file
    (record { fits = first_is sizes; parity = refl; text = ap (λ (n : ℕ). part file odd_slot n) long ∙ odd }) refl
    (λ opened. zero_is_open (sym (sym (take-take 1 plain_length (drop even_slot file) (omega arith)) ∙ ap (λ (l : List ℕ). take 1 l) even) ∙ opened))
