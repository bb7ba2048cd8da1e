-- What each image has while one catalogue follows another.
use Rattle.std.proofs.lemmas.Bool.Decides.{nat_tests}
use Rattle.std.proofs.lemmas.Grind.{common_steps}
use Rattle.std.proofs.Common.{◌≡◌, ◌⊎◌, inl, inr, ⊎_elim, ℕ, ◌+◌, ◌*◌, ◌≤◌, IsTrue, List, [], ◌∷◌, ◌++◌, length, refl, ap, sym, subst, ◌∙◌, arith}
use Rattle.std.specs.Prelude.{Result, OnOk}
use Rattle.disk_trait.specs.Disk.{DiskState, Only, part, overwritten}
use Rattle.disk_trait.specs.Effects.{Affects}
use Rattle.disk_trait.proofs.EffectLemmas.{affects_wider, affects_run}
use Rattle.disk_trait.specs.Moments.{IsTimed, LeavesOnly}
use Rattle.disk_trait.proofs.MomentLemmas.{leaves_only_run, leaves_only_weaken, leaves_only_now}
use Rattle.disk_trait.proofs.PartLemmas.{part-overwritten, part-split}
use Rattle.disk_trait.specs.Region.{span, IsWithin, AreApart, IsSameOutside}
use Rattle.disk_trait.proofs.RegionLemmas.{part_apart}
use Rattle.gated_write.specs.Gated.{open_byte, IsClosed, IsGated}
use Rattle.blsm_model.specs.Sizes.{Sizes}
use Rattle.blsm_model.specs.Geometry.{file_length, page_count}
use Rattle.catalog_swap.specs.declared.catalog.Catalog.{Catalog}
use Rattle.catalog_swap.specs.Text.{body_text}
use Rattle.catalog_swap.specs.Slots.{slot_length, slot_of, other_slot, IsOpen, HasSlot, IsNewest, AreSameSlots}
use Rattle.catalog_swap.specs.Swap.{spare_start, prepared, IsSettled, IsReady, IsNext, IsEither}
use Rattle.catalog_swap.proofs.FileLemmas.{gate_same, closed_same, newest_same, slots_apart, behind_apart, settled_only, settled_each, text_same}
use Rattle.catalog_swap.proofs.TextLemmas.{body_short}

-- a gate is open, or it isn't
gate_cases : (at : ℕ) (file : List ℕ) → IsOpen at file ⊎ IsClosed at file
gate_cases at file = grind (arith, common_steps, nat_tests)

-- the slots stand before the log
past_head : (lanes pages : ℕ) → 4096 ≤ 4096 + lanes + pages
past_head lanes pages = omega arith

pub slots_inside : (sizes : Sizes) → 4096 ≤ file_length sizes
slots_inside sizes = past_head (12 * sizes.half) (4096 * page_count sizes)

-- the two slots are apart
others_apart : (version n : ℕ) → n ≤ slot_length → AreApart (span (other_slot version) n) (span (slot_of version) slot_length)
others_apart version n small i one other = omega (arith, small, one.0, one.1, other.0, other.1)

newest_kept : (sizes : Sizes) (now : Catalog) (n : ℕ) (old new : List ℕ) → n ≤ slot_length → IsSameOutside (span (other_slot now.version) n) old new
    → HasSlot sizes (slot_of now.version) now old → HasSlot sizes (slot_of now.version) now new
newest_kept sizes now n old new small same has = record {
  fits = has.fits;
  parity = has.parity;
  text = text_same (slot_of now.version) old new has.fits (part_apart (slot_of now.version) slot_length (others_apart now.version n small) same) ∙ has.text;
}

-- ---- preparing: the older slot's gate

-- A write over the open gate of the older slot leaves it open or closes it.
gate_torn : (sizes : Sizes) (now : Catalog) (old new : List ℕ) → IsNewest sizes now old → IsOpen (other_slot now.version) old → IsSameOutside (span (other_slot now.version) 1) old new
    → IsNewest sizes now new
gate_torn sizes now old new newest was_open same = record {
  stands = newest_kept sizes now 1 old new (omega arith) same newest.stands;
  other =
      elim (gate_cases (other_slot now.version) new) [
        | inr closed ↦ inl closed
        | inl opened ↦
            elim newest.other [
              | inl closed ↦ absurd (closed was_open)
              | inr older ↦ inr (record { catalog = older.catalog; stands = record { fits = older.stands.fits; parity = older.stands.parity; text = text_same at old new older.stands.fits (stays opened) ∙ older.stands.text }; lower = older.lower })
            ]
      ];
}
  where
    at : ℕ
    at = other_slot now.version

    body_apart : AreApart (span at 1) (span (at + 1) 186)
    body_apart i gate body = omega (arith, gate.1, body.0)

    stays : IsOpen at new → part new at slot_length ≡ part old at slot_length
    stays opened =
        part-split new at 1 186
        ∙ (λ i. (opened ∙ sym was_open) i ++ part_apart (at + 1) 186 body_apart same i)
        ∙ sym (part-split old at 1 186)

-- The older slot's gate is closed from start to mid, or was closed.
module _ (sizes : Sizes) (now : Catalog) (start mid : DiskState) (honest : IsTrue start.is_honest) (place : ℕ) (placed : place ≡ other_slot now.version)
    (kept : IsClosed place start.bytes → mid.bytes ≡ start.bytes) (each_kept : IsClosed place start.bytes → LeavesOnly start mid start.images)
    (first : Affects (span place 1) (place + 1) 2 start mid) where
  open_here : (file : List ℕ) → IsOpen place file → IsOpen (other_slot now.version) file
  open_here file = subst (λ (k : ℕ). IsOpen k file) placed

  same_here : (old new : List ℕ) → IsSameOutside (span place 1) old new → IsSameOutside (span (other_slot now.version) 1) old new
  same_here old new = subst (λ (k : ℕ). IsSameOutside (span k 1) old new) placed

  pub reads_gate : IsNewest sizes now start.bytes → IsNewest sizes now mid.bytes
  reads_gate newest =
      ⊎_elim
      (λ (opened : IsOpen place start.bytes). gate_torn sizes now start.bytes mid.bytes newest (open_here start.bytes opened) (same_here start.bytes mid.bytes (first.bytes honest)))
      (λ (closed : IsClosed place start.bytes). subst (IsNewest sizes now) (sym (kept closed)) newest)
      (gate_cases place start.bytes)

  pub each_gate : IsSettled sizes now start → LeavesOnly start mid (IsNewest sizes now)
  each_gate settled =
      ⊎_elim
      (λ (opened : IsOpen place start.bytes).
      leaves_only_weaken
      (λ c was.
      gate_torn sizes now was.0 c (settled_each start settled was.0 was.1) (gate_same (settled.each was.0 was.1) (now.version + 1) ∙ open_here start.bytes opened) (same_here was.0 c was.2))
      (first.images honest))
      (λ (closed : IsClosed place start.bytes). leaves_only_weaken (settled_each start settled) (each_kept closed))
      (gate_cases place start.bytes)

  -- and the spare lane's first gate from mid to new
  module _ (new : DiskState) (timed : IsTimed mid) (spot : ℕ) (behind : 4096 ≤ spot) (second : Affects (span spot 1) (spot + 1) 2 mid new) where
    still : IsTrue mid.is_honest
    still = subst IsTrue (sym first.goes_on.is_honest) honest

    spare_same : (old file : List ℕ) → IsSameOutside (span spot 1) old file → AreSameSlots old file
    spare_same old file same = slots_apart (behind_apart spot 1 (omega (arith, behind))) same

    pub reads_spare : IsNewest sizes now start.bytes → IsNewest sizes now new.bytes
    reads_spare newest = newest_same (spare_same mid.bytes new.bytes (second.bytes still)) (reads_gate newest)

    pub each_spare : IsSettled sizes now start → LeavesOnly start new (IsNewest sizes now)
    each_spare settled =
        leaves_only_run (each_gate settled)
        (leaves_only_weaken (λ c was. newest_same (spare_same was.0 c was.2) (leaves_only_now timed (each_gate settled) was.0 was.1)) (second.images still))

    pub closed_spare : IsClosed place mid.bytes → IsClosed (other_slot now.version) new.bytes
    closed_spare h1 = grind (arith, common_steps, nat_tests)

-- both are within what a preparation may write
module _ (sizes : Sizes) (now : Catalog) (start mid : DiskState) (place : ℕ) (placed : place ≡ other_slot now.version) (first : Affects (span place 1) (place + 1) 2 start mid) where
  gate_inside : IsWithin (span place 1) (prepared sizes now)
  gate_inside i inside = inl (omega (arith, placed, inside.0), omega (arith, placed, inside.1))

  -- in calls too
  pub gate_effect : (end : ℕ) → place + 1 ≤ end → Affects (prepared sizes now) end 4 start mid
  gate_effect end inside = affects_wider gate_inside inside (omega arith) first

  pub spare_effect : (end : ℕ) → place + 1 ≤ end → (new : DiskState) (spot : ℕ) → spot ≡ spare_start sizes now → spot + 1 ≤ end → IsTimed mid → mid.faults ≡ start.faults
      → Affects (span spot 1) (spot + 1) 2 mid new → Affects (prepared sizes now) end 4 start new
  spare_effect end inside new spot spotted spot_inside timed calm second =
      affects_run {most = 2} {more = 2} timed calm (affects_wider gate_inside inside (omega arith) first)
      (affects_wider spare_inside spot_inside (omega arith) second)
    where
      spare_inside : IsWithin (span spot 1) (prepared sizes now)
      spare_inside i inside = inr (omega (arith, spotted, inside.0), omega (arith, spotted, inside.1))

-- a gate that was written closed is closed
pub shut_written : (file new : List ℕ) (at : ℕ) → at ≤ length file → new ≡ overwritten file at (0 ∷ []) → IsClosed at new
shut_written file new at h1 h2 = grind (arith, common_steps, nat_tests)

-- ---- committing

-- the next version's slot is the other one, and its other one is this
next_slot : (sizes : Sizes) (now next : Catalog) → IsNext sizes now next → slot_of next.version ≡ other_slot now.version
next_slot sizes now next is = ap slot_of is.follows

back_slot : (sizes : Sizes) (now next : Catalog) → IsNext sizes now next → slot_of now.version ≡ other_slot next.version
back_slot sizes now next is = let follows = is.follows in omega (arith, follows)

module _ (sizes : Sizes) (now next : Catalog) (is : IsNext sizes now next) (place : ℕ) (placed : place ≡ slot_of next.version) (text : List ℕ) (spelled : text ≡ body_text next) where
  short : 1 + length text ≤ slot_length
  short = omega (arith, ap (length {A = ℕ}) spelled, body_short next is.fits.fits)

  other_place : place ≡ other_slot now.version
  other_place = placed ∙ next_slot sizes now next is

  -- outside the slot of the next version the file is as it was
  abbrev pub Outside : List ℕ → List ℕ → Type 0
  Outside old new = IsSameOutside (span place (1 + length text)) old new

  now_kept : (old new : List ℕ) → Outside old new → HasSlot sizes (slot_of now.version) now old → HasSlot sizes (slot_of now.version) now new
  now_kept old new same has =
      newest_kept sizes now (1 + length text) old new short
      (subst (λ (k : ℕ). IsSameOutside (span k (1 + length text)) old new) other_place same) has

  -- the text stands whole behind its open gate
  next_newest : (old new : List ℕ) → IsNewest sizes now old → Outside old new → part new place (1 + length text) ≡ open_byte ∷ text → IsNewest sizes next new
  next_newest old new newest same stands = record {
    stands = record {
      fits = is.fits;
      parity = refl;
      text =
          let more : length (open_byte ∷ text) ≡ 1 + length text = omega arith in
          (λ i. part new (sym placed i) (length (open_byte ∷ sym spelled i))) ∙ ap (part new place) more ∙ stands ∙ ap (λ (l : List ℕ). open_byte ∷ l) spelled;
    };
    other = inr (record {
      catalog = now;
      stands = subst (λ (k : ℕ). HasSlot sizes k now new) (back_slot sizes now next is) (now_kept old new same newest.stands);
      lower = let follows = is.follows in omega (arith, follows);
    });
  }

  still_newest : (old new : List ℕ) → IsNewest sizes now old → Outside old new → IsClosed place new → IsNewest sizes now new
  still_newest old new newest same closed = record {
    stands = now_kept old new same newest.stands;
    other = inl (subst (λ (k : ℕ). IsClosed k new) other_place closed);
  }

  gated_either : (before : List ℕ → Type 0) (c : List ℕ) → ((d : List ℕ) → before d → IsNewest sizes now d) → IsGated before place text c → IsEither sizes now next c
  gated_either before c h1 h2 = grind (arith, common_steps, nat_tests, still_newest, next_newest)

  module _ (old new : DiskState) (ready : IsReady sizes now old) where
    shut_now : IsClosed place old.bytes
    shut_now = subst (λ (k : ℕ). IsClosed k old.bytes) (sym other_place) ready.closed

    shut_each : (c : List ℕ) → old.images c → IsClosed place c
    shut_each c left = subst (λ (k : ℕ). IsClosed k c) (sym other_place) (closed_same (ready.settled.each c left) (now.version + 1) ready.closed)

    pub each_commit : (((c : List ℕ) → old.images c → IsClosed place c) → LeavesOnly old new (IsGated old.images place text)) → LeavesOnly old new (IsEither sizes now next)
    each_commit run = leaves_only_weaken (λ c gated. gated_either old.images c (settled_each old ready.settled) gated) (run shut_each)

    pub reads_commit : (IsClosed place old.bytes → IsGated (λ c. c ≡ old.bytes) place text new.bytes) → IsEither sizes now next new.bytes
    reads_commit run = gated_either (λ c. c ≡ old.bytes) new.bytes (λ d same. subst (IsNewest sizes now) (sym same) ready.settled.newest) (run shut_now)

    pub settled_commit : place ≤ length old.bytes → Outside old.bytes new.bytes → new.bytes ≡ overwritten old.bytes place (open_byte ∷ text) → Only new.bytes new.images → IsSettled sizes next new
    settled_commit inside same written only =
        let more : 1 + length text ≡ length (open_byte ∷ text) = omega arith in
        settled_only new
        (next_newest old.bytes new.bytes ready.settled.newest same
        (ap (λ (l : List ℕ). part l place (1 + length text)) written
        ∙ ap (λ (n : ℕ). part (overwritten old.bytes place (open_byte ∷ text)) place n) more
        ∙ part-overwritten old.bytes place (open_byte ∷ text) inside))
        only

-- what holds after an Ok, by a fact that does
pub on_ok : {T E : Type 0} (P S : Type 0) (r : Result T E) → OnOk r P → (P → S) → OnOk r S
on_ok P S r h1 h2 = grind (arith, common_steps, nat_tests)
