-- A lane has one list at most: no record begins another, and a gate is open or closed.
use Rattle.std.proofs.Common.{◌≡◌, ◌≢◌, ℕ, ◌+◌, ◌≤◌, List, [], ◌∷◌, ◌++◌, length, take, drop, Some, refl, ap, sym, subst, ◌∙◌, arith, append_assoc, append-nil, length-append}
use Rattle.std.specs.Prelude.{slice_get}
use Rattle.std.proofs.lemmas.List.{take_at, take-take, take-append-drop, drop-drop, get_or_append_left, append_cancel_left}
use Rattle.std.proofs.lemmas.List.Elements.{All-head, All-tail}
use Rattle.disk_trait.specs.Disk.{part}
use Rattle.gated_write.specs.Gated.{open_byte}
use Rattle.blsm_model.specs.declared.key.Key.{Key}
use Rattle.blsm_model.specs.Sizes.{Sizes}
use Rattle.record_delta.specs.declared.record.Rec.{Rec}
use Rattle.record_delta.specs.Entries.{Entries}
use Rattle.blsm_model.specs.Lanes.{region_start}
use Rattle.gated_log.specs.Records.{record_text, IsLaneRecord}
use Rattle.gated_log.specs.Lane.{Lane, blocks, entries_in, AreRecords, BeginsRecords, HasEntries, HasFront, HasRecords, IsDamagedBehind}
use Rattle.gated_log.proofs.LaneLemmas.{blocks-append, entries_in-append, gate_closed}
use Rattle.gated_log.proofs.RecordLemmas.{record_same}

-- what is left of a list behind a front of it, and the bytes that stand there
record IsLeft (fs es : List Entries) (gate : ℕ) (behind rest : List ℕ) : Type 0 where
  pub left : List Entries
  pub parts : es ≡ fs ++ left
  pub bytes : blocks left ++ gate ∷ behind ≡ rest

-- the same first record, and the same bytes behind it
same_first : (e f : Entries) (x y : List ℕ) → IsLaneRecord e → IsLaneRecord f → open_byte ∷ (record_text e ++ x) ≡ open_byte ∷ (record_text f ++ y)
    → (e ≡ f) × (x ≡ y)
same_first e f x y is_e is_f same = record_same e f x y is_e is_f (ap (λ (l : List ℕ). drop 1 l) same)

-- records up to a closed gate, and other records on the same bytes: these are a front of those
front_left : (fs es : List Entries) (gate : ℕ) (behind rest : List ℕ) → AreRecords fs → AreRecords es → gate ≢ open_byte
    → blocks es ++ gate ∷ behind ≡ blocks fs ++ rest → IsLeft fs es gate behind rest
front_left [] es gate behind rest each_f each_e closed same = record { left = es; parts = refl; bytes = same }
front_left (f ∷ fs) [] gate behind rest each_f each_e closed same = absurd (closed (cc (same)))
front_left (f ∷ fs) (e ∷ es) gate behind rest each_f each_e closed same =
    let first = same_first e f (blocks es ++ gate ∷ behind) (blocks fs ++ rest) (All-head IsLaneRecord e es each_e)
    (All-head IsLaneRecord f fs each_f)
    (sym (ap (λ (l : List ℕ). open_byte ∷ l) (append_assoc (record_text e) (blocks es) (gate ∷ behind))) ∙ same
    ∙ ap (λ (l : List ℕ). open_byte ∷ l) (append_assoc (record_text f) (blocks fs) rest)) in
    let more = front_left fs es gate behind rest (All-tail IsLaneRecord f fs each_f) (All-tail IsLaneRecord e es each_e) closed first.1 in
    record { left = more.left; parts = ap (λ (x : Entries). x ∷ es) first.0 ∙ ap (λ (l : List Entries). f ∷ l) more.parts; bytes = more.bytes }

-- the region's bytes, from a part that is known
whole_part : (file : List ℕ) (at n : ℕ) (front : List ℕ) → part file at n ≡ front → drop at file ≡ front ++ drop n (drop at file)
whole_part file at n front is = sym (take-append-drop n (drop at file)) ∙ ap (λ (l : List ℕ). l ++ drop n (drop at file)) is

-- in a lane that has its records, each front is a front of them
front_of_records : (sizes : Sizes) (lane : ℕ) (es fs : List Entries) (file : List ℕ) (has : HasRecords sizes lane es file)
    → BeginsRecords sizes lane fs file
    → IsLeft fs es has.gate (drop (length (blocks es) + 1) (drop (region_start sizes lane) file)) (drop (region_start sizes lane + length (blocks fs)) file)
front_of_records sizes lane es fs file has front =
    let start = region_start sizes lane in
    let own : List ℕ = drop start file in
    let m = length (blocks es) + 1 in
    let left = front_left fs es has.gate (drop m own) (drop (length (blocks fs)) own) front.each has.each has.closed
    (sym (append_assoc (blocks es) (has.gate ∷ []) (drop m own)) ∙ sym (whole_part file start m (blocks es ++ has.gate ∷ []) has.begins) ∙ whole_part file start (length (blocks fs)) (blocks fs) front.begins) in
    record { left = left.left; parts = left.parts; bytes = left.bytes ∙ drop-drop (length (blocks fs)) start file }

-- so these are those and what is left
front_is_front : (sizes : Sizes) (lane : ℕ) (es fs : List Entries) (file : List ℕ) → HasRecords sizes lane es file → BeginsRecords sizes lane fs file
    → (left : List Entries) × (es ≡ fs ++ left)
front_is_front sizes lane es fs file has front = let left = front_of_records sizes lane es fs file has front in (left.left, left.parts)

-- a closed gate behind a front: nothing is left
left_none : (left : List Entries) (gate : ℕ) (behind rest : List ℕ) → blocks left ++ gate ∷ behind ≡ rest → take 1 rest ≢ open_byte ∷ [] → left ≡ []
left_none [] gate behind rest is closed = refl
left_none (e ∷ left) gate behind rest is closed = absurd (closed (ap (λ (l : List ℕ). take 1 l) (sym is)))

-- an open one: something is left
left_some : (left : List Entries) (gate : ℕ) (behind rest : List ℕ) → gate ≢ open_byte → blocks left ++ gate ∷ behind ≡ rest
    → take 1 rest ≡ open_byte ∷ [] → (e : Entries) × (more : List Entries) × (left ≡ e ∷ more)
left_some [] gate behind rest closed is opened =
    let same : gate ∷ [] ≡ open_byte ∷ [] = ap (λ (l : List ℕ). take 1 l) is ∙ opened in absurd (closed (cc (same)))
left_some (e ∷ left) gate behind rest closed is opened = (e, left, refl)

-- a front of the records is a front of the lane
pub front_part : (sizes : Sizes) (lane : ℕ) (fs left : List Entries) (file : List ℕ) → HasRecords sizes lane (fs ++ left) file
    → BeginsRecords sizes lane fs file
front_part sizes lane fs left file has =
    let start = region_start sizes lane in
    let own : List ℕ = drop start file in
    let n = length (blocks fs) in
    let m = length (blocks (fs ++ left)) + 1 in
    let split : blocks (fs ++ left) ≡ blocks fs ++ blocks left = blocks-append fs left in
    let shorter : n ≤ length (blocks (fs ++ left)) = omega (arith, ap (λ (l : List ℕ). length l) split, length-append (blocks fs) (blocks left)) in
    let short : n ≤ m = omega (arith, shorter) in
    record {
      each = fronts fs left has.each;
      inside = omega (arith, has.inside, shorter);
      begins =
          sym (take-take n m own short)
          ∙ ap (λ (l : List ℕ). take n l) (has.begins ∙ ap (λ (l : List ℕ). l ++ has.gate ∷ []) split ∙ append_assoc (blocks fs) (blocks left) (has.gate ∷ []))
          ∙ take_at (blocks fs) (blocks left ++ has.gate ∷ []) n refl;
    }
  where
    fronts : (xs ys : List Entries) → AreRecords (xs ++ ys) → AreRecords xs
    fronts xs ys each = λ k d below. subst (IsLaneRecord) (get_or_append_left xs ys d k below) (each k d (omega (arith, below, length-append xs ys)))

-- the list is one
one_records : (sizes : Sizes) (lane : ℕ) (es fs : List Entries) (file : List ℕ) → HasRecords sizes lane es file → HasRecords sizes lane fs file
    → es ≡ fs
one_records sizes lane es fs file has other =
    let front : BeginsRecords sizes lane fs file =
    front_part sizes lane fs [] file (subst (λ (l : List Entries). HasRecords sizes lane l file) (sym (append-nil fs)) other) in
    let left = front_of_records sizes lane es fs file has front in
    left.parts ∙ ap (λ (l : List Entries). fs ++ l) (left_none left.left has.gate _ _ left.bytes (gate_closed sizes lane fs file other))
    ∙ append-nil fs

abbrev lane_of : Entries → ℕ → Lane
lane_of entries end = record { entries = entries; end = end }

same_lane : (one other : Lane) → one.entries ≡ other.entries → one.end ≡ other.end → one ≡ other
same_lane one other entries end =
    ap (λ (es : Entries). lane_of es one.end) entries ∙ ap (λ (m : ℕ). lane_of other.entries m) end

pub one_list : (sizes : Sizes) (n : ℕ) (one other : Lane) (file : List ℕ) → HasEntries sizes n one file → HasEntries sizes n other file → one ≡ other
one_list sizes n one other file has more =
    let same = one_records sizes n has.records more.records file has.has more.has in
    same_lane one other (sym has.entries_are ∙ ap entries_in same ∙ more.entries_are) (sym has.end_is
    ∙ ap (λ (l : List Entries). length (blocks l)) same ∙ more.end_is)

-- a lane that has its entries isn't damaged
pub not_damaged : (sizes : Sizes) (n : ℕ) (lane : Lane) (entries : Entries) (file : List ℕ) → HasEntries sizes n lane file
    → IsDamagedBehind sizes n entries file → ⊥
not_damaged sizes n lane entries file lane_has damaged =
    let has = lane_has.has in
    let es = lane_has.records in
    let fs = damaged.records in
    let left = front_of_records sizes n es fs file has damaged.front in
    let some = left_some left.left has.gate _ _ has.closed left.bytes damaged.opened in
    let parts : es ≡ (fs ++ some.0 ∷ []) ++ some.1 = left.parts ∙ ap (λ (l : List Entries). fs ++ l) some.2
    ∙ sym (append_assoc fs (some.0 ∷ []) some.1) in
    damaged.no_record some.0 (front_part sizes n (fs ++ some.0 ∷ []) some.1 file (subst (λ (l : List Entries). HasRecords sizes n l file) parts has))

-- a front of the lane is one of its entries
pub front_of_lane : (sizes : Sizes) (n : ℕ) (lane : Lane) (fs : Entries) (file : List ℕ) → HasEntries sizes n lane file → HasFront sizes n fs file
    → (left : Entries) × (lane.entries ≡ fs ++ left)
front_of_lane sizes n lane fs file has more =
    let front = front_is_front sizes n has.records more.records file has.has more.stands in (
      more.left ++ entries_in front.0,
      sym has.entries_are
          ∙ ap entries_in front.1
          ∙ entries_in-append more.records front.0
          ∙ ap (λ (l : Entries). l ++ entries_in front.0) more.parts
          ∙ append_assoc fs more.left (entries_in front.0),
    )

-- what comes next of the lane's list
pub next_entry : (sizes : Sizes) (n end : ℕ) (given rest : Entries) (e : Key × Rec) (file : List ℕ)
    → HasEntries sizes n (record { entries = given ++ rest; end = end }) file → HasFront sizes n (given ++ e ∷ []) file → slice_get rest 0 ≡ Some e
next_entry sizes n end given rest e file has more =
    let front = front_of_lane sizes n (record { entries = given ++ rest; end = end }) (given ++ e ∷ []) file has more in
    ap (λ (l : Entries). slice_get l 0) (append_cancel_left given rest (e ∷ front.0) (front.1 ∙ append_assoc given (e ∷ []) front.0))
