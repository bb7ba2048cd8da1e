-- What a gate and the bytes behind it say of the lane.
use Rattle.std.proofs.Common.{◌≡◌, ℕ, ◌+◌, ◌-◌, ◌≤◌, ◌<◌, min, List, [], ◌∷◌, ◌++◌, length, get_or, take, drop, refl, ap, sym, ◌∙◌, arith, append-nil}
use Rattle.std.proofs.Common.{length-append}
use Rattle.std.specs.List.{between}
use Rattle.std.proofs.lemmas.List.{take_at, drop_at, drop-drop, take-take, take-append-drop, length-take}
use Rattle.std.proofs.lemmas.List.Elements.{All-head, All-tail, All-push}
use Rattle.std.proofs.lemmas.List.Sums.{sum_by-cons}
use Rattle.std.proofs.lemmas.Slice.{between_is, between_to_end}
use Rattle.disk_trait.specs.Disk.{part}
use Rattle.disk_trait.proofs.PartLemmas.{part-split}
use Rattle.gated_write.specs.Gated.{open_byte, IsClosed}
use Rattle.blsm_model.specs.declared.key.Key.{Key}
use Rattle.blsm_model.specs.Sizes.{Sizes}
use Rattle.blsm_model.specs.Format.{most_weight}
use Rattle.record_delta.specs.declared.record.Rec.{Rec}
use Rattle.record_delta.specs.Entries.{Entries, entries_weight}
use Rattle.record_delta.specs.Records.{weight}
use Rattle.blsm_model.specs.Lanes.{region_start, region_length}
use Rattle.gated_log.specs.Records.{cost, head_len, record_text, spellings, BeginsWithRecord, IsLaneRecord}
use Rattle.gated_log.specs.Lane.{blocks, AreRecords, BeginsRecords, HasRecords}
use Rattle.gated_log.specs.Replay.{ReplayState, HasRecordAt, next_gate}
use Rattle.gated_log.proofs.LaneLemmas.{blocks-append, one_byte}
use Rattle.gated_log.proofs.RecordLemmas.{entries_part, entry_weight, length-record}

-- an open gate, the record and any bytes
pub record IsOpenBlock (bytes : List ℕ) (es : Entries) : Type 0 where
  pub is : IsLaneRecord es
  pub rest : List ℕ
  pub parts : bytes ≡ open_byte ∷ (record_text es ++ rest)

-- an open gate, and no record behind it
pub record IsBrokenBlock (bytes : List ℕ) : Type 0 where
  pub opened : take 1 bytes ≡ open_byte ∷ []
  pub no_record : (es : Entries) → BeginsWithRecord (drop 1 bytes) es → ⊥

-- how many bytes a record behind the next gate may have, so that its own next gate is inside the region
abbrev pub room_of : ReplayState → ℕ
room_of replay = min (4 + most_weight) (region_length replay.sizes - (replay.end + 2))

-- ---- the bytes that were read

-- the gate and the bytes behind it
gate_first : (bytes : List ℕ) → get_or bytes 0 0 ≡ open_byte → bytes ≡ open_byte ∷ drop 1 bytes
gate_first [] is = absurd (omega (arith, is))
gate_first (gate ∷ bytes) is = ap (λ (g : ℕ). g ∷ bytes) is

behind_gate : (bytes : List ℕ) → between 1 (length bytes) bytes ≡ drop 1 bytes
behind_gate bytes = between_to_end bytes 1 (length bytes) (omega arith)

pub open_block : (bytes : List ℕ) (es : Entries) → get_or bytes 0 0 ≡ open_byte → BeginsWithRecord (between 1 (length bytes) bytes) es
    → IsOpenBlock bytes es
open_block bytes es is b =
    record { is = b.is; rest = b.rest; parts = gate_first bytes is ∙ ap (λ (l : List ℕ). open_byte ∷ l) (sym (behind_gate bytes) ∙ b.parts) }

pub broken_block : (bytes : List ℕ) → get_or bytes 0 0 ≡ open_byte → ((es : Entries) → BeginsWithRecord (between 1 (length bytes) bytes) es → ⊥)
    → IsBrokenBlock bytes
broken_block bytes is none = record {
  opened = ap (λ (l : List ℕ). take 1 l) (gate_first bytes is);
  no_record = λ es begins. none es (record { is = begins.is; rest = begins.rest; parts = behind_gate bytes ∙ begins.parts });
}

-- how long the gate and the record are
pub length-block : (es : Entries) → length (open_byte ∷ record_text es) ≡ cost es
length-block es = omega (arith, length-record es)

pub open_fits : (bytes : List ℕ) (es : Entries) → IsOpenBlock bytes es → cost es ≤ length bytes
open_fits bytes es b = omega (arith, ap (length {A = ℕ}) b.parts, length-append (record_text es) b.rest, length-record es)

-- where its entries stand
pub block_entries : (bytes : List ℕ) (es : Entries) (from to : ℕ) → IsOpenBlock bytes es → from ≡ 1 + head_len es → to ≡ cost es
    → between from to bytes ≡ spellings es
block_entries bytes es from to b from_is to_is =
    let whole : between from to bytes ≡ take (entries_weight es) (drop (1 + head_len es) bytes) =
    ap (λ (m : ℕ). take (to - m) (drop m bytes)) from_is ∙ ap (λ (m : ℕ). take m (drop (1 + head_len es) bytes)) (omega (arith, to_is)) in
    whole ∙ ap (λ (l : List ℕ). take (entries_weight es) (drop (1 + head_len es) l)) b.parts
    ∙ ap (λ (l : List ℕ). take (entries_weight es) l) (sym (drop-drop (head_len es) 1 (open_byte ∷ (record_text es ++ b.rest))))
    ∙ entries_part es b.rest

-- ---- the lane

pub blocks-push : (records : List Entries) (es : Entries) → blocks (records ++ es ∷ []) ≡ blocks records ++ (open_byte ∷ record_text es)
blocks-push records es = blocks-append records (es ∷ []) ∙ ap (λ (l : List ℕ). blocks records ++ (open_byte ∷ l)) (append-nil (record_text es))

pub length-blocks-push : (records : List Entries) (es : Entries) → length (blocks (records ++ es ∷ [])) ≡ length (blocks records) + cost es
length-blocks-push records es =
    omega (arith, ap (length {A = ℕ}) (blocks-push records es), length-append (blocks records) (open_byte ∷ record_text es), length-record es)

-- a record behind an open gate, as the front of the bytes from there on
open_front : (own : List ℕ) (room : ℕ) (es : Entries) → IsOpenBlock (take (1 + room) own) es
    → (cost es ≤ 1 + room) × (take (cost es) own ≡ open_byte ∷ record_text es)
open_front own room es block =
    let fits : cost es ≤ 1 + room = omega (arith, open_fits (take (1 + room) own) es block, length-take (1 + room) own) in (
      fits,
      sym (take-take (cost es) (1 + room) own fits)
          ∙ ap (λ (l : List ℕ). take (cost es) l) block.parts
          ∙ take_at (open_byte ∷ record_text es) block.rest (cost es) (length-block es),
    )

-- a record at the place behind the front: the lane begins with one record more
pub one_more_given : (sizes : Sizes) (n : ℕ) (records : List Entries) (es : Entries) (file : List ℕ) → BeginsRecords sizes n records file
    → HasRecordAt sizes n (length (blocks records)) es file → BeginsRecords sizes n (records ++ es ∷ []) file
one_more_given sizes n records es file front at = record {
  each = All-push IsLaneRecord records es front.each at.is;
  inside = omega (arith, at.inside, length-blocks-push records es);
  begins =
      ap (λ (m : ℕ). part file (region_start sizes n) m) (length-blocks-push records es)
      ∙ part-split file (region_start sizes n) (length (blocks records)) (cost es)
      ∙ ap (λ (l : List ℕ). l ++ part file (region_start sizes n + length (blocks records)) (cost es)) front.begins
      ∙ ap (λ (l : List ℕ). blocks records ++ l) at.begins
      ∙ sym (blocks-push records es);
}

-- a closed gate there: the lane has no more records
pub none_more : (sizes : Sizes) (n : ℕ) (records : List Entries) (file : List ℕ) → BeginsRecords sizes n records file
    → region_start sizes n + region_length sizes ≤ length file
    → IsClosed (region_start sizes n + length (blocks records)) file → HasRecords sizes n records file
none_more sizes n records file front long closed =
    let start = region_start sizes n in
    let m = length (blocks records) in
    let byte = one_byte file (start + m) (omega (arith, front.inside, long)) in
    record {
      each = front.each;
      gate = byte.0;
      closed = λ same. closed (byte.1 ∙ ap (λ (g : ℕ). g ∷ []) same);
      inside = front.inside;
      begins =
          part-split file start m 1
          ∙ ap (λ (l : List ℕ). l ++ part file (start + m) 1) front.begins
          ∙ ap (λ (l : List ℕ). blocks records ++ l) byte.1;
    }

-- the record behind the front, where the lane begins with one more
pub last_part : (sizes : Sizes) (n : ℕ) (records : List Entries) (es : Entries) (file : List ℕ) → BeginsRecords sizes n (records ++ es ∷ []) file
    → part file (region_start sizes n + length (blocks records)) (cost es) ≡ open_byte ∷ record_text es
last_part sizes n records es file more =
    let start = region_start sizes n in
    let m = length (blocks records) in
    let w = cost es in
    let whole : part file start (m + w) ≡ blocks records ++ (open_byte ∷ record_text es) =
    ap (λ (k : ℕ). part file start k) (sym (length-blocks-push records es)) ∙ more.begins ∙ blocks-push records es in
    sym (drop_at (part file start m) (part file (start + m) w) m
    (omega (
      arith,
      length-take m (drop start file),
      length-take (m + w) (drop start file),
      ap (λ (l : List ℕ). length l) whole,
      length-append (blocks records) (open_byte ∷ record_text es),
      length-record es,
    )))
    ∙ ap (λ (l : List ℕ). drop m l) (sym (part-split file start m w) ∙ whole)
    ∙ drop_at (blocks records) (open_byte ∷ record_text es) m refl

last_record : (records : List Entries) (es : Entries) → AreRecords (records ++ es ∷ []) → IsLaneRecord es
last_record [] es each = All-head IsLaneRecord es [] each
last_record (x ∷ records) es each = last_record records es (All-tail IsLaneRecord x (records ++ es ∷ []) each)

-- no record takes more than the longest
longest : (es : Entries) → IsLaneRecord es → cost es ≤ 517
longest [] is = omega arith
longest (e ∷ []) is = let light = is.light in omega (arith, light)
longest (e ∷ f ∷ es) is = let light = is.light in omega (arith, light)

-- an open gate there and no record: the lane is damaged
pub damaged_here : (sizes : Sizes) (n : ℕ) (records : List Entries) (file : List ℕ) → BeginsRecords sizes n records file
    → part file (region_start sizes n + length (blocks records)) 1 ≡ open_byte ∷ []
    → ((es : Entries) → HasRecordAt sizes n (length (blocks records)) es file → ⊥)
    → (es : Entries) → BeginsRecords sizes n (records ++ es ∷ []) file → ⊥
damaged_here sizes n records file front opened none es more =
    none es (record {
      is = last_record records es more.each;
      inside = omega (arith, more.inside, length-blocks-push records es);
      begins = last_part sizes n records es file more;
    })

-- nor less than the shortest
least_cost : (e : Key × Rec) (es : Entries) → IsLaneRecord (e ∷ es) → 15 ≤ cost (e ∷ es)
least_cost e es is = omega (arith, (entry_weight e is.each.0).0, sum_by-cons (λ (x : Key × Rec). weight x.0 x.1) e es)

-- what fits the room has its next gate inside the region
pub record_inside : (replay : ReplayState) (es : Entries) → IsLaneRecord es → cost es ≤ 1 + room_of replay
    → replay.end + cost es < region_length replay.sizes
record_inside replay [] is fits = let some = is.some in absurd (omega (arith, some))
record_inside replay (e ∷ es) is fits = let some = least_cost e es is in omega (arith, fits, some)

-- what stands in the front of some bytes
pub between_front : (bytes : List ℕ) (n from to : ℕ) → to ≤ n → between from to bytes ≡ between from to (take n bytes)
between_front bytes n from to short =
    between_is bytes from to ∙ ap (λ (l : List ℕ). drop from l) (sym (take-take to n bytes short)) ∙ sym (between_is (take n bytes) from to)

-- ---- what the bytes that were read say of the place

module _ (replay : ReplayState) (file : List ℕ) where
  -- the gate, and what a record may take behind it
  abbrev block : List ℕ
  block = part file (next_gate replay) (1 + room_of replay)

  pub record_read : (es : Entries) → IsOpenBlock block es → HasRecordAt replay.sizes replay.lane replay.end es file
  record_read es opened =
      let parts = open_front (drop (next_gate replay) file) (room_of replay) es opened in
      record { is = opened.is; inside = record_inside replay es opened.is parts.0; begins = parts.1 }

  pub opened_read : IsBrokenBlock block → part file (next_gate replay) 1 ≡ open_byte ∷ []
  opened_read broken = let short : 1 ≤ 1 + room_of replay = omega arith in sym (take-take 1 (1 + room_of replay) (drop (next_gate replay) file) short) ∙ broken.opened

  pub no_record_read : IsBrokenBlock block → (es : Entries) → HasRecordAt replay.sizes replay.lane replay.end es file → ⊥
  no_record_read broken es at =
      let light = longest es at.is in
      let fits : cost es ≤ 1 + room_of replay = omega (arith, light, at.inside) in
      let here : take (cost es) block ≡ open_byte ∷ record_text es = take-take (cost es) (1 + room_of replay) (drop (next_gate replay) file) fits
      ∙ at.begins in
      let parts : block ≡ open_byte ∷ (record_text es ++ drop (cost es) block) =
      sym (take-append-drop (cost es) block) ∙ ap (λ (l : List ℕ). l ++ drop (cost es) block) here in
      broken.no_record es (record { is = at.is; rest = drop (cost es) block; parts = ap (λ (l : List ℕ). drop 1 l) parts })
