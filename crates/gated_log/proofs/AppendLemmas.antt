-- A gated write behind a lane's closed gate is an append: what each of its moments leaves, and what stands once it has ended well.
use Rattle.std.proofs.lemmas.Bool.Decides.{nat_tests}
use Rattle.std.proofs.lemmas.Grind.{common_steps}
use Rattle.std.proofs.Common.{◌≡◌, Bool, IsTrue, ℕ, ◌+◌, ◌≤◌, ◌<◌, List, [], ◌∷◌, ◌++◌, length, ap, sym, subst, ◌∙◌, arith, append_assoc, append-nil, length-append}
use Rattle.std.proofs.lemmas.List.Elements.{All-push}
use Rattle.disk_trait.specs.Disk.{DiskState, HasWritten, part, overwritten}
use Rattle.disk_trait.specs.Effects.{Affects}
use Rattle.disk_trait.specs.Moments.{IsTimed}
use Rattle.disk_trait.proofs.MomentLemmas.{leaves_only_weaken, leaves_only_now}
use Rattle.disk_trait.proofs.PartLemmas.{part-split}
use Rattle.disk_trait.specs.Region.{span, IsWithin, IsSameOutside}
use Rattle.disk_trait.proofs.RegionLemmas.{same_file, same_wider, part_apart}
use Rattle.gated_write.specs.Gated.{open_byte, IsClosed, IsWhole, IsGated, LeavesGated}
use Rattle.blsm_model.specs.Sizes.{Sizes}
use Rattle.blsm_model.specs.Geometry.{file_length}
use Rattle.record_delta.specs.declared.record.Rec.{Rec}
use Rattle.record_delta.specs.Records.{weight}
use Rattle.record_delta.specs.Entries.{Entries}
use Rattle.blsm_model.specs.declared.key.Key.{Key}
use Rattle.entry_codec.specs.Spelling.{spelling, IsEntry}
use Rattle.gated_log.specs.Records.{cost, pack_text, record_text, IsLaneRecord, IsPackRecord}
use Rattle.gated_log.proofs.RecordLemmas.{cost_one, head_of_pack, length-record, one_record}
use Rattle.blsm_model.specs.Lanes.{region_start, region_length}
use Rattle.gated_log.specs.Lane.{Lane, lane_region, blocks, entries_in, with_more, HasEntries, HasRecords, EachHasEntries, IsAppended, LeavesAppended}
use Rattle.gated_log.specs.Lanes.{LanesState, end_of}
use Rattle.gated_log.proofs.LaneLemmas.{region_inside, blocks-append, entries_in-append, front_parts, gate_closed, one_byte, part_below}

-- A record and the next gate, closed, are written behind a gate at this place of a lane, inside the region.
pub record IsRecordWrite (sizes : Sizes) (n end : ℕ) (more : Entries) (at : ℕ) (text : List ℕ) : Type 0 where
  pub place : at ≡ region_start sizes n + end
  pub writes : text ≡ record_text more ++ 0 ∷ []
  pub fits : end + 1 + length text ≤ region_length sizes
  pub is : IsLaneRecord more

-- where the lanes say that the lane ends
pub record_write : {inside lanes : LanesState} (n : ℕ) {more : Entries} {at : ℕ} {text : List ℕ} → inside ≡ lanes
    → at ≡ region_start inside.sizes n + end_of inside n → text ≡ record_text more ++ 0 ∷ []
    → end_of lanes n + cost more + 1 ≤ region_length lanes.sizes → IsLaneRecord more → IsRecordWrite lanes.sizes n (end_of lanes n) more at text
record_write {inside} {lanes} n {more} {at} {text} same place writes fits is = record {
  place = subst (λ (l : LanesState). at ≡ region_start l.sizes n + end_of l n) same place;
  writes = writes;
  fits = omega (arith, fits, ap (length {A = ℕ}) writes, length-append (record_text more) (0 ∷ []), length-record more);
  is = is;
}

-- the same of one entry
pub entry_write : {inside lanes : LanesState} (n : ℕ) {key : Key} {rec : Rec} {at : ℕ} {text : List ℕ} → inside ≡ lanes
    → at ≡ region_start inside.sizes n + end_of inside n → text ≡ spelling key rec ++ 0 ∷ []
    → end_of lanes n + 1 + weight key rec + 1 ≤ region_length lanes.sizes → IsEntry key rec
    → IsRecordWrite lanes.sizes n (end_of lanes n) ((key, rec) ∷ []) at text
entry_write n {key} {rec} same place writes fits entry =
    record_write n same place writes (omega (arith, fits, cost_one key rec)) (one_record key rec entry)

-- and of several
pub pack_write : {inside lanes : LanesState} (n : ℕ) {more : Entries} {at : ℕ} {text : List ℕ} → inside ≡ lanes
    → at ≡ region_start inside.sizes n + end_of inside n → text ≡ pack_text more ++ 0 ∷ []
    → end_of lanes n + cost more + 1 ≤ region_length lanes.sizes → IsPackRecord more → IsRecordWrite lanes.sizes n (end_of lanes n) more at text
pack_write n {more} same place writes fits is =
    record_write n same place (writes ∙ ap (λ (l : List ℕ). l ++ 0 ∷ []) (sym (head_of_pack more is.some).0)) fits is.is

-- all of it lies in the lane's region
pub write_inside : {sizes : Sizes} {n end : ℕ} {more : Entries} {at : ℕ} {text : List ℕ} → IsRecordWrite sizes n end more at text
    → IsWithin (span at (1 + length text)) (lane_region sizes n)
write_inside write i inside = (omega (arith, inside.0, write.place), omega (arith, inside.1, write.place, write.fits))

-- which lies inside the file
pub write_ends : {sizes : Sizes} {n end : ℕ} {more : Entries} {at : ℕ} {text : List ℕ} → n < 3 → IsRecordWrite sizes n end more at text
    → at + 1 + length text ≤ file_length sizes
write_ends {sizes} {n} below write = omega (arith, write.place, write.fits, region_inside sizes n below)

-- the file in which the write was done in whole
done_whole : (at : ℕ) (text before after : List ℕ) → at ≤ length before → after ≡ overwritten before at (open_byte ∷ text) → IsWhole at text after
done_whole at text before after h1 h2 = grind (arith, common_steps, nat_tests)

module _ {sizes : Sizes} {n end : ℕ} {more : Entries} {at : ℕ} {text : List ℕ} (write : IsRecordWrite sizes n end more at text) (lane : Lane)
    (is_end : lane.end ≡ end) where
  here : (records : List Entries) → length (blocks records) ≡ lane.end → at ≡ region_start sizes n + length (blocks records)
  here records ends = write.place ∙ ap (λ (m : ℕ). region_start sizes n + m) (sym is_end ∙ sym ends)

  closed_here : (file : List ℕ) → HasEntries sizes n lane file → IsClosed at file
  closed_here file has = subst (λ (a : ℕ). IsClosed a file) (sym (here has.records has.end_is)) (gate_closed sizes n has.records file has.has)

  -- the records before the gate stay, and what stands from the gate on follows them
  parts_of : (m : ℕ) (old file : List ℕ) (records : List Entries) → length (blocks records) ≡ lane.end → HasRecords sizes n records old
      → IsSameOutside (span at (1 + length text)) old file
      → part file (region_start sizes n) (length (blocks records) + m) ≡ blocks records ++ part file at m
  parts_of m old file records ends has same =
      let start = region_start sizes n in
      let front : List ℕ = blocks records in
      let apart = part_apart start (length front) (λ i inside below. omega (arith, inside.0, below.1, here records ends)) same in
      part-split file start (length front) m
      ∙ ap (λ (l : List ℕ). l ++ part file (start + length front) m) (apart ∙ (front_parts old start front has.gate has.begins).0)
      ∙ ap (λ (a : ℕ). front ++ part file a m) (sym (here records ends))

  -- behind a gate that stayed closed the lane is as it was
  still_has : (old file : List ℕ) → HasEntries sizes n lane old → IsSameOutside (span at (1 + length text)) old file → IsClosed at file
      → HasEntries sizes n lane file
  still_has old file lane_has same closed =
      let records = lane_has.records in
      let has = lane_has.has in
      let gate = part_below old (region_start sizes n + length (blocks records)) has.gate
      (front_parts old (region_start sizes n) (blocks records) has.gate has.begins).1 in
      let byte = one_byte file at (omega (arith, gate, same.no_shorter, here records lane_has.end_is)) in
      record {
        records = records;
        has = record {
          each = has.each;
          gate = byte.0;
          closed = λ opened. closed (byte.1 ∙ ap (λ (g : ℕ). g ∷ []) opened);
          inside = has.inside;
          begins = parts_of 1 old file records lane_has.end_is has same ∙ ap (λ (l : List ℕ). blocks records ++ l) byte.1;
        };
        entries_are = lane_has.entries_are;
        end_is = lane_has.end_is;
      }

  -- with the record whole behind an open gate the lane has its entries more
  has_more : (old file : List ℕ) → HasEntries sizes n lane old → IsSameOutside (span at (1 + length text)) old file → IsWhole at text file
      → HasEntries sizes n (with_more lane more) file
  has_more old file lane_has same stands =
      let records = lane_has.records in
      let has = lane_has.has in
      let front : List ℕ = blocks records in
      let ends = lane_has.end_is in
      let written : front ++ (open_byte ∷ text) ≡ blocks (records ++ more ∷ []) ++ 0 ∷ [] =
      ap (λ (l : List ℕ). front ++ (open_byte ∷ l)) (write.writes ∙ ap (λ (l : List ℕ). l ++ 0 ∷ []) (sym (append-nil (record_text more))))
      ∙ sym (append_assoc front (open_byte ∷ (record_text more ++ [])) (0 ∷ []))
      ∙ ap (λ (l : List ℕ). l ++ 0 ∷ []) (sym (blocks-append records (more ∷ []))) in
      let long : length (blocks (records ++ more ∷ [])) + 1 ≡ length front + (1 + length text) =
      omega (
        arith,
        ap (λ (l : List ℕ). length l) written,
        length-append front (open_byte ∷ text),
        length-append (blocks (records ++ more ∷ [])) (0 ∷ []),
      ) in
      let text_long : length text ≡ cost more =
      omega (arith, ap (length {A = ℕ}) write.writes, length-append (record_text more) (0 ∷ []), length-record more) in
      record {
        records = records ++ more ∷ [];
        has = record {
          each = All-push IsLaneRecord records more has.each write.is;
          gate = 0;
          closed = λ same. cc (same);
          inside = omega (arith, long, write.fits, is_end, ends);
          begins =
              ap (λ (m : ℕ). part file (region_start sizes n) m) long
              ∙ parts_of (1 + length text) old file records ends has same
              ∙ ap (λ (l : List ℕ). front ++ l) stands
              ∙ written;
        };
        entries_are = entries_in-append records (more ∷ []) ∙ ap (λ (l : Entries). l ++ entries_in (more ∷ [])) lane_has.entries_are
            ∙ ap (λ (l : Entries). lane.entries ++ l) (append-nil more);
        end_is = omega (arith, long, text_long, ends);
      }

  -- each file that a gated write may leave
  appended : (before : List ℕ → Type 0) (file : List ℕ) → EachHasEntries sizes n lane before → IsGated before at text file
      → IsAppended sizes n lane more before file
  appended before file h1 h2 = grind (arith, common_steps, nat_tests, same_file, still_has, same_wider, write_inside, has_more)

  -- the call, at each moment and in the end
  pub leaves_appended : {done : Bool} {last most : ℕ} {old new : DiskState} → IsTimed new → IsTrue old.is_honest → at ≤ length old.bytes
      → LeavesGated at text old new → Affects (span at (1 + length text)) last most old new
      → (IsTrue done → HasWritten at (open_byte ∷ text) old new) → LeavesAppended sizes n lane more done old new
  leaves_appended {old = old} {new = new} timed honest within gated effect written = record {
    each = λ has. leaves_only_weaken (λ c left. appended old.images c has left) (gated.each (λ c was. closed_here c (has c was)));
    reads = λ has. appended (λ c. c ≡ old.bytes) new.bytes (λ c same. subst (λ (f : List ℕ). HasEntries sizes n lane f) (sym same) has)
        (gated.reads (closed_here old.bytes has));
    each_done = λ done has c here.
        let was = leaves_only_now timed (effect.images honest) c here in
        has_more was.0 c (has was.0 was.1) was.2 (subst (λ (l : List ℕ). IsWhole at text l) (sym ((written done).durable honest c here)) (whole_now ((written done).bytes honest)));
    reads_done = λ done has. has_more old.bytes new.bytes has (effect.bytes honest) (whole_now ((written done).bytes honest));
  }
    where
      whole_now : new.bytes ≡ overwritten old.bytes at (open_byte ∷ text) → IsWhole at text new.bytes
      whole_now is = done_whole at text old.bytes new.bytes within is
