-- What holds of each lane, whatever else its file has.
use Rattle.std.proofs.lemmas.Bool.Decides.{nat_tests}
use Rattle.std.proofs.lemmas.Grind.{common_steps}
use Rattle.std.specs.Prelude.{◌≡◌, ◌≢◌, ◌≤◌, ◌<◌, ℕ, ◌+◌, List, [], ◌∷◌, length, take, drop}
use Rattle.std.proofs.Common.{refl, sym, ◌∙◌, ap, arith, get_or}
use Rattle.std.proofs.lemmas.List.{length-append, take-take}
use Rattle.std.proofs.lemmas.List.Elements.{All-head}
use Rattle.std.proofs.Math.Seq.{drop-cons}
use Rattle.std.proofs.lemmas.Bool.{cases_lt}
use Rattle.disk_trait.specs.Disk.{part}
use Rattle.disk_trait.specs.Region.{Region, AreApart, IsSameOutside}
use Rattle.disk_trait.proofs.RegionLemmas.{part_apart}
use Rattle.gated_write.specs.Gated.{IsClosed}
use Rattle.blsm_model.specs.Sizes.{Sizes, IsGeometry}
use Rattle.blsm_model.specs.Lanes.{region_start, region_length}
use Rattle.record_delta.specs.Entries.{Entries}
use Rattle.gated_log.specs.Lane.{Lane, lane_region, blocks, entries_in, no_lane, AreRecords, HasEntries, HasRecords, MayEnd}
use Rattle.gated_log.specs.Records.{IsLaneRecord}

-- a lane is what its region's bytes say
same_records : (sizes : Sizes) (n : ℕ) (records : List Entries) (old new : List ℕ)
    → part new (region_start sizes n) (region_length sizes) ≡ part old (region_start sizes n) (region_length sizes) → HasRecords sizes n records old
    → HasRecords sizes n records new
same_records sizes n records old new same has =
    let long = length (blocks records) + 1 in
    record {
      each = has.each;
      gate = has.gate;
      closed = has.closed;
      inside = has.inside;
      begins =
          sym (take-take long (region_length sizes) (drop (region_start sizes n) new) has.inside)
          ∙ ap (λ (l : List ℕ). take long l) same
          ∙ take-take long (region_length sizes) (drop (region_start sizes n) old) has.inside
          ∙ has.begins;
    }

pub same_region : (sizes : Sizes) (n : ℕ) (lane : Lane) (old new : List ℕ)
    → part new (region_start sizes n) (region_length sizes) ≡ part old (region_start sizes n) (region_length sizes) → HasEntries sizes n lane old
    → HasEntries sizes n lane new
same_region sizes n lane old new same has =
    record { records = has.records; has = same_records sizes n has.records old new same has.has; entries_are = has.entries_are; end_is = has.end_is }

-- so after a change outside a region that is apart from its own it has its entries still
pub entries_apart : {region : Region} {old new : List ℕ} (sizes : Sizes) (n : ℕ) (lane : Lane) → AreApart region (lane_region sizes n)
    → IsSameOutside region old new → HasEntries sizes n lane old
    → HasEntries sizes n lane new
entries_apart {region} {old} {new} sizes n lane apart same has =
    same_region sizes n lane old new (part_apart (region_start sizes n) (region_length sizes) apart same) has

-- a closed gate is a lane without entries
pub empty_lane : (sizes : Sizes) (lane : ℕ) (file : List ℕ) → IsGeometry sizes → region_start sizes lane < length file
    → IsClosed (region_start sizes lane) file → HasEntries sizes lane no_lane file
empty_lane sizes lane file geometry below closed =
    let half = geometry.half.0 in
    let gate = get_or file (region_start sizes lane) 0 in
    let is : part file (region_start sizes lane) 1 ≡ gate ∷ [] = ap (λ (l : List ℕ). take 1 l) (drop-cons file (region_start sizes lane) 0 below) in
    record {
      records = [];
      has = record {
        each = λ k d lt. absurd (omega (arith, lt));
        gate = gate;
        closed = λ same. closed (is ∙ ap (λ (g : ℕ). g ∷ []) same);
        inside =
            omega (arith, half);
        begins = is;
      };
      entries_are = refl;
      end_is = refl;
    }

-- a lane of a file ends where it may
pub may_end : (sizes : Sizes) (n : ℕ) (lane : Lane) (file : List ℕ) → HasEntries sizes n lane file → MayEnd lane
may_end sizes n lane file has none = here has.records has.has.each has.entries_are has.end_is
  where
    here : (records : List Entries) → AreRecords records → entries_in records ≡ lane.entries → length (blocks records) ≡ lane.end → lane.end ≡ 0
    here [] each entries end = sym end
    here (es ∷ records) each entries end =
        let some = (All-head IsLaneRecord es records each).some in
        absurd (omega (arith, some, ap (λ (l : Entries). length l) (entries ∙ none), length-append es (entries_in records)))

-- regions of which one has the lower number
below_apart : (sizes : Sizes) (low high : ℕ) → low < high → region_start sizes low + region_length sizes ≤ region_start sizes high
below_apart sizes low high h1 = grind (arith, common_steps, nat_tests)

pub lanes_apart : (sizes : Sizes) (one other : ℕ) → one ≢ other → AreApart (lane_region sizes one) (lane_region sizes other)
lanes_apart sizes one other h1 = grind (arith, common_steps, nat_tests, below_apart, cases_lt)
