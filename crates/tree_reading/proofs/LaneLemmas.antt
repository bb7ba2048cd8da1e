-- The replay of a lane, entry by entry.
use Rattle.std.proofs.Common.{◌≡◌, ℕ, ◌+◌, ◌*◌, ◌≤◌, List, [], ◌∷◌, ◌++◌, length, take, refl, ap, subst, ◌∙◌, arith, Ok, Some}
use Rattle.std.proofs.lemmas.Grind.{common_steps}
use Rattle.std.proofs.lemmas.Bool.Decides.{nat_tests}
use Rattle.std.proofs.lemmas.List.{take_at}
use Rattle.std.proofs.lemmas.List.Sums.{fold-append}
use Rattle.disk_trait.specs.Disk.{DiskState}
use Rattle.disk_trait.specs.Moments.{IsTimed}
use Rattle.disk_trait.specs.Reads.{OnlyReads}
use Rattle.blsm_model.specs.Geometry.{file_length}
use Rattle.blsm_model.specs.Lanes.{region_length}
use Rattle.blsm_model.specs.declared.key.Key.{Key}
use Rattle.blsm_model.specs.Sizes.{Sizes}
use Rattle.record_delta.specs.declared.record.Rec.{Rec}
use Rattle.record_delta.specs.Entries.{Entries, entries_weight, replayed, with_record}
use Rattle.gated_log.specs.Lane.{Lane, BeginsRecords, HasEntries, HasFront}
use Rattle.gated_log.specs.Replay.{Answer, HasGiven, ReplayState, TellsLane}
use Rattle.gated_log.proofs.OneList.{front_of_lane, not_damaged}
use Rattle.tree_reading.specs.Lane.{IsDamagedLane, StaysWithin, lane_calls, broken, heavy}

-- one record more is folded over the table of those before it
pub replayed_push : (es : Entries) (e : Key × Rec) → replayed (es ++ e ∷ []) ≡ with_record e.0 e.1 (replayed es)
replayed_push es e = fold-append (λ (table : Entries) (f : Key × Rec). with_record f.0 f.1 table) [] es (e ∷ [])

pub within_push : (room : ℕ) (es : Entries) (e : Key × Rec) → StaysWithin room es → entries_weight (replayed (es ++ e ∷ [])) ≤ room → StaysWithin room (es ++ e ∷ [])
within_push room es e h1 h2 = grind (arith, common_steps, nat_tests)

pub within_start : (room : ℕ) → StaysWithin room []
within_start room = grind (arith, common_steps, nat_tests)

-- ---- a damaged lane isn't one that has its entries within the room

pub no_damaged_lane : (sizes : Sizes) (lane room : ℕ) (of : Lane) (file : List ℕ) → HasEntries sizes lane of file → StaysWithin room of.entries
    → IsDamagedLane sizes lane room file → ⊥
no_damaged_lane sizes lane room of file has within (broken damaged) = not_damaged sizes lane of damaged.0 file has damaged.1
no_damaged_lane sizes lane room of file has within (heavy fs front past) =
    let left = front_of_lane sizes lane of fs file has front in
    let is : take (length fs) of.entries ≡ fs = ap (λ (l : Entries). take (length fs) l) left.1 ∙ take_at fs left.0 (length fs) refl in
    omega (arith, past, within (length fs), ap (λ (l : Entries). entries_weight (replayed l)) is)

-- ---- one entry more

pub given_push : (old new : ReplayState) (es : Entries) (e : Key × Rec) (answer : Answer) (file now : List ℕ) → answer ≡ Ok (Some e) → now ≡ file
    → TellsLane old es now answer new → HasGiven new (es ++ e ∷ []) file
given_push old new es e answer file now found same told =
    subst (HasGiven new (es ++ e ∷ [])) same (subst (λ (a : Answer). TellsLane old es now a new) found told)

pub front_push : (sizes : Sizes) (lane : ℕ) (replay : ReplayState) (es : Entries) (file : List ℕ) → replay.sizes ≡ sizes → replay.lane ≡ lane
    → HasGiven replay es file → HasFront sizes lane es file
front_push sizes lane replay es file sizes_are lane_is given = record {
  records = given.records;
  left = given.left;
  stands = subst (λ (n : ℕ). BeginsRecords sizes n given.records file) lane_is
      (subst (λ (s : Sizes). BeginsRecords s replay.lane given.records file) sizes_are given.front);
  parts = given.parts;
}

-- so many calls were enough
pub calls_within : (sizes inner : Sizes) (calls : ℕ) (old mid new : DiskState) → IsTimed mid → mid.faults ≡ old.faults → inner ≡ sizes
    → 15 * calls ≤ region_length sizes
    → OnlyReads (file_length sizes) calls old mid → OnlyReads (file_length inner) 1 mid new → OnlyReads (file_length sizes) (lane_calls sizes) old new
calls_within sizes inner calls old mid new h1 h2 h3 h4 h5 h6 = grind (arith, common_steps, nat_tests)
