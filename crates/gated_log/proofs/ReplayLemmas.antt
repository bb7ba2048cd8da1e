-- What the answers of a replay say of its lane.
use Rattle.std.proofs.Common.{◌≡◌, inl, inr, ℕ, ◌+◌, ◌*◌, ◌≤◌, ◌<◌, List, [], ◌∷◌, ◌++◌, length, take, drop, ◌-◌, Some, Ok, Err, refl, ap, sym}
use Rattle.std.proofs.Common.{subst, ◌∙◌, arith, append_assoc, append-nil, length-append}
use Rattle.std.specs.List.{between}
use Rattle.std.proofs.lemmas.List.Sums.{sum_by-cons}
use Rattle.blsm_model.specs.declared.key.Key.{Key}
use Rattle.blsm_model.specs.Geometry.{file_length}
use Rattle.blsm_model.specs.Lanes.{region_start, region_length}
use Rattle.disk_trait.specs.Disk.{part}
use Rattle.gated_write.specs.Gated.{open_byte, IsClosed}
use Rattle.record_delta.specs.declared.record.Rec.{Rec}
use Rattle.record_delta.specs.Entries.{Entries}
use Rattle.record_delta.specs.Records.{weight}
use Rattle.entry_codec.specs.Spelling.{spelling}
use Rattle.entry_codec.proofs.SpellingLemmas.{length-spelling}
use Rattle.gated_log.specs.Records.{cost, spellings, IsLaneRecord}
use Rattle.gated_log.specs.declared.replay.LaneBroken.{LaneBroken}
use Rattle.gated_log.specs.declared.replay.LaneBroken.TheVariants.{Fault, Damaged}
use Rattle.gated_log.specs.Lane.{blocks, entries_in, HasEntries, IsDamagedBehind}
use Rattle.gated_log.specs.Replay.{ReplayState, HasGiven, HasRecordAt, IsFirst, IsKept, IsStep, TellsBlock, TellsLane, next_gate, step_calls}
use Rattle.gated_log.proofs.LaneLemmas.{entries_in-append, region_inside}
use Rattle.gated_log.proofs.BlockLemmas.{one_more_given, none_more, damaged_here, length-blocks-push}
use Rattle.gated_log.proofs.RecordLemmas.{entry_weight, first_kept, length-spellings, none_left}

-- the lane's region lies inside the file
abbrev pub IsInside : ReplayState → List ℕ → Type 0
IsInside replay file = region_start replay.sizes replay.lane + region_length replay.sizes ≤ length file

pub lies_inside : (replay : ReplayState) (file : List ℕ) → replay.lane < 3 → length file ≡ file_length replay.sizes → IsInside replay file
lies_inside replay file below long = omega (arith, region_inside replay.sizes replay.lane below, long)

-- ---- a record that was read, and its first entry

abbrev moved_to : ReplayState → ℕ → List ℕ → ReplayState
moved_to replay end behind = record replay { end = end; behind = behind }

-- the others of the record whose first entry was given
pub record HasOthers (old : ReplayState) (e : Key × Rec) (es : Entries) (new : ReplayState) : Type 0 where
  pub others : Entries
  pub is : es ≡ e ∷ others
  pub first : IsFirst old e others new

pub first_given : (old mid new : ReplayState) (e : Key × Rec) (es : Entries) → old.behind ≡ [] → IsLaneRecord es
    → old.end + cost es < region_length old.sizes
    → mid ≡ record old { end = old.end + cost es; behind = spellings es } → IsKept mid e new → HasOthers old e es new
first_given old mid new e es none is inside mid_is kept =
    let first = first_kept es new.behind e.0 e.1 is.each kept.entry (sym (ap (λ (r : ReplayState). r.behind) mid_is) ∙ kept.parts) in
    let own : es ≡ e ∷ first.others = first.is in
    let same : cost es ≡ cost (e ∷ first.others) = ap cost own in
    record {
      others = first.others;
      is = own;
      first = record {
        none = none;
        is = subst IsLaneRecord own is;
        inside = omega (arith, inside, same);
        moved =
            kept.moved
            ∙ ap (λ (r : ReplayState). moved_to r r.end new.behind) mid_is
            ∙ ap (λ (m : ℕ). moved_to old (old.end + m) new.behind) same
            ∙ ap (λ (l : List ℕ). moved_to old (old.end + cost (e ∷ first.others)) l) (sym first.kept);
      };
    }

-- the state once the entries of a record were kept
pub block_kept : (inside old : ReplayState) (to : ℕ) (bytes : List ℕ) (es : Entries) → inside ≡ old → to ≡ cost es → bytes ≡ spellings es
    → moved_to inside (inside.end + to) bytes ≡ moved_to old (old.end + cost es) (spellings es)
block_kept inside old to bytes es same to_is bytes_is =
    ap (λ (r : ReplayState). moved_to r (r.end + to) bytes) same
    ∙ ap (λ (m : ℕ). moved_to old (old.end + m) bytes) to_is
    ∙ ap (λ (l : List ℕ). moved_to old (old.end + cost es) l) bytes_is

-- no bytes stand between a place and one that isn't behind it
pub none_between : (bytes : List ℕ) (from to : ℕ) → to ≤ from → between from to bytes ≡ []
none_between bytes from to low = let gone : to - from ≡ 0 = omega arith in ap (λ (m : ℕ). take m (drop from bytes)) gone

-- ---- what each answer says, where the lane begins with the entries given so far

pub given_kept : (old new : ReplayState) (es : Entries) (e : Key × Rec) (file : List ℕ) → HasGiven old es file → IsKept old e new
    → HasGiven new (es ++ e ∷ []) file
given_kept old new es e file given kept =
    let first = first_kept given.left new.behind e.0 e.1 given.each kept.entry (given.kept ∙ kept.parts) in
    subst (λ (r : ReplayState). HasGiven r (es ++ e ∷ []) file) (sym kept.moved) (record {
      records = given.records;
      left = first.others;
      front = given.front;
      place = given.place;
      parts = given.parts ∙ ap (λ (l : Entries). es ++ l) first.is ∙ sym (append_assoc es (e ∷ []) first.others);
      each = first.each;
      kept = first.kept;
    })

-- where no entry is kept all of the records' entries were given
all_given : (old : ReplayState) (es : Entries) (file : List ℕ) (given : HasGiven old es file) → old.behind ≡ [] → entries_in given.records ≡ es
all_given old es file given none = given.parts ∙ ap (λ (l : Entries). es ++ l) (none_left given.left (given.kept ∙ none)) ∙ append-nil es

pub given_first : (old new : ReplayState) (es : Entries) (e : Key × Rec) (others : Entries) (file : List ℕ) → HasGiven old es file
    → IsFirst old e others new
    → HasRecordAt old.sizes old.lane old.end (e ∷ others) file → HasGiven new (es ++ e ∷ []) file
given_first old new es e others file given first at =
    subst (λ (r : ReplayState). HasGiven r (es ++ e ∷ []) file) (sym first.moved) (record {
      records = given.records ++ (e ∷ others) ∷ [];
      left = others;
      front = one_more_given old.sizes old.lane given.records (e ∷ others) file given.front
          (subst (λ (m : ℕ). HasRecordAt old.sizes old.lane m (e ∷ others) file) (sym given.place) at);
      place = omega (arith, length-blocks-push given.records (e ∷ others), given.place);
      parts =
          entries_in-append given.records ((e ∷ others) ∷ [])
          ∙ ap (λ (l : Entries). l ++ ((e ∷ others) ++ [])) (all_given old es file given first.none)
          ∙ ap (λ (l : Entries). es ++ l) (append-nil (e ∷ others))
          ∙ sym (append_assoc es (e ∷ []) others);
      each = first.is.each.1;
      kept = refl;
    })

pub given_none : (old : ReplayState) (es : Entries) (file : List ℕ) → IsInside old file → HasGiven old es file → old.behind ≡ []
    → IsClosed (next_gate old) file
    → HasEntries old.sizes old.lane (record { entries = es; end = old.end }) file
given_none old es file inside given none closed = record {
  records = given.records;
  has = none_more old.sizes old.lane given.records file given.front inside
      (subst (λ (m : ℕ). IsClosed (region_start old.sizes old.lane + m) file) (sym given.place) closed);
  entries_are = all_given old es file given none;
  end_is = given.place;
}

given_damaged : (old : ReplayState) (es : Entries) (file : List ℕ) → HasGiven old es file → old.behind ≡ []
    → part file (next_gate old) 1 ≡ open_byte ∷ []
    → ((more : Entries) → HasRecordAt old.sizes old.lane old.end more file → ⊥) → IsDamagedBehind old.sizes old.lane es file
given_damaged old es file given none opened no_record =
    let here : part file (region_start old.sizes old.lane + length (blocks given.records)) 1 ≡ open_byte ∷ [] =
    ap (λ (m : ℕ). part file (region_start old.sizes old.lane + m) 1) given.place ∙ opened in
    record {
      records = given.records;
      front = given.front;
      entries_are = all_given old es file given none;
      opened = here;
      no_record = damaged_here old.sizes old.lane given.records file given.front here
          (λ more at. no_record more (subst (λ (m : ℕ). HasRecordAt old.sizes old.lane m more file) given.place at));
    }

-- a look that failed or found no record
pub err_told : (broken : LaneBroken) (old : ReplayState) (es : Entries) (file : List ℕ) (tells : Type 0) → tells → old.behind ≡ []
    → TellsBlock old tells file (Err broken) → HasGiven old es file → TellsLane old es file (Err broken) old
err_told (Damaged lane) old es file tells so none told given = let read = told.1 so in given_damaged old es file given none read.0 read.1
err_told Fault old es file tells so none told given = tt

-- ---- how far a step goes

pub calls_most : (behind : List ℕ) → step_calls behind ≤ 1
calls_most [] = omega arith
calls_most (byte ∷ behind) = omega arith

calls_none : (behind : List ℕ) → 0 < length behind → step_calls behind ≡ 0
calls_none [] some = absurd (omega (arith, some))
calls_none (byte ∷ behind) some = refl

-- In its lane, where an entry was given: so much of what was read was given, and so much was read.
pub record HasMoved (old new : ReplayState) : Type 0 where
  pub sizes : new.sizes ≡ old.sizes
  pub lane : new.lane ≡ old.lane
  pub given : old.end + length new.behind + 14 ≤ new.end + length old.behind
  pub read : old.end + 15 * step_calls old.behind ≤ new.end
  pub inside : old.end < region_length old.sizes → new.end < region_length old.sizes

pub has_moved : (old new : ReplayState) (e : Key × Rec) → IsStep old (Ok (Some e)) new → HasMoved old new
has_moved old new e (inl kept) =
    let long = length-append (spelling e.0 e.1) new.behind in
    let own = length-spelling e.0 e.1 in
    let parts = ap (length {A = ℕ}) kept.parts in
    let least = (entry_weight e kept.entry).0 in
    let end = ap (λ (r : ReplayState). r.end) kept.moved in
    record {
      sizes = ap (λ (r : ReplayState). r.sizes) kept.moved;
      lane = ap (λ (r : ReplayState). r.lane) kept.moved;
      given = omega (arith, parts, long, own, least, end);
      read = omega (arith, calls_none old.behind (omega (arith, parts, long, own, least)), end);
      inside = λ below. omega (arith, below, end);
    }
has_moved old new e (inr step) =
    let first = step.1 in
    let least = (entry_weight e first.is.each.0).0 in
    let whole = sum_by-cons (λ (x : Key × Rec). weight x.0 x.1) e step.0 in
    let end = ap (λ (r : ReplayState). r.end) first.moved in
    record {
      sizes = ap (λ (r : ReplayState). r.sizes) first.moved;
      lane = ap (λ (r : ReplayState). r.lane) first.moved;
      given = omega (arith, least, whole, end, ap (λ (r : ReplayState). length r.behind) first.moved, length-spellings step.0);
      read = omega (arith, least, whole, end, ap step_calls first.none);
      inside = λ below. omega (arith, first.inside, end);
    }
