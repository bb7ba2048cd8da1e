-- A lane after a put and a del, byte by byte, and one with a record of three; where the regions begin; a lane whose open gate has no record.
use Rattle.std.proofs.Common.{◌≡◌, ℕ, suc, zero, ◌+◌, ◌*◌, List, [], ◌∷◌, ◌++◌, ◌-◌, length, get_or, take, drop, refl, ap, sym, ◌∙◌, codes, arith}
use Rattle.std.proofs.lemmas.List.{drop_at}
use Rattle.std.proofs.lemmas.List.Elements.{All-nil, All-cons, All-head}
use Rattle.blsm_model.specs.declared.key.Key.{Key}
use Rattle.blsm_model.specs.Sizes.{default_sizes}
use Rattle.record_delta.specs.declared.record.Rec.{Rec}
use Rattle.record_delta.specs.declared.record.Rec.TheVariants.{Base, Delta, Tomb}
use Rattle.entry_codec.specs.Spelling.{head, kind_of, kind_of_delta, spelling, IsEntry}
use Rattle.blsm_model.specs.Lanes.{region_start, region_length}
use Rattle.record_delta.specs.Entries.{Entries}
use Rattle.gated_log.specs.Records.{cost, record_text, IsLaneRecord}
use Rattle.gated_log.specs.Lane.{blocks, HasEntries, HasRecords, IsDamaged}
use Rattle.gated_log.proofs.RecordLemmas.{one_record}

abbrev put_a : Key × Rec
put_a = (codes "a", Base (record { count = 5; text = codes "hi" }))

abbrev del_a : Key × Rec
del_a = (codes "a", Tomb)

abbrev put_and_del : List Entries
put_and_del = (put_a ∷ []) ∷ (del_a ∷ []) ∷ []

put_and_del_bytes : blocks put_and_del ++ 0 ∷ [] ≡ 1 ∷ 1 ∷ 0 ∷ 1 ∷ 0 ∷ 2 ∷ 0 ∷ 0 ∷ 0 ∷ 0 ∷ 0 ∷ 0 ∷ 0 ∷ 5 ∷ 0x61 ∷ 0x68 ∷ 0x69 ∷ 1 ∷ 3 ∷ 0 ∷ 1 ∷ 0 ∷ 0 ∷ 0 ∷ 0 ∷ 0 ∷ 0 ∷ 0 ∷ 0 ∷ 0 ∷ 0 ∷ 0x61 ∷ 0 ∷ []
unfolding head spelling
put_and_del_bytes = refl

first_region : region_start default_sizes 0 ≡ 4096
first_region = refl

last_region : region_start default_sizes 2 + region_length default_sizes ≡ 4096 + 12 * 32768
last_region = refl

-- they are entries
put_a_fits : IsEntry put_a.0 put_a.1
put_a_fits = record { key_least = omega arith; key_most = omega arith; in_range = record { count_fits = omega arith; text_fits = omega arith } }

del_a_fits : IsEntry del_a.0 del_a.1
del_a_fits = record { key_least = omega arith; key_most = omega arith; in_range = record { count_fits = omega arith; text_fits = omega arith } }

-- a put, and then a put, a del and an add that are one record: 42 bytes of three entries
abbrev of_three : Entries
of_three = (codes "b", Base (record { count = 2; text = [] })) ∷ del_a ∷ (codes "c", Delta (record { count = 3; text = [] })) ∷ []

one_and_three_bytes : take 5 (drop 15 (blocks (((codes "a", Base (record { count = 1; text = [] })) ∷ []) ∷ of_three ∷ [])))
    ≡ 1 ∷ 5 ∷ 3 ∷ 0 ∷ 0x2a ∷ []
unfolding head spelling
one_and_three_bytes = refl

one_and_three_end : 15 + cost of_three ≡ 4158 - 4096
one_and_three_end = refl

-- the lane of these bytes has the two entries, whatever stands before the region and behind the closed gate
lane_of_both : (front behind : List ℕ) → length front ≡ 4096
    → HasEntries default_sizes 0 (record { entries = put_a ∷ del_a ∷ []; end = 32 }) (front ++ ((blocks put_and_del ++ 0 ∷ []) ++ behind))
unfolding head spelling
lane_of_both front behind long = record {
  records = put_and_del;
  has = record {
    each = All-cons IsLaneRecord (put_a ∷ []) ((del_a ∷ []) ∷ []) (one_record put_a.0 put_a.1 put_a_fits)
        (All-cons IsLaneRecord (del_a ∷ []) [] (one_record del_a.0 del_a.1 del_a_fits) (All-nil IsLaneRecord));
    gate = 0;
    closed = λ same. absurd (omega (arith, same));
    inside = omega arith;
    begins = ap (λ (l : List ℕ). take 33 l) (drop_at front ((blocks put_and_del ++ 0 ∷ []) ++ behind) 4096 long);
  };
  entries_are = refl;
  end_is = refl;
}

-- an open gate isn't the end
open_gate_is_no_end : (front behind : List ℕ) → length front ≡ 4096 → HasRecords default_sizes 0 [] (front ++ 1 ∷ behind) → ⊥
open_gate_is_no_end front behind long has =
    let first : 1 ∷ [] ≡ has.gate ∷ [] = sym (ap (λ (l : List ℕ). take 1 l) (drop_at front (1 ∷ behind) 4096 long)) ∙ has.begins in
    has.closed (sym (ap (λ (l : List ℕ). get_or l 0 0) first))

no_delta_is_zero : (tail : List ℕ) → kind_of_delta tail ≡ 0 → ⊥
no_delta_is_zero [] same = absurd (omega (arith, same))
no_delta_is_zero (byte ∷ tail) same = absurd (omega (arith, same))

no_kind_is_zero : (rec : Rec) → kind_of rec ≡ 0 → ⊥
no_kind_is_zero (Base value) same = absurd (omega (arith, same))
no_kind_is_zero (Delta change) same = no_delta_is_zero change.text same
no_kind_is_zero Tomb same = absurd (omega (arith, same))

-- no record begins with kind 0
no_zero : (es : Entries) (rest : List ℕ) → IsLaneRecord es → get_or (record_text es ++ rest) 0 0 ≡ 0 → ⊥
unfolding head spelling
no_zero [] rest is same = let some = is.some in omega (arith, some)
no_zero (e ∷ []) rest is same = no_kind_is_zero e.1 same
no_zero (e ∷ f ∷ es) rest is same = absurd (omega (arith, same))

first_taken : (n : ℕ) (behind : List ℕ) → get_or (take n (0 ∷ behind)) 0 0 ≡ 0
first_taken zero behind = refl
first_taken (suc n) behind = refl

-- an open gate and kind 0
no_kind : (front behind : List ℕ) → length front ≡ 4096 → IsDamaged default_sizes 0 (front ++ (1 ∷ 0 ∷ behind))
no_kind front behind long = (
  [],
  record {
    records = [];
    front = record { each = All-nil IsLaneRecord; inside = omega arith; begins = refl };
    entries_are = refl;
    opened = ap (λ (l : List ℕ). take 1 l) (drop_at front (1 ∷ 0 ∷ behind) 4096 long);
    no_record = λ es more.
        let n = length (blocks (es ∷ [])) in
        let first : take n (1 ∷ 0 ∷ behind) ≡ blocks (es ∷ []) = sym (ap (λ (l : List ℕ). take n l) (drop_at front (1 ∷ 0 ∷ behind) 4096 long))
        ∙ more.begins in
        no_zero es [] (All-head IsLaneRecord es [] more.each)
        (sym (ap (λ (l : List ℕ). get_or l 1 0) first) ∙ first_taken (length (record_text es ++ [])) behind);
  },
)
