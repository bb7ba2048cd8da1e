-- Records as bytes: how long they are, one entry more, what is read, and that they have one spelling.
use Rattle.std.proofs.lemmas.Bool.Decides.{nat_tests}
use Rattle.std.proofs.lemmas.Grind.{common_steps}
use Rattle.std.proofs.Common.{◌≡◌, ℕ, ◌+◌, ◌-◌, ◌*◌, ◌<◌, ◌≤◌, List, [], ◌∷◌, ◌++◌, length, get_or, take, drop, Option, Some, ◌^◌, refl}
use Rattle.std.proofs.Common.{ap, sym, subst, ◌∙◌, append_assoc, arith}
use Rattle.std.specs.List.{AllByRecursion}
use Rattle.std.proofs.lemmas.List.{append-nil, length-append, length-take, length-drop, map-append, take_more, take_at, drop_at, drop-drop, drop-take}
use Rattle.std.proofs.lemmas.List.{take-append-drop}
use Rattle.std.specs.Prelude.{unwrap_or}
use Rattle.std.specs.Int.{w16, from_be_bytes, to_be_bytes}
use Rattle.std.specs.List.{between}
use Rattle.std.proofs.lemmas.Nat.{be_bytes_2, from_be_bytes-to_be_bytes_2}
use Rattle.std.proofs.lemmas.List.Sums.{sum_by-append, sum_by-cons, sum_by-take-le}
use Rattle.blsm_model.specs.declared.op.Write.{Write}
use Rattle.blsm_model.specs.declared.op.Write.TheVariants.{Put, Add, Tail, Del}
use Rattle.blsm_model.specs.declared.key.Key.{Key}
use Rattle.blsm_model.specs.Legal.{total_weight}
use Rattle.blsm_model.specs.Values.{key_of, weight_of}
use Rattle.record_delta.specs.declared.record.Rec.{Rec}
use Rattle.record_delta.specs.declared.record.Rec.TheVariants.{Base, Delta, Tomb}
use Rattle.record_delta.specs.Records.{record_of, weight}
use Rattle.record_delta.specs.Entries.{Entries, entries_weight}
use Rattle.entry_codec.specs.Spelling.{spelling, BeginsWith, IsEntry}
use Rattle.entry_codec.proofs.SpellingLemmas.{length-spelling}
use Rattle.blsm_model.specs.Format.{most_weight}
use Rattle.entry_codec.specs.Spelling.{head, kind_of, kind_of_delta}
use Rattle.entry_codec.proofs.SpellingLemmas.{entry_same}
use Rattle.record_delta.specs.Several.{entries_of}
use Rattle.gated_log.specs.Records.{cost, head_len, pack_head, pack_text, record_text, spellings, AreFilled, AreKept, AreSpelled}
use Rattle.gated_log.specs.Records.{BeginsWithPack, BeginsWithRecord, IsLaneRecord}

-- ---- lengths

pub length-spellings : (es : Entries) → length (spellings es) ≡ entries_weight es
length-spellings [] = refl
length-spellings (e ∷ es) =
    omega (
      arith,
      length-append (spelling e.0 e.1) (spellings es),
      length-spelling e.0 e.1,
      length-spellings es,
      sum_by-cons (λ (e : Key × Rec). weight e.0 e.1) e es,
    )

spellings-append : (es fs : Entries) → spellings (es ++ fs) ≡ spellings es ++ spellings fs
spellings-append [] fs = refl
spellings-append (e ∷ es) fs = ap (λ (l : List ℕ). spelling e.0 e.1 ++ l) (spellings-append es fs)
    ∙ sym (append_assoc (spelling e.0 e.1) (spellings es) (spellings fs))

same_weight : (w : Write) → weight (key_of w) (record_of w) ≡ weight_of w
same_weight (Put key value) = refl
same_weight (Add key count) = refl
same_weight (Tail key tail) = refl
same_weight (Del key) = refl

pub writes_weight : (writes : List Write) → entries_weight (entries_of writes) ≡ total_weight writes
writes_weight [] = refl
writes_weight (w ∷ writes) =
    omega (
      arith,
      same_weight w,
      writes_weight writes,
      sum_by-cons weight_of w writes,
      sum_by-cons (λ (e : Key × Rec). weight e.0 e.1) (key_of w, record_of w) (entries_of writes),
    )

pub entry_weight : (e : Key × Rec) → IsEntry e.0 e.1 → (14 ≤ weight e.0 e.1) × (weight e.0 e.1 ≤ 512)
entry_weight e h1 = grind (arith, common_steps, nat_tests)

pub entries_many : (es : Entries) → AreSpelled es → entries_weight es ≤ 512 * length es
entries_many [] each = omega arith
entries_many (e ∷ es) each = omega (arith, sum_by-cons (λ (e : Key × Rec). weight e.0 e.1) e es, (entry_weight e each.0).1, entries_many es each.1)

-- ---- one entry more

all_of_both : {X : Type 0} (P : X → Type 0) (xs ys : List X) → AllByRecursion P xs → AllByRecursion P ys → AllByRecursion P (xs ++ ys)
all_of_both P [] ys all more = more
all_of_both P (x ∷ xs) ys all more = (all.0, all_of_both P xs ys all.1 more)

pub room_for : (writes : List Write) (i : ℕ) → entries_weight (entries_of (take i writes)) ≤ total_weight writes
room_for writes i = omega (arith, writes_weight (take i writes), sum_by-take-le weight_of writes i)

module _ (writes : List Write) (i : ℕ) (w : Write) (within : i < length writes) (is : w ≡ get_or writes i w) where
  more : entries_of (take (i + 1) writes) ≡ entries_of (take i writes) ++ entries_of (w ∷ [])
  more =
      ap entries_of (take_more writes i w within)
      ∙ ap (λ (v : Write). entries_of (take i writes ++ v ∷ [])) (sym is)
      ∙ map-append (λ (w : Write). (key_of w, record_of w)) (take i writes) (w ∷ [])

  pub text_more : spellings (entries_of (take (i + 1) writes)) ≡ spellings (entries_of (take i writes)) ++ spellings (entries_of (w ∷ []))
  text_more = ap spellings more ∙ spellings-append (entries_of (take i writes)) (entries_of (w ∷ []))

  pub weight_more : entries_weight (entries_of (take (i + 1) writes))
      ≡ entries_weight (entries_of (take i writes)) + entries_weight (entries_of (w ∷ []))
  weight_more = ap entries_weight more ∙ sum_by-append (λ (e : Key × Rec). weight e.0 e.1) (entries_of (take i writes)) (entries_of (w ∷ []))

  pub entries_more : AreSpelled (entries_of (take i writes)) → AreSpelled (entries_of (w ∷ [])) → AreSpelled (entries_of (take (i + 1) writes))
  entries_more each here =
      subst AreSpelled (sym more) (all_of_both (λ e. IsEntry e.0 e.1) (entries_of (take i writes)) (entries_of (w ∷ [])) each here)

-- ---- entries that fill bytes

abbrev answer_of : Key → Rec → ℕ → Option (Key × Rec × ℕ)
answer_of key rec n = Some (key, rec, n)

pub begins_long : (bytes : List ℕ) (key : Key) (rec : Rec) → BeginsWith bytes key rec → weight key rec ≤ length bytes
begins_long bytes key rec b = omega (arith, ap (length {A = ℕ}) b.parts, length-append (spelling key rec) b.rest, length-spelling key rec)

pub filled_more : (bytes rest : List ℕ) (key : Key) (rec : Rec) (n count : ℕ) (es : Entries) → BeginsWith bytes key rec → n ≡ weight key rec
    → rest ≡ drop n bytes → 0 < count
    → AreFilled (count - 1) rest es → AreFilled count bytes ((key, rec) ∷ es)
filled_more bytes rest key rec n count es b n_is rest_is some filled =
    let behind : rest ≡ b.rest = rest_is ∙ ap (drop n) b.parts ∙ drop_at (spelling key rec) b.rest n (omega (arith, length-spelling key rec)) in
    record {
      each = (b.entry, filled.each);
      many = omega (arith, filled.many);
      parts = b.parts ∙ ap (λ (l : List ℕ). spelling key rec ++ l) (sym behind ∙ filled.parts);
    }

-- the first of the entries that fill bytes
pub record HasFirst (count : ℕ) (bytes : List ℕ) : Type 0 where
  pub first : Key × Rec
  pub others : Entries
  pub begins : BeginsWith bytes first.0 first.1
  pub filled : AreFilled (count - 1) (drop (weight first.0 first.1) bytes) others

filled_first_of : (count : ℕ) (bytes : List ℕ) (es : Entries) → 0 < count → AreFilled count bytes es → HasFirst count bytes
filled_first_of count bytes [] some filled = absurd (omega (arith, filled.many))
filled_first_of count bytes (e ∷ es) some filled = record {
  first = e;
  others = es;
  begins = record { entry = filled.each.0; rest = spellings es; parts = filled.parts };
  filled = record {
    each = filled.each.1;
    many = omega (arith, filled.many);
    parts = ap (drop (weight e.0 e.1)) filled.parts ∙ drop_at (spelling e.0 e.1) (spellings es) (weight e.0 e.1) (length-spelling e.0 e.1);
  };
}

-- where the first entry is known, the others fill the bytes behind it
pub filled_behind : (count n : ℕ) (bytes behind : List ℕ) (key : Key) (rec : Rec)
    → ((k : Key) (r : Rec) → BeginsWith bytes k r → answer_of key rec n ≡ answer_of k r (weight k r)) → behind ≡ drop n bytes
    → (f : HasFirst count bytes) → AreFilled (count - 1) behind f.others
filled_behind count n bytes behind key rec only is f =
    let same : n ≡ weight f.first.0 f.first.1 =
    ap (λ (o : Option (Key × Rec × ℕ)). (unwrap_or o (key, rec, n)).2) (only f.first.0 f.first.1 f.begins) in
    subst (λ (l : List ℕ). AreFilled (count - 1) l f.others) (sym (is ∙ ap (λ (m : ℕ). drop m bytes) same)) f.filled

pub filled_first : (count : ℕ) (bytes : List ℕ) (es : Entries) → 0 < count → AreFilled count bytes es → HasFirst count bytes
filled_first count bytes es some filled = filled_first_of count bytes es some filled

-- ---- what is read

-- what the bytes of a batch say
pub record IsRead (bytes : List ℕ) (es : Entries) : Type 0 where
  pub kind : get_or bytes 0 0 ≡ 5
  pub count : get_or bytes 1 0 ≡ length es
  pub weight_is : from_be_bytes w16 (get_or bytes 2 0 ∷ get_or bytes 3 0 ∷ []) ≡ entries_weight es
  pub long : 4 + entries_weight es ≤ length bytes
  pub filled : AreFilled (length es) (take (entries_weight es) (drop 4 bytes)) es

pub read : (bytes : List ℕ) (es : Entries) → BeginsWithPack bytes es → IsRead bytes es
read bytes es b =
    let small : entries_weight es < 2 ^ 16 = omega (arith, entries_many es b.is.is.each, b.is.is.few) in
    record {
      kind = ap (λ (l : List ℕ). get_or l 0 0) b.parts;
      count = ap (λ (l : List ℕ). get_or l 1 0) b.parts;
      weight_is = ap (λ (l : List ℕ). from_be_bytes w16 (get_or l 2 0 ∷ get_or l 3 0 ∷ [])) b.parts
          ∙ from_be_bytes-to_be_bytes_2 (entries_weight es) small;
      long = omega (
        arith,
        ap (length {A = ℕ}) b.parts,
        length-append (pack_text es) b.rest,
        length-append (pack_head (length es) (entries_weight es)) (spellings es),
        length-spellings es,
      );
      filled = record {
        each = b.is.is.each;
        many = refl;
        parts = ap (λ (l : List ℕ). take (entries_weight es) (drop 4 l)) b.parts
            ∙ take_at (spellings es) b.rest (entries_weight es) (length-spellings es);
      };
    }

-- the same, of the part that is read by these numbers
pub part_filled : (bytes : List ℕ) (es : Entries) (n : ℕ) → IsRead bytes es → n ≡ entries_weight es
    → AreFilled (get_or bytes 1 0) (between 4 (4 + n) bytes) es
part_filled bytes es n r n_is =
    let own : between 4 (4 + n) bytes ≡ take (entries_weight es) (drop 4 bytes) = ap (λ (m : ℕ). take m (drop 4 bytes)) (omega (arith, n_is)) in
    record { each = r.filled.each; many = sym r.count; parts = own ∙ r.filled.parts }

cells : (bytes : List ℕ) → 4 ≤ length bytes → bytes ≡ get_or bytes 0 0 ∷ get_or bytes 1 0 ∷ get_or bytes 2 0 ∷ get_or bytes 3 0 ∷ drop 4 bytes
cells (b0 ∷ b1 ∷ b2 ∷ b3 ∷ rest) long = refl
cells _ long = absurd (omega arith)

abbrev IsBytes : List ℕ → Type 0
IsBytes bytes = (i : ℕ) → get_or bytes i 0 < 256

no_bytes : IsBytes []
no_bytes i = omega arith

one_byte_more : (b : ℕ) (bytes : List ℕ) → b < 256 → IsBytes bytes → IsBytes (b ∷ bytes)
one_byte_more b bytes h1 h2 = grind (arith, common_steps, nat_tests)

pair : (a b : ℕ) → a < 256 → b < 256 → to_be_bytes w16 (from_be_bytes w16 (a ∷ b ∷ [])) ≡ a ∷ b ∷ []
pair a b la lb = be_bytes_2 (a ∷ b ∷ []) (from_be_bytes w16 (a ∷ b ∷ [])) refl (one_byte_more a (b ∷ []) la (one_byte_more b [] lb no_bytes)) refl

headed : (bytes : List ℕ) (count weight : ℕ) → 4 ≤ length bytes → IsBytes bytes → get_or bytes 0 0 ≡ 5 → count ≡ get_or bytes 1 0
    → weight ≡ from_be_bytes w16 (get_or bytes 2 0 ∷ get_or bytes 3 0 ∷ []) → bytes ≡ pack_head count weight ++ drop 4 bytes
headed bytes count weight long fits kind count_is weight_is =
    let low : to_be_bytes w16 weight ≡ get_or bytes 2 0 ∷ get_or bytes 3 0 ∷ [] = ap (to_be_bytes w16) weight_is
    ∙ pair (get_or bytes 2 0) (get_or bytes 3 0) (fits 2) (fits 3) in
    cells bytes long
    ∙ ap (λ (n : ℕ). n ∷ get_or bytes 1 0 ∷ get_or bytes 2 0 ∷ get_or bytes 3 0 ∷ drop 4 bytes) kind
    ∙ ap (λ (n : ℕ). 5 ∷ n ∷ get_or bytes 2 0 ∷ get_or bytes 3 0 ∷ drop 4 bytes) (sym count_is)
    ∙ ap (λ (l : List ℕ). 5 ∷ count ∷ (l ++ drop 4 bytes)) (sym low)

pub made : (bytes : List ℕ) (count weight : ℕ) (es : Entries) → 4 ≤ length bytes → IsBytes bytes → get_or bytes 0 0 ≡ 5 → count ≡ get_or bytes 1 0
    → weight ≡ from_be_bytes w16 (get_or bytes 2 0 ∷ get_or bytes 3 0 ∷ []) → 2 ≤ count → count ≤ 32 → weight ≤ most_weight
    → 4 + weight ≤ length bytes
    → AreFilled count (between 4 (4 + weight) bytes) es → (es : Entries) × BeginsWithPack bytes es × (weight ≡ entries_weight es)
made bytes count weight es long fits kind count_is weight_is some few light whole filled =
    let own : between 4 (4 + weight) bytes ≡ take weight (drop 4 bytes) = ap (λ (n : ℕ). take n (drop 4 bytes)) (omega arith) in
    let weighs : weight ≡ entries_weight es =
    omega (arith, length-take weight (drop 4 bytes), length-drop 4 bytes, ap (length {A = ℕ}) (sym own ∙ filled.parts), length-spellings es) in (
      es,
      record {
        is = record {
          is = record {
            each = filled.each;
            some = omega (arith, filled.many);
            few = omega (arith, filled.many);
            light =
                omega (arith, weighs);
          };
          some = omega (arith, filled.many);
        };
        rest = drop weight (drop 4 bytes);
        parts =
            headed bytes count weight long fits kind count_is weight_is
            ∙ ap (λ (l : List ℕ). pack_head count weight ++ l) (sym (take-append-drop weight (drop 4 bytes))
            ∙ ap (λ (l : List ℕ). l ++ drop weight (drop 4 bytes)) (sym own ∙ filled.parts))
            ∙ rw (← filled.many, weighs) refl;
      },
      weighs,
    )

-- ---- records

pub head_of_pack : (es : Entries) → 2 ≤ length es → (record_text es ≡ pack_text es) × (head_len es ≡ 4)
head_of_pack [] two = absurd (omega (arith, two))
head_of_pack (e ∷ []) two = absurd (omega (arith, two))
head_of_pack (e ∷ f ∷ es) two = (refl, refl)

pub length-record : (es : Entries) → length (record_text es) ≡ head_len es + entries_weight es
length-record [] = refl
length-record (e ∷ []) = omega (arith, length-spelling e.0 e.1, sum_by-cons (λ (x : Key × Rec). weight x.0 x.1) e [])
length-record (e ∷ f ∷ es) =
    omega (
      arith,
      length-append (pack_head (length (e ∷ f ∷ es)) (entries_weight (e ∷ f ∷ es))) (spellings (e ∷ f ∷ es)),
      length-spellings (e ∷ f ∷ es),
    )

-- the entries stand behind the head
pub entries_part : (es : Entries) (rest : List ℕ) → take (entries_weight es) (drop (head_len es) (record_text es ++ rest)) ≡ spellings es
entries_part [] rest = refl
entries_part (e ∷ []) rest =
    ap (λ (l : List ℕ). take (entries_weight (e ∷ [])) (l ++ rest)) (sym (append-nil (spelling e.0 e.1)))
    ∙ take_at (spellings (e ∷ [])) rest (entries_weight (e ∷ [])) (length-spellings (e ∷ []))
entries_part (e ∷ f ∷ es) rest = take_at (spellings (e ∷ f ∷ es)) rest (entries_weight (e ∷ f ∷ es)) (length-spellings (e ∷ f ∷ es))

-- one entry is a record
pub one_record : (key : Key) (rec : Rec) → IsEntry key rec → IsLaneRecord ((key, rec) ∷ [])
one_record key rec entry = record {
  each = (entry, tt);
  some = omega arith;
  few = omega arith;
  light = omega (arith, (entry_weight (key, rec) entry).1, sum_by-cons (λ (x : Key × Rec). weight x.0 x.1) (key, rec) []);
}

pub cost_one : (key : Key) (rec : Rec) → cost ((key, rec) ∷ []) ≡ weight key rec + 1
cost_one key rec = omega (arith, sum_by-cons (λ (x : Key × Rec). weight x.0 x.1) (key, rec) [])

-- ---- a record has one spelling

pub spellings_same : (es fs : Entries) (x y : List ℕ) → AreSpelled es → AreSpelled fs → length es ≡ length fs → spellings es ++ x ≡ spellings fs ++ y
    → (es ≡ fs) × (x ≡ y)
spellings_same [] [] x y each_e each_f many same = (refl, same)
spellings_same [] (f ∷ fs) x y each_e each_f many same = absurd (omega (arith, many))
spellings_same (e ∷ es) [] x y each_e each_f many same = absurd (omega (arith, many))
spellings_same (e ∷ es) (f ∷ fs) x y each_e each_f many same =
    let first =
    entry_same e.0 f.0 e.1 f.1 (spellings es ++ x) (spellings fs ++ y) each_e.0 each_f.0
    (sym (append_assoc (spelling e.0 e.1) (spellings es) x) ∙ same ∙ append_assoc (spelling f.0 f.1) (spellings fs) y) in
    let others = spellings_same es fs x y each_e.1 each_f.1 (omega (arith, many)) first.2 in
    let same_first : e ≡ f = ap (λ (k : Key). (k, e.1)) first.0 ∙ ap (λ (r : Rec). (f.0, r)) first.1 in
    (ap (λ (x : Key × Rec). x ∷ es) same_first ∙ ap (λ (l : Entries). f ∷ l) others.0, others.1)

no_delta_is_five : (tail : List ℕ) → kind_of_delta tail ≡ 5 → ⊥
no_delta_is_five [] same = absurd (omega (arith, same))
no_delta_is_five (byte ∷ tail) same = absurd (omega (arith, same))

no_kind_is_five : (rec : Rec) → kind_of rec ≡ 5 → ⊥
no_kind_is_five (Base value) same = absurd (omega (arith, same))
no_kind_is_five (Delta change) same = no_delta_is_five change.text same
no_kind_is_five Tomb same = absurd (omega (arith, same))

-- no entry begins as several do
pub kinds_apart : (key : Key) (rec : Rec) (es : Entries) (x y : List ℕ) → spelling key rec ++ x ≡ pack_text es ++ y → ⊥
unfolding head spelling
kinds_apart key rec es x y same = no_kind_is_five rec (ap (λ (l : List ℕ). get_or l 0 0) same)

packs_same : (es fs : Entries) (x y : List ℕ) → IsLaneRecord es → IsLaneRecord fs → pack_text es ++ x ≡ pack_text fs ++ y → (es ≡ fs) × (x ≡ y)
packs_same es fs x y is_e is_f same =
    spellings_same es fs x y is_e.each is_f.each (ap (λ (l : List ℕ). get_or l 1 0) same) (ap (λ (l : List ℕ). drop 4 l) same)

pub record_same : (es fs : Entries) (x y : List ℕ) → IsLaneRecord es → IsLaneRecord fs → record_text es ++ x ≡ record_text fs ++ y
    → (es ≡ fs) × (x ≡ y)
record_same [] fs x y is_e is_f same = let some = is_e.some in absurd (omega (arith, some))
record_same (e ∷ es) [] x y is_e is_f same = let some = is_f.some in absurd (omega (arith, some))
record_same (e ∷ []) (f ∷ []) x y is_e is_f same =
    spellings_same (e ∷ []) (f ∷ []) x y is_e.each is_f.each refl
    (ap (λ (l : List ℕ). l ++ x) (append-nil (spelling e.0 e.1)) ∙ same ∙ ap (λ (l : List ℕ). l ++ y) (sym (append-nil (spelling f.0 f.1))))
record_same (e ∷ []) (f ∷ g ∷ fs) x y is_e is_f same = absurd (kinds_apart e.0 e.1 (f ∷ g ∷ fs) x y same)
record_same (e ∷ d ∷ es) (f ∷ []) x y is_e is_f same = absurd (kinds_apart f.0 f.1 (e ∷ d ∷ es) y x (sym same))
record_same (e ∷ d ∷ es) (f ∷ g ∷ fs) x y is_e is_f same = packs_same (e ∷ d ∷ es) (f ∷ g ∷ fs) x y is_e is_f same

-- ---- what is at the front of bytes

pub pack_begins : (bytes : List ℕ) (es : Entries) → BeginsWithPack bytes es → BeginsWithRecord bytes es × (head_len es ≡ 4)
pack_begins bytes es b =
    let whole = head_of_pack es b.is.some in
    (record { is = b.is.is; rest = b.rest; parts = b.parts ∙ ap (λ (l : List ℕ). l ++ b.rest) (sym whole.0) }, whole.1)

pub entry_begins : (bytes : List ℕ) (key : Key) (rec : Rec) → BeginsWith bytes key rec → BeginsWithRecord bytes ((key, rec) ∷ [])
entry_begins bytes key rec b = record { is = one_record key rec b.entry; rest = b.rest; parts = b.parts }

-- a record is one entry or several
pub no_record : (bytes : List ℕ) → ((es : Entries) → BeginsWithPack bytes es → ⊥) → ((key : Key) (rec : Rec) → BeginsWith bytes key rec → ⊥)
    → (es : Entries) → BeginsWithRecord bytes es → ⊥
no_record bytes pack entry [] b = let some = b.is.some in omega (arith, some)
no_record bytes pack entry (e ∷ []) b = entry e.0 e.1 (record { entry = b.is.each.0; rest = b.rest; parts = b.parts })
no_record bytes pack entry (e ∷ f ∷ es) b =
    pack (e ∷ f ∷ es) (record { is = record { is = b.is; some = omega arith }; rest = b.rest; parts = b.parts })

-- ---- entries that are kept

-- the first of them, and the others
pub record HasFirstKept (bytes rest : List ℕ) (key : Key) (rec : Rec) (es : Entries) : Type 0 where
  pub others : Entries
  pub is : es ≡ (key, rec) ∷ others
  pub each : AreSpelled others
  pub kept : spellings others ≡ rest

pub first_kept : (es : Entries) (rest : List ℕ) (key : Key) (rec : Rec) → AreSpelled es → IsEntry key rec → spellings es ≡ spelling key rec ++ rest
    → HasFirstKept (spellings es) rest key rec es
first_kept [] rest key rec each entry same =
    absurd (omega (arith, ap (length {A = ℕ}) same, length-append (spelling key rec) rest, length-spelling key rec))
first_kept (e ∷ es) rest key rec each entry same =
    let first = entry_same e.0 key e.1 rec (spellings es) rest each.0 entry same in
    let same_first : e ≡ (key, rec) = ap (λ (k : Key). (k, e.1)) first.0 ∙ ap (λ (r : Rec). (key, r)) first.1 in
    record { others = es; is = ap (λ (x : Key × Rec). x ∷ es) same_first; each = each.1; kept = first.2 }

pub kept_behind : (bytes : List ℕ) (key : Key) (rec : Rec) (n : ℕ) → AreKept bytes → BeginsWith bytes key rec → n ≡ weight key rec
    → (bytes ≡ spelling key rec ++ drop n bytes) × AreKept (drop n bytes)
kept_behind bytes key rec n kept b n_is =
    let behind : drop n bytes ≡ b.rest = ap (drop n) b.parts ∙ drop_at (spelling key rec) b.rest n (omega (arith, length-spelling key rec, n_is)) in
    let first = first_kept kept.entries b.rest key rec kept.each b.entry (sym kept.parts ∙ b.parts) in (
      b.parts ∙ ap (λ (l : List ℕ). spelling key rec ++ l) (sym behind),
      record { entries = first.others; each = first.each; parts = behind ∙ sym first.kept },
    )

-- some bytes that are entries begin with one
pub some_kept : (bytes : List ℕ) → AreKept bytes → 0 < length bytes → ((key : Key) (rec : Rec) → BeginsWith bytes key rec → ⊥) → ⊥
some_kept bytes kept some none = here kept.entries kept.each kept.parts
  where
    here : (es : Entries) → AreSpelled es → bytes ≡ spellings es → ⊥
    here [] each parts = omega (arith, some, ap (length {A = ℕ}) parts)
    here (e ∷ es) each parts = none e.0 e.1 (record { entry = each.0; rest = spellings es; parts = parts })

-- no bytes are no entries
pub none_left : (es : Entries) → spellings es ≡ [] → es ≡ []
none_left [] none = refl
none_left (e ∷ es) none = absurd (omega (arith, ap (length {A = ℕ}) none, length-append (spelling e.0 e.1) (spellings es), length-spelling e.0 e.1))

-- the same of a part of other bytes
pub part_behind : (bytes : List ℕ) (from to : ℕ) (key : Key) (rec : Rec) (n : ℕ) → from ≤ to → to ≤ length bytes → AreKept (between from to bytes)
    → BeginsWith (between from to bytes) key rec → n ≡ weight key rec
    → (from + n ≤ to) × (between from to bytes ≡ spelling key rec ++ between (from + n) to bytes) × AreKept (between (from + n) to bytes)
part_behind bytes from to key rec n low high kept b n_is =
    let long : weight key rec ≤ to - from = omega (arith, begins_long (between from to bytes) key rec b, length-take (to - from) (drop from bytes)) in
    let behind : drop n (between from to bytes) ≡ between (from + n) to bytes =
    ap (λ (m : ℕ). drop n (take m (drop from bytes))) (omega (arith, long, n_is))
    ∙ drop-take n (to - (from + n)) (drop from bytes)
    ∙ ap (λ (l : List ℕ). take (to - (from + n)) l) (drop-drop n from bytes) in
    let first = kept_behind (between from to bytes) key rec n kept b n_is in (
      omega (arith, long, n_is, low),
      first.0 ∙ ap (λ (l : List ℕ). spelling key rec ++ l) behind,
      subst AreKept behind first.1,
    )
