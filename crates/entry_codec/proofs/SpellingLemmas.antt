-- Spellings: how long they are, and that none begins another.
use Rattle.std.proofs.lemmas.Bool.Decides.{nat_tests}
use Rattle.std.proofs.lemmas.Grind.{common_steps}
use Rattle.std.proofs.Common.{◌≡◌, ℕ, ◌+◌, ◌^◌, ◌<◌, ◌≤◌, List, [], ◌∷◌, ◌++◌, length, get_or, take, drop, true, false, Option, Some, None, ◌⊎◌, refl, ap, sym, subst, ◌∙◌, append_assoc, length-append, length-drop, arith}
use Rattle.std.specs.Prelude.{IfSome, IfNone, is_some, unwrap_or}
use Rattle.std.specs.Int.{w16, w64, to_be_bytes, from_be_bytes}
use Rattle.std.proofs.lemmas.Bool.{false≢true}
use Rattle.std.proofs.lemmas.List.{take_at, drop_at, take-append-drop, take-append-le, length-take}
use Rattle.std.proofs.lemmas.Nat.{be_bytes_2, from_be_bytes-to_be_bytes_2, from_be_bytes-to_be_bytes_8}
use Rattle.blsm_model.specs.declared.key.Key.{Key}
use Rattle.record_delta.specs.declared.record.Rec.{Rec}
use Rattle.record_delta.specs.declared.record.Rec.TheVariants.{Delta}
use Rattle.blsm_model.specs.Format.{most_text}
use Rattle.record_delta.specs.Records.{count_of, text_of, weight}
use Rattle.record_delta.proofs.FoldingLemmas.{text_is_short}
use Rattle.entry_codec.specs.declared.decoding.Head.{Head}
use Rattle.entry_codec.specs.Spelling.{kind_of, head, head_of, spelling, IsEntry, BeginsWith}
use Rattle.entry_codec.specs.Reading.{InRange, AreAt, IsOf, HasParts}

-- ---- lengths

pub length-head : (kind key_len text_len count : ℕ) → length (head kind key_len text_len count) ≡ 13
unfolding head
length-head kind key_len text_len count = refl

pub length-spelling : (key : Key) (rec : Rec) → length (spelling key rec) ≡ weight key rec
unfolding spelling
length-spelling key rec =
    omega (arith, length-append (head_of key rec ++ key) (text_of rec), length-append (head_of key rec) key, length-head (kind_of rec) (length key) (length (text_of rec)) (count_of rec))

-- ---- the head

abbrev pub IsBytes : List ℕ → Type 0
IsBytes bytes = (i : ℕ) → get_or bytes i 0 < 256

no_bytes : IsBytes []
no_bytes i = omega arith

one_more : (b : ℕ) (bytes : List ℕ) → b < 256 → IsBytes bytes → IsBytes (b ∷ bytes)
one_more b bytes h1 h2 = grind (arith, common_steps, nat_tests)

-- the cells of the head, one by one
cells : (bytes : List ℕ) → 13 ≤ length bytes → bytes ≡
    get_or bytes 0 0 ∷ get_or bytes 1 0 ∷ get_or bytes 2 0 ∷ get_or bytes 3 0 ∷ get_or bytes 4 0 ∷ get_or bytes 5 0 ∷ get_or bytes 6 0 ∷ get_or bytes 7 0
    ∷ get_or bytes 8 0 ∷ get_or bytes 9 0 ∷ get_or bytes 10 0 ∷ get_or bytes 11 0 ∷ get_or bytes 12 0 ∷ drop 13 bytes
cells (b0 ∷ b1 ∷ b2 ∷ b3 ∷ b4 ∷ b5 ∷ b6 ∷ b7 ∷ b8 ∷ b9 ∷ b10 ∷ b11 ∷ b12 ∷ rest) long = refl
cells _ long = absurd (omega arith)

-- numbers that are read and written again
pair : (a b : ℕ) → a < 256 → b < 256 → to_be_bytes w16 (from_be_bytes w16 (a ∷ b ∷ [])) ≡ a ∷ b ∷ []
pair a b la lb = be_bytes_2 (a ∷ b ∷ []) (from_be_bytes w16 (a ∷ b ∷ [])) refl (one_more a (b ∷ []) la (one_more b [] lb no_bytes)) refl

eight : (a b c d e f g h : ℕ) → a < 256 → b < 256 → c < 256 → d < 256 → e < 256 → f < 256 → g < 256 → h < 256
    → to_be_bytes w64 (from_be_bytes w64 (a ∷ b ∷ c ∷ d ∷ e ∷ f ∷ g ∷ h ∷ [])) ≡ a ∷ b ∷ c ∷ d ∷ e ∷ f ∷ g ∷ h ∷ []
eight a b c d e f g h h1 h2 h3 h4 h5 h6 h7 h8 = grind (arith, common_steps, nat_tests)

glue : ℕ → List ℕ → List ℕ → List ℕ → List ℕ → List ℕ
glue kind key_len text_len count rest = (kind ∷ (key_len ++ text_len ++ count)) ++ rest

-- thirteen bytes or more begin with the head of the numbers that are read there
pub head_read : (bytes : List ℕ) → 13 ≤ length bytes → IsBytes bytes → bytes ≡
    head (get_or bytes 0 0) (from_be_bytes w16 (get_or bytes 1 0 ∷ get_or bytes 2 0 ∷ [])) (from_be_bytes w16 (get_or bytes 3 0 ∷ get_or bytes 4 0 ∷ []))
    (from_be_bytes w64 (get_or bytes 5 0 ∷ get_or bytes 6 0 ∷ get_or bytes 7 0 ∷ get_or bytes 8 0 ∷ get_or bytes 9 0 ∷ get_or bytes 10 0 ∷ get_or bytes 11 0 ∷ get_or bytes 12 0 ∷ []))
    ++ drop 13 bytes
unfolding head glue
head_read bytes long fits =
    let rest : List ℕ = drop 13 bytes in
    let kind : ℕ = get_or bytes 0 0 in
    let key_len : List ℕ = get_or bytes 1 0 ∷ get_or bytes 2 0 ∷ [] in
    let text_len : List ℕ = get_or bytes 3 0 ∷ get_or bytes 4 0 ∷ [] in
    let count : List ℕ = get_or bytes 5 0 ∷ get_or bytes 6 0 ∷ get_or bytes 7 0 ∷ get_or bytes 8 0 ∷ get_or bytes 9 0 ∷ get_or bytes 10 0 ∷ get_or bytes 11 0 ∷ get_or bytes 12 0 ∷ [] in
    cells bytes long
    ∙ sym (
    ap (λ n. glue kind n (to_be_bytes w16 (from_be_bytes w16 text_len)) (to_be_bytes w64 (from_be_bytes w64 count)) rest) (pair _ _ (fits 1) (fits 2))
    ∙ ap (λ n. glue kind key_len n (to_be_bytes w64 (from_be_bytes w64 count)) rest) (pair _ _ (fits 3) (fits 4))
    ∙ ap (λ n. glue kind key_len text_len n rest) (eight _ _ _ _ _ _ _ _ (fits 5) (fits 6) (fits 7) (fits 8) (fits 9) (fits 10) (fits 11) (fits 12)))

-- two fronts of one length
front_same : (a b x y : List ℕ) → length a ≡ length b → a ++ x ≡ b ++ y → (a ≡ b) × (x ≡ y)
front_same a b x y len same = (
  sym (take_at a x (length b) len) ∙ ap (take (length b)) same ∙ take_at b y (length b) refl,
  sym (drop_at a x (length b) len) ∙ ap (drop (length b)) same ∙ drop_at b y (length b) refl,
)

-- two heads of the same numbers
pub record SameHead (kind key_len text_len count kind' key_len' text_len' count' : ℕ) (x y : List ℕ) : Type 0 where
  pub kind_is : kind ≡ kind'
  pub key_len_is : key_len ≡ key_len'
  pub text_len_is : text_len ≡ text_len'
  pub count_is : count ≡ count'
  pub rest_is : x ≡ y

same16 : (n m : ℕ) → n < 2 ^ 16 → m < 2 ^ 16 → to_be_bytes w16 n ≡ to_be_bytes w16 m → n ≡ m
same16 n m ln lm e = sym (from_be_bytes-to_be_bytes_2 n ln) ∙ ap (from_be_bytes w16) e ∙ from_be_bytes-to_be_bytes_2 m lm

same64 : (n m : ℕ) → n < 2 ^ 64 → m < 2 ^ 64 → to_be_bytes w64 n ≡ to_be_bytes w64 m → n ≡ m
same64 n m ln lm e = sym (from_be_bytes-to_be_bytes_8 n ln) ∙ ap (from_be_bytes w64) e ∙ from_be_bytes-to_be_bytes_8 m lm

pub head_same : (kind key_len text_len count kind' key_len' text_len' count' : ℕ) (x y : List ℕ)
    → key_len < 2 ^ 16 → key_len' < 2 ^ 16 → text_len < 2 ^ 16 → text_len' < 2 ^ 16 → count < 2 ^ 64 → count' < 2 ^ 64
    → head kind key_len text_len count ++ x ≡ head kind' key_len' text_len' count' ++ y
    → SameHead kind key_len text_len count kind' key_len' text_len' count' x y
unfolding head
head_same kind key_len text_len count kind' key_len' text_len' count' x y k k' t t' c c' same =
    let parts = front_same (head kind key_len text_len count) (head kind' key_len' text_len' count') x y refl same in
    record {
      kind_is = ap (λ l. get_or l 0 0) parts.0;
      key_len_is = same16 key_len key_len' k k' (ap (λ l. take 2 (drop 1 l)) parts.0);
      text_len_is = same16 text_len text_len' t t' (ap (λ l. take 2 (drop 3 l)) parts.0);
      count_is = same64 count count' c c' (ap (λ l. take 8 (drop 5 l)) parts.0);
      rest_is = parts.1;
    }

-- ---- entries

-- a tail has a record, where it isn't empty and no longer than tails are
pub tail_record : (kind count : ℕ) (text : List ℕ) → kind ≡ 4 → (length text ≡ 0 → ⊥) → length text ≤ 64 → (rec : Rec) × IsOf kind count text rec
tail_record kind count [] is some fits = absurd (some refl)
tail_record kind count (byte ∷ text) is some fits = (Delta (record { count = count; text = byte ∷ text }), record { kind_is = sym is; count_is = refl; text_is = refl; fits = fits })

-- a record is its kind, its count and its text
pub rec_same : (r s : Rec) → kind_of r ≡ kind_of s → count_of r ≡ count_of s → text_of r ≡ text_of s → r ≡ s
rec_same r s h1 h2 h3 = grind (arith, common_steps, nat_tests)

-- the head, and then the key and the text
pub spelled : (key : Key) (rec : Rec) (rest : List ℕ) → spelling key rec ++ rest ≡ head_of key rec ++ (key ++ text_of rec ++ rest)
unfolding spelling
spelled key rec rest =
    append_assoc (head_of key rec ++ key) (text_of rec) rest ∙ append_assoc (head_of key rec) key (text_of rec ++ rest)
    ∙ ap (λ l. head_of key rec ++ l) (sym (append_assoc key (text_of rec) rest))

-- ---- what is read is spelled so, and what is spelled so is read

pub to_parts : (bytes rest : List ℕ) (h : Head) (key : Key) (rec : Rec) → InRange h → bytes ≡ head h.kind h.key_len h.text_len h.count ++ rest
    → BeginsWith bytes key rec → HasParts h rest key rec
to_parts bytes rest h key rec range read b =
    let whole : head_of key rec ++ (key ++ text_of rec ++ b.rest) ≡ head h.kind h.key_len h.text_len h.count ++ rest = sym (spelled key rec b.rest) ∙ sym b.parts ∙ read in
    let e = b.entry in
    let key_most = e.key_most in
    let text_most = text_is_short rec e.in_range.text_fits in
    let same = head_same (kind_of rec) (length key) (length (text_of rec)) (count_of rec) h.kind h.key_len h.text_len h.count (key ++ text_of rec ++ b.rest) rest
    (omega arith) range.key_len (omega arith) range.text_len e.in_range.count_fits range.count whole in
    record {
      entry = b.entry;
      kind_is = same.kind_is;
      key_len_is = same.key_len_is;
      text_len_is = same.text_len_is;
      count_is = same.count_is;
      rest = b.rest;
      parts = sym same.rest_is;
    }

pub from_parts : (bytes rest : List ℕ) (h : Head) (key : Key) (rec : Rec) → bytes ≡ head h.kind h.key_len h.text_len h.count ++ rest
    → HasParts h rest key rec → BeginsWith bytes key rec
from_parts bytes rest h key rec read p =
    let heads : head_of key rec ≡ head h.kind h.key_len h.text_len h.count = rw (p.kind_is, p.key_len_is, p.text_len_is, p.count_is) refl in
    record {
      entry = p.entry;
      rest = p.rest;
      parts = read ∙ ap (λ l. l ++ rest) (sym heads) ∙ ap (λ l. head_of key rec ++ l) p.parts ∙ sym (spelled key rec p.rest);
    }

-- where two spellings begin the same bytes, they are of one entry
pub entry_same : (a b : Key) (r s : Rec) (x y : List ℕ) → IsEntry a r → IsEntry b s → spelling a r ++ x ≡ spelling b s ++ y → (a ≡ b) × (r ≡ s) × (x ≡ y)
entry_same a b r s x y ea eb same =
    let ka = ea.key_most in
    let kb = eb.key_most in
    let ta = text_is_short r ea.in_range.text_fits in
    let tb = text_is_short s eb.in_range.text_fits in
    let heads = head_same (kind_of r) (length a) (length (text_of r)) (count_of r) (kind_of s) (length b) (length (text_of s)) (count_of s) (a ++ text_of r ++ x) (b ++ text_of s ++ y)
    (omega arith) (omega arith) (omega arith) (omega arith) ea.in_range.count_fits eb.in_range.count_fits (sym (spelled a r x) ∙ same ∙ spelled b s y) in
    let keys = front_same a b (text_of r ++ x) (text_of s ++ y) heads.key_len_is (sym (append_assoc a (text_of r) x) ∙ heads.rest_is ∙ append_assoc b (text_of s) y) in
    let texts = front_same (text_of r) (text_of s) x y heads.text_len_is keys.1 in
    (keys.0, rec_same r s heads.kind_is heads.count_is texts.0, texts.1)

-- too few bytes for any entry
pub too_short : (bytes : List ℕ) → length bytes < 13 → (key : Key) (rec : Rec) → BeginsWith bytes key rec → ⊥
too_short bytes short key rec b = omega (arith, ap (length {A = ℕ}) b.parts, length-append (spelling key rec) b.rest, length-spelling key rec)

-- the parts of the entry at the front of bytes stand behind the head that is read there
pub parts_behind : (bytes behind : List ℕ) (h : Head) (key : Key) (rec : Rec) → InRange h → bytes ≡ head h.kind h.key_len h.text_len h.count ++ drop 13 bytes
    → behind ≡ drop 13 bytes → BeginsWith bytes key rec → HasParts h behind key rec
parts_behind bytes behind h key rec range read is begins =
    to_parts bytes behind h key rec range (read ∙ ap (λ l. head h.kind h.key_len h.text_len h.count ++ l) (sym is)) begins

-- bytes with an entry at their front have a head there
pub long_enough : (bytes : List ℕ) (key : Key) (rec : Rec) → BeginsWith bytes key rec → 13 ≤ length bytes
long_enough bytes key rec b = omega (arith, ap (length {A = ℕ}) b.parts, length-append (spelling key rec) b.rest, length-spelling key rec)

-- ---- part by part

pub key_bounds : (n : ℕ) → ((n ≡ 0) ⊎ (64 < n) → true ≡ false) → (1 ≤ n) × (n ≤ 64)
key_bounds n h1 = grind (arith, common_steps, nat_tests)

pub text_bound : (n : ℕ) → (435 < n → true ≡ false) → n ≤ 435
text_bound n h1 = grind (arith, common_steps, nat_tests)

pub are_read : (bytes : List ℕ) (key_len text_len : ℕ) (key text : List ℕ) → key_len + text_len ≤ length bytes → key ≡ take key_len bytes → text ≡ take text_len (drop key_len bytes)
    → (1 ≤ length key) × (length key ≤ 64) → length text ≤ 435 → AreAt bytes key_len text_len key text
are_read bytes key_len text_len key text long key_is text_is key_fits text_fits =
    record {
      key_len_is = omega (arith, ap (length {A = ℕ}) key_is, length-take key_len bytes);
      text_len_is = omega (arith, ap (length {A = ℕ}) text_is, length-take text_len (drop key_len bytes), length-drop key_len bytes);
      key_least = key_fits.0;
      key_most = key_fits.1;
      text_most = text_fits;
      rest = drop text_len (drop key_len bytes);
      parts =
          sym (take-append-drop key_len bytes)
          ∙ ap (λ l. take key_len bytes ++ l) (sym (take-append-drop text_len (drop key_len bytes)))
          ∙ sym (append_assoc (take key_len bytes) (take text_len (drop key_len bytes)) (drop text_len (drop key_len bytes)))
          ∙ ap (λ l. l ++ take text_len (drop key_len bytes) ++ drop text_len (drop key_len bytes)) (sym key_is)
          ∙ ap (λ l. key ++ l ++ drop text_len (drop key_len bytes)) (sym text_is);
    }

pub key_and_text_at : (h : Head) (bytes : List ℕ) (key : Key) (rec : Rec) → HasParts h bytes key rec → AreAt bytes h.key_len h.text_len key (text_of rec)
key_and_text_at h bytes key rec h1 = grind (arith, common_steps, nat_tests)

pub of_kind : (h : Head) (bytes : List ℕ) (key : Key) (rec : Rec) (text : List ℕ) → HasParts h bytes key rec → text_of rec ≡ text → IsOf h.kind h.count text rec
of_kind h bytes key rec text p text_is = record { kind_is = p.kind_is; count_is = p.count_is; text_is = text_is; fits = p.entry.in_range.text_fits }

abbrev pub both : List ℕ → List ℕ → Option (List ℕ × List ℕ)
both a b = Some (a, b)

pub first_is : (a b c d : List ℕ) → both a b ≡ both c d → a ≡ c
first_is a b c d e = ap (λ (o : Option (List ℕ × List ℕ)). (unwrap_or o (a, b)).0) e

pub second_is : (a b c d : List ℕ) → both a b ≡ both c d → b ≡ d
second_is a b c d e = ap (λ (o : Option (List ℕ × List ℕ)). (unwrap_or o (a, b)).1) e

abbrev pub answer_of : Key → Rec → Option (Key × Rec × ℕ)
answer_of key rec = Some (key, rec, weight key rec)

nothing_is_no_answer : (key : Key) (rec : Rec) → None ≡ answer_of key rec → ⊥
nothing_is_no_answer key rec e = false≢true (ap is_some e)

pub none_whole : (bytes : List ℕ) (r : Option (Key × Rec × ℕ)) → ((key : Key) (rec : Rec) → BeginsWith bytes key rec → r ≡ answer_of key rec)
    → IfNone r ((key : Key) (rec : Rec) → BeginsWith bytes key rec → ⊥)
none_whole bytes None only = λ key rec begins. nothing_is_no_answer key rec (only key rec begins)
none_whole bytes (Some e) only = tt

pub found_whole : (bytes tail : List ℕ) (h : Head) (r : Option (Key × Rec × ℕ)) → bytes ≡ head h.kind h.key_len h.text_len h.count ++ tail
    → IfSome r (λ e. HasParts h tail e.0 e.1 × (e.2 ≡ weight e.0 e.1)) → IfSome r (λ e. BeginsWith bytes e.0 e.1 × (e.2 ≡ weight e.0 e.1))
found_whole bytes tail h r h1 h2 = grind (arith, common_steps, nat_tests, from_parts)

-- ---- the key alone

pub no_text : (text : List ℕ) → length text ≡ 0 → text ≡ []
no_text text h1 = grind (arith, common_steps, nat_tests)

pub to_kind : (h : Head) (bytes : List ℕ) (key : Key) (rec : Rec) → HasParts h bytes key rec → IsOf h.kind h.count (text_of rec) rec
to_kind h bytes key rec p = of_kind h bytes key rec (text_of rec) p refl

-- where the numbers of a head are right, the bytes behind it are a key and a text, if they are as many
pub from_head : (h : Head) (bytes : List ℕ) → h.count < 2 ^ 64 → 1 ≤ h.key_len → h.key_len ≤ 64 → h.text_len ≤ 435 → h.key_len + h.text_len ≤ length bytes
    → ((text : List ℕ) → length text ≡ h.text_len → length text ≤ most_text → (rec : Rec) × IsOf h.kind h.count text rec) → (rec : Rec) × HasParts h bytes (take h.key_len bytes) rec
from_head h bytes count_fits key_least key_most text_most long records =
    let key : List ℕ = take h.key_len bytes in
    let text : List ℕ = take h.text_len (drop h.key_len bytes) in
    let key_len : length key ≡ h.key_len = omega (arith, length-take h.key_len bytes, long) in
    let text_len : length text ≡ h.text_len = omega (arith, length-take h.text_len (drop h.key_len bytes), length-drop h.key_len bytes, long) in
    let at = are_read bytes h.key_len h.text_len key text long refl refl (omega (arith, key_len, key_least), omega (arith, key_len, key_most)) (omega (arith, text_len, text_most)) in
    let of = records text text_len at.text_most in
    let is = of.1 in (
      of.0,
      record {
        entry = record {
          key_least = at.key_least;
          key_most = at.key_most;
          in_range = record { count_fits = omega (arith, is.count_is, count_fits); text_fits = is.fits };
        };
        kind_is = is.kind_is;
        key_len_is = key_len;
        text_len_is = omega (arith, ap (length {A = ℕ}) is.text_is, text_len);
        count_is = is.count_is;
        rest = at.rest;
        parts = subst (λ (l : List ℕ). bytes ≡ key ++ l ++ at.rest) (sym is.text_is) at.parts;
      },
    )

-- too few bytes for a head's key and text
pub too_few : (h : Head) (bytes : List ℕ) (key : Key) (rec : Rec) → HasParts h bytes key rec → length bytes < h.key_len + h.text_len → ⊥
too_few h bytes key rec h1 h2 = grind (arith, common_steps, nat_tests)

pub found_key : (bytes tail there : List ℕ) (h : Head) (rec : Rec) → bytes ≡ head h.kind h.key_len h.text_len h.count ++ tail → tail ≡ there
    → HasParts h tail (take h.key_len tail) rec
    → (r : Rec) × BeginsWith bytes (take h.key_len there) r × (13 + (h.key_len + h.text_len) ≡ weight (take h.key_len there) r)
found_key bytes tail there h rec h1 h2 h3 = grind (arith, common_steps, nat_tests, from_parts)

-- ---- bytes behind an entry

pub begins_more : (bytes more : List ℕ) (key : Key) (rec : Rec) → BeginsWith bytes key rec → BeginsWith (bytes ++ more) key rec
begins_more bytes more key rec h1 = grind (arith, common_steps, nat_tests)

pub begins_fewer : (bytes more : List ℕ) (key : Key) (rec : Rec) → weight key rec ≤ length bytes → BeginsWith (bytes ++ more) key rec → BeginsWith bytes key rec
begins_fewer bytes more key rec long b =
    let n = weight key rec in
    let front : take n bytes ≡ spelling key rec =
    sym (take-append-le n bytes more long) ∙ ap (take n) b.parts ∙ take_at (spelling key rec) b.rest n (length-spelling key rec) in
    record { entry = b.entry; rest = drop n bytes; parts = sym (take-append-drop n bytes) ∙ ap (λ l. l ++ drop n bytes) front }
