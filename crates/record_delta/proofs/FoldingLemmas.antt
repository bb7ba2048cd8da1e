-- What a record stands for after one more write.
use Rattle.std.proofs.Common.{◌≡◌, ℕ, ◌+◌, ◌%◌, ◌^◌, ◌<◌, ◌≤◌, ◌++◌, zero, suc, List, [], ◌∷◌, Bool, cond, true, false, Some, None, Option, refl, ap, sym, ◌∙◌, ◌⊎◌, inl, inr, length, zero-add, append_assoc, arith}
use Rattle.std.specs.Cmp.Lexicographic.{bytes_decides}
use Rattle.blsm_model.specs.declared.key.Key.{Key}
use Rattle.blsm_model.specs.declared.row.Value.{Value}
use Rattle.blsm_model.specs.declared.op.Write.{Write}
use Rattle.blsm_model.specs.declared.op.Write.TheVariants.{Put, Add, Tail, Del}
use Rattle.blsm_model.specs.Format.{most_tail, most_text, most_weight, overhead}
use Rattle.blsm_model.specs.Keys.{same_key}
use Rattle.std.proofs.Math.Nat.{mod-eq_of_lt, mod-add-mod}
use Rattle.blsm_model.specs.Values.{key_of, base_of, value_at}
use Rattle.blsm_model.proofs.ValueLemmas.{value_at-put, value_at-add, value_at-tail, value_at-del, value_at-other}
use Rattle.blsm_model.proofs.TailLemmas.{tails_join, tail_alone, tail_at_least, tail_at_most, tail_within}
use Rattle.blsm_model.specs.Tails.{with_tail, TailFits}
use Rattle.record_delta.specs.declared.record.Rec.{Rec}
use Rattle.record_delta.specs.declared.record.Rec.TheVariants.{Base, Delta, Tomb}
use Rattle.record_delta.specs.Records.{Change, IsRecord, IsWithin, alone, settled, text_limit, text_of, weight, writes_of_change, writes_of_record}
use Rattle.record_delta.specs.Kinds.{added, tailed}
use Rattle.record_delta.specs.KindLemmas.{added_twice}
use Rattle.record_delta.specs.Folding.{change_over, changed, fold, over, StandsFor, kept_after, StandsForMore}

by_test : (b : Bool) → (b ≡ true) ⊎ (b ≡ false)
by_test true = inl refl
by_test false = inr refl

-- another key's write changes nothing
stands_apart : (write : Write) (rec : Rec) (key : Key) (kept : Option Rec) (writes : List Write) → same_key (key_of write) key ≡ false → StandsFor kept writes key
    → StandsFor (kept_after write rec key kept) (writes ++ write ∷ []) key
stands_apart write rec key kept writes apart stood = ap (λ b. settled (cond b (Some (over rec kept)) kept)) apart ∙ stood ∙ sym (value_at-other writes write key apart)

-- a write of the key, if the value is right then
stands_same : (write : Write) (rec : Rec) (key : Key) (kept : Option Rec) (writes : List Write) → same_key (key_of write) key ≡ true
    → settled (Some (over rec kept)) ≡ value_at (writes ++ write ∷ []) key → StandsFor (kept_after write rec key kept) (writes ++ write ∷ []) key
stands_same write rec key kept writes same right = ap (λ b. settled (cond b (Some (over rec kept)) kept)) same ∙ right

put_over : (value : Value) (kept : Option Rec) → settled (Some (over (Base value) kept)) ≡ Some value
put_over value None = refl
put_over value (Some rec) = refl

del_over : (kept : Option Rec) → settled (Some (over Tomb kept)) ≡ None
del_over None = refl
del_over (Some rec) = refl

pub stands_put : (at : Key) (value : Value) → StandsForMore (Put at value) (Base value)
stands_put at value key kept writes stood =
    elim (by_test (same_key at key)) [
      | inl same ↦ stands_same (Put at value) (Base value) key kept writes same (put_over value kept ∙ sym (value_at-put writes at key value same))
      | inr apart ↦ stands_apart (Put at value) (Base value) key kept writes apart stood
    ]

pub stands_del : (at : Key) → StandsForMore (Del at) Tomb
stands_del at key kept writes stood =
    elim (by_test (same_key at key)) [
      | inl same ↦ stands_same (Del at) Tomb key kept writes same (del_over kept ∙ sym (value_at-del writes at key same))
      | inr apart ↦ stands_apart (Del at) Tomb key kept writes apart stood
    ]

-- a count that fits is itself after nothing
from_nothing : (count : ℕ) → count < 2 ^ 64 → count ≡ (0 + count) % 2 ^ 64
from_nothing count fits = sym (ap (λ n. n % 2 ^ 64) (zero-add count) ∙ mod-eq_of_lt fits)

changed_any : Option Value → Change → Value
changed_any below change = changed change (base_of below)

alone_is : (change : Change) → change.count < 2 ^ 64 → length change.text ≤ most_tail → alone change ≡ changed_any None change
unfolding changed_any
alone_is change counts fits =
    ap (λ n. record { count = n; text = change.text }) (from_nothing change.count counts) ∙ ap (λ text. record { count = added change.count 0; text = text }) (sym (tail_alone change.text fits))

change_over_any : (change : Change) (kept : Option Rec) → change.count < 2 ^ 64 → length change.text ≤ most_tail → settled (Some (over (Delta change) kept)) ≡ Some (changed_any (settled kept) change)
unfolding changed_any
change_over_any change None counts fits = ap (λ v. Some v) (alone_is change counts fits)
change_over_any change (Some (Base value)) counts fits = refl
change_over_any change (Some (Delta below)) counts fits = refl
change_over_any change (Some Tomb) counts fits = ap (λ v. Some v) (alone_is change counts fits)

-- what the writes of a change leave of the value of their key, and of another
once_more : (count : ℕ) → (count % 2 ^ 64 + 0) % 2 ^ 64 ≡ count % 2 ^ 64
once_more count = let same : count + 0 ≡ count = omega arith in mod-add-mod count (2 ^ 64) 0 ∙ ap (λ n. n % 2 ^ 64) same

change_writes : (at key : Key) (amount : ℕ) (tail : List ℕ) (writes : List Write) → same_key at key ≡ true
    → value_at (writes ++ writes_of_change at amount tail) key ≡ Some (changed_any (value_at writes key) (record { count = amount; text = tail }))
unfolding changed_any
change_writes at key amount [] writes same = value_at-add writes at key amount same
change_writes at key zero (byte ∷ tail) writes same = value_at-tail writes at key (byte ∷ tail) same
change_writes at key (suc amount) (byte ∷ tail) writes same =
    ap (λ ws. value_at ws key) (sym (append_assoc writes (Add at (suc amount) ∷ []) (Tail at (byte ∷ tail) ∷ [])))
    ∙ value_at-tail (writes ++ Add at (suc amount) ∷ []) at key (byte ∷ tail) same
    ∙ ap (λ (o : Option Value). Some (record { count = ((base_of o).count + 0) % 2 ^ 64; text = with_tail (base_of o).text (byte ∷ tail) })) (value_at-add writes at key (suc amount) same)
    ∙ ap (λ n. Some (record { count = n; text = with_tail (base_of (value_at writes key)).text (byte ∷ tail) })) (once_more ((base_of (value_at writes key)).count + suc amount))

change_apart : (at key : Key) (amount : ℕ) (tail : List ℕ) (writes : List Write) → same_key at key ≡ false → value_at (writes ++ writes_of_change at amount tail) key ≡ value_at writes key
change_apart at key amount [] writes apart = value_at-other writes (Add at amount) key apart
change_apart at key zero (byte ∷ tail) writes apart = value_at-other writes (Tail at (byte ∷ tail)) key apart
change_apart at key (suc amount) (byte ∷ tail) writes apart =
    ap (λ ws. value_at ws key) (sym (append_assoc writes (Add at (suc amount) ∷ []) (Tail at (byte ∷ tail) ∷ [])))
    ∙ value_at-other (writes ++ Add at (suc amount) ∷ []) (Tail at (byte ∷ tail)) key apart ∙ value_at-other writes (Add at (suc amount)) key apart

stands_change : (at : Key) (change : Change) → change.count < 2 ^ 64 → length change.text ≤ most_tail → (key : Key) (kept : Option Rec) (writes : List Write) → StandsFor kept writes key
    → StandsFor (cond (same_key at key) (Some (over (Delta change) kept)) kept) (writes ++ writes_of_change at change.count change.text) key
stands_change at change counts fits key kept writes stood =
    elim (by_test (same_key at key)) [
      | inl same ↦
          ap (λ b. settled (cond b (Some (over (Delta change) kept)) kept)) same ∙ change_over_any change kept counts fits ∙ ap (λ o. Some (changed_any o change)) stood
          ∙ sym (change_writes at key change.count change.text writes same)
      | inr apart ↦ ap (λ b. settled (cond b (Some (over (Delta change) kept)) kept)) apart ∙ stood ∙ sym (change_apart at key change.count change.text writes apart)
    ]

-- whatever the record: with it folded in, what was kept stands for its writes too
pub stands_rec : (at : Key) (rec : Rec) → IsRecord rec → (key : Key) (kept : Option Rec) (writes : List Write) → StandsFor kept writes key
    → StandsFor (cond (same_key at key) (Some (over rec kept)) kept) (writes ++ writes_of_record at rec) key
stands_rec at (Base value) is = stands_put at value
stands_rec at (Delta change) is = stands_change at change is.count_fits is.text_fits
stands_rec at Tomb is = stands_del at

pub stands_add : (at : Key) (count : ℕ) → count < 2 ^ 64 → StandsForMore (Add at count) (Delta (record { count = count; text = [] }))
stands_add at count fits = stands_change at (record { count = count; text = [] }) fits (omega arith)

pub stands_tail : (at : Key) (tail : List ℕ) → TailFits (Tail at tail) → StandsForMore (Tail at tail) (Delta (record { count = 0; text = tail }))
stands_tail at [] fits = absurd (omega (arith, fits.0))
stands_tail at (byte ∷ tail) fits = stands_change at (record { count = 0; text = byte ∷ tail }) (omega arith) fits.1

pub ruleset stands_more = (stands_put, stands_add, stands_tail, stands_del)

-- with a record folded over what was kept at its key
pub stands_over : (write : Write) (rec : Rec) (key : Key) (kept : Option Rec) → StandsForMore write rec → same_key (key_of write) key ≡ true
    → (writes : List Write) → StandsFor kept writes key → StandsFor (Some (over rec kept)) (writes ++ write ∷ []) key
stands_over write rec key kept more same writes stood = ap (λ b. settled (cond b (Some (over rec kept)) kept)) (sym same) ∙ more key kept writes stood

-- a key is the same as itself
same_as_itself : (key : Key) → same_key key key ≡ true
same_as_itself key = (bytes_decides key key).1 refl

pub stands_folded : (newer older : Rec) → IsRecord newer → (key : Key) (writes : List Write) → StandsFor (Some older) writes key
    → StandsFor (Some (fold newer older)) (writes ++ writes_of_record key newer) key
stands_folded newer older fits key writes stood =
    ap (λ b. settled (cond b (Some (fold newer older)) (Some older))) (sym (same_as_itself key)) ∙ stands_rec key newer fits key (Some older) writes stood

-- ---- the laws of folding

-- a change over a changed value is both changes, and so is one over a change
changes_join : (newer older : Change) (base : Value) → changed (change_over newer older) base ≡ changed newer (changed older base)
changes_join newer older base =
    ap (λ n. record { count = n; text = tailed (tailed newer.text older.text) base.text }) (added_twice newer.count older.count base.count)
    ∙ ap (λ text. record { count = added newer.count (added older.count base.count); text = text }) (sym (tails_join base.text older.text newer.text))

pub fold_associative : (newer older oldest : Rec) → fold (fold newer older) oldest ≡ fold newer (fold older oldest)
fold_associative (Base v) older oldest = refl
fold_associative Tomb older oldest = refl
fold_associative (Delta d) (Base v) oldest = refl
fold_associative (Delta d) Tomb oldest = refl
fold_associative (Delta d) (Delta e) (Base v) = ap (λ v. Base v) (changes_join d e v)
fold_associative (Delta d) (Delta e) (Delta c) = ap (λ (v : Value). Delta (record { count = v.count; text = v.text })) (changes_join d e (alone c))
fold_associative (Delta d) (Delta e) Tomb = refl

-- ---- how much a folded record weighs

pub fold_lighter : (key : Key) (newer older : Rec) → weight key (fold newer older) + (overhead + length key) ≤ weight key newer + weight key older
fold_lighter key (Base v) older = omega arith
fold_lighter key Tomb older = omega arith
fold_lighter key (Delta d) (Base v) = omega (arith, tail_at_most v.text d.text)
fold_lighter key (Delta d) (Delta c) = omega (arith, tail_at_most c.text d.text)
fold_lighter key (Delta d) Tomb = omega arith

pub fold_grows : (key : Key) (newer older : Rec) → length (text_of newer) ≤ text_limit newer → weight key newer ≤ weight key (fold newer older)
fold_grows key (Base v) older fits = omega arith
fold_grows key Tomb older fits = omega arith
fold_grows key (Delta d) (Base v) fits = omega (arith, tail_at_least v.text d.text fits)
fold_grows key (Delta d) (Delta c) fits = omega (arith, tail_at_least c.text d.text fits)
fold_grows key (Delta d) Tomb fits = omega arith

pub fold_within : (key : Key) (newer older : Rec) → IsWithin key newer → IsWithin key older → IsWithin key (fold newer older)
fold_within key (Base v) older new old = new
fold_within key Tomb older new old = new
fold_within key (Delta d) (Base v) new old = record { key_most = new.key_most; text_most = tail_within most_text v.text d.text (omega arith) old.text_most }
fold_within key (Delta d) (Delta c) new old = record { key_most = new.key_most; text_most = tail_within most_tail c.text d.text (omega arith) old.text_most }
fold_within key (Delta d) Tomb new old = record { key_most = new.key_most; text_most = omega (arith, new.text_most) }

-- no record's text is longer than a base's may be
pub text_is_short : (rec : Rec) → length (text_of rec) ≤ text_limit rec → length (text_of rec) ≤ most_text
text_is_short (Base v) fits = fits
text_is_short (Delta d) fits = omega (arith, fits)
text_is_short Tomb fits = omega arith

-- what is within the format's lengths weighs no more than its heaviest entry
pub within_is_light : (key : Key) (rec : Rec) → IsWithin key rec → weight key rec ≤ most_weight
within_is_light key (Base v) within = omega (arith, within.key_most, within.text_most)
within_is_light key (Delta d) within = omega (arith, within.key_most, within.text_most)
within_is_light key Tomb within = omega (arith, within.key_most)
