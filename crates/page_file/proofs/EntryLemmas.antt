-- Entries as bytes: how long they are, that none begins another, and that bytes are one list of entries at most.
use Rattle.std.proofs.lemmas.Bool.Decides.{nat_tests}
use Rattle.std.proofs.lemmas.Grind.{common_steps}
use Rattle.std.proofs.Common.{◌≡◌, true, false, ℕ, suc, ◌*◌, ◌^◌, ◌<◌, ◌≤◌, List, [], ◌∷◌, ◌++◌, length, take, drop, refl, ap, sym, subst, ◌∙◌, append_assoc, length-append, arith}
use Rattle.std.specs.Int.{w16, to_be_bytes, from_be_bytes}
use Rattle.std.specs.List.{AllByRecursion}
use Rattle.std.specs.List.Sorted.{IsStrictlySortedBy}
use Rattle.std.specs.Ordering.{is_le, ordering_reverse}
use Rattle.std.specs.declared.cmp.Ordering.{Ordering}
use Rattle.std.specs.declared.cmp.Ordering.TheVariants.{Less}
use Rattle.std.proofs.lemmas.Bool.{true≢false}
use Rattle.std.proofs.lemmas.Cmp.{nat_list_cmp_total}
use Rattle.std.proofs.lemmas.List.{take_at, drop_at}
use Rattle.std.proofs.lemmas.List.Elements.{All-nil, All-cons, All-head, All-tail}
use Rattle.std.proofs.lemmas.Nat.{from_be_bytes-to_be_bytes_2}
use Rattle.blsm_model.specs.declared.key.Key.{Key}
use Rattle.blsm_model.specs.Keys.{key_cmp}
use Rattle.blsm_model.specs.Format.{least_weight}
use Rattle.record_delta.specs.declared.record.Rec.{Rec}
use Rattle.record_delta.specs.Entries.{Entries}
use Rattle.entry_codec.proofs.SpellingLemmas.{length-spelling, entry_same as same_spelling}
use Rattle.page_file.specs.Entry.{IsPageEntry, entry_bytes, entries_bytes, AreEntries, keys_of, AreRising, HasFirstEntry, AreEntriesIn, AreInBytes}

-- ---- lengths

pub entries_bytes-append : (es fs : Entries) → entries_bytes (es ++ fs) ≡ entries_bytes es ++ entries_bytes fs
entries_bytes-append [] fs = refl
entries_bytes-append (e ∷ es) fs = ap (λ (l : List ℕ). entry_bytes e ++ l) (entries_bytes-append es fs) ∙ sym (append_assoc (entry_bytes e) (entries_bytes es) (entries_bytes fs))

pub few_entries : (es : Entries) → AreEntries es → least_weight * length es ≤ length (entries_bytes es)
few_entries [] each = omega arith
few_entries (e ∷ es) each =
    let first = All-head IsPageEntry e es each in
    let key_least = first.key_least in
    let more = few_entries es (All-tail IsPageEntry e es each) in
    omega (arith, key_least, more, length-spelling e.0 e.1, length-append (entry_bytes e) (entries_bytes es))

-- two fronts of one length
pub front_same : (a b x y : List ℕ) → length a ≡ length b → a ++ x ≡ b ++ y → (a ≡ b) × (x ≡ y)
front_same a b x y len same = (
  sym (take_at a x (length b) len) ∙ ap (take (length b)) same ∙ take_at b y (length b) refl,
  sym (drop_at a x (length b) len) ∙ ap (drop (length b)) same ∙ drop_at b y (length b) refl,
)

pub same16 : (n m : ℕ) → n < 2 ^ 16 → m < 2 ^ 16 → to_be_bytes w16 n ≡ to_be_bytes w16 m → n ≡ m
same16 n m ln lm e = sym (from_be_bytes-to_be_bytes_2 n ln) ∙ ap (from_be_bytes w16) e ∙ from_be_bytes-to_be_bytes_2 m lm

-- ---- one entry

-- where two entries begin the same bytes, they are one
pub entry_same : (e f : Key × Rec) (x y : List ℕ) → IsPageEntry e → IsPageEntry f → entry_bytes e ++ x ≡ entry_bytes f ++ y → (e ≡ f) × (x ≡ y)
entry_same e f x y re rf same =
    let one = same_spelling e.0 f.0 e.1 f.1 x y re rf same in
    (λ i. (one.0 i, one.1 i), one.2)

-- ---- the order of keys

reversed : (o : Ordering) → is_le o ≡ false → ordering_reverse o ≡ Less
reversed o h1 = grind (arith, common_steps, nat_tests)

pub above : (last key : Key) → is_le (key_cmp key last) ≡ false → key_cmp last key ≡ Less
above last key test = nat_list_cmp_total.antisymm last key ∙ reversed (key_cmp key last) test

pub not_above : (last key : Key) → is_le (key_cmp key last) ≡ true → key_cmp last key ≡ Less → ⊥
not_above last key test less = true≢false (sym test ∙ ap is_le (nat_list_cmp_total.antisymm key last ∙ ap ordering_reverse less))

-- ---- a list of entries

-- a key that is below one that is below all of a list's
below_more : (low key : Key) (keys : List Key) → key_cmp low key ≡ Less → AllByRecursion (λ k. key_cmp key k ≡ Less) keys → AllByRecursion (λ k. key_cmp low k ≡ Less) keys
below_more low key [] less below = tt
below_more low key (k ∷ keys) less below = (nat_list_cmp_total.trans low key k less below.0, below_more low key keys less below.1)

-- one entry fewer
pub rest_has : (last bytes key rest : List ℕ) (n : ℕ) → HasFirstEntry bytes key rest → AreInBytes last (suc n) bytes → (key_cmp last key ≡ Less) × AreInBytes key n rest
unfolding IsStrictlySortedBy
rest_has last bytes key rest n b ([], has) = absurd (omega (arith, has.count_is))
rest_has last bytes key rest n b (e ∷ es, has) =
    let one = entry_same e b.entry (entries_bytes es) rest (All-head IsPageEntry e es has.each) b.right (sym has.spelled ∙ b.parts) in
    let key_is : e.0 ≡ key = ap (λ (f : Key × Rec). f.0) one.0 ∙ b.key_is in
    let count_is = has.count_is in
    let more : AreEntriesIn key n rest es = record {
      each = All-tail IsPageEntry e es has.each;
      count_is = omega (arith, count_is);
      rise = subst (λ (k : Key). IsStrictlySortedBy key_cmp (k ∷ keys_of es)) key_is has.rise.1;
      spelled = sym one.1;
    } in
    (subst (λ (k : Key). key_cmp last k ≡ Less) key_is has.rise.0.0, (es, more))

-- one entry more
pub more_has : (last bytes key rest : List ℕ) (n : ℕ) → HasFirstEntry bytes key rest → key_cmp last key ≡ Less → AreInBytes key n rest → AreInBytes last (suc n) bytes
unfolding IsStrictlySortedBy
more_has last bytes key rest n b less (es, has) =
    let e = b.entry in
    let count_is = has.count_is in
    let rise : IsStrictlySortedBy key_cmp (e.0 ∷ keys_of es) = subst (λ (k : Key). IsStrictlySortedBy key_cmp (k ∷ keys_of es)) (sym b.key_is) has.rise in
    let above : key_cmp last e.0 ≡ Less = subst (λ (k : Key). key_cmp last k ≡ Less) (sym b.key_is) less in (
      e ∷ es,
      record {
        each = All-cons IsPageEntry e es b.right has.each;
        count_is = omega arith;
        rise = ((above, below_more last e.0 (keys_of es) above rise.0), rise);
        spelled = b.parts ∙ ap (λ l. entry_bytes e ++ l) has.spelled;
      },
    )

-- where no entry begins the bytes, none are in them
pub none_first : (last bytes : List ℕ) (n : ℕ) → ((key rest : List ℕ) → HasFirstEntry bytes key rest → ⊥) → AreInBytes last (suc n) bytes → ⊥
none_first last bytes n none ([], has) = omega (arith, has.count_is)
none_first last bytes n none (e ∷ es, has) =
    none e.0 (entries_bytes es) (record { entry = e; right = All-head IsPageEntry e es has.each; key_is = refl; parts = has.spelled })

-- no entries are in no bytes
pub none_left : (last bytes : List ℕ) → length bytes ≡ 0 → AreInBytes last 0 bytes
unfolding IsStrictlySortedBy
none_left last [] empty = ([], record { each = All-nil IsPageEntry; count_is = refl; rise = (tt, tt); spelled = refl })
none_left last (b ∷ bytes) empty = absurd (omega (arith, empty))

pub left_none : (last bytes : List ℕ) → AreInBytes last 0 bytes → length bytes ≡ 0
left_none last bytes h1 = grind (arith, common_steps, nat_tests)

-- bytes are one list of entries at most, whatever follows them where there are as many
pub entries_same : (es fs : Entries) (x y : List ℕ) → AreEntries es → AreEntries fs → length es ≡ length fs → entries_bytes es ++ x ≡ entries_bytes fs ++ y → (es ≡ fs) × (x ≡ y)
entries_same [] [] x y each_e each_f count same = (refl, same)
entries_same (e ∷ es) (f ∷ fs) x y each_e each_f count same =
    let first = entry_same e f (entries_bytes es ++ x) (entries_bytes fs ++ y) (All-head IsPageEntry e es each_e) (All-head IsPageEntry f fs each_f)
    (sym (append_assoc (entry_bytes e) (entries_bytes es) x) ∙ same ∙ append_assoc (entry_bytes f) (entries_bytes fs) y) in
    let more = entries_same es fs x y (All-tail IsPageEntry e es each_e) (All-tail IsPageEntry f fs each_f) (omega (arith, count)) first.1 in
    ((λ i. first.0 i ∷ more.0 i), more.1)
entries_same _ _ x y each_e each_f count same = absurd (omega (arith, count))

-- no key is empty, so each is above no bytes
below_all : (es : Entries) → AreEntries es → AllByRecursion (λ (k : Key). key_cmp [] k ≡ Less) (keys_of es)
below_all [] each = tt
below_all (e ∷ es) each = (over_none e.0 (All-head IsPageEntry e es each).key_least, below_all es (All-tail IsPageEntry e es each))
  where
    over_none : (key : Key) → 1 ≤ length key → key_cmp [] key ≡ Less
    over_none key h1 = grind (arith, common_steps, nat_tests)

pub rise_from_none : (es : Entries) → AreEntries es → AreRising es → IsStrictlySortedBy key_cmp ([] ∷ keys_of es)
unfolding IsStrictlySortedBy
rise_from_none es each rise = (below_all es each, rise)

pub rise_of_page : (es : Entries) → IsStrictlySortedBy key_cmp ([] ∷ keys_of es) → AreRising es
unfolding IsStrictlySortedBy
rise_of_page es rise = rise.1
