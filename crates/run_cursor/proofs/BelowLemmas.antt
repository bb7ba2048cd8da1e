-- The entry at the front of bytes, as a key is above it or not.
use Rattle.std.proofs.lemmas.Bool.Decides.{nat_tests}
use Rattle.std.proofs.lemmas.Grind.{common_steps}
use Rattle.std.proofs.Common.{◌≡◌, true, false, ℕ, ◌<◌, ◌≤◌, List, ◌++◌, length, drop, ap, sym, ◌∙◌, length-append, arith}
use Rattle.std.specs.Ordering.{is_lt, ordering_reverse}
use Rattle.std.specs.declared.cmp.Ordering.TheVariants.{Greater}
use Rattle.std.proofs.lemmas.Bool.{true≢false}
use Rattle.std.proofs.lemmas.Cmp.{nat_list_cmp_total}
use Rattle.std.proofs.lemmas.List.{drop_at}
use Rattle.blsm_model.specs.declared.key.Key.{Key}
use Rattle.blsm_model.specs.Keys.{key_cmp}
use Rattle.record_delta.specs.declared.record.Rec.{Rec}
use Rattle.record_delta.specs.Records.{weight}
use Rattle.entry_codec.specs.Spelling.{spelling, BeginsWith}
use Rattle.entry_codec.proofs.SpellingLemmas.{length-spelling}
use Rattle.page_file.proofs.EntryLemmas.{entry_same}
use Rattle.run_cursor.specs.Below.{BeginsBelow, NoneBelow}
use Rattle.run_cursor.proofs.CursorLemmas.{less_is}

-- ---- the order of keys

pub under : (key found : Key) → is_lt (key_cmp found key) ≡ true → key_cmp key found ≡ Greater
under key found test = nat_list_cmp_total.antisymm key found ∙ ap ordering_reverse (less_is (key_cmp found key) test)

pub not_under : (key found : Key) → is_lt (key_cmp found key) ≡ false → key_cmp key found ≡ Greater → ⊥
not_under key found test greater = true≢false (sym (ap is_lt (nat_list_cmp_total.antisymm found key ∙ ap ordering_reverse greater)) ∙ test)

-- ---- the entry at the front

pub begins_long : (bytes : List ℕ) (key : Key) (rec : Rec) (len : ℕ) → BeginsWith bytes key rec → len ≡ weight key rec → len ≤ length bytes
begins_long bytes key rec len b len_is = omega (arith, len_is, ap (length {A = ℕ}) b.parts, length-append (spelling key rec) b.rest, length-spelling key rec)

pub is_first : (bytes behind : List ℕ) (key found : Key) (rec : Rec) (len : ℕ) → BeginsWith bytes found rec → len ≡ weight found rec → behind ≡ drop len bytes → key_cmp key found ≡ Greater
    → BeginsBelow key bytes len behind
is_first bytes behind key found rec len b len_is back above =
    let rest : behind ≡ b.rest = back ∙ ap (drop len) b.parts ∙ drop_at (spelling found rec) b.rest len (length-spelling found rec ∙ sym len_is) in
    record {
      entry = (found, rec);
      right = b.entry;
      above = above;
      parts = b.parts ∙ ap (λ (l : List ℕ). spelling found rec ++ l) (sym rest);
      len_is = len_is;
    }

pub first_above : (bytes : List ℕ) (key found : Key) (rec : Rec) → BeginsWith bytes found rec → (key_cmp key found ≡ Greater → ⊥) → NoneBelow key bytes
first_above bytes key found rec b other = λ entry rest right parts greater.
    let one = entry_same (found, rec) entry b.rest rest b.entry right (sym b.parts ∙ parts) in
    other (ap (λ (f : Key × Rec). key_cmp key f.0) one.0 ∙ greater)

-- fewer bytes are left behind it
pub fewer_bytes : (key : Key) (bytes : List ℕ) (len : ℕ) (rest : List ℕ) → BeginsBelow key bytes len rest → length rest < length bytes
fewer_bytes key bytes len rest h1 = grind (arith, common_steps, nat_tests, length-append, length-spelling)
