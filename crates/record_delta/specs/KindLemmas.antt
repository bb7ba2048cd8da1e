-- The kinds of changes are folds.
use Rattle.std.proofs.Common.{◌≡◌, ℕ, ◌+◌, ◌%◌, ◌^◌, ◌≤◌, List, ap, sym, subst, ◌∙◌, length, arith}
use Rattle.std.specs.Prelude.{⊤}
use Rattle.std.proofs.Math.Nat.{mod-add-mod, add-mod-mod}
use Rattle.blsm_model.specs.declared.row.Value.{Value}
use Rattle.blsm_model.specs.Format.{most_tail, most_text}
use Rattle.blsm_model.proofs.TailLemmas.{tails_join, tail_at_least, tail_at_most, tail_within}
use Rattle.record_delta.specs.declared.kinds.Both.{Both}
use Rattle.record_delta.specs.Kinds.{IsFold, IsOfCount, IsOfText, IsTail, added, tailed}

-- an amount after two, and after their sum
pub added_twice : (newer older count : ℕ) → added (added newer older) count ≡ added newer (added older count)
added_twice newer older count =
    let regroup : count + (older + newer) ≡ (count + older) + newer = omega arith in
    add-mod-mod count (older + newer) (2 ^ 64) ∙ ap (λ n. n % 2 ^ 64) regroup ∙ sym (mod-add-mod (count + older) (2 ^ 64) newer)

pub amounts_fold : IsFold {C = ℕ} (λ amount. ⊤) added (λ amount base. record { count = added amount base.count; text = base.text }) (λ amount. 0)
amounts_fold = record {
  stays = λ newer older new old. tt;
  associative = λ newest newer older a b c. added_twice newest newer older;
  in_turn = λ newer older base new old. ap (λ n. record { count = n; text = base.text }) (added_twice newer older base.count);
  no_more = λ newer older new old. omega arith;
  no_less = λ newer older new old. omega arith;
  text_least = λ amount base is. omega arith;
  text_most = λ amount base is. omega arith;
  text_within = λ amount base is few. few;
}

pub tails_fold : IsFold IsTail tailed (λ tail base. record { count = base.count; text = tailed tail base.text }) (λ tail. length tail)
tails_fold = record {
  stays = λ newer older new old. tail_within most_tail older newer (omega arith) old;
  associative = λ newest newer older a b c. sym (tails_join older newer newest);
  in_turn = λ newer older base new old. ap (λ text. record { count = base.count; text = text }) (sym (tails_join base.text older newer));
  no_more = λ newer older new old. omega (arith, tail_at_most older newer);
  no_less = λ newer older new old. tail_at_least older newer new;
  text_least = λ tail base is. tail_at_least base.text tail is;
  text_most = λ tail base is. tail_at_most base.text tail;
  text_within = λ tail base is few. tail_within most_text base.text tail (omega arith) few;
}

-- which of a change of the count and one of the text comes first makes no difference
in_either_order : {A B : Type 0} (a_onto : A → Value → Value) (b_onto : B → Value → Value) (counted : A → ℕ → ℕ) (written : B → List ℕ → List ℕ) → IsOfCount a_onto counted → IsOfText b_onto written
    → (a : A) (b : B) (base : Value) → a_onto a (b_onto b base) ≡ b_onto b (a_onto a base)
in_either_order a_onto b_onto counted written of_count of_text a b base =
    of_count a (b_onto b base) ∙ ap (λ (v : Value). record { count = counted a v.count; text = v.text }) (of_text b base)
    ∙ sym (of_text b (a_onto a base) ∙ ap (λ (v : Value). record { count = v.count; text = written b v.text }) (of_count a base))

pub both_fold : {A B : Type 0} {a_is : A → Type 0} {b_is : B → Type 0} {a_over : A → A → A} {b_over : B → B → B} {a_onto : A → Value → Value} {b_onto : B → Value → Value} {a_size : A → ℕ} {b_size : B → ℕ}
    → IsFold a_is a_over a_onto a_size → IsFold b_is b_over b_onto b_size → (counted : A → ℕ → ℕ) → IsOfCount a_onto counted → (written : B → List ℕ → List ℕ) → IsOfText b_onto written
    → IsFold {C = Both A B} (λ both. a_is both.count × b_is both.text) (λ newer older. record { count = a_over newer.count older.count; text = b_over newer.text older.text })
    (λ both base. b_onto both.text (a_onto both.count base)) (λ both. b_size both.text)
both_fold {A} {B} {a_over = a_over} {b_over = b_over} {a_onto = a_onto} {b_onto = b_onto} {b_size = b_size} a b counted of_count written of_text = record {
  stays = λ newer older new old. (a.stays newer.count older.count new.0 old.0, b.stays newer.text older.text new.1 old.1);
  associative = λ newest newer older x y z.
      ap (λ c. let both : Both A B = record { count = c; text = b_over (b_over newest.text newer.text) older.text } in both) (a.associative newest.count newer.count older.count x.0 y.0 z.0)
      ∙ ap (λ t. let both : Both A B = record { count = a_over newest.count (a_over newer.count older.count); text = t } in both) (b.associative newest.text newer.text older.text x.1 y.1 z.1);
  in_turn = λ newer older base new old.
      b.in_turn newer.text older.text (a_onto (a_over newer.count older.count) base) new.1 old.1
      ∙ ap (λ v. b_onto newer.text (b_onto older.text v)) (a.in_turn newer.count older.count base new.0 old.0)
      ∙ ap (b_onto newer.text) (sym (in_either_order a_onto b_onto counted written of_count of_text newer.count older.text (a_onto older.count base)));
  no_more = λ newer older new old. b.no_more newer.text older.text new.1 old.1;
  no_less = λ newer older new old. b.no_less newer.text older.text new.1 old.1;
  text_least = λ both base is. b.text_least both.text (a_onto both.count base) is.1;
  text_most = λ both base is.
      subst (λ text. length (b_onto both.text (a_onto both.count base)).text ≤ length text + b_size both.text) (ap (λ (v : Value). v.text) (of_count both.count base)) (b.text_most both.text (a_onto both.count base) is.1);
  text_within = λ both base is few.
      b.text_within both.text (a_onto both.count base) is.1 (subst (λ text. length text ≤ most_text) (sym (ap (λ (v : Value). v.text) (of_count both.count base))) few);
}
