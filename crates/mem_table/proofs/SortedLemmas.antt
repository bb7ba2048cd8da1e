-- Sorted lists of keys and values: what stands at a place, and what `put` does there. Over any total order.
use Rattle.std.proofs.lemmas.Bool.Decides.{nat_tests}
use Rattle.std.proofs.lemmas.Grind.{common_steps}
use Rattle.std.proofs.Common.{◌≡◌, ℕ, zero, suc, ◌<◌, ◌≤◌, Bool, true, cond, ◌&&◌, T, List, [], ◌∷◌, length, get_or, set, Some, None, refl, ap, ◌∙◌, arith}
use Rattle.std.specs.List.{insert}
use Rattle.std.specs.Ordering.{is_lt, is_eq, ordering_reverse}
use Rattle.std.specs.declared.cmp.Ordering.{Ordering}
use Rattle.std.specs.declared.cmp.Ordering.TheVariants.{Less, Greater}
use Rattle.std.specs.Cmp.{IsTotalOrder, tied_itself}
use Rattle.std.specs.FinMap.{find, put, is_sorted}
use Rattle.std.specs.FinMap.Entries.{below_all, by_order}

pub both_hold : (a b : Bool) → T (a && b) → T a × T b
both_hold a b h1 = grind (arith, common_steps, nat_tests)

pub test_holds : (b : Bool) → T b → b ≡ true
test_holds b holds = grind (arith, common_steps, nat_tests)

pub less_from_test : (o : Ordering) → T (is_lt o) → o ≡ Less
less_from_test o h1 = grind (arith, common_steps, nat_tests)

pub turned : {K : Type 0} (R : K → K → Ordering) → IsTotalOrder R → (x y : K) (r : Ordering) → R x y ≡ r → R y x ≡ ordering_reverse r
turned R o x y r is = o.antisymm y x ∙ ap ordering_reverse is

module _ {K X : Type 0} (R : K → K → Ordering) (o : IsTotalOrder R) where
  -- a key that is below all of a list's is below the one at a place
  pub below_at : (x : K) (es : List (K × X)) (j : ℕ) (d : K × X) → T (below_all R x es) → j < length es → R x (get_or es j d).0 ≡ Less
  below_at x [] j d below lt = absurd (omega arith)
  below_at x (e ∷ es) zero d below lt = less_from_test _ (both_hold _ _ below).0
  below_at x (e ∷ es) (suc j) d below lt = below_at x es j d (both_hold _ _ below).1 (omega arith)

  -- keys rise from place to place
  pub rising : (es : List (K × X)) (i j : ℕ) (d : K × X) → T (is_sorted R es) → i < j → j < length es → R (get_or es i d).0 (get_or es j d).0 ≡ Less
  rising [] i j d sorted lt within = absurd (omega arith)
  rising (e ∷ es) zero zero d sorted lt within = absurd (omega arith)
  rising (e ∷ es) (suc i) zero d sorted lt within = absurd (omega arith)
  rising (e ∷ es) zero (suc j) d sorted lt within = below_at e.0 es j d (both_hold _ _ sorted).0 (omega arith)
  rising (e ∷ es) (suc i) (suc j) d sorted lt within = rising es i j d (both_hold _ _ sorted).1 (omega arith) (omega arith)

  -- the key at a place is found there
  pub find_at : (es : List (K × X)) (i : ℕ) (d : K × X) → T (is_sorted R es) → i < length es → find R (get_or es i d).0 es ≡ Some (get_or es i d).1
  find_at [] i d sorted within = absurd (omega arith)
  find_at (e ∷ es) zero d sorted within = ap (λ r. cond (is_eq r) (Some e.1) (find R e.0 es)) (tied_itself o e.0)
  find_at (e ∷ es) (suc i) d sorted within =
      let key = (get_or es i d).0 in
      let apart : R key e.0 ≡ Greater = turned R o e.0 key Less (below_at e.0 es i d (both_hold _ _ sorted).0 (omega arith)) in
      ap (λ r. cond (is_eq r) (Some e.1) (find R key es)) apart ∙ find_at es i d (both_hold _ _ sorted).1 (omega arith)

  -- and gets its new value there
  pub put_at : (es : List (K × X)) (i : ℕ) (d : K × X) (v : X) → T (is_sorted R es) → i < length es → put R (get_or es i d).0 v es ≡ set es i ((get_or es i d).0, v)
  put_at [] i d v sorted within = absurd (omega arith)
  put_at (e ∷ es) zero d v sorted within = ap (λ r. by_order r ((e.0, v) ∷ e ∷ es) ((e.0, v) ∷ es) (e ∷ put R e.0 v es)) (tied_itself o e.0)
  put_at (e ∷ es) (suc i) d v sorted within =
      let ih0 = (put_at es i d v (both_hold _ _ sorted).1 (omega arith)) in
      grind (arith, common_steps, nat_tests, get_or, turned, below_at, both_hold)

  -- lesser keys before a place, greater ones from it on
  pub record Parts (es : List (K × X)) (key : K) (i : ℕ) : Type 0 where
    pub before : (j : ℕ) (d : K × X) → j < i → R (get_or es j d).0 key ≡ Less
    pub after : (j : ℕ) (d : K × X) → i ≤ j → j < length es → R (get_or es j d).0 key ≡ Greater

  parts_tail : (e : K × X) (es : List (K × X)) (key : K) (i : ℕ) → Parts (e ∷ es) key (suc i) → Parts es key i
  parts_tail e es key i p = record { before = λ j d lt. p.before (suc j) d (omega arith); after = λ j d le within. p.after (suc j) d (omega arith) (omega arith) }

  parts_all : (e : K × X) (es : List (K × X)) (key : K) → Parts (e ∷ es) key 0 → Parts es key 0
  parts_all e es key p = record { before = λ j d lt. absurd (omega arith); after = λ j d le within. p.after (suc j) d (omega arith) (omega arith) }

  pub find_apart : (es : List (K × X)) (key : K) (i : ℕ) → Parts es key i → find R key es ≡ None
  find_apart [] key i p = refl
  find_apart (e ∷ es) key zero p =
      ap (λ r. cond (is_eq r) (Some e.1) (find R key es)) (turned R o e.0 key Greater (p.after 0 e (omega arith) (omega arith))) ∙ find_apart es key 0 (parts_all e es key p)
  find_apart (e ∷ es) key (suc i) p =
      ap (λ r. cond (is_eq r) (Some e.1) (find R key es)) (turned R o e.0 key Less (p.before 0 e (omega arith))) ∙ find_apart es key i (parts_tail e es key i p)

  -- a new key goes to that place
  pub put_apart : (es : List (K × X)) (key : K) (i : ℕ) (v : X) → i ≤ length es → Parts es key i → put R key v es ≡ insert es i (key, v)
  put_apart [] key zero v within p = refl
  put_apart [] key (suc i) v within p = absurd (omega arith)
  put_apart (e ∷ es) key zero v within p =
      ap (λ r. by_order r ((key, v) ∷ e ∷ es) ((e.0, v) ∷ es) (e ∷ put R key v es)) (turned R o e.0 key Greater (p.after 0 e (omega arith) (omega arith)))
  put_apart (e ∷ es) key (suc i) v within p =
      ap (λ r. by_order r ((key, v) ∷ e ∷ es) ((e.0, v) ∷ es) (e ∷ put R key v es)) (turned R o e.0 key Less (p.before 0 e (omega arith)))
      ∙ ap (λ l. e ∷ l) (put_apart es key i v (omega arith) (parts_tail e es key i p))
