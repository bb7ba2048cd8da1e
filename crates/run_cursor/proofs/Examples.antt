-- A page that goes on behind a cursor, and pages that don't.
use Rattle.std.proofs.Common.{ℕ, ◌<◌, ◌≤◌, ◌⊎◌, ⊎_elim, false, [], ◌∷◌, Option, Some, None, refl, ap, codes, lit≤, arith}
use Rattle.std.specs.Prelude.{IsTrue}
use Rattle.std.specs.List.Sorted.{IsStrictlySortedBy}
use Rattle.std.specs.Ordering.{is_lt}
use Rattle.std.proofs.lemmas.Bool.{false≢true}
use Rattle.blsm_model.specs.declared.key.Key.{Key}
use Rattle.record_delta.specs.declared.record.Rec.{Rec}
use Rattle.record_delta.specs.declared.record.Rec.TheVariants.{Base, Tomb}
use Rattle.run_cursor.specs.Cursor.{CursorState, PageGoesOn}

-- x, a base of count 100 and text "old", which weighs 17
base_x : Key × Rec
base_x = (codes "x", Base (record { count = 100; text = codes "old" }))

-- a cursor at this head, with one page of one entry left, of this weight
at_last : Option (Key × Rec) → ℕ → CursorState
at_last head weight = record { head = head; behind = []; next = 7; pages = 1; entries = 1; weight = weight; is_front = false }

-- no page comes behind the last one
one_page : {P : Type 0} → (1 < 1) ⊎ IsTrue false → P
one_page follows = absurd (⊎_elim (λ more. omega (arith, more)) (λ front. false≢true front) follows)

-- the page of x alone goes on from the start, and from w
goes_on : PageGoesOn (at_last None 17) None (base_x ∷ [])
unfolding at_last base_x IsStrictlySortedBy
goes_on = record {
  rise = (tt, tt);
  numbers = record { follows = (λ some. absurd (false≢true some), one_page); few = lit≤ tt; light = lit≤ tt; all = λ one. (refl, refl); enough = λ some. absurd (false≢true some) };
}

from_w : PageGoesOn (at_last (Some (codes "w", Tomb)) 17) None (base_x ∷ [])
unfolding at_last base_x IsStrictlySortedBy
from_w = record {
  rise = ((refl, tt), (tt, tt));
  numbers = record { follows = (λ some. absurd (false≢true some), one_page); few = lit≤ tt; light = lit≤ tt; all = λ one. (refl, refl); enough = λ some. absurd (false≢true some) };
}

-- but not from x itself
from_x : PageGoesOn (at_last (Some base_x) 17) None (base_x ∷ []) → ⊥
unfolding at_last base_x IsStrictlySortedBy
from_x goes = false≢true (ap is_lt goes.rise.0.0)

-- nor with a next page, since it is the last one
with_next : PageGoesOn (at_last None 17) (Some 8) (base_x ∷ []) → ⊥
unfolding at_last
with_next goes = one_page (goes.numbers.follows.0 refl)

-- nor where more is left than it has
too_light : PageGoesOn (at_last None 18) None (base_x ∷ []) → ⊥
unfolding at_last base_x
too_light goes = let whole = goes.numbers.all refl in omega (arith, whole.1)

-- nor, with three pages left, where it leaves less than the second one must weigh
too_little : PageGoesOn (record (at_last None 3593) { pages = 3 }) (Some 8) (base_x ∷ []) → ⊥
unfolding at_last base_x
too_little goes = let enough : 3594 ≤ 3593 = goes.numbers.enough refl in omega (arith, enough)
