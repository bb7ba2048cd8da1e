-- A run of a caller and of those that it splits off.
use Rattle.std.proofs.lemmas.Bool.Decides.{nat_tests}
use Rattle.std.proofs.lemmas.Grind.{common_steps}
use Rattle.std.proofs.Common.{◌≡◌, ℕ, suc, ◌+◌, ◌-◌, ◌<◌, ◌≤◌, List, [], ◌∷◌, ◌++◌, length, sym, ap, ◌∙◌, subst, arith, inl, inr, ⊎_elim, length-append}
use Rattle.std.specs.Prelude.{slice_index, Some}
use mathlib.Core.Logic.{dite}
use native.Mathlib.Decide.{ℕ_discrete}
use Rattle.blsm_model.specs.declared.history.Entry.{Entry}
use Rattle.blsm_model.specs.Facts.{entries_of}
use Rattle.turn_lock.specs.Views.{Each, Fits, size, joined, counted_up, first_of, rest_of, opening_view}
use Rattle.turn_lock.specs.Plays.{Sat, renewed}
use Rattle.turn_lock.specs.Callers.{Held, Lock, with_me, GaveAway, IsSplitOff}
use Rattle.turn_lock.specs.Tallies.{works_by, Tells, In, IsReady, Noted, its_entries}
use Rattle.turn_lock.specs.Rests.{of_tally, Starts, Ends}
use Rattle.turn_lock.specs.declared.tally.Tally.{Tally}

in_left : {A : Type 0} (p : A) (xs ys : List A) → In p xs → In p (xs ++ ys)
in_left p [] ys i = absurd i
in_left p (x ∷ xs) ys i = ⊎_elim (λ (e : p ≡ x). inl e) (λ (j : In p xs). inr (in_left p xs ys j)) i

in_right : {A : Type 0} (p : A) (xs ys : List A) → In p ys → In p (xs ++ ys)
in_right p [] ys i = i
in_right p (x ∷ xs) ys i = inr (in_right p xs ys i)

up_one : (next : ℕ) (a : Tally) → next < 24 → counted_up next (24 - next) a ≡ (next, a) ∷ counted_up (next + 1) (24 - (next + 1)) a
up_one next a low = let e : 24 - next ≡ suc (24 - (next + 1)) = omega (arith, low) in ap (λ (n : ℕ). counted_up next n a) e

pub starts_rest : (lock : Lock Tally) (m count : ℕ) (c d : Held Tally) → Starts lock (suc m) count c → GaveAway c d → Starts lock m count d
starts_rest lock m count c d h1 h2 = grind (arith, common_steps, nat_tests, up_one)

own_of_other : (lock : Lock Tally) (m count : ℕ) (c o : Held Tally) → Starts lock (suc m) count c → IsSplitOff c o → o.me.0.own ≡ (o.number, lock.start) ∷ []
own_of_other lock m count c o s a = ap (λ (x : Sat Tally). x.0.own) a.me ∙ (ap first_of (s.spare ∙ up_one c.next lock.start (omega (arith, s.last))) ∙ ap (λ (n : ℕ). (n, lock.start) ∷ []) (sym a.number))

pub ready_other : (lock : Lock Tally) (m count : ℕ) (c o : Held Tally) → Starts lock (suc m) count c → IsSplitOff c o → IsReady lock of_tally count o
ready_other lock m count c o s a = record {
  of_lock = (a.table ∙ s.of_lock.0, ap (λ (x : Sat Tally). x.0.start) a.me ∙ s.of_lock.1, (ap (λ (x : Sat Tally). x.0.stage) a.me, ap (λ (x : Sat Tally). x.1) a.me));
  number = omega (arith, a.number, s.last);
  room = (lock.start, [], own_of_other lock m count c o s a, s.rooms o.number (omega (arith, a.number, s.last)));
}

tells_after : (c d : Held Tally) (b : Tally) (more : List (ℕ × Tally)) (count : ℕ) → c.me.0.own ≡ (c.number, b) ∷ more → its_entries of_tally c.me.0.own ≡ [] → Noted of_tally c (works_by c.number count) d
    → Tells of_tally c.number (works_by c.number count) d.me.0.own
tells_after c d b more count h1 h2 h3 = grind (arith, common_steps, nat_tests)

noted_size : (c d : Held Tally) (b : Tally) (more : List (ℕ × Tally)) (es : List Entry) → c.me.0.own ≡ (c.number, b) ∷ more → Noted of_tally c es d → size d.me.0 ≡ size c.me.0
noted_size c d b more es own noted = omega (arith, ap length noted.own.1, ap length (ap (renewed of_tally noted.own.0) own), ap length own, ap length noted.spare)

pub ends_none : (lock : Lock Tally) (count : ℕ) (c d : Held Tally) → Starts lock 0 count c → Noted of_tally c (works_by c.number count) d → Ends lock 0 count c d
ends_none lock count c d h1 h2 = grind (arith, common_steps, nat_tests)

tells_left : (i : ℕ) (es : List Entry) (xs ys : List (ℕ × Tally)) → Tells of_tally i es xs → Tells of_tally i es (xs ++ ys)
tells_left i es xs ys t = (t.0, in_left (i, t.0) xs ys t.1, t.2)

tells_right : (i : ℕ) (es : List Entry) (xs ys : List (ℕ × Tally)) → Tells of_tally i es ys → Tells of_tally i es (xs ++ ys)
tells_right i es xs ys t = (t.0, in_right (i, t.0) xs ys t.1, t.2)

pub ends_more : (lock : Lock Tally) (m count : ℕ) (c c1 o d1 d2 d : Held Tally) → Starts lock (suc m) count c → GaveAway c c1 → IsSplitOff c o → Ends lock m count c1 d1 → Noted of_tally o (works_by o.number count) d2
    → d ≡ with_me d1 (joined d1.me.0 d2.me.0, []) → Ends lock (suc m) count c d
ends_more lock m count c c1 o d1 d2 d s a b ends noted is =
    let u = d2.me.0 in
    let own : d.me.0.own ≡ d1.me.0.own ++ (u.own ++ u.spare) = ap (λ (h : Held Tally). h.me.0.own) is in
    let spare_d : d.me.0.spare ≡ d1.me.0.spare = ap (λ (h : Held Tally). h.me.0.spare) is in
    let own_o = own_of_other lock m count c o s b in
    let spares : c.me.0.spare ≡ (c.next, lock.start) ∷ counted_up (c.next + 1) (24 - (c.next + 1)) lock.start = s.spare ∙ up_one c.next lock.start (omega (arith, s.last)) in
    let size_o : size o.me.0 ≡ 1 = omega (arith, ap length own_o, ap (λ (x : Sat Tally). length x.0.spare) b.me) in
    let size_c1 : size c1.me.0 + 1 ≡ size c.me.0 = omega (arith, ap (λ (x : Sat Tally). length x.0.own) a.me, ap (λ (x : Sat Tally). length x.0.spare) a.me, ap (λ l. length (rest_of l)) spares, ap length spares) in
    let size_2 = noted_size o d2 lock.start [] (works_by o.number count) own_o noted in
    let none_o : its_entries of_tally o.me.0.own ≡ [] = ap (its_entries of_tally) own_o ∙ ap (λ (l : List Entry). entries_of o.number l) s.fresh in
    let told_o = tells_after o d2 lock.start [] count own_o none_o noted in
    let to_d : (i : ℕ) (es : List Entry) → Tells of_tally i es d1.me.0.own → Tells of_tally i es d.me.0.own = λ i es t. subst (Tells of_tally i es) (sym own) (tells_left i es d1.me.0.own (u.own ++ u.spare) t) in
    record {
      of_lock = (ap (λ (h : Held Tally). h.table) is ∙ ends.of_lock.0, ap (λ (h : Held Tally). h.me.0.start) is ∙ ends.of_lock.1, (ap (λ (h : Held Tally). h.me.0.stage) is ∙ ends.of_lock.2.0, ap (λ (h : Held Tally). h.me.1) is));
      sized = omega (arith, ap length own, ap length spare_d, length-append d1.me.0.own (u.own ++ u.spare), length-append u.own u.spare, ends.sized, size_o, size_c1, size_2);
      own = to_d c.number (works_by c.number count) (subst (λ (n : ℕ). Tells of_tally n (works_by n count) d1.me.0.own) a.number ends.own);
      others = λ i low high. dite (ℕ_discrete i c.next)
          (λ e. let at : o.number ≡ i = b.number ∙ sym e in
          subst (λ (n : ℕ). Tells of_tally n (works_by n count) d.me.0.own) at
          (subst (Tells of_tally o.number (works_by o.number count)) (sym own) (tells_right o.number (works_by o.number count) d1.me.0.own (u.own ++ u.spare) (tells_left o.number (works_by o.number count) u.own u.spare told_o))))
          (λ ne. to_d i (works_by i count) (ends.others i (omega (arith, low, ne, a.next)) (omega (arith, high, a.next))));
    }

-- what one caller tells of the value in the end
pub tells_value : (i : ℕ) (es seen : List Entry) (v : Tally) (own : List (ℕ × Tally)) → Each (Fits of_tally seen v) own → Tells of_tally i es own → entries_of i v.annals.entries ≡ es
tells_value i es seen v own fits t = let f = at (i, t.0) own t.1 fits in f.0.entries ∙ t.2
  where
    at : (p : ℕ × Tally) (ps : List (ℕ × Tally)) → In p ps → Each (Fits of_tally seen v) ps → Fits of_tally seen v p
    at p [] i each = absurd i
    at p (q ∷ qs) i each = ⊎_elim (λ (e : p ≡ q). subst (Fits of_tally seen v) (sym e) each.0) (λ (j : In p qs). at p qs j each.1) i

one_more : (more : ℕ) → 0 < more → more ≡ suc (more - 1)
one_more more some = omega (arith, some)

pub starts_less : (lock : Lock Tally) (more count : ℕ) (c d : Held Tally) → 0 < more → Starts lock more count c → GaveAway c d → Starts lock (more - 1) count d
starts_less lock more count c d some s a = starts_rest lock (more - 1) count c d (subst (λ (n : ℕ). Starts lock n count c) (one_more more some) s) a

pub ready_less : (lock : Lock Tally) (more count : ℕ) (c o : Held Tally) → 0 < more → Starts lock more count c → IsSplitOff c o → IsReady lock of_tally count o
ready_less lock more count c o some s b = ready_other lock (more - 1) count c o (subst (λ (n : ℕ). Starts lock n count c) (one_more more some) s) b

pub ends_all : (lock : Lock Tally) (more count : ℕ) (c c1 o d1 d2 d : Held Tally) → 0 < more → Starts lock more count c → GaveAway c c1 → IsSplitOff c o → Ends lock (more - 1) count c1 d1 → Noted of_tally o (works_by o.number count) d2
    → d ≡ with_me d1 (joined d1.me.0 d2.me.0, []) → Ends lock more count c d
ends_all lock more count c c1 o d1 d2 d some s a b ends noted is =
    subst (λ (n : ℕ). Ends lock n count c d) (sym (one_more more some)) (ends_more lock (more - 1) count c c1 o d1 d2 d (subst (λ (n : ℕ). Starts lock n count c) (one_more more some) s) a b ends noted is)

pub starts_all : (lock : Lock Tally) (count : ℕ) (c : Held Tally) (value : Tally) → c.table ≡ lock.table → lock.start ≡ value → c.me ≡ (opening_view value, []) → c.number ≡ 0 → c.next ≡ 1 → value.annals.entries ≡ []
    → ((i : ℕ) → i < 16 → count ≤ slice_index value.annals.room.entries i) → Starts lock 15 count c
starts_all lock count c value table start me number next fresh rooms = record {
  of_lock = (table, ap (λ (x : Sat Tally). x.0.start) me ∙ ap (λ (z : Tally). Some z) (sym start), (ap (λ (x : Sat Tally). x.0.stage) me, ap (λ (x : Sat Tally). x.1) me));
  number = omega (arith, number);
  last = omega (arith, next);
  room = (value, [], ap (λ (x : Sat Tally). x.0.own) me ∙ ap (λ (n : ℕ). (n, value) ∷ []) (sym number), subst (λ (n : ℕ). count ≤ slice_index value.annals.room.entries n) (sym number) (rooms 0 (omega arith)));
  none = ap (λ (x : Sat Tally). its_entries of_tally x.0.own) me ∙ ap (entries_of 0) fresh;
  spare = ap (λ (x : Sat Tally). x.0.spare) me ∙ (ap (λ (z : Tally). counted_up 1 23 z) (sym start) ∙ ap (λ (n : ℕ). counted_up n (24 - n) lock.start) (sym next));
  fresh = ap (λ (z : Tally). z.annals.entries) start ∙ fresh;
  rooms = λ i low. subst (λ (z : Tally). count ≤ slice_index z.annals.room.entries i) (sym start) (rooms i low);
}

pub whole : (lock : Lock Tally) (count : ℕ) (c d : Held Tally) (value : Tally) → c.me ≡ (opening_view value, []) → Ends lock 15 count c d → size d.me.0 ≡ 24
whole lock count c d value me ends = ends.sized ∙ ap (λ (x : Sat Tally). size x.0) me

pub tells_all : (lock : Lock Tally) (count : ℕ) (c d : Held Tally) (v : Tally) → c.number ≡ 0 → c.next ≡ 1 → Ends lock 15 count c d → Each (Fits of_tally d.me.0.seen v) d.me.0.own → (i : ℕ) → i < 16 → entries_of i v.annals.entries ≡ works_by i count
tells_all lock count c d v number next ends fits i low = tells_value i (works_by i count) d.me.0.seen v d.me.0.own fits
    (dite (ℕ_discrete i 0)
    (λ e. subst (λ (n : ℕ). Tells of_tally n (works_by n count) d.me.0.own) (number ∙ sym e) ends.own)
    (λ ne. ends.others i (omega (arith, next, ne)) (omega (arith, next, low))))
