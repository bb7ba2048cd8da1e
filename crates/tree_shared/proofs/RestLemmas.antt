-- The jobs of a caller and of those that it splits off, and the end of all.
use Rattle.std.proofs.Common.{◌≡◌, ◌∙◌, ⊎_elim, inl, inr, ℕ, zero, suc, ◌+◌, ◌-◌, ◌<◌, ◌≤◌, Bool, true, ◌||◌, List, [], ◌∷◌, ◌++◌, length, map, length-append, ap, sym, subst, arith}
use Rattle.std.specs.Prelude.{is_some}
use mathlib.Core.Logic.{dite}
use native.Mathlib.Decide.{ℕ_discrete}
use Rattle.blsm_model.specs.Facts.{Eases}
use Rattle.blsm_model.specs.Format.{callers}
use Rattle.blsm_model.specs.declared.history.Entry.{Entry}
use Rattle.blsm_model.specs.declared.history.Line.{Line}
use Rattle.disk_trait.specs.Disk.{DiskState}
use Rattle.turn_lock.specs.Callers.{Held as Caller, Lock, GaveAway, IsSplitOff, IsOpened, with_me}
use Rattle.turn_lock.specs.Plays.{Sat}
use Rattle.turn_lock.specs.Rule.{IsKnown}
use Rattle.turn_lock.specs.Tallies.{In}
use Rattle.turn_lock.specs.Views.{Each, Fits, counted_up, first_of, joined, rest_of, size}
use Rattle.tree_core.specs.Calls.{CameSince}
use Rattle.tree_core.specs.Core.{CoreState}
use Rattle.tree_shared.specs.Seats.{facts_of}
use Rattle.tree_shared.specs.Runs.{Ends, HasEnded, SawFront, Starts, TellsEnd}
use Rattle.tree_shared.proofs.SeatLemmas.{or_left, or_right}

in_left : {A : Type 0} (p : A) (xs ys : List A) → In p xs → In p (xs ++ ys)
in_left p [] ys i = absurd i
in_left p (x ∷ xs) ys i = ⊎_elim (λ (e : p ≡ x). inl e) (λ (j : In p xs). inr (in_left p xs ys j)) i

in_right : {A : Type 0} (p : A) (xs ys : List A) → In p ys → In p (xs ++ ys)
in_right p [] ys i = i
in_right p (x ∷ xs) ys i = inr (in_right p xs ys i)

up_one : {V : Type 0} (next : ℕ) (a : V) → next < 24 → counted_up next (24 - next) a ≡ (next, a) ∷ counted_up (next + 1) (24 - (next + 1)) a
up_one next a low = let e : 24 - next ≡ suc (24 - (next + 1)) = omega (arith, low) in ap (λ (n : ℕ). counted_up next n a) e

-- what was seen of the core's stop lasts
ended_on : {D : Type 0} (lines : List Line) (turns i : ℕ) (halted later : Bool) (core : CoreState D) → (halted ≡ true → later ≡ true) → HasEnded lines turns halted i core → HasEnded lines turns later i core
ended_on lines turns i halted later core lasts ended = record {
  asked = ended.asked;
  gone = λ below. let gone = ended.gone below in (gone.0, gone.1, ⊎_elim (λ (was : halted ≡ true). inl (lasts was)) (λ none. inr none) gone.2);
  helped = ended.helped;
  few = ended.few;
}

module _ {D : Type 0} (state : D → DiskState) (lines : List Line) (turns : ℕ) (lock : Lock (CoreState D)) where
  -- ---- splitting off

  own_of_other : (m : ℕ) (c o : Caller (CoreState D)) → Starts lock (suc m) c → IsSplitOff c o → o.me.0.own ≡ (o.number, lock.start) ∷ []
  own_of_other m c o s a = ap (λ (x : Sat (CoreState D)). x.0.own) a.me ∙ (ap first_of (s.spare ∙ up_one c.next lock.start (omega (arith, s.last))) ∙ ap (λ (n : ℕ). (n, lock.start) ∷ []) (sym a.number))

  one_more : (more : ℕ) → 0 < more → more ≡ suc (more - 1)
  one_more more some = omega (arith, some)

  -- ---- coming together

  spares_same : (m n : ℕ) → m ≡ n → counted_up m (24 - m) lock.start ≡ counted_up n (24 - n) lock.start
  spares_same m n is = ap (λ (k : ℕ). counted_up k (24 - k) lock.start) is

  ends_more : (m : ℕ) (c c1 o d1 d2 d : Caller (CoreState D)) → Starts lock (suc m) c → GaveAway c c1 → IsSplitOff c o → Ends state lines turns lock m c1 d1 → size d2.me.0 ≡ size o.me.0 → TellsEnd state lock.start lines turns o.number d2
      → d ≡ with_me d1 (joined d1.me.0 d2.me.0, []) → Ends state lines turns lock (suc m) c d
  ends_more m c c1 o d1 d2 d s a b ends size_2 told is =
      let u = d2.me.0 in
      let own : d.me.0.own ≡ d1.me.0.own ++ (u.own ++ u.spare) = ap (λ (h : Caller (CoreState D)). h.me.0.own) is in
      let spare_d : d.me.0.spare ≡ d1.me.0.spare = ap (λ (h : Caller (CoreState D)). h.me.0.spare) is in
      let halted : d.me.0.halted ≡ (d1.me.0.halted || u.halted) = ap (λ (h : Caller (CoreState D)). h.me.0.halted) is in
      let own_o = own_of_other m c o s b in
      let spares : c.me.0.spare ≡ (c.next, lock.start) ∷ counted_up (c.next + 1) (24 - (c.next + 1)) lock.start = s.spare ∙ up_one c.next lock.start (omega (arith, s.last)) in
      let size_o : size o.me.0 ≡ 1 = omega (arith, ap length own_o, ap (λ (x : Sat (CoreState D)). length x.0.spare) b.me) in
      let size_c1 : size c1.me.0 + 1 ≡ size c.me.0 = omega (arith, ap (λ (x : Sat (CoreState D)). length x.0.own) a.me, ap (λ (x : Sat (CoreState D)). length x.0.spare) a.me, ap (λ l. length (rest_of l)) spares, ap length spares) in
      let to_d : (i : ℕ) → TellsEnd state lock.start lines turns i d1 → TellsEnd state lock.start lines turns i d = λ i t.
      (t.0, subst (In (i, t.0)) (sym own) (in_left (i, t.0) d1.me.0.own (u.own ++ u.spare) t.1), ended_on lines turns i d1.me.0.halted d.me.0.halted t.0 (λ was. halted ∙ or_left d1.me.0.halted u.halted was) t.2, t.3) in
      let from_2 : (i : ℕ) → TellsEnd state lock.start lines turns i d2 → TellsEnd state lock.start lines turns i d = λ i t.
      (t.0, subst (In (i, t.0)) (sym own) (in_right (i, t.0) d1.me.0.own (u.own ++ u.spare) (in_left (i, t.0) u.own u.spare t.1)), ended_on lines turns i u.halted d.me.0.halted t.0 (λ was. halted ∙ or_right d1.me.0.halted u.halted was) t.2, t.3) in
      record {
        of_lock = (ap (λ (h : Caller (CoreState D)). h.table) is ∙ ends.of_lock.0, ap (λ (h : Caller (CoreState D)). h.me.0.start) is ∙ ends.of_lock.1, (ap (λ (h : Caller (CoreState D)). h.me.0.stage) is ∙ ends.of_lock.2.0, ap (λ (h : Caller (CoreState D)). h.me.1) is));
        sized = omega (arith, ap length own, ap length spare_d, length-append d1.me.0.own (u.own ++ u.spare), length-append u.own u.spare, ends.sized, size_o, size_c1, size_2);
        own = to_d c.number (subst (λ (n : ℕ). TellsEnd state lock.start lines turns n d1) a.number ends.own);
        others = λ i low high. dite (ℕ_discrete i c.next)
            (λ e. subst (λ (n : ℕ). TellsEnd state lock.start lines turns n d) (b.number ∙ sym e) (from_2 o.number told))
            (λ ne. to_d i (ends.others i (omega (arith, low, ne, a.next)) (omega (arith, high, a.next))));
        spare = spare_d ∙ (ends.spare ∙ spares_same (c1.next + m) (c.next + suc m) (omega (arith, a.next)));
      }

  pub ends_all : (more : ℕ) (c c1 o d1 d2 d : Caller (CoreState D)) → 0 < more → Starts lock more c → GaveAway c c1 → IsSplitOff c o → Ends state lines turns lock (more - 1) c1 d1 → size d2.me.0 ≡ size o.me.0 → TellsEnd state lock.start lines turns o.number d2
      → d ≡ with_me d1 (joined d1.me.0 d2.me.0, []) → Ends state lines turns lock more c d
  ends_all more c c1 o d1 d2 d some s a b ends size_2 told is =
      subst (λ (n : ℕ). Ends state lines turns lock n c d) (sym (one_more more some)) (ends_more (more - 1) c c1 o d1 d2 d (subst (λ (n : ℕ). Starts lock n c) (one_more more some) s) a b ends size_2 told is)

  -- ---- the value in the end

  at : (P : ℕ × CoreState D → Type 0) (p : ℕ × CoreState D) (ps : List (ℕ × CoreState D)) → In p ps → Each P ps → P p
  at P p [] i each = absurd i
  at P p (q ∷ qs) i each = ⊎_elim (λ (e : p ≡ q). subst P (sym e) each.0) (λ (j : In p qs). at P p qs j each.1) i

  -- what one caller tells of it
  pub ended_in_value : (i : ℕ) (d : Caller (CoreState D)) (end : CoreState D) → IsKnown facts_of (CameSince state) lock.start end d.me.0 → TellsEnd state lock.start lines turns i d → HasEnded lines turns (is_some end.held.book.stopped) i end
  ended_in_value i d end known t =
      let fits = at (Fits facts_of d.me.0.seen end) (i, t.0) d.me.0.own t.1 known.knows.own in
      let eases = fits.0.part in
      record {
        asked = ap (map (λ (e : Entry). e.op)) fits.0.entries ∙ t.2.asked;
        gone = λ below. let gone = t.2.gone below in (
          eases.left ∙ gone.0,
          eases.turns ∙ gone.1,
          ⊎_elim (λ (was : d.me.0.halted ≡ true). inl (known.knows.halted was)) (λ (none : ((facts_of t.0).part i).debt1 + ((facts_of t.0).part i).debt2 ≡ 0). inr (omega (arith, none, eases.debt1, eases.debt2))) gone.2,
        );
        helped = λ above some. subst (λ (n : ℕ). 0 < n) (sym eases.turns) (t.2.helped above some);
        few = λ above. let few = t.2.few above in (omega (arith, eases.turns, few.0), omega (arith, eases.quanta, eases.turns, few.1));
      }

  -- what it had seen when it left
  pub saw_front : (i : ℕ) (d : Caller (CoreState D)) (end : CoreState D) → i < callers → IsKnown facts_of (CameSince state) lock.start end d.me.0 → TellsEnd state lock.start lines turns i d → SawFront state i lock.start end
  saw_front i d end below known t =
      let fits = at (Fits facts_of d.me.0.seen end) (i, t.0) d.me.0.own t.1 known.knows.own in
      record { core = t.0; left = t.3 below; front = fits.0.front; own = fits.0.entries }

  -- a number that nobody had
  in_counted : (from n i : ℕ) → from ≤ i → i < from + n → In (i, lock.start) (counted_up from n lock.start)
  in_counted from zero i low high = absurd (omega (arith, low, high))
  in_counted from (suc n) i low high = dite (ℕ_discrete i from)
      (λ e. inl (ap (λ (k : ℕ). (k, lock.start)) e))
      (λ ne. inr (in_counted (from + 1) n i (omega (arith, low, ne)) (omega (arith, high))))

  pub spare_in_value : (i more : ℕ) (c d : Caller (CoreState D)) (end : CoreState D) → IsKnown facts_of (CameSince state) lock.start end d.me.0 → Ends state lines turns lock more c d → c.next + more ≤ i → i < 24
      → Eases ((facts_of lock.start).part i) ((facts_of end).part i)
  spare_in_value i more c d end known ends low high =
      (at (Fits facts_of d.me.0.seen end) (i, lock.start) d.me.0.spare
      (subst (In (i, lock.start)) (sym ends.spare) (in_counted (c.next + more) (24 - (c.next + more)) i low (omega (arith, low, high)))) known.knows.spare).0.part

  -- every caller's, and those of the workers
  pub told_of : (more i : ℕ) (core : CoreState D) (c d : Caller (CoreState D)) → IsOpened core lock c → Ends state lines turns lock more c d → i < 1 + more → TellsEnd state lock.start lines turns i d
  told_of more i core c d o ends below = dite (ℕ_discrete i 0)
      (λ e. subst (λ (n : ℕ). TellsEnd state lock.start lines turns n d) (o.number ∙ sym e) ends.own)
      (λ ne. ends.others i (omega (arith, o.next, ne)) (omega (arith, o.next, below)))
