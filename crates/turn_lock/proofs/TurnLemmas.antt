-- What a turn tells its caller, and turns one after another.
use Rattle.std.proofs.lemmas.Bool.Decides.{nat_tests}
use Rattle.std.proofs.lemmas.Grind.{common_steps}
use Rattle.std.proofs.Common.{◌≡◌, ℕ, ◌+◌, Bool, true, ◌||◌, List, [], ◌∷◌, ◌++◌, ◌==◌, length, sym, ap, ◌∙◌, subst, arith, append_assoc, length-append, ⊎_elim}
use Rattle.std.specs.Prelude.{Some}
use Rattle.std.proofs.lemmas.List.Elements.{filter-append}
use Rattle.blsm_model.specs.declared.history.Entry.{Entry}
use Rattle.blsm_model.specs.Facts.{Facts, Part, Eases, Follows, entries_of}
use Rattle.turn_lock.specs.Views.{Each, Fits}
use Rattle.turn_lock.specs.Plays.{Sat, Finds, renewed}
use Rattle.turn_lock.specs.Callers.{Held, HasTaken, GaveBack, Idles}
use Rattle.turn_lock.specs.Tallies.{its_entries}
use Rattle.turn_lock.specs.Turns.{TookTurn, Did, Knows, Went}

or_left : (a b : Bool) → a ≡ true → (a || b) ≡ true
or_left a b is = ap (λ (x : Bool). x || b) is

or_right : (a b : Bool) → b ≡ true → (a || b) ≡ true
or_right a b h1 = grind (arith, common_steps, nat_tests)

module _ {V : Type 0} (f : V → Facts) (st : V → V → Type 0) where
  -- from what taking and giving back say
  pub took_turn : (c t d : Held V) (b w : V) → HasTaken f st c b t → GaveBack f st t w d → Follows c.number (f b) (f w) → ((a : V) → c.me.0.start ≡ Some a → st a w) → TookTurn f st c b w d
  took_turn c t d b w h1 h2 h3 h4 = grind (arith, common_steps, nat_tests)

  -- ---- what it knows of its part

  head_fits : (c : Held V) (b value : V) (more : List (ℕ × V)) → c.me.0.own ≡ (c.number, value) ∷ more → Finds f st c.me.0 b → Fits f c.me.0.seen b (c.number, value)
  head_fits c b value more own finds = (subst (λ (l : List (ℕ × V)). Each (Fits f c.me.0.seen b) l) own finds.own).0

  -- its entries: those that it knew, in the value and in what it had seen
  head_entries : (c : Held V) (b value : V) (more : List (ℕ × V)) → c.me.0.own ≡ (c.number, value) ∷ more → Finds f st c.me.0 b
      → (entries_of c.number (f b).history ≡ entries_of c.number (f value).history) × (entries_of c.number c.me.0.seen ≡ entries_of c.number (f b).history)
  head_entries c b value more own finds = let fits = head_fits c b value more own finds in (fits.0.entries, fits.1)

  pub part_found : (P : Bool → Part → Type 0) (c : Held V) (b : V) (k : Knows f P c) → Finds f st c.me.0 b → Eases ((f k.value).part c.number) ((f b).part c.number)
  part_found P c b k finds = (head_fits c b k.value k.more k.own finds).0.part

  pub knows_after : (P Q : Bool → Part → Type 0) (c d : Held V) (b w : V) → TookTurn f st c b w d → Knows f P c
      → ((p : Part) → P c.me.0.halted p → Eases p ((f b).part c.number) → Q ((c.me.0.halted || (f b).stopped) || (f w).stopped) ((f w).part c.number)) → Knows f Q d
  knows_after P Q c d b w turn k then = record {
    value = w;
    more = k.more;
    own = ap (λ (x : Sat V). x.0.own) turn.me ∙ (ap (renewed f w) k.own ∙ ap (λ (n : ℕ). (n, w) ∷ k.more) (sym turn.number));
    part = subst (λ (n : ℕ). Q d.me.0.halted ((f w).part n)) (sym turn.number)
        (subst (λ (h : Bool). Q h ((f w).part c.number)) (sym (ap (λ (x : Sat V). x.0.halted) turn.me)) (then ((f k.value).part c.number) k.part (part_found P c b k turn.finds)));
  }

  -- ---- what its seat noted

  pub did_turn : (P : Bool → Part → Type 0) (c d : Held V) (b w : V) (es : List Entry) → TookTurn f st c b w d → Knows f P c → (f w).history ≡ (f b).history ++ es → entries_of c.number es ≡ es → Did f st c es d
  did_turn P c d b w es turn k more mine =
      let n = c.number in
      let was = head_entries c b k.value k.more k.own turn.finds in
      let whole : entries_of n (f w).history ≡ entries_of n (f b).history ++ es =
      ap (entries_of n) more ∙ filter-append (λ (e : Entry). e.seat == n) (f b).history es ∙ ap (λ (l : List Entry). entries_of n (f b).history ++ l) mine in
      let seen : d.me.0.seen ≡ (f w).history = ap (λ (x : Sat V). x.0.seen) turn.me in
      let own : d.me.0.own ≡ renewed f w c.me.0.own = ap (λ (x : Sat V). x.0.own) turn.me in
      let front : d.me.0.front ≡ length (f w).history = ap (λ (x : Sat V). x.0.front) turn.me in
      let bytes : d.me.0.bytes ≡ (f w).peak = ap (λ (x : Sat V). x.0.bytes) turn.me in
      let before = turn.finds.seen in
      record {
        noted = record {
          table = turn.table;
          number = turn.number;
          next = turn.next;
          idle = (ap (λ (x : Sat V). x.0.stage) turn.me, ap (λ (x : Sat V). x.1) turn.me);
          begun = ap (λ (x : Sat V). x.0.start) turn.me;
          own = (w, own);
          spare = ap (λ (x : Sat V). x.0.spare) turn.me;
          seen = (before.0 ++ es, sym (append_assoc c.me.0.seen before.0 es) ∙ ap (λ (l : List Entry). l ++ es) before.1 ∙ sym more ∙ sym seen);
          mine = ap (entries_of n) seen ∙ whole ∙ ap (λ (l : List Entry). l ++ es) (sym was.1);
          known = ap (its_entries f) (own ∙ ap (renewed f w) k.own) ∙ whole ∙ ap (λ (l : List Entry). l ++ es) was.0 ∙ ap (λ (l : List Entry). l ++ es) (sym (ap (its_entries f) k.own));
        };
        over = λ is. ap (λ (x : Sat V). x.0.over) turn.me ∙ or_left (c.me.0.over || ((f b).closed || (f b).stopped)) ((f w).closed || (f w).stopped) (or_left c.me.0.over ((f b).closed || (f b).stopped) is);
        halted = λ is. ap (λ (x : Sat V). x.0.halted) turn.me ∙ or_left (c.me.0.halted || (f b).stopped) (f w).stopped (or_left c.me.0.halted (f b).stopped is);
        value = w;
        own = own;
        seen = seen;
        front = front;
        bytes = bytes;
        longer = let up = turn.finds.front in omega (arith, front, ap length more, length-append (f b).history es, up);
        greater = let up = turn.finds.bytes in let risen = turn.follows.peak in omega (arith, bytes, up, risen);
        lasts = turn.lasts;
      }

  pub did_then : (c d e : Held V) (xs ys : List Entry) → Did f st c xs d → Did f st d ys e → Did f st c (xs ++ ys) e
  did_then c d e xs ys h1 h2 = grind (arith, common_steps, nat_tests)

  pub saw_over : (c d : Held V) (b w : V) → TookTurn f st c b w d → ((f w).closed || (f w).stopped) ≡ true → d.me.0.over ≡ true
  saw_over c d b w turn is = ap (λ (x : Sat V). x.0.over) turn.me ∙ or_right (c.me.0.over || ((f b).closed || (f b).stopped)) ((f w).closed || (f w).stopped) is

  -- ---- some turns, or none

  pub went_then : (c d e : Held V) (xs ys : List Entry) → Went f st c xs d → Did f st d ys e → Did f st c (xs ++ ys) e
  went_then c d e xs ys one two = ⊎_elim
      (λ (still : (d ≡ c) × (xs ≡ [])). subst (λ (l : List Entry). Did f st c (l ++ ys) e) (sym still.1) (subst (λ (h : Held V). Did f st h ys e) still.0 two))
      (λ (did : Did f st c xs d). did_then c d e xs ys did two)
      one

  -- it is the same caller of the same lock, and idle where it was
  pub went_same : (c d : Held V) (xs : List Entry) → Went f st c xs d → (d.table ≡ c.table) × (d.number ≡ c.number) × (d.next ≡ c.next) × (d.me.0.start ≡ c.me.0.start) × (d.me.0.spare ≡ c.me.0.spare) × (Idles c.me → Idles d.me)
  went_same c d xs h1 = grind (arith, common_steps, nat_tests)
