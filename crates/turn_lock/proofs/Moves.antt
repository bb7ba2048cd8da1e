-- Each step keeps the rule.
use Rattle.std.proofs.lemmas.Bool.Decides.{nat_tests}
use Rattle.std.proofs.lemmas.Grind.{common_steps}
use Rattle.std.proofs.Common.{◌≡◌, ◌≢◌, ◌⊎◌, ℕ, zero, suc, ◌+◌, ◌-◌, ◌%◌, ◌^◌, ◌<◌, ◌≤◌, Bool, true, false, ◌||◌, List, [], ◌∷◌, ◌++◌, length, set, sym, refl, ap, ◌∙◌, subst, inl, inr, ⊎_elim, arith, cond, le_trans}
use Rattle.std.specs.Prelude.{slice_index}
use Rattle.std.specs.Prelude.{Option, Some, None}
use mathlib.Core.Option as found
use mathlib.Core.Option.{some-injective}
use mathlib.Core.Logic.{dite}
use Rattle.std.proofs.Common.{length-append, eq-eqb, get_or, leb}
use mathlib.Core.List.{IsPrefix}
use native.Mathlib.Decide.{ℕ_discrete, dec_le}
use Rattle.std.proofs.lemmas.Bool.{leb-true, le-leb}
use mathlib.Core.Bool.{true≢false}
use Rattle.blsm_model.specs.declared.history.Entry.{Entry}
use lib.ListN.{get_elem?}
use Rattle.atomic_table.specs.Table.{State, step, Act, keeps, takes, gives, stepped, carried_after, Valid, Allows, Splits, Joins, opening, Final, Seen}
use Rattle.atomic_table.proofs.Lists.{at_set, at_snoc, set_else, one_turn}
use Rattle.blsm_model.specs.Facts.{Facts, Follows, Notes, entries_of}
use Rattle.turn_lock.specs.Views.{total, with_stage, ticket_of, waiting, holding, waits, holds, size, has, is_number, Each, Fits, opening_view, counted_up, cut, given, joined, spent, longer, rest_of, first_of}
use Rattle.turn_lock.specs.Rule.{Placed, Knows, Home, Kept}
use Rattle.turn_lock.specs.Plays.{Sat, drew, looked, gave, taking, giving, renewed, with_front, with_bytes, published, ended, read_front, read_bytes}
use Rattle.turn_lock.specs.declared.view.Stage.{Stage}
use Rattle.turn_lock.specs.declared.view.Stage.TheVariants.{Idle, Waits, Holds, Gave}
use Rattle.turn_lock.specs.declared.view.View.{View}
use Rattle.turn_lock.proofs.Sums.{total-append, total-set, term_le, terms_le, total_some, total_zero, total_le}
use Rattle.turn_lock.proofs.Seen.{prefix_notes, same_self, each_but, each_map, fits_self, fits_seen, fits_follows, prefix_shorter, entries_between}

some_none : {A : Type 0} {x : A} → None ≡ Some x → ⊥
some_none e = cc (e)

ticket_is : {A : Type 0} {x y : A} → Some x ≡ Some y → x ≡ y
ticket_is e = cc (e)

waits_is : {A : Type 0} (i j : ℕ) (stage : Stage A) → stage ≡ Waits i → stage ≡ Waits j → i ≡ j
waits_is i j stage a b = cc (a, b)

or_true : (a b : Bool) → (a || b) ≡ true → (a ≡ true) ⊎ (b ≡ true)
or_true a b h1 = grind (arith, common_steps, nat_tests)

cond_case : {A : Type 0} (P : A → Type 0) (b : Bool) (x y : A) → P x → P y → P (cond b x y)
cond_case P b x y h1 h2 = grind (arith, common_steps, nat_tests)

not_leb : (a b : ℕ) → leb a b ≡ false → b ≤ a
not_leb a b e = dite (dec_le a b) (λ le. absurd (true≢false (sym (le-leb a b le) ∙ e))) (λ no. omega (arith, no))

each_append : {A : Type 0} (P : A → Type 0) (xs ys : List A) → Each P xs → Each P ys → Each P (xs ++ ys)
each_append P [] ys a b = b
each_append P (x ∷ xs) ys a b = (a.0, each_append P xs ys a.1 b)

module _ {V : Type 0} where
  -- the table whose view of one seat changes
  abbrev board : List ℕ → List (found.Option (Option V)) → List (View V) → State (Option V) (View V)
  board ws hs vs = record { words = ws; homes = hs; views = vs }

  module _ (f : V → Facts) (st : V → V → Type 0) (k : V) where
    abbrev Rule : State (Option V) (View V) → Type 0
    Rule s = Kept f st k s

    -- a held ticket is in its range, where one seat at least has one
    pub in_range : (served n : ℕ) (value : V) (stage : Stage V) (j : ℕ) → Placed f st k served n value stage → ticket_of stage ≡ Some j → waiting stage ≤ n → (served ≤ j) × (j < served + n)
    in_range served n value stage j h1 h2 h3 = grind (arith, common_steps, nat_tests)

    placed_more : (served n m : ℕ) (value : V) (stage : Stage V) → n ≤ m → Placed f st k served n value stage → Placed f st k served m value stage
    placed_more served n m value stage h1 h2 = grind (arith, common_steps, nat_tests)

    changed : (s : State (Option V) (View V)) (o : Rule s) (id : ℕ) (v w : View V) (ws : List ℕ) (hs : List (found.Option (Option V))) (served : ℕ) (value : V) (front bytes : ℕ)
        → front ≤ length (f value).history → bytes ≤ (f value).peak
        → get_elem? s.views id ≡ found.some v
        → ws ≡ (served + total waits (set s.views id w)) % 2 ^ 64 ∷ served % 2 ^ 64 ∷ front ∷ bytes ∷ []
        → Home f st k value (total holds (set s.views id w)) hs
        → ((x : ℕ) (u : View V) → x ≢ id → get_elem? s.views x ≡ found.some u → Placed f st k served (total waits (set s.views id w)) value u.stage)
        → Placed f st k served (total waits (set s.views id w)) value w.stage
        → ((x j : ℕ) (u : View V) → x ≢ id → get_elem? s.views x ≡ found.some u → ticket_of w.stage ≡ Some j → ticket_of u.stage ≡ Some j → ⊥)
        → size w ≡ size v
        → ((i : ℕ) → has i w ≡ has i v)
        → ((x : ℕ) (u : View V) → x ≢ id → get_elem? s.views x ≡ found.some u → Knows f st k value front bytes u)
        → Knows f st k value front bytes w
        → st k value
        → Rule (board ws hs (set s.views id w))
    changed s o id v w ws hs served value front bytes front_fits bytes_fits me words home others mine tickets sizes numbers know_all know lasts = record {
      served = served;
      value = value;
      front = front;
      bytes = bytes;
      front_fits = front_fits;
      bytes_fits = bytes_fits;
      words = words;
      home = home;
      placed = λ x u e. ⊎_elim
          (λ (t : (x ≡ id) × (w ≡ u)). subst (λ (z : View V). Placed f st k served (total waits (set s.views id w)) value z.stage) t.1 mine)
          (λ (t : (x ≢ id) × (get_elem? s.views x ≡ found.some u)). others x u t.0 t.1)
          (at_set s.views id x w u e);
      apart = λ x y j a b ea eb ta tb. ⊎_elim
          (λ (p : (x ≡ id) × (w ≡ a)). ⊎_elim
          (λ (q : (y ≡ id) × (w ≡ b)). p.0 ∙ sym q.0)
          (λ (q : (y ≢ id) × (get_elem? s.views y ≡ found.some b)). absurd (tickets y j b q.0 q.1 (ap (λ (z : View V). ticket_of z.stage) p.1 ∙ ta) tb))
          (at_set s.views id y w b eb))
          (λ (p : (x ≢ id) × (get_elem? s.views x ≡ found.some a)). ⊎_elim
          (λ (q : (y ≡ id) × (w ≡ b)). absurd (tickets x j a p.0 p.1 (ap (λ (z : View V). ticket_of z.stage) q.1 ∙ tb) ta))
          (λ (q : (y ≢ id) × (get_elem? s.views y ≡ found.some b)). o.apart x y j a b p.1 q.1 ta tb)
          (at_set s.views id y w b eb))
          (at_set s.views id x w a ea);
      all = omega (arith, total-set size s.views id v w me, o.all, sizes);
      once = λ i l. omega (arith, total-set (has i) s.views id v w me, o.once i l, numbers i);
      knows = λ x u e. ⊎_elim
          (λ (t : (x ≡ id) × (w ≡ u)). subst (λ (z : View V). Knows f st k value front bytes z) t.1 know)
          (λ (t : (x ≢ id) × (get_elem? s.views x ≡ found.some u)). know_all x u t.0 t.1)
          (at_set s.views id x w u e);
      lasts = lasts;
    }

    -- so few wait that no ticket stands twice
    few_wait : (s : State (Option V) (View V)) → Rule s → total waits s.views ≤ 24
    few_wait s o = omega (arith, total_le waits size s.views (λ j v e. omega (arith, (o.knows j v e).few)), o.all)

    pub draws : (slots id : ℕ) (v : View V) → v.stage ≡ Idle → 0 < length v.own
        → Allows Rule slots id (v, []) 0 (λ n. (n + 1) % 2 ^ 64) (drew (step slots 0 1 0 found.none) (v, []))
    draws slots id v idle owns s o wide me _ =
        let n = total waits s.views in
        let j = o.served + n in
        let w = with_stage v (Waits j) in
        let none_yet : waits v ≡ 0 = ap waiting idle in
        let none_out : holds v ≡ 0 = ap holding idle in
        let more : total waits (set s.views id w) ≡ n + 1 = omega (arith, total-set waits s.views id v w me, none_yet) in
        let out : total holds (set s.views id w) ≡ total holds s.views = omega (arith, total-set holds s.views id v w me, none_out) in
        let know = o.knows id v me in
        let wrapped : (j % 2 ^ 64 + 1) % 2 ^ 64 ≡ (o.served + total waits (set s.views id w)) % 2 ^ 64 = omega (arith, more) in (
          w,
          keeps,
          tt,
          changed s o id v w (set s.words 0 ((slice_index s.words 0 + 1) % 2 ^ 64)) s.homes o.served o.value o.front o.bytes o.front_fits o.bytes_fits me
              (ap (λ (ws : List ℕ). set ws 0 ((slice_index ws 0 + 1) % 2 ^ 64)) o.words ∙ ap (λ (x : ℕ). x ∷ o.served % 2 ^ 64 ∷ o.front ∷ o.bytes ∷ []) wrapped)
              (subst (λ (x : ℕ). Home f st k o.value x s.homes) (sym out) o.home)
              (λ x u apart e. placed_more o.served n (total waits (set s.views id w)) o.value u.stage (omega (arith, more)) (o.placed x u e))
              (omega arith, omega (arith, more))
              (λ x i u apart e mine theirs. let t = in_range o.served n o.value u.stage i (o.placed x u e) theirs (term_le waits s.views x u e) in let same : j ≡ i = ticket_is mine in absurd (omega (arith, t.1)))
              refl (λ i. refl) (λ x u apart e. o.knows x u e)
              (record { begun = know.begun; few = omega (arith, owns); seen = know.seen; own = know.own; spare = know.spare; over = know.over; front_read = know.front_read; bytes_read = know.bytes_read; halted = know.halted })
              o.lasts,
          (j, sym (ap (λ (ws : List ℕ). slice_index ws 0) o.words), refl),
        )

    pub draws_at : (slots id : ℕ) (m : Sat V) → (m.0.stage ≡ Idle) × (m.1 ≡ []) → 0 < length m.0.own
        → Allows Rule slots id m 0 (λ n. (n + 1) % 2 ^ 64) (drew (step slots 0 1 0 found.none) m)
    draws_at slots id m idle owns = subst (λ (x : Sat V). Allows Rule slots id x 0 (λ n. (n + 1) % 2 ^ 64) (drew (step slots 0 1 0 found.none) x)) (λ i. (m.0, sym idle.1 i)) (draws slots id m.0 idle.0 owns)

    -- a view that has the value has the served ticket
    holder : (served n : ℕ) (value : V) (stage : Stage V) → 0 < holding stage → Placed f st k served n value stage → ticket_of stage ≡ Some served
    holder served n value stage h1 h2 = grind (arith, common_steps, nat_tests)

    -- whoever waits with the served ticket finds the value at home
    at_home : (s : State (Option V) (View V)) (o : Rule s) (id : ℕ) (v : View V) (j : ℕ) → get_elem? s.views id ≡ found.some v → v.stage ≡ Waits j → j ≡ o.served → total holds s.views ≡ 1 → ⊥
    at_home s o id v j me waits_so now out =
        let t = total_some holds s.views (omega (arith, out)) in
        let theirs = holder o.served (total waits s.views) o.value t.1.stage t.3 (o.placed t.0 t.1 t.2) in
        let mine : ticket_of v.stage ≡ Some o.served = ap ticket_of waits_so ∙ ap (λ (x : ℕ). Some x) now in
        let one : t.0 ≡ id = o.apart t.0 id o.served t.1 v t.2 me theirs mine in
        let same : t.1 ≡ v = some-injective t.1 v (sym t.2 ∙ (ap (λ (x : ℕ). get_elem? s.views x) one ∙ me)) in
        let none_out : holding t.1.stage ≡ 0 = ap (λ (u : View V). holding u.stage) same ∙ ap holding waits_so in
        let some_out = t.3 in
        absurd (omega (arith, none_out, some_out))

    -- what is known of a value that was just seen
    knows_seen : (v : View V) (b : V) (own : List (ℕ × V)) (stage : Stage V) (front bytes x y : ℕ) → x ≤ front → y ≤ bytes → v.start ≡ Some k → waiting stage ≤ length own
        → Each (Fits f (f b).history b) own → Each (Fits f (f b).history b) v.spare
        → (v.over ≡ true → ((f b).closed ≡ true) ⊎ ((f b).stopped ≡ true)) → (v.halted ≡ true → (f b).stopped ≡ true)
        → Knows f st k b front bytes (record { start = v.start; seen = (f b).history; over = v.over || ((f b).closed || (f b).stopped); halted = v.halted || (f b).stopped; own = own; spare = v.spare; stage = stage; front = x; bytes = y })
    knows_seen v b own stage front bytes x y h1 h2 h3 h4 h5 h6 h7 h8 = grind (arith, common_steps, nat_tests)

    pub looks : (slots id : ℕ) (v : View V) (j : ℕ) → v.stage ≡ Waits j
        → Allows Rule slots id (v, []) 1 (λ n. n) (looked f st (step slots 1 0 0 found.none) (v, []))
    looks slots id v j stage s o wide me _ =
        let n = total waits s.views in
        let words' : set s.words 1 (slice_index s.words 1) ≡ (o.served + n) % 2 ^ 64 ∷ o.served % 2 ^ 64 ∷ o.front ∷ o.bytes ∷ [] = ap (λ (ws : List ℕ). set ws 1 (slice_index ws 1)) o.words in
        let read : slice_index s.words 1 ≡ o.served % 2 ^ 64 = ap (λ (ws : List ℕ). slice_index ws 1) o.words in
        let placed : Placed f st k o.served n o.value (Waits j) = subst (Placed f st k o.served n o.value) stage (o.placed id v me) in
        let know = o.knows id v me in
        let waits_one : waits v ≡ 1 = ap waiting stage in
        let few = know.few in
        let begun : v.start ≡ Some k = know.begun (omega (arith, few, waits_one)) in
        let hit : j % 2 ^ 64 ≡ o.served % 2 ^ 64
        → (w : View V) × (a : Act (Option V)) × Valid s.homes [] a × Rule (stepped s 1 (slice_index s.words 1) id [] w a) × looked f st (step slots 1 0 0 found.none) (v, []) (slice_index s.words 1) (w, carried_after [] a)
        = λ same.
        let now : j ≡ o.served = sym (one_turn o.served j (2 ^ 64) placed.0 (omega (arith, placed.1, few_wait s o)) (sym same)) in
        ⊎_elim
        (λ (home : (s.homes ≡ found.some (Some o.value) ∷ []) × (total holds s.views ≡ 0)).
        let w = taking f v j o.value in
        let still : total waits (set s.views id w) ≡ n = omega (arith, total-set waits s.views id v w me, waits_one) in
        let out : total holds (set s.views id w) ≡ 1 = omega (arith, total-set holds s.views id v w me, home.1, ap holding stage) in (
          w,
          takes 0 (Some o.value),
          ap (λ (hs : List (found.Option (Option V))). get_elem? hs 0) home.0,
          changed s o id v w (set s.words 1 (slice_index s.words 1)) (set s.homes 0 found.none) o.served o.value o.front o.bytes o.front_fits o.bytes_fits me
              (words' ∙ ap (λ (x : ℕ). (o.served + x) % 2 ^ 64 ∷ o.served % 2 ^ 64 ∷ o.front ∷ o.bytes ∷ []) (sym still))
              (inr (ap (λ (hs : List (found.Option (Option V))). set hs 0 found.none) home.0, out))
              (λ x u apart e. placed_more o.served n (total waits (set s.views id w)) o.value u.stage (omega (arith, still)) (o.placed x u e))
              (now, refl)
              (λ x i u apart e mine theirs. apart (o.apart x id i u v e me theirs (ap ticket_of stage ∙ mine)))
              refl (λ i. refl) (λ x u apart e. o.knows x u e)
              (knows_seen v o.value v.own (Holds j o.value) o.front o.bytes v.front v.bytes know.front_read know.bytes_read begun (omega (arith, few, waits_one)) (each_map (Fits f v.seen o.value) (Fits f (f o.value).history o.value) v.own (fits_seen f v.seen o.value) know.own) (each_map (Fits f v.seen o.value) (Fits f (f o.value).history o.value) v.spare (fits_seen f v.seen o.value) know.spare) know.over know.halted)
              o.lasts,
          λ i ei.
              let one : j ≡ i = waits_is j i v.stage stage ei in (
                (λ _. (o.value, ap (λ (x : ℕ). (taking f v x o.value, (0, Some o.value) ∷ [])) one, record { seen = know.seen; own = know.own; lasts = λ a ea. subst (λ (z : V). st z o.value) (ticket_is (sym begun ∙ ea)) o.lasts; over = know.over; halted = know.halted; front = le_trans know.front_read o.front_fits; bytes = le_trans know.bytes_read o.bytes_fits })),
                (λ miss. absurd (miss (ap (λ (x : ℕ). x % 2 ^ 64) (sym one) ∙ (same ∙ sym read)))),
              ),
        ))
        (λ (home : (s.homes ≡ found.none ∷ []) × (total holds s.views ≡ 1)). absurd (at_home s o id v j me stage now home.1))
        o.home in
        let miss : j % 2 ^ 64 ≢ o.served % 2 ^ 64
        → (w : View V) × (a : Act (Option V)) × Valid s.homes [] a × Rule (stepped s 1 (slice_index s.words 1) id [] w a) × looked f st (step slots 1 0 0 found.none) (v, []) (slice_index s.words 1) (w, carried_after [] a)
        = λ other.
        let still : total waits (set s.views id v) ≡ n = omega (arith, total-set waits s.views id v v me) in
        let out : total holds (set s.views id v) ≡ total holds s.views = omega (arith, total-set holds s.views id v v me) in (
          v,
          keeps,
          tt,
          changed s o id v v (set s.words 1 (slice_index s.words 1)) s.homes o.served o.value o.front o.bytes o.front_fits o.bytes_fits me
              (words' ∙ ap (λ (x : ℕ). (o.served + x) % 2 ^ 64 ∷ o.served % 2 ^ 64 ∷ o.front ∷ o.bytes ∷ []) (sym still))
              (subst (λ (x : ℕ). Home f st k o.value x s.homes) (sym out) o.home)
              (λ x u apart e. placed_more o.served n (total waits (set s.views id v)) o.value u.stage (omega (arith, still)) (o.placed x u e))
              (placed_more o.served n (total waits (set s.views id v)) o.value v.stage (omega (arith, still)) (o.placed id v me))
              (λ x i u apart e mine theirs. apart (o.apart x id i u v e me theirs mine))
              refl (λ i. refl) (λ x u apart e. o.knows x u e) know o.lasts,
          λ i ei.
              let one : j ≡ i = waits_is j i v.stage stage ei in
              ((λ hit. absurd (other (ap (λ (x : ℕ). x % 2 ^ 64) one ∙ (hit ∙ read)))), (λ _. refl)),
        ) in
        dite (ℕ_discrete (j % 2 ^ 64) (o.served % 2 ^ 64)) hit miss

    pub looks_at : (slots id : ℕ) (m : Sat V) (j : ℕ) → m.0.stage ≡ Waits j → m.1 ≡ [] → Allows Rule slots id m 1 (λ n. n) (looked f st (step slots 1 0 0 found.none) m)
    looks_at slots id m j stage none_out = subst (λ (x : Sat V). Allows Rule slots id x 1 (λ n. n) (looked f st (step slots 1 0 0 found.none) x)) (λ i. (m.0, sym none_out i)) (looks slots id m.0 j stage)

    placed_next : (served n m : ℕ) (value next : V) (stage : Stage V) → m + 1 ≡ n → Placed f st k served n value stage → (ticket_of stage ≡ Some served → ⊥) → Placed f st k (served + 1) m next stage
    placed_next served n m value next stage h1 h2 h3 = grind (arith, common_steps, nat_tests)

    -- another view keeps its place, where the value changes in the turn of the served ticket
    placed_other : (served n m : ℕ) (value next : V) (stage : Stage V) → m ≡ n → Placed f st k served n value stage → (ticket_of stage ≡ Some served → ⊥) → Placed f st k served m next stage
    placed_other served n m value next stage h1 h2 h3 = grind (arith, common_steps, nat_tests)

    -- another view keeps what it knows, where it hasn't the number
    knows_next : (a b : V) (number : ℕ) (u : View V) (front bytes more : ℕ) → front ≤ more → Follows number (f a) (f b) → has number u ≡ 0 → Knows f st k a front bytes u → Knows f st k b more bytes u
    knows_next a b number u front bytes more up follows hasnt know =
        let step : (p : ℕ × V) → p.0 ≢ number → Fits f u.seen a p → Fits f u.seen b p = λ p apart fits. fits_follows f number u.seen a b p follows apart fits in
        record {
          begun = know.begun;
          few = know.few;
          front_read = le_trans know.front_read up;
          bytes_read = know.bytes_read;
          seen = prefix_notes number u.seen (f a).history (f b).history follows.history know.seen;
          own = each_but number (Fits f u.seen a) (Fits f u.seen b) u.own (omega (arith, hasnt)) step know.own;
          spare = each_but number (Fits f u.seen a) (Fits f u.seen b) u.spare (omega (arith, hasnt)) step know.spare;
          over = λ e. ⊎_elim (λ (t : (f a).closed ≡ true). inl (follows.closed t)) (λ (t : (f a).stopped ≡ true). inr (follows.stopped t)) (know.over e);
          halted = λ e. follows.stopped (know.halted e);
        }

    pub gives_back : (slots id : ℕ) (v : View V) (j : ℕ) (b next : V) (number new : ℕ) (first : V) (more : List (ℕ × V)) → v.stage ≡ Holds j b → v.own ≡ (number, first) ∷ more → number < 24
        → Follows number (f b) (f next) → ((a : V) → v.start ≡ Some a → st a next) → new ≡ length (f next).history
        → Allows Rule slots id (v, (0, Some next) ∷ []) 2 (λ _. new) (λ _. gave f (step slots 2 new 0 found.none) (v, (0, Some next) ∷ []) new)
    gives_back slots id v j b next number new first more stage own low follows_base lasts is s o wide me _ =
        let n = total waits s.views in
        let placed : Placed f st k o.served n o.value (Holds j b) = subst (Placed f st k o.served n o.value) stage (o.placed id v me) in
        let now : j ≡ o.served = placed.0 in
        let know = o.knows id v me in
        let follows : Follows number (f o.value) (f next) = subst (λ (z : V). Follows number (f z) (f next)) placed.1 follows_base in
        let w = giving f v j next new in
        let m = total waits (set s.views id w) in
        let waits_one : waits v ≡ 1 = ap waiting stage in
        let holds_one : holds v ≡ 1 = ap holding stage in
        let same_waits : m ≡ n = omega (arith, total-set waits s.views id v w me, waits_one) in
        let out = total-set holds s.views id v w me in
        let ticket : ticket_of v.stage ≡ Some j = ap ticket_of stage in
        let ticket_served : ticket_of v.stage ≡ Some o.served = ticket ∙ ap (λ (x : ℕ). Some x) now in
        let own' : renewed f next v.own ≡ (number, next) ∷ more = ap (renewed f next) own in
        let once = o.once number low in
        let number_here : is_number number (number, first) ≡ 1 = ap (λ c. cond c 1 0) (eq-eqb number number refl) in
        let its : total (is_number number) v.own ≡ 1 + total (is_number number) more = ap (total (is_number number)) own ∙ ap (λ (x : ℕ). x + total (is_number number) more) number_here in
        let bound = term_le (has number) s.views id v me in
        let alone : (total (is_number number) more ≡ 0) × (total (is_number number) v.spare ≡ 0) = (omega (arith, its, bound, once), omega (arith, its, bound, once)) in
        let P : ℕ × V → Type 0 = Fits f v.seen o.value in
        let Q : ℕ × V → Type 0 = Fits f (f next).history next in
        let step_on : (p : ℕ × V) → p.0 ≢ number → P p → Q p = λ p apart fits. fits_seen f v.seen next p (fits_follows f number v.seen o.value next p follows apart fits) in
        let owns : Each Q ((number, next) ∷ more) = (fits_self f number next, each_but number P Q more alone.0 step_on (subst (λ (l : List (ℕ × V)). Each P l) own know.own).1) in
        let begun : v.start ≡ Some k = know.begun (omega (arith, ap length own)) in
        let words' : set s.words 2 new ≡ (o.served + m) % 2 ^ 64 ∷ o.served % 2 ^ 64 ∷ new ∷ o.bytes ∷ [] =
        ap (λ (ws : List ℕ). set ws 2 new) o.words ∙ ap (λ (x : ℕ). (o.served + x) % 2 ^ 64 ∷ o.served % 2 ^ 64 ∷ new ∷ o.bytes ∷ []) (sym same_waits) in
        let up : o.front ≤ new = omega (arith, o.front_fits, notes_length number (f o.value).history (f next).history follows.history, is) in
        let sizes : size w ≡ size v = omega (arith, ap length own', ap length own) in
        let numbers : (i : ℕ) → has i w ≡ has i v = λ i. omega (arith, ap (total (is_number i)) own', ap (total (is_number i)) own) in
        ⊎_elim
        (λ (home : (s.homes ≡ found.some (Some o.value) ∷ []) × (total holds s.views ≡ 0)). absurd (omega (arith, home.1, term_le holds s.views id v me, holds_one)))
        (λ (home : (s.homes ≡ found.none ∷ []) × (total holds s.views ≡ 1)). (
          w,
          gives,
          tt,
          changed s o id v w (set s.words 2 new) (set s.homes 0 (found.some (Some next))) o.served next new o.bytes (omega (arith, is)) (le_trans o.bytes_fits follows.peak) me
              words'
              (inl (ap (λ (hs : List (found.Option (Option V))). set hs 0 (found.some (Some next))) home.0, omega (arith, home.1, out, holds_one)))
              (λ x u apart e. placed_other o.served n m o.value next u.stage same_waits (o.placed x u e) (λ theirs. apart (o.apart x id o.served u v e me theirs ticket_served)))
              (now, refl)
              (λ x i u apart e mine theirs. apart (o.apart x id i u v e me theirs (ticket ∙ mine)))
              sizes numbers
              (λ x u apart e. knows_next o.value next number u o.front o.bytes new up follows (omega (arith, terms_le (has number) s.views id x v u apart me e, its, once)) (o.knows x u e))
              (knows_seen v next (renewed f next v.own) (Gave j next) new o.bytes new v.bytes (omega arith) know.bytes_read begun (omega (arith, ap length own'))
              (subst (λ (l : List (ℕ × V)). Each Q l) (sym own') owns)
              (each_but number P Q v.spare alone.1 step_on know.spare)
              (λ e. ⊎_elim (λ (t : (f o.value).closed ≡ true). inl (follows.closed t)) (λ (t : (f o.value).stopped ≡ true). inr (follows.stopped t)) (know.over e))
              (λ e. follows.stopped (know.halted e)))
              (lasts k begun),
          λ i a c held same. λ z. (giving f v (holds_is j i b a v.stage stage held z) (slot_is next c same z) new, []),
        ))
        o.home
      where
        notes_length : (seat : ℕ) (h l : List Entry) → Notes seat h l → length h ≤ length l
        notes_length seat h l notes = ⊎_elim (λ (e : l ≡ h). omega (arith, ap length e)) (λ (t : (e : Entry) × (e.seat ≡ seat) × (l ≡ h ++ e ∷ [])). omega (arith, ap length t.2, length-append h (t.0 ∷ []))) notes

        slot_is : (a c : V) → ◌≡◌ {A = List (ℕ × Option V)} ((0, Some a) ∷ []) ((0, Some c) ∷ []) → a ≡ c
        slot_is a c e = ticket_is (ap (λ (l : List (ℕ × Option V)). (get_or l 0 (0, Some a)).1) e)

        holds_is : (j i : ℕ) (a c : V) (stage : Stage V) → stage ≡ Holds j a → stage ≡ Holds i c → j ≡ i
        holds_is j i a c stage x y = cc (x, y)

    pub gives_back_at : (slots id : ℕ) (m : Sat V) (j : ℕ) (b next : V) (number new : ℕ) (first : V) (more : List (ℕ × V)) → m.0.stage ≡ Holds j b → m.1 ≡ (0, Some next) ∷ [] → m.0.own ≡ (number, first) ∷ more → number < 24
        → Follows number (f b) (f next) → ((a : V) → m.0.start ≡ Some a → st a next) → new ≡ length (f next).history
        → Allows Rule slots id m 2 (λ _. new) (λ _. gave f (step slots 2 new 0 found.none) m new)
    gives_back_at slots id m j b next number new first more stage out own low follows lasts is =
        subst (λ (x : Sat V). Allows Rule slots id x 2 (λ _. new) (λ _. gave f (step slots 2 new 0 found.none) x new)) (λ i. (m.0, sym out i)) (gives_back slots id m.0 j b next number new first more stage own low follows lasts is)

    -- more was published
    knows_up : (a : V) (u : View V) (front bytes more_front more_bytes : ℕ) → front ≤ more_front → bytes ≤ more_bytes → Knows f st k a front bytes u → Knows f st k a more_front more_bytes u
    knows_up a u front bytes more_front more_bytes h1 h2 h3 = grind (arith, common_steps, nat_tests)

    pub publishes : (slots id : ℕ) (v : View V) (j : ℕ) (b : V) (new : ℕ) → v.stage ≡ Gave j b → new ≡ (f b).peak
        → Allows Rule slots id (v, []) 3 (λ _. new) (λ _. published (step slots 3 new 0 found.none) (v, []) new)
    publishes slots id v j b new stage is s o wide me _ =
        let n = total waits s.views in
        let placed : Placed f st k o.served n o.value (Gave j b) = subst (Placed f st k o.served n o.value) stage (o.placed id v me) in
        let know = o.knows id v me in
        let peak : new ≡ (f o.value).peak = is ∙ ap (λ (z : V). (f z).peak) placed.1 in
        let up : o.bytes ≤ new = omega (arith, o.bytes_fits, peak) in
        let w = with_bytes v new in
        let still : total waits (set s.views id w) ≡ n = omega (arith, total-set waits s.views id v w me) in
        let out : total holds (set s.views id w) ≡ total holds s.views = omega (arith, total-set holds s.views id v w me) in (
          w,
          keeps,
          tt,
          changed s o id v w (set s.words 3 new) s.homes o.served o.value o.front new o.front_fits (omega (arith, peak)) me
              (ap (λ (ws : List ℕ). set ws 3 new) o.words ∙ ap (λ (x : ℕ). (o.served + x) % 2 ^ 64 ∷ o.served % 2 ^ 64 ∷ o.front ∷ new ∷ []) (sym still))
              (subst (λ (x : ℕ). Home f st k o.value x s.homes) (sym out) o.home)
              (λ x u apart e. placed_more o.served n (total waits (set s.views id w)) o.value u.stage (omega (arith, still)) (o.placed x u e))
              (placed_more o.served n (total waits (set s.views id w)) o.value v.stage (omega (arith, still)) (o.placed id v me))
              (λ x i u apart e mine theirs. apart (o.apart x id i u v e me theirs mine))
              refl (λ i. refl)
              (λ x u apart e. knows_up o.value u o.front o.bytes o.front new (omega arith) up (o.knows x u e))
              (record { begun = know.begun; few = know.few; seen = know.seen; own = know.own; spare = know.spare; over = know.over; front_read = know.front_read; bytes_read = omega arith; halted = know.halted })
              o.lasts,
          refl,
        )

    pub ends_turn : (slots id : ℕ) (v : View V) (j : ℕ) (b : V) (new : ℕ) → v.stage ≡ Gave j b → new ≡ (j % 2 ^ 64 + 1) % 2 ^ 64
        → Allows Rule slots id (v, []) 1 (λ _. new) (λ _. ended (step slots 1 new 0 found.none) (v, []) new)
    ends_turn slots id v j b new stage is s o wide me _ =
        let n = total waits s.views in
        let placed : Placed f st k o.served n o.value (Gave j b) = subst (Placed f st k o.served n o.value) stage (o.placed id v me) in
        let now : j ≡ o.served = placed.0 in
        let know = o.knows id v me in
        let w = with_stage v Idle in
        let m = total waits (set s.views id w) in
        let waits_one : waits v ≡ 1 = ap waiting stage in
        let fewer : m + 1 ≡ n = omega (arith, total-set waits s.views id v w me, waits_one) in
        let out : total holds (set s.views id w) ≡ total holds s.views = omega (arith, total-set holds s.views id v w me, ap holding stage) in
        let ticket : ticket_of v.stage ≡ Some o.served = ap ticket_of stage ∙ ap (λ (x : ℕ). Some x) now in (
          w,
          keeps,
          tt,
          changed s o id v w (set s.words 1 new) s.homes (o.served + 1) o.value o.front o.bytes o.front_fits o.bytes_fits me
              (ap (λ (ws : List ℕ). set ws 1 new) o.words ∙ (λ i. ap (λ (x : ℕ). x % 2 ^ 64) (counts (o.served) n m fewer) i ∷ wrapped new j o.served is now i ∷ o.front ∷ o.bytes ∷ []))
              (subst (λ (x : ℕ). Home f st k o.value x s.homes) (sym out) o.home)
              (λ x u apart e. placed_next o.served n m o.value o.value u.stage fewer (o.placed x u e) (λ theirs. apart (o.apart x id o.served u v e me theirs ticket)))
              tt
              (λ x i u apart e mine theirs. absurd (some_none mine))
              refl (λ i. refl)
              (λ x u apart e. o.knows x u e)
              (record { begun = know.begun; few = omega arith; seen = know.seen; own = know.own; spare = know.spare; over = know.over; front_read = know.front_read; bytes_read = know.bytes_read; halted = know.halted })
              o.lasts,
          refl,
        )
      where
        counts : (served n m : ℕ) → m + 1 ≡ n → served + n ≡ served + 1 + m
        counts served n m e = omega arith

        wrapped : (new j served : ℕ) → new ≡ (j % 2 ^ 64 + 1) % 2 ^ 64 → j ≡ served → new ≡ (served + 1) % 2 ^ 64
        wrapped new j served e now = omega arith

    -- a view that reads a published word
    reads : (s : State (Option V) (View V)) (o : Rule s) (id : ℕ) (v : View V) (front bytes i : ℕ) → get_elem? s.views id ≡ found.some v → set s.words i (slice_index s.words i) ≡ s.words → front ≤ o.front → bytes ≤ o.bytes
        → Rule (board (set s.words i (slice_index s.words i)) s.homes (set s.views id (with_bytes (with_front v front) bytes)))
    reads s o id v front bytes i me same low_front low_bytes =
        let n = total waits s.views in
        let w = with_bytes (with_front v front) bytes in
        let know = o.knows id v me in
        let still : total waits (set s.views id w) ≡ n = omega (arith, total-set waits s.views id v w me) in
        let out : total holds (set s.views id w) ≡ total holds s.views = omega (arith, total-set holds s.views id v w me) in
        changed s o id v w (set s.words i (slice_index s.words i)) s.homes o.served o.value o.front o.bytes o.front_fits o.bytes_fits me
        (same ∙ (o.words ∙ ap (λ (x : ℕ). (o.served + x) % 2 ^ 64 ∷ o.served % 2 ^ 64 ∷ o.front ∷ o.bytes ∷ []) (sym still)))
        (subst (λ (x : ℕ). Home f st k o.value x s.homes) (sym out) o.home)
        (λ x u apart e. placed_more o.served n (total waits (set s.views id w)) o.value u.stage (omega (arith, still)) (o.placed x u e))
        (placed_more o.served n (total waits (set s.views id w)) o.value v.stage (omega (arith, still)) (o.placed id v me))
        (λ x i u apart e mine theirs. apart (o.apart x id i u v e me theirs mine))
        refl (λ i. refl) (λ x u apart e. o.knows x u e)
        (record { begun = know.begun; few = know.few; seen = know.seen; own = know.own; spare = know.spare; over = know.over; front_read = low_front; bytes_read = low_bytes; halted = know.halted })
        o.lasts

    pub reads_front : (slots id : ℕ) (m : Sat V) → Allows Rule slots id m 2 (λ n. n) (read_front (step slots 2 0 0 found.none) m)
    reads_front slots id m s o wide me _ =
        let know = o.knows id m.0 me in
        let read : slice_index s.words 2 ≡ o.front = ap (λ (ws : List ℕ). slice_index ws 2) o.words in
        let same : set s.words 2 (slice_index s.words 2) ≡ s.words = ap (λ (ws : List ℕ). set ws 2 (slice_index ws 2)) o.words ∙ sym o.words in
        (with_front m.0 (slice_index s.words 2), keeps, tt, reads s o id m.0 (slice_index s.words 2) m.0.bytes 2 me same (omega (arith, read)) know.bytes_read, (omega (arith, read, know.front_read), refl))

    pub reads_bytes : (most : V → ℕ) → ((start value : V) → st start value → (f value).peak ≤ most start) → (slots id : ℕ) (m : Sat V) → 0 < size m.0
        → Allows Rule slots id m 3 (λ n. n) (read_bytes most (step slots 3 0 0 found.none) m)
    reads_bytes most within slots id m some s o wide me _ =
        let know = o.knows id m.0 me in
        let read : slice_index s.words 3 ≡ o.bytes = ap (λ (ws : List ℕ). slice_index ws 3) o.words in
        let same : set s.words 3 (slice_index s.words 3) ≡ s.words = ap (λ (ws : List ℕ). set ws 3 (slice_index ws 3)) o.words ∙ sym o.words in
        let below : slice_index s.words 3 ≤ most k = omega (arith, read, o.bytes_fits, within k o.value o.lasts) in (
          with_bytes m.0 (slice_index s.words 3),
          keeps,
          tt,
          reads s o id m.0 m.0.front (slice_index s.words 3) 3 me same know.front_read (omega (arith, read)),
          (omega (arith, read, know.bytes_read), (λ a is. subst (λ (z : V). slice_index s.words 3 ≤ most z) (ticket_is (sym (know.begun some) ∙ is)) below), refl),
        )

    pub publishes_at : (slots id : ℕ) (m : Sat V) (j : ℕ) (b : V) (new : ℕ) → m.0.stage ≡ Gave j b → m.1 ≡ [] → new ≡ (f b).peak
        → Allows Rule slots id m 3 (λ _. new) (λ _. published (step slots 3 new 0 found.none) m new)
    publishes_at slots id m j b new stage none_out is = subst (λ (x : Sat V). Allows Rule slots id x 3 (λ _. new) (λ _. published (step slots 3 new 0 found.none) x new)) (λ i. (m.0, sym none_out i)) (publishes slots id m.0 j b new stage is)

    pub ends_turn_at : (slots id : ℕ) (m : Sat V) (j : ℕ) (b : V) (new : ℕ) → m.0.stage ≡ Gave j b → m.1 ≡ [] → new ≡ (j % 2 ^ 64 + 1) % 2 ^ 64
        → Allows Rule slots id m 1 (λ _. new) (λ _. ended (step slots 1 new 0 found.none) m new)
    ends_turn_at slots id m j b new stage none_out is = subst (λ (x : Sat V). Allows Rule slots id x 1 (λ _. new) (λ _. ended (step slots 1 new 0 found.none) x new)) (λ i. (m.0, sym none_out i)) (ends_turn slots id m.0 j b new stage is)

    rest_size : (ps : List (ℕ × V)) → 0 < length ps → length (rest_of ps) + length (first_of ps) ≡ length ps
    rest_size ps h1 = grind (arith, common_steps, nat_tests)

    rest_has : (i : ℕ) (ps : List (ℕ × V)) → total (is_number i) (rest_of ps) + total (is_number i) (first_of ps) ≡ total (is_number i) ps
    rest_has i ps = grind (arith, common_steps, nat_tests)

    each_rest : (P : ℕ × V → Type 0) (ps : List (ℕ × V)) → Each P ps → Each P (rest_of ps) × Each P (first_of ps)
    each_rest P ps h1 = grind (arith, common_steps, nat_tests)

    pub splits : (id : ℕ) (v : View V) → 0 < length v.spare → Splits Rule id v (cut v) (given v)
    splits id v some s o me =
        let vs = set s.views id (cut v) ++ given v ∷ [] in
        let both : (g : View V → ℕ) → total g vs + g v ≡ total g s.views + g (cut v) + g (given v) = λ g. omega (arith, total-append g (set s.views id (cut v)) (given v ∷ []), total-set g s.views id v (cut v) me) in
        let same_waits : total waits vs ≡ total waits s.views = omega (arith, both waits) in
        let same_holds : total holds vs ≡ total holds s.views = omega (arith, both holds) in
        let know = o.knows id v me in
        let begun : 0 < size v = omega (arith, some) in
        let spares = each_rest (Fits f v.seen o.value) v.spare know.spare in
        let at : (P : ℕ → View V → Type 0) → ((x : ℕ) → P x (given v)) → P id (cut v) → ((x : ℕ) (u : View V) → x ≢ id → get_elem? s.views x ≡ found.some u → P x u) → (x : ℕ) (u : View V) → get_elem? vs x ≡ found.some u → P x u =
        λ P new mine others x u e. ⊎_elim
        (λ (old : get_elem? (set s.views id (cut v)) x ≡ found.some u). ⊎_elim
        (λ (t : (x ≡ id) × (cut v ≡ u)). subst (λ (y : ℕ × View V). P y.0 y.1) (λ i. (sym t.0 i, t.1 i)) mine)
        (λ (t : (x ≢ id) × (get_elem? s.views x ≡ found.some u)). others x u t.0 t.1)
        (at_set s.views id x (cut v) u old))
        (λ (t : given v ≡ u). subst (P x) t (new x))
        (at_snoc (set s.views id (cut v)) (given v) u x e) in
        -- a seat with a ticket had it before
        let before : (x : ℕ) (u : View V) → get_elem? vs x ≡ found.some u → (j : ℕ) → ticket_of u.stage ≡ Some j → (w : View V) × (get_elem? s.views x ≡ found.some w) × (ticket_of w.stage ≡ Some j) =
        at (λ x u. (j : ℕ) → ticket_of u.stage ≡ Some j → (w : View V) × (get_elem? s.views x ≡ found.some w) × (ticket_of w.stage ≡ Some j))
        (λ x j has. absurd (some_none has)) (λ j has. (v, me, has)) (λ x u apart e j has. (u, e, has)) in
        record {
          served = o.served;
          value = o.value;
          front = o.front;
          bytes = o.bytes;
          front_fits = o.front_fits;
          bytes_fits = o.bytes_fits;
          words = o.words ∙ ap (λ (x : ℕ). (o.served + x) % 2 ^ 64 ∷ o.served % 2 ^ 64 ∷ o.front ∷ o.bytes ∷ []) (sym same_waits);
          home = subst (λ (x : ℕ). Home f st k o.value x s.homes) (sym same_holds) o.home;
          placed = at (λ x u. Placed f st k o.served (total waits vs) o.value u.stage) (λ x. tt)
              (placed_more o.served (total waits s.views) (total waits vs) o.value v.stage (omega (arith, same_waits)) (o.placed id v me))
              (λ x u apart e. placed_more o.served (total waits s.views) (total waits vs) o.value u.stage (omega (arith, same_waits)) (o.placed x u e));
          apart = λ x y j a b ea eb ta tb. let p = before x a ea j ta in let q = before y b eb j tb in o.apart x y j p.0 q.0 p.1 q.1 p.2 q.2;
          all = omega (arith, both size, rest_size v.spare some, o.all);
          once = λ i l. omega (arith, both (has i), rest_has i v.spare, o.once i l);
          knows = at (λ x u. Knows f st k o.value o.front o.bytes u)
              (λ x. record { begun = λ _. know.begun begun; few = omega arith; seen = know.seen; own = spares.1; spare = tt; front_read = know.front_read; bytes_read = know.bytes_read; over = know.over; halted = know.halted })
              (record { begun = λ _. know.begun begun; few = know.few; seen = know.seen; own = know.own; spare = spares.0; front_read = know.front_read; bytes_read = know.bytes_read; over = know.over; halted = know.halted })
              (λ x u apart e. o.knows x u e);
          lasts = o.lasts;
        }

    -- the numbers of the one and of the other, after both saw the longer history
    longer_fits : (h l : List Entry) (b : V) (ps : List (ℕ × V)) → IsPrefix h (f b).history → IsPrefix l (f b).history → Each (Fits f h b) ps → Each (Fits f (longer h l) b) ps
    longer_fits h l b ps p q each = go (leb (length h) (length l)) refl
      where
        go : (c : Bool) → leb (length h) (length l) ≡ c → Each (Fits f (cond c l h) b) ps
        go true e = let first = prefix_shorter h l (f b).history p q (leb-true (length h) (length l) e) in each_map (Fits f h b) (Fits f l b) ps (λ x fits. (fits.0, entries_between x.0 h l (f b).history first q fits.1)) each
        go false e = each

    longer_fits' : (h l : List Entry) (b : V) (ps : List (ℕ × V)) → IsPrefix h (f b).history → IsPrefix l (f b).history → Each (Fits f l b) ps → Each (Fits f (longer h l) b) ps
    longer_fits' h l b ps p q each = go (leb (length h) (length l)) refl
      where
        go : (c : Bool) → leb (length h) (length l) ≡ c → Each (Fits f (cond c l h) b) ps
        go true e = each
        go false e = let first = prefix_shorter l h (f b).history q p (not_leb (length h) (length l) e) in each_map (Fits f l b) (Fits f h b) ps (λ x fits. (fits.0, entries_between x.0 l h (f b).history first p fits.1)) each

    pub joins : (id : ℕ) (v : View V) (other : ℕ) (u : View V) → u.stage ≡ Idle → 0 < length v.own → Joins Rule id v other u (joined v u) spent
    joins id v other u idle owns s o me apart them =
        let w = joined v u in
        let vs = set (set s.views id w) other spent in
        let there : get_elem? s.views other ≡ found.some u = sym (set_else s.views id other w apart) ∙ them in
        let both : (g : View V → ℕ) → total g vs + g u + g v ≡ total g s.views + g w + g spent = λ g. omega (arith, total-set g s.views id v w me, total-set g (set s.views id w) other u spent them) in
        let none_waits : waits u ≡ 0 = ap waiting idle in
        let none_holds : holds u ≡ 0 = ap holding idle in
        let same_waits : total waits vs ≡ total waits s.views = omega (arith, both waits, none_waits) in
        let same_holds : total holds vs ≡ total holds s.views = omega (arith, both holds, none_holds) in
        let sizes : size w ≡ size v + size u = omega (arith, length-append v.own (u.own ++ u.spare), length-append u.own u.spare) in
        let numbers : (i : ℕ) → has i w ≡ has i v + has i u = λ i. omega (arith, total-append (is_number i) v.own (u.own ++ u.spare), total-append (is_number i) u.own u.spare) in
        let know = o.knows id v me in
        let theirs = o.knows other u there in
        let P : ℕ × V → Type 0 = Fits f (longer v.seen u.seen) o.value in
        let ours = longer_fits v.seen u.seen o.value v.own know.seen theirs.seen know.own in
        let our_spare = longer_fits v.seen u.seen o.value v.spare know.seen theirs.seen know.spare in
        let their_own = longer_fits' v.seen u.seen o.value u.own know.seen theirs.seen theirs.own in
        let their_spare = longer_fits' v.seen u.seen o.value u.spare know.seen theirs.seen theirs.spare in
        let at : (P : ℕ → View V → Type 0) → ((x : ℕ) → P x spent) → P id w → ((x : ℕ) (a : View V) → get_elem? s.views x ≡ found.some a → P x a) → (x : ℕ) (a : View V) → get_elem? vs x ≡ found.some a → P x a =
        λ P none mine others x a e. ⊎_elim
        (λ (t : (x ≡ other) × (spent ≡ a)). subst (P x) t.1 (none x))
        (λ (t : (x ≢ other) × (get_elem? (set s.views id w) x ≡ found.some a)). ⊎_elim
        (λ (t : (x ≡ id) × (w ≡ a)). subst (λ (y : ℕ × View V). P y.0 y.1) (λ i. (sym t.0 i, t.1 i)) mine)
        (λ (t : (x ≢ id) × (get_elem? s.views x ≡ found.some a)). others x a t.1)
        (at_set s.views id x w a t.1))
        (at_set (set s.views id w) other x spent a e) in
        let before : (x : ℕ) (a : View V) → get_elem? vs x ≡ found.some a → (j : ℕ) → ticket_of a.stage ≡ Some j → (b : View V) × (get_elem? s.views x ≡ found.some b) × (ticket_of b.stage ≡ Some j) =
        at (λ x a. (j : ℕ) → ticket_of a.stage ≡ Some j → (b : View V) × (get_elem? s.views x ≡ found.some b) × (ticket_of b.stage ≡ Some j))
        (λ x j has. absurd (some_none has)) (λ j has. (v, me, has)) (λ x a e j has. (a, e, has)) in
        record {
          served = o.served;
          value = o.value;
          front = o.front;
          bytes = o.bytes;
          front_fits = o.front_fits;
          bytes_fits = o.bytes_fits;
          words = o.words ∙ ap (λ (x : ℕ). (o.served + x) % 2 ^ 64 ∷ o.served % 2 ^ 64 ∷ o.front ∷ o.bytes ∷ []) (sym same_waits);
          home = subst (λ (x : ℕ). Home f st k o.value x s.homes) (sym same_holds) o.home;
          placed = at (λ x a. Placed f st k o.served (total waits vs) o.value a.stage) (λ x. tt)
              (placed_more o.served (total waits s.views) (total waits vs) o.value v.stage (omega (arith, same_waits)) (o.placed id v me))
              (λ x a e. placed_more o.served (total waits s.views) (total waits vs) o.value a.stage (omega (arith, same_waits)) (o.placed x a e));
          apart = λ x y j a b ea eb ta tb. let p = before x a ea j ta in let q = before y b eb j tb in o.apart x y j p.0 q.0 p.1 q.1 p.2 q.2;
          all = omega (arith, both size, sizes, o.all);
          once = λ i l. omega (arith, both (has i), numbers i, o.once i l);
          knows = at (λ x a. Knows f st k o.value o.front o.bytes a)
              (λ x. record { begun = λ l. absurd (omega (arith, l)); few = omega arith; seen = ((f o.value).history, refl); own = tt; spare = tt; front_read = omega arith; bytes_read = omega arith; over = λ e. absurd (cc (e)); halted = λ e. absurd (cc (e)) })
              (record {
                begun = λ _. know.begun (omega (arith, owns));
                few = omega (arith, know.few, length-append v.own (u.own ++ u.spare));
                seen = cond_case (λ h. IsPrefix h (f o.value).history) (leb (length v.seen) (length u.seen)) u.seen v.seen theirs.seen know.seen;
                own = each_append P v.own (u.own ++ u.spare) ours (each_append P u.own u.spare their_own their_spare);
                spare = our_spare;
                front_read = cond_case (λ n. n ≤ o.front) (leb v.front u.front) u.front v.front theirs.front_read know.front_read;
                bytes_read = cond_case (λ n. n ≤ o.bytes) (leb v.bytes u.bytes) u.bytes v.bytes theirs.bytes_read know.bytes_read;
                over = λ e. ⊎_elim know.over theirs.over (or_true v.over u.over e);
                halted = λ e. ⊎_elim know.halted theirs.halted (or_true v.halted u.halted e);
              })
              (λ x a e. o.knows x a e);
          lasts = o.lasts;
        }

    pub spare_some : (ps : List (ℕ × V)) (next : ℕ) (a : V) → next < 24 → ps ≡ counted_up next (24 - next) a → 0 < length ps
    spare_some ps next a h1 h2 = grind (arith, common_steps, nat_tests)

    each_up : ((i : ℕ) → [] ≡ entries_of i (f k).history) → (from n : ℕ) → Each (Fits f [] k) (counted_up from n k)
    each_up none_of from zero = tt
    each_up none_of from (suc n) = ((same_self from (f k), none_of from), each_up none_of (from + 1) n)

    pub starts : st k k → (f k).history ≡ [] → Rule (opening (0 ∷ 0 ∷ 0 ∷ 0 ∷ []) (Some k ∷ []) (opening_view k))
    starts lasts fresh =
        let none_of : (i : ℕ) → [] ≡ entries_of i (f k).history = λ i. ap (entries_of i) (sym fresh) in
        let at : (P : ℕ → View V → Type 0) → P 0 (opening_view k) → (x : ℕ) (u : View V) → get_elem? (opening_view k ∷ []) x ≡ found.some u → P x u = first_only in
        record {
          served = 0;
          value = k;
          front = 0;
          bytes = 0;
          front_fits = omega arith;
          bytes_fits = omega arith;
          words = refl;
          home = inl (refl, refl);
          placed = at (λ x u. Placed f st k 0 0 k u.stage) tt;
          apart = λ x y j a b ea eb ta tb. absurd (at (λ x u. ticket_of u.stage ≡ Some j → ⊥) (λ e. some_none e) x a ea ta);
          all = refl;
          once = λ i l. omega (arith, parted i l);
          knows = at (λ x u. Knows f st k k 0 0 u) (record { begun = λ _. refl; few = omega arith; seen = ((f k).history, refl); own = ((same_self 0 (f k), none_of 0), tt); spare = each_up none_of 1 23; front_read = omega arith; bytes_read = omega arith; over = λ e. absurd (cc (e)); halted = λ e. absurd (cc (e)) });
          lasts = lasts;
        }
      where
        first_only : (P : ℕ → View V → Type 0) → P 0 (opening_view k) → (x : ℕ) (u : View V) → get_elem? (opening_view k ∷ []) x ≡ found.some u → P x u
        first_only P h1 x u h2 = grind (arith, common_steps, nat_tests)

        parted : (i : ℕ) → i < 24 → total (is_number i) ((0, k) ∷ []) + total (is_number i) (counted_up 1 23 k) ≡ 1
        parted i h1 = grind (arith, common_steps, nat_tests)

    none_waits : (s : State (Option V) (View V)) (o : Rule s) (id : ℕ) (v : View V) → get_elem? s.views id ≡ found.some v → v.stage ≡ Idle → size v ≡ 24 → total holds s.views ≡ 0
    none_waits s o id v h1 h2 h3 = grind (arith, common_steps, nat_tests, total_zero, terms_le)

    -- what the lock has in the end, where one caller has all numbers
    pub ends : (id : ℕ) (v : View V) (ws : List ℕ) (xs : List (Option V)) → v.stage ≡ Idle → size v ≡ 24 → Final (Seen Rule id v) ws xs
        → (value : V) × (get_elem? xs 0 ≡ found.some (Some value)) × st k value × (front : ℕ) × (bytes : ℕ) × (front ≤ length (f value).history) × (bytes ≤ (f value).peak) × Knows f st k value front bytes v
    ends id v ws xs idle whole last =
        let s = last.0 in
        let o = last.1.0 in
        let me = last.1.1 in
        let quiet = none_waits s o id v me idle whole in
        ⊎_elim
        (λ (home : (s.homes ≡ found.some (Some o.value) ∷ []) × (total holds s.views ≡ 0)). (o.value, last.4 0 (Some o.value) (ap (λ (hs : List (found.Option (Option V))). get_elem? hs 0) home.0), o.lasts, o.front, o.bytes, o.front_fits, o.bytes_fits, o.knows id v me))
        (λ (home : (s.homes ≡ found.none ∷ []) × (total holds s.views ≡ 1)). absurd (omega (arith, home.1, quiet)))
        o.home

    pub ends_at : (id : ℕ) (v : View V) (ws : List ℕ) (xs : List (Option V)) (got : Option V) → v.stage ≡ Idle → size v ≡ 24 → Final (Seen Rule id v) ws xs → get_elem? xs 0 ≡ found.some got
        → (value : V) × (got ≡ Some value) × st k value × (front : ℕ) × (bytes : ℕ) × (front ≤ length (f value).history) × (bytes ≤ (f value).peak) × Knows f st k value front bytes v
    ends_at id v ws xs got idle whole last is = let t = ends id v ws xs idle whole last in (t.0, some-injective got (Some t.0) (sym is ∙ t.1), t.2, t.3, t.4, t.5, t.6, t.7)
