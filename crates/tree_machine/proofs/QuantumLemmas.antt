-- What a quantum weighs: it is what the lists have between the two cursors; at least what was wanted, or all that was left; and
-- less than what was wanted and one group.
use Rattle.std.proofs.Common.{◌≡◌, ℕ, ◌+◌, ◌-◌, ◌*◌, ◌≤◌, ◌⊎◌, inl, inr, Bool, cond, true, false, not, [], ◌∷◌, Some, None, Option, refl, ap, sym, subst, ◌∙◌, arith}
use Rattle.std.proofs.lemmas.Grind.{common_steps}
use Rattle.std.proofs.lemmas.Bool.Decides.{nat_tests}
use Rattle.std.specs.Prelude.{nat_lt, is_some, sum_by}
use Rattle.std.specs.List.{AllByRecursion}
use Rattle.std.specs.Ordering.{is_eq, eq_by_cmp, ordering_reverse}
use Rattle.std.specs.declared.cmp.Ordering.{Ordering}
use Rattle.std.specs.Cmp.{tied_itself}
use Rattle.std.specs.FinMap.{is_sorted}
use Rattle.std.specs.FinMap.Entries.{below_all}
use Rattle.std.proofs.lemmas.Cmp.{nat_list_cmp_total}
use Rattle.std.proofs.lemmas.List.Sums.{sum_by-cons}
use Rattle.blsm_model.specs.declared.key.Key.{Key}
use Rattle.blsm_model.specs.Keys.{key_cmp}
use Rattle.record_delta.specs.declared.record.Rec.{Rec}
use Rattle.record_delta.specs.Records.{weight}
use Rattle.record_delta.specs.Entries.{AreSorted, Entries, above, entries_weight, folded_over, is_above, over_any, record_of_key, up_to}
use Rattle.tree_machine.specs.Merges.{Merge, is_empty, is_done, until, weight_of_any, group_weight, cursor_after, quantum_of, moved_on}
use Rattle.tree_machine.proofs.FoldLemmas.{both_hold, both, tied, equal_of, below_none, find-folded_over}
use Rattle.tree_machine.proofs.CursorLemmas.{sorted_ahead, still_ahead, find-until}
use Rattle.tree_machine.proofs.MergeLemmas.{left_sorted, groups_sorted, groups_ahead}

-- ---- the parts of a list

pub weight_parts : (cursor : Option Key) (es : Entries) → entries_weight (up_to cursor es) + entries_weight (above cursor es) ≡ entries_weight es
weight_parts cursor [] = refl
weight_parts cursor (e ∷ es) = grind (arith, common_steps, nat_tests, weight_parts cursor es)

-- what is behind a later cursor: what was behind the earlier one, and what lies between
weight_between : (cursor later : Option Key) (es : Entries) → ((key : Key) → is_above later key ≡ true → is_above cursor key ≡ true)
    → entries_weight (up_to later es) ≡ entries_weight (up_to cursor es) + entries_weight (up_to later (above cursor es))
weight_between cursor later [] rises = refl
weight_between cursor later (e ∷ es) rises = grind (arith, common_steps, nat_tests, weight_between cursor later es rises)

-- ---- the weight that groups take of a list

abbrev taken_of : Entries → Entries → ℕ
taken_of groups es = sum_by (λ g. weight_of_any g.0 (record_of_key g.0 es)) groups

turned_eq : (o : Ordering) → is_eq (ordering_reverse o) ≡ is_eq o
turned_eq o = grind (arith, common_steps, nat_tests)

eq_turned : (a b : Key) → eq_by_cmp key_cmp a b ≡ eq_by_cmp key_cmp b a
eq_turned a b = ap is_eq (nat_list_cmp_total.antisymm a b) ∙ turned_eq (key_cmp b a)

take_first : (g : Key × Rec) (groups es : Entries) → taken_of (g ∷ groups) es ≡ weight_of_any g.0 (record_of_key g.0 es) + taken_of groups es
take_first g groups es = sum_by-cons (λ g. weight_of_any g.0 (record_of_key g.0 es)) g groups

-- one entry more is taken just where its key has a group
taken_more : (groups : Entries) (e : Key × Rec) (es : Entries) → is_sorted key_cmp groups ≡ true → record_of_key e.0 es ≡ None
    → taken_of groups (e ∷ es) ≡ taken_of groups es + cond (is_some (record_of_key e.0 groups)) (weight e.0 e.1) 0
taken_more [] e es sorted none = refl
taken_more (g ∷ groups) e es sorted none =
    let parts = both_hold (below_all key_cmp g.0 groups) (is_sorted key_cmp groups) sorted in
    by (eq_by_cmp key_cmp g.0 e.0) refl (below_none g.0 groups parts.0) (taken_more groups e es parts.1 none)
  where
    by : (b : Bool) → eq_by_cmp key_cmp g.0 e.0 ≡ b → record_of_key g.0 groups ≡ None
        → taken_of groups (e ∷ es) ≡ taken_of groups es + cond (is_some (record_of_key e.0 groups)) (weight e.0 e.1) 0
        → taken_of (g ∷ groups) (e ∷ es) ≡ taken_of (g ∷ groups) es + cond (is_some (record_of_key e.0 (g ∷ groups))) (weight e.0 e.1) 0
    by true same alone rest =
        let key_is : g.0 ≡ e.0 = tied g.0 e.0 (equal_of (key_cmp g.0 e.0) same) in
        let first : weight_of_any g.0 (record_of_key g.0 (e ∷ es)) ≡ weight e.0 e.1 = ap (λ b. weight_of_any g.0 (cond b (Some e.1) (record_of_key g.0 es))) same ∙ ap (λ k. weight k e.1) key_is in
        let was : weight_of_any g.0 (record_of_key g.0 es) ≡ 0 = ap (λ k. weight_of_any g.0 (record_of_key k es)) key_is ∙ ap (weight_of_any g.0) none in
        let others : cond (is_some (record_of_key e.0 groups)) (weight e.0 e.1) 0 ≡ 0 = ap (λ k. cond (is_some (record_of_key k groups)) (weight e.0 e.1) 0) (sym key_is) ∙ ap (λ r. cond (is_some r) (weight e.0 e.1) 0) alone in
        let here : cond (is_some (record_of_key e.0 (g ∷ groups))) (weight e.0 e.1) 0 ≡ weight e.0 e.1 =
        ap (λ b. cond (is_some (cond b (Some g.1) (record_of_key e.0 groups))) (weight e.0 e.1) 0) (eq_turned e.0 g.0 ∙ same) in
        omega (arith, rest, first, was, others, here, take_first g groups (e ∷ es), take_first g groups es)
    by false apart alone rest =
        let first : weight_of_any g.0 (record_of_key g.0 (e ∷ es)) ≡ weight_of_any g.0 (record_of_key g.0 es) = ap (λ b. weight_of_any g.0 (cond b (Some e.1) (record_of_key g.0 es))) apart in
        let here : cond (is_some (record_of_key e.0 (g ∷ groups))) (weight e.0 e.1) 0 ≡ cond (is_some (record_of_key e.0 groups)) (weight e.0 e.1) 0 =
        ap (λ b. cond (is_some (cond b (Some g.1) (record_of_key e.0 groups))) (weight e.0 e.1) 0) (eq_turned e.0 g.0 ∙ apart) in
        omega (arith, rest, first, here, take_first g groups (e ∷ es), take_first g groups es)

-- the groups have just the keys that are behind the cursor
abbrev HasGroups : Option Key → Entries → Entries → Type 0
HasGroups cursor groups es = AllByRecursion (λ e. is_some (record_of_key e.0 groups) ≡ not (is_above cursor e.0)) es

taken_none : (groups : Entries) → taken_of groups [] ≡ 0
taken_none [] = refl
taken_none (g ∷ groups) = omega (arith, take_first g groups [], taken_none groups)

taken_behind : (cursor : Option Key) (groups es : Entries) → is_sorted key_cmp groups ≡ true → is_sorted key_cmp es ≡ true → HasGroups cursor groups es
    → taken_of groups es ≡ entries_weight (up_to cursor es)
taken_behind cursor groups [] sorted rise has = taken_none groups
taken_behind cursor groups (e ∷ es) sorted rise has =
    let parts = both_hold (below_all key_cmp e.0 es) (is_sorted key_cmp es) rise in
    by (not (is_above cursor e.0)) has.0 (taken_more groups e es sorted (below_none e.0 es parts.0)) (taken_behind cursor groups es sorted parts.1 has.1)
  where
    by : (b : Bool) → is_some (record_of_key e.0 groups) ≡ b → taken_of groups (e ∷ es) ≡ taken_of groups es + cond (is_some (record_of_key e.0 groups)) (weight e.0 e.1) 0
        → taken_of groups es ≡ entries_weight (up_to cursor es) → taken_of groups (e ∷ es) ≡ entries_weight (cond b (e ∷ up_to cursor es) (up_to cursor es))
    by b h1 h2 h3 = grind (arith, common_steps, nat_tests)

-- ---- a quantum has all the groups up to its cursor

some_is_some : (o p : Option Rec) → is_some o ≡ true → is_some (over_any o p) ≡ true
some_is_some o p h1 = grind (arith, common_steps, nat_tests)

some_is_some_too : (o p : Option Rec) → is_some p ≡ true → is_some (over_any o p) ≡ true
some_is_some_too o p h1 = grind (arith, common_steps, nat_tests)

some_of : (b c : Bool) (o : Option Rec) → is_some o ≡ true → b ≡ c → is_some (cond b None o) ≡ not c
some_of b c o h1 h2 = grind (arith, common_steps, nat_tests)

-- each entry of a list is found in it
all_found : (es : Entries) → AllByRecursion (λ e. is_some (record_of_key e.0 es) ≡ true) es
all_found es = at es (λ q found. found)
  where
    at : (part : Entries) → ((q : Key) → is_some (record_of_key q part) ≡ true → is_some (record_of_key q es) ≡ true) → AllByRecursion (λ e. is_some (record_of_key e.0 es) ≡ true) part
    at [] within = tt
    at (e ∷ part) within = (
      within e.0 (ap (λ o. is_some (cond (is_eq o) (Some e.1) (record_of_key e.0 part))) (tied_itself nat_list_cmp_total e.0)),
      at part (λ q found. within q (later (eq_by_cmp key_cmp q e.0) q found)),
    )
      where
        later : (b : Bool) (q : Key) → is_some (record_of_key q part) ≡ true → is_some (cond b (Some e.1) (record_of_key q part)) ≡ true
        later b q h1 = grind (arith, common_steps, nat_tests)

map_all : {P Q : Key × Rec → Type 0} (es : Entries) → ((e : Key × Rec) → P e → Q e) → AllByRecursion P es → AllByRecursion Q es
map_all [] f all = tt
map_all (e ∷ es) f all = (f e all.0, map_all es f all.1)

module _ (quantum : ℕ) (merge : Merge) (newer older : Entries) (sorted_newer : AreSorted newer) (sorted_older : AreSorted older) where
  find_here : (q : Key) → record_of_key q (quantum_of quantum merge newer older).groups
      ≡ cond (is_above (cursor_after merge.cursor (quantum_of quantum merge newer older).groups) q) None (over_any (record_of_key q (above merge.cursor newer)) (record_of_key q (above merge.cursor older)))
  find_here q =
      find-until (group_weight (above merge.cursor newer) (above merge.cursor older)) quantum (folded_over (above merge.cursor newer) (above merge.cursor older)) merge.cursor q
      (left_sorted quantum merge newer older sorted_newer sorted_older)
      ∙ ap (λ r. cond (is_above (cursor_after merge.cursor (quantum_of quantum merge newer older).groups) q) None r)
      (find-folded_over (above merge.cursor newer) (above merge.cursor older) (sorted_ahead merge.cursor newer sorted_newer) q)

  has_newer : HasGroups (cursor_after merge.cursor (quantum_of quantum merge newer older).groups) (quantum_of quantum merge newer older).groups (above merge.cursor newer)
  has_newer = map_all (above merge.cursor newer) (λ e found.
      ap is_some (find_here e.0) ∙ some_of (is_above (cursor_after merge.cursor (quantum_of quantum merge newer older).groups) e.0) _ _
      (some_is_some (record_of_key e.0 (above merge.cursor newer)) (record_of_key e.0 (above merge.cursor older)) found) refl)
      (all_found (above merge.cursor newer))

  has_older : HasGroups (cursor_after merge.cursor (quantum_of quantum merge newer older).groups) (quantum_of quantum merge newer older).groups (above merge.cursor older)
  has_older = map_all (above merge.cursor older) (λ e found.
      ap is_some (find_here e.0) ∙ some_of (is_above (cursor_after merge.cursor (quantum_of quantum merge newer older).groups) e.0) _ _
      (some_is_some_too (record_of_key e.0 (above merge.cursor newer)) (record_of_key e.0 (above merge.cursor older)) found) refl)
      (all_found (above merge.cursor older))

  rises : (key : Key) → is_above (cursor_after merge.cursor (quantum_of quantum merge newer older).groups) key ≡ true → is_above merge.cursor key ≡ true
  rises key past = still_ahead merge.cursor (quantum_of quantum merge newer older).groups key
      (groups_sorted quantum merge newer older sorted_newer sorted_older) (groups_ahead quantum merge newer older sorted_newer sorted_older) past

  -- what it takes of the newer list, and of the older one
  pub took_newer : entries_weight (up_to (cursor_after merge.cursor (quantum_of quantum merge newer older).groups) newer) ≡ entries_weight (up_to merge.cursor newer) + taken_of (quantum_of quantum merge newer older).groups (above merge.cursor newer)
  took_newer =
      omega (
        arith,
        weight_between merge.cursor (cursor_after merge.cursor (quantum_of quantum merge newer older).groups) newer rises,
        taken_behind (cursor_after merge.cursor (quantum_of quantum merge newer older).groups) (quantum_of quantum merge newer older).groups (above merge.cursor newer)
            (groups_sorted quantum merge newer older sorted_newer sorted_older) (sorted_ahead merge.cursor newer sorted_newer) has_newer,
      )

  pub took_older : entries_weight (up_to (cursor_after merge.cursor (quantum_of quantum merge newer older).groups) older) ≡ entries_weight (up_to merge.cursor older) + taken_of (quantum_of quantum merge newer older).groups (above merge.cursor older)
  took_older =
      omega (
        arith,
        weight_between merge.cursor (cursor_after merge.cursor (quantum_of quantum merge newer older).groups) older rises,
        taken_behind (cursor_after merge.cursor (quantum_of quantum merge newer older).groups) (quantum_of quantum merge newer older).groups (above merge.cursor older)
            (groups_sorted quantum merge newer older sorted_newer sorted_older) (sorted_ahead merge.cursor older sorted_older) has_older,
      )

-- ---- its weight

both_taken : (groups newer older : Entries) → sum_by (λ e. group_weight newer older e.0) groups ≡ taken_of groups newer + taken_of groups older
both_taken [] newer older = refl
both_taken (g ∷ groups) newer older =
    omega (arith, both_taken groups newer older, take_first g groups newer, take_first g groups older, sum_by-cons (λ e. group_weight newer older e.0) g groups)

-- what lies between the two cursors
pub quantum_weighs : (quantum : ℕ) (merge : Merge) (newer older : Entries) → AreSorted newer → AreSorted older
    → (entries_weight (up_to merge.cursor newer) + entries_weight (up_to merge.cursor older)) + (quantum_of quantum merge newer older).weight
    ≡ entries_weight (up_to (cursor_after merge.cursor (quantum_of quantum merge newer older).groups) newer)
    + entries_weight (up_to (cursor_after merge.cursor (quantum_of quantum merge newer older).groups) older)
quantum_weighs quantum merge newer older sorted_newer sorted_older =
    omega (
      arith,
      took_newer quantum merge newer older sorted_newer sorted_older,
      took_older quantum merge newer older sorted_newer sorted_older,
      both_taken (quantum_of quantum merge newer older).groups (above merge.cursor newer) (above merge.cursor older),
    )

-- enough, or all that there is
until_enough : (weigh : Key → ℕ) (wanted : ℕ) (es : Entries) → (wanted ≤ sum_by (λ e. weigh e.0) (until wanted weigh es)) ⊎ (until wanted weigh es ≡ es)
until_enough weigh wanted [] = inr refl
until_enough weigh wanted (e ∷ es) = grind (arith, common_steps, nat_tests, until_enough weigh (wanted - weigh e.0) es)

-- less than was wanted, and one group
until_few : (weigh : Key → ℕ) (most wanted : ℕ) (es : Entries) → ((key : Key) → weigh key ≤ most) → 1 ≤ wanted → sum_by (λ e. weigh e.0) (until wanted weigh es) ≤ wanted - 1 + most
until_few weigh most wanted [] light some = omega arith
until_few weigh most wanted (e ∷ es) light some = by (nat_lt (weigh e.0) wanted) refl (λ left. until_few weigh most (wanted - weigh e.0) es light left)
  where
    by : (b : Bool) → nat_lt (weigh e.0) wanted ≡ b → (1 ≤ wanted - weigh e.0 → sum_by (λ e. weigh e.0) (until (wanted - weigh e.0) weigh es) ≤ (wanted - weigh e.0) - 1 + most)
        → sum_by (λ e. weigh e.0) (e ∷ cond b (until (wanted - weigh e.0) weigh es) []) ≤ wanted - 1 + most
    by b h1 h2 = grind (arith, common_steps, nat_tests)

-- a record of a list weighs no more than the heaviest
light_any : (most : ℕ) (es : Entries) → AllByRecursion (λ e. weight e.0 e.1 ≤ most) es → (key : Key) → weight_of_any key (record_of_key key es) ≤ most
light_any most [] all key = omega arith
light_any most (e ∷ es) all key = by (eq_by_cmp key_cmp key e.0) refl (light_any most es all.1 key)
  where
    by : (b : Bool) → eq_by_cmp key_cmp key e.0 ≡ b → weight_of_any key (record_of_key key es) ≤ most → weight_of_any key (cond b (Some e.1) (record_of_key key es)) ≤ most
    by true same rest = subst (λ k. weight k e.1 ≤ most) (sym (tied key e.0 (equal_of (key_cmp key e.0) same))) all.0
    by false apart rest = rest

pub all_ahead : (P : Key × Rec → Type 0) (cursor : Option Key) (es : Entries) → AllByRecursion P es → AllByRecursion P (above cursor es)
all_ahead P cursor [] all = tt
all_ahead P cursor (e ∷ es) all = grind (arith, common_steps, nat_tests, all_ahead P cursor es all.1)

pub quantum_few : (quantum most : ℕ) (merge : Merge) (newer older : Entries) → 1 ≤ quantum → AllByRecursion (λ e. weight e.0 e.1 ≤ most) newer → AllByRecursion (λ e. weight e.0 e.1 ≤ most) older
    → (quantum_of quantum merge newer older).weight ≤ quantum - 1 + 2 * most
quantum_few quantum most merge newer older some light_newer light_older =
    omega (
      arith,
      until_few (group_weight (above merge.cursor newer) (above merge.cursor older)) (2 * most) quantum (folded_over (above merge.cursor newer) (above merge.cursor older))
          (λ key. omega (
            arith,
            light_any most (above merge.cursor newer) (all_ahead (λ e. weight e.0 e.1 ≤ most) merge.cursor newer light_newer) key,
            light_any most (above merge.cursor older) (all_ahead (λ e. weight e.0 e.1 ≤ most) merge.cursor older light_older) key,
          )) some,
    )

-- where all groups were taken, nothing is left
none_past : (later : Option Key) (es : Entries) → AllByRecursion (λ e. is_above later e.0 ≡ false) es → is_empty (above later es) ≡ true
none_past later [] all = refl
none_past later (e ∷ es) all = ap (λ b. is_empty (cond b (e ∷ above later es) (above later es))) all.0 ∙ none_past later es all.1

-- what is ahead of a later cursor
ahead_twice : (cursor later : Option Key) (es : Entries) → ((key : Key) → is_above later key ≡ true → is_above cursor key ≡ true) → above later (above cursor es) ≡ above later es
ahead_twice cursor later [] rises = refl
ahead_twice cursor later (e ∷ es) rises = grind (arith, common_steps, nat_tests, ahead_twice cursor later es rises)

module _ (quantum : ℕ) (merge : Merge) (newer older : Entries) (sorted_newer : AreSorted newer) (sorted_older : AreSorted older) where
  -- a key of what is left has a group, so that it isn't ahead of the cursor behind them all
  reached : (x : Option Rec) (b : Bool) → is_some x ≡ true → x ≡ cond b None x → b ≡ false
  reached x b h1 h2 = grind (arith, common_steps, nat_tests)

  pub all_taken : (quantum_of quantum merge newer older).groups ≡ folded_over (above merge.cursor newer) (above merge.cursor older)
      → is_done (moved_on merge (quantum_of quantum merge newer older).groups []) newer older ≡ true
  all_taken all =
      both _ _ (left newer sorted_newer (map_all (above merge.cursor newer) (λ e found.
      some_is_some (record_of_key e.0 (above merge.cursor newer)) (record_of_key e.0 (above merge.cursor older)) found) (all_found (above merge.cursor newer))))
      (left older sorted_older (map_all (above merge.cursor older) (λ e found.
      some_is_some_too (record_of_key e.0 (above merge.cursor newer)) (record_of_key e.0 (above merge.cursor older)) found) (all_found (above merge.cursor older))))
    where
      whole : (q : Key) → over_any (record_of_key q (above merge.cursor newer)) (record_of_key q (above merge.cursor older))
          ≡ cond (is_above (cursor_after merge.cursor (quantum_of quantum merge newer older).groups) q) None
          (over_any (record_of_key q (above merge.cursor newer)) (record_of_key q (above merge.cursor older)))
      whole q = sym (find-folded_over (above merge.cursor newer) (above merge.cursor older) (sorted_ahead merge.cursor newer sorted_newer) q)
          ∙ ap (record_of_key q) (sym all) ∙ find_here quantum merge newer older sorted_newer sorted_older q

      left : (es : Entries) → AreSorted es → AllByRecursion (λ e. is_some (over_any (record_of_key e.0 (above merge.cursor newer)) (record_of_key e.0 (above merge.cursor older))) ≡ true) (above merge.cursor es)
          → is_empty (above (cursor_after merge.cursor (quantum_of quantum merge newer older).groups) es) ≡ true
      left es sorted found =
          ap is_empty (sym (ahead_twice merge.cursor (cursor_after merge.cursor (quantum_of quantum merge newer older).groups) es (rises quantum merge newer older sorted_newer sorted_older)))
          ∙ none_past (cursor_after merge.cursor (quantum_of quantum merge newer older).groups) (above merge.cursor es)
          (map_all (above merge.cursor es) (λ e some. reached _ (is_above (cursor_after merge.cursor (quantum_of quantum merge newer older).groups) e.0) some (whole e.0)) found)

  pub quantum_enough : (quantum ≤ (quantum_of quantum merge newer older).weight) ⊎ (is_done (moved_on merge (quantum_of quantum merge newer older).groups []) newer older ≡ true)
  quantum_enough = by (until_enough (group_weight (above merge.cursor newer) (above merge.cursor older)) quantum (folded_over (above merge.cursor newer) (above merge.cursor older)))
    where
      by : (quantum ≤ (quantum_of quantum merge newer older).weight) ⊎ ((quantum_of quantum merge newer older).groups ≡ folded_over (above merge.cursor newer) (above merge.cursor older))
          → (quantum ≤ (quantum_of quantum merge newer older).weight) ⊎ (is_done (moved_on merge (quantum_of quantum merge newer older).groups []) newer older ≡ true)
      by (inl enough) = inl enough
      by (inr all) = inr (all_taken all)

-- ---- done

none_light : (es : Entries) → is_empty es ≡ true → entries_weight es ≡ 0
none_light es h1 = grind (arith, common_steps, nat_tests)

pub light_none : (es : Entries) → entries_weight es ≡ 0 → is_empty es ≡ true
light_none es h1 = grind (arith, common_steps, nat_tests)

-- a merge is done just where it has taken the whole weight of its inputs
pub done_weighs : (merge : Merge) (newer older : Entries) → is_done merge newer older ≡ true
    → entries_weight (up_to merge.cursor newer) + entries_weight (up_to merge.cursor older) ≡ entries_weight newer + entries_weight older
done_weighs merge newer older done = grind (arith, common_steps, nat_tests, both_hold, weight_parts, none_light)

pub weighs_done : (merge : Merge) (newer older : Entries) → entries_weight (up_to merge.cursor newer) + entries_weight (up_to merge.cursor older) ≡ entries_weight newer + entries_weight older
    → is_done merge newer older ≡ true
weighs_done merge newer older same = grind (arith, common_steps, nat_tests, both, light_none, weight_parts)
