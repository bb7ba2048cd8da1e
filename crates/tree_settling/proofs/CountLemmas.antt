-- How many quanta a merge takes, and merges one after the other.
use Rattle.std.proofs.Common.{
  ◌≡◌,
  ◌≢◌,
  ◌⊎◌,
  ⊎_elim,
  ◌∙◌,
  ℕ,
  ◌+◌,
  ◌*◌,
  ◌≤◌,
  ◌^◌,
  inl,
  inr,
  Bool,
  true,
  false,
  [],
  Option,
  None,
  Some,
  refl,
  ap,
  sym,
  subst,
  arith,
}
use Rattle.std.proofs.lemmas.Grind.{common_steps}
use Rattle.std.proofs.lemmas.Bool.Decides.{nat_tests}
use Rattle.std.specs.Prelude.{IsTrue, is_some}
use Rattle.std.proofs.Math.Nat.{mul-le-mul_left, mul-le-mul_right}
use Rattle.blsm_model.specs.Sizes.{IsGeometry, QuantumFits, Sizes}
use Rattle.blsm_model.specs.Format.{most_weight}
use Rattle.blsm_model.specs.Geometry.{c1_mark, capacity}
use Rattle.deep_merge.specs.Merge.{DeepState}
use Rattle.tree_runs.specs.Runs.{RunsState, left_for_deep}
use Rattle.tree_runs.specs.Holding.{CountsMore}
use Rattle.tree_settling.specs.Settling.{components_of}
use Rattle.mem_table.specs.Tables.{IsWhole}
use Rattle.record_delta.specs.Entries.{entries_weight}
use Rattle.tree_log.specs.Log.{LogState, listed_in_a, weight_of_tables}
use Rattle.tree_settling.specs.Counting.{
  CountsPass,
  CountsQuanta,
  TakeQuanta,
  most_merges,
  most_taken,
  pass_due,
  settling_due,
  settling_least,
  untaken,
  where_so,
  where_some,
}

-- ---- quantum by quantum

-- So many quanta so far: each took what it asks for; or nothing is left, and the last one may have taken less.
pub record QuantaSoFar (sizes : Sizes) (first left quanta : ℕ) : Type 0 where
  pub some : quanta + left ≤ first
  pub light : first ≤ left + most_taken sizes * quanta
  pub enough : (sizes.quantum * quanta + left ≤ first) ⊎ ((left ≡ 0) × (sizes.quantum * quanta ≤ first + sizes.quantum))

one_more : (x n : ℕ) → x * (n + 1) ≡ x * n + x
one_more x n = omega arith

pub no_quantum : (sizes : Sizes) (first : ℕ) → QuantaSoFar sizes first first 0
no_quantum sizes first = record { some = omega arith; light = omega arith; enough = inl (omega arith) }

light_more : (most first left left' n quanta : ℕ) → first ≤ left + most * quanta → n + left' ≡ left → n ≤ most → first ≤ left' + most * (quanta + 1)
light_more most first left left' n quanta light took bound = omega (arith, light, took, bound, one_more most quanta)

enough_more : (sizes : Sizes) (first left left' n quanta : ℕ) → (sizes.quantum * quanta + left ≤ first) ⊎
    ((left ≡ 0) × (sizes.quantum * quanta ≤ first + sizes.quantum)) → left ≢ 0 → n + left' ≡ left
    → (sizes.quantum ≤ n) ⊎ (left' ≡ 0) → (sizes.quantum * (quanta + 1) + left' ≤ first) ⊎
    ((left' ≡ 0) × (sizes.quantum * (quanta + 1) ≤ first + sizes.quantum))
enough_more sizes first left left' n quanta so_far there took enough =
    ⊎_elim
    (λ all. ⊎_elim (λ much. inl (omega (arith, all, took, much, one_more sizes.quantum quanta)))
    (λ none. inr (none, omega (arith, all, one_more sizes.quantum quanta))) enough)
    (λ none. absurd (there none.0)) so_far

pub one_quantum : (sizes before : Sizes) (first left left' n quanta : ℕ) → before ≡ sizes → QuantumFits sizes → QuantaSoFar sizes first left quanta
    → left ≢ 0 → n + left' ≡ left
    → n + 1 ≤ before.quantum + 2 * most_weight → (before.quantum ≤ n) ⊎ (left' ≡ 0) → QuantaSoFar sizes first left' (quanta + 1)
one_quantum sizes before first left left' n quanta same fits so_far there took bound enough =
    let q : before.quantum ≡ sizes.quantum = ap (λ (s : Sizes). s.quantum) same in
    let enough' : (sizes.quantum ≤ n) ⊎ (left' ≡ 0) = subst (λ (s : Sizes). (s.quantum ≤ n) ⊎ (left' ≡ 0)) same enough in
    record {
      some = ⊎_elim (λ much. omega (arith, so_far.some, took, much, fits)) (λ none. omega (arith, so_far.some, took, none, there)) enough';
      light = light_more (most_taken sizes) first left left' n quanta so_far.light took (omega (arith, bound, q, fits));
      enough = enough_more sizes first left left' n quanta so_far.enough there took enough';
    }

pub all_quanta : (sizes : Sizes) (first left quanta : ℕ) → left ≡ 0 → QuantaSoFar sizes first left quanta → TakeQuanta sizes 1 quanta first
all_quanta sizes first left quanta none so_far = record {
  some = omega (arith, so_far.some);
  light = omega (arith, so_far.light, none);
  enough = ⊎_elim (λ all. omega (arith, all)) (λ last. omega (arith, last.1)) so_far.enough;
}

pub counted_then : (q q' : ℕ) (old mid new : RunsState) → CountsMore q old mid → CountsMore q' mid new → CountsMore (q + q') old new
counted_then q q' old mid new one two = λ small.
    let first = one (omega (arith, small)) in
    omega (arith, first, two (omega (arith, small, first)))

-- ---- merge by merge

pub none_left : (merge : Option DeepState) → is_some merge ≡ false → left_for_deep merge ≡ 0
none_left None is = refl
none_left (Some deep) is = absurd (cc (is))

sum_times : (x n m : ℕ) → x * (n + m) ≡ x * n + x * m
sum_times x n m = omega arith

times_sum : (n m x : ℕ) → (n + m) * x ≡ n * x + m * x
times_sum n m x = omega arith

quanta_sum : (sizes : Sizes) (m m' q q' t t' : ℕ) → TakeQuanta sizes m q t → TakeQuanta sizes m' q' t' → TakeQuanta sizes (m + m') (q + q') (t + t')
quanta_sum sizes m m' q q' t t' one two = record {
  some = omega (arith, one.some, two.some);
  light = omega (arith, one.light, two.light, sum_times (most_taken sizes) q q');
  enough = omega (arith, one.enough, two.enough, sum_times sizes.quantum q q', times_sum m m' sizes.quantum);
}

-- nothing was due
pub counts_none : (merges least most : ℕ) (runs : RunsState) → least ≡ 0 → CountsQuanta merges least most runs runs 0
counts_none merges least most runs none = record {
  counted = λ small. omega arith;
  taken = 0;
  takes = record { some = omega arith; light = omega arith; enough = omega arith };
  all = omega (arith, none);
  within = omega arith;
  grows = omega arith;
}

pub counts_then : {m m' l l' w w' q q' : ℕ} {old mid new : RunsState} → mid.sizes ≡ old.sizes → CountsQuanta m l w old mid q
    → CountsQuanta m' l' w' mid new q'
    → CountsQuanta (m + m') (l + l') (w + w') old new (q + q')
counts_then {m} {m'} {l} {l'} {w} {w'} {q} {q'} {old} {mid} {new} same one two = record {
  counted = counted_then q q' old mid new one.counted two.counted;
  taken = one.taken + two.taken;
  all = omega (arith, one.all, two.all);
  takes = quanta_sum old.sizes m m' q q' one.taken two.taken one.takes (subst (λ (s : Sizes). TakeQuanta s m' q' two.taken) same two.takes);
  within = omega (arith, one.within, two.within);
  grows = omega (arith, one.grows, two.grows);
}

pub counts_wider : {m m' l l' w w' q : ℕ} {old new : RunsState} → m ≤ m' → l' ≤ l → w ≤ w' → CountsQuanta m l w old new q
    → CountsQuanta m' l' w' old new q
counts_wider {m} {m'} {l} {l'} {w} {w'} {q} {old} merges least weight counts = record {
  counted = counts.counted;
  taken = counts.taken;
  all = omega (arith, counts.all, least);
  takes = record {
    some = counts.takes.some;
    light = counts.takes.light;
    enough = omega (arith, counts.takes.enough, mul-le-mul_right old.sizes.quantum merges);
  };
  within = omega (arith, counts.within, weight);
  grows = counts.grows;
}

-- what is counted is no more than what may be taken
pub counted_within : {m l w q : ℕ} {old new : RunsState} → CountsQuanta m l w old new q → q ≤ w
counted_within counts = omega (arith, counts.takes.some, counts.within)

-- ---- how much there is to take

-- more before it, more in all
pub pass_more : (sizes : Sizes) (before before' all all' : ℕ) → before ≤ before' → all ≤ all'
    → pass_due sizes before all ≤ pass_due sizes before' all'
pass_more sizes before before' all all' more more' = grind (arith, common_steps, nat_tests)

pub pass_as_more : (now sizes : Sizes) (before before' all all' : ℕ) → now ≡ sizes → before ≤ before' → all ≤ all'
    → pass_due now before all ≤ pass_due sizes before' all'
pass_as_more now sizes before before' all all' same more more' =
    subst (λ (s : Sizes). pass_due s before all ≤ pass_due sizes before' all') (sym same) (pass_more sizes before before' all all' more more')

pub where_more : (has has' n n' : ℕ) → has ≤ has' → n ≤ n' → where_some has n ≤ where_some has' n'
where_more has has' n n' more more' = grind (arith, common_steps, nat_tests)

pub where_there : (has n : ℕ) → has ≢ 0 → n ≤ where_some has n
where_there has n there = grind (arith, common_steps, nat_tests)

-- what isn't there is nothing
where_all : (has n part : ℕ) → part ≤ has → part ≤ n → part ≤ where_some has n
where_all has n part of_has of_n = grind (arith, common_steps, nat_tests)

pub where_less : (applies : Bool) (n : ℕ) → where_so applies n ≤ n
where_less true n = omega arith
where_less false n = omega arith

pub where_less_some : (has n : ℕ) → where_some has n ≤ n
where_less_some has n = grind (arith, common_steps, nat_tests)

pub where_none : (has n : ℕ) → has ≡ 0 → where_some has n ≡ 0
where_none has n none = grind (arith, common_steps, nat_tests)

-- a deep merge that runs behind a pass
pub deep_behind : (sizes : Sizes) (runs : Bool) (before deep all : ℕ) → (IsTrue runs → c1_mark sizes ≤ before) → deep ≤ all
    → before + where_so runs deep ≤ pass_due sizes before all
deep_behind sizes runs before deep all marks light = grind (arith, common_steps, nat_tests)

pass_small : (sizes : Sizes) (tables before all : ℕ) → where_some tables (pass_due sizes before all) ≤ before + all
pass_small sizes tables before all = grind (arith, common_steps, nat_tests)

pub passes_small : (sizes : Sizes) (c1 a b all : ℕ) → c1 + a + b ≤ all → all ≤ 2 ^ 33
    → where_some (a + b) (pass_due sizes (c1 + a) all) + where_some b (pass_due sizes (c1 + a + b) all) ≤ 4 * 2 ^ 33
passes_small sizes c1 a b all within small = omega (arith, pass_small sizes (a + b) (c1 + a) all, pass_small sizes b (c1 + a + b) all, within, small)

-- what a pass counts is no more than twice what there is
pub pass_counted : {q : ℕ} (old new : RunsState) (log : LogState) → CountsPass old log new q
    → q ≤ 2 * (components_of old.catalogue + weight_of_tables log)
pass_counted old new log counts =
    omega (
      arith,
      counted_within counts,
      pass_small old.sizes (weight_of_tables log) (old.catalogue.c1.weight + listed_in_a log)
          (components_of old.catalogue + weight_of_tables log),
    )

-- the capacity is a small number
pub capacity_small : (sizes : Sizes) → IsGeometry sizes → capacity sizes ≤ 2 ^ 33
capacity_small sizes fits =
    let mark : c1_mark sizes ≤ 16 * sizes.half = mul-le-mul_right sizes.half (omega (arith, fits.ratio)) in
    let all : sizes.ratio * c1_mark sizes ≤ sizes.ratio * (16 * sizes.half) = mul-le-mul_left sizes.ratio mark in
    let most : sizes.ratio * (16 * sizes.half) ≤ 8 * (16 * sizes.half) = mul-le-mul_right (16 * sizes.half) (omega (arith, fits.ratio)) in
    omega (arith, all, most, fits.half)

-- ---- all of settling

-- The deep merge that ran, then two passes with the deep merges that follow: C1 is as it was, then what the pass left, and table A what B was.
pub settling_counts : {q q' q'' : ℕ} (old one two new : RunsState) (log next : LogState) → one.sizes ≡ old.sizes → two.sizes ≡ one.sizes
    → components_of one.catalogue + weight_of_tables log ≤ components_of old.catalogue + weight_of_tables log
    → components_of two.catalogue + weight_of_tables next ≤ components_of one.catalogue + weight_of_tables log
    → one.catalogue.c1.weight ≡ old.catalogue.c1.weight → two.catalogue.c1.weight ≤ one.catalogue.c1.weight + listed_in_a log
    → IsWhole next.a → next.a.entries ≡ log.b.entries → next.b.entries ≡ []
    → CountsQuanta 1 (left_for_deep old.deep) (where_so (is_some old.deep) (untaken old.catalogue)) old one q
    → CountsPass one log two q' → CountsPass two next new q''
    → CountsQuanta (1 + most_merges (listed_in_a log) (entries_weight log.b.entries)) (settling_least old log) (settling_due old log)
    old new (q + (q' + q''))
settling_counts old one two new log next same same' light light' c1 c1' whole a b deep first second =
    let wa : listed_in_a next ≡ entries_weight log.b.entries = omega (arith, ap entries_weight a, whole.1) in
    let wb : entries_weight next.b.entries ≡ 0 = ap entries_weight b in
    let tables : weight_of_tables next ≤ entries_weight log.b.entries = omega (arith, wa, wb) in
    let all = components_of old.catalogue + weight_of_tables log in
    let due_first = where_more (weight_of_tables log) (weight_of_tables log) _ _ (omega arith)
    (pass_as_more one.sizes old.sizes (one.catalogue.c1.weight + listed_in_a log)
    (old.catalogue.c1.weight + listed_in_a log) (components_of one.catalogue + weight_of_tables log) all same (omega (arith, c1))
    light) in
    let due_second = where_more (weight_of_tables next) (entries_weight log.b.entries) _ _ tables
    (pass_as_more two.sizes old.sizes (two.catalogue.c1.weight + listed_in_a next)
    (old.catalogue.c1.weight + listed_in_a log + entries_weight log.b.entries) (components_of two.catalogue + weight_of_tables next)
    all (same' ∙ same) (omega (arith, c1, c1', wa)) (omega (arith, light, light'))) in
    let merges = where_more (weight_of_tables next) (entries_weight log.b.entries) 2 2 tables (omega arith) in
    let least_first = where_more (weight_of_tables log) (weight_of_tables log) (old.catalogue.c1.weight + listed_in_a log)
    (one.catalogue.c1.weight + listed_in_a log) (omega arith) (omega (arith, c1)) in
    let least_second = where_all (weight_of_tables next) (two.catalogue.c1.weight + listed_in_a next) (entries_weight log.b.entries)
    (omega (arith, wa)) (omega (arith, wa)) in
    counts_wider (omega (arith, merges)) (omega (arith, least_first, least_second)) (omega (arith, due_first, due_second))
    (counts_then same deep (counts_then same' first second))
