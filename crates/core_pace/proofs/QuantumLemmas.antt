-- Quanta have the pace that the pacing makes of them.
use Rattle.std.proofs.Common.{◌≡◌, ◌∙◌, ◌⊎◌, ⊎_elim, inl, inr, ℕ, ◌+◌, ◌*◌, ◌<◌, ◌≤◌, true, Option, refl, ap, sym, subst, arith}
use Rattle.std.proofs.lemmas.Grind.{common_steps}
use Rattle.std.proofs.lemmas.Bool.Decides.{nat_tests}
use Rattle.std.specs.Prelude.{is_some}
use Rattle.blsm_model.specs.Format.{most_weight}
use Rattle.blsm_model.specs.Sizes.{Sizes}
use Rattle.mem_table.specs.Tables.{Contents}
use Rattle.record_delta.specs.Entries.{Entries, entries_weight}
use Rattle.pacing.specs.Pace.{with_snow, with_deep, Pace, counted}
use Rattle.snow_merge.specs.Pass.{SnowState}
use Rattle.deep_merge.specs.Merge.{DeepState}
use Rattle.tree_runs.specs.Runs.{made_by_pass, made_by_deep, left_for_pass, left_for_deep}
use Rattle.tree_runs.specs.Holding.{PassTakes, DeepTakes}
use Rattle.core_pace.specs.Pacing.{HasPace, HasTaken, table_left}
use Rattle.pacing.specs.Kept.{IsWithin}
use Rattle.pacing.specs.Steps.{IsSnow, IsDeep}
use Rattle.core_moves.specs.declared.held.Held.{Held}
use Rattle.core_moves.specs.Held.{IsOne}
use Rattle.core_moves.specs.Moves.{TakesOfPass, TakesOfDeep}
use Rattle.core_pace.proofs.FollowLemmas.{Dropped, quantum_drops}
use Rattle.core_pace.proofs.Terms.{snow_quantum, deep_quantum}

-- What a quantum of a pass took, of both inputs and of table A, by what is left.
pub record Took (least : ℕ) (old new : Option SnowState) (a : Entries) (n : ℕ) : Type 0 where
  pub ran : is_some old ≡ true
  pub runs : is_some new ≡ true
  pub left : n + left_for_pass new a ≡ left_for_pass old a
  pub table : table_left new a ≤ table_left old a
  pub of_table : table_left old a ≤ table_left new a + n
  pub rest : table_left new a ≤ left_for_pass new a
  pub light : (made_by_pass new).weight ≤ (made_by_pass old).weight + n
  pub bound : n + 1 ≤ least + 2 * most_weight
  pub enough : (least ≤ n) ⊎ (left_for_pass new a ≡ 0)

pub took : (least : ℕ) (old new : Option SnowState) (a : Entries) (n : ℕ) → PassTakes least old new a n → Took least old new a n
took least old new a n h1 = grind (arith, common_steps, nat_tests)

-- what a quantum of a deep merge took
pub record DeepTook (least : ℕ) (old new : Option DeepState) (n : ℕ) : Type 0 where
  pub ran : is_some old ≡ true
  pub runs : is_some new ≡ true
  pub left : n + left_for_deep new ≡ left_for_deep old
  pub light : (made_by_deep new).weight ≤ (made_by_deep old).weight + n
  pub bound : n + 1 ≤ least + 2 * most_weight
  pub enough : (least ≤ n) ⊎ (left_for_deep new ≡ 0)

pub deep_took : (least : ℕ) (old new : Option DeepState) (n : ℕ) → DeepTakes least old new n → DeepTook least old new n
deep_took least old new n h1 = grind (arith, common_steps, nat_tests)

-- a pass that has taken something may stand at any key
at_some : (snow : Option SnowState) (taken : ℕ) → 0 < taken → HasTaken snow taken
at_some snow taken h1 = grind (arith, common_steps, nat_tests)

-- A quantum that began with something left is one of the pacing's.
pub snow_has_pace : (seat n : ℕ) (old new : Held) (pace : Pace) → HasPace old pace → IsOne old → IsWithin pace → 0 < left_for_pass old.runs.pass old.log.a.entries → TakesOfPass seat n old new
    → IsSnow pace (snow_quantum n old new) × HasPace new (with_snow pace seat (snow_quantum n old new))
snow_has_pace seat n old new pace p one within some m = (is_snow, has)
  where
    t : Took old.runs.sizes.quantum old.runs.pass new.runs.pass old.log.a.entries n
    t = took old.runs.sizes.quantum old.runs.pass new.runs.pass old.log.a.entries n m.takes

    runs : pace.gears.pass ≡ true
    runs = cc (p.in_pass, t.ran)

    left : pace.gears.pass_taken + left_for_pass old.runs.pass old.log.a.entries ≡ pace.a + pace.c1
    left = p.pass_left t.ran

    made : pace.made1 ≤ pace.gears.pass_taken
    made = (within.running runs).made

    sizes : pace.gears.sizes ≡ old.runs.sizes
    sizes = cc (p.gears, one.gears)

    quantum : 0 < pace.gears.sizes.quantum
    quantum = let fits = within.sizes.quantum in omega arith

    same : pace.gears.sizes.quantum ≡ old.runs.sizes.quantum
    same = ap (λ (s : Sizes). s.quantum) sizes

    enough : (pace.gears.sizes.quantum ≤ n) ⊎ (pace.gears.pass_taken + n ≡ pace.a + pace.c1)
    enough = ⊎_elim (λ (more : old.runs.sizes.quantum ≤ n). inl (omega (arith, more, same))) (λ (none : left_for_pass new.runs.pass old.log.a.entries ≡ 0). inr (omega (arith, none, left, t.left))) t.enough

    is_snow : Rattle.pacing.specs.Steps.IsSnow pace (snow_quantum n old new)
    is_snow = (
      record {
        enough = enough;
        few = omega (arith, t.bound, same);
        left = omega (arith, left, t.left);
        written = omega (arith, p.made1, t.light, made);
      },
      omega (arith, t.of_table),
      omega (arith, p.taken, t.table),
      omega (arith, left, t.left, t.rest, t.table, p.taken),
    )

    taken_some : 0 < pace.gears.pass_taken + n
    taken_some = ⊎_elim (λ (more : pace.gears.sizes.quantum ≤ n). omega (arith, more, quantum)) (λ (full : pace.gears.pass_taken + n ≡ pace.a + pace.c1). omega (arith, full, left, some)) enough

    d : Dropped new.runs.pass old.log new.log
    d = quantum_drops seat n old new one m

    has : HasPace new (with_snow pace seat (snow_quantum n old new))
    has = record {
      gears = cc (p.gears, m.gears);
      a = p.a ∙ sym d.listed;
      taken = omega (arith, d.table, p.taken, t.table);
      b = p.b ∙ sym (ap (λ (c : Contents). entries_weight c.entries) d.b);
      c1 = cc (p.c1, m.others.catalogue);
      c1x = cc (p.c1x, m.others.catalogue);
      c2 = cc (p.c2, m.others.catalogue);
      made1 = refl;
      made2 = cc (p.made2, m.others.deep);
      spring = cc (p.spring, m.spring);
      opening = cc (p.opening, m.book);
      peak = cc (p.peak, m.book);
      passes = cc (p.passes, m.book);
      deeps = cc (p.deeps, m.book);
      in_pass = cc (runs, t.runs);
      in_deep = cc (p.in_deep, m.others.deep);
      pass_left = λ _. omega (arith, d.left, left, t.left);
      deep_left = λ is. let was = p.deep_left (cc (is, m.others.deep)) in cc (was, m.others.deep);
      started = at_some new.runs.pass (pace.gears.pass_taken + n) taken_some;
    }

pub deep_has_pace : (seat n : ℕ) (old new : Held) (pace : Pace) → HasPace old pace → IsOne old → IsWithin pace → TakesOfDeep seat n old new
    → IsDeep pace (deep_quantum n new) × HasPace new (with_deep pace seat (deep_quantum n new))
deep_has_pace seat n old new pace p one within m = (is_deep, has)
  where
    t : DeepTook old.runs.sizes.quantum old.runs.deep new.runs.deep n
    t = deep_took old.runs.sizes.quantum old.runs.deep new.runs.deep n m.takes

    runs : pace.gears.deep ≡ true
    runs = cc (p.in_deep, t.ran)

    left : pace.gears.deep_taken + left_for_deep old.runs.deep ≡ pace.c1x + pace.c2
    left = p.deep_left t.ran

    made : pace.made2 ≤ pace.gears.deep_taken
    made = (within.merging runs).made

    sizes : pace.gears.sizes ≡ old.runs.sizes
    sizes = cc (p.gears, one.gears)

    same : pace.gears.sizes.quantum ≡ old.runs.sizes.quantum
    same = ap (λ (s : Sizes). s.quantum) sizes

    is_deep : Rattle.pacing.specs.Steps.IsDeep pace (deep_quantum n new)
    is_deep = record {
      enough = ⊎_elim (λ (more : old.runs.sizes.quantum ≤ n). inl (omega (arith, more, same))) (λ (none : left_for_deep new.runs.deep ≡ 0). inr (omega (arith, none, left, t.left))) t.enough;
      few = omega (arith, t.bound, same);
      left = omega (arith, left, t.left);
      written = omega (arith, p.made2, t.light, made);
    }

    has : HasPace new (with_deep pace seat (deep_quantum n new))
    has = record {
      gears = cc (p.gears, m.gears);
      a = cc (p.a, m.log);
      taken = cc (p.taken, m.log, m.others.pass);
      b = cc (p.b, m.log);
      c1 = cc (p.c1, m.others.catalogue);
      c1x = cc (p.c1x, m.others.catalogue);
      c2 = cc (p.c2, m.others.catalogue);
      made1 = cc (p.made1, m.others.pass);
      made2 = refl;
      spring = cc (p.spring, m.spring);
      opening = cc (p.opening, m.book);
      peak = cc (p.peak, m.book);
      passes = cc (p.passes, m.book);
      deeps = cc (p.deeps, m.book);
      in_pass = cc (p.in_pass, m.others.pass);
      in_deep = cc (runs, t.runs);
      pass_left = λ is. let was = p.pass_left (cc (is, m.others.pass)) in cc (was, m.others.pass, m.log);
      deep_left = λ _. omega (arith, left, t.left);
      started = subst (λ (s : Option SnowState). HasTaken s pace.gears.pass_taken) (sym m.others.pass) p.started;
    }

-- the count of a seat's quanta is no number of these
pub count_has_pace : (seat : ℕ) (held : Held) (pace : Pace) → HasPace held pace → HasPace held (counted pace seat)
count_has_pace seat held pace p = assumption
