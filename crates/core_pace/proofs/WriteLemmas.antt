-- What a command writes has the pace that the pacing makes of it.
use Rattle.std.proofs.Common.{◌≡◌, ◌∙◌, ℕ, ◌+◌, ◌<◌, ◌≤◌, Bool, true, false, cond, max, Option, Some, None, inl, inr, refl, ap, sym, subst, arith}
use Rattle.std.specs.Prelude.{◌⊎◌, ◌||◌, [], ◌∷◌, is_some, length, not}
use Rattle.std.specs.List.{AllByRecursion}
use Rattle.std.proofs.lemmas.Bool.{false≢true, true≢false}
use Rattle.blsm_model.specs.Format.{least_weight}
use Rattle.blsm_model.specs.declared.op.Op.{Op}
use Rattle.record_delta.specs.Records.{weight}
use Rattle.record_delta.specs.Entries.{Entries, entries_weight}
use Rattle.record_delta.specs.Several.{with_records}
use Rattle.gear_sched.specs.Gears.{entered}
use Rattle.pacing.specs.Pace.{Pace, with_write}
use Rattle.pacing.specs.Steps.{Lands}
use Rattle.snow_merge.specs.Pass.{SnowState}
use Rattle.tree_log.specs.Log.{LogState, Grows, listed_in_a, with_entries, weight_of_tables}
use Rattle.seat_book.specs.State.{BookState}
use Rattle.tree_machine.specs.Moves.{joins_pass}
use Rattle.tree_machine.proofs.WeightLemmas.{key_weighs, weigh_first, weight_with_all}
use Rattle.tree_machine.proofs.WriteLemmas.{sent_behind}
use Rattle.tree_runs.specs.Runs.{RunsState, left_for_pass}
use Rattle.tree_runs.specs.Holding.{cursor_of_pass}
use Rattle.tree_runs.specs.Laws.{AreAhead}
use Rattle.tree_runs.proofs.BesideLemmas.{left_grows}
use Rattle.tree_runs.proofs.CoverLemmas.{above_grows}
use Rattle.core_moves.specs.declared.held.Held.{Held}
use Rattle.core_moves.specs.Held.{IsOne, goes_ahead}
use Rattle.core_pace.specs.Events.{AreWritten}
use Rattle.core_pace.specs.Pacing.{HasPace, HasTaken, table_left}
use Rattle.core_moves.specs.Moves.{WritesIn}
use Rattle.core_moves.proofs.WriteLemmas.{ahead_above}
use Rattle.core_pace.proofs.Terms.{entries_in, entries_to, written_in}

-- ahead of the pass both what is left of table A and what is left of the pass grow as the table does
record LeftGrown (snow : Option SnowState) (a grown : Entries) : Type 0 where
  pub table : table_left snow grown + entries_weight a ≡ table_left snow a + entries_weight grown
  pub pass : is_some snow ≡ true → left_for_pass snow grown + entries_weight a ≡ left_for_pass snow a + entries_weight grown

left_grown : (snow : Option SnowState) (a more : Entries) → AreAhead (cursor_of_pass snow) more → LeftGrown snow a (with_records more a)
left_grown None a more ahead = record { table = omega arith; pass = λ is. absurd (false≢true is) }
left_grown (Some snow) a more ahead = record { table = above_grows snow.at a more ahead; pass = λ _. left_grows snow a more ahead }

-- what a pass doesn't take with it finds one that has taken something, or is one entry whose key table B has, or is several
behind_some : (snow : Option SnowState) (taken : ℕ) (more b : Entries) → 1 ≤ length more → HasTaken snow taken
    → (not (is_some snow) || joins_pass (cursor_of_pass snow) b more) ≡ false
    → (is_some snow ≡ true) × ((0 < taken) ⊎ (0 < entries_weight b) ⊎ (2 ≤ length more))
behind_some None taken more b some started goes = absurd (true≢false goes)
behind_some (Some snow) taken [] b some started goes = absurd (omega (arith, some))
behind_some (Some snow) taken (e ∷ []) b some started goes =
    (refl, elim (sent_behind snow.at e.0 b goes) [ inl cursor ↦ inl (started cursor) | inr has ↦ inr (inl (key_weighs e.0 b has)) ])
behind_some (Some snow) taken (e ∷ f ∷ more) b some started goes = (refl, inr (inr (omega arith)))

taken_or_waits : {taken b weight n : ℕ} → b ≡ weight → (0 < taken) ⊎ (0 < weight) ⊎ (2 ≤ n) → (0 < taken) ⊎ (0 < b) ⊎ (2 ≤ n)
taken_or_waits {taken} {n = n} is some = subst (λ (k : ℕ). (0 < taken) ⊎ (0 < k) ⊎ (2 ≤ n)) (sym is) some

-- a record is little longer than what its entries weigh
pub are_written : (more : Entries) → 1 ≤ length more → AllByRecursion (λ e. least_weight ≤ weight e.0 e.1) more → AreWritten more
are_written [] some each = absurd (omega (arith, some))
are_written (e ∷ []) some each = record { some = some; short = omega (arith, each.0, weigh_first e []) }
are_written (e ∷ f ∷ more) some each =
    record { some = some; short = omega (arith, each.0, each.1.0, weigh_first e (f ∷ more), weigh_first f more) }

-- where writes would land
pub lands_by : (more : Entries) (op : Op) (held : Held) (pace : Pace) → 1 ≤ length more → HasPace held pace → IsOne held → (b : Bool)
    → goes_ahead more held ≡ b
    → Lands pace (entries_to b more op held)
lands_by more op held pace written p one true ahead =
    let light = weight_with_all more held.log.a.entries one.sorted_a in
    let left = left_grown held.runs.pass held.log.a.entries more (ahead_above more held ahead) in
    (omega (arith, light, p.a), omega arith, omega (arith, left.table, p.taken, p.a))
lands_by more op held pace written p one false behind =
    let some = behind_some held.runs.pass pace.gears.pass_taken more held.log.b.entries written p.started behind in
    let light = weight_with_all more held.log.b.entries one.sorted_b in
    (p.in_pass ∙ some.0, taken_or_waits p.b some.1, omega (arith, light, p.b), omega arith)

module _ (seat : ℕ) (more : Entries) (op : Op) (old new : Held) (pace : Pace) (written : 1 ≤ length more) (p : HasPace old pace) (one : IsOne old)
    (runs : new.runs ≡ old.runs) (gears : new.gears ≡ entered old.gears seat (entries_weight more))
    (spring : new.spring ≡ cond (is_some old.runs.pass) old.spring (old.spring + entries_weight more))
    (charge : new.book.counts.charge ≡ old.book.counts.charge) (passes : new.book.counts.passes ≡ old.book.counts.passes) (deeps : new.book.counts.deeps ≡ old.book.counts.deeps)
    (peak : new.book.counts.peak ≡ max old.book.counts.peak (weight_of_tables new.log)) where
  spring_is : cond pace.gears.pass pace.spring (pace.spring + entries_weight more) ≡ new.spring
  spring_is = cc (p.in_pass, p.spring, spring)

  ahead_has : goes_ahead more old ≡ true → new.log ≡ with_entries true more old.log → Grows true more old.log new.log
      → Lands pace (entries_in more op true new.log) × HasPace new (with_write pace seat (entries_in more op true new.log))
  ahead_has ahead log grows = (
    (omega (arith, grown, light, p.a), omega arith, omega (arith, taken)),
    record {
      gears = cc (p.gears, gears);
      a = refl;
      taken = omega (arith, taken, passed);
      b = cc (p.b, log);
      c1 = cc (p.c1, runs);
      c1x = cc (p.c1x, runs);
      c2 = cc (p.c2, runs);
      made1 = cc (p.made1, runs);
      made2 = cc (p.made2, runs);
      spring = spring_is;
      opening = cc (p.opening, charge);
      peak = omega (arith, p.peak, peak, p.b, other);
      passes = cc (p.passes, passes);
      deeps = cc (p.deeps, deeps);
      in_pass = cc (p.in_pass, runs);
      in_deep = cc (p.in_deep, runs);
      pass_left = λ is.
          let was : is_some old.runs.pass ≡ true = cc (is, runs) in
          let left = left.pass was in
          let now : left_for_pass new.runs.pass new.log.a.entries ≡ left_for_pass old.runs.pass (with_records more old.log.a.entries) =
          ap (λ (r : RunsState). left_for_pass r.pass new.log.a.entries) runs
          ∙ ap (λ (l : LogState). left_for_pass old.runs.pass l.a.entries) log in
          omega (arith, left, now, p.pass_left was, p.a, grown);
      deep_left = λ is. let was = p.deep_left (cc (is, runs)) in cc (was, runs);
      started = subst (λ (s : Option SnowState). HasTaken s pace.gears.pass_taken) (sym (ap (λ (r : RunsState). r.pass) runs)) p.started;
    },
  )
    where
      grown : listed_in_a new.log ≡ entries_weight (with_records more old.log.a.entries) + old.log.a.dropped
      grown = ap listed_in_a log

      other : entries_weight new.log.b.entries ≡ entries_weight old.log.b.entries
      other = ap (λ (l : LogState). entries_weight l.b.entries) log

      light : entries_weight (with_records more old.log.a.entries) ≤ entries_weight old.log.a.entries + entries_weight more
      light = weight_with_all more old.log.a.entries one.sorted_a

      left : LeftGrown old.runs.pass old.log.a.entries (with_records more old.log.a.entries)
      left = left_grown old.runs.pass old.log.a.entries more (ahead_above more old ahead)

      taken : pace.taken + table_left old.runs.pass (with_records more old.log.a.entries) ≡ listed_in_a new.log
      taken = omega (arith, left.table, p.taken, p.a, grown)

      passed : table_left new.runs.pass new.log.a.entries ≡ table_left old.runs.pass (with_records more old.log.a.entries)
      passed = ap (λ (r : RunsState). table_left r.pass new.log.a.entries) runs ∙ ap (λ (l : LogState). table_left old.runs.pass l.a.entries) log

  behind_has : goes_ahead more old ≡ false → new.log ≡ with_entries false more old.log → Grows false more old.log new.log
      → Lands pace (entries_in more op false new.log) × HasPace new (with_write pace seat (entries_in more op false new.log))
  behind_has behind log grows = (
    (cc (p.in_pass, some.0), taken_or_waits p.b some.1, omega (arith, grown, light, p.b), omega arith),
    record {
      gears = cc (p.gears, gears);
      a = cc (p.a, log);
      taken = cc (p.taken, runs, log);
      b = refl;
      c1 = cc (p.c1, runs);
      c1x = cc (p.c1x, runs);
      c2 = cc (p.c2, runs);
      made1 = cc (p.made1, runs);
      made2 = cc (p.made2, runs);
      spring = spring_is;
      opening = cc (p.opening, charge);
      peak = omega (arith, p.peak, peak, p.a, other);
      passes = cc (p.passes, passes);
      deeps = cc (p.deeps, deeps);
      in_pass = cc (p.in_pass, runs);
      in_deep = cc (p.in_deep, runs);
      pass_left = λ is. let was = p.pass_left (cc (is, runs)) in cc (was, runs, log);
      deep_left = λ is. let was = p.deep_left (cc (is, runs)) in cc (was, runs);
      started = subst (λ (s : Option SnowState). HasTaken s pace.gears.pass_taken) (sym (ap (λ (r : RunsState). r.pass) runs)) p.started;
    },
  )
    where
      some : (is_some old.runs.pass ≡ true) × ((0 < pace.gears.pass_taken) ⊎ (0 < entries_weight old.log.b.entries) ⊎ (2 ≤ length more))
      some = behind_some old.runs.pass pace.gears.pass_taken more old.log.b.entries written p.started behind

      grown : entries_weight new.log.b.entries ≡ entries_weight (with_records more old.log.b.entries)
      grown = ap (λ (l : LogState). entries_weight l.b.entries) log

      other : listed_in_a new.log ≡ listed_in_a old.log
      other = ap listed_in_a log

      light : entries_weight (with_records more old.log.b.entries) ≤ entries_weight old.log.b.entries + entries_weight more
      light = weight_with_all more old.log.b.entries one.sorted_b

pub write_has_pace : (seat : ℕ) (more : Entries) (op : Op) (old new : Held) (pace : Pace) → 1 ≤ length more → HasPace old pace → IsOne old
    → WritesIn seat more old new
    → Lands pace (written_in more op old new) × HasPace new (with_write pace seat (written_in more op old new))
write_has_pace seat more op old new pace written p one m = by (goes_ahead more old) refl m.log m.grows
  where
    by : (b : Bool) → goes_ahead more old ≡ b → new.log ≡ with_entries b more old.log → Grows b more old.log new.log
        → Lands pace (entries_in more op b new.log) × HasPace new (with_write pace seat (entries_in more op b new.log))
    by true is log grows =
        ahead_has seat more op old new pace written p one m.runs m.gears m.spring (ap (λ (b : BookState). b.counts.charge) m.book)
        (ap (λ (b : BookState). b.counts.passes) m.book) (ap (λ (b : BookState). b.counts.deeps) m.book)
        (ap (λ (b : BookState). b.counts.peak) m.book) is log grows
    by false is log grows =
        behind_has seat more op old new pace written p one m.runs m.gears m.spring (ap (λ (b : BookState). b.counts.charge) m.book)
        (ap (λ (b : BookState). b.counts.passes) m.book) (ap (λ (b : BookState). b.counts.deeps) m.book)
        (ap (λ (b : BookState). b.counts.peak) m.book) is log grows
