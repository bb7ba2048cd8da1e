-- What the calls below require, a paced core has.
use Rattle.std.proofs.Common.{◌≡◌, ◌∙◌, ◌+◌, ◌*◌, ◌≤◌, Bool, true, false, cond, ◌&&◌, Option, None, refl, ap, sym, arith}
use Rattle.std.proofs.lemmas.Grind.{common_steps}
use Rattle.std.proofs.lemmas.Bool.Decides.{nat_tests}
use Rattle.std.specs.Prelude.{is_some, IsTrue}
use Rattle.std.proofs.lemmas.Bool.{leb-true}
use Rattle.record_delta.specs.Entries.{Entries, entries_weight}
use Rattle.gated_log.specs.Records.{cost}
use Rattle.gear_sched.specs.Gears.{GearState}
use Rattle.pacing.specs.Pace.{Pace}
use Rattle.pacing.specs.Steps.{Lands}
use Rattle.pacing.proofs.Promises.{all_fits}
use Rattle.pacing.proofs.Runs.{deep_in_time, bounded}
use Rattle.snow_merge.specs.Pass.{SnowState}
use Rattle.deep_merge.specs.Merge.{DeepState}
use Rattle.gated_log.specs.Lanes.{end_of}
use Rattle.tree_log.specs.Log.{lane_for, listed_for, table_for, with_entries, end_of_a, end_of_b}
use Rattle.core_moves.specs.declared.held.Held.{Held}
use Rattle.core_moves.specs.Held.{IsOne, goes_ahead, IsPassDone, IsDeepDone, is_run_full}
use Rattle.core_pace.specs.Pacing.{HasPace}
use Rattle.core_pace.proofs.TestLemmas.{each_test_agrees}
use Rattle.core_pace.proofs.Terms.{entries_to}
use Rattle.core_pace.proofs.WriteLemmas.{lands_by}
use Rattle.blsm_model.specs.declared.op.Op.{Op}
use Rattle.pacing.specs.Kept.{IsWithin, IsPaced}
use Rattle.tree_runs.specs.Runs.{Fits}
use Rattle.blsm_model.specs.Format.{most_weight}
use Rattle.core_pace.specs.Events.{AreWritten}
use Rattle.core_moves.specs.Needs.{WriteFits}
use Rattle.pacing.proofs.Terms.{HasRoom}
use Rattle.pacing.specs.Ends.{AreEnds}
use Rattle.pacing.proofs.Ends.{record_fits}
use Rattle.blsm_model.specs.Sizes.{Sizes}

-- ---- pages

sizes_are : (held : Held) (pace : Pace) → HasPace held pace → IsOne held → pace.gears.sizes ≡ held.runs.sizes
sizes_are held pace p one = ap (λ (g : GearState). g.sizes) p.gears ∙ one.gears

-- the pages hold the components, and the two runs with what is left for them
pub pages_fit : (held : Held) (pace : Pace) → HasPace held pace → IsOne held → IsWithin pace → Fits held.runs held.log.a.entries
pages_fit held pace p one within = grind (arith, common_steps, nat_tests)

-- ---- the way of a swap

both : (b c : Bool) → (b && c) ≡ true → (b ≡ true) × (c ≡ true)
both b c h1 = grind (arith, common_steps, nat_tests)

-- No deep merge runs where the pass's run is full, once a deep merge that was done is swapped in.
pub way_is_free : (held : Held) (pace : Pace) → HasPace held pace → IsOne held → IsPaced pace → (IsDeepDone held → ⊥) → IsPassDone held → IsTrue (is_run_full held) → held.runs.deep ≡ None
way_is_free held pace p one paced not_done done full = by held.runs.deep refl
  where
    by : (d : Option DeepState) → held.runs.deep ≡ d → held.runs.deep ≡ None
    by d h1 = grind (arith, common_steps, nat_tests, each_test_agrees, both, leb-true, sizes_are, deep_in_time)

-- ---- a write

-- writes that there is room for fit their lane, their table, and the numbers of the gears
pub writes_fit : (more : Entries) (op : Op) (held : Held) (pace : Pace) → AreWritten more → HasPace held pace → IsOne held → IsPaced pace
    → AreEnds pace (end_of_a held.log) (end_of_b held.log) → HasRoom pace (entries_weight more) → entries_weight more ≤ most_weight
    → WriteFits more held
writes_fit more op held pace written p one paced ends room heavy = record {
  lane = by_lane (goes_ahead more held)
      (record_fits pace (entries_to (goes_ahead more held) more op held) (cost more) (end_of_a held.log) (end_of_b held.log) paced.within ends room
      written.short lands);
  table = by_table (goes_ahead more held) lands;
  pass = let y = (all_fits pace paced.within).y in let g = ap (λ (g : GearState). g.pass_admitted) p.gears in omega (arith, y, g, heavy);
  deep = let since = (bounded pace paced).since in let g = ap (λ (g : GearState). g.deep_admitted) p.gears in omega (arith, since, g, heavy);
  spring = λ rests.
      let out : pace.gears.pass ≡ false = p.in_pass ∙ ap (λ (s : Option SnowState). is_some s) rests in
      let low = room.low out in
      let fits = paced.within.sizes.half in
      omega (arith, low, p.spring);
}
  where
    lands : Lands pace (entries_to (goes_ahead more held) more op held)
    lands = lands_by more op held pace written.some p one (goes_ahead more held) refl

    half : pace.gears.sizes.half ≡ held.log.lanes.sizes.half
    half = ap (λ (s : Sizes). s.half) (sizes_are held pace p one ∙ sym one.lanes)

    by_lane : (b : Bool) → cond b (end_of_a held.log) (end_of_b held.log) + cost more + 1 ≤ 4 * pace.gears.sizes.half
        → end_of held.log.lanes (lane_for b held.log) + cost more + 1 ≤ 4 * held.log.lanes.sizes.half
    by_lane true fits = omega (arith, fits, half)
    by_lane false fits = omega (arith, fits, half)

    by_table : (b : Bool) → Lands pace (entries_to b more op held)
        → listed_for b (with_entries b more held.log) ≤ (table_for b held.log).reserved
    by_table b h1 = grind (arith, common_steps, nat_tests)
