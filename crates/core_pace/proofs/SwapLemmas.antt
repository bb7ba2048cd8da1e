-- Swaps and begins have the pace that the pacing makes of them.
use Rattle.std.proofs.Common.{◌≡◌, ℕ, Bool, true, false, cond, [], ◌∷◌, Option, None, refl, ap, sym, subst, arith}
use Rattle.std.proofs.lemmas.Grind.{common_steps}
use Rattle.std.proofs.lemmas.Bool.Decides.{nat_tests}
use Rattle.std.specs.Prelude.{nat_le}
use Rattle.blsm_model.specs.Geometry.{c1_mark}
use Rattle.blsm_model.specs.declared.component.Component.{Component}
use Rattle.record_delta.specs.Entries.{Entries, entries_weight, above}
use Rattle.pacing.specs.Pace.{Pace, with_pass_swapped, with_rotation, with_deep_swapped, with_swap_and_rotation, with_pass}
use Rattle.run_cursor.specs.Cursor.{started as cursor_started}
use Rattle.merge_ends.specs.Input.{left_in}
use Rattle.snow_merge.specs.Pass.{SnowState}
use Rattle.core_moves.specs.declared.held.Held.{Held}
use Rattle.core_moves.specs.Held.{is_run_full, IsOne}
use Rattle.core_moves.specs.Moves.{SwapsPassIn, SwapsDeepIn, RotatesIn, with_pass_begun}
use Rattle.core_pace.specs.Pacing.{HasPace, HasTaken, table_left}

-- what nothing was taken of
pub all_above : (es : Entries) → above None es ≡ es
all_above [] = refl
all_above (e ∷ es) = ap (λ (xs : Entries). e ∷ xs) (all_above es)

pub all_left : (run : Component) → left_in None (cursor_started run) ≡ run.weight
all_left run = omega arith

-- one that doesn't run has taken nothing of its own
pub none_taken : (snow : Option SnowState) (taken : ℕ) → snow ≡ None → HasTaken snow taken
none_taken snow taken is = subst (λ (s : Option SnowState). HasTaken s taken) (sym is) tt

pub none_left : (snow : Option SnowState) (es : Entries) → snow ≡ None → table_left snow es ≡ entries_weight es
none_left snow es is = ap (λ (s : Option SnowState). table_left s es) is

pub deep_swap_has_pace : (old new : Held) (pace : Pace) → HasPace old pace → SwapsDeepIn old new → HasPace new (with_deep_swapped pace)
deep_swap_has_pace old new pace p m = grind (arith, common_steps, nat_tests)

-- ---- the pass

swapped : (old new : Held) (pace : Pace) → HasPace old pace → SwapsPassIn old new → is_run_full old ≡ false → HasPace new (with_pass_swapped pace)
swapped old new pace p m is = grind (arith, common_steps, nat_tests)

swapped_full : (old new : Held) (pace : Pace) → HasPace old pace → SwapsPassIn old new → is_run_full old ≡ true → HasPace new (with_rotation (with_pass_swapped pace))
swapped_full old new pace p m is = grind (arith, common_steps, nat_tests)

pub pass_swap_has_pace : (old new : Held) (pace : Pace) → HasPace old pace → IsOne old → SwapsPassIn old new → HasPace new (with_swap_and_rotation pace)
pass_swap_has_pace old new pace p one m =
    let mark : nat_le (c1_mark pace.gears.sizes) pace.made1 ≡ is_run_full old = cc (p.gears, p.made1, one.gears) in
    subst (λ (b : Bool). HasPace new (cond b (with_rotation (with_pass_swapped pace)) (with_pass_swapped pace))) (sym mark) (by (is_run_full old) refl)
  where
    by : (b : Bool) → is_run_full old ≡ b → HasPace new (cond b (with_rotation (with_pass_swapped pace)) (with_pass_swapped pace))
    by true is = swapped_full old new pace p m is
    by false is = swapped old new pace p m is

-- ---- C1, and a begin

-- no pass may run then
pub rotation_has_pace : (old new : Held) (pace : Pace) → HasPace old pace → old.runs.pass ≡ None → RotatesIn old new → HasPace new (with_rotation pace)
rotation_has_pace old new pace p rests m = grind (arith, common_steps, nat_tests)

pub begin_has_pace : (old : Held) (pace : Pace) → HasPace old pace → old.log.a.dropped ≡ 0 → HasPace (with_pass_begun old) (with_pass pace)
begin_has_pace old pace p whole = grind (arith, common_steps, nat_tests, all_above, all_left)
