-- A pass that has taken all, and what a table weighs above a key.
use Rattle.std.proofs.lemmas.List.Sums.{sum_by-cons}
use Rattle.std.specs.Prelude.{option_map}
use Rattle.std.specs.Ordering.{ordering_reverse}
use Rattle.std.specs.declared.cmp.Ordering.{Ordering}
use Rattle.std.proofs.lemmas.Bool.Decides.{nat_tests}
use Rattle.std.proofs.lemmas.Cmp.{nat_list_cmp_total}
use Rattle.std.proofs.lemmas.Grind.{common_steps}
use Rattle.std.specs.declared.cmp.Ordering.TheVariants.{Less}
use Rattle.std.proofs.Common.{◌≡◌, ◌∙◌, ◌≤◌, ℕ, cond, true, false, List, [], ◌∷◌, Option, Some, ap, arith}
use Rattle.blsm_model.specs.declared.key.Key.{Key}
use Rattle.blsm_model.specs.Keys.{key_cmp}
use Rattle.blsm_model.specs.Sizes.{Sizes}
use Rattle.bloom_bits.specs.BitSet.{BitState}
use Rattle.bloom_bits.specs.Fences.{FencesState}
use Rattle.record_delta.specs.declared.record.Rec.{Rec}
use Rattle.record_delta.specs.Records.{weight}
use Rattle.record_delta.specs.Entries.{is_above, Entries, entries_weight, folded_over, above}
use Rattle.page_space.specs.Space.{SpaceState}
use Rattle.run_writer.specs.Writer.{HasPushed}
use Rattle.merge_step.specs.Group.{least_of, group_at}
use Rattle.merge_step.specs.declared.group.Taken.{Taken}
use Rattle.merge_step.specs.declared.group.Taken.TheVariants.{InRoom}
use Rattle.merge_step.proofs.MergedLemmas.{turned}
use Rattle.merge_ends.specs.Progress.{left_to_take}
use Rattle.merge_ends.proofs.MergeLemmas.{pushed_all as merge_pushed_all}
use Rattle.snow_merge.specs.Pass.{SnowState, IsPass, merge_of, progress_of_pass}

-- All was pushed.
pub pushed_all : {pages : List ℕ} (sizes : Sizes) (file : List ℕ) (space : SpaceState) (snow : SnowState) (filter : BitState) (fences : FencesState) (a c1 : Entries) → left_to_take (progress_of_pass snow a) ≡ 0 → IsPass sizes file space snow filter fences pages a c1
    → HasPushed sizes true file space snow.writer filter fences (folded_over a c1)
pushed_all sizes file space snow filter fences a c1 done pass = merge_pushed_all (merge_of snow) a c1 done pass

-- what is above a key weighs no more than all
pub above_light : (at : Option Key) (es : Entries) → entries_weight (above at es) ≤ entries_weight es
above_light at [] = omega arith
above_light at (e ∷ es) =
    let all = sum_by-cons (λ (x : Key × Rec). weight x.0 x.1) e es in
    elim (is_above at e.0) as (λ b. entries_weight (cond b (e ∷ above at es) (above at es)) ≤ entries_weight (e ∷ es)) [
      | true ↦ omega (arith, all, sum_by-cons (λ (x : Key × Rec). weight x.0 x.1) e (above at es), above_light at es)
      | false ↦ omega (arith, all, above_light at es)
    ]

-- the entry of a key below a list's first one isn't that one
pub another_key : (first : Key × Rec) (key : Key) (rec : Rec) → key_cmp key first.0 ≡ Less → Some first ≡ Some (key, rec) → ⊥
another_key first key rec h1 h2 = grind (arith, common_steps, nat_tests, nat_list_cmp_total)

-- the group that is in the room
pub in_room : (taken : Taken) (older room : Option (Key × Rec)) (entry : Key × Rec) (weighs : ℕ) → taken ≡ InRoom weighs → room ≡ Some entry → group_at (Some taken) older room ≡ Some (entry.0, entry.1, weighs)
in_room taken older room entry weighs is here = ap (λ t. group_at (Some t) older room) is ∙ ap (λ r. option_map (λ e. (e.0, e.1, weighs)) r) here

-- the lesser of two entries, where the older one's key was compared with the newer one's
pub compared : (order : Ordering) (first older : Key × Rec) → key_cmp older.0 first.0 ≡ order → least_of (key_cmp first.0 older.0) first older ≡ least_of (ordering_reverse order) first older
compared order first older is = ap (λ o. least_of o first older) (turned older.0 first.0 order is)
