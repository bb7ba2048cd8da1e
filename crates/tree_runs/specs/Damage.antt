-- The damaged page that a running merge has come to.
use Rattle.std.specs.Prelude.{ℕ, List, [], ◌∷◌, Option, Some, None}
use Rattle.blsm_model.specs.Sizes.{Sizes}
use Rattle.merge_ends.specs.Progress.{MeetsDamage}
use Rattle.snow_merge.specs.Pass.{SnowState}
use Rattle.deep_merge.specs.Merge.{DeepState}

-- in this file the pass comes to this page next, and it isn't valid or doesn't go on from there
abbrev pub PassMeetsDamage : Sizes → Option SnowState → ℕ → List ℕ → Type 0
PassMeetsDamage sizes None n file = ⊥
PassMeetsDamage sizes (Some snow) n file = MeetsDamage sizes (snow.c1 ∷ []) n file

-- the deep merge does, in C1' or in C2
abbrev pub DeepMeetsDamage : Sizes → Option DeepState → ℕ → List ℕ → Type 0
DeepMeetsDamage sizes None n file = ⊥
DeepMeetsDamage sizes (Some merge) n file = MeetsDamage sizes (merge.c1x ∷ merge.c2 ∷ []) n file
