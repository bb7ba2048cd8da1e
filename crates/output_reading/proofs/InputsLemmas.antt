-- C1' and C2 as inputs of which the least group is taken.
use Rattle.std.proofs.Common.{
  ◌≡◌,
  ◌∙◌,
  ◌+◌,
  ℕ,
  true,
  false,
  List,
  [],
  ◌∷◌,
  ◌++◌,
  length,
  Option,
  Some,
  None,
  refl,
  ap,
  sym,
  arith,
  append-nil,
  length-append,
}
use Rattle.std.proofs.lemmas.Grind.{common_steps}
use Rattle.std.proofs.lemmas.Bool.Decides.{nat_tests}
use Rattle.std.specs.Prelude.{is_some}
use Rattle.std.proofs.lemmas.Bool.{false≢true}
use Rattle.blsm_model.specs.declared.key.Key.{Key}
use Rattle.blsm_model.specs.declared.row.Value.{Value}
use Rattle.blsm_model.specs.Sizes.{Sizes}
use Rattle.record_delta.specs.declared.record.Rec.{Rec}
use Rattle.record_delta.specs.declared.record.Rec.TheVariants.{Base}
use Rattle.record_delta.specs.Records.{settle}
use Rattle.record_delta.specs.Entries.{AreSorted, Entries, above, entries_weight, first_of, is_above, settled_base, settled_entries, up_to}
use Rattle.page_space.specs.PageSet.{IsIn}
use Rattle.page_space.specs.Space.{HasRole, IsFree}
use Rattle.run_cursor.specs.Cursor.{from_head}
use Rattle.merge_step.specs.Group.{group_of}
use Rattle.merge_step.specs.Merged.{IsTaken}
use Rattle.merge_step.proofs.StepLemmas.{goes_on}
use Rattle.merge_ends.specs.Output.{IsUpTo}
use Rattle.merge_ends.proofs.GroupLemmas.{
  all_up_to,
  behind_group,
  first_none,
  further,
  group_none,
  head_first,
  head_is,
  head_sorted,
  input_further,
  newer_stays,
  older_stays,
  up_to_none,
}
use Rattle.output_reading.specs.declared.inputs.Inputs.{Inputs}
use Rattle.tree_file.specs.Output.{settled_fold, settled_up_to, weight_up_to}
use Rattle.output_reading.specs.Walk.{AreBehind, AreInputs, AreReady, left_of, no_space}
use Rattle.output_reading.proofs.FoldLemmas.{fronts, group_settled}

none_in : (k : ℕ) → IsIn [] k → ⊥
none_in k has = grind (arith, common_steps, nat_tests)

pub nowhere_in : (n : ℕ) → (HasRole no_space 0 n → ⊥) × (IsFree no_space n → ⊥)
nowhere_in n = (λ has. none_in n has, λ free. omega (arith, free.in_range))

-- the group is that of the lists
pub taken_of : {sizes : Sizes} {inputs : Inputs} {newer_pages older_pages : List ℕ} {newer older : Entries} {file : List ℕ} (key : Key) (rec : Rec)
    (taken : ℕ) → AreInputs sizes inputs newer_pages older_pages newer older file → AreReady inputs
    → group_of inputs.newer.head inputs.older.head ≡ Some (key, rec, taken) → IsTaken inputs.at newer older key rec taken
taken_of {sizes} {inputs} {newer_pages} {older_pages} {newer} {older} {file} key rec taken is ready group =
    let n = head_is sizes file no_space 0 inputs.at inputs.newer newer ready.0 is.newer_is in
    let o = head_is sizes file no_space 0 inputs.at inputs.older older ready.1 is.older_is in
    goes_on inputs.at newer older key rec taken is.newer_is.sorted is.older_is.sorted ((λ i. group_of (n i) (o i)) ∙ group)

pub firsts_of : {sizes : Sizes} {inputs : Inputs} {newer_pages older_pages : List ℕ} {newer older : Entries} {file : List ℕ} → AreInputs sizes inputs
    newer_pages older_pages newer older file → AreReady inputs
    → (first_of (above inputs.at newer) ≡ inputs.newer.head) × (first_of (above inputs.at older) ≡ inputs.older.head)
firsts_of {sizes} {inputs} {newer_pages} {older_pages} {newer} {older} {file} is ready = (
  head_is sizes file no_space 0 inputs.at inputs.newer newer ready.0 is.newer_is,
  head_is sizes file no_space 0 inputs.at inputs.older older ready.1 is.older_is,
)

-- ---- a group is taken

heads_taken : (inputs : Inputs) (key : Key) (rec : Rec) (taken : ℕ) → AreReady inputs → group_of inputs.newer.head inputs.older.head ≡ Some
    (key, rec, taken)
    → IsTaken inputs.at (from_head inputs.newer.head []) (from_head inputs.older.head []) key rec taken
heads_taken inputs key rec taken ready group =
    let n = head_first inputs.at inputs.newer ready.0 in
    let o = head_first inputs.at inputs.older ready.1 in
    goes_on inputs.at (from_head inputs.newer.head []) (from_head inputs.older.head []) key rec taken (head_sorted inputs.newer.head)
    (head_sorted inputs.older.head)
    ((λ i. group_of (n i) (o i)) ∙ group)

-- its key is above the one before
pub above_group : (inputs : Inputs) (key : Key) (rec : Rec) (taken : ℕ) → AreReady inputs → group_of inputs.newer.head inputs.older.head ≡ Some
    (key, rec, taken)
    → is_above inputs.at key ≡ true
above_group inputs key rec taken ready group = (heads_taken inputs key rec taken ready group).above_at

pub onward_taken : (inputs : Inputs) (key : Key) (rec : Rec) (taken : ℕ) → AreReady inputs → group_of inputs.newer.head inputs.older.head ≡ Some
    (key, rec, taken)
    → IsUpTo inputs.at (Some key)
onward_taken inputs key rec taken ready group = λ q past. further inputs.at key q (above_group inputs key rec taken ready group) past

pub behind_taken : (inputs : Inputs) (key : Key) (rec : Rec) (taken : ℕ) → AreReady inputs → group_of inputs.newer.head inputs.older.head ≡ Some
    (key, rec, taken) → AreBehind (record inputs { at = Some key })
behind_taken inputs key rec taken ready group = (
  behind_group inputs.at inputs.newer key ready.0 (newer_stays inputs.newer.head inputs.older.head key rec taken group),
  behind_group inputs.at inputs.older key ready.1 (older_stays inputs.newer.head inputs.older.head key rec taken group),
)

pub left_taken : (inputs : Inputs) (key : Key) (rec : Rec) (taken : ℕ) → AreReady inputs → group_of inputs.newer.head inputs.older.head ≡ Some
    (key, rec, taken)
    → left_of (record inputs { at = Some key }) + taken ≡ left_of inputs
left_taken inputs key rec taken ready group = let t = heads_taken inputs key rec taken ready group in omega
    (arith, t.taken_is, t.newer_left, t.older_left)

pub inputs_taken : {sizes : Sizes} {inputs : Inputs} {newer_pages older_pages : List ℕ} {newer older : Entries} {file : List ℕ} (key : Key)
    (rec : Rec) (taken : ℕ) → AreInputs sizes inputs newer_pages older_pages newer older file → AreReady inputs
    → group_of inputs.newer.head inputs.older.head ≡ Some (key, rec, taken) → AreInputs sizes (record inputs { at = Some key }) newer_pages
    older_pages newer older file × IsTaken inputs.at newer older key rec taken
inputs_taken {sizes} {inputs} {newer_pages} {older_pages} {newer} {older} {file} key rec taken is ready group =
    let t = taken_of key rec taken is ready group in (
      record {
        newer_is = input_further sizes file no_space 0 inputs.at key inputs.newer newer t.above_at is.newer_is;
        older_is = input_further sizes file no_space 0 inputs.at key inputs.older older t.above_at is.older_is;
      },
      t,
    )

-- ---- whether the fold goes on

-- nothing is left
pub none_above : {sizes : Sizes} {inputs : Inputs} {newer_pages older_pages : List ℕ} {newer older : Entries} {file : List ℕ} → AreInputs sizes
    inputs newer_pages older_pages newer older file → AreReady inputs → None ≡ group_of inputs.newer.head inputs.older.head
    → settled_up_to inputs.at newer older ≡ settled_fold newer older
none_above {sizes} {inputs} {newer_pages} {older_pages} {newer} {older} {file} is ready none =
    let firsts = firsts_of is ready in
    let heads = group_none inputs.newer.head inputs.older.head (sym none) in
    let n = all_up_to inputs.at newer (first_none (above inputs.at newer) (firsts.0 ∙ heads.0)) in
    let o = all_up_to inputs.at older (first_none (above inputs.at older) (firsts.1 ∙ heads.1)) in
    λ i. settled_fold (n i) (o i)

-- a group that leaves something
pub more_above : {at : Option Key} {newer older : Entries} {key : Key} {rec : Rec} {taken : ℕ} (value : Value) → AreSorted older → IsTaken at newer
    older key rec taken → settle rec ≡ Some value
    → settled_up_to at newer older ≡ settled_fold newer older → ⊥
more_above {at} {newer} {older} {key} {rec} value sorted t some all =
    let front = fronts (Some key) newer older sorted in
    let one : settled_entries ((key, rec) ∷ []) ≡ (key, Base value) ∷ [] = ap (λ (v : Option Value). settled_base key v []) some in
    omega (
      arith,
      ap (λ (l : Entries). length l) all,
      ap (λ (l : Entries). length l) front.1,
      ap (λ (l : Entries). length l) (group_settled t),
      ap (λ (l : Entries). length l) one,
      length-append (settled_up_to (Some key) newer older) front.0,
      length-append (settled_up_to at newer older) (settled_entries ((key, rec) ∷ [])),
    )

-- one that leaves nothing
pub none_more : {at : Option Key} {newer older : Entries} {key : Key} {rec : Rec} {taken : ℕ} → IsTaken at newer older key rec taken → settle rec ≡
    None
    → settled_up_to (Some key) newer older ≡ settled_up_to at newer older
none_more {at} {newer} {older} {key} {rec} t none =
    group_settled t ∙ ap (λ (v : Option Value). settled_up_to at newer older ++ settled_base key v []) none ∙ append-nil
    (settled_up_to at newer older)

-- before anything is taken
pub none_taken : (at : Option Key) (newer older : Entries) → at ≡ None → settled_up_to at newer older ≡ []
none_taken at newer older is =
    let n = ap (λ (k : Option Key). up_to k newer) is ∙ up_to_none newer in
    let o = ap (λ (k : Option Key). up_to k older) is ∙ up_to_none older in
    λ i. settled_fold (n i) (o i)

pub none_weighs : (at : Option Key) (newer older : Entries) → at ≡ None → weight_up_to at newer older ≡ 0
none_weighs at newer older is =
    let n = ap (λ (k : Option Key). up_to k newer) is ∙ up_to_none newer in
    let o = ap (λ (k : Option Key). up_to k older) is ∙ up_to_none older in
    omega (arith, ap entries_weight n, ap entries_weight o)

pub up_none : (at high : Option Key) → at ≡ None → IsUpTo at high
up_none at high is = λ key _. ap (λ (k : Option Key). is_above k key) is

-- ---- whether a record settles to something

pub has_value : (value : Option Value) → is_some value ≡ true → (v : Value) × (value ≡ Some v)
has_value None is = absurd (false≢true is)
has_value (Some v) is = (v, refl)

pub no_some : (value : Option Value) → is_some value ≡ false → value ≡ None
no_some None is = refl
no_some (Some v) is = absurd (false≢true (sym is))
