-- A walk that takes both inputs up to a key, group by group.
use Rattle.std.proofs.Common.{◌≡◌, ◌∙◌, ◌≤◌, ℕ, true, false, List, [], ◌∷◌, ◌++◌, Option, Some, None, refl, ap, sym, subst}
use Rattle.std.specs.Ordering.{is_lt}
use Rattle.blsm_model.specs.declared.key.Key.{Key}
use Rattle.blsm_model.specs.declared.component.Component.{Component}
use Rattle.blsm_model.specs.Sizes.{Sizes}
use Rattle.record_delta.specs.declared.record.Rec.{Rec}
use Rattle.record_delta.specs.Entries.{Entries, is_above, settled_entries}
use Rattle.page_file.specs.declared.file.Broken.{Broken}
use Rattle.page_file.specs.declared.file.Broken.TheVariants.{Fault, Damaged}
use Rattle.merge_step.specs.Group.{group_of}
use Rattle.merge_step.specs.Merged.{IsTaken}
use Rattle.merge_step.proofs.TakenLemmas.{below_above}
use Rattle.merge_ends.specs.Output.{IsUpTo}
use Rattle.merge_ends.proofs.GroupLemmas.{group_none}
use Rattle.output_reading.specs.declared.inputs.Inputs.{Inputs}
use Rattle.tree_file.specs.Output.{settled_up_to}
use Rattle.output_reading.specs.Output.{IsFront}
use Rattle.record_delta.specs.Records.{weight}
use Rattle.output_reading.specs.Walk.{AreInputs, AreReady, IsGroup, TellsStop}
use Rattle.output_reading.proofs.FoldLemmas.{HasEnded, ends_none, ends_past, group_settled}
use Rattle.output_reading.proofs.InputsLemmas.{firsts_of}

-- a key that isn't above another
pub up_next : (key next : Key) → is_above (Some key) next ≡ false → IsUpTo (Some next) (Some key)
up_next key next behind = λ q past. ap is_lt (below_above (Some key) next q behind past)

pub some_taken : (key : Key) → None ≡ Some key → ⊥
some_taken key same = cc

-- a group weighs no less than its record
pub weighs_more : (group : Option (Key × Rec × ℕ)) (key : Key) (rec : Rec) (taken : ℕ) → IsGroup group → group ≡ Some (key, rec, taken) → weight key
    rec ≤ taken
weighs_more group key rec taken light is = (subst IsGroup is light).1

-- the fold up to the key goes on with a group that isn't above it
pub goes_further : {at : Option Key} {newer older : Entries} {next : Key} {rec : Rec} {taken : ℕ} (key : Key) → IsTaken at newer older next rec taken
    → is_above (Some key) next ≡ false
    → (front : IsFront (settled_up_to (Some next) newer older) (settled_up_to (Some key) newer older)) → IsFront
    (settled_up_to at newer older ++ settled_entries ((next, rec) ∷ [])) (settled_up_to (Some key) newer older)
goes_further {newer = newer} {older} key t behind front = subst (λ (l : Entries). IsFront l (settled_up_to (Some key) newer older)) (group_settled t)
    front

pub ended_none : {sizes : Sizes} {inputs : Inputs} {newer_pages older_pages : List ℕ} {newer older : Entries} {file : List ℕ} (key : Key) → AreInputs
    sizes inputs newer_pages older_pages newer older file → AreReady inputs → IsUpTo inputs.at (Some key)
    → None ≡ group_of inputs.newer.head inputs.older.head → HasEnded inputs.at key newer older
ended_none {sizes} {inputs} {newer_pages} {older_pages} {newer} {older} {file} key is ready up none =
    let firsts = firsts_of is ready in
    let heads = group_none inputs.newer.head inputs.older.head (sym none) in
    ends_none inputs.at key newer older is.newer_is.sorted is.older_is.sorted up (firsts.0 ∙ heads.0) (firsts.1 ∙ heads.1)

pub ended_past : {sizes : Sizes} {inputs : Inputs} {newer_pages older_pages : List ℕ} {newer older : Entries} {file : List ℕ} (key next : Key)
    (rec : Rec) (taken : ℕ) → AreInputs sizes inputs newer_pages older_pages newer older file → AreReady inputs
    → IsUpTo inputs.at (Some key) → is_above (Some key) next ≡ true → Some (next, rec, taken) ≡ group_of inputs.newer.head inputs.older.head →
    HasEnded inputs.at key newer older
ended_past {sizes} {inputs} {newer_pages} {older_pages} {newer} {older} {file} key next rec taken is ready up past group =
    let firsts = firsts_of is ready in
    ends_past inputs.at key next rec taken newer older is.newer_is.sorted is.older_is.sorted up past
    ((λ i. group_of (firsts.0 i) (firsts.1 i)) ∙ sym group)

pub tells_fault : (sizes : Sizes) (run : Component) (entries : Entries) (earlier : List ℕ) (file : List ℕ) (broken : Broken) →
    ((n : ℕ) → broken ≡ Damaged n → ⊥) → TellsStop sizes run entries earlier file broken
tells_fault sizes run entries earlier file (Damaged n) none = absurd (none n refl)
tells_fault sizes run entries earlier file Fault none = tt
