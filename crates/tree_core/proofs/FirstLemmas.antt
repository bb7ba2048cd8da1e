-- What a lookup that comes before a write finds.
use Rattle.std.specs.Prelude.{◌≡◌, ◌⊎◌, ℕ, Bool, true, false, List, Option, None, Some, IsTrue}
use Rattle.std.proofs.Common.{◌∙◌, cond, inl, ⊎_elim, refl, ap, sym, subst}
use Rattle.blsm_model.specs.Geometry.{file_length}
use Rattle.blsm_model.specs.declared.key.Key.{Key}
use Rattle.blsm_model.specs.declared.row.Value.{Value}
use Rattle.blsm_model.specs.declared.op.Op.{Op}
use Rattle.blsm_model.specs.declared.op.Op.TheVariants.{New, Swap}
use Rattle.blsm_model.specs.declared.history.Reply.TheVariants as reply
use Rattle.blsm_model.specs.Histories.{answer_to_get, is_met_by, looked_at}
use Rattle.disk_trait.specs.Disk.{DiskState}
use Rattle.disk_trait.specs.Moments.{IsTimed}
use Rattle.disk_trait.specs.Reads.{OnlyReads}
use Rattle.disk_trait.proofs.ReadLemmas.{only_reads_start}
use Rattle.tree_runs.specs.Lookups.{HidesOlder, IsDamageBelow, from_newest}
use Rattle.core_moves.specs.declared.held.Held.{Held}
use Rattle.tree_core.specs.Answers.{newest_in}
use Rattle.tree_core.specs.Causes.{CountsFilters, CountsFirst, Finds, IsAbout, IsDamageFirst, IsToldFirst, IsToldOf, Tries, pages_first, tried_by}
use Rattle.tree_core.specs.declared.admission.Tried.TheVariants as tried
use Rattle.tree_core.proofs.LookupSteps.{three_count}

-- ---- the key that it looks at

told_first : (op : Op) (at : Key) (held : Held) (file : List ℕ) (found : Option Value) → IsAbout op at → IsToldOf at held file found → IsToldFirst op
    held file found
told_first (New key value) at held file found is told = subst (λ (k : Key). IsToldOf k held file found) (sym is) told
told_first (Swap key count value) at held file found is told = subst (λ (k : Key). IsToldOf k held file found) (sym is) told
told_first _ at held file found is told = absurd is

abbrev IsDamageAt : Key → Held → List ℕ → ℕ → Type 0
IsDamageAt key held file page = IsDamageBelow held.runs.sizes key file (from_newest held.log.a.floor key held.runs)
    (newest_in key held) page

pub damage_first : (op : Op) (at : Key) (held : Held) (file : List ℕ) (page : ℕ) → IsAbout op at → IsDamageAt at held file page → IsDamageFirst op
    held file page
damage_first (New key value) at held file page is told = subst (λ (k : Key). IsDamageAt k held file page) (sym is) told
damage_first (Swap key count value) at held file page is told = subst (λ (k : Key). IsDamageAt k held file page) (sym is) told
damage_first _ at held file page is told = absurd is

looked_is : (op : Op) (at : Key) (has : Key → Option Value) → IsAbout op at → has at ≡ looked_at op has
looked_is (New key value) at has is = ap has (sym is)
looked_is (Swap key count value) at has is = ap has (sym is)
looked_is _ at has is = absurd is

counted_first : (op : Op) (at : Key) (held : Held) (n : ℕ) → IsAbout op at → CountsFirst op held n → CountsFilters at held n ⊎ HidesOlder
    (newest_in at held)
counted_first (New key value) at held n is counts = subst (λ (k : Key). CountsFilters k held n ⊎ HidesOlder (newest_in k held)) is counts
counted_first (Swap key count value) at held n is counts = subst (λ (k : Key). CountsFilters k held n ⊎ HidesOlder (newest_in k held)) is counts
counted_first _ at held n is counts = absurd is

-- three components are all
pub counts_first : (op : Op) (held : Held) → CountsFirst op held (pages_first op)
counts_first (New key value) held = inl (three_count key held)
counts_first (Swap key count value) held = inl (three_count key held)
counts_first _ held = tt

-- as many calls as filters say yes, and none where the memory table's record hides what is older
pub asks_first : {D : Type 0} (state : D → DiskState) (op : Op) (at : Key) (held : Held) (old new : D) → IsTimed (state old) → IsAbout op at
    → ((n : ℕ) → CountsFilters at held n → OnlyReads (file_length held.runs.sizes) n (state old) (state new)) →
    (HidesOlder (newest_in at held) → new ≡ old)
    → (n : ℕ) → CountsFirst op held n → OnlyReads (file_length held.runs.sizes) n (state old) (state new)
asks_first {D} state op at held old new timed is reads hidden n counts = ⊎_elim
    (λ yes. reads n yes)
    (λ hides. subst (λ (d : D). OnlyReads (file_length held.runs.sizes) n (state old) (state d)) (sym (hidden hides))
    (only_reads_start (state old) timed))
    (counted_first op at held n is counts)

-- ---- what was found

pub tries_found : (op : Op) (at : Key) (held : Held) (before after : DiskState) (found : Option Value) → IsAbout op at → after.faults ≡ before.faults
    → (IsTrue before.is_honest → IsToldOf at held before.bytes found)
    → Tries (tried_by op found) op held before after
tries_found op at held before after found is same told = by (is_met_by op found) refl
  where
    by : (b : Bool) → is_met_by op found ≡ b → Tries (cond b tried.Met (tried.Kept found)) op held before after
    by true met = (same, record { found = found; met = met; told = λ honest. told_first op at held before.bytes found is (told honest) })
    by false unmet = (same, unmet, λ honest. told_first op at held before.bytes found is (told honest))

pub finds_found : (op : Op) (at : Key) (found : Option Value) (has : Key → Option Value) → IsAbout op at → found ≡ has at → Finds (tried_by op found)
    op has
finds_found op at found has is same = by (is_met_by op found) refl
  where
    seen : found ≡ looked_at op has
    seen = same ∙ looked_is op at has is

    by : (b : Bool) → is_met_by op found ≡ b → Finds (cond b tried.Met (tried.Kept found)) op has
    by true met = ap (is_met_by op) (sym seen) ∙ met
    by false unmet = (ap (is_met_by op) (sym seen) ∙ unmet, seen)

pub value_is : (value : Value) (o : Option Value) → reply.Is value ≡ answer_to_get o → Some value ≡ o
value_is value None is = cc
value_is value (Some other) is = cc

pub none_is : (o : Option Value) → reply.Absent ≡ answer_to_get o → None ≡ o
none_is None is = refl
none_is (Some other) is = cc

pub no_damage : (page : ℕ) (o : Option Value) → reply.Damaged page ≡ answer_to_get o → ⊥
no_damage page None is = cc is
no_damage page (Some other) is = cc is
