-- The front of a list whose keys rise.
use Rattle.std.proofs.Common.{◌≡◌, ◌++◌, ◌∷◌, [], ℕ, List, sym, subst, take, drop}
use Rattle.std.specs.List.{AllByRecursion}
use Rattle.std.specs.List.Sorted.{IsStrictlySortedBy}
use Rattle.std.specs.declared.cmp.Ordering.TheVariants.{Less}
use Rattle.std.proofs.lemmas.List.{take-append-drop}
use Rattle.blsm_model.specs.declared.key.Key.{Key}
use Rattle.blsm_model.specs.Keys.{key_cmp}
use Rattle.record_delta.specs.declared.record.Rec.{Rec}
use Rattle.record_delta.specs.Entries.{Entries}
use Rattle.page_file.specs.Entry.{keys_of, AreRising}

all_front : (P : Key → Type 0) (es fs : Entries) → AllByRecursion P (keys_of (es ++ fs)) → AllByRecursion P (keys_of es)
all_front P [] fs all = tt
all_front P (e ∷ es) fs all = (all.0, all_front P es fs all.1)

rise_front : (es fs : Entries) → AreRising (es ++ fs) → AreRising es
unfolding IsStrictlySortedBy
rise_front [] fs rise = tt
rise_front (e ∷ es) fs rise = (all_front (λ (k : Key). key_cmp e.0 k ≡ Less) es fs rise.0, rise_front es fs rise.1)

pub front_rises : (entries : List (Key × Rec)) (n : ℕ) → AreRising entries → AreRising (take n entries)
front_rises entries n rise =
    rise_front (take n entries) (drop n entries)
    (subst AreRising (sym (take-append-drop n entries)) rise)
