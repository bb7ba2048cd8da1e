-- What a pass that has taken nothing covers.
use Rattle.std.proofs.Common.{◌≡◌, ◌+◌, ◌≤◌, ℕ, [], None, refl, inr, ap, arith}
use Rattle.blsm_model.specs.declared.component.Component.{Component}
use Rattle.record_delta.specs.Entries.{Entries, entries_weight, above}
use Rattle.merge_ends.proofs.GroupLemmas.{above_none}
use Rattle.merge_ends.proofs.MergeLemmas.{none_closed}
use Rattle.snow_merge.specs.Pass.{started, Covers}

pub covers_begun : (a : Entries) (total role : ℕ) (c1 : Component) → entries_weight a + c1.weight ≤ total → Covers total (started role c1) a
covers_begun a total role c1 fits = record {
  up = λ key is. is;
  light = λ plain table. omega arith;
  left = λ some. absurd (none_closed None refl some);
  here = record { on_page = omega arith; filled = inr (refl, refl, refl) };
  behind = λ some. absurd (none_closed None refl some);
  made = λ table. omega (arith, fits, ap entries_weight (above_none a));
  told = λ plain table some. absurd (none_closed None refl some);
  begun = λ plain some. absurd (none_closed None refl some);
  turned = λ plain some. absurd (none_closed None refl some);
  fits = omega arith;
}
