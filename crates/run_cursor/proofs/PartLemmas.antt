-- The part of a component that a cursor has ahead.
use Rattle.std.proofs.Common.{◌≡◌, ℕ, ◌≤◌, List, [], ◌++◌, length, Option, ap, sym, subst, ◌∙◌}
use Rattle.blsm_model.specs.declared.component.Component.{Component}
use Rattle.blsm_model.specs.Components.{no_page}
use Rattle.blsm_model.specs.Sizes.{Sizes}
use Rattle.blsm_model.specs.Geometry.{page_count}
use Rattle.record_delta.specs.Entries.{Entries, entries_weight}
use Rattle.page_file.specs.Entry.{AreRising}
use Rattle.page_file.specs.Component.{entries_of, ReadsOn}
use Rattle.page_file.proofs.ComponentLemmas.{rising_apart}
use Rattle.run_cursor.specs.Cursor.{CursorState, HasAheadTo}
use Rattle.run_cursor.proofs.CursorLemmas.{none_in_none, rise_from}

-- where nothing stands behind the head on its page, the pages that aren't read yet are a component that reads as what is ahead
pub ahead_reads : (end : Option ℕ) (sizes : Sizes) (part : Component) (cursor : CursorState) (rest : Entries) (file : List ℕ) → page_count sizes ≤ no_page → cursor.behind ≡ []
    → part.first ≡ cursor.next → part.pages ≡ cursor.pages → part.entries ≡ cursor.entries → part.weight ≡ cursor.weight
    → (ahead : HasAheadTo end sizes cursor rest file) → ReadsOn sizes part ahead.coming end file × (entries_of ahead.coming ≡ rest)
ahead_reads end sizes part cursor rest file few none first pages entries weight ahead =
    let here : ahead.here ≡ [] = none_in_none ahead.here (sym none ∙ ahead.behind_is) in
    let all : rest ≡ entries_of ahead.coming = ahead.rest_is ∙ ap (λ (l : Entries). l ++ entries_of ahead.coming) here in
    let rise : AreRising (entries_of ahead.coming) = subst AreRising all (rise_from cursor.head rest ahead.rise) in (
      record {
        first_is = ahead.first_is ∙ sym first;
        chained = ahead.chained;
        rise = rise;
        apart = rising_apart sizes ahead.coming end file few ahead.chained rise;
        pages_is = ahead.pages_is ∙ sym pages;
        entries_is = ap length (sym all) ∙ ahead.entries_is ∙ sym entries;
        weight_is = ap entries_weight (sym all) ∙ ahead.weight_is ∙ sym weight;
      },
      sym all,
    )
