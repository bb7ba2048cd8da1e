-- What the pages that a cursor has read weigh.
use Rattle.std.proofs.lemmas.Bool.Decides.{nat_tests}
use Rattle.std.proofs.lemmas.Grind.{common_steps}
use Rattle.std.proofs.Common.{◌≡◌, ◌∙◌, Bool, ℕ, ◌+◌, ◌<◌, ◌≤◌, [], length, ap, sym, length-append, arith}
use Rattle.blsm_model.specs.Format.{least_full}
use Rattle.blsm_model.specs.declared.component.Component.{Component}
use Rattle.blsm_model.specs.declared.key.Key.{Key}
use Rattle.record_delta.specs.declared.record.Rec.{Rec}
use Rattle.page_file.specs.Entry.{entry_bytes}
use Rattle.entry_codec.proofs.SpellingLemmas.{length-spelling}
use Rattle.run_cursor.specs.Cursor.{CursorState, IsStepped, AreFull, PartGoesOn, begun}

pub full_start : (is_front : Bool) (run : Component) → AreFull run (begun is_front run)
full_start is_front run = record { within = omega arith; more = λ some. omega arith; last = λ none. omega (arith, none) }

pub full_step : (run : Component) (old new : CursorState) (head : Key × Rec) → AreFull run old → IsStepped old new head → AreFull run new
full_step run old new head h1 h2 = grind (arith, common_steps, nat_tests, length-append, length-spelling)

pub full_turn : (run : Component) (old new : CursorState) → AreFull run old → old.behind ≡ [] → old.pages ≡ new.pages + 1 → new.weight ≡ old.weight
    → (0 < new.pages → least_full ≤ length new.behind) → AreFull run new
full_turn run old new h1 h2 h3 h4 h5 = grind (arith, common_steps, nat_tests)

-- there was an entry behind the head
pub step_some : (old new : CursorState) (head : Key × Rec) → IsStepped old new head → old.behind ≡ [] → ⊥
step_some old new head s none =
    let least = s.right.key_least in
    absurd (omega (arith, least, ap (length {A = ℕ}) (sym none ∙ s.behind_is), length-append (entry_bytes head) new.behind, length-spelling head.0 head.1))

-- what is left falls by as much as what stands behind the head
pub step_falls : (old new : CursorState) (head : Key × Rec) → IsStepped old new head → old.weight + length new.behind ≡ new.weight + length old.behind
step_falls old new head s =
    omega (arith, s.weight_is, ap (length {A = ℕ}) s.behind_is, length-append (entry_bytes head) new.behind, length-spelling head.0 head.1)

pub part_stepped : (old new : CursorState) (head : Key × Rec) → IsStepped old new head → PartGoesOn old new
part_stepped old new head s = record {
  enough = λ none some. absurd (step_some old new head s none);
  begins = λ none some. absurd (step_some old new head s none);
  stays = λ part rests on. omega (arith, on, step_falls old new head s);
}
