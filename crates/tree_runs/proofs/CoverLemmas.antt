-- What is told of a pass that took something: the key up to which all of it is on finished pages.
use Rattle.std.specs.Prelude.{◌≡◌, ◌+◌, ◌≤◌, ℕ, Bool, true, false, [], ◌∷◌, Option, Some, None, IsSome, Result, OnOk, nat_lt, option_map, if◌then◌else◌}
use Rattle.std.proofs.lemmas.Grind.{common_steps}
use Rattle.std.proofs.lemmas.Bool.Decides.{nat_tests}
use Rattle.std.proofs.Common.{◌∙◌, ap, cond, refl, sym, subst, arith}
use Rattle.std.proofs.lemmas.Bool.{true≢false}
use Rattle.blsm_model.specs.declared.key.Key.{Key}
use Rattle.record_delta.specs.Entries.{Entries, entries_weight, is_above, above}
use Rattle.record_delta.specs.Several.{with_records}
use Rattle.page_file.specs.declared.file.Broken.{Broken}
use Rattle.page_file.specs.Page.{most_used}
use Rattle.run_writer.specs.Writer.{closed_of}
use Rattle.merge_ends.specs.declared.finished.Finished.{Finished}
use Rattle.merge_ends.specs.Output.{IsUpTo}
use Rattle.tree_machine.proofs.QuantumLemmas.{weight_parts}
use Rattle.snow_merge.specs.Pass.{SnowState, Covers}
use Rattle.tree_runs.specs.Runs.{PassCovers, released_by}
use Rattle.tree_runs.specs.Holding.{cursor_of_pass}
use Rattle.tree_runs.specs.Laws.{AreAhead}
use Rattle.tree_runs.proofs.BesideLemmas.{all_grown_ahead}
use Rattle.tree_runs.proofs.QuantumLemmas.{both_ok}

pages_few : (n : ℕ) → nat_lt 1 n ≡ false → n ≤ 1
pages_few n few = grind (arith, common_steps, nat_tests)

-- where a key is told a page is finished
pub released_is : (total : ℕ) (snow : SnowState) (a : Entries) → Covers total snow a → released_by (Some snow) ≡ snow.closed
released_is total snow a covers = by (nat_lt 1 snow.writer.component.pages) refl snow.closed refl
  where
    done : Key → Finished
    done key = record { output = closed_of snow.writer; next = snow.writer.number; key = key; left = snow.left }

    by : (some : Bool) → nat_lt 1 snow.writer.component.pages ≡ some → (closed : Option Key) → snow.closed ≡ closed
        → option_map (λ (d : Finished). d.key) (if some then option_map done closed else None) ≡ closed
    by true more None is = refl
    by true more (Some key) is = refl
    by false few None is = refl
    by false few (Some key) is =
        absurd (omega (arith, pages_few snow.writer.component.pages few, covers.turned refl (subst (λ (k : Option Key). IsSome k) (sym is) refl)))

-- it never falls
pub pass_covered : (total : ℕ) (pass : Option SnowState) (snow next : SnowState) (a : Entries) (result : Result ℕ Broken) → pass ≡ Some snow
    → Covers total snow a → OnOk result (Covers total next a × IsUpTo snow.closed next.closed)
    → OnOk result (PassCovers total (Some next) a × IsUpTo (released_by pass) (released_by (Some next)))
pass_covered total pass snow next a result is was covers =
    both_ok result covers covers
    (λ c again. (
      c.0,
      subst (λ (k : Option Key). IsUpTo k (released_by (Some next))) (sym (ap released_by is ∙ released_is total snow a was))
          (subst (IsUpTo snow.closed) (sym (released_is total next a c.0)) c.1),
    ))

-- and it isn't above the cursor
pub released_up_to : (total : ℕ) (pass : Option SnowState) (a : Entries) → PassCovers total pass a → IsUpTo (released_by pass) (cursor_of_pass pass)
released_up_to total None a covers = λ key above. refl
released_up_to total (Some snow) a covers = subst (λ (k : Option Key). IsUpTo k snow.at) (sym (released_is total snow a covers)) covers.up

-- ---- what is above a key that isn't above another

pub not_up : (low at : Option Key) (key : Key) → IsUpTo low at → is_above low key ≡ false → is_above at key ≡ false
not_up low at key up below = by (is_above at key) refl
  where
    by : (b : Bool) → is_above at key ≡ b → is_above at key ≡ false
    by false is = is
    by true is = absurd (true≢false (sym (up key is) ∙ below))

pub above_again : (low at : Option Key) (es : Entries) → IsUpTo low at → above at (above low es) ≡ above at es
above_again low at [] up = refl
above_again low at (e ∷ es) up =
    elim (is_above low e.0) as (λ b. is_above low e.0 ≡ b → above at (cond b (e ∷ above low es) (above low es)) ≡ above at (e ∷ es)) [
      | true ↦ λ here. ap (λ (l : Entries). cond (is_above at e.0) (e ∷ l) l) (above_again low at es up)
      | false ↦ λ gone.
          above_again low at es up ∙ sym (ap (λ (b : Bool). cond b (e ∷ above at es) (above at es)) (not_up low at e.0 up gone))
    ] refl

-- what the table has above it that the pass took weighs no more than a page
pub covered_light : (total : ℕ) (pass : Option SnowState) (a : Entries) → PassCovers total pass a
    → entries_weight (above (released_by pass) a) ≤ entries_weight (above (cursor_of_pass pass) a) + most_used
covered_light total None a covers = omega arith
covered_light total (Some snow) a covers =
    omega (
      arith,
      covers.light refl refl,
      covers.fits,
      ap (λ (k : Option Key). entries_weight (above k a)) (released_is total snow a covers),
    )

-- ---- once the table is dropped up to there

dropped_to_closed : (total : ℕ) (snow : SnowState) (a : Entries) → Covers total snow a → Covers total snow (above snow.closed a)
dropped_to_closed total snow a covers =
    let at = ap entries_weight (above_again snow.closed snow.at a covers.up) in
    let closed = ap entries_weight (above_again snow.closed snow.closed a (λ key is. is)) in
    record {
      up = covers.up;
      light = λ plain none. let was = covers.light plain none in omega (arith, was, at, closed);
      left = covers.left;
      here = covers.here;
      behind = covers.behind;
      made = λ none. let was = covers.made none in omega (arith, was, at);
      told = λ plain none some. let was = covers.told plain none some in omega (arith, was, at);
      begun = covers.begun;
      turned = covers.turned;
      fits = covers.fits;
    }

pub covers_dropped : (total : ℕ) (pass : Option SnowState) (a : Entries) → PassCovers total pass a → PassCovers total pass (above (released_by pass) a)
covers_dropped total None a covers = tt
covers_dropped total (Some snow) a covers =
    subst (λ (k : Option Key). Covers total snow (above k a)) (sym (released_is total snow a covers)) (dropped_to_closed total snow a covers)

-- ---- entries that come into the table ahead of the pass

-- what is ahead of the cursor is above each key up to it
pub above_cursor : (low at : Option Key) (more : Entries) → IsUpTo low at → AreAhead at more → AreAhead low more
above_cursor low at [] up are_ahead = tt
above_cursor low at (e ∷ more) up are_ahead = (up e.0 are_ahead.0, above_cursor low at more up are_ahead.1)

-- what is above a key below them grows as the table does
pub above_grows : (at : Option Key) (a more : Entries) → AreAhead at more
    → entries_weight (above at (with_records more a)) + entries_weight a ≡ entries_weight (above at a) + entries_weight (with_records more a)
above_grows at a more are_ahead =
    omega (
      arith,
      weight_parts at a,
      weight_parts at (with_records more a),
      ap (λ (es : Entries). entries_weight es) (all_grown_ahead at more a are_ahead),
    )

-- so what is covered then goes by a total that grows as it does
pub covers_grown : (total after : ℕ) (pass : Option SnowState) (a more : Entries) → AreAhead (cursor_of_pass pass) more
    → after + entries_weight a ≡ total + entries_weight (with_records more a) → PassCovers total pass a → PassCovers after pass (with_records more a)
covers_grown total after None a more are_ahead grows covers = tt
covers_grown total after (Some snow) a more are_ahead grows covers =
    let at = above_grows snow.at a more are_ahead in
    let closed = above_grows snow.closed a more (above_cursor snow.closed snow.at more covers.up are_ahead) in
    record {
      up = covers.up;
      light = λ plain none. let was = covers.light plain none in omega (arith, was, at, closed);
      left = covers.left;
      here = covers.here;
      behind = covers.behind;
      made = λ none. let was = covers.made none in omega (arith, was, at, grows);
      told = λ plain none some. let was = covers.told plain none some in omega (arith, was, at, grows);
      begun = covers.begun;
      turned = covers.turned;
      fits = covers.fits;
    }
