-- What a walk knows on any disk: which pages it has claimed, and what the output's numbers are.
use Rattle.std.proofs.Common.{◌≡◌, ◌≢◌, ◌+◌, ◌≤◌, ◌<◌, ℕ, [], length, refl, ap, sym, subst, ◌∙◌, inl, inr, ⊎_elim, arith, Result, Err}
use Rattle.page_space.specs.Space.{Claims, IsFree, IsSpace, SpaceState}
use Rattle.run_cursor.specs.Cursor.{AreFull, CursorState, started}
use Rattle.output_reading.specs.declared.output.Output.{Output}
use Rattle.catalog_swap.specs.declared.catalog.Progress.{Progress}
use Rattle.output_reading.specs.Output.{IsLight}
use Rattle.page_file.specs.declared.file.Broken.{Broken}
use Rattle.page_file.specs.declared.file.Broken.TheVariants.{Fault}
use Rattle.output_reading.proofs.CallsLemmas.{same_error}
use Rattle.output_reading.specs.Walk.{Ends, HasClaimed, HasPassed, IsEnd, IsEntered, due, on, unbounded}
use Rattle.output_reading.proofs.PagesLemmas.{still}

pub claimed_none : (role all : ℕ) (space : SpaceState) → IsSpace space → HasClaimed role all all space space
claimed_none role all space shape = record {
  pages = refl;
  shape = shape;
  pins = refl;
  others = λ other apart. refl;
  fresh = λ k has. inl has;
  none_freed = λ k free. free;
  size = refl;
}

-- with one more
pub claimed_more : (role all left n : ℕ) (first old new : SpaceState) → HasClaimed role all (left + 1) first old → IsFree old n → Claims role n old
    new → HasClaimed role all left first new
claimed_more role all left n first old new was free claims = record {
  pages = claims.pages ∙ was.pages;
  shape = claims.shape;
  pins = claims.pins ∙ was.pins;
  others = λ other apart. claims.others other apart ∙ was.others other apart;
  fresh = λ k has. ⊎_elim (λ before. was.fresh k before) (λ this. inr (was.none_freed k (subst (IsFree old) (sym this.1) free)))
      ((claims.tags role k).0 has);
  none_freed = λ k now. was.none_freed k ((claims.free k).0 now).0;
  size = omega (arith, was.size, claims.size (free.no_role role));
}

-- one advance of the cursor, after its next page was entered
pub claimed_on : (role all : ℕ) (first space now : SpaceState) (old mid : Output) (cursor : CursorState) → HasClaimed role all old.cursor.pages first
    space → IsEntered old mid role space now
    → (old.cursor.behind ≡ [] → 0 < old.cursor.pages → old.cursor.pages ≡ cursor.pages + 1) →
    (old.cursor.behind ≢ [] → cursor.pages ≡ old.cursor.pages) → cursor.pages ≤ old.cursor.pages
    → HasClaimed role all cursor.pages first now
claimed_on role all first space now old mid cursor was (due none some is free claims) turns stays fewer =
    claimed_more role all cursor.pages mid.page first space now (subst (λ k. HasClaimed role all k first space) (turns none (omega (arith, some)))
    was) free claims
claimed_on role all first space now old mid cursor was (on none is same) turns stays fewer =
    subst (λ (s : SpaceState). HasClaimed role all cursor.pages first s) (sym same)
    (subst (λ k. HasClaimed role all k first space) (sym (still old.cursor.behind old.cursor.pages cursor.pages none stays fewer)) was)

-- a page is left always
pub some_left : (role : ℕ) (space now : SpaceState) (old mid : Output) (cursor : CursorState) → 0 < old.cursor.pages → IsEntered old mid role space
    now
    → (old.cursor.behind ≡ [] → 0 < old.cursor.pages → old.cursor.pages ≡ cursor.pages + 1) →
    (old.cursor.behind ≢ [] → cursor.pages ≡ old.cursor.pages) → cursor.pages ≤ old.cursor.pages
    → 0 < cursor.pages
some_left role space now old mid cursor left (due none some is free claims) turns stays fewer = omega (arith, some, turns none left)
some_left role space now old mid cursor left (on none is same) turns stays fewer = omega
    (arith, left, still old.cursor.behind old.cursor.pages cursor.pages none stays fewer)

-- what isn't the end is no fault
pub ended_calm : {A : Type 0} {result : Result A Broken} {broken : Broken} (output : Output) (progress : Progress) (z : ℕ) (space : SpaceState) →
    result ≡ Err broken
    → Ends output progress z space (Err broken) → result ≡ Err Fault → ⊥
ended_calm {A} {result} {broken} output progress z space is ends fault =
    subst (λ (b : Broken). Ends output progress z space (Err b)) (same_error {A = A} broken Fault (sym is ∙ fault)) ends

-- ---- what was given weighs no more than what was taken

pub passed_none : (cursor : CursorState) → HasPassed cursor cursor 0
passed_none cursor = record { entries = omega arith; weight = omega arith; few = omega arith; light = omega arith }

pub passed_then : {old mid new : CursorState} {one other all : ℕ} → HasPassed old mid one → HasPassed mid new other → one + other ≤ all → HasPassed
    old new all
passed_then a b most = record {
  entries = omega (arith, a.entries, b.entries);
  weight = omega (arith, a.weight, b.weight);
  few = omega (arith, a.few, b.few);
  light = omega (arith, a.light, b.light, most);
}

pub light_end : (progress : Progress) (output : Output) (z left all : ℕ) (space : SpaceState) → AreFull (unbounded progress.output) output.cursor →
    HasPassed (started (unbounded progress.output)) output.cursor z
    → IsEnd output progress z space → z + left ≡ all → IsLight progress all
light_end progress output z left all space full passed end total =
    let w = end.whole in
    let filled = full.more (omega (arith, end.last)) in
    record {
      full = omega (arith, filled, end.last, w.weight_is, ap (length {A = ℕ}) end.none_left);
      fits = w.fits;
      few = omega (arith, passed.few, w.entries_are, w.weight_is);
      settled = omega (arith, passed.light, w.weight_is, w.z_is);
      taken = omega (arith, w.z_is, total);
    }
