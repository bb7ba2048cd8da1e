-- Where a writer writes: in its open page, which is one of the run's, and none of the closed ones.
use Rattle.std.proofs.lemmas.Bool.Decides.{nat_tests}
use Rattle.std.proofs.lemmas.Grind.{common_steps}
use Rattle.std.proofs.Common.{◌≡◌, ◌≢◌, Bool, ℕ, ◌<◌, List, [], ◌∷◌, ◌++◌, length, Some, refl, sym, subst, ◌∙◌, inl, inr, Result, arith}
use Rattle.record_delta.specs.Entries.{Entries}
use Rattle.std.specs.Prelude.{IsTrue, OnOk, OnErr, IsErr, nat_eq}
use Rattle.std.specs.List.{Contains, IsDistinct}
use Rattle.std.proofs.lemmas.List.Elements.{Contains-append_left, Contains-append_right}
use Rattle.disk_trait.specs.Region.{IsWithin, AreApart, IsSameOutside}
use Rattle.disk_trait.proofs.RegionLemmas.{same_wider}
use Rattle.blsm_model.specs.declared.key.Key.{Key}
use Rattle.blsm_model.specs.Sizes.{Sizes}
use Rattle.blsm_model.specs.Geometry.{page_count}
use Rattle.record_delta.specs.declared.record.Rec.{Rec}
use Rattle.page_space.specs.Space.{SpaceState, HasRole, IsSpace}
use Rattle.page_file.specs.File.{page_region, pages_region}
use Rattle.page_file.specs.Component.{RunPage, numbers_of}
use Rattle.page_file.proofs.PageLemmas.{others_apart, same_pages}
use Rattle.page_file.proofs.ComponentLemmas.{chain_kept}
use Rattle.bloom_bits.specs.BitSet.{BitState}
use Rattle.bloom_bits.specs.Fences.{FencesState}
use Rattle.run_writer.specs.Closed.{IsClosedPage}
use Rattle.run_writer.specs.Run.{Run, open_number, all_numbers, IsRun}
use Rattle.run_writer.specs.Writer.{WriterState, open_region, role_region, loose_region, IsInside, Holds, Stands, HasPushed}
use Rattle.run_writer.proofs.GrowthLemmas.{here, has_open, in_range, differs_from_last}

-- the open page is one of the run's
open_in : (closed : List RunPage) (number : ℕ) (es : Entries) → 0 < length (numbers_of closed ++ open_number closed number es) → open_number closed number es ≡ number ∷ []
open_in closed number (e ∷ es) some = refl
open_in (p ∷ ps) number [] some = refl
open_in [] number [] some = absurd (omega (arith, some))

open_is_one : (writer : WriterState) (run : Run) → Holds writer run → 0 < writer.component.pages → Contains (all_numbers run) writer.number
open_is_one writer run held some =
    subst (Contains (all_numbers run)) (sym held.number)
    (Contains-append_right (numbers_of run.closed) (open_number run.closed run.number run.entries) run.number
    (subst (λ (l : List ℕ). Contains l run.number) (sym (open_in run.closed run.number run.entries (has_open writer run held some))) (here run.number [])))

pub open_tagged : (sizes : Sizes) (honest : Bool) (file : List ℕ) (space : SpaceState) (writer : WriterState) (filter : BitState) (fences : FencesState) (entries : List (Key × Rec)) → HasPushed sizes honest file space writer filter fences entries
    → IsWithin (open_region sizes writer) (role_region sizes space writer.role)
open_tagged sizes honest file space writer filter fences entries has i inside = (writer.number, has.tagged writer.number (open_is_one writer has.run has.held inside.0), inside.1)

pub open_inside : (sizes : Sizes) (honest : Bool) (file : List ℕ) (space : SpaceState) (writer : WriterState) (filter : BitState) (fences : FencesState) (entries : List (Key × Rec)) → HasPushed sizes honest file space writer filter fences entries
    → IsSpace space → space.pages ≡ page_count sizes → IsInside (page_count sizes) writer
open_inside sizes honest file space writer filter fences entries has shape pages some =
    let below = in_range _ writer.number (has.tagged writer.number (open_is_one writer has.run has.held some)) in
    omega (arith, below, shape.of_role writer.role has.counted.role, pages)

-- ---- and none of the closed ones

closed_differs : (writer : WriterState) (run : Run) → Holds writer run → IsRun run → 0 < writer.component.pages
    → (n : ℕ) → Contains (numbers_of run.closed) n → n ≢ writer.number
closed_differs writer run held is_run some n among =
    let last = open_in run.closed run.number run.entries (has_open writer run held some) in
    let apart = subst (λ (l : List ℕ). IsDistinct nat_eq (numbers_of run.closed ++ l)) last is_run.apart in
    let other = differs_from_last (numbers_of run.closed) run.number n apart among in
    λ same. other (same ∙ held.number)

closed_apart : (sizes : Sizes) (writer : WriterState) (run : Run) → Holds writer run → IsRun run → AreApart (open_region sizes writer) (pages_region sizes (numbers_of run.closed))
closed_apart sizes writer run held is_run i inside page =
    others_apart sizes page.0 writer.number (closed_differs writer run held is_run inside.0 page.0 page.1) i page.2 inside.1

-- so these stand whatever becomes of it
pub still_stands : (sizes : Sizes) (writer : WriterState) (run : Run) (old new : List ℕ) → Holds writer run → IsRun run → IsSameOutside (open_region sizes writer) old new
    → Stands sizes run old → Stands sizes run new
still_stands sizes writer run old new held is_run same stands =
    chain_kept sizes run.closed (Some run.number) old new (same_pages sizes (numbers_of run.closed) old new (same_wider (closed_apart sizes writer run held is_run) same)) stands

-- They have the tag, and no byte of such a page is loose.
pub closed_page : (sizes : Sizes) (honest : Bool) (file : List ℕ) (space : SpaceState) (writer : WriterState) (filter : BitState)
    (fences : FencesState) (entries : List (Key × Rec)) → (has : HasPushed sizes honest file space writer filter fences entries)
    → (n : ℕ) → Contains (numbers_of has.run.closed) n → IsClosedPage space writer n
closed_page sizes honest file space writer filter fences entries has n among =
    let run = has.run in (
      has.tagged n (Contains-append_left (numbers_of run.closed) (open_number run.closed run.number run.entries) n among),
      λ some. closed_differs writer run has.held has.is_run some n among,
    )

pub closed_page_apart : (sizes : Sizes) (space : SpaceState) (writer : WriterState) (n : ℕ) → IsClosedPage space writer n
    → AreApart (loose_region sizes space writer) (page_region sizes n)
closed_page_apart sizes space writer n closed i (inl here) there = others_apart sizes n writer.number (closed.1 here.0) i there here.1
closed_page_apart sizes space writer n closed i (inr other) there = other (n, closed.0, there)

-- The list that was pushed stays where no byte of its role's pages changes but of the open one, and these keep the tag.
pub pushed_kept : (sizes : Sizes) (honest : Bool) (old new : List ℕ) (space after : SpaceState) (writer : WriterState) (filter : BitState) (fences : FencesState) (entries : List (Key × Rec))
    → ((n : ℕ) → HasRole space writer.role n → HasRole after writer.role n) → (IsTrue honest → IsSameOutside (loose_region sizes space writer) old new)
    → HasPushed sizes honest old space writer filter fences entries → HasPushed sizes honest new after writer filter fences entries
pushed_kept sizes honest old new space after writer filter fences entries tags same has = record {
  run = has.run;
  held = has.held;
  is_run = has.is_run;
  guide = has.guide;
  one_a_page = has.one_a_page;
  counted = has.counted;
  tagged = λ n in_run. tags n (has.tagged n in_run);
  entries_are = has.entries_are;
  stands = λ told. chain_kept sizes has.run.closed (Some has.run.number) old new (same_pages sizes (numbers_of has.run.closed) old new (same_wider apart (same told))) (has.stands told);
}
  where
    apart : AreApart (loose_region sizes space writer) (pages_region sizes (numbers_of has.run.closed))
    apart i loose page =
        let closed = closed_page sizes honest old space writer filter fences entries has page.0 page.1 in
        closed_page_apart sizes space writer page.0 closed i loose page.2

-- an error gives no value, and what holds anyway holds after it
pub not_ok : {T E : Type 0} (P : Type 0) (r : Result T E) → IsErr r → OnOk r P
not_ok P r h1 = grind (arith, common_steps, nat_tests)

pub always_err : {T E P : Type 0} (r : Result T E) → P → OnErr r P
always_err r h1 = grind (arith, common_steps, nat_tests)
