-- A writer's numbers, and what it leaves on the disk.
use Rattle.std.proofs.lemmas.Bool.Decides.{nat_tests}
use Rattle.std.proofs.lemmas.Grind.{common_steps}
use Rattle.std.proofs.Common.{◌≡◌, Bool, true, false, ◌&&◌, ℕ, ◌+◌, ◌<◌, ◌≤◌, List, [], ◌∷◌, ◌++◌, length, Option, Some, None, refl, ap, sym, subst, ◌∙◌, length-append, arith}
use Rattle.record_delta.specs.Entries.{Entries}
use Rattle.std.specs.Prelude.{IsTrue, IfSome, IsSome, nat_eq}
use Rattle.std.specs.List.{IsDistinct}
use Rattle.disk_trait.specs.Region.{IsSameOutside}
use Rattle.blsm_model.specs.Format.{least_full}
use Rattle.blsm_model.specs.declared.key.Key.{Key}
use Rattle.blsm_model.specs.Sizes.{Sizes}
use Rattle.blsm_model.specs.Geometry.{page_count}
use Rattle.record_delta.specs.declared.record.Rec.{Rec}
use Rattle.record_delta.specs.Records.{weight}
use Rattle.entry_codec.specs.Spelling.{spelling}
use Rattle.entry_codec.proofs.SpellingLemmas.{length-spelling}
use Rattle.page_file.specs.Entry.{entries_bytes, AreRising}
use Rattle.page_file.specs.Page.{most_used, page_bytes, IsContent, IsPageOf}
use Rattle.page_file.specs.File.{page_at}
use Rattle.page_file.specs.Component.{RunPage, numbers_of, entries_of, AreChained, ReadsAs}
use Rattle.page_file.proofs.ComponentLemmas.{chain_join, entries_join, rise_back}
use Rattle.run_writer.specs.Buffer.{BufferState, with_entry, sealed}
use Rattle.run_writer.specs.Run.{Run, page_of, pages_of, IsRun}
use Rattle.run_writer.specs.Writer.{WriterState, has_place, put_in, HasEntries, open_region, IsInside, IsCounted, Holds, Stands}
use Rattle.run_writer.proofs.BufferLemmas.{sealed-bytes}
use Rattle.run_writer.proofs.RunLemmas.{of_page, all_are, total}
use Rattle.run_writer.proofs.RegionLemmas.{still_stands}

-- ---- the writer's numbers

both : (a b : Bool) → (a && b) ≡ true → (a ≡ true) × (b ≡ true)
both a b h1 = grind (arith, common_steps, nat_tests)

pub place_parts : (writer : WriterState) (n : ℕ) → IsTrue (has_place writer n) → (0 < writer.component.pages) × (length writer.buffer.text + n ≤ most_used)
place_parts writer n h1 = grind (arith, common_steps, nat_tests)

-- where there is an open page, and no place in it, it is nearly full
pub no_place : (writer : WriterState) (n : ℕ) → has_place writer n ≡ false → 0 < writer.component.pages → most_used < length writer.buffer.text + n
no_place writer n h1 h2 = grind (arith, common_steps, nat_tests)

pub has_entries : (writer : WriterState) (n : ℕ) → has_place writer n ≡ false → n ≤ 512 → HasEntries writer
has_entries writer n none light some = omega (arith, no_place writer n none some, light)

-- a page that has got an entry has one
pub text_put : (writer new : WriterState) (key : Key) (rec : Rec) → new ≡ put_in key rec writer → 0 < length new.buffer.text
text_put writer new key rec is =
    omega (arith, ap (λ (w : WriterState). length w.buffer.text) is, length-append writer.buffer.text (spelling key rec), length-spelling key rec)

pub counted_put : (writer : WriterState) (buffer : BufferState) (n : ℕ) (key : Key) (rec : Rec) → IsCounted writer → IsTrue (has_place writer (weight key rec))
    → buffer ≡ with_entry key rec writer.buffer → n ≡ weight key rec → IsCounted (record writer {
      component = record writer.component { entries = writer.component.entries + 1; weight = writer.component.weight + n };
      buffer = buffer;
    })
counted_put writer buffer n key rec h1 h2 h3 h4 = grind (arith, common_steps, nat_tests, place_parts, length-append, length-spelling)

-- ---- the closed pages

-- what is said of the open page where it is written with this next one
pub record IsWritten (sizes : Sizes) (writer : WriterState) (next : Option ℕ) (old new : List ℕ) : Type 0 where
  pub same : IsSameOutside (open_region sizes writer) old new
  pub inside : IsInside (page_count sizes) writer
  pub reads : 0 < writer.component.pages → page_at sizes writer.number new ≡ sealed next writer.buffer
  pub below : IfSome next (λ n. n < page_count sizes)
  pub full : 0 < writer.component.pages → IsSome next → least_full ≤ length writer.buffer.text

pub chained : (sizes : Sizes) (writer : WriterState) (next : Option ℕ) (old new : List ℕ) (closed : List RunPage) (number : ℕ) (es : Entries) → IsWritten sizes writer next old new → (es ≡ [] → closed ≡ [])
    → Holds writer (record { closed = closed; number = number; entries = es }) → IsRun (record { closed = closed; number = number; entries = es })
    → AreChained sizes closed (Some number) old → AreChained sizes (closed ++ page_of number es) next new
chained sizes writer next old new closed number [] written begun held is_run chain = subst (λ (l : List RunPage). AreChained sizes (l ++ []) next new) (sym (begun refl)) tt
chained sizes writer next old new closed number (e ∷ es) written begun held is_run chain =
    let page : RunPage = record { number = number; entries = e ∷ es } in
    let some : 0 < writer.component.pages = omega (arith, held.pages_is, length-append (numbers_of closed) (number ∷ [])) in
    let used : length writer.buffer.text ≡ length (entries_bytes (e ∷ es)) = ap (length {A = ℕ}) held.buffer.spelled in
    let reads : page_at sizes number new ≡ page_bytes next (e ∷ es) =
    subst (λ n. page_at sizes n new ≡ sealed next writer.buffer) held.number (written.reads some) ∙ sealed-bytes next writer.buffer (e ∷ es) held.buffer in
    let rise = rise_back (entries_of closed) (e ∷ es)
    (subst (λ (l : Entries). AreRising l) (entries_join closed (page ∷ []) ∙ ap (λ (l : Entries). entries_of closed ++ l) (of_page number (e ∷ es))) is_run.rise) in
    let content : IsContent (page_count sizes) next (e ∷ es) = record {
      head = record { some = omega arith; fits = omega (arith, held.fits, used); next_is = written.below; full = λ names. omega (arith, written.full some names, used) };
      each = held.buffer.each;
      rise = rise;
    } in
    let of : IsPageOf (page_count sizes) next (e ∷ es) (page_at sizes number new) = record { content = content; spelled = reads } in
    chain_join sizes closed (page ∷ []) next new (still_stands sizes writer (record { closed = closed; number = number; entries = e ∷ es }) old new held is_run written.same chain)
    (subst (λ n. n < page_count sizes) held.number (written.inside some), of, tt)

-- the run that has ended
pub ended : (sizes : Sizes) (writer : WriterState) (run : Run) (old new : List ℕ) → IsWritten sizes writer None old new → (run.entries ≡ [] → run.closed ≡ []) → Holds writer run → IsRun run
    → Stands sizes run old → ReadsAs sizes writer.component (pages_of run) new
ended sizes writer run old new written begun held is_run stands = record {
  first_is = held.first_is;
  chained = chained sizes writer None old new run.closed run.number run.entries written begun held is_run stands;
  rise = is_run.rise;
  apart = subst (IsDistinct nat_eq) (sym (all_are run.closed run.number run.entries begun)) is_run.apart;
  pages_is = total writer run held begun;
  entries_is = held.entries_is;
  weight_is = held.weight_is;
}
