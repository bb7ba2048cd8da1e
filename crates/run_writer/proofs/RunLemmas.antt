-- A run with one entry more: what the writer holds then, and what stands on the disk.
use Rattle.std.proofs.lemmas.Bool.Decides.{nat_tests}
use Rattle.std.proofs.lemmas.Grind.{common_steps}
use Rattle.std.proofs.Common.{◌≡◌, ℕ, ◌+◌, ◌<◌, ◌≤◌, List, [], ◌∷◌, ◌++◌, length, None, refl, ap, sym, ◌∙◌, append_assoc, length-append, arith}
use Rattle.record_delta.specs.Entries.{Entries, entries_weight}
use Rattle.std.specs.List.{IsDistinct}
use Rattle.std.specs.List.Sorted.{IsStrictlySortedBy}
use Rattle.std.specs.Prelude.{nat_eq, if◌then◌else◌}
use Rattle.std.proofs.lemmas.List.{append-nil, length-map, map-append}
use Rattle.std.proofs.lemmas.List.Elements.{All-nil}
use Rattle.std.proofs.lemmas.List.Sums.{sum_by-cons}
use Rattle.blsm_model.specs.Components.{no_page}
use Rattle.blsm_model.specs.declared.key.Key.{Key}
use Rattle.record_delta.specs.declared.record.Rec.{Rec}
use Rattle.record_delta.specs.Records.{weight}
use Rattle.entry_codec.specs.Spelling.{spelling, IsEntry as IsSpelled}
use Rattle.entry_codec.proofs.SpellingLemmas.{length-spelling}
use Rattle.page_file.specs.Entry.{IsPageEntry, entries_bytes}
use Rattle.page_file.specs.Page.{most_used, page_number}
use Rattle.page_file.specs.Component.{RunPage, numbers_of, entries_of, first_number}
use Rattle.page_file.proofs.EntryLemmas.{entries_bytes-append}
use Rattle.page_file.proofs.ComponentLemmas.{entries_join}
use Rattle.run_writer.specs.Buffer.{BufferState, with_entry, empty_buffer, IsBufferOf}
use Rattle.run_writer.specs.Run.{Run, page_of, pages_of, open_number, all_numbers, IsRun}
use Rattle.run_writer.specs.Writer.{WriterState, started, put_in, turned, HasEntries, Holds}

-- ---- runs that grow

abbrev pub empty_run : Run
empty_run = record { closed = []; number = no_page; entries = [] }

-- the run with one entry more, in its open page
abbrev pub pushed_here : Key → Rec → Run → Run
pushed_here key rec run = record { closed = run.closed; number = run.number; entries = run.entries ++ (key, rec) ∷ [] }

-- the run with one entry more, in a new page of this number; the page that was open is closed
abbrev pub pushed_on : ℕ → Key → Rec → Run → Run
pushed_on page key rec run = record { closed = pages_of run; number = page; entries = (key, rec) ∷ [] }

-- ---- the buffer

pub has_none : IsBufferOf empty_buffer []
has_none = record { each = All-nil IsPageEntry; count_is = refl; spelled = refl }

one_entry : (key : Key) (rec : Rec) → entries_bytes ((key, rec) ∷ []) ≡ spelling key rec
one_entry key rec = append-nil (spelling key rec)

has_more : (buffer : BufferState) (entries : Entries) (key : Key) (rec : Rec) → IsBufferOf buffer entries → IsSpelled key rec
    → IsBufferOf (with_entry key rec buffer) (entries ++ (key, rec) ∷ [])
has_more buffer entries key rec h1 h2 = grind (arith, common_steps, nat_tests, length-append, one_entry, entries_bytes-append)

-- ---- the run's entries and numbers

pub of_page : (number : ℕ) (es : Entries) → entries_of (page_of number es) ≡ es
of_page number es = grind (arith, common_steps, nat_tests)

run_entries : (closed : List RunPage) (number : ℕ) (es : Entries) → entries_of (closed ++ page_of number es) ≡ entries_of closed ++ es
run_entries closed number es = entries_join closed (page_of number es) ∙ ap (λ (l : Entries). entries_of closed ++ l) (of_page number es)

-- an entry more is one more in the list, wherever it stands
pub entries_here : (key : Key) (rec : Rec) (run : Run) → entries_of (pages_of (pushed_here key rec run)) ≡ entries_of (pages_of run) ++ (key, rec) ∷ []
entries_here key rec run = grind (arith, common_steps, nat_tests, run_entries, append_assoc)

pub entries_on : (page : ℕ) (key : Key) (rec : Rec) (run : Run) → entries_of (pages_of (pushed_on page key rec run)) ≡ entries_of (pages_of run) ++ (key, rec) ∷ []
entries_on page key rec run = run_entries (pages_of run) page ((key, rec) ∷ [])

one_weight : (key : Key) (rec : Rec) → entries_weight ((key, rec) ∷ []) ≡ weight key rec
one_weight key rec = omega (arith, sum_by-cons (λ (e : Key × Rec). weight e.0 e.1) (key, rec) [])

-- the numbers of the component after one entry more
counted_more : (more es : Entries) (key : Key) (rec : Rec) (n : ℕ) → more ≡ es ++ (key, rec) ∷ [] → length es ≡ n → length more ≡ n + 1
counted_more more es key rec n is count = ap (length {A = Key × Rec}) is ∙ omega (arith, length-append es ((key, rec) ∷ []), count)

weighed_more : (more es : Entries) (key : Key) (rec : Rec) (n : ℕ) → more ≡ es ++ (key, rec) ∷ [] → entries_weight es ≡ n → entries_weight more ≡ n + weight key rec
weighed_more more es key rec n h1 h2 = grind (arith, common_steps, nat_tests)

-- ---- the empty run

pub holds_none : (role : ℕ) → Holds (started role) empty_run × IsRun empty_run
unfolding IsStrictlySortedBy IsDistinct
holds_none role = (
  record { buffer = has_none; fits = omega arith; number = refl; first_is = refl; pages_is = refl; entries_is = refl; weight_is = refl },
  record { rise = tt; apart = tt },
)

-- ---- the pages' numbers

not_empty : (p : RunPage) (ps : List RunPage) → p ∷ ps ≡ [] → ⊥
not_empty p ps eq = cc

-- those of the pages that have entries, where the open one isn't empty behind others
pub all_are : (closed : List RunPage) (number : ℕ) (es : Entries) → (es ≡ [] → closed ≡ []) → numbers_of (closed ++ page_of number es) ≡ numbers_of closed ++ open_number closed number es
all_are closed number (e ∷ es) some = map-append (λ (p : RunPage). p.number) closed (page_of number (e ∷ es))
all_are [] number [] some = refl
all_are (p ∷ ps) number [] some = absurd (not_empty p ps (some refl))

-- how many pages there are then
pub total : (writer : WriterState) (run : Run) → Holds writer run → (run.entries ≡ [] → run.closed ≡ []) → length (pages_of run) ≡ writer.component.pages
total writer run held some =
    sym (length-map (pages_of run) (λ (p : RunPage). p.number)) ∙ ap (length {A = ℕ}) (all_are run.closed run.number run.entries some) ∙ held.pages_is

pub no_text : (buffer : BufferState) (es : Entries) → IsBufferOf buffer es → es ≡ [] → length buffer.text ≡ 0
no_text buffer es is none = ap (length {A = ℕ}) (is.spelled ∙ ap entries_bytes none)

pub text_some : (buffer : BufferState) (e : Key × Rec) (es : Entries) → IsBufferOf buffer (e ∷ es) → 0 < length buffer.text
text_some buffer e es is = omega (arith, ap (length {A = ℕ}) is.spelled, length-append (spelling e.0 e.1) (entries_bytes es), length-spelling e.0 e.1)

-- so it is where the open page has an entry
pub is_begun : (writer : WriterState) (closed : List RunPage) (number : ℕ) (es : Entries) → Holds writer (record { closed = closed; number = number; entries = es }) → HasEntries writer → es ≡ [] → closed ≡ []
is_begun writer [] number es held has none = refl
is_begun writer (p ∷ ps) number es held has none =
    let some : 0 < writer.component.pages = omega (arith, held.pages_is) in
    absurd (omega (arith, no_text writer.buffer es held.buffer none, has some))

-- ---- in the open page

-- the open page stays one page, of the same number
pub open_here : (closed : List RunPage) (number : ℕ) (es : Entries) (e : Key × Rec) → 0 < length (numbers_of closed ++ open_number closed number es)
    → open_number closed number (es ++ e ∷ []) ≡ open_number closed number es
open_here closed number (x ∷ es) e some = refl
open_here (p ∷ ps) number [] e some = refl
open_here [] number [] e some = absurd (omega (arith, some))

same_first : (closed : List RunPage) (number : ℕ) (es : Entries) (e : Key × Rec) → 0 < length (numbers_of closed ++ open_number closed number es)
    → first_number (closed ++ page_of number (es ++ e ∷ [])) None ≡ first_number (closed ++ page_of number es) None
same_first (p ∷ ps) number es e some = refl
same_first [] number (x ∷ es) e some = refl
same_first [] number [] e some = absurd (omega (arith, some))

pub holds_here : (writer : WriterState) (key : Key) (rec : Rec) (run : Run) → IsSpelled key rec → 0 < writer.component.pages → length writer.buffer.text + weight key rec ≤ most_used
    → Holds writer run → Holds (put_in key rec writer) (pushed_here key rec run)
holds_here writer key rec run entry some fits held =
    let more = entries_here key rec run in
    let open_one : 0 < length (all_numbers run) = omega (arith, some, held.pages_is) in
    record {
      buffer = has_more writer.buffer run.entries key rec held.buffer entry;
      fits = omega (arith, fits, length-append writer.buffer.text (spelling key rec), length-spelling key rec);
      number = held.number;
      first_is = ap page_number (same_first run.closed run.number run.entries (key, rec) open_one) ∙ held.first_is;
      pages_is = ap (λ (l : List ℕ). length (numbers_of run.closed ++ l)) (open_here run.closed run.number run.entries (key, rec) open_one) ∙ held.pages_is;
      entries_is = counted_more _ _ key rec _ more held.entries_is;
      weight_is = weighed_more _ _ key rec _ more held.weight_is;
    }

-- ---- in a new page

first_pushed : (ps : List RunPage) (page : ℕ) (e : Key × Rec) (pages first : ℕ) → length ps ≡ pages → page_number (first_number ps None) ≡ first
    → page_number (first_number (ps ++ page_of page (e ∷ [])) None) ≡ (if nat_eq pages 0 then page else first)
first_pushed ps page e pages first h1 h2 = grind (arith, common_steps, nat_tests)

pub holds_on : (writer : WriterState) (page : ℕ) (key : Key) (rec : Rec) (run : Run) → IsSpelled key rec → weight key rec ≤ most_used → (run.entries ≡ [] → run.closed ≡ [])
    → Holds writer run → Holds (put_in key rec (turned page writer)) (pushed_on page key rec run)
holds_on writer page key rec run entry light some held =
    let more = entries_on page key rec run in
    let pages = total writer run held some in
    record {
      buffer = has_more empty_buffer [] key rec has_none entry;
      fits = omega (arith, light, length-spelling key rec);
      number = refl;
      first_is = first_pushed (pages_of run) page (key, rec) writer.component.pages writer.component.first pages held.first_is;
      pages_is = omega (arith, length-append (numbers_of (pages_of run)) (page ∷ []), length-map (pages_of run) (λ (p : RunPage). p.number), pages);
      entries_is = counted_more _ _ key rec _ more held.entries_is;
      weight_is = weighed_more _ _ key rec _ more held.weight_is;
    }
