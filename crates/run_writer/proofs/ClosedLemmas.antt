-- The closed pages of a run that is written, as a run of their own.
use Rattle.std.proofs.lemmas.Bool.Decides.{nat_tests}
use Rattle.std.proofs.lemmas.Grind.{common_steps}
use Rattle.std.proofs.Common.{◌≡◌, ◌∙◌, ◌+◌, ◌-◌, ◌<◌, ℕ, Bool, false, List, [], ◌∷◌, ◌++◌, length, take, Some, None, refl, ap, sym, subst, length-append, arith}
use Rattle.std.specs.Prelude.{nat_eq, nat_lt, if◌then◌else◌, IsTrue}
use Rattle.std.proofs.Math.Seq.{take-append_seam}
use Rattle.std.proofs.lemmas.List.{take-append-le, length-map}
use Rattle.std.specs.List.{AllByRecursion, IsDistinct}
use Rattle.std.specs.List.Sorted.{IsStrictlySortedBy}
use Rattle.std.specs.declared.cmp.Ordering.TheVariants.{Less}
use Rattle.blsm_model.specs.declared.component.Component.{Component}
use Rattle.blsm_model.specs.declared.key.Key.{Key}
use Rattle.blsm_model.specs.Keys.{key_cmp}
use Rattle.blsm_model.specs.Sizes.{Sizes}
use Rattle.bloom_bits.specs.BitSet.{BitState}
use Rattle.bloom_bits.specs.Fences.{FencesState}
use Rattle.record_delta.specs.declared.record.Rec.{Rec}
use Rattle.record_delta.specs.Records.{weight}
use Rattle.record_delta.specs.Entries.{Entries, entries_weight}
use Rattle.entry_codec.specs.Spelling.{spelling}
use Rattle.entry_codec.proofs.SpellingLemmas.{length-spelling}
use Rattle.page_space.specs.Space.{SpaceState}
use Rattle.page_file.specs.Entry.{keys_of, AreRising}
use Rattle.page_file.specs.Page.{page_number}
use Rattle.page_file.specs.Component.{RunPage, numbers_of, entries_of, first_number, AreChained, ReadsOn}
use Rattle.page_file.proofs.ComponentLemmas.{entries_join, weight_join, weight_is_length}
use Rattle.run_writer.specs.Run.{page_of, open_number}
use Rattle.run_writer.specs.Writer.{WriterState, closed_entries, closed_of, put_in, turned, whole_of, HasPushed}
use Rattle.run_writer.proofs.RunLemmas.{of_page}

-- ---- fronts

all_front : {X : Type 0} (P : X → Type 0) (xs ys : List X) → AllByRecursion P (xs ++ ys) → AllByRecursion P xs
all_front P [] ys all = tt
all_front P (x ∷ xs) ys all = (all.0, all_front P xs ys all.1)

keys_front : (P : Key → Type 0) (es fs : Entries) → AllByRecursion P (keys_of (es ++ fs)) → AllByRecursion P (keys_of es)
keys_front P [] fs all = tt
keys_front P (e ∷ es) fs all = (all.0, keys_front P es fs all.1)

rise_front : (es fs : Entries) → AreRising (es ++ fs) → AreRising es
unfolding IsStrictlySortedBy
rise_front [] fs rise = tt
rise_front (e ∷ es) fs rise = (keys_front (λ k. key_cmp e.0 k ≡ Less) es fs rise.0, rise_front es fs rise.1)

distinct_front : (ns ms : List ℕ) → IsDistinct nat_eq (ns ++ ms) → IsDistinct nat_eq ns
unfolding IsDistinct
distinct_front [] ms apart = tt
distinct_front (n ∷ ns) ms apart = (all_front (λ k. nat_eq n k ≡ false) ns ms apart.0, distinct_front ns ms apart.1)

-- ---- the closed pages

all_entries : (closed : List RunPage) (number : ℕ) (es : Entries) → entries_of (closed ++ page_of number es) ≡ entries_of closed ++ es
all_entries closed number es = entries_join closed (page_of number es) ∙ ap (λ (l : Entries). entries_of closed ++ l) (of_page number es)

-- behind closed pages there is an open one
one_open : (p : RunPage) (ps : List RunPage) (number : ℕ) (es : Entries) → open_number (p ∷ ps) number es ≡ number ∷ []
one_open p ps number [] = refl
one_open p ps number (e ∷ es) = refl

-- how many there are
closed_pages : (closed : List RunPage) (number : ℕ) (es : Entries) (pages : ℕ) → length (numbers_of closed ++ open_number closed number es) ≡ pages → length closed ≡ pages - 1
closed_pages [] number [] pages is = omega (arith, is)
closed_pages [] number (e ∷ es) pages is = omega (arith, is)
closed_pages (p ∷ ps) number es pages is =
    omega (arith, is, ap (λ (l : List ℕ). length (numbers_of ps ++ l)) (one_open p ps number es), length-append (numbers_of ps) (number ∷ []), length-map ps (λ (q : RunPage). q.number))

more_than_one : (pages first open_one : ℕ) → 1 < pages → (if nat_lt 1 pages then first else open_one) ≡ first
more_than_one pages first open_one h1 = grind (arith, common_steps, nat_tests)

-- the first of them, or the open one
closed_first : (closed : List RunPage) (number : ℕ) (es : Entries) (pages first open_one : ℕ) → open_one ≡ number → page_number (first_number (closed ++ page_of number es) None) ≡ first
    → length (numbers_of closed ++ open_number closed number es) ≡ pages → page_number (first_number closed (Some number)) ≡ (if nat_lt 1 pages then first else open_one)
closed_first [] number [] pages first open_one same first_is is = subst (λ (n : ℕ). number ≡ (if nat_lt 1 n then first else open_one)) is (sym same)
closed_first [] number (e ∷ es) pages first open_one same first_is is = subst (λ (n : ℕ). number ≡ (if nat_lt 1 n then first else open_one)) is (sym same)
closed_first (p ∷ ps) number es pages first open_one same first_is is =
    first_is ∙ sym (more_than_one pages first open_one (omega (arith, is, ap (λ (l : List ℕ). length (numbers_of ps ++ l)) (one_open p ps number es), length-append (numbers_of ps) (number ∷ []))))

pub closed_reads : (sizes : Sizes) (honest : Bool) (file : List ℕ) (space : SpaceState) (writer : WriterState) (filter : BitState) (fences : FencesState) (entries : Entries)
    → (has : HasPushed sizes honest file space writer filter fences entries) → IsTrue honest → ReadsOn sizes (closed_of writer) has.run.closed (Some writer.number) file
closed_reads sizes honest file space writer filter fences entries has told =
    let run = has.run in
    let held = has.held in
    let all = all_entries run.closed run.number run.entries in
    record {
      first_is = subst (λ (n : ℕ). page_number (first_number run.closed (Some n)) ≡ (closed_of writer).first) (sym held.number)
          (closed_first run.closed run.number run.entries writer.component.pages writer.component.first writer.number held.number held.first_is held.pages_is);
      chained = subst (λ (n : ℕ). AreChained sizes run.closed (Some n) file) (sym held.number) (has.stands told);
      rise = rise_front (entries_of run.closed) run.entries (subst AreRising all has.is_run.rise);
      apart = distinct_front (numbers_of run.closed) (open_number run.closed run.number run.entries) has.is_run.apart;
      pages_is = closed_pages run.closed run.number run.entries writer.component.pages held.pages_is;
      entries_is = omega (arith, ap (λ (l : Entries). length l) all, length-append (entries_of run.closed) run.entries, held.entries_is, held.buffer.count_is);
      weight_is = omega (arith, ap entries_weight all, weight_join (entries_of run.closed) run.entries, held.weight_is, weight_is_length run.entries, ap (λ (l : List ℕ). length l) held.buffer.spelled);
    }

-- ---- their entries

how_many : (sizes : Sizes) (honest : Bool) (file : List ℕ) (space : SpaceState) (writer : WriterState) (filter : BitState) (fences : FencesState) (entries : Entries)
    → HasPushed sizes honest file space writer filter fences entries → writer.component.entries ≡ length entries
how_many sizes honest file space writer filter fences entries has = sym has.held.entries_is ∙ ap (λ (l : Entries). length l) has.entries_are

pub closed_are : (sizes : Sizes) (honest : Bool) (file : List ℕ) (space : SpaceState) (writer : WriterState) (filter : BitState) (fences : FencesState) (entries : Entries)
    → (has : HasPushed sizes honest file space writer filter fences entries) → entries_of has.run.closed ≡ closed_entries writer entries
closed_are sizes honest file space writer filter fences entries has =
    let run = has.run in
    let closed = entries_of run.closed in
    let all = all_entries run.closed run.number run.entries in
    let count : length closed ≡ writer.component.entries - writer.buffer.count =
    omega (arith, ap (λ (l : Entries). length l) all, length-append closed run.entries, has.held.entries_is, has.held.buffer.count_is) in
    sym (ap (take (writer.component.entries - writer.buffer.count)) (sym has.entries_are ∙ all)
    ∙ subst (λ (n : ℕ). take n (closed ++ run.entries) ≡ closed) count (take-append_seam closed run.entries))

-- ---- what a push does to them

same_run : (first pages entries entries_after weighs weighs_after : ℕ) → entries ≡ entries_after → weighs ≡ weighs_after
    → ◌≡◌ {A = Component} (record { first = first; pages = pages; entries = entries; weight = weighs }) (record { first = first; pages = pages; entries = entries_after; weight = weighs_after })
same_run first pages entries entries_after weighs weighs_after h1 h2 = cc

pub closed_stays : (writer : WriterState) (key : Key) (rec : Rec) → closed_of (put_in key rec writer) ≡ closed_of writer
closed_stays writer key rec =
    same_run _ _ _ _ _ _ (omega arith) (omega (arith, length-append writer.buffer.text (spelling key rec), length-spelling key rec))

first_grown : (pages first page : ℕ) → (if nat_lt 1 (pages + 1) then (if nat_eq pages 0 then page else first) else page) ≡ (if nat_lt 0 pages then first else page)
first_grown pages first page = grind (arith, common_steps, nat_tests)

same_parts : (first first_after pages pages_after entries entries_after weighs weighs_after : ℕ) → first ≡ first_after → pages ≡ pages_after → entries ≡ entries_after → weighs ≡ weighs_after
    → ◌≡◌ {A = Component} (record { first = first; pages = pages; entries = entries; weight = weighs }) (record { first = first_after; pages = pages_after; entries = entries_after; weight = weighs_after })
same_parts first first_after pages pages_after entries entries_after weighs weighs_after h1 h2 h3 h4 = cc

pub closed_grows : (writer : WriterState) (page : ℕ) (key : Key) (rec : Rec) → closed_of (put_in key rec (turned page writer)) ≡ whole_of page writer.component
closed_grows writer page key rec =
    same_parts _ _ _ _ _ _ _ _ (first_grown writer.component.pages writer.component.first page) (omega arith) (omega arith) (omega (arith, length-spelling key rec))

pub closed_pushed : (sizes : Sizes) (honest : Bool) (file : List ℕ) (space : SpaceState) (writer : WriterState) (filter : BitState) (fences : FencesState) (entries : Entries) (key : Key) (rec : Rec)
    → HasPushed sizes honest file space writer filter fences entries
    → (closed_entries (put_in key rec writer) (entries ++ (key, rec) ∷ []) ≡ closed_entries writer entries)
    × ((page : ℕ) → closed_entries (put_in key rec (turned page writer)) (entries ++ (key, rec) ∷ []) ≡ entries)
closed_pushed sizes honest file space writer filter fences entries key rec has =
    let many = how_many sizes honest file space writer filter fences entries has in
    let more = (key, rec) ∷ [] in (
      subst (λ (n : ℕ). take n (entries ++ more) ≡ closed_entries writer entries) (omega arith)
          (take-append-le (writer.component.entries - writer.buffer.count) entries more (omega (arith, many))),
      λ page. subst (λ (n : ℕ). take n (entries ++ more) ≡ entries) (omega (arith, many)) (take-append_seam entries more),
    )

pub text_more : (writer : WriterState) (key : Key) (rec : Rec) → length (put_in key rec writer).buffer.text ≡ length writer.buffer.text + weight key rec
text_more writer key rec = omega (arith, length-append writer.buffer.text (spelling key rec), length-spelling key rec)
