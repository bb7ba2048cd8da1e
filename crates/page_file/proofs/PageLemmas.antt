-- Pages as bytes: what is read of one, and that bytes are one page at most.
use Rattle.std.proofs.lemmas.Bool.Decides.{nat_tests}
use Rattle.std.proofs.lemmas.Grind.{common_steps}
use Rattle.std.proofs.Common.{◌≡◌, ◌≢◌, ◌↔◌, ℕ, ◌+◌, ◌*◌, ◌-◌, ◌^◌, ◌<◌, ◌≤◌, List, [], ◌∷◌, ◌++◌, length, take, drop, Option, refl, ap, sym, subst, ◌∙◌, append_assoc, length-append, arith}
use Rattle.record_delta.specs.declared.record.Rec.{Rec}
use Rattle.blsm_model.specs.declared.key.Key.{Key}
use Rattle.record_delta.specs.Entries.{Entries}
use Rattle.std.specs.Prelude.{IfSome, replicate}
use Rattle.std.specs.Int.{w32, w16, to_be_bytes, from_be_bytes}
use Rattle.std.proofs.lemmas.List.{take_at, drop_at, take-append-drop, length-replicate}
use Rattle.std.proofs.lemmas.Nat.{from_be_bytes-to_be_bytes_4}
use Rattle.disk_trait.specs.Disk.{part, overwritten}
use Rattle.disk_trait.proofs.PartLemmas.{part-overwritten}
use Rattle.disk_trait.specs.Region.{span, outside, AreApart, IsSameOutside}
use Rattle.disk_trait.proofs.RegionLemmas.{part_apart, same_wider}
use Rattle.blsm_model.specs.Format.{page_length}
use Rattle.blsm_model.specs.Sizes.{Sizes, IsGeometry}
use Rattle.blsm_model.specs.Geometry.{file_length, page_count}
use Rattle.page_file.specs.File.{page_start, page_region, pages_region, AreSamePages}
use Rattle.page_file.specs.Entry.{entry_bytes, entries_bytes, AreEntriesIn, AreInBytes}
use Rattle.blsm_model.specs.Components.{no_page}
use Rattle.page_file.specs.Page.{most_used, page_number, used_by, page_head, IsHead, page_bytes, IsContent, IsPageOf, IsPage}
use Rattle.page_file.proofs.EntryLemmas.{entries_bytes-append, few_entries, front_same, same16, entries_same, rise_from_none, rise_of_page}

-- ---- the head

pub length-page_head : (count used : ℕ) (next : Option ℕ) → length (page_head count used next) ≡ 8
unfolding page_head
length-page_head count used next = refl

cells : (page : List ℕ) → 8 ≤ length page → page ≡ (part page 0 2 ++ part page 2 2 ++ part page 4 4) ++ drop 8 page
cells page h1 = grind (arith, common_steps, nat_tests)

-- eight bytes or more begin with the head of the numbers that are read there
pub head_read : (page : List ℕ) (count used number : ℕ) (next : Option ℕ) → 8 ≤ length page
    → part page 0 2 ≡ to_be_bytes w16 count → part page 2 2 ≡ to_be_bytes w16 used → part page 4 4 ≡ to_be_bytes w32 number → page_number next ≡ number
    → page ≡ page_head count used next ++ drop 8 page
unfolding page_head
head_read page count used number next long count_is used_is number_is next_is =
    cells page long ∙ λ i. (count_is i ++ used_is i ++ (number_is ∙ ap (to_be_bytes w32) (sym next_is)) i) ++ drop 8 page

same32 : (n m : ℕ) → n < 2 ^ 32 → m < 2 ^ 32 → to_be_bytes w32 n ≡ to_be_bytes w32 m → n ≡ m
same32 n m ln lm e = sym (from_be_bytes-to_be_bytes_4 n ln) ∙ ap (from_be_bytes w32) e ∙ from_be_bytes-to_be_bytes_4 m lm

-- a page's number, which is not the one that stands for none
abbrev pub IsNumber : Option ℕ → Type 0
IsNumber next = IfSome next (λ n. n < no_page)

number_fits : (next : Option ℕ) → IsNumber next → page_number next < 2 ^ 32
number_fits next h1 = grind (arith, common_steps, nat_tests)

pub number_same : (m n : Option ℕ) → IsNumber m → IsNumber n → page_number m ≡ page_number n → m ≡ n
number_same m n h1 h2 h3 = grind (arith, common_steps, nat_tests)

pub number_below : (pages : ℕ) (next : Option ℕ) → pages ≤ no_page → IfSome next (λ n. n < pages) → IsNumber next
number_below pages next h1 h2 = grind (arith, common_steps, nat_tests)

-- two heads of the same numbers
pub record SameHead (count used count' used' : ℕ) (next next' : Option ℕ) (x y : List ℕ) : Type 0 where
  pub count_is : count ≡ count'
  pub used_is : used ≡ used'
  pub next_is : next ≡ next'
  pub rest_is : x ≡ y

head_same : (count used count' used' : ℕ) (next next' : Option ℕ) (x y : List ℕ)
    → count < 2 ^ 16 → count' < 2 ^ 16 → used < 2 ^ 16 → used' < 2 ^ 16 → IsNumber next → IsNumber next'
    → page_head count used next ++ x ≡ page_head count' used' next' ++ y → SameHead count used count' used' next next' x y
unfolding page_head
head_same count used count' used' next next' x y c c' u u' n n' same =
    let parts = front_same (page_head count used next) (page_head count' used' next') x y refl same in
    record {
      count_is = same16 count count' c c' (ap (λ l. take 2 l) parts.0);
      used_is = same16 used used' u u' (ap (λ l. take 2 (drop 2 l)) parts.0);
      next_is = number_same next next' n n' (same32 (page_number next) (page_number next') (number_fits next n) (number_fits next' n') (ap (λ l. take 4 (drop 4 l)) parts.0));
      rest_is = parts.1;
    }

-- ---- a page

-- the head, and then the entries and the zeros
pub spelled : (next : Option ℕ) (es : Entries) → page_bytes next es ≡ page_head (length es) (used_by es) next ++ (entries_bytes es ++ replicate (most_used - used_by es) 0)
unfolding page_bytes
spelled next es = append_assoc (page_head (length es) (used_by es) next) (entries_bytes es) (replicate (most_used - used_by es) 0)

pub length-page_bytes : (next : Option ℕ) (es : Entries) → used_by es ≤ most_used → length (page_bytes next es) ≡ page_length
length-page_bytes next es fits =
    let zeros : List ℕ = replicate (most_used - used_by es) 0 in
    ap (length {A = ℕ}) (spelled next es)
    ∙ omega (
      arith,
      fits,
      length-append (page_head (length es) (used_by es) next) (entries_bytes es ++ zeros),
      length-page_head (length es) (used_by es) next,
      length-append (entries_bytes es) zeros,
      length-replicate {A = ℕ} (most_used - used_by es) 0,
    )

-- what a page may have, it has
pub made : (pages : ℕ) (next : Option ℕ) (es : Entries) → IsContent pages next es → IsPage pages (page_bytes next es) × (length (page_bytes next es) ≡ page_length)
made pages next es content = ((next, es, record { content = content; spelled = refl }), length-page_bytes next es content.head.fits)

-- the head that is read of a page is its own
pub head_of_page : (pages count used : ℕ) (next m : Option ℕ) (es : Entries) (page rest : List ℕ) → pages ≤ no_page → count < 2 ^ 16 → used < 2 ^ 16 → IsNumber next
    → page ≡ page_head count used next ++ rest → IsPageOf pages m es page
    → SameHead (length es) (used_by es) count used m next (entries_bytes es ++ replicate (most_used - used_by es) 0) rest
head_of_page pages count used next m es page rest few c u n read of =
    let content = of.content in
    let fits = content.head.fits in
    let small = few_entries es content.each in
    head_same (length es) (used_by es) count used m next (entries_bytes es ++ replicate (most_used - used_by es) 0) rest (omega (arith, fits, small)) c (omega (arith, fits)) u
    (number_below pages m few content.head.next_is) n (sym (spelled m es) ∙ sym of.spelled ∙ read)

-- what is read of the parts of a page
pub record IsRead (pages count used : ℕ) (next : Option ℕ) (rest : List ℕ) : Type 0 where
  pub head : IsHead pages count used next
  pub entries : AreInBytes [] count (take used rest)
  pub blank : drop used rest ≡ replicate (length (drop used rest)) 0

-- a page's parts are read
pub page_read : (pages count used : ℕ) (next : Option ℕ) (page rest : List ℕ) → pages ≤ no_page → count < 2 ^ 16 → used < 2 ^ 16 → IsNumber next
    → page ≡ page_head count used next ++ rest → IsPage pages page → IsRead pages count used next rest
page_read pages count used next page rest few c u n read (m, es, of) =
    let content = of.content in
    let zeros : List ℕ = replicate (most_used - used_by es) 0 in
    let same = head_of_page pages count used next m es page rest few c u n read of in
    let front : take used rest ≡ entries_bytes es = ap (take used) (sym same.rest_is) ∙ take_at (entries_bytes es) zeros used same.used_is in
    let back : drop used rest ≡ zeros = ap (drop used) (sym same.rest_is) ∙ drop_at (entries_bytes es) zeros used same.used_is in
    let has : AreEntriesIn [] count (take used rest) es = record { each = content.each; count_is = same.count_is; rise = rise_from_none es content.each content.rise; spelled = front } in
    record {
      head = subst (λ k. IsHead pages k used next) same.count_is (subst (λ k. IsHead pages (length es) k next) same.used_is (subst (λ k. IsHead pages (length es) (used_by es) k) same.next_is content.head));
      entries = (es, has);
      blank = back ∙ ap (λ k. replicate k 0) (sym (length-replicate {A = ℕ} (most_used - used_by es) 0)) ∙ ap (λ (l : List ℕ). replicate (length l) 0) (sym back);
    }

-- what is read as a page's parts is a page
pub page_found : (pages count used : ℕ) (next : Option ℕ) (page body tail : List ℕ) → length page ≡ page_length → page ≡ page_head count used next ++ (body ++ tail) → length body ≡ used
    → IsHead pages count used next → AreInBytes [] count body → tail ≡ replicate (length tail) 0 → IsPage pages page
page_found pages count used next page body tail long read body_long head (es, has) blank =
    let used_is : used ≡ used_by es = sym body_long ∙ ap (length {A = ℕ}) has.spelled in
    let tail_long : length tail ≡ most_used - used_by es =
    omega (arith, long, ap (length {A = ℕ}) read, length-append (page_head count used next) (body ++ tail), length-page_head count used next, length-append body tail, body_long, used_is) in
    let content : IsContent pages next es = record {
      head = subst (λ n. IsHead pages n (used_by es) next) (sym has.count_is) (subst (λ n. IsHead pages count n next) used_is head);
      each = has.each;
      rise = rise_of_page es has.rise;
    } in
    let whole : page ≡ page_bytes next es =
    read ∙ (λ i. page_head (sym has.count_is i) (used_is i) next ++ (has.spelled i ++ (blank ∙ ap (λ k. replicate k 0) tail_long) i)) ∙ sym (spelled next es) in
    (next, es, record { content = content; spelled = whole })

-- behind a right head it is the entries and the zeros that make the page
pub page_parts : (pages count used : ℕ) (next : Option ℕ) (page body tail : List ℕ) → pages ≤ no_page → count < 2 ^ 16 → used < 2 ^ 16 → IsNumber next → length page ≡ page_length
    → page ≡ page_head count used next ++ drop 8 page → body ≡ take used (drop 8 page) → tail ≡ drop used (drop 8 page) → length body ≡ used → IsHead pages count used next
    → IsPage pages page ↔ (AreInBytes [] count body × (tail ≡ replicate (length tail) 0))
page_parts pages count used next page body tail few c u n long read body_is tail_is body_long head = (
  λ found. let parts = page_read pages count used next page (drop 8 page) few c u n read found in
      (subst (AreInBytes [] count) (sym body_is) parts.entries, subst (λ (l : List ℕ). l ≡ replicate (length l) 0) (sym tail_is) parts.blank),
  λ parts. page_found pages count used next page body tail long
      (read ∙ ap (λ (l : List ℕ). page_head count used next ++ l) (sym (take-append-drop used (drop 8 page)) ∙ λ i. sym body_is i ++ sym tail_is i)) body_long head parts.0 parts.1,
)

-- bytes are one page at most
pub page_same : (pages : ℕ) (m n : Option ℕ) (es fs : Entries) (page : List ℕ) → pages ≤ no_page → IsPageOf pages m es page → IsPageOf pages n fs page → (m ≡ n) × (es ≡ fs)
page_same pages m n es fs page few of other =
    let c = of.content in
    let d = other.content in
    let fits = d.head.fits in
    let small = few_entries fs d.each in
    let heads = head_of_page pages (length fs) (used_by fs) n m es page _ few (omega (arith, fits, small)) (omega (arith, fits)) (number_below pages n few d.head.next_is) (other.spelled ∙ spelled n fs) of in
    (heads.next_is, (entries_same es fs _ _ c.each d.each heads.count_is heads.rest_is).0)

-- an entry stands behind those before it
pub entry_at : (pages : ℕ) (next : Option ℕ) (before after : Entries) (entry : Key × Rec) (page : List ℕ) → IsPageOf pages next (before ++ entry ∷ after) page
    → (rest : List ℕ) × (drop (8 + used_by before) page ≡ entry_bytes entry ++ rest)
entry_at pages next before after entry page of =
    let es = before ++ entry ∷ after in
    let zeros : List ℕ = replicate (most_used - used_by es) 0 in
    let head = page_head (length es) (used_by es) next in
    let rest : List ℕ = entries_bytes after ++ zeros in
    let parts : entries_bytes es ++ zeros ≡ entries_bytes before ++ (entry_bytes entry ++ rest) =
    ap (λ (l : List ℕ). l ++ zeros) (entries_bytes-append before (entry ∷ after)) ∙ append_assoc (entries_bytes before) (entries_bytes (entry ∷ after)) zeros
    ∙ ap (λ (l : List ℕ). entries_bytes before ++ l) (append_assoc (entry_bytes entry) (entries_bytes after) zeros) in
    let whole : page ≡ (head ++ entries_bytes before) ++ (entry_bytes entry ++ rest) =
    of.spelled ∙ spelled next es ∙ ap (λ (l : List ℕ). head ++ l) parts ∙ sym (append_assoc head (entries_bytes before) (entry_bytes entry ++ rest)) in (
      rest,
      ap (drop (8 + used_by before)) whole
          ∙ drop_at (head ++ entries_bytes before) (entry_bytes entry ++ rest) (8 + used_by before) (length-append head (entries_bytes before) ∙ ap (λ n. n + used_by before) (length-page_head (length es) (used_by es) next)),
    )

-- ---- a page in a file

-- a page that was written reads so
pub written_reads : (start : ℕ) (old new bytes : List ℕ) → length bytes ≡ page_length → start + page_length ≤ length old → new ≡ overwritten old start bytes → part new start page_length ≡ bytes
written_reads start old new bytes long inside is =
    ap (λ (l : List ℕ). part l start page_length) is ∙ ap (λ n. part (overwritten old start bytes) start n) (sym long) ∙ part-overwritten old start bytes (omega (arith, inside))

-- two pages are apart
pub others_apart : (sizes : Sizes) (m n : ℕ) → m ≢ n → AreApart (page_region sizes m) (page_region sizes n)
others_apart sizes m n h1 = grind (arith, common_steps, nat_tests)

-- and the pages from what ends before them
pub before_apart : (sizes : Sizes) (n at len : ℕ) → at + len ≤ page_start sizes 0 → AreApart (page_region sizes n) (span at len)
before_apart sizes n at len ends i page before = omega (arith, ends, page.0, before.1)

-- pages of which no byte changed read the same
pub same_pages : (sizes : Sizes) (numbers : List ℕ) (old new : List ℕ) → IsSameOutside (outside (pages_region sizes numbers)) old new → AreSamePages sizes numbers old new
same_pages sizes numbers old new same n has = part_apart (page_start sizes n) page_length (λ i changed inside. changed (n, has, inside)) same

-- a change before the first page leaves them alone
pub pages_behind : (sizes : Sizes) (numbers : List ℕ) (at len : ℕ) (old new : List ℕ) → at + len ≤ page_start sizes 0 → IsSameOutside (span at len) old new → AreSamePages sizes numbers old new
pages_behind sizes numbers at len old new ends same =
    same_pages sizes numbers old new (same_wider (λ i inside page. before_apart sizes page.0 at len ends i page.2 inside) same)

-- ---- how many pages there are

-- a store has fewer pages than there are numbers
pub few_pages : (sizes : Sizes) → IsGeometry sizes → page_count sizes ≤ no_page
few_pages sizes h1 = grind (arith, common_steps, nat_tests)

-- and its file is short
short : (half pages : ℕ) → half ≤ 67108864 → pages ≤ no_page → 4096 + 12 * half + 4096 * pages < 2 ^ 63
short half pages small few = omega arith

pub short_file : (sizes : Sizes) → IsGeometry sizes → file_length sizes < 2 ^ 63
short_file sizes fits = short sizes.half (page_count sizes) fits.half.1 (few_pages sizes fits)
