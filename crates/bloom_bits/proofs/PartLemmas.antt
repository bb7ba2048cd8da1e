-- The part of a run that begins at the page of a fence.
use Rattle.std.proofs.lemmas.Bool.Decides.{nat_tests}
use Rattle.std.proofs.lemmas.Grind.{common_steps}
use Rattle.std.proofs.Common.{◌≡◌, ◌≢◌, ℕ, ◌+◌, ◌-◌, ◌<◌, ◌≤◌, List, [], ◌∷◌, ◌++◌, length, Option, refl, ap, sym, subst, ◌∙◌, inl, inr, length-append, append_assoc, arith}
use Rattle.std.specs.Prelude.{map, min, nat_eq, take, drop}
use Rattle.std.proofs.Math.Seq.{drop-append_seam, drop-length, take-append_seam, take-length}
use Rattle.std.proofs.Math.ListN.{drop_of_length-le}
use Rattle.std.proofs.lemmas.List.{length-drop, take_all}
use Rattle.std.specs.FinMap.{slice_cmp-IsAntisymmetric, nat_cmp-IsAntisymmetric}
use Rattle.std.specs.List.{AllByRecursion, IsDistinct}
use Rattle.std.specs.List.Sorted.{IsStrictlySortedBy}
use Rattle.std.specs.declared.cmp.Ordering.{Ordering}
use Rattle.std.specs.declared.cmp.Ordering.TheVariants.{Less, Equal}
use Rattle.std.proofs.lemmas.Bool.{cases_lt}
use Rattle.std.proofs.lemmas.Cmp.{nat_list_cmp_total}
use Rattle.blsm_model.specs.declared.component.Component.{Component}
use Rattle.blsm_model.specs.declared.key.Key.{Key}
use Rattle.blsm_model.specs.Keys.{key_cmp}
use Rattle.blsm_model.specs.Sizes.{Sizes}
use Rattle.record_delta.specs.declared.record.Rec.{Rec}
use Rattle.record_delta.specs.Entries.{Entries, entries_weight}
use Rattle.page_file.specs.Component.{RunPage, AreChained, ReadsOn, entries_of, first_number, numbers_of}
use Rattle.page_file.specs.Entry.{AreRising, keys_of}
use Rattle.page_file.proofs.ComponentLemmas.{chain_split, entries_join, rise_back, weight_join}
use Rattle.bloom_bits.specs.declared.fences.Fence.{Fence}
use Rattle.bloom_bits.specs.Fences.{IsPlaceOf}
use Rattle.bloom_bits.specs.Guides.{fence_of, fences_from, fences_of}
use Rattle.bloom_bits.specs.Parts.{from_fence, last_fences, IsPartFrom, AreFencesOf, ReadsFrom}

-- ---- keys that rise

pub back_part : {X : Type 0} (P : X → Type 0) (xs ys : List X) → AllByRecursion P (xs ++ ys) → AllByRecursion P ys
back_part P [] ys all = all
back_part P (x ∷ xs) ys all = back_part P xs ys all.1

keys_below : (low : Key) (es : Entries) → AllByRecursion (λ (k : Key). key_cmp low k ≡ Less) (keys_of es) → AllByRecursion (λ (y : Key × Rec). key_cmp low y.0 ≡ Less) es
keys_below low [] all = tt
keys_below low (e ∷ es) all = (all.0, keys_below low es all.1)

-- the entries in front are below those behind them
pub rising_apart : (xs ys : Entries) → AreRising (xs ++ ys) → AllByRecursion (λ (x : Key × Rec). AllByRecursion (λ (y : Key × Rec). key_cmp x.0 y.0 ≡ Less) ys) xs
unfolding IsStrictlySortedBy
rising_apart [] ys rise = tt
rising_apart (x ∷ xs) ys rise = (back_part (λ (y : Key × Rec). key_cmp x.0 y.0 ≡ Less) xs ys (keys_below x.0 (xs ++ ys) rise.0), rising_apart xs ys rise.1)

pub tied : (a b : Key) → key_cmp a b ≡ Equal → a ≡ b
tied a b e = slice_cmp-IsAntisymmetric nat_cmp-IsAntisymmetric a b e

-- what is below a key is below each that isn't below that one
pub less_before : (key first x : Key) → key_cmp key first ≢ Less → key_cmp x first ≡ Less → key_cmp x key ≡ Less
less_before key first x not_below less = by (key_cmp first key) refl
  where
    by : (o : Ordering) → key_cmp first key ≡ o → key_cmp x key ≡ Less
    by o h1 = grind (arith, common_steps, nat_tests, nat_list_cmp_total, less, tied)

below_key : (key : Key) (first : Key × Rec) (more xs : Entries) → key_cmp key first.0 ≢ Less → AllByRecursion (λ (x : Key × Rec). AllByRecursion (λ (y : Key × Rec). key_cmp x.0 y.0 ≡ Less) (first ∷ more)) xs
    → AllByRecursion (λ (x : Key × Rec). key_cmp x.0 key ≡ Less) xs
below_key key first more [] not_below all = tt
below_key key first more (x ∷ xs) not_below all = (less_before key first.0 x.0 not_below all.0.0, below_key key first more xs not_below all.1)

-- ---- fences of pages behind others

pub fences_join : (count weight : ℕ) (ps qs : List RunPage)
    → fences_from count weight (ps ++ qs) ≡ fences_from count weight ps ++ fences_from (count + length (entries_of ps)) (weight + entries_weight (entries_of ps)) qs
fences_join count weight [] qs =
    let counted : count ≡ count + length (entries_of []) = omega arith in
    let weighed : weight ≡ weight + entries_weight (entries_of []) = omega arith in
    λ i. fences_from (counted i) (weighed i) qs
fences_join count weight (p ∷ ps) qs =
    let front = fence_of count weight p.number p.entries in
    let counted : (count + length p.entries) + length (entries_of ps) ≡ count + length (p.entries ++ entries_of ps) = omega (arith, length-append p.entries (entries_of ps)) in
    let weighed : (weight + entries_weight p.entries) + entries_weight (entries_of ps) ≡ weight + entries_weight (p.entries ++ entries_of ps) = omega (arith, weight_join p.entries (entries_of ps)) in
    let behind = fences_from (count + length p.entries) (weight + entries_weight p.entries) ps in
    ap (λ l. front ++ l) (fences_join (count + length p.entries) (weight + entries_weight p.entries) ps qs ∙ (λ i. behind ++ fences_from (counted i) (weighed i) qs))
    ∙ sym (append_assoc front behind (fences_from (count + length (p.entries ++ entries_of ps)) (weight + entries_weight (p.entries ++ entries_of ps)) qs))

-- ---- the page of a fence

-- Of pages behind so many entries of this weight: this fence, between these others, is that of the page between as many, and has the sums of those before.
pub record PageOf (count weight : ℕ) (pages : List RunPage) (before : List Fence) (fence : Fence) (behind : List Fence) : Type 0 where
  pub front : List RunPage
  pub page : RunPage
  pub back : List RunPage
  pub parts : pages ≡ front ++ page ∷ back
  pub as_many : length front ≡ length before
  pub number : page.number ≡ fence.page
  pub count_is : fence.entries ≡ count + length (entries_of front)
  pub weight_is : fence.weight ≡ weight + entries_weight (entries_of front)
  pub first : Key × Rec
  pub more : Entries
  pub begins : page.entries ≡ first ∷ more
  pub first_is : first.0 ≡ fence.first
  pub count_behind : ℕ
  pub weight_behind : ℕ
  pub rest : fences_from count_behind weight_behind back ≡ behind

first_page : (count weight number : ℕ) (e : Key × Rec) (es : Entries) (ps : List RunPage) (fence : Fence) → ◌≡◌ {A = Fence} (record { first = e.0; page = number; entries = count; weight = weight }) fence
    → (c w : ℕ) (behind : List Fence) → fences_from c w ps ≡ behind → PageOf count weight (record { number = number; entries = e ∷ es } ∷ ps) [] fence behind
first_page count weight number e es ps fence is c w behind rest = record {
  front = [];
  page = record { number = number; entries = e ∷ es };
  back = ps;
  parts = refl;
  as_many = refl;
  number = ap (λ (f : Fence). f.page) is;
  count_is = omega (arith, ap (λ (f : Fence). f.entries) is);
  weight_is = omega (arith, ap (λ (f : Fence). f.weight) is);
  first = e;
  more = es;
  begins = refl;
  first_is = ap (λ (f : Fence). f.first) is;
  count_behind = c;
  weight_behind = w;
  rest = rest;
}

later_page : (count weight : ℕ) (p : RunPage) (ps : List RunPage) (b : Fence) (bs : List Fence) (fence : Fence) (behind : List Fence)
    → PageOf (count + length p.entries) (weight + entries_weight p.entries) ps bs fence behind → PageOf count weight (p ∷ ps) (b ∷ bs) fence behind
later_page count weight p ps b bs fence behind one = record {
  front = p ∷ one.front;
  page = one.page;
  back = one.back;
  parts = ap (λ (l : List RunPage). p ∷ l) one.parts;
  as_many = omega (arith, one.as_many);
  number = one.number;
  count_is = omega (arith, one.count_is, length-append p.entries (entries_of one.front));
  weight_is = omega (arith, one.weight_is, weight_join p.entries (entries_of one.front));
  first = one.first;
  more = one.more;
  begins = one.begins;
  first_is = one.first_is;
  count_behind = one.count_behind;
  weight_behind = one.weight_behind;
  rest = one.rest;
}

page_of_first : (count weight number : ℕ) (es : Entries) (ps : List RunPage) → 1 ≤ length es
    → ((before : List Fence) (fence : Fence) (behind : List Fence) → fences_from (count + length es) (weight + entries_weight es) ps ≡ before ++ fence ∷ behind → PageOf (count + length es) (weight + entries_weight es) ps before fence behind)
    → (before : List Fence) (fence : Fence) (behind : List Fence) → fence_of count weight number es ++ fences_from (count + length es) (weight + entries_weight es) ps ≡ before ++ fence ∷ behind
    → PageOf count weight (record { number = number; entries = es } ∷ ps) before fence behind
page_of_first count weight number [] ps some later before fence behind is = absurd (omega (arith, some))
page_of_first count weight number (e ∷ es) ps some later [] fence behind is =
    first_page count weight number e es ps fence (cc) (count + length (e ∷ es)) (weight + entries_weight (e ∷ es)) behind (cc)
page_of_first count weight number (e ∷ es) ps some later (b ∷ bs) fence behind is = later_page count weight (record { number = number; entries = e ∷ es }) ps b bs fence behind (later bs fence behind (cc))

pub page_of_fence : (sizes : Sizes) (file : List ℕ) (count weight : ℕ) (pages : List RunPage) (end : Option ℕ) → AreChained sizes pages end file
    → (before : List Fence) (fence : Fence) (behind : List Fence) → fences_from count weight pages ≡ before ++ fence ∷ behind → PageOf count weight pages before fence behind
page_of_fence sizes file count weight [] end chain before fence behind is = absurd (omega (arith, ap (length {A = Fence}) is, length-append before (fence ∷ behind)))
page_of_fence sizes file count weight (p ∷ ps) end chain before fence behind is =
    let some = chain.1.content.head.some in
    page_of_first count weight p.number p.entries ps some (page_of_fence sizes file (count + length p.entries) (weight + entries_weight p.entries) ps end chain.2) before fence behind is

-- ---- the run from that page on

apart_behind : (ps qs : List RunPage) → IsDistinct nat_eq (numbers_of (ps ++ qs)) → IsDistinct nat_eq (numbers_of qs)
unfolding IsDistinct
apart_behind [] qs apart = apart
apart_behind (p ∷ ps) qs apart = apart_behind ps qs apart.1

-- the entries before the page are below a key that isn't below its first one
pub front_below : (key : Key) (count weight : ℕ) (pages : List RunPage) (before : List Fence) (fence : Fence) (behind : List Fence) → (at : PageOf count weight pages before fence behind) → key_cmp key fence.first ≢ Less
    → AreRising (entries_of at.front ++ (at.page.entries ++ entries_of at.back)) → AllByRecursion (λ (x : Key × Rec). key_cmp x.0 key ≡ Less) (entries_of at.front)
front_below key count weight pages before fence behind at not_below rise =
    below_key key at.first (at.more ++ entries_of at.back) (entries_of at.front) (λ less. not_below (subst (λ (k : Key). key_cmp key k ≡ Less) at.first_is less))
    (rising_apart (entries_of at.front) (at.first ∷ (at.more ++ entries_of at.back)) (subst (λ (l : Entries). AreRising (entries_of at.front ++ (l ++ entries_of at.back))) at.begins rise))

pub all_parts : (count weight : ℕ) (pages : List RunPage) (before : List Fence) (fence : Fence) (behind : List Fence) → (at : PageOf count weight pages before fence behind)
    → entries_of pages ≡ entries_of at.front ++ (at.page.entries ++ entries_of at.back)
all_parts count weight pages before fence behind at = ap entries_of at.parts ∙ entries_join at.front (at.page ∷ at.back)

from_page : (sizes : Sizes) (key : Key) (run : Component) (pages : List RunPage) (next : Option ℕ) (file : List ℕ) (before : List Fence) (fence : Fence) (behind : List Fence) → ReadsOn sizes run pages next file
    → key_cmp key fence.first ≢ Less → PageOf 0 0 pages before fence behind → ReadsFrom sizes key (from_fence (length before) fence run) pages next file
from_page sizes key run pages next file before fence behind reads not_below at =
    let ahead = at.page ∷ at.back in
    let all = all_parts 0 0 pages before fence behind at in
    let rise : AreRising (entries_of at.front ++ entries_of ahead) = subst AreRising all reads.rise in
    record {
      before = at.front;
      ahead = ahead;
      parts = at.parts;
      below = front_below key 0 0 pages before fence behind at not_below rise;
      reads = record {
        first_is = at.number;
        chained = (chain_split sizes at.front ahead next file (subst (λ (ps : List RunPage). AreChained sizes ps next file) at.parts reads.chained)).1;
        rise = rise_back (entries_of at.front) (entries_of ahead) rise;
        apart = apart_behind at.front ahead (subst (λ (ps : List RunPage). IsDistinct nat_eq (numbers_of ps)) at.parts reads.apart);
        pages_is = omega (arith, reads.pages_is, ap (length {A = RunPage}) at.parts, length-append at.front ahead, at.as_many);
        entries_is = omega (arith, reads.entries_is, ap (length {A = Key × Rec}) all, length-append (entries_of at.front) (entries_of ahead), at.count_is);
        weight_is = omega (arith, reads.weight_is, ap entries_weight all, weight_join (entries_of at.front) (entries_of ahead), at.weight_is);
      };
    }

whole : (sizes : Sizes) (key : Key) (run : Component) (pages : List RunPage) (next : Option ℕ) (file : List ℕ) → ReadsOn sizes run pages next file → ReadsFrom sizes key run pages next file
whole sizes key run pages next file reads = record { before = []; ahead = pages; parts = refl; below = tt; reads = reads }

pub part_reads : (sizes : Sizes) (key : Key) (fences : List Fence) (run part : Component) (pages : List RunPage) (next : Option ℕ) (file : List ℕ) → IsPartFrom key fences run part → AreFencesOf fences pages
    → ReadsOn sizes run pages next file → ReadsFrom sizes key part pages next file
part_reads sizes key fences run part pages next file (inl none) are reads =
    subst (λ (c : Component). ReadsFrom sizes key c pages next file) (sym none.1) (whole sizes key run pages next file reads)
part_reads sizes key fences run part pages next file (inr (page, place, inside, outside)) are reads =
    elim (cases_lt (length place.before) run.pages) [
      | inl lt ↦
          let are_these = are (λ none. omega (arith, lt, reads.pages_is, ap (length {A = RunPage}) none)) in
          let at = page_of_fence sizes file 0 0 pages next reads.chained place.before place.fence place.behind (sym are_these ∙ place.parts) in
          subst (λ (c : Component). ReadsFrom sizes key c pages next file) (sym (inside lt)) (from_page sizes key run pages next file place.before place.fence place.behind reads place.not_below at)
      | inr ge ↦ subst (λ (c : Component). ReadsFrom sizes key c pages next file) (sym (outside (omega (arith, ge)))) (whole sizes key run pages next file reads)
    ]

-- ---- its numbers

pub part_few : (key : Key) (fences : List Fence) (run part : Component) → IsPartFrom key fences run part → part.pages ≤ run.pages
part_few key fences run part (inl none) = omega (arith, ap (λ (c : Component). c.pages) none.1)
part_few key fences run part (inr (page, place, inside, outside)) =
    elim (cases_lt (length place.before) run.pages) [
      | inl lt ↦ omega (arith, ap (λ (c : Component). c.pages) (inside lt))
      | inr ge ↦ omega (arith, ap (λ (c : Component). c.pages) (outside (omega (arith, ge))))
    ]

pub part_none : (key : Key) (fences : List Fence) (run part : Component) → IsPartFrom key fences run part → part.pages ≡ 0 → part ≡ run
part_none key fences run part (inl none) no_pages = none.1
part_none key fences run part (inr (page, place, inside, outside)) no_pages =
    elim (cases_lt (length place.before) run.pages) [
      | inl lt ↦ absurd (omega (arith, lt, no_pages, ap (λ (c : Component). c.pages) (inside lt)))
      | inr ge ↦ outside (omega (arith, ge))
    ]

-- ---- the numbers of its pages

named_page : (count weight number : ℕ) (es : Entries) (fences : List Fence) (numbers : List ℕ) → 1 ≤ length es → map (λ (f : Fence). f.page) fences ≡ numbers
    → map (λ (f : Fence). f.page) (fence_of count weight number es ++ fences) ≡ number ∷ numbers
named_page count weight number [] fences numbers some is = absurd (omega (arith, some))
named_page count weight number (e ∷ es) fences numbers some is = ap (λ (ns : List ℕ). number ∷ ns) is

-- the fences of pages name these
pub named_from : (sizes : Sizes) (file : List ℕ) (count weight : ℕ) (pages : List RunPage) (end : Option ℕ) → AreChained sizes pages end file
    → map (λ (f : Fence). f.page) (fences_from count weight pages) ≡ numbers_of pages
named_from sizes file count weight [] end chain = refl
named_from sizes file count weight (p ∷ ps) end chain =
    named_page count weight p.number p.entries (fences_from (count + length p.entries) (weight + entries_weight p.entries) ps) (numbers_of ps)
    chain.1.content.head.some (named_from sizes file (count + length p.entries) (weight + entries_weight p.entries) ps end chain.2)

fences_many : (sizes : Sizes) (file : List ℕ) (count weight : ℕ) (pages : List RunPage) (end : Option ℕ) → AreChained sizes pages end file
    → length (fences_from count weight pages) ≡ length pages
fences_many sizes file count weight [] end chain = refl
fences_many sizes file count weight (p ∷ ps) end chain =
    one (fences_from (count + length p.entries) (weight + entries_weight p.entries) ps) p.entries chain.1.content.head.some
    (fences_many sizes file (count + length p.entries) (weight + entries_weight p.entries) ps end chain.2)
  where
    one : (fences : List Fence) (es : Entries) → 1 ≤ length es → length fences ≡ length ps → length (fence_of count weight p.number es ++ fences) ≡ length (p ∷ ps)
    one fences [] some is = absurd (omega (arith, some))
    one fences (e ∷ es) some is = omega (arith, is)

middle : {X : Type 0} (xs ys zs : List X) (m n : ℕ) → m ≡ length xs → n ≡ length ys → take n (drop m ((xs ++ ys) ++ zs)) ≡ ys
middle xs ys zs m n at many =
    (λ i. take (many i) (drop (at i) (append_assoc xs ys zs i))) ∙ ap (take (length ys)) (drop-append_seam xs (ys ++ zs)) ∙ take-append_seam ys zs

take_least : {X : Type 0} (xs : List X) (n k : ℕ) → k ≡ min (length xs) n → take k xs ≡ take n xs
take_least xs n k is =
    elim (cases_lt n (length xs)) [
      | inl lt ↦ ap (λ (m : ℕ). take m xs) (omega (arith, is, lt))
      | inr ge ↦ ap (λ (m : ℕ). take m xs) (omega (arith, is, ge)) ∙ take-length xs ∙ sym (take_all n xs (omega (arith, ge)))
    ]

drop_least : {X : Type 0} (xs : List X) (m k : ℕ) → k ≡ min (length xs) m → drop k xs ≡ drop m xs
drop_least xs m k is =
    elim (cases_lt m (length xs)) [
      | inl lt ↦ ap (λ (n : ℕ). drop n xs) (omega (arith, is, lt))
      | inr ge ↦ ap (λ (n : ℕ). drop n xs) (omega (arith, is, ge)) ∙ drop-length xs ∙ sym (drop_of_length-le xs (omega (arith, ge)))
    ]

-- what two slices give that end where there is no more
pub sliced : {X : Type 0} (xs here : List X) (m n from k : ℕ) → from ≡ min (length xs) m → here ≡ take (length xs - from) (drop from xs)
    → k ≡ min (length here) n → take k here ≡ take n (drop m xs)
sliced xs here m n from k at behind many =
    take_least here n k many
    ∙ ap (take n) (behind ∙ take_all (length xs - from) (drop from xs) (omega (arith, length-drop from xs)) ∙ drop_least xs m from at)

-- so those of a part's pages name its pages, where the fences are those of the run's pages and of others behind
pub part_named : (sizes : Sizes) (fences : List Fence) (run part : Component) (before ahead behind : List RunPage) (next : Option ℕ) (file : List ℕ)
    → fences ≡ fences_of ((before ++ ahead) ++ behind) → ReadsOn sizes run (before ++ ahead) next file → length ahead ≡ part.pages
    → map (λ (f : Fence). f.page) (last_fences run part fences) ≡ numbers_of ahead
part_named sizes fences run part before ahead behind next file are reads many =
    ap (λ (fs : List Fence). map (λ (f : Fence). f.page) (last_fences run part fs)) (are ∙ all)
    ∙ ap (map (λ (f : Fence). f.page)) (middle front here (fences_from c w behind) (run.pages - part.pages) part.pages
    (omega (arith, reads.pages_is, length-append before ahead, many, fences_many sizes file 0 0 before (first_number ahead next) chain.0))
    (omega (arith, many, fences_many sizes file (0 + length (entries_of before)) (0 + entries_weight (entries_of before)) ahead next chain.1)))
    ∙ named_from sizes file (0 + length (entries_of before)) (0 + entries_weight (entries_of before)) ahead next chain.1
  where
    chain : AreChained sizes before (first_number ahead next) file × AreChained sizes ahead next file
    chain = chain_split sizes before ahead next file reads.chained

    front : List Fence
    front = fences_of before

    here : List Fence
    here = fences_from (0 + length (entries_of before)) (0 + entries_weight (entries_of before)) ahead

    c : ℕ
    c = 0 + length (entries_of (before ++ ahead))

    w : ℕ
    w = 0 + entries_weight (entries_of (before ++ ahead))

    all : fences_of ((before ++ ahead) ++ behind) ≡ (front ++ here) ++ fences_from c w behind
    all = fences_join 0 0 (before ++ ahead) behind ∙ ap (λ (fs : List Fence). fs ++ fences_from c w behind) (fences_join 0 0 before ahead)

-- ---- what the calls make

-- the fence of the page that can have the key, and how many stand before it
abbrev pub HasPlace : Key → ℕ → Fence → List Fence → Type 0
HasPlace key before fence fences = (place : IsPlaceOf key fence.page fences) × (place.fence ≡ fence) × (length place.before ≡ before)

pub part_there : (key : Key) (before : ℕ) (fence : Fence) (fences : List Fence) (run : Component) (entries weight : ℕ) → HasPlace key before fence fences → before < run.pages
    → entries ≡ run.entries - fence.entries → weight ≡ run.weight - fence.weight
    → IsPartFrom key fences run (record { first = fence.page; pages = run.pages - before; entries = entries; weight = weight })
part_there key before fence fences run entries weight (place, is, many) inside entries_is weight_is =
    let back = sym is in
    let left = entries_is ∙ ap (λ (f : Fence). run.entries - f.entries) back in
    let light = weight_is ∙ ap (λ (f : Fence). run.weight - f.weight) back in
    let pages : run.pages - before ≡ run.pages - length place.before = ap (λ n. run.pages - n) (sym many) in
    inr (fence.page, place, λ lt i. record { first = (back i).page; pages = pages i; entries = left i; weight = light i }, λ ge. absurd (omega (arith, inside, many, ge)))

pub part_behind : (key : Key) (before : ℕ) (fence : Fence) (fences : List Fence) (run : Component) → HasPlace key before fence fences → run.pages ≤ before → IsPartFrom key fences run run
part_behind key before fence fences run (place, is, many) outside = inr (fence.page, place, λ lt. absurd (omega (arith, outside, many, lt)), λ ge. refl)
