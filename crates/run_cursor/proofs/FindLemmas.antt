-- What some entries say of a key whose list they are part of: those that are left of a page, and those of the one page that its fences name.
use Rattle.std.proofs.lemmas.Bool.Decides.{nat_tests}
use Rattle.std.proofs.lemmas.Grind.{common_steps}
use Rattle.std.proofs.Common.{◌≡◌, ◌≢◌, ℕ, ◌+◌, ◌<◌, ◌≤◌, Bool, true, false, List, [], ◌∷◌, ◌++◌, length, Option, Some, None, Result, Ok, Err, IfOk, refl, ap, sym, subst, ◌∙◌, arith}
use Rattle.std.specs.Prelude.{cond}
use Rattle.std.specs.FinMap.{find as find_in}
use Rattle.std.specs.List.{AllByRecursion, Contains, between}
use Rattle.std.specs.List.Sorted.{IsStrictlySortedBy}
use Rattle.std.specs.Ordering.{is_eq, ordering_reverse}
use Rattle.std.specs.declared.cmp.Ordering.{Ordering}
use Rattle.std.specs.declared.cmp.Ordering.TheVariants.{Less, Equal, Greater}
use Rattle.std.proofs.lemmas.Bool.{false≢true}
use Rattle.std.proofs.lemmas.Cmp.{nat_list_cmp_total}
use Rattle.std.proofs.lemmas.List.{map-append}
use Rattle.std.proofs.lemmas.List.Elements.{All-cons, All-head, All-nil, All-tail, Contains-append_left, Contains-append_right}
use Rattle.blsm_model.specs.declared.component.Component.{Component}
use Rattle.blsm_model.specs.declared.key.Key.{Key}
use Rattle.blsm_model.specs.Keys.{key_cmp}
use Rattle.blsm_model.specs.Sizes.{Sizes}
use Rattle.blsm_model.specs.Components.{no_page}
use Rattle.blsm_model.specs.Geometry.{page_count}
use Rattle.bloom_bits.specs.BitSet.{BitState}
use Rattle.bloom_bits.specs.declared.fences.Fence.{Fence}
use Rattle.bloom_bits.specs.Fences.{FencesState, IsBelowAll, IsPlaceOf}
use Rattle.bloom_bits.specs.Filter.{MayHave}
use Rattle.bloom_bits.specs.Guides.{fence_of, fences_from, fences_of}
use Rattle.bloom_bits.proofs.PartLemmas.{all_parts, fences_join, front_below, page_of_fence, tied}
use Rattle.record_delta.specs.declared.record.Rec.{Rec}
use Rattle.record_delta.specs.Entries.{Entries, entries_weight}
use Rattle.entry_codec.specs.Spelling.{BeginsWith}
use Rattle.page_file.specs.Entry.{IsPageEntry, entries_bytes, AreEntries, AreRising, keys_of}
use Rattle.page_file.specs.declared.file.Broken.{Broken}
use Rattle.page_file.specs.declared.file.Broken.TheVariants.{Fault, Damaged}
use Rattle.page_file.specs.Page.{IsPageOf, used_by}
use Rattle.page_file.proofs.PageLemmas.{page_same}
use Rattle.page_file.specs.File.{page_at}
use Rattle.page_file.specs.Component.{RunPage, AreChained, entries_of, first_number}
use Rattle.page_file.proofs.ComponentLemmas.{chain_split, entries_join, rise_back}
use Rattle.run_cursor.specs.Below.{BeginsBelow, NoneBelow}
use Rattle.run_cursor.specs.Lookup.{IsAsked, IsDamaged, IsFoundBy, IsOnPage}
use Rattle.run_cursor.proofs.CursorLemmas.{same_first, on_page}

-- ---- the order of keys

-- a key that is below all of a list's isn't among them
none_below : (key : Key) (es : Entries) → AllByRecursion (λ (k : Key). key_cmp key k ≡ Less) (keys_of es) → find_in key_cmp key es ≡ None
none_below key [] below = refl
none_below key (e ∷ es) below = ap (λ o. cond (is_eq o) (Some e.1) (find_in key_cmp key es)) below.0 ∙ none_below key es below.1

below_all : (key low : Key) (keys : List Key) → key_cmp key low ≡ Less → AllByRecursion (λ (k : Key). key_cmp low k ≡ Less) keys → AllByRecursion (λ (k : Key). key_cmp key k ≡ Less) keys
below_all key low [] less above = tt
below_all key low (k ∷ keys) less above = (nat_list_cmp_total.trans key low k less above.0, below_all key low keys less above.1)

-- nor where it is below the first
below_first : (key : Key) (e : Key × Rec) (es : Entries) → AreRising (e ∷ es) → key_cmp key e.0 ≡ Less → find_in key_cmp key (e ∷ es) ≡ None
unfolding IsStrictlySortedBy
below_first key e es rise less = none_below key (e ∷ es) (less, below_all key e.0 (keys_of es) less rise.0)

rising_tail : (e : Key × Rec) (es : Entries) → AreRising (e ∷ es) → AreRising es
unfolding IsStrictlySortedBy
rising_tail e es rise = rise.1

-- a key that is above some entries has the record that it has among those behind them
abbrev pub IsAbove : Key → Entries → Type 0
IsAbove key entries = AllByRecursion (λ (e : Key × Rec). key_cmp key e.0 ≡ Greater) entries

past : (key : Key) (front back : Entries) → IsAbove key front → find_in key_cmp key (front ++ back) ≡ find_in key_cmp key back
past key [] back above = refl
past key (e ∷ es) back above = ap (λ o. cond (is_eq o) (Some e.1) (find_in key_cmp key (es ++ back))) above.0 ∙ past key es back above.1

-- one that isn't among those behind has the one that it has among those in front
before : (key : Key) (front back : Entries) → find_in key_cmp key back ≡ None → find_in key_cmp key (front ++ back) ≡ find_in key_cmp key front
before key [] back none = none
before key (e ∷ es) back none = ap (λ r. cond (is_eq (key_cmp key e.0)) (Some e.1) r) (before key es back none)

-- ---- what is left of a page

-- these entries have the bytes that are left, and the record that the list has of the key
pub record Left (key : Key) (entries : Entries) (rest : List ℕ) : Type 0 where
  pub left : Entries
  pub each : AreEntries left
  pub rise : AreRising left
  pub rest_is : rest ≡ entries_bytes left
  pub same : find_in key_cmp key entries ≡ find_in key_cmp key left

pub all_left : (key : Key) (entries : Entries) (bytes : List ℕ) → AreEntries entries → AreRising entries → bytes ≡ entries_bytes entries → Left key entries bytes
all_left key entries bytes each rise is = record { left = entries; each = each; rise = rise; rest_is = is; same = refl }

pub one_fewer : (key : Key) (entries : Entries) (rest behind : List ℕ) (len : ℕ) → Left key entries rest → BeginsBelow key rest len behind → Left key entries behind
one_fewer key entries rest behind len l b =
    let f = same_first l.left b.entry behind l.each b.right (sym l.rest_is ∙ b.parts) in
    record {
      left = f.more;
      each = All-tail IsPageEntry b.entry f.more (subst AreEntries f.here_is l.each);
      rise = rising_tail b.entry f.more (subst AreRising f.here_is l.rise);
      rest_is = f.rest_is;
      same = l.same ∙ ap (find_in key_cmp key) f.here_is ∙ ap (λ o. cond (is_eq o) (Some b.entry.1) (find_in key_cmp key f.more)) b.above;
    }

-- where no entry is at the front, none is left
pub left_none : (key : Key) (entries : Entries) (rest : List ℕ) → Left key entries rest → ((k : Key) (r : Rec) → BeginsWith rest k r → ⊥) → None ≡ find_in key_cmp key entries
left_none key entries rest l none = sym (l.same ∙ nothing l.left l.each l.rest_is)
  where
    nothing : (left : Entries) → AreEntries left → rest ≡ entries_bytes left → find_in key_cmp key left ≡ None
    nothing [] each is = refl
    nothing (e ∷ es) each is = absurd (none e.0 e.1 (record { entry = All-head IsPageEntry e es each; rest = entries_bytes es; parts = is }))

-- where one is, which the key isn't above, it is the key's or there is none
pub record Decides (key : Key) (entries : Entries) (found : Key) (rec : Rec) : Type 0 where
  pub here : key_cmp key found ≡ Equal → Some rec ≡ find_in key_cmp key entries
  pub absent : (key_cmp key found ≢ Equal) → None ≡ find_in key_cmp key entries

pub first_decides : (key : Key) (entries : Entries) (rest : List ℕ) (found : Key) (rec : Rec) → Left key entries rest → NoneBelow key rest → BeginsWith rest found rec → Decides key entries found rec
first_decides key entries rest found rec l none b =
    let f = same_first l.left (found, rec) b.rest l.each b.entry (sym l.rest_is ∙ b.parts) in
    let same : find_in key_cmp key entries ≡ find_in key_cmp key ((found, rec) ∷ f.more) = l.same ∙ ap (find_in key_cmp key) f.here_is in
    record {
      here = λ equal. sym (same ∙ ap (λ o. cond (is_eq o) (Some rec) (find_in key_cmp key f.more)) equal);
      absent = λ other. sym (same ∙ below_first key (found, rec) f.more (subst AreRising f.here_is l.rise) (less other (none (found, rec) b.rest b.entry b.parts)));
    }
  where
    by : (o : Ordering) → o ≢ Equal → o ≢ Greater → o ≡ Less
    by o h1 h2 = grind (arith, common_steps, nat_tests)

    less : key_cmp key found ≢ Equal → key_cmp key found ≢ Greater → key_cmp key found ≡ Less
    less equal greater = by (key_cmp key found) equal greater

-- ---- the page that the fences name

-- a key that no entry has isn't found
pub not_found : (key : Key) (es : Entries) → (Contains (keys_of es) key → ⊥) → find_in key_cmp key es ≡ None
not_found key [] none = refl
not_found key (e ∷ es) none =
    elim (key_cmp key e.0) as (λ o. key_cmp key e.0 ≡ o → cond (is_eq o) (Some e.1) (find_in key_cmp key es) ≡ None) [
      | Less ↦ λ is. not_found key es (λ has. none (Contains-append_right (e.0 ∷ []) (keys_of es) key has))
      | Equal ↦ λ is. absurd (none (subst (Contains (e.0 ∷ keys_of es)) (sym (tied key e.0 is)) (Contains-append_left (e.0 ∷ []) (keys_of es) e.0 (0, omega arith, refl))))
      | Greater ↦ λ is. not_found key es (λ has. none (Contains-append_right (e.0 ∷ []) (keys_of es) key has))
    ] refl

-- a page of the list has this number, and the list's record of the key
pub record OnPage (sizes : Sizes) (key : Key) (n : ℕ) (pages : List RunPage) (file : List ℕ) : Type 0 where
  pub next : Option ℕ
  pub entries : Entries
  pub inside : n < page_count sizes
  pub valid : IsPageOf (page_count sizes) next entries (page_at sizes n file)
  pub same : find_in key_cmp key (entries_of pages) ≡ find_in key_cmp key entries

-- entries below a key, which is above them
greater : (key : Key) (xs : Entries) → AllByRecursion (λ (x : Key × Rec). key_cmp x.0 key ≡ Less) xs → IsAbove key xs
greater key [] below = tt
greater key (x ∷ xs) below = (nat_list_cmp_total.antisymm key x.0 ∙ ap ordering_reverse below.0, greater key xs below.1)

-- ---- where no fence isn't above the key

none_on_page : (key : Key) (count weight number : ℕ) (es rest : Entries) (fences : List Fence) → 1 ≤ length es → AreRising (es ++ rest) → IsBelowAll key (fence_of count weight number es ++ fences)
    → find_in key_cmp key (es ++ rest) ≡ None
none_on_page key count weight number [] rest fences some rise below = absurd (omega (arith, some))
none_on_page key count weight number (e ∷ es) rest fences some rise below =
    below_first key e (es ++ rest) rise (All-head (λ (f : Fence). key_cmp key f.first ≡ Less) (record { first = e.0; page = number; entries = count; weight = weight }) fences below)

none_from : (sizes : Sizes) (key : Key) (file : List ℕ) (count weight : ℕ) (pages : List RunPage) (end : Option ℕ) → AreChained sizes pages end file → AreRising (entries_of pages)
    → IsBelowAll key (fences_from count weight pages) → find_in key_cmp key (entries_of pages) ≡ None
none_from sizes key file count weight [] end chain rise below = refl
none_from sizes key file count weight (p ∷ ps) end chain rise below =
    let some = chain.1.content.head.some in
    none_on_page key count weight p.number p.entries (entries_of ps) (fences_from (count + length p.entries) (weight + entries_weight p.entries) ps) some rise below

pub none_on : (sizes : Sizes) (key : Key) (file : List ℕ) (pages : List RunPage) (end : Option ℕ) → AreChained sizes pages end file → AreRising (entries_of pages) → IsBelowAll key (fences_of pages)
    → find_in key_cmp key (entries_of pages) ≡ None
none_on sizes key file pages end chain rise below = none_from sizes key file 0 0 pages end chain rise below

-- ---- where one is the last that isn't

pub on_page_of : (sizes : Sizes) (key : Key) (n : ℕ) (file : List ℕ) (pages : List RunPage) (end : Option ℕ) → AreChained sizes pages end file → AreRising (entries_of pages) → IsPlaceOf key n (fences_of pages)
    → OnPage sizes key n pages file
on_page_of sizes key n file pages end chain rise place =
    let at = page_of_fence sizes file 0 0 pages end chain place.before place.fence place.behind place.parts in
    let all = all_parts 0 0 pages place.before place.fence place.behind at in
    let rising : AreRising (entries_of at.front ++ (at.page.entries ++ entries_of at.back)) = subst AreRising all rise in
    let from = (chain_split sizes at.front (at.page ∷ at.back) end file (subst (λ (ps : List RunPage). AreChained sizes ps end file) at.parts chain)).1 in
    let number : at.page.number ≡ n = at.number ∙ place.is_page in
    let none = none_from sizes key file at.count_behind at.weight_behind at.back end from.2 (rise_back at.page.entries (entries_of at.back) (rise_back (entries_of at.front) (at.page.entries ++ entries_of at.back) rising))
    (subst (IsBelowAll key) (sym at.rest) place.below_others) in
    record {
      next = first_number at.back end;
      entries = at.page.entries;
      inside = subst (λ m. m < page_count sizes) number from.0;
      valid = subst (λ m. IsPageOf (page_count sizes) (first_number at.back end) at.page.entries (page_at sizes m file)) number from.1;
      same = ap (find_in key_cmp key) all
          ∙ past key (entries_of at.front) (at.page.entries ++ entries_of at.back) (greater key (entries_of at.front) (front_below key 0 0 pages place.before place.fence place.behind at place.not_below rising))
          ∙ before key at.page.entries (entries_of at.back) none;
    }

-- ---- a front of the pages

below_front : (key : Key) (fs gs : List Fence) → IsBelowAll key (fs ++ gs) → IsBelowAll key fs
below_front key [] gs below = All-nil (λ (f : Fence). key_cmp key f.first ≡ Less)
below_front key (f ∷ fs) gs below =
    let P = λ (x : Fence). key_cmp key x.first ≡ Less in
    All-cons P f fs (All-head P f (fs ++ gs) below) (below_front key fs gs (All-tail P f (fs ++ gs) below))

below_one : (key : Key) (before : List Fence) (f : Fence) (behind : List Fence) → IsBelowAll key (before ++ f ∷ behind) → key_cmp key f.first ≡ Less
below_one key [] f behind below = All-head (λ (x : Fence). key_cmp key x.first ≡ Less) f behind below
below_one key (b ∷ bs) f behind below = below_one key bs f behind (All-tail (λ (x : Fence). key_cmp key x.first ≡ Less) b (bs ++ f ∷ behind) below)

place_later : (key : Key) (n : ℕ) (f : Fence) (fs : List Fence) → IsPlaceOf key n fs → IsPlaceOf key n (f ∷ fs)
place_later key n f fs place = record {
  before = f ∷ place.before;
  fence = place.fence;
  behind = place.behind;
  parts = ap (λ (l : List Fence). f ∷ l) place.parts;
  is_page = place.is_page;
  not_below = place.not_below;
  below_others = place.below_others;
}

-- the page that is named for a key that is below those of the other pages is one of the front
place_front : (key : Key) (n : ℕ) (fs gs before : List Fence) (fence : Fence) (behind : List Fence) → fs ++ gs ≡ before ++ fence ∷ behind → fence.page ≡ n → key_cmp key fence.first ≢ Less → IsBelowAll key behind
    → IsBelowAll key gs → IsPlaceOf key n fs
place_front key n [] gs before fence behind parts page not_below below below_gs = absurd (not_below (below_one key before fence behind (subst (IsBelowAll key) parts below_gs)))
place_front key n (f ∷ fs) gs [] fence behind parts page not_below below below_gs =
    let f_is : f ≡ fence = cc in
    let rest_is : fs ++ gs ≡ behind = cc in
    record {
      before = [];
      fence = fence;
      behind = fs;
      parts = ap (λ (x : Fence). x ∷ fs) f_is;
      is_page = page;
      not_below = not_below;
      below_others = below_front key fs gs (subst (IsBelowAll key) (sym rest_is) below);
    }
place_front key n (f ∷ fs) gs (b ∷ bs) fence behind parts page not_below below below_gs = place_later key n f fs (place_front key n fs gs bs fence behind (cc) page not_below below below_gs)

-- a key is below first keys, whatever stands before their pages
below_page : (key : Key) (count weight c w number : ℕ) (es : Entries) (fs gs : List Fence) → (IsBelowAll key fs → IsBelowAll key gs) → IsBelowAll key (fence_of count weight number es ++ fs)
    → IsBelowAll key (fence_of c w number es ++ gs)
below_page key count weight c w number [] fs gs more below = more below
below_page key count weight c w number (e ∷ es) fs gs more below =
    let P = λ (f : Fence). key_cmp key f.first ≡ Less in
    let fence : Fence = record { first = e.0; page = number; entries = count; weight = weight } in
    All-cons P (record { first = e.0; page = number; entries = c; weight = w }) gs (All-head P fence fs below) (more (All-tail P fence fs below))

below_from : (key : Key) (count weight c w : ℕ) (pages : List RunPage) → IsBelowAll key (fences_from count weight pages) → IsBelowAll key (fences_from c w pages)
below_from key count weight c w [] below = below
below_from key count weight c w (p ∷ ps) below =
    below_page key count weight c w p.number p.entries (fences_from (count + length p.entries) (weight + entries_weight p.entries) ps) (fences_from (c + length p.entries) (w + entries_weight p.entries) ps)
    (below_from key (count + length p.entries) (weight + entries_weight p.entries) (c + length p.entries) (w + entries_weight p.entries) ps) below

pub place_in_front : (key : Key) (n : ℕ) (pages behind : List RunPage) → IsPlaceOf key n (fences_of (pages ++ behind)) → IsBelowAll key (fences_of behind) → IsPlaceOf key n (fences_of pages)
place_in_front key n pages behind place below =
    let count = 0 + length (entries_of pages) in
    let weight = 0 + entries_weight (entries_of pages) in
    place_front key n (fences_of pages) (fences_from count weight behind) place.before place.fence place.behind (sym (fences_join 0 0 pages behind) ∙ place.parts) place.is_page place.not_below place.below_others
    (below_from key 0 0 count weight behind below)

pub none_in_front : (key : Key) (pages behind : List RunPage) → IsBelowAll key (fences_of (pages ++ behind)) → IsBelowAll key (fences_of pages)
none_in_front key pages behind below =
    below_front key (fences_of pages) (fences_from (0 + length (entries_of pages)) (0 + entries_weight (entries_of pages)) behind) (subst (IsBelowAll key) (fences_join 0 0 pages behind) below)

pub keys_in_front : (key : Key) (pages behind : List RunPage) → Contains (keys_of (entries_of pages)) key → Contains (keys_of (entries_of (pages ++ behind))) key
keys_in_front key pages behind has =
    subst (λ (es : Entries). Contains (keys_of es) key) (sym (entries_join pages behind))
    (subst (λ (ks : List Key). Contains ks key) (sym (map-append (λ (e : Key × Rec). e.0) (entries_of pages) (entries_of behind)))
    (Contains-append_left (keys_of (entries_of pages)) (keys_of (entries_of behind)) key has))

pub some_front : (pages behind : List RunPage) → (pages ≡ [] → ⊥) → pages ++ behind ≡ [] → ⊥
some_front [] behind some none = some refl
some_front (p ∷ ps) behind some none = cc

-- ---- what a lookup answers

eq_is : (o : Ordering) → is_eq o ≡ true → o ≡ Equal
eq_is o h1 = grind (arith, common_steps, nat_tests)

pub same_key : (key found : Key) (order : Ordering) (test : Bool) → order ≡ key_cmp key found → test ≡ is_eq order → test ≡ true → key_cmp key found ≡ Equal
same_key key found order test is tests holds = eq_is (key_cmp key found) (ap is_eq (sym is) ∙ sym tests ∙ holds)

pub other_key : (key found : Key) (order : Ordering) (test : Bool) → order ≡ key_cmp key found → test ≡ is_eq order → test ≡ false → key_cmp key found ≢ Equal
other_key key found order test is tests fails equal = false≢true (sym fails ∙ tests ∙ ap is_eq (is ∙ equal))

pub no_pages : (key : Key) (pages : List RunPage) (n : ℕ) → length pages ≡ n → n ≡ 0 → find_in key_cmp key (entries_of pages) ≡ None
no_pages key pages n h1 h2 = grind (arith, common_steps, nat_tests)

pub some_pages : (pages : List RunPage) (n : ℕ) → length pages ≡ n → (n ≡ 0 → ⊥) → pages ≡ [] → ⊥
some_pages pages n long some none = some (sym long ∙ ap (length {A = RunPage}) none)

-- the answer of the page that the fences name is the list's
pub listed : (H : Type 0) (sizes : Sizes) (key : Key) (n : ℕ) (pages : List RunPage) (file : List ℕ) (result : Result (Option Rec) Broken) → H → page_count sizes ≤ no_page → OnPage sizes key n pages file
    → IfOk result (λ found. H → IsOnPage sizes n key found file)
    → ((m : ℕ) → result ≡ Err (Damaged m) → H → (m ≡ n) × ((next : Option ℕ) (entries : Entries) → n < page_count sizes → IsPageOf (page_count sizes) next entries (page_at sizes n file) → ⊥))
    → result ≢ Err Fault → result ≡ Ok (find_in key_cmp key (entries_of pages))
listed H sizes key n pages file result h1 h2 h3 h4 h5 h6 = grind (arith, common_steps, nat_tests, page_same)

-- ---- whatever filter and fences are

pub asked_on : (run : Component) (filter : BitState) (fences : FencesState) (key : Key) (n : ℕ) → (run.pages ≡ 0 → ⊥) → MayHave filter key → IsPlaceOf key n fences.list
    → IsAsked run filter fences key n
asked_on run filter fences key n some may place = record { pages = some; yes = may; place = place }

-- what the page says that is asked was found
pub asked_told : (H : Type 0) (sizes : Sizes) (run : Component) (filter : BitState) (fences : FencesState) (key : Key) (n calls : ℕ) (file : List ℕ) (result : Result (Option Rec) Broken) → IsAsked run filter fences key n → calls ≤ 1
    → IfOk result (λ found. H → IsOnPage sizes n key found file) → IfOk result (λ found. H → IsFoundBy sizes run filter fences key found calls file)
asked_told H sizes run filter fences key n calls file result h1 h2 h3 = grind (arith, common_steps, nat_tests)

-- the page is the one that is asked, so it is damaged
pub asked_damaged : (sizes : Sizes) (run : Component) (filter : BitState) (fences : FencesState) (key : Key) (m n : ℕ) (file : List ℕ) → m ≡ n → IsAsked run filter fences key n
    → ((next : Option ℕ) (entries : Entries) → n < page_count sizes → IsPageOf (page_count sizes) next entries (page_at sizes n file) → ⊥) → IsDamaged sizes run filter fences key m file
asked_damaged sizes run filter fences key m n file is asked damaged = subst (λ (p : ℕ). IsDamaged sizes run filter fences key p file) (sym is) (record { asked = asked; damaged = damaged })

-- the page's answer, where its entries' bytes were looked through
pub on_this : (sizes : Sizes) (n : ℕ) (key : Key) (found : Option Rec) (file page : List ℕ) (used : ℕ) (next : Option ℕ) (entries : Entries) → n < page_count sizes → IsPageOf (page_count sizes) next entries page → page ≡ page_at sizes n file
    → used ≡ used_by entries → ((es : Entries) → AreEntries es → AreRising es → between 8 (8 + used) page ≡ entries_bytes es → found ≡ find_in key_cmp key es) → IsOnPage sizes n key found file
on_this sizes n key found file page used next entries inside valid reads used_is looked = record {
  next = next;
  entries = entries;
  inside = inside;
  valid = subst (IsPageOf (page_count sizes) next entries) reads valid;
  found_is = looked entries valid.content.each valid.content.rise (ap (λ u. between 8 (8 + u) page) used_is ∙ on_page (page_count sizes) next entries page valid);
}
