-- How filter and fences grow with the pages of a run that are read.
use Rattle.std.proofs.Common.{◌≡◌, ◌≢◌, ℕ, ◌+◌, ◌<◌, ◌≤◌, List, [], ◌∷◌, ◌++◌, length, drop, Option, Result, Ok, Err, refl, ap, sym, subst, ◌∙◌, append_assoc, length-append, arith}
use Rattle.std.specs.List.{AllByRecursion}
use Rattle.std.specs.declared.cmp.Ordering.TheVariants.{Less}
use Rattle.std.proofs.lemmas.List.{append-nil, drop_at, map-append}
use Rattle.std.proofs.lemmas.List.Elements.{All-append, All-cons, All-head, All-nil, All-tail}
use Rattle.blsm_model.specs.Geometry.{page_count}
use Rattle.blsm_model.specs.Keys.{key_cmp}
use Rattle.blsm_model.specs.Sizes.{Sizes}
use Rattle.blsm_model.specs.declared.component.Component.{Component}
use Rattle.blsm_model.specs.declared.key.Key.{Key}
use Rattle.bloom_bits.specs.BitSet.{BitState}
use Rattle.bloom_bits.specs.declared.fences.Fence.{Fence}
use Rattle.bloom_bits.specs.Fences.{FencesState, IsAboveAll}
use Rattle.bloom_bits.specs.Filter.{HasKeys}
use Rattle.bloom_bits.specs.Guides.{fence_of, fences_from, fences_of, Guide}
use Rattle.bloom_bits.proofs.PartLemmas.{fences_join, rising_apart}
use Rattle.entry_codec.specs.Spelling.{spelling, BeginsWith}
use Rattle.entry_codec.proofs.SpellingLemmas.{length-spelling}
use Rattle.record_delta.specs.declared.record.Rec.{Rec}
use Rattle.record_delta.specs.Entries.{Entries, entries_weight}
use Rattle.record_delta.specs.Records.{weight}
use Rattle.page_file.specs.Component.{RunPage, AreChained, ReadsOn, entries_of, first_number}
use Rattle.page_file.specs.Entry.{IsPageEntry, entry_bytes, entries_bytes, keys_of, AreEntries, AreRising, HasFirstEntry}
use Rattle.page_file.specs.declared.file.Broken.{Broken}
use Rattle.page_file.specs.declared.file.Broken.TheVariants.{Fault, Damaged}
use Rattle.page_file.specs.File.{page_at, TellsPage}
use Rattle.page_file.specs.Page.{page_number, used_by, IsPageOf}
use Rattle.page_file.specs.declared.page.PageHead.{PageHead}
use Rattle.page_file.proofs.ComponentLemmas.{entries_join, weight_is_length, weight_join}
use Rattle.run_cursor.specs.Lookup.{IsFirstAbove}
use Rattle.run_cursor.specs.Rebuild.{place_behind}
use Rattle.run_cursor.specs.declared.guides.Place.{Place}
use Rattle.run_cursor.proofs.CursorLemmas.{same_first}

-- ---- the entry at the front of bytes

pub is_first_entry : (bytes behind : List ℕ) (key : Key) (rec : Rec) (len : ℕ) → BeginsWith bytes key rec → len ≡ weight key rec → behind ≡ drop len bytes → HasFirstEntry bytes key behind
is_first_entry bytes behind key rec len b len_is back =
    let rest : behind ≡ b.rest = back ∙ ap (drop len) b.parts ∙ drop_at (spelling key rec) b.rest len (length-spelling key rec ∙ sym len_is) in
    record { entry = (key, rec); right = b.entry; key_is = refl; parts = b.parts ∙ ap (λ (l : List ℕ). spelling key rec ++ l) (sym rest) }

pub fewer_left : (bytes key rest : List ℕ) → HasFirstEntry bytes key rest → length rest < length bytes
fewer_left bytes key rest h = omega (arith, ap (length {A = ℕ}) h.parts, length-append (entry_bytes h.entry) rest, length-spelling h.entry.0 h.entry.1)

-- where these entries have the bytes it is the first of them
pub first_of_all : (entries : Entries) (bytes key rest : List ℕ) → AreEntries entries → bytes ≡ entries_bytes entries → (h : HasFirstEntry bytes key rest) → (more : Entries) × (entries ≡ h.entry ∷ more)
first_of_all entries bytes key rest each is h = let f = same_first entries h.entry rest each h.right (sym is ∙ h.parts) in (f.more, f.here_is)

pub none_first : (entries : Entries) (bytes : List ℕ) → AreEntries entries → bytes ≡ entries_bytes entries → ((key : Key) (rec : Rec) → BeginsWith bytes key rec → ⊥) → entries ≡ []
none_first [] bytes each is none = refl
none_first (e ∷ es) bytes each is none = absurd (none e.0 e.1 (record { entry = All-head IsPageEntry e es each; rest = entries_bytes es; parts = is }))

-- ---- the keys of a page

-- Some of the entries were given, and the filter has their keys behind those that it had; the others are in the bytes.
pub record Adding (keys : List Key) (entries : Entries) (filter : BitState) (rest : List ℕ) : Type 0 where
  pub given : Entries
  pub left : Entries
  pub parts : entries ≡ given ++ left
  pub each : AreEntries left
  pub rest_is : rest ≡ entries_bytes left
  pub keys_are : HasKeys filter (keys ++ keys_of given)

pub adding_none : (keys : List Key) (entries : Entries) (filter : BitState) (bytes : List ℕ) → HasKeys filter keys → AreEntries entries → bytes ≡ entries_bytes entries → Adding keys entries filter bytes
adding_none keys entries filter bytes has each is = record { given = []; left = entries; parts = refl; each = each; rest_is = is; keys_are = subst (HasKeys filter) (sym (append-nil keys)) has }

keys_push : (given : Entries) (e : Key × Rec) → keys_of given ++ e.0 ∷ [] ≡ keys_of (given ++ e ∷ [])
keys_push given e = sym (map-append (λ (x : Key × Rec). x.0) given (e ∷ []))

pub adding_more : (keys : List Key) (entries : Entries) (filter after : BitState) (rest key behind : List ℕ) → Adding keys entries filter rest → HasFirstEntry rest key behind
    → ((ks : List Key) → HasKeys filter ks → HasKeys after (ks ++ key ∷ [])) → Adding keys entries after behind
adding_more keys entries filter after rest key behind a h adds =
    let f = same_first a.left h.entry behind a.each h.right (sym a.rest_is ∙ h.parts) in
    let keys_are : (keys ++ keys_of a.given) ++ key ∷ [] ≡ keys ++ keys_of (a.given ++ h.entry ∷ []) =
    append_assoc keys (keys_of a.given) (key ∷ []) ∙ ap (λ (l : List Key). keys ++ l) (ap (λ (k : Key). keys_of a.given ++ k ∷ []) (sym h.key_is) ∙ keys_push a.given h.entry) in
    record {
      given = a.given ++ h.entry ∷ [];
      left = f.more;
      parts = a.parts ∙ ap (λ (l : Entries). a.given ++ l) f.here_is ∙ sym (append_assoc a.given (h.entry ∷ []) f.more);
      each = All-tail IsPageEntry h.entry f.more (subst AreEntries f.here_is a.each);
      rest_is = f.rest_is;
      keys_are = subst (HasKeys after) keys_are (adds (keys ++ keys_of a.given) a.keys_are);
    }

pub adding_done : (keys : List Key) (entries : Entries) (filter : BitState) (rest : List ℕ) → Adding keys entries filter rest → ((key : Key) (rec : Rec) → BeginsWith rest key rec → ⊥) → HasKeys filter (keys ++ keys_of entries)
adding_done keys entries filter rest a none =
    let left = none_first a.left rest a.each a.rest_is none in
    subst (λ (es : Entries). HasKeys filter (keys ++ keys_of es)) (sym (a.parts ∙ ap (λ (l : Entries). a.given ++ l) left ∙ append-nil a.given)) a.keys_are

-- ---- its fence

pub above_first : (entries : Entries) (e : Key × Rec) (more : Entries) (fences : List Fence) → entries ≡ e ∷ more → IsFirstAbove entries fences → IsAboveAll e.0 fences
above_first entries e more fences is above = subst (λ (es : Entries). IsFirstAbove es fences) is above

pub above_key : (low key : Key) (fences : List Fence) → low ≡ key → IsAboveAll low fences → IsAboveAll key fences
above_key low key fences is above = subst (λ (k : Key). IsAboveAll k fences) is above

pub fence_first : (at : Place) (entries : Entries) (e : Key × Rec) (more : Entries) (key : Key) → entries ≡ e ∷ more → e.0 ≡ key
    → record { first = key; page = at.page; entries = at.entries; weight = at.weight } ∷ [] ≡ fence_of at.entries at.weight at.page entries
fence_first at entries e more key is key_is = (λ i. record { first = sym key_is i; page = at.page; entries = at.entries; weight = at.weight } ∷ []) ∙ sym (ap (fence_of at.entries at.weight at.page) is)

pub not_none : (entries : Entries) (fences : List Fence) → entries ≡ [] → IsFirstAbove entries fences → ⊥
not_none entries fences is above = subst (λ (es : Entries). IsFirstAbove es fences) is above

-- ---- filter and fences so far

-- So many pages were read, the filter has their keys, and the fences are theirs. The place is behind them: the page of its number comes next, if there is one more.
pub record Building (sizes : Sizes) (count : ℕ) (at : Place) (filter : BitState) (fences : FencesState) (pages : List RunPage) (next : Option ℕ) (file : List ℕ) : Type 0 where
  pub read : List RunPage
  pub coming : List RunPage
  pub parts : pages ≡ read ++ coming
  pub count_is : length read ≡ count
  pub number_is : page_number (first_number coming next) ≡ at.page
  pub entries_is : length (entries_of read) ≡ at.entries
  pub weight_is : entries_weight (entries_of read) ≡ at.weight
  pub chained : AreChained sizes coming next file
  pub keys : HasKeys filter (keys_of (entries_of read))
  pub fences_are : fences.list ≡ fences_of read

-- before the first page
abbrev pub first_place : Component → Place
first_place run = record { page = run.first; entries = 0; weight = 0 }

pub build_none : (sizes : Sizes) (run : Component) (filter : BitState) (fences : FencesState) (pages : List RunPage) (next : Option ℕ) (file : List ℕ) → ReadsOn sizes run pages next file
    → HasKeys filter [] → fences.list ≡ [] → Building sizes 0 (first_place run) filter fences pages next file
build_none sizes run filter fences pages next file reads keys none = record {
  read = [];
  coming = pages;
  parts = refl;
  count_is = refl;
  number_is = reads.first_is;
  entries_is = refl;
  weight_is = refl;
  chained = reads.chained;
  keys = keys;
  fences_are = none;
}

-- where a page is left to be read
pub record Coming (sizes : Sizes) (n : ℕ) (fences : FencesState) (read coming : List RunPage) (next : Option ℕ) (file : List ℕ) : Type 0 where
  pub page : RunPage
  pub more : List RunPage
  pub coming_is : coming ≡ page ∷ more
  pub number_is : page.number ≡ n
  pub inside : n < page_count sizes
  pub valid : IsPageOf (page_count sizes) (first_number more next) page.entries (page_at sizes n file)
  pub chained : AreChained sizes more next file
  pub above : IsFirstAbove page.entries fences.list

fence_below : (low : Key) (count weight number : ℕ) (es : Entries) → AllByRecursion (λ (x : Key × Rec). key_cmp x.0 low ≡ Less) es → IsAboveAll low (fence_of count weight number es)
fence_below low count weight number [] below = All-nil (λ (f : Fence). key_cmp f.first low ≡ Less)
fence_below low count weight number (e ∷ es) below = All-cons (λ (f : Fence). key_cmp f.first low ≡ Less) (record { first = e.0; page = number; entries = count; weight = weight }) [] below.0 (All-nil (λ (f : Fence). key_cmp f.first low ≡ Less))

front_all : {X : Type 0} (P : X → Type 0) (xs ys : List X) → AllByRecursion P (xs ++ ys) → AllByRecursion P xs × AllByRecursion P ys
front_all P [] ys all = (tt, all)
front_all P (x ∷ xs) ys all = let rest = front_all P xs ys all.1 in ((all.0, rest.0), rest.1)

fences_below : (low : Key) (count weight : ℕ) (ps : List RunPage) → AllByRecursion (λ (x : Key × Rec). key_cmp x.0 low ≡ Less) (entries_of ps) → IsAboveAll low (fences_from count weight ps)
fences_below low count weight [] below = All-nil (λ (f : Fence). key_cmp f.first low ≡ Less)
fences_below low count weight (p ∷ ps) below =
    let parts = front_all (λ (x : Key × Rec). key_cmp x.0 low ≡ Less) p.entries (entries_of ps) below in
    let counted = count + length p.entries in
    let weighed = weight + entries_weight p.entries in
    All-append (λ (f : Fence). key_cmp f.first low ≡ Less) (fence_of count weight p.number p.entries) (fences_from counted weighed ps) (fence_below low count weight p.number p.entries parts.0)
    (fences_below low counted weighed ps parts.1)

all_below : (low : Key × Rec) (more : Entries) (xs : Entries) → AllByRecursion (λ (x : Key × Rec). AllByRecursion (λ (y : Key × Rec). key_cmp x.0 y.0 ≡ Less) (low ∷ more)) xs
    → AllByRecursion (λ (x : Key × Rec). key_cmp x.0 low.0 ≡ Less) xs
all_below low more [] all = tt
all_below low more (x ∷ xs) all = (all.0.0, all_below low more xs all.1)

first_is_above : (read : List RunPage) (entries rest : Entries) → 1 ≤ length entries → AreRising (entries_of read ++ (entries ++ rest)) → IsFirstAbove entries (fences_of read)
first_is_above read [] rest some rise = absurd (omega (arith, some))
first_is_above read (e ∷ es) rest some rise = fences_below e.0 0 0 read (all_below e (es ++ rest) (entries_of read) (rising_apart (entries_of read) ((e ∷ es) ++ rest) rise))

pub comes : (sizes : Sizes) (run : Component) (count : ℕ) (at : Place) (filter : BitState) (fences : FencesState) (pages : List RunPage) (next : Option ℕ) (file : List ℕ) → count < run.pages → ReadsOn sizes run pages next file
    → (b : Building sizes count at filter fences pages next file) → Coming sizes at.page fences b.read b.coming next file
comes sizes run count at filter fences pages next file below reads b = by_coming b.coming b.parts b.number_is b.chained
  where
    by_coming : (coming : List RunPage) → pages ≡ b.read ++ coming → page_number (first_number coming next) ≡ at.page → AreChained sizes coming next file → Coming sizes at.page fences b.read coming next file
    by_coming [] parts number chained = absurd (omega (arith, below, reads.pages_is, ap (length {A = RunPage}) parts, length-append b.read [], b.count_is))
    by_coming (p ∷ ps) parts number chained =
        let some = chained.1.content.head.some in
        let entries_are : entries_of pages ≡ entries_of b.read ++ (p.entries ++ entries_of ps) = ap entries_of parts ∙ entries_join b.read (p ∷ ps) in
        record {
          page = p;
          more = ps;
          coming_is = refl;
          number_is = number;
          inside = subst (λ (m : ℕ). m < page_count sizes) number chained.0;
          valid = subst (λ (m : ℕ). IsPageOf (page_count sizes) (first_number ps next) p.entries (page_at sizes m file)) number chained.1;
          chained = chained.2;
          above = subst (IsFirstAbove p.entries) (sym b.fences_are) (first_is_above b.read p.entries (entries_of ps) some (subst AreRising entries_are reads.rise));
        }

pub build_more : (sizes : Sizes) (count : ℕ) (at : Place) (filter after : BitState) (fences fences_after : FencesState) (pages : List RunPage) (next : Option ℕ) (file : List ℕ)
    → (b : Building sizes count at filter fences pages next file) → (k : Coming sizes at.page fences b.read b.coming next file)
    → fences_after.list ≡ fences.list ++ fence_of at.entries at.weight at.page k.page.entries → ((keys : List Key) → HasKeys filter keys → HasKeys after (keys ++ keys_of k.page.entries))
    → Building sizes (count + 1) (place_behind at (first_number k.more next) k.page.entries) after fences_after pages next file
build_more sizes count at filter after fences fences_after pages next file b k fenced adds =
    let entries_are : entries_of (b.read ++ k.page ∷ []) ≡ entries_of b.read ++ k.page.entries = entries_join b.read (k.page ∷ []) ∙ ap (λ (l : Entries). entries_of b.read ++ l) (append-nil k.page.entries) in
    let counted : at.entries ≡ 0 + length (entries_of b.read) = omega (arith, b.entries_is) in
    let weighed : at.weight ≡ 0 + entries_weight (entries_of b.read) = omega (arith, b.weight_is) in
    record {
      read = b.read ++ k.page ∷ [];
      coming = k.more;
      parts = b.parts ∙ ap (λ (l : List RunPage). b.read ++ l) k.coming_is ∙ sym (append_assoc b.read (k.page ∷ []) k.more);
      count_is = omega (arith, length-append b.read (k.page ∷ []), b.count_is);
      number_is = refl;
      entries_is = omega (arith, ap (length {A = Key × Rec}) entries_are, length-append (entries_of b.read) k.page.entries, b.entries_is);
      weight_is = omega (arith, ap entries_weight entries_are, weight_join (entries_of b.read) k.page.entries, b.weight_is);
      chained = k.chained;
      keys = subst (HasKeys after) (sym (map-append (λ (x : Key × Rec). x.0) (entries_of b.read) k.page.entries) ∙ ap (λ (l : Entries). keys_of l) (sym entries_are)) (adds (keys_of (entries_of b.read)) b.keys);
      fences_are = fenced ∙ (λ i. b.fences_are i ++ fence_of (counted i) (weighed i) (sym k.number_is i) k.page.entries)
          ∙ ap (λ (l : List Fence). fences_of b.read ++ l) (sym (append-nil (fence_of (0 + length (entries_of b.read)) (0 + entries_weight (entries_of b.read)) k.page.number k.page.entries)))
          ∙ sym (fences_join 0 0 b.read (k.page ∷ []));
    }

no_more : (coming : List RunPage) → length coming ≡ 0 → coming ≡ []
no_more [] none = refl
no_more (p ∷ ps) none = absurd (omega (arith, none))

pub built : (sizes : Sizes) (run : Component) (count : ℕ) (at : Place) (filter : BitState) (fences : FencesState) (pages : List RunPage) (next : Option ℕ) (file : List ℕ) → run.pages ≤ count → ReadsOn sizes run pages next file
    → Building sizes count at filter fences pages next file → Guide filter fences pages
built sizes run count at filter fences pages next file all reads b =
    let none = no_more b.coming (omega (arith, all, reads.pages_is, ap (length {A = RunPage}) b.parts, length-append b.read b.coming, b.count_is)) in
    let whole : b.read ≡ pages = sym (b.parts ∙ ap (λ (l : List RunPage). b.read ++ l) none ∙ append-nil b.read) in
    subst (λ (ps : List RunPage). Guide filter fences ps) whole (record { keys = b.keys; fences_are = b.fences_are })

-- there are no more fences than pages
few_from : (count weight : ℕ) (ps : List RunPage) → length (fences_from count weight ps) ≤ length ps
few_from count weight [] = omega arith
few_from count weight (p ∷ ps) = by_entries p.entries (fences_from (count + length p.entries) (weight + entries_weight p.entries) ps) (few_from (count + length p.entries) (weight + entries_weight p.entries) ps)
  where
    by_entries : (es : Entries) (fences : List Fence) → length fences ≤ length ps → length (fence_of count weight p.number es ++ fences) ≤ length (p ∷ ps)
    by_entries [] fences few = omega (arith, few)
    by_entries (e ∷ es) fences few = omega (arith, few)

pub few_fences : (ps : List RunPage) → length (fences_of ps) ≤ length ps
few_fences ps = few_from 0 0 ps

-- a page that is valid is read
pub read_fails : (pages n : ℕ) (next : Option ℕ) (entries : Entries) (page : List ℕ) (result : Result (Unit {0}) Broken) (broken : Broken) → result ≡ Err broken → result ≢ Err Fault → TellsPage pages n page result
    → IsPageOf pages next entries page → ⊥
read_fails pages n next entries page result broken is other tells valid = by broken is (subst (TellsPage pages n page) is tells)
  where
    by : (b : Broken) → result ≡ Err b → TellsPage pages n page (Err b) → ⊥
    by Fault same told = other same
    by (Damaged m) same told = told.1 (next, entries, valid)

-- the page as another file has it, which is the same
pub page_told : (sizes : Sizes) (n : ℕ) (entries : Entries) (next : Option ℕ) (file now : List ℕ) → now ≡ file → IsPageOf (page_count sizes) next entries (page_at sizes n file)
    → IsPageOf (page_count sizes) next entries (page_at sizes n now)
page_told sizes n entries next file now same valid = subst (λ (b : List ℕ). IsPageOf (page_count sizes) next entries (page_at sizes n b)) (sym same) valid

pub same_error : (a b : Broken) → ◌≡◌ {A = Result (Unit {0}) Broken} (Err a) (Err b) → a ≡ b
same_error a b same = cc

pub place_told : (a : Result Place Broken) (p q : Place) → a ≡ Ok p → a ≡ Ok q → p ≡ q
place_told a p q first second = cc

pub place_is : (at : Place) (head : PageHead) (next : Option ℕ) (entries : Entries) (number count used : ℕ) → head ≡ record { count = length entries; used = used_by entries; next = next }
    → number ≡ page_number head.next → count ≡ head.count → used ≡ head.used
    → ◌≡◌ {A = Place} (record { page = number; entries = at.entries + count; weight = at.weight + used }) (place_behind at next entries)
place_is at head next entries number count used is number_is count_is used_is =
    let page : number ≡ page_number next = number_is ∙ ap (λ (h : PageHead). page_number h.next) is in
    let counted : count ≡ length entries = count_is ∙ ap (λ (h : PageHead). h.count) is in
    let weighed : used ≡ entries_weight entries = used_is ∙ ap (λ (h : PageHead). h.used) is ∙ sym (weight_is_length entries) in
    λ i. record { page = page i; entries = at.entries + counted i; weight = at.weight + weighed i }
