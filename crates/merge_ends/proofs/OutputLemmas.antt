-- Which pages a run takes, and the room that it leaves.
use Rattle.std.proofs.lemmas.Bool.Decides.{nat_tests}
use Rattle.std.proofs.lemmas.Grind.{common_steps}
use Rattle.std.proofs.Common.{◌≡◌, ◌≢◌, ◌∙◌, ◌+◌, ◌*◌, ◌<◌, ◌≤◌, ℕ, Bool, true, false, List, [], ◌∷◌, ◌++◌, ◌/◌, length, Option, Result, Ok, Err, refl, ap, sym, subst, inl, inr, ⊎_elim, arith}
use Rattle.std.specs.Prelude.{if◌then◌else◌, nat_lt, IsTrue, OnErr, OnOk, slice_index_or}
use Rattle.std.specs.List.{AllByRecursion}
use Rattle.std.specs.List.Sorted.{IsStrictlySortedBy}
use Rattle.std.specs.declared.cmp.Ordering.TheVariants.{Less}
use Rattle.std.proofs.lemmas.Bool.{false≢true}
use Rattle.refusal.specs.declared.Failed.{Failed}
use Rattle.blsm_model.specs.declared.key.Key.{Key}
use Rattle.blsm_model.specs.Keys.{key_cmp}
use Rattle.record_delta.specs.declared.record.Rec.{Rec}
use Rattle.record_delta.specs.Records.{weight}
use Rattle.record_delta.specs.Entries.{Entries, is_above}
use Rattle.page_space.specs.PageSet.{Members, size}
use Rattle.page_space.specs.Space.{SpaceState, HasRole, IsFree, IsLeastFree, IsWithin, Claims, role_size, role_count, seat_count}
use Rattle.page_file.specs.Entry.{keys_of, AreRising}
use Rattle.blsm_model.specs.Sizes.{Sizes}
use Rattle.disk_trait.specs.Region.{IsWithin as IsInside}
use Rattle.page_file.specs.File.{page_region}
use Rattle.page_file.proofs.PageLemmas.{others_apart}
use Rattle.run_writer.specs.Writer.{WriterState, begins_page, closed_entries, has_place, open_region, loose_region, put_in, turned, unfenced, HasEntries, IsCounted}
use Rattle.merge_step.proofs.TakenLemmas.{below_above}
use Rattle.merge_ends.specs.Output.{TakesPages, HasRoom, EndBy, has_turned, kept, most_pages}
use Rattle.merge_ends.proofs.KeptLemmas.{same_none}

-- ---- pages

pub takes_none : (role : ℕ) (space : SpaceState) → TakesPages role space space
takes_none role space = record { others = λ other differs. refl; pins = refl; pages = refl; kept = λ page has. has; only_free = λ page has. inl has; free = λ page free. free }

pub takes_one : (role page : ℕ) (old new : SpaceState) → IsFree old page → Claims role page old new → TakesPages role old new
takes_one role page old new h1 h2 = grind (arith, common_steps, nat_tests)

pub takes_run : (role : ℕ) (old mid new : SpaceState) → TakesPages role old mid → TakesPages role mid new → TakesPages role old new
takes_run role old mid new first second = record {
  others = λ other differs. second.others other differs ∙ first.others other differs;
  pins = second.pins ∙ first.pins;
  pages = second.pages ∙ first.pages;
  kept = λ page has. second.kept page (first.kept page has);
  only_free = λ page has. ⊎_elim (first.only_free page) (λ free. inr (first.free page free)) (second.only_free page has);
  free = λ page free. first.free page (second.free page free);
}

-- ---- room

-- where there is an open page, and no place in it, it is nearly full
no_place : (writer : WriterState) (n : ℕ) → has_place writer n ≡ false → 0 < writer.component.pages → 4088 < length writer.buffer.text + n
no_place writer n h1 h2 = grind (arith, common_steps, nat_tests)

pub room_for_one : (space : SpaceState) (writer : WriterState) (n : ℕ) → IsCounted writer → n ≤ 512 → has_place writer n ≡ false → (room : HasRoom space writer n)
    → room.live + seat_count * room.share < space.pages
room_for_one space writer n h1 h2 h3 room = grind (arith, common_steps, nat_tests)

-- and there is room for the fence of the page that it takes, or begins
fence_for_next : (writer : WriterState) (n reserved fences : ℕ) → IsCounted writer → n ≤ 512 → has_place writer n ≡ false → most_pages (writer.component.weight + n) ≤ reserved
    → fences ≤ writer.component.pages → fences < reserved
fence_for_next writer n reserved fences h1 h2 h3 h4 h5 = grind (arith, common_steps, nat_tests)

fence_for_first : (writer : WriterState) (n reserved fences : ℕ) → IsCounted writer → most_pages (writer.component.weight + n) ≤ reserved → fences + 1 ≡ writer.component.pages → fences < reserved
fence_for_first writer n reserved fences h1 h2 h3 = grind (arith, common_steps, nat_tests)

pub fence_for_one : (writer : WriterState) (n reserved fences : ℕ) → IsCounted writer → n ≤ 512 → IsTrue (begins_page writer n) → most_pages (writer.component.weight + n) ≤ reserved
    → fences + unfenced writer ≡ writer.component.pages → fences < reserved
fence_for_one writer n reserved fences h1 h2 h3 h4 h5 = grind (arith, common_steps, nat_tests, fence_for_next, fence_for_first)

pub room_same : (space : SpaceState) (writer new : WriterState) (n left : ℕ) → new.component.weight ≡ writer.component.weight + n → new.component.pages ≡ writer.component.pages
    → HasRoom space writer (n + left) → HasRoom space new left
room_same space writer new n left h1 h2 h3 = grind (arith, common_steps, nat_tests)

-- the sums of five numbers, of which one changed
one_changed : (old new : ℕ → ℕ) (role p q : ℕ) → role < 5 → new role + p ≡ old role + q → ((k : ℕ) → k ≢ role → new k ≡ old k)
    → new 0 + new 1 + new 2 + new 3 + new 4 + p ≡ old 0 + old 1 + old 2 + old 3 + old 4 + q
one_changed old new role p q h1 h2 h3 = grind (arith, common_steps, nat_tests)

-- The roles have as many pages more as the run has.
pub within_taken : (live share role p q : ℕ) (old new : SpaceState) → role < role_count → TakesPages role old new → role_size new role + p ≡ role_size old role + q
    → IsWithin (live + p) share old → IsWithin (live + q) share new
within_taken live share role p q old new below takes this within = record {
  roles = omega (arith, within.roles, one_changed (role_size old) (role_size new) role p q below this (λ k differs. ap size (takes.others k differs)));
  seats = λ seat in_range. subst (λ (pins : List Members). size (slice_index_or pins seat []) ≤ share) (sym takes.pins) (within.seats seat in_range);
}

pub room_claimed : (space after : SpaceState) (writer new : WriterState) (role page n left : ℕ) → role < role_count → IsFree space page → Claims role page space after
    → new.component.weight ≡ writer.component.weight + n → new.component.pages ≡ writer.component.pages + 1
    → HasRoom space writer (n + left) → HasRoom after new left
room_claimed space after writer new role page n left within free claims weighs pages room = record {
  live = room.live + 1;
  share = room.share;
  within = within_taken room.live room.share role 0 1 space after within (takes_one role page space after free claims) (omega (arith, claims.size (free.no_role role)))
      (let same : room.live ≡ room.live + 0 = omega arith in subst (λ (n : ℕ). IsWithin n room.share space) same room.within);
  room = let sum : new.component.weight + left ≡ writer.component.weight + (n + left) = omega arith in omega (arith, room.room, ap (λ w. w / 3577) sum, pages, claims.pages);
}

-- ---- one entry more

on_ok : {T E P Q : Type 0} (r : Result T E) → (P → Q) → OnOk r P → OnOk r Q
on_ok r h1 h2 = grind (arith, common_steps, nat_tests)

always : {T E P : Type 0} (r : Result T E) → P → OnOk r P
always r h1 = grind (arith, common_steps, nat_tests)

-- what a push says of the pages
abbrev pub Here : Bool → SpaceState → SpaceState → WriterState → WriterState → Key → Rec → Type 0
Here place space after writer new key rec = IsTrue place → (after ≡ space) × (new ≡ put_in key rec writer)

abbrev pub Claimed : Bool → Result (Unit {0}) Failed → SpaceState → SpaceState → WriterState → WriterState → Key → Rec → Type 0
Claimed place result space after writer new key rec =
    place ≡ false → (page : ℕ) × IsLeastFree space page × Claims writer.role page space after × OnOk result (new ≡ put_in key rec (turned page writer))

pub takes_put : (place : Bool) (result : Result (Unit {0}) Failed) (space after : SpaceState) (writer new : WriterState) (key : Key) (rec : Rec)
    → Here place space after writer new key rec → Claimed place result space after writer new key rec → TakesPages writer.role space after
takes_put true result space after writer new key rec here claimed = subst (λ (s : SpaceState). TakesPages writer.role space s) (sym (here refl).0) (takes_none writer.role space)
takes_put false result space after writer new key rec here claimed = let t = claimed refl in takes_one writer.role t.0 space after t.1.free t.2

pub room_put : (place : Bool) (result : Result (Unit {0}) Failed) (space after : SpaceState) (writer new : WriterState) (key : Key) (rec : Rec) (left : ℕ) → writer.role < role_count
    → Here place space after writer new key rec → Claimed place result space after writer new key rec → HasRoom space writer (weight key rec + left) → OnOk result (HasRoom after new left)
room_put true result space after writer new key rec left role here claimed room =
    let h = here refl in
    always result (subst (λ (s : SpaceState). HasRoom s new left) (sym h.0)
    (room_same space writer new (weight key rec) left (ap (λ (w : WriterState). w.component.weight) h.1) (ap (λ (w : WriterState). w.component.pages) h.1) room))
room_put false result space after writer new key rec left role here claimed room =
    let t = claimed refl in
    on_ok result
    (λ is. room_claimed space after writer new writer.role t.0 (weight key rec) left role t.1.free t.2
    (ap (λ (w : WriterState). w.component.weight) is) (ap (λ (w : WriterState). w.component.pages) is) room)
    t.3

-- the page that is open behind a push is the one before, or was free
opens_here : (sizes : Sizes) (space : SpaceState) (writer new : WriterState) → new.number ≡ writer.number → new.component.pages ≡ writer.component.pages → IsInside (open_region sizes new) (loose_region sizes space writer)
opens_here sizes space writer new number pages i here = inl (subst (λ (n : ℕ). 0 < n) pages here.0, subst (λ (n : ℕ). page_region sizes n i) number here.1)

opens_free : (sizes : Sizes) (space : SpaceState) (writer new : WriterState) (page : ℕ) → new.number ≡ page → IsFree space page → IsInside (open_region sizes new) (loose_region sizes space writer)
opens_free sizes space writer new page number free i here =
    inr (λ inside. others_apart sizes inside.0 page (λ same. free.no_role writer.role (subst (λ (n : ℕ). HasRole space writer.role n) same inside.1)) i inside.2 (subst (λ (n : ℕ). page_region sizes n i) number here.1))

pub opens_put : (sizes : Sizes) (place : Bool) (result : Result (Unit {0}) Failed) (space after : SpaceState) (writer new : WriterState) (key : Key) (rec : Rec)
    → Here place space after writer new key rec → Claimed place result space after writer new key rec → OnErr result (new ≡ writer) → IsInside (open_region sizes new) (loose_region sizes space writer)
opens_put sizes true result space after writer new key rec here claimed kept =
    let is = (here refl).1 in opens_here sizes space writer new (ap (λ (w : WriterState). w.number) is) (ap (λ (w : WriterState). w.component.pages) is)
opens_put sizes false (Ok done) space after writer new key rec here claimed kept =
    let t = claimed refl in opens_free sizes space writer new t.0 (ap (λ (w : WriterState). w.number) t.3) t.1.free
opens_put sizes false (Err failed) space after writer new key rec here claimed kept =
    let is = kept in opens_here sizes space writer new (ap (λ (w : WriterState). w.number) is) (ap (λ (w : WriterState). w.component.pages) is)

-- ---- the closed pages

same_pages : (writer new : WriterState) → new.component.pages ≡ writer.component.pages → has_turned writer new ≡ false
same_pages writer new h1 = grind (arith, common_steps, nat_tests)

one_page_more : (writer new : WriterState) → new.component.pages ≡ writer.component.pages + 1 → has_turned writer new ≡ true
one_page_more writer new h1 = grind (arith, common_steps, nat_tests)

pub turned_behind : {A : Type 0} (at closed result : A) (pages after : ℕ) (writer new : WriterState) → result ≡ (if nat_lt pages after then at else closed) → pages ≡ writer.component.pages → after ≡ new.component.pages
    → result ≡ (if has_turned writer new then at else closed)
turned_behind at closed result pages after writer new is before behind =
    is ∙ ap (λ (n : ℕ). if nat_lt n after then at else closed) before ∙ ap (λ (n : ℕ). if nat_lt writer.component.pages n then at else closed) behind

pub closed_none : (writer : WriterState) (out more : Entries) → more ≡ [] → closed_entries writer (out ++ more) ≡ (if has_turned writer writer then out else closed_entries writer out)
closed_none writer out more none =
    ap (λ (l : Entries). closed_entries writer (out ++ l)) none ∙ ap (closed_entries writer) (sym (same_none out))
    ∙ sym (ap (λ (b : Bool). if b then out else closed_entries writer out) (same_pages writer writer refl))

pub closed_put : (place : Bool) (result : Result (Unit {0}) Failed) (space after : SpaceState) (writer new : WriterState) (key : Key) (rec : Rec) (out : Entries)
    → Here place space after writer new key rec → Claimed place result space after writer new key rec
    → (closed_entries (put_in key rec writer) (out ++ (key, rec) ∷ []) ≡ closed_entries writer out) × ((page : ℕ) → closed_entries (put_in key rec (turned page writer)) (out ++ (key, rec) ∷ []) ≡ out)
    → OnOk result (closed_entries new (out ++ (key, rec) ∷ []) ≡ (if has_turned writer new then out else closed_entries writer out))
closed_put true result space after writer new key rec out here claimed law =
    let is = (here refl).1 in
    always result
    (ap (λ (w : WriterState). closed_entries w (out ++ (key, rec) ∷ [])) is ∙ law.0
    ∙ sym (ap (λ (b : Bool). if b then out else closed_entries writer out) (same_pages writer new (ap (λ (w : WriterState). w.component.pages) is))))
closed_put false result space after writer new key rec out here claimed law =
    let t = claimed refl in
    on_ok result
    (λ is. ap (λ (w : WriterState). closed_entries w (out ++ (key, rec) ∷ [])) is ∙ law.1 t.0
    ∙ sym (ap (λ (b : Bool). if b then out else closed_entries writer out) (one_page_more writer new (ap (λ (w : WriterState). w.component.pages) is))))
    t.3

pub text_put : (place : Bool) (result : Result (Unit {0}) Failed) (space after : SpaceState) (writer new : WriterState) (key : Key) (rec : Rec)
    → Here place space after writer new key rec → Claimed place result space after writer new key rec
    → ((w : WriterState) (k : Key) (r : Rec) → length (put_in k r w).buffer.text ≡ length w.buffer.text + weight k r)
    → OnOk result (length new.buffer.text ≡ (if has_turned writer new then 0 else length writer.buffer.text) + weight key rec)
text_put true result space after writer new key rec here claimed law =
    let is = (here refl).1 in
    always result
    (ap (λ (w : WriterState). length w.buffer.text) is ∙ law writer key rec
    ∙ sym (ap (λ (b : Bool). (if b then 0 else length writer.buffer.text) + weight key rec) (same_pages writer new (ap (λ (w : WriterState). w.component.pages) is))))
text_put false result space after writer new key rec here claimed law =
    let t = claimed refl in
    on_ok result
    (λ is. ap (λ (w : WriterState). length w.buffer.text) is ∙ law (turned t.0 writer) key rec
    ∙ sym (ap (λ (b : Bool). (if b then 0 else length writer.buffer.text) + weight key rec) (one_page_more writer new (ap (λ (w : WriterState). w.component.pages) is))))
    t.3

pub begun_put : (place : Bool) (result : Result (Unit {0}) Failed) (space after : SpaceState) (writer new : WriterState) (key : Key) (rec : Rec)
    → Here place space after writer new key rec → Claimed place result space after writer new key rec
    → ((w : WriterState) (k : Key) (r : Rec) → length (put_in k r w).buffer.text ≡ length w.buffer.text + weight k r) → OnOk result (HasEntries new)
begun_put true result space after writer new key rec here claimed law =
    let is = (here refl).1 in
    always result (λ some. omega (arith, ap (λ (w : WriterState). length w.buffer.text) is, law writer key rec))
begun_put false result space after writer new key rec here claimed law =
    let t = claimed refl in
    on_ok result (λ is some. omega (arith, ap (λ (w : WriterState). length w.buffer.text) is, law (turned t.0 writer) key rec)) t.3

-- a merge that doesn't settle writes the record itself
pub not_kept : (settles : Bool) (key : Key) (rec : Rec) → settles ≡ false → kept settles ((key, rec) ∷ []) ≡ [] → ⊥
not_kept true key rec plain none = cc
not_kept false key rec plain none = cc

pub same_kept : (settles : Bool) (key : Key) (rec left : Rec) → settles ≡ false → kept settles ((key, rec) ∷ []) ≡ (key, left) ∷ [] → left ≡ rec
same_kept true key rec left plain is = absurd (false≢true (sym plain))
same_kept false key rec left plain is = let same : (key, rec) ≡ (key, left) = cc in sym (ap (λ (e : Key × Rec). e.1) same)

-- ---- order

all_below : (at : Option Key) (entries : Entries) (key low : Key) (rec : Rec) → AllByRecursion (λ y. key_cmp low y ≡ Less) (keys_of entries) → key_cmp low key ≡ Less
    → AllByRecursion (λ y. key_cmp low y ≡ Less) (keys_of (entries ++ (key, rec) ∷ []))
all_below at [] key low rec all less = (less, tt)
all_below at (e ∷ es) key low rec all less = (all.0, all_below at es key low rec all.1 less)

-- a key above one that none of the entries' keys is above comes behind them
pub rising_more : (at : Option Key) (entries : Entries) (key : Key) (rec : Rec) → AreRising entries → EndBy at entries → is_above at key ≡ true → AreRising (entries ++ (key, rec) ∷ [])
unfolding IsStrictlySortedBy
rising_more at [] key rec rise ends key_above = (tt, tt)
rising_more at (e ∷ es) key rec rise ends key_above =
    (all_below at es key e.0 rec rise.0 (below_above at e.0 key ends.0 key_above), rising_more at es key rec rise.1 ends.1 key_above)
