-- Which pages a change frees, and that there is a free page where the sets are small.
use Rattle.std.proofs.lemmas.Bool.Decides.{nat_tests}
use Rattle.std.proofs.lemmas.Grind.{common_steps}
use Rattle.std.proofs.Common.{◌≡◌, ◌≢◌, ◌↔◌, ℕ, zero, suc, ◌+◌, ◌*◌, ◌<◌, ◌≤◌, ◌||◌, Bool, true, false, cond, List, [], ◌∷◌, length, get_or, set, sum_by, refl, ap, sym, ◌∙◌, ◌⊎◌, inl, inr, arith}
use Rattle.std.proofs.lemmas.Bool.{cases_Bool, cases_eq, or_cases, false≢true}
use Rattle.std.proofs.lemmas.List.{get_or-set_same, get_or-set_other}
use Rattle.std.proofs.lemmas.List.Sums.{sum_by-cons, sum_by-le}
use Rattle.std.proofs.lemmas.List.Elements.{All-from_get_or}
use Rattle.page_space.specs.PageSet.{Members, IsIn, size, with_page, union}
use Rattle.page_space.specs.Space.{SpaceState, pages_with, pins_of, IsFree, HasFree, IsSpace, HasRole, IsPinnedBy, KeepsOtherRoles, KeepsOtherPins, seat_count, IsWithin}
use Rattle.bit_set.proofs.BitLemmas.{get_or-union}
use Rattle.page_space.proofs.SpaceLemmas.{kept_with}
use Rattle.page_space.proofs.SizeLemmas.{size-cons, or_le}

-- ---- how many numbers below a bound pass a test

abbrev count_below : ℕ → (ℕ → Bool) → ℕ
count_below zero p = 0
count_below (suc n) p = count_below n p + cond (p n) 1 0

count_below-or : (n : ℕ) (p q : ℕ → Bool) → count_below n (λ k. p k || q k) ≤ count_below n p + count_below n q
count_below-or zero p q = omega arith
count_below-or (suc n) p q = omega (arith, count_below-or n p q, or_le (p n) (q n))

-- the first number apart
count_below-front : (n : ℕ) (p : ℕ → Bool) → count_below (suc n) p ≡ cond (p 0) 1 0 + count_below n (λ k. p (suc k))
count_below-front zero p = omega arith
count_below-front (suc n) p = omega (arith, count_below-front n p)

-- where fewer pass than there are, one doesn't
one_fails : (n : ℕ) (p : ℕ → Bool) → count_below n p < n → (k : ℕ) × (k < n) × (p k ≡ false)
one_fails zero p few = absurd (omega arith)
one_fails (suc n) p few =
    elim (cases_Bool (p n)) [
      | inl passes ↦
          let one : cond (p n) 1 0 ≡ suc zero = ap (λ b. cond b 1 0) passes in
          let found = one_fails n p (omega (arith, one)) in
          (found.0, omega (arith, found.1), found.2)
      | inr fails ↦ (n, omega arith, fails)
    ]

-- ---- pages that are in a set

count_below-none : (n : ℕ) → count_below n (λ k. false) ≡ 0
count_below-none zero = refl
count_below-none (suc n) = omega (arith, count_below-none n)

count_below-set : (n : ℕ) (set : Members) → count_below n (λ k. get_or set k false) ≤ size set
count_below-set n [] = omega (arith, count_below-none n)
count_below-set zero (x ∷ xs) = omega arith
count_below-set (suc n) (x ∷ xs) = omega (arith, count_below-front n (λ k. get_or (x ∷ xs) k false), count_below-set n xs, size-cons x xs)

abbrev pub in_some : List Members → ℕ → Bool
in_some [] k = false
in_some (set ∷ sets) k = get_or set k false || in_some sets k

count_below-sets : (n : ℕ) (sets : List Members) → count_below n (in_some sets) ≤ sum_by size sets
count_below-sets n [] = omega (arith, count_below-none n)
count_below-sets n (set ∷ sets) =
    omega (arith, count_below-or n (λ k. get_or set k false) (in_some sets), count_below-set n set, count_below-sets n sets, sum_by-cons size set sets)

or_true : (a : Bool) → (a || true) ≡ true
or_true a = grind (arith, common_steps, nat_tests)

or_left : (a b : Bool) → (a || b) ≡ false → a ≡ false
or_left a b h1 = grind (arith, common_steps, nat_tests)

or_right : (a b : Bool) → (a || b) ≡ false → b ≡ false
or_right a b h1 = grind (arith, common_steps, nat_tests)

pub in_none : (sets : List Members) (k : ℕ) → in_some sets k ≡ false → (r : ℕ) → IsIn (get_or sets r []) k → ⊥
in_none [] k none r is_in = false≢true is_in
in_none (set ∷ sets) k none zero is_in = false≢true (sym (or_left (get_or set k false) (in_some sets k) none) ∙ is_in)
in_none (set ∷ sets) k none (suc r) is_in = in_none sets k (or_right (get_or set k false) (in_some sets k) none) r is_in

-- where the sets have fewer pages than there are, all together, a page is free
pub free_where_few : (space : SpaceState) → sum_by size space.roles + sum_by size space.pins < space.pages → HasFree space
free_where_few space few =
    let in_any = λ (k : ℕ). in_some space.roles k || in_some space.pins k in
    let small : count_below space.pages in_any < space.pages =
    omega (arith, count_below-or space.pages (in_some space.roles) (in_some space.pins), count_below-sets space.pages space.roles, count_below-sets space.pages space.pins) in
    let found : (k : ℕ) × (k < space.pages) × (in_any k ≡ false) = one_fails space.pages in_any small in
    let page = found.0 in (
      page,
      record {
        in_range = found.1;
        no_role = in_none space.roles page (or_left (in_some space.roles page) (in_some space.pins page) found.2);
        no_pin = in_none space.pins page (or_right (in_some space.roles page) (in_some space.pins page) found.2);
      },
    )

-- ---- what a change of pins frees

pub freed_of_seat : (old new : SpaceState) (seat : ℕ) → new.pages ≡ old.pages → new.roles ≡ old.roles → KeepsOtherPins seat old new → (page : ℕ) → IsFree new page → IsFree old page ⊎ IsPinnedBy old seat page
freed_of_seat old new seat pages roles others page free =
    elim (cases_Bool (get_or (pins_of old seat) page false)) [
      | inl pinned ↦ inr pinned
      | inr lacks ↦
          inl (record {
            in_range = omega (arith, pages, free.in_range);
            no_role = λ role has. free.no_role role (ap (λ (sets : List Members). get_or (get_or sets role []) page false) roles ∙ has);
            no_pin = λ s pinned.
                elim (cases_eq s seat) [
                  | inl same ↦ false≢true (sym lacks ∙ sym (ap (λ i. get_or (pins_of old i) page false) same) ∙ pinned)
                  | inr differs ↦ free.no_pin s (ap (λ (set : Members). get_or set page false) (others s differs) ∙ pinned)
                ];
          })
    ]

-- the page that is claimed has the tag
pub claimed_has : (old new : SpaceState) (role page : ℕ) → page < length (pages_with old role) → pages_with new role ≡ with_page page (pages_with old role) → HasRole new role page
claimed_has old new role page within this = ap (λ (s : Members). get_or s page false) this ∙ get_or-set_same (pages_with old role) page true false within

-- no page loses a tag by a claim
has_kept : (old new : SpaceState) (role page : ℕ) → pages_with new role ≡ with_page page (pages_with old role) → KeepsOtherRoles role old new → (r k : ℕ) → HasRole old r k → HasRole new r k
has_kept old new role page this others r k has =
    elim (cases_eq r role) [
      | inl same ↦
          let had : HasRole old role k = sym (ap (λ i. get_or (pages_with old i) k false) same) ∙ has in
          ap (λ i. get_or (pages_with new i) k false) same ∙ ap (λ (s : Members). get_or s k false) this ∙ kept_with page k (pages_with old role) had
      | inr differs ↦ ap (λ (s : Members). get_or s k false) (others r differs) ∙ has
    ]

-- a tag of another page it had before
had_before : (old new : SpaceState) (role page : ℕ) → pages_with new role ≡ with_page page (pages_with old role) → KeepsOtherRoles role old new → (r k : ℕ) → k ≢ page → HasRole new r k → HasRole old r k
had_before old new role page this others r k apart has =
    elim (cases_eq r role) [
      | inl same ↦
          let has_role : HasRole new role k = sym (ap (λ i. get_or (pages_with new i) k false) same) ∙ has in
          ap (λ i. get_or (pages_with old i) k false) same ∙ sym (get_or-set_other (pages_with old role) page k true false apart) ∙ sym (ap (λ (s : Members). get_or s k false) this) ∙ has_role
      | inr differs ↦ sym (ap (λ (s : Members). get_or s k false) (others r differs)) ∙ has
    ]

-- so the tags after a claim are those before it, and the one
pub tags_after : (old new : SpaceState) (role page : ℕ) → page < length (pages_with old role) → pages_with new role ≡ with_page page (pages_with old role) → KeepsOtherRoles role old new
    → (tag k : ℕ) → HasRole new tag k ↔ (HasRole old tag k ⊎ ((tag ≡ role) × (k ≡ page)))
tags_after old new role page h1 h2 h3 tag k = grind (arith, common_steps, nat_tests, has_kept, get_or, claimed_has)

-- a claim uses up just the page that it is of
pub free_after_claim : (old new : SpaceState) (role page : ℕ) → page < length (pages_with old role) → pages_with new role ≡ with_page page (pages_with old role) → KeepsOtherRoles role old new → new.pins ≡ old.pins → new.pages ≡ old.pages
    → (other : ℕ) → IsFree new other ↔ (IsFree old other × (other ≢ page))
free_after_claim old new role page h1 h2 h3 h4 h5 other = grind (arith, common_steps, nat_tests, has_kept, get_or, claimed_has, had_before)

-- a seat that pins one page more pins that and those that it pinned
pub pinned_more : (pins : Members) (page other : ℕ) → page < length pins → IsIn (with_page page pins) other ↔ (IsIn pins other ⊎ (other ≡ page))
pinned_more pins page other h1 = grind (arith, common_steps, nat_tests, get_or, kept_with)

-- a seat that pins the pages of three roles pins a page just where it has one of these
pub pinned_just : (a b c : Members) (page : ℕ) → IsIn (union a (union b c)) page ↔ (IsIn a page ⊎ (IsIn b page ⊎ IsIn c page))
pinned_just a b c page = grind (arith, common_steps, nat_tests, get_or, get_or-union, or_cases, or_true)

-- ---- a free page, by how many pages each set has

sum_of_five : (sets : List Members) → length sets ≡ 5
    → sum_by size sets ≡ size (get_or sets 0 []) + size (get_or sets 1 []) + size (get_or sets 2 []) + size (get_or sets 3 []) + size (get_or sets 4 [])
sum_of_five sets h1 = grind (arith, common_steps, nat_tests)

-- where the roles' pages together and each seat's are few enough, a page is free
pub free_within : (space : SpaceState) (live share : ℕ) → IsSpace space → IsWithin live share space → live + seat_count * share < space.pages → HasFree space
free_within space live share shape within few =
    let pins : sum_by size space.pins ≤ length space.pins * share =
    sum_by-le size share space.pins (All-from_get_or (λ (s : Members). size s ≤ share) space.pins [] (λ seat below. within.seats seat (omega (arith, below, shape.pins)))) in
    let sixteen : length space.pins * share ≡ seat_count * share = ap (λ n. n * share) shape.pins in
    free_where_few space (omega (arith, sum_of_five space.roles shape.roles, within.roles, pins, sixteen))
