-- Laws of `specs/Places`.
use Rattle.std.proofs.lemmas.Bool.Decides.{nat_tests}
use Rattle.std.proofs.lemmas.Grind.{common_steps}
use Rattle.std.specs.Prelude.{◌≡◌, ◌≢◌, ◌<◌, ◌≤◌, ℕ, zero, suc, ◌+◌, Bool, true, false, if◌then◌else◌, is_none, Option, Some, None, List, [], ◌∷◌, ◌++◌, length, map, replicate, bytes_eq, refl}
use Rattle.std.proofs.Common.{get_or, set, sym, ap, arith, length-append}
use Rattle.std.proofs.lemmas.List.{length-map, length-replicate}
use Rattle.std.proofs.lemmas.Bool.{false_from_ne_true}
use Rattle.std.proofs.lemmas.Slice.Eq.{bytes_eq-Decides}
use Rattle.disk_trait.specs.Shelf.{Fetch}
use Rattle.disk_mem.specs.Recorded.{Recorded}
use Rattle.disk_mem.specs.Places.{IsPlace, HasNoPlace, disk_under, is_out_under, name_at, noted, all_noted, AllPlaced}
use Rattle.disk_mem.proofs.Terms.{unnoted}

pub under_get : (name : List ℕ) (names : List (List ℕ)) (i : ℕ) (disks : List (Option Recorded)) (d : Option Recorded) → IsPlace name names i → i < length disks → disk_under names disks name ≡ get_or disks i d
under_get name [] i disks d at lt = absurd at
under_get name (n ∷ names) i [] d at lt = absurd (omega arith)
under_get name (n ∷ names) zero (x ∷ disks) d at lt = rw at
under_get name (n ∷ names) (suc i) (x ∷ disks) d at lt = rw at.0 (under_get name names i disks d at.1 (omega arith))

pub under_set : (name : List ℕ) (names : List (List ℕ)) (i : ℕ) (disks : List (Option Recorded)) (d : Option Recorded) → IsPlace name names i → i < length disks → disk_under names (set disks i d) name ≡ d
under_set name [] i disks d at lt = absurd at
under_set name (n ∷ names) i [] d at lt = absurd (omega arith)
under_set name (n ∷ names) zero (x ∷ disks) d at lt = rw at
under_set name (n ∷ names) (suc i) (x ∷ disks) d at lt = rw at.0 (under_set name names i disks d at.1 (omega arith))

pub out_set : (name : List ℕ) (names : List (List ℕ)) (i : ℕ) (disks : List (Option Recorded)) (d : Option Recorded) → IsPlace name names i → i < length disks → is_out_under names (set disks i d) name ≡ is_none d
out_set name [] i disks d at lt = absurd at
out_set name (n ∷ names) i [] d at lt = absurd (omega arith)
out_set name (n ∷ names) zero (x ∷ disks) d at lt = rw at
out_set name (n ∷ names) (suc i) (x ∷ disks) d at lt = rw at.0 (out_set name names i disks d at.1 (omega arith))

-- the place of one name isn't that of another
differs : (name other n : List ℕ) → bytes_eq n name ≡ true → other ≢ name → bytes_eq n other ≡ false
differs name other n h1 h2 = grind (arith, common_steps, nat_tests, bytes_eq-Decides, false_from_ne_true)

pub under_other : (name other : List ℕ) (names : List (List ℕ)) (i : ℕ) (disks : List (Option Recorded)) (d : Option Recorded) → IsPlace name names i → other ≢ name → disk_under names (set disks i d) other ≡ disk_under names disks other
under_other name other [] i disks d at ne = absurd at
under_other name other (n ∷ names) zero [] d at ne = refl
under_other name other (n ∷ names) (suc i) [] d at ne = refl
under_other name other (n ∷ names) zero (x ∷ disks) d at ne = rw (differs name other n at ne)
under_other name other (n ∷ names) (suc i) (x ∷ disks) d at ne = ap (λ (o : Option Recorded). if bytes_eq n other then x else o) (under_other name other names i disks d at.1 ne)

pub out_other : (name other : List ℕ) (names : List (List ℕ)) (i : ℕ) (disks : List (Option Recorded)) (d : Option Recorded) → IsPlace name names i → other ≢ name → is_out_under names (set disks i d) other ≡ is_out_under names disks other
out_other name other [] i disks d at ne = absurd at
out_other name other (n ∷ names) zero [] d at ne = refl
out_other name other (n ∷ names) (suc i) [] d at ne = refl
out_other name other (n ∷ names) zero (x ∷ disks) d at ne = rw (differs name other n at ne)
out_other name other (n ∷ names) (suc i) (x ∷ disks) d at ne = ap (λ (o : Bool). if bytes_eq n other then is_none x else o) (out_other name other names i disks d at.1 ne)

pub out_nowhere : (name : List ℕ) (names : List (List ℕ)) (disks : List (Option Recorded)) → HasNoPlace name names → is_out_under names disks name ≡ false
out_nowhere name [] disks none = refl
out_nowhere name (n ∷ names) [] none = refl
out_nowhere name (n ∷ names) (d ∷ disks) none = rw none.0 (out_nowhere name names disks none.1)

pub name_at_place : (name : List ℕ) (names : List (List ℕ)) (i : ℕ) → IsPlace name names i → name_at names i ≡ name
name_at_place name [] i at = absurd at
name_at_place name (n ∷ names) zero at = (bytes_eq-Decides n name).0 at
name_at_place name (n ∷ names) (suc i) at = name_at_place name names i at.1

-- one fetch more, noted or past the room
pub noted_push : (names : List (List ℕ)) (fetched : List (Option (ℕ × Bool))) (e : Option (ℕ × Bool)) → all_noted names (fetched ++ e ∷ []) 0 ≡ all_noted names fetched 0 ++ noted names e ∷ []
noted_push names [] e = refl
noted_push names (x ∷ fetched) e = ap (λ (l : List Fetch). noted names x ∷ l) (noted_push names fetched e)

-- one name more, at the end
pub under_push : (name : List ℕ) (names : List (List ℕ)) (disks : List (Option Recorded)) (d : Option Recorded) → HasNoPlace name names → length names ≡ length disks → disk_under (names ++ name ∷ []) (disks ++ d ∷ []) name ≡ d
under_push name [] [] d none same = rw ((bytes_eq-Decides name name).1 refl)
under_push name [] (x ∷ disks) d none same = absurd (omega arith)
under_push name (n ∷ names) [] d none same = absurd (omega arith)
under_push name (n ∷ names) (x ∷ disks) d none same = rw none.0 (under_push name names disks d none.1 (omega arith))

pub under_push_other : (name other : List ℕ) (names : List (List ℕ)) (disks : List (Option Recorded)) (d : Option Recorded) → other ≢ name → length names ≡ length disks → disk_under (names ++ name ∷ []) (disks ++ d ∷ []) other ≡ disk_under names disks other
under_push_other name other [] [] d ne same = rw (false_from_ne_true (bytes_eq name other) (λ eq. ne (sym ((bytes_eq-Decides name other).0 eq))))
under_push_other name other [] (x ∷ disks) d ne same = absurd (omega arith)
under_push_other name other (n ∷ names) [] d ne same = absurd (omega arith)
under_push_other name other (n ∷ names) (x ∷ disks) d ne same = ap (λ (o : Option Recorded). if bytes_eq n other then x else o) (under_push_other name other names disks d ne (omega arith))

pub out_push : (name : List ℕ) (names : List (List ℕ)) (disks : List (Option Recorded)) (d : Option Recorded) → HasNoPlace name names → length names ≡ length disks → is_out_under (names ++ name ∷ []) (disks ++ d ∷ []) name ≡ is_none d
out_push name [] [] d none same = rw ((bytes_eq-Decides name name).1 refl)
out_push name [] (x ∷ disks) d none same = absurd (omega arith)
out_push name (n ∷ names) [] d none same = absurd (omega arith)
out_push name (n ∷ names) (x ∷ disks) d none same = rw none.0 (out_push name names disks d none.1 (omega arith))

pub out_push_other : (name other : List ℕ) (names : List (List ℕ)) (disks : List (Option Recorded)) (d : Option Recorded) → other ≢ name → length names ≡ length disks → is_out_under (names ++ name ∷ []) (disks ++ d ∷ []) other ≡ is_out_under names disks other
out_push_other name other [] [] d ne same = rw (false_from_ne_true (bytes_eq name other) (λ eq. ne (sym ((bytes_eq-Decides name other).0 eq))))
out_push_other name other [] (x ∷ disks) d ne same = absurd (omega arith)
out_push_other name other (n ∷ names) [] d ne same = absurd (omega arith)
out_push_other name other (n ∷ names) (x ∷ disks) d ne same = ap (λ (o : Bool). if bytes_eq n other then is_none x else o) (out_push_other name other names disks d ne (omega arith))

pub out_get : (name : List ℕ) (names : List (List ℕ)) (i : ℕ) (disks : List (Option Recorded)) → IsPlace name names i → i < length disks → is_out_under names disks name ≡ is_none (get_or disks i None)
out_get name [] i disks at lt = absurd at
out_get name (n ∷ names) i [] at lt = absurd (omega arith)
out_get name (n ∷ names) zero (x ∷ disks) at lt = rw at
out_get name (n ∷ names) (suc i) (x ∷ disks) at lt = rw at.0 (out_get name names i disks at.1 (omega arith))

-- where no place is, no disk stands
pub under_nowhere : (name : List ℕ) (names : List (List ℕ)) (disks : List (Option Recorded)) → HasNoPlace name names → disk_under names disks name ≡ None
under_nowhere name [] disks none = refl
under_nowhere name (n ∷ names) [] none = refl
under_nowhere name (n ∷ names) (d ∷ disks) none = rw none.0 (under_nowhere name names disks none.1)

-- Names that are added leave the fetches that were noted.
name_at_push : (names : List (List ℕ)) (name : List ℕ) (i : ℕ) → i < length names → name_at (names ++ name ∷ []) i ≡ name_at names i
name_at_push [] name i lt = absurd (omega arith)
name_at_push (n ∷ names) name zero lt = refl
name_at_push (n ∷ names) name (suc i) lt = name_at_push names name i (omega arith)

pub all_noted_push : (names : List (List ℕ)) (name : List ℕ) (fetched : List (Option (ℕ × Bool))) (past : ℕ) → AllPlaced (length names) fetched → all_noted (names ++ name ∷ []) fetched past ≡ all_noted names fetched past
all_noted_push names name [] past placed = refl
all_noted_push names name (None ∷ fetched) past placed = ap (λ (l : List Fetch). None ∷ l) (all_noted_push names name fetched past placed)
all_noted_push names name (Some p ∷ fetched) past placed = (λ i. Some (name_at_push names name p.0 (omega (arith, placed.0)) i, p.1) ∷ all_noted_push names name fetched past placed.1 i)

pub all_placed_more : (m n : ℕ) (fetched : List (Option (ℕ × Bool))) → m ≤ n → AllPlaced m fetched → AllPlaced n fetched
all_placed_more m n [] le placed = tt
all_placed_more m n (None ∷ fetched) le placed = all_placed_more m n fetched le placed
all_placed_more m n (Some p ∷ fetched) le placed = (omega (arith, placed.0, le), all_placed_more m n fetched le placed.1)

pub all_placed_push : (n : ℕ) (fetched : List (Option (ℕ × Bool))) (e : Option (ℕ × Bool)) → AllPlaced n fetched → AllPlaced n (e ∷ []) → AllPlaced n (fetched ++ e ∷ [])
all_placed_push n [] e placed last = last
all_placed_push n (None ∷ fetched) e placed last = all_placed_push n fetched e placed last
all_placed_push n (Some p ∷ fetched) e placed last = (placed.0, all_placed_push n fetched e placed.1 last)

pub length-all_noted : (names : List (List ℕ)) (fetched : List (Option (ℕ × Bool))) (past : ℕ) → length (all_noted names fetched past) ≡ length fetched + past
length-all_noted names fetched past = omega (arith, length-append (map (noted names) fetched) (replicate past unnoted), length-map fetched (noted names), length-replicate past unnoted)
