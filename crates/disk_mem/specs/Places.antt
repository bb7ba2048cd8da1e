-- Named disks in two lists of one length, and the fetches of a shelf.
use Rattle.std.specs.Prelude.{◌≡◌, ◌≤◌, ℕ, zero, suc, ◌+◌, Bool, true, false, IsTrue, if◌then◌else◌, is_none, Option, Some, None, List, [], ◌∷◌, ◌++◌, map, replicate, bytes_eq, refl}
use Rattle.std.specs.Coded.{×_prop, Unit-prop, le_prop}
use Rattle.disk_trait.specs.Shelf.{Fetch}
use Rattle.disk_mem.specs.Recorded.{Recorded}

-- the name stands first at this place
abbrev pub IsPlace : List ℕ → List (List ℕ) → ℕ → Type 0
IsPlace name [] i = ⊥
IsPlace name (n ∷ names) zero = bytes_eq n name ≡ true
IsPlace name (n ∷ names) (suc i) = (bytes_eq n name ≡ false) × IsPlace name names i

-- it stands nowhere
abbrev pub HasNoPlace : List ℕ → List (List ℕ) → Type 0
HasNoPlace name [] = Unit {0}
HasNoPlace name (n ∷ names) = (bytes_eq n name ≡ false) × HasNoPlace name names

-- the disk that stands under a name
abbrev pub disk_under : List (List ℕ) → List (Option Recorded) → List ℕ → Option Recorded
disk_under [] disks name = None
disk_under (n ∷ names) [] name = None
disk_under (n ∷ names) (d ∷ disks) name = if bytes_eq n name then d else disk_under names disks name

-- the shelf has a place for the name, and no disk stands there
abbrev pub is_out_under : List (List ℕ) → List (Option Recorded) → List ℕ → Bool
is_out_under [] disks name = false
is_out_under (n ∷ names) [] name = false
is_out_under (n ∷ names) (d ∷ disks) name = if bytes_eq n name then is_none d else is_out_under names disks name

-- a fetch by the place of its name, as it is noted
abbrev pub name_at : List (List ℕ) → ℕ → List ℕ
name_at [] i = []
name_at (n ∷ names) zero = n
name_at (n ∷ names) (suc i) = name_at names i

abbrev pub noted : List (List ℕ) → Option (ℕ × Bool) → Fetch
noted names None = None
noted names (Some p) = Some (name_at names p.0, p.1)

-- all of them, with those past the room
abbrev pub all_noted : List (List ℕ) → List (Option (ℕ × Bool)) → ℕ → List Fetch
all_noted names fetched past = map (noted names) fetched ++ replicate past None

-- each fetch that is noted by a place has one
abbrev pub AllPlaced : ℕ → List (Option (ℕ × Bool)) → Type 0
AllPlaced n [] = Unit {0}
AllPlaced n (None ∷ es) = AllPlaced n es
AllPlaced n (Some p ∷ es) = (p.0 + 1 ≤ n) × AllPlaced n es

pub all_placed_prop : (n : ℕ) (es : List (Option (ℕ × Bool))) → IsProp (AllPlaced n es)
all_placed_prop n [] = Unit-prop
all_placed_prop n (None ∷ es) = all_placed_prop n es
all_placed_prop n (Some p ∷ es) = ×_prop le_prop (all_placed_prop n es)

-- No disk stands under a name whose disk is out.
pub out_is_gone : (names : List (List ℕ)) (disks : List (Option Recorded)) (name : List ℕ) → IsTrue (is_out_under names disks name) → disk_under names disks name ≡ None
out_is_gone [] disks name out = refl
out_is_gone (n ∷ names) [] name out = refl
out_is_gone (n ∷ names) (d ∷ disks) name out =
    elim (bytes_eq n name) as (λ b. IsTrue (if b then is_none d else is_out_under names disks name) → (if b then d else disk_under names disks name) ≡ None)
    [ true ↦ elim d as (λ d. IsTrue (is_none d) → d ≡ None) [ None ↦ λ out. refl | Some x ↦ λ out. absurd (cc) ] | false ↦ out_is_gone names disks name ] out
