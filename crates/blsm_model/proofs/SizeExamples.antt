-- The sizes of three geometries, and the numbers of the format that follow from others, worked out.
use Rattle.std.proofs.Common.{◌≡◌, ℕ, ◌+◌, ◌-◌, ◌*◌, List, [], ◌∷◌, refl, false, arith}
use Rattle.blsm_model.specs.Format.{callers, most_key, most_text, overhead, least_weight, most_weight, most_lines, most_entries, least_full}
use Rattle.blsm_model.specs.Sizes.{Sizes, default_sizes}
use Rattle.blsm_model.specs.Geometry.{work_bound, capacity, c1_mark, high_mark, page_count, file_length, c1_way, first_gear, second_gear, charge_limit, page_shares}

abbrev sizes_of : Sizes → List ℕ
sizes_of sizes =
    high_mark sizes ∷ c1_mark sizes ∷ capacity sizes ∷ charge_limit sizes false ∷ c1_way sizes ∷ first_gear sizes ∷ second_gear sizes
    ∷ work_bound sizes 14 ∷ work_bound sizes 512 ∷ page_count sizes ∷ file_length sizes ∷ []

default_are : sizes_of default_sizes ≡ 65536 ∷ 262144 ∷ 1048576 ∷ 1015808 ∷ 229376 ∷ 20 ∷ 6 ∷ 2 ∷ 4 ∷ 5643 ∷ 23511040 ∷ []
default_are = refl

smallest_are : sizes_of (record { half = 17408; ratio = 2; low = 16384; quantum = 4096 }) ≡ 34816 ∷ 69632 ∷ 139264 ∷ 121856 ∷ 52224 ∷ 12 ∷ 4 ∷ 2 ∷ 3 ∷ 798 ∷ 3481600 ∷ []
smallest_are = refl

steepest_are : sizes_of (record { half = 32768; ratio = 8; low = 16384; quantum = 1024 }) ≡ 65536 ∷ 524288 ∷ 4194304 ∷ 4161536 ∷ 491520 ∷ 36 ∷ 10 ∷ 2 ∷ 23 ∷ 22344 ∷ 91918336 ∷ []
steepest_are = refl

-- both parts of the work bound are rounded up
bound_rounded_down : work_bound default_sizes 14 ≡ 0 → ⊥
bound_rounded_down wrong = absurd (omega (arith, wrong))

-- the lightest and the heaviest entry; a full page, whose entries have 4,088 bytes of room; one entry more than lines; the
-- least half spring, twice the heaviest entry of each caller and of one more; the shares of the pages, three besides holds
numbers_follow : least_weight ∷ most_weight ∷ least_full ∷ most_entries ∷ 17408 ∷ page_shares ∷ []
    ≡ (overhead + 1) ∷ (overhead + most_key + most_text) ∷ (4088 + 1 - most_weight) ∷ (most_lines + 1) ∷ (2 * (callers + 1) * most_weight) ∷ (callers + 3) ∷ []
numbers_follow = refl
