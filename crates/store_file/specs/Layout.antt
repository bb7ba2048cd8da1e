-- The layout of a store's file. Offsets and lengths are in bytes; numbers have their highest byte first.
use Rattle.std.specs.Prelude.{◌≡◌, ℕ, ◌+◌, ◌-◌, ◌<◌, List, [], ◌∷◌, ◌++◌, length, replicate}
use Rattle.std.specs.Int.{w16, w32, to_be_bytes}
use Rattle.disk_trait.specs.Disk.{part}
use Rattle.gated_write.specs.Gated.{open_byte}
use Rattle.gated_log.specs.Lane.{no_lane, HasEntries}
use Rattle.catalog_swap.specs.Slots.{odd_slot, even_slot, plain_length}
use Rattle.catalog_swap.specs.Text.{slot_text, first_catalog}
use Rattle.blsm_model.specs.Sizes.{Sizes, IsGeometry}
use Rattle.blsm_model.specs.Geometry.{file_length}

-- the name that a store's file says it has, "BLSM0001", and its format
abbrev pub magic : List ℕ
magic = 66 ∷ 76 ∷ 83 ∷ 77 ∷ 48 ∷ 48 ∷ 48 ∷ 49 ∷ []

abbrev pub format : ℕ
format = 1

-- what the superblock says behind its gate
unfoldable pub superblock_text : Sizes → List ℕ
superblock_text sizes =
    magic ++ to_be_bytes w16 format ++ to_be_bytes w32 sizes.half ++ to_be_bytes w32 sizes.ratio ++ to_be_bytes w32 sizes.low ++ to_be_bytes w32 sizes.quantum

-- what a store's file begins with
abbrev pub superblock : ℕ → Sizes → List ℕ
superblock gate sizes = gate ∷ superblock_text sizes

abbrev pub superblock_length : ℕ
superblock_length = 27

-- The file is a store of these sizes: its superblock says so, with an open gate, and it is as long as they want.
pub record IsStoreOf (sizes : Sizes) (file : List ℕ) : Type 0 where
  pub geometry : IsGeometry sizes
  pub long : length file ≡ file_length sizes
  pub begins : part file 0 superblock_length ≡ superblock open_byte sizes

-- the file is a store
abbrev pub IsStore : List ℕ → Type 0
IsStore file = (sizes : Sizes) × IsStoreOf sizes file

abbrev pub zeros : ℕ → List ℕ
zeros n = replicate n 0

-- the slots are as at making: the first catalogue in that of the odd versions, and nothing in the other
pub record HasFirstSlots (file : List ℕ) : Type 0 where
  pub odd : part file odd_slot plain_length ≡ slot_text first_catalog
  pub even : part file even_slot plain_length ≡ zeros plain_length

-- a store that was just made: no lane has an entry
pub record IsMade (sizes : Sizes) (file : List ℕ) : Type 0 where
  pub store : IsStoreOf sizes file
  pub slots : HasFirstSlots file
  pub lanes : (lane : ℕ) → lane < 3 → HasEntries sizes lane no_lane file

-- The file that making writes, with this gate: zeros, but for the superblock and the first catalogue.
unfoldable pub first_file : ℕ → Sizes → List ℕ
first_file gate sizes =
    superblock gate sizes ++ zeros (odd_slot - superblock_length) ++ slot_text first_catalog ++ zeros (file_length sizes - (odd_slot + plain_length))
