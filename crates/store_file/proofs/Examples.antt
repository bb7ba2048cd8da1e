-- The bytes of the superblock and of the first catalogue of a store of the default geometry, and files that are no store.
use Rattle.std.proofs.Common.{◌≡◌, ℕ, [], ◌∷◌, List, refl, ap, get_or, arith}
use Rattle.gated_write.specs.Gated.{open_byte}
use Rattle.blsm_model.specs.Sizes.{default_sizes}
use Rattle.blsm_model.specs.Geometry.{file_length}
use Rattle.catalog_swap.specs.Text.{slot_text, first_catalog, body_text, numbers_text, component_text}
use Rattle.store_file.specs.Layout.{superblock, superblock_text}

default_superblock : superblock open_byte default_sizes ≡
    0x01 ∷ 0x42 ∷ 0x4c ∷ 0x53 ∷ 0x4d ∷ 0x30 ∷ 0x30 ∷ 0x30 ∷ 0x31 ∷ 0x00 ∷ 0x01 ∷ 0x00 ∷ 0x00 ∷ 0x80 ∷ 0x00 ∷ 0x00 ∷ 0x00 ∷ 0x00 ∷ 0x04 ∷ 0x00 ∷ 0x00 ∷ 0x40 ∷ 0x00 ∷ 0x00 ∷ 0x00 ∷ 0x10 ∷ 0x00 ∷ []
unfolding superblock_text
default_superblock = refl

default_length : file_length default_sizes ≡ 23511040
default_length = refl

-- the gate, version 1, the three lanes, each component's first page, which is none, and no flag
the_first_catalogue : slot_text first_catalog ≡
    0x01 ∷ 0 ∷ 0 ∷ 0 ∷ 0 ∷ 0 ∷ 0 ∷ 0 ∷ 0x01 ∷ 0x00 ∷ 0x01 ∷ 0x02 ∷ 0xff ∷ 0xff ∷ 0xff ∷ 0xff ∷ 0 ∷ 0 ∷ 0 ∷ 0 ∷ 0 ∷ 0 ∷ 0 ∷ 0 ∷ 0 ∷ 0 ∷ 0 ∷ 0 ∷ 0 ∷ 0 ∷ 0 ∷ 0 ∷ 0 ∷ 0 ∷ 0 ∷ 0
    ∷ 0xff ∷ 0xff ∷ 0xff ∷ 0xff ∷ 0 ∷ 0 ∷ 0 ∷ 0 ∷ 0 ∷ 0 ∷ 0 ∷ 0 ∷ 0 ∷ 0 ∷ 0 ∷ 0 ∷ 0 ∷ 0 ∷ 0 ∷ 0 ∷ 0 ∷ 0 ∷ 0 ∷ 0 ∷ 0xff ∷ 0xff ∷ 0xff ∷ 0xff ∷ 0 ∷ 0 ∷ 0 ∷ 0 ∷ 0 ∷ 0 ∷ 0 ∷ 0 ∷ 0 ∷ 0 ∷ 0 ∷ 0 ∷ 0 ∷ 0 ∷ 0 ∷ 0 ∷ 0 ∷ 0 ∷ 0 ∷ 0 ∷ 0 ∷ []
unfolding body_text numbers_text component_text
the_first_catalogue = refl

four_is_not_none : ◌≡◌ {A = ℕ} 4 0 → ⊥
four_is_not_none same = omega arith

-- the ratio's low byte isn't first
numbers_are_big_endian : superblock open_byte default_sizes ≡
    0x01 ∷ 0x42 ∷ 0x4c ∷ 0x53 ∷ 0x4d ∷ 0x30 ∷ 0x30 ∷ 0x30 ∷ 0x31 ∷ 0x00 ∷ 0x01 ∷ 0x00 ∷ 0x00 ∷ 0x80 ∷ 0x00 ∷ 0x04 ∷ 0x00 ∷ 0x00 ∷ 0x00 ∷ 0x00 ∷ 0x00 ∷ 0x40 ∷ 0x00 ∷ 0x00 ∷ 0x00 ∷ 0x10 ∷ 0x00 ∷ [] → ⊥
unfolding superblock_text
numbers_are_big_endian same = four_is_not_none (ap (λ (l : List ℕ). get_or l 18 0) same)
